-- Deleting the contents of a live range leaves of the text of its root what is to be left: of the parts, the closes of the path to the
-- start and the opens of the path to the end. DOM Standard, "Interface Range": delete the contents.
use Rattle.std.proofs.Common.{◌≡◌, ℕ, ◌-◌, ◌<◌, Bool, true, false, List, [], ◌∷◌, ◌++◌, length, take, drop, Option, Some, is_some, refl, ap, sym, ◌∙◌, subst, arith, append_assoc, append-nil, length-append}
use Rattle.std.proofs.lemmas.Bool.Decides.{nat_tests}
use Rattle.dom_model.specs.Definitions.{hits, occurs, children_of, root_of, Point, Range, World, IsSound, IsRange, remove_each, is_collapsed, collapsed_at, range_at, for_range, is_in_one_data, cut_from, cut_up_to, contained_in, contained_tops, contained_children, common_of, new_place, deleted, deleted_between, delete_contents, Token, is_open, root_text, closes_left, opens_left, tail_nodes, head_nodes}
use Rattle.dom_model.proofs.Soundness.SoundDeleting.{one, sound-delete_contents}
use Rattle.dom_model.proofs.RangesAndContents.{DrawnPaths.hits-filter, LiveRangesKept.is_live, LiveRangesKept.live-there, LiveRangesKept.remove_each-live, WaysBelow.IsFork}
use Rattle.dom_model.proofs.TokenText.{EditsMade.EditsOfDrawnContents.sound-range, EditsMade.EditsOfDeletedContents.cut_from-live, EditsMade.EditsOfDeletedContents.cut_up_to-live, EditsMade.EditsOfSteps.range-set, Pieces.TokenLists.opened, Pieces.TokenLists.tally-append, Contents.DeletedUnits.take-front, Contents.DeletedUnits.drop-front, Contents.DeletedInPlace.IsLeft, Contents.DeletedInPlace.collapsed-left, Contents.WithinData.deleted-within, Contents.LeftByText.front_left, Contents.LeftByText.back_left, Contents.LeftByText.left-by_text, Contents.NodesOut.AllGone, Contents.NodesOut.all_gone-within, Contents.NodesOut.all_gone-then, Contents.NodesOut.removed-texts, Contents.PathTokens.nodes_tokens, Contents.PathTokens.tail_tokens, Contents.PathTokens.head_tokens, Contents.PathTokens.start_path, Contents.PathTokens.end_path, Contents.PathTokens.parts_tokens, Contents.PathShapes.front_units, Contents.PathShapes.closes_of, Contents.PathShapes.opens_of, Contents.PathShapes.listed-there, Contents.PathShapes.whole-listed, Contents.PathShapes.closes-tail, Contents.PathShapes.opens-tail, Contents.PathShapes.closes-head, Contents.PathShapes.opens-head, Contents.PathShapes.head_is, Contents.PathShapes.nodes-gone, Contents.CutEnds.end-way, Contents.CutEnds.end-bare, Contents.CutEnds.first-left, Contents.CutEnds.third-left, Contents.BetweenParts.IsParted, Contents.BetweenParts.text-by_parts, Contents.BetweenParts.fork_of, Contents.BetweenParts.tail-some, Contents.PlaceOfContents.opened-some, Contents.PlaceOfContents.opened-root, Contents.PlaceOfContents.root-opened, Contents.PlaceOfContents.place-gap, Contents.TopsByParts.tops-by_parts}

-- the tokens down to an end begin with an open
down-opened : (w : World) (offset n : ℕ) (path : List ℕ) → 0 < opened n (head_tokens w offset (n ∷ path))
down-opened w offset n [] = grind (arith, nat_tests)
down-opened w offset n (c ∷ path) = grind (arith, nat_tests)

module _ (w : World) (sound : IsSound w) (range : Range) (is_range : IsRange w.forest range) (root : ℕ) (rooted : root_of w.forest range.start.node ≡ Some root) (two : is_in_one_data w range ≡ false) where
  fork_here : IsFork w.forest sound.forest.once range.start.node range.end.node (common_of w range)
  fork_here = fork_of w sound range is_range root rooted

  abbrev first : World
  first = cut_from range.start.node range.start.offset w

  abbrev second : World
  second = remove_each (contained_tops w range) (cut_from range.start.node range.start.offset w)

  abbrev third : World
  third = cut_up_to range.end.node range.end.offset (remove_each (contained_tops w range) (cut_from range.start.node range.start.offset w))

  -- The contained nodes go.

  head-gone : AllGone (head_nodes w range.end.offset (end_path w range)) (head_tokens w range.end.offset (end_path w range)) (opens_of (end_path w range) ++ front_units w range.end.offset range.end.node)
  head-gone = go (end_path w range) refl
    where
      go : (path : List ℕ) → end_path w range ≡ path → AllGone (head_nodes w range.end.offset path) (head_tokens w range.end.offset path) (opens_of path ++ front_units w range.end.offset range.end.node)
      go [] e =
          let k = end-bare w sound range is_range root rooted two e in
          rw k refl
      go (c ∷ path) e =
          let way = end-way w sound range is_range root rooted two (c ∷ path) e in
          let hd = head_is w sound range.end.offset c path range.end.node way.2 in
          subst (λ ts. AllGone (head_nodes w range.end.offset (c ∷ path)) ts (opens_of (c ∷ path) ++ front_units w range.end.offset range.end.node)) (sym hd.spelt) hd.gone

  contained-there : (m : ℕ) → 0 < hits m (contained_children w range) → 0 < occurs m w.forest
  contained-there m h = listed-there w sound (common_of w range) m (let i = hits-filter m (contained_in w range) (children_of w.forest (common_of w range)) in omega arith)

  tops-gone : (rest behind : List Token) → AllGone (tail_nodes w range.start.offset (start_path w range)) rest (closes_of (start_path w range)) → AllGone (contained_tops w range) (rest ++ (nodes_tokens w.forest (contained_children w range) ++ (head_tokens w range.end.offset (end_path w range) ++ behind))) (closes_of (start_path w range) ++ ((opens_of (end_path w range) ++ front_units w range.end.offset range.end.node) ++ behind))
  tops-gone rest behind gone =
      let whole = contained_children w range in
      let hs = head_tokens w range.end.offset (end_path w range) in
      let cs = closes_of (start_path w range) in
      let kept = opens_of (end_path w range) ++ front_units w range.end.offset range.end.node in
      let firsts = tail_nodes w range.start.offset (start_path w range) in
      let lasts = head_nodes w range.end.offset (end_path w range) in
      let middle = nodes_tokens w.forest (contained_children w range) ++ (head_tokens w range.end.offset (end_path w range) ++ behind) in
      subst (λ ns. AllGone ns (rest ++ middle) (cs ++ (kept ++ behind))) (sym (tops-by_parts w sound range is_range))
      (all_gone-then firsts (whole ++ lasts) (rest ++ middle) (cs ++ middle) (cs ++ (kept ++ behind))
      (all_gone-within firsts [] rest cs middle gone)
      (all_gone-then whole lasts (cs ++ middle) (cs ++ (hs ++ behind)) (cs ++ (kept ++ behind))
      (all_gone-within whole cs (nodes_tokens w.forest whole) [] (hs ++ behind) (nodes-gone w sound whole contained-there))
      (all_gone-within lasts cs hs kept behind head-gone)))

  -- What the parts leave open.

  parts-close : closes_left 0 (parts_tokens w range) ≡ closes_of (start_path w range)
  parts-close =
      let x = whole-listed w sound (contained_children w range) contained-there in
      let hs = head_tokens w range.end.offset (end_path w range) in
      closes-tail w sound range.start.offset (common_of w range) (start_path w range) range.start.node fork_here.first (nodes_tokens w.forest (contained_children w range) ++ hs)
      ∙ ap (λ ts. closes_of (start_path w range) ++ ts) (x.matches.closes 0 hs ∙ closes-head w sound range.end.offset (common_of w range) (end_path w range) range.end.node 0 fork_here.second)
      ∙ append-nil (closes_of (start_path w range))

  parts-open : opens_left [] (parts_tokens w range) ≡ opens_of (end_path w range)
  parts-open =
      let x = whole-listed w sound (contained_children w range) contained-there in
      let hs = head_tokens w range.end.offset (end_path w range) in
      opens-tail w sound range.start.offset (common_of w range) (start_path w range) range.start.node fork_here.first (nodes_tokens w.forest (contained_children w range) ++ hs)
      ∙ x.matches.opens [] hs
      ∙ opens-head w sound range.end.offset (common_of w range) (end_path w range) range.end.node [] fork_here.second

  module _ (r : ℕ) (h : range_at w r ≡ Some range) where
    parted : IsParted w r root range
    parted = text-by_parts w r root range sound h rooted two

    abbrev ahead : List Token
    ahead = parted.ahead ++ head_tokens w range.start.offset (common_of w range ∷ start_path w range)

    abbrev behind : List Token
    behind = tail_tokens w range.end.offset (common_of w range ∷ end_path w range) ++ parted.behind

    top-opened : 0 < opened (common_of w range) (parted.ahead ++ head_tokens w range.start.offset (common_of w range ∷ start_path w range))
    top-opened =
        let i = down-opened w range.start.offset (common_of w range) (start_path w range) in
        omega (arith, tally-append (is_open (common_of w range)) parted.ahead (head_tokens w range.start.offset (common_of w range ∷ start_path w range)))

    -- the text that is left
    text-left : root_text (deleted_between r range w).forest root ≡ (ahead ++ closes_of (start_path w range)) ++ (opens_of (end_path w range) ++ behind)
    text-left =
        let ns = nodes_tokens w.forest (contained_children w range) in
        let hs = head_tokens w range.end.offset (end_path w range) in
        let start = first-left w sound range is_range root rooted two parted.ahead (ns ++ (hs ++ behind)) (parted.text ∙ (simp append_assoc)) in
        let some = opened-some (common_of w range) ahead top-opened in
        let gone = removed-texts (contained_tops w range) first root ahead (start.rest ++ (ns ++ (hs ++ behind))) (closes_of (start_path w range) ++ ((opens_of (end_path w range) ++ front_units w range.end.offset range.end.node) ++ behind)) (one r range w sound is_range two).sound (root-opened root w.forest ahead (parts_tokens w range ++ behind) parted.text some) start.text (tops-gone start.rest behind start.gone) in
        third-left w sound range is_range root rooted two (ahead ++ closes_of (start_path w range)) parted.behind r (gone ∙ sym (append_assoc ahead (closes_of (start_path w range)) ((opens_of (end_path w range) ++ front_units w range.end.offset range.end.node) ++ behind)))

    inside : take (parted.parts.b - parted.parts.a) (drop parted.parts.a (root_text w.forest root)) ≡ parts_tokens w range
    inside = sym parted.parts.inside ∙ parted.between_is

    front-is : front_left w r root range parted.parts ≡ ahead ++ closes_of (start_path w range)
    front-is = cc (parted.starts, parted.text, take-front ahead (parts_tokens w range ++ behind), inside, parts-close)

    back-is : back_left w r root range parted.parts ≡ opens_of (end_path w range) ++ behind
    back-is = cc (parted.ends, parted.text, append_assoc ahead (parts_tokens w range) behind, drop-front (ahead ++ parts_tokens w range) behind, inside, parts-open)

    pub range-left : range_at (deleted_between r range w) r ≡ Some (collapsed_at (new_place w.forest range))
    range-left =
        let live : is_live r third ≡ true =
        cut_up_to-live r range.end.node range.end.offset second ∙ remove_each-live r (contained_tops w range) first ∙ cut_from-live r range.start.node range.start.offset w ∙ ap is_some h in
        let old = live-there r third live in
        range-set third r old.0 (collapsed_at (new_place w.forest range)) old.1

    top-left : 0 < opened (common_of w range) (root_text (deleted_between r range w).forest root)
    top-left =
        let i = ap (opened (common_of w range)) text-left in
        let j = tally-append (is_open (common_of w range)) (ahead ++ closes_of (start_path w range)) (opens_of (end_path w range) ++ behind) in
        omega (arith, tally-append (is_open (common_of w range)) ahead (closes_of (start_path w range)), top-opened)

    whole-left : root_text (deleted_between r range w).forest root ≡ front_left w r root range parted.parts ++ back_left w r root range parted.parts
    whole-left = cc (text-left, front-is, back-is)

    pub between-left : IsSound (deleted_between r range w) → IsLeft r root w (deleted_between r range w)
    between-left s =
        let rest = opens_of (end_path w range) ++ behind in
        let some : 0 < length rest = omega (arith, tail-some w sound range is_range root rooted range.end.offset (end_path w range) range.end.node fork_here.second parted.behind, length-append (opens_of (end_path w range)) behind) in
        let g = place-gap w sound range is_range root rooted parted.ahead (parts_tokens w range ++ behind) rest parted.text some in
        left-by_text w (deleted_between r range w) r root range (new_place w.forest range) parted.parts s range-left
        (ap (λ (p : Point). root_of (deleted_between r range w).forest p.node) g.2 ∙ ap (root_of (deleted_between r range w).forest) g.3 ∙ opened-root (deleted_between r range w) root (common_of w range) s top-left)
        whole-left (cc (g.2, g.4, text-left, front-is))

-- delete contents
pub deleted-left : (w : World) (r root : ℕ) (range : Range) → IsSound w → range_at w r ≡ Some range → root_of w.forest range.start.node ≡ Some root → IsLeft r root w (delete_contents r w)
deleted-left w r root range sound h rooted = go (is_collapsed range) (is_in_one_data w range) refl refl
  where
    go : (c v : Bool) → is_collapsed range ≡ c → is_in_one_data w range ≡ v → IsLeft r root w (delete_contents r w)
    go true v e d = collapsed-left w r root range sound h rooted e
    go false true e d = deleted-within w r root range sound h rooted e d
    go false false e d =
        let gives : delete_contents r w ≡ deleted_between r range w = ap (λ (o : Option Range). for_range o w (λ x. deleted r x w)) h ∙ (rw (e, d) refl) in
        let s = subst IsSound gives (sound-delete_contents r w sound) in
        subst (IsLeft r root w) (sym gives) (between-left w sound range (sound-range w r range sound h) root rooted d r h s)
