-- What lies between the markers of a live range, by parts: from its start to the end of the first partially contained child, the contained
-- children, and from the start of the last partially contained child to its end. DOM Standard, "Interface Range".
use Rattle.std.proofs.Common.{◌≡◌, ℕ, suc, ◌+◌, ◌-◌, ◌<◌, ◌≤◌, true, false, List, [], ◌∷◌, ◌++◌, length, take, Some, None, refl, ap, sym, ◌∙◌, subst, arith, append_assoc, append-nil, length-append, inl, inr, eq-eqb}
use Rattle.std.proofs.lemmas.{List.length-take-le, Bool.cond_both}
use Rattle.dom_model.specs.Definitions.{is_character_data, is_kind, Forest, empty, node, occurs, entry_in, children_of, root_of, node_length, unit_count, Content, Point, Range, World, IsSound, IsRange, IsBoundary, up_to, kind_passes, data_of, is_collapsed, range_at, is_in_one_data, common_of, contained_children, Token, Open, Close, is_open, no_marks, unit_tokens, token_texts, tokens_among, texts_of, text_among, root_text, tokens_ahead, between, IsWay, Childless}
use Rattle.dom_model.specs.declared.{Kind.Kind, Kind.TheVariants.DocumentType}
use Rattle.dom_model.proofs.Forests.{Entries.occurs-HasNode, WaysMeeting.above-root, Changes.seen, Changes.nothing, Changes.just}
use Rattle.dom_model.proofs.RangesAndContents.{WaysBelow.IsFork, WaysBelow.way-above, ContainedChildren.ahead_in, ContainedChildren.through_in, ContainedChildren.forked, ContainedChildren.contained-between}
use Rattle.dom_model.proofs.TokenText.{EditsMade.EditsOfDrawnContents.sound-range, AlikeTrees.TreesAlike.top_of, Pieces.TokenLists.opened, Pieces.TokenLists.tally-append, Pieces.TextParts.inside, Pieces.TextContexts.with_root-itself, Pieces.TextContexts.around_texts, Contents.DeletedUnits.among-changed, Contents.DeletedUnits.data-long, Contents.RangeText.EndsAhead, Contents.RangeText.ends_ahead, Contents.RangeText.once-opened, Contents.PartsByGaps.Parts, Contents.PartsByGaps.parts-by_gaps, Contents.WholePieces.Whole, Contents.WholePieces.whole-units, Contents.WholePieces.gap-behind, Contents.WholePieces.nodes-append, Contents.WholePieces.tokens-own, Contents.PathTokens.nodes_tokens, Contents.PathTokens.tail_tokens, Contents.PathTokens.head_tokens, Contents.PathTokens.start_path, Contents.PathTokens.end_path, Contents.PathTokens.parts_tokens, Contents.PathShapes.front_tokens, Contents.PathShapes.back_tokens, Contents.PathShapes.childless, Contents.PathShapes.taken-there, Contents.PathShapes.whole-listed, Contents.PathShapes.holder-no_data, Contents.PathShapes.tokens-parted, Contents.PathShapes.head_is, Contents.PathShapes.tail_is, Contents.LeafPlaces.opened-around, Contents.DeletedUnits.among-found, Contents.RangeText.opened-tree, Contents.DeletedUnits.middle-of}

-- A node's own tokens in the text of its root.

pub record NodeThere (f : Forest Content) (root n : ℕ) : Type 0 where
  pub ahead : List Token
  pub behind : List Token
  pub is : root_text f root ≡ ahead ++ (tokens_among n (token_texts no_marks f) ++ behind)

pub node-there : (f : Forest Content) (root n : ℕ) → ((m : ℕ) → occurs m f ≤ 1) → Childless f → 0 < occurs n f → 0 < opened n (root_text f root) → NodeThere f root n
node-there f root n once alone h there =
    let t = top_of None n f once h in
    let a = around_texts no_marks n (node t.top t.kids empty) f once alone h t.at in
    let tokens : tokens_among n (token_texts no_marks f) ≡ Open n ∷ (inside no_marks t.top t.kids ++ (Close ∷ [])) = tokens-own f once alone n t ∙ ap (λ m. Open m ∷ (inside no_marks t.top t.kids ++ (Close ∷ []))) t.named in
    let whole : token_texts no_marks f ≡ a.above ++ ((a.ahead ++ (Open n ∷ (inside no_marks t.top t.kids ++ (Close ∷ a.behind)))) ∷ a.below) =
    ap (token_texts no_marks) (sym (with_root-itself n t.top t.kids f once t.at)) ∙ a.spelt no_marks t.top t.kids t.named (λ q z. refl)
    in
    record {
      ahead = a.ahead;
      behind = a.behind;
      is = found a.above a.ahead (inside no_marks t.top t.kids) a.behind a.below whole
          ∙ ap (λ ts. a.ahead ++ (Open n ∷ ts)) (sym (append_assoc (inside no_marks t.top t.kids) (Close ∷ []) a.behind))
          ∙ ap (λ ts. a.ahead ++ (ts ++ a.behind)) (sym tokens);
    }
  where
    found : (above : List (List Token)) (ahead inner behind : List Token) (below : List (List Token)) → token_texts no_marks f ≡ above ++ ((ahead ++ (Open n ∷ (inner ++ (Close ∷ behind)))) ∷ below) → root_text f root ≡ ahead ++ (Open n ∷ (inner ++ (Close ∷ behind)))
    found above ahead inner behind below e =
        let text = ahead ++ (Open n ∷ (inner ++ (Close ∷ behind))) in
        elim (among-changed (is_open n) root above text text below refl) [
          | inl i ↦ ap (text_among root) e ∙ i.0
          | inr k ↦ absurd (among-found f root n once alone there above ahead (inner ++ (Close ∷ behind)) below e k)
        ]

-- what a range's parts make of the text of its root
pub record IsParted (w : World) (r root : ℕ) (range : Range) : Type 0 where
  pub parts : Parts w r root range
  -- what is ahead of the common ancestor's own tokens and behind them
  pub ahead : List Token
  pub behind : List Token
  pub text : root_text w.forest root ≡ (ahead ++ head_tokens w range.start.offset (common_of w range ∷ start_path w range)) ++ (parts_tokens w range ++ (tail_tokens w range.end.offset (common_of w range ∷ end_path w range) ++ behind))
  pub starts : parts.a ≡ length (ahead ++ head_tokens w range.start.offset (common_of w range ∷ start_path w range))
  pub ends : parts.b ≡ length ((ahead ++ head_tokens w range.start.offset (common_of w range ∷ start_path w range)) ++ parts_tokens w range)
  pub between_is : between r (text_among root (texts_of w)) ≡ parts_tokens w range

module _ (w : World) (sound : IsSound w) (range : Range) (is_range : IsRange w.forest range) (root : ℕ) (rooted : root_of w.forest range.start.node ≡ Some root) where
  abbrev pub top : ℕ
  top = common_of w range

  pub fork_of : IsFork w.forest sound.forest.once range.start.node range.end.node (common_of w range)
  fork_of = forked (record { forest = w.forest; made = w.made }) sound.forest range is_range

  pub start-there : 0 < occurs range.start.node w.forest
  start-there = occurs-HasNode w.forest range.start.node is_range.starts.there

  pub top-rooted : root_of w.forest (common_of w range) ≡ Some root
  top-rooted =
      above-root w.forest sound.forest.once (common_of w range) range.start.node start-there fork_of.there
      (way-above w.forest sound.forest.once (common_of w range) (start_path w range) range.start.node fork_of.there start-there fork_of.first)
      ∙ rooted

  ends_there : EndsAhead w range root
  ends_there = ends_ahead w sound range is_range root rooted

  -- a node of the root is opened in its text
  pub opened-there : (n : ℕ) → root_of w.forest n ≡ Some root → 0 < opened n (root_text w.forest root)
  opened-there n h = let e = opened-tree w sound range is_range root rooted ends_there n in let k = ends_there.tree.within n h in omega arith

  top_there : NodeThere w.forest root (common_of w range)
  top_there = node-there w.forest root (common_of w range) sound.forest.once (childless w sound) fork_of.there (opened-there (common_of w range) top-rooted)

  module _ (two : is_in_one_data w range ≡ false) where
    -- an ancestor that an end stands in has no data
    no_data-way : (path : List ℕ) (n : ℕ) → IsWay w.forest (common_of w range) path n → (common_of w range ≡ n → kind_passes is_character_data w.forest (common_of w range) ≡ false) → kind_passes is_character_data w.forest (common_of w range) ≡ false
    no_data-way [] n way h = h way
    no_data-way (c ∷ path) n way h = holder-no_data w sound c (common_of w range) way.0 way.1

    bare-start : common_of w range ≡ range.start.node → kind_passes is_character_data w.forest (common_of w range) ≡ false
    bare-start at =
        no_data-way (end_path w range) range.end.node fork_of.second (λ other.
        let k = rw (eq-eqb range.start.node range.end.node (sym at ∙ other)) at two in
        ap (kind_passes is_character_data w.forest) at ∙ k)

    pub top-no_data_start : start_path w range ≡ [] → kind_passes is_character_data w.forest (common_of w range) ≡ false
    top-no_data_start e = bare-start (subst (λ path. IsWay w.forest (common_of w range) path range.start.node) e fork_of.first)

    pub top-no_data_end : end_path w range ≡ [] → kind_passes is_character_data w.forest (common_of w range) ≡ false
    top-no_data_end e = no_data-way (start_path w range) range.start.node fork_of.first bare-start

    -- the tokens from the common ancestor's open down to an end
    down : (offset : ℕ) (path : List ℕ) → (path ≡ [] → kind_passes is_character_data w.forest (common_of w range) ≡ false) → head_tokens w offset (common_of w range ∷ path) ≡ Open (common_of w range) ∷ (nodes_tokens w.forest (ahead_in offset path (children_of w.forest (common_of w range))) ++ head_tokens w offset path)
    down offset [] h =
        let k = h refl in
        rw k (ap (λ ts. Open (common_of w range) ∷ ts) (sym (append-nil (nodes_tokens w.forest (take offset (children_of w.forest (common_of w range)))))))
    down offset (c ∷ path) h = refl

    through : (offset : ℕ) (path : List ℕ) (n : ℕ) → IsWay w.forest (common_of w range) path n → nodes_tokens w.forest (through_in offset path (children_of w.forest (common_of w range))) ≡ nodes_tokens w.forest (ahead_in offset path (children_of w.forest (common_of w range))) ++ (head_tokens w offset path ++ tail_tokens w offset path)
    through offset [] n way = sym (append-nil (nodes_tokens w.forest (take offset (children_of w.forest (common_of w range)))))
    through offset (c ∷ path) n way =
        nodes-append w.forest (up_to c (children_of w.forest (common_of w range))) (c ∷ [])
        ∙ ap (λ ts. nodes_tokens w.forest (up_to c (children_of w.forest (common_of w range))) ++ ts)
        (append-nil (tokens_among c (token_texts no_marks w.forest)) ∙ tokens-parted w sound offset c path n way.0 way.2)

    -- the tokens down to the end are those down to the start, and the parts
    pub down-parted : head_tokens w range.end.offset (common_of w range ∷ end_path w range) ≡ head_tokens w range.start.offset (common_of w range ∷ start_path w range) ++ parts_tokens w range
    down-parted =
        let cs = children_of w.forest (common_of w range) in
        let whole = contained_children w range in
        let es = head_tokens w range.end.offset (end_path w range) in
        let listed = contained-between (record { forest = w.forest; made = w.made }) sound.forest range is_range in
        let parted = nodes-append w.forest (through_in range.start.offset (start_path w range) cs) whole in
        let ahead = through range.start.offset (start_path w range) range.start.node fork_of.first in
        down range.end.offset (end_path w range) top-no_data_end
        ∙ (rw (listed, parted, ahead, down range.start.offset (start_path w range) top-no_data_start) (simp append_assoc))

  -- Where the gaps of the ends stand.

  pub data-fits : (p : Point) → IsBoundary w.forest p → kind_passes is_character_data w.forest p.node ≡ true → p.offset ≤ length (data_of w p.node)
  data-fits p b k = let l = b.within in let d = data-long w p.node k in omega arith

  children-fit : (p : Point) → IsBoundary w.forest p → kind_passes is_character_data w.forest p.node ≡ false → p.offset ≤ length (children_of w.forest p.node)
  children-fit p b k =
      let l = b.within in
      elim (seen (entry_in w.forest p.node)) [
        | nothing e ↦ let z : node_length unit_count w.forest p.node ≡ 0 = rw e refl in omega arith
        | just x e ↦
            let i : is_kind x.value.label.kind DocumentType ≡ false = turned x.value.label.kind (rw e at b.kind) in
            let j : is_character_data x.value.label.kind ≡ false = rw e at k in
            let d : node_length unit_count w.forest p.node ≡ length (children_of w.forest p.node) = rw e (rw (i, j) refl) in
            omega arith
      ]
    where
      turned : (k : Kind) → is_kind DocumentType k ≡ false → is_kind k DocumentType ≡ false
      turned k h = grind arith

  -- as many nodes or units as the offset tells
  pub whole-ahead : (p : Point) → IsBoundary w.forest p → Whole p.offset (front_tokens w p.offset p.node)
  whole-ahead p b =
      cond_both (kind_passes is_character_data w.forest p.node) _ _ (Whole p.offset)
      (λ k. subst (λ l. Whole l (unit_tokens no_marks p.node 0 (take p.offset (data_of w p.node)))) (length-take-le p.offset (data_of w p.node) (data-fits p b k)) (whole-units p.node 0 (take p.offset (data_of w p.node))))
      (λ k. subst (λ l. Whole l (nodes_tokens w.forest (take p.offset (children_of w.forest p.node)))) (length-take-le p.offset (children_of w.forest p.node) (children-fit p b k)) (whole-listed w sound (take p.offset (children_of w.forest p.node)) (taken-there w sound p.node p.offset)))

  -- in a text that opens a node once
  pub unopened : (n : ℕ) (ts us : List Token) → opened n (ts ++ (Open n ∷ us)) ≤ 1 → (opened n ts ≡ 0) × (opened n us ≡ 0)
  unopened n ts us h = let sum = opened-around n ts us in ((omega arith), (omega arith))

  -- the gap of an end that a path leads to, in any text that has the same tokens ahead of it
  pub head-gap : (p : Point) (path : List ℕ) → IsBoundary w.forest p → IsWay w.forest (common_of w range) path p.node → (ahead rest : List Token) → 0 < length rest → opened p.node (ahead ++ head_tokens w p.offset (common_of w range ∷ path)) ≤ 1 → tokens_ahead p [] ((ahead ++ head_tokens w p.offset (common_of w range ∷ path)) ++ rest) ≡ Some (length (ahead ++ head_tokens w p.offset (common_of w range ∷ path)))
  head-gap p path b way ahead rest some once =
      let h = head_is w sound p.offset (common_of w range) path p.node way in
      let front = front_tokens w p.offset p.node in
      let whole : ahead ++ head_tokens w p.offset (common_of w range ∷ path) ≡ (ahead ++ h.pre) ++ (Open p.node ∷ front) = ap (λ ts. ahead ++ ts) h.spelt ∙ sym (append_assoc ahead h.pre (Open p.node ∷ front)) in
      let free = unopened p.node (ahead ++ h.pre) front (subst (λ ts. opened p.node ts ≤ 1) whole once) in
      let far : length (ahead ++ h.pre) + suc (length front) ≡ length (ahead ++ head_tokens w p.offset (common_of w range ∷ path)) = sym (length-append (ahead ++ h.pre) (Open p.node ∷ front)) ∙ ap (λ ts. length ts) (sym whole) in
      cc (append_assoc (ahead ++ h.pre) (Open p.node ∷ front) rest, gap-behind (ahead ++ h.pre) p.node p.offset front rest (whole-ahead p b) some free.0 free.1)

  -- what is behind an end is not empty
  pub tail-some : (offset : ℕ) (path : List ℕ) (n : ℕ) → IsWay w.forest (common_of w range) path n → (behind : List Token) → 0 < length (tail_tokens w offset (common_of w range ∷ path) ++ behind)
  tail-some offset path n way behind =
      let t = tail_is w sound offset (common_of w range) path n way in
      let a = length-append (tail_tokens w offset (common_of w range ∷ path)) behind in
      omega (arith, ap (λ (us : List Token). length us) t.spelt ∙ length-append (back_tokens w offset n) (Close ∷ t.post))

  -- no node is opened twice ahead of a part of the text
  pub once-ahead : (n : ℕ) (ts us : List Token) → root_text w.forest root ≡ ts ++ us → opened n ts ≤ 1
  once-ahead n ts us e = omega (arith, once-opened w sound range is_range root rooted ends_there n, ap (opened n) e ∙ tally-append (is_open n) ts us)

  end-gap : (p : Point) (path : List ℕ) → IsBoundary w.forest p → IsWay w.forest (common_of w range) path p.node → (ahead behind : List Token) → root_text w.forest root ≡ ahead ++ ((head_tokens w p.offset (common_of w range ∷ path) ++ tail_tokens w p.offset (common_of w range ∷ path)) ++ behind) → tokens_ahead p [] (root_text w.forest root) ≡ Some (length (ahead ++ head_tokens w p.offset (common_of w range ∷ path)))
  end-gap p path b way ahead behind text =
      let hs = head_tokens w p.offset (common_of w range ∷ path) in
      let rest = tail_tokens w p.offset (common_of w range ∷ path) ++ behind in
      let whole : root_text w.forest root ≡ (ahead ++ hs) ++ rest = text ∙ (simp append_assoc) in
      ap (tokens_ahead p []) whole
      ∙ head-gap p path b way ahead rest (tail-some p.offset path p.node way behind) (once-ahead p.node (ahead ++ hs) rest whole)

  -- The text by parts.

  module _ (two : is_in_one_data w range ≡ false) (r : ℕ) (h : range_at w r ≡ Some range) where
    abbrev start_head : List Token
    start_head = head_tokens w range.start.offset (common_of w range ∷ start_path w range)

    abbrev end_head : List Token
    end_head = head_tokens w range.end.offset (common_of w range ∷ end_path w range)

    abbrev end_tail : List Token
    end_tail = tail_tokens w range.end.offset (common_of w range ∷ end_path w range)

    gaps : Parts w r root range
    gaps = parts-by_gaps w r root range sound h rooted

    by_start : root_text w.forest root ≡ top_there.ahead ++ ((start_head ++ tail_tokens w range.start.offset (common_of w range ∷ start_path w range)) ++ top_there.behind)
    by_start = top_there.is ∙ ap (λ ts. top_there.ahead ++ (ts ++ top_there.behind)) (tokens-parted w sound range.start.offset (common_of w range) (start_path w range) range.start.node fork_of.there fork_of.first)

    by_end : root_text w.forest root ≡ top_there.ahead ++ ((end_head ++ end_tail) ++ top_there.behind)
    by_end = top_there.is ∙ ap (λ ts. top_there.ahead ++ (ts ++ top_there.behind)) (tokens-parted w sound range.end.offset (common_of w range) (end_path w range) range.end.node fork_of.there fork_of.second)

    whole-text : root_text w.forest root ≡ (top_there.ahead ++ start_head) ++ (parts_tokens w range ++ (end_tail ++ top_there.behind))
    whole-text =
        by_end
        ∙ ap (λ ts. top_there.ahead ++ ((ts ++ end_tail) ++ top_there.behind)) (down-parted two)
        ∙ (simp append_assoc)

    starts-at : gaps.a ≡ length (top_there.ahead ++ start_head)
    starts-at = cc (gaps.starts, end-gap range.start (start_path w range) is_range.starts fork_of.first top_there.ahead top_there.behind by_start)

    ends-at : gaps.b ≡ length ((top_there.ahead ++ start_head) ++ parts_tokens w range)
    ends-at =
        let d : gaps.b ≡ length (top_there.ahead ++ end_head) = cc (gaps.ends, end-gap range.end (end_path w range) is_range.ends fork_of.second top_there.ahead top_there.behind by_end) in
        cc (d, down-parted two, append_assoc top_there.ahead start_head (parts_tokens w range))

    pub is_parted : IsParted w r root range
    is_parted =
        let long = length-append (top_there.ahead ++ start_head) (parts_tokens w range) in
        record {
          parts = gaps;
          ahead = top_there.ahead;
          behind = top_there.behind;
          text = whole-text;
          starts = starts-at;
          ends = ends-at;
          between_is = gaps.inside
              ∙ middle-of (top_there.ahead ++ start_head) (parts_tokens w range) (end_tail ++ top_there.behind) (root_text w.forest root) gaps.a gaps.b whole-text starts-at (ends-at ∙ long);
        }

-- the text of a root by the parts of a range that is not within one node with data
pub text-by_parts : (w : World) (r root : ℕ) (range : Range) → IsSound w → range_at w r ≡ Some range → root_of w.forest range.start.node ≡ Some root → is_in_one_data w range ≡ false → IsParted w r root range
text-by_parts w r root range sound h rooted two = is_parted w sound range (sound-range w r range sound h) root rooted two r h

-- what lies between the markers
pub between-parts : (w : World) (r root : ℕ) (range : Range) → IsSound w → range_at w r ≡ Some range → root_of w.forest range.start.node ≡ Some root → is_collapsed range ≡ false → is_in_one_data w range ≡ false → between r (text_among root (texts_of w)) ≡ parts_tokens w range
between-parts w r root range sound h rooted wide two = (text-by_parts w r root range sound h rooted two).between_is
