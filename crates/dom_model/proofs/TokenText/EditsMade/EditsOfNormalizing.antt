-- The edits of normalize leave what normalize leaves: each Text that follows is merged by itself, where the standard joins all data, then moves
-- all ends, then removes all Texts. DOM Standard, "Interface Node": normalize.
use Rattle.std.proofs.Common.{◌≡◌, ℕ, ◌+◌, ◌<◌, ◌≤◌, ◌==◌, Bool, true, false, if◌then◌else◌, List, [], ◌∷◌, ◌++◌, drop, length, Option, Some, None, refl, ap, sym, ◌∙◌, subst, arith, append_assoc, append-nil, length-append}
use Rattle.std.proofs.lemmas.{Bool.le-ltb, List.take_all, List.drop_all, Bool.eq-eqb, Bool.ne_eqb}
use Rattle.dom_model.specs.Definitions.{hits, is_kind, is_character_data, Forest, occurs, cut, with_node, entry_in, parent_of, index_of, inclusive_descendants, spliced, Content, Point, Range, World, after_splice, after_merge, after_removal, map_ranges, is_of_kind, unit_count, node_length, removed_from, remove, end_of, data_of, with_data, following_texts, joined_data, merge_ends, remove_each, join_following, normalize_text, is_descendant, text_descendants, normalize_each, normalize, Merge, merge_from, on_world, remove_edits, merges, normalize_text_edits, normalize_each_edits, normalize_edits, IsBoundary, IsRange, IsSound, Lives, AreUpTo, AreJoinable, IsPoint, IsReady, Fits, fits_merge}
use Rattle.dom_model.specs.declared.Kind.TheVariants.{Text}
use Rattle.dom_model.proofs.PlainLists.Numbers.{same_or, same, apart}
use Rattle.dom_model.proofs.Forests.{Climbing.hits-append, Climbing.hits-first, Entries.occurs-HasNode, Changes.seen, Changes.nothing, Changes.just}
use Rattle.dom_model.proofs.DataAndCopies.ChangedNodes.{cut-with_node, data-twice, data-same}
use Rattle.dom_model.proofs.Worlds.{SameShape.IsAlike, SameShape.with_node-alike, SameShape.occurs-alike, SameShape.parent-alike, SameShape.kind-alike, SameShape.index-alike, SameShape.inside-alike, Measured.entry-with_node}
use Rattle.dom_model.proofs.Soundness.{SoundForests.entry_there, SoundWorlds.each-kept, SoundData.length-data, SoundData.length-other, SoundSplitting.text_has_data, SoundJoining.lives-both, SoundJoining.first_in, SoundJoining.t_apart, SoundJoining.index_first, SoundJoining.text_first, SoundJoining.is_child, SoundJoining.is_there, SoundJoining.merged_is, SoundJoining.content_left, SoundJoining.joinable_left, SoundJoining.in_either_order, SoundJoining.further, SoundJoining.moved, SoundJoining.left, SoundNormalizing.kept-one, SoundNormalizing.below_parent, SoundNormalizing.base, SoundNormalizing.count, SoundNormalizing.joint, SoundNormalizing.joinable, SoundNormalizing.no_count, SoundNormalizing.others, SoundNormalizing.joined-same, SoundNormalizing.filter-passed}
use Rattle.dom_model.proofs.TokenText.{EditsMade.FittingEdits.ready-lives, EditsMade.EditsLeave.laid, EditsMade.EditsLeave.Leave, EditsMade.EditsLeave.leave-none, EditsMade.EditsLeave.leave-edit, EditsMade.EditsLeave.leave-then, EditsMade.EditsLeave.leave-alike, EditsMade.EditsOfSteps.leave-remove, EditsMade.EditsOfInsertions.lives-stay}

-- units that are put at the end
spliced-end : (units more : List ℕ) → spliced (length units) 0 more units ≡ units ++ more
spliced-end units more = rw (take_all (length units) units (omega arith), drop_all (length units + 0) units (omega arith)) (append-nil (units ++ more))

-- the world with other data in a Text
abbrev with_text_of : ℕ → List ℕ → World → World
with_text_of t units v = record v { forest = with_node t (with_data units) v.forest }

data-itself : (t : ℕ) (units : List ℕ) (v : World) → 0 < occurs t v.forest → data_of (with_text_of t units v) t ≡ units
data-itself t units v h =
    let e = entry_there v.forest t h in
    rw (entry-with_node (with_data units) (λ x. refl) t t None v.forest, data_of) (rw (e.1, eq-eqb t t refl) refl)

data-other : (t : ℕ) (units : List ℕ) (v : World) (m : ℕ) → (m ≡ t → ⊥) → data_of (with_text_of t units v) m ≡ data_of v m
data-other t units v m ne =
    rw (entry-with_node (with_data units) (λ x. refl) t m None v.forest, data_of)
    (elim (seen (entry_in v.forest m)) [ nothing e ↦ rw (data_of, e) refl | just a e ↦ rw (data_of, e, ne_eqb m t ne) refl ])

-- units that come in behind all ends move none
up_to-stays : (t base count : ℕ) (rs : List (Option Range)) → Lives (AreUpTo t base) rs → map_ranges (after_splice t base 0 count) rs ≡ rs
up_to-stays t base count rs h = lives-stay (AreUpTo t base) (after_splice t base 0 count) (λ r k. rw (stays r.start k.0, stays r.end k.1) refl) rs h
  where
    stays : (q : Point) → (q.node ≡ t → q.offset ≤ base) → after_splice t base 0 count q ≡ q
    stays q k =
        elim (same_or q.node t) [
          | same e u ↦ rw (u, le-ltb base q.offset (k e)) refl
          | apart ne u ↦ rw u refl
        ]

-- One merge.

module _ (v : World) (t p first : ℕ) (ts units : List ℕ) (j : AreJoinable v t p (length units) (first ∷ ts)) where
  abbrev more : List ℕ
  more = data_of v first

  abbrev before : World
  before = with_text_of t units v

  -- and by the forest with the joined data
  abbrev left_world : Forest Content → List (Option Range) → World
  left_world g rs = record v { forest = cut first g; ranges = map_ranges (after_removal (inclusive_descendants g first) p (index_of g first)) (map_ranges (after_merge first t (length units) p (index_of v.forest first)) rs) }

  t_there : 0 < occurs t v.forest
  t_there = is_there v t p (length units) first ts j t (hits-first t (first ∷ (ts ++ j.behind)))

  first_apart : first ≡ t → ⊥
  first_apart e = t_apart v t p (length units) first ts j (sym e)

  par_first : parent_of v.forest first ≡ Some p
  par_first = is_child v t p (length units) first ts j first (first_in v t p (length units) first ts j)

  edit-left : laid (on_world (Merge t first) before) ≡ laid (left_world (with_node t (with_data (units ++ more)) v.forest) v.ranges)
  edit-left =
      let a = with_node-alike (with_data units) (λ x. refl) t v.forest in
      let own = data-itself t units v t_there in
      let added = data-other t units v first first_apart in
      ap (λ o. laid (merge_from t first o before)) (parent-alike a first ∙ par_first)
      ∙ (rw (own, added, index-alike a first, spliced-end units more, data-twice t (units ++ more) units v.forest, up_to-stays t (length units) (length more) v.ranges j.up_to) refl)

  abbrev after : World
  after = left v t p (length units) first ts j

  step-left : laid (left_world (with_node t (with_data (units ++ more)) v.forest) v.ranges) ≡ laid (with_text_of t (units ++ more) after)
  step-left =
      let g = with_node t (with_data (units ++ more)) v.forest in
      let a = with_node-alike (with_data (units ++ more)) (λ x. refl) t v.forest in
      let merged = map_ranges (after_merge first t (length units) p (index_of v.forest first)) v.ranges in
      ap (λ ns. laid (record v { forest = cut first g; ranges = map_ranges (after_removal ns p (index_of g first)) merged })) (inside-alike a first)
      ∙ ap (λ i. laid (record v { forest = cut first g; ranges = map_ranges (after_removal (inclusive_descendants v.forest first) p i) merged })) (index-alike a first)
      ∙ ap (λ f. laid (record v { forest = f; ranges = map_ranges (after_removal (inclusive_descendants v.forest first) p (index_of v.forest first)) merged })) (cut-with_node t (with_data (units ++ more)) (λ x. refl) first v.forest)
      ∙ sym (ap (λ o. laid (with_text_of t (units ++ more) (removed_from false first o (moved v t p (length units) first ts j)))) par_first)

  -- the world with the Text's own data alone
  before_alike : IsAlike v.forest before.forest
  before_alike = with_node-alike (with_data units) (λ x. refl) t v.forest

  length-own : node_length unit_count before.forest t ≡ length units
  length-own = length-data before.forest t (kind-alike before_alike is_character_data t ∙ text_has_data v t j.text) ∙ ap length (data-itself t units v t_there)

  before_point : (q : Point) → IsBoundary v.forest q → (q.node ≡ t → q.offset ≤ length units) → IsPoint before q
  before_point q b up =
      record {
        there = subst (λ x. 0 < x) (sym (occurs-alike before_alike q.node)) (occurs-HasNode v.forest q.node b.there);
        within = elim (same_or q.node t) [
          | same e u ↦ (let a : node_length unit_count before.forest q.node ≡ node_length unit_count before.forest t = ap (node_length unit_count before.forest) e in let l = length-own in let i = up e in omega arith)
          | apart ne u ↦ (let l = length-other (with_data units) (λ x. refl) t v j.sound q.node u in let i = b.within in omega arith)
        ];
      }

  before_ready : IsReady before
  before_ready =
      ready-lives (λ r. IsRange v.forest r × AreUpTo t (length units) r) before (λ n. subst (λ k. k ≤ 1) (sym (occurs-alike before_alike n)) (j.sound.forest.once n))
      (lives-both (IsRange v.forest) (AreUpTo t (length units)) (λ r. IsRange v.forest r × AreUpTo t (length units) r) (λ r a b. (a, b)) v.ranges j.sound.ranges j.up_to)
      each
    where
      each : (side : Bool) (range : Range) → IsRange v.forest range × AreUpTo t (length units) range → IsPoint before (end_of side range)
      each true range h = before_point range.start h.0.starts h.1.0
      each false range h = before_point range.end h.0.ends h.1.1

  merge_fits : Fits before (Merge t first)
  merge_fits =
      fits_merge t first p
      (parent-alike before_alike t ∙ is_child v t p (length units) first ts j t (hits-first t (first ∷ (ts ++ j.behind))))
      (parent-alike before_alike first ∙ par_first)
      (index-alike before_alike first ∙ index_first v t p (length units) first ts j ∙ ap (λ k. k + 1) (sym (index-alike before_alike t)))
      (kind-alike before_alike is_character_data t ∙ text_has_data v t j.text)
      (kind-alike before_alike is_character_data first ∙ text_has_data v first (text_first v t p (length units) first ts j))

  leave-merge : Leave (Merge t first ∷ []) before (with_text_of t (units ++ more) after)
  leave-merge = leave-edit (Merge t first) before (with_text_of t (units ++ more) after) before_ready merge_fits (edit-left ∙ step-left)

  data_after : (ns : List ℕ) → joined_data after ns ≡ joined_data v ns
  data_after [] = refl
  data_after (n ∷ ns) = ap (λ xs. xs ++ joined_data after ns) (content_left v t p (length units) first ts j n) ∙ ap (λ xs. data_of v n ++ xs) (data_after ns)

  whole_after : data_of v t ≡ units ++ joined_data v (first ∷ ts) → data_of after t ≡ (units ++ more) ++ joined_data after ts
  whole_after h =
      content_left v t p (length units) first ts j t ∙ h
      ∙ sym (append_assoc units more (joined_data v ts))
      ∙ ap (λ xs. (units ++ more) ++ xs) (sym (data_after ts))

  count_after : length (units ++ more) ≡ further v t p (length units) first ts j
  count_after = length-append units more

  joinable_after : AreJoinable after t p (length (units ++ more)) ts
  joinable_after = subst (λ k. AreJoinable after t p k ts) (sym count_after) (joinable_left v t p (length units) first ts j)

  -- the rest goes on from there
  rest-same : remove_each ts (merge_ends t (length (units ++ more)) ts after) ≡ remove_each (first ∷ ts) (merge_ends t (length units) (first ∷ ts) v)
  rest-same =
      let k = further v t p (length units) first ts j in
      ap (λ b. remove_each ts (merge_ends t b ts after)) count_after
      ∙ ap (λ x. remove_each ts x) (sym (in_either_order v t p (length units) first ts j))
      ∙ ap (λ x. remove_each ts (remove false first (merge_ends t k ts x))) (sym (merged_is v t p (length units) first ts j))

-- All of them. The Text has the data of the rest already; the edits begin where it has its own alone.
pub leave-merges : (t p : ℕ) (ts : List ℕ) (v : World) (units : List ℕ) → AreJoinable v t p (length units) ts → data_of v t ≡ units ++ joined_data v ts → Leave (merges t ts) (with_text_of t units v) (remove_each ts (merge_ends t (length units) ts v))
leave-merges t p [] v units j h =
    let same_data : data_of v t ≡ units = h ∙ append-nil units in
    leave-none (with_text_of t units v) v (ap (λ f. laid (record v { forest = f })) (data-same t units v.forest j.sound.forest.once same_data))
leave-merges t p (first ∷ ts) v units j h =
    let u = after v t p first ts units j in
    let grown = units ++ more v t p first ts units j in
    let next = leave-merges t p ts u grown (joinable_after v t p first ts units j) (whole_after v t p first ts units j h) in
    subst (λ x. Leave (merges t (first ∷ ts)) (with_text_of t units v) x) (rest-same v t p first ts units j)
    (leave-then (Merge t first ∷ []) (merges t ts) (with_text_of t units v) (with_text_of t grown u) (remove_each ts (merge_ends t (length grown) ts u)) (leave-merge v t p first ts units j) next)

-- A Text takes in those that follow it.

leave-join : (t p : ℕ) (w : World) → IsSound w → is_of_kind Text w.forest t ≡ true → 0 < occurs t w.forest → parent_of w.forest t ≡ Some p → Leave (merges t (following_texts w t)) w (join_following t (following_texts w t) w)
leave-join t p w s text h e =
    leave-alike (merges t ts) (with_text_of t units v) w (join_following t ts w) (join_following t ts w) same_start refl
    (leave-merges t p ts v units (joinable t p w s text h e) whole)
  where
    ts : List ℕ
    ts = following_texts w t

    units : List ℕ
    units = data_of w t

    v : World
    v = joint t p w s text h e

    none : count t p w s text h e ≡ 0
    none = no_count t p w s text h e

    same_joined : joined_data v ts ≡ joined_data w ts
    same_joined = joined-same t p w s text h e ts (others t p w s text h e)

    whole : data_of v t ≡ units ++ joined_data v ts
    whole =
        data-itself t (spliced (length units) (count t p w s text h e) (joined_data w ts) units) w h
        ∙ ap (λ k. spliced (length units) k (joined_data w ts) units) none
        ∙ spliced-end units (joined_data w ts)
        ∙ ap (λ xs. units ++ xs) (sym same_joined)

    within : (q : Point) → q.offset ≤ node_length unit_count w.forest q.node → q.node ≡ t → q.offset ≤ length units
    within q k d =
        let l = length-data w.forest t (text_has_data w t text) in
        let m : q.offset ≤ node_length unit_count w.forest t = subst (λ n. q.offset ≤ node_length unit_count w.forest n) d k in
        omega arith

    ends : Lives (AreUpTo t (length units)) w.ranges
    ends = each-kept (IsRange w.forest) (AreUpTo t (length units)) (λ r k. (within r.start k.starts.within, within r.end k.ends.within)) w.ranges s.ranges

    same_start : laid (with_text_of t units v) ≡ laid w
    same_start =
        ap (λ f. laid (record v { forest = f })) (data-twice t units (spliced (length units) (count t p w s text h e) (joined_data w ts) units) w.forest ∙ data-same t units w.forest s.forest.once refl)
        ∙ ap (λ k. laid (record w { ranges = map_ranges (after_splice t (length units) k (length (joined_data w ts))) w.ranges })) none
        ∙ ap (λ rs. laid (record w { ranges = rs })) (up_to-stays t (length units) (length (joined_data w ts)) w.ranges ends)

-- Normalize.

leave-normalize_text : (n t : ℕ) (w : World) → IsSound w → is_of_kind Text w.forest t ≡ true → is_descendant w n t ≡ true → Leave (normalize_text_edits t w) w (normalize_text t w)
leave-normalize_text n t w s text below = go (length (data_of w t) == 0)
  where
    go : (v : Bool) → Leave (if v then remove_edits t w else merges t (following_texts w t)) w (if v then remove false t w else join_following t (following_texts w t) w)
    go true = leave-remove false t w s
    go false = let i = below_parent w.forest s.forest.once n t below in leave-join t i.1 w s text i.0 i.2

leave-normalize_one : (n t : ℕ) (w : World) → IsSound w → is_of_kind Text w.forest t ≡ true → Leave (if is_descendant w n t then normalize_text_edits t w else []) w (if is_descendant w n t then normalize_text t w else w)
leave-normalize_one n t w s text = go (is_descendant w n t) refl
  where
    go : (v : Bool) → is_descendant w n t ≡ v → Leave (if v then normalize_text_edits t w else []) w (if v then normalize_text t w else w)
    go true e = leave-normalize_text n t w s text e
    go false e = leave-none w w refl

leave-normalize_each : (n : ℕ) (ts : List ℕ) (w : World) → IsSound w → ((t : ℕ) → 0 < hits t ts → is_of_kind Text w.forest t ≡ true) → Leave (normalize_each_edits n ts w) w (normalize_each n ts w)
leave-normalize_each n [] w s texts = leave-none w w refl
leave-normalize_each n (t ∷ ts) w s texts =
    let v = if is_descendant w n t then normalize_text t w else w in
    let k = kept-one n t w s (texts t (hits-first t ts)) in
    leave-then (if is_descendant w n t then normalize_text_edits t w else []) (normalize_each_edits n ts v) w v (normalize_each n ts v)
    (leave-normalize_one n t w s (texts t (hits-first t ts)))
    (leave-normalize_each n ts v k.sound (λ m h. k.kinds (is_kind Text) m ∙ texts m (let i = hits-append m (t ∷ []) ts in omega arith)))

pub leave-normalize : (n : ℕ) (w : World) → IsSound w → Leave (normalize_edits n w) w (normalize n w)
leave-normalize n w s = leave-normalize_each n (text_descendants w n) w s (λ t h. (filter-passed (is_of_kind Text w.forest) (drop 1 (inclusive_descendants w.forest n)) t h).0)
