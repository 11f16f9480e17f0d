-- Ends of live ranges stay out of trees that are made, as nodes are made, leave where they stand, and come in last. DOM Standard, "Live ranges".
use Rattle.std.proofs.Common.{◌≡◌, ℕ, ◌+◌, ◌-◌, ◌<◌, ◌≤◌, ◌==◌, nat_lt, nat_le, Bool, true, false, ◌&&◌, if◌then◌else◌, List, [], ◌∷◌, length, Option, Some, None, All, refl, ap, sym, ◌∙◌, subst, arith, ⊎_elim}
use Rattle.std.proofs.lemmas.{Bool.cases_lt, List.Elements.All-head, List.Elements.All-tail}
use Rattle.dom_model.specs.Definitions.{hits, among, last_of, Forest, occurs, beside, cut, parent_of, children_of, index_of, ancestors, root_of, inclusive_descendants, spliced, Content, Point, Range, World, IsRange, IsSound, map_ranges, after_removal, after_splice, tree_record_unless, taken_out, transients_made, removed_from, remove, remove_all, is_fragment, nodes_of, emptied_fragment, freed, put_in, put_all, insert_nodes, append, IsPlaceable, ArePlaceable, IsInsertable, cut_count, data_of, with_data, replace_data}
use Rattle.dom_model.proofs.PlainLists.Numbers.{same_or, same, apart}
use Rattle.dom_model.proofs.Forests.{Climbing.hits-first, Climbing.ancestors-absent, Climbing.ancestors-there, Entries.occurs-HasNode, ForestsBeside.ancestors-beside, Indices.child-there}
use Rattle.dom_model.proofs.BoundaryPoints.RootsKept.{root-put, root-among, root-removed}
use Rattle.dom_model.proofs.Worlds.SameShape.{IsAlike, root-alike, with_node-alike}
use Rattle.dom_model.proofs.MutationAlgorithms.Loosened.{loosened-remove}
use Rattle.dom_model.proofs.Soundness.{SoundWorlds.IsLive, SoundWorlds.sound-remove, SoundPlacing.apart_from, SoundPlacing.renamed, SoundPlacing.occurs_placed, SoundPlacing.all_placeable, SoundPlacing.sound-put_one, SoundInserting.IsReady, SoundInserting.freed_ready}
use Rattle.dom_model.proofs.RangesAndContents.RangesElsewhere.{ends_of}
use Rattle.dom_content.specs.Paths.{StandsUnder}

-- a node with a root is there
pub rooted-there : (f : Forest Content) (n r : ℕ) → root_of f n ≡ Some r → 0 < occurs n f
rooted-there f n r e =
    ⊎_elim
    (λ (lt : 0 < occurs n f). lt)
    (λ (le : occurs n f ≤ 0). absurd (let k : None ≡ Some r = sym (ap last_of (ancestors-absent n f (omega arith))) ∙ e in cc k))
    (cases_lt 0 (occurs n f))

-- the ends of live ranges of a sound world are there
pub live-there : (f : Forest Content) (rs : List (Option Range)) → All (IsLive f) rs → (m : ℕ) → 0 < hits m (ends_of rs) → 0 < occurs m f
live-there f [] h m k = absurd (omega arith)
live-there f (None ∷ rs) h m k = live-there f rs (All-tail (IsLive f) None rs h) m k
live-there f (Some r ∷ rs) h m k =
    let is : IsRange f r = All-head (IsLive f) (Some r) rs h in
    elim (same_or r.start.node m) [
      | same e t ↦ subst (λ x. 0 < occurs x f) e (occurs-HasNode f r.start.node is.starts.there)
      | apart ne t ↦
          let j = rw t at k in
          elim (same_or r.end.node m) [
            | same e u ↦ subst (λ x. 0 < occurs x f) e (occurs-HasNode f r.end.node is.ends.there)
            | apart nf u ↦ (let i = rw u at j in live-there f rs (All-tail (IsLive f) (Some r) rs h) m (omega arith))
          ]
    ]

-- a node in which an end stands once the ends are moved is that of a moved point
ends-moved : (move : Point → Point) (rs : List (Option Range)) (m : ℕ) → 0 < hits m (ends_of (map_ranges move rs)) → (q : Point) × (0 < hits q.node (ends_of rs)) × ((move q).node ≡ m)
ends-moved move [] m k = absurd (omega arith)
ends-moved move (None ∷ rs) m k = ends-moved move rs m k
ends-moved move (Some r ∷ rs) m k =
    elim (same_or (move r.start).node m) [
      | same e t ↦ (r.start, hits-first r.start.node (r.end.node ∷ ends_of rs), e)
      | apart ne t ↦
          let j = rw t at k in
          elim (same_or (move r.end).node m) [
            | same e u ↦ (r.end, (let i = hits-first r.end.node (ends_of rs) in omega arith), e)
            | apart nf u ↦ (let i = rw u at j in let rest = ends-moved move rs m (omega arith) in (rest.0, (let l = rest.1 in omega arith), rest.2))
          ]
    ]

-- Ends stand in trees of which the roots pass.

abbrev pub AreUnder : (ℕ → Type 0) → World → Type 0
AreUnder passes w = (m : ℕ) → 0 < hits m (ends_of w.ranges) → StandsUnder passes w.forest m

module _ (passes : ℕ → Type 0) where
  under-recorded : (b : Bool) (n : ℕ) (xs ys : List ℕ) (p q : Option ℕ) (w : World) → AreUnder passes w → AreUnder passes (tree_record_unless b n xs ys p q w)
  under-recorded true n xs ys p q w h = h
  under-recorded false n xs ys p q w h = h

  -- a node leaves its parent
  under-remove : (b : Bool) (n : ℕ) (w : World) → IsSound w → 0 < occurs n w.forest → AreUnder passes w → AreUnder passes (remove b n w)
  under-remove b n w s hn h = go (parent_of w.forest n) refl
    where
      go : (o : Option ℕ) → parent_of w.forest n ≡ o → AreUnder passes (removed_from b n o w)
      go None e = h
      go (Some p) e = under-recorded b p [] (n ∷ []) _ _ (transients_made n p (taken_out n p w)) moved
        where
          moved : AreUnder passes (transients_made n p (taken_out n p w))
          moved m k =
              let q = ends-moved (after_removal (inclusive_descendants w.forest n) p (index_of w.forest n)) w.ranges m k in
              let u = h q.0.node q.1 in
              let kept = root-removed w.forest s.forest.once p n hn e q.0.node q.0.offset (rooted-there w.forest q.0.node u.root u.under) in
              record { root = u.root; under = subst (λ x. root_of (cut n w.forest) x ≡ Some u.root) q.2 (kept ∙ u.under); passed = u.passed }

  under-remove_all : (ns : List ℕ) (w : World) → IsSound w → ((n : ℕ) → 0 < hits n ns → 0 < occurs n w.forest) → AreUnder passes w → AreUnder passes (remove_all ns w)
  under-remove_all [] w s there h = h
  under-remove_all (n ∷ ns) w s there h =
      let hn = there n (hits-first n ns) in
      let l = loosened-remove true n w s hn in
      under-remove_all ns (remove true n w) (sound-remove true n w s) (λ m k. subst (λ x. 0 < x) (sym (l.numbers m)) (there m (omega arith))) (under-remove true n w s hn h)

  under-freed : (n : ℕ) (w : World) → IsSound w → 0 < occurs n w.forest → AreUnder passes w → AreUnder passes (freed n (nodes_of w n) w)
  under-freed n w s hn h = go (is_fragment w n)
    where
      go : (v : Bool) → AreUnder passes (if v then emptied_fragment n (if v then children_of w.forest n else n ∷ []) w else remove false n w)
      go true = under-remove_all (children_of w.forest n) w s (λ m k. child-there w.forest s.forest.once m n k) h
      go false = under-remove false n w s hn h

  -- a root comes in last under a parent, and is none that passes
  under-put : (parent n : ℕ) (w : World) → IsSound w → 0 < occurs parent w.forest → IsPlaceable w.forest parent n → (passes n → ⊥) → AreUnder passes w → AreUnder passes (put_in parent None n w)
  under-put parent n w s hp k none h m i =
      let u = h m i in
      let hm = rooted-there w.forest m u.root u.under in
      let z = apart_from parent n None w s hp k in
      record {
        root = u.root;
        under = root-alike (renamed parent n None w s hp k) m ∙ root-put w.forest s.forest.once parent n None hp k.there k.root z m hm ∙ told m u hm (among n (ancestors m w.forest)) refl;
        passed = u.passed;
      }
    where
      told : (m : ℕ) (u : StandsUnder passes w.forest m) → 0 < occurs m w.forest → (v : Bool) → among n (ancestors m w.forest) ≡ v → (if v then root_of w.forest parent else root_of w.forest m) ≡ Some u.root
      told m u hm true e =
          let r : Some n ≡ Some u.root = sym (root-among w.forest s.forest.once parent n None hp k.there k.root (apart_from parent n None w s hp k) m hm e) ∙ u.under in
          let d : n ≡ u.root = cc r in
          absurd (none (subst passes (sym d) u.passed))
      told m u hm false e = u.under

  under-put_all : (parent : ℕ) (ns : List ℕ) (w : World) → IsSound w → 0 < occurs parent w.forest → ArePlaceable w.forest parent ns → ((n : ℕ) → 0 < hits n ns → passes n → ⊥) → AreUnder passes w → AreUnder passes (put_all parent None ns w)
  under-put_all parent [] w s hp k none h = h
  under-put_all parent (n ∷ ns) w s hp k none h =
      under-put_all parent ns (put_in parent None n w) (sound-put_one parent n None w s hp k.0 tt) (subst (λ x. 0 < x) (sym (occurs_placed parent n None w s hp k.0 parent)) hp) (all_placeable parent n None w s hp k.0 ns k.1 k.2)
      (λ m i. none m (omega arith)) (under-put parent n w s hp k.0 (none n (hits-first n ns)) h)

  -- a node, or the children of a fragment
  pub under-append : (n parent : ℕ) (w : World) → IsSound w → IsInsertable w.forest n parent None → ((m : ℕ) → 0 < hits m (nodes_of w n) → passes m → ⊥) → AreUnder passes w → AreUnder passes (append n parent w)
  under-append n parent w s k none h = go (nodes_of w n) (freed_ready n parent None w s k) (under-freed n w s k.there h) none
    where
      go : (ns : List ℕ) → IsReady (freed n ns w) parent None ns → AreUnder passes (freed n ns w) → ((m : ℕ) → 0 < hits m ns → passes m → ⊥) → AreUnder passes (insert_nodes false n parent None ns w)
      go [] r u none_of = h
      go (m ∷ ms) r u none_of = under-put_all parent (m ∷ ms) (freed n (m ∷ ms) w) r.sound r.parent_there r.placeable none_of u

  -- trees that are made
  pub under-beside : (w v : World) (g : Forest Content) → v.forest ≡ beside w.forest g → v.ranges ≡ w.ranges → AreUnder passes w → AreUnder passes v
  under-beside w v g forest ranges h m i =
      let u = h m (subst (λ (rs : List (Option Range)). 0 < hits m (ends_of rs)) ranges i) in
      let there = ancestors-there m w.forest (rooted-there w.forest m u.root u.under) in
      record {
        root = u.root;
        under = ap (λ (f : Forest Content). root_of f m) forest ∙ ap last_of (ancestors-beside m w.forest g) ∙ (let e = rw there.1 at u.under in rw there.1 e);
        passed = u.passed;
      }

  -- units that are replaced
  pub under-replaced : (n offset count : ℕ) (w : World) → AreUnder passes w → AreUnder passes (replace_data n offset count [] w)
  under-replaced n offset count w h m i =
      let units = cut_count (length (data_of w n)) offset count in
      let q = ends-moved (after_splice n offset units 0) w.ranges m i in
      let u = h q.0.node q.1 in
      let alike : IsAlike w.forest (replace_data n offset count [] w).forest = with_node-alike (with_data (spliced offset units [] (data_of w n))) (λ x. refl) n w.forest in
      record { root = u.root; under = root-alike alike m ∙ subst (λ x. root_of w.forest x ≡ Some u.root) (sym (same-node units q.0) ∙ q.2) u.under; passed = u.passed }
    where
      same-node : (units : ℕ) (q : Point) → (after_splice n offset units 0 q).node ≡ q.node
      same-node units q = go ((q.node == n) && nat_lt offset q.offset) (nat_le q.offset (offset + units))
        where
          go : (a b : Bool) → (if a then (if b then record q { offset = offset } else record q { offset = q.offset - units + 0 }) else q).node ≡ q.node
          go true true = refl
          go true false = refl
          go false b = refl
