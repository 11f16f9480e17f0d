-- A tree that nothing names is discarded: a sound world is left.
use Rattle.std.proofs.Common.{◌≡◌, ℕ, ◌<◌, Bool, false, ◌||◌, List, [], ◌∷◌, ◌++◌, flat_map, Option, Some, None, is_some, IfSome, All, slice_index_or, refl, sym, ◌∙◌, arith}
use Rattle.std.proofs.lemmas.{Bool.false≢true, Bool.or_parts, List.Elements.All-nil, List.Elements.All-cons}
use Rattle.std.specs.List.{list_any}
use Rattle.dom_model.specs.Definitions.{among, Forest, occurs, one_at, tree_at, without, entry_in, HasNode, parent_of, inclusive_descendants, Content, Range, Iterator, Walker, Registration, World, Own, if_any, documents, nodes_of_range, nodes_of_iterator, nodes_of_walker, nodes_of_registration, nodes_unless_released, named_nodes, is_held_outside, is_in_use, discarded, Bounds, no_node, does, answer_discard, IsRange, IsIterator, IsWalker, IsRegistration, AreHeld, IsSound}
use Rattle.dom_model.specs.declared.OwnError.TheVariants.{InUse}
use Rattle.dom_model.proofs.Forests.{Totals.total-tree_at, Lying.Lies-without_root, Climbing.not_among-hits, Entries.Lies-entry_in, Entries.entry_under-Lies, Entries.HasNode-occurs, Entries.occurs-HasNode, TreeOrder.Flattened.hits-numbers, Changes.seen, Changes.nothing, Changes.just}
use Rattle.dom_model.proofs.Worlds.Parts.{range-to_part, iterator-to_part}
use Rattle.dom_model.proofs.Soundness.{SoundForests.IsWood, SoundForests.IsWood-without, SoundMaking.reference_there, SoundGuards.sound-guarded}

-- no number of a list passes a test
none_of : (p : ℕ → Bool) (xs ys : List ℕ) → list_any p (xs ++ ys) ≡ false → (list_any p xs ≡ false) × (list_any p ys ≡ false)
none_of p [] ys h = (refl, h)
none_of p (x ∷ xs) ys h =
    let a = or_parts (p x) (list_any p (xs ++ ys)) h in
    let b = none_of p xs ys a.1 in
    (rw (a.0, b.0) refl, b.1)

none_of_each : {A : Type 0} (p : ℕ → Bool) (names : A → List ℕ) (xs : List A) → list_any p (flat_map names xs) ≡ false → All (λ x. list_any p (names x) ≡ false) xs
none_of_each p names [] h = All-nil (λ x. list_any p (names x) ≡ false)
none_of_each p names (x ∷ xs) h =
    let a = none_of p (names x) (flat_map names xs) h in
    All-cons (λ y. list_any p (names y) ≡ false) x xs a.0 (none_of_each p names xs a.1)

-- both facts hold of each element
all_both : {A : Type 0} (P Q R : A → Type 0) → ((a : A) → P a → Q a → R a) → (xs : List A) → All P xs → All Q xs → All R xs
all_both P Q R join xs h g k d l = join (slice_index_or xs k d) (h k d l) (g k d l)

-- the same of each that was not released
both_unless_released : {A : Type 0} (p : ℕ → Bool) (names : A → List ℕ) (P R : A → Type 0) → ((a : A) → P a → list_any p (names a) ≡ false → R a) → (xs : List (Option A)) → All (λ (x : Option A). IfSome x P) xs → list_any p (flat_map (nodes_unless_released names) xs) ≡ false → All (λ (x : Option A). IfSome x R) xs
both_unless_released {A} p names P R join xs h k = all_both (λ x. IfSome x P) (λ x. list_any p (nodes_unless_released names x) ≡ false) (λ x. IfSome x R) each xs h (none_of_each p (nodes_unless_released names) xs k)
  where
    each : (x : Option A) → IfSome x P → list_any p (nodes_unless_released names x) ≡ false → IfSome x R
    each None i j = tt
    each (Some a) i j = join a i j

module _ (n : ℕ) (w : World) (s : IsSound w) (free : is_in_use w n ≡ false) where
  abbrev rest : Forest Content
  rest = without n w.forest

  abbrev is_inside : ℕ → Bool
  is_inside m = among m (inclusive_descendants w.forest n)

  parts : (is_held_outside w.forest n ≡ false) × (list_any is_inside (named_nodes w) ≡ false)
  parts = or_parts (is_held_outside w.forest n) (list_any is_inside (named_nodes w)) free

  root : parent_of w.forest n ≡ None
  root =
      elim (seen (parent_of w.forest n)) [
        | nothing e ↦ e
        | just p e ↦ absurd (let k = (or_parts (is_some (parent_of w.forest n)) (list_any is_inside (documents rest)) parts.0).0 in let j = rw e at k in false≢true (sym j))
      ]

  named : (list_any is_inside (flat_map (nodes_unless_released nodes_of_range) w.ranges) ≡ false) × (list_any is_inside (flat_map (nodes_unless_released nodes_of_iterator) w.iterators) ≡ false) × (list_any is_inside (flat_map (nodes_unless_released nodes_of_walker) w.walkers) ≡ false) × (list_any is_inside (flat_map nodes_of_registration w.observing.registrations) ≡ false) × (list_any is_inside (flat_map (nodes_unless_released nodes_of_range) w.static_ranges) ≡ false)
  named =
      let a = none_of is_inside (flat_map (nodes_unless_released nodes_of_range) w.ranges) _ parts.1 in
      let b = none_of is_inside (flat_map (nodes_unless_released nodes_of_range) w.static_ranges) _ a.1 in
      let c = none_of is_inside (flat_map (nodes_unless_released nodes_of_iterator) w.iterators) _ b.1 in
      let d = none_of is_inside (flat_map (nodes_unless_released nodes_of_walker) w.walkers) _ c.1 in
      let e = none_of is_inside (flat_map nodes_of_registration w.observing.registrations) _ d.1 in
      (a.0, c.0, d.0, e.0, b.0)

  wood : IsWood rest w.made
  wood = IsWood-without s.forest n

  entries : (m : ℕ) → 0 < occurs m rest → entry_in w.forest m ≡ entry_in rest m
  entries m h =
      elim (seen (entry_in w.forest m)) [
        | nothing e ↦ absurd (let k : 0 < occurs m w.forest = (let t = total-tree_at (one_at m) n w.forest in omega arith) in let j = rw e at (HasNode-occurs w.forest m k) in false≢true j)
        | just a e ↦ e ∙ sym (entry_under-Lies (entry_in w.forest) None m rest a (Lies-without_root (entry_in w.forest) n root w.forest (Lies-entry_in w.forest s.forest.once)) h e)
      ]

  -- what is not inside stays
  stays : (m : ℕ) → is_inside m ≡ false → 0 < occurs m w.forest → 0 < occurs m rest
  stays m e h =
      omega (arith, not_among-hits m (inclusive_descendants w.forest n) e, hits-numbers m (tree_at n w.forest), total-tree_at (one_at m) n w.forest)

  stays-node : (m : ℕ) → is_inside m ≡ false → HasNode w.forest m → HasNode rest m
  stays-node m e h = HasNode-occurs rest m (stays m e (occurs-HasNode w.forest m h))

  live : (r : Range) → IsRange w.forest r → list_any is_inside (nodes_of_range r) ≡ false → IsRange rest r
  live r h k =
      let a = or_parts (is_inside r.start.node) (is_inside r.end.node || false) k in
      let b = or_parts (is_inside r.end.node) false a.1 in
      range-to_part rest w.forest wood.once s.forest.once entries r (stays r.start.node a.0 (occurs-HasNode w.forest r.start.node h.starts.there)) (stays r.end.node b.0 (occurs-HasNode w.forest r.end.node h.ends.there)) h

  iterator : (i : Iterator) → IsIterator w.forest i → list_any is_inside (nodes_of_iterator i) ≡ false → IsIterator rest i
  iterator i h k =
      let a = or_parts (is_inside i.root) (is_inside i.reference || false) k in
      let b = or_parts (is_inside i.reference) false a.1 in
      iterator-to_part rest w.forest wood.once s.forest.once entries i (stays i.root a.0 (occurs-HasNode w.forest i.root h.root)) (stays i.reference b.0 (reference_there w.forest i h)) h

  walker : (x : Walker) → IsWalker w.forest x → list_any is_inside (nodes_of_walker x) ≡ false → IsWalker rest x
  walker x h k =
      let a = or_parts (is_inside x.root) (is_inside x.current || false) k in
      let b = or_parts (is_inside x.current) false a.1 in
      record { root = stays-node x.root a.0 h.root; current = stays-node x.current b.0 h.current }

  registration : (r : Registration) → IsRegistration w.forest r → list_any is_inside (nodes_of_registration r) ≡ false → IsRegistration rest r
  registration r h k =
      let a = or_parts (is_inside r.node) (list_any is_inside (if_any r.source)) k in
      record { node = stays-node r.node a.0 h.node; source = from r.source h.source a.1 }
    where
      from : (o : Option ℕ) → IfSome o (HasNode w.forest) → list_any is_inside (if_any o) ≡ false → IfSome o (HasNode rest)
      from None i l = tt
      from (Some m) i l = stays-node m (or_parts (is_inside m) false l).0 i

  held : (r : Range) → AreHeld w.forest r → list_any is_inside (nodes_of_range r) ≡ false → AreHeld rest r
  held r h k =
      let a = or_parts (is_inside r.start.node) (is_inside r.end.node || false) k in
      let b = or_parts (is_inside r.end.node) false a.1 in
      record { start = stays-node r.start.node a.0 h.start; end = stays-node r.end.node b.0 h.end }

  pub sound-without : IsSound (discarded n w)
  sound-without =
      record {
        forest = wood;
        ranges = both_unless_released is_inside nodes_of_range (IsRange w.forest) (IsRange rest) live w.ranges s.ranges named.0;
        iterators = both_unless_released is_inside nodes_of_iterator (IsIterator w.forest) (IsIterator rest) iterator w.iterators s.iterators named.1;
        walkers = both_unless_released is_inside nodes_of_walker (IsWalker w.forest) (IsWalker rest) walker w.walkers s.walkers named.2;
        registrations = all_both (IsRegistration w.forest) (λ r. list_any is_inside (nodes_of_registration r) ≡ false) (IsRegistration rest) registration w.observing.registrations s.registrations (none_of_each is_inside nodes_of_registration w.observing.registrations named.3);
        statics = both_unless_released is_inside nodes_of_range (AreHeld w.forest) (AreHeld rest) held w.static_ranges s.statics named.4;
      }

pub sound-discard : (b : Bounds) (w : World) → IsSound w → (n : ℕ) → IsSound (answer_discard b n w).world
sound-discard b w s n = sound-guarded (no_node n w ∷ (is_in_use w n, Own InUse) ∷ []) w (does (discarded n w)) s (λ h. sound-without n w s h.1.0)
