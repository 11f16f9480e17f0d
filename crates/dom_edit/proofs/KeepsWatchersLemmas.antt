-- What watches a tree is there still as nodes come and go, and as ends of live ranges move.
use Rattle.std.proofs.Common.{IsSome, map, is_some, option_map, slice_index_or, slice_set, ◌≡◌, ℕ, zero, suc, Bool, true, false, not, ◌&&◌, ◌==◌, if◌then◌else◌, List, [], ◌∷◌, Option, Some, None, refl, ap, sym, ◌∙◌}
use Rattle.dom_model.specs.Definitions.{among, head_of, before, Forest, inclusive_descendants, Content, Point, Range, Iterator, map_ranges, moved_range, following_outside, moved_on, moved_back, stepped_off, pre_removed_among, pre_removed_all}
use Rattle.dom_observe.specs.{ObservedNodes.SameObservers, Watchers.Watchers}
use Rattle.dom_observe.proofs.NamedNodesLemmas.{same-queues}
use Rattle.dom_edit.specs.{declared.world.World.World, Insertion.with_room, KeptNodes.present, KeptNodes.scope_of, KeptNodes.scopes, KeptNodes.KeepsWatchers}

-- Observers.

pub observers-same : (a b : Watchers) → b ≡ a → SameObservers a b
observers-same a b e = same-queues a b (ap (λ (o : Watchers). o.queues) e)

pub observers-then : (a b c : Watchers) → SameObservers a b → SameObservers b c → SameObservers a c
observers-then a b c f s = record { made = s.made ∙ f.made; there = λ i. s.there i ∙ f.there i }

-- Live ranges: their ends move, or are set.

present-mapped : {A : Type 0} (change : A → A) (xs : List (Option A)) → present (map (λ (x : Option A). option_map change x) xs) ≡ present xs
present-mapped change [] = refl
present-mapped change (None ∷ xs) = ap (λ bs. false ∷ bs) (present-mapped change xs)
present-mapped change (Some x ∷ xs) = ap (λ bs. true ∷ bs) (present-mapped change xs)

pub present-moved : (move : Point → Point) (rs : List (Option Range)) → present (map_ranges move rs) ≡ present rs
present-moved move rs = present-mapped (moved_range move) rs

-- room is made for nodes that come in
pub present-room : (f : Forest Content) (parent : ℕ) (child : Option ℕ) (count : ℕ) (rs : List (Option Range)) → present (with_room f parent child count rs) ≡ present rs
present-room f parent None count rs = refl
present-room f parent (Some c) count rs = present-moved _ rs

pub present-set : {A : Type 0} (xs : List (Option A)) (r : ℕ) (x : A) → IsSome (slice_index_or xs r None) → present (slice_set xs r (Some x)) ≡ present xs
present-set [] r x h = refl
present-set (y ∷ ys) zero x h = ap (λ b. b ∷ present ys) (sym h)
present-set (y ∷ ys) (suc r) x h = ap (λ bs. is_some y ∷ bs) (present-set ys r x h)

-- Iterators: they give way to a node that leaves.

scope-on : (following preceding : Option ℕ) (i : Iterator) → scope_of (moved_on following preceding i) ≡ scope_of i
scope-on None preceding i = refl
scope-on (Some m) preceding i = refl

scope-off : (n : ℕ) (inside all : List ℕ) (i : Iterator) → scope_of (stepped_off n inside all i) ≡ scope_of i
scope-off n inside all i = go i.before
  where
    go : (b : Bool) → scope_of (if b then moved_on (head_of (following_outside n inside all)) (before n all) i else moved_back (before n all) i) ≡ scope_of i
    go true = scope-on (head_of (following_outside n inside all)) (before n all) i
    go false = refl

scope-among : (n : ℕ) (inside all : List ℕ) (i : Iterator) → scope_of (pre_removed_among n inside all i) ≡ scope_of i
scope-among n inside all i = go (among i.reference inside && (not (n == i.root) && among n all))
  where
    go : (b : Bool) → scope_of (if b then stepped_off n inside all i else i) ≡ scope_of i
    go true = scope-off n inside all i
    go false = refl

pub scopes-removed : {X : Type 0} (f : Forest X) (n : ℕ) (is : List (Option Iterator)) → scopes (pre_removed_all f n is) ≡ scopes is
scopes-removed f n [] = refl
scopes-removed f n (None ∷ is) = ap (λ ss. None ∷ ss) (scopes-removed f n is)
scopes-removed f n (Some i ∷ is) =
    ap (λ s. Some s ∷ scopes (pre_removed_all f n is)) (scope-among n (inclusive_descendants f n) (inclusive_descendants f i.root) i)
    ∙ ap (λ ss. Some (scope_of i) ∷ ss) (scopes-removed f n is)

-- All that watches.

pub watchers-then : (a b c : World) → KeepsWatchers a b → KeepsWatchers b c → KeepsWatchers a c
watchers-then a b c f s = record {
  ranges = s.ranges ∙ f.ranges;
  iterators = s.iterators ∙ f.iterators;
  observers = observers-then a.observers b.observers c.observers f.observers s.observers;
}

pub watchers-none : (a : World) → KeepsWatchers a a
watchers-none a = record { ranges = refl; iterators = refl; observers = observers-same a.observers a.observers refl }

-- none of it has changed but the observers
pub watchers-observed : (a b : World) → b ≡ record a { observers = b.observers } → SameObservers a.observers b.observers → KeepsWatchers a b
watchers-observed a b e observers = record {
  ranges = ap (λ (v : World). present v.ranges.ranges) e;
  iterators = ap (λ (v : World). scopes v.iterators) e;
  observers = observers;
}

-- nor they, but that ends of live ranges are others
pub watchers-ranged : (a b : World) → present b.ranges.ranges ≡ present a.ranges.ranges → b.iterators ≡ a.iterators → b.observers ≡ a.observers → KeepsWatchers a b
watchers-ranged a b ranges iterators observers = record {
  ranges = ranges;
  iterators = ap scopes iterators;
  observers = observers-same a.observers b.observers observers;
}

-- ends of live ranges and iterators gave way to a node
pub watchers-cut : (a b : World) (n : ℕ) → present b.ranges.ranges ≡ present a.ranges.ranges → b.iterators ≡ pre_removed_all a.tree.forest n a.iterators → b.observers ≡ a.observers → KeepsWatchers a b
watchers-cut a b n ranges iterators observers = record {
  ranges = ranges;
  iterators = ap scopes iterators ∙ scopes-removed a.tree.forest n a.iterators;
  observers = observers-same a.observers b.observers observers;
}
