-- The parts of a sound world, and what a removal leaves of them. DOM Standard, "Mutation algorithms": remove.
use Rattle.std.proofs.Common.{◌≡◌, ℕ, ◌<◌, ◌≤◌, ◌==◌, Bool, true, false, List, [], ◌∷◌, length, map, filter, Option, Some, None, IfSome, All, option_map, unwrap_or, slice_index_or, refl, sym, subst, ⊎_elim, arith}
use Rattle.std.proofs.lemmas.{Bool.cases_lt, List.get_or_past, List.Elements.All-map, List.Elements.All-weaker, List.Elements.All-append, List.Elements.All-filter, List.Elements.All-nil}
use Rattle.dom_model.specs.Definitions.{Forest, occurs, one_at, cut, HasNode, parent_of, ancestors, previous_of, next_of, Content, Point, Range, Walker, Registration, Mutation, World, moved_range, map_ranges, pre_removed, registered_on, standing_on, transient_of, queued, tree_record, tree_record_unless, taken_out, transients_made, removed_from, remove, remove_all, IsRange, IsIterator, IsWalker, IsRegistration, AreHeld, IsSound, Lives, IsForest, Iterator}
use Rattle.dom_model.proofs.Forests.{Totals.total-cut, Entries.HasNode-occurs, Entries.occurs-HasNode, Entries.entry_under-absent}
use Rattle.dom_model.proofs.Soundness.SoundForests.{IsWood-cut}
use Rattle.dom_model.proofs.RangesAndContents.RangesCut.{range-cut, iterator-cut}

-- a live range, or none
abbrev pub IsLive : Forest Content → Option Range → Type 0
IsLive f r = IfSome r (IsRange f)

-- a map on each that was not released
pub each-mapped : {A : Type 0} (P Q : A → Type 0) (change : A → A) → ((a : A) → P a → Q (change a)) → (xs : List (Option A)) → All (λ (x : Option A). IfSome x P) xs → All (λ (x : Option A). IfSome x Q) (map (λ (x : Option A). option_map change x) xs)
each-mapped {A} P Q change keeps xs h = All-map (λ x. IfSome x Q) (λ x. option_map change x) xs (All-weaker (λ x. IfSome x P) (λ x. IfSome (option_map change x) Q) each xs h)
  where
    each : (x : Option A) → IfSome x P → IfSome (option_map change x) Q
    each None k = tt
    each (Some a) k = keeps a k

pub each-kept : {A : Type 0} (P Q : A → Type 0) → ((a : A) → P a → Q a) → (xs : List (Option A)) → All (λ (x : Option A). IfSome x P) xs → All (λ (x : Option A). IfSome x Q) xs
each-kept {A} P Q keeps xs h = All-weaker (λ x. IfSome x P) (λ x. IfSome x Q) each xs h
  where
    each : (x : Option A) → IfSome x P → IfSome x Q
    each None k = tt
    each (Some a) k = keeps a k

pub each-moved : (P Q : Range → Type 0) (move : Point → Point) → ((r : Range) → P r → Q (moved_range move r)) → (rs : List (Option Range)) → Lives P rs → Lives Q (map_ranges move rs)
each-moved P Q move keeps rs h = each-mapped P Q (moved_range move) keeps rs h

pub ranges-moved : (f g : Forest Content) (move : Point → Point) → ((r : Range) → IsRange f r → IsRange g (moved_range move r)) → (rs : List (Option Range)) → All (IsLive f) rs → All (IsLive g) (map_ranges move rs)
ranges-moved f g move keeps rs h = each-moved (IsRange f) (IsRange g) move keeps rs h

pub ranges-kept : (f g : Forest Content) → ((r : Range) → IsRange f r → IsRange g r) → (rs : List (Option Range)) → All (IsLive f) rs → All (IsLive g) rs
ranges-kept f g keeps rs h = each-kept (IsRange f) (IsRange g) keeps rs h

pub walkers-kept : (f g : Forest Content) → ((n : ℕ) → HasNode f n → HasNode g n) → (ks : List (Option Walker)) → All (λ (k : Option Walker). IfSome k (IsWalker f)) ks → All (λ (k : Option Walker). IfSome k (IsWalker g)) ks
walkers-kept f g there ks h = each-kept (IsWalker f) (IsWalker g) (λ k w. record { root = there k.root w.root; current = there k.current w.current }) ks h

-- what is read at a number has what each has that was not released
pub element : {A : Type 0} (P : A → Type 0) (xs : List (Option A)) (i : ℕ) → All (λ (x : Option A). IfSome x P) xs → IfSome (slice_index_or xs i None) P
element P xs i h =
    ⊎_elim
    (λ (lt : i < length xs). h i None lt)
    (λ (le : length xs ≤ i). subst (λ o. IfSome o P) (sym (get_or_past xs i None le)) tt)
    (cases_lt i (length xs))

pub registrations-kept : (f g : Forest Content) → ((n : ℕ) → HasNode f n → HasNode g n) → (rs : List Registration) → All (IsRegistration f) rs → All (IsRegistration g) rs
registrations-kept f g there rs h = All-weaker (IsRegistration f) (IsRegistration g) (λ r k. record { node = there r.node k.node; source = from r.source k.source }) rs h
  where
    from : (o : Option ℕ) → IfSome o (HasNode f) → IfSome o (HasNode g)
    from None k = tt
    from (Some n) k = there n k

pub statics-kept : (f g : Forest Content) → ((n : ℕ) → HasNode f n → HasNode g n) → (rs : List (Option Range)) → All (λ (r : Option Range). IfSome r (AreHeld f)) rs → All (λ (r : Option Range). IfSome r (AreHeld g)) rs
statics-kept f g there rs h = each-kept (AreHeld f) (AreHeld g) (λ r k. record { start = there r.start.node k.start; end = there r.end.node k.end }) rs h

-- a world on another forest, which has all nodes of its own
pub sound-on : (w : World) → IsSound w → (g : Forest Content) (made : ℕ) (ranges : List (Option Range)) → IsForest (record { forest = g; made = made }) → All (IsLive g) ranges → ((i : Iterator) → IsIterator w.forest i → IsIterator g i) → ((n : ℕ) → HasNode w.forest n → HasNode g n) →
    IsSound (record w { forest = g; made = made; ranges = ranges })
sound-on w s g made ranges wood live inside there =
    record {
      forest = wood;
      ranges = live;
      iterators = each-kept (IsIterator w.forest) (IsIterator g) inside w.iterators s.iterators;
      walkers = walkers-kept w.forest g there w.walkers s.walkers;
      registrations = registrations-kept w.forest g there w.observing.registrations s.registrations;
      statics = statics-kept w.forest g there w.static_ranges s.statics;
    }

-- a change that is noted
pub sound-queued : (m : Mutation) (w : World) → IsSound w → IsSound (queued m w)
sound-queued m w s = record { forest = s.forest; ranges = s.ranges; iterators = s.iterators; walkers = s.walkers; registrations = s.registrations; statics = s.statics }

pub sound-tree_record : (target : ℕ) (added removed : List ℕ) (previous next : Option ℕ) (w : World) → IsSound w → IsSound (tree_record target added removed previous next w)
sound-tree_record target added removed previous next w s = record { forest = s.forest; ranges = s.ranges; iterators = s.iterators; walkers = s.walkers; registrations = s.registrations; statics = s.statics }

pub sound-record_unless : (suppressed : Bool) (target : ℕ) (added removed : List ℕ) (previous next : Option ℕ) (w : World) → IsSound w → IsSound (tree_record_unless suppressed target added removed previous next w)
sound-record_unless true target added removed previous next w s = s
sound-record_unless false target added removed previous next w s = sound-tree_record target added removed previous next w s

-- Transient registrations.

standing-kept : (f : Forest Content) (ns : List ℕ) (rs : List Registration) → All (IsRegistration f) rs → All (IsRegistration f) (standing_on ns rs)
standing-kept f [] rs h = All-nil (IsRegistration f)
standing-kept f (n ∷ ns) rs h =
    All-append (IsRegistration f) (registered_on n rs) (standing_on ns rs) (All-filter (λ (r : Registration). r.node == n) (IsRegistration f) rs h) (standing-kept f ns rs h)

transient-sound : (f : Forest Content) (n : ℕ) → HasNode f n → (r : Registration) → IsRegistration f r → IsRegistration f (transient_of n r)
transient-sound f n h r k = record { node = h; source = from r.source k.source }
  where
    from : (o : Option ℕ) → IfSome o (HasNode f) → HasNode f (unwrap_or o r.node)
    from None i = k.node
    from (Some m) i = i

pub sound-transients : (n parent : ℕ) (w : World) → HasNode w.forest n → IsSound w → IsSound (transients_made n parent w)
sound-transients n parent w h s =
    record {
      forest = s.forest;
      ranges = s.ranges;
      iterators = s.iterators;
      walkers = s.walkers;
      registrations =
          All-append (IsRegistration w.forest) w.observing.registrations (map (transient_of n) asked) s.registrations
          (All-map (IsRegistration w.forest) (transient_of n) asked
          (All-weaker (IsRegistration w.forest) (λ r. IsRegistration w.forest (transient_of n r)) (transient-sound w.forest n h) asked
          (All-filter (λ (r : Registration). r.options.subtree) (IsRegistration w.forest) standing (standing-kept w.forest (ancestors parent w.forest) w.observing.registrations s.registrations))));
      statics = s.statics;
    }
  where
    standing : List Registration
    standing = standing_on (ancestors parent w.forest) w.observing.registrations

    asked : List Registration
    asked = filter (λ (r : Registration). r.options.subtree) standing

-- A removal.

-- a node with a parent is there
pub child_there : (f : Forest Content) (n p : ℕ) → parent_of f n ≡ Some p → 0 < occurs n f
child_there f n p h = grind (arith, entry_under-absent None n f)

pub there_after_cut : (f : Forest Content) (c n : ℕ) → HasNode f n → HasNode (cut c f) n
there_after_cut f c n h = HasNode-occurs (cut c f) n (subst (λ k. 0 < k) (sym (total-cut (one_at n) c f)) (occurs-HasNode f n h))

sound-taken_out : (n parent : ℕ) (w : World) → parent_of w.forest n ≡ Some parent → IsSound w → IsSound (taken_out n parent w)
sound-taken_out n parent w e s =
    let h = child_there w.forest n parent e in
    record {
      forest = IsWood-cut s.forest n h;
      ranges = ranges-moved w.forest (cut n w.forest) _ (range-cut s.forest parent n h e) w.ranges s.ranges;
      iterators = each-mapped (IsIterator w.forest) (IsIterator (cut n w.forest)) (pre_removed w.forest n) (iterator-cut s.forest parent n h e) w.iterators s.iterators;
      walkers = walkers-kept w.forest (cut n w.forest) (there_after_cut w.forest n) w.walkers s.walkers;
      registrations = registrations-kept w.forest (cut n w.forest) (there_after_cut w.forest n) w.observing.registrations s.registrations;
      statics = statics-kept w.forest (cut n w.forest) (there_after_cut w.forest n) w.static_ranges s.statics;
    }

pub sound-remove : (suppressed : Bool) (n : ℕ) (w : World) → IsSound w → IsSound (remove suppressed n w)
sound-remove suppressed n w s = go (parent_of w.forest n) refl
  where
    go : (p : Option ℕ) → parent_of w.forest n ≡ p → IsSound (removed_from suppressed n p w)
    go None e = s
    go (Some parent) e =
        sound-record_unless suppressed parent [] (n ∷ []) (previous_of w.forest n) (next_of w.forest n) (transients_made n parent (taken_out n parent w))
        (sound-transients n parent (taken_out n parent w) (there_after_cut w.forest n n (HasNode-occurs w.forest n (child_there w.forest n parent e))) (sound-taken_out n parent w e s))

pub sound-remove_all : (ns : List ℕ) (w : World) → IsSound w → IsSound (remove_all ns w)
sound-remove_all [] w s = s
sound-remove_all (n ∷ ns) w s = sound-remove_all ns (remove true n w) (sound-remove true n w s)
