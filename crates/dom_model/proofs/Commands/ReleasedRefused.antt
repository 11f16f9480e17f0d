-- A command that asks for an iterator, a walker, a static range or an observer that is not there, as it was never made or was released, is refused, and
-- leaves the world. What was released is refused so after any further commands.
use Rattle.std.proofs.Common.{◌≡◌, ℕ, ◌<◌, List, length, Some, None, refl, ap, ◌∙◌}
use Rattle.dom_model.specs.Definitions.{World, Command, DescribeIterator, NextNode, PreviousNode, ReleaseIterator, DescribeWalker, SetCurrent, Walk, ReleaseWalker, DescribeStaticRange, ReleaseStaticRange, Observe, Disconnect, TakeRecords, ReleaseObserver, TellObserver, Own, static_at, taken_up_to, Bounds, refused, iterator_at, walker_at, answer, iterator_asked, walker_asked, static_range_asked, observer_asked, world_past}
use Rattle.dom_model.specs.declared.OwnError.TheVariants.{NoSuchObject}
use Rattle.dom_model.proofs.Counting.NumbersStay.{iterator-stays_released, walker-stays_released, static_range-stays_released, observer-stays_released}

module _ (b : Bounds) (w : World) where
  pub iterator-refused : (c : Command) (i : ℕ) → iterator_asked c ≡ Some i → iterator_at i w ≡ None → answer b w c ≡ refused (Own NoSuchObject) w
  iterator-refused (DescribeIterator j) i e h = let gone : iterator_at j w ≡ None = ap (λ n. iterator_at n w) (cc e) ∙ h in rw gone refl
  iterator-refused (NextNode j) i e h = let gone : iterator_at j w ≡ None = ap (λ n. iterator_at n w) (cc e) ∙ h in rw gone refl
  iterator-refused (PreviousNode j) i e h = let gone : iterator_at j w ≡ None = ap (λ n. iterator_at n w) (cc e) ∙ h in rw gone refl
  iterator-refused (ReleaseIterator j) i e h = let gone : iterator_at j w ≡ None = ap (λ n. iterator_at n w) (cc e) ∙ h in rw gone refl
  iterator-refused c i e h = absurd (cc e)

  pub walker-refused : (c : Command) (k : ℕ) → walker_asked c ≡ Some k → walker_at k w ≡ None → answer b w c ≡ refused (Own NoSuchObject) w
  walker-refused (DescribeWalker j) k e h = let gone : walker_at j w ≡ None = ap (λ n. walker_at n w) (cc e) ∙ h in rw gone refl
  walker-refused (SetCurrent j n) k e h = let gone : walker_at j w ≡ None = ap (λ n. walker_at n w) (cc e) ∙ h in rw gone refl
  walker-refused (Walk j move) k e h = let gone : walker_at j w ≡ None = ap (λ n. walker_at n w) (cc e) ∙ h in rw gone refl
  walker-refused (ReleaseWalker j) k e h = let gone : walker_at j w ≡ None = ap (λ n. walker_at n w) (cc e) ∙ h in rw gone refl
  walker-refused c k e h = absurd (cc e)

  pub static_range-refused : (c : Command) (u : ℕ) → static_range_asked c ≡ Some u → static_at w u ≡ None → answer b w c ≡ refused (Own NoSuchObject) w
  static_range-refused (DescribeStaticRange j) u e h = let gone : static_at w j ≡ None = ap (static_at w) (cc e) ∙ h in rw gone refl
  static_range-refused (ReleaseStaticRange j) u e h = let gone : static_at w j ≡ None = ap (static_at w) (cc e) ∙ h in rw gone refl
  static_range-refused c u e h = absurd (cc e)

  pub observer-refused : (c : Command) (o : ℕ) → observer_asked c ≡ Some o → taken_up_to o w.observing ≡ None → answer b w c ≡ refused (Own NoSuchObject) w
  observer-refused (Observe p n options) o e h = let gone : taken_up_to p w.observing ≡ None = ap (λ n. taken_up_to n w.observing) (cc e) ∙ h in rw gone refl
  observer-refused (Disconnect p) o e h = let gone : taken_up_to p w.observing ≡ None = ap (λ n. taken_up_to n w.observing) (cc e) ∙ h in rw gone refl
  observer-refused (TakeRecords p) o e h = let gone : taken_up_to p w.observing ≡ None = ap (λ n. taken_up_to n w.observing) (cc e) ∙ h in rw gone refl
  observer-refused (ReleaseObserver p) o e h = let gone : taken_up_to p w.observing ≡ None = ap (λ n. taken_up_to n w.observing) (cc e) ∙ h in rw gone refl
  observer-refused (TellObserver p) o e h = let gone : taken_up_to p w.observing ≡ None = ap (λ n. taken_up_to n w.observing) (cc e) ∙ h in rw gone refl
  observer-refused c o e h = absurd (cc e)

-- after any further commands
pub released_iterator-refused : (b : Bounds) (w : World) (cs : List Command) (c : Command) (i : ℕ) → i < length w.iterators → iterator_at i w ≡ None → iterator_asked c ≡ Some i → answer b (world_past b w cs) c ≡ refused (Own NoSuchObject) (world_past b w cs)
released_iterator-refused b w cs c i l h e = iterator-refused b (world_past b w cs) c i e (iterator-stays_released b w cs i l h)

pub released_walker-refused : (b : Bounds) (w : World) (cs : List Command) (c : Command) (k : ℕ) → k < length w.walkers → walker_at k w ≡ None → walker_asked c ≡ Some k → answer b (world_past b w cs) c ≡ refused (Own NoSuchObject) (world_past b w cs)
released_walker-refused b w cs c k l h e = walker-refused b (world_past b w cs) c k e (walker-stays_released b w cs k l h)

pub released_static_range-refused : (b : Bounds) (w : World) (cs : List Command) (c : Command) (u : ℕ) → u < length w.static_ranges → static_at w u ≡ None → static_range_asked c ≡ Some u → answer b (world_past b w cs) c ≡ refused (Own NoSuchObject) (world_past b w cs)
released_static_range-refused b w cs c u l h e = static_range-refused b (world_past b w cs) c u e (static_range-stays_released b w cs u l h)

pub released_observer-refused : (b : Bounds) (w : World) (cs : List Command) (c : Command) (o : ℕ) → o < length w.observing.places → taken_up_to o w.observing ≡ None → observer_asked c ≡ Some o → answer b (world_past b w cs) c ≡ refused (Own NoSuchObject) (world_past b w cs)
released_observer-refused b w cs c o l h e = observer-refused b (world_past b w cs) c o e (observer-stays_released b w cs o l h)
