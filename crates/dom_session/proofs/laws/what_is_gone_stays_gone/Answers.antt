use Rattle.std.proofs.Common.{◌≡◌, ℕ, false, Option, Some, None, refl, ap, is_some}
use Rattle.dom_model.specs.Definitions.{taken_up_to}
use Rattle.dom_model.proofs.Counting.NumbersStay.{node-stays_gone, node-is_new, range-stays_released, iterator-stays_released, walker-stays_released, static_range-stays_released, observer-stays_released}
use Rattle.dom_session.proofs.laws.what_is_gone_stays_gone.Goals as goal

-- what is not there is none
none-there : {A : Type 0} (o : Option A) → is_some o ≡ false → o ≡ None
none-there None h = refl
none-there (Some a) h = absurd (cc h)

pub returns : goal.returns
returns c = record {
  nodes = λ b w cs n given gone there. node-stays_gone b w cs n given gone there;
  new_nodes = λ b w cs n gone there. node-is_new b w cs n gone there;
  ranges = λ b w cs r given released. range-stays_released b w cs r given released;
  iterators = λ b w cs i given released. iterator-stays_released b w cs i given released;
  walkers = λ b w cs k given released. walker-stays_released b w cs k given released;
  static_ranges = λ b w cs u given released. static_range-stays_released b w cs u given released;
  observers = λ b w cs o given released. ap (λ (p : Option ℕ). is_some p) (observer-stays_released b w cs o given (none-there (taken_up_to o w.observing) released));
}
