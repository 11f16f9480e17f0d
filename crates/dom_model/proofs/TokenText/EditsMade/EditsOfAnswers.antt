-- The edits of a step that is answered leave the step's world: none where the step is refused.
use Rattle.std.proofs.Common.{◌≡◌, ℕ, Bool, true, false, if◌then◌else◌, List, [], ◌∷◌, Option, Some, None, Ok, Err, refl, sym, subst}
use Rattle.dom_model.specs.Definitions.{Range, World, Answer, Reply, Done, Dom, Own, for_range, Outcome, Step, refused, guarded, checked, no_node_given, on_range, done_or_refused, Edit, unless_refused}
use Rattle.dom_model.specs.declared.DomError.{DomError}
use Rattle.dom_model.proofs.Soundness.SoundEditing.{AreClear}
use Rattle.dom_model.proofs.TokenText.EditsMade.EditsLeave.{laid, Leave, leave-none}

-- the edits leave the step's world, unless it is refused
pub record StepLeaves (es : List Edit) (w : World) (step : Step) : Type 0 where
  pub left : Leave (unless_refused step.reply es) w step.world

-- a refusal has no edits
abbrev pub IsRefusal : Reply → Type 0
IsRefusal r = (es : List Edit) → unless_refused r es ≡ []

abbrev pub AreRefusals : List (Bool × Reply) → Type 0
AreRefusals [] = Unit {0}
AreRefusals (c ∷ cs) = IsRefusal c.1 × AreRefusals cs

-- a refusal of a test
pub no_edits : (es : List Edit) → ◌≡◌ {A = List Edit} [] []
no_edits es = refl

pub given-refusal : (n : Option ℕ) (w : World) → IsRefusal (no_node_given n w).1
given-refusal None w es = refl
given-refusal (Some n) w es = refl

pub leaves-refused : (es : List Edit) (r : Reply) (w : World) → IsRefusal r → StepLeaves es w (refused r w)
leaves-refused es r w k = record { left = subst (λ fs. Leave fs w w) (sym (k es)) (leave-none w w refl) }

pub leaves-done : (es : List Edit) (a : Answer) (w v : World) → Leave es w v → StepLeaves es w (record { reply = Done a; world = v })
leaves-done es a w v h = record { left = h }

-- what holds of refusals, and of the step where no test holds, holds of the guarded step
pub holds-guarded : (P : Step → Type 0) (cs : List (Bool × Reply)) (w : World) (step : Step) → ((r : Reply) → IsRefusal r → P (refused r w)) → AreRefusals cs → (AreClear cs → P step) → P (guarded cs w step)
holds-guarded P [] w step refusing r k = k tt
holds-guarded P (c ∷ cs) w step refusing r k = go c.0 refl (holds-guarded P cs w step refusing r.1)
  where
    go : (v : Bool) → c.0 ≡ v → ((AreClear cs → P step) → P (guarded cs w step)) → P (if v then refused c.1 w else guarded cs w step)
    go true e more = refusing c.1 r.0
    go false e more = more (λ h. k (e, h))

pub leaves-unless : (es : List Edit) (v : Bool) (r : Reply) (w : World) (step : Step) → IsRefusal r → (v ≡ false → StepLeaves es w step) → StepLeaves es w (if v then refused r w else step)
leaves-unless es true r w step i k = leaves-refused es r w i
leaves-unless es false r w step i k = k refl

pub leaves-checked : (es : List Edit) (o : Option DomError) (w : World) (step : Step) → (o ≡ None → StepLeaves es w step) → StepLeaves es w (checked o w step)
leaves-checked es None w step k = k refl
leaves-checked es (Some e) w step k = leaves-refused es (Dom e) w (λ fs. refl)

-- A step on a live range, and one of which the outcome may be a refusal.

pub leaves-on_range : (o : Option Range) (es : Range → List Edit) (w : World) (step : Range → Step) → ((range : Range) → o ≡ Some range → StepLeaves (es range) w (step range)) → StepLeaves (for_range o [] es) w (on_range o w step)
leaves-on_range None es w step k = leaves-refused [] _ w (λ fs. refl)
leaves-on_range (Some range) es w step k = k range refl

pub leaves-outcome : (es : List Edit) (o : Outcome) (w : World) → ((v : World) → o ≡ Ok v → Leave es w v) → StepLeaves es w (done_or_refused o w)
leaves-outcome es (Ok v) w k = record { left = k v refl }
leaves-outcome es (Err e) w k = leaves-refused es (Dom e) w (λ fs. refl)

-- A step without edits changes no tree and no live range.

pub record StepStays (w : World) (step : Step) : Type 0 where
  pub same : laid w ≡ laid step.world

pub leaves-nothing : (w : World) (step : Step) → StepStays w step → StepLeaves [] w step
leaves-nothing w step h = record { left = go step.reply }
  where
    go : (r : Reply) → Leave (unless_refused r []) w step.world
    go (Done a) = leave-none w step.world h.same
    go (Dom e) = leave-none w step.world h.same
    go (Own e) = leave-none w step.world h.same
