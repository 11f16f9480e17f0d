-- The commands without edits change no tree, no data and no live range; attributes alone are not told by edits.
use Rattle.std.proofs.Common.{◌≡◌, ℕ, Bool, true, false, List, [], ◌∷◌, Option, Some, None, refl}
use Rattle.dom_model.specs.Definitions.{Entry, Node, Content, Range, World, Reply, Step, guarded, checked, described, on_range, with_object, static_told}
use Rattle.dom_model.specs.declared.DomError.{DomError}
use Rattle.dom_model.proofs.TokenText.{EditsMade.EditsLeave.laid, EditsMade.EditsOfAnswers.StepStays, EditsMade.EditsOfAnswers.leaves-nothing}

pub stays-step : (r : Reply) (w v : World) → laid w ≡ laid v → StepStays w (record { reply = r; world = v })
stays-step r w v e = record { same = e }

pub stays-guarded : (cs : List (Bool × Reply)) (w : World) (step : Step) → StepStays w step → StepStays w (guarded cs w step)
stays-guarded [] w step h = h
stays-guarded ((true, r) ∷ cs) w step h = record { same = refl }
stays-guarded ((false, r) ∷ cs) w step h = stays-guarded cs w step h

pub stays-checked : (e : Option DomError) (w : World) (step : Step) → StepStays w step → StepStays w (checked e w step)
stays-checked None w step h = h
stays-checked (Some e) w step h = record { same = refl }

pub stays-on_range : (o : Option Range) (w : World) (step : Range → Step) → ((range : Range) → StepStays w (step range)) → StepStays w (on_range o w step)
stays-on_range None w step h = record { same = refl }
stays-on_range (Some range) w step h = h range

pub stays-object : {A : Type 0} (o : Option A) (w : World) (step : A → Step) → ((a : A) → StepStays w (step a)) → StepStays w (with_object o w step)
stays-object None w step h = record { same = refl }
stays-object (Some a) w step h = h a

pub stays-described : (n : ℕ) (e : Option (Entry (Node Content))) (w : World) → StepStays w (described w n e)
stays-described n None w = record { same = refl }
stays-described n (Some e) w = record { same = refl }

pub stays-static : (o : Option Range) (w : World) → StepStays w (static_told w o)
stays-static None w = record { same = refl }
stays-static (Some range) w = record { same = refl }

pub ruleset stays = (leaves-nothing, stays-step, stays-guarded, stays-checked, stays-on_range, stays-object, stays-described, stays-static, refl)
