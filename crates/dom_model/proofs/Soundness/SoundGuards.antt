-- What the refusals of a command tell of the step that they let through.
use Rattle.std.proofs.Common.{◌≡◌, ℕ, ◌<◌, Bool, true, false, not, if◌then◌else◌, List, [], ◌∷◌, Option, Some, None, is_none, refl, arith}
use Rattle.std.proofs.lemmas.Bool.{not-false}
use Rattle.dom_model.specs.Definitions.{Forest, occurs, entry_in, Content, World, Reply, Step, refused, guarded, checked, IsSound}
use Rattle.dom_model.specs.declared.DomError.{DomError}
use Rattle.dom_model.proofs.Forests.Entries.{entry_under-absent}
use Rattle.dom_model.proofs.Soundness.SoundEditing.{AreClear}

-- a step that is taken where no refusal holds
pub sound-guarded : (cs : List (Bool × Reply)) (w : World) (step : Step) → IsSound w → (AreClear cs → IsSound step.world) → IsSound (guarded cs w step).world
sound-guarded [] w step s k = k tt
sound-guarded (c ∷ cs) w step s k = go c.0 refl (sound-guarded cs w step s)
  where
    go : (v : Bool) → c.0 ≡ v → ((AreClear cs → IsSound step.world) → IsSound (guarded cs w step).world) → IsSound (if v then refused c.1 w else guarded cs w step).world
    go true e more = s
    go false e more = more (λ h. k (e, h))

pub sound-checked : (o : Option DomError) (w : World) (step : Step) → IsSound w → (o ≡ None → IsSound step.world) → IsSound (checked o w step).world
sound-checked None w step s k = k refl
sound-checked (Some e) w step s k = s

pub there_unless : (f : Forest Content) (n : ℕ) → is_none (entry_in f n) ≡ false → 0 < occurs n f
there_unless f n h = grind (arith, entry_under-absent None n f)

pub passes_unless : (v : Bool) → not v ≡ false → v ≡ true
passes_unless = not-false
