-- Without a command that is refused every other reply stays as it is, and so without a line that is refused. Ours.
use Rattle.std.proofs.Common.{◌≡◌, ℕ, true, List, [], ◌∷◌, ◌++◌, length, Result, Ok, Err, refl, ap, sym, remove}
use Rattle.dom_model.specs.Definitions.{World, first_world, Reply, is_refusal, Command, Bounds, answer, world_past, replies_to, reply_line, Row, step_of, line_step, replies_from, world_after, command_within}
use Rattle.dom_model.specs.declared.OwnError.{OwnError}
use Rattle.dom_model.proofs.Commands.RefusalsLeave.{refused-leaves}

-- from any world, in any list
refused-dropped_from : (b : Bounds) (w : World) (cs : List Command) (c : Command) (ds : List Command) → is_refusal (answer b (world_past b w cs) c).reply ≡ true → replies_to b w (cs ++ ds) ≡ remove (replies_to b w (cs ++ c ∷ ds)) (length cs)
refused-dropped_from b w [] c ds h = sym (ap (λ v. replies_to b v ds) (refused-leaves b w c h))
refused-dropped_from b w (x ∷ cs) c ds h = ap (λ (rs : List Reply). (answer b w x).reply ∷ rs) (refused-dropped_from b (answer b w x).world cs c ds h)

pub refused-dropped : (b : Bounds) (cs : List Command) (c : Command) (ds : List Command) → is_refusal (answer b (world_past b first_world cs) c).reply ≡ true → replies_to b first_world (cs ++ ds) ≡ remove (replies_to b first_world (cs ++ c ∷ ds)) (length cs)
refused-dropped b cs c ds h = refused-dropped_from b first_world cs c ds h

-- Lines.

-- a line that is refused leaves the world, whether its form is refused or its command
pub refused_line-leaves : (table : List Row) (b : Bounds) (w : World) (line : List ℕ) → is_refusal (line_step table b w line).reply ≡ true → (line_step table b w line).world ≡ w
refused_line-leaves table b w line h = go (command_within table b.line line) h
  where
    go : (read : Result Command OwnError) → is_refusal (step_of b read w).reply ≡ true → (step_of b read w).world ≡ w
    go (Ok c) k = refused-leaves b w c k
    go (Err e) k = refl

refused_line-dropped_from : (table : List Row) (b : Bounds) (w : World) (before : List (List ℕ)) (line : List ℕ) (after : List (List ℕ)) → is_refusal (line_step table b (world_after table b w before) line).reply ≡ true → replies_from table b w (before ++ after) ≡ remove (replies_from table b w (before ++ line ∷ after)) (length before)
refused_line-dropped_from table b w [] line after h = sym (ap (λ v. replies_from table b v after) (refused_line-leaves table b w line h))
refused_line-dropped_from table b w (x ∷ before) line after h = ap (λ (rs : List (List ℕ)). reply_line (line_step table b w x).reply ∷ rs) (refused_line-dropped_from table b (line_step table b w x).world before line after h)

pub refused_line-dropped : (table : List Row) (b : Bounds) (before : List (List ℕ)) (line : List ℕ) (after : List (List ℕ)) → is_refusal (line_step table b (world_after table b first_world before) line).reply ≡ true → replies_from table b first_world (before ++ after) ≡ remove (replies_from table b first_world (before ++ line ∷ after)) (length before)
refused_line-dropped table b before line after h = refused_line-dropped_from table b first_world before line after h
