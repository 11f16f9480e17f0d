-- The answers of the commands on static ranges. DOM Standard, "Interface StaticRange".
use Rattle.std.specs.Prelude.{ℕ, [], ◌∷◌, length, Bool, Option, Some, None, is_none}
use Rattle.dom_model.specs.declared.OwnError.TheVariants.{NoSuchObject}
use Rattle.dom_model.specs.Worlds.World.{Point, Range, World}
use Rattle.dom_model.specs.Commands.Reply.{Number, StaticEnds, Reply, Done, Own}
use Rattle.dom_model.specs.Worlds.Lengths.{unit_count}
use Rattle.dom_model.specs.RangesAndContents.StaticRanges.{check_static, is_valid_static, static_at, made_static, released_static}
use Rattle.dom_model.specs.Commands.Guards.{Bounds, Step, refused, guarded, checked, no_node, no_room, answers, does}

abbrev pub no_static : ℕ → World → Bool × Reply
no_static u w = (is_none (static_at w u), Own NoSuchObject)

abbrev pub answer_create_static_range : Bounds → Point → Point → World → Step
answer_create_static_range b start end w =
    guarded (no_node start.node w ∷ no_node end.node w ∷ no_room b (length w.static_ranges) 1 ∷ []) w
    (checked (check_static w.forest start.node end.node) w
    (record { reply = Done (Number (length w.static_ranges)); world = made_static (record { start = start; end = end }) w }))

abbrev pub static_told : World → Option Range → Step
static_told w None = refused (Own NoSuchObject) w
static_told w (Some range) = answers (StaticEnds range (is_valid_static unit_count w.forest range)) w

abbrev pub answer_static_range : Bounds → ℕ → World → Step
answer_static_range b u w = guarded (no_static u w ∷ []) w (static_told w (static_at w u))

abbrev pub answer_release_static_range : Bounds → ℕ → World → Step
answer_release_static_range b u w = guarded (no_static u w ∷ []) w (does (released_static u w))
