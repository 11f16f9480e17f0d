-- Descriptions leave the world as it is, and the commands of static ranges with one range more that is never adjusted, or without it.
use Rattle.std.proofs.Common.{ℕ, [], ◌∷◌, length, Option, Some, None, IfSome, All, List}
use Rattle.std.proofs.lemmas.List.Elements.{All-set, All-push}
use Rattle.dom_model.specs.Definitions.{Entry, Node, Content, Point, Range, World, Number, Done, check_static, made_static, released_static, Bounds, Step, checked, no_node, no_room, does, described, no_static, static_told, answer_create_static_range, answer_release_static_range, AreHeld, IsSound}
use Rattle.dom_model.proofs.Forests.Entries.{HasNode-occurs}
use Rattle.dom_model.proofs.Soundness.SoundGuards.{sound-guarded, sound-checked, there_unless}

-- a node or a static range that is described
pub sound-described : (w : World) (n : ℕ) (o : Option (Entry (Node Content))) → IsSound w → IsSound (described w n o).world
sound-described w n None s = s
sound-described w n (Some e) s = s

pub sound-static_told : (w : World) (o : Option Range) → IsSound w → IsSound (static_told w o).world
sound-static_told w None s = s
sound-static_told w (Some range) s = s

pub ruleset described_steps = (sound-described, sound-static_told)

sound-with_statics : (xs : List (Option Range)) (w : World) → IsSound w → All (λ (x : Option Range). IfSome x (AreHeld w.forest)) xs → IsSound (record w { static_ranges = xs })
sound-with_statics xs w s h = record { forest = s.forest; ranges = s.ranges; iterators = s.iterators; walkers = s.walkers; registrations = s.registrations; statics = h }

module _ (b : Bounds) (w : World) (s : IsSound w) where
  pub sound-create_static_range : (start end : Point) → IsSound (answer_create_static_range b start end w).world
  sound-create_static_range start end =
      let step : Step = record { reply = Done (Number (length w.static_ranges)); world = made_static (record { start = start; end = end }) w } in
      sound-guarded (no_node start.node w ∷ no_node end.node w ∷ no_room b (length w.static_ranges) 1 ∷ []) w (checked (check_static w.forest start.node end.node) w step) s
      (λ h. sound-checked (check_static w.forest start.node end.node) w step s
      (λ _. sound-with_statics _ w s (All-push (λ (x : Option Range). IfSome x (AreHeld w.forest)) w.static_ranges (Some (record { start = start; end = end })) s.statics
      (record { start = HasNode-occurs w.forest start.node (there_unless w.forest start.node h.0); end = HasNode-occurs w.forest end.node (there_unless w.forest end.node h.1.0) }))))

  pub sound-release_static_range : (u : ℕ) → IsSound (answer_release_static_range b u w).world
  sound-release_static_range u =
      sound-guarded (no_static u w ∷ []) w (does (released_static u w)) s
      (λ _. sound-with_statics _ w s (All-set (λ (x : Option Range). IfSome x (AreHeld w.forest)) w.static_ranges u None tt s.statics))
