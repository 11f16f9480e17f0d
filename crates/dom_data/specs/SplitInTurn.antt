-- A split in the order of the code: an empty Text comes in, the change is noted, then what is beyond the offset goes over, and ends move. Ours.
use Rattle.std.specs.Prelude.{ℕ, false, List, [], length, Option, None, Some}
use Rattle.dom_model.specs.declared.Kind.TheVariants.{Text}
use Rattle.dom_model.specs.Forests.Forest.{parent_of, next_of, index_of, with_node}
use Rattle.dom_model.specs.Forests.Texts.{spliced}
use Rattle.dom_model.specs.Worlds.World.{Range, World}
use Rattle.dom_model.specs.BoundaryPoints.Points.{map_ranges, after_splice, after_split}
use Rattle.dom_model.specs.MutationAlgorithms.Editing.{insert, node_document}
use Rattle.dom_model.specs.Worlds.Making.{made_node, named, with_text}
use Rattle.dom_model.specs.DataAndCopies.Data.{data_of, data_record, tail_of, with_data}

abbrev pub put_behind : ℕ → ℕ → Option ℕ → World → World
put_behind n new None w = w
put_behind n new (Some parent) w = insert false new parent (next_of w.forest n) w

abbrev pub ends_behind : ℕ → ℕ → ℕ → Option ℕ → World → List (Option Range)
ends_behind n offset new None w = w.ranges
ends_behind n offset new (Some parent) w = map_ranges (after_split n offset new parent (index_of w.forest n)) w.ranges

abbrev pub tail_moved : ℕ → ℕ → ℕ → Option ℕ → List ℕ → World → World
tail_moved n offset new parent tail w = record w {
  forest = with_node new (with_data tail) (with_node n (with_data (spliced offset (length tail) [] (data_of w n))) w.forest);
  ranges = map_ranges (after_splice n offset (length tail) 0) (ends_behind n offset new parent w);
}

abbrev pub split_in_turn : ℕ → ℕ → World → World
split_in_turn n offset w =
    let made = made_node (node_document w n) (named Text []) (with_text []) w in
    tail_moved n offset w.made (parent_of w.forest n) (tail_of w n offset) (data_record n (put_behind n w.made (parent_of w.forest n) made))
