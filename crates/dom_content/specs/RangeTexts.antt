-- The text of a range, piece by piece. DOM Standard, "Interface Range", stringification.
use Rattle.std.specs.Prelude.{ℕ, ◌-◌, ◌&&◌, if◌then◌else◌, List, [], length, flat_map}
use Rattle.dom_model.specs.declared.Kind.TheVariants.{Text}
use Rattle.dom_model.specs.Forests.Forest.{Forest, entry_in, numbers}
use Rattle.dom_model.specs.Worlds.Lengths.{unit_count}
use Rattle.dom_model.specs.Forests.Texts.{substring}
use Rattle.dom_model.specs.Worlds.World.{Content, Point, Range}
use Rattle.dom_model.specs.Forests.Nodes.{is_of_kind}
use Rattle.dom_model.specs.RangesAndContents.Ranges.{is_contained}
use Rattle.dom_model.specs.DataAndCopies.Data.{content_in}

-- a part of the data of a Text; nothing of another node
abbrev pub part_of : Forest Content → ℕ → ℕ → ℕ → List ℕ
part_of f n offset count = if is_of_kind Text f n then substring offset count (content_in (entry_in f n)).text else []

-- the data of a Text from a point on; nothing of another node
abbrev pub part_behind : Forest Content → Point → List ℕ
part_behind f p = part_of f p.node p.offset (length (content_in (entry_in f p.node)).text - p.offset)

-- the data of a Text that is contained in a range; nothing of another node
abbrev pub text_within : Forest Content → Range → ℕ → List ℕ
text_within f r n = if is_of_kind Text f n && is_contained unit_count f r n then (content_in (entry_in f n)).text else []

-- the data of all Texts that are contained in a range, in tree order
abbrev pub texts_within : Forest Content → Range → List ℕ
texts_within f r = flat_map (text_within f r) (numbers f)
