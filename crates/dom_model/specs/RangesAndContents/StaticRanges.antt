-- Static ranges: their making, and whether they are valid as the tree stands. DOM Standard, "Interface StaticRange".
-- A static range is never adjusted. Ours: it can be released, where the standard leaves it to garbage collection.
use Rattle.std.specs.Prelude.{ℕ, nat_le, Bool, not, ◌&&◌, ◌||◌, [], ◌∷◌, ◌++◌, Option, Some, None, slice_index_or, slice_set}
use Rattle.dom_model.specs.declared.Kind.TheVariants.{DocumentType}
use Rattle.dom_model.specs.declared.DomError.{DomError}
use Rattle.dom_model.specs.declared.DomError.TheVariants.{InvalidNodeTypeError}
use Rattle.dom_model.specs.Forests.Forest.{Forest}
use Rattle.dom_model.specs.Worlds.World.{Range, World}
use Rattle.dom_model.specs.PlainLists.Lists.{first_refusal}
use Rattle.dom_model.specs.Forests.Nodes.{is_of_kind, same_root}
use Rattle.dom_model.specs.Worlds.Lengths.{node_length}
use Rattle.dom_model.specs.RangesAndContents.Ranges.{is_before}

module _ {X : Type 0} where
  -- the refusal of a doctype as either node
  abbrev pub check_static : Forest X → ℕ → ℕ → Option DomError
  check_static f start end = first_refusal ((is_of_kind DocumentType f start || is_of_kind DocumentType f end, InvalidNodeTypeError) ∷ [])

  -- valid: of one root, both offsets within length, the start not after the end
  abbrev pub is_valid_static : (X → ℕ) → Forest X → Range → Bool
  is_valid_static measure f r =
      same_root f r.start.node r.end.node
      && ((nat_le r.start.offset (node_length measure f r.start.node) && nat_le r.end.offset (node_length measure f r.end.node))
      && not (is_before f r.end r.start))

-- a static range of the world; none where its number was not given out, or was released
abbrev pub static_at : World → ℕ → Option Range
static_at w u = slice_index_or w.static_ranges u None

-- a new static range, with the next number
abbrev pub made_static : Range → World → World
made_static range w = record w { static_ranges = w.static_ranges ++ Some range ∷ [] }

-- a static range is released; its number is not used again
abbrev pub released_static : ℕ → World → World
released_static u w = record w { static_ranges = slice_set w.static_ranges u None }
