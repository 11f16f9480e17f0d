-- The options of an observer, as they are given. DOM Standard, "Interface MutationObserver".
use Rattle.std.specs.Prelude.{ℕ, Bool, List, Option, None}

-- the members of an observer's options, each where it is given
pub record GivenOptions : Type 0 where
  pub child_list : Option Bool
  pub attributes : Option Bool
  pub character_data : Option Bool
  pub subtree : Option Bool
  pub attribute_old_value : Option Bool
  pub character_data_old_value : Option Bool
  pub attribute_filter : Option (List (List ℕ))

abbrev pub no_options : GivenOptions
no_options = record {
  child_list = None;
  attributes = None;
  character_data = None;
  subtree = None;
  attribute_old_value = None;
  character_data_old_value = None;
  attribute_filter = None;
}
