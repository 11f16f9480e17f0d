-- The answers of the commands on data and on attributes. DOM Standard, "Interface CharacterData", "Interface Text", "Interface Element".
use Rattle.std.specs.Prelude.{ℕ, List, [], ◌∷◌, Bool, Option}
use Rattle.dom_model.specs.declared.Kind.TheVariants.{Element, Text}
use Rattle.dom_model.specs.Forests.Kinds.{is_kind, is_character_data}
use Rattle.dom_model.specs.Forests.Names.{is_attribute_name}
use Rattle.dom_model.specs.Forests.Attributes.{attribute_value, attribute_names}
use Rattle.dom_model.specs.Worlds.World.{World}
use Rattle.dom_model.specs.Commands.Reply.{Number, Flag, Units, MaybeUnits, Names, Done}
use Rattle.dom_model.specs.Worlds.Lengths.{length_at}
use Rattle.dom_model.specs.DataAndCopies.Data.{data_of, attributes_of, check_offset, replace_data, set_data, substring_data, split, set_attribute, has_attribute, remove_attribute, is_toggled_on, toggle_attribute}
use Rattle.dom_model.specs.Commands.Guards.{Bounds, Step, guarded, checked, no_node, wrong_kind, no_room, bad_name, answers, does}

abbrev pub answer_data : Bounds → ℕ → World → Step
answer_data b x w = guarded (no_node x w ∷ wrong_kind is_character_data x w ∷ []) w (answers (Units (data_of w x)) w)

abbrev pub answer_set_data : Bounds → ℕ → List ℕ → World → Step
answer_set_data b x text w = guarded (no_node x w ∷ wrong_kind is_character_data x w ∷ []) w (does (set_data x text w))

abbrev pub answer_replace_data : Bounds → ℕ → ℕ → ℕ → List ℕ → World → Step
answer_replace_data b x offset count text w =
    guarded (no_node x w ∷ wrong_kind is_character_data x w ∷ []) w
    (checked (check_offset w x offset) w (does (replace_data x offset count text w)))

abbrev pub answer_append_data : Bounds → ℕ → List ℕ → World → Step
answer_append_data b x text w = answer_replace_data b x (length_at w x) 0 text w

abbrev pub answer_insert_data : Bounds → ℕ → ℕ → List ℕ → World → Step
answer_insert_data b x offset text w = answer_replace_data b x offset 0 text w

abbrev pub answer_delete_data : Bounds → ℕ → ℕ → ℕ → World → Step
answer_delete_data b x offset count w = answer_replace_data b x offset count [] w

abbrev pub answer_substring_data : Bounds → ℕ → ℕ → ℕ → World → Step
answer_substring_data b x offset count w =
    guarded (no_node x w ∷ wrong_kind is_character_data x w ∷ []) w
    (checked (check_offset w x offset) w (answers (Units (substring_data w x offset count)) w))

abbrev pub answer_split_text : Bounds → ℕ → ℕ → World → Step
answer_split_text b t offset w =
    guarded (no_node t w ∷ wrong_kind (is_kind Text) t w ∷ no_room b w.made 1 ∷ []) w
    (checked (check_offset w t offset) w (record { reply = Done (Number w.made); world = split t offset w }))

abbrev pub answer_set_attribute : Bounds → ℕ → List ℕ → List ℕ → World → Step
answer_set_attribute b e name value w =
    guarded (no_node e w ∷ wrong_kind (is_kind Element) e w ∷ bad_name (is_attribute_name name) ∷ []) w
    (does (set_attribute e name value w))

abbrev pub answer_get_attribute : Bounds → ℕ → List ℕ → World → Step
answer_get_attribute b e name w =
    guarded (no_node e w ∷ wrong_kind (is_kind Element) e w ∷ []) w (answers (MaybeUnits (attribute_value name (attributes_of w e))) w)

abbrev pub answer_has_attribute : Bounds → ℕ → List ℕ → World → Step
answer_has_attribute b e name w =
    guarded (no_node e w ∷ wrong_kind (is_kind Element) e w ∷ []) w (answers (Flag (has_attribute w e name)) w)

abbrev pub answer_remove_attribute : Bounds → ℕ → List ℕ → World → Step
answer_remove_attribute b e name w =
    guarded (no_node e w ∷ wrong_kind (is_kind Element) e w ∷ []) w (does (remove_attribute e name w))

-- the answer tells whether the attribute is there afterwards
abbrev pub answer_toggle_attribute : Bounds → ℕ → List ℕ → Option Bool → World → Step
answer_toggle_attribute b e name force w =
    guarded (no_node e w ∷ wrong_kind (is_kind Element) e w ∷ bad_name (is_attribute_name name) ∷ []) w
    (record { reply = Done (Flag (is_toggled_on force (has_attribute w e name))); world = toggle_attribute e name force w })

abbrev pub answer_attribute_names : Bounds → ℕ → World → Step
answer_attribute_names b e w =
    guarded (no_node e w ∷ wrong_kind (is_kind Element) e w ∷ []) w (answers (Names (attribute_names (attributes_of w e))) w)
