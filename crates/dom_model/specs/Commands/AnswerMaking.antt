-- The answers of the commands that make nodes. DOM Standard, "Interface Document", "Interface DOMImplementation".
use Rattle.std.specs.Prelude.{ℕ, ◌==◌, Bool, false, ◌&&◌, ◌||◌, List, [], ◌∷◌}
use Rattle.dom_model.specs.declared.Kind.TheVariants.{Element, Text, ProcessingInstruction, Comment, Document, DocumentType, DocumentFragment}
use Rattle.dom_model.specs.declared.DomError.TheVariants.{InvalidCharacterError}
use Rattle.dom_model.specs.Forests.Kinds.{Label, is_kind}
use Rattle.dom_model.specs.Forests.Names.{is_element_name, is_doctype_name}
use Rattle.dom_model.specs.Worlds.World.{World, no_content, document_label}
use Rattle.dom_model.specs.Commands.Guards.{Bounds, Step, guarded, no_node, wrong_kind, no_room, bad_name, throws, makes, named, with_text}

-- `?>` stands in the units
abbrev pub closes_instruction : List ℕ → Bool
closes_instruction [] = false
closes_instruction (u ∷ []) = false
closes_instruction (u ∷ v ∷ units) = ((u == 63) && (v == 62)) || closes_instruction (v ∷ units)

abbrev pub doctype_label : List ℕ → List ℕ → List ℕ → Label
doctype_label name public_id system_id = record { kind = DocumentType; name = name; public_id = public_id; system_id = system_id }

abbrev pub answer_new_document : Bounds → World → Step
answer_new_document b w = guarded (no_room b w.made 1 ∷ []) w (makes w.made document_label no_content w)

abbrev pub answer_create_element : Bounds → ℕ → List ℕ → World → Step
answer_create_element b d name w =
    guarded (no_node d w ∷ wrong_kind (is_kind Document) d w ∷ no_room b w.made 1 ∷ bad_name (is_element_name name) ∷ []) w
    (makes d (named Element name) no_content w)

abbrev pub answer_create_text : Bounds → ℕ → List ℕ → World → Step
answer_create_text b d text w =
    guarded (no_node d w ∷ wrong_kind (is_kind Document) d w ∷ no_room b w.made 1 ∷ []) w (makes d (named Text []) (with_text text) w)

abbrev pub answer_create_comment : Bounds → ℕ → List ℕ → World → Step
answer_create_comment b d text w =
    guarded (no_node d w ∷ wrong_kind (is_kind Document) d w ∷ no_room b w.made 1 ∷ []) w (makes d (named Comment []) (with_text text) w)

abbrev pub answer_create_instruction : Bounds → ℕ → List ℕ → List ℕ → World → Step
answer_create_instruction b d target text w =
    guarded (no_node d w
    ∷ wrong_kind (is_kind Document) d w
    ∷ no_room b w.made 1
    ∷ bad_name (is_element_name target)
    ∷ throws (closes_instruction text) InvalidCharacterError
    ∷ []) w
    (makes d (named ProcessingInstruction target) (with_text text) w)

abbrev pub answer_create_doctype : Bounds → ℕ → List ℕ → List ℕ → List ℕ → World → Step
answer_create_doctype b d name public_id system_id w =
    guarded (no_node d w ∷ wrong_kind (is_kind Document) d w ∷ no_room b w.made 1 ∷ bad_name (is_doctype_name name) ∷ []) w
    (makes d (doctype_label name public_id system_id) no_content w)

abbrev pub answer_create_fragment : Bounds → ℕ → World → Step
answer_create_fragment b d w =
    guarded (no_node d w ∷ wrong_kind (is_kind Document) d w ∷ no_room b w.made 1 ∷ []) w (makes d (named DocumentFragment []) no_content w)
