-- The edits tell no node documents and no attributes: where a node is adopted, or an attribute set, they leave these as they were.
use Rattle.std.proofs.Common.{◌≡◌, refl, [], ◌∷◌, length}
use Rattle.dom_model.specs.Definitions.{World, first_world, Command, NewDocument, CreateElement, AdoptNode, SetAttribute, node_document, attributes_of, all_on_world, Bounds, answer, edits_of, world_past}

abbrev bounds : Bounds
bounds = record { numbers = 4294967295; line = 1048576 }

-- two Documents, 0 and 1, and an element of the first
abbrev two_documents : World
two_documents = world_past bounds first_world (NewDocument ∷ CreateElement 0 (112 ∷ []) ∷ [])

abbrev adopting : Command
adopting = AdoptNode 1 2

pub edits_of_adopting : edits_of bounds two_documents adopting ≡ []
edits_of_adopting = refl

pub document_before : node_document (all_on_world (edits_of bounds two_documents adopting) two_documents) 2 ≡ 0
document_before = refl

pub document_after : node_document (answer bounds two_documents adopting).world 2 ≡ 1
document_after = refl

-- an attribute of an element
abbrev setting : Command
setting = SetAttribute 2 (97 ∷ []) (98 ∷ [])

pub edits_of_setting : edits_of bounds two_documents setting ≡ []
edits_of_setting = refl

pub attributes_before : length (attributes_of (all_on_world (edits_of bounds two_documents setting) two_documents) 2) ≡ 0
attributes_before = refl

pub attributes_after : length (attributes_of (answer bounds two_documents setting).world 2) ≡ 1
attributes_after = refl
