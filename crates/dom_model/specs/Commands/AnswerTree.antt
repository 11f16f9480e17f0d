-- The answers of the commands on the tree: edits, copies and questions.
-- DOM Standard, "Interface Node", "Interface Document", "Interface ParentNode", "Interface ChildNode".
use Rattle.std.specs.Prelude.{ℕ, Bool, false, not, ◌||◌, List, [], ◌∷◌, Option, Some, None}
use Rattle.dom_model.specs.declared.Kind.{Kind}
use Rattle.dom_model.specs.declared.Kind.TheVariants.{Document, DocumentFragment}
use Rattle.dom_model.specs.declared.DomError.{DomError}
use Rattle.dom_model.specs.declared.DomError.TheVariants.{NotFoundError, NotSupportedError}
use Rattle.dom_model.specs.declared.OwnError.TheVariants.{NoSuchObject}
use Rattle.dom_model.specs.PlainLists.Lists.{is_number}
use Rattle.dom_model.specs.Forests.Kinds.{is_kind, may_be_parent}
use Rattle.dom_model.specs.Forests.Arena.{Entry}
use Rattle.dom_model.specs.Forests.Forest.{Node, entry_in, parent_of, children_of, next_of, previous_of, index_of}
use Rattle.dom_model.specs.Worlds.World.{Content, World}
use Rattle.dom_model.specs.Commands.Reply.{Number, Numbers, Flag, MaybeUnits, NodeAt, Rows, Done, Own}
use Rattle.dom_model.specs.MutationAlgorithms.Checks.{if_given, check_insert, check_replace}
use Rattle.dom_model.specs.Forests.Nodes.{is_of_kind}
use Rattle.dom_model.specs.MutationAlgorithms.Editing.{remove, pre_insert, append, replace, replace_all, adopt}
use Rattle.dom_model.specs.Worlds.Lengths.{length_at}
use Rattle.dom_model.specs.DataAndCopies.Data.{normalize, text_content, set_text_content}
use Rattle.dom_model.specs.DataAndCopies.Clones.{clone_node, import_node, is_equal, position, contains, root_number}
use Rattle.dom_model.specs.Commands.Guards.{Bounds, Step, refused, guarded, checked, no_node, no_node_given, wrong_kind, no_room, no_room_for_copies, throws, answers, does, tree_rows}

-- a step that answers a node's number
abbrev pub gives : ℕ → World → Step
gives n w = record { reply = Done (Number n); world = w }

-- a kind that can be removed by itself
abbrev pub is_child_node : Kind → Bool
is_child_node k = not (is_kind k Document || is_kind k DocumentFragment)

abbrev pub answer_insert_before : Bounds → ℕ → ℕ → Option ℕ → World → Step
answer_insert_before b p n c w =
    guarded (no_node p w ∷ no_node n w ∷ no_node_given c w ∷ []) w
    (checked (check_insert w.forest p n c) w (gives n (pre_insert n p c w)))

abbrev pub answer_append_child : Bounds → ℕ → ℕ → World → Step
answer_append_child b p n w =
    guarded (no_node p w ∷ no_node n w ∷ []) w (checked (check_insert w.forest p n None) w (gives n (append n p w)))

abbrev pub answer_replace_child : Bounds → ℕ → ℕ → ℕ → World → Step
answer_replace_child b p n c w =
    guarded (no_node p w ∷ no_node n w ∷ no_node c w ∷ []) w
    (checked (check_replace w.forest p n c) w (gives c (replace c n p w)))

abbrev pub answer_remove_child : Bounds → ℕ → ℕ → World → Step
answer_remove_child b p c w =
    guarded (no_node p w ∷ no_node c w ∷ throws (not (is_number (parent_of w.forest c) p)) NotFoundError ∷ []) w
    (gives c (remove false c w))

abbrev pub answer_remove : Bounds → ℕ → World → Step
answer_remove b n w = guarded (no_node n w ∷ wrong_kind is_child_node n w ∷ []) w (does (remove false n w))

-- a node is checked as one to be put in last, before the children go
abbrev pub check_replace_children : World → ℕ → Option ℕ → Option DomError
check_replace_children w p None = None
check_replace_children w p (Some n) = check_insert w.forest p n None

abbrev pub answer_replace_children : Bounds → ℕ → Option ℕ → World → Step
answer_replace_children b p n w =
    guarded (no_node p w ∷ no_node_given n w ∷ wrong_kind may_be_parent p w ∷ []) w
    (checked (check_replace_children w p n) w (does (replace_all n p w)))

abbrev pub answer_adopt_node : Bounds → ℕ → ℕ → World → Step
answer_adopt_node b d n w =
    guarded (no_node d w
    ∷ no_node n w
    ∷ wrong_kind (is_kind Document) d w
    ∷ throws (is_of_kind Document w.forest n) NotSupportedError
    ∷ []) w
    (gives n (adopt n d w))

abbrev pub answer_import_node : Bounds → ℕ → ℕ → Bool → World → Step
answer_import_node b d n deep w =
    guarded (no_node d w
    ∷ no_node n w
    ∷ wrong_kind (is_kind Document) d w
    ∷ no_room_for_copies b w
    ∷ throws (is_of_kind Document w.forest n) NotSupportedError
    ∷ []) w
    (gives w.made (import_node d deep n w))

abbrev pub answer_clone_node : Bounds → ℕ → Bool → World → Step
answer_clone_node b n deep w = guarded (no_node n w ∷ no_room_for_copies b w ∷ []) w (gives w.made (clone_node deep n w))

abbrev pub answer_normalize : Bounds → ℕ → World → Step
answer_normalize b n w = guarded (no_node n w ∷ []) w (does (normalize n w))

abbrev pub described : World → ℕ → Option (Entry (Node Content)) → Step
described w n None = refused (Own NoSuchObject) w
described w n (Some e) = answers (NodeAt (record {
  document = e.value.document;
  label = e.value.label;
  next = next_of w.forest n;
  parent = e.parent;
  previous = previous_of w.forest n;
})) w

abbrev pub answer_node : Bounds → ℕ → World → Step
answer_node b n w = guarded (no_node n w ∷ []) w (described w n (entry_in w.forest n))

abbrev pub answer_children : Bounds → ℕ → World → Step
answer_children b n w = guarded (no_node n w ∷ []) w (answers (Numbers (children_of w.forest n)) w)

abbrev pub answer_index : Bounds → ℕ → World → Step
answer_index b n w = guarded (no_node n w ∷ []) w (answers (Number (index_of w.forest n)) w)

abbrev pub answer_length : Bounds → ℕ → World → Step
answer_length b n w = guarded (no_node n w ∷ []) w (answers (Number (length_at w n)) w)

abbrev pub answer_root : Bounds → ℕ → World → Step
answer_root b n w = guarded (no_node n w ∷ []) w (answers (Number (root_number w.forest n)) w)

abbrev pub answer_contains : Bounds → ℕ → Option ℕ → World → Step
answer_contains b n m w = guarded (no_node n w ∷ no_node_given m w ∷ []) w (answers (Flag (if_given (contains w.forest n) m)) w)

abbrev pub answer_is_equal : Bounds → ℕ → Option ℕ → World → Step
answer_is_equal b n m w = guarded (no_node n w ∷ no_node_given m w ∷ []) w (answers (Flag (if_given (is_equal w.forest n) m)) w)

abbrev pub answer_compare_position : Bounds → ℕ → ℕ → World → Step
answer_compare_position b n m w = guarded (no_node n w ∷ no_node m w ∷ []) w (answers (Number (position w.forest n m)) w)

abbrev pub answer_text_content : Bounds → ℕ → World → Step
answer_text_content b n w = guarded (no_node n w ∷ []) w (answers (MaybeUnits (text_content w n)) w)

abbrev pub answer_set_text_content : Bounds → ℕ → List ℕ → World → Step
answer_set_text_content b n text w = guarded (no_node n w ∷ no_room b w.made 1 ∷ []) w (does (set_text_content n text w))

abbrev pub answer_tree : Bounds → ℕ → World → Step
answer_tree b n w = guarded (no_node n w ∷ []) w (answers (Rows (tree_rows w.forest n)) w)
