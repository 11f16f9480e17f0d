-- The answer to a command: its refusals in their order, then its meaning.
use Rattle.dom_model.specs.Worlds.World.{World}
use Rattle.dom_model.specs.Commands.Command.{Command, NewDocument, CreateElement, CreateText, CreateComment, CreatePI, CreateDoctype, CreateFragment, InsertBefore, AppendChild, AdoptNode, ReplaceChild, RemoveChild, Remove, ReplaceChildren, ImportNode, CloneNode, Normalize, DescribeNode, Children, Index, Length, Root, IsContaining, IsEqual, ComparePosition, TextContent, SetTextContent, Tree, GetData, SetData, AppendData, InsertData, DeleteData, ReplaceData, SubstringData, SplitText, SetAttribute, GetAttribute, HasAttribute, RemoveAttribute, ToggleAttribute, AttributeNames, CreateRange, CloneRange, DescribeRange, SetStart, SetEnd, SetStartBefore, SetStartAfter, SetEndBefore, SetEndAfter, Collapse, SelectNode, SelectNodeContents, CompareBoundaryPoints, ComparePoint, IsPointInRange, IntersectsNode, CommonAncestor, RangeText, DeleteContents, ExtractContents, CloneContents, InsertNode, SurroundContents, ReleaseRange, CreateIterator, CreateWalker, DescribeIterator, NextNode, PreviousNode, DescribeWalker, SetCurrent, Walk, CreateObserver, Observe, Disconnect, TakeRecords, Notify, Pending, Discard, CreateStaticRange, DescribeStaticRange, ReleaseIterator, ReleaseWalker, ReleaseStaticRange, ReleaseObserver, TakePending, TellObserver}
use Rattle.dom_model.specs.Commands.AnswerMaking.{answer_new_document, answer_create_element, answer_create_text, answer_create_comment, answer_create_instruction, answer_create_doctype, answer_create_fragment}
use Rattle.dom_model.specs.Commands.AnswerTree.{answer_insert_before, answer_append_child, answer_replace_child, answer_remove_child, answer_remove, answer_replace_children, answer_adopt_node, answer_import_node, answer_clone_node, answer_normalize, answer_node, answer_children, answer_index, answer_length, answer_root, answer_contains, answer_is_equal, answer_compare_position, answer_text_content, answer_set_text_content, answer_tree}
use Rattle.dom_model.specs.Commands.AnswerData.{answer_data, answer_set_data, answer_replace_data, answer_append_data, answer_insert_data, answer_delete_data, answer_substring_data, answer_split_text, answer_set_attribute, answer_get_attribute, answer_has_attribute, answer_remove_attribute, answer_toggle_attribute, answer_attribute_names}
use Rattle.dom_model.specs.Commands.AnswerRanges.{answer_create_range, answer_clone_range, answer_range, answer_release_range, answer_set_start, answer_set_end, answer_set_start_before, answer_set_start_after, answer_set_end_before, answer_set_end_after, answer_collapse, answer_select_node, answer_select_node_contents, answer_compare_boundary_points, answer_compare_point, answer_is_point_in_range, answer_intersects_node, answer_common_ancestor, answer_range_text, answer_delete_contents, answer_extract_contents, answer_clone_contents, answer_insert_node, answer_surround_contents}
use Rattle.dom_model.specs.Commands.AnswerTraversal.{answer_create_iterator, answer_create_walker, answer_iterator, answer_next_node, answer_previous_node, answer_walker, answer_set_current, answer_walk, answer_release_iterator, answer_release_walker}
use Rattle.dom_model.specs.Commands.AnswerObserving.{answer_create_observer, answer_observe, answer_disconnect, answer_take_records, answer_notify, answer_pending, answer_release_observer, answer_take_pending, answer_tell_observer}
use Rattle.dom_model.specs.Commands.AnswerStatic.{answer_create_static_range, answer_static_range, answer_release_static_range}
use Rattle.dom_model.specs.Commands.AnswerDiscard.{answer_discard}
pub use Rattle.dom_model.specs.Commands.Guards.{Bounds, Step, refused, guarded, checked, no_node, wrong_kind, no_room, bad_name, made_node, makes, named, with_text, answers, tree_row, tree_rows}

abbrev pub answer : Bounds → World → Command → Step
answer b w NewDocument = answer_new_document b w
answer b w (CreateElement d name) = answer_create_element b d name w
answer b w (CreateText d text) = answer_create_text b d text w
answer b w (CreateComment d text) = answer_create_comment b d text w
answer b w (CreatePI d target text) = answer_create_instruction b d target text w
answer b w (CreateDoctype d name public_id system_id) = answer_create_doctype b d name public_id system_id w
answer b w (CreateFragment d) = answer_create_fragment b d w
answer b w (InsertBefore p n c) = answer_insert_before b p n c w
answer b w (AppendChild p n) = answer_append_child b p n w
answer b w (ReplaceChild p n c) = answer_replace_child b p n c w
answer b w (RemoveChild p c) = answer_remove_child b p c w
answer b w (Remove n) = answer_remove b n w
answer b w (ReplaceChildren p n) = answer_replace_children b p n w
answer b w (AdoptNode d n) = answer_adopt_node b d n w
answer b w (ImportNode d n deep) = answer_import_node b d n deep w
answer b w (CloneNode n deep) = answer_clone_node b n deep w
answer b w (Normalize n) = answer_normalize b n w
answer b w (DescribeNode n) = answer_node b n w
answer b w (Children n) = answer_children b n w
answer b w (Index n) = answer_index b n w
answer b w (Length n) = answer_length b n w
answer b w (Root n) = answer_root b n w
answer b w (IsContaining n m) = answer_contains b n m w
answer b w (IsEqual n m) = answer_is_equal b n m w
answer b w (ComparePosition n m) = answer_compare_position b n m w
answer b w (TextContent n) = answer_text_content b n w
answer b w (SetTextContent n text) = answer_set_text_content b n text w
answer b w (Tree n) = answer_tree b n w
answer b w (GetData x) = answer_data b x w
answer b w (SetData x text) = answer_set_data b x text w
answer b w (AppendData x text) = answer_append_data b x text w
answer b w (InsertData x offset text) = answer_insert_data b x offset text w
answer b w (DeleteData x offset count) = answer_delete_data b x offset count w
answer b w (ReplaceData x offset count text) = answer_replace_data b x offset count text w
answer b w (SubstringData x offset count) = answer_substring_data b x offset count w
answer b w (SplitText t offset) = answer_split_text b t offset w
answer b w (SetAttribute e name value) = answer_set_attribute b e name value w
answer b w (GetAttribute e name) = answer_get_attribute b e name w
answer b w (HasAttribute e name) = answer_has_attribute b e name w
answer b w (RemoveAttribute e name) = answer_remove_attribute b e name w
answer b w (ToggleAttribute e name force) = answer_toggle_attribute b e name force w
answer b w (AttributeNames e) = answer_attribute_names b e w
answer b w (CreateRange d) = answer_create_range b d w
answer b w (CloneRange r) = answer_clone_range b r w
answer b w (DescribeRange r) = answer_range b r w
answer b w (SetStart r n offset) = answer_set_start b r n offset w
answer b w (SetEnd r n offset) = answer_set_end b r n offset w
answer b w (SetStartBefore r n) = answer_set_start_before b r n w
answer b w (SetStartAfter r n) = answer_set_start_after b r n w
answer b w (SetEndBefore r n) = answer_set_end_before b r n w
answer b w (SetEndAfter r n) = answer_set_end_after b r n w
answer b w (Collapse r to_start) = answer_collapse b r to_start w
answer b w (SelectNode r n) = answer_select_node b r n w
answer b w (SelectNodeContents r n) = answer_select_node_contents b r n w
answer b w (CompareBoundaryPoints r how s) = answer_compare_boundary_points b r how s w
answer b w (ComparePoint r n offset) = answer_compare_point b r n offset w
answer b w (IsPointInRange r n offset) = answer_is_point_in_range b r n offset w
answer b w (IntersectsNode r n) = answer_intersects_node b r n w
answer b w (CommonAncestor r) = answer_common_ancestor b r w
answer b w (RangeText r) = answer_range_text b r w
answer b w (DeleteContents r) = answer_delete_contents b r w
answer b w (ExtractContents r) = answer_extract_contents b r w
answer b w (CloneContents r) = answer_clone_contents b r w
answer b w (InsertNode r n) = answer_insert_node b r n w
answer b w (SurroundContents r n) = answer_surround_contents b r n w
answer b w (ReleaseRange r) = answer_release_range b r w
answer b w (CreateIterator root filter) = answer_create_iterator b root filter w
answer b w (CreateWalker root filter) = answer_create_walker b root filter w
answer b w (DescribeIterator i) = answer_iterator b i w
answer b w (NextNode i) = answer_next_node b i w
answer b w (PreviousNode i) = answer_previous_node b i w
answer b w (DescribeWalker k) = answer_walker b k w
answer b w (SetCurrent k n) = answer_set_current b k n w
answer b w (Walk k move) = answer_walk b k move w
answer b w CreateObserver = answer_create_observer b w
answer b w (Observe o n options) = answer_observe b o n options w
answer b w (Disconnect o) = answer_disconnect b o w
answer b w (TakeRecords o) = answer_take_records b o w
answer b w Notify = answer_notify b w
answer b w Pending = answer_pending b w
answer b w (Discard n) = answer_discard b n w
answer b w (CreateStaticRange start end) = answer_create_static_range b start end w
answer b w (DescribeStaticRange u) = answer_static_range b u w
answer b w (ReleaseIterator i) = answer_release_iterator b i w
answer b w (ReleaseWalker k) = answer_release_walker b k w
answer b w (ReleaseStaticRange u) = answer_release_static_range b u w
answer b w (ReleaseObserver o) = answer_release_observer b o w
answer b w TakePending = answer_take_pending b w
answer b w (TellObserver o) = answer_tell_observer b o w
