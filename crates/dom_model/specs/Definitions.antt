-- The names of the definitions that proofs cite, passed on from one place. Declares nothing.
pub use Rattle.dom_model.specs.PlainLists.Lists.{hits, among, head_of, last_of, is_number, after, before_from, before, place_in, entered, left_out, or_list, or_else, from_first, first_refusal, up_to, is_same, past}
pub use Rattle.dom_model.specs.PlainLists.LastOnce.{with_last, with_all_last}
pub use Rattle.dom_model.specs.Forests.Kinds.{Label, number_of_kind, is_kind, is_character_data, may_be_parent, may_stand_in, may_stand_under, node_name_of, node_name}
pub use Rattle.dom_model.specs.Forests.Names.{is_ascii_letter, is_ascii_digit, is_ascii_white_space, is_other_name_start, may_follow_letter, may_follow_other, is_element_name, may_stand_in_attribute_name, is_attribute_name, may_stand_in_doctype_name, is_doctype_name}
pub use Rattle.dom_model.specs.Forests.Texts.{units_of, is_well_formed_units, text_of_units, substring, spliced}
pub use Rattle.dom_model.specs.Forests.Attributes.{Attribute, attribute_value, with_attribute, without_attribute, attribute_names, is_attribute, are_among, same_attributes}
pub use Rattle.dom_model.specs.Forests.Arena.{Entry, Arena, next_from, names, parent_in, children_in, held, list_under, siblings_in, next_in, previous_in, with_value, with_parent, with_children, alone, no_slots, entry_at, IsHeld, next_slot, added_from, added, altered, linked, unlinked_from, unlinked, taken, IsLinked, StandsUnder}
pub use Rattle.dom_model.specs.Forests.Forest.{Node, Forest, empty, node, Grove, one_at, path_through, IsRising, total, occurs, size, rows, numbers, tops, beside, tree_at, without, placed_before, placed_under, placed_root, cut, put, map_nodes, with_node, with_tree, in_document, adopted, entry_under, entry_in, HasNode, parent_of, children_of, next_of, previous_of, index_of, ancestors, root_of, inclusive_descendants, KindsFit, IsForest}
pub use Rattle.dom_model.specs.Forests.Nodes.{entry_has, kind_passes, is_of_kind, same_root}
pub use Rattle.dom_model.specs.Forests.EachNode.{EachNode}
pub use Rattle.dom_model.specs.Forests.Documents.{IsInDocument, HasOneDocument, HasDocument}
pub use Rattle.dom_model.specs.Forests.Lies.{Lies}
pub use Rattle.dom_model.specs.Forests.ForestCode.{kind_numbered, kind_numbered-number, kind_code, label_code, node_code, head, tail, IsCons, code_of_forest, forest_apart, forest_code, grove_code}
pub use Rattle.dom_model.specs.Forests.Ways.{IsWay}
pub use Rattle.dom_model.specs.Worlds.World.{Content, Point, Range, FilterRule, Filter, Iterator, Walker, Options, Registration, Mutation, Observing, World, no_content, document_label, first_world, value_of, node_of}
pub use Rattle.dom_model.specs.Worlds.Lengths.{length_of, length_in, node_length, unit_count, length_at}
pub use Rattle.dom_model.specs.Worlds.Making.{named, with_text, made_node}
pub use Rattle.dom_model.specs.BoundaryPoints.Points.{path_places, place_of, order_of, after_gap, after_removal, after_splice, after_split, after_merge, moved_range, map_ranges}
pub use Rattle.dom_model.specs.Soundness.Sound.{IsBoundary, IsRange, IsIterator, IsWalker, IsRegistration, AreHeld, IsSound}
pub use Rattle.dom_model.specs.Soundness.Owners.{IsOwned, HasOwners, IsOwnedWell}
pub use Rattle.dom_model.specs.MutationObservers.GivenOptions.{GivenOptions, no_options}
pub use Rattle.dom_model.specs.MutationObservers.Record.{Record, Notification}
pub use Rattle.dom_model.specs.MutationObservers.Observing.{registered_on, standing_on, noted, transient_of, with_transients}
pub use Rattle.dom_model.specs.MutationObservers.Records.{is_on, attributes_on, character_data_on, options_refusal, options_of, settled_unless, settled, is_registered, is_transient_from, new_registration, with_options, registered, observed, name_passes, type_passes, interests, asks_old_value, interested, record_with, record_by, record_for, taken_up_to, has_observer, records_past, queue_of, observers_of, each_once, pending_of, InterestedAreMade, with_observer, records_taken, disconnected, released_observer, told_in, has_records, notifications, moved_to, after_notify, pending_taken, is_transient_of, observer_told, told_in_turn, answers_in_turn, transients_ended}
pub use Rattle.dom_model.specs.MutationAlgorithms.Checks.{if_given, has_kind, count_kind, doctype_from, doctype_after, element_before, holds_too_much, element_refused, doctype_refused, document_refuses, document_refuses_instead, is_misplaced, common_conditions, kind_refuses, check_insert, check_replace}
pub use Rattle.dom_model.specs.MutationAlgorithms.PreRemoval.{following_outside, moved_on, moved_back, stepped_off, pre_removed_among, pre_removed, pre_removed_all}
pub use Rattle.dom_model.specs.MutationAlgorithms.Editing.{queued, tree_record, tree_record_unless, taken_out, transients_made, removed_from, remove, remove_all, is_fragment, nodes_of, emptied_fragment, freed, document_in, node_document, put_in, put_all, gap_before, previous_to, insert_all, insert_nodes, insert, reference_child, pre_insert, append, replace, added_by, insert_if_any, replaced_record, replace_all, adopt}
pub use Rattle.dom_model.specs.MutationAlgorithms.Discarding.{if_any, documents, nodes_of_range, nodes_of_iterator, nodes_of_walker, nodes_of_registration, nodes_unless_released, nodes_of_record, queues_from, queued_records, observed_nodes, named_nodes, is_held_outside, is_in_use, discarded}
pub use Rattle.dom_model.specs.MutationAlgorithms.Insertable.{may_stand_at, IsPlaceable, ArePlaceable, IsChildOf, IsInsertable}
pub use Rattle.dom_model.specs.DataAndCopies.Data.{content_in, data_of, attributes_of, with_data, with_attributes, cut_count, check_offset, data_record, replace_units, replace_data, set_data, substring_data, tail_of, split_off, split, following_texts, joined_data, merged_ends, merge_ends, remove_each, join_following, normalize_text, is_descendant, text_descendants, normalize_each, normalize, descendant_text, text_content_by, by_kind, text_content, string_replace_all, set_text_content_by, set_text_content, attribute_record, set_attribute, has_attribute, remove_attribute_if, remove_attribute, is_toggled_on, toggled, toggle_attribute}
pub use Rattle.dom_model.specs.DataAndCopies.Clones.{renumbered, alone_of, original, contains, root_number, comes_before, position, with_copies, document_of_clone, clone_node, import_node, agree, are_equal, is_equal}
pub use Rattle.dom_model.specs.DataAndCopies.Joinable.{Lives, IsUpTo, AreUpTo, AreJoinable}
pub use Rattle.dom_model.specs.RangesAndContents.Ranges.{is_less, end_of, is_collapsed, collapsed_at, collapsed, compared_point, source_point, is_before, start_set, end_set, point_before, point_after, around, contents_of, check_point, check_parent, check_contents, check_compare, compared, check_point_against, place_against, check_point_in, is_point_in, overlaps, intersects, is_contained, is_partially_contained, common_ancestor, range_at, with_range, made_range, released}
pub use Rattle.dom_model.specs.RangesAndContents.Contents.{for_range, is_in_one_data, cut_from, cut_up_to, contained_in, contained_tops, new_place, deleted_between, deleted, delete_contents, new_fragment, clone_with, cut_if, units_into, child_into, children_into, copy_into, tail_into, head_into, path_below, common_of, contained_children, parts_into, contents_drawn, check_draw, check_extract, extracted, extract, clone_contents, text_part, text_between, range_text}
pub use Rattle.dom_model.specs.RangesAndContents.Wrapping.{Outcome, and_then, unless, try_pre_insert, is_text, reference_at, parent_by, parent_at, check_start, split_at, reference_after, offset_past, end_if_collapsed, placed_at, inserted_at, insert_node, check_surround, try_extract, selected, try_select, surrounded, surround, refusal_in, check_whole_surround}
pub use Rattle.dom_model.specs.RangesAndContents.StaticRanges.{check_static, is_valid_static, static_at, made_static, released_static}
pub use Rattle.dom_model.specs.RangesAndContents.BesidePaths.{tail_nodes, head_nodes}
pub use Rattle.dom_model.specs.Traversal.Filters.{shows, is_rule_for, ruled, judged, is_accept, is_reject, judged_entry, verdict_on, accepts, rejects}
pub use Rattle.dom_model.specs.Traversal.Iterators.{new_iterator, from_reference, back_from_reference, iterator_moved, next_found, previous_found, moved_to_next, moved_to_previous}
pub use Rattle.dom_model.specs.Traversal.WalkSteps.{Stand, at, leaving, ended, at_or, come_to, come_back_to, up_to_parent, walked, first_child, last_child, parent_arrived, parent_step, first_child_arrived, past_child, first_child_step, next_sibling_arrived, past_sibling, next_sibling_step, past_node, next_step, previous_arrived, up_unless_root, back_past_node, previous_step, size_under, moves_allowed, parent_by_steps, first_child_by_steps, next_sibling_by_steps, next_by_steps, previous_by_steps}
pub use Rattle.dom_model.specs.Traversal.Walks.{new_walker, is_hidden, mirrored, rows_past, rows_up_to, unhidden, without_under, outside, following_list, preceding_list, ancestor_list, child_list, sibling_list_under, sibling_list, walk_list, found_by_steps, is_inside_root, found_where, walk_found, walker_moved}
pub use Rattle.dom_model.specs.Traversal.Ending.{HasEnded, moves_left, Leads, LeadsOn}
pub use Rattle.dom_model.specs.Commands.Refusal.{name_of_error, code_of_error, name_of_own}
pub use Rattle.dom_model.specs.Commands.Command.{Command, NewDocument, CreateElement, CreateText, CreateComment, CreatePI, CreateDoctype, CreateFragment, InsertBefore, AppendChild, ReplaceChild, RemoveChild, Remove, ReplaceChildren, AdoptNode, ImportNode, CloneNode, Normalize, DescribeNode, Children, Index, Length, Root, IsContaining, IsEqual, ComparePosition, TextContent, SetTextContent, Tree, GetData, SetData, AppendData, InsertData, DeleteData, ReplaceData, SubstringData, SplitText, SetAttribute, GetAttribute, HasAttribute, RemoveAttribute, ToggleAttribute, AttributeNames, CreateRange, CloneRange, DescribeRange, SetStart, SetEnd, SetStartBefore, SetStartAfter, SetEndBefore, SetEndAfter, Collapse, SelectNode, SelectNodeContents, CompareBoundaryPoints, ComparePoint, IsPointInRange, IntersectsNode, CommonAncestor, RangeText, DeleteContents, ExtractContents, CloneContents, InsertNode, SurroundContents, ReleaseRange, CreateIterator, CreateWalker, DescribeIterator, NextNode, PreviousNode, DescribeWalker, SetCurrent, Walk, CreateObserver, Observe, Disconnect, TakeRecords, Notify, Pending, Discard, CreateStaticRange, DescribeStaticRange, ReleaseIterator, ReleaseWalker, ReleaseStaticRange, ReleaseObserver, TakePending, TellObserver}
pub use Rattle.dom_model.specs.Commands.Counts.{Counts, counts_of, no_numbers, node_numbers, numbers_for_copies, asked, plus, of_each, AreAtMost}
pub use Rattle.dom_model.specs.Commands.NewNumbers.{Numbered, Nodes, Ranges, Iterators, Walkers, Observers, StaticRanges, count_of, made_by, IsNext}
pub use Rattle.dom_model.specs.Commands.AskedFor.{iterator_asked, walker_asked, static_range_asked, observer_asked}
pub use Rattle.dom_model.specs.Commands.Reply.{Description, TreeRow, Answer, Nothing, Number, MaybeNumber, Numbers, Flag, Order, Units, MaybeUnits, Names, NodeAt, Rows, Ends, StaticEnds, IteratorAt, WalkerAt, Records, Notified, Reply, Done, Dom, Own, is_refusal}
pub use Rattle.dom_model.specs.Commands.Guards.{Bounds, Step, refused, guarded, checked, no_node, wrong_kind, no_room, bad_name, makes, answers, tree_row, tree_rows, does, no_node_given, throws, no_room_for_copies}
pub use Rattle.dom_model.specs.Commands.AnswerMaking.{closes_instruction, doctype_label, answer_new_document, answer_create_element, answer_create_text, answer_create_comment, answer_create_instruction, answer_create_doctype, answer_create_fragment}
pub use Rattle.dom_model.specs.Commands.AnswerTree.{gives, is_child_node, answer_insert_before, answer_append_child, answer_replace_child, answer_remove_child, answer_remove, check_replace_children, answer_replace_children, answer_adopt_node, answer_import_node, answer_clone_node, answer_normalize, described, answer_node, answer_children, answer_index, answer_length, answer_root, answer_contains, answer_is_equal, answer_compare_position, answer_text_content, answer_set_text_content, answer_tree}
pub use Rattle.dom_model.specs.Commands.AnswerData.{answer_data, answer_set_data, answer_replace_data, answer_append_data, answer_insert_data, answer_delete_data, answer_substring_data, answer_split_text, answer_set_attribute, answer_get_attribute, answer_has_attribute, answer_remove_attribute, answer_toggle_attribute, answer_attribute_names}
pub use Rattle.dom_model.specs.Commands.AnswerRanges.{no_range, on_range, at_point, at_ends, makes_range, answer_create_range, answer_clone_range, answer_range, answer_release_range, answer_set_start, answer_set_end, sets_start, sets_end, answer_set_start_before, answer_set_start_after, answer_set_end_before, answer_set_end_after, answer_collapse, answer_select_node, answer_select_node_contents, answer_compare_boundary_points, answer_compare_point, answer_is_point_in_range, answer_intersects_node, answer_common_ancestor, answer_range_text, answer_delete_contents, answer_extract_contents, answer_clone_contents, done_or_refused, answer_insert_node, answer_surround_contents}
pub use Rattle.dom_model.specs.Commands.AnswerTraversal.{with_object, iterator_at, walker_at, with_iterator, with_walker, released_iterator, released_walker, answer_create_iterator, answer_create_walker, answer_iterator, answer_next_node, answer_previous_node, answer_walker, answer_set_current, answer_walk, answer_release_iterator, answer_release_walker}
pub use Rattle.dom_model.specs.Commands.AnswerObserving.{observers_made, no_observer, with_observing, answer_create_observer, answer_observe, answer_disconnect, answer_release_observer, answer_take_records, answer_notify, answer_take_pending, answer_tell_observer, answer_pending}
pub use Rattle.dom_model.specs.Commands.AnswerStatic.{no_static, answer_create_static_range, static_told, answer_static_range, answer_release_static_range}
pub use Rattle.dom_model.specs.Commands.AnswerDiscard.{answer_discard}
pub use Rattle.dom_model.specs.Commands.Answer.{answer}
pub use Rattle.dom_model.specs.Commands.Table.{Shape, a_number, a_number_or_null, a_string, a_text, a_text_or_null, a_flag, a_flag_or_null, a_filter, a_move, the_options, Arguments, no_arguments, number_at, string_at, Row, row}
unfoldable pub use Rattle.dom_model.specs.Commands.Table.{whole_table}
pub use Rattle.dom_model.specs.Commands.Line.{at_most, natural_of, number_in, each_item, list_in, unit_in, text_in_either, text_in, null_or, null_as_empty, named_in, verdict_names, move_names, rule_from, rule_in, move_in, if_member, flag_member, options_from, options_in, with_argument, arguments_from, list_of, if_arguments, with_arguments, is_row_of, named_command, command_among, command_in_array, command_of_json}
unfoldable pub use Rattle.dom_model.specs.Commands.Line.{json_of, command_of, command_within}
pub use Rattle.dom_model.specs.Commands.Printed.{number_json, items_of, list_json, or_null, numbers_json, text_json, units_json, names_json, order_json, attribute_json, detail_json, row_json, type_member, ids_members, description_json, type_json, record_json, records_json, told_json, ends_json, answer_json, only_member, reply_json, reply_line, out_of_memory_line}
pub use Rattle.dom_model.specs.Commands.Output.{onto_first, onto_last, line_if_any, lines_of, step_of, line_step, replies_from, world_after, due_lines, joined, output_of}
unfoldable pub use Rattle.dom_model.specs.Commands.Output.{whole_lines, last_piece, due}
pub use Rattle.dom_model.specs.TokenText.Tokens.{Token, Open, Close, OneUnit, Mark, point, same_point, mark_if, marks_from, no_marks, unit_tokens, inner_tokens, child_tokens, token_texts, texts_of, is_mark, marks_in, unmarked, is_open, same_side, is_mark_of, stepped, left, passed, stands_at, first_point, gap_of, gap_among, at_gap, in_gap, after_marks, units_out, unit_list, has_open, before_open, from_open, through_close, past_close, tokens_at, tokens_among, closed_up, is_root_text, other_texts, open_out, seam_out, mark_out, mark_in, Edit, Removal, Insertion, Splice, Parting, Merge, EndSet, Making, RangeMaking, Release, on_texts, all_on_texts, range_between, marked_range, marked_ranges}
pub use Rattle.dom_model.specs.TokenText.Edits.{removal_from, insertion_at, with_new_text, parting_from, merge_from, set_side, on_world, all_on_world, removal_if, remove_edits, removals, freed_edits, insertions, index_before, insert_edits, pre_insert_edits, append_edits, replace_edits, insert_edits_if_any, replace_all_edits, adopt_edits, making, copies_edits, clone_edits, import_edits, replace_data_edits, set_data_edits, split_edits_by, split_edits, merges, normalize_text_edits, normalize_each_edits, normalize_edits, string_replace_all_edits, set_text_content_edits_by, set_text_content_edits, end_edit, ends_edits, ends_edits_at, Trace, begun, doing, doing_append, doing_replace_data, doing_clone, doing_clone_with, doing_fragment, doing_ends, doing_remove, doing_remove_each, doing_cut_from, doing_cut_up_to, deleted_between_trace, deleted_edits, delete_contents_edits, doing_cut_if, doing_units, doing_child, doing_children, doing_copy, doing_tail, doing_head, doing_parts, drawn_trace, extracted_trace, extract_edits, clone_contents_edits, doing_split_at, doing_pre_insert, doing_end_if_collapsed, doing_placed, doing_insert_at, doing_insert_node, insert_node_edits, doing_selected, doing_select, doing_surround, surround_edits}
pub use Rattle.dom_model.specs.TokenText.CommandEdits.{start_edits, end_edits, start_edits_at, end_edits_at, select_edits, command_edits, unless_refused, edits_of, texts_after, world_past, ranges_along, marks_along, commands_among}
pub use Rattle.dom_model.specs.TokenText.Gaps.{text_among, root_text, tokens_ahead, gap_count, order_if_any, gap_order}
pub use Rattle.dom_model.specs.TokenText.Between.{before_mark, after_mark, between, opens_left, closes_left, left_before, left_after, numbers_of, open_at, top_is_text, unit_if, without_first, text_units, text_of_range, same_shape, are_units, in_one_node, matched, fragment_shape}
pub use Rattle.dom_model.specs.TokenText.Originals.{opened_in, opened_inside, lies_in, innermost, front_count, originals, label_in, label_of, InStep}
pub use Rattle.dom_model.specs.TokenText.Fitting.{Childless, end_at, IsPoint, IsReady, Fits, fits_removal, fits_insertion, fits_splice, fits_parting, fits_merge, fits_end_set, fits_making, fits_range_making, fits_release, fits_discard, AllFit}
pub use Rattle.dom_model.specs.Erasure.Erasing.{replies_to, commands_left, replies_left, discards, makes_no_discard, is_by_observer, parts_left, reply_left, left_by_observers, without_observers, replies_without_observers, edits_by_range, only_watches, makes_no_edit_by_range, without_watchers, replies_without_watchers}
pub use Rattle.dom_model.specs.Erasure.DiscardsAlike.{replies_to_discards}
