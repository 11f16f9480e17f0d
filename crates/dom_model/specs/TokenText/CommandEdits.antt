-- The edits of the token text that a command makes: none where it is refused. Ours.
use Rattle.std.specs.Prelude.{ℕ, List, [], ◌∷◌, length, Option, Some, None, Result, Ok, Err}
use Rattle.dom_model.specs.declared.Kind.TheVariants.{Element, Text, ProcessingInstruction, Comment, DocumentFragment}
use Rattle.dom_model.specs.declared.OwnError.{OwnError}
use Rattle.dom_model.specs.Worlds.World.{Point, Range, World, no_content, document_label}
use Rattle.dom_model.specs.Commands.Command.{Command, NewDocument, CreateElement, CreateText, CreateComment, CreatePI, CreateDoctype, CreateFragment, InsertBefore, AppendChild, AdoptNode, ReplaceChild, RemoveChild, Remove, ReplaceChildren, ImportNode, CloneNode, Normalize, SetTextContent, SetData, AppendData, InsertData, DeleteData, ReplaceData, SplitText, CreateRange, CloneRange, SetStart, SetEnd, SetStartBefore, SetStartAfter, SetEndBefore, SetEndAfter, Collapse, SelectNode, SelectNodeContents, DeleteContents, ExtractContents, CloneContents, InsertNode, SurroundContents, ReleaseRange, Discard as DiscardTree}
use Rattle.dom_model.specs.Commands.Reply.{Reply, Done, Dom, Own}
use Rattle.dom_model.specs.Worlds.Making.{named, with_text}
use Rattle.dom_model.specs.Worlds.Lengths.{unit_count, length_at}
use Rattle.dom_model.specs.RangesAndContents.Ranges.{start_set, end_set, point_before, point_after, around, contents_of, collapsed, collapsed_at, range_at}
use Rattle.dom_model.specs.RangesAndContents.Contents.{for_range}
use Rattle.dom_model.specs.TokenText.Tokens.{point, Token, Edit, RangeMaking, Release, Discard, all_on_texts, marked_ranges}
use Rattle.dom_model.specs.TokenText.Edits.{making, pre_insert_edits, append_edits, replace_edits, remove_edits, replace_all_edits, adopt_edits, import_edits, clone_edits, normalize_edits, set_text_content_edits, set_data_edits, replace_data_edits, split_edits, ends_edits, ends_edits_at, delete_contents_edits, extract_edits, clone_contents_edits, insert_node_edits, surround_edits}
use Rattle.dom_model.specs.Commands.AnswerMaking.{doctype_label}
use Rattle.dom_model.specs.Commands.Answer.{Bounds, answer}

-- the start, or the end, set to a point
abbrev pub start_edits : ℕ → Point → World → List Edit
start_edits r p w = for_range (range_at w r) [] (λ range. ends_edits r range (start_set w.forest p range))

abbrev pub end_edits : ℕ → Point → World → List Edit
end_edits r p w = for_range (range_at w r) [] (λ range. ends_edits r range (end_set w.forest p range))

-- the same, for a point that need not be there
abbrev pub start_edits_at : ℕ → Option Point → World → List Edit
start_edits_at r None w = []
start_edits_at r (Some p) w = start_edits r p w

abbrev pub end_edits_at : ℕ → Option Point → World → List Edit
end_edits_at r None w = []
end_edits_at r (Some p) w = end_edits r p w

abbrev pub select_edits : ℕ → Option Range → World → List Edit
select_edits r None w = []
select_edits r (Some ends) w = ends_edits_at r ends w

-- the edits of a command that is not refused
abbrev pub command_edits : Command → World → List Edit
command_edits NewDocument w = making w.made document_label no_content w
command_edits (CreateElement d name) w = making d (named Element name) no_content w
command_edits (CreateText d text) w = making d (named Text []) (with_text text) w
command_edits (CreateComment d text) w = making d (named Comment []) (with_text text) w
command_edits (CreatePI d target text) w = making d (named ProcessingInstruction target) (with_text text) w
command_edits (CreateDoctype d name public_id system_id) w = making d (doctype_label name public_id system_id) no_content w
command_edits (CreateFragment d) w = making d (named DocumentFragment []) no_content w
command_edits (InsertBefore p n c) w = pre_insert_edits n p c w
command_edits (AppendChild p n) w = append_edits n p w
command_edits (ReplaceChild p n c) w = replace_edits c n p w
command_edits (RemoveChild p c) w = remove_edits c w
command_edits (Remove n) w = remove_edits n w
command_edits (ReplaceChildren p n) w = replace_all_edits n p w
command_edits (AdoptNode d n) w = adopt_edits n w
command_edits (ImportNode d n deep) w = import_edits d deep n w
command_edits (CloneNode n deep) w = clone_edits deep n w
command_edits (Normalize n) w = normalize_edits n w
command_edits (SetTextContent n text) w = set_text_content_edits n text w
command_edits (SetData x text) w = set_data_edits x text w
command_edits (AppendData x text) w = replace_data_edits x (length_at w x) 0 text w
command_edits (InsertData x offset text) w = replace_data_edits x offset 0 text w
command_edits (DeleteData x offset count) w = replace_data_edits x offset count [] w
command_edits (ReplaceData x offset count text) w = replace_data_edits x offset count text w
command_edits (SplitText t offset) w = split_edits t offset w
command_edits (CreateRange d) w = RangeMaking (length w.ranges) (collapsed_at (point d 0)) ∷ []
command_edits (CloneRange r) w = for_range (range_at w r) [] (λ range. RangeMaking (length w.ranges) range ∷ [])
command_edits (SetStart r n offset) w = start_edits r (point n offset) w
command_edits (SetEnd r n offset) w = end_edits r (point n offset) w
command_edits (SetStartBefore r n) w = start_edits_at r (point_before w.forest n) w
command_edits (SetStartAfter r n) w = start_edits_at r (point_after w.forest n) w
command_edits (SetEndBefore r n) w = end_edits_at r (point_before w.forest n) w
command_edits (SetEndAfter r n) w = end_edits_at r (point_after w.forest n) w
command_edits (Collapse r to_start) w = for_range (range_at w r) [] (λ range. ends_edits r range (collapsed to_start range))
command_edits (SelectNode r n) w = select_edits r (around w.forest n) w
command_edits (SelectNodeContents r n) w = ends_edits_at r (contents_of unit_count w.forest n) w
command_edits (DeleteContents r) w = delete_contents_edits r w
command_edits (ExtractContents r) w = extract_edits r w
command_edits (CloneContents r) w = clone_contents_edits r w
command_edits (InsertNode r n) w = insert_node_edits r n w
command_edits (SurroundContents r n) w = surround_edits r n w
command_edits (ReleaseRange r) w = Release r ∷ []
command_edits (DiscardTree n) w = Discard n ∷ []
command_edits _ w = []

abbrev pub unless_refused : Reply → List Edit → List Edit
unless_refused (Done a) es = es
unless_refused (Dom e) es = []
unless_refused (Own e) es = []

-- the edits of a command
abbrev pub edits_of : Bounds → World → Command → List Edit
edits_of b w c = unless_refused (answer b w c).reply (command_edits c w)

-- the token texts after a list of commands, edited all the way
abbrev pub texts_after : Bounds → World → List (List Token) → List Command → List (List Token)
texts_after b w texts [] = texts
texts_after b w texts (c ∷ cs) =
    let s = answer b w c in
    let edited = all_on_texts (unless_refused s.reply (command_edits c w)) texts in
    texts_after b s.world edited cs

abbrev pub world_past : Bounds → World → List Command → World
world_past b w [] = w
world_past b w (c ∷ cs) = let s = answer b w c in world_past b s.world cs

-- the live ranges after each command of a list
abbrev pub ranges_along : Bounds → World → List Command → List (List (Option Range))
ranges_along b w [] = []
ranges_along b w (c ∷ cs) = let s = answer b w c in s.world.ranges ∷ ranges_along b s.world cs

-- the same, as the markers stand in the texts that are edited all the way
abbrev pub marks_along : Bounds → World → List (List Token) → List Command → List (List (Option Range))
marks_along b w texts [] = []
marks_along b w texts (c ∷ cs) =
    let s = answer b w c in
    let edited = all_on_texts (unless_refused s.reply (command_edits c w)) texts in
    marked_ranges 0 s.world.ranges edited ∷ marks_along b s.world edited cs

-- the commands among what lines are read as
abbrev pub commands_among : List (Result Command OwnError) → List Command
commands_among [] = []
commands_among (Ok c ∷ rest) = c ∷ commands_among rest
commands_among (Err e ∷ rest) = commands_among rest
