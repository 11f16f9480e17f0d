-- The commands and replies of a session as those of the definitions.
use Rattle.std.specs.Prelude.{map, string_bytes}
use Rattle.dom_commands.specs.declared.command.Command.{Command}
use Rattle.dom_commands.specs.declared.command.Command.TheVariants as group
use Rattle.dom_commands.specs.declared.command.Making.{Making}
use Rattle.dom_commands.specs.declared.command.Making.TheVariants.{NewDocument, CreateElement, CreateText, CreateComment, CreatePI, CreateDoctype, CreateFragment}
use Rattle.dom_commands.specs.declared.command.Editing.{Editing}
use Rattle.dom_commands.specs.declared.command.Editing.TheVariants.{InsertBefore, AppendChild, AdoptNode, ReplaceChild, RemoveChild, Remove, ReplaceChildren, Discard}
use Rattle.dom_commands.specs.declared.command.Asking.{Asking}
use Rattle.dom_commands.specs.declared.command.Asking.TheVariants.{DescribeNode, Children, Index, Length, Root, Tree}
use Rattle.dom_commands.specs.declared.command.Reading.{Reading}
use Rattle.dom_commands.specs.declared.command.Reading.TheVariants as read
use Rattle.dom_commands.specs.declared.command.Ranging.{Ranging}
use Rattle.dom_commands.specs.declared.command.Ranging.TheVariants.{CreateRange, CloneRange, DescribeRange, ReleaseRange}
use Rattle.dom_commands.specs.declared.command.Setting.{Setting}
use Rattle.dom_commands.specs.declared.command.Setting.TheVariants.{SetStart, SetEnd, SetStartBefore, SetStartAfter, SetEndBefore, SetEndAfter, Collapse, SelectNode, SelectNodeContents}
use Rattle.dom_commands.specs.declared.command.Comparing.{Comparing}
use Rattle.dom_commands.specs.declared.command.Comparing.TheVariants.{CompareBoundaryPoints, ComparePoint, IsPointInRange, IntersectsNode, CommonAncestor}
use Rattle.dom_commands.specs.declared.command.StaticRanging.{StaticRanging}
use Rattle.dom_commands.specs.declared.command.StaticRanging.TheVariants.{CreateStaticRange, DescribeStaticRange, ReleaseStaticRange}
use Rattle.dom_commands.specs.declared.command.Traversing.{Traversing}
use Rattle.dom_commands.specs.declared.command.Traversing.TheVariants.{CreateIterator, CreateWalker, DescribeIterator, NextNode, PreviousNode, DescribeWalker, SetCurrent, Walk, ReleaseIterator, ReleaseWalker}
use Rattle.dom_commands.specs.declared.command.Observing.{Observing}
use Rattle.dom_commands.specs.declared.command.Observing.TheVariants.{CreateObserver, Observe, Disconnect, TakeRecords, Notify, Pending, ReleaseObserver, TakePending, TellObserver}
use Rattle.dom_commands.specs.declared.command.Texts.{Texts}
use Rattle.dom_commands.specs.declared.command.Texts.TheVariants.{Normalize, TextContent, SetTextContent, GetData, SetData, AppendData, InsertData, DeleteData, ReplaceData, SubstringData, SplitText}
use Rattle.dom_commands.specs.declared.command.Attributes.{Attributes}
use Rattle.dom_commands.specs.declared.command.Attributes.TheVariants.{SetAttribute, GetAttribute, HasAttribute, RemoveAttribute, ToggleAttribute, AttributeNames}
use Rattle.dom_commands.specs.declared.command.Copying.{Copying}
use Rattle.dom_commands.specs.declared.command.Copying.TheVariants.{ImportNode, CloneNode, IsContaining, IsEqual, ComparePosition}
use Rattle.dom_commands.specs.declared.command.Contents.{Contents}
use Rattle.dom_commands.specs.declared.command.Contents.TheVariants.{RangeText, DeleteContents, ExtractContents, CloneContents, InsertNode, SurroundContents}
use Rattle.dom_commands.specs.declared.brief.Brief.{Brief}
use Rattle.dom_commands.specs.declared.brief.Brief.TheVariants.{Nothing, Number, MaybeNumber, Dom, Own}
use Rattle.dom_commands.specs.declared.reply.Answer.{Answer}
use Rattle.dom_commands.specs.declared.reply.Answer.TheVariants.{Count, Numbers, Flag, Order, Units, MaybeUnits, Names, NodeAt, Rows, Ends, StaticEnds, IteratorAt, WalkerAt, Records, Notified}
use Rattle.dom_commands.specs.declared.reply.Reply.{Reply}
use Rattle.dom_commands.specs.declared.reply.Reply.TheVariants as reply
use Rattle.dom_model.specs.Commands.Command as model_command
use Rattle.dom_model.specs.Commands.Reply as model_reply

abbrev pub making_view : Making → model_command.Command
making_view NewDocument = model_command.NewDocument
making_view (CreateElement document name) = model_command.CreateElement document (string_bytes name)
making_view (CreateText document text) = model_command.CreateText document text
making_view (CreateComment document text) = model_command.CreateComment document text
making_view (CreatePI document target text) = model_command.CreatePI document (string_bytes target) text
making_view (CreateDoctype document name public_id system_id) =
    model_command.CreateDoctype document (string_bytes name) (string_bytes public_id) (string_bytes system_id)
making_view (CreateFragment document) = model_command.CreateFragment document

abbrev pub editing_view : Editing → model_command.Command
editing_view (InsertBefore parent node child) = model_command.InsertBefore parent node child
editing_view (AppendChild parent node) = model_command.AppendChild parent node
editing_view (AdoptNode document node) = model_command.AdoptNode document node
editing_view (ReplaceChild parent node child) = model_command.ReplaceChild parent node child
editing_view (RemoveChild parent child) = model_command.RemoveChild parent child
editing_view (Remove node) = model_command.Remove node
editing_view (ReplaceChildren parent node) = model_command.ReplaceChildren parent node
editing_view (Discard node) = model_command.Discard node

abbrev pub asking_view : Asking → model_command.Command
asking_view (DescribeNode node) = model_command.DescribeNode node
asking_view (Children node) = model_command.Children node
asking_view (Index node) = model_command.Index node
asking_view (Length node) = model_command.Length node
asking_view (Root node) = model_command.Root node
asking_view (Tree top) = model_command.Tree top

-- a question that takes no memory, as the command that asks it
abbrev pub reading_view : Reading → model_command.Command
reading_view (read.Index node) = model_command.Index node
reading_view (read.Length node) = model_command.Length node
reading_view (read.Root node) = model_command.Root node
reading_view (read.Range range) = model_command.DescribeRange range
reading_view (read.StaticRange range) = model_command.DescribeStaticRange range
reading_view (read.Iterator iterator) = model_command.DescribeIterator iterator
reading_view (read.Walker walker) = model_command.DescribeWalker walker

abbrev pub ranging_view : Ranging → model_command.Command
ranging_view (CreateRange document) = model_command.CreateRange document
ranging_view (CloneRange range) = model_command.CloneRange range
ranging_view (DescribeRange range) = model_command.DescribeRange range
ranging_view (ReleaseRange range) = model_command.ReleaseRange range

abbrev pub setting_view : Setting → model_command.Command
setting_view (SetStart range node offset) = model_command.SetStart range node offset
setting_view (SetEnd range node offset) = model_command.SetEnd range node offset
setting_view (SetStartBefore range node) = model_command.SetStartBefore range node
setting_view (SetStartAfter range node) = model_command.SetStartAfter range node
setting_view (SetEndBefore range node) = model_command.SetEndBefore range node
setting_view (SetEndAfter range node) = model_command.SetEndAfter range node
setting_view (Collapse range to_start) = model_command.Collapse range to_start
setting_view (SelectNode range node) = model_command.SelectNode range node
setting_view (SelectNodeContents range node) = model_command.SelectNodeContents range node

abbrev pub comparing_view : Comparing → model_command.Command
comparing_view (CompareBoundaryPoints range how source) = model_command.CompareBoundaryPoints range how source
comparing_view (ComparePoint range node offset) = model_command.ComparePoint range node offset
comparing_view (IsPointInRange range node offset) = model_command.IsPointInRange range node offset
comparing_view (IntersectsNode range node) = model_command.IntersectsNode range node
comparing_view (CommonAncestor range) = model_command.CommonAncestor range

abbrev pub static_ranging_view : StaticRanging → model_command.Command
static_ranging_view (CreateStaticRange start end) = model_command.CreateStaticRange start end
static_ranging_view (DescribeStaticRange range) = model_command.DescribeStaticRange range
static_ranging_view (ReleaseStaticRange range) = model_command.ReleaseStaticRange range

abbrev pub traversing_view : Traversing → model_command.Command
traversing_view (CreateIterator root filter) = model_command.CreateIterator root filter
traversing_view (CreateWalker root filter) = model_command.CreateWalker root filter
traversing_view (DescribeIterator iterator) = model_command.DescribeIterator iterator
traversing_view (NextNode iterator) = model_command.NextNode iterator
traversing_view (PreviousNode iterator) = model_command.PreviousNode iterator
traversing_view (DescribeWalker walker) = model_command.DescribeWalker walker
traversing_view (SetCurrent walker node) = model_command.SetCurrent walker node
traversing_view (Walk walker move) = model_command.Walk walker move
traversing_view (ReleaseIterator iterator) = model_command.ReleaseIterator iterator
traversing_view (ReleaseWalker walker) = model_command.ReleaseWalker walker

abbrev pub observing_view : Observing → model_command.Command
observing_view CreateObserver = model_command.CreateObserver
observing_view (Observe observer node options) = model_command.Observe observer node options
observing_view (Disconnect observer) = model_command.Disconnect observer
observing_view (TakeRecords observer) = model_command.TakeRecords observer
observing_view Notify = model_command.Notify
observing_view Pending = model_command.Pending
observing_view (ReleaseObserver observer) = model_command.ReleaseObserver observer
observing_view TakePending = model_command.TakePending
observing_view (TellObserver observer) = model_command.TellObserver observer

abbrev pub texts_view : Texts → model_command.Command
texts_view (Normalize node) = model_command.Normalize node
texts_view (TextContent node) = model_command.TextContent node
texts_view (SetTextContent node text) = model_command.SetTextContent node text
texts_view (GetData node) = model_command.GetData node
texts_view (SetData node text) = model_command.SetData node text
texts_view (AppendData node text) = model_command.AppendData node text
texts_view (InsertData node offset text) = model_command.InsertData node offset text
texts_view (DeleteData node offset count) = model_command.DeleteData node offset count
texts_view (ReplaceData node offset count text) = model_command.ReplaceData node offset count text
texts_view (SubstringData node offset count) = model_command.SubstringData node offset count
texts_view (SplitText text offset) = model_command.SplitText text offset

abbrev pub attributes_view : Attributes → model_command.Command
attributes_view (SetAttribute element name value) = model_command.SetAttribute element (string_bytes name) value
attributes_view (GetAttribute element name) = model_command.GetAttribute element (string_bytes name)
attributes_view (HasAttribute element name) = model_command.HasAttribute element (string_bytes name)
attributes_view (RemoveAttribute element name) = model_command.RemoveAttribute element (string_bytes name)
attributes_view (ToggleAttribute element name force) = model_command.ToggleAttribute element (string_bytes name) force
attributes_view (AttributeNames element) = model_command.AttributeNames element

abbrev pub copying_view : Copying → model_command.Command
copying_view (ImportNode document node deep) = model_command.ImportNode document node deep
copying_view (CloneNode node deep) = model_command.CloneNode node deep
copying_view (IsContaining node other) = model_command.IsContaining node other
copying_view (IsEqual node other) = model_command.IsEqual node other
copying_view (ComparePosition node other) = model_command.ComparePosition node other

abbrev pub contents_view : Contents → model_command.Command
contents_view (RangeText range) = model_command.RangeText range
contents_view (DeleteContents range) = model_command.DeleteContents range
contents_view (ExtractContents range) = model_command.ExtractContents range
contents_view (CloneContents range) = model_command.CloneContents range
contents_view (InsertNode range node) = model_command.InsertNode range node
contents_view (SurroundContents range parent) = model_command.SurroundContents range parent

abbrev pub command_view : Command → model_command.Command
command_view (group.Making command) = making_view command
command_view (group.Editing command) = editing_view command
command_view (group.Asking command) = asking_view command
command_view (group.Ranging command) = ranging_view command
command_view (group.Setting command) = setting_view command
command_view (group.Comparing command) = comparing_view command
command_view (group.StaticRanging command) = static_ranging_view command
command_view (group.Traversing command) = traversing_view command
command_view (group.Observing command) = observing_view command
command_view (group.Texts command) = texts_view command
command_view (group.Attributes command) = attributes_view command
command_view (group.Copying command) = copying_view command
command_view (group.Contents command) = contents_view command

-- a count is a number too, as large as memory allows
abbrev pub answer_view : Answer → model_reply.Answer
answer_view (Count n) = model_reply.Number n
answer_view (Numbers ns) = model_reply.Numbers ns.items
answer_view (Flag b) = model_reply.Flag b
answer_view (Order o) = model_reply.Order o
answer_view (Units u) = model_reply.Units u
answer_view (MaybeUnits u) = model_reply.MaybeUnits u
answer_view (Names names) = model_reply.Names (map string_bytes names.items)
answer_view (NodeAt d) = model_reply.NodeAt d.value
answer_view (Rows rows) = model_reply.Rows rows.items
answer_view (Ends start end) = model_reply.Ends (record { start = start; end = end })
answer_view (StaticEnds start end valid) = model_reply.StaticEnds (record { start = start; end = end }) valid
answer_view (IteratorAt root reference before) = model_reply.IteratorAt root reference before
answer_view (WalkerAt root current) = model_reply.WalkerAt root current
answer_view (Records records) = model_reply.Records records.items
answer_view (Notified told) = model_reply.Notified told.items

abbrev pub brief_view : Brief → model_reply.Reply
brief_view Nothing = model_reply.Done model_reply.Nothing
brief_view (Number n) = model_reply.Done (model_reply.Number n)
brief_view (MaybeNumber n) = model_reply.Done (model_reply.MaybeNumber n)
brief_view (Dom e) = model_reply.Dom e
brief_view (Own e) = model_reply.Own e

abbrev pub reply_view : Reply → model_reply.Reply
reply_view (reply.Brief b) = brief_view b
reply_view (reply.Done a) = model_reply.Done (answer_view a)
