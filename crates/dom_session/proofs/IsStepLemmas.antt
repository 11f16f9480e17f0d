-- From the step of a world to the step of a session.
use Rattle.std.proofs.Common.{◌≡◌, refl, ap, ◌∙◌, subst}
use Rattle.dom_model.specs.Definitions.{World, Bounds, Step, answer}
use Rattle.dom_model.specs.Commands.Command as model
use Rattle.dom_commands.specs.{declared.command.Command.Command, declared.command.Making.Making, declared.command.Making.TheVariants.NewDocument, declared.command.Making.TheVariants.CreateElement, declared.command.Making.TheVariants.CreateText, declared.command.Making.TheVariants.CreateComment, declared.command.Making.TheVariants.CreatePI, declared.command.Making.TheVariants.CreateDoctype, declared.command.Making.TheVariants.CreateFragment, declared.command.Editing.Editing, declared.command.Editing.TheVariants.InsertBefore, declared.command.Editing.TheVariants.AppendChild, declared.command.Editing.TheVariants.AdoptNode, declared.command.Editing.TheVariants.ReplaceChild, declared.command.Editing.TheVariants.RemoveChild, declared.command.Editing.TheVariants.Remove, declared.command.Editing.TheVariants.ReplaceChildren, declared.command.Editing.TheVariants.Discard, declared.command.Asking.Asking, declared.command.Asking.TheVariants.DescribeNode, declared.command.Asking.TheVariants.Children, declared.command.Asking.TheVariants.Index, declared.command.Asking.TheVariants.Length, declared.command.Asking.TheVariants.Root, declared.command.Asking.TheVariants.Tree, declared.command.Ranging.Ranging, declared.command.Ranging.TheVariants.CreateRange, declared.command.Ranging.TheVariants.CloneRange, declared.command.Ranging.TheVariants.DescribeRange, declared.command.Ranging.TheVariants.ReleaseRange, declared.command.Setting.Setting, declared.command.Setting.TheVariants.SetStart, declared.command.Setting.TheVariants.SetEnd, declared.command.Setting.TheVariants.SetStartBefore, declared.command.Setting.TheVariants.SetStartAfter, declared.command.Setting.TheVariants.SetEndBefore, declared.command.Setting.TheVariants.SetEndAfter, declared.command.Setting.TheVariants.Collapse, declared.command.Setting.TheVariants.SelectNode, declared.command.Setting.TheVariants.SelectNodeContents, declared.command.Comparing.Comparing, declared.command.Comparing.TheVariants.CompareBoundaryPoints, declared.command.Comparing.TheVariants.ComparePoint, declared.command.Comparing.TheVariants.IsPointInRange, declared.command.Comparing.TheVariants.IntersectsNode, declared.command.Comparing.TheVariants.CommonAncestor, declared.command.StaticRanging.StaticRanging, declared.command.StaticRanging.TheVariants.CreateStaticRange, declared.command.StaticRanging.TheVariants.DescribeStaticRange, declared.command.StaticRanging.TheVariants.ReleaseStaticRange, declared.command.Traversing.Traversing, declared.command.Traversing.TheVariants.CreateIterator, declared.command.Traversing.TheVariants.CreateWalker, declared.command.Traversing.TheVariants.DescribeIterator, declared.command.Traversing.TheVariants.NextNode, declared.command.Traversing.TheVariants.PreviousNode, declared.command.Traversing.TheVariants.DescribeWalker, declared.command.Traversing.TheVariants.SetCurrent, declared.command.Traversing.TheVariants.Walk, declared.command.Traversing.TheVariants.ReleaseIterator, declared.command.Traversing.TheVariants.ReleaseWalker, declared.command.Observing.Observing, declared.command.Observing.TheVariants.CreateObserver, declared.command.Observing.TheVariants.Observe, declared.command.Observing.TheVariants.Disconnect, declared.command.Observing.TheVariants.TakeRecords, declared.command.Observing.TheVariants.Notify, declared.command.Observing.TheVariants.Pending, declared.command.Observing.TheVariants.ReleaseObserver, declared.command.Observing.TheVariants.TakePending, declared.command.Observing.TheVariants.TellObserver, declared.command.Texts.Texts, declared.command.Texts.TheVariants.Normalize, declared.command.Texts.TheVariants.TextContent, declared.command.Texts.TheVariants.SetTextContent, declared.command.Texts.TheVariants.GetData, declared.command.Texts.TheVariants.SetData, declared.command.Texts.TheVariants.AppendData, declared.command.Texts.TheVariants.InsertData, declared.command.Texts.TheVariants.DeleteData, declared.command.Texts.TheVariants.ReplaceData, declared.command.Texts.TheVariants.SubstringData, declared.command.Texts.TheVariants.SplitText, declared.command.Attributes.Attributes, declared.command.Attributes.TheVariants.SetAttribute, declared.command.Attributes.TheVariants.GetAttribute, declared.command.Attributes.TheVariants.HasAttribute, declared.command.Attributes.TheVariants.RemoveAttribute, declared.command.Attributes.TheVariants.ToggleAttribute, declared.command.Attributes.TheVariants.AttributeNames, declared.command.Copying.Copying, declared.command.Copying.TheVariants.ImportNode, declared.command.Copying.TheVariants.CloneNode, declared.command.Copying.TheVariants.IsContaining, declared.command.Copying.TheVariants.IsEqual, declared.command.Copying.TheVariants.ComparePosition, declared.command.Contents.Contents, declared.command.Contents.TheVariants.RangeText, declared.command.Contents.TheVariants.DeleteContents, declared.command.Contents.TheVariants.ExtractContents, declared.command.Contents.TheVariants.CloneContents, declared.command.Contents.TheVariants.InsertNode, declared.command.Contents.TheVariants.SurroundContents, declared.reply.Reply.Reply, Views.making_view, Views.editing_view, Views.asking_view, Views.ranging_view, Views.setting_view, Views.comparing_view, Views.static_ranging_view, Views.traversing_view, Views.observing_view, Views.texts_view, Views.attributes_view, Views.copying_view, Views.contents_view, Views.command_view}
use Rattle.dom_session.specs.{SessionViews.SessionView, SessionViews.StandsFor, SessionViews.IsStep, SessionViews.IsAnswered, AnswerBounds.numbered}
use Rattle.dom_commands.specs.declared.command.Command.TheVariants as group
use Rattle.dom_edit.specs.{declared.world.World.World as CodeWorld, Whole.Shows, Whole.IsShown}

-- an answer knows nothing of the limit of a line
same_making : (b : Bounds) (w : World) (c : Making) → answer (numbered b.numbers) w (making_view c) ≡ answer b w (making_view c)
same_making b w NewDocument = refl
same_making b w (CreateElement document name) = refl
same_making b w (CreateText document text) = refl
same_making b w (CreateComment document text) = refl
same_making b w (CreatePI document target text) = refl
same_making b w (CreateDoctype document name public_id system_id) = refl
same_making b w (CreateFragment document) = refl

same_editing : (b : Bounds) (w : World) (c : Editing) → answer (numbered b.numbers) w (editing_view c) ≡ answer b w (editing_view c)
same_editing b w (InsertBefore parent node child) = refl
same_editing b w (AppendChild parent node) = refl
same_editing b w (AdoptNode document node) = refl
same_editing b w (ReplaceChild parent node child) = refl
same_editing b w (RemoveChild parent child) = refl
same_editing b w (Remove node) = refl
same_editing b w (ReplaceChildren parent node) = refl
same_editing b w (Discard node) = refl

same_asking : (b : Bounds) (w : World) (c : Asking) → answer (numbered b.numbers) w (asking_view c) ≡ answer b w (asking_view c)
same_asking b w (DescribeNode node) = refl
same_asking b w (Children node) = refl
same_asking b w (Index node) = refl
same_asking b w (Length node) = refl
same_asking b w (Root node) = refl
same_asking b w (Tree top) = refl

same_ranging : (b : Bounds) (w : World) (c : Ranging) → answer (numbered b.numbers) w (ranging_view c) ≡ answer b w (ranging_view c)
same_ranging b w (CreateRange document) = refl
same_ranging b w (CloneRange range) = refl
same_ranging b w (DescribeRange range) = refl
same_ranging b w (ReleaseRange range) = refl

same_setting : (b : Bounds) (w : World) (c : Setting) → answer (numbered b.numbers) w (setting_view c) ≡ answer b w (setting_view c)
same_setting b w (SetStart range node offset) = refl
same_setting b w (SetEnd range node offset) = refl
same_setting b w (SetStartBefore range node) = refl
same_setting b w (SetStartAfter range node) = refl
same_setting b w (SetEndBefore range node) = refl
same_setting b w (SetEndAfter range node) = refl
same_setting b w (Collapse range to_start) = refl
same_setting b w (SelectNode range node) = refl
same_setting b w (SelectNodeContents range node) = refl

same_comparing : (b : Bounds) (w : World) (c : Comparing) → answer (numbered b.numbers) w (comparing_view c) ≡ answer b w (comparing_view c)
same_comparing b w (CompareBoundaryPoints range how source) = refl
same_comparing b w (ComparePoint range node offset) = refl
same_comparing b w (IsPointInRange range node offset) = refl
same_comparing b w (IntersectsNode range node) = refl
same_comparing b w (CommonAncestor range) = refl

same_static_ranging : (b : Bounds) (w : World) (c : StaticRanging) → answer (numbered b.numbers) w (static_ranging_view c) ≡ answer b w (static_ranging_view c)
same_static_ranging b w (CreateStaticRange start end) = refl
same_static_ranging b w (DescribeStaticRange range) = refl
same_static_ranging b w (ReleaseStaticRange range) = refl

same_traversing : (b : Bounds) (w : World) (c : Traversing) → answer (numbered b.numbers) w (traversing_view c) ≡ answer b w (traversing_view c)
same_traversing b w (CreateIterator root filter) = refl
same_traversing b w (CreateWalker root filter) = refl
same_traversing b w (DescribeIterator iterator) = refl
same_traversing b w (NextNode iterator) = refl
same_traversing b w (PreviousNode iterator) = refl
same_traversing b w (DescribeWalker walker) = refl
same_traversing b w (SetCurrent walker node) = refl
same_traversing b w (Walk walker move) = refl
same_traversing b w (ReleaseIterator iterator) = refl
same_traversing b w (ReleaseWalker walker) = refl

same_observing : (b : Bounds) (w : World) (c : Observing) → answer (numbered b.numbers) w (observing_view c) ≡ answer b w (observing_view c)
same_observing b w CreateObserver = refl
same_observing b w (Observe observer node options) = refl
same_observing b w (Disconnect observer) = refl
same_observing b w (TakeRecords observer) = refl
same_observing b w Notify = refl
same_observing b w Pending = refl
same_observing b w (ReleaseObserver observer) = refl
same_observing b w TakePending = refl
same_observing b w (TellObserver observer) = refl

same_texts : (b : Bounds) (w : World) (c : Texts) → answer (numbered b.numbers) w (texts_view c) ≡ answer b w (texts_view c)
same_texts b w (Normalize node) = refl
same_texts b w (TextContent node) = refl
same_texts b w (SetTextContent node text) = refl
same_texts b w (GetData node) = refl
same_texts b w (SetData node text) = refl
same_texts b w (AppendData node text) = refl
same_texts b w (InsertData node offset text) = refl
same_texts b w (DeleteData node offset count) = refl
same_texts b w (ReplaceData node offset count text) = refl
same_texts b w (SubstringData node offset count) = refl
same_texts b w (SplitText text offset) = refl

same_attributes : (b : Bounds) (w : World) (c : Attributes) → answer (numbered b.numbers) w (attributes_view c) ≡ answer b w (attributes_view c)
same_attributes b w (SetAttribute element name value) = refl
same_attributes b w (GetAttribute element name) = refl
same_attributes b w (HasAttribute element name) = refl
same_attributes b w (RemoveAttribute element name) = refl
same_attributes b w (ToggleAttribute element name force) = refl
same_attributes b w (AttributeNames element) = refl

same_copying : (b : Bounds) (w : World) (c : Copying) → answer (numbered b.numbers) w (copying_view c) ≡ answer b w (copying_view c)
same_copying b w (ImportNode document node deep) = refl
same_copying b w (CloneNode node deep) = refl
same_copying b w (IsContaining node other) = refl
same_copying b w (IsEqual node other) = refl
same_copying b w (ComparePosition node other) = refl

same_contents : (b : Bounds) (w : World) (c : Contents) → answer (numbered b.numbers) w (contents_view c) ≡ answer b w (contents_view c)
same_contents b w (RangeText range) = refl
same_contents b w (DeleteContents range) = refl
same_contents b w (ExtractContents range) = refl
same_contents b w (CloneContents range) = refl
same_contents b w (InsertNode range node) = refl
same_contents b w (SurroundContents range parent) = refl

same_bounds : (b : Bounds) (w : World) (c : Command) → answer (numbered b.numbers) w (command_view c) ≡ answer b w (command_view c)
same_bounds b w (group.Making c) = same_making b w c
same_bounds b w (group.Editing c) = same_editing b w c
same_bounds b w (group.Asking c) = same_asking b w c
same_bounds b w (group.Ranging c) = same_ranging b w c
same_bounds b w (group.Setting c) = same_setting b w c
same_bounds b w (group.Comparing c) = same_comparing b w c
same_bounds b w (group.StaticRanging c) = same_static_ranging b w c
same_bounds b w (group.Traversing c) = same_traversing b w c
same_bounds b w (group.Observing c) = same_observing b w c
same_bounds b w (group.Texts c) = same_texts b w c
same_bounds b w (group.Attributes c) = same_attributes b w c
same_bounds b w (group.Copying c) = same_copying b w c
same_bounds b w (group.Contents c) = same_contents b w c

-- a step leads from a world that is shown to one that is shown
pub IsShown-step : (old new : CodeWorld) (b : Bounds) (c : model.Command) (r : Reply) → IsShown old → IsStep old new b c r → IsShown new
IsShown-step old new b c r shown step = record {
  stands_for = (answer b shown.stands_for c).world;
  shows = step.world_is shown.stands_for shown.shows;
}

-- from the step of the world to the answer of the session, for a command that knows nothing of the limit of a line
pub IsAnswered-by : (old new : SessionView) (c : model.Command) (r : Reply) → ((w : World) → answer (numbered old.bounds.numbers) w c ≡ answer old.bounds w c) → IsStep old.world new.world (numbered old.bounds.numbers) c r → (w : World) → StandsFor old w → IsAnswered r w old new c
IsAnswered-by old new c r alike step w stands =
    let same = alike w in
    let P : Step → Type 0 = λ s. Shows new.world s.world in
    record {
      reply_is = step.reply_is w stands ∙ ap (λ (s : Step). s.reply) same;
      world_is = subst P same (step.world_is w stands);
    }

pub IsAnswered-step : (old new : SessionView) (c : Command) (r : Reply) → IsStep old.world new.world (numbered old.bounds.numbers) (command_view c) r → (w : World) → StandsFor old w → IsAnswered r w old new (command_view c)
IsAnswered-step old new c r = IsAnswered-by old new (command_view c) r (λ w. same_bounds old.bounds w c)

pub IsAnswered-making : (old new : SessionView) (c : Making) (r : Reply) → IsStep old.world new.world (numbered old.bounds.numbers) (making_view c) r → (w : World) → StandsFor old w → IsAnswered r w old new (making_view c)
IsAnswered-making old new c r = IsAnswered-by old new (making_view c) r (λ w. same_making old.bounds w c)

pub IsAnswered-editing : (old new : SessionView) (c : Editing) (r : Reply) → IsStep old.world new.world (numbered old.bounds.numbers) (editing_view c) r → (w : World) → StandsFor old w → IsAnswered r w old new (editing_view c)
IsAnswered-editing old new c r = IsAnswered-by old new (editing_view c) r (λ w. same_editing old.bounds w c)
