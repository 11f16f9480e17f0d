-- The commands: one for each name of the table, and six that no line has.
use Rattle.std.specs.Prelude.{ℕ, List, Bool, Option}
use Rattle.dom_model.specs.declared.Move.{Move}
use Rattle.dom_model.specs.Worlds.World.{Filter, Point}
use Rattle.dom_model.specs.MutationObservers.GivenOptions.{GivenOptions}

-- numbers are those of nodes, ranges, iterators, walkers, observers and static ranges; names are UTF-8, texts UTF-16 units
pub data Command : Type 0 where
  NewDocument : Command
  CreateElement : ℕ → List ℕ → Command
  CreateText : ℕ → List ℕ → Command
  CreateComment : ℕ → List ℕ → Command
  CreatePI : ℕ → List ℕ → List ℕ → Command
  CreateDoctype : ℕ → List ℕ → List ℕ → List ℕ → Command
  CreateFragment : ℕ → Command
  InsertBefore : ℕ → ℕ → Option ℕ → Command
  AppendChild : ℕ → ℕ → Command
  ReplaceChild : ℕ → ℕ → ℕ → Command
  RemoveChild : ℕ → ℕ → Command
  Remove : ℕ → Command
  ReplaceChildren : ℕ → Option ℕ → Command
  AdoptNode : ℕ → ℕ → Command
  ImportNode : ℕ → ℕ → Bool → Command
  CloneNode : ℕ → Bool → Command
  Normalize : ℕ → Command
  DescribeNode : ℕ → Command
  Children : ℕ → Command
  Index : ℕ → Command
  Length : ℕ → Command
  Root : ℕ → Command
  IsContaining : ℕ → Option ℕ → Command
  IsEqual : ℕ → Option ℕ → Command
  ComparePosition : ℕ → ℕ → Command
  TextContent : ℕ → Command
  SetTextContent : ℕ → List ℕ → Command
  Tree : ℕ → Command
  GetData : ℕ → Command
  SetData : ℕ → List ℕ → Command
  AppendData : ℕ → List ℕ → Command
  InsertData : ℕ → ℕ → List ℕ → Command
  DeleteData : ℕ → ℕ → ℕ → Command
  ReplaceData : ℕ → ℕ → ℕ → List ℕ → Command
  SubstringData : ℕ → ℕ → ℕ → Command
  SplitText : ℕ → ℕ → Command
  SetAttribute : ℕ → List ℕ → List ℕ → Command
  GetAttribute : ℕ → List ℕ → Command
  HasAttribute : ℕ → List ℕ → Command
  RemoveAttribute : ℕ → List ℕ → Command
  ToggleAttribute : ℕ → List ℕ → Option Bool → Command
  AttributeNames : ℕ → Command
  CreateRange : ℕ → Command
  CloneRange : ℕ → Command
  DescribeRange : ℕ → Command
  SetStart : ℕ → ℕ → ℕ → Command
  SetEnd : ℕ → ℕ → ℕ → Command
  SetStartBefore : ℕ → ℕ → Command
  SetStartAfter : ℕ → ℕ → Command
  SetEndBefore : ℕ → ℕ → Command
  SetEndAfter : ℕ → ℕ → Command
  Collapse : ℕ → Bool → Command
  SelectNode : ℕ → ℕ → Command
  SelectNodeContents : ℕ → ℕ → Command
  CompareBoundaryPoints : ℕ → ℕ → ℕ → Command
  ComparePoint : ℕ → ℕ → ℕ → Command
  IsPointInRange : ℕ → ℕ → ℕ → Command
  IntersectsNode : ℕ → ℕ → Command
  CommonAncestor : ℕ → Command
  RangeText : ℕ → Command
  DeleteContents : ℕ → Command
  ExtractContents : ℕ → Command
  CloneContents : ℕ → Command
  InsertNode : ℕ → ℕ → Command
  SurroundContents : ℕ → ℕ → Command
  ReleaseRange : ℕ → Command
  CreateIterator : ℕ → Filter → Command
  CreateWalker : ℕ → Filter → Command
  DescribeIterator : ℕ → Command
  NextNode : ℕ → Command
  PreviousNode : ℕ → Command
  DescribeWalker : ℕ → Command
  SetCurrent : ℕ → ℕ → Command
  Walk : ℕ → Move → Command
  CreateObserver : Command
  Observe : ℕ → ℕ → GivenOptions → Command
  Disconnect : ℕ → Command
  TakeRecords : ℕ → Command
  Notify : Command
  Pending : Command
  Discard : ℕ → Command
  CreateStaticRange : Point → Point → Command
  DescribeStaticRange : ℕ → Command
  -- ours; these six have no line, and are made by who calls the core as a library
  ReleaseIterator : ℕ → Command
  ReleaseWalker : ℕ → Command
  ReleaseStaticRange : ℕ → Command
  ReleaseObserver : ℕ → Command
  TakePending : Command
  TellObserver : ℕ → Command
