-- The row of the table that each name stands for.
use Rattle.std.specs.Prelude.{ℕ, nat_eq, Bool, [], length, slice_index_or}
use Rattle.dom_model.specs.Commands.Command as model
use Rattle.dom_model.specs.Commands.Table.{Row, row, Arguments, whole_table}
use Rattle.dom_wire.specs.declared.command_names.Name.{Name}
use Rattle.dom_wire.specs.declared.command_names.Name.TheVariants.{NewDocument, CreateElement, CreateText, CreateComment, CreatePI, CreateDoctype, CreateFragment, InsertBefore, AppendChild, AdoptNode, ReplaceChild, RemoveChild, Remove, ReplaceChildren, ImportNode, CloneNode, Normalize, DescribeNode, Children, Index, Length, Root, IsContaining, IsEqual, ComparePosition, TextContent, SetTextContent, Tree, GetData, SetData, AppendData, InsertData, DeleteData, ReplaceData, SubstringData, SplitText, SetAttribute, GetAttribute, HasAttribute, RemoveAttribute, ToggleAttribute, AttributeNames, CreateRange, CloneRange, DescribeRange, SetStart, SetEnd, SetStartBefore, SetStartAfter, SetEndBefore, SetEndAfter, Collapse, SelectNode, SelectNodeContents, CompareBoundaryPoints, ComparePoint, IsPointInRange, IntersectsNode, CommonAncestor, RangeText, DeleteContents, ExtractContents, CloneContents, InsertNode, SurroundContents, ReleaseRange, CreateIterator, CreateWalker, DescribeIterator, NextNode, PreviousNode, DescribeWalker, SetCurrent, Walk, CreateObserver, Observe, Disconnect, TakeRecords, Notify, Pending, Discard, CreateStaticRange, DescribeStaticRange}

-- the place of a name's row in the table
unfoldable pub row_number : Name → ℕ
row_number NewDocument = 0
row_number CreateElement = 1
row_number CreateText = 2
row_number CreateComment = 3
row_number CreatePI = 4
row_number CreateDoctype = 5
row_number CreateFragment = 6
row_number InsertBefore = 7
row_number AppendChild = 8
row_number AdoptNode = 9
row_number ReplaceChild = 10
row_number RemoveChild = 11
row_number Remove = 12
row_number ReplaceChildren = 13
row_number ImportNode = 14
row_number CloneNode = 15
row_number Normalize = 16
row_number DescribeNode = 17
row_number Children = 18
row_number Index = 19
row_number Length = 20
row_number Root = 21
row_number IsContaining = 22
row_number IsEqual = 23
row_number ComparePosition = 24
row_number TextContent = 25
row_number SetTextContent = 26
row_number Tree = 27
row_number GetData = 28
row_number SetData = 29
row_number AppendData = 30
row_number InsertData = 31
row_number DeleteData = 32
row_number ReplaceData = 33
row_number SubstringData = 34
row_number SplitText = 35
row_number SetAttribute = 36
row_number GetAttribute = 37
row_number HasAttribute = 38
row_number RemoveAttribute = 39
row_number ToggleAttribute = 40
row_number AttributeNames = 41
row_number CreateRange = 42
row_number CloneRange = 43
row_number DescribeRange = 44
row_number SetStart = 45
row_number SetEnd = 46
row_number SetStartBefore = 47
row_number SetStartAfter = 48
row_number SetEndBefore = 49
row_number SetEndAfter = 50
row_number Collapse = 51
row_number SelectNode = 52
row_number SelectNodeContents = 53
row_number CompareBoundaryPoints = 54
row_number ComparePoint = 55
row_number IsPointInRange = 56
row_number IntersectsNode = 57
row_number CommonAncestor = 58
row_number RangeText = 59
row_number DeleteContents = 60
row_number ExtractContents = 61
row_number CloneContents = 62
row_number InsertNode = 63
row_number SurroundContents = 64
row_number ReleaseRange = 65
row_number CreateIterator = 66
row_number CreateWalker = 67
row_number DescribeIterator = 68
row_number NextNode = 69
row_number PreviousNode = 70
row_number DescribeWalker = 71
row_number SetCurrent = 72
row_number Walk = 73
row_number CreateObserver = 74
row_number Observe = 75
row_number Disconnect = 76
row_number TakeRecords = 77
row_number Notify = 78
row_number Pending = 79
row_number Discard = 80
row_number CreateStaticRange = 81
row_number DescribeStaticRange = 82

unfoldable pub row_of : Name → Row
unfolding row_number whole_table
row_of name = slice_index_or whole_table (row_number name) (row [] [] (λ (a : Arguments). model.NewDocument))

-- a row whose name has so many bytes
abbrev pub is_of_length : ℕ → Row → Bool
is_of_length n r = nat_eq (length r.name) n
