-- The table of commands: a name, the shapes of the arguments, and the command that they make.
-- The commands that release an iterator, a walker, a static range or an observer, and the two steps of notify, have no row (ours): a line with such a name is `bad-command`.
use Rattle.std.specs.Prelude.{ℕ, List, [], ◌∷◌, Bool, false, Option, None, codes, slice_index, slice_index_or}
use Rattle.dom_model.specs.declared.Move.{Move}
use Rattle.dom_model.specs.declared.Move.TheVariants.{ParentNode}
use Rattle.dom_model.specs.Worlds.World.{FilterRule}
use Rattle.dom_model.specs.Commands.Command.{Command, NewDocument, CreateElement, CreateText, CreateComment, CreatePI, CreateDoctype, CreateFragment, InsertBefore, AppendChild, AdoptNode, ReplaceChild, RemoveChild, Remove, ReplaceChildren, ImportNode, CloneNode, Normalize, DescribeNode, Children, Index, Length, Root, IsContaining, IsEqual, ComparePosition, TextContent, SetTextContent, Tree, GetData, SetData, AppendData, InsertData, DeleteData, ReplaceData, SubstringData, SplitText, SetAttribute, GetAttribute, HasAttribute, RemoveAttribute, ToggleAttribute, AttributeNames, CreateRange, CloneRange, DescribeRange, SetStart, SetEnd, SetStartBefore, SetStartAfter, SetEndBefore, SetEndAfter, Collapse, SelectNode, SelectNodeContents, CompareBoundaryPoints, ComparePoint, IsPointInRange, IntersectsNode, CommonAncestor, RangeText, DeleteContents, ExtractContents, CloneContents, InsertNode, SurroundContents, ReleaseRange, CreateIterator, CreateWalker, DescribeIterator, NextNode, PreviousNode, DescribeWalker, SetCurrent, Walk, CreateObserver, Observe, Disconnect, TakeRecords, Notify, Pending, Discard, CreateStaticRange, DescribeStaticRange}
use Rattle.dom_model.specs.MutationObservers.GivenOptions.{GivenOptions, no_options}

-- what an argument has to be
pub data Shape : Type 0 where
  a_number : Shape
  a_number_or_null : Shape
  a_string : Shape
  a_text : Shape
  a_text_or_null : Shape
  a_flag : Shape
  a_flag_or_null : Shape
  a_filter : Shape
  a_move : Shape
  the_options : Shape

-- arguments as they were read: numbers and strings by their place among the arguments, and one of each other shape
pub record Arguments : Type 0 where
  pub numbers : List ℕ
  pub strings : List (List ℕ)
  pub number : Option ℕ
  pub text : List ℕ
  pub flag : Bool
  pub flag_or_null : Option Bool
  pub rules : List FilterRule
  pub move : Move
  pub options : GivenOptions

-- four places, since no command has more than four arguments
abbrev pub no_arguments : Arguments
no_arguments = record {
  numbers = 0 ∷ 0 ∷ 0 ∷ 0 ∷ [];
  strings = [] ∷ [] ∷ [] ∷ [] ∷ [];
  number = None;
  text = [];
  flag = false;
  flag_or_null = None;
  rules = [];
  move = ParentNode;
  options = no_options;
}

abbrev pub number_at : Arguments → ℕ → ℕ
number_at a i = slice_index a.numbers i

abbrev pub string_at : Arguments → ℕ → List ℕ
string_at a i = slice_index_or a.strings i []

pub record Row : Type 0 where
  pub name : List ℕ
  pub shapes : List Shape
  pub command : Arguments → Command

abbrev pub row : List ℕ → List Shape → (Arguments → Command) → Row
row name shapes command = record { name = name; shapes = shapes; command = command }

-- every command
unfoldable pub whole_table : List Row
whole_table =
    row (codes "newDocument") [] (λ (a : Arguments). NewDocument)
    ∷ row (codes "createElement") (a_number ∷ a_string ∷ []) (λ (a : Arguments). CreateElement (number_at a 0) (string_at a 1))
    ∷ row (codes "createText") (a_number ∷ a_text ∷ []) (λ (a : Arguments). CreateText (number_at a 0) a.text)
    ∷ row (codes "createComment") (a_number ∷ a_text ∷ []) (λ (a : Arguments). CreateComment (number_at a 0) a.text)
    ∷ row (codes "createPI") (a_number ∷ a_string ∷ a_text ∷ []) (λ (a : Arguments). CreatePI (number_at a 0) (string_at a 1) a.text)
    ∷ row (codes "createDoctype") (a_number ∷ a_string ∷ a_string ∷ a_string ∷ [])
    (λ (a : Arguments). CreateDoctype (number_at a 0) (string_at a 1) (string_at a 2) (string_at a 3))
    ∷ row (codes "createFragment") (a_number ∷ []) (λ (a : Arguments). CreateFragment (number_at a 0))
    ∷ row (codes "insertBefore") (a_number ∷ a_number ∷ a_number_or_null ∷ []) (λ (a : Arguments). InsertBefore (number_at a 0) (number_at a 1) a.number)
    ∷ row (codes "appendChild") (a_number ∷ a_number ∷ []) (λ (a : Arguments). AppendChild (number_at a 0) (number_at a 1))
    ∷ row (codes "adoptNode") (a_number ∷ a_number ∷ []) (λ (a : Arguments). AdoptNode (number_at a 0) (number_at a 1))
    ∷ row (codes "replaceChild") (a_number ∷ a_number ∷ a_number ∷ []) (λ (a : Arguments). ReplaceChild (number_at a 0) (number_at a 1) (number_at a 2))
    ∷ row (codes "removeChild") (a_number ∷ a_number ∷ []) (λ (a : Arguments). RemoveChild (number_at a 0) (number_at a 1))
    ∷ row (codes "remove") (a_number ∷ []) (λ (a : Arguments). Remove (number_at a 0))
    ∷ row (codes "replaceChildren") (a_number ∷ a_number_or_null ∷ []) (λ (a : Arguments). ReplaceChildren (number_at a 0) a.number)
    ∷ row (codes "importNode") (a_number ∷ a_number ∷ a_flag ∷ []) (λ (a : Arguments). ImportNode (number_at a 0) (number_at a 1) a.flag)
    ∷ row (codes "cloneNode") (a_number ∷ a_flag ∷ []) (λ (a : Arguments). CloneNode (number_at a 0) a.flag)
    ∷ row (codes "normalize") (a_number ∷ []) (λ (a : Arguments). Normalize (number_at a 0))
    ∷ row (codes "node") (a_number ∷ []) (λ (a : Arguments). DescribeNode (number_at a 0))
    ∷ row (codes "children") (a_number ∷ []) (λ (a : Arguments). Children (number_at a 0))
    ∷ row (codes "index") (a_number ∷ []) (λ (a : Arguments). Index (number_at a 0))
    ∷ row (codes "length") (a_number ∷ []) (λ (a : Arguments). Length (number_at a 0))
    ∷ row (codes "root") (a_number ∷ []) (λ (a : Arguments). Root (number_at a 0))
    ∷ row (codes "contains") (a_number ∷ a_number_or_null ∷ []) (λ (a : Arguments). IsContaining (number_at a 0) a.number)
    ∷ row (codes "isEqual") (a_number ∷ a_number_or_null ∷ []) (λ (a : Arguments). IsEqual (number_at a 0) a.number)
    ∷ row (codes "comparePosition") (a_number ∷ a_number ∷ []) (λ (a : Arguments). ComparePosition (number_at a 0) (number_at a 1))
    ∷ row (codes "textContent") (a_number ∷ []) (λ (a : Arguments). TextContent (number_at a 0))
    ∷ row (codes "setTextContent") (a_number ∷ a_text_or_null ∷ []) (λ (a : Arguments). SetTextContent (number_at a 0) a.text)
    ∷ row (codes "tree") (a_number ∷ []) (λ (a : Arguments). Tree (number_at a 0))
    ∷ row (codes "data") (a_number ∷ []) (λ (a : Arguments). GetData (number_at a 0))
    ∷ row (codes "setData") (a_number ∷ a_text ∷ []) (λ (a : Arguments). SetData (number_at a 0) a.text)
    ∷ row (codes "appendData") (a_number ∷ a_text ∷ []) (λ (a : Arguments). AppendData (number_at a 0) a.text)
    ∷ row (codes "insertData") (a_number ∷ a_number ∷ a_text ∷ []) (λ (a : Arguments). InsertData (number_at a 0) (number_at a 1) a.text)
    ∷ row (codes "deleteData") (a_number ∷ a_number ∷ a_number ∷ []) (λ (a : Arguments). DeleteData (number_at a 0) (number_at a 1) (number_at a 2))
    ∷ row (codes "replaceData") (a_number ∷ a_number ∷ a_number ∷ a_text ∷ [])
    (λ (a : Arguments). ReplaceData (number_at a 0) (number_at a 1) (number_at a 2) a.text)
    ∷ row (codes "substringData") (a_number ∷ a_number ∷ a_number ∷ []) (λ (a : Arguments). SubstringData (number_at a 0) (number_at a 1) (number_at a 2))
    ∷ row (codes "splitText") (a_number ∷ a_number ∷ []) (λ (a : Arguments). SplitText (number_at a 0) (number_at a 1))
    ∷ row (codes "setAttribute") (a_number ∷ a_string ∷ a_text ∷ []) (λ (a : Arguments). SetAttribute (number_at a 0) (string_at a 1) a.text)
    ∷ row (codes "getAttribute") (a_number ∷ a_string ∷ []) (λ (a : Arguments). GetAttribute (number_at a 0) (string_at a 1))
    ∷ row (codes "hasAttribute") (a_number ∷ a_string ∷ []) (λ (a : Arguments). HasAttribute (number_at a 0) (string_at a 1))
    ∷ row (codes "removeAttribute") (a_number ∷ a_string ∷ []) (λ (a : Arguments). RemoveAttribute (number_at a 0) (string_at a 1))
    ∷ row (codes "toggleAttribute") (a_number ∷ a_string ∷ a_flag_or_null ∷ [])
    (λ (a : Arguments). ToggleAttribute (number_at a 0) (string_at a 1) a.flag_or_null)
    ∷ row (codes "attributeNames") (a_number ∷ []) (λ (a : Arguments). AttributeNames (number_at a 0))
    ∷ row (codes "createRange") (a_number ∷ []) (λ (a : Arguments). CreateRange (number_at a 0))
    ∷ row (codes "cloneRange") (a_number ∷ []) (λ (a : Arguments). CloneRange (number_at a 0))
    ∷ row (codes "range") (a_number ∷ []) (λ (a : Arguments). DescribeRange (number_at a 0))
    ∷ row (codes "setStart") (a_number ∷ a_number ∷ a_number ∷ []) (λ (a : Arguments). SetStart (number_at a 0) (number_at a 1) (number_at a 2))
    ∷ row (codes "setEnd") (a_number ∷ a_number ∷ a_number ∷ []) (λ (a : Arguments). SetEnd (number_at a 0) (number_at a 1) (number_at a 2))
    ∷ row (codes "setStartBefore") (a_number ∷ a_number ∷ []) (λ (a : Arguments). SetStartBefore (number_at a 0) (number_at a 1))
    ∷ row (codes "setStartAfter") (a_number ∷ a_number ∷ []) (λ (a : Arguments). SetStartAfter (number_at a 0) (number_at a 1))
    ∷ row (codes "setEndBefore") (a_number ∷ a_number ∷ []) (λ (a : Arguments). SetEndBefore (number_at a 0) (number_at a 1))
    ∷ row (codes "setEndAfter") (a_number ∷ a_number ∷ []) (λ (a : Arguments). SetEndAfter (number_at a 0) (number_at a 1))
    ∷ row (codes "collapse") (a_number ∷ a_flag ∷ []) (λ (a : Arguments). Collapse (number_at a 0) a.flag)
    ∷ row (codes "selectNode") (a_number ∷ a_number ∷ []) (λ (a : Arguments). SelectNode (number_at a 0) (number_at a 1))
    ∷ row (codes "selectNodeContents") (a_number ∷ a_number ∷ []) (λ (a : Arguments). SelectNodeContents (number_at a 0) (number_at a 1))
    ∷ row (codes "compareBoundaryPoints") (a_number ∷ a_number ∷ a_number ∷ [])
    (λ (a : Arguments). CompareBoundaryPoints (number_at a 0) (number_at a 1) (number_at a 2))
    ∷ row (codes "comparePoint") (a_number ∷ a_number ∷ a_number ∷ []) (λ (a : Arguments). ComparePoint (number_at a 0) (number_at a 1) (number_at a 2))
    ∷ row (codes "isPointInRange") (a_number ∷ a_number ∷ a_number ∷ []) (λ (a : Arguments). IsPointInRange (number_at a 0) (number_at a 1) (number_at a 2))
    ∷ row (codes "intersectsNode") (a_number ∷ a_number ∷ []) (λ (a : Arguments). IntersectsNode (number_at a 0) (number_at a 1))
    ∷ row (codes "commonAncestor") (a_number ∷ []) (λ (a : Arguments). CommonAncestor (number_at a 0))
    ∷ row (codes "rangeText") (a_number ∷ []) (λ (a : Arguments). RangeText (number_at a 0))
    ∷ row (codes "deleteContents") (a_number ∷ []) (λ (a : Arguments). DeleteContents (number_at a 0))
    ∷ row (codes "extractContents") (a_number ∷ []) (λ (a : Arguments). ExtractContents (number_at a 0))
    ∷ row (codes "cloneContents") (a_number ∷ []) (λ (a : Arguments). CloneContents (number_at a 0))
    ∷ row (codes "insertNode") (a_number ∷ a_number ∷ []) (λ (a : Arguments). InsertNode (number_at a 0) (number_at a 1))
    ∷ row (codes "surroundContents") (a_number ∷ a_number ∷ []) (λ (a : Arguments). SurroundContents (number_at a 0) (number_at a 1))
    ∷ row (codes "releaseRange") (a_number ∷ []) (λ (a : Arguments). ReleaseRange (number_at a 0))
    ∷ row (codes "createIterator") (a_number ∷ a_number ∷ a_filter ∷ [])
    (λ (a : Arguments). CreateIterator (number_at a 0) (record { show = number_at a 1; rules = a.rules }))
    ∷ row (codes "createWalker") (a_number ∷ a_number ∷ a_filter ∷ [])
    (λ (a : Arguments). CreateWalker (number_at a 0) (record { show = number_at a 1; rules = a.rules }))
    ∷ row (codes "iterator") (a_number ∷ []) (λ (a : Arguments). DescribeIterator (number_at a 0))
    ∷ row (codes "nextNode") (a_number ∷ []) (λ (a : Arguments). NextNode (number_at a 0))
    ∷ row (codes "previousNode") (a_number ∷ []) (λ (a : Arguments). PreviousNode (number_at a 0))
    ∷ row (codes "walker") (a_number ∷ []) (λ (a : Arguments). DescribeWalker (number_at a 0))
    ∷ row (codes "setCurrent") (a_number ∷ a_number ∷ []) (λ (a : Arguments). SetCurrent (number_at a 0) (number_at a 1))
    ∷ row (codes "walk") (a_number ∷ a_move ∷ []) (λ (a : Arguments). Walk (number_at a 0) a.move)
    ∷ row (codes "createObserver") [] (λ (a : Arguments). CreateObserver)
    ∷ row (codes "observe") (a_number ∷ a_number ∷ the_options ∷ []) (λ (a : Arguments). Observe (number_at a 0) (number_at a 1) a.options)
    ∷ row (codes "disconnect") (a_number ∷ []) (λ (a : Arguments). Disconnect (number_at a 0))
    ∷ row (codes "takeRecords") (a_number ∷ []) (λ (a : Arguments). TakeRecords (number_at a 0))
    ∷ row (codes "notify") [] (λ (a : Arguments). Notify)
    ∷ row (codes "pending") [] (λ (a : Arguments). Pending)
    ∷ row (codes "discard") (a_number ∷ []) (λ (a : Arguments). Discard (number_at a 0))
    ∷ row (codes "createStaticRange") (a_number ∷ a_number ∷ a_number ∷ a_number ∷ [])
    (λ (a : Arguments).
    CreateStaticRange (record { node = number_at a 0; offset = number_at a 1 }) (record { node = number_at a 2; offset = number_at a 3 }))
    ∷ row (codes "staticRange") (a_number ∷ []) (λ (a : Arguments). DescribeStaticRange (number_at a 0))
    ∷ []
