-- Where a node is to come in, and what a Document then refuses. DOM Standard, "Mutation algorithms".
use Rattle.std.specs.Prelude.{◌≡◌, ℕ, ◌+◌, Bool, true, false, List, [], ◌∷◌, ◌++◌, Option, Some, None}
use Rattle.std.specs.Option.{ForSome}
use Rattle.dom_model.specs.declared.Kind.{Kind}
use Rattle.dom_model.specs.PlainLists.Lists.{hits, from_first, up_to, past}
use Rattle.dom_model.specs.Forests.Forest.{Forest, parent_of, children_of}
use Rattle.dom_model.specs.MutationAlgorithms.Checks.{has_kind, count_kind, common_conditions, kind_refuses, document_refuses, document_refuses_instead}
use Rattle.dom_model.specs.declared.DomError.{DomError}
use Rattle.dom_model.specs.declared.DomError.TheVariants.{HierarchyRequestError}
use Rattle.dom_model.specs.declared.Kind.TheVariants.{Element, DocumentType}
use Rattle.dom_edit.specs.declared.insertion_point.Found.{Found}
use Rattle.dom_edit.specs.declared.insertion_point.Around.{Around}
use Rattle.dom_edit.specs.declared.insertion_point.InsertionPoint.{InsertionPoint}
use Rattle.dom_edit.specs.declared.insertion_point.InsertionPoint.TheVariants.{Before, Instead}

-- a number that is given stands once in the list
abbrev pub IsAmong : Option ℕ → List ℕ → Type 0
IsAmong None xs = Unit {0}
IsAmong (Some n) xs = hits n xs ≡ 1

-- the part of a list from a number on; nothing where no number is given
abbrev pub from_optional : Option ℕ → List ℕ → List ℕ
from_optional None xs = []
from_optional (Some n) xs = from_first n xs

-- what comes before a number of a list; the whole list where no number is given
abbrev pub children_ahead : Option ℕ → List ℕ → List ℕ
children_ahead None xs = xs
children_ahead (Some n) xs = up_to n xs

module _ {X : Type 0} where
  -- the child that a place names stands under the parent
  abbrev pub IsUnder : Forest X → ℕ → InsertionPoint → Type 0
  IsUnder f parent (Before child) = ForSome child (λ c. parent_of f c ≡ Some parent)
  IsUnder f parent (Instead child) = parent_of f child ≡ Some parent

  -- what a Document refuses at a place, by the kind of node
  abbrev pub refuses : InsertionPoint → Kind → Forest X → ℕ → ℕ → Bool
  refuses (Before child) kind f parent n = document_refuses kind f parent n child
  refuses (Instead child) kind f parent n = document_refuses_instead kind f parent n child

-- the child that a place names
abbrev pub child_of : InsertionPoint → Option ℕ
child_of (Before child) = child
child_of (Instead child) = Some child

-- the six tests of a check, in their order
abbrev pub conditions_at : {X : Type 0} → InsertionPoint → Forest X → ℕ → ℕ → List (Bool × DomError)
conditions_at place f parent n =
    common_conditions f parent n (child_of place)
    ++ (kind_refuses (λ k. refuses place k f parent n) f parent n, HierarchyRequestError) ∷ []

-- that child stays
abbrev pub keeps_child : InsertionPoint → Bool
keeps_child (Before child) = true
keeps_child (Instead child) = false

-- that child as a list, where it stays
abbrev pub staying : InsertionPoint → List ℕ
staying (Before None) = []
staying (Before (Some c)) = c ∷ []
staying (Instead c) = []

-- what comes after a number of a list; nothing where no number is given
abbrev pub past_of : Option ℕ → List ℕ → List ℕ
past_of None xs = []
past_of (Some n) xs = past n xs

-- how many nodes of a kind stand around a place: ahead of the child that it names, at it where it stays, and after it
abbrev pub count_around : {X : Type 0} → Kind → Forest X → ℕ → InsertionPoint → ℕ
count_around kind f parent place =
    count_kind kind f (children_ahead (child_of place) (children_of f parent))
    + (count_kind kind f (staying place) + count_kind kind f (past_of (child_of place) (children_of f parent)))

-- whether elements and doctypes stand among the nodes of a list
pub record IsFound {X : Type 0} (f : Forest X) (ns : List ℕ) (found : Found) : Type 0 where
  pub element : found.element ≡ has_kind Element f ns
  pub doctype : found.doctype ≡ has_kind DocumentType f ns

-- what stands ahead of the child that a place names, at it where it stays, and after it
pub record IsAround {X : Type 0} (f : Forest X) (parent : ℕ) (place : InsertionPoint) (around : Around) : Type 0 where
  pub ahead : IsFound f (children_ahead (child_of place) (children_of f parent)) around.ahead
  pub at : IsFound f (staying place) around.at
  pub past : IsFound f (past_of (child_of place) (children_of f parent)) around.past
