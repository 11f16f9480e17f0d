-- The checks ahead of an insertion and of a replacement, each an ordered list of a test and a name: the first that holds is the refusal.
-- DOM Standard, "Mutation algorithms": ensure pre-insertion validity; replace.
use Rattle.std.specs.Prelude.{ℕ, ◌==◌, nat_lt, Bool, false, not, ◌&&◌, ◌||◌, List, [], ◌∷◌, ◌++◌, filter, length, Option, Some, None}
use Rattle.std.specs.List.{list_any}
use Rattle.dom_model.specs.declared.Kind.{Kind}
use Rattle.dom_model.specs.declared.Kind.TheVariants.{Element, Text, ProcessingInstruction, Comment, Document, DocumentType, DocumentFragment}
use Rattle.dom_model.specs.declared.DomError.{DomError}
use Rattle.dom_model.specs.declared.DomError.TheVariants.{HierarchyRequestError, NotFoundError}
use Rattle.dom_model.specs.PlainLists.Lists.{among, is_number, past, up_to, first_refusal}
use Rattle.dom_model.specs.Forests.Kinds.{may_be_parent}
use Rattle.dom_model.specs.Forests.Forest.{Forest, parent_of, children_of, ancestors}
use Rattle.dom_model.specs.Forests.Nodes.{kind_passes, is_of_kind}

-- there is no number, or the test holds of it
abbrev pub if_given : (ℕ → Bool) → Option ℕ → Bool
if_given test None = false
if_given test (Some n) = test n

module _ {X : Type 0} where
  -- some node of the list is of the kind
  abbrev pub has_kind : Kind → Forest X → List ℕ → Bool
  has_kind k f ns = list_any (is_of_kind k f) ns

  -- how many nodes of the list are of the kind
  abbrev pub count_kind : Kind → Forest X → List ℕ → ℕ
  count_kind k f ns = length (filter (is_of_kind k f) ns)

  -- the child is a doctype, or one follows it
  abbrev pub doctype_from : Forest X → ℕ → Option ℕ → Bool
  doctype_from f parent child =
      if_given (λ c. is_of_kind DocumentType f c || has_kind DocumentType f (past c (children_of f parent))) child

  -- a doctype follows the child
  abbrev pub doctype_after : Forest X → ℕ → ℕ → Bool
  doctype_after f parent child = has_kind DocumentType f (past child (children_of f parent))

  -- an element precedes the child
  abbrev pub element_before : Forest X → ℕ → ℕ → Bool
  element_before f parent child = has_kind Element f (up_to child (children_of f parent))

  -- the fragment has more than one element child, or a Text child
  abbrev pub holds_too_much : Forest X → ℕ → Bool
  holds_too_much f n = nat_lt 1 (count_kind Element f (children_of f n)) || has_kind Text f (children_of f n)

  -- an element comes in before `child`
  abbrev pub element_refused : Forest X → ℕ → Option ℕ → Bool
  element_refused f parent child = has_kind Element f (children_of f parent) || doctype_from f parent child

  -- a doctype comes in before `child`
  abbrev pub doctype_refused : Forest X → ℕ → Option ℕ → Bool
  doctype_refused f parent None = has_kind DocumentType f (children_of f parent) || has_kind Element f (children_of f parent)
  doctype_refused f parent (Some c) = has_kind DocumentType f (children_of f parent) || element_before f parent c

  -- what a Document refuses to have put in before `child`, by the kind of node
  abbrev pub document_refuses : Kind → Forest X → ℕ → ℕ → Option ℕ → Bool
  document_refuses Element f parent n child = element_refused f parent child
  document_refuses Text f parent n child = false
  document_refuses ProcessingInstruction f parent n child = false
  document_refuses Comment f parent n child = false
  document_refuses Document f parent n child = false
  document_refuses DocumentType f parent n child = doctype_refused f parent child
  document_refuses DocumentFragment f parent n child =
      holds_too_much f n || ((count_kind Element f (children_of f n) == 1) && element_refused f parent child)

  -- what a Document refuses in the place of `child`
  abbrev pub document_refuses_instead : Kind → Forest X → ℕ → ℕ → ℕ → Bool
  document_refuses_instead Element f parent n child =
      has_kind Element f (filter (λ m. not (m == child)) (children_of f parent)) || doctype_after f parent child
  document_refuses_instead Text f parent n child = false
  document_refuses_instead ProcessingInstruction f parent n child = false
  document_refuses_instead Comment f parent n child = false
  document_refuses_instead Document f parent n child = false
  document_refuses_instead DocumentType f parent n child =
      has_kind DocumentType f (filter (λ m. not (m == child)) (children_of f parent)) || element_before f parent child
  document_refuses_instead DocumentFragment f parent n child =
      holds_too_much f n
      || ((count_kind Element f (children_of f n) == 1)
      && (has_kind Element f (filter (λ m. not (m == child)) (children_of f parent)) || doctype_after f parent child))

  -- a Text under a Document, or a doctype under anything else
  abbrev pub is_misplaced : Forest X → ℕ → ℕ → Bool
  is_misplaced f parent n =
      (is_of_kind Text f n && is_of_kind Document f parent) || (is_of_kind DocumentType f n && not (is_of_kind Document f parent))

  -- the first five conditions, which both checks share
  abbrev pub common_conditions : Forest X → ℕ → ℕ → Option ℕ → List (Bool × DomError)
  common_conditions f parent n child =
      (not (kind_passes may_be_parent f parent), HierarchyRequestError)
      ∷ (among n (ancestors parent f), HierarchyRequestError)
      ∷ (if_given (λ c. not (is_number (parent_of f c) parent)) child, NotFoundError)
      ∷ (is_of_kind Document f n, HierarchyRequestError)
      ∷ (is_misplaced f parent n, HierarchyRequestError)
      ∷ []

  abbrev pub kind_refuses : (Kind → Bool) → Forest X → ℕ → ℕ → Bool
  kind_refuses refuses f parent n = is_of_kind Document f parent && kind_passes refuses f n

  -- node into parent before child: the name of the refusal, or none
  abbrev pub check_insert : Forest X → ℕ → ℕ → Option ℕ → Option DomError
  check_insert f parent n child =
      first_refusal (common_conditions f parent n child
      ++ (kind_refuses (λ k. document_refuses k f parent n child) f parent n, HierarchyRequestError) ∷ [])

  -- node in the place of the parent's child
  abbrev pub check_replace : Forest X → ℕ → ℕ → ℕ → Option DomError
  check_replace f parent n child =
      first_refusal (common_conditions f parent n (Some child)
      ++ (kind_refuses (λ k. document_refuses_instead k f parent n child) f parent n, HierarchyRequestError) ∷ [])
