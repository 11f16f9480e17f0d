-- Lists of nodes: parts of the children of a node, and the way up from a node.
use Rattle.std.proofs.Common.{◌==◌, ◌≡◌, ℕ, ◌+◌, ◌<◌, ◌≤◌, true, false, List, [], ◌∷◌, ◌++◌, drop, length, slice_index_or, Option, Some, None, refl, ap, sym, ◌∙◌, arith, length-drop, append-nil}
use Rattle.std.proofs.lemmas.List.{append_assoc, drop_more}
use Rattle.dom_model.specs.Definitions.{up_to, Forest, HasNode, occurs, parent_of, ancestors}
use Rattle.dom_model.proofs.Forests.{Entries.occurs-HasNode, Entries.HasNode-occurs, Paths.parent-path, Paths.root-path}

pub listed : (nodes : List ℕ) (i x : ℕ) → x ≡ slice_index_or nodes i x → i < length nodes → drop i nodes ≡ x ∷ drop (i + 1) nodes
listed nodes i x is lt = drop_more nodes i x lt ∙ ap (λ y. y ∷ drop (i + 1) nodes) (sym is)

pub no_more : (xs : List ℕ) → length xs ≡ 0 → xs ≡ []
no_more [] e = refl
no_more (x ∷ xs) e = absurd (omega arith)

pub none-left : (nodes : List ℕ) (i : ℕ) → length nodes ≤ i → drop i nodes ≡ []
none-left nodes i le = no_more (drop i nodes) (let l = length-drop i nodes in omega arith)

-- The way up.

module _ {X : Type 0} (f : Forest X) where
  -- the inclusive ancestors of a node, where there is one
  abbrev pub way_up : Option ℕ → List ℕ
  way_up None = []
  way_up (Some n) = ancestors n f

  abbrev pub IsHeldAt : Option ℕ → Type 0
  IsHeldAt None = Unit {0}
  IsHeldAt (Some n) = HasNode f n

  module _ (o : (m : ℕ) → occurs m f ≤ 1) (n : ℕ) (held : HasNode f n) where
    pub way-on : (q : Option ℕ) → parent_of f n ≡ q → (ancestors n f ≡ n ∷ way_up q) × IsHeldAt q
    way-on None e = (root-path f o n (occurs-HasNode f n held) e, tt)
    way-on (Some q) e = let i = parent-path f o n q (occurs-HasNode f n held) e in (i.1, HasNode-occurs f q i.0)

up_to-other : (n x : ℕ) (xs : List ℕ) → (x == n) ≡ false → up_to n (x ∷ xs) ≡ x ∷ up_to n xs
up_to-other n x xs e = rw e refl

up_to-same : (n x : ℕ) (xs : List ℕ) → (x == n) ≡ true → up_to n (x ∷ xs) ≡ []
up_to-same n x xs e = rw e refl

-- The list of the way up, as far as it has come.

module _ {X : Type 0} (f : Forest X) (o : (m : ℕ) → occurs m f ≤ 1) (a n : ℕ) (held : HasNode f n) (q : Option ℕ) (e : parent_of f n ≡ q) (passed all : List ℕ) where
  pub way-passed : (n == a) ≡ false → passed ++ up_to a (ancestors n f) ≡ all → (passed ++ n ∷ []) ++ up_to a (way_up f q) ≡ all
  way-passed ne h =
      append_assoc passed (n ∷ []) (up_to a (way_up f q))
      ∙ ap (λ xs. passed ++ xs) (sym (up_to-other a n (way_up f q) ne) ∙ sym (ap (up_to a) (way-on f o n held q e).0))
      ∙ h

  pub way-ended : (n == a) ≡ true → passed ++ up_to a (ancestors n f) ≡ all → passed ≡ all
  way-ended same h =
      sym (append-nil passed)
      ∙ ap (λ xs. passed ++ xs) (sym (up_to-same a n (way_up f q) same) ∙ sym (ap (up_to a) (way-on f o n held q e).0))
      ∙ h
