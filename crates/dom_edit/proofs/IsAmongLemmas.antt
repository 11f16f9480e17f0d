-- Going along the children of a node: what is left of the list from a child on.
use Rattle.std.proofs.Common.{◌==◌, if◌then◌else◌, not, ◌||◌, nat_eq, MatchOption, ◌≡◌, ℕ, ◌+◌, ◌<◌, ◌≤◌, Bool, true, false, List, [], ◌∷◌, length, Option, Some, None, refl, ap, subst, arith}
use Rattle.std.specs.Option.{ForSome}
use Rattle.std.proofs.lemmas.Bool.Decides.{nat_tests}
use Rattle.dom_model.specs.declared.Kind.{Kind}
use Rattle.dom_model.specs.Definitions.{hits, head_of, after, from_first, list_under, Forest, Grove, IsForest, entry_in, HasNode, parent_of, children_of, next_of, count_kind, has_kind, is_of_kind}
use Rattle.dom_model.proofs.PlainLists.{FromFirst.from-last, FromFirst.from-after}
use Rattle.dom_model.proofs.Forests.{Changes.seen, Changes.nothing, Changes.just, Climbing.hits-first, PutBack.hits-after, Entries.HasNode-occurs, Indices.child-parent, Indices.child-there}
use Rattle.dom_edit.specs.InsertionPoints.{from_optional, IsAmong}
use Rattle.dom_ranges.proofs.ForgetInsideLemmas.{from-fewer}

-- from the head on there is the whole list
pub from_optional-head : (xs : List ℕ) → from_optional (head_of xs) xs ≡ xs
from_optional-head [] = refl
from_optional-head (x ∷ xs) = let t : (x == x) ≡ true = grind (arith, nat_tests) in rw t refl

pub IsAmong-head : (xs : List ℕ) → ((m : ℕ) → hits m xs ≤ 1) → IsAmong (head_of xs) xs
IsAmong-head [] once = tt
IsAmong-head (x ∷ xs) once = let h = once x in let k = hits-first x xs in omega arith

-- the successor of a number stands in the list
pub IsAmong-after : (n : ℕ) (xs : List ℕ) → ((m : ℕ) → hits m xs ≤ 1) → IsAmong (after n xs) xs
IsAmong-after n xs once =
    elim (seen (after n xs)) [
      | nothing e ↦ rw e tt
      | just m e ↦ rw e (let h = once m in let k = hits-after n xs m e in omega arith)
    ]

-- the part from n on is n and the part from its successor on, where n stands once
pub from_first-after : (n : ℕ) (xs : List ℕ) → ((m : ℕ) → hits m xs ≤ 1) → hits n xs ≡ 1 → from_first n xs ≡ n ∷ from_optional (after n xs) xs
from_first-after n xs once one =
    elim (seen (after n xs)) [
      | nothing e ↦ rw e (from-last n xs (omega arith) e)
      | just m e ↦ rw e (from-after n m xs (once m) e)
    ]

-- each number of a list stands in the other
abbrev pub AreAmong : List ℕ → List ℕ → Type 0
AreAmong ns xs = (m : ℕ) → 0 < hits m ns → 0 < hits m xs

pub from-among : (o : Option ℕ) (xs : List ℕ) → AreAmong (from_optional o xs) xs
from-among None xs m h = absurd (omega arith)
from-among (Some n) xs m h = omega (arith, from-fewer n m xs)

-- so does the first of them
pub first-among : (n : ℕ) (ns xs : List ℕ) → AreAmong (n ∷ ns) xs → 0 < hits n xs
first-among n ns xs h = h n (hits-first n ns)

-- a list that is told of a number that is given, and of none
pub from_optional-given : (o : Option ℕ) (r xs : List ℕ) → MatchOption o (r ≡ []) (λ n. r ≡ from_first n xs) → r ≡ from_optional o xs
from_optional-given None r xs h = h
from_optional-given (Some n) r xs h = h

module _ {X : Type 0} (g : Grove X) (sound : IsForest g) where
  pub HasNode-child : (p c : ℕ) → 0 < hits c (children_of g.forest p) → HasNode g.forest c
  HasNode-child p c h = HasNode-occurs g.forest c (child-there g.forest sound.once c p h)

  -- a child that is given stands under its parent
  pub parent-among : (p : ℕ) (o : Option ℕ) → IsAmong o (children_of g.forest p) → ForSome o (λ c. parent_of g.forest c ≡ Some p)
  parent-among p None h c e = absurd (cc e)
  parent-among p (Some n) h c e =
      let d : n ≡ c = cc e in
      subst (λ m. parent_of g.forest m ≡ Some p) d (child-parent g.forest sound.once n p (omega arith))

  -- the next sibling of a child is its successor among the children
  pub next_of-child : (p c : ℕ) → hits c (children_of g.forest p) ≡ 1 → next_of g.forest c ≡ after c (children_of g.forest p)
  next_of-child p c h =
      ap (λ q. after c (list_under (entry_in g.forest) q)) (child-parent g.forest sound.once c p (omega arith))

-- one more in a filtered list
length-cons_if : (t : Bool) (c : ℕ) (cs : List ℕ) → length (if t then c ∷ cs else cs) ≡ (if t then 1 else 0) + length cs
length-cons_if true c cs = omega arith
length-cons_if false c cs = omega arith

one_or_none : (t : Bool) → (if t then 1 else 0) ≤ 1
one_or_none true = omega arith
one_or_none false = omega arith

module _ {X : Type 0} where
  -- a child more, counted
  pub count_kind-cons : (k : Kind) (f : Forest X) (c : ℕ) (cs : List ℕ) → count_kind k f (c ∷ cs) ≡ (if is_of_kind k f c then 1 else 0) + count_kind k f cs
  count_kind-cons k f c cs = length-cons_if (is_of_kind k f c) c _

  -- no more are counted than there are
  pub count_kind_le-length : (k : Kind) (f : Forest X) (cs : List ℕ) → count_kind k f cs ≤ length cs
  count_kind_le-length k f [] = omega arith
  count_kind_le-length k f (c ∷ cs) =
      let e = count_kind-cons k f c cs in
      let h = count_kind_le-length k f cs in
      let t = one_or_none (is_of_kind k f c) in
      omega (arith, e, h, t)

some_or_none : (t rest : Bool) (n : ℕ) → rest ≡ not (nat_eq n 0) → (t || rest) ≡ not (nat_eq ((if t then 1 else 0) + n) 0)
some_or_none true rest n h = let e : nat_eq (1 + n) 0 ≡ false = grind (arith, nat_tests) in rw e refl
some_or_none false rest n h = let e : 0 + n ≡ n = omega arith in rw e h

module _ {X : Type 0} where
  -- there is one of a kind where the count is not 0
  pub has_kind-count : (k : Kind) (f : Forest X) (cs : List ℕ) → has_kind k f cs ≡ not (nat_eq (count_kind k f cs) 0)
  has_kind-count k f [] = refl
  has_kind-count k f (c ∷ cs) = rw (count_kind-cons k f c cs) (some_or_none (is_of_kind k f c) (has_kind k f cs) (count_kind k f cs) (has_kind-count k f cs))
