-- Tree order, step by step.
use Rattle.std.proofs.Common.{◌≡◌, ℕ, ◌<◌, ◌≤◌, ◌==◌, nat_lt, if◌then◌else◌, List, [], ◌∷◌, ◌++◌, Option, Some, None, refl, ap, sym, ◌∙◌, subst, arith, ⊎_elim, append_assoc}
use Rattle.std.proofs.lemmas.{Bool.cases_lt, Bool.Decides.nat_tests}
use Rattle.dom_model.specs.Definitions.{hits, head_of, after, or_else, Entry, parent_in, children_in, list_under, next_in, Node, Forest, empty, node, occurs, tops, numbers, tree_at, Lies}
use Rattle.dom_model.proofs.PlainLists.Numbers.{same_or, same, apart}
use Rattle.dom_model.proofs.Forests.{Whereabouts.top, Whereabouts.inside, Whereabouts.beyond, Whereabouts.whereabouts, Totals.tree_at-absent, Totals.beside-empty, Tops.hits-tops, Lying.Lies-beside, TreeOrder.Flattened.hits-numbers}

pub after-front : (n : ℕ) (xs ys : List ℕ) → hits n xs ≡ 0 → after n (xs ++ ys) ≡ after n ys
after-front n [] ys h = refl
after-front n (x ∷ xs) ys h = grind (arith, after-front n xs ys)

module _ {X : Type 0} where
  -- the first number after the whole tree of n, where `follow` comes after the forest
  abbrev pub past : Option ℕ → ℕ → Forest X → Option ℕ
  past follow n empty = None
  past follow n (node x kids rest) =
      if x.number == n then or_else (head_of (tops rest)) follow
      else if nat_lt 0 (occurs n kids) then past (or_else (head_of (tops rest)) follow) n kids
      else past follow n rest

  past-top : (follow : Option ℕ) (n : ℕ) (x : Node X) (kids rest : Forest X) → x.number ≡ n → past follow n (node x kids rest) ≡ or_else (head_of (tops rest)) follow
  past-top follow n x kids rest e = elim (same_or x.number n) [ same _ t ↦ rw t refl | apart ne t ↦ absurd (ne e) ]

  past-kids : (follow : Option ℕ) (n : ℕ) (x : Node X) (kids rest : Forest X) → (x.number ≡ n → ⊥) → 0 < occurs n kids → past follow n (node x kids rest) ≡ past (or_else (head_of (tops rest)) follow) n kids
  past-kids follow n x kids rest ne h = grind arith

  past-rest : (follow : Option ℕ) (n : ℕ) (x : Node X) (kids rest : Forest X) → (x.number ≡ n → ⊥) → occurs n kids ≡ 0 → past follow n (node x kids rest) ≡ past follow n rest
  past-rest follow n x kids rest ne h = grind arith

  head_of-numbers : (f : Forest X) → head_of (numbers f) ≡ head_of (tops f)
  head_of-numbers empty = refl
  head_of-numbers (node x kids rest) = refl

  -- the next number in tree order is the first child, or what comes past the tree
  pub after-numbers : (at : (ℕ → Option (Entry (Node X)))) (q : Option ℕ) (n : ℕ) (f : Forest X) (tail : List ℕ) → ((m : ℕ) → occurs m f ≤ 1) → Lies at q f → 0 < occurs n f → after n (numbers f ++ tail) ≡ or_else (head_of (children_in (at n))) (past (head_of tail) n f)
  after-numbers at q n empty tail o l h = absurd (omega arith)
  after-numbers at q n (node x kids rest) tail o l h =
      grind (
        arith,
        nat_tests,
        head_of-numbers kids,
        head_of-numbers rest,
        after-numbers at (Some x.number) n kids (numbers rest ++ tail),
        append_assoc,
        after-numbers at q n rest tail,
        after-front,
        hits-numbers n kids,
      )

  sib_rest : (at : (ℕ → Option (Entry (Node X)))) (p : Option ℕ) (x : Node X) (kids rest : Forest X) → ((k : ℕ) → occurs k (node x kids rest) ≤ 1) → ((k : ℕ) → 0 < hits k (x.number ∷ tops rest) → after k (list_under at p) ≡ after k (x.number ∷ tops rest)) → (k : ℕ) → 0 < hits k (tops rest) → after k (list_under at p) ≡ after k (tops rest)
  sib_rest at p x kids rest o sib k h = grind (arith, nat_tests, hits-tops k rest)

  -- a next sibling comes right past the tree
  pub past-next : (at : (ℕ → Option (Entry (Node X)))) (p : Option ℕ) (follow : Option ℕ) (n m : ℕ) (f : Forest X) → ((k : ℕ) → occurs k f ≤ 1) → Lies at p f → ((k : ℕ) → 0 < hits k (tops f) → after k (list_under at p) ≡ after k (tops f)) → 0 < occurs n f → next_in at n ≡ Some m → past follow n f ≡ Some m
  past-next at p follow n m empty o l sib h e = absurd (omega arith)
  past-next at p follow n m (node x kids rest) o l sib h e =
      grind (
        arith,
        nat_tests,
        past-next at (Some x.number) (or_else (head_of (tops rest)) follow) n m kids,
        past-next at p follow n m rest,
        sib_rest at p x kids,
      )

-- where no sibling follows: on top of the forest, or under a node of it with the same past
pub data Up {X : Type 0} (p : Option ℕ) (follow : Option ℕ) (n : ℕ) (parent : Option ℕ) (f : Forest X) : Type 0 where
  over : parent ≡ p → past follow n f ≡ follow → Up p follow n parent f
  up : (q : ℕ) → parent ≡ Some q → 0 < occurs q f → past follow n f ≡ past follow q f → Up p follow n parent f

module _ {X : Type 0} where
  pub past-up : (at : (ℕ → Option (Entry (Node X)))) (p : Option ℕ) (follow : Option ℕ) (n : ℕ) (f : Forest X) → ((k : ℕ) → occurs k f ≤ 1) → Lies at p f → ((k : ℕ) → 0 < hits k (tops f) → after k (list_under at p) ≡ after k (tops f)) → 0 < occurs n f → next_in at n ≡ None → Up p follow n (parent_in (at n)) f
  past-up at p follow n empty o l sib h e = absurd (omega arith)
  past-up at p follow n (node x kids rest) o l sib h e =
      elim (same_or x.number n) [
        | same d t ↦
            let a : parent_in (at n) ≡ p = subst (λ k. parent_in (at k) ≡ p) d (rw l.0 refl) in
            let b : after n (list_under at p) ≡ None = sym (ap (λ q. after n (list_under at q)) a) ∙ e in
            let c : after n (list_under at p) ≡ after n (x.number ∷ tops rest) = sib n (rw t (omega arith)) in
            let c2 = rw t at c in
            let i : head_of (tops rest) ≡ None = sym c2 ∙ b in
            over a (past-top follow n x kids rest d ∙ ap (λ q. or_else q follow) i)
        | apart ne t ↦
            let k = rw t at h in
            ⊎_elim
            (λ (lt : 0 < occurs n kids).
            from_kids ne lt (past-up at (Some x.number) (or_else (head_of (tops rest)) follow) n kids (λ j. let w = o j in omega arith) l.1 (λ j _. ap (after j) (rw l.0 refl)) lt e))
            (λ (le : occurs n kids ≤ 0).
            from_rest ne (omega arith) (past-up at p follow n rest (λ j. let w = o j in omega arith) l.2 (sib_rest at p x kids rest o sib) (omega arith) e))
            (cases_lt 0 (occurs n kids))
      ]
    where
      from_kids : (x.number ≡ n → ⊥) → 0 < occurs n kids → Up (Some x.number) (or_else (head_of (tops rest)) follow) n (parent_in (at n)) kids → Up p follow n (parent_in (at n)) (node x kids rest)
      from_kids ne lt (over a b) =
          up x.number a (grind (arith, nat_tests)) (past-kids follow n x kids rest ne lt ∙ b ∙ sym (past-top follow x.number x kids rest refl))
      from_kids ne lt (up q a oq b) =
          let far : x.number ≡ q → ⊥ = λ d. let w = o q in grind (arith, nat_tests) in
          up q a (omega arith) (past-kids follow n x kids rest ne lt ∙ b ∙ sym (past-kids follow q x kids rest far oq))

      from_rest : (x.number ≡ n → ⊥) → occurs n kids ≡ 0 → Up p follow n (parent_in (at n)) rest → Up p follow n (parent_in (at n)) (node x kids rest)
      from_rest ne z (over a b) = over a (past-rest follow n x kids rest ne z ∙ b)
      from_rest ne z (up q a oq b) =
          let far : x.number ≡ q → ⊥ = λ d. let w = o q in grind (arith, nat_tests) in
          let zq : occurs q kids ≡ 0 = let w = o q in omega arith in
          up q a (omega arith) (past-rest follow n x kids rest ne z ∙ b ∙ sym (past-rest follow q x kids rest far zq))

-- a list of one tree
pub data Single {X : Type 0} (r : ℕ) (f : Forest X) : Type 0 where
  single : (x : Node X) (kids : Forest X) → x.number ≡ r → f ≡ node x kids empty → Single r f

module _ {X : Type 0} where
  pub tree_at-single : (r : ℕ) (f : Forest X) → occurs r f ≡ 1 → Single r (tree_at r f)
  tree_at-single r empty h = absurd (omega arith)
  tree_at-single r (node x kids rest) h =
      elim (whereabouts r x kids rest h) [
        | top e t zk zr ↦ rw t (single x kids e (rw (tree_at-absent r rest zr) refl))
        | inside ne t ok zr ↦ rw (t, tree_at-absent r rest zr, beside-empty (tree_at r kids)) (tree_at-single r kids ok)
        | beyond ne t zk or ↦ rw (t, tree_at-absent r kids zk) (tree_at-single r rest or)
      ]

  pub Lies-tree_at : (at : (ℕ → Option (Entry (Node X)))) (r : ℕ) (q : Option ℕ) (f : Forest X) → Lies at q f → Lies at (parent_in (at r)) (tree_at r f)
  Lies-tree_at at r q empty l = tt
  Lies-tree_at at r q (node x kids rest) l =
      elim (same_or x.number r) [
        | same e t ↦
            let a : q ≡ parent_in (at r) = sym (subst (λ k. parent_in (at k) ≡ q) e (rw l.0 refl)) in
            rw t (subst (λ (p : Option ℕ). at x.number ≡ Some (record { value = x; parent = p; children = tops kids })) a l.0, l.1, Lies-tree_at at r q rest l.2)
        | apart ne t ↦ rw t (Lies-beside at (parent_in (at r)) (tree_at r kids) (tree_at r rest) (Lies-tree_at at r (Some x.number) kids l.1) (Lies-tree_at at r q rest l.2))
      ]
