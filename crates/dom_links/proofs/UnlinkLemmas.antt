-- The links of an arena and those of the same arena with one child taken out of its parent's children.
use Rattle.std.proofs.Common.{◌≡◌, ℕ, ◌+◌, ◌-◌, ◌≤◌, true, false, cond, eqb, List, [], length, Option, Some, None, refl, sym, ap, ◌∙◌, subst, inl, inr, ⊎_elim, ◌⊎◌, arith}
use Rattle.std.proofs.lemmas.Bool.{cases_Bool, cases_eq, eq-eqb, ne_eqb}
use Rattle.dom_model.specs.Definitions.{hits, is_number, head_of, last_of, after, before, left_out, Entry, names, parent_in, children_in, list_under, siblings_in, next_in, previous_in, IsLinked}
use Rattle.dom_links.specs.LinkSteps.{link_unless}
use Rattle.dom_links.proofs.ListNeighbourLemmas.{head_of-none, after-none, before_from-none, last_from-none, last_of-last_from, head_of-left_out, after-left_out, before_from-left_out, last_of-left_out, meets, first_of, final_of, turned}
use Rattle.dom_model.proofs.Forests.Lying.{left_out-absent}
use Rattle.dom_model.proofs.Worlds.Measured.{length-left_out}

pub names-le : (o : Option ℕ) (n : ℕ) → names o n ≤ 1
names-le None n = omega arith
names-le (Some m) n = ⊎_elim (λ (e : eqb m n ≡ true). rw e (omega arith)) (λ (e : eqb m n ≡ false). rw e (omega arith)) (cases_Bool (eqb m n))

pub names-same : (n : ℕ) → names (Some n) n ≡ 1
names-same n = rw (eq-eqb n n refl)

pub names-other : (m n : ℕ) → (m ≡ n → ⊥) → names (Some m) n ≡ 0
names-other m n h = rw (ne_eqb m n h)

unless-same : (o : Option ℕ) (p i : ℕ) → (p ≡ i → ⊥) → is_number (link_unless o p) i ≡ false
unless-same None p i h = ne_eqb p i h
unless-same (Some m) p i h = refl

last_of-none : (c : ℕ) (xs : List ℕ) → hits c xs ≡ 0 → is_number (last_of xs) c ≡ false
last_of-none c xs h = rw (last_of-last_from xs) (last_from-none None c xs h refl)

module _ {T : Type 0} where
  -- at0 is at1 with c taken out of the children of p
  pub record IsCut (at1 at0 : ℕ → Option (Entry T)) (c p : ℕ) : Type 0 where
    pub linked : IsLinked at1
    pub under : parent_in (at1 c) ≡ Some p
    pub parents : (n : ℕ) → parent_in (at0 n) ≡ cond (eqb c n) None (parent_in (at1 n))
    pub children : (n : ℕ) → children_in (at0 n) ≡ left_out c (children_in (at1 n))

  -- a number stands at most once in a list of children
  pub hits-le : (at : ℕ → Option (Entry T)) → IsLinked at → (n i : ℕ) → hits i (children_in (at n)) ≤ 1
  hits-le at l n i = rw (l n i) (names-le (parent_in (at i)) n)

  hits-under-le : (at : ℕ → Option (Entry T)) → IsLinked at → (o : Option ℕ) (i : ℕ) → hits i (list_under at o) ≤ 1
  hits-under-le at l None i = omega arith
  hits-under-le at l (Some n) i = hits-le at l n i

  module _ (at1 at0 : ℕ → Option (Entry T)) (c p : ℕ) (k : IsCut at1 at0 c p) where
    abbrev kids : List ℕ
    kids = children_in (at1 p)

    pub once : hits c (children_in (at1 p)) ≡ 1
    once = k.linked p c ∙ (ap (λ o. names o p) k.under ∙ names-same p)

    pub nowhere : (n : ℕ) → (p ≡ n → ⊥) → hits c (children_in (at1 n)) ≡ 0
    nowhere n h = k.linked n c ∙ (ap (λ o. names o n) k.under ∙ names-other p n h)

    pub next_is : next_in at1 c ≡ after c (children_in (at1 p))
    next_is = ap (λ o. after c (list_under at1 o)) k.under

    pub previous_is : previous_in at1 c ≡ before c (children_in (at1 p))
    previous_is = ap (λ o. before c (list_under at1 o)) k.under

    pub record Around (i : ℕ) (xs : List ℕ) : Type 0 where
      pub back : is_number (before c (children_in (at1 p))) i ≡ is_number (after i xs) c
      pub forth : is_number (after c (children_in (at1 p))) i ≡ is_number (before i xs) c
      pub either : (xs ≡ children_in (at1 p)) ⊎ (hits c xs ≡ 0)

    away : (i : ℕ) (xs : List ℕ) → hits i kids ≡ 0 → hits c xs ≡ 0 → Around i xs
    away i xs out none = record {
      back = before_from-none None c i kids out refl ∙ sym (after-none i c xs none);
      forth = after-none c i kids out ∙ sym (before_from-none None i c xs none refl);
      either = inr none;
    }

    around_at : (i : ℕ) (o : Option ℕ) → (c ≡ i → ⊥) → parent_in (at1 i) ≡ o → Around i (list_under at1 o)
    around_at i None n e = away i [] (k.linked p i ∙ ap (λ o. names o p) e) refl
    around_at i (Some q) n e =
        ⊎_elim (λ (same : p ≡ q). subst (λ r. Around i (children_in (at1 r))) same (record {
          back = meets None c i kids (λ g. n (sym g)) (hits-le at1 k.linked p c) (hits-le at1 k.linked p i) refl;
          forth = sym (meets None i c kids n (hits-le at1 k.linked p i) (hits-le at1 k.linked p c) refl);
          either = inl refl;
        }))
        (λ (other : p ≡ q → ⊥). away i (children_in (at1 q)) (k.linked p i ∙ (ap (λ o. names o p) e ∙ names-other q p (λ g. other (sym g)))) (nowhere q other)) (cases_eq p q)

    around : (i : ℕ) → (c ≡ i → ⊥) → Around i (siblings_in at1 i)
    around i n = around_at i (parent_in (at1 i)) n refl

    under0 : (o : Option ℕ) → list_under at0 o ≡ left_out c (list_under at1 o)
    under0 None = refl
    under0 (Some q) = k.children q

    siblings0 : (i : ℕ) → (c ≡ i → ⊥) → siblings_in at0 i ≡ left_out c (siblings_in at1 i)
    siblings0 i n = let g : parent_in (at0 i) ≡ parent_in (at1 i) = k.parents i ∙ rw (ne_eqb c i n) in ap (list_under at0) g ∙ under0 (parent_in (at1 i))

    siblings0_same : (i : ℕ) → c ≡ i → siblings_in at0 i ≡ []
    siblings0_same i e = let g : parent_in (at0 i) ≡ None = k.parents i ∙ rw (eq-eqb c i e) in ap (list_under at0) g

    next_other : (i : ℕ) → (c ≡ i → ⊥) → next_in at0 i ≡ cond (is_number (next_in at1 i) c) (after c kids) (next_in at1 i)
    next_other i n =
        let a = around i n in
        let xs = siblings_in at1 i in
        ap (after i) (siblings0 i n) ∙ (after-left_out i c xs (λ g. n (sym g)) (hits-under-le at1 k.linked (parent_in (at1 i)) c)
        ∙ ⊎_elim (λ (e : xs ≡ kids). ap (λ ys. cond (is_number (after i xs) c) (after c ys) (after i xs)) e)
        (λ (e : hits c xs ≡ 0). rw (after-none i c xs e)) a.either)

    previous_other : (i : ℕ) → (c ≡ i → ⊥) → previous_in at0 i ≡ cond (is_number (previous_in at1 i) c) (before c kids) (previous_in at1 i)
    previous_other i n =
        let a = around i n in
        let xs = siblings_in at1 i in
        ap (before i) (siblings0 i n) ∙ (before_from-left_out None i c xs (λ g. n (sym g)) (hits-under-le at1 k.linked (parent_in (at1 i)) c) refl
        ∙ ⊎_elim (λ (e : xs ≡ kids). ap (λ ys. cond (is_number (before i xs) c) (before c ys) (before i xs)) e)
        (λ (e : hits c xs ≡ 0). rw (before_from-none None i c xs e refl)) a.either)

    first_at : (i : ℕ) → is_number (link_unless (before c kids) p) i ≡ is_number (head_of (children_in (at1 i))) c
    first_at i =
        ⊎_elim (λ (e : p ≡ i). subst (λ j. is_number (link_unless (before c kids) p) j ≡ is_number (head_of (children_in (at1 j))) c) e (first_of c p kids once))
        (λ (n : p ≡ i → ⊥). unless-same (before c kids) p i n ∙ sym (head_of-none c (children_in (at1 i)) (nowhere i n))) (cases_eq p i)

    final_at : (i : ℕ) → is_number (link_unless (after c kids) p) i ≡ is_number (last_of (children_in (at1 i))) c
    final_at i =
        ⊎_elim (λ (e : p ≡ i). subst (λ j. is_number (link_unless (after c kids) p) j ≡ is_number (last_of (children_in (at1 j))) c) e (final_of c p kids once))
        (λ (n : p ≡ i → ⊥). unless-same (after c kids) p i n ∙ sym (last_of-none c (children_in (at1 i)) (nowhere i n))) (cases_eq p i)

    head_is : (i : ℕ) → head_of (children_in (at0 i)) ≡ cond (is_number (head_of (children_in (at1 i))) c) (after c kids) (head_of (children_in (at1 i)))
    head_is i =
        let xs = children_in (at1 i) in
        ap head_of (k.children i) ∙ (head_of-left_out c xs (hits-le at1 k.linked i c)
        ∙ ⊎_elim (λ (e : p ≡ i). ap (λ j. cond (is_number (head_of xs) c) (after c (children_in (at1 j))) (head_of xs)) (sym e))
        (λ (n : p ≡ i → ⊥). rw (head_of-none c xs (nowhere i n))) (cases_eq p i))

    last_is : (i : ℕ) → last_of (children_in (at0 i)) ≡ cond (is_number (last_of (children_in (at1 i))) c) (before c kids) (last_of (children_in (at1 i)))
    last_is i =
        let xs = children_in (at1 i) in
        ap last_of (k.children i) ∙ (last_of-left_out c xs (hits-le at1 k.linked i c)
        ∙ ⊎_elim (λ (e : p ≡ i). ap (λ j. cond (is_number (last_of xs) c) (before c (children_in (at1 j))) (last_of xs)) (sym e))
        (λ (n : p ≡ i → ⊥). rw (last_of-none c xs (nowhere i n))) (cases_eq p i))

    -- each link of the arena without c, from the links of the arena with it
    pub next-cut : (i : ℕ) → next_in at0 i ≡ cond (eqb c i) None (cond (is_number (previous_in at1 c) i) (next_in at1 c) (next_in at1 i))
    next-cut i = rw (next_is, previous_is) (⊎_elim (λ (e : c ≡ i). rw (eq-eqb c i e) (ap (after i) (siblings0_same i e)))
        (λ (n : c ≡ i → ⊥). rw (ne_eqb c i n, (around i n).back) (next_other i n)) (cases_eq c i))

    pub previous-cut : (i : ℕ) → previous_in at0 i ≡ cond (eqb c i) None (cond (is_number (next_in at1 c) i) (previous_in at1 c) (previous_in at1 i))
    previous-cut i = rw (next_is, previous_is) (⊎_elim (λ (e : c ≡ i). rw (eq-eqb c i e) (ap (before i) (siblings0_same i e)))
        (λ (n : c ≡ i → ⊥). rw (ne_eqb c i n, (around i n).forth) (previous_other i n)) (cases_eq c i))

    pub first-cut : (i : ℕ) → head_of (children_in (at0 i)) ≡ cond (is_number (link_unless (previous_in at1 c) p) i) (next_in at1 c) (head_of (children_in (at1 i)))
    first-cut i = rw (next_is, previous_is, first_at i) (head_is i)

    pub last-cut : (i : ℕ) → last_of (children_in (at0 i)) ≡ cond (is_number (link_unless (next_in at1 c) p) i) (previous_in at1 c) (last_of (children_in (at1 i)))
    last-cut i = rw (next_is, previous_is, final_at i) (last_is i)

    pub length-cut : (i : ℕ) → length (children_in (at0 i)) ≡ cond (eqb p i) (length (children_in (at1 p)) - 1) (length (children_in (at1 i)))
    length-cut i =
        ⊎_elim (λ (e : p ≡ i). rw (eq-eqb p i e) (let s : length (children_in (at0 i)) ≡ length (left_out c kids) = rw (← e) (ap length (k.children p)) in omega (arith, length-left_out c kids, once)))
        (λ (n : p ≡ i → ⊥). rw (ne_eqb p i n) (ap length (k.children i ∙ left_out-absent c (children_in (at1 i)) (nowhere i n)))) (cases_eq p i)

    -- the other way round
    pub next-join : (i : ℕ) → next_in at1 i ≡ cond (eqb c i) (next_in at1 c) (cond (is_number (previous_in at1 c) i) (Some c) (next_in at0 i))
    next-join i = ⊎_elim (λ (e : c ≡ i). rw (eq-eqb c i e) (ap (next_in at1) (sym e)))
        (λ (n : c ≡ i → ⊥). rw (ne_eqb c i n, previous_is, (around i n).back) (turned c (next_in at1 i) (next_in at0 i) (after c kids) (next_other i n))) (cases_eq c i)

    pub previous-join : (i : ℕ) → previous_in at1 i ≡ cond (eqb c i) (previous_in at1 c) (cond (is_number (next_in at1 c) i) (Some c) (previous_in at0 i))
    previous-join i = ⊎_elim (λ (e : c ≡ i). rw (eq-eqb c i e) (ap (previous_in at1) (sym e)))
        (λ (n : c ≡ i → ⊥). rw (ne_eqb c i n, next_is, (around i n).forth) (turned c (previous_in at1 i) (previous_in at0 i) (before c kids) (previous_other i n))) (cases_eq c i)

    pub first-join : (i : ℕ) → head_of (children_in (at1 i)) ≡ cond (is_number (link_unless (previous_in at1 c) p) i) (Some c) (head_of (children_in (at0 i)))
    first-join i = rw (previous_is, first_at i) (turned c (head_of (children_in (at1 i))) (head_of (children_in (at0 i))) (after c kids) (head_is i))

    pub last-join : (i : ℕ) → last_of (children_in (at1 i)) ≡ cond (is_number (link_unless (next_in at1 c) p) i) (Some c) (last_of (children_in (at0 i)))
    last-join i = rw (next_is, final_at i) (turned c (last_of (children_in (at1 i))) (last_of (children_in (at0 i))) (before c kids) (last_is i))

    pub length-join : (i : ℕ) → length (children_in (at1 i)) ≡ cond (eqb p i) (length (children_in (at0 p)) + 1) (length (children_in (at0 i)))
    length-join i =
        ⊎_elim (λ (e : p ≡ i). rw (eq-eqb p i e) (let s : length (children_in (at1 i)) ≡ length kids = rw (← e) refl in omega (arith, length-left_out c kids, once, ap length (k.children p))))
        (λ (n : p ≡ i → ⊥). rw (ne_eqb p i n) (sym (ap length (k.children i ∙ left_out-absent c (children_in (at1 i)) (nowhere i n))))) (cases_eq p i)
