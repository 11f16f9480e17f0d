-- The memory after a change of links or of a value.
use Rattle.std.proofs.Common.{◌≡◌, ℕ, ◌<◌, Bool, true, false, cond, eqb, List, Option, Some, None, refl, sym, ap, ◌∙◌, subst, ⊎_elim, arith, IsSome, option_map}
use Rattle.std.proofs.lemmas.Bool.{cases_eq, eqb-true, eqb-false, eq-eqb, ne_eqb, false≢true}
use Rattle.dom_model.specs.Definitions.{hits, last_of, after, before, entered, left_out, Entry, Arena, names, entry_at, parent_in, children_in, list_under, next_in, previous_in, with_parent, with_children, altered, linked, unlinked, unlinked_from, IsLinked}
use Rattle.dom_links.proofs.{ListNeighbourLemmas.hits-left_out_other, ListNeighbourLemmas.left_out-entered, ListNeighbourLemmas.hits-entered, ListNeighbourLemmas.after-entered, ListNeighbourLemmas.after-entered_last, ListNeighbourLemmas.before_from-entered, ListNeighbourLemmas.before_from-entered_last, ListNeighbourLemmas.last_of-last_from, UnlinkLemmas.IsCut, UnlinkLemmas.names-same, UnlinkLemmas.names-other, UnlinkLemmas.next_is, UnlinkLemmas.previous_is, ArenaAgainLemmas.entry_at-altered}
use Rattle.dom_model.proofs.MutationAlgorithms.Emptied.{none-left_out}
use Rattle.dom_model.proofs.Forests.Lying.{left_out-absent}

module _ {T : Type 0} where
  -- the entries of an arena with a parent and a list of children changed
  abbrev pub rewired : (List ℕ → List ℕ) → Option ℕ → ℕ → ℕ → ℕ → Entry T → Entry T
  rewired f o c p i e = record { value = e.value; parent = cond (eqb c i) o e.parent; children = cond (eqb p i) (f e.children) e.children }

  pub entry_at-rewired : (f : List ℕ → List ℕ) (o : Option ℕ) (a : Arena T) (c p i : ℕ) → entry_at (altered (λ (e : Entry T). with_children (f e.children) e) (altered (with_parent o) a c) p) i ≡ option_map (rewired f o c p i) (entry_at a i)
  entry_at-rewired f o a c p i =
      entry_at-altered (λ (e : Entry T). with_children (f e.children) e) (altered (with_parent o) a c) p i
      ∙ (ap (λ (x : Option (Entry T)). cond (eqb p i) (option_map (λ (e : Entry T). with_children (f e.children) e) x) x) (entry_at-altered (with_parent o) a c i)
      ∙ both (eqb p i) (eqb c i) (entry_at a i))
    where
      both : (x y : Bool) (z : Option (Entry T)) → cond x (option_map (λ (e : Entry T). with_children (f e.children) e) (cond y (option_map (with_parent o) z) z)) (cond y (option_map (with_parent o) z) z) ≡ option_map (λ (e : Entry T). record { value = e.value; parent = cond y o e.parent; children = cond x (f e.children) e.children }) z
      both true true None = refl
      both true true (Some e) = refl
      both true false None = refl
      both true false (Some e) = refl
      both false true None = refl
      both false true (Some e) = refl
      both false false None = refl
      both false false (Some e) = refl

  -- what a cut leaves is linked
  pub IsLinked-cut : (at1 at0 : ℕ → Option (Entry T)) (c p : ℕ) → IsCut at1 at0 c p → IsLinked at0
  IsLinked-cut at1 at0 c p k n m =
      ap (hits m) (k.children n) ∙ (⊎_elim (λ (e : c ≡ m). subst (λ j. hits j (left_out c (children_in (at1 n))) ≡ names (parent_in (at0 j)) n) e
      (none-left_out c (children_in (at1 n)) ∙ sym (ap (λ o. names o n) (let g : parent_in (at0 c) ≡ None = k.parents c ∙ rw (eq-eqb c c refl) in g))))
      (λ (d : c ≡ m → ⊥). hits-left_out_other m c (children_in (at1 n)) d ∙ (k.linked n m ∙ ap (λ o. names o n) (let g : parent_in (at1 m) ≡ parent_in (at0 m) = sym (k.parents m ∙ rw (ne_eqb c m d)) in g))) (cases_eq c m))

  parent_map : (b : Bool) (o : Option ℕ) (f : List ℕ → List ℕ) (x : Bool) (z : Option (Entry T)) → IsSome z → parent_in (option_map (λ (e : Entry T). record { value = e.value; parent = cond b o e.parent; children = cond x (f e.children) e.children }) z) ≡ cond b o (parent_in z)
  parent_map b o f x None h = cc
  parent_map b o f x (Some e) h = refl

  children_map : (b : Bool) (o : Option ℕ) (f : List ℕ → List ℕ) (x : Bool) (z : Option (Entry T)) → IsSome z → children_in (option_map (λ (e : Entry T). record { value = e.value; parent = cond b o e.parent; children = cond x (f e.children) e.children }) z) ≡ cond x (f (children_in z)) (children_in z)
  children_map b o f x None h = cc
  children_map b o f x (Some e) h = refl

  parent_none : (b : Bool) (f : List ℕ → List ℕ) (x : Bool) (z : Option (Entry T)) → parent_in (option_map (λ (e : Entry T). record { value = e.value; parent = cond b None e.parent; children = cond x (f e.children) e.children }) z) ≡ cond b None (parent_in z)
  parent_none true f x None = refl
  parent_none false f x None = refl
  parent_none b f x (Some e) = refl

  children_left : (b : Bool) (o : Option ℕ) (c : ℕ) (x : Bool) (z : Option (Entry T)) → (x ≡ false → hits c (children_in z) ≡ 0) → children_in (option_map (λ (e : Entry T). record { value = e.value; parent = cond b o e.parent; children = cond x (left_out c e.children) e.children }) z) ≡ left_out c (children_in z)
  children_left b o c x None h = refl
  children_left b o c true (Some e) h = refl
  children_left b o c false (Some e) h = sym (left_out-absent c e.children (h refl))

  nowhere_else : (at : ℕ → Option (Entry T)) → IsLinked at → (c p : ℕ) → parent_in (at c) ≡ Some p → (n : ℕ) → eqb p n ≡ false → hits c (children_in (at n)) ≡ 0
  nowhere_else at l c p u n h = l n c ∙ (ap (λ o. names o n) u ∙ names-other p n (eqb-false p n h))

  -- an arena with c unlinked
  module _ (a : Arena T) (c p : ℕ) (l : IsLinked (entry_at a)) (under : parent_in (entry_at a c) ≡ Some p) where
    pub unlinked_is : unlinked a c ≡ unlinked_from (Some p) a c
    unlinked_is = ap (λ o. unlinked_from o a c) under

    pub entries-unlinked : (i : ℕ) → entry_at (unlinked_from (Some p) a c) i ≡ option_map (rewired (left_out c) None c p i) (entry_at a i)
    entries-unlinked = entry_at-rewired (left_out c) None a c p

    pub cut-unlinked : IsCut (entry_at a) (entry_at (unlinked_from (Some p) a c)) c p
    cut-unlinked = record {
      linked = l;
      under = under;
      parents = λ n. ap parent_in (entries-unlinked n) ∙ parent_none (eqb c n) (left_out c) (eqb p n) (entry_at a n);
      children = λ n. ap children_in (entries-unlinked n) ∙ children_left (eqb c n) None c (eqb p n) (entry_at a n) (nowhere_else (entry_at a) l c p under n);
    }

  entered_children : (b : Option ℕ) (o : Option ℕ) (c : ℕ) (y x : Bool) (z : Option (Entry T)) → (x ≡ true → IsSome z) → children_in (option_map (λ (e : Entry T). record { value = e.value; parent = cond y o e.parent; children = cond x (entered b c e.children) e.children }) z) ≡ cond x (entered b c (children_in z)) (children_in z)
  entered_children b o c y true None h = absurd (false≢true (h refl))
  entered_children b o c y false None h = refl
  entered_children b o c y x (Some e) h = refl

  given_parent : (b : Option ℕ) (p c : ℕ) (y x : Bool) (z : Option (Entry T)) → (y ≡ true → IsSome z) → parent_in (option_map (λ (e : Entry T). record { value = e.value; parent = cond y (Some p) e.parent; children = cond x (entered b c e.children) e.children }) z) ≡ cond y (Some p) (parent_in z)
  given_parent b p c true x None h = absurd (false≢true (h refl))
  given_parent b p c false x None h = refl
  given_parent b p c y x (Some e) h = refl

  -- what stands before a new child
  abbrev pub new_previous : (ℕ → Option (Entry T)) → ℕ → Option ℕ → Option ℕ
  new_previous at p None = last_of (children_in (at p))
  new_previous at p (Some n) = previous_in at n

  -- an arena with c linked under p
  module _ (a : Arena T) (p c : ℕ) (b : Option ℕ) (l : IsLinked (entry_at a)) (root : parent_in (entry_at a c) ≡ None) (held_c : IsSome (entry_at a c)) (held_p : IsSome (entry_at a p))
      (under : (n : ℕ) → b ≡ Some n → parent_in (entry_at a n) ≡ Some p) where
    pub entries-linked : (i : ℕ) → entry_at (linked a p c b) i ≡ option_map (rewired (entered b c) (Some p) c p i) (entry_at a i)
    entries-linked = entry_at-rewired (entered b c) (Some p) a c p

    abbrev at1 : ℕ → Option (Entry T)
    at1 = entry_at (linked a p c b)

    abbrev at0 : ℕ → Option (Entry T)
    at0 = entry_at a

    out : (n : ℕ) → hits c (children_in (entry_at a n)) ≡ 0
    out n = l n c ∙ ap (λ o. names o n) root

    kids : (n : ℕ) → children_in (entry_at (linked a p c b) n) ≡ cond (eqb p n) (entered b c (children_in (entry_at a n))) (children_in (entry_at a n))
    kids n = ap children_in (entries-linked n) ∙ entered_children b (Some p) c (eqb c n) (eqb p n) (entry_at a n) (λ t. subst (λ j. IsSome (entry_at a j)) (eqb-true p n t) held_p)

    parents : (n : ℕ) → parent_in (entry_at (linked a p c b) n) ≡ cond (eqb c n) (Some p) (parent_in (entry_at a n))
    parents n = ap parent_in (entries-linked n) ∙ given_parent b p c (eqb c n) (eqb p n) (entry_at a n) (λ t. subst (λ j. IsSome (entry_at a j)) (eqb-true c n t) held_c)

    pub IsLinked-linked : IsLinked (entry_at (linked a p c b))
    IsLinked-linked n m =
        let xs = children_in (entry_at a n) in
        let z = out n in
        let old = l n m in
        rw (kids n, parents m) (⊎_elim (λ (e : p ≡ n). ⊎_elim
        (λ (f : c ≡ m). rw (eq-eqb p n e, eq-eqb c m f) (let g : hits m xs ≡ 0 = rw (← f) z in let t = hits-entered b m c xs in let u : names (Some c) m ≡ 1 = rw (eq-eqb c m f) in let v : names (Some p) n ≡ 1 = rw (eq-eqb p n e) in omega arith))
        (λ (f : c ≡ m → ⊥). rw (eq-eqb p n e, ne_eqb c m f) (let t = hits-entered b m c xs in let u : names (Some c) m ≡ 0 = rw (ne_eqb c m f) in omega arith)) (cases_eq c m))
        (λ (e : p ≡ n → ⊥). ⊎_elim
        (λ (f : c ≡ m). rw (ne_eqb p n e, eq-eqb c m f) (let g : hits m xs ≡ 0 = rw (← f) z in let v : names (Some p) n ≡ 0 = names-other p n e in omega arith))
        (λ (f : c ≡ m → ⊥). rw (ne_eqb p n e, ne_eqb c m f) old) (cases_eq c m)) (cases_eq p n))

    pub cut-linked : IsCut (entry_at (linked a p c b)) (entry_at a) c p
    cut-linked = record {
      linked = IsLinked-linked;
      under = parents c ∙ rw (eq-eqb c c refl);
      parents = λ n. rw (parents n) (⊎_elim (λ (e : c ≡ n). rw (eq-eqb c n e) (rw (← e) root)) (λ (e : c ≡ n → ⊥). rw (ne_eqb c n e)) (cases_eq c n));
      children = λ n. let xs = children_in (entry_at a n) in rw (kids n) (⊎_elim (λ (e : p ≡ n). rw (eq-eqb p n e) (sym (left_out-entered b c xs (out n)))) (λ (e : p ≡ n → ⊥). rw (ne_eqb p n e) (sym (left_out-absent c xs (out n)))) (cases_eq p n));
    }

    kids_p : children_in (entry_at (linked a p c b) p) ≡ entered b c (children_in (entry_at a p))
    kids_p = kids p ∙ rw (eq-eqb p p refl)

    among_p : (n : ℕ) → b ≡ Some n → 0 < hits n (children_in (entry_at a p))
    among_p n e = let g : hits n (children_in (entry_at a p)) ≡ 1 = l p n ∙ (ap (λ o. names o p) (under n e) ∙ names-same p) in omega arith

    pub next-linked : next_in (entry_at (linked a p c b)) c ≡ b
    next-linked = next_is at1 at0 c p cut-linked ∙ (ap (after c) kids_p ∙ by_before b refl)
      where
        by_before : (o : Option ℕ) → b ≡ o → after c (entered o c (children_in (entry_at a p))) ≡ o
        by_before None e = after-entered_last c (children_in (entry_at a p)) (out p)
        by_before (Some n) e = after-entered n c (children_in (entry_at a p)) (out p) (among_p n e)

    pub previous-linked : previous_in (entry_at (linked a p c b)) c ≡ new_previous (entry_at a) p b
    previous-linked = previous_is at1 at0 c p cut-linked ∙ (ap (before c) kids_p ∙ by_before b refl)
      where
        by_before : (o : Option ℕ) → b ≡ o → before c (entered o c (children_in (entry_at a p))) ≡ new_previous (entry_at a) p o
        by_before None e = before_from-entered_last None c (children_in (entry_at a p)) (out p) ∙ sym (last_of-last_from (children_in (entry_at a p)))
        by_before (Some n) e = before_from-entered None n c (children_in (entry_at a p)) (out p) (among_p n e) ∙ sym (ap (λ o. before n (list_under (entry_at a) o)) (under n e))
