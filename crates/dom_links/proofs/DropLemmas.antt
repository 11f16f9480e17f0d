-- The nodes that are left while a store is dropped.
use Rattle.std.proofs.Common.{◌≡◌, ℕ, ◌+◌, ◌≤◌, ◌<◌, cond, false, List, [], ◌∷◌, ◌++◌, length, Option, Some, None, refl, sym, ap, ◌∙◌, subst, ⊎_elim, arith, is_some, count_by}
use Rattle.std.proofs.lemmas.{Bool.cases_lt, List.get_or_append_left, List.get_or_push, List.get_or_past, List.Sums.sum_by_push}
use denote.RawPtr.{Ptr}
use Rattle.dom_links.specs.{Cells.same_ptr, Cells.look, Cells.without, ArenaMemory.pointer_in, ArenaMemory.Left, declared.node.Node.Node}
use Rattle.dom_links.proofs.CellsLemmas.{same_ptr_symm, differs, look_past_without, without_length}

within : (ps : List (Option Ptr)) (n : ℕ) (p : Ptr) → pointer_in ps n ≡ Some p → n < length ps
within ps n p h = ⊎_elim (λ (lt : n < length ps). lt) (λ (le : length ps ≤ n). let e : ◌≡◌ {A = Option Ptr} None (Some p) = sym (get_or_past ps n None le) ∙ h in cc) (cases_lt n (length ps))

stays : (ps : List (Option Ptr)) (o : Option Ptr) (n : ℕ) (p : Ptr) → pointer_in ps n ≡ Some p → pointer_in (ps ++ o ∷ []) n ≡ Some p
stays ps o n p h = get_or_append_left ps (o ∷ []) None n (within ps n p h) ∙ h

module _ {T : Type 0} where
  pub left_none : {ps qs : List (Option Ptr)} {cs : List (Ptr × Node T)} → Left ps cs → ps ≡ qs ++ None ∷ [] → Left qs cs
  left_none {ps} {qs} {cs} h e =
      let k : Left (qs ++ None ∷ []) cs = subst (λ (rs : List (Option Ptr)). Left rs cs) e h in
      record {
        found = λ n p g. k.found n p (stays qs None n p g);
        apart = λ n m p g f. k.apart n m p (stays qs None n p g) (stays qs None m p f);
        many = omega (arith, k.many, let z : count_by is_some (qs ++ None ∷ []) ≡ count_by is_some qs + 0 = sum_by_push (λ (o : Option Ptr). cond (is_some o) 1 0) qs None in z);
      }

  pub left_some : {ps qs : List (Option Ptr)} {cs ds : List (Ptr × Node T)} (p : Ptr) (w : Node T) → Left ps cs → ps ≡ qs ++ Some p ∷ [] → look p cs ≡ Some w → ds ≡ without p cs → Left qs ds
  left_some {ps} {qs} {cs} {ds} p w h e found cells =
      let k : Left (qs ++ Some p ∷ []) cs = subst (λ (rs : List (Option Ptr)). Left rs cs) e h in
      let last : pointer_in (qs ++ Some p ∷ []) (length qs) ≡ Some p = get_or_push qs (Some p) None (length qs) refl in
      let far : (n : ℕ) (q : Ptr) → pointer_in qs n ≡ Some q → same_ptr p q ≡ false = λ n q g. differs p q (λ (t : p ≡ q).
      let same : n ≡ length qs = k.apart n (length qs) p (stays qs (Some p) n p (g ∙ ap Some (sym t))) last in
      let lt = within qs n q g in absurd (omega arith)) in
      subst (λ (es : List (Ptr × Node T)). Left qs es) (sym cells) (record {
        found = λ n q g. rw (look_past_without p q cs (same_ptr_symm q p ∙ far n q g)) (k.found n q (stays qs (Some p) n q g));
        apart = λ n m q g f. k.apart n m q (stays qs (Some p) n q g) (stays qs (Some p) m q f);
        many = omega (arith, k.many, without_length p cs (rw found), let z : count_by is_some (qs ++ Some p ∷ []) ≡ count_by is_some qs + 1 = sum_by_push (λ (o : Option Ptr). cond (is_some o) 1 0) qs (Some p) in z);
      })
