-- The cells of a pool, cut at the one that a pointer names.
use Rattle.std.proofs.Common.{◌≡◌, true, false, cond, List, [], ◌∷◌, ◌++◌, refl, ◌∙◌, subst, Some, IsSome}
use denote.RawPtr.{Ptr}
use Rattle.dom_links.specs.Cells.{same_ptr, look, put, without}
use Rattle.dom_links.proofs.CellsLemmas.{same_ptr_eq}

pub record Found {N : Type 0} (p : Ptr) (cs : List (Ptr × N)) : Type 0 where
  pub before : List (Ptr × N)
  pub item : N
  pub after : List (Ptr × N)
  pub cut : cs ≡ before ++ (p, item) ∷ after
  pub seen : look p cs ≡ Some item
  pub written : (w : N) → put p w cs ≡ before ++ (p, w) ∷ after
  pub left : without p cs ≡ before ++ after

pub found : {N : Type 0} (p : Ptr) (cs : List (Ptr × N)) → IsSome (look p cs) → Found p cs
unfolding look put without
found p [] h = cc
found p (c ∷ cs) h = (elim (same_ptr c.0 p) as (λ y. same_ptr c.0 p ≡ y → Found p (c ∷ cs)) [
  | true ↦ λ e.
      let at : c.0 ≡ p = same_ptr_eq c.0 p e in
      record {
        before = [];
        item = c.1;
        after = cs;
        cut = λ i. (at i, c.1) ∷ cs;
        seen = λ i. cond (e i) (Some c.1) (look p cs);
        written = λ w. (λ i. cond (e i) ((c.0, w) ∷ cs) (c ∷ put p w cs)) ∙ (λ i. (at i, w) ∷ cs);
        left = λ i. cond (e i) cs (c ∷ without p cs);
      }
  | false ↦ λ e.
      let r = found p cs (subst IsSome (λ i. cond (e i) (Some c.1) (look p cs)) h) in
      record {
        before = c ∷ r.before;
        item = r.item;
        after = r.after;
        cut = λ i. c ∷ r.cut i;
        seen = (λ i. cond (e i) (Some c.1) (look p cs)) ∙ r.seen;
        written = λ w. (λ i. cond (e i) ((c.0, w) ∷ cs) (c ∷ put p w cs)) ∙ (λ i. c ∷ r.written w i);
        left = (λ i. cond (e i) cs (c ∷ without p cs)) ∙ (λ i. c ∷ r.left i);
      }
]) refl
