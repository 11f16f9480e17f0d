-- `look`, `put` and `without` over the cells of a pool.
--     same_ptr_refl, same_ptr_eq, same_ptr_symm, differs      two pointers are the same exactly where `same_ptr` says so
--     held                            what is found is there
--     look_head, put_head, without_head, look_tail, put_tail, without_tail      at a list's first cell, and past it
--     unlike, look_newest, look_older      a place that is not in use differs from one that is;  after a cell was put in at such a place, that cell, and another
--     look_put, look_past_put, put_length      a cell that was written, another one, and how many there are
--     look_past_without, without_length        likewise where one is gone
use Rattle.std.proofs.Common.{◌≡◌, ◌+◌, true, false, ◌&&◌, ◌==◌, cond, List, [], ◌∷◌, length, suc, refl, sym, ap, ◌∙◌, subst, eqb→eq, T, arith, Option, Some, None, IsSome, is_some}
use lib.Dec.{eqb_refl}
use mathlib.Core.Bool.{Bool}
use denote.RawPtr.{Ptr, block_ptr, null_ptr}
use Rattle.dom_links.specs.Cells.{same_ptr, look, put, without}

true_of : (b : Bool) → T b → b ≡ true
true_of true t = refl
true_of false t = absurd t

pub same_ptr_refl : (p : Ptr) → same_ptr p p ≡ true
same_ptr_refl (block_ptr b o) = λ i. true_of (b == b) (eqb_refl b) i && true_of (o == o) (eqb_refl o) i
same_ptr_refl null_ptr = refl

both : (x y : Bool) → (x && y) ≡ true → T x × T y
both true true e = (tt, tt)
both true false e = cc
both false y e = cc

pub same_ptr_eq : (p q : Ptr) → same_ptr p q ≡ true → p ≡ q
same_ptr_eq (block_ptr b o) (block_ptr c p) e = let t = both (b == c) (o == p) e in λ i. block_ptr (eqb→eq b c t.0 i) (eqb→eq o p t.1 i)
same_ptr_eq (block_ptr b o) null_ptr e = cc
same_ptr_eq null_ptr (block_ptr c p) e = cc
same_ptr_eq null_ptr null_ptr e = refl

alike : (x y : Bool) → (x ≡ true → y ≡ true) → (y ≡ true → x ≡ true) → x ≡ y
alike true y f g = sym (f refl)
alike false true f g = g refl
alike false false f g = refl

pub same_ptr_symm : (p q : Ptr) → same_ptr p q ≡ same_ptr q p
same_ptr_symm p q = alike (same_ptr p q) (same_ptr q p)
    (λ e. subst (λ r. same_ptr r p ≡ true) (same_ptr_eq p q e) (same_ptr_refl p)) (λ e. subst (λ r. same_ptr r q ≡ true) (same_ptr_eq q p e) (same_ptr_refl q))

pub differs : (p q : Ptr) → ¬ (p ≡ q) → same_ptr p q ≡ false
differs p q n = (elim (same_ptr p q) as (λ y. same_ptr p q ≡ y → same_ptr p q ≡ false) [
  | true ↦ λ e. absurd (n (same_ptr_eq p q e))
  | false ↦ λ e. e
]) refl

module _ {N : Type 0} where
  pub held : {x : Option N} {w : N} → x ≡ Some w → IsSome x
  held e = ap is_some e

  pub look_head : (p : Ptr) (w : N) (cs : List (Ptr × N)) → look p ((p, w) ∷ cs) ≡ Some w
  unfolding look
  look_head p w cs = λ i. cond (same_ptr_refl p i) (Some w) (look p cs)

  pub look_tail : (p q : Ptr) (w : N) (cs : List (Ptr × N)) → same_ptr q p ≡ false → look p ((q, w) ∷ cs) ≡ look p cs
  unfolding look
  look_tail p q w cs e = λ i. cond (e i) (Some w) (look p cs)

  pub put_head : (p : Ptr) (v w : N) (cs : List (Ptr × N)) → put p w ((p, v) ∷ cs) ≡ (p, w) ∷ cs
  unfolding put
  put_head p v w cs = λ i. cond (same_ptr_refl p i) ((p, w) ∷ cs) ((p, v) ∷ put p w cs)

  pub put_tail : (p q : Ptr) (v w : N) (cs : List (Ptr × N)) → same_ptr q p ≡ false → put p w ((q, v) ∷ cs) ≡ (q, v) ∷ put p w cs
  unfolding put
  put_tail p q v w cs e = λ i. cond (e i) ((q, w) ∷ cs) ((q, v) ∷ put p w cs)

  pub without_head : (p : Ptr) (v : N) (cs : List (Ptr × N)) → without p ((p, v) ∷ cs) ≡ cs
  unfolding without
  without_head p v cs = λ i. cond (same_ptr_refl p i) cs ((p, v) ∷ without p cs)

  pub without_tail : (p q : Ptr) (v : N) (cs : List (Ptr × N)) → same_ptr q p ≡ false → without p ((q, v) ∷ cs) ≡ (q, v) ∷ without p cs
  unfolding without
  without_tail p q v cs e = λ i. cond (e i) cs ((q, v) ∷ without p cs)

  pub unlike : (p q : Ptr) (cs : List (Ptr × N)) → look p cs ≡ None → IsSome (look q cs) → same_ptr p q ≡ false
  unlike p q cs none is = (elim (same_ptr p q) as (λ y. same_ptr p q ≡ y → same_ptr p q ≡ false) [
    | true ↦ λ e. let gone = subst (λ (x : Option N). IsSome x) none (subst (λ r. IsSome (look r cs)) (sym (same_ptr_eq p q e)) is) in cc
    | false ↦ λ e. e
  ]) refl

  pub look_newest : (p : Ptr) (w : N) (cs ds : List (Ptr × N)) → ds ≡ (p, w) ∷ cs → look p ds ≡ Some w
  look_newest p w cs ds e = ap (look p) e ∙ look_head p w cs

  pub look_older : (p q : Ptr) (w : N) (cs ds : List (Ptr × N)) → ds ≡ (p, w) ∷ cs → look p cs ≡ None → IsSome (look q cs) → look q ds ≡ look q cs
  look_older p q w cs ds e none is = ap (look q) e ∙ look_tail q p w cs (unlike p q cs none is)

  pub look_put : (p : Ptr) (w : N) (cs : List (Ptr × N)) → IsSome (look p cs) → look p (put p w cs) ≡ Some w
  unfolding look put
  look_put p w [] h = cc
  look_put p w (c ∷ cs) h = (elim (same_ptr c.0 p) as (λ y. same_ptr c.0 p ≡ y → look p (put p w (c ∷ cs)) ≡ Some w) [
    | true ↦ λ e. (λ i. look p (cond (e i) ((c.0, w) ∷ cs) (c ∷ put p w cs))) ∙ (λ i. cond (e i) (Some w) (look p cs))
    | false ↦ λ e. (λ i. look p (cond (e i) ((c.0, w) ∷ cs) (c ∷ put p w cs))) ∙ (λ i. cond (e i) (Some c.1) (look p (put p w cs)))
        ∙ look_put p w cs (subst IsSome (λ i. cond (e i) (Some c.1) (look p cs)) h)
  ]) refl

  pub look_past_put : (p q : Ptr) (w : N) (cs : List (Ptr × N)) → same_ptr q p ≡ false → look q (put p w cs) ≡ look q cs
  unfolding look put
  look_past_put p q w [] n = refl
  look_past_put p q w (c ∷ cs) n = (elim (same_ptr c.0 p) as (λ y. same_ptr c.0 p ≡ y → look q (put p w (c ∷ cs)) ≡ look q (c ∷ cs)) [
    | true ↦ λ e.
        let other : same_ptr c.0 q ≡ false = subst (λ r. same_ptr r q ≡ false) (sym (same_ptr_eq c.0 p e)) (same_ptr_symm p q ∙ n) in
        (λ i. look q (cond (e i) ((c.0, w) ∷ cs) (c ∷ put p w cs))) ∙ (λ i. cond (other i) (Some w) (look q cs)) ∙ sym (λ i. cond (other i) (Some c.1) (look q cs))
    | false ↦ λ e. (λ i. look q (cond (e i) ((c.0, w) ∷ cs) (c ∷ put p w cs))) ∙ (λ i. cond (same_ptr c.0 q) (Some c.1) (look_past_put p q w cs n i))
  ]) refl

  pub put_length : (p : Ptr) (w : N) (cs : List (Ptr × N)) → length (put p w cs) ≡ length cs
  unfolding put
  put_length p w [] = refl
  put_length p w (c ∷ cs) = (elim (same_ptr c.0 p) as (λ y. same_ptr c.0 p ≡ y → length (put p w (c ∷ cs)) ≡ length (c ∷ cs)) [
    | true ↦ λ e. λ i. length (cond (e i) ((c.0, w) ∷ cs) (c ∷ put p w cs))
    | false ↦ λ e. (λ i. length (cond (e i) ((c.0, w) ∷ cs) (c ∷ put p w cs))) ∙ ap (λ n. suc n) (put_length p w cs)
  ]) refl

  pub look_past_without : (p q : Ptr) (cs : List (Ptr × N)) → same_ptr q p ≡ false → look q (without p cs) ≡ look q cs
  unfolding look without
  look_past_without p q [] n = refl
  look_past_without p q (c ∷ cs) n = (elim (same_ptr c.0 p) as (λ y. same_ptr c.0 p ≡ y → look q (without p (c ∷ cs)) ≡ look q (c ∷ cs)) [
    | true ↦ λ e.
        let other : same_ptr c.0 q ≡ false = subst (λ r. same_ptr r q ≡ false) (sym (same_ptr_eq c.0 p e)) (same_ptr_symm p q ∙ n) in
        (λ i. look q (cond (e i) cs (c ∷ without p cs))) ∙ sym (λ i. cond (other i) (Some c.1) (look q cs))
    | false ↦ λ e. (λ i. look q (cond (e i) cs (c ∷ without p cs))) ∙ (λ i. cond (same_ptr c.0 q) (Some c.1) (look_past_without p q cs n i))
  ]) refl

  pub without_length : (p : Ptr) (cs : List (Ptr × N)) → IsSome (look p cs) → length (without p cs) + 1 ≡ length cs
  unfolding look without
  without_length p [] h = cc
  without_length p (c ∷ cs) h = (elim (same_ptr c.0 p) as (λ y. same_ptr c.0 p ≡ y → length (without p (c ∷ cs)) + 1 ≡ length (c ∷ cs)) [
    | true ↦ λ e. (λ i. length (cond (e i) cs (c ∷ without p cs)) + 1) ∙ omega arith
    | false ↦ λ e. (λ i. length (cond (e i) cs (c ∷ without p cs)) + 1)
        ∙ (let r = without_length p cs (subst IsSome (λ i. cond (e i) (Some c.1) (look p cs)) h) in omega (arith, r))
  ]) refl
