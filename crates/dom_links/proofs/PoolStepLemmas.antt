-- A step over the nodes of a pool, seen at each place.
use Rattle.std.proofs.Common.{◌≡◌, List, Option, Some, None, refl, sym, ap, ◌∙◌, inl, inr, ⊎_elim, ◌⊎◌, false, true, option_map}
use Rattle.std.proofs.lemmas.Bool.{cases_Bool}
use denote.RawPtr.{Ptr}
use Rattle.dom_links.specs.Cells.{same_ptr, look, put}
use Rattle.dom_links.proofs.CellsLemmas.{same_ptr_eq, same_ptr_symm, look_put, look_past_put}

pub cases_ptr : (p q : Ptr) → (p ≡ q) ⊎ (same_ptr p q ≡ false)
cases_ptr p q = ⊎_elim (λ (e : same_ptr p q ≡ true). inl (same_ptr_eq p q e)) (λ (e : same_ptr p q ≡ false). inr e) (cases_Bool (same_ptr p q))

module _ {N : Type 0} where
  -- a write that is a step
  pub look-step : (f : Ptr → N → N) (p : Ptr) (n w : N) (cs : List (Ptr × N)) → look p cs ≡ Some n → w ≡ f p n → ((q : Ptr) (m : N) → same_ptr p q ≡ false → f q m ≡ m) → (q : Ptr) → look q (put p w cs) ≡ option_map (f q) (look q cs)
  look-step f p n w cs found same rest q =
      ⊎_elim (λ (e : p ≡ q). let a : look q (put p w cs) ≡ Some w = rw (← e) (look_put p w cs (rw found)) in
      let b : look q cs ≡ Some n = rw (← e) found in
      let c : w ≡ f q n = rw (← e) same in
      rw (a, b) (ap Some c))
      (λ (e : same_ptr p q ≡ false). look_past_put p q w cs (same_ptr_symm q p ∙ e) ∙ kept (look q cs) (λ m. rest q m e)) (cases_ptr p q)
    where
      kept : (o : Option N) → ((m : N) → f q m ≡ m) → o ≡ option_map (f q) o
      kept None h = refl
      kept (Some m) h = ap Some (sym (h m))
