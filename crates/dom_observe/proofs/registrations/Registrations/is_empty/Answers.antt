use Rattle.std.proofs.Common.{◌≡◌, ℕ, zero, suc, ◌==◌, Bool, true, false, length, refl, ap, sym, ◌∙◌, arith}
use Rattle.std.proofs.lemmas.List.{length-map}
use Rattle.dom_model.proofs.PlainLists.Numbers.{same_or, same, apart}
use Rattle.dom_observe.specs.Registrations.{Registered}
use Rattle.dom_observe.proofs.registrations.Registrations.is_empty.Goals as goal

-- a test that holds of none alone
of_none : (b : Bool) (n : ℕ) → (b ≡ true → n ≡ 0) → (n ≡ 0 → b ≡ true) → b ≡ (n == 0)
of_none true n f g = sym (ap (λ m. m == 0) (f refl))
of_none false zero f g = g refl
of_none false (suc n) f g = elim (same_or (suc n) zero) [ same e t ↦ absurd (omega (arith, e)) | apart ne t ↦ sym t ]

pub returns : goal.returns
returns c =
    let es = c.self.inside.nodes.entries in
    of_none c.is_empty.result (length es) c.is_empty.ensures.0 c.is_empty.ensures.1
    ∙ ap (λ n. n == 0) (sym (length-map es (λ e. (e.0, e.1.items))))
    ∙ ap (λ (r : Registered). length r.lists == 0) c.self.view_is
