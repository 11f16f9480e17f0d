-- What a node with data tells of the text of a range, by where the range's two ends stand to it.
use Rattle.std.proofs.Common.{◌≡◌, ℕ, suc, ◌+◌, ◌-◌, ◌≤◌, Bool, true, false, if◌then◌else◌, List, [], ◌∷◌, ◌++◌, length, take, drop, refl, ap, sym, ◌∙◌, arith, append-nil, take_all, length-drop}
use Rattle.std.proofs.lemmas.List.{drop_all}
use Rattle.dom_model.specs.Definitions.{World, Open, Close, no_marks, unit_tokens, top_is_text}
use Rattle.dom_model.proofs.TokenText.{Contents.Sifted.sifted, Contents.Sifted.sifted-append, Contents.Sifted.sifted-units, Contents.Sifted.sifted-other, Contents.Sifted.is_within, Contents.Sifted.one_less, Contents.Told.AtPlace, Contents.Told.Told}

-- the units of a Text from what is ahead of its first unit on
abbrev pub cut_units : ℕ → ℕ → List ℕ → List ℕ
cut_units a b us = take (b - a) (drop a us)

one_less-is : (a : ℕ) → one_less a ≡ a - 1
one_less-is a = grind arith

nothing-first : (v : Bool) (us : List ℕ) → (if v then [] else []) ++ us ≡ us
nothing-first v us = grind arith

module _ (w : World) where
  opened-tells : (around : List ℕ) (a b n : ℕ) (us : List ℕ) → sifted w around a b (Open n ∷ (unit_tokens no_marks n 0 us ++ (Close ∷ []))) ≡ sifted w (n ∷ around) (one_less a) (one_less b) (unit_tokens no_marks n 0 us)
  opened-tells around a b n us =
      nothing-first (is_within a b) _
      ∙ sifted-append w (n ∷ around) (one_less a) (one_less b) (unit_tokens no_marks n 0 us) (Close ∷ [])
      ∙ ap (λ vs. sifted w (n ∷ around) (one_less a) (one_less b) (unit_tokens no_marks n 0 us) ++ vs) (nothing-first (is_within (one_less a - length (unit_tokens no_marks n 0 us)) (one_less b - length (unit_tokens no_marks n 0 us))) [])
      ∙ append-nil (sifted w (n ∷ around) (one_less a) (one_less b) (unit_tokens no_marks n 0 us))

  -- what is sifted from a Text, where so many tokens are ahead of it
  pub text-sifted : (around : List ℕ) (a b k n : ℕ) (us : List ℕ) → top_is_text w (n ∷ around) ≡ true → sifted w around (a - k) (b - k) (Open n ∷ (unit_tokens no_marks n 0 us ++ (Close ∷ []))) ≡ cut_units (a - suc k) (b - suc k) us
  text-sifted around a b k n us h =
      let x : one_less (a - k) ≡ a - suc k = omega (arith, one_less-is (a - k)) in
      let y : one_less (b - k) ≡ b - suc k = omega (arith, one_less-is (b - k)) in
      opened-tells around (a - k) (b - k) n us
      ∙ sifted-units w n around (one_less (a - k)) (one_less (b - k)) n 0 us h
      ∙ (rw (x, y) refl)

  -- nothing is sifted from another node with data
  pub other-sifted : (around : List ℕ) (a b n : ℕ) (us : List ℕ) → top_is_text w (n ∷ around) ≡ false → sifted w around a b (Open n ∷ (unit_tokens no_marks n 0 us ++ (Close ∷ []))) ≡ []
  other-sifted around a b n us h = opened-tells around a b n us ∙ sifted-other w n around (one_less a) (one_less b) n 0 us h

-- With `k` tokens ahead of a Text's open, and both ends told by how many tokens are ahead of them.
module _ (a b k : ℕ) (le : a ≤ b) (us : List ℕ) where
  cut-long : (o : ℕ) → a ≡ k + suc o → k + (2 + length us) ≤ b → cut_units (a - suc k) (b - suc k) us ≡ drop o us
  cut-long o e h =
      let x : a - suc k ≡ o = omega arith in
      ap (λ c. take (b - suc k - c) (drop c us)) x ∙ take_all (b - suc k - o) (drop o us) (omega (arith, length-drop o us))

  cut-all : a ≤ k → k + (2 + length us) ≤ b → cut_units (a - suc k) (b - suc k) us ≡ us
  cut-all e h =
      let x : a - suc k ≡ 0 = omega arith in
      ap (λ c. take (b - suc k - c) (drop c us)) x ∙ take_all (b - suc k - 0) us (omega arith)

  cut-none : b ≤ k → cut_units (a - suc k) (b - suc k) us ≡ []
  cut-none h =
      let x : b - suc k - (a - suc k) ≡ 0 = omega arith in
      ap (λ c. take c (drop (a - suc k) us)) x

  cut-past : k + (2 + length us) ≤ a → cut_units (a - suc k) (b - suc k) us ≡ []
  cut-past h = ap (take (b - suc k - (a - suc k))) (drop_all (a - suc k) us (omega arith)) ∙ take_all (b - suc k - (a - suc k)) [] (omega arith)

  nowhere : (units : List ℕ) (c : ℕ) → (c ≤ k) → (c ≡ k → units ≡ []) → AtPlace c k (2 + length us) units []
  nowhere units c l q = record {
    inside = λ h g. (let e : c ≡ k = omega arith in sym (q e));
    before = λ h. refl;
    after = λ h. refl;
  }

  beyond : (units : List ℕ) (c : ℕ) → (k + (2 + length us) ≤ c) → AtPlace c k (2 + length us) units []
  beyond units c l = record { inside = λ h g. absurd (omega arith); before = λ h. refl; after = λ h. refl }

  somewhere : (units part : List ℕ) (c o : ℕ) → c ≡ k + suc o → o ≤ length us → part ≡ units → AtPlace c k (2 + length us) units part
  somewhere units part c o e l d = record { inside = λ h g. d; before = λ h. absurd (omega arith); after = λ h. absurd (omega arith) }

  -- what a Text tells that is not contained
  told-part : (front back first last : List ℕ) → AtPlace a k (2 + length us) front first → AtPlace b k (2 + length us) back last → cut_units (a - suc k) (b - suc k) us ≡ first ++ last → Told a b front back k (2 + length us) (cut_units (a - suc k) (b - suc k) us) []
  told-part front back first last s e whole = record { first = first; last = last; at_start = s; at_end = e; whole = whole; early = λ g. refl; late = λ g. refl }

  -- the range starts in the Text, and ends behind it
  pub told-start : (o : ℕ) (front back : List ℕ) → a ≡ k + suc o → o ≤ length us → k + (2 + length us) ≤ b → front ≡ take (length us - o) (drop o us) → Told a b front back k (2 + length us) (cut_units (a - suc k) (b - suc k) us) []
  told-start o front back e l h f =
      told-part front back (drop o us) []
      (somewhere front (drop o us) a o e l (sym (f ∙ take_all (length us - o) (drop o us) (omega (arith, length-drop o us)))))
      (beyond back b h) (cut-long o e h ∙ sym (append-nil (drop o us)))

  -- it ends in the Text, and starts ahead of it
  pub told-end : (o : ℕ) (front back : List ℕ) → b ≡ k + suc o → o ≤ length us → a ≤ k → (a ≡ k → front ≡ []) → back ≡ take o (drop 0 us) → Told a b front back k (2 + length us) (cut_units (a - suc k) (b - suc k) us) []
  told-end o front back e l h q f =
      let x : a - suc k ≡ 0 = omega arith in
      let y : b - suc k ≡ o = omega arith in
      let z : o - 0 ≡ o = omega arith in
      told-part front back [] (take o us) (nowhere front a h q) (somewhere back (take o us) b o e l (sym f))
      (ap (λ c. take (b - suc k - c) (drop c us)) x ∙ ap (λ c. take (c - 0) us) y ∙ ap (λ c. take c us) z)

  -- it does both
  pub told-both : (o c : ℕ) (front : List ℕ) → a ≡ k + suc o → o ≤ length us → b ≡ k + suc c → front ≡ take (c - o) (drop o us) → Told a b front [] k (2 + length us) (cut_units (a - suc k) (b - suc k) us) []
  told-both o c front e l h f =
      let x : a - suc k ≡ o = omega arith in
      let y : b - suc k ≡ c = omega arith in
      told-part front [] (cut_units (a - suc k) (b - suc k) us) []
      (somewhere front (cut_units (a - suc k) (b - suc k) us) a o e l (ap (λ i. take (b - suc k - i) (drop i us)) x ∙ ap (λ i. take (i - o) (drop o us)) y ∙ sym f))
      (record { inside = λ i j. refl; before = λ i. refl; after = λ i. refl }) (sym (append-nil (cut_units (a - suc k) (b - suc k) us)))

  -- it starts ahead of the Text and ends behind it
  pub told-through : (front back : List ℕ) → a ≤ k → (a ≡ k → front ≡ []) → k + (2 + length us) ≤ b → Told a b front back k (2 + length us) (cut_units (a - suc k) (b - suc k) us) us
  told-through front back h q g = record {
    first = [];
    last = [];
    at_start = nowhere front a h q;
    at_end = beyond back b g;
    whole = cut-all h g ∙ sym (append-nil us);
    early = λ i. absurd (omega arith);
    late = λ i. absurd (omega arith);
  }

  -- it starts and ends ahead
  pub told-ahead : (front back : List ℕ) → (a ≡ k → front ≡ []) → b ≤ k → (b ≡ k → back ≡ []) → Told a b front back k (2 + length us) (cut_units (a - suc k) (b - suc k) us) []
  told-ahead front back q h p = told-part front back [] [] (nowhere front a (omega arith) q) (nowhere back b h p) (cut-none h)

  -- it starts and ends behind
  pub told-behind : (front back : List ℕ) → k + (2 + length us) ≤ a → Told a b front back k (2 + length us) (cut_units (a - suc k) (b - suc k) us) []
  told-behind front back h = told-part front back [] [] (beyond front a h) (beyond back b (omega arith)) (cut-past h)
