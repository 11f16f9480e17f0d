-- One rule more is known.
use Rattle.std.proofs.Common.{◌≡◌, ℕ, ◌+◌, ◌<◌, length, drop, get_or, Bool, true, false, ◌||◌, if◌then◌else◌, List, ◌∷◌, Option, Some, None, refl, ap, sym, ◌∙◌, String, unwrap_or, is_some, bytes_eq, codes}
use Rattle.std.specs.{BTreeMap.BTreeMap, BTreeMap.get_by_text, Map.update}
use Rattle.std.proofs.lemmas.{Bool.false≢true, List.at_drop_more, Slice.Eq.bytes_eq-Decides}
use Rattle.dom_model.specs.declared.Verdict.{Verdict}
use Rattle.dom_model.specs.Definitions.{FilterRule, ruled}
use Rattle.dom_traverse.specs.FilterRules.{known_or}

-- where a verdict is known, that on the others does not matter
known : (v : Option Verdict) (a b : Verdict) → is_some v ≡ true → unwrap_or v a ≡ unwrap_or v b
known None a b h = absurd (false≢true h)
known (Some v) a b h = refl

-- where none is known, that on the others is given
unknown : (v : Option Verdict) (a : Verdict) → is_some v ≡ false → unwrap_or v a ≡ a
unknown None a h = refl
unknown (Some v) a h = absurd (false≢true (sym h))

module _ {Y : Type 0} (m : BTreeMap (String Y) Verdict) (r : FilterRule) (name : List ℕ) (others : Verdict) where
  pub known-before : is_some (get_by_text m r.name) ≡ true → known_or m others name ≡ known_or m (if bytes_eq r.name name then r.verdict else others) name
  known-before h = by_test (bytes_eq r.name name) refl
    where
      by_test : (t : Bool) → bytes_eq r.name name ≡ t → known_or m others name ≡ known_or m (if t then r.verdict else others) name
      by_test true e =
          let same = (bytes_eq-Decides r.name name).0 e in
          known (get_by_text m name) others r.verdict (ap (λ n. is_some (get_by_text m n)) (sym same) ∙ h)
      by_test false e = refl

  pub known-after : (n : BTreeMap (String Y) Verdict) (key : List ℕ) (v : Verdict) → key ≡ r.name → v ≡ r.verdict → is_some (get_by_text m r.name) ≡ false → get_by_text n name ≡ update bytes_eq (λ cs. get_by_text m cs) key (Some v) name → known_or n others name ≡ known_or m (if bytes_eq r.name name then r.verdict else others) name
  known-after n key v p q h u =
      ap (λ o. unwrap_or o others) u ∙ ap (λ k. unwrap_or (update bytes_eq (λ cs. get_by_text m cs) k (Some v) name) others) p
      ∙ ap (λ w. unwrap_or (update bytes_eq (λ cs. get_by_text m cs) r.name (Some w) name) others) q ∙ by_test (bytes_eq r.name name) refl
    where
      by_test : (t : Bool) → bytes_eq r.name name ≡ t → unwrap_or (if t then Some r.verdict else get_by_text m name) others ≡ known_or m (if t then r.verdict else others) name
      by_test true e =
          let same = (bytes_eq-Decides r.name name).0 e in
          sym (unknown (get_by_text m name) r.verdict (ap (λ n. is_some (get_by_text m n)) (sym same) ∙ h))
      by_test false e = refl

module _ (r : FilterRule) (rs : List FilterRule) (name : List ℕ) where
  pub ruled-here : bytes_eq r.name (codes "*") ≡ false → ruled (r ∷ rs) name ≡ (if bytes_eq r.name name then r.verdict else ruled rs name)
  ruled-here h = by_test (bytes_eq r.name name)
    where
      by_test : (t : Bool) → (if t || bytes_eq r.name (codes "*") then r.verdict else ruled rs name) ≡ (if t then r.verdict else ruled rs name)
      by_test true = refl
      by_test false = ap (λ b. if b then r.verdict else ruled rs name) h

-- the rule that is next
module _ (rules : List FilterRule) (i : ℕ) (r : FilterRule) (name : List ℕ) (within : i < length rules) (is : r ≡ get_or rules i r) where
  next : ruled (drop i rules) name ≡ ruled (r ∷ drop (i + 1) rules) name
  next =
      at_drop_more (λ (rs : List FilterRule). ruled rs name) rules i r within ∙ ap (λ (x : FilterRule). ruled (x ∷ drop (i + 1) rules) name) (sym is)

  pub rule-passed : bytes_eq r.name (codes "*") ≡ false → ruled (drop i rules) name ≡ (if bytes_eq r.name name then r.verdict else ruled (drop (i + 1) rules) name)
  rule-passed h = next ∙ ruled-here r (drop (i + 1) rules) name h
