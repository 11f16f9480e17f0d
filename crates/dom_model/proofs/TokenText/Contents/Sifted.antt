-- The units of Texts in a part of a text, told by how many tokens are ahead of the part's beginning and of its end.
use Rattle.std.proofs.Common.{◌≡◌, ℕ, zero, suc, ◌-◌, ◌≤◌, Bool, true, false, if◌then◌else◌, List, [], ◌∷◌, ◌++◌, length, take, drop, refl, ap, sym, ◌∙◌, arith, append_assoc, take_all}
use Rattle.std.proofs.lemmas.List.{drop_all}
use Rattle.dom_model.specs.Definitions.{World, Point, Token, Open, Close, OneUnit, Mark, no_marks, unit_tokens, passed, stepped, numbers_of, top_is_text, unit_if, without_first, text_units}
use Rattle.dom_model.proofs.TokenText.Pieces.TextWalks.{walk}

-- the numbers of the nodes that are open past a token
abbrev pub open_past : Token → List ℕ → List ℕ
open_past (Open n) around = n ∷ around
open_past Close around = without_first around
open_past (OneUnit u) around = around
open_past (Mark r side) around = around

abbrev pub open_past_all : List Token → List ℕ → List ℕ
open_past_all [] around = around
open_past_all (t ∷ ts) around = open_past_all ts (open_past t around)

abbrev pub text_unit : World → List ℕ → Token → List ℕ
text_unit w around (Open n) = []
text_unit w around Close = []
text_unit w around (OneUnit u) = unit_if (top_is_text w around) u
text_unit w around (Mark r side) = []

abbrev pub one_less : ℕ → ℕ
one_less zero = zero
one_less (suc k) = k

-- the next token lies in the part
abbrev pub is_within : ℕ → ℕ → Bool
is_within zero zero = false
is_within zero (suc b) = true
is_within (suc a) b = false

-- the units of Texts among the tokens with at least `a` and less than `b` ahead of them
abbrev pub sifted : World → List ℕ → ℕ → ℕ → List Token → List ℕ
sifted w around a b [] = []
sifted w around a b (t ∷ ts) = (if is_within a b then text_unit w around t else []) ++ sifted w (open_past t around) (one_less a) (one_less b) ts

less-by_one : (a k : ℕ) → one_less a - k ≡ a - suc k
less-by_one a k = grind arith

-- the open nodes of a walk
pub numbers-stepped : (here : List Point) → numbers_of (stepped here) ≡ numbers_of here
numbers-stepped [] = refl
numbers-stepped (p ∷ around) = refl

pub numbers-passed : (t : Token) (here : List Point) → numbers_of (passed t here) ≡ open_past t (numbers_of here)
numbers-passed t here = grind arith

pub numbers-walk : (ts : List Token) (here : List Point) → numbers_of (walk ts here) ≡ open_past_all ts (numbers_of here)
numbers-walk [] here = refl
numbers-walk (t ∷ ts) here = numbers-walk ts (passed t here) ∙ ap (open_past_all ts) (numbers-passed t here)

module _ (w : World) where
  pub sifted-append : (around : List ℕ) (a b : ℕ) (xs ys : List Token) → sifted w around a b (xs ++ ys) ≡ sifted w around a b xs ++ sifted w (open_past_all xs around) (a - length xs) (b - length xs) ys
  sifted-append around a b [] ys =
      let e : a - 0 ≡ a = omega arith in
      let d : b - 0 ≡ b = omega arith in
      rw (e, d) refl
  sifted-append around a b (x ∷ xs) ys =
      let first = if is_within a b then text_unit w around x else [] in
      let inner = open_past x around in
      ap (λ us. first ++ us)
      (sifted-append inner (one_less a) (one_less b) xs ys
      ∙ ap (λ k. sifted w inner (one_less a) (one_less b) xs ++ sifted w (open_past_all xs inner) k (one_less b - length xs) ys) (less-by_one a (length xs))
      ∙ ap (λ k. sifted w inner (one_less a) (one_less b) xs ++ sifted w (open_past_all xs inner) (a - suc (length xs)) k ys) (less-by_one b (length xs)))
      ∙ sym (append_assoc first (sifted w inner (one_less a) (one_less b) xs) (sifted w (open_past_all xs inner) (a - suc (length xs)) (b - suc (length xs)) ys))

  sifted-none : (around : List ℕ) (ts : List Token) → sifted w around 0 0 ts ≡ []
  sifted-none around [] = refl
  sifted-none around (t ∷ ts) = sifted-none (open_past t around) ts

  sifted-front : (around : List ℕ) (b : ℕ) (ts : List Token) → text_units w around (take b ts) ≡ sifted w around 0 b ts
  sifted-front around zero ts = sym (sifted-none around ts)
  sifted-front around (suc b) [] = refl
  sifted-front around (suc b) (t ∷ ts) = grind (arith, sifted-front (open_past t around) b ts)

  -- the units of Texts in the part, read from its beginning
  pub sifted-part : (around : List ℕ) (a b : ℕ) (ts : List Token) → a ≤ b → text_units w (open_past_all (take a ts) around) (take (b - a) (drop a ts)) ≡ sifted w around a b ts
  sifted-part around zero b ts h = (let e : b - 0 ≡ b = omega arith in rw e (sifted-front around b ts))
  sifted-part around (suc a) zero ts h = absurd (omega arith)
  sifted-part around (suc a) (suc b) [] h = ap (text_units w around) (take_all {A = Token} (suc b - suc a) [] (omega arith))
  sifted-part around (suc a) (suc b) (t ∷ ts) h =
      let e : suc b - suc a ≡ b - a = omega arith in
      ap (λ k. text_units w (open_past_all (take a ts) (open_past t around)) (take k (drop a ts))) e ∙ sifted-part (open_past t around) a b ts (omega arith)

  -- of the units of a Text
  pub sifted-units : (n : ℕ) (around : List ℕ) (a b m i : ℕ) (us : List ℕ) → top_is_text w (n ∷ around) ≡ true → sifted w (n ∷ around) a b (unit_tokens no_marks m i us) ≡ take (b - a) (drop a us)
  sifted-units n around a b m i [] h = sym (ap (take (b - a)) (drop_all a [] (omega arith)) ∙ take_all (b - a) [] (omega arith))
  sifted-units n around zero zero m i (u ∷ us) h = sifted-units n around zero zero m (suc i) us h
  sifted-units n around zero (suc b) m i (u ∷ us) h =
      let e : suc b - 0 ≡ suc b = omega arith in
      let d : b - 0 ≡ b = omega arith in
      rw (e, h) (ap (λ vs. u ∷ vs) (sifted-units n around zero b m (suc i) us h ∙ ap (λ k. take k us) d))
  sifted-units n around (suc a) b m i (u ∷ us) h = sifted-units n around a (one_less b) m (suc i) us h ∙ ap (λ k. take k (drop a us)) (less-by_one b a)

  -- of the units of another node
  pub sifted-other : (n : ℕ) (around : List ℕ) (a b m i : ℕ) (us : List ℕ) → top_is_text w (n ∷ around) ≡ false → sifted w (n ∷ around) a b (unit_tokens no_marks m i us) ≡ []
  sifted-other n around a b m i [] h = refl
  sifted-other n around a b m i (u ∷ us) h = grind (arith, sifted-other n around (one_less a) (one_less b) m (suc i) us h)
