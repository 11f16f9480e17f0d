-- Where gaps stand around a node with data: those among its units, and those of other nodes, which are ahead of it or behind it.
use Rattle.std.proofs.Common.{◌≡◌, ℕ, zero, suc, ◌+◌, ◌<◌, ◌≤◌, ◌==◌, true, false, List, [], ◌∷◌, ◌++◌, length, Option, Some, option_map, refl, ap, sym, ◌∙◌, subst, arith, append_assoc, length-append, ◌⊎◌, inl, inr, eq-eqb}
use Rattle.std.proofs.lemmas.Bool.{cases_Bool, ne_eqb}
use Rattle.dom_model.specs.Definitions.{Point, Token, Open, Close, OneUnit, point, no_marks, unit_tokens, passed, stands_at, tokens_ahead, is_open}
use Rattle.dom_model.proofs.TokenText.{Pieces.TokenLists.opened, Pieces.TextWalks.walk, Pieces.TextWalks.Misses, Pieces.TextWalks.Misses-away, Pieces.TextWalks.Away, Pieces.TextWalks.Away-walk, Pieces.TextWalks.stands-away, Pieces.TokenLists.tally-append}

pub some-suc : (o : Option ℕ) (b : ℕ) → option_map (λ k. suc k) o ≡ Some b → (k : ℕ) × (o ≡ Some k) × (b ≡ suc k)
some-suc o b h = grind arith

-- a gap that is there stands among the first tokens or among the others
pub data Split (p : Point) (here : List Point) (xs ys : List Token) (a : ℕ) : Type 0 where
  early : a < length xs → Split p here xs ys a
  late : (k : ℕ) → a ≡ length xs + k → tokens_ahead p (walk xs here) ys ≡ Some k → Split p here xs ys a

pub split-ahead : (p : Point) (here : List Point) (xs ys : List Token) (a : ℕ) → tokens_ahead p here (xs ++ ys) ≡ Some a → Split p here xs ys a
split-ahead p here [] ys a h = late a (omega arith) h
split-ahead p here (x ∷ xs) ys a h =
    elim (cases_Bool (stands_at p here)) [
      | inl s ↦ early (let d : 0 ≡ a = cc (rw s at h) in omega arith)
      | inr s ↦
          let i = some-suc _ a (rw s at h) in
          elim (split-ahead p (passed x here) xs ys i.0 i.1) [ early l ↦ early (omega arith) | late k f g ↦ late k (omega arith) g ]
    ]

pub ahead-past : (p : Point) (here : List Point) (xs ys : List Token) (k : ℕ) → Misses p xs here → tokens_ahead p (walk xs here) ys ≡ Some k → tokens_ahead p here (xs ++ ys) ≡ Some (length xs + k)
ahead-past p here [] ys k m h = let e : 0 + k ≡ k = omega arith in rw e h
ahead-past p here (x ∷ xs) ys k m h =
    let e : suc (length xs + k) ≡ suc (length xs) + k = omega arith in
    rw m.0 (ap (option_map (λ i. suc i)) (ahead-past p (passed x here) xs ys k m.1 h) ∙ ap (λ i. Some i) e)

-- a gap that is there is not behind all tokens
pub ahead-within : (p : Point) (here : List Point) (ts : List Token) (a : ℕ) → tokens_ahead p here ts ≡ Some a → a < length ts
ahead-within p here [] a h = absurd (cc h)
ahead-within p here (t ∷ ts) a h = grind (arith, ahead-within p (passed t here) ts)

missed-ahead : (p : Point) (here : List Point) (xs ys : List Token) (a : ℕ) → Misses p xs here → tokens_ahead p here (xs ++ ys) ≡ Some a → length xs ≤ a
missed-ahead p here [] ys a m h = omega arith
missed-ahead p here (x ∷ xs) ys a m h = grind (arith, missed-ahead p (passed x here) xs ys)

-- the point of a gap is where the walk has come to
pub gap-here : (p : Point) (here : List Point) (xs : List Token) (y : Token) (ys : List Token) → tokens_ahead p here (xs ++ (y ∷ ys)) ≡ Some (length xs) → stands_at p (walk xs here) ≡ true
gap-here p here [] y ys h = grind arith
gap-here p here (x ∷ xs) y ys h = gap-here p (passed x here) xs y ys (grind arith)

-- how often a text opens a node, around one of its opens
pub opened-around : (n : ℕ) (pre post : List Token) → opened n (pre ++ (Open n ∷ post)) ≡ opened n pre + (1 + opened n post)
opened-around n pre post = tally-append (is_open n) pre (Open n ∷ post) ∙ (rw (eq-eqb n n refl) refl)

here-first : (n i : ℕ) (around : List Point) (t : Token) (ts : List Token) → tokens_ahead (point n (i + 0)) (point n i ∷ around) (t ∷ ts) ≡ Some 0
here-first n i around t ts = let e : i + 0 ≡ i = omega arith in rw (e, eq-eqb n n refl, eq-eqb i i refl) refl

-- among the units of a node
pub unit-ahead : (n o i j : ℕ) (us : List ℕ) (around : List Point) (post : List Token) → o ≤ length us → tokens_ahead (point n (i + o)) (point n i ∷ around) (unit_tokens no_marks n j us ++ (Close ∷ post)) ≡ Some o
unit-ahead n zero i j [] around post h = here-first n i around Close post
unit-ahead n zero i j (u ∷ us) around post h = here-first n i around (OneUnit u) (unit_tokens no_marks n (suc j) us ++ (Close ∷ post))
unit-ahead n (suc o) i j [] around post h = absurd (omega arith)
unit-ahead n (suc o) i j (u ∷ us) around post h =
    let e : i + 1 + o ≡ i + suc o = omega arith in
    let later = unit-ahead n o (i + 1) (suc j) us around post (omega arith) in
    let f : (i + suc o == i) ≡ false = ne_eqb (i + suc o) i (λ e. omega arith) in
    rw (eq-eqb n n refl, f) (ap (option_map (λ k. suc k)) (subst (λ m. tokens_ahead (point n m) (point n (i + 1) ∷ around) (unit_tokens no_marks n (suc j) us ++ (Close ∷ post)) ≡ Some o) e later))

units-missed : (p : Point) (n i j : ℕ) (us : List ℕ) (around : List Point) → (p.node == n) ≡ false → Misses p (unit_tokens no_marks n j us ++ (Close ∷ [])) (point n i ∷ around)
units-missed p n i j [] around h = (rw h refl, tt)
units-missed p n i j (u ∷ us) around h = (rw h refl, units-missed p n (i + 1) (suc j) us around h)

pub units-long : (n j : ℕ) (us : List ℕ) → length (unit_tokens no_marks n j us) ≡ length us
units-long n j [] = refl
units-long n j (u ∷ us) = ap (λ k. suc k) (units-long n (suc j) us)

-- In a text that has a node with data after some tokens, none of which opens it.
module _ (pre : List Token) (n : ℕ) (us : List ℕ) (post : List Token) (first : opened n pre ≡ 0) where
  abbrev pub leaf_text : List Token
  leaf_text = pre ++ (Open n ∷ (unit_tokens no_marks n 0 us ++ (Close ∷ post)))

  pub leaf-gap : (o : ℕ) → o ≤ length us → tokens_ahead (point n o) [] leaf_text ≡ Some (length pre + suc o)
  leaf-gap o h =
      let away : Away n (walk pre []) = Away-walk n pre [] first tt in
      let e : 0 + o ≡ o = omega arith in
      let inner = subst (λ m. tokens_ahead (point n m) (point n 0 ∷ walk pre []) (unit_tokens no_marks n 0 us ++ (Close ∷ post)) ≡ Some o) e (unit-ahead n o 0 0 us (walk pre []) post h) in
      ahead-past (point n o) [] pre (Open n ∷ (unit_tokens no_marks n 0 us ++ (Close ∷ post))) (suc o) (Misses-away (point n o) pre [] first tt)
      (rw (stands-away (point n o) (walk pre []) away) (ap (option_map (λ k. suc k)) inner))

  pub leaf-aside : (p : Point) (a : ℕ) → (p.node == n) ≡ false → tokens_ahead p [] leaf_text ≡ Some a → (a ≤ length pre) ⊎ (length pre + (2 + length us) ≤ a)
  leaf-aside p a ne h =
      elim (split-ahead p [] pre (Open n ∷ (unit_tokens no_marks n 0 us ++ (Close ∷ post))) a h) [
        | early l ↦ inl (omega arith)
        | late k e g ↦ elim (cases_Bool (stands_at p (walk pre []))) [
          | inl s ↦ let z : 0 ≡ k = cc (rw s at g) in inl (omega arith)
          | inr s ↦
              let i = some-suc _ k (rw s at g) in
              let parted : unit_tokens no_marks n 0 us ++ (Close ∷ post) ≡ (unit_tokens no_marks n 0 us ++ (Close ∷ [])) ++ post = sym (append_assoc (unit_tokens no_marks n 0 us) (Close ∷ []) post) in
              let l = missed-ahead p (point n 0 ∷ walk pre []) (unit_tokens no_marks n 0 us ++ (Close ∷ [])) post i.0 (units-missed p n 0 0 us (walk pre []) ne) (ap (tokens_ahead p (point n 0 ∷ walk pre [])) (sym parted) ∙ i.1) in
              let m = length-append (unit_tokens no_marks n 0 us) (Close ∷ []) in
              let x = units-long n 0 us in
              inr (omega arith)
        ]
      ]
