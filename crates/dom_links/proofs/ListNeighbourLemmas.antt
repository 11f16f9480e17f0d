-- The numbers beside a number of a list, once a number is left out or entered.
use Rattle.std.proofs.Common.{◌≡◌, ℕ, ◌+◌, ◌≤◌, ◌<◌, true, false, cond, eqb, List, [], ◌∷◌, Option, Some, None, refl, sym, ap, ◌∙◌, ⊎_elim, arith}
use Rattle.std.proofs.lemmas.Bool.{cases_Bool, eqb-true, eqb-false, eq-eqb, ne_eqb}
use Rattle.dom_model.specs.Definitions.{hits, is_number, head_of, last_of, after, before_from, before, entered, left_out}
use Rattle.dom_links.specs.LinkSteps.{link_unless}
use Rattle.dom_model.proofs.Forests.{Lying.left_out-absent}
use Rattle.dom_model.proofs.Soundness.SoundEditing.{number_is}

-- the last of a list that comes after o
abbrev pub last_from : Option ℕ → List ℕ → Option ℕ
last_from o [] = o
last_from o (x ∷ xs) = last_from (Some x) xs

pub last_of-last_from : (xs : List ℕ) → last_of xs ≡ last_from None xs
last_of-last_from [] = refl
last_of-last_from (x ∷ []) = refl
last_of-last_from (x ∷ y ∷ ys) = last_of-last_from (y ∷ ys)

-- the head of a list with x in front counts or not
hits_out : (c x : ℕ) (xs : List ℕ) → hits c (x ∷ xs) ≡ 0 → (eqb x c ≡ false) × (hits c xs ≡ 0)
hits_out c x xs h = ⊎_elim (λ (e : eqb x c ≡ true). let k : cond true 1 0 + hits c xs ≡ 0 = rw e at h in absurd (omega arith))
    (λ (e : eqb x c ≡ false). let k : cond false 1 0 + hits c xs ≡ 0 = rw e at h in (e, omega arith)) (cases_Bool (eqb x c))

hits_rest : (c x : ℕ) (xs : List ℕ) → hits c (x ∷ xs) ≤ 1 → hits c xs ≤ 1
hits_rest c x xs h = omega arith

hits_first : (c x : ℕ) (xs : List ℕ) → eqb x c ≡ true → hits c (x ∷ xs) ≤ 1 → hits c xs ≡ 0
hits_first c x xs e h = let k : cond true 1 0 + hits c xs ≤ 1 = rw e at h in omega arith

hits_later : (c x : ℕ) (xs : List ℕ) → eqb x c ≡ false → hits c (x ∷ xs) ≡ hits c xs
hits_later c x xs e = rw e (omega arith)

pub is_number-other : (m n : ℕ) → (m ≡ n → ⊥) → is_number (Some m) n ≡ false
is_number-other m n h = ne_eqb m n h

-- what does not stand in a list is beside nothing in it
pub head_of-none : (c : ℕ) (xs : List ℕ) → hits c xs ≡ 0 → is_number (head_of xs) c ≡ false
head_of-none c [] h = refl
head_of-none c (x ∷ xs) h = (hits_out c x xs h).0

pub after-none : (i c : ℕ) (xs : List ℕ) → hits c xs ≡ 0 → is_number (after i xs) c ≡ false
after-none i c [] h = refl
after-none i c (x ∷ xs) h =
    let k = hits_out c x xs h in
    ⊎_elim (λ (e : eqb x i ≡ true). rw e (head_of-none c xs k.1)) (λ (e : eqb x i ≡ false). rw e (after-none i c xs k.1)) (cases_Bool (eqb x i))

pub before_from-none : (o : Option ℕ) (i c : ℕ) (xs : List ℕ) → hits c xs ≡ 0 → is_number o c ≡ false → is_number (before_from o i xs) c ≡ false
before_from-none o i c [] h n = refl
before_from-none o i c (x ∷ xs) h n =
    let k = hits_out c x xs h in
    ⊎_elim (λ (e : eqb x i ≡ true). rw e n) (λ (e : eqb x i ≡ false). rw e (before_from-none (Some x) i c xs k.1 k.0)) (cases_Bool (eqb x i))

pub last_from-none : (o : Option ℕ) (c : ℕ) (xs : List ℕ) → hits c xs ≡ 0 → is_number o c ≡ false → is_number (last_from o xs) c ≡ false
last_from-none o c [] h n = n
last_from-none o c (x ∷ xs) h n = let k = hits_out c x xs h in last_from-none (Some x) c xs k.1 k.0

pub after_absent : (i : ℕ) (xs : List ℕ) → hits i xs ≡ 0 → after i xs ≡ None
after_absent i [] h = refl
after_absent i (x ∷ xs) h = let k = hits_out i x xs h in rw k.0 (after_absent i xs k.1)

pub hits-left_out_other : (n c : ℕ) (xs : List ℕ) → (c ≡ n → ⊥) → hits n (left_out c xs) ≡ hits n xs
hits-left_out_other n c [] h = refl
hits-left_out_other n c (x ∷ xs) h =
    ⊎_elim (λ (e : eqb x c ≡ true). let f : eqb x n ≡ false = ne_eqb x n (λ g. h (sym (eqb-true x c e) ∙ g)) in rw (e, f) (omega (arith, hits-left_out_other n c xs h)))
    (λ (e : eqb x c ≡ false). rw e (ap (λ k. cond (eqb x n) 1 0 + k) (hits-left_out_other n c xs h))) (cases_Bool (eqb x c))

pub head_of-left_out : (c : ℕ) (xs : List ℕ) → hits c xs ≤ 1 → head_of (left_out c xs) ≡ cond (is_number (head_of xs) c) (after c xs) (head_of xs)
head_of-left_out c [] h = refl
head_of-left_out c (x ∷ xs) h =
    ⊎_elim (λ (e : eqb x c ≡ true). rw e (ap head_of (left_out-absent c xs (hits_first c x xs e h)))) (λ (e : eqb x c ≡ false). rw e) (cases_Bool (eqb x c))

pub after-left_out : (i c : ℕ) (xs : List ℕ) → (i ≡ c → ⊥) → hits c xs ≤ 1 → after i (left_out c xs) ≡ cond (is_number (after i xs) c) (after c xs) (after i xs)
after-left_out i c [] n h = refl
after-left_out i c (x ∷ xs) n h =
    ⊎_elim (λ (e : eqb x c ≡ true).
    let out = hits_first c x xs e h in
    let f : eqb x i ≡ false = ne_eqb x i (λ g. n (sym g ∙ eqb-true x c e)) in
    rw (e, f, after-none i c xs out) (ap (after i) (left_out-absent c xs out)))
    (λ (e : eqb x c ≡ false).
    ⊎_elim (λ (f : eqb x i ≡ true). rw (e, f) (head_of-left_out c xs (hits_rest c x xs h)))
    (λ (f : eqb x i ≡ false). rw (e, f) (after-left_out i c xs n (hits_rest c x xs h))) (cases_Bool (eqb x i))) (cases_Bool (eqb x c))

pub before_from-left_out : (o : Option ℕ) (i c : ℕ) (xs : List ℕ) → (i ≡ c → ⊥) → hits c xs ≤ 1 → is_number o c ≡ false → before_from o i (left_out c xs) ≡ cond (is_number (before_from o i xs) c) (before_from o c xs) (before_from o i xs)
before_from-left_out o i c [] n h t = refl
before_from-left_out o i c (x ∷ xs) n h t =
    ⊎_elim (λ (e : eqb x c ≡ true).
    let out = hits_first c x xs e h in
    let f : eqb x i ≡ false = ne_eqb x i (λ g. n (sym g ∙ eqb-true x c e)) in
    rw (e, f) (ap (before_from o i) (left_out-absent c xs out) ∙ past o x xs out e t))
    (λ (e : eqb x c ≡ false).
    ⊎_elim (λ (f : eqb x i ≡ true). rw (e, f, t))
    (λ (f : eqb x i ≡ false). rw (e, f) (before_from-left_out (Some x) i c xs n (hits_rest c x xs h) e)) (cases_Bool (eqb x i))) (cases_Bool (eqb x c))
  where
    past : (o : Option ℕ) (x : ℕ) (xs : List ℕ) → hits c xs ≡ 0 → eqb x c ≡ true → is_number o c ≡ false → before_from o i xs ≡ cond (is_number (before_from (Some x) i xs) c) o (before_from (Some x) i xs)
    past o x [] out e t = refl
    past o x (y ∷ ys) out e t =
        let k = hits_out c y ys out in
        ⊎_elim (λ (f : eqb y i ≡ true). rw (f, e)) (λ (f : eqb y i ≡ false). rw (f, before_from-none (Some y) i c ys k.1 k.0)) (cases_Bool (eqb y i))

pub last_from-left_out : (o : Option ℕ) (c : ℕ) (xs : List ℕ) → hits c xs ≤ 1 → is_number o c ≡ false → last_from o (left_out c xs) ≡ cond (is_number (last_from o xs) c) (before_from o c xs) (last_from o xs)
last_from-left_out o c [] h t = rw t
last_from-left_out o c (x ∷ xs) h t =
    ⊎_elim (λ (e : eqb x c ≡ true). let out = hits_first c x xs e h in rw e (ap (last_from o) (left_out-absent c xs out) ∙ past o x xs out e t))
    (λ (e : eqb x c ≡ false). rw e (last_from-left_out (Some x) c xs (hits_rest c x xs h) e)) (cases_Bool (eqb x c))
  where
    past : (o : Option ℕ) (x : ℕ) (xs : List ℕ) → hits c xs ≡ 0 → eqb x c ≡ true → is_number o c ≡ false → last_from o xs ≡ cond (is_number (last_from (Some x) xs) c) o (last_from (Some x) xs)
    past o x [] out e t = rw e
    past o x (y ∷ ys) out e t = let k = hits_out c y ys out in rw (last_from-none (Some y) c ys k.1 k.0)

pub last_of-left_out : (c : ℕ) (xs : List ℕ) → hits c xs ≤ 1 → last_of (left_out c xs) ≡ cond (is_number (last_of xs) c) (before c xs) (last_of xs)
last_of-left_out c xs h = rw (last_of-last_from (left_out c xs), last_of-last_from xs) (last_from-left_out None c xs h refl)

-- the one before c is i just where the one after i is c
pub meets : (o : Option ℕ) (c i : ℕ) (xs : List ℕ) → (i ≡ c → ⊥) → hits c xs ≤ 1 → hits i xs ≤ 1 → is_number o i ≡ false → is_number (before_from o c xs) i ≡ is_number (after i xs) c
meets o c i [] n h k t = refl
meets o c i (x ∷ xs) n h k t =
    ⊎_elim (λ (e : eqb x c ≡ true).
    let f : eqb x i ≡ false = ne_eqb x i (λ g. n (sym g ∙ eqb-true x c e)) in
    rw (e, f, t, after-none i c xs (hits_first c x xs e h)))
    (λ (e : eqb x c ≡ false).
    ⊎_elim (λ (f : eqb x i ≡ true). rw (e, f) (next_to x xs f (hits_first i x xs f k)))
    (λ (f : eqb x i ≡ false). rw (e, f) (meets (Some x) c i xs n (hits_rest c x xs h) (hits_rest i x xs k) f)) (cases_Bool (eqb x i))) (cases_Bool (eqb x c))
  where
    next_to : (x : ℕ) (xs : List ℕ) → eqb x i ≡ true → hits i xs ≡ 0 → is_number (before_from (Some x) c xs) i ≡ is_number (head_of xs) c
    next_to x [] f out = refl
    next_to x (y ∷ ys) f out =
        let k = hits_out i y ys out in
        ⊎_elim (λ (e : eqb y c ≡ true). rw (e, f)) (λ (e : eqb y c ≡ false). rw (e, before_from-none (Some y) c i ys k.1 k.0)) (cases_Bool (eqb y c))

-- nothing stands before the first, and nothing after the last
pub first_of : (c p : ℕ) (xs : List ℕ) → hits c xs ≡ 1 → is_number (link_unless (before c xs) p) p ≡ is_number (head_of xs) c
first_of c p [] h = absurd (omega arith)
first_of c p (x ∷ xs) h =
    ⊎_elim (λ (e : eqb x c ≡ true). rw (e, eq-eqb p p refl)) (λ (e : eqb x c ≡ false). rw e (later x xs (let k : cond false 1 0 + hits c xs ≡ 1 = rw e at h in omega arith))) (cases_Bool (eqb x c))
  where
    later : (x : ℕ) (xs : List ℕ) → 0 < hits c xs → is_number (link_unless (before_from (Some x) c xs) p) p ≡ false
    later x [] h = absurd (omega arith)
    later x (y ∷ ys) h =
        ⊎_elim (λ (e : eqb y c ≡ true). rw e) (λ (e : eqb y c ≡ false). rw e (later y ys (let k : 0 < cond false 1 0 + hits c ys = rw e at h in omega arith))) (cases_Bool (eqb y c))

pub final_of : (c p : ℕ) (xs : List ℕ) → hits c xs ≡ 1 → is_number (link_unless (after c xs) p) p ≡ is_number (last_of xs) c
final_of c p [] h = absurd (omega arith)
final_of c p (x ∷ []) h =
    ⊎_elim (λ (e : eqb x c ≡ true). rw (e, eq-eqb p p refl)) (λ (e : eqb x c ≡ false). let k : cond false 1 0 + 0 ≡ 1 = rw e at h in absurd (omega arith)) (cases_Bool (eqb x c))
final_of c p (x ∷ y ∷ ys) h =
    ⊎_elim (λ (e : eqb x c ≡ true).
    let k : cond true 1 0 + hits c (y ∷ ys) ≡ 1 = rw e at h in
    rw e (sym (ap (λ o. is_number o c) (last_of-last_from (y ∷ ys)) ∙ last_from-none None c (y ∷ ys) (omega arith) refl)))
    (λ (e : eqb x c ≡ false). let k : cond false 1 0 + hits c (y ∷ ys) ≡ 1 = rw e at h in rw e (final_of c p (y ∷ ys) (omega arith))) (cases_Bool (eqb x c))

-- what a list is with c entered
pub left_out-entered : (b : Option ℕ) (c : ℕ) (xs : List ℕ) → hits c xs ≡ 0 → left_out c (entered b c xs) ≡ xs
left_out-entered b c [] h = rw (eq-eqb c c refl)
left_out-entered b c (x ∷ xs) h =
    let k = hits_out c x xs h in
    ⊎_elim (λ (e : is_number b x ≡ true). rw (e, eq-eqb c c refl, k.0) (ap (λ ys. x ∷ ys) (left_out-absent c xs k.1)))
    (λ (e : is_number b x ≡ false). rw (e, k.0) (ap (λ ys. x ∷ ys) (left_out-entered b c xs k.1))) (cases_Bool (is_number b x))

pub hits-entered : (b : Option ℕ) (n c : ℕ) (xs : List ℕ) → hits n (entered b c xs) ≡ hits n xs + cond (eqb c n) 1 0
hits-entered b n c [] = omega arith
hits-entered b n c (x ∷ xs) =
    ⊎_elim (λ (e : is_number b x ≡ true). rw e (omega arith))
    (λ (e : is_number b x ≡ false). rw e (omega (arith, hits-entered b n c xs))) (cases_Bool (is_number b x))

pub after-entered_last : (c : ℕ) (xs : List ℕ) → hits c xs ≡ 0 → after c (entered None c xs) ≡ None
after-entered_last c [] h = rw (eq-eqb c c refl)
after-entered_last c (x ∷ xs) h = let k = hits_out c x xs h in rw k.0 (after-entered_last c xs k.1)

pub after-entered : (b c : ℕ) (xs : List ℕ) → hits c xs ≡ 0 → 0 < hits b xs → after c (entered (Some b) c xs) ≡ Some b
after-entered b c [] h t = absurd (omega arith)
after-entered b c (x ∷ xs) h t =
    let k = hits_out c x xs h in
    ⊎_elim (λ (e : eqb b x ≡ true). rw (e, eq-eqb c c refl) (ap Some (sym (eqb-true b x e))))
    (λ (e : eqb b x ≡ false).
    let f : eqb x b ≡ false = ne_eqb x b (λ g. eqb-false b x e (sym g)) in
    rw (e, k.0) (after-entered b c xs k.1 (omega (arith, hits_later b x xs f)))) (cases_Bool (eqb b x))

pub before_from-entered_last : (o : Option ℕ) (c : ℕ) (xs : List ℕ) → hits c xs ≡ 0 → before_from o c (entered None c xs) ≡ last_from o xs
before_from-entered_last o c [] h = rw (eq-eqb c c refl)
before_from-entered_last o c (x ∷ xs) h = let k = hits_out c x xs h in rw k.0 (before_from-entered_last (Some x) c xs k.1)

pub before_from-entered : (o : Option ℕ) (b c : ℕ) (xs : List ℕ) → hits c xs ≡ 0 → 0 < hits b xs → before_from o c (entered (Some b) c xs) ≡ before_from o b xs
before_from-entered o b c [] h t = absurd (omega arith)
before_from-entered o b c (x ∷ xs) h t =
    let k = hits_out c x xs h in
    ⊎_elim (λ (e : eqb b x ≡ true). let f : eqb x b ≡ true = eq-eqb x b (sym (eqb-true b x e)) in rw (e, eq-eqb c c refl, f))
    (λ (e : eqb b x ≡ false).
    let f : eqb x b ≡ false = ne_eqb x b (λ g. eqb-false b x e (sym g)) in
    rw (e, k.0, f) (before_from-entered (Some x) b c xs k.1 (omega (arith, hits_later b x xs f)))) (cases_Bool (eqb b x))

-- an equation of numbers beside, turned round
pub turned : (c : ℕ) (o o' m : Option ℕ) → o' ≡ cond (is_number o c) m o → o ≡ cond (is_number o c) (Some c) o'
turned c o o' m h =
    ⊎_elim (λ (e : is_number o c ≡ true). rw e (number_is o c e)) (λ (e : is_number o c ≡ false). let k : o' ≡ o = rw e at h in rw e (sym k)) (cases_Bool (is_number o c))
