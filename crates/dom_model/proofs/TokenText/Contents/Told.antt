-- What a piece of a text tells of the text of a range: some units where the range starts, the data of contained Texts, and some units where
-- it ends; and how two pieces next to one another tell it together.
use Rattle.std.proofs.Common.{◌≡◌, ℕ, ◌+◌, ◌-◌, ◌<◌, ◌≤◌, Bool, true, if◌then◌else◌, List, [], ◌∷◌, ◌++◌, length, Some, refl, ap, sym, ◌∙◌, subst, arith, append_assoc, append-nil, length-append, inl, inr}
use Rattle.std.proofs.lemmas.Bool.{cases_lt}
use Rattle.dom_model.specs.Definitions.{World, Point, Token, stands_at, tokens_ahead, numbers_of}
use Rattle.dom_model.proofs.TokenText.{Pieces.TextWalks.walk, Pieces.TextWalks.walk-append, Contents.Sifted.sifted, Contents.Sifted.sifted-append, Contents.Sifted.numbers-walk, Contents.Sifted.open_past_all, Contents.Sifted.is_within, Contents.Sifted.text_unit, Contents.LeafPlaces.gap-here}

-- units that stand where a piece of so many tokens has the place, and nowhere else
pub record AtPlace (a k l : ℕ) (units part : List ℕ) : Type 0 where
  pub inside : k ≤ a → a < k + l → part ≡ units
  pub before : a < k → part ≡ []
  pub after : k + l ≤ a → part ≡ []

pub record Told (a b : ℕ) (front back : List ℕ) (k l : ℕ) (units held : List ℕ) : Type 0 where
  pub first : List ℕ
  pub last : List ℕ
  pub at_start : AtPlace a k l front first
  pub at_end : AtPlace b k l back last
  pub whole : units ≡ first ++ (held ++ last)
  pub early : k + l ≤ a → held ≡ []
  pub late : b ≤ k → held ≡ []

at-place-joined : (a k l m : ℕ) (units first second : List ℕ) → AtPlace a k l units first → AtPlace a (k + l) m units second → AtPlace a k (l + m) units (first ++ second)
at-place-joined a k l m units first second i j = record {
  inside = λ h g.
      elim (cases_lt a (k + l)) [
        | inl lt ↦ ap (λ us. first ++ us) (j.before lt) ∙ append-nil first ∙ i.inside h lt
        | inr le ↦ ap (λ us. us ++ second) (i.after le) ∙ j.inside le (omega arith)
      ];
  before = λ h. ap (λ us. us ++ second) (i.before h) ∙ j.before (omega arith);
  after = λ h. ap (λ us. us ++ second) (i.after (omega arith)) ∙ j.after (omega arith);
}

pub told-joined : (a b : ℕ) (front back : List ℕ) (k l m : ℕ) (us vs held more : List ℕ) → a ≤ b → Told a b front back k l us held → Told a b front back (k + l) m vs more → Told a b front back k (l + m) (us ++ vs) (held ++ more)
told-joined a b front back k l m us vs held more le i j = record {
  first = i.first ++ j.first;
  last = i.last ++ j.last;
  at_start = at-place-joined a k l m front i.first j.first i.at_start j.at_start;
  at_end = at-place-joined b k l m back i.last j.last i.at_end j.at_end;
  whole = rw (i.whole, j.whole) (elim (cases_lt b (k + l)) [
    | inl lt ↦ rw (j.at_start.before (omega arith), j.late (omega arith), j.at_end.before (omega arith)) (simp (append-nil, append_assoc))
    | inr ge ↦
        elim (cases_lt a (k + l)) [
          | inl lt ↦ rw (i.at_end.after ge, j.at_start.before lt) (simp (append-nil, append_assoc))
          | inr far ↦ rw (i.at_start.after far, i.early far, i.at_end.after ge) refl
        ]
  ]);
  early = λ h. (let e = i.early (omega arith) in let d = j.early (omega arith) in rw (e, d) refl);
  late = λ h. (let e = i.late (omega arith) in let d = j.late (omega arith) in rw (e, d) refl);
}

pub told-nothing : (a b : ℕ) (front back : List ℕ) (k : ℕ) → Told a b front back k 0 [] []
told-nothing a b front back k = record {
  first = [];
  last = [];
  at_start = record { inside = λ h g. absurd (omega arith); before = λ h. refl; after = λ h. refl };
  at_end = record { inside = λ h g. absurd (omega arith); before = λ h. refl; after = λ h. refl };
  whole = refl;
  early = λ h. refl;
  late = λ h. refl;
}

module _ (w : World) (a b : ℕ) (le : a ≤ b) (s e : Point) (front back : List ℕ) where
  -- the units of Texts in the range's part of a piece that stands after some tokens
  abbrev pub sifted_after : List Token → List Token → List ℕ
  sifted_after pre ts = sifted w (numbers_of (walk pre [])) (a - length pre) (b - length pre) ts

  abbrev pub Tells : List Token → List Token → List ℕ → Type 0
  Tells pre ts held = Told a b front back (length pre) (length ts) (sifted_after pre ts) held

  pub tells-joined : (pre xs ys : List Token) (held more : List ℕ) → Tells pre xs held → Tells (pre ++ xs) ys more → Tells pre (xs ++ ys) (held ++ more)
  tells-joined pre xs ys held more i j =
      let d : length (pre ++ xs) ≡ length pre + length xs = length-append pre xs in
      let x : a - length pre - length xs ≡ a - (length pre + length xs) = omega arith in
      let y : b - length pre - length xs ≡ b - (length pre + length xs) = omega arith in
      let n : open_past_all xs (numbers_of (walk pre [])) ≡ numbers_of (walk (pre ++ xs) []) = sym (numbers-walk xs (walk pre [])) ∙ ap numbers_of (sym (walk-append pre xs [])) in
      let u : sifted_after pre (xs ++ ys) ≡ sifted_after pre xs ++ sifted_after (pre ++ xs) ys =
      sifted-append w (numbers_of (walk pre [])) (a - length pre) (b - length pre) xs ys ∙ (rw (n, d, x, y) refl)
      in
      let l : length (xs ++ ys) ≡ length xs + length ys = length-append xs ys in
      let t = told-joined a b front back (length pre) (length xs) (length ys) (sifted_after pre xs) (sifted_after (pre ++ xs) ys) held more le i (subst (λ k. Told a b front back k (length ys) (sifted_after (pre ++ xs) ys) more) d j) in
      subst (λ us. Told a b front back (length pre) (length (xs ++ ys)) us (held ++ more)) (sym u)
      (subst (λ k. Told a b front back (length pre) k (sifted_after pre xs ++ sifted_after (pre ++ xs) ys) (held ++ more)) (sym l) t)

  -- no end stands ahead of the next token, or it tells nothing
  pub record Quiet (pre : List Token) : Type 0 where
    pub starts : stands_at s (walk pre []) ≡ true → front ≡ []
    pub ends : stands_at e (walk pre []) ≡ true → back ≡ []

  quiet-place : (p : Point) (c : ℕ) (units : List ℕ) (pre : List Token) (t : Token) (post : List Token) → tokens_ahead p [] (pre ++ (t ∷ post)) ≡ Some c → (stands_at p (walk pre []) ≡ true → units ≡ []) → AtPlace c (length pre) 1 units []
  quiet-place p c units pre t post h q = record {
    inside = λ l g. (let z : c ≡ length pre = omega arith in sym (q (gap-here p [] pre t post (h ∙ ap (λ k. Some k) z))));
    before = λ l. refl;
    after = λ l. refl;
  }

  pub tells-token : (pre : List Token) (t : Token) (post : List Token) → tokens_ahead s [] (pre ++ (t ∷ post)) ≡ Some a → tokens_ahead e [] (pre ++ (t ∷ post)) ≡ Some b → Quiet pre → ((around : List ℕ) → text_unit w around t ≡ []) → Tells pre (t ∷ []) []
  tells-token pre t post h g q u = record {
    first = [];
    last = [];
    at_start = quiet-place s a front pre t post h q.starts;
    at_end = quiet-place e b back pre t post g q.ends;
    whole = bare (is_within (a - length pre) (b - length pre));
    early = λ l. refl;
    late = λ l. refl;
  }
    where
      bare : (v : Bool) → (if v then text_unit w (numbers_of (walk pre [])) t else []) ++ [] ≡ []
      bare v = rw (u (numbers_of (walk pre []))) (grind arith)
