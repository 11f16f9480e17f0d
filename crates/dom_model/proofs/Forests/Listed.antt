-- Places in a list of children that is told by what stands ahead of a child and behind it.
use Rattle.std.proofs.Common.{◌≡◌, ℕ, ◌+◌, ◌<◌, Bool, true, false, List, [], ◌∷◌, ◌++◌, length, take_while, refl, ap, sym, ◌∙◌, subst, arith}
use Rattle.dom_model.specs.Definitions.{hits, place_in, left_out, past, up_to}
use Rattle.dom_model.proofs.PlainLists.Numbers.{same_or, same, apart}
use Rattle.dom_model.proofs.Forests.Lying.{left_out-absent}

pub hits-other : (x y : ℕ) (ns : List ℕ) → (y ≡ x → ⊥) → hits x (y ∷ ns) ≡ hits x ns
hits-other x y ns ne = elim (same_or y x) [ same e t ↦ absurd (ne e) | apart _ t ↦ rw t (omega arith) ]

pub hits-itself : (x : ℕ) (ns : List ℕ) → hits x (x ∷ ns) ≡ 1 + hits x ns
hits-itself x ns = elim (same_or x x) [ same e t ↦ rw t refl | apart ne t ↦ absurd (ne refl) ]

-- what stands behind a part of the list
pub place-behind : (y : ℕ) (pre post : List ℕ) → hits y pre ≡ 0 → place_in y (pre ++ post) ≡ length pre + place_in y post
place-behind y [] post h = omega arith
place-behind y (x ∷ pre) post h = grind (arith, place-behind y pre post)

pub place-first : (x : ℕ) (ns : List ℕ) → place_in x (x ∷ ns) ≡ 0
place-first x ns = elim (same_or x x) [ same e t ↦ rw t refl | apart ne t ↦ absurd (ne refl) ]

pub place-second : (x y : ℕ) (ns : List ℕ) → (x ≡ y → ⊥) → place_in y (x ∷ ns) ≡ 1 + place_in y ns
place-second x y ns ne = elim (same_or x y) [ same e t ↦ absurd (ne e) | apart _ t ↦ rw t refl ]

pub left_out-append : (c : ℕ) (xs ys : List ℕ) → left_out c (xs ++ ys) ≡ left_out c xs ++ left_out c ys
left_out-append c [] ys = refl
left_out-append c (x ∷ xs) ys = grind (arith, left_out-append c xs ys)

-- one that is left out of its place
pub left_out-here : (c : ℕ) (pre post : List ℕ) → hits c pre ≡ 0 → hits c post ≡ 0 → left_out c (pre ++ c ∷ post) ≡ pre ++ post
left_out-here c pre post h k = grind (arith, left_out-append c pre (c ∷ post), left_out-absent c pre h, left_out-absent c post k)

-- a list is what comes up to a number, the number, and what is past it
pub parted_at : (n : ℕ) (ns : List ℕ) → 0 < hits n ns → ns ≡ up_to n ns ++ n ∷ past n ns
parted_at n [] h = absurd (omega arith)
parted_at n (x ∷ ns) h = grind (arith, parted_at n ns)

-- the front of a list, all of which passes a test
pub record IsFront (p : ℕ → Bool) (ns first : List ℕ) : Type 0 where
  pub behind : List ℕ
  pub all : ns ≡ first ++ behind
  pub passes : (m : ℕ) → 0 < hits m first → p m ≡ true

take_while-true : (p : ℕ → Bool) (n : ℕ) (ns : List ℕ) → p n ≡ true → take_while p (n ∷ ns) ≡ n ∷ take_while p ns
take_while-true p n ns e = grind arith

take_while-false : (p : ℕ → Bool) (n : ℕ) (ns : List ℕ) → p n ≡ false → take_while p (n ∷ ns) ≡ []
take_while-false p n ns e = rw e refl

pub front : (p : ℕ → Bool) (ns : List ℕ) → IsFront p ns (take_while p ns)
front p [] = record { behind = []; all = refl; passes = λ m h. absurd (omega arith) }
front p (n ∷ ns) = go (p n) refl (front p ns)
  where
    go : (v : Bool) → p n ≡ v → IsFront p ns (take_while p ns) → IsFront p (n ∷ ns) (take_while p (n ∷ ns))
    go false e i = subst (IsFront p (n ∷ ns)) (sym (take_while-false p n ns e)) (record { behind = n ∷ ns; all = refl; passes = λ m h. absurd (omega arith) })
    go true e i =
        subst (IsFront p (n ∷ ns)) (sym (take_while-true p n ns e))
        (record {
          behind = i.behind;
          all = ap (λ ms. n ∷ ms) i.all;
          passes = λ m h. elim (same_or n m) [
            | same d t ↦ ap p (sym d) ∙ e
            | apart ne t ↦ i.passes m (let k = rw t at h in omega arith)
          ];
        })
