-- The paths from the deepest common ancestor down to two nodes have no node in common, so both together are at most as long as the forest is large.
use Rattle.std.proofs.Common.{◌≡◌, ℕ, ◌+◌, ◌≤◌, true, if◌then◌else◌, List, [], ◌∷◌, ◌++◌, length, Option, Some, None, refl, arith, filter, unwrap_or}
use Rattle.std.proofs.lemmas.{Bool.cases_Bool, Bool.Decides.nat_tests, List.length-reverse}
use Rattle.dom_model.specs.Definitions.{among, head_of, or_list, up_to, Forest, empty, node, total, size, ancestors, path_through, Content, common_ancestor, path_below}
use Rattle.dom_model.proofs.PlainLists.Numbers.{same_or, same, apart}

-- a weight of the numbers, over a list
abbrev pub along : (ℕ → ℕ) → List ℕ → ℕ
along weight [] = 0
along weight (n ∷ ns) = weight n + along weight ns

along-append : (weight : ℕ → ℕ) (xs ys : List ℕ) → along weight (xs ++ ys) ≡ along weight xs + along weight ys
along-append weight [] ys = omega arith
along-append weight (x ∷ xs) ys = omega (arith, along-append weight xs ys)

module _ {X : Type 0} where
  -- the ancestors of a node weigh no more than the forest
  pub along-ancestors : (weight : ℕ → ℕ) (n : ℕ) (f : Forest X) → along weight (ancestors n f) ≤ total weight f
  along-ancestors weight n empty = omega arith
  along-ancestors weight n (node x kids rest) =
      let inside = along-ancestors weight n kids in
      let later = along-ancestors weight n rest in
      elim (same_or x.number n) [
        | same e t ↦ rw t (rw (← e) (omega arith))
        | apart ne t ↦ rw t (either (ancestors n kids) (ancestors n rest) inside later)
      ]
    where
      either : (ms others : List ℕ) → along weight ms ≤ total weight kids → along weight others ≤ total weight rest → along weight (or_list (path_through x.number ms) others) ≤ weight x.number + (total weight kids + total weight rest)
      either [] others h k = omega arith
      either (m ∷ ms) others h k = omega (arith, along-append weight (m ∷ ms) (x.number ∷ []))

  total-two : (v w : ℕ → ℕ) → ((n : ℕ) → v n + w n ≡ 1) → (f : Forest X) → total v f + total w f ≡ size f
  total-two v w h empty = refl
  total-two v w h (node x kids rest) = omega (arith, h x.number, total-two v w h kids, total-two v w h rest)

module _ (others : List ℕ) where
  -- 1 for a number of the other path, and for one that is not on it
  abbrev pub on_it : ℕ → ℕ
  on_it n = if among n others then 1 else 0

  abbrev pub off_it : ℕ → ℕ
  off_it n = if among n others then 0 else 1

  one_or_other : (n : ℕ) → off_it n + on_it n ≡ 1
  one_or_other n = grind (arith, cases_Bool)

  -- what comes before the first that is on the other path is not on it
  up_to-off : (xs : List ℕ) (c : ℕ) → head_of (filter (λ a. among a others) xs) ≡ Some c → length (up_to c xs) ≤ along off_it xs
  up_to-off [] c h = omega arith
  up_to-off (x ∷ xs) c h = grind (arith, nat_tests, cases_Bool, up_to-off xs c)

  on-all : (xs : List ℕ) → ((x : ℕ) → among x xs ≡ true → among x others ≡ true) → length xs ≤ along on_it xs
  on-all [] h = omega arith
  on-all (x ∷ xs) h =
      let i = on-all xs (λ y k. h y (elim (same_or x y) [ same e t ↦ rw t refl | apart ne t ↦ rw t k ])) in
      let top : among x others ≡ true = h x (elim (same_or x x) [ same e t ↦ rw t refl | apart ne t ↦ absurd (ne refl) ]) in
      rw top (omega arith)

length-up_to : (n : ℕ) (xs : List ℕ) → length (up_to n xs) ≤ length xs
length-up_to n [] = omega arith
length-up_to n (x ∷ xs) = grind (arith, nat_tests, length-up_to n xs)

module _ {X : Type 0} where
  -- the ancestors of a node begin with it
  pub up_to-itself : (n : ℕ) (f : Forest X) → up_to n (ancestors n f) ≡ []
  up_to-itself n empty = refl
  up_to-itself n (node x kids rest) =
      elim (same_or x.number n) [
        | same e t ↦ rw t (own n)
        | apart ne t ↦ rw t (either (ancestors n kids) (ancestors n rest) (up_to-itself n kids) (up_to-itself n rest))
      ]
    where
      own : (n : ℕ) → up_to n (n ∷ []) ≡ []
      own n = elim (same_or n n) [ same e t ↦ rw t refl | apart ne t ↦ absurd (ne refl) ]

      either : (ms others : List ℕ) → up_to n ms ≡ [] → up_to n others ≡ [] → up_to n (or_list (path_through x.number ms) others) ≡ []
      either [] others h k = k
      either (m ∷ ms) others h k =
          elim (same_or m n) [
            | same e t ↦ rw t refl
            | apart ne t ↦ absurd (let j = rw t at h in cc j)
          ]

-- the paths below the deepest common ancestor, or below the first node where there is none
pub paths-apart : (n m : ℕ) (f : Forest Content) → length (path_below f (common_ancestor f n m) n) + length (path_below f (common_ancestor f n m) m) ≤ size f
paths-apart n m f =
    let others = ancestors m f in
    let c = common_ancestor f n m in
    let first = length-reverse (up_to c (ancestors n f)) in
    let second = length-reverse (up_to c others) in
    let a = below (head_of (filter (λ a. among a others) (ancestors n f))) refl in
    let b = length-up_to c others in
    let d = on-all others others (λ x h. h) in
    omega (arith, along-ancestors (off_it others) n f, along-ancestors (on_it others) m f, total-two (off_it others) (on_it others) (one_or_other others) f)
  where
    below : (o : Option ℕ) → head_of (filter (λ a. among a (ancestors m f)) (ancestors n f)) ≡ o → length (up_to (unwrap_or o n) (ancestors n f)) ≤ along (off_it (ancestors m f)) (ancestors n f)
    below None e = rw (up_to-itself n f) (omega arith)
    below (Some c) e = up_to-off (ancestors m f) (ancestors n f) c e
