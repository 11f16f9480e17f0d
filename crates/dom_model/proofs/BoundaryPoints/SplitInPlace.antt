-- A split of a Text, with the node that comes in after it, keeps the order of the points of each root.
use Rattle.std.proofs.Common.{◌≡◌, ℕ, ◌+◌, ◌-◌, ◌*◌, ◌<◌, ◌≤◌, ◌==◌, nat_lt, Bool, true, false, ◌&&◌, if◌then◌else◌, List, [], ◌∷◌, ◌++◌, map, Some, refl, ap, sym, ◌∙◌, subst, arith, ⊎_elim}
use Rattle.std.specs.{Ordering.nat_cmp, Cmp.Lexicographic.slice_cmp}
use Rattle.std.proofs.lemmas.{Bool.cases_lt, Bool.false≢true, Bool.lt-ltb, Bool.le-ltb, Bool.Decides.nat_tests, Bool.eq-eqb, Bool.eqb-true, Bool.ne_eqb, Bool.eqb-false}
use Rattle.dom_model.specs.Definitions.{Forest, occurs, parent_of, children_of, index_of, root_of, place_of, order_of, after_split, IsWay}
use Rattle.dom_model.proofs.PlainLists.Numbers.{same_or, same, apart}
use Rattle.dom_model.proofs.Forests.{Indices.child-listed, Paths.parent-path, Chains.way_to, Chains.way, Chains.way-child, Chains.childless-last, Chains.index-apart}
use Rattle.dom_model.proofs.BoundaryPoints.{PointOrder.nat_cmp-same, WaysKept.place_by, WaysKept.place-last}

-- where an offset goes; it is the parent's where the first part is true
abbrev over : Bool → ℕ → ℕ → ℕ
over is_parent i a = if is_parent && (a == i + 1) then i + 2 else a

-- where an offset of the Text goes in its part
abbrev in_part : ℕ → ℕ → ℕ
in_part offset a = if nat_lt offset a then a - offset else a

-- Two nodes of one parent, the second right after the first and both without children: the points beyond an offset of the first go into
-- the second, and the point between the two goes behind it. Where no point stands behind the second and none in it, the order stays.
module _ {X : Type 0} (f : Forest X) (o : (m : ℕ) → occurs m f ≤ 1) (p at c offset : ℕ) (hat : 0 < occurs at f) (hc : 0 < occurs c f) (pat : parent_of f at ≡ Some p) (pc : parent_of f c ≡ Some p) (next : index_of f c ≡ index_of f at + 1) (bare : children_of f at ≡ []) (bare_new : children_of f c ≡ []) where
  -- the index on the way, and the rest of the place
  abbrev slot : ℕ → ℕ → ℕ
  slot m a = if m == at then (if nat_lt offset a then index_of f at + 1 else index_of f at) else index_of f m

  abbrev place_split : List ℕ → ℕ → ℕ → List ℕ
  place_split [] n a = (2 * over (n == p) (index_of f at) a) ∷ []
  place_split (m ∷ ms) n a = (2 * slot m a + 1) ∷ (if m == at then (2 * in_part offset a) ∷ [] else place_split ms n a)

  -- a point that is not behind the second node
  abbrev IsFree : ℕ → ℕ → Type 0
  IsFree n a = (n == p) ≡ true → a ≡ index_of f at + 2 → ⊥

  parent-is : (u : ℕ) → parent_of f at ≡ Some u → (u == p) ≡ true
  parent-is u e = eq-eqb u p (let w : Some u ≡ Some p = sym e ∙ pat in cc w)

  is-parent : (u : ℕ) → (u == p) ≡ true → u ≡ p
  is-parent u h = eqb-true u p h

  -- a child that is not the second node has another index
  far-index : (m u : ℕ) → (m ≡ c → ⊥) → 0 < occurs m f → parent_of f m ≡ Some u → (u == p) ≡ true → index_of f m ≡ index_of f at + 1 → ⊥
  far-index m u ne h e t i = ne (index-apart f o m c u h e (pc ∙ ap (λ x. Some x) (sym (is-parent u t))) (i ∙ sym next))

  over-slot : (m u a b : ℕ) → (m ≡ c → ⊥) → 0 < occurs m f → parent_of f m ≡ Some u → b ≤ index_of f m → over (u == p) (index_of f at) b ≤ slot m a
  over-slot m u a b ne h e le = grind (arith, nat_tests, far-index m u ne h e, parent-is u)

  slot-over : (m u a b : ℕ) → 0 < occurs m f → parent_of f m ≡ Some u → IsFree u b → index_of f m < b → slot m a < over (u == p) (index_of f at) b
  slot-over m u a b h e free lt = grind (arith, nat_tests, parent-is u)

  slot-order : (m l u a b : ℕ) → (m ≡ c → ⊥) → (l ≡ c → ⊥) → 0 < occurs m f → parent_of f m ≡ Some u → 0 < occurs l f → parent_of f l ≡ Some u → index_of f m < index_of f l → slot m a < slot l b
  slot-order m l u a b nm nl hm em hl el lt = grind (arith, nat_tests, far-index l u nl hl el, parent-is u)

  one_node : (n a d : ℕ) → IsFree n a → IsFree n d → slice_cmp nat_cmp (place_split [] n a) (place_split [] n d) ≡ slice_cmp nat_cmp ((2 * a) ∷ []) ((2 * d) ∷ [])
  one_node n a d fa fd = grind (arith, nat_tests)

  not_new : (m n : ℕ) (ms : List ℕ) → (n ≡ c → ⊥) → IsWay f m ms n → m ≡ c → ⊥
  not_new m n ms ne w d = ne (sym (childless-last f o m ms n (ap (children_of f) d ∙ bare_new) w).1 ∙ d)

  -- The order of two points, by the ways to them.

  abbrev IsKept : List ℕ → List ℕ → ℕ → ℕ → ℕ → ℕ → Type 0
  IsKept ms ns n k a d = slice_cmp nat_cmp (place_split ms n a) (place_split ns k d) ≡ slice_cmp nat_cmp (place_by (index_of f) ms a) (place_by (index_of f) ns d)

  own-below : (u m : ℕ) (ns : List ℕ) (n k a d : ℕ) → u ≡ n → IsWay f u (m ∷ ns) k → (k ≡ c → ⊥) → IsFree n a → IsKept [] (m ∷ ns) n k a d
  own-below u m ns n k a d v w nk fa =
      let far = not_new m k ns nk w.2 in
      grind (arith, nat_tests, slot-over m u d a w.0 w.1, over-slot m u d a far w.0 w.1)

  below-own : (u m : ℕ) (ms : List ℕ) (n k a d : ℕ) → IsWay f u (m ∷ ms) n → u ≡ k → (n ≡ c → ⊥) → IsFree k d → IsKept (m ∷ ms) [] n k a d
  below-own u m ms n k a d v w nn fd =
      let far = not_new m n ms nn v.2 in
      grind (arith, nat_tests, slot-over m u a d v.0 v.1, over-slot m u a d far v.0 v.1)

  apart-below : (u m l : ℕ) (ms ns : List ℕ) (n k a d : ℕ) → IsWay f u (m ∷ ms) n → IsWay f u (l ∷ ns) k → (n ≡ c → ⊥) → (k ≡ c → ⊥) → (m ≡ l → ⊥) → IsKept (m ∷ ms) (l ∷ ns) n k a d
  apart-below u m l ms ns n k a d v w nn nk ne =
      let far = not_new m n ms nn v.2 in
      let far_too = not_new l k ns nk w.2 in
      grind (arith, nat_tests, slot-order m l u a d far far_too v.0 v.1 w.0 w.1, slot-order l m u d a far_too far w.0 w.1 v.0 v.1, index-apart f o m l u v.0 v.1 w.1)

  in_text : (m : ℕ) (ms ns : List ℕ) (n k a d : ℕ) → m ≡ at → IsWay f m ms n → IsWay f m ns k → IsKept (m ∷ ms) (m ∷ ns) n k a d
  in_text m ms ns n k a d h v w =
      let lone = ap (children_of f) h ∙ bare in
      rw ((childless-last f o m ms n lone v).0, (childless-last f o m ns k lone w).0) (grind (arith, nat_tests))

  one_step : (m : ℕ) (ms ns : List ℕ) (n k a d : ℕ) → (m ≡ at → ⊥) → IsKept ms ns n k a d → IsKept (m ∷ ms) (m ∷ ns) n k a d
  one_step m ms ns n k a d ne i = rw (ne_eqb m at ne, nat_cmp-same (2 * index_of f m + 1)) i

  ways-split : (u : ℕ) (ms ns : List ℕ) (n k a d : ℕ) → IsWay f u ms n → IsWay f u ns k → (n ≡ c → ⊥) → (k ≡ c → ⊥) → IsFree n a → IsFree k d → IsKept ms ns n k a d
  ways-split u [] [] n k a d v w nn nk fa fd = subst (λ x. IsFree x d → IsKept [] [] n x a d) (sym v ∙ w) (λ g. one_node n a d fa g) fd
  ways-split u [] (m ∷ ns) n k a d v w nn nk fa fd = own-below u m ns n k a d v w nk fa
  ways-split u (m ∷ ms) [] n k a d v w nn nk fa fd = below-own u m ms n k a d v w nn fd
  ways-split u (m ∷ ms) (l ∷ ns) n k a d v w nn nk fa fd =
      elim (same_or m l) [
        | same e _ ↦
            let below : IsWay f m ns k = subst (λ x. IsWay f x ns k) (sym e) w.2 in
            subst (λ x. IsKept (m ∷ ms) (x ∷ ns) n k a d) e
            (elim (same_or m at) [ same h _ ↦ in_text m ms ns n k a d h v.2 below | apart ne _ ↦ one_step m ms ns n k a d ne (ways-split m ms ns n k a d v.2 below nn nk fa fd) ])
        | apart ne _ ↦ apart-below u m l ms ns n k a d v w nn nk ne
      ]

  -- The place of a point after the split is read off the way to its node before.

  split_stays : (n a : ℕ) → (n == at) ≡ false → after_split at offset c p (index_of f at) (record { node = n; offset = a }) ≡ record { node = n; offset = over (n == p) (index_of f at) a }
  split_stays n a t = grind (arith, nat_tests)

  -- only a way to the Text that is split goes through it
  not_at : (m n : ℕ) (ms : List ℕ) → (n ≡ at → ⊥) → IsWay f m ms n → m ≡ at → ⊥
  not_at m n ms ne w d = ne (sym (childless-last f o m ms n (ap (children_of f) d ∙ bare) w).1 ∙ d)

  place-clear : (u : ℕ) (ms : List ℕ) (n a : ℕ) → IsWay f u ms n → (n == at) ≡ false → place_split ms n a ≡ place_by (index_of f) ms (over (n == p) (index_of f at) a)
  place-clear u [] n a w t = refl
  place-clear u (m ∷ ms) n a w t = grind (arith, nat_tests, not_at m n ms (eqb-false n at t) w.2, place-clear m ms n a w.2 t)

  above-apart : (p == at) ≡ false
  above-apart = ne_eqb p at (λ e. let h = rw (ap (children_of f) e ∙ bare) at (child-listed f o at p hat pat) in omega arith)

  place-text : (u : ℕ) (ms : List ℕ) (a : ℕ) → IsWay f u ms p → place_split (ms ++ at ∷ []) at a ≡ map (λ m. 2 * index_of f m + 1) ms ++ (2 * slot at a + 1) ∷ (2 * in_part offset a) ∷ []
  place-text u [] a w = rw (eq-eqb at at refl) refl
  place-text u (m ∷ ms) a w = grind (arith, nat_tests, not_at m p ms (eqb-false p at above-apart) w.2, place-text m ms a w.2)

  place-split_text : (a : ℕ) → place_of f (after_split at offset c p (index_of f at) (record { node = at; offset = a })) ≡ place_split (way_to f at) at a
  place-split_text a =
      let w = way f o p (parent-path f o at p hat pat).0 in
      let e : place_split (way_to f at) at a ≡ map (λ k. 2 * index_of f k + 1) (way_to f p) ++ (2 * slot at a + 1) ∷ (2 * in_part offset a) ∷ [] =
      ap (λ ms. place_split ms at a) (way-child f o at p hat pat) ∙ place-text w.0 (way_to f p) a w.2 in
      ⊎_elim (λ (lt : offset < a). beyond (lt-ltb offset a lt) ∙ sym e) (λ (le : a ≤ offset). within (le-ltb offset a le) ∙ sym e) (cases_lt offset a)
    where
      itself : (at == at) ≡ true
      itself = elim (same_or at at) [ same e t ↦ t | apart ne t ↦ absurd (ne refl) ]

      not_parent : (at == p) ≡ false
      not_parent = elim (same_or at p) [ same e t ↦ absurd (false≢true (sym above-apart ∙ ap (λ x. x == at) (sym e) ∙ itself)) | apart ne t ↦ t ]

      beyond : nat_lt offset a ≡ true → place_of f (after_split at offset c p (index_of f at) (record { node = at; offset = a })) ≡ map (λ k. 2 * index_of f k + 1) (way_to f p) ++ (2 * slot at a + 1) ∷ (2 * in_part offset a) ∷ []
      beyond t =
          rw (itself, t) (ap (λ ms. place_by (index_of f) ms (a - offset)) (way-child f o c p hc pc)
          ∙ place-last (index_of f) (way_to f p) c (a - offset)
          ∙ ap (λ k. map (λ k. 2 * index_of f k + 1) (way_to f p) ++ (2 * k + 1) ∷ (2 * (a - offset)) ∷ []) next)

      within : nat_lt offset a ≡ false → place_of f (after_split at offset c p (index_of f at) (record { node = at; offset = a })) ≡ map (λ k. 2 * index_of f k + 1) (way_to f p) ++ (2 * slot at a + 1) ∷ (2 * in_part offset a) ∷ []
      within t =
          rw (itself, t, not_parent) (ap (λ ms. place_by (index_of f) ms a) (way-child f o at p hat pat) ∙ place-last (index_of f) (way_to f p) at a)

  place-split : (n a : ℕ) → 0 < occurs n f → place_of f (after_split at offset c p (index_of f at) (record { node = n; offset = a })) ≡ place_split (way_to f n) n a
  place-split n a h =
      elim (same_or n at) [
        | same e t ↦
            subst (λ x. place_of f (after_split at offset c p (index_of f at) (record { node = x; offset = a })) ≡ place_split (way_to f x) x a) (sym e) (place-split_text a)
        | apart ne t ↦ (let w = way f o n h in ap (place_of f) (split_stays n a t) ∙ sym (place-clear w.0 (way_to f n) n a w.2 t))
      ]

  pub split-in_place : (n m a d : ℕ) → 0 < occurs n f → 0 < occurs m f → (n ≡ c → ⊥) → (m ≡ c → ⊥) → IsFree n a → IsFree m d → root_of f n ≡ root_of f m →
      order_of f (after_split at offset c p (index_of f at) (record { node = n; offset = a })) (after_split at offset c p (index_of f at) (record { node = m; offset = d }))
      ≡ order_of f (record { node = n; offset = a }) (record { node = m; offset = d })
  split-in_place n m a d hn hm nn nm fa fd root =
      let v = way f o n hn in
      let w = way f o m hm in
      let s : v.0 ≡ w.0 = (let e : Some v.0 ≡ Some w.0 = sym v.1 ∙ root ∙ w.1 in cc e) in
      ap (λ xs. slice_cmp nat_cmp xs (place_of f (after_split at offset c p (index_of f at) (record { node = m; offset = d })))) (place-split n a hn)
      ∙ ap (slice_cmp nat_cmp (place_split (way_to f n) n a)) (place-split m d hm)
      ∙ ways-split v.0 (way_to f n) (way_to f m) n m a d v.2 (subst (λ x. IsWay f x (way_to f m) m) (sym s) w.2) nn nm fa fd
