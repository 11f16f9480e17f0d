-- What a shift of the ends in one node or in two is to all points.
use Rattle.std.proofs.Common.{◌≡◌, ℕ, ◌+◌, ◌-◌, ◌==◌, nat_lt, nat_le, ◌&&◌, Bool, true, false, List, [], ◌∷◌, map, Option, Some, None, option_map, slice_get, refl, sym, ap, ◌∙◌, ⊎_elim, arith}
use Rattle.std.proofs.lemmas.{Bool.cases_Bool, Bool.cases_eq, Bool.eq-eqb, Bool.ne_eqb, Bool.Decides.nat_tests, Option.none-some, Option.same_Some, Option.slice_get-map}
use Rattle.dom_model.specs.Definitions.{Point, after_gap, after_splice, after_split, after_merge}
use Rattle.dom_chains.specs.Keyed.{covers, on_key}
use Rattle.dom_ranges.specs.{Ends.point_of, Ends.keyed_end, Ends.moved_end, Shifts.FitsMovedEnd, Shifts.CanMove, Shifts.GoesElsewhere, Shifts.StaysBeside, Tables.on_node}

-- two maps in turn
pub map-both : (f h k : ℕ × ℕ → ℕ × ℕ) → ((end : ℕ × ℕ) → f (h end) ≡ k end) → (ends : List (ℕ × ℕ)) → map f (map h ends) ≡ map k ends
map-both f h k same [] = refl
map-both f h k same (e ∷ ends) = ap (λ x. x ∷ map f (map h ends)) (same e) ∙ ap (λ es. k e ∷ es) (map-both f h k same ends)

module _ (node : ℕ) (g : Point → Point) where
  on-there : (p : Point) → p.node ≡ node → on_node node g p ≡ g p
  on-there p h = let a : (p.node == node) ≡ true = eq-eqb p.node node h in rw a refl

  on-elsewhere : (p : Point) → (p.node ≡ node → ⊥) → on_node node g p ≡ p
  on-elsewhere p d = let a : (p.node == node) ≡ false = ne_eqb p.node node d in rw a refl

  -- an end is moved as its point is
  pub on_key-point : (end : ℕ × ℕ) → point_of (on_key node (moved_end g) end) ≡ on_node node g (point_of end)
  on_key-point end = ⊎_elim (λ (a : (end.0 == node) ≡ true). rw a refl) (λ (a : (end.0 == node) ≡ false). rw a refl) (cases_Bool (end.0 == node))

-- two shifts in turn
module _ (a b : ℕ) (g : Point → Point) (away : GoesElsewhere a b g) (stays : StaysBeside a b g) where
  pub once-moved : a ≡ b → (end : ℕ × ℕ) → on_key a (moved_end g) end ≡ moved_end g end
  once-moved q end = ap keyed_end (on_key-point a g end ∙ once (point_of end))
    where
      once : (p : Point) → on_node a g p ≡ g p
      once p = ⊎_elim (λ (h : p.node ≡ a). on-there a g p h) (λ (n : p.node ≡ a → ⊥). on-elsewhere a g p n ∙ sym (stays p n (λ m. n (m ∙ sym q)))) (cases_eq p.node a)

  pub twice-moved : (a ≡ b → ⊥) → (end : ℕ × ℕ) → on_key b (moved_end g) (on_key a (moved_end g) end) ≡ moved_end g end
  twice-moved d end = ap keyed_end (on_key-point b g (on_key a (moved_end g) end) ∙ ap (on_node b g) (on_key-point a g end) ∙ both (point_of end))
    where
      both : (p : Point) → on_node b g (on_node a g p) ≡ g p
      both p =
          ⊎_elim (λ (h : p.node ≡ a). ap (on_node b g) (on-there a g p h) ∙ on-elsewhere b g (g p) (away p d h))
          (λ (n : p.node ≡ a → ⊥). ap (on_node b g) (on-elsewhere a g p n)
          ∙ ⊎_elim (λ (h : p.node ≡ b). on-there b g p h) (λ (m : p.node ≡ b → ⊥). on-elsewhere b g p m ∙ sym (stays p n m)) (cases_eq p.node b)) (cases_eq p.node a)

  -- what the second asks holds after the first
  pub second-can : (a ≡ b → ⊥) → (ends : List (ℕ × ℕ)) (covered : List Bool) → CanMove g b ends covered → CanMove g b (map (on_key a (moved_end g)) ends) covered
  second-can d ends covered can id end at there = go (slice_get ends id) refl
    where
      told : (o : Option (ℕ × ℕ)) → slice_get ends id ≡ o → option_map (on_key a (moved_end g)) o ≡ Some end
      told o q = ap (option_map (on_key a (moved_end g))) (sym q) ∙ sym (slice_get-map (on_key a (moved_end g)) ends id) ∙ at

      go : (o : Option (ℕ × ℕ)) → slice_get ends id ≡ o → FitsMovedEnd g end × (covers covered (moved_end g end).0 ≡ true)
      go None q = absurd (none-some end (told None q))
      go (Some x) q =
          let is : on_key a (moved_end g) x ≡ end = same_Some (on_key a (moved_end g) x) end (told (Some x) q) in
          ⊎_elim (λ (h : x.0 ≡ a). absurd (away (point_of x) d h (sym (ap (λ (p : Point). p.node) (on_key-point a g x ∙ on-there a g (point_of x) h)) ∙ ap (λ (e : ℕ × ℕ). e.0) is ∙ there)))
          (λ (n : x.0 ≡ a → ⊥). can id end (q ∙ ap Some (sym (ap keyed_end (on_key-point a g x ∙ on-elsewhere a g (point_of x) n)) ∙ is)) there) (cases_eq x.0 a)

-- the maps
pub gap-splice : (n at count : ℕ) (p : Point) → after_splice n at 0 count p ≡ after_gap n at count p
gap-splice n at count p =
    ⊎_elim (λ (a : ((p.node == n) && nat_lt at p.offset) ≡ true).
    let b : nat_le p.offset (at + 0) ≡ false = above a in
    let d : p.offset - 0 + count ≡ p.offset + count = omega arith in
    rw (a, b) (ap (λ o. record { node = p.node; offset = o }) d))
    (λ (a : ((p.node == n) && nat_lt at p.offset) ≡ false). rw a refl) (cases_Bool ((p.node == n) && nat_lt at p.offset))
  where
    above : ((p.node == n) && nat_lt at p.offset) ≡ true → nat_le p.offset (at + 0) ≡ false
    above a = grind (arith, nat_tests)

pub splice-elsewhere : (n at count added : ℕ) (p : Point) → on_node n (after_splice n at count added) p ≡ after_splice n at count added p
splice-elsewhere n at count added p =
    ⊎_elim (λ (a : (p.node == n) ≡ true). rw a refl) (λ (a : (p.node == n) ≡ false). rw a refl) (cases_Bool (p.node == n))

-- the nodes of moved points
pub split-node : (text at new parent index : ℕ) (cs : List Bool) (p : Point) → covers cs new ≡ true → covers cs p.node ≡ true → covers cs (after_split text at new parent index p).node ≡ true
split-node text at new parent index cs p a b =
    ⊎_elim (λ (x : ((p.node == text) && nat_lt at p.offset) ≡ true). rw x a)
    (λ (x : ((p.node == text) && nat_lt at p.offset) ≡ false).
    ⊎_elim (λ (y : ((p.node == parent) && (p.offset == index + 1)) ≡ true). rw (x, y) b) (λ (y : ((p.node == parent) && (p.offset == index + 1)) ≡ false). rw (x, y) b) (cases_Bool ((p.node == parent) && (p.offset == index + 1)))) (cases_Bool ((p.node == text) && nat_lt at p.offset))

pub merge-node : (from into base parent index : ℕ) (cs : List Bool) (p : Point) → covers cs into ≡ true → covers cs p.node ≡ true → covers cs (after_merge from into base parent index p).node ≡ true
merge-node from into base parent index cs p a b =
    ⊎_elim (λ (x : (p.node == from) ≡ true). rw x a)
    (λ (x : (p.node == from) ≡ false).
    ⊎_elim (λ (y : ((p.node == parent) && (p.offset == index)) ≡ true). rw (x, y) a) (λ (y : ((p.node == parent) && (p.offset == index)) ≡ false). rw (x, y) b) (cases_Bool ((p.node == parent) && (p.offset == index)))) (cases_Bool (p.node == from))
