-- Ranges are pairs of ends: what a change of a list of ends is to the ranges in it.
use Rattle.std.proofs.Common.{◌≡◌, ℕ, zero, suc, ◌+◌, ◌*◌, ◌<◌, List, [], ◌∷◌, ◌++◌, length, map, swap_remove, Option, Some, None, slice_get, slice_set, flat_map, refl, sym, ap, subst, ◌∙◌, ⊎_elim, arith, add-one}
use Rattle.std.proofs.lemmas.{Bool.cases_eq, Option.none-some, Option.same_Some}
use Rattle.dom_model.specs.Definitions.{Point, Range, moved_range, nodes_of_range}
use Rattle.dom_chains.specs.Keyed.{keys_of}
use Rattle.dom_slots.proofs.ListPlaceLemmas.{length-swap_remove, slice_get-swap_remove_same, slice_get-swap_remove_other}
use Rattle.dom_ranges.specs.Ends.{point_of, keyed_end, range_of, paired}

-- what holds of no end, and of two more wherever it holds of the rest, holds of two ends for each of some ranges
by_pairs : (P : List (ℕ × ℕ) → Type 0) → P [] → ((s e : ℕ × ℕ) (rest : List (ℕ × ℕ)) → P rest → P (s ∷ e ∷ rest)) → (ends : List (ℕ × ℕ)) (n : ℕ) → length ends ≡ 2 * n → P ends
by_pairs P none more [] n long = none
by_pairs P none more (s ∷ []) n long = absurd (omega (arith, long))
by_pairs P none more (s ∷ e ∷ rest) zero long = absurd (omega (arith, long))
by_pairs P none more (s ∷ e ∷ rest) (suc n) long = more s e rest (by_pairs P none more rest n (omega (arith, long)))

-- two ends for each of some ranges
module _ (ends : List (ℕ × ℕ)) (n : ℕ) (long : length ends ≡ 2 * n) where
  pub paired-length : length (paired ends) ≡ n
  paired-length =
      let twice : 2 * length (paired ends) ≡ length ends = by_pairs (λ es. 2 * length (paired es) ≡ length es) refl (λ s e rest h. omega (arith, h)) ends n long in
      omega (arith, twice, long)

  -- the nodes in which they stand
  pub nodes-paired : flat_map nodes_of_range (paired ends) ≡ keys_of ends
  nodes-paired = by_pairs (λ es. flat_map nodes_of_range (paired es) ≡ keys_of es) refl (λ s e rest h. ap (λ ns. s.0 ∷ e.0 ∷ ns) h) ends n long

  -- two more
  pub paired-pushed : (s e : ℕ × ℕ) → paired (ends ++ s ∷ [] ++ e ∷ []) ≡ paired ends ++ range_of s e ∷ []
  paired-pushed s e = by_pairs (λ es. paired (es ++ s ∷ [] ++ e ∷ []) ≡ paired es ++ range_of s e ∷ []) refl (λ a b rest h. ap (λ rs. range_of a b ∷ rs) h) ends n long

-- what holds of both ends of each range holds of each end
pub each-end : (P : ℕ × ℕ → Type 0) (ends : List (ℕ × ℕ)) (n : ℕ) → length ends ≡ 2 * n → ((k : ℕ) (r : Range) → slice_get (paired ends) k ≡ Some r → P (keyed_end r.start) × P (keyed_end r.end)) → (id : ℕ) (end : ℕ × ℕ) → slice_get ends id ≡ Some end → P end
each-end P [] n long both id end at = absurd (none-some end at)
each-end P (s ∷ []) n long both id end at = absurd (omega (arith, long))
each-end P (s ∷ e ∷ rest) zero long both id end at = absurd (omega (arith, long))
each-end P (s ∷ e ∷ rest) (suc n) long both zero end at = subst P (same_Some s end at) (both 0 (range_of s e) refl).0
each-end P (s ∷ e ∷ rest) (suc n) long both (suc zero) end at = subst P (same_Some e end at) (both 0 (range_of s e) refl).1
each-end P (s ∷ e ∷ rest) (suc n) long both (suc (suc id)) end at = each-end P rest n (omega (arith, long)) (λ k. both (suc k)) id end at

-- each end is moved
pub paired-map : (g : Point → Point) (f : ℕ × ℕ → ℕ × ℕ) → ((end : ℕ × ℕ) → point_of (f end) ≡ g (point_of end)) → (ends : List (ℕ × ℕ)) → paired (map f ends) ≡ map (moved_range g) (paired ends)
paired-map g f same [] = refl
paired-map g f same (s ∷ []) = refl
paired-map g f same (s ∷ e ∷ rest) =
    ap (λ (p : Point). record { start = p; end = point_of (f e) } ∷ paired (map f rest)) (same s)
    ∙ ap (λ (p : Point). record { start = g (point_of s); end = p } ∷ paired (map f rest)) (same e)
    ∙ ap (λ rs. moved_range g (range_of s e) ∷ rs) (paired-map g f same rest)

-- the range from one end to another, where both are there
abbrev both : Option (ℕ × ℕ) → Option (ℕ × ℕ) → Option Range
both None end = None
both (Some start) None = None
both (Some start) (Some end) = Some (range_of start end)

abbrev twice : ℕ → ℕ
twice zero = 0
twice (suc k) = suc (suc (twice k))

twice-is : (k : ℕ) → twice k ≡ 2 * k
twice-is zero = refl
twice-is (suc k) = omega (arith, twice-is k)

at-twice : (ends : List (ℕ × ℕ)) (k : ℕ) → slice_get (paired ends) k ≡ both (slice_get ends (twice k)) (slice_get ends (suc (twice k)))
at-twice [] k = refl
at-twice (s ∷ []) zero = refl
at-twice (s ∷ []) (suc k) = refl
at-twice (s ∷ e ∷ rest) zero = refl
at-twice (s ∷ e ∷ rest) (suc k) = at-twice rest k

set-twice : (ends : List (ℕ × ℕ)) (k : ℕ) (s e : ℕ × ℕ) → paired (slice_set (slice_set ends (twice k) s) (suc (twice k)) e) ≡ slice_set (paired ends) k (range_of s e)
set-twice [] k s e = refl
set-twice (a ∷ []) zero s e = refl
set-twice (a ∷ []) (suc k) s e = refl
set-twice (a ∷ b ∷ rest) zero s e = refl
set-twice (a ∷ b ∷ rest) (suc k) s e = ap (λ rs. range_of a b ∷ rs) (set-twice rest k s e)

range-at : (ends : List (ℕ × ℕ)) (k : ℕ) → slice_get (paired ends) k ≡ both (slice_get ends (2 * k)) (slice_get ends (2 * k + 1))
range-at ends k = rw (add-one, ← twice-is k) (at-twice ends k)

-- a range is read by its ends
pub paired-read : (ends : List (ℕ × ℕ)) (k : ℕ) (s e : ℕ × ℕ) → slice_get ends (2 * k) ≡ Some s → slice_get ends (2 * k + 1) ≡ Some e → slice_get (paired ends) k ≡ Some (range_of s e)
paired-read ends k s e first second = range-at ends k ∙ ap (λ o. both o (slice_get ends (2 * k + 1))) first ∙ ap (both (Some s)) second

-- both ends of a range are written
pub paired-set : (ends : List (ℕ × ℕ)) (k : ℕ) (s e : ℕ × ℕ) → paired (slice_set (slice_set ends (2 * k) s) (2 * k + 1) e) ≡ slice_set (paired ends) k (range_of s e)
paired-set ends k s e = rw (add-one, ← twice-is k) (set-twice ends k s e)

-- both ends of a range taken out, the second first: the ends of the last range come into their places
abbrev pub ends_left : List (ℕ × ℕ) → ℕ → ℕ × ℕ → ℕ × ℕ → List (ℕ × ℕ)
ends_left ends k e s = swap_remove (swap_remove ends (2 * k + 1) e) (2 * k) s

module _ (ends : List (ℕ × ℕ)) (last : ℕ) (long : length ends ≡ 2 * last + 2) (k : ℕ) (e : ℕ × ℕ) where
  pub one-long : length (swap_remove ends (2 * k + 1) e) ≡ 2 * last + 1
  one-long = length-swap_remove ends (2 * last + 1) (omega (arith, long)) (2 * k + 1) e

  module _ (s : ℕ × ℕ) where
    pub left-long : length (ends_left ends k e s) ≡ 2 * last
    left-long = length-swap_remove (swap_remove ends (2 * k + 1) e) (2 * last) (sym one-long) (2 * k) s

    stays : (id : ℕ) → id < 2 * last → (id ≡ 2 * k → ⊥) → (id ≡ 2 * k + 1 → ⊥) → slice_get (ends_left ends k e s) id ≡ slice_get ends id
    stays id lt start end =
        slice_get-swap_remove_other (swap_remove ends (2 * k + 1) e) (2 * last) (sym one-long) (2 * k) id s lt start
        ∙ slice_get-swap_remove_other ends (2 * last + 1) (omega (arith, long)) (2 * k + 1) id e (omega (arith, lt)) end

    start-comes : k < last → slice_get (ends_left ends k e s) (2 * k) ≡ slice_get ends (2 * last)
    start-comes lt =
        slice_get-swap_remove_same (swap_remove ends (2 * k + 1) e) (2 * last) (sym one-long) (2 * k) s (omega (arith, lt))
        ∙ slice_get-swap_remove_other ends (2 * last + 1) (omega (arith, long)) (2 * k + 1) (2 * last) e (omega arith) (λ same. omega (arith, same))

    end-comes : k < last → slice_get (ends_left ends k e s) (2 * k + 1) ≡ slice_get ends (2 * last + 1)
    end-comes lt =
        slice_get-swap_remove_other (swap_remove ends (2 * k + 1) e) (2 * last) (sym one-long) (2 * k) (2 * k + 1) s (omega (arith, lt)) (λ same. omega (arith, same))
        ∙ slice_get-swap_remove_same ends (2 * last + 1) (omega (arith, long)) (2 * k + 1) e (omega (arith, lt))

    -- which ranges are left
    pub paired-left : length (paired ends) ≡ last + 1 → (r : Range) (j : ℕ) → j < last → slice_get (paired (ends_left ends k e s)) j ≡ slice_get (swap_remove (paired ends) k r) j
    paired-left many r j lt =
        let left = ends_left ends k e s in
        ⊎_elim
        (λ (same : j ≡ k).
        let here : k < last = omega (arith, same, lt) in
        ap (slice_get (paired left)) same
        ∙ range-at left k
        ∙ ap (λ o. both o (slice_get left (2 * k + 1))) (start-comes here)
        ∙ ap (both (slice_get ends (2 * last))) (end-comes here)
        ∙ sym (range-at ends last)
        ∙ sym (slice_get-swap_remove_same (paired ends) last (sym many) k r here)
        ∙ ap (slice_get (swap_remove (paired ends) k r)) (sym same))
        (λ (other : j ≡ k → ⊥).
        range-at left j
        ∙ ap (λ o. both o (slice_get left (2 * j + 1))) (stays (2 * j) (omega (arith, lt)) (λ q. other (omega (arith, q))) (λ q. omega (arith, q)))
        ∙ ap (both (slice_get ends (2 * j))) (stays (2 * j + 1) (omega (arith, lt)) (λ q. omega (arith, q)) (λ q. other (omega (arith, q))))
        ∙ sym (range-at ends j)
        ∙ sym (slice_get-swap_remove_other (paired ends) last (sym many) k j r lt other))
        (cases_eq j k)
