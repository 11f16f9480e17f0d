-- How many ends of static ranges stand in a node, as ranges come and go; and the ranges by number asked as those by slot are.
use Rattle.std.proofs.Common.{◌≡◌, ℕ, ◌+◌, ◌^◌, ◌<◌, ◌≤◌, ◌==◌, nat_lt, Bool, true, false, ◌||◌, if◌then◌else◌, List, [], ◌∷◌, ◌++◌, length, filter_map, sum_by, swap_remove, slice_get, slice_index_or, Option, Some, None, refl, sym, ap, ◌∙◌, ⊎_elim, arith, flat_map}
use Rattle.std.specs.List.{list_any}
use Rattle.std.proofs.lemmas.{Bool.cases_Bool, Bool.lt-ltb, Grind.flat_map-append, List.Folds.list_any-append, List.Sums.sum_by-cons, List.Sums.sum_by-swap_remove, List.Sorted.list_any-IsPermutation, Option.slice_get_within, Option.get_or_from_slice_get}
use Rattle.dom_model.specs.Definitions.{among, hits, Range, nodes_of_range, nodes_unless_released}
use Rattle.dom_model.proofs.Forests.Climbing.{hits-append, hits-first, among-hits, not_among-hits}
use Rattle.dom_model.proofs.RangesAndContents.RangesElsewhere.{among-any}
use Rattle.dom_slots.specs.Slotted.{by_slot, IsSlotted}
use Rattle.dom_slots.proofs.LiveEntryLemmas.{live-by_slot, items_few}
use Rattle.dom_ranges.specs.StaticEnds.{ends_in, end_count_at, with_end, AreKept}

-- 1 where the node is that one
abbrev pub one_at : ℕ → ℕ → ℕ
one_at n node = if node == n then 1 else 0

pub one_at-few : (n node : ℕ) → one_at n node ≤ 1
one_at-few n node = few (node == n)
  where
    few : (b : Bool) → (if b then 1 else 0) ≤ 1
    few true = omega arith
    few false = omega arith

-- how many ends of one range stand in a node
abbrev ends_of : ℕ → Range → ℕ
ends_of n r = hits n (nodes_of_range r)

ends-each : (n : ℕ) (rs : List Range) → ends_in rs n ≡ sum_by (ends_of n) rs
ends-each n [] = refl
ends-each n (r ∷ rs) = hits-append n (nodes_of_range r) (flat_map nodes_of_range rs) ∙ ap (λ k. ends_of n r + k) (ends-each n rs) ∙ sym (sum_by-cons (ends_of n) r rs)

ends-pushed : (n : ℕ) (rs : List Range) (r : Range) → ends_in (rs ++ r ∷ []) n ≡ ends_in rs n + ends_of n r
ends-pushed n rs r = ap (hits n) (flat_map-append nodes_of_range rs (r ∷ [])) ∙ hits-append n (flat_map nodes_of_range rs) (nodes_of_range r)

ends-removed : (n : ℕ) (rs : List Range) (k : ℕ) (d : Range) → k < length rs → ends_in (swap_remove rs k d) n + ends_of n (slice_index_or rs k d) ≡ ends_in rs n
ends-removed n rs k d lt = ap (λ m. m + ends_of n (slice_index_or rs k d)) (ends-each n (swap_remove rs k d)) ∙ sum_by-swap_remove (ends_of n) rs k d lt ∙ sym (ends-each n rs)

-- each range has two ends
ends-few : (n : ℕ) (rs : List Range) → ends_in rs n ≤ length rs + length rs
ends-few n [] = omega arith
ends-few n (r ∷ rs) = omega (arith, ends-few n rs, one_at-few n r.start.node, one_at-few n r.end.node)

-- no more ends are counted than numbers with 32 bits have
pub counts-few : {slots : List (Option ℕ)} {rs : List Range} {counts : List (ℕ × ℕ)} → IsSlotted slots rs → AreKept rs counts → length slots ≤ 2 ^ 32 → (n : ℕ) → end_count_at counts n ≤ 2 ^ 33
counts-few {slots} {rs} s kept few n = omega (arith, kept.counted n, ends-few n rs, items_few s, few)

-- ranges with their counts, as one comes and as one goes
module _ {rs : List Range} {counts : List (ℕ × ℕ)} (kept : AreKept rs counts) where
  pub kept-made : (r : Range) (i j : ℕ) (rs' : List Range) (first second : List (ℕ × ℕ)) → i ≡ r.start.node → j ≡ r.end.node → ((n : ℕ) → end_count_at first n ≡ with_end i counts n) → ((n : ℕ) → end_count_at second n ≡ with_end j first n)
      → rs' ≡ rs ++ r ∷ [] → AreKept rs' second
  kept-made r i j rs' first second start end one two pushed = record {
    counted = λ n. omega (arith, one n, two n, kept.counted n, ap (λ xs. ends_in xs n) pushed, ends-pushed n rs r, ap (one_at n) start, ap (one_at n) end);
  }

  -- the range in a slot, and what is counted once its ends are taken out one after another
  module _ (k : ℕ) (r : Range) (at : slice_get rs k ≡ Some r) where
    apart : (n : ℕ) → end_count_at counts n ≡ ends_in (swap_remove rs k r) n + ends_of n r
    apart n =
        kept.counted n ∙ sym (ends-removed n rs k r (slice_get_within rs k r at))
        ∙ ap (λ x. ends_in (swap_remove rs k r) n + ends_of n x) (get_or_from_slice_get rs k r r at)

    pub start-counted : (i : ℕ) → i ≡ r.start.node → 0 < end_count_at counts i
    start-counted i start = rw start (omega (arith, apart r.start.node, hits-first r.start.node (r.end.node ∷ [])))

    pub end-counted : (i j : ℕ) (first : List (ℕ × ℕ)) → i ≡ r.start.node → j ≡ r.end.node → ((n : ℕ) → end_count_at counts n ≡ with_end i first n) → 0 < end_count_at first j
    end-counted i j first start end one = omega (arith, one j, apart j, ap (one_at j) start, ap (one_at j) (sym end), hits-first j [])

    pub kept-released : (i j : ℕ) (rs' : List Range) (first second : List (ℕ × ℕ)) → i ≡ r.start.node → j ≡ r.end.node → ((n : ℕ) → end_count_at counts n ≡ with_end i first n) → ((n : ℕ) → end_count_at first n ≡ with_end j second n)
        → rs' ≡ swap_remove rs k r → AreKept rs' second
    kept-released i j rs' first second start end one two removed = record {
      counted = λ n. omega (arith, one n, two n, apart n, ap (λ xs. ends_in xs n) removed, ap (one_at n) start, ap (one_at n) end);
    }

-- the ranges by number asked as those by slot
module _ {A : Type 0} (p : ℕ → Bool) (nodes : A → List ℕ) where
  any-each : (xs : List A) → list_any p (flat_map nodes xs) ≡ list_any (λ x. list_any p (nodes x)) xs
  any-each [] = refl
  any-each (x ∷ xs) = list_any-append p (nodes x) (flat_map nodes xs) ∙ ap (λ b. list_any p (nodes x) || b) (any-each xs)

  any-live : (es : List (Option A)) → list_any p (flat_map (nodes_unless_released nodes) es) ≡ list_any (λ x. list_any p (nodes x)) (filter_map (λ e. e) es)
  any-live [] = refl
  any-live (None ∷ es) = any-live es
  any-live (Some x ∷ es) = list_any-append p (nodes x) (flat_map (nodes_unless_released nodes) es) ∙ ap (λ b. list_any p (nodes x) || b) (any-live es)

  pub any-by_slot : {slots : List (Option ℕ)} {items : List A} → IsSlotted slots items → list_any p (flat_map nodes items) ≡ list_any p (flat_map (nodes_unless_released nodes) (by_slot slots items))
  any-by_slot {slots} {items} s =
      any-each items
      ∙ sym (list_any-IsPermutation (λ x. list_any p (nodes x)) (filter_map (λ e. e) (by_slot slots items)) items (live-by_slot s))
      ∙ sym (any-live (by_slot slots items))

-- a node is named where an end is counted there
pub named-counted : {slots : List (Option ℕ)} {rs : List Range} {counts : List (ℕ × ℕ)} → IsSlotted slots rs → AreKept rs counts → (n : ℕ) → nat_lt 0 (end_count_at counts n) ≡ among n (flat_map (nodes_unless_released nodes_of_range) (by_slot slots rs))
named-counted {slots} {rs} s kept n =
    ap (nat_lt 0) (kept.counted n)
    ∙ named n (flat_map nodes_of_range rs)
    ∙ among-any n (flat_map nodes_of_range rs)
    ∙ any-by_slot (λ m. m == n) nodes_of_range s
    ∙ sym (among-any n (flat_map (nodes_unless_released nodes_of_range) (by_slot slots rs)))
  where
    named : (m : ℕ) (ms : List ℕ) → nat_lt 0 (hits m ms) ≡ among m ms
    named m ms =
        ⊎_elim
        (λ (y : among m ms ≡ true). lt-ltb 0 (hits m ms) (among-hits m ms y) ∙ sym y)
        (λ (no : among m ms ≡ false). ap (nat_lt 0) (not_among-hits m ms no) ∙ sym no)
        (cases_Bool (among m ms))
