-- Items that are found by their roots and by where they stand.
use Rattle.std.proofs.Common.{◌≡◌, ℕ, zero, suc, ◌+◌, ◌-◌, ◌<◌, ◌≤◌, ◌==◌, nat_eq, true, false, ◌||◌, if◌then◌else◌, List, [], ◌∷◌, ◌++◌, length, map, set, swap_remove, Option, Some, None, is_some, slice_get, inl, refl, sym, ap, ◌∙◌, ⊎_elim, arith}
use Rattle.std.specs.{List.list_any, List.flat_map, Option.IsSome, Option.unwrap_or, Map.lookup}
use Rattle.std.proofs.lemmas.{Bool.cases_Bool, Bool.cases_eq, Bool.eq-eqb, Bool.ne_eqb, Bool.or_right, List.map-set, List.map-append, List.set-get_or, List.get_or-map, List.length-map, Option.get_or_from_slice_get, Option.slice_get_within}
use Rattle.dom_model.specs.Definitions.{hits, among, is_number, Walker, walker_moved}
use Rattle.dom_model.proofs.Forests.Climbing.{hits-append, among-hits, not_among-hits}
use Rattle.indexmap.specs.IndexMap.{IndexMap, get}
use Rattle.dom_traverse.specs.{NamedNodes.named_by, NamedNodes.if_counted, NamedNodes.count_at, NamedNodes.Recounts, NamedNodes.AreNames, NamedNodes.AreFound, PositionsByNode.node_in, PositionsByNode.StandOrWait}
use Rattle.dom_traverse.proofs.{FlushLemmas.caught_up-end, FlushLemmas.stand-written, FlushLemmas.stand-more, FlushLemmas.stand-fewer, SwapRemoveLemmas.map-swap_remove, SwapRemoveLemmas.hits-le-length, SwapRemoveLemmas.hits-swap_remove}

-- what a count that is kept tells
counted-number : (k : ℕ) → unwrap_or (if_counted k) 0 ≡ k
counted-number zero = refl
counted-number (suc k) = refl

counted-some : (k : ℕ) → 0 < k → is_some (if_counted k) ≡ true
counted-some zero h = absurd (omega (arith, h))
counted-some (suc k) h = refl

counted-among : (n : ℕ) (ns : List ℕ) → is_some (if_counted (hits n ns)) ≡ among n ns
counted-among n ns =
    ⊎_elim (λ (a : among n ns ≡ true). counted-some (hits n ns) (among-hits n ns a) ∙ sym a)
    (λ (a : among n ns ≡ false). ap (λ k. is_some (if_counted k)) (not_among-hits n ns a) ∙ sym a) (cases_Bool (among n ns))

module _ {A : Type 0} (root at : A → ℕ) where
  nodes-named : (xs : List A) (n : ℕ) → among n (flat_map (named_by root at) xs) ≡ (among n (map root xs) || list_any (λ o. is_number o n) (map (λ x. Some (at x)) xs))
  nodes-named [] n = refl
  nodes-named (x ∷ xs) n =
      ⊎_elim (λ (a : (root x == n) ≡ true). rw a refl)
      (λ (a : (root x == n) ≡ false).
      ⊎_elim (λ (b : (at x == n) ≡ true). rw (a, b) (sym (or_right (among n (map root xs)) true refl))) (λ (b : (at x == n) ≡ false). rw (a, b) (nodes-named xs n)) (cases_Bool (at x == n))) (cases_Bool (root x == n))

  module _ {S : Type 0} (xs : List A) (roots : IndexMap ℕ ℕ S) (standing : List (Option ℕ)) (are : AreFound root at xs roots standing) where
    pub found-names : ((e : ℕ) → e < length standing → IsSome (node_in standing e)) → AreNames roots standing (flat_map (named_by root at) xs)
    found-names all n =
        nodes-named xs n ∙ ap (λ b. b || list_any (λ o. is_number o n) (map (λ x. Some (at x)) xs)) (sym (ap is_some (are.counted n) ∙ counted-among n (map root xs)))
        ∙ ap (λ ns. is_some (get nat_eq roots n) || list_any (λ o. is_number o n) ns) (sym (caught_up-end at xs standing are.stand all))

    -- how many items have a root
    pub found-count : (n : ℕ) → count_at roots n ≡ hits n (map root xs)
    found-count n = ap (λ o. unwrap_or o 0) (are.counted n) ∙ counted-number (hits n (map root xs))

    pub found-few : (roots0 : IndexMap ℕ ℕ S) (n : ℕ) → roots0.entries ≡ roots.entries → count_at roots0 n ≤ length xs
    found-few roots0 n same = omega (arith, ap (λ es. unwrap_or (lookup (nat_eq n) es) 0) same, found-count n, hits-le-length n (map root xs), length-map xs root)

    -- each has moved
    module _ (change : A → A) (keeps : (x : A) → root (change x) ≡ root x) where
      roots-kept : (ys : List A) → map root (map change ys) ≡ map root ys
      roots-kept [] = refl
      roots-kept (y ∷ ys) = ap (λ r. r ∷ map root (map change ys)) (keeps y) ∙ ap (λ rs. root y ∷ rs) (roots-kept ys)

      pub found-each : (xs' : List A) (standing' : List (Option ℕ)) → xs' ≡ map change xs → StandOrWait at xs' standing' → AreFound root at xs' roots standing'
      found-each xs' standing' each stand = record {
        stand = stand;
        counted = λ n. are.counted n ∙ ap (λ ns. if_counted (hits n ns)) (sym (ap (map root) each ∙ roots-kept xs));
      }

    -- an item has moved
    module _ (id : ℕ) (x y : A) (lies : slice_get xs id ≡ Some x) (same : root y ≡ root x) where
      within : id < length xs
      within = slice_get_within xs id x lies

      found-moved : (standing' : List (Option ℕ)) → StandOrWait at (set xs id y) standing' → AreFound root at (set xs id y) roots standing'
      found-moved standing' stand = record {
        stand = stand;
        counted = λ n. are.counted n ∙ ap (λ ns. if_counted (hits n ns)) (sym roots-same);
      }
        where
          roots-same : map root (set xs id y) ≡ map root xs
          roots-same =
              map-set root xs id y
              ∙ ap (set (map root xs) id) (same ∙ sym (ap root (get_or_from_slice_get xs id x x lies)) ∙ sym (get_or-map root xs id x 0 within))
              ∙ set-get_or (map root xs) id 0

      -- and waits from then on
      pub found-left : (standing' : List (Option ℕ)) → standing' ≡ set standing id None → AreFound root at (set xs id y) roots standing'
      found-left standing' h = found-moved standing' (stand-written at xs standing are.stand id y None standing' within (inl refl) h)

    -- the counts of roots, where a node has one more or one fewer
    recounted : (roots0 roots1 : IndexMap ℕ ℕ S) (r count : ℕ) (ns : List ℕ) → roots0.entries ≡ roots.entries → Recounts roots0 roots1 r count → count ≡ hits r ns → ((n : ℕ) → (r ≡ n → ⊥) → hits n (map root xs) ≡ hits n ns)
        → (n : ℕ) → get nat_eq roots1 n ≡ if_counted (hits n ns)
    recounted roots0 roots1 r count ns same told here elsewhere n =
        told n
        ∙ ⊎_elim (λ (q : r ≡ n). rw (eq-eqb r n q) (ap if_counted (here ∙ ap (λ m. hits m ns) q)))
        (λ (ne : r ≡ n → ⊥). rw (ne_eqb r n ne) (ap (lookup (nat_eq n)) same ∙ are.counted n ∙ ap if_counted (elsewhere n ne))) (cases_eq r n)

    -- one more item
    pub found-more : (xs' : List A) (roots0 roots1 : IndexMap ℕ ℕ S) (standing' : List (Option ℕ)) (x : A) (r : ℕ) → roots0.entries ≡ roots.entries → root x ≡ r → at x ≡ r
        → Recounts roots0 roots1 r (count_at roots0 r + 1) → standing' ≡ standing ++ Some r ∷ [] → xs' ≡ xs ++ x ∷ [] → AreFound root at xs' roots1 standing'
    found-more xs' roots0 roots1 standing' x r same p q told h pushed = record {
      stand = stand-more at xs standing are.stand xs' standing' x r q h pushed;
      counted = λ n. recounted roots0 roots1 r (count_at roots0 r + 1) (map root xs ++ r ∷ []) same told here elsewhere n ∙ ap (λ ns. if_counted (hits n ns)) with-root;
    }
      where
        with-root : map root xs ++ r ∷ [] ≡ map root xs'
        with-root = ap (λ m. map root xs ++ m ∷ []) (sym p) ∙ sym (map-append root xs (x ∷ [])) ∙ ap (map root) (sym pushed)

        here : count_at roots0 r + 1 ≡ hits r (map root xs ++ r ∷ [])
        here =
            let one : hits r (r ∷ []) ≡ 1 = rw (eq-eqb r r refl) refl in
            omega (arith, ap (λ es. unwrap_or (lookup (nat_eq r) es) 0) same, found-count r, hits-append r (map root xs) (r ∷ []), one)

        elsewhere : (n : ℕ) → (r ≡ n → ⊥) → hits n (map root xs) ≡ hits n (map root xs ++ r ∷ [])
        elsewhere n ne =
            let none : hits n (r ∷ []) ≡ 0 = rw (ne_eqb r n ne) refl in
            omega (arith, hits-append n (map root xs) (r ∷ []), none)

    -- an item taken out; the last came into its place
    module _ (k : ℕ) (x : A) (lies : slice_get xs k ≡ Some x) where
      inside : k < length xs
      inside = slice_get_within xs k x lies

      root-left : (n : ℕ) → hits n (map root (swap_remove xs k x)) + (if root x == n then 1 else 0) ≡ hits n (map root xs)
      root-left n =
          ap (λ ns. hits n ns + (if root x == n then 1 else 0)) (map-swap_remove root xs k x (root x) inside)
          ∙ ap (λ m. hits n (swap_remove (map root xs) k (root x)) + (if m == n then 1 else 0)) (sym (ap root (get_or_from_slice_get xs k x x lies)) ∙ sym (get_or-map root xs k x (root x) inside))
          ∙ hits-swap_remove n (map root xs) k (root x) (omega (arith, length-map xs root, inside))

      here-left : hits (root x) (map root (swap_remove xs k x)) + 1 ≡ hits (root x) (map root xs)
      here-left = ap (λ b. hits (root x) (map root (swap_remove xs k x)) + (if b then 1 else 0)) (sym (eq-eqb (root x) (root x) refl)) ∙ root-left (root x)

      module _ (r : ℕ) (its : r ≡ root x) where
        pub root-counted : 0 < count_at roots r
        root-counted = omega (arith, ap (count_at roots) its, found-count (root x), here-left)

        pub found-fewer : (xs' : List A) (roots1 : IndexMap ℕ ℕ S) (standing' : List (Option ℕ)) → Recounts roots roots1 r (count_at roots r - 1) → standing' ≡ swap_remove standing k None → xs' ≡ swap_remove xs k x
            → AreFound root at xs' roots1 standing'
        found-fewer xs' roots1 standing' told h removed = record {
          stand = stand-fewer at xs standing are.stand k x xs' standing' inside h removed;
          counted = λ n.
              recounted roots roots1 r (count_at roots r - 1) (map root (swap_remove xs k x)) refl told here elsewhere n
              ∙ ap (λ ys. if_counted (hits n (map root ys))) (sym removed);
        }
          where
            here : count_at roots r - 1 ≡ hits r (map root (swap_remove xs k x))
            here = omega (arith, ap (count_at roots) its, found-count (root x), here-left, ap (λ m. hits m (map root (swap_remove xs k x))) its)

            elsewhere : (n : ℕ) → (r ≡ n → ⊥) → hits n (map root xs) ≡ hits n (map root (swap_remove xs k x))
            elsewhere n ne =
                let other : (root x == n) ≡ false = ne_eqb (root x) n (λ q. ne (its ∙ q)) in
                omega (arith, root-left n, ap (λ b. hits n (map root (swap_remove xs k x)) + (if b then 1 else 0)) other)

pub moved-walker_root : (found : Option ℕ) (k : Walker) → (walker_moved found k).root ≡ k.root
moved-walker_root None k = refl
moved-walker_root (Some n) k = refl
