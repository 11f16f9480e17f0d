-- Items that are spread over places.
use Rattle.std.proofs.Common.{◌≡◌, ℕ, zero, suc, ◌+◌, ◌-◌, ◌<◌, ◌≤◌, ◌==◌, Bool, true, false, ◌||◌, if◌then◌else◌, List, [], ◌∷◌, ◌++◌, length, set, get_or, replicate, swap_remove, Option, Some, None, IfSome, IfNone, unwrap_or, option_map, slice_get, length-set, length-append, refl, sym, ap, ◌∙◌, subst, ⊎_elim, arith}
use Rattle.std.specs.{List.list_any, Option.IsSome}
use Rattle.std.proofs.lemmas.{Bool.cases_Bool, Bool.eq-eqb, Bool.eqb-true, Bool.false≢true, List.map-set, List.map-append, List.length-map, Option.slice_get-get_or, Option.slice_get-map, Option.unwrap_or-slice_get}
use Rattle.dom_model.specs.Definitions.{among, is_number}
use Rattle.dom_slots.proofs.ListPlaceLemmas.{length-swap_remove}
use Rattle.dom_chains.specs.Keyed.{Keyed, keys_of, passes_at}
use Rattle.dom_traverse.specs.PositionsByNode.{node_in, bucket_of, at_place, item_nodes, spread_over, AreSpread}
use Rattle.dom_traverse.proofs.{GaveWayLemmas.some-within, SwapRemoveLemmas.map-swap_remove}

-- the node of an item is read of it
abbrev pub node_of : Option (ℕ × Option ℕ) → Option ℕ
node_of it = unwrap_or (option_map (λ (x : ℕ × Option ℕ). x.1) it) None

pub node-read : (items : List (ℕ × Option ℕ)) (nodes : List (Option ℕ)) → item_nodes items ≡ nodes → (e : ℕ) (it : Option (ℕ × Option ℕ)) → it ≡ slice_get items e → node_in nodes e ≡ node_of it
node-read items nodes is e it read =
    ap (λ ns. node_in ns e) (sym is) ∙ sym (unwrap_or-slice_get (item_nodes items) e None)
    ∙ ap (λ o. unwrap_or o None) (slice_get-map (λ (x : ℕ × Option ℕ). x.1) items e) ∙ ap node_of (sym read)

module _ (count : ℕ) where
  nodes-spread : (nodes : List (Option ℕ)) → item_nodes (spread_over count nodes) ≡ nodes
  nodes-spread [] = refl
  nodes-spread (o ∷ nodes) = ap (λ ns. o ∷ ns) (nodes-spread nodes)

  -- where a key is not there, no item is at its place
  not-keyed : (nodes : List (Option ℕ)) (e k : ℕ) → among k (keys_of (spread_over count nodes)) ≡ false → e < length nodes → bucket_of count (node_in nodes e) ≡ k → ⊥
  not-keyed [] e k h l is = omega arith
  not-keyed (o ∷ nodes) zero k h l is = false≢true (sym (rw (eq-eqb (bucket_of count o) k is) at h))
  not-keyed (o ∷ nodes) (suc e) k h l is =
      ⊎_elim (λ (t : (bucket_of count o == k) ≡ true). false≢true (sym (rw t at h)))
      (λ (f : (bucket_of count o == k) ≡ false). not-keyed nodes e k (rw f at h) (omega arith) is) (cases_Bool (bucket_of count o == k))

  -- those at a node are among those that have its key
  only : (b v : Bool) → (v ≡ true → b ≡ true) → (if b then v else false) ≡ v
  only true v h = refl
  only false true h = h refl
  only false false h = refl

  passes-there : (n : ℕ) (o : Option ℕ) → passes_at (bucket_of count (Some n)) (λ it. is_number it n) (at_place count o) ≡ is_number o n
  passes-there n None = only (0 == bucket_of count (Some n)) false (λ f. absurd (false≢true f))
  passes-there n (Some m) = only (bucket_of count (Some m) == bucket_of count (Some n)) (m == n) (λ t. eq-eqb _ _ (ap (λ k. bucket_of count (Some k)) (eqb-true m n t)))

  any-there : (n : ℕ) (nodes : List (Option ℕ)) → list_any (passes_at (bucket_of count (Some n)) (λ it. is_number it n)) (spread_over count nodes) ≡ list_any (λ o. is_number o n) nodes
  any-there n [] = refl
  any-there n (o ∷ nodes) =
      ap (λ b. b || list_any (passes_at (bucket_of count (Some n)) (λ it. is_number it n)) (spread_over count nodes)) (passes-there n o)
      ∙ ap (λ b. is_number o n || b) (any-there n nodes)

module _ (nodes : List (Option ℕ)) (c : Keyed (Option ℕ)) (are : AreSpread nodes c) where
  -- the nodes are read of the items
  pub spread-view : item_nodes c.items ≡ nodes
  spread-view = ap item_nodes are.placed ∙ nodes-spread (length c.covered) nodes

  pub spread-own : AreSpread (item_nodes c.items) c
  spread-own = subst (λ ns. AreSpread ns c) (sym spread-view) are

  pub as-many : length c.items ≡ length nodes
  as-many = ap length are.placed ∙ length-map nodes (at_place (length c.covered))

  -- who stands at a node
  pub spread-any : (n place : ℕ) → place ≡ bucket_of (length c.covered) (Some n) → list_any (passes_at place (λ it. is_number it n)) c.items ≡ list_any (λ o. is_number o n) nodes
  spread-any n place is =
      ap (λ k. list_any (passes_at k (λ it. is_number it n)) c.items) is
      ∙ ap (list_any (passes_at (bucket_of (length c.covered) (Some n)) (λ it. is_number it n))) are.placed
      ∙ any-there (length c.covered) n nodes

  none-at : (k : ℕ) → among k (keys_of c.items) ≡ false → (e : ℕ) → e < length nodes → bucket_of (length c.covered) (node_in nodes e) ≡ k → ⊥
  none-at k h e = not-keyed (length c.covered) nodes e k (ap (λ its. among k (keys_of its)) (sym are.placed) ∙ h)

  pub none-stands : (n place : ℕ) (o : Option ℕ) → place ≡ bucket_of (length c.covered) (Some n) → IfNone o (among place (keys_of c.items) ≡ false) → IfNone o ((e : ℕ) → node_in nodes e ≡ Some n → ⊥)
  none-stands n place None is h = λ e at. none-at place h e (some-within nodes e (rw at refl)) (ap (bucket_of (length c.covered)) at ∙ sym is)
  none-stands n place (Some e) is h = tt

  pub none-waits : (o : Option ℕ) → IfNone o (among 0 (keys_of c.items) ≡ false) → IfNone o ((e : ℕ) → e < length nodes → IsSome (node_in nodes e))
  none-waits None h = λ e l. go e l (node_in nodes e) refl
    where
      go : (e : ℕ) → e < length nodes → (o : Option ℕ) → node_in nodes e ≡ o → IsSome o
      go e l None q = absurd (none-at 0 h e l (ap (bucket_of (length c.covered)) q))
      go e l (Some n) q = refl
  none-waits (Some e) h = tt

  -- other items at their places
  pub spread-changed : (nodes' : List (Option ℕ)) (c' : Keyed (Option ℕ)) → c'.items ≡ spread_over (length c.covered) nodes' → c'.covered ≡ c.covered → length nodes' ≤ length c.covered - 1 → AreSpread nodes' c'
  spread-changed nodes' c' placed same few = record {
    placed = placed ∙ ap (λ ks. spread_over (length ks) nodes') (sym same);
    covered = same ∙ are.covered ∙ ap (λ ks. replicate (length ks) true) (sym same);
    few = omega (arith, few, ap length same);
    told = omega (arith, are.told, ap length same);
  }

  pub spread-written : (e : ℕ) (o : Option ℕ) (place : ℕ) (c' : Keyed (Option ℕ)) → place ≡ bucket_of (length c.covered) o → c' ≡ record c { items = set c.items e (place, o) } → AreSpread (set nodes e o) c'
  spread-written e o place c' is h =
      spread-changed (set nodes e o) c'
      (ap (λ (x : Keyed (Option ℕ)). x.items) h ∙ ap (λ k. set c.items e (k, o)) is ∙ ap (λ its. set its e (at_place (length c.covered) o)) are.placed ∙ sym (map-set (at_place (length c.covered)) nodes e o))
      (ap (λ (x : Keyed (Option ℕ)). x.covered) h)
      (omega (arith, are.few, length-set nodes e o))

  pub spread-fewer : (e : ℕ) (c' : Keyed (Option ℕ)) → e < length nodes → IfSome (slice_get c.items e) (λ it. c'.items ≡ swap_remove c.items e it) → c'.covered ≡ c.covered → AreSpread (swap_remove nodes e None) c'
  spread-fewer e c' within h same =
      let item = get_or c.items e (0, None) in
      let removed : c'.items ≡ swap_remove c.items e item = subst (λ o. IfSome o (λ it. c'.items ≡ swap_remove c.items e it)) (slice_get-get_or c.items e (0, None) (omega (arith, within, as-many))) h in
      spread-changed (swap_remove nodes e None) c'
      (removed ∙ ap (λ its. swap_remove its e item) are.placed ∙ sym (map-swap_remove (at_place (length c.covered)) nodes e None item within))
      same
      (omega (arith, are.few, length-swap_remove nodes (length nodes - 1) (omega (arith, within)) e None))

  pub spread-more : (o : Option ℕ) (place : ℕ) (c' : Keyed (Option ℕ)) → place ≡ bucket_of (length c.covered) o → length nodes + 2 ≤ length c.covered → c'.items ≡ c.items ++ (place, o) ∷ [] → c'.covered ≡ c.covered → AreSpread (nodes ++ o ∷ []) c'
  spread-more o place c' is room pushed same =
      spread-changed (nodes ++ o ∷ []) c'
      (pushed ∙ ap (λ its. its ++ (place, o) ∷ []) are.placed ∙ ap (λ k. spread_over (length c.covered) nodes ++ (k, o) ∷ []) is ∙ sym (map-append (at_place (length c.covered)) nodes (o ∷ [])))
      same
      (omega (arith, room, length-append nodes (o ∷ [])))
