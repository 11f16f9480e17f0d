-- A walk back to the start of a block, and two children in different ones.
use Rattle.std.proofs.Common.{◌≡◌, ℕ, ◌+◌, ◌<◌, ◌^◌, nat_lt, List, length, Option, Some, None, ap, sym, ◌∙◌, arith}
use Rattle.dom_model.specs.Definitions.{place_in, Arena, Entry, entry_at, parent_in, children_in, previous_in}
use Rattle.dom_model.specs.Forests.Arena.{IsSound}
use Rattle.dom_model.proofs.PlainLists.{Numbers.same_or, Numbers.same, Numbers.apart, Places.place-there}
use Rattle.dom_model.proofs.Forests.{Changes.seen, Changes.nothing, Changes.just, Siblings.place-first}
use Rattle.dom_tree.specs.{Slots.Kept, Slots.index_in, Blocks.count_ahead, Blocks.StandsInBlocks, Blocks.if_in_block}
use Rattle.dom_tree.proofs.{BlockCountLemmas.fits-start, BlockCountLemmas.fits-first, BlockCountLemmas.fits-order, WrittenIndicesLemmas.IsAhead, WrittenIndicesLemmas.listed_under, WrittenIndicesLemmas.before_here, WrittenIndicesLemmas.ahead-next}

module _ {X : Type 0} where
  -- a sibling that stands in the block
  pub in-block : (at : ℕ → Option (Entry (Kept X))) (o : Option ℕ) (block m : ℕ) → Some m ≡ if_in_block at o block → (o ≡ Some m) × (index_in (at m) ≡ block)
  in-block at None block m e = absurd (cc e)
  in-block at (Some s) block m e =
      elim (same_or (index_in (at s)) block) [
        | same d t ↦
            let e2 = rw t at e in
            let f : m ≡ s = cc e2 in
            (ap Some (sym f), ap (λ n. index_in (at n)) f ∙ d)
        | apart ne t ↦ absurd (let e2 = rw t at e in cc e2)
      ]

  not_in_block : (at : ℕ → Option (Entry (Kept X))) (s block : ℕ) → None ≡ if_in_block at (Some s) block → index_in (at s) ≡ block → ⊥
  not_in_block at s block e d =
      elim (same_or (index_in (at s)) block) [
        | same _ t ↦ (let e2 = rw t at e in cc e2)
        | apart ne t ↦ ne d
      ]

module _ {X : Type 0} {start : Arena (Kept X)} (l : IsSound start) (p : ℕ) {counts : List ℕ} (st : StandsInBlocks (entry_at start) counts p) where
  abbrev list : List ℕ
  list = children_in (entry_at start p)

  pub block-few : (child : ℕ) → parent_in (entry_at start child) ≡ Some p → length list < 2 ^ 32 → count_ahead counts (index_in (entry_at start child)) < 2 ^ 32
  block-few child e h =
      let listed = listed_under l p child e in
      let a = st.fits.since child listed in
      let b = place-there child list listed in
      omega arith

  pub block-end : {child here passed steps : ℕ} → IsAhead start p child here passed steps → parent_in (entry_at start child) ≡ Some p → passed < steps → index_in (entry_at start here) ≡ index_in (entry_at start child) → None ≡ if_in_block (entry_at start) (previous_in (entry_at start) here) (index_in (entry_at start child)) → count_ahead counts (index_in (entry_at start child)) + passed ≡ place_in child list
  block-end {child} {here} {passed} {steps} w ep lt same_block e =
      elim (seen (previous_in (entry_at start) here)) [
        | nothing d ↦
            let z = place-first here list w.listed (sym (before_here l p w) ∙ d) in
            let f = fits-first st.fits here w.listed z in
            let g = ap (count_ahead counts) same_block in
            let a = w.at in
            omega arith
        | just m d ↦
            let n = ahead-next l p w lt m d in
            let e2 : None ≡ if_in_block (entry_at start) (Some m) (index_in (entry_at start child)) = e ∙ ap (λ o. if_in_block (entry_at start) o (index_in (entry_at start child))) d in
            let far = not_in_block (entry_at start) m (index_in (entry_at start child)) e2 in
            let b = n.at in
            let a = w.at in
            let f = fits-start st.fits here m w.listed n.listed (omega arith) (λ q. far (q ∙ same_block)) in
            let g = ap (count_ahead counts) same_block in
            omega arith
      ]

  pub block-order : (a b : ℕ) → parent_in (entry_at start a) ≡ Some p → parent_in (entry_at start b) ≡ Some p → (index_in (entry_at start a) ≡ index_in (entry_at start b) → ⊥) → nat_lt (index_in (entry_at start a)) (index_in (entry_at start b)) ≡ nat_lt (place_in a list) (place_in b list)
  block-order a b ea eb ne = fits-order st.fits a b (listed_under l p a ea) (listed_under l p b eb) ne
