-- What a change of the store leaves of the counts of node documents in its slots.
use Rattle.std.proofs.Common.{◌≡◌, ℕ, ◌+◌, ◌-◌, ◌<◌, ◌==◌, true, false, if◌then◌else◌, Option, Some, None, option_map, IsSome, refl, ap, ◌∙◌, arith}
use Rattle.std.proofs.lemmas.Bool.{false≢true}
use Rattle.dom_model.specs.Definitions.{entered, left_out, Arena, Entry, entry_at, parent_in, with_value, with_parent, with_children, altered, linked, unlinked, unlinked_from, IsHeld, one_at}
use Rattle.dom_model.proofs.PlainLists.Numbers.{same_or, same, apart}
use Rattle.dom_tree.specs.{Slots.Kept, Slots.with_index, Slots.with_sure, Slots.with_owned, Slots.with_document, Slots.owned_in, Slots.indexed, Slots.assured, Slots.owning, Slots.one_more, Slots.one_less, Slots.homed, CachedIndices.index_put, CachedIndices.sure_put, CachedIndices.reach_put, CachedIndices.numbered_put, CachedIndices.numbered_cut, CachedIndices.numbered_cut_from}
use Rattle.dom_tree.proofs.StoreEntryLemmas.{altered-at}

module _ {X : Type 0} where
  pub altered-owned : (f : Entry (Kept X) → Entry (Kept X)) → ((e : Entry (Kept X)) → (f e).value.owned ≡ e.value.owned) → (a : Arena (Kept X)) (n s : ℕ) → owned_in (entry_at (altered f a n) s) ≡ owned_in (entry_at a s)
  altered-owned f h a n s =
      ap owned_in (altered-at f a n s) ∙ (elim (s == n) as (λ v. owned_in (if v then option_map f (entry_at a s) else entry_at a s) ≡ owned_in (entry_at a s)) [ true ↦ each (entry_at a s) | false ↦ refl ])
    where
      each : (o : Option (Entry (Kept X))) → owned_in (option_map f o) ≡ owned_in o
      each None = refl
      each (Some e) = h e

  pub indexed-owned : (a : Arena (Kept X)) (n i s : ℕ) → owned_in (entry_at (indexed a n i) s) ≡ owned_in (entry_at a s)
  indexed-owned a n i s = altered-owned (λ (e : Entry (Kept X)). with_value (with_index i e.value) e) (λ e. refl) a n s

  pub assured-owned : (a : Arena (Kept X)) (n c r s : ℕ) → owned_in (entry_at (assured a n c r) s) ≡ owned_in (entry_at a s)
  assured-owned a n c r s = altered-owned (λ (e : Entry (Kept X)). with_value (with_sure c r e.value) e) (λ e. refl) a n s

  pub homed-owned : (a : Arena (Kept X)) (n d s : ℕ) → owned_in (entry_at (homed a n d) s) ≡ owned_in (entry_at a s)
  homed-owned a n d s = altered-owned (λ (e : Entry (Kept X)). with_value (with_document d e.value) e) (λ e. refl) a n s

  pub linked-owned : (a : Arena (Kept X)) (p c : ℕ) (b : Option ℕ) (s : ℕ) → owned_in (entry_at (linked a p c b) s) ≡ owned_in (entry_at a s)
  linked-owned a p c b s =
      altered-owned (λ (e : Entry (Kept X)). with_children (entered b c e.children) e) (λ e. refl) (altered (with_parent (Some p)) a c) p s
      ∙ altered-owned (with_parent (Some p)) (λ e. refl) a c s

  pub unlinked-owned : (a : Arena (Kept X)) (c s : ℕ) → owned_in (entry_at (unlinked a c) s) ≡ owned_in (entry_at a s)
  unlinked-owned a c s = go (parent_in (entry_at a c))
    where
      go : (o : Option ℕ) → owned_in (entry_at (unlinked_from o a c) s) ≡ owned_in (entry_at a s)
      go None = refl
      go (Some p) =
          altered-owned (λ (e : Entry (Kept X)). with_children (left_out c e.children) e) (λ e. refl) (altered (with_parent None) a c) p s
          ∙ altered-owned (with_parent None) (λ e. refl) a c s

  pub put-owned : (a : Arena (Kept X)) (p c : ℕ) (b : Option ℕ) (s : ℕ) → owned_in (entry_at (numbered_put a p c b) s) ≡ owned_in (entry_at a s)
  put-owned a p c b s =
      assured-owned (indexed a c (index_put (entry_at a) p b)) p (sure_put (entry_at a) p b (index_put (entry_at a) p b)) (reach_put (entry_at a) p b) s
      ∙ indexed-owned a c (index_put (entry_at a) p b) s

  pub cut-owned : (a : Arena (Kept X)) (c s : ℕ) → owned_in (entry_at (numbered_cut a c) s) ≡ owned_in (entry_at a s)
  cut-owned a c s = go (parent_in (entry_at a c))
    where
      go : (o : Option ℕ) → owned_in (entry_at (numbered_cut_from o a c) s) ≡ owned_in (entry_at a s)
      go None = refl
      go (Some p) = assured-owned a p _ _ s

  -- a slot's count is the one that was set; the other slots have theirs
  owning-at : (a : Arena (Kept X)) (n c s : ℕ) → IsHeld a n → owned_in (entry_at (owning a n c) s) ≡ (if s == n then c else owned_in (entry_at a s))
  owning-at a n c s h =
      ap owned_in (altered-at (λ (e : Entry (Kept X)). with_value (with_owned c e.value) e) a n s)
      ∙ (elim (same_or s n) [
        | same e t ↦ rw (t, e) (set (entry_at a n) h)
        | apart ne t ↦ rw t refl
      ])
    where
      set : (o : Option (Entry (Kept X))) → IsSome o → owned_in (option_map (λ (e : Entry (Kept X)). with_value (with_owned c e.value) e) o) ≡ c
      set None i = absurd (false≢true i)
      set (Some e) i = refl

  pub more-at : (a : Arena (Kept X)) (n s : ℕ) → IsHeld a n → owned_in (entry_at (one_more a n) s) ≡ owned_in (entry_at a s) + one_at n s
  more-at a n s h =
      owning-at a n (owned_in (entry_at a n) + 1) s h
      ∙ (elim (same_or s n) [
        | same e t ↦ rw (t, e) refl
        | apart ne t ↦ rw t (omega arith)
      ])

  pub less-at : (a : Arena (Kept X)) (n s : ℕ) → IsHeld a n → 0 < owned_in (entry_at a n) → owned_in (entry_at (one_less a n) s) + one_at n s ≡ owned_in (entry_at a s)
  less-at a n s h some =
      ap (λ m. m + one_at n s) (owning-at a n (owned_in (entry_at a n) - 1) s h)
      ∙ (elim (same_or s n) [
        | same e t ↦ rw (t, e) (omega (arith, some))
        | apart ne t ↦ rw t (omega arith)
      ])
