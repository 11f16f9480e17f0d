-- Whether an item has a key, read off the head of its chain.
use Rattle.std.proofs.Common.{◌≡◌, ℕ, true, false, List, Option, Some, None, IfSome, IfNone, is_some, refl, sym, ◌∙◌, arith}
use Rattle.std.proofs.lemmas.Bool.{false≢true}
use Rattle.dom_model.specs.Definitions.{among}
use Rattle.dom_chains.specs.{Keyed.covers, Keyed.key_at, Keyed.keys_of, Chained.head_at, Chained.cover_of, Chained.Links, Chained.HasChains}
use Rattle.dom_chains.proofs.{AfterBeforeLemmas.head-there, AfterBeforeLemmas.has-head, CoversLemmas.head-covers, AllItemsLemmas.keys-one, AllItemsLemmas.keys-none, RechainsLemmas.in-stands, RechainsLemmas.in-chain}

module _ {T : Type 0} (items : List (ℕ × T)) (l : Links) (has : HasChains (key_at items) l) (key : ℕ) where
  pub head-key : (id : ℕ) → head_at l.heads key ≡ Some id → key_at items id ≡ Some key
  head-key id h = in-stands (key_at items) has.chain l has.chained id key (head-there id (has.chain key) (sym (has.chained.first key) ∙ h))

  pub head-none : head_at l.heads key ≡ None → among key (keys_of items) ≡ false
  head-none h =
      keys-none key items (λ id at. has-head id (has.chain key) (omega (arith, in-chain (key_at items) has.chain l has.chained id key at)) (sym (has.chained.first key) ∙ h))

  pub none-head : among key (keys_of items) ≡ false → head_at l.heads key ≡ None
  none-head h = go (head_at l.heads key) refl
    where
      go : (o : Option ℕ) → head_at l.heads key ≡ o → head_at l.heads key ≡ None
      go None q = q
      go (Some id) q = absurd (false≢true (sym h ∙ keys-one key items id (head-key id q)))

  -- a key that an item has is covered
  pub among-covered : among key (keys_of items) ≡ true → covers (cover_of l.heads) key ≡ true
  among-covered h = go (head_at l.heads key) refl
    where
      go : (o : Option ℕ) → head_at l.heads key ≡ o → covers (cover_of l.heads) key ≡ true
      go None q = absurd (false≢true (sym (head-none q) ∙ h))
      go (Some id) q = head-covers l.heads key id q

  -- the head that was read
  pub first-told : (o : Option ℕ) → o ≡ head_at l.heads key → IfSome o (λ id. key_at items id ≡ Some key)
  first-told None q = tt
  first-told (Some id) q = head-key id (sym q)

  pub none-told : (o : Option ℕ) → o ≡ head_at l.heads key → IfNone o (among key (keys_of items) ≡ false)
  none-told None q = head-none (sym q)
  none-told (Some id) q = tt

-- whether there is one, by what was told
pub has-told : {T : Type 0} (items : List (ℕ × T)) (key : ℕ) (o : Option ℕ) → IfSome o (λ id. key_at items id ≡ Some key) → IfNone o (among key (keys_of items) ≡ false) → is_some o ≡ among key (keys_of items)
has-told items key None some none = sym none
has-told items key (Some id) some none = sym (keys-one key items id some)
