-- What a map holds for each parent, as the map changes.
use Rattle.std.proofs.Common.{◌≡◌, ℕ, ◌==◌, Bool, true, false, cond, if◌then◌else◌, List, [], ◌∷◌, Option, Some, None, refl, ap, sym, ◌∙◌, nat_eq}
use Rattle.std.specs.Map.{lookup}
use Rattle.dom_model.proofs.PlainLists.Numbers.{same_or, same, apart}
use Rattle.dom_tree.specs.{declared.tallies.Tally.Tally, Blocks.counts_or_none, Blocks.counts_in, Tallies.tally_in}

-- a way to read what is held for a parent: from what a look-up finds
pub record Reading (A B : Type 0) : Type 0 where
  pub read : List (ℕ × A) → ℕ → B
  pub of : Option A → B
  pub found : (p : ℕ) (es : List (ℕ × A)) → read es p ≡ of (lookup (nat_eq p) es)

-- the blocks of a parent
abbrev pub blocks : Reading (List ℕ) (List ℕ)
blocks = record { read = counts_in; of = counts_or_none; found = found }
  where
    found : (p : ℕ) (es : List (ℕ × List ℕ)) → counts_in es p ≡ counts_or_none (lookup (nat_eq p) es)
    found p [] = refl
    found p (e ∷ es) = go (p == e.0) (found p es)
      where
        go : (v : Bool) → counts_in es p ≡ counts_or_none (lookup (nat_eq p) es) → (if v then e.1 else counts_in es p) ≡ counts_or_none (cond v (Some e.1) (lookup (nat_eq p) es))
        go true i = refl
        go false i = i

-- what is counted for a parent
abbrev pub tallies : Reading Tally (Option Tally)
tallies = record { read = tally_in; of = λ o. o; found = λ p es. refl }

module _ {A B : Type 0} (r : Reading A B) where
  -- the same for a parent is no change
  pub but-same : (table : List (ℕ × A)) (slot : ℕ) (b : B) → b ≡ r.read table slot → (p : ℕ) → r.read table p ≡ (if p == slot then b else r.read table p)
  but-same table slot b e p =
      elim (same_or p slot) [
        | same d t ↦ rw t (ap (r.read table) d ∙ sym e)
        | apart ne t ↦ rw t refl
      ]

  -- what is held for a parent where only that of another changed, and its own
  module _ (new old : List (ℕ × A)) (slot : ℕ) (b : B) (h : (p : ℕ) → r.read new p ≡ (if p == slot then b else r.read old p)) where
    pub but-here : r.read new slot ≡ b
    but-here = h slot ∙ (elim (same_or slot slot) [ same _ t ↦ rw t refl | apart ne t ↦ absurd (ne refl) ])

    pub but-other : (p : ℕ) → (p ≡ slot → ⊥) → r.read new p ≡ r.read old p
    but-other p ne = h p ∙ (elim (same_or p slot) [ same e t ↦ absurd (ne e) | apart _ t ↦ rw t refl ])

  module _ (es : List (ℕ × A)) {table : List (ℕ × A)} (v : es ≡ table) {k slot : ℕ} (ek : k ≡ slot) where
    -- what a look-up found
    pub held-at : (o : Option A) → o ≡ lookup (nat_eq k) es → r.read table slot ≡ r.of o
    held-at o e = ap (λ t. r.read t slot) (sym v) ∙ r.found slot es ∙ ap (λ n. r.of (lookup (nat_eq n) es)) (sym ek) ∙ ap r.of (sym e)

    -- something else for a parent, or nothing
    pub but-changed : (es' : List (ℕ × A)) (w : Option A) → ((q : ℕ) → lookup (nat_eq q) es' ≡ cond (nat_eq k q) w (lookup (nat_eq q) es)) → (b : B) → r.of w ≡ b → (p : ℕ) → r.read es' p ≡ (if p == slot then b else r.read table p)
    but-changed es' w h b ew p =
        r.found p es' ∙ ap r.of (h p) ∙ (elim (same_or p slot) [
          | same e t ↦ rw (t, test p e) ew
          | apart ne t ↦ rw (t, fails p ne) (sym (r.found p es) ∙ ap (λ t. r.read t p) v)
        ])
      where
        test : (p : ℕ) → p ≡ slot → (k == p) ≡ true
        test p e = elim (same_or k p) [ same _ t ↦ t | apart ne t ↦ absurd (ne (ek ∙ sym e)) ]

        fails : (p : ℕ) → (p ≡ slot → ⊥) → (k == p) ≡ false
        fails p ne = elim (same_or k p) [ same e t ↦ absurd (ne (sym e ∙ ek)) | apart _ t ↦ t ]

    -- a parent that is not in the map
    pub but-none : None ≡ lookup (nat_eq k) es → (b : B) → r.of None ≡ b → (p : ℕ) → r.read es p ≡ (if p == slot then b else r.read table p)
    but-none e b eb p = ap (λ t. r.read t p) v ∙ but-same table slot b (sym (held-at None e ∙ eb)) p
