-- The nodes that are held stay covered.
use Rattle.std.proofs.Common.{◌≡◌, ℕ, ◌+◌, ◌≤◌, ◌<◌, Bool, true, false, List, [], ◌∷◌, length, set, refl, sym, ap, ◌∙◌, ⊎_elim, arith, length-set, get_or-set_other}
use Rattle.std.proofs.lemmas.Bool.{cases_lt, cases_eq}
use Rattle.dom_model.specs.Definitions.{hits, Grove, HasNode, occurs, IsForest, Content}
use Rattle.dom_model.proofs.PlainLists.Heads.{hits-rest}
use Rattle.dom_model.proofs.Forests.{Entries.occurs-HasNode, Entries.HasNode-occurs, Listed.hits-itself}
use Rattle.dom_ranges.specs.Tables.{covers, covered_to, uncovered}
use Rattle.dom_ranges.proofs.CoversLemmas.{covers-to, covers-new, covered_to-length}
use Rattle.dom_edit.specs.Whole.{CoversHeld}

-- no node comes in, and as many nodes were made
pub covered-kept : (g h : Grove Content) (covered : List Bool) → ((n : ℕ) → occurs n h.forest ≤ occurs n g.forest) → h.made ≡ g.made → CoversHeld g covered → CoversHeld h covered
covered-kept g h covered fewer made k = record {
  held = λ n there. k.held n (HasNode-occurs g.forest n (omega (arith, fewer n, occurs-HasNode h.forest n there)));
  ahead = λ n l. k.ahead n (omega arith);
}

-- more nodes are covered
pub covered-more : (g : Grove Content) (covered : List Bool) (made : ℕ) → CoversHeld g covered → CoversHeld g (covered_to made covered)
covered-more g covered made k = record {
  held = λ n there. covers-to made covered n (k.held n there);
  ahead = λ n l w.
      ⊎_elim (λ (a : n < length covered). covers-to made covered n (k.ahead n l a))
      (λ (past : length covered ≤ n). covers-new made covered n past (new n past w)) (cases_lt n (length covered));
}
  where
    new : (n : ℕ) → length covered ≤ n → n < length (covered_to made covered) → n < made
    new n past w = let z = covered_to-length made covered in ⊎_elim (λ (lt : n < made). lt) (λ (le : made ≤ n). absurd (omega arith)) (cases_lt n made)

-- the next node is covered, and made
pub covered-made : (g h : Grove Content) (covered : List Bool) (made : ℕ) → ((n : ℕ) → n < g.made → occurs n h.forest ≤ occurs n g.forest) → ((n : ℕ) → h.made ≤ n → occurs n h.forest ≡ 0) → made ≡ g.made + 1 → h.made ≡ g.made + 1
    → CoversHeld g covered → CoversHeld h (covered_to made covered)
covered-made g h covered made old none count next k = record {
  held = held;
  ahead = λ n l. more.ahead n (omega arith);
}
  where
    more : CoversHeld g (covered_to made covered)
    more = covered-more g covered made k

    held : (n : ℕ) → HasNode h.forest n → covers (covered_to made covered) n ≡ true
    held n there =
        let o = occurs-HasNode h.forest n there in
        ⊎_elim (λ (before : n < g.made). more.held n (HasNode-occurs g.forest n (omega (arith, old n before))))
        (λ (le : g.made ≤ n).
        let q : n < made = ⊎_elim (λ (lt : n < h.made). omega arith) (λ (past : h.made ≤ n). absurd (omega (arith, none n past))) (cases_lt n h.made) in
        ⊎_elim (λ (a : n < length covered). covers-to made covered n (k.ahead n le a)) (λ (past : length covered ≤ n). covers-new made covered n past q) (cases_lt n (length covered)))
        (cases_lt n g.made)

-- nodes that are not among those that were forgotten are covered as before
pub uncovered-other : (ns : List ℕ) (covered : List Bool) (n : ℕ) → hits n ns ≡ 0 → covers (uncovered ns covered) n ≡ covers covered n
uncovered-other [] covered n h = refl
uncovered-other (m ∷ ns) covered n h =
    ⊎_elim (λ (q : n ≡ m). let a : 1 + hits n ns ≡ 0 = sym (hits-itself n ns) ∙ ap (λ y. hits n (y ∷ ns)) q ∙ h in absurd (omega arith))
    (λ (d : n ≡ m → ⊥). uncovered-other ns (set covered m false) n (sym (hits-rest n m ns d) ∙ h) ∙ get_or-set_other covered m n false false d) (cases_eq n m)

pub uncovered-length : (ns : List ℕ) (covered : List Bool) → length (uncovered ns covered) ≡ length covered
uncovered-length [] covered = refl
uncovered-length (m ∷ ns) covered = uncovered-length ns (set covered m false) ∙ length-set covered m false

-- nodes go, and are forgotten
pub covered-left : (g h : Grove Content) (covered : List Bool) (ns : List ℕ) → IsForest g → ((n : ℕ) → occurs n h.forest + hits n ns ≤ occurs n g.forest) → h.made ≡ g.made → CoversHeld g covered → CoversHeld h (uncovered ns covered)
covered-left g h covered ns s parted made k = record {
  held = λ n there.
      let o = occurs-HasNode h.forest n there in
      uncovered-other ns covered n (omega (arith, parted n, s.once n)) ∙ k.held n (HasNode-occurs g.forest n (omega (arith, parted n)));
  ahead = λ n l w.
      uncovered-other ns covered n (omega (arith, parted n, s.small n (omega arith))) ∙ k.ahead n (omega arith) (omega (arith, uncovered-length ns covered));
}
