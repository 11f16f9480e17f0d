-- The entries of a store after a link, an unlink, an add or a write.
use Rattle.std.proofs.Common.{◌≡◌, ℕ, ◌+◌, ◌<◌, ◌≤◌, ◌==◌, nat_lt, true, false, if◌then◌else◌, List, [], ◌∷◌, ◌++◌, length, slice_set, Option, Some, None, option_map, IsSome, refl, ap, sym, ◌∙◌, arith, ⊎_elim, length-append}
use Rattle.std.proofs.lemmas.{Bool.cases_lt, Bool.le-ltb, Bool.false≢true, List.get_or-set_same, List.get_or-set_other, List.get_or_past, List.length-set, List.get_or_append_left}
use Rattle.std.proofs.Math.Seq.{get_or-append_seam}
use Rattle.dom_model.specs.Definitions.{hits, entered, left_out, Arena, Entry, entry_at, held, names, parent_in, children_in, with_parent, with_children, altered, linked, unlinked, added, added_from, taken, next_slot, next_from, alone, IsLinked}
use Rattle.dom_model.specs.Forests.Arena.{IsSound}
use Rattle.dom_model.proofs.PlainLists.Numbers.{same_or, same, apart}
use Rattle.dom_model.proofs.Forests.{Changes.seen, Changes.nothing, Changes.just, Changes.cut_at, Changes.link_at, Lying.left_out-absent}

module _ {T : Type 0} where
  pub altered-at : (f : Entry T → Entry T) (a : Arena T) (n k : ℕ) → entry_at (altered f a n) k ≡ (if k == n then option_map f (entry_at a k) else entry_at a k)
  altered-at f a n k =
      elim (same_or k n) [
        | same e t ↦
            rw (t, e) (⊎_elim
            (λ (lt : n < length a.slots). get_or-set_same a.slots n (option_map f (entry_at a n)) None lt)
            (λ (le : length a.slots ≤ n).
            let past : entry_at a n ≡ None = get_or_past a.slots n None le in
            let gone = get_or_past (slice_set a.slots n (option_map f (entry_at a n))) n None (rw (length-set a.slots n (option_map f (entry_at a n))) le) in
            gone ∙ sym (ap (option_map f) past))
            (cases_lt n (length a.slots)))
        | apart ne t ↦ rw t (get_or-set_other a.slots n k (option_map f (entry_at a n)) None ne)
      ]

  pub linked-at : (a : Arena T) (p c : ℕ) (b : Option ℕ) (k : ℕ) → entry_at (linked a p c b) k ≡ link_at p b c k (entry_at a k)
  linked-at a p c b k =
      altered-at (λ (e : Entry T). with_children (entered b c e.children) e) (altered (with_parent (Some p)) a c) p k
      ∙ ap (λ (o : Option (Entry T)). if k == p then option_map (λ (e : Entry T). with_children (entered b c e.children) e) o else o) (altered-at (with_parent (Some p)) a c k)
      ∙ both (entry_at a k)
    where
      both : (o : Option (Entry T)) → (if k == p then option_map (λ (e : Entry T). with_children (entered b c e.children) e) (if k == c then option_map (with_parent (Some p)) o else o) else (if k == c then option_map (with_parent (Some p)) o else o)) ≡ link_at p b c k o
      both o =
          elim (same_or k p) [
            | same e t ↦ rw t (inner o)
            | apart ne t ↦ rw t (plain o)
          ]
        where
          inner : (o : Option (Entry T)) → option_map (λ (e : Entry T). with_children (entered b c e.children) e) (if k == c then option_map (with_parent (Some p)) o else o) ≡ option_map (λ (e : Entry T). record { value = e.value; parent = if k == c then Some p else e.parent; children = entered b c e.children }) o
          inner None = elim (k == c) as (λ v. option_map (λ (e : Entry T). with_children (entered b c e.children) e) (if◌then◌else◌ {A = Option (Entry T)} v None None) ≡ None) [ true ↦ refl | false ↦ refl ]
          inner (Some d) = elim (k == c) as (λ v. option_map (λ (e : Entry T). with_children (entered b c e.children) e) (if v then Some (with_parent (Some p) d) else Some d) ≡ Some (record { value = d.value; parent = if v then Some p else d.parent; children = entered b c d.children })) [ true ↦ refl | false ↦ refl ]

          plain : (o : Option (Entry T)) → (if k == c then option_map (with_parent (Some p)) o else o) ≡ option_map (λ (e : Entry T). record { value = e.value; parent = if k == c then Some p else e.parent; children = e.children }) o
          plain None = elim (k == c) as (λ v. (if◌then◌else◌ {A = Option (Entry T)} v None None) ≡ None) [ true ↦ refl | false ↦ refl ]
          plain (Some d) = elim (k == c) as (λ v. (if v then Some (with_parent (Some p) d) else Some d) ≡ Some (record { value = d.value; parent = if v then Some p else d.parent; children = d.children })) [ true ↦ refl | false ↦ refl ]

  pub unlinked-at : (a : Arena T) (c : ℕ) → IsLinked (entry_at a) → IsSome (parent_in (entry_at a c)) → (k : ℕ) → entry_at (unlinked a c) k ≡ cut_at c k (entry_at a k)
  unlinked-at a c l i k =
      elim (seen (parent_in (entry_at a c))) [
        | nothing e ↦ absurd (let j = rw e at i in false≢true j)
        | just p e ↦
            rw e (altered-at (λ (d : Entry T). with_children (left_out c d.children) d) (altered (with_parent None) a c) p k
            ∙ ap (λ (o : Option (Entry T)). if k == p then option_map (λ (d : Entry T). with_children (left_out c d.children) d) o else o) (altered-at (with_parent None) a c k)
            ∙ both p (entry_at a k) (λ ne. l k c ∙ ap (λ q. names q k) e ∙ other p ne))
      ]
    where
      other : (p : ℕ) → (k ≡ p → ⊥) → names (Some p) k ≡ 0
      other p ne = elim (same_or p k) [ same e t ↦ absurd (ne (sym e)) | apart _ t ↦ rw t refl ]

      both : (p : ℕ) (o : Option (Entry T)) → ((k ≡ p → ⊥) → hits c (children_in o) ≡ 0) → (if k == p then option_map (λ (d : Entry T). with_children (left_out c d.children) d) (if k == c then option_map (with_parent None) o else o) else (if k == c then option_map (with_parent None) o else o)) ≡ cut_at c k o
      both p o z =
          elim (same_or k p) [
            | same e t ↦ rw t (inner o)
            | apart ne t ↦ rw t (plain o (z ne))
          ]
        where
          inner : (o : Option (Entry T)) → option_map (λ (d : Entry T). with_children (left_out c d.children) d) (if k == c then option_map (with_parent None) o else o) ≡ cut_at c k o
          inner None = elim (k == c) as (λ v. option_map (λ (d : Entry T). with_children (left_out c d.children) d) (if◌then◌else◌ {A = Option (Entry T)} v None None) ≡ None) [ true ↦ refl | false ↦ refl ]
          inner (Some d) = elim (k == c) as (λ v. option_map (λ (d : Entry T). with_children (left_out c d.children) d) (if v then Some (with_parent None d) else Some d) ≡ Some (record { value = d.value; parent = if v then None else d.parent; children = left_out c d.children })) [ true ↦ refl | false ↦ refl ]

          plain : (o : Option (Entry T)) → hits c (children_in o) ≡ 0 → (if k == c then option_map (with_parent None) o else o) ≡ cut_at c k o
          plain None h = elim (k == c) as (λ v. (if◌then◌else◌ {A = Option (Entry T)} v None None) ≡ None) [ true ↦ refl | false ↦ refl ]
          plain (Some d) h = rw (left_out-absent c d.children h) (elim (k == c) as (λ v. (if v then Some (with_parent None d) else Some d) ≡ Some (record { value = d.value; parent = if v then None else d.parent; children = d.children })) [ true ↦ refl | false ↦ refl ])

  pub added-new : (a : Arena T) (v : T) → IsSound a → entry_at (added a v) (next_slot a) ≡ Some (alone v)
  added-new a v s = new a.free (λ n. s.freed n)
    where
      new : (free : List ℕ) → ((n : ℕ) → hits n free + held (entry_at a n) ≡ (if nat_lt n (length a.slots) then 1 else 0)) → entry_at (added_from free a.slots v) (next_from free (length a.slots)) ≡ Some (alone v)
      new [] f = get_or-append_seam a.slots (Some (alone v)) [] None
      new (i ∷ rest) f = get_or-set_same a.slots i (Some (alone v)) None (within (f i))
        where
          within : hits i (i ∷ rest) + held (entry_at a i) ≡ (if nat_lt i (length a.slots) then 1 else 0) → i < length a.slots
          within h =
              ⊎_elim (λ (lt : i < length a.slots). lt) (λ (le : length a.slots ≤ i). absurd (let t = le-ltb i (length a.slots) le in let h2 = rw t at h in once h2)) (cases_lt i (length a.slots))
            where
              once : hits i (i ∷ rest) + held (entry_at a i) ≡ 0 → ⊥
              once z = elim (same_or i i) [ same e t ↦ (let y = rw t at z in omega arith) | apart ne t ↦ ne refl ]

  pub added-old : (a : Arena T) (v : T) (k : ℕ) → (k ≡ next_slot a → ⊥) → entry_at (added a v) k ≡ entry_at a k
  added-old a v k ne = old a.free ne
    where
      old : (free : List ℕ) → (k ≡ next_from free (length a.slots) → ⊥) → entry_at (added_from free a.slots v) k ≡ entry_at a k
      old [] ne =
          ⊎_elim
          (λ (lt : k < length a.slots). get_or_append_left a.slots (Some (alone v) ∷ []) None k lt)
          (λ (le : length a.slots ≤ k).
          let past : entry_at a k ≡ None = get_or_past a.slots k None le in
          get_or_past (a.slots ++ Some (alone v) ∷ []) k None (omega (arith, length-append a.slots (Some (alone v) ∷ []))) ∙ sym past)
          (cases_lt k (length a.slots))
      old (i ∷ rest) ne = get_or-set_other a.slots i k (Some (alone v)) None ne

  pub taken-at : (a : Arena T) (n k : ℕ) → entry_at (taken a n) k ≡ (if k == n then None else entry_at a k)
  taken-at a n k =
      elim (same_or k n) [
        | same e t ↦
            rw (t, e) (⊎_elim
            (λ (lt : n < length a.slots). get_or-set_same a.slots n None None lt)
            (λ (le : length a.slots ≤ n). get_or_past (slice_set a.slots n None) n None (rw (length-set a.slots n None) le))
            (cases_lt n (length a.slots)))
        | apart ne t ↦ rw t (get_or-set_other a.slots n k None None ne)
      ]

  pub taken-here : (a : Arena T) (n : ℕ) → entry_at (taken a n) n ≡ None
  taken-here a n = taken-at a n n ∙ (elim (same_or n n) [ same _ t ↦ rw t refl | apart ne t ↦ absurd (ne refl) ])

  pub taken-other : (a : Arena T) (n k : ℕ) → (k ≡ n → ⊥) → entry_at (taken a n) k ≡ entry_at a k
  taken-other a n k ne = taken-at a n k ∙ (elim (same_or k n) [ same e t ↦ absurd (ne e) | apart _ t ↦ rw t refl ])
