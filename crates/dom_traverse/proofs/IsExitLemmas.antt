-- An iterator with its reference inside a node that goes steps off to where the exits of its root lead.
use Rattle.std.proofs.Common.{◌≡◌, ℕ, ◌==◌, Bool, true, false, not, ◌&&◌, if◌then◌else◌, List, refl, sym, ap, ◌∙◌, subst}
use Rattle.std.proofs.lemmas.Bool.{and_parts}
use Rattle.dom_model.specs.Definitions.{among, head_of, before, Forest, ancestors, inclusive_descendants, Iterator, following_outside, moved_on, moved_back, stepped_off, pre_removed_among, pre_removed}
use Rattle.dom_model.proofs.Forests.Totals.{IsOnce}
use Rattle.dom_traverse.specs.{declared.new_reference.NewReference.NewReference, NewReferences.IsExit, NewReferences.gone_by}
use Rattle.dom_traverse.proofs.DescendantLemmas.{among-inside}

module _ {X : Type 0} (f : Forest X) where
  -- a root that loses a node stands over it
  pub lost-under : IsOnce f → (n root : ℕ) → (not (n == root) && among n (inclusive_descendants f root)) ≡ true → among root (ancestors n f) ≡ true
  lost-under o n root h =
      sym (among-inside f o n root) ∙ (and_parts (not (n == root)) (among n (inclusive_descendants f root)) h).1

  module _ (n : ℕ) (e : NewReference) (x : IsExit f n e) (i : Iterator) (root : e.root ≡ i.root) (inside : among i.reference (inclusive_descendants f n) ≡ true) where
    abbrev here : List ℕ
    here = inclusive_descendants f n

    abbrev all : List ℕ
    all = inclusive_descendants f i.root

    lost : (t : Bool) → e.loses ≡ t → (among i.reference here && (not (n == i.root) && among n all)) ≡ t
    lost t h =
        let told : e.loses ≡ (not (n == i.root) && among n all) = subst (λ r. e.loses ≡ (not (n == r) && among n (inclusive_descendants f r))) root x.loses in
        ap (λ b. b && (not (n == i.root) && among n all)) inside ∙ sym told ∙ h

    pub goes : gone_by e i ≡ pre_removed f n i
    goes = by_test e.loses refl
      where
        by_test : (t : Bool) → e.loses ≡ t → (if t then (if i.before then moved_on e.following e.preceding i else moved_back e.preceding i) else i) ≡ pre_removed f n i
        by_test true h =
            let both = lost true h in
            let on : e.following ≡ head_of (following_outside n here all) = x.following h ∙ ap (λ r. head_of (following_outside n here (inclusive_descendants f r))) root in
            let back : e.preceding ≡ before n all = x.preceding h ∙ ap (λ r. before n (inclusive_descendants f r)) root in
            let there : pre_removed_among n here all i ≡ stepped_off n here all i = rw both refl in
            ap (λ m. if i.before then moved_on m e.preceding i else moved_back e.preceding i) on
            ∙ ap (λ p. if i.before then moved_on (head_of (following_outside n here all)) p i else moved_back p i) back
            ∙ sym there
        by_test false h =
            let both = lost false h in
            let there : pre_removed_among n here all i ≡ i = rw both refl in
            sym there
