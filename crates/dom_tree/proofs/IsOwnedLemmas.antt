-- How the counts of node documents stay right over the steps of a tree.
use Rattle.std.proofs.Common.{◌≡◌, ℕ, suc, ◌+◌, ◌<◌, ◌≤◌, Option, Some, None, IsSome, refl, ap, sym, ◌∙◌, subst, arith}
use Rattle.std.proofs.lemmas.Bool.{false≢true}
use Rattle.dom_model.specs.Definitions.{names}
use Rattle.dom_model.proofs.PlainLists.Numbers.{same_or, same, apart}
use Rattle.dom_tree.specs.NodeDocuments.{having, AreDocumentsCounted}
use Rattle.dom_tree.proofs.SumLemmas.{below-none, below-few, below-part, below-past, below-but}
use Rattle.dom_links.proofs.UnlinkLemmas.{names-le}

pub names-is : (o : Option ℕ) (d : ℕ) → o ≡ Some d → names o d ≡ 1
names-is o d e = rw e (elim (same_or d d) [ same _ t ↦ rw t refl | apart ne _ ↦ absurd (ne refl) ])

pub names-not : (o : Option ℕ) (d : ℕ) → (o ≡ Some d → ⊥) → names o d ≡ 0
names-not None d ne = refl
names-not (Some n) d ne = elim (same_or n d) [ same e _ ↦ absurd (ne (ap Some e)) | apart _ t ↦ rw t refl ]

pub having-few : (document : ℕ → Option ℕ) (d made : ℕ) → having document d made ≤ made
having-few document d made = below-few (λ n. names (document n) d) made (λ n. names-le (document n) d)

pub having-some : (document : ℕ → Option ℕ) (n d made : ℕ) → document n ≡ Some d → n < made → 0 < having document d made
having-some document n d made e lt = omega (arith, below-part (λ m. names (document m) d) made n lt, names-is (document n) d e)

-- nothing is in a document that no node is
pub having-none : (document : ℕ → Option ℕ) (d made : ℕ) → ((n : ℕ) → document n ≡ Some d → ⊥) → having document d made ≡ 0
having-none document d made h = below-none (λ n. names (document n) d) made (λ n. names-not (document n) d (h n))

-- one number's node document changes
module _ (document other : ℕ → Option ℕ) (n : ℕ) (others : (m : ℕ) → (m ≡ n → ⊥) → other m ≡ document m) where
  pub having-past : (d made : ℕ) → made ≤ n → having other d made ≡ having document d made
  having-past d made h = below-past (λ m. names (other m) d) (λ m. names (document m) d) n (λ m ne. ap (λ o. names o d) (others m ne)) made h

  pub having-but : (d made : ℕ) → n < made → having other d made + names (document n) d ≡ having document d made + names (other n) d
  having-but d made h = below-but (λ m. names (other m) d) (λ m. names (document m) d) n (λ m ne. ap (λ o. names o d) (others m ne)) made h

none-some : (o : Option ℕ) → o ≡ None → IsSome o → ⊥
none-some o e h = let k = rw e at h in false≢true k

-- the node documents and the counts are the same
pub owned-same : (document other : ℕ → Option ℕ) (slot_of : ℕ → Option ℕ) (owned counts : ℕ → ℕ) (made : ℕ) → ((n : ℕ) → other n ≡ document n) → ((n s : ℕ) → slot_of n ≡ Some s → counts s ≡ owned s) → AreDocumentsCounted document slot_of owned made → AreDocumentsCounted other slot_of counts made
owned-same document other slot_of owned counts made same_document same_count w =
    subst (λ (f : ℕ → Option ℕ). AreDocumentsCounted f slot_of counts made) (λ i n. sym (same_document n) i) (record { there = w.there; right = λ n s e. same_count n s e ∙ w.right n s e })

-- one more node, in itself
pub owned-made : (document other slot_of places : ℕ → Option ℕ) (owned counts : ℕ → ℕ) (made slot : ℕ) → document made ≡ None → other made ≡ Some made → ((m : ℕ) → (m ≡ made → ⊥) → other m ≡ document m) → places made ≡ Some slot → ((m : ℕ) → (m ≡ made → ⊥) → places m ≡ slot_of m) → counts slot ≡ 1 → ((m s : ℕ) → slot_of m ≡ Some s → counts s ≡ owned s) → AreDocumentsCounted document slot_of owned made → AreDocumentsCounted other places counts (suc made)
owned-made document other slot_of places owned counts made slot gone new others placed old one same_count w =
    record { there = there; right = right }
  where
    there : (n d : ℕ) → other n ≡ Some d → IsSome (other d)
    there n d e =
        elim (same_or n made) [
          | same q _ ↦ (let z : Some made ≡ Some d = sym new ∙ ap other (sym q) ∙ e in let y : made ≡ d = cc z in subst (λ m. IsSome (other m)) y (rw new refl))
          | apart ne _ ↦
              let h = w.there n d (sym (others n ne) ∙ e) in
              let far : d ≡ made → ⊥ = λ q. none-some (document d) (ap document q ∙ gone) h in
              rw (others d far) h
        ]

    before : (d : ℕ) → having other d made ≡ having document d made
    before d = having-past document other made others d made (omega arith)

    first : having document made made ≡ 0
    first = having-none document made made (λ n e. none-some (document made) gone (w.there n made e))

    right : (n s : ℕ) → places n ≡ Some s → counts s ≡ having other n (suc made)
    right n s e =
        elim (same_or n made) [
          | same q _ ↦
              let z : Some slot ≡ Some s = sym placed ∙ ap places (sym q) ∙ e in
              let y : slot ≡ s = cc z in
              let a : having document n made ≡ 0 = ap (λ d. having document d made) q ∙ first in
              let b : names (other made) n ≡ 1 = names-is (other made) n (new ∙ ap Some (sym q)) in
              let c : counts s ≡ 1 = ap counts (sym y) ∙ one in
              omega (arith, a, b, c, before n)
          | apart ne _ ↦
              let i = sym (old n ne) ∙ e in
              let b : names (other made) n ≡ 0 = names-not (other made) n (λ z. ne (let y : Some made ≡ Some n = sym new ∙ z in let q : made ≡ n = cc y in sym q)) in
              omega (arith, b, before n, same_count n s i, w.right n s i)
        ]

-- a node goes from one document to another
pub owned-moved : (document other slot_of : ℕ → Option ℕ) (owned counts : ℕ → ℕ) (made n former d : ℕ) → n < made → document n ≡ Some former → other n ≡ Some d → ((m : ℕ) → (m ≡ n → ⊥) → other m ≡ document m) → IsSome (document d) → ((m s : ℕ) → slot_of m ≡ Some s → counts s + names (Some former) m ≡ owned s + names (Some d) m) → AreDocumentsCounted document slot_of owned made → AreDocumentsCounted other slot_of counts made
owned-moved document other slot_of owned counts made n former d lt was new others held count w =
    record { there = there; right = right }
  where
    stays : (m : ℕ) → IsSome (document m) → IsSome (other m)
    stays m h =
        elim (same_or m n) [
          | same q _ ↦ (let e = ap other q ∙ new in rw e refl)
          | apart ne _ ↦ rw (others m ne) h
        ]

    there : (m c : ℕ) → other m ≡ Some c → IsSome (other c)
    there m c e =
        elim (same_or m n) [
          | same q _ ↦ (let z : Some d ≡ Some c = sym new ∙ ap other (sym q) ∙ e in let y : d ≡ c = cc z in stays c (subst (λ k. IsSome (document k)) y held))
          | apart ne _ ↦ stays c (w.there m c (sym (others m ne) ∙ e))
        ]

    right : (m s : ℕ) → slot_of m ≡ Some s → counts s ≡ having other m made
    right m s e =
        let a = having-but document other n others m made lt in
        let b = ap (λ o. names o m) was in
        let c = ap (λ o. names o m) new in
        omega (arith, a, b, c, count m s e, w.right m s e)

-- a node that nothing else has as its node document goes
pub owned-taken : (document other slot_of places : ℕ → Option ℕ) (owned counts : ℕ → ℕ) (made n slot : ℕ) → ((m d : ℕ) → document m ≡ Some d → m < made) → slot_of n ≡ Some slot → document n ≡ Some n → owned slot ≡ 1 → other n ≡ None → ((m : ℕ) → (m ≡ n → ⊥) → other m ≡ document m) → places n ≡ None → ((m : ℕ) → (m ≡ n → ⊥) → places m ≡ slot_of m) → ((m s : ℕ) → (m ≡ n → ⊥) → slot_of m ≡ Some s → counts s ≡ owned s) → AreDocumentsCounted document slot_of owned made → AreDocumentsCounted other places counts made
owned-taken document other slot_of places owned counts made n slot small placed itself one gone others emptied old same_count w =
    record { there = there; right = right }
  where
    apart_from : (m : ℕ) → IsSome (other m) → m ≡ n → ⊥
    apart_from m h q = none-some (other m) (ap other q ∙ gone) h

    less : (d : ℕ) → having other d made + names (document n) d ≡ having document d made + names (other n) d
    less d = having-but document other n others d made (small n n itself)

    none : having other n made ≡ 0
    none = omega (arith, less n, names-is (document n) n itself, ap (λ o. names o n) gone, w.right n slot placed, one)

    there : (m d : ℕ) → other m ≡ Some d → IsSome (other d)
    there m d e =
        let ne = apart_from m (rw e refl) in
        let i = sym (others m ne) ∙ e in
        let far : d ≡ n → ⊥ = λ q. (let h = having-some other m d made e (small m d i) in omega (arith, h, ap (λ k. having other k made) q, none)) in
        rw (others d far) (w.there m d i)

    right : (m s : ℕ) → places m ≡ Some s → counts s ≡ having other m made
    right m s e =
        let ne : m ≡ n → ⊥ = λ q. (let z : None ≡ Some s = sym emptied ∙ ap places (sym q) ∙ e in cc z) in
        let i = sym (old m ne) ∙ e in
        let a = names-not (document n) m (λ z. ne (let y : Some n ≡ Some m = sym itself ∙ z in let q : n ≡ m = cc y in sym q)) in
        omega (arith, less m, a, ap (λ o. names o m) gone, same_count m s ne i, w.right m s i)
