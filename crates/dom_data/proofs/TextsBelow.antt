-- The Texts below a node, in tree order.
use Rattle.std.proofs.Common.{◌≡◌, ℕ, ◌<◌, Bool, true, false, if◌then◌else◌, List, [], ◌∷◌, ◌++◌, drop, length, filter, Some, None, refl, ap, sym, ◌∙◌, append_assoc, append-nil, cond, arith}
use Rattle.dom_model.specs.declared.Kind.TheVariants.{Text}
use Rattle.dom_model.specs.Definitions.{hits, after, from_first, Forest, Grove, IsForest, HasNode, inclusive_descendants, Content, is_of_kind}
use Rattle.dom_model.proofs.Forests.TreeOrder.InsideWalks.{IsAt, from-top, at-top, at-next, here-inside, rest-next, rest-end}
use Rattle.dom_model.proofs.PlainLists.Numbers.{same_or, same, apart}
use Rattle.dom_data.specs.TextsAlone.{alone, texts_among}

-- the walk has come to a node, and the list has the Texts up to it
pub record IsCollecting (g : Grove Content) (top here : ℕ) (text : List ℕ) : Type 0 where
  pub at : IsAt g.forest top here
  pub told : texts_among g.forest (drop 1 (inclusive_descendants g.forest top)) ≡ text ++ texts_among g.forest (drop 1 (from_first here (inclusive_descendants g.forest top)))

module _ (g : Grove Content) (s : IsForest g) (top : ℕ) where
  pub collecting-top : HasNode g.forest top → (text : List ℕ) → text ≡ [] → IsCollecting g top top text
  collecting-top h text e = record {
    at = at-top g s top h;
    told = ap (λ ns. texts_among g.forest (drop 1 ns)) (sym (from-top g s top h)) ∙ ap (λ units. units ++ texts_among g.forest (drop 1 (from_first top (inclusive_descendants g.forest top)))) (sym e);
  }

  first-of : (m : ℕ) (ns : List ℕ) → 0 < length (from_first m ns) → texts_among g.forest (from_first m ns) ≡ alone g.forest m ++ texts_among g.forest (drop 1 (from_first m ns))
  first-of m [] h = absurd (omega arith)
  first-of m (n ∷ ns) h =
      elim (same_or n m) [
        | same e t ↦ rw t (ap (λ k. alone g.forest k ++ texts_among g.forest ns) e)
        | apart ne t ↦ (let k = rw t at h in rw t (first-of m ns k))
      ]

  pub collecting-next : (here m : ℕ) (text text2 : List ℕ) → IsCollecting g top here text → after here (inclusive_descendants g.forest top) ≡ Some m → text2 ≡ text ++ alone g.forest m → IsCollecting g top m text2
  collecting-next here m text text2 i e grown =
      let all = inclusive_descendants g.forest top in
      let rest = texts_among g.forest (drop 1 (from_first m all)) in
      let at = at-next g s top here m e in
      record {
        at = at;
        told =
            i.told
            ∙ ap (λ ns. text ++ texts_among g.forest (drop 1 ns)) (rest-next g s top here m e)
            ∙ ap (λ units. text ++ units) (first-of m all (from-some m all (here-inside g s top m at)))
            ∙ sym (append_assoc text (alone g.forest m) rest)
            ∙ ap (λ units. units ++ rest) (sym grown);
      }
    where
      from-some : (m : ℕ) (ns : List ℕ) → 0 < hits m ns → 0 < length (from_first m ns)
      from-some m [] h = absurd (omega arith)
      from-some m (n ∷ ns) h =
          elim (same_or n m) [
            | same e t ↦ rw t (omega arith)
            | apart ne t ↦ (let k = rw t at h in rw t (from-some m ns (omega arith)))
          ]

  pub collecting-end : (here : ℕ) (text : List ℕ) → IsCollecting g top here text → after here (inclusive_descendants g.forest top) ≡ None → text ≡ texts_among g.forest (drop 1 (inclusive_descendants g.forest top))
  collecting-end here text i e =
      sym (i.told ∙ ap (λ ns. text ++ texts_among g.forest (drop 1 ns)) (rest-end g s top here i.at e) ∙ append-nil text)

-- as the definitions have them
pub texts-filtered : (f : Forest Content) (ns : List ℕ) → texts_among f ns ≡ filter (is_of_kind Text f) ns
texts-filtered f [] = refl
texts-filtered f (n ∷ ns) = go (is_of_kind Text f n) (texts-filtered f ns)
  where
    go : (b : Bool) → texts_among f ns ≡ filter (is_of_kind Text f) ns → (if b then n ∷ [] else []) ++ texts_among f ns ≡ cond b (n ∷ filter (is_of_kind Text f) ns) (filter (is_of_kind Text f) ns)
    go true i = ap (λ ms. n ∷ ms) i
    go false i = i
