-- The data of the Texts below a node, gathered along tree order.
use Rattle.std.proofs.Common.{◌≡◌, ℕ, ◌<◌, Bool, true, false, if◌then◌else◌, List, [], ◌∷◌, ◌++◌, drop, length, filter, Option, Some, None, refl, ap, sym, ◌∙◌, subst, append_assoc, append-nil, cond, arith, IfSome, IsSome}
use Rattle.std.proofs.lemmas.Bool.{false≢true}
use Rattle.dom_model.specs.declared.{Kind.Kind, Kind.TheVariants.Element, Kind.TheVariants.Text, Kind.TheVariants.ProcessingInstruction, Kind.TheVariants.Comment, Kind.TheVariants.Document, Kind.TheVariants.DocumentType, Kind.TheVariants.DocumentFragment}
use Rattle.dom_model.specs.Definitions.{Entry, hits, after, from_first, Node, Forest, Grove, IsForest, HasNode, entry_in, inclusive_descendants, Content, is_of_kind, content_in, joined_data, descendant_text, text_content, text_content_by, by_kind}
use Rattle.dom_model.proofs.Forests.TreeOrder.InsideWalks.{IsAt, from-top, at-top, at-next, here-inside, rest-next, rest-end}
use Rattle.dom_model.proofs.PlainLists.Numbers.{same_or, same, apart}
use Rattle.dom_edit.specs.{declared.world.World.World, Whole.unwatched}
use Rattle.dom_data.specs.{GatheredData.text_at, GatheredData.gathered, TextContent.may_hold_text}

-- the walk has come to a node, and the text is what was gathered up to it
pub record IsGathering (g : Grove Content) (top here : ℕ) (text : List ℕ) : Type 0 where
  pub at : IsAt g.forest top here
  pub told : gathered g.forest (drop 1 (inclusive_descendants g.forest top)) ≡ text ++ gathered g.forest (drop 1 (from_first here (inclusive_descendants g.forest top)))

module _ (g : Grove Content) (s : IsForest g) (top : ℕ) where
  pub gathering-top : HasNode g.forest top → (text : List ℕ) → text ≡ [] → IsGathering g top top text
  gathering-top h text e = record {
    at = at-top g s top h;
    told = ap (λ ns. gathered g.forest (drop 1 ns)) (sym (from-top g s top h)) ∙ ap (λ units. units ++ gathered g.forest (drop 1 (from_first top (inclusive_descendants g.forest top)))) (sym e);
  }

  first-of : (m : ℕ) (ns : List ℕ) → 0 < length (from_first m ns) → gathered g.forest (from_first m ns) ≡ text_at g.forest m ++ gathered g.forest (drop 1 (from_first m ns))
  first-of m [] h = absurd (omega arith)
  first-of m (n ∷ ns) h =
      elim (same_or n m) [
        | same e t ↦ rw t (ap (λ k. text_at g.forest k ++ gathered g.forest ns) e)
        | apart ne t ↦ (let k = rw t at h in rw t (first-of m ns k))
      ]

  pub gathering-next : (here m : ℕ) (text text2 : List ℕ) → IsGathering g top here text → after here (inclusive_descendants g.forest top) ≡ Some m → text2 ≡ text ++ text_at g.forest m → IsGathering g top m text2
  gathering-next here m text text2 i e grown =
      let all = inclusive_descendants g.forest top in
      let rest = gathered g.forest (drop 1 (from_first m all)) in
      let at = at-next g s top here m e in
      record {
        at = at;
        told =
            i.told
            ∙ ap (λ ns. text ++ gathered g.forest (drop 1 ns)) (rest-next g s top here m e)
            ∙ ap (λ units. text ++ units) (first-of m all (from-some m all (here-inside g s top m at)))
            ∙ sym (append_assoc text (text_at g.forest m) rest)
            ∙ ap (λ units. units ++ rest) (sym grown);
      }
    where
      from-some : (m : ℕ) (ns : List ℕ) → 0 < hits m ns → 0 < length (from_first m ns)
      from-some m [] h = absurd (omega arith)
      from-some m (n ∷ ns) h =
          elim (same_or n m) [
            | same e t ↦ rw t (omega arith)
            | apart ne t ↦ (let k = rw t at h in rw t (from-some m ns (omega arith)))
          ]

  pub gathering-end : (here : ℕ) (text : List ℕ) → IsGathering g top here text → after here (inclusive_descendants g.forest top) ≡ None → text ≡ gathered g.forest (drop 1 (inclusive_descendants g.forest top))
  gathering-end here text i e =
      sym (i.told ∙ ap (λ ns. text ++ gathered g.forest (drop 1 ns)) (rest-end g s top here i.at e) ∙ append-nil text)

-- the Texts alone, as the definitions have them
gathered-filtered : (v : World) (ns : List ℕ) → gathered v.tree.forest ns ≡ joined_data (unwatched v) (filter (is_of_kind Text v.tree.forest) ns)
gathered-filtered v [] = refl
gathered-filtered v (n ∷ ns) = go (is_of_kind Text v.tree.forest n) (gathered-filtered v ns)
  where
    f : Forest Content
    f = v.tree.forest

    go : (b : Bool) → gathered f ns ≡ joined_data (unwatched v) (filter (is_of_kind Text f) ns)
        → (if b then (content_in (entry_in f n)).text else []) ++ gathered f ns ≡ joined_data (unwatched v) (cond b (n ∷ filter (is_of_kind Text f) ns) (filter (is_of_kind Text f) ns))
    go true i = ap (λ units. (content_in (entry_in f n)).text ++ units) i
    go false i = i

pub gathered-text : (v : World) (top : ℕ) → gathered v.tree.forest (drop 1 (inclusive_descendants v.tree.forest top)) ≡ descendant_text (unwatched v) top
gathered-text v top = gathered-filtered v (drop 1 (inclusive_descendants v.tree.forest top))

-- an element and a fragment have the data of their Texts
pub content-below : (v : World) (n : ℕ) (k : Kind) (text : List ℕ) → HasNode v.tree.forest n → IfSome (entry_in v.tree.forest n) (λ e. k ≡ e.value.label.kind) → may_hold_text k ≡ true
    → text ≡ gathered v.tree.forest (drop 1 (inclusive_descendants v.tree.forest n)) → Some text ≡ text_content (unwatched v) n
content-below v n k text held found holds e = go (entry_in v.tree.forest n) held found
  where
    by : (k : Kind) → may_hold_text k ≡ true → Some text ≡ text_content_by k (unwatched v) n
    by Element h = ap (λ units. Some units) (e ∙ gathered-text v n)
    by Text h = absurd (false≢true h)
    by ProcessingInstruction h = absurd (false≢true h)
    by Comment h = absurd (false≢true h)
    by Document h = absurd (false≢true h)
    by DocumentType h = absurd (false≢true h)
    by DocumentFragment h = ap (λ units. Some units) (e ∙ gathered-text v n)

    go : (o : Option (Entry (Node Content))) → IsSome o → IfSome o (λ e. k ≡ e.value.label.kind) → Some text ≡ by_kind None (λ k. text_content_by k (unwatched v) n) o
    go None s f = absurd (false≢true s)
    go (Some d) s f = subst (λ k. Some text ≡ text_content_by k (unwatched v) n) f (by k holds)
