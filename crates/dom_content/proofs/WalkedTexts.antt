-- A Text that comes between the ends of a range is contained, unless it is the end's node. DOM Standard, "Interface Range", stringification.
use Rattle.std.proofs.Common.{◌≡◌, ℕ, ◌-◌, true, false, List, [], ◌∷◌, length, Option, Some, None, refl, ap, sym, arith, take_all, ⊎_elim}
use Rattle.std.proofs.lemmas.Bool.{cases_Bool, false≢true}
use Rattle.dom_model.specs.declared.Kind.TheVariants.{Text}
use Rattle.dom_model.specs.Definitions.{hits, among, Entry, is_kind, is_character_data, Node, Grove, IsForest, HasNode, children_of, entry_in, ancestors, root_of, Content, Range, IsRange, entry_has, is_of_kind, is_before, path_below, content_in, IsWay}
use Rattle.dom_model.proofs.Forests.{Climbing.hits-among, Climbing.hits-self, Climbing.among-hits, Entries.occurs-HasNode, Indices.child-listed}
use Rattle.dom_model.proofs.RangesAndContents.WaysBelow.{way-below}
use Rattle.dom_model.proofs.Soundness.SoundForests.{data-childless}
use Rattle.dom_model.proofs.TokenText.Contents.TextTold.{text-kind}
use Rattle.dom_content.specs.RangeTexts.{part_of, text_within}
use Rattle.dom_content.proofs.{RangeTexts.texts-contained, ContainedBetween.within-contained, ContainedBetween.above-not_contained}

-- a Text has no children, so that it is above no other node
text-above : (g : Grove Content) → IsForest g → (n m : ℕ) → HasNode g.forest m → is_of_kind Text g.forest n ≡ true → (n ≡ m → ⊥) → among n (ancestors m g.forest) ≡ false
text-above g s n m hm text ne =
    ⊎_elim
    (λ (on : among n (ancestors m g.forest) ≡ true). absurd (by-way (path_below g.forest n m) (way-below g.forest s.once n m (occurs-HasNode g.forest m hm) (among-hits n (ancestors m g.forest) on))))
    (λ (off : among n (ancestors m g.forest) ≡ false). off)
    (cases_Bool (among n (ancestors m g.forest)))
  where
    has_data : (o : Option (Entry (Node Content))) → entry_has (is_kind Text) o ≡ true → entry_has is_character_data o ≡ true
    has_data None h = absurd (false≢true h)
    has_data (Some e) h = (text-kind e.value.label.kind h).1

    by-way : (path : List ℕ) → IsWay g.forest n path m → ⊥
    by-way [] w = ne w
    by-way (c ∷ path) w =
        let listed = child-listed g.forest s.once c n w.0 w.1 in
        let none : hits c (children_of g.forest n) ≡ 0 = ap (hits c) (data-childless s n (has_data (entry_in g.forest n) text)) in
        omega arith

module _ (g : Grove Content) (s : IsForest g) (range : Range) (is : IsRange g.forest range) (n : ℕ) where
  -- no text is told of the end's node
  pub end-untold : n ≡ range.end.node → HasNode g.forest n → root_of g.forest n ≡ root_of g.forest range.start.node → is_before g.forest range.start (record { node = n; offset = 0 }) ≡ true → is_before g.forest range.end (record { node = n; offset = 0 }) ≡ false → text_within g.forest range n ≡ []
  end-untold d hn one_root starts not_past =
      let on : among n (ancestors range.end.node g.forest) ≡ true = hits-among n (ancestors range.end.node g.forest) (hits-self range.end.node n g.forest (sym d) (occurs-HasNode g.forest range.end.node is.ends.there)) in
      texts-contained g range n (above-not_contained g s range is n hn one_root starts not_past on)

  -- of another node what is told of it as a Text
  pub others-told : (n ≡ range.end.node → ⊥) → HasNode g.forest n → root_of g.forest n ≡ root_of g.forest range.start.node → is_before g.forest range.start (record { node = n; offset = 0 }) ≡ true → is_before g.forest range.end (record { node = n; offset = 0 }) ≡ false
      → part_of g.forest n 0 (length (content_in (entry_in g.forest n)).text - 0) ≡ text_within g.forest range n
  others-told ne hn one_root starts not_past =
      let units = (content_in (entry_in g.forest n)).text in
      ⊎_elim
      (λ (text : is_of_kind Text g.forest n ≡ true).
      let inside = within-contained g s range is n hn one_root starts not_past (text-above g s n range.end.node is.ends.there text ne) in
      rw (text, inside) (take_all (length units - 0) units (omega arith)))
      (λ (other : is_of_kind Text g.forest n ≡ false). rw other refl)
      (cases_Bool (is_of_kind Text g.forest n))
