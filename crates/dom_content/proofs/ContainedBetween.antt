-- What stands between the ends of a range is contained but for what is above its end. DOM Standard, "Interface Range".
use Rattle.std.proofs.Common.{◌≡◌, ℕ, ◌<◌, ◌≤◌, true, false, ◌&&◌, if◌then◌else◌, Some, refl, ap, sym, ◌∙◌, arith, ⊎_elim, Less, Equal, Greater}
use Rattle.std.specs.Ordering.{nat_cmp}
use Rattle.std.proofs.lemmas.Bool.{cases_Bool, cases_lt}
use Rattle.dom_model.specs.Definitions.{among, is_same, Grove, IsForest, HasNode, occurs, ancestors, root_of, node_length, unit_count, Content, Point, Range, IsRange, is_less, is_before, is_contained}
use Rattle.dom_model.proofs.PlainLists.Numbers.{same_or, same, apart}
use Rattle.dom_model.proofs.Forests.{Chains.way, Climbing.among-hits, Entries.occurs-HasNode}
use Rattle.dom_model.proofs.BoundaryPoints.PointOrder.{nat_cmp-same, nat_cmp-less}
use Rattle.dom_model.proofs.RangesAndContents.ContainedAside.{end-not_contained}
use Rattle.dom_content.proofs.{AlongGaps.gap, AlongGaps.not-before, AlongGaps.order-is, PointsAside.aside}

is_same-some : (n : ℕ) → is_same (Some n) (Some n) ≡ true
is_same-some n = elim (same_or n n) [ same _ t ↦ t | apart ne t ↦ absurd (ne refl) ]

not-greater : (i j : ℕ) → i ≤ j → nat_cmp i j ≡ Greater → ⊥
not-greater i j le e =
    ⊎_elim
    (λ (lt : i < j). let k : Less ≡ Greater = sym (nat_cmp-less i j lt) ∙ e in cc k)
    (λ (ge : j ≤ i). let d : i ≡ j = omega arith in let k : Equal ≡ Greater = sym (nat_cmp-same j) ∙ ap (λ m. nat_cmp m j) (sym d) ∙ e in cc k)
    (cases_lt i j)

module _ (g : Grove Content) (s : IsForest g) (range : Range) (is : IsRange g.forest range) where
  hs : 0 < occurs range.start.node g.forest
  hs = occurs-HasNode g.forest range.start.node is.starts.there

  root : ℕ
  root = (way g.forest s.once range.start.node hs).0

  rooted : root_of g.forest range.start.node ≡ Some root
  unfolding root
  rooted = (way g.forest s.once range.start.node hs).1

  abbrev front : ℕ → Point
  front n = record { node = n; offset = 0 }

  abbrev back : ℕ → Point
  back n = record { node = n; offset = node_length unit_count g.forest n }

  end_rooted : root_of g.forest range.end.node ≡ Some root
  end_rooted = sym is.one_root ∙ rooted

  he : 0 < occurs range.end.node g.forest
  he = occurs-HasNode g.forest range.end.node is.ends.there

  both-contained : (n : ℕ) → root_of g.forest n ≡ Some root → is_before g.forest range.start (front n) ≡ true → is_before g.forest (back n) range.end ≡ true → is_contained unit_count g.forest range n ≡ true
  both-contained n r starts ends =
      let one : is_same (root_of g.forest n) (root_of g.forest range.start.node) ≡ true = ap (λ o. is_same o (root_of g.forest range.start.node)) r ∙ ap (is_same (Some root)) rooted ∙ is_same-some root in
      ap (λ v. v && (is_before g.forest range.start (front n) && is_before g.forest (back n) range.end)) one
      ∙ ap (λ v. v && is_before g.forest (back n) range.end) starts
      ∙ ends

  module _ (n : ℕ) (hn : HasNode g.forest n) (one_root : root_of g.forest n ≡ root_of g.forest range.start.node) (starts : is_before g.forest range.start (front n) ≡ true) (not_past : is_before g.forest range.end (front n) ≡ false) where
    r : root_of g.forest n ≡ Some root
    r = one_root ∙ rooted

    -- what is not above the end is ahead of it
    ends : among n (ancestors range.end.node g.forest) ≡ false → is_before g.forest (back n) range.end ≡ true
    ends out =
        let i = aside g.forest s.once n range.end.node range.end.offset (occurs-HasNode g.forest n hn) he (r ∙ sym end_rooted) out in
        let a = gap g s root (front n) r (omega arith) in
        let b = gap g s root range.end end_rooted is.ends.within in
        let le = not-before g s root range.end (front n) b a not_past in
        let stands = order-is g s root (front n) range.end a.place b.place r end_rooted (omega arith) is.ends.within a.is b.is in
        ⊎_elim
        (λ (v : i.is_ahead ≡ true). ap is_less (i.stands (node_length unit_count g.forest n)) ∙ (rw v refl))
        (λ (v : i.is_ahead ≡ false).
        let w : (if i.is_ahead then Less else Greater) ≡ Greater = rw v refl in
        absurd (not-greater a.place b.place (omega arith) (sym stands ∙ i.stands 0 ∙ w)))
        (cases_Bool i.is_ahead)

    pub within-contained : among n (ancestors range.end.node g.forest) ≡ false → is_contained unit_count g.forest range n ≡ true
    within-contained out = both-contained n r starts (ends out)

    pub above-not_contained : among n (ancestors range.end.node g.forest) ≡ true → is_contained unit_count g.forest range n ≡ false
    above-not_contained on = end-not_contained g.forest s.once unit_count s.kinds range n he is.ends.within (among-hits n (ancestors range.end.node g.forest) on)
