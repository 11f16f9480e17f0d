-- Where no node but a Text is partially contained: each end stands in the deepest common ancestor, or in a Text that is a child of it.
-- DOM Standard, "Interface Range" (surroundContents).
use Rattle.std.proofs.Common.{◌≡◌, ℕ, ◌+◌, ◌<◌, ◌≤◌, ◌==◌, Bool, true, false, not, ◌&&◌, List, [], ◌∷◌, ◌++◌, Option, Some, None, refl, ap, sym, ◌∙◌, subst, arith}
use Rattle.std.proofs.lemmas.Bool.{false≢true, not-false}
use Rattle.std.specs.List.{list_any}
use Rattle.dom_model.specs.declared.Kind.TheVariants.{Text}
use Rattle.dom_model.specs.Definitions.{hits, among, is_number, up_to, may_be_parent, Forest, occurs, one_at, numbers, parent_of, ancestors, Content, Range, IsRange, is_of_kind, is_partially_contained, common_ancestor, path_below, IsWay}
use Rattle.dom_model.proofs.PlainLists.Numbers.{same_or, same, apart}
use Rattle.dom_model.proofs.Forests.{Entries.occurs-HasNode, Totals.IsOnce, Climbing.hits-append, Climbing.hits-reverse, Climbing.hits-among, Climbing.among-hits, Climbing.hits-not_among, Climbing.hits-self, Climbing.ancestors-there, Paths.parent-path, Indices.parent-there, TreeOrder.Flattened.hits-numbers}
use Rattle.dom_model.proofs.BoundaryPoints.RemovalOrder.{ancestors-split}
use Rattle.dom_model.proofs.Soundness.{SoundForests.IsWood, SoundExtracting.none_listed}
use Rattle.dom_model.proofs.RangesAndContents.{PathsApart.along, PathsApart.along-ancestors, PathsToEnds.holders_above, PathsToEnds.common-above, WaysBelow.IsFork, WaysBelow.fork}
use Rattle.dom_wrap.specs.SurroundRefusal.{is_near}
use Rattle.dom_wrap.proofs.{AllowAbove.none-or-some, AllowAbove.above-within, AllowPlaces.text-passes}

-- an end stands in the common ancestor, or in a Text that is a child of it
pub data IsNear (f : Forest Content) (c n : ℕ) : Type 0 where
  at_it : n ≡ c → path_below f c n ≡ [] → IsNear f c n
  in_text : is_of_kind Text f n ≡ true → parent_of f n ≡ Some c → path_below f c n ≡ n ∷ [] → IsNear f c n

along-hits : (c : ℕ) (ns : List ℕ) → along (one_at c) ns ≡ hits c ns
along-hits c [] = refl
along-hits c (x ∷ xs) = ap (λ k. one_at c x + k) (along-hits c xs)

-- a node stands once above another
above-once : (f : Forest Content) → IsOnce f → (c n : ℕ) → hits c (ancestors n f) ≤ 1
above-once f o c n = let a = along-ancestors (one_at c) n f in let b = along-hits c (ancestors n f) in let k = o c in omega arith

in-front : (c m : ℕ) (xs rest : List ℕ) → hits c xs ≡ 0 → (m ≡ c → ⊥) → 0 < hits m (up_to c (xs ++ m ∷ rest))
in-front c m [] rest z ne =
    elim (same_or m c) [
      | same e t ↦ absurd (ne e)
      | apart _ t ↦ elim (same_or m m) [ same _ k ↦ rw t (rw k (omega arith)) | apart d k ↦ absurd (d refl) ]
    ]
in-front c m (x ∷ xs) rest z ne =
    elim (same_or x c) [
      | same e t ↦ absurd (let k = rw t at z in omega arith)
      | apart _ t ↦ (let k = rw t at z in let i = in-front c m xs rest (omega arith) ne in rw t (omega arith))
    ]

module _ {f : Forest Content} {made : ℕ} (s : IsWood f made) (range : Range) (h : IsRange f range) where
  abbrev a : ℕ
  a = range.start.node

  abbrev b : ℕ
  b = range.end.node

  abbrev c : ℕ
  c = common_ancestor f a b

  ha : 0 < occurs a f
  ha = occurs-HasNode f a h.starts.there

  hb : 0 < occurs b f
  hb = occurs-HasNode f b h.ends.there

  pub is_fork : IsFork f s.once a b c
  is_fork = fork f s.once a b ha hb h.one_root

  above_both : (0 < hits c (ancestors a f)) × (0 < hits c (ancestors b f))
  above_both = common-above f a b ha h.one_root

  abbrev pub is_deep : ℕ → Bool
  is_deep m = is_partially_contained f range m && not (is_of_kind Text f m)

  -- a child of the common ancestor towards the end is not above the start
  off_second : (m : ℕ) → parent_of f m ≡ Some c → among m (ancestors b f) ≡ true → among m (ancestors a f) ≡ false
  off_second m e i =
      none-or-some m (ancestors a f) (λ z. hits-not_among m (ancestors a f) z)
      (λ lt.
      let hm = parent-there f m c e in
      let d = ancestors-split f s.once m a ha lt in
      let p = parent-path f s.once m c hm e in
      let top = ancestors-there c f p.0 in
      let all : ancestors a f ≡ d.0 ++ m ∷ ancestors c f = d.1 ∙ ap (λ ns. d.0 ++ ns) p.1 in
      let one = above-once f s.once c a in
      let own = hits-self c c f refl p.0 in
      let count = ap (hits c) all in
      let parts = hits-append c d.0 (m ∷ ancestors c f) in
      let ne : m ≡ c → ⊥ = λ k. (let self : 0 < hits c (m ∷ []) = elim (same_or m c) [ same _ t ↦ rw t (omega arith) | apart n t ↦ absurd (n k) ] in let more = hits-append c (m ∷ []) (ancestors c f) in omega arith) in
      let j = in-front c m d.0 (ancestors c f) (let more = hits-append c (m ∷ []) (ancestors c f) in omega arith) ne in
      let l : 0 < hits m (up_to c (ancestors a f)) = subst (λ ns. 0 < hits m (up_to c ns)) (sym all) j in
      let k = is_fork.off m (let r = hits-reverse m (up_to c (ancestors a f)) in omega arith) in
      absurd (false≢true (sym k ∙ i)))

  -- Each end where no other node is partially contained.

  near-by : (n : ℕ) (path : List ℕ) → path_below f c n ≡ path → IsWay f c path n → ((m : ℕ) → 0 < occurs m f → parent_of f m ≡ Some c → 0 < hits m path → is_of_kind Text f m ≡ true) → IsNear f c n
  near-by n [] e w text = at_it (sym w) e
  near-by n (m ∷ []) e w text =
      let d : m ≡ n = w.2 in
      let t = text m w.0 w.1 (elim (same_or m m) [ same _ k ↦ rw k (omega arith) | apart ne k ↦ absurd (ne refl) ]) in
      in_text (ap (is_of_kind Text f) (sym d) ∙ t) (ap (parent_of f) (sym d) ∙ w.1) (e ∙ ap (λ x. x ∷ []) d)
  near-by n (m ∷ x ∷ path) e w text =
      let t = text m w.0 w.1 (elim (same_or m m) [ same _ k ↦ rw k (omega arith) | apart ne k ↦ absurd (ne refl) ]) in
      let k = holders_above f made s x m m w.2.1 (hits-self m m f refl w.0) in
      absurd (false≢true (sym (text-passes f m may_be_parent t) ∙ k))

  module _ (shallow : list_any (λ m. is_partially_contained f range m && not (is_of_kind Text f m)) (numbers f) ≡ false) where
    only_text : (m : ℕ) → 0 < occurs m f → is_partially_contained f range m ≡ true → is_of_kind Text f m ≡ true
    only_text m hm p =
        let k = none_listed (λ x. is_partially_contained f range x && not (is_of_kind Text f x)) (numbers f) m shallow (let i = hits-numbers m f in omega arith) in
        let j = rw p at k in
        not-false (is_of_kind Text f m) j

    first_hit : (m : ℕ) (path : List ℕ) (n : ℕ) → 0 < occurs n f → IsWay f c path n → 0 < occurs m f → parent_of f m ≡ Some c → 0 < hits m path → path_below f c n ≡ path → 0 < hits m (ancestors n f)
    first_hit m path n hn w hm e i d =
        let r = hits-reverse m (up_to c (ancestors n f)) in
        let k = ap (hits m) d in
        let l = within (ancestors n f) in
        omega arith
      where
        within : (ns : List ℕ) → hits m (up_to c ns) ≤ hits m ns
        within [] = omega arith
        within (x ∷ xs) = elim (same_or x c) [ same _ t ↦ rw t (omega arith) | apart _ t ↦ (let i = within xs in rw t (omega arith)) ]

    pub start_near : IsNear f c a
    start_near =
        near-by a (path_below f c a) refl is_fork.first
        (λ m hm e i.
        let off = is_fork.off m i in
        let on = hits-among m (ancestors a f) (first_hit m (path_below f c a) a ha is_fork.first hm e i refl) in
        only_text m hm (rw (on, off) refl))

    pub end_near : IsNear f c b
    end_near =
        near-by b (path_below f c b) refl is_fork.second
        (λ m hm e i.
        let on = hits-among m (ancestors b f) (first_hit m (path_below f c b) b hb is_fork.second hm e i refl) in
        let off = off_second m e on in
        only_text m hm (rw (on, off) refl))

  near_true : (n : ℕ) → IsNear f c n → is_near f c n ≡ true
  near_true n (at_it e p) = elim (same_or n c) [ same _ t ↦ rw t refl | apart ne t ↦ absurd (ne e) ]
  near_true n (in_text t e p) = elim (same_or n c) [
    | same _ k ↦ rw k refl
    | apart _ k ↦ (let i : is_number (Some c) c ≡ true = elim (same_or c c) [ same _ j ↦ j | apart ne j ↦ absurd (ne refl) ] in rw (k, t, e, i) refl)
  ]

  -- what stands above a near end is the end, a Text, or stands above the other
  near_above : (n m : ℕ) → 0 < occurs n f → is_near f c n ≡ true → 0 < hits m (ancestors n f) → is_of_kind Text f m ≡ false → 0 < hits m (ancestors c f)
  near_above n m hn e i plain =
      elim (same_or n c) [
        | same d t ↦ subst (λ x. 0 < hits m (ancestors x f)) d i
        | apart ne t ↦ (let k = rw t at e in child (is_of_kind Text f n) refl (parent_of f n) refl k)
      ]
    where
      child : (v : Bool) → is_of_kind Text f n ≡ v → (o : Option ℕ) → parent_of f n ≡ o → (v && is_number o c) ≡ true → 0 < hits m (ancestors c f)
      child false t o d k = absurd (false≢true k)
      child true t None d k = absurd (false≢true k)
      child true t (Some u) d k =
          let same_node : u ≡ c = elim (same_or u c) [ same j _ ↦ j | apart _ j ↦ absurd (false≢true (sym j ∙ k)) ] in
          let p = parent-path f s.once n u hn d in
          let other : (n == m) ≡ false = elim (same_or n m) [ same j _ ↦ absurd (false≢true (sym plain ∙ ap (is_of_kind Text f) (sym j) ∙ t)) | apart _ j ↦ j ] in
          let count = ap (hits m) p.1 in
          let l = rw other at count in
          subst (λ x. 0 < hits m (ancestors x f)) same_node (omega arith)

  none_deep : is_near f c a ≡ true → is_near f c b ≡ true → (m : ℕ) → is_deep m ≡ false
  none_deep x y m = go (is_of_kind Text f m) refl (among m (ancestors a f)) refl (among m (ancestors b f)) refl
    where
      to_end : is_of_kind Text f m ≡ false → among m (ancestors a f) ≡ true → among m (ancestors b f) ≡ true
      to_end plain on = hits-among m (ancestors b f) (above-within f s.once b c m hb above_both.1 (near_above a m ha x (among-hits m (ancestors a f) on) plain))

      to_start : is_of_kind Text f m ≡ false → among m (ancestors b f) ≡ true → among m (ancestors a f) ≡ true
      to_start plain on = hits-among m (ancestors a f) (above-within f s.once a c m ha above_both.0 (near_above b m hb y (among-hits m (ancestors b f) on) plain))

      go : (t : Bool) → is_of_kind Text f m ≡ t → (u : Bool) → among m (ancestors a f) ≡ u → (v : Bool) → among m (ancestors b f) ≡ v → is_deep m ≡ false
      go true t u d v e = rw t (last (is_partially_contained f range m))
        where
          last : (z : Bool) → (z && false) ≡ false
          last true = refl
          last false = refl
      go false t true d true e = rw (d, e) refl
      go false t false d false e = rw (d, e) refl
      go false t true d false e = absurd (false≢true (sym e ∙ to_end t d))
      go false t false d true e = absurd (false≢true (sym d ∙ to_start t e))

  -- the test by the two ends alone
  pub near-told : list_any (λ m. is_partially_contained f range m && not (is_of_kind Text f m)) (numbers f) ≡ not (is_near f c a && is_near f c b)
  near-told = go (list_any (λ m. is_partially_contained f range m && not (is_of_kind Text f m)) (numbers f)) refl
    where
      go : (v : Bool) → list_any (λ m. is_partially_contained f range m && not (is_of_kind Text f m)) (numbers f) ≡ v → v ≡ not (is_near f c a && is_near f c b)
      go false e = rw (near_true a (start_near e), near_true b (end_near e)) refl
      go true e = by (is_near f c a) refl (is_near f c b) refl
        where
          by : (x : Bool) → is_near f c a ≡ x → (y : Bool) → is_near f c b ≡ y → true ≡ not (x && y)
          by false i y j = refl
          by true i false j = refl
          by true i true j = absurd (false≢true (sym (none (numbers f)) ∙ e))
            where
              none : (ns : List ℕ) → list_any (λ m. is_partially_contained f range m && not (is_of_kind Text f m)) ns ≡ false
              none [] = refl
              none (n ∷ ns) = rw (none_deep i j n) (none ns)
