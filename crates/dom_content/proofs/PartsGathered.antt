-- The parts of a range as they are gathered: none of a collapsed one; and where both ends stand once the contents are gone, by the parts.
-- DOM Standard, "Interface Range".
use Rattle.std.proofs.Common.{◌≡◌, ℕ, ◌<◌, ◌==◌, Bool, true, false, ◌&&◌, List, [], ◌∷◌, filter, reverse, slice_get, Option, Some, None, unwrap_or, refl, ap, sym, ◌∙◌, arith}
use Rattle.std.proofs.lemmas.Bool.{false≢true, eqb-true, and_parts}
use Rattle.dom_model.specs.Definitions.{hits, among, head_of, up_to, from_first, Forest, Grove, IsForest, occurs, children_of, ancestors, IsWay, Content, Point, Range, IsRange, common_ancestor, path_below, new_place}
use Rattle.dom_model.proofs.PlainLists.Numbers.{same_or, same, apart}
use Rattle.dom_model.proofs.Forests.{Climbing.ancestors-there, Climbing.hits-first, Climbing.hits-reverse, Climbing.hits-among, Entries.occurs-HasNode}
use Rattle.dom_model.proofs.BoundaryPoints.RootsKept.{hits-up_to}
use Rattle.dom_edit.specs.InsertionPoints.{from_optional, children_ahead}
use Rattle.dom_content.specs.DrawnParts.{AreParts, index_behind}
use Rattle.dom_content.proofs.{ChildrenBetween.first-way, ChildrenBetween.children-found, NewPlaceLemmas.common-apart, NewPlaceLemmas.place-behind}

up_to-front : (n : ℕ) (ns : List ℕ) → up_to n (n ∷ ns) ≡ []
up_to-front n ns = elim (same_or n n) [ same _ t ↦ rw t refl | apart ne t ↦ absurd (ne refl) ]

-- nothing comes from a number on and ahead of it
nothing-between : (o : Option ℕ) (ns : List ℕ) → children_ahead o (from_optional o ns) ≡ []
nothing-between None ns = refl
nothing-between (Some n) ns = go ns
  where
    go : (ms : List ℕ) → up_to n (from_first n ms) ≡ []
    go [] = refl
    go (m ∷ ms) = elim (same_or m n) [ same e t ↦ rw t (rw t refl) | apart ne t ↦ rw t (go ms) ]

common-same : (f : Forest Content) (n : ℕ) → 0 < occurs n f → common_ancestor f n n ≡ n
common-same f n h =
    let i = ancestors-there n f h in
    ap (λ ns. unwrap_or (head_of (filter (λ a. among a ns) ns)) n) i.1
    ∙ (elim (same_or n n) [ same _ t ↦ rw t refl | apart ne t ↦ absurd (ne refl) ])

-- two points are one where that was asked
pub same-points : (p q : Point) → ((p.node == q.node) && (p.offset == q.offset)) ≡ true → p ≡ q
same-points p q e =
    let both = and_parts (p.node == q.node) (p.offset == q.offset) e in
    ap (λ n. record { node = n; offset = p.offset }) (eqb-true p.node q.node both.0) ∙ ap (λ o. record { node = q.node; offset = o }) (eqb-true p.offset q.offset both.1)

module _ (g : Grove Content) (s : IsForest g) (r : Range) (is : IsRange g.forest r) where
  abbrev start : ℕ
  start = r.start.node

  hs : 0 < occurs start g.forest
  hs = occurs-HasNode g.forest start is.starts.there

  path-none : path_below g.forest start start ≡ []
  path-none = let i = ancestors-there start g.forest hs in ap (λ ns. reverse (up_to start ns)) i.1 ∙ ap (λ ns. reverse ns) (up_to-front start i.0)

  module _ (one : r.start ≡ r.end) where
    collapsed-top : r.start.node ≡ common_ancestor g.forest r.start.node r.end.node
    collapsed-top = sym (common-same g.forest start hs) ∙ ap (λ (p : Point). common_ancestor g.forest start p.node) one

    none-first : [] ≡ path_below g.forest (common_ancestor g.forest r.start.node r.end.node) r.start.node
    none-first = sym path-none ∙ ap (λ a. path_below g.forest a start) collapsed-top

    none-last : [] ≡ path_below g.forest (common_ancestor g.forest r.start.node r.end.node) r.end.node
    none-last = none-first ∙ ap (λ (p : Point). path_below g.forest (common_ancestor g.forest r.start.node r.end.node) p.node) one

    pub collapsed-parts : (first contained last : List ℕ) → first ≡ [] → contained ≡ [] → last ≡ [] → AreParts g.forest r first contained last
    collapsed-parts first contained last d c e =
        let from = slice_get (children_of g.forest start) r.start.offset in
        record {
          first = d ∙ none-first;
          contained =
              c
              ∙ sym (nothing-between from (children_of g.forest start))
              ∙ children-found g s r is start collapsed-top from from [] [] none-first none-last refl (ap (λ (p : Point). slice_get (children_of g.forest start) p.offset) one);
          last = e ∙ none-last;
        }

  -- the place behind the first part

  abbrev shared : ℕ
  shared = common_ancestor g.forest r.start.node r.end.node

  abbrev other : List ℕ
  other = ancestors r.end.node g.forest

  at_start : among start other ≡ true → (first : List ℕ) → first ≡ path_below g.forest shared r.start.node → record { node = shared; offset = index_behind g.forest r.start first } ≡ new_place g.forest r
  at_start t first d =
      let i = ancestors-there start g.forest hs in
      let split : shared ≡ unwrap_or (head_of (filter (λ x. among x other) (start ∷ i.0))) start = ap (λ ns. unwrap_or (head_of (filter (λ x. among x other) ns)) start) i.1 in
      let here : shared ≡ start = rw t at split in
      let none : first ≡ [] = d ∙ ap (λ x. path_below g.forest x start) here ∙ path-none in
      let place : new_place g.forest r ≡ r.start = rw t refl in
      rw (none, here) (sym place)

  behind : among start other ≡ false → (first : List ℕ) → first ≡ path_below g.forest shared r.start.node → record { node = shared; offset = index_behind g.forest r.start first } ≡ new_place g.forest r
  behind t [] d =
      let w : shared ≡ start = first-way g s r is shared refl [] d in
      absurd (elim (same_or start shared) [ same _ u ↦ false≢true (sym (common-apart g s r is t shared refl) ∙ u) | apart ne u ↦ ne (sym w) ])
  behind t (c ∷ path) d =
      let w : IsWay g.forest shared (c ∷ path) start = first-way g s r is shared refl (c ∷ path) d in
      let i = hits-first c path in
      let j = ap (hits c) d in
      let k = hits-reverse c (up_to shared (ancestors start g.forest)) in
      let l = hits-up_to c shared (ancestors start g.forest) in
      sym (place-behind g s r is t shared c refl w.1 (hits-among c (ancestors start g.forest) (omega arith)))

  module _ (first : List ℕ) (d : first ≡ path_below g.forest (common_ancestor g.forest r.start.node r.end.node) r.start.node) where
    pub way-from_top : (top : ℕ) × IsWay g.forest top first r.start.node
    way-from_top = (shared, first-way g s r is shared refl first d)

    pub place-by_parts : (place : Point) → ((top : ℕ) → IsWay g.forest top first r.start.node → place ≡ record { node = top; offset = index_behind g.forest r.start first }) → place ≡ new_place g.forest r
    place-by_parts place told = told shared (first-way g s r is shared refl first d) ∙ go (among start other) refl
      where
        go : (b : Bool) → among start other ≡ b → record { node = shared; offset = index_behind g.forest r.start first } ≡ new_place g.forest r
        go true t = at_start t first d
        go false t = behind t first d
