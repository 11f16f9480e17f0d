-- The node document set node by node, in tree order.
use Rattle.std.proofs.Common.{◌≡◌, ℕ, ◌<◌, ◌≤◌, ◌==◌, Bool, true, false, if◌then◌else◌, List, [], ◌∷◌, ◌++◌, length, Some, None, refl, ap, sym, ◌∙◌, arith}
use Rattle.std.proofs.lemmas.{Bool.false_from_ne_true, Bool.Decides.nat_tests}
use Rattle.dom_model.specs.Definitions.{hits, among, after, from_first, Node, Forest, empty, node, Grove, occurs, one_at, numbers, HasNode, ancestors, beside, tree_at, without, map_nodes, with_node, with_tree, in_document, adopted, inclusive_descendants, IsForest}
use Rattle.dom_model.proofs.PlainLists.{Numbers.same_or, Numbers.same, Numbers.apart, FromFirst.from-after, FromFirst.from-last}
use Rattle.dom_model.proofs.Forests.{Totals.total-beside, Totals.total-tree_at, Climbing.hits-among, Climbing.among-hits, TreeOrder.Flattened.hits-numbers, Entries.occurs-HasNode, Entries.HasNode-occurs, TreeOrder.Ordering.Single, TreeOrder.Ordering.single, TreeOrder.Ordering.tree_at-single, ToTheRoot.inside-among, TreeOrder.Stepping.after-inside}

module _ {X : Type 0} where
  -- the node document of each number of the list set
  abbrev pub painted : ℕ → List ℕ → Forest X → Forest X
  painted d [] f = f
  painted d (n ∷ ns) f = painted d ns (with_node n (in_document d) f)

  abbrev pub paint : ℕ → (ℕ → Bool) → Node X → Node X
  paint d chosen x = if chosen x.number then in_document d x else x

  map_nodes-plain : (d : ℕ) (f : Forest X) → map_nodes (paint d (λ _. false)) f ≡ f
  map_nodes-plain d empty = refl
  map_nodes-plain d (node x kids rest) = rw (map_nodes-plain d kids, map_nodes-plain d rest) refl

  paint-more : (d n : ℕ) (ns : List ℕ) (x : Node X) → paint d (λ m. among m ns) (if x.number == n then in_document d x else x) ≡ paint d (λ m. among m (n ∷ ns)) x
  paint-more d n ns x =
      elim (same_or x.number n) [
        | same e t ↦
            elim (same_or n x.number) [
              | same _ v ↦ rw (t, v) (elim (among x.number ns) as (λ b. (if b then in_document d (in_document d x) else in_document d x) ≡ in_document d x) [ true ↦ refl | false ↦ refl ])
              | apart ne v ↦ absurd (ne (sym e))
            ]
        | apart ne t ↦
            elim (same_or n x.number) [
              | same e v ↦ absurd (ne (sym e))
              | apart _ v ↦ rw (t, v) refl
            ]
      ]

  map_nodes-more : (d n : ℕ) (ns : List ℕ) (f : Forest X) → map_nodes (paint d (λ m. among m ns)) (with_node n (in_document d) f) ≡ map_nodes (paint d (λ m. among m (n ∷ ns))) f
  map_nodes-more d n ns empty = refl
  map_nodes-more d n ns (node x kids rest) =
      λ i. node (paint-more d n ns x i) (map_nodes-more d n ns kids i) (map_nodes-more d n ns rest i)

  painted-paint : (d : ℕ) (ns : List ℕ) (f : Forest X) → painted d ns f ≡ map_nodes (paint d (λ m. among m ns)) f
  painted-paint d [] f = sym (map_nodes-plain d f)
  painted-paint d (n ∷ ns) f = painted-paint d ns (with_node n (in_document d) f) ∙ map_nodes-more d n ns f

  map_nodes-chosen : (d : ℕ) (chosen : ℕ → Bool) (f : Forest X) → ((m : ℕ) → 0 < occurs m f → chosen m ≡ true) → map_nodes (paint d chosen) f ≡ map_nodes (in_document d) f
  map_nodes-chosen d chosen empty h = refl
  map_nodes-chosen d chosen (node x kids rest) h =
      let e : chosen x.number ≡ true = h x.number (grind (arith, nat_tests)) in
      let a = map_nodes-chosen d chosen kids (λ m k. h m (omega (arith, k))) in
      let b = map_nodes-chosen d chosen rest (λ m k. h m (omega (arith, k))) in
      rw (e, a, b) refl

  paint-tree : (d top : ℕ) (chosen : ℕ → Bool) (f : Forest X) → ((m : ℕ) → 0 < occurs m (tree_at top f) → chosen m ≡ true) → ((m : ℕ) → 0 < occurs m (without top f) → chosen m ≡ false) → map_nodes (paint d chosen) f ≡ with_tree top (map_nodes (in_document d)) f
  paint-tree d top chosen empty h k = refl
  paint-tree d top chosen (node x kids rest) h k =
      elim (same_or x.number top) [
        | same e t ↦
            let h2 : (m : ℕ) → 0 < occurs m (node x kids (tree_at top rest)) → chosen m ≡ true = rw t at h in
            let k2 : (m : ℕ) → 0 < occurs m (without top rest) → chosen m ≡ false = rw t at k in
            let c : chosen x.number ≡ true = h2 x.number (grind (arith, nat_tests)) in
            let a = map_nodes-chosen d chosen kids (λ m i. h2 m (omega (arith, i))) in
            let b = paint-tree d top chosen rest (λ m i. h2 m (omega (arith, i))) k2 in
            rw (t, c, a, b) refl
        | apart ne t ↦
            let h2 : (m : ℕ) → 0 < occurs m (beside (tree_at top kids) (tree_at top rest)) → chosen m ≡ true = rw t at h in
            let k2 : (m : ℕ) → 0 < occurs m (node x (without top kids) (without top rest)) → chosen m ≡ false = rw t at k in
            let c : chosen x.number ≡ false = k2 x.number (grind (arith, nat_tests)) in
            let a = paint-tree d top chosen kids (λ m i. h2 m (omega (arith, i, total-beside (one_at m) (tree_at top kids) (tree_at top rest)))) (λ m i. k2 m (omega (arith, i))) in
            let b = paint-tree d top chosen rest (λ m i. h2 m (omega (arith, i, total-beside (one_at m) (tree_at top kids) (tree_at top rest)))) (λ m i. k2 m (omega (arith, i))) in
            rw (t, c, a, b) refl
      ]

  pub painted-adopted : (d top : ℕ) (f : Forest X) → ((m : ℕ) → occurs m f ≤ 1) → painted d (inclusive_descendants f top) f ≡ adopted top d f
  painted-adopted d top f o =
      painted-paint d (numbers (tree_at top f)) f
      ∙ paint-tree d top (λ m. among m (numbers (tree_at top f))) f
      (λ m h. hits-among m (numbers (tree_at top f)) (omega (arith, hits-numbers m (tree_at top f))))
      (λ m h. false_from_ne_true (among m (numbers (tree_at top f))) (λ e. let k = among-hits m (numbers (tree_at top f)) e in let a = hits-numbers m (tree_at top f) in let b = total-tree_at (one_at m) top f in let c = o m in omega arith))

  with_node-beside : (n : ℕ) (h : Node X → Node X) (f g : Forest X) → with_node n h (beside f g) ≡ beside (with_node n h f) (with_node n h g)
  with_node-beside n h empty g = refl
  with_node-beside n h (node x kids rest) g = rw (with_node-beside n h rest g) refl

  pub tree_at-with_node : (top n d : ℕ) (f : Forest X) → tree_at top (with_node n (in_document d) f) ≡ with_node n (in_document d) (tree_at top f)
  tree_at-with_node top n d empty = refl
  tree_at-with_node top n d (node x kids rest) =
      rw (number_is d n x) (elim (same_or x.number top) [
        | same e t ↦ rw (t, tree_at-with_node top n d rest) refl
        | apart ne t ↦ rw (t, tree_at-with_node top n d kids, tree_at-with_node top n d rest) (sym (with_node-beside n (in_document d) (tree_at top kids) (tree_at top rest)))
      ])
    where
      number_is : (d n : ℕ) (x : Node X) → (if x.number == n then in_document d x else x).number ≡ x.number
      number_is d n x = elim (x.number == n) as (λ v. (if v then in_document d x else x).number ≡ x.number) [ true ↦ refl | false ↦ refl ]

  pub numbers-with_node : (n d : ℕ) (f : Forest X) → numbers (with_node n (in_document d) f) ≡ numbers f
  numbers-with_node n d empty = refl
  numbers-with_node n d (node x kids rest) =
      λ i. number_is i ∷ (numbers-with_node n d kids i ++ numbers-with_node n d rest i)
    where
      number_is : (if x.number == n then in_document d x else x).number ≡ x.number
      number_is = elim (x.number == n) as (λ v. (if v then in_document d x else x).number ≡ x.number) [ true ↦ refl | false ↦ refl ]

  pub descendants-with_node : (top n d : ℕ) (f : Forest X) → inclusive_descendants (with_node n (in_document d) f) top ≡ inclusive_descendants f top
  descendants-with_node top n d f = ap numbers (tree_at-with_node top n d f) ∙ numbers-with_node n d (tree_at top f)

-- how far the documents have been set: from `here` on they are still to be set
pub record Adopts {X : Type 0} (start g : Grove X) (top d here : ℕ) : Type 0 where
  pub there : HasNode g.forest here
  pub within : 0 < occurs here (tree_at top g.forest)
  pub ahead : painted d (from_first here (inclusive_descendants g.forest top)) g.forest ≡ adopted top d start.forest
  pub made : g.made ≡ start.made

-- a walk over a tree begins at its top
module _ {X : Type 0} {g : Grove X} (s : IsForest g) (top : ℕ) (h : HasNode g.forest top) where
  there : occurs top g.forest ≡ 1
  there = omega (arith, occurs-HasNode g.forest top h, s.once top)

  pub from-top : from_first top (inclusive_descendants g.forest top) ≡ inclusive_descendants g.forest top
  from-top = starts (tree_at-single top g.forest there)
    where
      starts : Single top (tree_at top g.forest) → from_first top (inclusive_descendants g.forest top) ≡ inclusive_descendants g.forest top
      starts (single x kids e t) = rw t (elim (same_or x.number top) [ same _ v ↦ rw v refl | apart ne v ↦ absurd (ne e) ])

  pub top-inside : 0 < occurs top (tree_at top g.forest)
  top-inside = found (tree_at-single top g.forest there)
    where
      found : Single top (tree_at top g.forest) → 0 < occurs top (tree_at top g.forest)
      found (single x kids e t) = rw t (elim (same_or x.number top) [ same _ v ↦ rw v (omega arith) | apart ne v ↦ absurd (ne e) ])

module _ {X : Type 0} where
  pub Adopts-start : (g : Grove X) (top d : ℕ) → IsForest g → HasNode g.forest top → Adopts g g top d top
  Adopts-start g top d s h =
      record {
        there = h;
        within = top-inside s top h;
        ahead = ap (λ l. painted d l g.forest) (from-top s top h) ∙ painted-adopted d top g.forest s.once;
        made = refl;
      }

-- one more document set
module _ {X : Type 0} {start g h : Grove X} {top d here : ℕ} (a : Adopts start g top d here) (e : ◌≡◌ {A = Grove X} h (record { forest = with_node here (in_document d) g.forest; made = g.made })) (s : IsForest h) where
  same_order : inclusive_descendants h.forest top ≡ inclusive_descendants g.forest top
  same_order = ap (λ (k : Grove X). inclusive_descendants k.forest top) e ∙ descendants-with_node top here d g.forest

  pub Adopts-within : 0 < occurs here (tree_at top h.forest)
  Adopts-within =
      let w = a.within in
      omega (arith, w, hits-numbers here (tree_at top g.forest), hits-numbers here (tree_at top h.forest), ap (hits here) same_order)

  pub Adopts-there : HasNode h.forest here
  Adopts-there = HasNode-occurs h.forest here (let w = Adopts-within in omega (arith, total-tree_at (one_at here) top h.forest))

  pub Adopts-under : among top (ancestors here h.forest) ≡ true
  Adopts-under = inside-among s top here Adopts-within

  step : (m : ℕ) → after here (inclusive_descendants h.forest top) ≡ Some m → from_first here (inclusive_descendants g.forest top) ≡ here ∷ from_first m (inclusive_descendants h.forest top)
  step m k =
      ap (from_first here) (sym same_order) ∙ from-after here m (inclusive_descendants h.forest top) (omega (arith, hits-numbers m (tree_at top h.forest), total-tree_at (one_at m) top h.forest, s.once m)) k

  pub Adopts-smaller : (m : ℕ) → after here (inclusive_descendants h.forest top) ≡ Some m → length (from_first m (inclusive_descendants h.forest top)) < length (from_first here (inclusive_descendants g.forest top))
  Adopts-smaller m k = rw (step m k) (omega arith)

  pub Adopts-next : (m : ℕ) → after here (inclusive_descendants h.forest top) ≡ Some m → Adopts start h top d m
  Adopts-next m k =
      record {
        there = HasNode-occurs h.forest m (let w = after-inside s top here m k in omega (arith, total-tree_at (one_at m) top h.forest));
        within = after-inside s top here m k;
        ahead =
            ap (λ (f : Forest X). painted d (from_first m (inclusive_descendants h.forest top)) f) (ap (λ (q : Grove X). q.forest) e)
            ∙ ap (λ l. painted d l g.forest) (sym (step m k)) ∙ a.ahead;
        made = ap (λ (q : Grove X). q.made) e ∙ a.made;
      }

  pub Adopts-end : after here (inclusive_descendants h.forest top) ≡ None → ◌≡◌ {A = Grove X} h (record { forest = adopted top d start.forest; made = start.made })
  Adopts-end k =
      e ∙ (λ i. record { forest = forest i; made = a.made i })
    where
      rest : from_first here (inclusive_descendants g.forest top) ≡ here ∷ []
      rest =
          ap (from_first here) (sym same_order) ∙ from-last here (inclusive_descendants h.forest top) (let w = Adopts-within in omega (arith, hits-numbers here (tree_at top h.forest))) k

      forest : with_node here (in_document d) g.forest ≡ adopted top d start.forest
      forest = ap (λ l. painted d l g.forest) (sym rest) ∙ a.ahead
