-- Forests that nest alike have the same order of points: changes of nodes that keep their numbers, as of data or of the node document.
use Rattle.std.proofs.Common.{◌≡◌, ℕ, ◌+◌, ◌*◌, ◌==◌, Bool, true, false, if◌then◌else◌, List, [], ◌∷◌, ◌++◌, map, reverse, drop, Option, Some, None, option_map, refl, ap, sym, ◌∙◌}
use Rattle.std.specs.{Ordering.nat_cmp, Cmp.Lexicographic.slice_cmp}
use Rattle.dom_model.specs.Definitions.{last_of, or_else, place_in, Entry, parent_in, children_in, list_under, Node, Forest, empty, node, total, tops, root_of, map_nodes, in_document, with_node, adopted, entry_under, entry_in, parent_of, children_of, index_of, ancestors, Point, place_of, order_of}
use Rattle.dom_model.proofs.PlainLists.Numbers.{same_or, same, apart}

-- the parts of a node's parent and children
abbrev parent_part : Option (Option ℕ × List ℕ) → Option ℕ
parent_part None = None
parent_part (Some e) = e.0

abbrev children_part : Option (Option ℕ × List ℕ) → List ℕ
children_part None = []
children_part (Some e) = e.1

module _ {X : Type 0} where
  -- node by node the same numbers
  abbrev pub IsNestedAs : Forest X → Forest X → Type 0
  IsNestedAs empty empty = Unit {0}
  IsNestedAs empty (node y l s) = ⊥
  IsNestedAs (node x k r) empty = ⊥
  IsNestedAs (node x k r) (node y l s) = (x.number ≡ y.number) × IsNestedAs k l × IsNestedAs r s

  -- a node's parent and children, where it stands
  abbrev pub links : Option (Entry (Node X)) → Option (Option ℕ × List ℕ)
  links o = option_map (λ (e : Entry (Node X)). (e.parent, e.children)) o

  tops-nested : (f g : Forest X) → IsNestedAs f g → tops f ≡ tops g
  tops-nested empty empty h = refl
  tops-nested (node x k r) (node y l s) h = rw (h.0, tops-nested r s h.2) refl
  tops-nested f g h = absurd h

  pub ancestors-nested : (n : ℕ) (f g : Forest X) → IsNestedAs f g → ancestors n f ≡ ancestors n g
  ancestors-nested n empty empty h = refl
  ancestors-nested n (node x k r) (node y l s) h = rw (h.0, ancestors-nested n k l h.1, ancestors-nested n r s h.2) refl
  ancestors-nested n f g h = absurd h

  pub total-nested : (w : ℕ → ℕ) (f g : Forest X) → IsNestedAs f g → total w f ≡ total w g
  total-nested w empty empty h = refl
  total-nested w (node x k r) (node y l s) h = rw (h.0, total-nested w k l h.1, total-nested w r s h.2) refl
  total-nested w f g h = absurd h

  links-else : (a b : Option (Entry (Node X))) → links (or_else a b) ≡ or_else (links a) (links b)
  links-else None b = refl
  links-else (Some e) b = refl

  links-nested : (q : Option ℕ) (n : ℕ) (f g : Forest X) → IsNestedAs f g → links (entry_under q n f) ≡ links (entry_under q n g)
  links-nested q n empty empty h = refl
  links-nested q n empty (node y l s) h = absurd h
  links-nested q n (node x k r) empty h = absurd h
  links-nested q n (node x k r) (node y l s) h =
      elim (same_or x.number n) [
        | same e t ↦
            let u : (y.number == n) ≡ true = ap (λ m. m == n) (sym h.0) ∙ t in
            rw (t, u, tops-nested k l h.1) refl
        | apart ne t ↦
            let u : (y.number == n) ≡ false = ap (λ m. m == n) (sym h.0) ∙ t in
            rw (t, u) (links-else (entry_under (Some x.number) n k) (entry_under q n r)
            ∙ ap (λ o. or_else o (links (entry_under q n r))) (links-nested (Some x.number) n k l h.1 ∙ ap (λ m. links (entry_under (Some m) n l)) h.0)
            ∙ ap (or_else (links (entry_under (Some y.number) n l))) (links-nested q n r s h.2)
            ∙ sym (links-else (entry_under (Some y.number) n l) (entry_under q n s)))
      ]

  parent-told : (o : Option (Entry (Node X))) → parent_in o ≡ parent_part (links o)
  parent-told None = refl
  parent-told (Some e) = refl

  children-told : (o : Option (Entry (Node X))) → children_in o ≡ children_part (links o)
  children-told None = refl
  children-told (Some e) = refl

  -- entries with the same links tell the same
  pub same-parent : (a b : Option (Entry (Node X))) → links a ≡ links b → parent_in a ≡ parent_in b
  same-parent a b e = parent-told a ∙ ap parent_part e ∙ sym (parent-told b)

  pub same-children : (a b : Option (Entry (Node X))) → links a ≡ links b → children_in a ≡ children_in b
  same-children a b e = children-told a ∙ ap children_part e ∙ sym (children-told b)

  module _ (f g : Forest X) (h : IsNestedAs f g) where
    pub children-nested : (n : ℕ) → children_of f n ≡ children_of g n
    children-nested n = same-children (entry_in f n) (entry_in g n) (links-nested None n f g h)

    pub parent-nested : (n : ℕ) → parent_of f n ≡ parent_of g n
    parent-nested n = same-parent (entry_in f n) (entry_in g n) (links-nested None n f g h)

    pub root-nested : (n : ℕ) → root_of f n ≡ root_of g n
    root-nested n = ap last_of (ancestors-nested n f g h)

    pub index-nested : (n : ℕ) → index_of f n ≡ index_of g n
    index-nested n = ap (place_in n) (under (parent_of f n) ∙ ap (list_under (entry_in g)) (parent-nested n))
      where
        under : (q : Option ℕ) → list_under (entry_in f) q ≡ list_under (entry_in g) q
        under None = refl
        under (Some m) = children-nested m

    places-nested : (ns : List ℕ) → map (λ m. 2 * index_of f m + 1) ns ≡ map (λ m. 2 * index_of g m + 1) ns
    places-nested [] = refl
    places-nested (n ∷ ns) = rw (index-nested n, places-nested ns) refl

    place-nested : (p : Point) → place_of f p ≡ place_of g p
    place-nested p =
        ap (λ ns. map (λ m. 2 * index_of f m + 1) (drop 1 (reverse ns)) ++ (2 * p.offset) ∷ []) (ancestors-nested p.node f g h)
        ∙ ap (λ ns. ns ++ (2 * p.offset) ∷ []) (places-nested (drop 1 (reverse (ancestors p.node g))))

    -- points stand in one order in both
    pub order-nested : (p q : Point) → order_of f p q ≡ order_of g p q
    order-nested p q = ap (λ ns. slice_cmp nat_cmp ns (place_of f q)) (place-nested p) ∙ ap (slice_cmp nat_cmp (place_of g p)) (place-nested q)

  nested-map : (h : Node X → Node X) → ((x : Node X) → (h x).number ≡ x.number) → (f : Forest X) → IsNestedAs f (map_nodes h f)
  nested-map h keeps empty = tt
  nested-map h keeps (node x k r) = (sym (keeps x), nested-map h keeps k, nested-map h keeps r)

  -- a changed node, and a changed tree
  pub nested-with_node : (n : ℕ) (h : Node X → Node X) → ((x : Node X) → (h x).number ≡ x.number) → (f : Forest X) → IsNestedAs f (with_node n h f)
  nested-with_node n h keeps empty = tt
  nested-with_node n h keeps (node x k r) = (number (x.number == n), nested-with_node n h keeps k, nested-with_node n h keeps r)
    where
      number : (v : Bool) → x.number ≡ (if◌then◌else◌ {A = Node X} v (h x) x).number
      number true = sym (keeps x)
      number false = refl

  pub nested-adopted : (n d : ℕ) (f : Forest X) → IsNestedAs f (adopted n d f)
  nested-adopted n d empty = tt
  nested-adopted n d (node x k r) =
      elim (same_or x.number n) [
        | same e t ↦ rw t (refl, nested-map (in_document d) (λ y. refl) k, nested-adopted n d r)
        | apart ne t ↦ rw t (refl, nested-adopted n d k, nested-adopted n d r)
      ]
