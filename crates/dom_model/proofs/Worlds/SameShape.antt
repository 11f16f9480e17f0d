-- Forests of one shape: the same numbers and labels stand in the same places. Data and node documents may differ.
use Rattle.std.proofs.Common.{◌≡◌, ℕ, ◌+◌, ◌*◌, ◌==◌, Bool, true, false, if◌then◌else◌, [], ◌∷◌, ◌++◌, map, drop, reverse, Option, Some, None, option_map, refl, ap, sym, ◌∙◌, subst}
use Rattle.std.proofs.Math.Path.{fun_ext}
use Rattle.dom_model.specs.Definitions.{or_else, place_in, Entry, parent_in, children_in, list_under, Node, Forest, empty, node, total, occurs, one_at, tops, numbers, beside, tree_at, map_nodes, with_node, with_tree, entry_under, entry_in, parent_of, children_of, index_of, ancestors, root_of, inclusive_descendants, KindsFit, Content, Point, no_content, place_of, order_of, entry_has, kind_passes}
use Rattle.dom_model.specs.declared.Kind.{Kind}
use Rattle.dom_model.proofs.PlainLists.Numbers.{same_or, same, apart}

-- a node without its node document and contents
abbrev pub bare_node : Node Content → Node Content
bare_node x = record { number = x.number; document = 0; label = x.label; body = no_content }

abbrev pub bare : Forest Content → Forest Content
bare f = map_nodes bare_node f

abbrev bare_entry : Option (Entry (Node Content)) → Option (Entry (Node Content))
bare_entry o = option_map (λ (e : Entry (Node Content)). record { value = bare_node e.value; parent = e.parent; children = e.children }) o

tops-bare : (f : Forest Content) → tops (bare f) ≡ tops f
tops-bare empty = refl
tops-bare (node x kids rest) = ap (λ ns. x.number ∷ ns) (tops-bare rest)

total-bare : (w : ℕ → ℕ) (f : Forest Content) → total w (bare f) ≡ total w f
total-bare w empty = refl
total-bare w (node x kids rest) = rw (total-bare w kids, total-bare w rest) refl

numbers-bare : (f : Forest Content) → numbers (bare f) ≡ numbers f
numbers-bare empty = refl
numbers-bare (node x kids rest) = rw (numbers-bare kids, numbers-bare rest) refl

bare-beside : (f g : Forest Content) → bare (beside f g) ≡ beside (bare f) (bare g)
bare-beside empty g = refl
bare-beside (node x kids rest) g = ap (node (bare_node x) (bare kids)) (bare-beside rest g)

tree_at-bare : (n : ℕ) (f : Forest Content) → tree_at n (bare f) ≡ bare (tree_at n f)
tree_at-bare n empty = refl
tree_at-bare n (node x kids rest) =
    elim (same_or x.number n) [
      | same e t ↦ rw (t, tree_at-bare n rest) refl
      | apart ne t ↦ rw (t, tree_at-bare n kids, tree_at-bare n rest) (sym (bare-beside (tree_at n kids) (tree_at n rest)))
    ]

ancestors-bare : (n : ℕ) (f : Forest Content) → ancestors n (bare f) ≡ ancestors n f
ancestors-bare n empty = refl
ancestors-bare n (node x kids rest) = rw (ancestors-bare n kids, ancestors-bare n rest) refl

entry-bare : (q : Option ℕ) (n : ℕ) (f : Forest Content) → entry_under q n (bare f) ≡ bare_entry (entry_under q n f)
entry-bare q n empty = refl
entry-bare q n (node x kids rest) =
    elim (same_or x.number n) [
      | same e t ↦ rw (t, tops-bare kids) refl
      | apart ne t ↦ rw (t, entry-bare (Some x.number) n kids, entry-bare q n rest) (both (entry_under (Some x.number) n kids) (entry_under q n rest))
    ]
  where
    both : (a b : Option (Entry (Node Content))) → or_else (bare_entry a) (bare_entry b) ≡ bare_entry (or_else a b)
    both None b = refl
    both (Some a) b = refl

fits-bare : (q : Option Kind) (f : Forest Content) → KindsFit q f → KindsFit q (bare f)
fits-bare q empty k = tt
fits-bare q (node x kids rest) k = (k.0, fits-bare (Some x.label.kind) kids k.1, fits-bare q rest k.2)

bare-fits : (q : Option Kind) (f : Forest Content) → KindsFit q (bare f) → KindsFit q f
bare-fits q empty k = tt
bare-fits q (node x kids rest) k = (k.0, bare-fits (Some x.label.kind) kids k.1, bare-fits q rest k.2)

-- two forests of one shape
pub record IsAlike (f g : Forest Content) : Type 0 where
  pub bare_same : bare g ≡ bare f

-- what depends on the shape alone
agreeing : {A : Type 0} (F : Forest Content → A) → ((f : Forest Content) → F (bare f) ≡ F f) → {f g : Forest Content} → IsAlike f g → F g ≡ F f
agreeing F keeps {f} {g} a = sym (keeps g) ∙ ap F a.bare_same ∙ keeps f

module _ {f g : Forest Content} (a : IsAlike f g) where
  pub occurs-alike : (n : ℕ) → occurs n g ≡ occurs n f
  occurs-alike n = agreeing (λ h. occurs n h) (λ h. total-bare (one_at n) h) a

  pub tops-alike : tops g ≡ tops f
  tops-alike = agreeing (λ h. tops h) tops-bare a

  pub ancestors-alike : (n : ℕ) → ancestors n g ≡ ancestors n f
  ancestors-alike n = agreeing (λ h. ancestors n h) (ancestors-bare n) a

  pub inside-alike : (n : ℕ) → inclusive_descendants g n ≡ inclusive_descendants f n
  inside-alike n = agreeing (λ h. inclusive_descendants h n) (λ h. ap (λ t. numbers t) (tree_at-bare n h) ∙ numbers-bare (tree_at n h)) a

  -- what is read of an entry but not of a node document or contents
  reading : {A : Type 0} (read : Option (Entry (Node Content)) → A) → ((e : Entry (Node Content)) → read (bare_entry (Some e)) ≡ read (Some e)) → (n : ℕ) → read (entry_in g n) ≡ read (entry_in f n)
  reading read keeps n = agreeing (λ h. read (entry_in h n)) (λ h. ap read (entry-bare None n h) ∙ go (entry_in h n)) a
    where
      go : (o : Option (Entry (Node Content))) → read (bare_entry o) ≡ read o
      go None = refl
      go (Some e) = keeps e

  pub parent-alike : (n : ℕ) → parent_of g n ≡ parent_of f n
  parent-alike n = reading parent_in (λ e. refl) n

  pub children-alike : (n : ℕ) → children_of g n ≡ children_of f n
  children-alike n = reading children_in (λ e. refl) n

  pub kind-alike : (test : Kind → Bool) (n : ℕ) → kind_passes test g n ≡ kind_passes test f n
  kind-alike test n = reading (entry_has test) (λ e. refl) n

  pub fits-alike : KindsFit None f → KindsFit None g
  fits-alike k = bare-fits None g (subst (λ (h : Forest Content). KindsFit None h) (sym a.bare_same) (fits-bare None f k))

  pub index-alike : (n : ℕ) → index_of g n ≡ index_of f n
  index-alike n = ap (place_in n) (ap (list_under (entry_in g)) (parent-alike n) ∙ under (parent_of f n))
    where
      under : (p : Option ℕ) → list_under (entry_in g) p ≡ list_under (entry_in f) p
      under None = refl
      under (Some p) = children-alike p

  pub root-alike : (n : ℕ) → root_of g n ≡ root_of f n
  root-alike n = rw (ancestors-alike n) refl

  place-alike : (p : Point) → place_of g p ≡ place_of f p
  place-alike p =
      rw (ancestors-alike p.node)
      (ap (λ (index : ℕ → ℕ). map (λ m. 2 * index m + 1) (drop 1 (reverse (ancestors p.node f))) ++ (2 * p.offset) ∷ []) (fun_ext index-alike))

  pub order-alike : (p q : Point) → order_of g p q ≡ order_of f p q
  order-alike p q = rw (place-alike p, place-alike q) refl

module _ (h : Node Content → Node Content) (keeps : (x : Node Content) → bare_node (h x) ≡ bare_node x) where
  bare-map : (f : Forest Content) → bare (map_nodes h f) ≡ bare f
  bare-map empty = refl
  bare-map (node x kids rest) = rw (keeps x, bare-map kids, bare-map rest) refl

  bare-with_node : (n : ℕ) (f : Forest Content) → bare (with_node n h f) ≡ bare f
  bare-with_node n empty = refl
  bare-with_node n (node x kids rest) = rw (bare-with_node n kids, bare-with_node n rest) (ap (λ y. node y (bare kids) (bare rest)) (go (x.number == n)))
    where
      go : (v : Bool) → bare_node (if v then h x else x) ≡ bare_node x
      go true = keeps x
      go false = refl

  bare-with_tree : (n : ℕ) (f : Forest Content) → bare (with_tree n (map_nodes h) f) ≡ bare f
  bare-with_tree n empty = refl
  bare-with_tree n (node x kids rest) =
      elim (same_or x.number n) [
        | same e t ↦ rw t (rw (keeps x, bare-map kids, bare-with_tree n rest) refl)
        | apart ne t ↦ rw t (rw (bare-with_tree n kids, bare-with_tree n rest) refl)
      ]

  pub map-alike : (f : Forest Content) → IsAlike f (map_nodes h f)
  map-alike f = record { bare_same = bare-map f }

  -- the nodes of one number changed
  pub with_node-alike : (n : ℕ) (f : Forest Content) → IsAlike f (with_node n h f)
  with_node-alike n f = record { bare_same = bare-with_node n f }

  -- the trees of a number changed
  pub with_tree-alike : (n : ℕ) (f : Forest Content) → IsAlike f (with_tree n (map_nodes h) f)
  with_tree-alike n f = record { bare_same = bare-with_tree n f }
