-- What holds of each node still does, wherever the trees go.
use Rattle.std.proofs.Common.{ℕ, true, false, if◌then◌else◌, nat_lt, Option}
use Rattle.dom_model.specs.Definitions.{is_number, Node, Forest, empty, node, beside, tree_at, without, placed_before, placed_under, placed_root, cut, put, map_nodes, with_tree, EachNode}
use Rattle.dom_model.proofs.PlainLists.Numbers.{same_or, same, apart}

module _ {X : Type 0} where
  pub EachNode-map : (P Q : (Node X → Type 0)) (h : Node X → Node X) → ((x : Node X) → P x → Q (h x)) → (f : Forest X) → EachNode P f → EachNode Q (map_nodes h f)
  EachNode-map P Q h k empty w = tt
  EachNode-map P Q h k (node x kids rest) w = (k x w.0, EachNode-map P Q h k kids w.1, EachNode-map P Q h k rest w.2)

module _ {X : Type 0} (P : Node X → Type 0) where
  pub EachNode-beside : (f g : Forest X) → EachNode P f → EachNode P g → EachNode P (beside f g)
  EachNode-beside empty g h k = k
  EachNode-beside (node x kids rest) g h k = (h.0, h.1, EachNode-beside rest g h.2 k)

  pub EachNode-tree_at : (n : ℕ) (f : Forest X) → EachNode P f → EachNode P (tree_at n f)
  EachNode-tree_at n empty h = tt
  EachNode-tree_at n (node x kids rest) h =
      elim (same_or x.number n) [
        | same e t ↦ rw t (h.0, h.1, EachNode-tree_at n rest h.2)
        | apart ne t ↦ rw t (EachNode-beside (tree_at n kids) (tree_at n rest) (EachNode-tree_at n kids h.1) (EachNode-tree_at n rest h.2))
      ]

  pub EachNode-without : (n : ℕ) (f : Forest X) → EachNode P f → EachNode P (without n f)
  EachNode-without n empty h = tt
  EachNode-without n (node x kids rest) h =
      elim (same_or x.number n) [
        | same e t ↦ rw t (EachNode-without n rest h.2)
        | apart ne t ↦ rw t (h.0, EachNode-without n kids h.1, EachNode-without n rest h.2)
      ]

  pub EachNode-placed_before : (b : Option ℕ) (g f : Forest X) → EachNode P g → EachNode P f → EachNode P (placed_before b g f)
  EachNode-placed_before b g empty k h = k
  EachNode-placed_before b g (node x kids rest) k h =
      elim (is_number b x.number) as (λ v. EachNode P (if v then beside g (node x kids rest) else node x kids (placed_before b g rest))) [
        | true ↦ EachNode-beside g (node x kids rest) k h
        | false ↦ (h.0, h.1, EachNode-placed_before b g rest k h.2)
      ]

  pub EachNode-placed_under : (p : ℕ) (b : Option ℕ) (g f : Forest X) → EachNode P g → EachNode P f → EachNode P (placed_under p b g f)
  EachNode-placed_under p b g empty k h = tt
  EachNode-placed_under p b g (node x kids rest) k h =
      let deeper = EachNode-placed_under p b g kids k h.1 in
      let later = EachNode-placed_under p b g rest k h.2 in
      elim (same_or x.number p) [
        | same e t ↦ rw t (h.0, EachNode-placed_before b g (placed_under p b g kids) k deeper, later)
        | apart ne t ↦ rw t (h.0, deeper, later)
      ]

  pub EachNode-placed_root : (n : ℕ) (g f : Forest X) → EachNode P g → EachNode P f → EachNode P (placed_root n g f)
  EachNode-placed_root n g empty k h = k
  EachNode-placed_root n g (node x kids rest) k h =
      elim (nat_lt n x.number) as (λ v. EachNode P (if v then beside g (node x kids rest) else node x kids (placed_root n g rest))) [
        | true ↦ EachNode-beside g (node x kids rest) k h
        | false ↦ (h.0, h.1, EachNode-placed_root n g rest k h.2)
      ]

  pub EachNode-cut : (c : ℕ) (f : Forest X) → EachNode P f → EachNode P (cut c f)
  EachNode-cut c f h = EachNode-placed_root c (tree_at c f) (without c f) (EachNode-tree_at c f h) (EachNode-without c f h)

  pub EachNode-put : (p c : ℕ) (b : Option ℕ) (f : Forest X) → EachNode P f → EachNode P (put p c b f)
  EachNode-put p c b f h = EachNode-placed_under p b (tree_at c f) (without c f) (EachNode-tree_at c f h) (EachNode-without c f h)

  -- a change of the trees of a number that keeps it
  pub EachNode-with_tree : (n : ℕ) (h : Node X → Node X) → ((x : Node X) → P x → P (h x)) → (f : Forest X) → EachNode P f → EachNode P (with_tree n (map_nodes h) f)
  EachNode-with_tree n h k empty w = tt
  EachNode-with_tree n h k (node x kids rest) w =
      elim (same_or x.number n) [
        | same e t ↦ rw t (k x w.0, EachNode-map P P h k kids w.1, EachNode-with_tree n h k rest w.2)
        | apart ne t ↦ rw t (w.0, EachNode-with_tree n h k kids w.1, EachNode-with_tree n h k rest w.2)
      ]
