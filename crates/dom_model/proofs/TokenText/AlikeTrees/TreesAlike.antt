-- Forests that the token texts cannot tell apart: the same entries but for node documents and attributes, the roots in any order.
use Rattle.std.proofs.Common.{◌≡◌, ℕ, ◌<◌, ◌≤◌, ◌==◌, if◌then◌else◌, [], ◌∷◌, Option, Some, None, option_map, refl, ap, ◌∙◌, arith}
use Rattle.dom_model.specs.Definitions.{or_else, Entry, parent_in, children_in, Node, Forest, empty, node, total, occurs, tops, beside, tree_at, without, map_nodes, entry_under, entry_in, parent_of, children_of, Content, Childless}
use Rattle.dom_model.proofs.TokenText.AlikeTrees.WaysToTrees.{along}
use Rattle.dom_model.proofs.PlainLists.Numbers.{same_or, same, apart}
use Rattle.dom_model.proofs.Forests.{Totals.tree_at-absent, Totals.beside-empty, Entries.entry_under-absent}

-- a node as the token texts know it
abbrev pub bare : Node Content → Node Content
bare x = record x { document = 0; body = record { text = x.body.text; attributes = [] } }

abbrev pub bared : Forest Content → Forest Content
bared f = map_nodes bare f

abbrev pub bare_entry : Entry (Node Content) → Entry (Node Content)
bare_entry e = record { value = bare e.value; parent = e.parent; children = e.children }

-- the trees of the one are those of the other
pub record Alike (g f : Forest Content) : Type 0 where
  pub entries : (n : ℕ) → entry_in g n ≡ option_map bare_entry (entry_in f n)
  pub numbers : (n : ℕ) → occurs n g ≡ occurs n f
  pub childless : Childless g

-- the tree of a number, and its entry
pub record Top {X : Type 0} (n : ℕ) (f : Forest X) (entry : Option (Entry (Node X))) : Type 0 where
  pub top : Node X
  pub kids : Forest X
  pub parent : Option ℕ
  pub named : top.number ≡ n
  pub at : tree_at n f ≡ node top kids empty
  pub told : entry ≡ Some (record { value = top; parent = parent; children = tops kids })

module _ {X : Type 0} where
  -- the same tree and entry in another forest
  top_as : (n : ℕ) (f g : Forest X) (a b : Option (Entry (Node X))) → tree_at n g ≡ tree_at n f → b ≡ a → Top n f a → Top n g b
  top_as n f g a b s e i = record { top = i.top; kids = i.kids; parent = i.parent; named = i.named; at = s ∙ i.at; told = e ∙ i.told }

  pub top_of : (above : Option ℕ) (n : ℕ) (f : Forest X) → ((m : ℕ) → occurs m f ≤ 1) → 0 < occurs n f → Top n f (entry_under above n f)
  top_of above n f o h =
      along n (tree_at n f) (λ g. (above : Option ℕ) → Top n g (entry_under above n g))
      (λ x kids rest o d t k z e above. record { top = x; kids = kids; parent = above; named = d; at = rw (t, tree_at-absent n rest z) refl; told = rw t refl })
      (λ x kids rest o t h z e i above.
      let j = i (Some x.number) in
      top_as n kids (node x kids rest) (entry_under (Some x.number) n kids) (entry_under above n (node x kids rest))
      (rw (t, tree_at-absent n rest z) (beside-empty (tree_at n kids))) (rw (t, j.told) refl) j)
      (λ x kids rest o t k e i above.
      top_as n rest (node x kids rest) (entry_under above n rest) (entry_under above n (node x kids rest)) (rw (t, tree_at-absent n kids k) refl)
      (rw (t, entry_under-absent (Some x.number) n kids k) refl) (i above)) f o h refl above

pub tops-bared : (f : Forest Content) → tops (bared f) ≡ tops f
tops-bared empty = refl
tops-bared (node x kids rest) = ap (λ ns. x.number ∷ ns) (tops-bared rest)

pub total-bared : (w : ℕ → ℕ) (f : Forest Content) → total w (bared f) ≡ total w f
total-bared w empty = refl
total-bared w (node x kids rest) = omega (arith, total-bared w kids, total-bared w rest)

pub or_else-map : (a b : Option (Entry (Node Content))) → or_else (option_map bare_entry a) (option_map bare_entry b) ≡ option_map bare_entry (or_else a b)
or_else-map None b = refl
or_else-map (Some e) b = refl

pub entry_under-bared : (q : Option ℕ) (n : ℕ) (f : Forest Content) → entry_under q n (bared f) ≡ option_map bare_entry (entry_under q n f)
entry_under-bared q n empty = refl
entry_under-bared q n (node x kids rest) =
    elim (same_or x.number n) [
      | same d t ↦ rw (t, tops-bared kids) refl
      | apart ne t ↦ rw (t, entry_under-bared (Some x.number) n kids, entry_under-bared q n rest) (or_else-map (entry_under (Some x.number) n kids) (entry_under q n rest))
    ]

-- Parts without children under character data.

pub Childless-beside : (f g : Forest Content) → Childless f → Childless g → Childless (beside f g)
Childless-beside empty g c d = d
Childless-beside (node x kids rest) g c d = (c.0, c.1, Childless-beside rest g c.2 d)

pub Childless-tree_at : (n : ℕ) (f : Forest Content) → Childless f → Childless (tree_at n f)
Childless-tree_at n empty c = tt
Childless-tree_at n (node x kids rest) c =
    elim (same_or x.number n) [
      | same d t ↦ rw t (c.0, c.1, Childless-tree_at n rest c.2)
      | apart ne t ↦ rw t (Childless-beside (tree_at n kids) (tree_at n rest) (Childless-tree_at n kids c.1) (Childless-tree_at n rest c.2))
    ]

pub Childless-without : (n : ℕ) (f : Forest Content) → Childless f → Childless (without n f)
Childless-without n empty c = tt
Childless-without n (node x kids rest) c =
    elim (same_or x.number n) [
      | same d t ↦ rw t (Childless-without n rest c.2)
      | apart ne t ↦ rw t ((λ v. ap (without n) (c.0 v)), Childless-without n kids c.1, Childless-without n rest c.2)
    ]

pub Childless-bared : (f : Forest Content) → Childless f → Childless (bared f)
Childless-bared empty c = tt
Childless-bared (node x kids rest) c = ((λ v. ap bared (c.0 v)), Childless-bared kids c.1, Childless-bared rest c.2)

-- A forest without node documents and attributes is like it.
pub bared-alike : (f : Forest Content) → Childless f → Alike (bared f) f
bared-alike f c = record { entries = λ n. entry_under-bared None n f; numbers = λ n. total-bared (λ m. if m == n then 1 else 0) f; childless = Childless-bared f c }

parent-bare : (e : Option (Entry (Node Content))) → parent_in (option_map bare_entry e) ≡ parent_in e
parent-bare None = refl
parent-bare (Some e) = refl

children-bare : (e : Option (Entry (Node Content))) → children_in (option_map bare_entry e) ≡ children_in e
children-bare None = refl
children-bare (Some e) = refl

module _ (g f : Forest Content) (alike : Alike g f) where
  pub alike-parent : (n : ℕ) → parent_of g n ≡ parent_of f n
  alike-parent n = ap parent_in (alike.entries n) ∙ parent-bare (entry_in f n)

  pub alike-children : (n : ℕ) → children_of g n ≡ children_of f n
  alike-children n = ap children_in (alike.entries n) ∙ children-bare (entry_in f n)
