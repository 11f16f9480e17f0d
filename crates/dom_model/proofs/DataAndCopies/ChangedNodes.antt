-- A change of the nodes of one number beside cuts, and changes of data that come to nothing.
use Rattle.std.proofs.Common.{◌≡◌, ℕ, ◌≤◌, ◌==◌, nat_lt, Bool, true, false, if◌then◌else◌, List, Option, Some, None, refl, ap, sym, ◌∙◌}
use Rattle.dom_model.specs.Definitions.{Entry, Node, Forest, empty, node, occurs, beside, tree_at, without, placed_root, cut, with_node, entry_in, Content, content_in, with_data, Lies}
use Rattle.dom_model.proofs.PlainLists.Numbers.{same_or, same, apart}
use Rattle.dom_model.proofs.Forests.Entries.{Lies-entry_in}

module _ (t : ℕ) (h : Node Content → Node Content) (number : (x : Node Content) → (h x).number ≡ x.number) where
  numbered : (x : Node Content) (v : Bool) → (if v then h x else x).number ≡ x.number
  numbered x true = number x
  numbered x false = refl

  beside-with_node : (f g : Forest Content) → with_node t h (beside f g) ≡ beside (with_node t h f) (with_node t h g)
  beside-with_node empty g = refl
  beside-with_node (node x kids rest) g = ap (node (if x.number == t then h x else x) (with_node t h kids)) (beside-with_node rest g)

  tree_at-with_node : (c : ℕ) (f : Forest Content) → tree_at c (with_node t h f) ≡ with_node t h (tree_at c f)
  tree_at-with_node c empty = refl
  tree_at-with_node c (node x kids rest) =
      let e = ap (λ k. k == c) (numbered x (x.number == t)) in
      elim (same_or x.number c) [
        | same _ u ↦ rw (e, u) (rw (tree_at-with_node c rest) refl)
        | apart _ u ↦ rw (e, u) (rw (tree_at-with_node c kids, tree_at-with_node c rest) (sym (beside-with_node (tree_at c kids) (tree_at c rest))))
      ]

  without-with_node : (c : ℕ) (f : Forest Content) → without c (with_node t h f) ≡ with_node t h (without c f)
  without-with_node c empty = refl
  without-with_node c (node x kids rest) =
      let e = ap (λ k. k == c) (numbered x (x.number == t)) in
      elim (same_or x.number c) [
        | same _ u ↦ rw (e, u) (without-with_node c rest)
        | apart _ u ↦ rw (e, u) (rw (without-with_node c kids, without-with_node c rest) refl)
      ]

  root-with_node : (c : ℕ) (g f : Forest Content) → placed_root c (with_node t h g) (with_node t h f) ≡ with_node t h (placed_root c g f)
  root-with_node c g empty = refl
  root-with_node c g (node x kids rest) =
      let e = ap (λ k. nat_lt c k) (numbered x (x.number == t)) in
      ap (λ b. if b then beside (with_node t h g) (with_node t h (node x kids rest)) else node (if x.number == t then h x else x) (with_node t h kids) (placed_root c (with_node t h g) (with_node t h rest))) e
      ∙ go (nat_lt c x.number) (root-with_node c g rest)
    where
      go : (b : Bool) → placed_root c (with_node t h g) (with_node t h rest) ≡ with_node t h (placed_root c g rest)
          → (if b then beside (with_node t h g) (with_node t h (node x kids rest)) else node (if x.number == t then h x else x) (with_node t h kids) (placed_root c (with_node t h g) (with_node t h rest)))
          ≡ with_node t h (if b then beside g (node x kids rest) else node x kids (placed_root c g rest))
      go true i = sym (beside-with_node g (node x kids rest))
      go false i = ap (node (if x.number == t then h x else x) (with_node t h kids)) i

  -- a cut, before or after
  pub cut-with_node : (c : ℕ) (f : Forest Content) → cut c (with_node t h f) ≡ with_node t h (cut c f)
  cut-with_node c f = rw (tree_at-with_node c f, without-with_node c f) (root-with_node c (tree_at c f) (without c f))

-- other data in place of other data
pub data-twice : (t : ℕ) (last first : List ℕ) (f : Forest Content) → with_node t (with_data last) (with_node t (with_data first) f) ≡ with_node t (with_data last) f
data-twice t last first empty = refl
data-twice t last first (node x kids rest) = rw (data-twice t last first kids, data-twice t last first rest) (ap (λ y. node y (with_node t (with_data last) kids) (with_node t (with_data last) rest)) (go (x.number == t) refl))
  where
    go : (v : Bool) → (x.number == t) ≡ v → (if (if v then with_data first x else x).number == t then with_data last (if v then with_data first x else x) else (if v then with_data first x else x)) ≡ (if v then with_data last x else x)
    go true e = rw e refl
    go false e = rw e refl

-- the data that it has
data-lies : (at : (ℕ → Option (Entry (Node Content)))) (q : Option ℕ) (t : ℕ) (units : List ℕ) (f : Forest Content) → Lies at q f → (content_in (at t)).text ≡ units → with_node t (with_data units) f ≡ f
data-lies at q t units empty l e = refl
data-lies at q t units (node x kids rest) l e =
    elim (same_or x.number t) [
      | same d u ↦
          let k : x.body.text ≡ units = sym (ap (λ o. (content_in o).text) l.0) ∙ ap (λ m. (content_in (at m)).text) d ∙ e in
          rw (u, data-lies at (Some x.number) t units kids l.1 e, data-lies at q t units rest l.2 e, ← k) refl
      | apart _ u ↦ rw (u, data-lies at (Some x.number) t units kids l.1 e, data-lies at q t units rest l.2 e) refl
    ]

pub data-same : (t : ℕ) (units : List ℕ) (f : Forest Content) → ((m : ℕ) → occurs m f ≤ 1) → (content_in (entry_in f t)).text ≡ units → with_node t (with_data units) f ≡ f
data-same t units f o e = data-lies (entry_in f) None t units f (Lies-entry_in f o) e
