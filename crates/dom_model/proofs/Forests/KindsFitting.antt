-- Each node still stands where its kind may.
use Rattle.std.proofs.Common.{arith, ◌≡◌, ℕ, ◌==◌, true, false, nat_lt, if◌then◌else◌, Option, Some, None, refl, ap, sym, ◌∙◌, subst}
use Rattle.dom_model.specs.Definitions.{is_number, Entry, Label, may_stand_under, may_stand_in, Node, Forest, empty, node, beside, tree_at, without, placed_under, placed_before, placed_root, tops, cut, with_node, KindsFit, Lies}
use Rattle.dom_model.specs.declared.Kind.{Kind}
use Rattle.dom_model.proofs.PlainLists.Numbers.{same_or, same, apart}

module _ {X : Type 0} where
  value_of : (d e : Entry (Node X)) → Some d ≡ Some e → d.value ≡ e.value
  value_of d e i = grind arith

  pub KindsFit-beside : (q : Option Kind) (f g : Forest X) → KindsFit q f → KindsFit q g → KindsFit q (beside f g)
  KindsFit-beside q empty g k l = l
  KindsFit-beside q (node x kids rest) g k l = (k.0, k.1, KindsFit-beside q rest g k.2 l)

  pub KindsFit-placed_root : (q : Option Kind) (n : ℕ) (t f : Forest X) → KindsFit q t → KindsFit q f → KindsFit q (placed_root n t f)
  KindsFit-placed_root q n t empty k l = k
  KindsFit-placed_root q n t (node x kids rest) k l =
      elim (nat_lt n x.number) as (λ v. KindsFit q (if v then beside t (node x kids rest) else node x kids (placed_root n t rest))) [
        | true ↦ KindsFit-beside q t (node x kids rest) k l
        | false ↦ (l.0, l.1, KindsFit-placed_root q n t rest k l.2)
      ]

  pub KindsFit-placed_before : (q : Option Kind) (b : Option ℕ) (t f : Forest X) → KindsFit q t → KindsFit q f → KindsFit q (placed_before b t f)
  KindsFit-placed_before q b t empty k l = k
  KindsFit-placed_before q b t (node x kids rest) k l =
      elim (is_number b x.number) as (λ v. KindsFit q (if v then beside t (node x kids rest) else node x kids (placed_before b t rest))) [
        | true ↦ KindsFit-beside q t (node x kids rest) k l
        | false ↦ (l.0, l.1, KindsFit-placed_before q b t rest k l.2)
      ]

  pub KindsFit-without : (q : Option Kind) (n : ℕ) (f : Forest X) → KindsFit q f → KindsFit q (without n f)
  KindsFit-without q n empty k = tt
  KindsFit-without q n (node x kids rest) k =
      elim (x.number == n) as (λ v. KindsFit q (if v then without n rest else node x (without n kids) (without n rest))) [
        | true ↦ KindsFit-without q n rest k.2
        | false ↦ (k.0, KindsFit-without (Some x.label.kind) n kids k.1, KindsFit-without q n rest k.2)
      ]

  -- a tree that is taken out is a root, and every kind may be one
  pub KindsFit-root : (q : Option Kind) (n : ℕ) (f : Forest X) → KindsFit q f → KindsFit None (tree_at n f)
  KindsFit-root q n empty k = tt
  KindsFit-root q n (node x kids rest) k =
      elim (x.number == n) as (λ v. KindsFit None (if v then node x kids (tree_at n rest) else beside (tree_at n kids) (tree_at n rest))) [
        | true ↦ (refl, k.1, KindsFit-root q n rest k.2)
        | false ↦ KindsFit-beside None (tree_at n kids) (tree_at n rest) (KindsFit-root (Some x.label.kind) n kids k.1) (KindsFit-root q n rest k.2)
      ]

  pub KindsFit-cut : (n : ℕ) (f : Forest X) → KindsFit None f → KindsFit None (cut n f)
  KindsFit-cut n f k = KindsFit-placed_root None n (tree_at n f) (without n f) (KindsFit-root None n f k) (KindsFit-without None n f k)

  -- a tree under a parent whose kind lets its top stand there
  pub KindsFit-under : (at : (ℕ → Option (Entry (Node X)))) (c : ℕ) (e : Entry (Node X)) (kind : Kind) → at c ≡ Some e → may_stand_in kind e.value.label.kind ≡ true → (p : Option ℕ) (q : Option Kind) (f : Forest X) → Lies at p f → KindsFit q f → KindsFit (Some kind) (tree_at c f)
  KindsFit-under at c e kind h m p q empty l k = tt
  KindsFit-under at c e kind h m p q (node x kids rest) l k =
      elim (same_or x.number c) [
        | same d t ↦ rw t (kind_of d, k.1, KindsFit-under at c e kind h m p q rest l.2 k.2)
        | apart ne t ↦ rw t (KindsFit-beside (Some kind) (tree_at c kids) (tree_at c rest) (KindsFit-under at c e kind h m (Some x.number) (Some x.label.kind) kids l.1 k.1) (KindsFit-under at c e kind h m p q rest l.2 k.2))
      ]
    where
      value_is : x.number ≡ c → e.value ≡ x
      value_is d = let i : Some e ≡ Some (record { value = x; parent = p; children = tops kids }) = sym h ∙ sym (ap at d) ∙ l.0 in value_of e _ i

      kind_of : x.number ≡ c → may_stand_in kind x.label.kind ≡ true
      kind_of d = subst (λ (y : Node X). may_stand_in kind y.label.kind ≡ true) (value_is d) m

  pub KindsFit-placed_under : (at : (ℕ → Option (Entry (Node X)))) (c : ℕ) (e : Entry (Node X)) (b : Option ℕ) (t : Forest X) → at c ≡ Some e → KindsFit (Some e.value.label.kind) t → (p : Option ℕ) (q : Option Kind) (f : Forest X) → Lies at p f → KindsFit q f → KindsFit q (placed_under c b t f)
  KindsFit-placed_under at c e b t h m p q empty l k = tt
  KindsFit-placed_under at c e b t h m p q (node x kids rest) l k =
      let below = KindsFit-placed_under at c e b t h m (Some x.number) (Some x.label.kind) kids l.1 k.1 in
      let after = KindsFit-placed_under at c e b t h m p q rest l.2 k.2 in
      elim (same_or x.number c) [
        | same d v ↦ rw v (k.0, KindsFit-placed_before (Some x.label.kind) b t (placed_under c b t kids) (fits d) below, after)
        | apart ne v ↦ rw v (k.0, below, after)
      ]
    where
      fits : x.number ≡ c → KindsFit (Some x.label.kind) t
      fits d =
          let i : Some e ≡ Some (record { value = x; parent = p; children = tops kids }) = sym h ∙ sym (ap at d) ∙ l.0 in
          subst (λ (y : Node X). KindsFit (Some y.label.kind) t) (value_of e _ i) m

  pub KindsFit-with_node : (n : ℕ) (g : Node X → Node X) → ((x : Node X) → (g x).label ≡ x.label) → (q : Option Kind) (f : Forest X) → KindsFit q f → KindsFit q (with_node n g f)
  KindsFit-with_node n g h q empty k = tt
  KindsFit-with_node n g h q (node x kids rest) k =
      elim (x.number == n) as (λ v. KindsFit q (node (if v then g x else x) (with_node n g kids) (with_node n g rest))) [
        | true ↦ (
          subst (λ (l : Label). may_stand_under q l.kind ≡ true) (sym (h x)) k.0,
          subst (λ (l : Label). KindsFit (Some l.kind) (with_node n g kids)) (sym (h x)) (KindsFit-with_node n g h (Some x.label.kind) kids k.1),
          KindsFit-with_node n g h q rest k.2,
        )
        | false ↦ (k.0, KindsFit-with_node n g h (Some x.label.kind) kids k.1, KindsFit-with_node n g h q rest k.2)
      ]
