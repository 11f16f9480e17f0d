-- Changes of the nodes of one number that agree on the node that stands in the forest.
use Rattle.std.proofs.Common.{◌≡◌, ℕ, List, Option, Some, None, IsSome, refl, ap, sym, ◌∙◌, subst, IfSome}
use Rattle.std.proofs.lemmas.Bool.{false≢true}
use Rattle.dom_model.specs.Definitions.{Attribute, Content, content_in, with_data, with_attributes, Entry, Node, Forest, empty, node, entry_in, HasNode, with_node, EachNode, Lies}
use Rattle.dom_model.proofs.PlainLists.Numbers.{same_or, same, apart}
use Rattle.dom_model.proofs.Forests.{Totals.IsOnce, Entries.Lies-entry_in}

module _ {X : Type 0} where
  with_node-lies : (n : ℕ) (h k : Node X → Node X) (at : (ℕ → Option (Entry (Node X)))) → ((e : Entry (Node X)) → at n ≡ Some e → h e.value ≡ k e.value) → (q : Option ℕ) (f : Forest X) → Lies at q f → with_node n h f ≡ with_node n k f
  with_node-lies n h k at agree q empty l = refl
  with_node-lies n h k at agree q (node x kids rest) l =
      let a = with_node-lies n h k at agree (Some x.number) kids l.1 in
      let b = with_node-lies n h k at agree q rest l.2 in
      elim (same_or x.number n) [
        | same e t ↦ rw t (λ i. node (agree _ (ap at (sym e) ∙ l.0) i) (a i) (b i))
        | apart ne t ↦ rw t (λ i. node x (a i) (b i))
      ]

  pub with_node-agree : (f : Forest X) → IsOnce f → (n : ℕ) (h k : Node X → Node X) → ((e : Entry (Node X)) → entry_in f n ≡ Some e → h e.value ≡ k e.value) → with_node n h f ≡ with_node n k f
  with_node-agree f o n h k agree = with_node-lies n h k (entry_in f) agree None f (Lies-entry_in f o)

  with_node-same : (n : ℕ) (f : Forest X) → with_node n (λ x. x) f ≡ f
  with_node-same n empty = refl
  with_node-same n (node x kids rest) =
      elim (same_or x.number n) [
        | same e t ↦ rw t (λ i. node x (with_node-same n kids i) (with_node-same n rest i))
        | apart ne t ↦ rw t (λ i. node x (with_node-same n kids i) (with_node-same n rest i))
      ]

  -- a change that leaves that node as it is
  pub with_node-stays : (f : Forest X) → IsOnce f → (n : ℕ) (h : Node X → Node X) → ((e : Entry (Node X)) → entry_in f n ≡ Some e → h e.value ≡ e.value) → with_node n h f ≡ f
  with_node-stays f o n h agree = with_node-agree f o n h (λ x. x) agree ∙ with_node-same n f

  -- what holds of each node, and of each that is changed
  pub EachNode-with_node : (P Q : Node X → Type 0) (n : ℕ) (h : Node X → Node X) → ((x : Node X) → P x → Q x) → ((x : Node X) → P x → Q (h x)) → (f : Forest X) → EachNode P f → EachNode Q (with_node n h f)
  EachNode-with_node P Q n h a b empty w = tt
  EachNode-with_node P Q n h a b (node x kids rest) w =
      let u = EachNode-with_node P Q n h a b kids w.1 in
      let v = EachNode-with_node P Q n h a b rest w.2 in
      elim (same_or x.number n) [
        | same e t ↦ rw t (b x w.0, u, v)
        | apart ne t ↦ rw t (a x w.0, u, v)
      ]

-- The contents of a node, written anew with one part changed.
module _ (f : Forest Content) (o : IsOnce f) (n : ℕ) (v : Content) where
  at_body : IfSome (entry_in f n) (λ e. v ≡ e.value.body) → (e : Entry (Node Content)) → entry_in f n ≡ Some e → v ≡ e.value.body
  at_body h e p = subst (λ (r : Option (Entry (Node Content))). IfSome r (λ (d : Entry (Node Content)). v ≡ d.value.body)) p h

  pub data-written : IfSome (entry_in f n) (λ e. v ≡ e.value.body) → (text : List ℕ) → with_node n (λ x. record x { body = record v { text = text } }) f ≡ with_node n (with_data text) f
  data-written h text = with_node-agree f o n (λ x. record x { body = record v { text = text } }) (with_data text) (λ e p. ap (λ (b : Content). record e.value { body = record b { text = text } }) (at_body h e p))

  pub attributes-written : IfSome (entry_in f n) (λ e. v ≡ e.value.body) → (attributes : List Attribute) → with_node n (λ x. record x { body = record v { attributes = attributes } }) f ≡ with_node n (with_attributes attributes) f
  attributes-written h attributes = with_node-agree f o n (λ x. record x { body = record v { attributes = attributes } }) (with_attributes attributes) (λ e p. ap (λ (b : Content). record e.value { body = record b { attributes = attributes } }) (at_body h e p))

  -- the same contents
  pub body-written : IfSome (entry_in f n) (λ e. v ≡ e.value.body) → with_node n (λ x. record x { body = v }) f ≡ f
  body-written h = with_node-stays f o n (λ x. record x { body = v }) (λ e p. ap (λ (b : Content). record e.value { body = b }) (at_body h e p))

  pub content-read : HasNode f n → IfSome (entry_in f n) (λ e. v ≡ e.value.body) → v ≡ content_in (entry_in f n)
  content-read held h = go (entry_in f n) held h
    where
      go : (r : Option (Entry (Node Content))) → IsSome r → IfSome r (λ e. v ≡ e.value.body) → v ≡ content_in r
      go None s k = absurd (false≢true s)
      go (Some e) s k = k
