-- What is beyond an offset of a node's data, moved into another node.
use Rattle.std.proofs.Common.{◌≡◌, ℕ, ◌+◌, ◌-◌, ◌≤◌, List, [], ◌∷◌, ◌++◌, take, drop, length, Option, Some, refl, ap, sym, ◌∙◌, subst, arith, length-drop, IfSome}
use Rattle.std.proofs.lemmas.List.{append-nil}
use Rattle.dom_model.specs.Definitions.{Entry, Node, Forest, HasNode, entry_in, with_node, spliced, Content, with_text, content_in, with_data}
use Rattle.dom_model.proofs.Forests.Totals.{IsOnce}
use Rattle.dom_model.proofs.Worlds.SameShape.{with_node-alike, occurs-alike}
use Rattle.dom_data.specs.Tails.{tail_in}
use Rattle.dom_data.proofs.{ChangedBodies.with_node-agree, ChangedBodies.data-written, ChangedBodies.content-read, KeepsNumbersLemmas.tag-with_data}

drop-past : (count : ℕ) (units : List ℕ) → length units ≤ count → drop count units ≡ []
drop-past count units h = empty (drop count units) (let l = length-drop count units in omega arith)
  where
    empty : (xs : List ℕ) → length xs ≡ 0 → xs ≡ []
    empty [] e = refl
    empty (x ∷ xs) e = absurd (omega arith)

-- nothing in place of all beyond an offset leaves what is before it
spliced-off : (at : ℕ) (units : List ℕ) → at ≤ length units → spliced at (length units - at) [] units ≡ take at units
spliced-off at units h = ap (λ rest. (take at units ++ []) ++ rest) (drop-past (at + (length units - at)) units (omega arith)) ∙ append-nil (take at units ++ []) ∙ append-nil (take at units)

pub drop-all : (units : List ℕ) → drop (length units) units ≡ []
drop-all units = drop-past (length units) units (omega arith)

module _ (f : Forest Content) (o : IsOnce f) (n offset new : ℕ) (v : Content) (held : HasNode f n) (within : offset ≤ length (content_in (entry_in f n)).text) (bare : (content_in (entry_in f new)).attributes ≡ []) (read : IfSome (entry_in f n) (λ e. v ≡ e.value.body)) where
  abbrev whole : List ℕ
  whole = (content_in (entry_in f n)).text

  -- what is left of the node
  abbrev left : Forest Content
  left = with_node n (with_data (spliced offset (length whole - offset) [] whole)) f

  units : v.text ≡ whole
  units = ap (λ (b : Content). b.text) (content-read f o n v held read)

  once-left : IsOnce left
  once-left m = let e = occurs-alike (with_node-alike (with_data (spliced offset (length whole - offset) [] whole)) (λ x. refl) n f) m in let k = o m in omega arith

  bare-left : (content_in (entry_in left new)).attributes ≡ []
  bare-left = ap (λ t. t.1) (tag-with_data f n (spliced offset (length whole - offset) [] whole) new) ∙ bare

  at_entry : (g : Forest Content) → (content_in (entry_in g new)).attributes ≡ [] → (e : Entry (Node Content)) → entry_in g new ≡ Some e → e.value.body.attributes ≡ []
  at_entry g h e p = subst (λ (r : Option (Entry (Node Content))). (content_in r).attributes ≡ []) p h

  module _ (head tail : Content) (kept : head ≡ record v { text = take offset v.text }) (taken : tail ≡ with_text (drop offset v.text)) where
    head-written : with_node n (λ x. record x { body = head }) f ≡ left
    head-written =
        ap (λ (b : Content). with_node n (λ x. record x { body = b }) f) kept
        ∙ data-written f o n v read (take offset v.text)
        ∙ ap (λ text. with_node n (with_data text) f) (ap (take offset) units ∙ sym (spliced-off offset whole within))

    tail-written : with_node new (λ x. record x { body = tail }) left ≡ with_node new (with_data (drop offset whole)) left
    tail-written =
        with_node-agree left once-left new (λ x. record x { body = tail }) (with_data (drop offset whole))
        (λ e p. ap (λ (b : Content). record e.value { body = b })
        (taken ∙ (λ i. record { text = drop offset (units i); attributes = sym (at_entry left bare-left e p) i })))

    pub tail-moved : with_node new (λ x. record x { body = tail }) (with_node n (λ x. record x { body = head }) f) ≡ tail_in n offset new f
    tail-moved = ap (with_node new (λ x. record x { body = tail })) head-written ∙ tail-written
