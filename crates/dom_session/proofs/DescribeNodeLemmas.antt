-- The answer to the question where a node stands, from what the parts of the tree say of it.
use Rattle.std.proofs.Common.{◌≡◌, ℕ, true, [], ◌∷◌, Option, Some, None, refl, sym, subst, ◌∙◌, is_some, IfSome}
use Rattle.dom_model.specs.Definitions.{Label, Entry, parent_in, Node, Forest, entry_in, parent_of, next_of, previous_of, Content, DescribeNode, NodeAt, Bounds, Step, guarded, no_node, answers, answer, described}
use Rattle.dom_model.specs.Worlds.World as model
use Rattle.dom_edit.specs.{declared.world.World.World, Whole.Shows}
use Rattle.dom_session.proofs.TreeEdits.{not-none}

module _ (n document : ℕ) (label : Label) (next parent previous : Option ℕ) where
  -- what the parts of the tree say of the node
  record IsTold (f : Forest Content) : Type 0 where
    held : is_some (entry_in f n) ≡ true
    document_is : IfSome (entry_in f n) (λ e. document ≡ e.value.document)
    label_is : IfSome (entry_in f n) (λ e. label ≡ e.value.label)
    next_is : next ≡ next_of f n
    parent_is : parent ≡ parent_of f n
    previous_is : previous ≡ previous_of f n

  described-as : (w : model.World) (o : Option (Entry (Node Content))) → is_some o ≡ true → IfSome o (λ e. document ≡ e.value.document) → IfSome o (λ e. label ≡ e.value.label) → next ≡ next_of w.forest n → parent ≡ parent_in o → previous ≡ previous_of w.forest n → described w n o ≡ answers (NodeAt (record { document = document; label = label; next = next; parent = parent; previous = previous })) w
  described-as w None h d l x p v = absurd (cc h)
  described-as w (Some e) h d l x p v = rw (d, l, x, p, v) refl

  guarded-held : (w : model.World) (s : Step) → is_some (entry_in w.forest n) ≡ true → guarded (no_node n w ∷ []) w s ≡ s
  guarded-held w s h = rw (not-none (entry_in w.forest n) h) refl

  told-node : (b : Bounds) (w : model.World) → IsTold w.forest → answer b w (DescribeNode n) ≡ answers (NodeAt (record { document = document; label = label; next = next; parent = parent; previous = previous })) w
  told-node b w t =
      guarded-held w (described w n (entry_in w.forest n)) t.held
      ∙ described-as w (entry_in w.forest n) t.held t.document_is t.label_is t.next_is t.parent_is t.previous_is

pub answer-node : (v : World) (b : Bounds) (n document : ℕ) (label : Label) (next parent previous : Option ℕ) (w : model.World) → Shows v w → is_some (entry_in v.tree.forest n) ≡ true
    → IfSome (entry_in v.tree.forest n) (λ e. document ≡ e.value.document) → IfSome (entry_in v.tree.forest n) (λ e. label ≡ e.value.label)
    → next ≡ next_of v.tree.forest n → parent ≡ parent_of v.tree.forest n → previous ≡ previous_of v.tree.forest n
    → answer b w (DescribeNode n) ≡ answers (NodeAt (record { document = document; label = label; next = next; parent = parent; previous = previous })) w
answer-node v b n document label next parent previous w shown h d l x p u =
    let P : Forest Content → Type 0 = λ f. IsTold n document label next parent previous f in
    let here : P v.tree.forest = record { held = h; document_is = d; label_is = l; next_is = x; parent_is = p; previous_is = u } in
    told-node n document label next parent previous b w (subst P (sym shown.keeps.forest) here)
