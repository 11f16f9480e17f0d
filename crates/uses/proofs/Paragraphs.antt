-- A world that is made step by step: what it keeps after each.
use Rattle.std.proofs.Common.{◌≡◌, ℕ, List, [], subst, codes}
use Rattle.dom_model.specs.declared.Kind.TheVariants.{Element, Text}
use Rattle.dom_model.specs.Definitions.{Label, Forest, Content, first_world, made_node, named, with_text, append}
use Rattle.dom_model.specs.Worlds.World as model
use Rattle.dom_edit.specs.{declared.world.World.World, Whole.Keeps, Whole.Follows}
use Rattle.uses.specs.Paragraph.{empty_paragraph, paragraph}

-- what holds of the forest of a world that is kept
pub of_kept : (P : Forest Content → Type 0) (v : World) (w : model.World) → Keeps v w → P w.forest → P v.tree.forest
of_kept P v w k h = subst P k.forest h

abbrev pub with_element : model.World
with_element = made_node 0 (named Element (codes "p")) (with_text []) first_world

abbrev pub with_both : List ℕ → model.World
with_both text = made_node 0 (named Text []) (with_text text) empty_paragraph

pub keeps-made : (v new : World) (w : model.World) (d : ℕ) (label same_label : Label) (body same_body : Content) → d ≡ 0 → label ≡ same_label → body ≡ same_body
    → Keeps v w → Follows v new (made_node d label body) → Keeps new (made_node 0 same_label same_body w)
keeps-made v new w d label same_label body same_body is_d is_label is_body k f =
    subst (λ n. Keeps new (made_node n same_label same_body w)) is_d
    (subst (λ l. Keeps new (made_node d l same_body w)) is_label
    (subst (λ b. Keeps new (made_node d label b w)) is_body (f.keeps w k)))

pub keeps-appended : (v new : World) (w : model.World) (node parent n p : ℕ) → node ≡ n → parent ≡ p → Keeps v w → Follows v new (append node parent) → Keeps new (append n p w)
keeps-appended v new w node parent n p is_node is_parent k f =
    subst (λ m. Keeps new (append m p w)) is_node (subst (λ m. Keeps new (append node m w)) is_parent (f.keeps w k))

pub keeps-element : (v : World) → Keeps v (append 1 0 with_element) → Keeps v empty_paragraph
keeps-element v k = record {
  forest = k.forest;
  made = k.made;
  ranges = k.ranges;
  static_ranges = k.static_ranges;
  iterators = k.iterators;
  walkers = k.walkers;
}

pub keeps-paragraph : (v : World) (text : List ℕ) → Keeps v (append 2 1 (with_both text)) → Keeps v (paragraph text)
keeps-paragraph v text k = record {
  forest = k.forest;
  made = k.made;
  ranges = k.ranges;
  static_ranges = k.static_ranges;
  iterators = k.iterators;
  walkers = k.walkers;
}
