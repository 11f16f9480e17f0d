-- A new Text behind the one that is split: what it is asked, and where it comes to stand.
use Rattle.std.proofs.Common.{◌≡◌, ℕ, ◌+◌, ◌-◌, ◌<◌, ◌≤◌, true, false, List, [], length, Some, ap, sym, ◌∙◌, subst, arith, IfSome}
use Rattle.dom_model.specs.declared.Kind.TheVariants.{Text}
use Rattle.dom_model.specs.Definitions.{Forest, empty, node, HasNode, occurs, entry_in, parent_of, children_of, next_of, index_of, Content, is_of_kind, document_in, insert, node_document, made_node, named, with_text, data_of, IsInsertable}
use Rattle.dom_model.specs.Worlds.World as model
use Rattle.dom_model.proofs.Forests.Entries.{occurs-HasNode, HasNode-occurs}
use Rattle.dom_model.proofs.Worlds.Measured.{entry-beside, parent-beside}
use Rattle.dom_ranges.specs.Tables.{IsCovered}
use Rattle.dom_edit.specs.{declared.world.World.World, Whole.IsWhole, Whole.Keeps, Whole.Follows, Whole.unwatched}
use Rattle.dom_edit.proofs.FollowsLemmas.{keeps-unwatched}
use Rattle.dom_data.specs.Tails.{IsTail, HasNextSibling}
use Rattle.dom_data.proofs.{IsWholeLemmas.sound-unwatched, TextHeldLemmas.text-held, MovedTail.drop-all}
use Rattle.dom_data.proofs.SoundPartingLemmas as parting

-- an empty Text was made
pub is-tail : (old v : World) (n d id : ℕ) (units : List ℕ) → IsWhole old → is_of_kind Text old.tree.forest n ≡ true
    → d ≡ document_in (entry_in old.tree.forest n) → id ≡ old.tree.made → units ≡ []
    → Follows old v (made_node d (named Text []) (with_text units)) → IsTail v n id
is-tail old v n d id units h text document number nothing f = record {
  before = unwatched old;
  sound = sound-unwatched old h;
  text = text;
  number = number;
  keeps = subst (Keeps v) (λ i. made_node (document i) (named Text []) (with_text (nothing i)) (unwatched old)) (f.keeps (unwatched old) (keeps-unwatched old));
}

-- a node of a whole world is covered
pub covered-there : (v : World) → IsWhole v → (n : ℕ) → 0 < occurs n v.tree.forest → IsCovered v.ranges n
covered-there v h n k = h.covered.held n (HasNode-occurs v.tree.forest n k)

module _ (v : World) (n id : ℕ) (t : IsTail v n id) where
  -- the Text before the new one came: all of it is kept, so that the new one is empty
  abbrev w : model.World
  w = t.before

  abbrev whole : ℕ
  whole = length (data_of t.before n)

  hn : 0 < occurs n t.before.forest
  hn = occurs-HasNode t.before.forest n (text-held t.before.forest n t.text)

  pub held-behind : HasNode v.tree.forest n
  held-behind =
      let there = entry-beside t.before.forest (node (record { number = t.before.made; document = node_document t.before n; label = named Text []; body = with_text [] }) empty empty) n hn in
      subst (λ (f : Forest Content). HasNode f n) t.keeps.forest (rw there (text-held t.before.forest n t.text))

  module _ (parent : ℕ) (par : parent_of v.tree.forest n ≡ Some parent) where
    par-before : parent_of t.before.forest n ≡ Some parent
    par-before =
        sym (parent-beside t.before.forest (node (record { number = t.before.made; document = node_document t.before n; label = named Text []; body = with_text [] }) empty empty) n hn)
        ∙ ap (λ f. parent_of f n) t.keeps.forest ∙ par

    abbrev made : model.World
    made = parting.made n parent whole t.before t.sound hn t.text par-before (omega arith)

    keeps-made : Keeps v made
    keeps-made = subst (λ units. Keeps v (made_node (node_document t.before n) (named Text []) (with_text units) t.before)) (sym (drop-all (data_of t.before n))) t.keeps

    pub insertable-new : IsInsertable v.tree.forest id parent (next_of v.tree.forest n)
    insertable-new =
        subst (λ m. IsInsertable v.tree.forest m parent (next_of v.tree.forest n)) (sym t.number)
        (subst (λ (f : Forest Content). IsInsertable f t.before.made parent (next_of f n)) keeps-made.forest (parting.insertable n parent whole t.before t.sound hn t.text par-before (omega arith)))

    module _ (mid : World) (inserted : Follows v mid (insert false id parent (next_of v.tree.forest n))) where
      inserted-new : Follows v mid (insert false t.before.made parent (next_of made.forest n))
      inserted-new = subst (Follows v mid) (λ i. insert false (t.number i) parent (next_of (sym keeps-made.forest i) n)) inserted

      pub parent-mid : parent_of mid.tree.forest n ≡ parent_of v.tree.forest n
      parent-mid = parting.parent-behind n parent whole t.before t.sound hn t.text par-before (omega arith) v mid keeps-made inserted-new ∙ sym par

      pub room-mid : HasNextSibling mid.tree.forest n
      room-mid =
          subst (λ p. IfSome p (λ q. index_of mid.tree.forest n + 2 ≤ length (children_of mid.tree.forest q))) (sym (parent-mid ∙ par))
          (parting.room-behind n parent whole t.before t.sound hn t.text par-before (omega arith) v mid keeps-made inserted-new)
