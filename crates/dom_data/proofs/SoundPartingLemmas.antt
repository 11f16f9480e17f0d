-- A new Text may come in behind the one that is split, and both then stand under the parent.
use Rattle.std.proofs.Common.{◌≡◌, ℕ, ◌+◌, ◌<◌, ◌≤◌, true, false, not, ◌&&◌, [], ◌∷◌, length, Option, Some, None, IfSome, is_some, ap, sym, ◌∙◌, subst, arith}
use Rattle.std.proofs.lemmas.Bool.{false≢true}
use Rattle.dom_model.specs.declared.Kind.TheVariants.{Text, Document, DocumentType, DocumentFragment}
use Rattle.dom_model.specs.Definitions.{is_kind, Forest, occurs, entry_in, parent_of, children_of, next_of, index_of, Content, World, entry_has, is_of_kind, tree_record, previous_to, insert, data_of, IsSound, IsChildOf, IsInsertable}
use Rattle.dom_model.proofs.PlainLists.Places.{place-there}
use Rattle.dom_model.proofs.Forests.Indices.{child-listed, index-child}
use Rattle.dom_model.proofs.Soundness.{SoundForests.parent-passes, SoundSplitting.insert-root, SoundSplitting.new_text}
use Rattle.dom_model.proofs.Soundness.SoundSplitting as split
use Rattle.dom_edit.specs.declared.world.World as code
use Rattle.dom_edit.specs.Whole.{Keeps, Follows}

-- A Text with a parent is split.
module _ (n parent offset : ℕ) (w : World) (s : IsSound w) (hn : 0 < occurs n w.forest) (text : is_of_kind Text w.forest n ≡ true) (par : parent_of w.forest n ≡ Some parent) (within : offset ≤ length (data_of w n)) where
  abbrev pub made : World
  made = split.made n parent offset w s hn text par within

  abbrev placed : World
  placed = split.placed n parent offset w s hn text par within

  abbrev parted : Forest Content
  parted = split.parted n parent offset w s hn text par within

  sm : IsSound made
  sm = split.sm n parent offset w s hn text par within

  there-new : 0 < occurs w.made made.forest
  there-new = split.there-new n parent offset w s hn text par within

  there-old : (m : ℕ) → 0 < occurs m w.forest → 0 < occurs m made.forest
  there-old m h = split.there-old n parent offset w s hn text par within m h

  hp : 0 < occurs parent w.forest
  hp = split.hp n parent offset w s hn text par within

  entry-new : entry_in made.forest w.made ≡ Some (record { value = new_text n offset w; parent = None; children = [] })
  entry-new = split.entry-new n parent offset w s hn text par within

  root-new : parent_of made.forest w.made ≡ None
  root-new = split.root-new n parent offset w s hn text par within

  par-made : parent_of made.forest n ≡ Some parent
  par-made = split.par-made n parent offset w s hn text par within

  before_child : IsChildOf made.forest parent (next_of made.forest n)
  before_child = split.before_child n parent offset w s hn text par within

  there-parted : (m : ℕ) → 0 < occurs m made.forest → 0 < occurs m parted
  there-parted m h = split.there-parted n parent offset w s hn text par within m h

  forest_is : placed.forest ≡ parted
  forest_is = split.forest_is n parent offset w s hn text par within

  -- both Texts are counted among the children
  room-parted : index_of parted n + 2 ≤ length (children_of parted parent)
  room-parted =
      let par-new = split.par-new n parent offset w s hn text par within in
      let i = place-there w.made (children_of parted parent) (child-listed parted (split.wood n parent offset w s hn text par within).once w.made parent (there-parted w.made there-new) par-new) in
      let j = index-child parted w.made parent par-new in
      let k = split.index-after n parent offset w s hn text par within in
      omega arith

  -- what follows the old Text is not the new one
  next-apart : (b : Option ℕ) → IsChildOf made.forest parent b → IfSome b (λ d. d ≡ w.made → ⊥)
  next-apart None h = tt
  next-apart (Some d) h = λ e. false≢true (ap is_some (sym root-new ∙ ap (parent_of made.forest) (sym e) ∙ h))

  -- the new Text may be inserted behind the old one
  pub insertable : IsInsertable made.forest w.made parent (next_of made.forest n)
  insertable = record {
    there = there-new;
    parent_there = there-old parent hp;
    outside = (split.placeable n parent offset w s hn text par within).outside;
    may_hold = parent-passes sm.forest n parent par-made (there-old n hn);
    no_document = ap (entry_has (is_kind Document)) entry-new;
    doctype_fits = ap (λ v. v && not (is_of_kind Document made.forest parent)) (ap (entry_has (is_kind DocumentType)) entry-new);
    before_child = before_child;
    before_other = next-apart (next_of made.forest n) before_child;
  }

  placed_is : insert false w.made parent (next_of made.forest n) made ≡ tree_record parent (w.made ∷ []) [] (previous_to made.forest parent (next_of made.forest n)) (next_of made.forest n) placed
  placed_is = insert-root w.made parent (next_of made.forest n) made (ap (entry_has (is_kind DocumentFragment)) entry-new) root-new

  -- The worlds of the code: one that keeps the new Text, and one that has it behind the old one.
  module _ (v mid : code.World) (k : Keeps v made) (inserted : Follows v mid (insert false w.made parent (next_of made.forest n))) where
    mid_is : mid.tree.forest ≡ parted
    mid_is =
        sym (inserted.keeps made k).forest
        ∙ ap (λ (u : World). u.forest) placed_is
        ∙ forest_is

    pub parent-behind : parent_of mid.tree.forest n ≡ Some parent
    parent-behind = ap (λ (g : Forest Content). parent_of g n) mid_is ∙ split.par-parted n parent offset w s hn text par within

    pub room-behind : index_of mid.tree.forest n + 2 ≤ length (children_of mid.tree.forest parent)
    room-behind = subst (λ (g : Forest Content). index_of g n + 2 ≤ length (children_of g parent)) (sym mid_is) room-parted
