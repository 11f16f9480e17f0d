-- Texts stay those of the world where a whole tree goes.
use Rattle.std.proofs.Common.{◌≡◌, ℕ, ◌+◌, ◌<◌, ◌≤◌, nat_lt, Bool, if◌then◌else◌, List, Option, None, option_map, refl, ap, sym, ◌∙◌, arith}
use Rattle.std.proofs.lemmas.{Bool.le-ltb, Bool.Decides.nat_tests}
use Rattle.dom_model.specs.Definitions.{Entry, held, Node, Forest, occurs, one_at, tree_at, without, entry_in, parent_of, Content, World, Token, on_texts, on_world, IsReady}
use Rattle.dom_model.specs.TokenText.Tokens.{Discard}
use Rattle.dom_model.proofs.Forests.{Totals.total-tree_at, Lying.Lies-kept, Lying.Lies-without_root, Entries.Lies-entry_in, Entries.occurs-held, Entries.entry_in-Lies}
use Rattle.dom_model.proofs.TokenText.{AlikeTrees.TreesAlike.Alike, AlikeTrees.TreesAlike.bare_entry, AlikeTrees.TreesAlike.Childless-without, AlikeTrees.TreesAlike.alike-parent, AlikeTrees.TreesAlikeAfter.alike-once, AlikeTrees.TreesAlikeAfter.alike-inside, Pieces.RootTexts.root-on_top, Pieces.RootTexts.other-texts, Marked.MarkedTexts.Marked}

module _ {X : Type 0} (f : Forest X) (once : (m : ℕ) → occurs m f ≤ 1) (n : ℕ) (root : parent_of f n ≡ None) where
  abbrev gone : ℕ → Bool
  gone i = nat_lt 0 (occurs i (tree_at n f))

  abbrev left_at : ℕ → Option (Entry (Node X))
  left_at i = if gone i then None else entry_in f i

  parted_count : (i : ℕ) → occurs i (tree_at n f) + occurs i (without n f) ≡ occurs i f
  parted_count i = total-tree_at (one_at i) n f

  -- the entries of what is left where a root's tree goes
  pub entry-without_root : (i : ℕ) → entry_in (without n f) i ≡ (if nat_lt 0 (occurs i (tree_at n f)) then None else entry_in f i)
  entry-without_root i = entry_in-Lies left_at (without n f) (Lies-kept (entry_in f) left_at None (without n f) stays (Lies-without_root (entry_in f) n root f (Lies-entry_in f once))) count i
    where
      stays : (i : ℕ) → 0 < occurs i (without n f) → left_at i ≡ entry_in f i
      stays i h = let a = parted_count i in let b = once i in rw (le-ltb 0 (occurs i (tree_at n f)) (omega arith)) refl

      count : (i : ℕ) → occurs i (without n f) ≡ held (left_at i)
      count i =
          let a = parted_count i in
          let b = once i in
          let c = occurs-held f i (once i) in
          grind (arith, nat_tests)

-- a whole tree goes from both
pub alike-without : (g f : Forest Content) → Alike g f → ((m : ℕ) → occurs m f ≤ 1) → (n : ℕ) → parent_of f n ≡ None → Alike (without n g) (without n f)
alike-without g f alike once n root = record {
  entries = λ i.
      entry-without_root g (alike-once g f alike once) n (alike-parent g f alike n ∙ root) i
      ∙ ap (λ j. if nat_lt 0 j then None else entry_in g i) (alike-inside g f alike once n i)
      ∙ go (nat_lt 0 (occurs i (tree_at n f))) i
      ∙ ap (option_map bare_entry) (sym (entry-without_root f once n root i));
  numbers = λ i.
      let a = total-tree_at (one_at i) n g in
      let b = total-tree_at (one_at i) n f in
      let c = alike.numbers i in
      let d = alike-inside g f alike once n i in
      omega arith;
  childless = Childless-without n g alike.childless;
}
  where
    go : (v : Bool) (i : ℕ) → (if v then None else entry_in g i) ≡ option_map bare_entry (if v then None else entry_in f i)
    go v i = let e = alike.entries i in grind arith

-- the tree of a root goes
pub marked-discard : (texts : List (List Token)) (w : World) → Marked texts w → IsReady w → (n : ℕ) → parent_of w.forest n ≡ None → Marked (on_texts (Discard n) texts) (on_world (Discard n) w)
marked-discard texts w m ready n root = record {
  trees = without n m.trees;
  marks = m.marks;
  spelt = ap (on_texts (Discard n)) m.spelt ∙ other-texts m.marks n m.trees (root-on_top n m.trees (alike-once m.trees w.forest m.alike ready.once) (alike-parent m.trees w.forest m.alike n ∙ root));
  alike = alike-without m.trees w.forest m.alike ready.once n root;
  only = m.only;
  standing = m.standing;
}
