-- What the steps of drawing contents leave of each node's data and children, and where the trees of a world stand then.
-- DOM Standard, "Interface Range": extract, clone the contents.
use Rattle.std.proofs.Common.{◌≡◌, ℕ, ◌<◌, ◌==◌, Bool, true, false, if◌then◌else◌, [], ◌∷◌, ◌++◌, length, Option, Some, None, refl, ap, sym, ◌∙◌, subst, arith, eq-eqb}
use Rattle.std.proofs.lemmas.{Bool.ne_eqb, Bool.Decides.nat_tests}
use Rattle.dom_model.specs.Definitions.{hits, Entry, children_in, Node, Forest, empty, node, occurs, beside, tree_at, entry_in, parent_of, children_of, spliced, Content, World, IsSound, is_fragment, nodes_of, append, content_in, data_of, with_data, cut_count, replace_data, renumbered, with_copies, cut_if, IsInsertable}
use Rattle.dom_model.proofs.PlainLists.Numbers.{same_or, same, apart}
use Rattle.dom_model.proofs.Forests.{Changes.change_at, Entries.Lies-entry_in, Indices.child-parent}
use Rattle.dom_model.proofs.Worlds.{SameShape.with_node-alike, SameShape.children-alike, Measured.entry-beside, Measured.parent-beside, Measured.entry-with_node}
use Rattle.dom_model.proofs.Soundness.SoundWorlds.{child_there}
use Rattle.dom_model.proofs.DataAndCopies.CopiesPlaced.{parent-copies}
use Rattle.dom_model.proofs.RangesAndContents.DrawnPaths.{if_so, if_not}
use Rattle.dom_model.proofs.MutationAlgorithms.Extending.{put_by_insert}
use Rattle.dom_model.proofs.TokenText.{Fragments.AppendedChildren.all_left_out-absent, Fragments.AppendedChildren.children-append, Fragments.StandingTrees.Stands, Fragments.StandingTrees.stands-lies, Fragments.StandingTrees.stands-beside, Fragments.StandingTrees.Keeps}

-- New trees.

stands-later : (v : World) (f g : Forest Content) → Stands v (beside f g) → Stands v g
stands-later v empty g h = h
stands-later v (node x kids rest) g h = stands-later v rest g h.2

pub stands-tree_at : (v : World) (n : ℕ) (f : Forest Content) → Stands v f → Stands v (tree_at n f)
stands-tree_at v n empty h = tt
stands-tree_at v n (node x kids rest) h =
    elim (same_or x.number n) [
      | same e t ↦ rw t (h.0, h.1, stands-tree_at v n rest h.2)
      | apart ne t ↦ rw t (stands-beside v (tree_at n kids) (tree_at n rest) (stands-tree_at v n kids h.1) (stands-tree_at v n rest h.2))
    ]

pub stands-forest : (v : World) → IsSound v → Stands v v.forest
stands-forest v s = stands-lies v None v.forest (Lies-entry_in v.forest s.forest.once)

module _ (document : ℕ) (g : Forest Content) (v : World) where
  pub keeps-copies : (x : ℕ) → 0 < occurs x v.forest → Keeps v (with_copies document g v) x
  keeps-copies x h =
      let e = entry-beside v.forest (renumbered document v.made g) x h in
      record { text = ap (λ (o : Option (Entry (Node Content))). (content_in o).text) e; children = ap children_in e }

  pub parent_kept-copies : (x : ℕ) → 0 < occurs x v.forest → parent_of (with_copies document g v).forest x ≡ parent_of v.forest x
  parent_kept-copies x h = parent-beside v.forest (renumbered document v.made g) x h

  module _ (s : IsSound v) (t : IsSound (with_copies document g v)) where
    pub stands-copies : Stands (with_copies document g v) (renumbered document v.made g)
    stands-copies = stands-later (with_copies document g v) v.forest (renumbered document v.made g) (stands-forest (with_copies document g v) t)

    -- the first of the new nodes is nobody's child
    pub unlisted-copies : (x : ℕ) → hits v.made (children_of (with_copies document g v).forest x) ≡ 0
    unlisted-copies x =
        let c = child-parent (with_copies document g v).forest t.forest.once v.made x in
        let p = parent-copies document v.made v.forest g v.made x in
        let h = child_there v.forest v.made x in
        let z = s.forest.small v.made in
        grind arith

-- What is appended.

module _ (n into : ℕ) (v : World) (s : IsSound v) (k : IsInsertable v.forest n into None) where
  pub data-kept : (x : ℕ) → 0 < occurs x v.forest → data_of (append n into v) x ≡ data_of v x
  data-kept x h = let i = put_by_insert false n into None v s k in i.extends.texts x h

  -- where none of what comes in is a child of the node
  children-far : (x : ℕ) → 0 < occurs x v.forest → ((m : ℕ) → 0 < hits m (nodes_of v n) → hits m (children_of v.forest x) ≡ 0) → children_of (append n into v).forest x ≡ (if x == into then children_of v.forest x ++ nodes_of v n else children_of v.forest x)
  children-far x h far =
      children-append n into v s k x h
      ∙ ap (λ xs. if x == into then xs ++ nodes_of v n else xs) (all_left_out-absent (nodes_of v n) (children_of v.forest x) far)

  module _ (alone : is_fragment v n ≡ false) where
    abbrev itself_alone : nodes_of v n ≡ n ∷ []
    itself_alone = if_not (is_fragment v n) (children_of v.forest n) (n ∷ []) alone

    far-alone : (x : ℕ) → hits n (children_of v.forest x) ≡ 0 → (m : ℕ) → 0 < hits m (nodes_of v n) → hits m (children_of v.forest x) ≡ 0
    far-alone x z m h =
        let j : 0 < hits m (n ∷ []) = subst (λ ns. 0 < hits m ns) itself_alone h in
        grind (arith, nat_tests)

    pub keeps-alone : (x : ℕ) → 0 < occurs x v.forest → (x ≡ into → ⊥) → hits n (children_of v.forest x) ≡ 0 → Keeps v (append n into v) x
    keeps-alone x h ne z = record {
      text = data-kept x h;
      children = children-far x h (far-alone x z) ∙ rw (ne_eqb x into ne) refl;
    }

    pub added-alone : hits n (children_of v.forest into) ≡ 0 → children_of (append n into v).forest into ≡ children_of v.forest into ++ (n ∷ [])
    added-alone z =
        children-far into k.parent_there (far-alone into z)
        ∙ (rw (eq-eqb into into refl) refl)
        ∙ ap (λ ns. children_of v.forest into ++ ns) itself_alone

    -- each other node has the parent that it had
    pub parent_kept-alone : (x : ℕ) → 0 < occurs x v.forest → (x ≡ n → ⊥) → parent_of (append n into v).forest x ≡ parent_of v.forest x
    parent_kept-alone x h ne =
        let i = put_by_insert false n into None v s k in
        i.extends.parents x h (ap (hits x) itself_alone ∙ rw (ne_eqb n x (λ e. ne (sym e))) refl)

  module _ (fragment : is_fragment v n ≡ true) where
    abbrev its_children : nodes_of v n ≡ children_of v.forest n
    its_children = if_so (is_fragment v n) (children_of v.forest n) (n ∷ []) fragment

    far-children : (x : ℕ) → (x ≡ n → ⊥) → (m : ℕ) → 0 < hits m (nodes_of v n) → hits m (children_of v.forest x) ≡ 0
    far-children x ne m h =
        let j : 0 < hits m (children_of v.forest n) = subst (λ ns. 0 < hits m ns) its_children h in
        let a = child-parent v.forest s.forest.once m x in
        let b = child-parent v.forest s.forest.once m n j in
        grind arith

    pub keeps-children : (x : ℕ) → 0 < occurs x v.forest → (x ≡ into → ⊥) → (x ≡ n → ⊥) → Keeps v (append n into v) x
    keeps-children x h ne far = record {
      text = data-kept x h;
      children = children-far x h (far-children x far) ∙ rw (ne_eqb x into ne) refl;
    }

    pub added-children : (into ≡ n → ⊥) → children_of (append n into v).forest into ≡ children_of v.forest into ++ children_of v.forest n
    added-children far =
        children-far into k.parent_there (far-children into far)
        ∙ (rw (eq-eqb into into refl) refl)
        ∙ ap (λ ns. children_of v.forest into ++ ns) its_children

-- Data that is cut.

module _ (n offset count : ℕ) (v : World) where
  keeps-cut : (x : ℕ) → (x ≡ n → ⊥) → Keeps v (replace_data n offset count [] v) x
  keeps-cut x ne =
      record {
        text =
            ap (λ (o : Option (Entry (Node Content))). (content_in o).text) (entry-with_node (with_data (spliced offset (cut_count (length (data_of v n)) offset count) [] (data_of v n))) (λ y. refl) n x None v.forest)
            ∙ go (entry_in v.forest x);
        children = children-alike (with_node-alike (with_data (spliced offset (cut_count (length (data_of v n)) offset count) [] (data_of v n))) (λ y. refl) n v.forest) x;
      }
    where
      go : (o : Option (Entry (Node Content))) → (content_in (change_at (with_data (spliced offset (cut_count (length (data_of v n)) offset count) [] (data_of v n))) n x o)).text ≡ (content_in o).text
      go None = refl
      go (Some e) = rw (ne_eqb x n ne) refl

  pub keeps-cut_if : (moves : Bool) (x : ℕ) → (x ≡ n → ⊥) → Keeps v (cut_if moves n offset count v) x
  keeps-cut_if false x ne = record { text = refl; children = refl }
  keeps-cut_if true x ne = keeps-cut x ne
