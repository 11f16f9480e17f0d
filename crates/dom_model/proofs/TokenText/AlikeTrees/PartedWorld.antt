-- The markers and the forest of a world where a Text with a parent is split.
use Rattle.std.proofs.Common.{◌≡◌, ℕ, suc, ◌+◌, ◌<◌, ◌≤◌, ◌==◌, false, if◌then◌else◌, List, [], Option, None, refl, ap, sym, ◌∙◌, subst, arith}
use Rattle.std.proofs.lemmas.Bool.{lt-ltb, le-ltb}
use Rattle.dom_model.specs.Definitions.{or_else, parent_in, Node, Forest, empty, node, occurs, one_at, beside, tree_at, put, adopted, entry_in, parent_of, Content, Point, named, with_text, content_in, Token, point, Childless}
use Rattle.dom_model.specs.declared.Kind.TheVariants.{Text}
use Rattle.dom_model.proofs.Worlds.Measured.{entry-joined}
use Rattle.dom_model.proofs.PlainLists.Numbers.{same_or, same, apart}
use Rattle.dom_model.proofs.Forests.{Totals.total-beside, Totals.total-tree_at, Totals.total-put, Totals.tree_at-absent, Undone.tree_at-beside, Entries.entry_under-absent, Entries.entry-put}
use Rattle.dom_model.proofs.TokenText.{AlikeTrees.TreesAlike.Alike, AlikeTrees.TreesAlike.bared-alike, AlikeTrees.TreesAlikeAfter.alike-put, AlikeTrees.TreesAlikeAfter.alike-adopted, AlikeTrees.TreesAlikeAfter.alike-beside, AlikeTrees.PartedTrees.entry-beside, AlikeTrees.PartedTrees.alike-text, AlikeTrees.PartedTrees.put-text, Marked.GapOpened.gap_opened, Marked.GapOpened.opened-earlier, Marked.GapOpened.opened-new, Marked.GapOpened.opened-later, Marked.GapOpened.different, Marked.GapOpened.equal, Marked.GapParted.gap_parted}

-- The markers of each gap after a split, and those before it in the gaps of the new Text too.
module _ (marks : Point → List Token) (n o new parent k : ℕ) (new_node : n ≡ new → ⊥) (new_parent : parent ≡ new → ⊥) (apart_parent : n ≡ parent → ⊥) where
  abbrev marks' : Point → List Token
  marks' q = gap_parted n o new parent k marks q

  abbrev pub base : Point → List Token
  base q = if q.node == new then marks' q else marks q

  pub base-old : (q : Point) → (q.node ≡ new → ⊥) → base q ≡ marks q
  base-old q h = rw (different q.node new h) refl

  pub elsewhere : (q : Point) → (q.node ≡ parent → ⊥) → (q.node ≡ n → ⊥) → marks' q ≡ base q
  elsewhere q a b =
      elim (same_or q.node new) [
        | same d t ↦ sym (rw t refl)
        | apart ne t ↦ rw (t, different q.node n b, different q.node parent a) refl
      ]

  at_parent : (j : ℕ) (ms : List Token) → gap_opened parent k marks (point parent j) ≡ ms → marks' (point parent j) ≡ ms
  at_parent j ms e = rw (different parent new new_parent, different parent n (λ d. apart_parent (sym d))) e

  pub earlier : (j j' : ℕ) → j' ≡ j → j ≤ k → marks' (point parent j') ≡ base (point parent j)
  earlier j j' e h =
      at_parent j' (marks (point parent j)) (rw (equal parent parent refl) (opened-earlier k (λ i. marks (point parent i)) j' (omega arith) ∙ ap (λ i. marks (point parent i)) e))
      ∙ sym (base-old (point parent j) new_parent)

  pub later : (j j' : ℕ) → j' ≡ suc j → k < j → marks' (point parent j') ≡ base (point parent j)
  later j j' e h =
      at_parent j' (marks (point parent j)) (rw (equal parent parent refl) (opened-later k (λ i. marks (point parent i)) j' j e h))
      ∙ sym (base-old (point parent j) new_parent)

  pub between : marks' (point parent (suc k)) ≡ []
  between = at_parent (suc k) [] (rw (equal parent parent refl) (opened-new k (λ i. marks (point parent i)) (suc k) refl))

  pub kept : (j j' : ℕ) → j' ≡ j → j ≤ o → marks' (point n j') ≡ base (point n j)
  kept j j' e h =
      let s : marks' (point n j') ≡ marks (point n j') = rw (different n new new_node, equal n n refl, le-ltb o j' (omega arith)) refl in
      s ∙ ap (λ i. marks (point n i)) e ∙ sym (base-old (point n j) new_node)

  pub new_start : marks' (point new 0) ≡ []
  new_start = rw (equal new new refl) refl

  pub moved : (j j' : ℕ) → j ≡ o + j' → 0 < j' → marks' (point new j') ≡ base (point n j)
  moved j j' e h =
      let s : marks' (point new j') ≡ marks (point n (o + j')) = rw (equal new new refl, lt-ltb 0 j' h) refl in
      s ∙ ap (λ i. marks (point n i)) (sym e) ∙ sym (base-old (point n j) new_node)

-- The forest of the world after the steps of a split.
module _ (g f : Forest Content) (alike : Alike g f) (once : (m : ℕ) → occurs m f ≤ 1) (n new parent document d : ℕ) (tail : List ℕ) (b : Option ℕ) (fresh : occurs new f ≡ 0) (hn : 0 < occurs n f) (hp : 0 < occurs parent f) where
  abbrev pub new_text : ℕ → Node Content
  new_text doc = record { number = new; document = doc; label = named Text []; body = with_text tail }

  abbrev pub more : Forest Content
  more = beside f (node (new_text document) empty empty)

  abbrev pub more_trees : Forest Content
  more_trees = beside g (node (new_text 0) empty empty)

  alike-more : Alike more_trees more
  alike-more = alike-beside g f (node (new_text 0) empty empty) (node (new_text document) empty empty) alike (bared-alike (node (new_text document) empty empty) ((λ v. refl), tt, tt))

  once-more : (m : ℕ) → occurs m more ≤ 1
  once-more m =
      let c = once m in
      rw (total-beside (one_at m) f (node (new_text document) empty empty))
      (elim (same_or new m) [ same e t ↦ (let z : occurs m f ≡ 0 = subst (λ i. occurs i f ≡ 0) e fresh in rw t (omega arith)) | apart ne t ↦ rw t (omega arith) ])

  new_there : 0 < occurs new more
  new_there = let a = total-beside (one_at new) f (node (new_text document) empty empty) in rw (a, equal new new refl) (omega arith)

  parent_there : 0 < occurs parent more
  parent_there = let a = total-beside (one_at parent) f (node (new_text document) empty empty) in omega arith

  not_new : (m : ℕ) → 0 < occurs m f → (new == m) ≡ false
  not_new m h = different new m (λ e. absurd (let z : occurs m f ≡ 0 = subst (λ i. occurs i f ≡ 0) e fresh in omega arith))

  new_root : parent_of more new ≡ None
  new_root =
      ap parent_in (entry-joined None new f (node (new_text document) empty empty) ∙ ap (λ e. or_else e (entry_in (node (new_text document) empty empty) new)) (entry_under-absent None new f fresh)) ∙ (rw (equal new new refl) refl)

  new_tree : occurs parent (tree_at new more) ≡ 0
  new_tree =
      let s : tree_at new more ≡ node (new_text document) empty empty = tree_at-beside new f (node (new_text document) empty empty) ∙ (rw (tree_at-absent new f fresh, equal new new refl) refl) in
      ap (occurs parent) s ∙ (rw (not_new parent hp) refl)

  abbrev pub placed : Forest Content
  placed = adopted new d (put parent new b more)

  abbrev pub placed_trees : Forest Content
  placed_trees = put parent new b more_trees

  pub alike-placed : Childless placed_trees → Alike placed_trees placed
  alike-placed c = alike-adopted placed_trees (put parent new b more) new d (alike-put more_trees more alike-more once-more parent new b parent_there new_there new_root new_tree c)

  pub once-placed : Childless placed_trees → (m : ℕ) → occurs m placed ≤ 1
  once-placed c m =
      let a = (alike-placed c).numbers m in
      let e = (alike-put more_trees more alike-more once-more parent new b parent_there new_there new_root new_tree c).numbers m in
      let h = total-put (one_at m) parent new b more (let i = total-tree_at (one_at parent) new more in let j = once-more parent in let l = parent_there in let z = new_tree in omega arith) in
      let q = once-more m in
      omega arith

  -- the split has not yet changed the data
  pub same_text : Childless placed_trees → (content_in (entry_in placed n)).text ≡ (content_in (entry_in f n)).text
  same_text c =
      sym (alike-text placed_trees placed (alike-placed c) n)
      ∙ alike-text placed_trees (put parent new b more) (alike-put more_trees more alike-more once-more parent new b parent_there new_there new_root new_tree c) n
      ∙ ap (λ e. (content_in e).text) (entry-put more once-more parent new b parent_there new_there new_root new_tree n)
      ∙ put-text parent new b n (entry_in more n)
      ∙ ap (λ e. (content_in e).text) (entry-beside n f (node (new_text document) empty empty) hn)
