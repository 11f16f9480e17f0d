-- Whether a tree is named from outside, by a look at each number.
use Rattle.std.proofs.Common.{◌≡◌, ◌==◌, ℕ, suc, ◌+◌, ◌<◌, ◌≤◌, Bool, true, false, not, ◌&&◌, ◌||◌, List, [], ◌∷◌, ◌++◌, map, Option, Some, None, IsSome, is_some, IfSome, refl, ap, sym, ◌∙◌, arith, ⊎_elim}
use Rattle.std.proofs.lemmas.{Bool.cases_lt, Bool.false≢true, List.map-append, Bool.or_right, Bool.or_left}
use Rattle.std.specs.List.{list_any}
use Rattle.dom_model.specs.Definitions.{hits, among, head_of, Entry, children_in, Lies, Node, Forest, empty, node, Grove, occurs, one_at, tops, rows, numbers, tree_at, without, entry_in, HasNode, parent_of, children_of, inclusive_descendants, IsForest, documents, is_held_outside}
use Rattle.dom_model.specs.Forests.Forest.{Row}
use Rattle.dom_model.proofs.PlainLists.Numbers.{same_or, same, apart}
use Rattle.dom_model.proofs.Forests.{Totals.total-tree_at, Totals.tree_at-absent, TreeOrder.Flattened.hits-numbers, Standing.Tree, Standing.tree_of, Below.at_itself, Lying.Lies-without_root, Climbing.not_among-hits, Climbing.hits-not_among, Entries.occurs-HasNode, Entries.HasNode-occurs, Entries.Lies-entry_in, Entries.entry_under-absent}
use Rattle.dom_tree.specs.OutsideNodes.{document_passes, refers_from}

pub none-from : (o : Option ℕ) → is_some o ≡ false → o ≡ None
none-from None e = refl
none-from (Some n) e = absurd (false≢true (sym e))

any-append : (p : ℕ → Bool) (xs ys : List ℕ) → list_any p (xs ++ ys) ≡ (list_any p xs || list_any p ys)
any-append p [] ys = refl
any-append p (x ∷ xs) ys = elim (p x) as (λ v. (v || list_any p (xs ++ ys)) ≡ ((v || list_any p xs) || list_any p ys)) [ true ↦ refl | false ↦ any-append p xs ys ]

module _ {X : Type 0} where
  split : (p : ℕ → Bool) (depth : ℕ) (x : Node X) (kids rest : Forest X) → list_any p (map (λ (r : Row X). r.at.document) (rows depth (node x kids rest))) ≡ (p x.document || (list_any p (map (λ (r : Row X). r.at.document) (rows (suc depth) kids)) || list_any p (map (λ (r : Row X). r.at.document) (rows depth rest))))
  split p depth x kids rest =
      ap (λ l. p x.document || list_any p l) (map-append (λ (r : Row X). r.at.document) (rows (suc depth) kids) (rows depth rest))
      ∙ ap (λ b. p x.document || b) (any-append p (map (λ (r : Row X). r.at.document) (rows (suc depth) kids)) (map (λ (r : Row X). r.at.document) (rows depth rest)))

  none-documents : (p : ℕ → Bool) (at : ℕ → Option (Entry (Node X))) (q : Option ℕ) (depth : ℕ) (f : Forest X) → Lies at q f → ((m : ℕ) → 0 < occurs m f → document_passes p (at m) ≡ false) → list_any p (map (λ (r : Row X). r.at.document) (rows depth f)) ≡ false
  none-documents p at q depth empty l h = refl
  none-documents p at q depth (node x kids rest) l h =
      let here : p x.document ≡ false = let k = h x.number (first x.number) in let k2 = rw l.0 at k in k2 in
      let a = none-documents p at (Some x.number) (suc depth) kids l.1 (λ m k. h m (omega (arith, k))) in
      let b = none-documents p at q depth rest l.2 (λ m k. h m (omega (arith, k))) in
      split p depth x kids rest ∙ rw (here, a, b) refl
    where
      first : (n : ℕ) → 0 < one_at n n + (occurs n kids + occurs n rest)
      first n = elim (same_or n n) [ same _ t ↦ rw t (omega arith) | apart ne t ↦ absurd (ne refl) ]

  any-documents : (p : ℕ → Bool) (at : ℕ → Option (Entry (Node X))) (q : Option ℕ) (depth : ℕ) (f : Forest X) (m : ℕ) → Lies at q f → 0 < occurs m f → document_passes p (at m) ≡ true → list_any p (map (λ (r : Row X). r.at.document) (rows depth f)) ≡ true
  any-documents p at q depth empty m l h e = absurd (omega arith)
  any-documents p at q depth (node x kids rest) m l h e =
      split p depth x kids rest
      ∙ elim (same_or x.number m) [
        | same d t ↦
            let k : document_passes p (at x.number) ≡ true = ap (λ n. document_passes p (at n)) d ∙ e in
            or_left (p x.document) _ (let k2 = rw l.0 at k in k2)
        | apart ne t ↦
            let h2 = rw t at h in
            or_right (p x.document) _ (⊎_elim
            (λ (lt : 0 < occurs m kids). or_left _ _ (any-documents p at (Some x.number) (suc depth) kids m l.1 lt e))
            (λ (le : occurs m kids ≤ 0). or_right _ _ (any-documents p at q depth rest m l.2 (omega arith) e))
            (cases_lt 0 (occurs m kids)))
      ]

module _ {X : Type 0} {g : Grove X} (s : IsForest g) (top : ℕ) where
  -- a number that no node has is in no tree
  pub inside-none : (m : ℕ) → is_some (entry_in g.forest m) ≡ false → among m (inclusive_descendants g.forest top) ≡ false
  inside-none m e =
      hits-not_among m (numbers (tree_at top g.forest)) (⊎_elim
      (λ (lt : 0 < occurs m g.forest). absurd (false≢true (sym e ∙ HasNode-occurs g.forest m lt)))
      (λ (le : occurs m g.forest ≤ 0). omega (arith, hits-numbers m (tree_at top g.forest), total-tree_at (one_at m) top g.forest))
      (cases_lt 0 (occurs m g.forest)))

  -- nothing stands under a number that no node has
  pub nothing-under : is_some (entry_in g.forest top) ≡ false → (m : ℕ) → among m (inclusive_descendants g.forest top) ≡ false
  nothing-under e m =
      let z : tree_at top g.forest ≡ empty = tree_at-absent top g.forest (⊎_elim
      (λ (lt : 0 < occurs top g.forest). absurd (false≢true (sym e ∙ HasNode-occurs g.forest top lt)))
      (λ (le : occurs top g.forest ≤ 0). omega arith)
      (cases_lt 0 (occurs top g.forest))) in
      rw z refl

  -- nothing but the node itself stands inside a node without children
  pub inside-alone : HasNode g.forest top → head_of (children_of g.forest top) ≡ None → (m : ℕ) → among m (inclusive_descendants g.forest top) ≡ (m == top)
  inside-alone h e m = from (tree_of g.forest s.once top (occurs-HasNode g.forest top h))
    where
      none : (f : Forest X) → head_of (tops f) ≡ None → f ≡ empty
      none empty z = refl
      none (node x kids rest) z = absurd (cc z)

      from : Tree g.forest top → among m (inclusive_descendants g.forest top) ≡ (m == top)
      from t =
          let bare : t.kids ≡ empty = none t.kids (sym (ap (λ (i : Option (Entry (Node X))). head_of (children_in i)) t.entry) ∙ e) in
          ap (λ (f : Forest X). among m (numbers f)) (t.tree ∙ ap (λ (f : Forest X). node t.top f empty) bare)
          ∙ ap (λ k. among m (k ∷ [])) t.is_top
          ∙ elim (same_or top m) [
            | same d v ↦ rw (v, d, at_itself m) refl
            | apart ne v ↦ elim (same_or m top) [ same d _ ↦ absurd (ne (sym d)) | apart _ u ↦ rw (v, u) refl ]
          ]

  pub refers-document : (n d : ℕ) → IfSome (entry_in g.forest n) (λ e. d ≡ e.value.document) → is_some (entry_in g.forest n) ≡ true → (b : Bool) → among d (inclusive_descendants g.forest top) ≡ b → refers_from g.forest top n ≡ (b && not (among n (inclusive_descendants g.forest top)))
  refers-document n d h i b e = ap (λ v. v && not (among n (inclusive_descendants g.forest top))) (go (entry_in g.forest n) h i)
    where
      go : (o : Option (Entry (Node X))) → IfSome o (λ e. d ≡ e.value.document) → is_some o ≡ true → document_passes (λ m. among m (inclusive_descendants g.forest top)) o ≡ b
      go None j z = absurd (false≢true z)
      go (Some c) j z = ap (λ m. among m (inclusive_descendants g.forest top)) (sym j) ∙ e

  none-past : (m : ℕ) → g.made ≤ m → refers_from g.forest top m ≡ false
  none-past m h = ap (λ (o : Option (Entry (Node X))). document_passes (λ d. among d (inclusive_descendants g.forest top)) o && not (among m (inclusive_descendants g.forest top))) (entry_under-absent None m g.forest (s.small m h))

  module _ (root : parent_of g.forest top ≡ None) where
    lies : Lies (entry_in g.forest) None (without top g.forest)
    lies = Lies-without_root (entry_in g.forest) top root g.forest (Lies-entry_in g.forest s.once)

    beyond : (m : ℕ) → 0 < occurs m (without top g.forest) → among m (inclusive_descendants g.forest top) ≡ false
    beyond m h = hits-not_among m (numbers (tree_at top g.forest)) (omega (arith, hits-numbers m (tree_at top g.forest), total-tree_at (one_at m) top g.forest, s.once m))

    pub refers-none : ((m : ℕ) → m < g.made → refers_from g.forest top m ≡ false) → false ≡ is_held_outside g.forest top
    refers-none h =
        sym (ap (λ o. is_some o || list_any (λ m. among m (inclusive_descendants g.forest top)) (documents (without top g.forest))) root
        ∙ none-documents (λ m. among m (inclusive_descendants g.forest top)) (entry_in g.forest) None 0 (without top g.forest) lies each)
      where
        each : (m : ℕ) → 0 < occurs m (without top g.forest) → document_passes (λ d. among d (inclusive_descendants g.forest top)) (entry_in g.forest m) ≡ false
        each m k =
            let a : refers_from g.forest top m ≡ false = ⊎_elim (λ (lt : m < g.made). h m lt) (λ (le : g.made ≤ m). none-past m le) (cases_lt m g.made) in
            let b = beyond m k in
            let c = rw b at a in
            tests (document_passes (λ d. among d (inclusive_descendants g.forest top)) (entry_in g.forest m)) c
          where
            tests : (v : Bool) → (v && true) ≡ false → v ≡ false
            tests true z = z
            tests false z = refl

    pub refers-one : (m : ℕ) → refers_from g.forest top m ≡ true → true ≡ is_held_outside g.forest top
    refers-one m e =
        sym (ap (λ o. is_some o || list_any (λ d. among d (inclusive_descendants g.forest top)) (documents (without top g.forest))) root
        ∙ any-documents (λ d. among d (inclusive_descendants g.forest top)) (entry_in g.forest) None 0 (without top g.forest) m lies away (first (document_passes (λ d. among d (inclusive_descendants g.forest top)) (entry_in g.forest m)) _ e))
      where
        first : (v u : Bool) → (v && u) ≡ true → v ≡ true
        first true u z = refl
        first false u z = absurd (false≢true z)

        second : (v u : Bool) → (v && not u) ≡ true → u ≡ false
        second true true z = absurd (false≢true z)
        second true false z = refl
        second false u z = absurd (false≢true z)

        held_there : (o : Option (Entry (Node X))) → document_passes (λ d. among d (inclusive_descendants g.forest top)) o ≡ true → IsSome o
        held_there None z = absurd (false≢true z)
        held_there (Some d) z = refl

        away : 0 < occurs m (without top g.forest)
        away =
            let a = held_there (entry_in g.forest m) (first (document_passes (λ d. among d (inclusive_descendants g.forest top)) (entry_in g.forest m)) _ e) in
            let b : hits m (numbers (tree_at top g.forest)) ≡ 0 = not_among-hits m (numbers (tree_at top g.forest)) (second (document_passes (λ d. among d (inclusive_descendants g.forest top)) (entry_in g.forest m)) (among m (inclusive_descendants g.forest top)) e) in
            omega (arith, occurs-HasNode g.forest m a, b, hits-numbers m (tree_at top g.forest), total-tree_at (one_at m) top g.forest)
