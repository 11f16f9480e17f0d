-- Worlds with the tree of a root: what appending, removing, copying and cutting data leave of that tree.
use Rattle.std.proofs.Common.{◌≡◌, ℕ, zero, suc, ◌<◌, ◌≤◌, ◌==◌, nat_lt, Bool, true, false, if◌then◌else◌, List, [], ◌∷◌, length, Option, Some, None, refl, ap, sym, ◌∙◌, subst, arith, ⊎_elim}
use Rattle.std.proofs.lemmas.{Bool.cases_lt, Bool.Decides.nat_tests}
use Rattle.dom_model.specs.Definitions.{hits, or_else, left_out, Entry, EachNode, is_kind, spliced, Node, Forest, empty, node, occurs, one_at, tops, beside, tree_at, without, placed_root, put, in_document, adopted, with_node, entry_under, entry_in, parent_of, children_of, ancestors, Content, World, no_content, entry_has, tree_record_unless, emptied_fragment, taken_out, transients_made, removed_from, remove, remove_all, is_fragment, nodes_of, freed, node_document, put_in, put_all, insert_all, insert_nodes, append, named, renumbered, with_copies, content_in, data_of, with_data, cut_count, replace_data, remove_each, new_fragment}
use Rattle.dom_model.specs.declared.Kind.TheVariants.{DocumentFragment}
use Rattle.dom_model.proofs.PlainLists.Numbers.{same_or, same, apart}
use Rattle.dom_model.proofs.Forests.{Totals.IsOnce, Totals.total-beside, Totals.total-tree_at, Totals.total-placed_under, Totals.total-cut, Totals.IsOnce-cut, Totals.occurs-without, Totals.without-absent, Totals.tree_at-absent, Totals.beside-empty, Tops.tops-beside, Tops.tops-without, Tops.tops-placed_under, Tops.hits-tops, Below.occurs-tree, Climbing.hits-append, Climbing.hits-first, Climbing.hits-ancestors, EachNode.EachNode-without, Indices.child-parent, Listed.hits-other, Paths.parent-path, Paths.root-path, Undone.tree_at-beside, WaysMeeting.above-itself}
use Rattle.dom_model.proofs.MutationAlgorithms.OwnersKept.{EachNode-entry}
use Rattle.dom_model.proofs.Worlds.SameShape.{IsAlike, occurs-alike, tops-alike, with_node-alike, with_tree-alike}
use Rattle.dom_model.proofs.Soundness.SoundMaking.{once-renumbered}
use Rattle.dom_model.proofs.TokenText.AlikeTrees.MergedTrees.{tree_at-with_node}
use Rattle.dom_model.proofs.RangesAndContents.TreesOfRoots.{taken, occurs-left, tree-cut, tree-put, top-clear, entry-of_tree, top-parent, tree-adopted}

-- Lists and forests.

pub kept_out : (c m : ℕ) (ns : List ℕ) → (c ≡ m → ⊥) → hits m (left_out c ns) ≡ hits m ns
kept_out c m [] ne = refl
kept_out c m (n ∷ ns) ne = grind (arith, nat_tests, kept_out c m ns)

module _ {X : Type 0} where
  tops-placed_root : (r n : ℕ) (t f : Forest X) → hits r (tops f) ≤ hits r (tops (placed_root n t f))
  tops-placed_root r n t empty = omega arith
  tops-placed_root r n t (node x kids rest) =
      let later = tops-placed_root r n t rest in
      elim (nat_lt n x.number) as (λ v. hits r (tops (node x kids rest)) ≤ hits r (tops (if v then beside t (node x kids rest) else node x kids (placed_root n t rest)))) [
        | true ↦ (let e = ap (hits r) (tops-beside t (node x kids rest)) in let a = hits-append r (tops t) (tops (node x kids rest)) in omega arith)
        | false ↦ omega arith
      ]

  occurs-put : (m p n : ℕ) (b : Option ℕ) (f : Forest X) → IsOnce f → occurs m (put p n b f) ≤ occurs m f
  occurs-put m p n b f o = go (occurs p (without n f)) refl
    where
      go : (k : ℕ) → occurs p (without n f) ≡ k → occurs m (put p n b f) ≤ occurs m f
      go zero e = let a = total-placed_under (one_at m) p b (tree_at n f) (without n f) in let c = rw e at a in let t = total-tree_at (one_at m) n f in omega arith
      go (suc zero) e = let a = total-placed_under (one_at m) p b (tree_at n f) (without n f) in let c = rw e at a in let t = total-tree_at (one_at m) n f in omega arith
      go (suc (suc k)) e = absurd (let i = o p in let j = occurs-left p n f in omega arith)

taken-absent : (ns : List ℕ) (t : Forest Content) → ((m : ℕ) → 0 < hits m ns → occurs m t ≡ 0) → taken ns t ≡ t
taken-absent [] t h = refl
taken-absent (n ∷ ns) t h = let z = h n (hits-first n ns) in ap (taken ns) (without-absent n t z) ∙ taken-absent ns t (λ m k. h m (omega arith))

-- an entry has the number that is asked for
entry-number : (q : Option ℕ) (n : ℕ) (f : Forest Content) (e : Entry (Node Content)) → entry_under q n f ≡ Some e → e.value.number ≡ n
entry-number q n empty e h = absurd (cc h)
entry-number q n (node x kids rest) e h =
    elim (same_or x.number n) [
      | same d t ↦ (let k : Some (record { value = x; parent = q; children = tops kids }) ≡ Some e = rw t at h in let l : record { value = x; parent = q; children = tops kids } ≡ e = cc k in ap (λ (y : Entry (Node Content)). y.value.number) (sym l) ∙ d)
      | apart ne t ↦ (let k = rw t at h in either (entry_under (Some x.number) n kids) refl k (entry-number (Some x.number) n kids e) (entry-number q n rest e))
    ]
  where
    either : (o : Option (Entry (Node Content))) → entry_under (Some x.number) n kids ≡ o → or_else (entry_under (Some x.number) n kids) (entry_under q n rest) ≡ Some e → (entry_under (Some x.number) n kids ≡ Some e → e.value.number ≡ n) → (entry_under q n rest ≡ Some e → e.value.number ≡ n) → e.value.number ≡ n
    either None d k in_kids in_rest = in_rest (rw d at k)
    either (Some a) d k in_kids in_rest = in_kids (d ∙ (rw d at k))

-- the units of a node, and units cut
abbrev pub data_in : Forest Content → ℕ → List ℕ
data_in t n = (content_in (entry_in t n)).text

abbrev pub cut_data : ℕ → ℕ → ℕ → Forest Content → Forest Content
cut_data n offset count t = with_node n (with_data (spliced offset (cut_count (length (data_in t n)) offset count) [] (data_in t n))) t

-- the world has the tree under a root; numbers from `low` on are younger
pub record HasTree (root low : ℕ) (t : Forest Content) (v : World) : Type 0 where
  pub once : IsOnce v.forest
  pub small : (m : ℕ) → v.made ≤ m → occurs m v.forest ≡ 0
  pub top : 0 < hits root (tops v.forest)
  pub tree : tree_at root v.forest ≡ t
  pub begun : low ≤ v.made

module _ (root low : ℕ) where
  module _ (t : Forest Content) (v : World) (h : HasTree root low t v) where
    pub entry-tree : (n : ℕ) → 0 < occurs n t → entry_in v.forest n ≡ entry_in t n
    entry-tree n k = entry-of_tree root n v.forest h.once h.top (subst (λ (g : Forest Content). 0 < occurs n g) (sym h.tree) k) ∙ ap (λ (g : Forest Content). entry_in g n) h.tree

    pub root-inside : 0 < occurs root t
    root-inside =
        let a = hits-tops root v.forest in
        let b = total-tree_at (one_at root) root v.forest in
        let c = occurs-without root v.forest in
        let d = ap (λ (g : Forest Content). occurs root g) h.tree in
        let e = h.top in
        omega arith

    pub inside-above : (n : ℕ) → 0 < occurs n t → (0 < occurs n v.forest) × (0 < hits root (ancestors n v.forest))
    inside-above n k =
        let a = ap (λ (g : Forest Content). occurs n g) h.tree in
        let b = occurs-tree n root v.forest in
        let c = hits-ancestors root n v.forest h.once in
        (omega arith, omega arith)

    -- the root is no child
    pub child-not_root : (n m : ℕ) → 0 < hits m (children_of v.forest n) → m ≡ root → ⊥
    child-not_root n m k e =
        let p : Some n ≡ None = sym (child-parent v.forest h.once m n k) ∙ ap (parent_of v.forest) e ∙ top-parent root v.forest h.once h.top in
        cc p

    -- a node without a parent is not inside
    root-outside : (n : ℕ) → (n ≡ root → ⊥) → parent_of v.forest n ≡ None → occurs n t ≡ 0
    root-outside n ne e =
        let no : 0 < occurs n t → ⊥ = λ lt.
        let i = inside-above n lt in let a = ap (hits root) (root-path v.forest h.once n i.0 e) in let b = hits-other root n [] ne in let c = i.1 in omega arith in
        omega arith

    -- nor is a child of one that is not
    child-outside : (n m : ℕ) → occurs n t ≡ 0 → 0 < hits m (children_of v.forest n) → occurs m t ≡ 0
    child-outside n m z k =
        ⊎_elim
        (λ (lt : 0 < occurs m t).
        let i = inside-above m lt in
        let p = parent-path v.forest h.once m n i.0 (child-parent v.forest h.once m n k) in
        absurd (elim (same_or m root) [
          | same d _ ↦
              let ne : n ≡ root → ⊥ = λ e. let r = root-inside in let y = ap (λ q. occurs q t) e in omega arith in
              let clear = top-clear root n v.forest h.once h.top ne in
              let a = hits-ancestors n root v.forest h.once in
              let b : 0 < hits n (ancestors m v.forest) = rw p.1 (let j = above-itself v.forest h.once n p.0 in omega arith) in
              let c = subst (λ q. 0 < hits n (ancestors q v.forest)) d b in
              omega arith
          | apart ne _ ↦
              let a = ap (hits root) p.1 in
              let b = hits-other root m (ancestors n v.forest) ne in
              let c = hits-ancestors root n v.forest h.once in
              let d = ap (λ (g : Forest Content). occurs n g) h.tree in
              let e = i.1 in
              omega arith
        ]))
        (λ (le : occurs m t ≤ 0). omega arith)
        (cases_lt 0 (occurs m t))

    outside-apart : (m : ℕ) → occurs m t ≡ 0 → m ≡ root → ⊥
    outside-apart m z e = let r = root-inside in let y = ap (λ q. occurs q t) e in omega arith

  has-none : (n : ℕ) (t : Forest Content) (v : World) → occurs n t ≡ 0 → HasTree root low t v → HasTree root low (without n t) v
  has-none n t v z h = subst (λ (g : Forest Content). HasTree root low g v) (sym (without-absent n t z)) h

  record_unless-has : (b : Bool) (n : ℕ) (xs ys : List ℕ) (p q : Option ℕ) (t : Forest Content) (v : World) → HasTree root low t v → HasTree root low t (tree_record_unless b n xs ys p q v)
  record_unless-has true n xs ys p q t v h = h
  record_unless-has false n xs ys p q t v h = record { once = h.once; small = h.small; top = h.top; tree = h.tree; begun = h.begun }

  taken_out-has : (n p : ℕ) (t : Forest Content) (v : World) → (n ≡ root → ⊥) → HasTree root low t v → HasTree root low (without n t) (transients_made n p (taken_out n p v))
  taken_out-has n p t v ne h =
      record {
        once = IsOnce-cut n v.forest h.once;
        small = λ m l. total-cut (one_at m) n v.forest ∙ h.small m l;
        top =
            let a = tops-placed_root root n (tree_at n v.forest) (without n v.forest) in
            let b = ap (hits root) (tops-without n v.forest) in
            let c = kept_out n root (tops v.forest) ne in
            let d = h.top in
            omega arith;
        tree = tree-cut root n v.forest (top-clear root n v.forest h.once h.top ne) ∙ ap (without n) h.tree;
        begun = h.begun;
      }

  pub remove-has : (b : Bool) (n : ℕ) (t : Forest Content) (v : World) → (n ≡ root → ⊥) → HasTree root low t v → HasTree root low (without n t) (remove b n v)
  remove-has b n t v ne h = go (parent_of v.forest n) refl
    where
      go : (o : Option ℕ) → parent_of v.forest n ≡ o → HasTree root low (without n t) (removed_from b n o v)
      go None e = has-none n t v (root-outside t v h n ne e) h
      go (Some p) e = record_unless-has b p [] (n ∷ []) _ _ (without n t) (transients_made n p (taken_out n p v)) (taken_out-has n p t v ne h)

  remove_all-has : (ns : List ℕ) (t : Forest Content) (v : World) → ((m : ℕ) → 0 < hits m ns → m ≡ root → ⊥) → HasTree root low t v → HasTree root low (taken ns t) (remove_all ns v)
  remove_all-has [] t v ne h = h
  remove_all-has (n ∷ ns) t v ne h = remove_all-has ns (without n t) (remove true n v) (λ m k. ne m (omega arith)) (remove-has true n t v (ne n (hits-first n ns)) h)

  pub remove_each-has : (ns : List ℕ) (t : Forest Content) (v : World) → ((m : ℕ) → 0 < hits m ns → m ≡ root → ⊥) → HasTree root low t v → HasTree root low (taken ns t) (remove_each ns v)
  remove_each-has [] t v ne h = h
  remove_each-has (n ∷ ns) t v ne h = remove_each-has ns (without n t) (remove false n v) (λ m k. ne m (omega arith)) (remove-has false n t v (ne n (hits-first n ns)) h)

  put_in-has : (p : ℕ) (c : Option ℕ) (n : ℕ) (t : Forest Content) (v : World) → occurs p t ≡ 0 → (n ≡ root → ⊥) → HasTree root low t v → HasTree root low (without n t) (put_in p c n v)
  put_in-has p c n t v z ne h =
      let alike : IsAlike (put p n c v.forest) (adopted n (node_document v p) (put p n c v.forest)) = with_tree-alike (in_document (node_document v p)) (λ x. refl) n (put p n c v.forest) in
      let once : IsOnce (put p n c v.forest) = λ m. (let a = h.once m in let b = occurs-put m p n c v.forest h.once in omega arith) in
      let top : 0 < hits root (tops (put p n c v.forest)) = (
      let a = ap (hits root) (tops-placed_under p c (tree_at n v.forest) (without n v.forest)) in
      let b = ap (hits root) (tops-without n v.forest) in
      let e = kept_out n root (tops v.forest) ne in
      let k = h.top in
      omega arith) in
      let clear = top-clear root n v.forest h.once h.top ne in
      let tree : tree_at root (put p n c v.forest) ≡ without n t = tree-put root p n c v.forest clear (ap (λ (f : Forest Content). occurs p f) h.tree ∙ z) ∙ ap (without n) h.tree in
      record {
        once = λ m. (let a = once m in let b = occurs-alike alike m in omega arith);
        small = λ m l. (let a = h.small m l in let b = occurs-put m p n c v.forest h.once in let e = occurs-alike alike m in omega arith);
        top = subst (λ ns. 0 < hits root ns) (sym (tops-alike alike)) top;
        tree = tree-adopted root n (node_document v p) (put p n c v.forest) (ap (λ (f : Forest Content). occurs n f) tree ∙ occurs-without n t) (top-clear root n (put p n c v.forest) once top ne) ∙ tree;
        begun = h.begun;
      }

  put_all-has : (p : ℕ) (c : Option ℕ) (ns : List ℕ) (t : Forest Content) (v : World) → occurs p t ≡ 0 → ((m : ℕ) → 0 < hits m ns → m ≡ root → ⊥) → HasTree root low t v → HasTree root low (taken ns t) (put_all p c ns v)
  put_all-has p c [] t v z ne h = h
  put_all-has p c (n ∷ ns) t v z ne h =
      put_all-has p c ns (without n t) (put_in p c n v) (let a = occurs-left p n t in omega arith) (λ m k. ne m (omega arith)) (put_in-has p c n t v z (ne n (hits-first n ns)) h)

  insert_all-has : (b : Bool) (p : ℕ) (ns : List ℕ) (t : Forest Content) (v : World) → occurs p t ≡ 0 → ((m : ℕ) → 0 < hits m ns → m ≡ root → ⊥) → HasTree root low t v → HasTree root low (taken ns t) (insert_all b p None ns v)
  insert_all-has b p ns t v z ne h = record_unless-has b p ns [] _ None (taken ns t) (put_all p None ns v) (put_all-has p None ns t v z ne h)

  -- what is outside is appended outside
  pub append-outside : (n p : ℕ) (t : Forest Content) (v : World) → occurs n t ≡ 0 → occurs p t ≡ 0 → HasTree root low t v → HasTree root low t (append n p v)
  append-outside n p t v zn zp h = go (nodes_of v n) (out (is_fragment v n))
    where
      out : (b : Bool) (m : ℕ) → 0 < hits m (if b then children_of v.forest n else n ∷ []) → occurs m t ≡ 0
      out true m k = child-outside t v h n m zn k
      out false m k = elim (same_or n m) [ same d u ↦ subst (λ q. occurs q t ≡ 0) d zn | apart ne u ↦ absurd (let l = rw u at k in omega arith) ]

      freed-has : (ns : List ℕ) → ((m : ℕ) → 0 < hits m ns → occurs m t ≡ 0) → HasTree root low t (freed n ns v)
      freed-has ns each = cases (is_fragment v n)
        where
          cases : (b : Bool) → HasTree root low t (if b then emptied_fragment n ns v else remove false n v)
          cases true =
              subst (λ (g : Forest Content). HasTree root low g (emptied_fragment n ns v)) (taken-absent ns t each)
              (record_unless-has false n [] ns None None (taken ns t) (remove_all ns v) (remove_all-has ns t v (λ m k. outside-apart t v h m (each m k)) h))
          cases false = subst (λ (g : Forest Content). HasTree root low g (remove false n v)) (without-absent n t zn) (remove-has false n t v (outside-apart t v h n zn) h)

      go : (ns : List ℕ) → ((m : ℕ) → 0 < hits m ns → occurs m t ≡ 0) → HasTree root low t (insert_nodes false n p None ns v)
      go [] each = h
      go (m ∷ ms) each =
          subst (λ (g : Forest Content). HasTree root low g (insert_all false p None (m ∷ ms) (freed n (m ∷ ms) v))) (taken-absent (m ∷ ms) t each)
          (insert_all-has false p (m ∷ ms) t (freed n (m ∷ ms) v) zp (λ q k. outside-apart t v h q (each q k)) (freed-has (m ∷ ms) each))

  -- a node that is no fragment is appended outside
  append-taken : (n p : ℕ) (t : Forest Content) (v : World) → is_fragment v n ≡ false → (n ≡ root → ⊥) → occurs p t ≡ 0 → HasTree root low t v → HasTree root low (without n t) (append n p v)
  append-taken n p t v e ne z h =
      let only : (m : ℕ) → 0 < hits m (n ∷ []) → m ≡ root → ⊥ = λ m k d. elim (same_or n m) [ same q u ↦ ne (q ∙ d) | apart nu u ↦ (let l = rw u at k in omega arith) ] in
      let out : HasTree root low (without n t) (remove false n v) = remove-has false n t v ne h in
      let last : HasTree root low (without n (without n t)) (insert_all false p None (n ∷ []) (remove false n v)) = insert_all-has false p (n ∷ []) (without n t) (remove false n v) (let a = occurs-left p n t in omega arith) only out in
      subst (λ (u : World). HasTree root low (without n t) u) (sym given)
      (subst (λ (g : Forest Content). HasTree root low g (insert_all false p None (n ∷ []) (remove false n v))) (without-absent n (without n t) (occurs-without n t)) last)
    where
      given : append n p v ≡ insert_all false p None (n ∷ []) (remove false n v)
      given = rw (e, e) refl

  -- no node but the root is a fragment
  abbrev pub IsInner : Node Content → Type 0
  IsInner x = is_kind DocumentFragment x.label.kind ≡ true → x.number ≡ root

  -- a tree of old nodes
  pub record IsOld (t : Forest Content) : Type 0 where
    pub below : (m : ℕ) → low ≤ m → occurs m t ≡ 0
    pub inner : EachNode (IsInner) t

  pub old-without : (n : ℕ) (t : Forest Content) → IsOld t → IsOld (without n t)
  old-without n t o = record { below = λ m l. (let a = o.below m l in let b = occurs-left m n t in omega arith); inner = EachNode-without IsInner n t o.inner }

  pub old-taken : (ns : List ℕ) (t : Forest Content) → IsOld t → IsOld (taken ns t)
  old-taken [] t o = o
  old-taken (n ∷ ns) t o = old-taken ns (without n t) (old-without n t o)

  inner-with_node : (n : ℕ) (us : List ℕ) (t : Forest Content) → EachNode IsInner t → EachNode IsInner (with_node n (with_data us) t)
  inner-with_node n us empty h = tt
  inner-with_node n us (node x kids rest) h =
      elim (x.number == n) as (λ b. EachNode IsInner (node (if b then with_data us x else x) (with_node n (with_data us) kids) (with_node n (with_data us) rest))) [
        | true ↦ (h.0, inner-with_node n us kids h.1, inner-with_node n us rest h.2)
        | false ↦ (h.0, inner-with_node n us kids h.1, inner-with_node n us rest h.2)
      ]

  pub old-cut : (n offset count : ℕ) (t : Forest Content) → IsOld t → IsOld (cut_data n offset count t)
  old-cut n offset count t o =
      record {
        below = λ m l. occurs-alike (with_node-alike (with_data (spliced offset (cut_count (length (data_in t n)) offset count) [] (data_in t n))) (λ x. refl) n t) m ∙ o.below m l;
        inner = inner-with_node n (spliced offset (cut_count (length (data_in t n)) offset count) [] (data_in t n)) t o.inner;
      }

  -- an inner node is no fragment
  not_fragment : (n : ℕ) (t : Forest Content) (v : World) → (n ≡ root → ⊥) → 0 < occurs n t → IsOld t → HasTree root low t v → is_fragment v n ≡ false
  not_fragment n t v ne k o h = ap (entry_has (is_kind DocumentFragment)) (entry-tree t v h n k) ∙ go (entry_in t n) refl
    where
      go : (q : Option (Entry (Node Content))) → entry_in t n ≡ q → entry_has (is_kind DocumentFragment) q ≡ false
      go None e = refl
      go (Some e) i = cases (is_kind DocumentFragment e.value.label.kind) refl
        where
          cases : (b : Bool) → is_kind DocumentFragment e.value.label.kind ≡ b → is_kind DocumentFragment e.value.label.kind ≡ false
          cases true d = absurd (ne (sym (entry-number None n t e i) ∙ EachNode-entry IsInner None n t e o.inner i d))
          cases false d = d

  pub append-has : (n p : ℕ) (t : Forest Content) (v : World) → (n ≡ root → ⊥) → low ≤ p → IsOld t → HasTree root low t v → HasTree root low (without n t) (append n p v)
  append-has n p t v ne l o h =
      ⊎_elim
      (λ (lt : 0 < occurs n t). append-taken n p t v (not_fragment n t v ne lt o h) ne (o.below p l) h)
      (λ (le : occurs n t ≤ 0).
      let z : occurs n t ≡ 0 = omega arith in
      subst (λ (g : Forest Content). HasTree root low g (append n p v)) (sym (without-absent n t z)) (append-outside n p t v z (o.below p l) h))
      (cases_lt 0 (occurs n t))

  -- Copies, and data.

  pub copies-has : (document : ℕ) (g : Forest Content) (t : Forest Content) (v : World) → HasTree root low t v → HasTree root low t (with_copies document g v)
  copies-has document g t v h =
      let no : v.made ≤ root → ⊥ = λ le. let z = h.small root le in let a = hits-tops root v.forest in let b = h.top in omega arith in
      let none = (once-renumbered document v.made g root).1 (omega arith) in
      record {
        once = λ m. (
            let a = total-beside (one_at m) v.forest (renumbered document v.made g) in
            let i = once-renumbered document v.made g m in
            grind (arith, h.once m, h.small m, i.0, i.1));
        small = λ m l. (
            let a = total-beside (one_at m) v.forest (renumbered document v.made g) in
            let z = h.small m (omega arith) in
            let y = (once-renumbered document v.made g m).2 l in
            omega arith);
        top = (
            let a = ap (hits root) (tops-beside v.forest (renumbered document v.made g)) in
            let b = hits-append root (tops v.forest) (tops (renumbered document v.made g)) in
            let c = h.top in
            omega arith);
        tree = tree_at-beside root v.forest (renumbered document v.made g) ∙ ap (beside (tree_at root v.forest)) (tree_at-absent root (renumbered document v.made g) none) ∙ beside-empty (tree_at root v.forest) ∙ h.tree;
        begun = (let b = h.begun in omega arith);
      }

  pub fragment-has : (document : ℕ) (t : Forest Content) (v : World) → HasTree root low t v → HasTree root low t (new_fragment document v)
  fragment-has document t v h = copies-has document (node (record { number = 0; document = document; label = named DocumentFragment []; body = no_content }) empty empty) t v h

  pub replace-has : (n offset count : ℕ) (t : Forest Content) (v : World) → 0 < occurs n t → HasTree root low t v → HasTree root low (cut_data n offset count t) (replace_data n offset count [] v)
  replace-has n offset count t v k h =
      let alike : IsAlike v.forest (replace_data n offset count [] v).forest = with_node-alike (with_data (spliced offset (cut_count (length (data_of v n)) offset count) [] (data_of v n))) (λ x. refl) n v.forest in
      let same : data_of v n ≡ data_in t n = ap (λ q. (content_in q).text) (entry-tree t v h n k) in
      record {
        once = λ m. (let a = h.once m in let b = occurs-alike alike m in omega arith);
        small = λ m l. occurs-alike alike m ∙ h.small m l;
        top = subst (λ ns. 0 < hits root ns) (sym (tops-alike alike)) h.top;
        tree =
            tree_at-with_node root n (with_data (spliced offset (cut_count (length (data_of v n)) offset count) [] (data_of v n))) (λ x. refl) v.forest
            ∙ ap (λ xs. with_node n (with_data (spliced offset (cut_count (length xs) offset count) [] xs)) (tree_at root v.forest)) same
            ∙ ap (with_node n (with_data (spliced offset (cut_count (length (data_in t n)) offset count) [] (data_in t n)))) h.tree;
        begun = h.begun;
      }
