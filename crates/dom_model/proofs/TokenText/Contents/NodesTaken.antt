-- What extracting takes from the tree of a root, step by step, is what deleting takes: the units of the start node, the contained nodes on
-- top one after another, the units of the end node. DOM Standard, "Interface Range".
use Rattle.std.proofs.Common.{◌≡◌, ℕ, ◌-◌, ◌<◌, ◌≤◌, Bool, true, false, if◌then◌else◌, List, [], ◌∷◌, take, drop, length, Option, Some, None, option_map, refl, ap, sym, ◌∙◌, subst, arith, inl, inr}
use Rattle.std.proofs.lemmas.{Bool.cases_lt, Bool.cases_Bool, Bool.Decides.nat_tests}
use Rattle.dom_model.specs.Definitions.{hits, left_out, past, up_to, Entry, children_in, is_character_data, Node, Forest, occurs, one_at, tree_at, without, with_node, entry_in, parent_of, children_of, ancestors, spliced, Content, World, IsSound, entry_has, kind_passes, with_data, cut_count, IsWay, tail_nodes, head_nodes}
use Rattle.dom_model.proofs.PlainLists.Numbers.{same_or, same, apart}
use Rattle.dom_model.proofs.Forests.{Changes.change_at, Totals.IsOnce, Totals.total-tree_at, Climbing.hits-append, Climbing.hits-first, Entries.entry_under-absent, Indices.child-parent, WaysMeeting.above-itself, WaysMeeting.above-child}
use Rattle.dom_model.proofs.Worlds.{Measured.entry-with_node, SameShape.IsAlike, SameShape.occurs-alike, SameShape.children-alike, SameShape.kind-alike, SameShape.with_node-alike}
use Rattle.dom_model.proofs.TokenText.{AlikeTrees.MergedTrees.tree_at-with_node, Contents.TopsByParts.child-under}
use Rattle.dom_model.proofs.RangesAndContents.{WaysBelow.way-above, DrawnPaths.hits-drop, DrawnPaths.hits-past, DrawnPaths.hits-up_to, TreesOfRoots.taken, TreesOfRoots.taken-append, TreesOfRoots.once-left, TreesOfRoots.entry-without, TreesOfRoots.tree-less, TreesOfRoots.tree-taken, TreesOfRoots.occurs-taken, TreesOfRoots.entry-taken, OldTrees.data_in, OldTrees.cut_data, OldTrees.HasTree, TreesDrawn.has_data, TreesDrawn.tail_taken, TreesDrawn.head_taken, TreesDrawn.AreIn, TreesDrawn.StayIn, TreesDrawn.same-kind, TreesDrawn.same-children}

-- the tree without the units from an offset on, or up to it, where the node has data
abbrev pub cut_tail : ℕ → ℕ → Forest Content → Forest Content
cut_tail n offset t = if has_data t n then cut_data n offset (length (data_in t n) - offset) t else t

abbrev pub cut_head : ℕ → ℕ → Forest Content → Forest Content
cut_head n offset t = if has_data t n then cut_data n 0 offset t else t

-- a tree of which units have been cut
pub record IsCut (n : ℕ) (t u : Forest Content) : Type 0 where
  pub numbers : (m : ℕ) → occurs m u ≡ occurs m t
  pub trees : (m c : ℕ) → occurs m (tree_at c u) ≡ occurs m (tree_at c t)
  pub entries : (m : ℕ) → (m ≡ n → ⊥) → entry_in u m ≡ entry_in t m
  pub lists : (m : ℕ) → children_of u m ≡ children_of t m
  pub bare : (m : ℕ) → has_data u m ≡ has_data t m

pub is-cut : (n offset count : ℕ) (t : Forest Content) → IsCut n t (cut_data n offset count t)
is-cut n offset count t =
    let alike : (f : Forest Content) → IsAlike f (with_node n (with_data (spliced offset (cut_count (length (data_in t n)) offset count) [] (data_in t n))) f) = λ f. with_node-alike (with_data (spliced offset (cut_count (length (data_in t n)) offset count) [] (data_in t n))) (λ x. refl) n f in
    record {
      numbers = occurs-alike (alike t);
      trees = λ m c.
          ap (λ (g : Forest Content). occurs m g) (tree_at-with_node c n (with_data (spliced offset (cut_count (length (data_in t n)) offset count) [] (data_in t n))) (λ x. refl) t)
          ∙ occurs-alike (alike (tree_at c t)) m;
      entries = λ m ne. entry-with_node (with_data (spliced offset (cut_count (length (data_in t n)) offset count) [] (data_in t n))) (λ x. refl) n m None t ∙ kept m ne (entry_in t m);
      lists = children-alike (alike t);
      bare = kind-alike (alike t) is_character_data;
    }
  where
    kept : (m : ℕ) → (m ≡ n → ⊥) → (o : Option (Entry (Node Content))) → change_at (with_data (spliced offset (cut_count (length (data_in t n)) offset count) [] (data_in t n))) n m o ≡ o
    kept m ne o = grind (arith, nat_tests)

cut-if : (b : Bool) (n offset count : ℕ) (t : Forest Content) → IsCut n t (if b then cut_data n offset count t else t)
cut-if true n offset count t = is-cut n offset count t
cut-if false n offset count t = record { numbers = λ m. refl; trees = λ m c. refl; entries = λ m ne. refl; lists = λ m. refl; bare = λ m. refl }

pub tail-cut : (n offset : ℕ) (t : Forest Content) → IsCut n t (cut_tail n offset t)
tail-cut n offset t = cut-if (has_data t n) n offset (length (data_in t n) - offset) t

pub head-cut : (n offset : ℕ) (t : Forest Content) → IsCut n t (cut_head n offset t)
head-cut n offset t = cut-if (has_data t n) n 0 offset t

-- a node stays, where no tree that goes has it inside
pub there-taken : (ns : List ℕ) (x : ℕ) (t : Forest Content) → ((c : ℕ) → 0 < hits c ns → occurs x (tree_at c t) ≡ 0) → 0 < occurs x t → 0 < occurs x (taken ns t)
there-taken [] x t free h = h
there-taken (n ∷ ns) x t free h =
    let a = total-tree_at (one_at x) n t in
    let z = free n (hits-first n ns) in
    there-taken ns x (without n t) (λ c k. let y = free c (omega arith) in let l = tree-less x c n t in omega arith) (omega arith)

-- a node without data gets none
pub no_data-taken : (ns : List ℕ) (x : ℕ) (t : Forest Content) → IsOnce t → has_data t x ≡ false → has_data (taken ns t) x ≡ false
no_data-taken [] x t o h = h
no_data-taken (n ∷ ns) x t o h =
    no_data-taken ns x (without n t) (once-left n t o)
    (elim (cases_lt 0 (occurs x (without n t))) [
      | inl lt ↦ ap (entry_has is_character_data) (entry-without None n x t o lt) ∙ left (entry_in t x) ∙ h
      | inr le ↦ ap (entry_has is_character_data) (entry_under-absent None x (without n t) (omega arith))
    ])
  where
    left : (o : Option (Entry (Node Content))) → entry_has is_character_data (option_map (λ (e : Entry (Node Content)). record { value = e.value; parent = e.parent; children = left_out n e.children }) o) ≡ entry_has is_character_data o
    left o = grind arith

module _ (root low : ℕ) (t : Forest Content) (w : World) (sound : IsSound w) (h : HasTree root low t w) where
  -- Beside the path to the start.

  pub tail-as : (offset s : ℕ) (path : List ℕ) (n : ℕ) → IsWay w.forest n path s → AreIn (n ∷ path) t → tail_taken offset (n ∷ path) t ≡ taken (tail_nodes w offset (n ∷ path)) (cut_tail s offset t)
  tail-as offset s [] n way i =
      subst (λ m. tail_taken offset (n ∷ []) t ≡ taken (tail_nodes w offset (n ∷ [])) (cut_tail m offset t)) way
      (rw (same-kind root low n t w i.0 h) (elim (cases_Bool (has_data t n)) [ inl e ↦ rw e refl | inr e ↦ rw e (ap (λ ns. taken (drop offset ns) t) (sym (same-children root low n t w i.0 h))) ]))
  tail-as offset s (m ∷ path) n way i =
      ap (λ ns. taken (past m ns) (tail_taken offset (m ∷ path) t)) (sym (same-children root low n t w i.0 h))
      ∙ ap (taken (past m (children_of w.forest n))) (tail-as offset s path m way.2 i.1)
      ∙ sym (taken-append (tail_nodes w offset (m ∷ path)) (past m (children_of w.forest n)) (cut_tail s offset t))

  -- each of its nodes is a child of one of the path's
  pub tail-held : (offset : ℕ) (path : List ℕ) (c : ℕ) → 0 < hits c (tail_nodes w offset path) → (y : ℕ) × (0 < hits y path) × (0 < hits c (children_of w.forest y))
  tail-held offset [] c k = absurd (omega arith)
  tail-held offset (n ∷ []) c k =
      elim (cases_Bool (kind_passes is_character_data w.forest n)) [
        | inl e ↦ absurd (let l = rw e at k in omega arith)
        | inr e ↦ let l = rw e at k in (n, hits-first n [], let j = hits-drop c offset (children_of w.forest n) in omega arith)
      ]
  tail-held offset (n ∷ m ∷ path) c k =
      elim (cases_lt 0 (hits c (tail_nodes w offset (m ∷ path)))) [
        | inl lt ↦ let i = tail-held offset (m ∷ path) c lt in let j = i.1 in (i.0, omega arith, i.2)
        | inr le ↦
            let a = hits-append c (tail_nodes w offset (m ∷ path)) (past m (children_of w.forest n)) in
            let b = hits-past c m (children_of w.forest n) in
            (n, hits-first n (m ∷ path), omega arith)
      ]

  -- Beside the path to the end.

  way-first : (e : ℕ) → 0 < occurs e w.forest → (path : List ℕ) (m : ℕ) → 0 < occurs m w.forest → IsWay w.forest m path e → (x : ℕ) → m ≡ x → (0 < hits m (ancestors x w.forest)) × (0 < hits x (ancestors e w.forest)) × (0 < occurs x w.forest)
  way-first e he path m hm way x d =
      subst (λ q. (0 < hits m (ancestors q w.forest)) × (0 < hits q (ancestors e w.forest)) × (0 < occurs q w.forest)) d
      (above-itself w.forest sound.forest.once m hm, way-above w.forest sound.forest.once m path e hm he way, hm)

  -- what a way goes through is below its first node and above its last
  pub way-through : (e : ℕ) → 0 < occurs e w.forest → (path : List ℕ) (m : ℕ) → 0 < occurs m w.forest → IsWay w.forest m path e → (x : ℕ) → 0 < hits x (m ∷ path) → (0 < hits m (ancestors x w.forest)) × (0 < hits x (ancestors e w.forest)) × (0 < occurs x w.forest)
  way-through e he [] m hm way x k =
      elim (same_or m x) [
        | same d s ↦ way-first e he [] m hm way x d
        | apart ne s ↦ absurd (let l = rw s at k in omega arith)
      ]
  way-through e he (q ∷ path) m hm way x k =
      elim (same_or m x) [
        | same d s ↦ way-first e he (q ∷ path) m hm way x d
        | apart ne s ↦
            let l = rw s at k in
            let i = way-through e he path q way.0 way.2 x (omega arith) in
            (above-child w.forest sound.forest.once q m x i.2 way.0 i.0 way.1, i.1, i.2)
      ]

  -- the node in another tree, as it is in this
  pub record Stays (u : Forest Content) (x : ℕ) : Type 0 where
    pub there : 0 < occurs x u
    pub same : entry_in u x ≡ entry_in t x
    pub old : 0 < occurs x t

  stays-children : (u : Forest Content) (x : ℕ) → Stays u x → children_of u x ≡ children_of w.forest x
  stays-children u x k = ap children_in k.same ∙ sym (same-children root low x t w k.old h)

  pub head-as : (offset e : ℕ) → 0 < occurs e w.forest → (path : List ℕ) (n : ℕ) → 0 < occurs n w.forest → IsWay w.forest n path e → (u : Forest Content) → IsOnce u → ((x : ℕ) → 0 < hits x (n ∷ path) → Stays u x) → ((m c : ℕ) → occurs m (tree_at c u) ≤ occurs m (tree_at c t))
      → ((c : ℕ) → 0 < hits c (head_nodes w offset (n ∷ path)) → (x : ℕ) → 0 < hits x (ancestors e w.forest) → occurs x (tree_at c t) ≡ 0) → StayIn (n ∷ path) u × (head_taken offset (n ∷ path) u ≡ cut_head e offset (taken (head_nodes w offset (n ∷ path)) u))
  head-as offset e he [] n hn way u o stays less free =
      let k = stays n (hits-first n []) in
      let kind : has_data u n ≡ kind_passes is_character_data w.forest n = ap (entry_has is_character_data) k.same ∙ sym (same-kind root low n t w k.old h) in (
        k.there,
        subst (λ m. head_taken offset (n ∷ []) u ≡ cut_head m offset (taken (head_nodes w offset (n ∷ [])) u)) way
            (rw (sym kind) (elim (cases_Bool (has_data u n)) [
              | inl d ↦ rw (d, d) refl
              | inr d ↦
                  let bare = no_data-taken (take offset (children_of w.forest n)) n u o d in
                  rw d (ap (λ ns. taken (take offset ns) u) (stays-children u n k)
                  ∙ sym (ap (λ b. if b then cut_data n 0 offset (taken (take offset (children_of w.forest n)) u) else taken (take offset (children_of w.forest n)) u) bare))
            ])),
      )
  head-as offset e he (m ∷ path) n hn way u o stays less free =
      let k = stays n (hits-first n (m ∷ path)) in
      let list : children_of u n ≡ children_of w.forest n = stays-children u n k in
      let kept : (x : ℕ) → 0 < hits x (m ∷ path) → Stays (taken (up_to m (children_of w.forest n)) u) x = λ x l.
      let s = stays x (omega arith) in
      let way_x = way-through e he path m way.0 way.2 x l in
      let i = entry-taken (up_to m (children_of w.forest n)) x u o s.there (λ c q.
      let a = free c (let b = hits-append c (up_to m (children_of w.forest n)) (head_nodes w offset (m ∷ path)) in omega arith) x way_x.1 in
      let d = less x c in
      (omega arith, ap (hits c) (stays-children u x s) ∙ apart_children m n x c way.1 way.0 hn way_x.0 q))
      in
      record { there = i.0; same = i.1 ∙ s.same; old = s.old }
      in
      let deeper = head-as offset e he path m way.0 way.2 (taken (up_to m (children_of w.forest n)) u) (λ q. let a = o q in let b = occurs-taken q (up_to m (children_of w.forest n)) u in omega arith) kept
      (λ q c. let a = tree-taken q c (up_to m (children_of w.forest n)) u in let b = less q c in omega arith)
      (λ c q x l. free c (let b = hits-append c (up_to m (children_of w.forest n)) (head_nodes w offset (m ∷ path)) in omega arith) x l)
      in (
        (k.there, subst (λ ms. StayIn (m ∷ path) (taken (up_to m ms) u)) (sym list) deeper.0),
        ap (λ ms. head_taken offset (m ∷ path) (taken (up_to m ms) u)) list
            ∙ deeper.1
            ∙ ap (cut_head e offset) (sym (taken-append (up_to m (children_of w.forest n)) (head_nodes w offset (m ∷ path)) u)),
      )
    where
      -- a child of a node is none of a node below another child
      apart_children : (m n x c : ℕ) → parent_of w.forest m ≡ Some n → 0 < occurs m w.forest → 0 < occurs n w.forest → 0 < hits m (ancestors x w.forest) → 0 < hits c (up_to m (children_of w.forest n)) → hits c (children_of w.forest x) ≡ 0
      apart_children m n x c p hm hn above q =
          let none : 0 < hits c (children_of w.forest x) → ⊥ = λ lt.
          (let a = child-parent w.forest sound.forest.once c x lt in
          let b = child-parent w.forest sound.forest.once c n (let j = hits-up_to c m (children_of w.forest n) in omega arith) in
          let e : x ≡ n = cc in
          omega (arith, child-under w sound n m hn p hm, subst (λ r. 0 < hits m (ancestors r w.forest)) e above))
          in
          omega arith
