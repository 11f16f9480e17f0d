-- The trees of a node's children are apart, so the copies along a path and beside it take at most twice the nodes of its first node's tree.
use Rattle.std.proofs.Common.{◌≡◌, ℕ, zero, suc, ◌+◌, ◌*◌, ◌<◌, ◌≤◌, List, [], ◌∷◌, take, drop, Option, Some, None, refl, eq-eqb, arith, ⊎_elim}
use Rattle.std.proofs.lemmas.{Bool.cases_lt, Bool.false≢true, Bool.ne_eqb, Bool.Decides.nat_tests}
use Rattle.dom_model.specs.Definitions.{hits, or_else, past, up_to, Entry, children_in, Node, Forest, empty, node, occurs, size, tops, tree_at, entry_under, children_of, Content, IsWay}
use Rattle.dom_model.proofs.PlainLists.Numbers.{same_or, same, apart}
use Rattle.dom_model.proofs.Forests.{Totals.IsOnce, Totals.tree_at-absent, Totals.total-beside, Tops.hits-tops, Entries.entry_under-absent, Entries.entry_under-there, Indices.child-listed}
use Rattle.dom_model.proofs.RangesAndContents.PathsApart.{along}
use Rattle.dom_model.proofs.Counting.CopiesCounted.{tree_sizes, tail_cost, head_cost}

-- Weights along parts of a list.

pub along-same : (v w : ℕ → ℕ) (ns : List ℕ) → ((n : ℕ) → 0 < hits n ns → v n ≡ w n) → along v ns ≡ along w ns
along-same v w [] h = refl
along-same v w (n ∷ ns) h =
    let first : v n ≡ w n = h n (rw (eq-eqb n n refl) (omega arith)) in
    let later = along-same v w ns (λ m k. h m (omega arith)) in
    omega arith

along-drop : (w : ℕ → ℕ) (k : ℕ) (ns : List ℕ) → along w (drop k ns) ≤ along w ns
along-drop w zero ns = omega arith
along-drop w (suc k) [] = omega arith
along-drop w (suc k) (n ∷ ns) = omega (arith, along-drop w k ns)

along-take : (w : ℕ → ℕ) (k : ℕ) (ns : List ℕ) → along w (take k ns) ≤ along w ns
along-take w zero ns = omega arith
along-take w (suc k) [] = omega arith
along-take w (suc k) (n ∷ ns) = omega (arith, along-take w k ns)

along-past : (w : ℕ → ℕ) (m : ℕ) (ns : List ℕ) → 0 < hits m ns → along w (past m ns) + w m ≤ along w ns
along-past w m [] h = absurd (omega arith)
along-past w m (n ∷ ns) h = grind (arith, nat_tests, along-past w m ns)

along-up_to : (w : ℕ → ℕ) (m : ℕ) (ns : List ℕ) → 0 < hits m ns → along w (up_to m ns) + w m ≤ along w ns
along-up_to w m [] h = absurd (omega arith)
along-up_to w m (n ∷ ns) h = grind (arith, nat_tests, along-up_to w m ns)

module _ {X : Type 0} where
  -- a number's tree, told by where it stands
  size-kids : (n : ℕ) (x : Node X) (kids rest : Forest X) → (x.number ≡ n → ⊥) → occurs n rest ≡ 0 → size (tree_at n (node x kids rest)) ≡ size (tree_at n kids)
  size-kids n x kids rest far z = rw (ne_eqb x.number n far, tree_at-absent n rest z) (omega (arith, total-beside (λ _. 1) (tree_at n kids) empty))

  size-rest : (n : ℕ) (x : Node X) (kids rest : Forest X) → (x.number ≡ n → ⊥) → occurs n kids ≡ 0 → size (tree_at n (node x kids rest)) ≡ size (tree_at n rest)
  size-rest n x kids rest far z = rw (ne_eqb x.number n far, tree_at-absent n kids z) refl

  far-top : (n : ℕ) (x : Node X) (kids rest : Forest X) → IsOnce (node x kids rest) → 0 < occurs n kids + occurs n rest → x.number ≡ n → ⊥
  far-top n x kids rest o h e = let i = o n in let j = rw (eq-eqb x.number n e) at i in omega arith

  -- the tops' trees are the whole
  tops-sizes : (f : Forest X) → IsOnce f → along (λ n. size (tree_at n f)) (tops f) ≡ size f
  tops-sizes empty o = refl
  tops-sizes (node x kids rest) o =
      let later = tops-sizes rest (λ n. let i = o n in omega arith) in
      let same_rest = along-same (λ n. size (tree_at n (node x kids rest))) (λ n. size (tree_at n rest)) (tops rest)
      (λ n h. let i = o n in let k = hits-tops n rest in
      let far = far-top n x kids rest o (omega arith) in
      let z : occurs n kids ≡ 0 = omega arith in
      size-rest n x kids rest far z) in
      let own = eq-eqb x.number x.number refl in
      let i = rw own at (o x.number) in
      let z : occurs x.number rest ≡ 0 = omega arith in
      let top : size (tree_at x.number (node x kids rest)) ≡ 1 + size kids = rw (own, tree_at-absent x.number rest z) (omega arith) in
      omega arith

  -- a child stands in the forest
  child-within : (q : Option ℕ) (n c : ℕ) (f : Forest X) → hits c (children_in (entry_under q n f)) ≤ occurs c f
  child-within q n c empty = omega arith
  child-within q n c (node x kids rest) =
      elim (same_or x.number n) [
        | same e t ↦ rw t (omega (arith, hits-tops c kids))
        | apart ne t ↦ rw t (either (entry_under (Some x.number) n kids) (entry_under q n rest) (child-within (Some x.number) n c kids) (child-within q n c rest))
      ]
    where
      either : (a b : Option (Entry (Node X))) → hits c (children_in a) ≤ occurs c kids → hits c (children_in b) ≤ occurs c rest → hits c (children_in (or_else a b)) ≤ occurs c (node x kids rest)
      either None b h k = omega arith
      either (Some e) b h k = omega arith

  -- a node and its children's trees are no more than its tree
  pub children-sizes : (q : Option ℕ) (n : ℕ) (f : Forest X) → IsOnce f → 0 < occurs n f → 1 + along (λ m. size (tree_at m f)) (children_in (entry_under q n f)) ≤ size (tree_at n f)
  children-sizes q n empty o h = absurd (omega arith)
  children-sizes q n (node x kids rest) o h =
      elim (same_or x.number n) [
        | same e t ↦
            let own = tops-sizes kids once_kids in
            let s = along-same whole (λ m. size (tree_at m kids)) (tops kids) (λ m k. let i = hits-tops m kids in in_kids m (omega arith)) in
            rw (t, s) (omega arith)
        | apart ne t ↦
            let k = rw t at h in
            ⊎_elim
            (λ (lt : 0 < occurs n kids).
            let e : children_in (entry_under q n (node x kids rest)) ≡ children_in (entry_under (Some x.number) n kids) = rw t (first (entry_under (Some x.number) n kids) lt refl) in
            let s = along-same whole (λ m. size (tree_at m kids)) (children_in (entry_under (Some x.number) n kids)) (λ m k. let i = child-within (Some x.number) n m kids in in_kids m (omega arith)) in
            let i = children-sizes (Some x.number) n kids once_kids lt in
            let d = in_kids n lt in
            rw (e, s, d) i)
            (λ (le : occurs n kids ≤ 0).
            let z : occurs n kids ≡ 0 = omega arith in
            let lr : 0 < occurs n rest = omega arith in
            let e : children_in (entry_under q n (node x kids rest)) ≡ children_in (entry_under q n rest) = rw (t, entry_under-absent (Some x.number) n kids z) refl in
            let s = along-same whole (λ m. size (tree_at m rest)) (children_in (entry_under q n rest)) (λ m k. let i = child-within q n m rest in in_rest m (omega arith)) in
            let i = children-sizes q n rest once_rest lr in
            let d = in_rest n lr in
            rw (e, s, d) i)
            (cases_lt 0 (occurs n kids))
      ]
    where
      whole : ℕ → ℕ
      whole m = size (tree_at m (node x kids rest))

      once_kids : IsOnce kids
      once_kids m = let i = o m in omega arith

      once_rest : IsOnce rest
      once_rest m = let i = o m in omega arith

      in_kids : (m : ℕ) → 0 < occurs m kids → size (tree_at m (node x kids rest)) ≡ size (tree_at m kids)
      in_kids m k = let i = o m in let z : occurs m rest ≡ 0 = omega arith in size-kids m x kids rest (far-top m x kids rest o (omega arith)) z

      in_rest : (m : ℕ) → 0 < occurs m rest → size (tree_at m (node x kids rest)) ≡ size (tree_at m rest)
      in_rest m k = let i = o m in let z : occurs m kids ≡ 0 = omega arith in size-rest m x kids rest (far-top m x kids rest o (omega arith)) z

      first : (a : Option (Entry (Node X))) → 0 < occurs n kids → entry_under (Some x.number) n kids ≡ a → children_in (or_else a (entry_under q n rest)) ≡ children_in a
      first (Some e) lt d = refl
      first None lt d = absurd (let i = entry_under-there (Some x.number) n kids lt in let j = rw d at i in false≢true j)

module _ (f : Forest Content) (o : IsOnce f) where
  pub kids-within : (n : ℕ) → 0 < occurs n f → 1 + tree_sizes f (children_of f n) ≤ size (tree_at n f)
  kids-within n h = children-sizes None n f o h

  -- a tail takes at most twice its first node's tree
  pub tail-within : (offset u n last : ℕ) (path : List ℕ) → IsWay f u (n ∷ path) last → tail_cost f offset (n ∷ path) ≤ 2 * size (tree_at n f)
  tail-within offset u n last [] w = omega (arith, kids-within n w.0, along-drop (λ m. size (tree_at m f)) offset (children_of f n))
  tail-within offset u n last (m ∷ path) w =
      let below = w.2 in
      let listed = child-listed f o m n below.0 below.1 in
      omega (arith, kids-within n w.0, along-past (λ k. size (tree_at k f)) m (children_of f n) listed, tail-within offset n m last path below)

  -- and so does a head
  pub head-within : (offset u n last : ℕ) (path : List ℕ) → IsWay f u (n ∷ path) last → head_cost f offset (n ∷ path) ≤ 2 * size (tree_at n f)
  head-within offset u n last [] w = omega (arith, kids-within n w.0, along-take (λ m. size (tree_at m f)) offset (children_of f n))
  head-within offset u n last (m ∷ path) w =
      let below = w.2 in
      let listed = child-listed f o m n below.0 below.1 in
      omega (arith, kids-within n w.0, along-up_to (λ k. size (tree_at k f)) m (children_of f n) listed, head-within offset n m last path below)
