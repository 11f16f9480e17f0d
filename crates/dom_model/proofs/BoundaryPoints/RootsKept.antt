-- The roots of points and of references after a cut and a put, and after a step of an iterator.
use Rattle.std.proofs.Common.{◌≡◌, ℕ, ◌<◌, ◌≤◌, ◌==◌, nat_lt, Bool, true, false, ◌&&◌, if◌then◌else◌, List, [], ◌∷◌, ◌++◌, reverse, Option, Some, None, refl, ap, sym, ◌∙◌, arith, append-nil, find}
use Rattle.std.proofs.lemmas.{Bool.false≢true, Bool.cases_Bool, Bool.Decides.nat_tests}
use Rattle.dom_model.specs.Definitions.{hits, among, last_of, past, up_to, Forest, occurs, one_at, tree_at, inclusive_descendants, cut, put, parent_of, index_of, ancestors, root_of, Iterator, after_removal, from_reference, back_from_reference, iterator_moved, next_found, previous_found, moved_to_next, moved_to_previous, accepts}
use Rattle.dom_model.proofs.Forests.{Totals.total-put, Totals.total-tree_at, Climbing.among-hits, Climbing.not_among-hits, Climbing.hits-append, Climbing.hits-reverse, Climbing.hits-ancestors, Climbing.ancestors-there, Paths.parent-path, Paths.root-path, Paths.ancestors-cut, Paths.ancestors-put, TreeOrder.Flattened.hits-numbers, Climbing.hits-among}
use Rattle.dom_model.proofs.BoundaryPoints.RemovalOrder.{ancestors-split, up_with-clear, no_cycle}
use Rattle.dom_model.proofs.Traversal.IteratorsStay.{IsInRoot, hits-past}
use Rattle.dom_model.proofs.PlainLists.Members.{hits-last_of}

pub last_of-behind : (xs : List ℕ) (y : ℕ) (ys : List ℕ) → last_of (xs ++ y ∷ ys) ≡ last_of (y ∷ ys)
last_of-behind [] y ys = refl
last_of-behind (x ∷ []) y ys = refl
last_of-behind (x ∷ z ∷ xs) y ys = last_of-behind (z ∷ xs) y ys

pub hits-up_to : (x n : ℕ) (xs : List ℕ) → hits x (up_to n xs) ≤ hits x xs
hits-up_to x n [] = omega arith
hits-up_to x n (y ∷ xs) = grind (arith, nat_tests, hits-up_to x n xs)

pub hits-found : (p : ℕ → Bool) (xs : List ℕ) (x : ℕ) → find p xs ≡ Some x → 0 < hits x xs
hits-found p [] x e = absurd (cc e)
hits-found p (y ∷ xs) x e = grind (arith, nat_tests, cases_Bool, hits-found p xs x)

-- what is among the reference and a part of a list was in the list
hits-with : (x r : ℕ) (part all : List ℕ) → hits x part ≤ hits x all → 0 < hits r all → 0 < hits x (r ∷ part) → 0 < hits x all
hits-with x r part all h k e = grind (arith, nat_tests)

module _ {X : Type 0} where
  -- A step of an iterator.

  moved-stays : (f : Forest X) (before : Bool) (found : Option ℕ) (i : Iterator) → ((x : ℕ) → found ≡ Some x → 0 < hits x (inclusive_descendants f i.root)) → IsInRoot f i → IsInRoot f (iterator_moved before found i)
  moved-stays f before None i h k = k
  moved-stays f before (Some x) i h k = h x refl

  pub next-stays : (f : Forest X) (i : Iterator) → IsInRoot f i → IsInRoot f (moved_to_next f i)
  next-stays f i h =
      moved-stays f false (next_found f i) i (λ x e. forwards i.before x (hits-found (accepts f i.filter) (from_reference i (inclusive_descendants f i.root)) x e)) h
    where
      forwards : (v : Bool) → (x : ℕ) → 0 < hits x (if v then i.reference ∷ past i.reference (inclusive_descendants f i.root) else past i.reference (inclusive_descendants f i.root)) → 0 < hits x (inclusive_descendants f i.root)
      forwards true x k = hits-with x i.reference (past i.reference (inclusive_descendants f i.root)) (inclusive_descendants f i.root) (hits-past x i.reference (inclusive_descendants f i.root)) h k
      forwards false x k = (let j = hits-past x i.reference (inclusive_descendants f i.root) in omega arith)

  pub previous-stays : (f : Forest X) (i : Iterator) → IsInRoot f i → IsInRoot f (moved_to_previous f i)
  previous-stays f i h =
      moved-stays f true (previous_found f i) i (λ x e. backwards i.before x (hits-found (accepts f i.filter) (back_from_reference i (inclusive_descendants f i.root)) x e)) h
    where
      ahead : (x : ℕ) → hits x (reverse (up_to i.reference (inclusive_descendants f i.root))) ≤ hits x (inclusive_descendants f i.root)
      ahead x = (let j = hits-up_to x i.reference (inclusive_descendants f i.root) in let k = hits-reverse x (up_to i.reference (inclusive_descendants f i.root)) in omega arith)

      backwards : (v : Bool) → (x : ℕ) → 0 < hits x (if v then reverse (up_to i.reference (inclusive_descendants f i.root)) else i.reference ∷ reverse (up_to i.reference (inclusive_descendants f i.root))) → 0 < hits x (inclusive_descendants f i.root)
      backwards true x k = (let j = ahead x in omega arith)
      backwards false x k = hits-with x i.reference (reverse (up_to i.reference (inclusive_descendants f i.root))) (inclusive_descendants f i.root) (ahead x) h k

  -- A put.

  module _ (f : Forest X) (o : (m : ℕ) → occurs m f ≤ 1) (p c : ℕ) (b : Option ℕ) (hp : 0 < occurs p f) (hc : 0 < occurs c f) (r : parent_of f c ≡ None) (z : occurs p (tree_at c f) ≡ 0) where
    -- the root of a node of the tree that is put is that of its new parent; any other node keeps its root
    pub root-put : (n : ℕ) → 0 < occurs n f → root_of (put p c b f) n ≡ (if among c (ancestors n f) then root_of f p else root_of f n)
    root-put n h = ap last_of (ancestors-put f o p c b hp hc r z n h) ∙ go (among c (ancestors n f))
      where
        go : (v : Bool) → last_of (ancestors n f ++ (if v then ancestors p f else [])) ≡ (if v then root_of f p else root_of f n)
        go true = (let i = ancestors-there p f hp in ap (λ ns. last_of (ancestors n f ++ ns)) i.1 ∙ last_of-behind (ancestors n f) p i.0 ∙ sym (ap last_of i.1))
        go false = ap last_of (append-nil (ancestors n f))

    -- a node is in the tree that is put where its root is put
    pub root-among : (n : ℕ) → 0 < occurs n f → among c (ancestors n f) ≡ true → root_of f n ≡ Some c
    root-among n h e =
        let i = ancestors-split f o c n h (among-hits c (ancestors n f) e) in
        let a = root-path f o c hc r in
        ap last_of (i.1 ∙ ap (λ ns. i.0 ++ ns) a) ∙ last_of-behind i.0 c []

    -- nodes of one root have one root after the put
    pub one_root-put : (n m : ℕ) → 0 < occurs n f → 0 < occurs m f → root_of f n ≡ root_of f m → root_of (put p c b f) n ≡ root_of (put p c b f) m
    one_root-put n m hn hm e = root-put n hn ∙ go (among c (ancestors n f)) refl (among c (ancestors m f)) refl ∙ sym (root-put m hm)
      where
        go : (v : Bool) → among c (ancestors n f) ≡ v → (w : Bool) → among c (ancestors m f) ≡ w → (if v then root_of f p else root_of f n) ≡ (if w then root_of f p else root_of f m)
        go true a true d = refl
        go false a false d = e
        go true a false d = absurd (false≢true (sym d ∙ hits-among c (ancestors m f) (hits-last_of (ancestors m f) c (sym e ∙ root-among n hn a))))
        go false a true d = absurd (false≢true (sym a ∙ hits-among c (ancestors n f) (hits-last_of (ancestors n f) c (e ∙ root-among m hm d))))

    -- an iterator's reference stays in its root
    pub reference-put : (i : Iterator) → 0 < occurs i.reference f → IsInRoot f i → IsInRoot (put p c b f) i
    reference-put i hr h =
        let once : (m : ℕ) → occurs m (put p c b f) ≤ 1 = λ m. let k = total-put (one_at m) p c b f (let q = o p in omega (arith, total-tree_at (one_at p) c f)) in let l = o m in omega arith in
        let a = hits-numbers i.reference (tree_at i.root f) in
        let d = hits-ancestors i.root i.reference f o in
        let e = hits-numbers i.reference (tree_at i.root (put p c b f)) in
        let g = hits-ancestors i.root i.reference (put p c b f) once in
        let j = ap (hits i.root) (ancestors-put f o p c b hp hc r z i.reference hr) in
        let k = hits-append i.root (ancestors i.reference f) (if among c (ancestors i.reference f) then ancestors p f else []) in
        omega arith

  -- A cut: a point keeps its root.

  module _ (f : Forest X) (o : (m : ℕ) → occurs m f ≤ 1) (p c : ℕ) (hc : 0 < occurs c f) (par : parent_of f c ≡ Some p) where
    root-outside : (n : ℕ) → 0 < occurs n f → hits c (ancestors n f) ≡ 0 → root_of (cut c f) n ≡ root_of f n
    root-outside n h k = ap last_of (ancestors-cut f o c n h ∙ up_with-clear f o p c hc par (ancestors n f) k)

    pub root-removed : (n a : ℕ) → 0 < occurs n f → root_of (cut c f) (after_removal (inclusive_descendants f c) p (index_of f c) (record { node = n; offset = a })).node ≡ root_of f n
    root-removed n a h = go (among n (inclusive_descendants f c)) refl ((n == p) && nat_lt (index_of f c) a) refl
      where
        i : (0 < occurs p f) × (ancestors c f ≡ c ∷ ancestors p f)
        i = parent-path f o c p hc par

        inside : 0 < hits c (ancestors n f) → root_of (cut c f) p ≡ root_of f n
        inside k =
            let s = ancestors-split f o c n h k in
            let j = ancestors-there p f i.0 in
            root-outside p i.0 (no_cycle f o p c hc par)
            ∙ ap last_of j.1
            ∙ sym (ap last_of (s.1 ∙ ap (λ ns. s.0 ++ ns) (i.1 ∙ ap (λ ns. c ∷ ns) j.1)) ∙ last_of-behind s.0 c (p ∷ j.0))

        go : (v : Bool) → among n (inclusive_descendants f c) ≡ v → (w : Bool) → ((n == p) && nat_lt (index_of f c) a) ≡ w → root_of (cut c f) (after_removal (inclusive_descendants f c) p (index_of f c) (record { node = n; offset = a })).node ≡ root_of f n
        go true e w d = rw e (inside (let k = among-hits n (inclusive_descendants f c) e in let j = hits-numbers n (tree_at c f) in let l = hits-ancestors c n f o in omega arith))
        go false e true d = rw (e, d) (root-outside n h (let k = not_among-hits n (inclusive_descendants f c) e in let j = hits-numbers n (tree_at c f) in let l = hits-ancestors c n f o in omega arith))
        go false e false d = rw (e, d) (root-outside n h (let k = not_among-hits n (inclusive_descendants f c) e in let j = hits-numbers n (tree_at c f) in let l = hits-ancestors c n f o in omega arith))
