-- An iterator's reference stays in its root as a node is removed.
use Rattle.std.proofs.Common.{◌≡◌, ℕ, ◌+◌, ◌<◌, ◌≤◌, ◌==◌, Bool, true, false, not, ◌&&◌, if◌then◌else◌, List, [], ◌∷◌, ◌++◌, Option, Some, None, refl, ap, sym, ◌∙◌, subst, arith, length, length-append, ◌⊎◌, ⊎_elim, filter, unwrap_or}
use Rattle.std.proofs.lemmas.{Bool.cases_lt, Bool.not-true, List.nil_from_length, Bool.ne_eqb, Bool.cases_Bool, Bool.Decides.nat_tests}
use Rattle.dom_model.specs.Definitions.{hits, among, head_of, before, before_from, past, Forest, empty, node, occurs, one_at, numbers, tops, tree_at, without, placed_root, cut, ancestors, inclusive_descendants, Iterator, following_outside, moved_on, moved_back, stepped_off, pre_removed_among, pre_removed}
use Rattle.dom_model.proofs.PlainLists.Numbers.{same_or, same, apart}
use Rattle.dom_model.proofs.Forests.{Totals.total-tree_at, Totals.tree_at-absent, Totals.without-absent, Totals.total-beside, Totals.occurs-without, Climbing.hits-among, Climbing.hits-not_among, Climbing.not_among-hits, Climbing.hits-append, Climbing.hits-ancestors, Climbing.ancestors-there, Climbing.hits-first, Undone.tree_at-beside, Undone.without-beside, Undone.tree_at-placed_root, Tops.tops-tree_at, TreeOrder.Flattened.Piece, TreeOrder.Flattened.hits-numbers, TreeOrder.Flattened.numbers-without}
use Rattle.dom_model.proofs.BoundaryPoints.RemovalOrder.{ancestors-split}

pub hits-past : (x n : ℕ) (xs : List ℕ) → hits x (past n xs) ≤ hits x xs
hits-past x n [] = omega arith
hits-past x n (y ∷ xs) = grind (arith, hits-past x n xs)

-- what a filter lets through was there, and passes
pub filter-passes : (p : ℕ → Bool) (xs : List ℕ) (x : ℕ) → head_of (filter p xs) ≡ Some x → (0 < hits x xs) × (p x ≡ true)
filter-passes p [] x e = absurd (cc e)
filter-passes p (y ∷ xs) x e = go (p y) refl (filter-passes p xs x)
  where
    go : (v : Bool) → p y ≡ v → (head_of (filter p xs) ≡ Some x → (0 < hits x xs) × (p x ≡ true)) → (0 < hits x (y ∷ xs)) × (p x ≡ true)
    go true h below =
        let k = rw h at e in
        let d : y ≡ x = (let u : Some y ≡ Some x = k in cc u) in
        subst (λ z. (0 < hits z (y ∷ xs)) × (p z ≡ true)) d (hits-first y xs, h)
    go false h below =
        let k = rw h at e in
        let i = below k in
        ((let j = i.0 in omega arith), i.1)

-- what stands just before the first n of a list is what was passed, or stands ahead of it
pub before-ahead : (passed : Option ℕ) (n : ℕ) (ahead rest : List ℕ) (x : ℕ) → hits n ahead ≡ 0 → before_from passed n (ahead ++ n ∷ rest) ≡ Some x → (passed ≡ Some x) ⊎ (0 < hits x ahead)
before-ahead passed n [] rest x h e = grind arith
before-ahead passed n (y ∷ ahead) rest x h e = grind (arith, before-ahead (Some y) n ahead rest x)

-- something stands before a number that is not the first
before-there : (y n : ℕ) (ahead rest : List ℕ) → (x : ℕ) × (before_from (Some y) n (ahead ++ n ∷ rest) ≡ Some x)
before-there y n [] rest = elim (same_or n n) [ same e t ↦ (y, rw t refl) | apart ne t ↦ absurd (ne refl) ]
before-there y n (z ∷ ahead) rest =
    elim (same_or z n) [
      | same e t ↦ (y, rw t refl)
      | apart ne t ↦ (let i = before-there z n ahead rest in (i.0, rw t i.1))
    ]

first-same : (m n : ℕ) (ms ns : List ℕ) → m ∷ ms ≡ n ∷ ns → m ≡ n
first-same m n ms ns e = let k : Some m ≡ Some n = ap head_of e in cc k

-- it stays where nothing of the root's tree goes
unmoved : (n : ℕ) (inside all : List ℕ) (i : Iterator) → (among i.reference inside && (not (n == i.root) && among n all)) ≡ false → pre_removed_among n inside all i ≡ i
unmoved n inside all i e = rw e refl

root-kept : (n : ℕ) (inside all : List ℕ) (i : Iterator) → (pre_removed_among n inside all i).root ≡ i.root
root-kept n inside all i = grind arith

-- what goes is a piece of the flattening, not the first; the reference then stands in what is left
in_what_is_left : (n root : ℕ) (inside all left : List ℕ) (i : Iterator) → (pc : Piece all inside left) → (n ≡ root → ⊥) → (more : List ℕ) → inside ≡ n ∷ more → (others : List ℕ) → all ≡ root ∷ others → ((x : ℕ) → hits x all ≤ 1) → 0 < hits i.reference all → 0 < hits (if among i.reference inside then stepped_off n inside all i else i).reference left
in_what_is_left n root inside all left i pc ne more first others start once h = go (among i.reference inside) refl
  where
    count : (x : ℕ) → hits x all ≡ hits x inside + hits x left
    count x = grind (arith, nat_tests, hits-append x pc.ahead (inside ++ pc.behind), hits-append x inside pc.behind, hits-append x pc.ahead pc.behind)

    n_first : 0 < hits n inside
    n_first = subst (λ ns. 0 < hits n ns) (sym first) (hits-first n more)

    not_ahead : hits n pc.ahead ≡ 0
    not_ahead = grind (arith, nat_tests, hits-append n pc.ahead pc.behind, count n, once n)

    spelled : all ≡ pc.ahead ++ n ∷ (more ++ pc.behind)
    spelled = pc.holds ∙ ap (λ ns. pc.ahead ++ (ns ++ pc.behind)) first

    in_ahead : (x : ℕ) → 0 < hits x pc.ahead → 0 < hits x left
    in_ahead x k = let d = hits-append x pc.ahead pc.behind in let g = ap (hits x) pc.leaves in omega arith

    preceding : (x : ℕ) → before n all ≡ Some x → 0 < hits x left
    preceding x e = grind (arith, nat_tests, before-ahead None n pc.ahead (more ++ pc.behind) x not_ahead, before n, in_ahead x)

    there : (ahead : List ℕ) → all ≡ ahead ++ n ∷ (more ++ pc.behind) → (x : ℕ) × (before n all ≡ Some x)
    there [] e = absurd (ne (sym (first-same root n others (more ++ pc.behind) (sym start ∙ e))))
    there (y ∷ ahead) e =
        let r = before-there y n ahead (more ++ pc.behind) in
        let far : (y == n) ≡ false = grind (arith, nat_tests, once n, ap (hits n) e, hits-append n ahead (n ∷ (more ++ pc.behind)), hits-first n (more ++ pc.behind)) in
        (r.0, ap (before n) e ∙ (rw far r.1))

    back : (b : Option ℕ) → before n all ≡ b → (v : Bool) → 0 < hits (unwrap_or b i.reference) left
    back None e v = absurd (let r = there pc.ahead spelled in let k : None ≡ Some r.0 = sym e ∙ r.1 in cc k)
    back (Some x) e v = preceding x e

    on : (m : Option ℕ) → head_of (following_outside n inside all) ≡ m → 0 < hits (moved_on m (before n all) i).reference left
    on None e = back (before n all) refl true
    on (Some x) e =
        let r = filter-passes (λ y. not (among y inside)) (past n all) x e in
        let k = hits-past x n all in
        let l = count x in
        let z : hits x inside ≡ 0 = not_among-hits x inside (not-true (among x inside) r.1) in
        omega (arith, r.0)

    step : (w : Bool) → 0 < hits (if w then moved_on (head_of (following_outside n inside all)) (before n all) i else moved_back (before n all) i).reference left
    step true = on (head_of (following_outside n inside all)) refl
    step false = back (before n all) refl false

    go : (v : Bool) → among i.reference inside ≡ v → 0 < hits (if among i.reference inside then stepped_off n inside all i else i).reference left
    go true e = rw e (step i.before)
    go false e = rw e (let z = not_among-hits i.reference inside e in let k = count i.reference in omega arith)

module _ {X : Type 0} where
  -- the tree of a number that is not inside what goes
  tree_at-without_other : (r n : ℕ) (f : Forest X) → (n ≡ r → ⊥) → occurs r (tree_at n f) ≡ 0 → tree_at r (without n f) ≡ without n (tree_at r f)
  tree_at-without_other r n empty ne z = refl
  tree_at-without_other r n (node x kids rest) ne z =
      grind (arith, tree_at-without_other r n rest ne, tree_at-absent r kids, total-beside {X = X}, tree_at-without_other r n kids ne, without-beside {X = X})

  tree_at-placed_other : (r n : ℕ) (t f : Forest X) → occurs r t ≡ 0 → tree_at r (placed_root n t f) ≡ tree_at r f
  tree_at-placed_other r n t empty z = tree_at-absent r t z
  tree_at-placed_other r n t (node x kids rest) z =
      grind (arith, tree_at-beside r t (node x kids rest), tree_at-absent r t z, tree_at-placed_other r n t rest z)

  -- a tree from which a part is cut
  pub tree_at-cut_other : (r n : ℕ) (f : Forest X) → (n ≡ r → ⊥) → occurs r (tree_at n f) ≡ 0 → tree_at r (cut n f) ≡ without n (tree_at r f)
  tree_at-cut_other r n f ne z = tree_at-placed_other r n (tree_at n f) (without n f) z ∙ tree_at-without_other r n f ne z

  -- the tree of a number inside another tree is the same
  pub tree_at-inside : (r n : ℕ) (f : Forest X) → ((m : ℕ) → occurs m f ≤ 1) → 0 < occurs r (tree_at n f) → tree_at r (tree_at n f) ≡ tree_at r f
  tree_at-inside r n empty o h = refl
  tree_at-inside r n (node x kids rest) o h =
      grind (
        arith,
        tree_at-absent {X = X},
        total-beside {X = X},
        total-tree_at {X = X},
        tree_at-inside r n kids,
        tree_at-beside r (tree_at n kids),
        tree_at-inside r n rest,
      )

  first-number : (n : ℕ) (t : Forest X) → tops t ≡ n ∷ [] → (more : List ℕ) × (numbers t ≡ n ∷ more)
  first-number n empty e = absurd (let k : None ≡ Some n = ap head_of e in cc k)
  first-number n (node x kids rest) e = (numbers kids ++ numbers rest, ap (λ m. m ∷ (numbers kids ++ numbers rest)) (first-same x.number n (tops rest) [] e))

  -- the reference is an inclusive descendant of the root
  abbrev pub IsInRoot : Forest X → Iterator → Type 0
  IsInRoot f i = 0 < hits i.reference (inclusive_descendants f i.root)

  -- two nodes that are inside one another are one
  pub one_tree : (f : Forest X) → ((m : ℕ) → occurs m f ≤ 1) → (n r : ℕ) → 0 < occurs r f → 0 < occurs r (tree_at n f) → 0 < occurs n (tree_at r f) → n ≡ r
  one_tree f o n r hr below above =
      let hn : 0 < occurs n f = (let t = total-tree_at (one_at n) r f in omega arith) in
      let i = ancestors-split f o n r hr (let j = hits-ancestors n r f o in omega arith) in
      let k = ancestors-split f o r n hn (let j = hits-ancestors r n f o in omega arith) in
      let long = ap length i.1 ∙ length-append i.0 (ancestors n f) in
      let long2 = ap length k.1 ∙ length-append k.0 (ancestors r f) in
      let none : i.0 ≡ [] = nil_from_length i.0 (omega arith) in
      let same_path : ancestors r f ≡ ancestors n f = i.1 ∙ ap (λ ns. ns ++ ancestors n f) none in
      let a = ancestors-there r f hr in
      let b = ancestors-there n f hn in
      sym (first-same r n a.0 b.0 (sym a.1 ∙ same_path ∙ b.1))

  -- an iterator keeps its root, and its reference stays in it
  pub root-pre_removed : (f : Forest X) (n : ℕ) (i : Iterator) → (pre_removed f n i).root ≡ i.root
  root-pre_removed f n i = root-kept n (inclusive_descendants f n) (inclusive_descendants f i.root) i

  pub reference-stays : (f : Forest X) → ((m : ℕ) → occurs m f ≤ 1) → (n : ℕ) (i : Iterator) → 0 < occurs i.root f → IsInRoot f i → IsInRoot (cut n f) (pre_removed f n i)
  reference-stays f o n i hr h =
      subst (λ r. 0 < hits (pre_removed f n i).reference (inclusive_descendants (cut n f) r)) (sym (root-pre_removed f n i))
      (⊎_elim within
      (λ (le : occurs i.root (tree_at n f) ≤ 0).
      ⊎_elim (goes (omega arith)) (λ (none : occurs n (tree_at i.root f) ≤ 0). elsewhere (omega arith) (omega arith)) (cases_lt 0 (occurs n (tree_at i.root f))))
      (cases_lt 0 (occurs i.root (tree_at n f))))
    where
      -- nothing of the root's tree goes
      left_alone : (among i.reference (inclusive_descendants f n) && (not (n == i.root) && among n (inclusive_descendants f i.root))) ≡ false → tree_at i.root (cut n f) ≡ tree_at i.root f → 0 < hits (pre_removed f n i).reference (inclusive_descendants (cut n f) i.root)
      left_alone e t =
          let a = unmoved n (inclusive_descendants f n) (inclusive_descendants f i.root) i e in
          subst (λ (j : Iterator). 0 < hits j.reference (inclusive_descendants (cut n f) i.root)) (sym a)
          (subst (λ (g : Forest X). 0 < hits i.reference (numbers g)) (sym t) h)

      apart_root : occurs i.root (tree_at n f) ≡ 0 → n ≡ i.root → ⊥
      apart_root z d = grind (arith, total-tree_at (one_at n) n f, occurs-without n f)

      elsewhere : occurs i.root (tree_at n f) ≡ 0 → occurs n (tree_at i.root f) ≡ 0 → 0 < hits (pre_removed f n i).reference (inclusive_descendants (cut n f) i.root)
      elsewhere z none =
          left_alone (grind (arith, hits-not_among n (inclusive_descendants f i.root), hits-numbers n (tree_at i.root f)))
          (tree_at-cut_other i.root n f (apart_root z) z ∙ without-absent n (tree_at i.root f) none)

      within : 0 < occurs i.root (tree_at n f) → 0 < hits (pre_removed f n i).reference (inclusive_descendants (cut n f) i.root)
      within lt =
          left_alone
          (grind (arith, nat_tests, one_tree f o n i.root hr lt, hits-not_among n (inclusive_descendants f i.root), hits-numbers n (tree_at i.root f)))
          (tree_at-placed_root i.root n (tree_at n f) (without n f) (omega (arith, total-tree_at (one_at i.root) n f, o i.root)) ∙ tree_at-inside i.root n f o lt)

      goes : occurs i.root (tree_at n f) ≡ 0 → 0 < occurs n (tree_at i.root f) → 0 < hits (pre_removed f n i).reference (inclusive_descendants (cut n f) i.root)
      goes z part =
          let first = first-number n (tree_at n f) (tops-tree_at n f (omega (arith, total-tree_at (one_at n) i.root f, o n))) in
          let start = first-number i.root (tree_at i.root f) (tops-tree_at i.root f (omega (arith, o i.root))) in
          let pc : Piece (inclusive_descendants f i.root) (inclusive_descendants f n) (numbers (without n (tree_at i.root f))) =
          subst (λ (g : Forest X). Piece (numbers (tree_at i.root f)) (numbers g) (numbers (without n (tree_at i.root f)))) (tree_at-inside n i.root f o part)
          (numbers-without n (tree_at i.root f) (omega (arith, total-tree_at (one_at n) i.root f, o n))) in
          let stays = in_what_is_left n i.root (inclusive_descendants f n) (inclusive_descendants f i.root) (numbers (without n (tree_at i.root f))) i pc (apart_root z) first.0 first.1 start.0 start.1
          (λ x. omega (arith, total-tree_at (one_at x) i.root f, o x, hits-numbers x (tree_at i.root f))) h in
          subst (λ (g : Forest X). 0 < hits (pre_removed f n i).reference (numbers g)) (sym (tree_at-cut_other i.root n f (apart_root z) z))
          (subst (λ (j : Iterator). 0 < hits j.reference (numbers (without n (tree_at i.root f)))) (sym taken) stays)
        where
          taken : pre_removed f n i ≡ (if among i.reference (inclusive_descendants f n) then stepped_off n (inclusive_descendants f n) (inclusive_descendants f i.root) i else i)
          taken =
              rw (ne_eqb n i.root (apart_root z), hits-among n (inclusive_descendants f i.root) (omega (arith, hits-numbers n (tree_at i.root f))))
              (grind (arith, cases_Bool (among i.reference (inclusive_descendants f n))))
