-- An iterator's candidates one after another: what is found by going on to the next node, or back to the previous one, inside its root.
use Rattle.std.proofs.Common.{◌≡◌, ℕ, ◌<◌, ◌≤◌, true, if◌then◌else◌, List, [], ◌∷◌, ◌++◌, length, reverse, Option, Some, None, refl, ap, ◌∙◌, arith, append_assoc, find}
use Rattle.std.proofs.lemmas.{Bool.Decides.nat_tests, List.reverse-append, List.length-reverse}
use Rattle.dom_model.specs.Definitions.{hits, among, after, before, past, up_to, Forest, tree_at, ancestors, inclusive_descendants, Filter, Iterator, accepts, next_found, previous_found}
use Rattle.dom_model.proofs.Forests.{Totals.IsOnce, Climbing.hits-reverse, Climbing.among-hits, Climbing.hits-among, Climbing.hits-ancestors, PutBack.hits-after, TreeOrder.Flattened.hits-numbers, Below.occurs-tree, Below.at_itself, Mirrored.reverse-first, Mirrored.after-reverse, Mirrored.Round, Mirrored.round}

-- nothing comes past what nothing comes after
pub past-end : (n : ℕ) (ns : List ℕ) → after n ns ≡ None → past n ns ≡ []
past-end n [] h = refl
past-end n (m ∷ ns) h = grind (arith, past-end n ns)

-- else what comes after, and what comes past that
pub past-on : (n m : ℕ) (ns : List ℕ) → ((k : ℕ) → hits k ns ≤ 1) → after n ns ≡ Some m → past n ns ≡ m ∷ past m ns
past-on n m [] o h = absurd (cc h)
past-on n m (l ∷ ns) o h = grind (arith, nat_tests, hits-after n ns m, past-on n m ns)

pub past-round : (n : ℕ) (ahead behind : List ℕ) → hits n ahead ≡ 0 → past n (ahead ++ n ∷ behind) ≡ behind
past-round n [] behind h = rw (at_itself n) refl
past-round n (m ∷ ahead) behind h = grind (arith, past-round n ahead behind)

pub up_to-round : (n : ℕ) (ahead behind : List ℕ) → hits n ahead ≡ 0 → up_to n (ahead ++ n ∷ behind) ≡ ahead
up_to-round n [] behind h = rw (at_itself n) refl
up_to-round n (m ∷ ahead) behind h = grind (arith, up_to-round n ahead behind)

-- backwards is forwards in the reversed list
pub up_to-reverse : (n : ℕ) (ns : List ℕ) → hits n ns ≡ 1 → reverse (up_to n ns) ≡ past n (reverse ns)
up_to-reverse n ns h = go (round n ns h)
  where
    go : Round n ns → reverse (up_to n ns) ≡ past n (reverse ns)
    go r =
        grind (arith, nat_tests, up_to-round n r.ahead r.behind r.none_ahead, past-round n (reverse r.behind) (reverse r.ahead), hits-reverse n r.behind, past n, reverse-append r.ahead (n ∷ r.behind), reverse-first n r.behind, append_assoc (reverse r.behind) (n ∷ []) (reverse r.ahead))

pub up_to-start : (n : ℕ) (ns : List ℕ) → hits n ns ≡ 1 → before n ns ≡ None → reverse (up_to n ns) ≡ []
up_to-start n ns h e = up_to-reverse n ns h ∙ past-end n (reverse ns) (after-reverse n ns (omega arith) ∙ e)

pub up_to-back : (n m : ℕ) (ns : List ℕ) → ((k : ℕ) → hits k ns ≤ 1) → hits n ns ≡ 1 → before n ns ≡ Some m → reverse (up_to n ns) ≡ m ∷ reverse (up_to m ns)
up_to-back n m ns o h e =
    grind (arith, after-reverse n ns, hits-after n (reverse ns) m, up_to-reverse n ns h, past-on n m (reverse ns), hits-reverse, up_to-reverse m ns)

module _ {X : Type 0} (f : Forest X) (filter : Filter) (root : ℕ) where
  -- the first accepted node that follows n inside the root
  abbrev pub following_found : ℕ → Option ℕ
  following_found n = find (accepts f filter) (past n (inclusive_descendants f root))

  -- the nearest accepted node that precedes n inside the root
  abbrev pub preceding_found : ℕ → Option ℕ
  preceding_found n = find (accepts f filter) (reverse (up_to n (inclusive_descendants f root)))

module _ {X : Type 0} (f : Forest X) (o : IsOnce f) (root : ℕ) where
  pub inside-once : (n : ℕ) → hits n (inclusive_descendants f root) ≤ 1
  inside-once n = let i = hits-numbers n (tree_at root f) in let j = occurs-tree n root f in let k = o n in omega arith

  pub inside-there : (n : ℕ) → among root (ancestors n f) ≡ true → hits n (inclusive_descendants f root) ≡ 1
  inside-there n h = grind (arith, hits-numbers n (tree_at root f), hits-ancestors root n f o, among-hits root (ancestors n f) h, inside-once n)

  -- what stands inside the root has it among its ancestors
  inside-under : (m : ℕ) → 0 < hits m (inclusive_descendants f root) → among root (ancestors m f) ≡ true
  inside-under m h = grind (arith, hits-numbers m (tree_at root f), hits-ancestors root m f o, hits-among root (ancestors m f))

  pub following-inside : (n m : ℕ) → after n (inclusive_descendants f root) ≡ Some m → among root (ancestors m f) ≡ true
  following-inside n m e = inside-under m (hits-after n (inclusive_descendants f root) m e)

  pub preceding-inside : (n m : ℕ) → before n (inclusive_descendants f root) ≡ Some m → among root (ancestors m f) ≡ true
  preceding-inside n m e =
      let i = hits-after n (reverse (inclusive_descendants f root)) m (after-reverse n (inclusive_descendants f root) (inside-once n) ∙ e) in
      inside-under m (let j = hits-reverse m (inclusive_descendants f root) in omega arith)

  -- fewer nodes are left each time
  pub following-fewer : (n m : ℕ) → after n (inclusive_descendants f root) ≡ Some m → length (past m (inclusive_descendants f root)) < length (past n (inclusive_descendants f root))
  following-fewer n m e = let i = ap length (past-on n m (inclusive_descendants f root) inside-once e) in omega arith

  pub preceding-fewer : (n m : ℕ) → among root (ancestors n f) ≡ true → before n (inclusive_descendants f root) ≡ Some m → length (up_to m (inclusive_descendants f root)) < length (up_to n (inclusive_descendants f root))
  preceding-fewer n m h e =
      let i = ap length (up_to-back n m (inclusive_descendants f root) inside-once (inside-there n h) e) in
      omega (arith, length-reverse (up_to n (inclusive_descendants f root)), length-reverse (up_to m (inclusive_descendants f root)))

  module _ (filter : Filter) where
    -- forwards: none where no node follows; else that node, or what follows it
    pub following-end : (n : ℕ) → after n (inclusive_descendants f root) ≡ None → following_found f filter root n ≡ None
    following-end n e = ap (find (accepts f filter)) (past-end n (inclusive_descendants f root) e)

    pub following-on : (n m : ℕ) → after n (inclusive_descendants f root) ≡ Some m → following_found f filter root n ≡ (if accepts f filter m then Some m else following_found f filter root m)
    following-on n m e = ap (find (accepts f filter)) (past-on n m (inclusive_descendants f root) inside-once e)

    -- backwards: the same
    pub preceding-end : (n : ℕ) → among root (ancestors n f) ≡ true → before n (inclusive_descendants f root) ≡ None → preceding_found f filter root n ≡ None
    preceding-end n h e = ap (find (accepts f filter)) (up_to-start n (inclusive_descendants f root) (inside-there n h) e)

    pub preceding-on : (n m : ℕ) → among root (ancestors n f) ≡ true → before n (inclusive_descendants f root) ≡ Some m → preceding_found f filter root n ≡ (if accepts f filter m then Some m else preceding_found f filter root m)
    preceding-on n m h e = ap (find (accepts f filter)) (up_to-back n m (inclusive_descendants f root) inside-once (inside-there n h) e)

module _ {X : Type 0} (f : Forest X) where
  -- the next node: the reference, where the pointer is before it and it is accepted, else what follows it
  pub next_found-steps : (i : Iterator) → next_found f i ≡ (if i.before then (if accepts f i.filter i.reference then Some i.reference else following_found f i.filter i.root i.reference) else following_found f i.filter i.root i.reference)
  next_found-steps i = grind arith

  -- the previous node: the reference, where the pointer is after it and it is accepted, else what precedes it
  pub previous_found-steps : (i : Iterator) → previous_found f i ≡ (if i.before then preceding_found f i.filter i.root i.reference else (if accepts f i.filter i.reference then Some i.reference else preceding_found f i.filter i.root i.reference))
  previous_found-steps i = grind arith
