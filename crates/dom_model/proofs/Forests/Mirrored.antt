-- A forest with all children lists reversed: its entries have their children reversed, so next and previous siblings change places,
-- and parents and ancestors stay.
use Rattle.std.proofs.Common.{◌≡◌, ℕ, ◌≤◌, ◌==◌, false, List, [], ◌∷◌, ◌++◌, reverse, Option, Some, None, option_map, refl, ap, sym, ◌∙◌, arith, append_assoc}
use Rattle.std.proofs.lemmas.List.{reverse-append, reverse-reverse}
use Rattle.dom_model.specs.Definitions.{hits, head_of, last_of, after, before, before_from, or_list, Entry, siblings_in, Node, Forest, empty, node, total, one_at, tops, beside, tree_at, entry_in, parent_of, children_of, next_of, previous_of, ancestors, Filter, verdict_on, mirrored, Lies}
use Rattle.dom_model.proofs.PlainLists.Numbers.{same_or, same, apart}
use Rattle.dom_model.proofs.Forests.{Totals.IsOnce, Totals.total-beside, Totals.beside-empty, Tops.tops-beside, Lying.Lies-beside, Climbing.hits-reverse, Climbing.ancestors-absent, Entries.Lies-entry_in, Entries.entry_in-Lies, Entries.occurs-held, Indices.child-once, Undone.beside-assoc, Undone.tree_at-beside, Standing.after-ahead, Standing.before-ahead}
use Rattle.dom_model.proofs.BoundaryPoints.RootsKept.{last_of-behind}

pub reverse-first : (n : ℕ) (ns : List ℕ) → reverse (n ∷ ns) ≡ reverse ns ++ n ∷ []
reverse-first n ns = reverse-append (n ∷ []) ns

pub last_of-reverse : (ns : List ℕ) → last_of (reverse ns) ≡ head_of ns
last_of-reverse [] = refl
last_of-reverse (n ∷ ns) = ap last_of (reverse-first n ns) ∙ last_of-behind (reverse ns) n []

pub head_of-reverse : (ns : List ℕ) → head_of (reverse ns) ≡ last_of ns
head_of-reverse ns = sym (last_of-reverse (reverse ns)) ∙ ap last_of (reverse-reverse ns)

-- a list round a number that stands in it once
pub record Round (n : ℕ) (ns : List ℕ) : Type 0 where
  pub ahead : List ℕ
  pub behind : List ℕ
  pub is : ns ≡ ahead ++ n ∷ behind
  pub none_ahead : hits n ahead ≡ 0
  pub none_behind : hits n behind ≡ 0

further : (n m : ℕ) (ns : List ℕ) → (m == n) ≡ false → Round n ns → Round n (m ∷ ns)
further n m ns t r =
    record { ahead = m ∷ r.ahead; behind = r.behind; is = ap (λ ls. m ∷ ls) r.is; none_ahead = rw t (let z = r.none_ahead in omega arith); none_behind = r.none_behind }

pub round : (n : ℕ) (ns : List ℕ) → hits n ns ≡ 1 → Round n ns
round n [] h = absurd (omega arith)
round n (m ∷ ns) h =
    elim (same_or m n) [
      | same e t ↦
          let k = rw t at h in
          record { ahead = []; behind = ns; is = ap (λ l. l ∷ ns) e; none_ahead = refl; none_behind = omega arith }
      | apart ne t ↦
          let k = rw t at h in
          let z : hits n ns ≡ 1 = omega arith in
          further n m ns t (round n ns z)
    ]

after-none : (n : ℕ) (ns : List ℕ) → hits n ns ≡ 0 → after n ns ≡ None
after-none n [] h = refl
after-none n (m ∷ ns) h = grind (arith, after-none n ns)

pub before-none : (passed : Option ℕ) (n : ℕ) (ns : List ℕ) → hits n ns ≡ 0 → before_from passed n ns ≡ None
before-none passed n [] h = refl
before-none passed n (m ∷ ns) h = grind (arith, before-none (Some m) n ns)

-- what comes next in the reversed list came before
pub after-reverse : (n : ℕ) (ns : List ℕ) → hits n ns ≤ 1 → after n (reverse ns) ≡ before n ns
after-reverse n ns h =
    grind (arith, round n, after-none, before-none, reverse-append, reverse-first, append_assoc, after-ahead, hits-reverse, head_of-reverse, before-ahead)

pub before-reverse : (n : ℕ) (ns : List ℕ) → hits n ns ≤ 1 → before n (reverse ns) ≡ after n ns
before-reverse n ns h = sym (after-reverse n (reverse ns) (rw (hits-reverse n ns) h)) ∙ ap (after n) (reverse-reverse ns)

module _ {X : Type 0} where
  pub total-mirrored : (w : ℕ → ℕ) (f : Forest X) → total w (mirrored f) ≡ total w f
  total-mirrored w empty = refl
  total-mirrored w (node x kids rest) = total-beside w (mirrored rest) (node x (mirrored kids) empty) ∙ (let i = total-mirrored w kids in let j = total-mirrored w rest in omega arith)

  pub IsOnce-mirrored : (f : Forest X) → IsOnce f → IsOnce (mirrored f)
  IsOnce-mirrored f o n = let i = total-mirrored (one_at n) f in let j = o n in omega arith

  mirrored-beside : (f g : Forest X) → mirrored (beside f g) ≡ beside (mirrored g) (mirrored f)
  mirrored-beside empty g = sym (beside-empty (mirrored g))
  mirrored-beside (node x kids rest) g = grind (arith, mirrored-beside rest g, beside-assoc (mirrored g) (mirrored rest) (node x (mirrored kids) empty))

  pub tree-mirrored : (n : ℕ) (f : Forest X) → tree_at n (mirrored f) ≡ mirrored (tree_at n f)
  tree-mirrored n empty = refl
  tree-mirrored n (node x kids rest) =
      grind (arith, tree_at-beside {X = X}, tree-mirrored n rest, beside-empty {X = X}, tree-mirrored n kids, mirrored-beside (tree_at n kids))

  pub tops-mirrored : (f : Forest X) → tops (mirrored f) ≡ reverse (tops f)
  tops-mirrored empty = refl
  tops-mirrored (node x kids rest) =
      grind (arith, tops-beside (mirrored rest) (node x (mirrored kids) empty), tops-mirrored rest, reverse-first x.number (tops rest))

  -- an entry with its children reversed
  abbrev pub turned : Option (Entry (Node X)) → Option (Entry (Node X))
  turned o = option_map (λ (e : Entry (Node X)). record { value = e.value; parent = e.parent; children = reverse e.children }) o

  Lies-mirrored : (at : (ℕ → Option (Entry (Node X)))) (p : Option ℕ) (f : Forest X) → Lies at p f → Lies (λ n. turned (at n)) p (mirrored f)
  Lies-mirrored at p empty l = tt
  Lies-mirrored at p (node x kids rest) l =
      Lies-beside (λ n. turned (at n)) p (mirrored rest) (node x (mirrored kids) empty) (Lies-mirrored at p rest l.2)
      (ap turned l.0 ∙ ap (λ ns. Some (record { value = x; parent = p; children = ns })) (sym (tops-mirrored kids)), Lies-mirrored at (Some x.number) kids l.1, tt)

  -- the entries of the mirrored forest
  pub entry-mirrored : (f : Forest X) → IsOnce f → (n : ℕ) → entry_in (mirrored f) n ≡ turned (entry_in f n)
  entry-mirrored f o n = grind (arith, entry_in-Lies, Lies-mirrored (entry_in f) None f (Lies-entry_in f o), total-mirrored, occurs-held f)

  pub parent-mirrored : (f : Forest X) → IsOnce f → (n : ℕ) → parent_of (mirrored f) n ≡ parent_of f n
  parent-mirrored f o n = grind (arith, entry-mirrored f o n)

  pub children-mirrored : (f : Forest X) → IsOnce f → (n : ℕ) → children_of (mirrored f) n ≡ reverse (children_of f n)
  children-mirrored f o n = grind (arith, entry-mirrored f o n)

  -- a filter says the same
  pub verdict-mirrored : (f : Forest X) → IsOnce f → (filter : Filter) (n : ℕ) → verdict_on (mirrored f) filter n ≡ verdict_on f filter n
  verdict-mirrored f o filter n = grind (arith, entry-mirrored f o n)

  siblings-mirrored : (f : Forest X) → IsOnce f → (n : ℕ) → siblings_in (entry_in (mirrored f)) n ≡ reverse (siblings_in (entry_in f) n)
  siblings-mirrored f o n = grind (arith, parent-mirrored f o n, children-mirrored f o)

  siblings-once : (f : Forest X) → IsOnce f → (n : ℕ) → hits n (siblings_in (entry_in f) n) ≤ 1
  siblings-once f o n = grind (arith, child-once f o n)

  pub next-mirrored : (f : Forest X) → IsOnce f → (n : ℕ) → next_of (mirrored f) n ≡ previous_of f n
  next-mirrored f o n = ap (after n) (siblings-mirrored f o n) ∙ after-reverse n (siblings_in (entry_in f) n) (siblings-once f o n)

  pub previous-mirrored : (f : Forest X) → IsOnce f → (n : ℕ) → previous_of (mirrored f) n ≡ next_of f n
  previous-mirrored f o n = ap (before n) (siblings-mirrored f o n) ∙ before-reverse n (siblings_in (entry_in f) n) (siblings-once f o n)

  ancestors-beside : (n : ℕ) (f g : Forest X) → ancestors n (beside f g) ≡ or_list (ancestors n f) (ancestors n g)
  ancestors-beside n empty g = refl
  ancestors-beside n (node x kids rest) g = grind (arith, ancestors-beside n rest g)

  -- the ancestors stay
  pub ancestors-mirrored : (n : ℕ) (f : Forest X) → IsOnce f → ancestors n (mirrored f) ≡ ancestors n f
  ancestors-mirrored n empty o = refl
  ancestors-mirrored n (node x kids rest) o = grind (arith, ancestors-mirrored n kids, ancestors-beside n, ancestors-mirrored n rest, ancestors-absent {X = X})
