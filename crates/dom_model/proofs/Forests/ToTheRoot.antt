-- A walk to the root, told on nested lists alone.
use Rattle.std.proofs.Common.{◌≡◌, ℕ, ◌<◌, ◌==◌, true, false, length, Option, Some, None, is_some, IfSome, refl, arith}
use Rattle.dom_model.specs.Definitions.{hits, among, last_of, Entry, parent_in, Node, Forest, Grove, occurs, tops, entry_in, HasNode, parent_of, next_of, previous_of, ancestors, root_of, tree_at, inclusive_descendants, IsForest}
use Rattle.dom_model.proofs.PlainLists.Members.{hits-last_of}
use Rattle.dom_model.proofs.Forests.{Lots.root-listed, Totals.total-tree_at, Tops.hits-tops, TreeOrder.Flattened.hits-numbers, Rooted.rooted-tops, Rooted.rooted, Climbing.ancestors-there, Climbing.hits-ancestors, Climbing.hits-among, Climbing.among-hits, Climbing.hits-not_among, Entries.occurs-HasNode, Entries.HasNode-occurs, Entries.Lies-entry_in, Paths.root-path, Above.Above}

pub IfSome-from : {A : Type 0} (o : Option A) (P : A → Type 0) → ((x : A) → o ≡ Some x → P x) → IfSome o P
IfSome-from None P h = tt
IfSome-from (Some x) P h = h x refl

module _ {X : Type 0} where
  -- the last of the ancestors is on top
  pub root-top : (n r : ℕ) (f : Forest X) → 0 < occurs n f → last_of (ancestors n f) ≡ Some r → 0 < hits r (tops f)
  root-top n r f h e = root-listed n r f e

  pub rooted-parent : (o : Option (Entry (Node X))) → 0 < rooted o → parent_in o ≡ None
  rooted-parent None h = refl
  rooted-parent (Some e) h = grind arith

  pub shorter : (f : Forest X) (n q : ℕ) → Above f n q → length (ancestors q f) < length (ancestors n f)
  shorter f n q a = rw a.path (omega arith)

  pub root-above : (f : Forest X) (n q : ℕ) → Above f n q → root_of f q ≡ root_of f n
  root-above f n q a = grind (arith, ancestors-there q f (occurs-HasNode f q a.there))

  pub among-above : (f : Forest X) (c n q : ℕ) → Above f n q → (n == c) ≡ false → among c (ancestors q f) ≡ among c (ancestors n f)
  among-above f c n q a ne = rw (a.path, ne) refl

  pub among-here : (f : Forest X) (c n : ℕ) → HasNode f n → (n == c) ≡ true → true ≡ among c (ancestors n f)
  among-here f c n h e = grind (arith, ancestors-there n f (occurs-HasNode f n h))

  pub next-root : (f : Forest X) (n : ℕ) → parent_of f n ≡ None → next_of f n ≡ None
  next-root f n h = rw h refl

  pub previous-root : (f : Forest X) (n : ℕ) → parent_of f n ≡ None → previous_of f n ≡ None
  previous-root f n h = rw h refl

module _ {X : Type 0} {g : Grove X} (s : IsForest g) where
  pub root-is : (n : ℕ) → HasNode g.forest n → parent_of g.forest n ≡ None → root_of g.forest n ≡ Some n
  root-is n h p = rw (root-path g.forest s.once n (occurs-HasNode g.forest n h) p) refl

  pub among-top : (c n : ℕ) → HasNode g.forest n → parent_of g.forest n ≡ None → (n == c) ≡ false → false ≡ among c (ancestors n g.forest)
  among-top c n h p ne = rw (root-path g.forest s.once n (occurs-HasNode g.forest n h) p, ne) refl

  -- a root has no parent
  pub root-parent : (n r : ℕ) → HasNode g.forest n → root_of g.forest n ≡ Some r → parent_of g.forest r ≡ None
  root-parent n r h e =
      grind (
        arith,
        root-top n r g.forest (occurs-HasNode g.forest n h),
        hits-tops {X = X},
        rooted-tops (entry_in g.forest) g.forest r (Lies-entry_in g.forest s.once),
      )

  -- an ancestor's tree holds the node
  pub inside : (top n : ℕ) → among top (ancestors n g.forest) ≡ true → 0 < occurs n (tree_at top g.forest)
  inside top n h = omega (arith, hits-ancestors top n g.forest s.once, among-hits top (ancestors n g.forest) h)

  pub inside-among : (top n : ℕ) → 0 < occurs n (tree_at top g.forest) → among top (ancestors n g.forest) ≡ true
  inside-among top n h = hits-among top (ancestors n g.forest) (omega (arith, hits-ancestors top n g.forest s.once))

  -- to stand inside is to have the node among the inclusive ancestors
  pub inside-same : (top n : ℕ) → among top (ancestors n g.forest) ≡ among n (inclusive_descendants g.forest top)
  inside-same top n = grind (arith, hits-ancestors {X = X}, hits-numbers {X = X}, hits-among, hits-not_among)

  -- a number that no node has is in no tree
  pub none-inside : (top n : ℕ) → is_some (entry_in g.forest n) ≡ false → among n (inclusive_descendants g.forest top) ≡ false
  none-inside top n h = grind (arith, hits-numbers {X = X}, total-tree_at {X = X}, hits-not_among, HasNode-occurs {X = X})

  pub inside-root : (n r : ℕ) → root_of g.forest n ≡ Some r → 0 < occurs n (tree_at r g.forest)
  inside-root n r h = omega (arith, hits-ancestors r n g.forest s.once, hits-last_of (ancestors n g.forest) r h)
