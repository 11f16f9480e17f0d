-- The lists of a tree walker, told along the trees: what a list of trees shows, and what of it comes after a node, before it and above it.
use Rattle.std.proofs.Common.{◌≡◌, ℕ, suc, ◌<◌, ◌≤◌, ◌==◌, nat_lt, Bool, false, if◌then◌else◌, List, [], ◌∷◌, ◌++◌, Option, Some, None, refl, sym, subst, arith, append_assoc}
use Rattle.std.proofs.lemmas.Bool.Decides.{nat_tests}
use Rattle.dom_model.specs.Definitions.{hits, Forest, empty, node, occurs, rows, ancestors, is_hidden, unhidden}
use Rattle.dom_model.specs.Forests.Forest.{Row}
use Rattle.dom_model.proofs.PlainLists.Numbers.{same_or, same, apart}
use Rattle.dom_model.proofs.Forests.{Totals.IsOnce, Climbing.hits-append, Climbing.hits-first, Climbing.ancestors-absent, Whereabouts.top, Whereabouts.inside, Whereabouts.beyond, Whereabouts.whereabouts}

module _ {X : Type 0} where
  -- whether the number stands in the trees
  abbrev pub is_in : ℕ → Forest X → Bool
  is_in n g = nat_lt 0 (occurs n g)

  -- the nodes in tree order without those under one that is shut
  abbrev pub shown : (ℕ → Bool) → Forest X → List ℕ
  shown is_shut empty = []
  shown is_shut (node x kids rest) = x.number ∷ ((if is_shut x.number then [] else shown is_shut kids) ++ shown is_shut rest)

  -- those of them that follow n and are not under it
  abbrev pub shown_after : (ℕ → Bool) → ℕ → Forest X → List ℕ
  shown_after is_shut n empty = []
  shown_after is_shut n (node x kids rest) =
      if x.number == n then shown is_shut rest
      else (if is_in n kids then shown_after is_shut n kids ++ shown is_shut rest else shown_after is_shut n rest)

  -- those that precede n, its ancestors with them, where no ancestor counts as shut
  abbrev pub shown_before : (ℕ → Bool) → ℕ → Forest X → List ℕ
  shown_before is_shut n empty = []
  shown_before is_shut n (node x kids rest) =
      if x.number == n then []
      else x.number ∷ (if is_in n kids then shown_before is_shut n kids else (if is_shut x.number then [] else shown is_shut kids) ++ shown_before is_shut n rest)

  -- the proper ancestors of n in the trees, the nearest first
  abbrev pub above : ℕ → Forest X → List ℕ
  above n empty = []
  above n (node x kids rest) = if x.number == n then [] else (if is_in n kids then above n kids ++ x.number ∷ [] else above n rest)

  -- the rows that follow n and are not under it, and how deep n stands
  abbrev pub rows_after : ℕ → ℕ → Forest X → List (Row X)
  rows_after depth n empty = []
  rows_after depth n (node x kids rest) =
      if x.number == n then rows depth rest
      else (if is_in n kids then rows_after (suc depth) n kids ++ rows depth rest else rows_after depth n rest)

  abbrev pub rows_before : ℕ → ℕ → Forest X → List (Row X)
  rows_before depth n empty = []
  rows_before depth n (node x kids rest) =
      if x.number == n then []
      else record { depth = depth; at = x } ∷ (if is_in n kids then rows_before (suc depth) n kids else rows (suc depth) kids ++ rows_before depth n rest)

  abbrev pub depth_in : ℕ → ℕ → Forest X → ℕ
  depth_in depth n empty = depth
  depth_in depth n (node x kids rest) =
      if x.number == n then depth else (if is_in n kids then depth_in (suc depth) n kids else depth_in depth n rest)

  -- the first row is no deeper
  abbrev pub IsLow : ℕ → List (Row X) → Type 0
  IsLow depth [] = Unit {0}
  IsLow depth (r ∷ rs) = r.depth ≤ depth

  IsLow-rows : (d e : ℕ) (g : Forest X) (rs : List (Row X)) → d ≤ e → IsLow d rs → IsLow e (rows d g ++ rs)
  IsLow-rows d e empty [] h l = tt
  IsLow-rows d e empty (r ∷ rs) h l = let k : r.depth ≤ d = l in omega arith
  IsLow-rows d e (node x kids rest) rs h l = h

  unhidden-open : (is_shut : (ℕ → Bool)) (hidden : Option ℕ) (d : ℕ) (rs : List (Row X)) → is_hidden hidden d ≡ false → IsLow d rs → unhidden is_shut hidden rs ≡ unhidden is_shut None rs
  unhidden-open is_shut hidden d [] h l = refl
  unhidden-open is_shut None d (r ∷ rs) h l = refl
  unhidden-open is_shut (Some s) d (r ∷ rs) h l = grind (arith, nat_tests)

  -- what stands under a row that is shut is passed over
  unhidden-shut : (is_shut : (ℕ → Bool)) (s d : ℕ) (g : Forest X) (rs : List (Row X)) → s < d → unhidden is_shut (Some s) (rows d g ++ rs) ≡ unhidden is_shut (Some s) rs
  unhidden-shut is_shut s d empty rs h = refl
  unhidden-shut is_shut s d (node x kids rest) rs h =
      grind (arith, append_assoc, unhidden-shut is_shut s (suc d) kids (rows d rest ++ rs), unhidden-shut is_shut s d rest rs h)

  pub unhidden-rows : (is_shut : (ℕ → Bool)) (hidden : Option ℕ) (d : ℕ) (g : Forest X) (rs : List (Row X)) → is_hidden hidden d ≡ false → IsLow d rs → unhidden is_shut hidden (rows d g ++ rs) ≡ shown is_shut g ++ unhidden is_shut None rs
  unhidden-rows is_shut hidden d empty rs h l = unhidden-open is_shut hidden d rs h l
  unhidden-rows is_shut hidden d (node x kids rest) rs h l =
      grind (
        arith,
        append_assoc,
        unhidden-shut is_shut,
        unhidden-rows is_shut (Some d) d rest rs,
        unhidden-rows is_shut None (suc d) kids (rows d rest ++ rs),
        IsLow-rows d,
        unhidden-rows is_shut None d rest rs,
      )

  pub IsLow-after : (n d : ℕ) (g : Forest X) (rs : List (Row X)) → occurs n g ≡ 1 → IsLow d rs → IsLow (depth_in d n g) (rows_after d n g ++ rs)
  IsLow-after n d empty rs h l = absurd (omega arith)
  IsLow-after n d (node x kids rest) rs h l =
      elim (whereabouts n x kids rest h) [
        | top e t zk zr ↦ rw t (IsLow-rows d d rest rs (omega arith) l)
        | inside ne t ok zr ↦
            rw (t, ok) (subst (λ (qs : List (Row X)). IsLow (depth_in (suc d) n kids) qs) (sym (append_assoc (rows_after (suc d) n kids) (rows d rest) rs))
            (IsLow-after n (suc d) kids (rows d rest ++ rs) ok (IsLow-rows d (suc d) rest rs (omega arith) l)))
        | beyond ne t zk or ↦ rw (t, zk) (IsLow-after n d rest rs or l)
      ]

  IsLow-before : (n d e : ℕ) (g : Forest X) → d ≤ e → IsLow e (rows_before d n g)
  IsLow-before n d e empty h = tt
  IsLow-before n d e (node x kids rest) h =
      elim (same_or x.number n) [
        | same i t ↦ rw t tt
        | apart ne t ↦ rw t h
      ]

  pub unhidden-after : (is_shut : (ℕ → Bool)) (n d : ℕ) (g : Forest X) (rs : List (Row X)) → occurs n g ≡ 1 → IsLow d rs → unhidden is_shut None (rows_after d n g ++ rs) ≡ shown_after is_shut n g ++ unhidden is_shut None rs
  unhidden-after is_shut n d empty rs h l = absurd (omega arith)
  unhidden-after is_shut n d (node x kids rest) rs h l =
      grind (
        arith,
        unhidden-rows is_shut,
        append_assoc,
        unhidden-after is_shut n (suc d) kids (rows d rest ++ rs),
        IsLow-rows d,
        unhidden-after is_shut n d rest rs,
      )

  pub unhidden-before : (is_shut : (ℕ → Bool)) (hidden : Option ℕ) (n d : ℕ) (g : Forest X) → is_hidden hidden d ≡ false → occurs n g ≡ 1 → ((m : ℕ) → 0 < hits m (above n g) → is_shut m ≡ false) → unhidden is_shut hidden (rows_before d n g) ≡ shown_before is_shut n g
  unhidden-before is_shut hidden n d empty v h o = absurd (omega arith)
  unhidden-before is_shut hidden n d (node x kids rest) v h o =
      grind (
        arith,
        unhidden-before is_shut None n (suc d) kids,
        hits-append,
        unhidden-shut is_shut,
        unhidden-before is_shut (Some d) n d rest,
        unhidden-rows is_shut,
        IsLow-before n d (suc d) rest,
        unhidden-before is_shut None n d rest,
      )

  -- only what is in the trees counts
  pub shown-same : (s t : (ℕ → Bool)) (g : Forest X) → ((m : ℕ) → 0 < occurs m g → s m ≡ t m) → shown s g ≡ shown t g
  shown-same s t empty h = refl
  shown-same s t (node x kids rest) h =
      rw (h x.number (let k = hits-first x.number [] in omega arith), shown-same s t kids (λ m k. h m (omega arith)), shown-same s t rest (λ m k. h m (omega arith))) refl

  pub hits-above : (m n : ℕ) (g : Forest X) → occurs n g ≡ 1 → hits m (above n g) ≤ occurs m g
  hits-above m n empty h = omega arith
  hits-above m n (node x kids rest) h = grind (arith, hits-append m (above n kids) (x.number ∷ []), hits-above m n kids, hits-above m n rest)

  -- and of that not the ancestors, before a node
  pub shown_before-same : (s t : (ℕ → Bool)) (n : ℕ) (g : Forest X) → IsOnce g → occurs n g ≡ 1 → ((m : ℕ) → 0 < occurs m g → hits m (n ∷ above n g) ≡ 0 → s m ≡ t m) → shown_before s n g ≡ shown_before t n g
  shown_before-same s t n empty o h e = absurd (omega arith)
  shown_before-same s t n (node x kids rest) o h e =
      grind (arith, nat_tests, hits-append, shown_before-same s t n kids, shown-same s t kids, shown_before-same s t n rest, hits-above)

  -- the ancestors are the node and those above it
  pub ancestors-above : (n : ℕ) (g : Forest X) → occurs n g ≡ 1 → ancestors n g ≡ n ∷ above n g
  ancestors-above n empty h = absurd (omega arith)
  ancestors-above n (node x kids rest) h = grind (arith, ancestors-above n kids, ancestors-absent n kids, ancestors-above n rest)
