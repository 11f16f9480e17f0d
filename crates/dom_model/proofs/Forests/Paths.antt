-- The inclusive ancestors after a cut and a put.
use Rattle.std.proofs.Common.{◌≡◌, ℕ, zero, suc, ◌<◌, ◌≤◌, ◌==◌, false, if◌then◌else◌, List, [], ◌∷◌, ◌++◌, length, Option, Some, None, arith}
use Rattle.std.proofs.lemmas.Bool.Decides.{nat_tests}
use Rattle.dom_model.specs.Definitions.{among, Forest, occurs, one_at, entry_in, parent_of, tree_at, cut, put, ancestors}
use Rattle.dom_model.proofs.Forests.{Totals.total-tree_at, Totals.total-cut, Totals.total-put, Totals.IsOnce-cut, Changes.seen, Changes.nothing, Changes.just, Climbing.climbs, Climbing.climbs-root, Climbing.ancestors-there, Climbing.hits-ancestors, Climbing.among-hits, Climbing.not_among-hits, Climbing.hits-not_among, Entries.Lies-entry_in, Entries.parent-cut, Entries.parent-put, Undone.tree_at-cut}

-- a path from a node upwards, up to and with c
abbrev pub up_with : ℕ → List ℕ → List ℕ
up_with c [] = []
up_with c (x ∷ xs) = if x == c then x ∷ [] else x ∷ up_with c xs

-- the ancestors that a path gets where c is on it
abbrev pub then_above : ℕ → List ℕ → List ℕ → List ℕ
then_above c path above = path ++ (if among c path then above else [])

module _ {X : Type 0} where
  pub parent-path : (f : Forest X) → ((m : ℕ) → occurs m f ≤ 1) → (n q : ℕ) → 0 < occurs n f → parent_of f n ≡ Some q → (0 < occurs q f) × (ancestors n f ≡ n ∷ ancestors q f)
  parent-path f o n q h p = climbs (entry_in f) n q f o (Lies-entry_in f o) h p

  pub root-path : (f : Forest X) → ((m : ℕ) → occurs m f ≤ 1) → (n : ℕ) → 0 < occurs n f → parent_of f n ≡ None → ancestors n f ≡ n ∷ []
  root-path f o n h p = climbs-root (entry_in f) n f o (Lies-entry_in f o) h p

  path-long : (f : Forest X) (n : ℕ) → 0 < occurs n f → 0 < length (ancestors n f)
  path-long f n h = let i = ancestors-there n f h in rw i.1 (omega arith)

  -- what is not inside a node is not inside it after it is cut
  pub outside-cut : (f : Forest X) → ((m : ℕ) → occurs m f ≤ 1) → (c n : ℕ) → among c (ancestors n f) ≡ false → among c (ancestors n (cut c f)) ≡ false
  outside-cut f o c n h = grind (arith, not_among-hits, hits-ancestors c n f, hits-ancestors c n (cut c f) (IsOnce-cut c f o), tree_at-cut c f, hits-not_among)

  pub ancestors-cut : (f : Forest X) → ((m : ℕ) → occurs m f ≤ 1) → (c n : ℕ) → 0 < occurs n f → ancestors n (cut c f) ≡ up_with c (ancestors n f)
  ancestors-cut f o c n h = go (length (ancestors n f)) n (omega arith) h
    where
      o' : (m : ℕ) → occurs m (cut c f) ≤ 1
      o' = IsOnce-cut c f o

      there : (m : ℕ) → 0 < occurs m f → 0 < occurs m (cut c f)
      there m k = rw (total-cut (one_at m) c f) k

      go : (k m : ℕ) → length (ancestors m f) ≤ k → 0 < occurs m f → ancestors m (cut c f) ≡ up_with c (ancestors m f)
      go zero m l hm = absurd (let i = path-long f m hm in omega arith)
      go (suc k) m l hm =
          elim (seen (parent_of f m)) [
            | nothing e ↦ grind (arith, nat_tests, root-path f o m hm e, parent-cut f o c m, root-path (cut c f) o' m (there m hm))
            | just q e ↦
                let i = parent-path f o m q hm e in
                let above = go k q (let s = rw i.1 at l in omega arith) i.0 in
                grind (arith, nat_tests, i.1, parent-cut f o c m, root-path (cut c f) o' m (there m hm), parent-path (cut c f) o' m q (there m hm), above)
          ]

  module _ (f : Forest X) (o : (m : ℕ) → occurs m f ≤ 1) (p c : ℕ) (b : Option ℕ) (hp : 0 < occurs p f) (hc : 0 < occurs c f) (r : parent_of f c ≡ None) (z : occurs p (tree_at c f) ≡ 0) where
    put-total : (m : ℕ) → occurs m (put p c b f) ≡ occurs m f
    put-total m = total-put (one_at m) p c b f (let k = o p in omega (arith, total-tree_at (one_at p) c f))

    pub put-once : (m : ℕ) → occurs m (put p c b f) ≤ 1
    put-once m = let k = o m in rw (put-total m) k

    pub put-there : (m : ℕ) → 0 < occurs m f → 0 < occurs m (put p c b f)
    put-there m k = rw (put-total m) k

    outside-path : (k m : ℕ) → length (ancestors m f) ≤ k → 0 < occurs m f → among c (ancestors m f) ≡ false → ancestors m (put p c b f) ≡ ancestors m f
    outside-path zero m l hm out = absurd (let i = path-long f m hm in omega arith)
    outside-path (suc k) m l hm out =
        elim (seen (parent_of f m)) [
          | nothing e ↦
              grind (arith, nat_tests, root-path f o m hm e, parent-put f o p c b hp hc r z m hm, root-path (put p c b f) put-once m (put-there m hm))
          | just q e ↦
              let i = parent-path f o m q hm e in
              let above = outside-path k q (let s = rw i.1 at l in omega arith) i.0 in
              grind (arith, nat_tests, i.1, parent-put f o p c b hp hc r z m hm, parent-path (put p c b f) put-once m q (put-there m hm), above)
        ]

    not_inside : among c (ancestors p f) ≡ false
    not_inside = grind (arith, among-hits c (ancestors p f), hits-ancestors c p f o)

    put-path : (k m : ℕ) → length (ancestors m f) ≤ k → 0 < occurs m f → ancestors m (put p c b f) ≡ then_above c (ancestors m f) (ancestors p f)
    put-path zero m l hm = absurd (let i = path-long f m hm in omega arith)
    put-path (suc k) m l hm =
        let outside = outside-path (length (ancestors p f)) p (omega arith) hp not_inside in
        elim (seen (parent_of f m)) [
          | nothing e ↦
              grind (
                arith,
                nat_tests,
                root-path f o m hm e,
                parent-put f o p c b hp hc r z m hm,
                parent-path (put p c b f) put-once m p (put-there m hm),
                root-path (put p c b f) put-once m (put-there m hm),
                outside,
              )
          | just q e ↦
              let i = parent-path f o m q hm e in
              let above = put-path k q (let s = rw i.1 at l in omega arith) i.0 in
              grind (arith, nat_tests, i.1, r, parent-put f o p c b hp hc r z m hm, parent-path (put p c b f) put-once m q (put-there m hm), above)
        ]

    pub ancestors-put : (m : ℕ) → 0 < occurs m f → ancestors m (put p c b f) ≡ then_above c (ancestors m f) (ancestors p f)
    ancestors-put m hm = put-path (length (ancestors m f)) m (omega arith) hm
