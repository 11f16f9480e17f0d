-- The entries of a forest: where a number stands, and what is told of it after a cut and a put.
use Rattle.std.proofs.Common.{◌≡◌, ℕ, ◌<◌, ◌≤◌, ◌==◌, if◌then◌else◌, Option, Some, None, IsSome, refl, ap, sym, ◌∙◌, arith, ⊎_elim}
use Rattle.std.proofs.lemmas.{Bool.cases_lt, Bool.false≢true, Bool.Decides.nat_tests}
use Rattle.dom_model.specs.Definitions.{or_else, left_out, entered, Entry, held, parent_in, children_in, Node, Forest, empty, node, occurs, one_at, tops, entry_under, entry_in, HasNode, parent_of, children_of, tree_at, without, cut, put, Lies}
use Rattle.dom_model.proofs.PlainLists.Numbers.{same_or, same, apart}
use Rattle.dom_model.proofs.Forests.{Totals.total-tree_at, Totals.total-cut, Totals.total-put, Totals.occurs-without, Tops.tops-tree_at, Changes.cut_at, Changes.link_at, Changes.held-cut_at, Changes.held-link_at, Lying.Lies-cut, Lying.Lies-put_top, Lying.Lies-placed_under, Lying.Lies-without_root}

module _ {X : Type 0} where
  pub entry_under-absent : (q : Option ℕ) (n : ℕ) (f : Forest X) → occurs n f ≡ 0 → entry_under q n f ≡ None
  entry_under-absent q n empty h = refl
  entry_under-absent q n (node x kids rest) h = grind (arith, entry_under-absent (Some x.number) n kids, entry_under-absent q n rest)

  pub entry_under-Lies : (at : (ℕ → Option (Entry (Node X)))) (q : Option ℕ) (n : ℕ) (f : Forest X) (e : Entry (Node X)) → Lies at q f → 0 < occurs n f → at n ≡ Some e → entry_under q n f ≡ Some e
  entry_under-Lies at q n empty e l h s = absurd (omega arith)
  entry_under-Lies at q n (node x kids rest) e l h s =
      grind (arith, entry_under-Lies at (Some x.number) n kids e l.1, entry_under-absent (Some x.number) n kids, entry_under-Lies at q n rest e l.2)

  pub entry_under-there : (q : Option ℕ) (n : ℕ) (f : Forest X) → 0 < occurs n f → IsSome (entry_under q n f)
  entry_under-there q n empty h = absurd (omega arith)
  entry_under-there q n (node x kids rest) h =
      elim (same_or x.number n) [
        | same e t ↦ rw t refl
        | apart ne t ↦
            let k = rw t at h in
            rw t (⊎_elim
            (λ (lt : 0 < occurs n kids). or_first (entry_under (Some x.number) n kids) (entry_under q n rest) (entry_under-there (Some x.number) n kids lt))
            (λ (le : occurs n kids ≤ 0).
            let z : occurs n kids ≡ 0 = omega arith in
            rw (entry_under-absent (Some x.number) n kids z) (entry_under-there q n rest (omega arith)))
            (cases_lt 0 (occurs n kids)))
      ]
    where
      or_first : (o p : Option (Entry (Node X))) → IsSome o → IsSome (or_else o p)
      or_first None p h = absurd (false≢true h)
      or_first (Some e) p h = refl

  pub HasNode-occurs : (f : Forest X) (n : ℕ) → 0 < occurs n f → HasNode f n
  HasNode-occurs f n h = entry_under-there None n f h

  pub occurs-HasNode : (f : Forest X) (n : ℕ) → HasNode f n → 0 < occurs n f
  occurs-HasNode f n h = grind (arith, entry_under-absent None n f)

  Lies-agree : (at : (ℕ → Option (Entry (Node X)))) (q : Option ℕ) (f : Forest X) → ((m : ℕ) → occurs m f ≤ 1) → ((n : ℕ) → 0 < occurs n f → at n ≡ entry_under q n f) → Lies at q f
  Lies-agree at q empty o h = tt
  Lies-agree at q (node x kids rest) o h =
      (top, Lies-agree at (Some x.number) kids (λ m. let i = o m in omega arith) below_kids, Lies-agree at q rest (λ m. let i = o m in omega arith) below_rest)
    where
      top : at x.number ≡ Some (record { value = x; parent = q; children = tops kids })
      top = grind (arith, nat_tests, h x.number)

      or_first : (o p : Option (Entry (Node X))) → IsSome o → or_else o p ≡ o
      or_first None p i = absurd (false≢true i)
      or_first (Some e) p i = refl

      below_kids : (n : ℕ) → 0 < occurs n kids → at n ≡ entry_under (Some x.number) n kids
      below_kids n k =
          grind (arith, nat_tests, o n, h n, or_first (entry_under (Some x.number) n kids) (entry_under q n rest) (entry_under-there (Some x.number) n kids k), entry_under-there (Some x.number) n kids k)

      below_rest : (n : ℕ) → 0 < occurs n rest → at n ≡ entry_under q n rest
      below_rest n k = grind (arith, nat_tests, o n, h n, entry_under-absent (Some x.number) n kids)

  -- the entries of a forest spell it
  pub Lies-entry_in : (f : Forest X) → ((m : ℕ) → occurs m f ≤ 1) → Lies (entry_in f) None f
  Lies-entry_in f o = Lies-agree (entry_in f) None f o (λ n h. refl)

  pub occurs-held : (f : Forest X) (n : ℕ) → occurs n f ≤ 1 → occurs n f ≡ held (entry_in f n)
  occurs-held f n o = grind (arith, entry_under-there None n f, entry_under-absent None n f)

  -- entries that lie as the forest does, and no others, are its entries
  pub entry_in-Lies : (at : (ℕ → Option (Entry (Node X)))) (f : Forest X) → Lies at None f → ((n : ℕ) → occurs n f ≡ held (at n)) → (n : ℕ) → entry_in f n ≡ at n
  entry_in-Lies at f l h n = grind (arith, entry_under-absent None n f, entry_under-Lies at None n f)

  -- after a cut: the number has no parent, and stands in no list of children
  pub entry-cut : (f : Forest X) → ((m : ℕ) → occurs m f ≤ 1) → (c n : ℕ) → entry_in (cut c f) n ≡ cut_at c n (entry_in f n)
  entry-cut f o c n =
      entry_in-Lies (λ m. cut_at c m (entry_in f m)) (cut c f)
      (Lies-cut (entry_in f) (λ m. cut_at c m (entry_in f m)) c (λ m. refl) f (o c) (Lies-entry_in f o))
      (λ m. total-cut (one_at m) c f ∙ occurs-held f m (o m) ∙ sym (held-cut_at c m (entry_in f m)))
      n

  -- after a put of a root under a number that is not inside it: it has that parent, and stands in its list before b or last
  pub entry-put : (f : Forest X) → ((m : ℕ) → occurs m f ≤ 1) → (p c : ℕ) (b : Option ℕ) → 0 < occurs p f → 0 < occurs c f → parent_of f c ≡ None → occurs p (tree_at c f) ≡ 0 → (n : ℕ) → entry_in (put p c b f) n ≡ link_at p b c n (entry_in f n)
  entry-put f o p c b hp hc r z n =
      entry_in-Lies at' (put p c b f)
      (Lies-placed_under (entry_in f) at' p c b (tree_at c f) (λ m. refl) (tops-tree_at c f oc)
      (Lies-put_top (entry_in f) at' p c b (λ m. refl) None f (o c) z l) None (without c f) (occurs-without c f) (Lies-without_root (entry_in f) c r f l))
      (λ m. total-put (one_at m) p c b f op ∙ occurs-held f m (o m) ∙ sym (held-link_at p b c m (entry_in f m)))
      n
    where
      at' : ℕ → Option (Entry (Node X))
      at' m = link_at p b c m (entry_in f m)

      l : Lies (entry_in f) None f
      l = Lies-entry_in f o

      oc : occurs c f ≡ 1
      oc = let k = o c in omega arith

      op : occurs p (without c f) ≡ 1
      op = let k = o p in omega (arith, total-tree_at (one_at p) c f)

  parent-cut_at : (c n : ℕ) (e : Option (Entry (Node X))) → parent_in (cut_at c n e) ≡ (if n == c then None else parent_in e)
  parent-cut_at c n None = grind arith
  parent-cut_at c n (Some e) = refl

  children-cut_at : (c n : ℕ) (e : Option (Entry (Node X))) → children_in (cut_at c n e) ≡ left_out c (children_in e)
  children-cut_at c n None = refl
  children-cut_at c n (Some e) = refl

  pub parent-cut : (f : Forest X) → ((m : ℕ) → occurs m f ≤ 1) → (c n : ℕ) → parent_of (cut c f) n ≡ (if n == c then None else parent_of f n)
  parent-cut f o c n = ap parent_in (entry-cut f o c n) ∙ parent-cut_at c n (entry_in f n)

  pub children-cut : (f : Forest X) → ((m : ℕ) → occurs m f ≤ 1) → (c n : ℕ) → children_of (cut c f) n ≡ left_out c (children_of f n)
  children-cut f o c n = ap children_in (entry-cut f o c n) ∙ children-cut_at c n (entry_in f n)

  parent-link_at : (p : ℕ) (b : Option ℕ) (c n : ℕ) (e : Option (Entry (Node X))) → IsSome e → parent_in (link_at p b c n e) ≡ (if n == c then Some p else parent_in e)
  parent-link_at p b c n None h = absurd (false≢true h)
  parent-link_at p b c n (Some e) h = refl

  children-link_at : (p : ℕ) (b : Option ℕ) (c n : ℕ) (e : Option (Entry (Node X))) → IsSome e → children_in (link_at p b c n e) ≡ (if n == p then entered b c (children_in e) else children_in e)
  children-link_at p b c n None h = absurd (false≢true h)
  children-link_at p b c n (Some e) h = refl

  pub parent-put : (f : Forest X) → ((m : ℕ) → occurs m f ≤ 1) → (p c : ℕ) (b : Option ℕ) → 0 < occurs p f → 0 < occurs c f → parent_of f c ≡ None → occurs p (tree_at c f) ≡ 0 → (n : ℕ) → 0 < occurs n f → parent_of (put p c b f) n ≡ (if n == c then Some p else parent_of f n)
  parent-put f o p c b hp hc r z n hn =
      ap parent_in (entry-put f o p c b hp hc r z n) ∙ parent-link_at p b c n (entry_in f n) (entry_under-there None n f hn)

  pub children-put : (f : Forest X) → ((m : ℕ) → occurs m f ≤ 1) → (p c : ℕ) (b : Option ℕ) → 0 < occurs p f → 0 < occurs c f → parent_of f c ≡ None → occurs p (tree_at c f) ≡ 0 → (n : ℕ) → 0 < occurs n f → children_of (put p c b f) n ≡ (if n == p then entered b c (children_of f n) else children_of f n)
  children-put f o p c b hp hc r z n hn =
      ap children_in (entry-put f o p c b hp hc r z n) ∙ children-link_at p b c n (entry_in f n) (entry_under-there None n f hn)
