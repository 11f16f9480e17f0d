-- Forests that the token texts cannot tell apart stay so: where a tree is cut, put, made or put away, and where a node changes.
use Rattle.std.proofs.Common.{◌≡◌, ℕ, ◌<◌, ◌≤◌, ◌==◌, Bool, true, false, List, Option, Some, None, option_map, refl, ap, sym, ◌∙◌, arith, inl, inr}
use Rattle.std.proofs.lemmas.Bool.{cases_lt}
use Rattle.dom_model.specs.Definitions.{or_else, Entry, held, Node, Forest, empty, node, occurs, one_at, tops, beside, tree_at, without, cut, put, map_nodes, with_node, adopted, in_document, entry_in, parent_of, Content, Lies, Childless}
use Rattle.dom_model.proofs.Worlds.Measured.{entry-with_node, entry-joined}
use Rattle.dom_model.proofs.PlainLists.Numbers.{same_or, same, apart}
use Rattle.dom_model.proofs.Forests.{Totals.total-beside, Totals.total-tree_at, Totals.total-cut, Totals.total-put, Totals.tree_at-absent, Changes.cut_at, Changes.link_at, Changes.change_at, Changes.held-cut_at, Lying.Lies-beside, Lying.Lies-cut_top, Lying.Lies-without, Lying.Lies-kept, Lying.total-with_node, Entries.Lies-entry_in, Entries.occurs-held, Entries.entry_in-Lies, Entries.entry-cut, Entries.entry-put}
use Rattle.dom_model.proofs.TokenText.{AlikeTrees.TreesAlike.Alike, AlikeTrees.TreesAlike.Top, AlikeTrees.TreesAlike.bare, AlikeTrees.TreesAlike.bared, AlikeTrees.TreesAlike.bare_entry, AlikeTrees.TreesAlike.top_of, AlikeTrees.TreesAlike.total-bared, AlikeTrees.TreesAlike.entry_under-bared, AlikeTrees.TreesAlike.or_else-map, AlikeTrees.TreesAlike.Childless-beside, AlikeTrees.TreesAlike.Childless-tree_at, AlikeTrees.TreesAlike.Childless-without, AlikeTrees.TreesAlike.alike-parent, AlikeTrees.WaysToTrees.to_tree}

module _ {X : Type 0} where
  -- equal entries have equal parts
  pub entry_parts : (x y : Node X) (q q' : Option ℕ) (c d : List ℕ) → ◌≡◌ {A = Option (Entry (Node X))} (Some (record { value = x; parent = q; children = c })) (Some (record { value = y; parent = q'; children = d })) → (x ≡ y) × (c ≡ d)
  entry_parts x y q q' c d e =
      let r : ◌≡◌ {A = Entry (Node X)} (record { value = x; parent = q; children = c }) (record { value = y; parent = q'; children = d }) = cc e in
      (ap (λ (b : Entry (Node X)). b.value) r, ap (λ (b : Entry (Node X)). b.children) r)

  -- entries tell a forest but for the order of its roots
  pub forests-same : (at : (ℕ → Option (Entry (Node X)))) (q q' : Option ℕ) (f g : Forest X) → Lies at q f → Lies at q' g → tops f ≡ tops g → f ≡ g
  forests-same at q q' empty empty l m e = refl
  forests-same at q q' empty (node y ys rest) l m e = absurd (cc e)
  forests-same at q q' (node x kids rest) empty l m e = absurd (cc e)
  forests-same at q q' (node x kids rest) (node y ys others) l m e =
      let d : x.number ≡ y.number = cc e in
      let r : tops rest ≡ tops others = cc e in
      let s = entry_parts x y q q' (tops kids) (tops ys) (sym l.0 ∙ ap at d ∙ m.0) in
      rw (s.0, forests-same at (Some x.number) (Some y.number) kids ys l.1 m.1 s.1, forests-same at q q' rest others l.2 m.2 r) refl

  pub Lies-in_tree : (at : (ℕ → Option (Entry (Node X)))) (q : Option ℕ) (n : ℕ) (y : Node X) (ys f : Forest X) → ((m : ℕ) → occurs m f ≤ 1) → Lies at q f → tree_at n f ≡ node y ys empty → Lies at (Some y.number) ys
  Lies-in_tree at q n y ys f o l e =
      to_tree n y ys (λ g. (q : Option ℕ) → Lies at q g → Lies at (Some y.number) ys) (λ rest o d t k z q l. l.1)
      (λ x kids rest o t h z e i q l. i (Some x.number) l.1) (λ x kids rest o t k e i q l. i q l.2) f o e q l

pub bared-beside : (f g : Forest Content) → bared (beside f g) ≡ beside (bared f) (bared g)
bared-beside empty g = refl
bared-beside (node x kids rest) g = ap (node (bare x) (bared kids)) (bared-beside rest g)

pub tree_at-bared : (n : ℕ) (f : Forest Content) → tree_at n (bared f) ≡ bared (tree_at n f)
tree_at-bared n empty = refl
tree_at-bared n (node x kids rest) =
    elim (same_or x.number n) [
      | same d t ↦ rw (t, tree_at-bared n rest) refl
      | apart ne t ↦ rw (t, tree_at-bared n kids, tree_at-bared n rest) (sym (bared-beside (tree_at n kids) (tree_at n rest)))
    ]

module _ (g f : Forest Content) (alike : Alike g f) (once : (n : ℕ) → occurs n f ≤ 1) where
  pub alike-once : (n : ℕ) → occurs n g ≤ 1
  alike-once n = let a = alike.numbers n in let b = once n in omega arith

  bared-once : (n : ℕ) → occurs n (bared f) ≤ 1
  bared-once n = let a = total-bared (one_at n) f in let b = once n in omega arith

  same_entry : (n : ℕ) → entry_in g n ≡ entry_in (bared f) n
  same_entry n = alike.entries n ∙ sym (entry_under-bared None n f)

  -- each tree of the one is one of the other
  pub alike-tree : (n : ℕ) → tree_at n g ≡ bared (tree_at n f)
  alike-tree n = elim (cases_lt 0 (occurs n f)) [
    | inl lt ↦ there (top_of None n g alike-once (let a = alike.numbers n in omega arith)) (top_of None n (bared f) bared-once (let a = total-bared (one_at n) f in omega arith)) ∙ tree_at-bared n f
    | inr le ↦ (let b = alike.numbers n in rw (tree_at-absent n g (omega arith), tree_at-absent n f (omega arith)) refl)
  ]
    where
      there : Top n g (entry_in g n) → Top n (bared f) (entry_in (bared f) n) → tree_at n g ≡ tree_at n (bared f)
      there a b =
          let e = entry_parts a.top b.top a.parent b.parent (tops a.kids) (tops b.kids) (sym a.told ∙ same_entry n ∙ b.told) in
          let la = Lies-in_tree (entry_in g) None n a.top a.kids g alike-once (Lies-entry_in g alike-once) a.at in
          let lb = Lies-in_tree (entry_in (bared f)) None n b.top b.kids (bared f) bared-once (Lies-entry_in (bared f) bared-once) b.at in
          let lc = Lies-kept (entry_in (bared f)) (entry_in g) (Some b.top.number) b.kids (λ m h. same_entry m) lb in
          let s : a.kids ≡ b.kids = forests-same (entry_in g) (Some a.top.number) (Some b.top.number) a.kids b.kids la lc e.1 in
          a.at ∙ (rw (e.0, s) (sym b.at))

  pub alike-inside : (n m : ℕ) → occurs m (tree_at n g) ≡ occurs m (tree_at n f)
  alike-inside n m = ap (occurs m) (alike-tree n) ∙ total-bared (one_at m) (tree_at n f)

  bare-cut_at : (c n : ℕ) (e : Option (Entry (Node Content))) → cut_at c n (option_map bare_entry e) ≡ option_map bare_entry (cut_at c n e)
  bare-cut_at c n None = refl
  bare-cut_at c n (Some e) = refl

  bare-link_at : (p : ℕ) (b : Option ℕ) (c n : ℕ) (e : Option (Entry (Node Content))) → link_at p b c n (option_map bare_entry e) ≡ option_map bare_entry (link_at p b c n e)
  bare-link_at p b c n None = refl
  bare-link_at p b c n (Some e) = refl

  -- a tree leaves its place: there it becomes a root by its number, here the last
  pub alike-cut : (c : ℕ) → Alike (beside (without c g) (tree_at c g)) (cut c f)
  alike-cut c = record {
    entries = λ n.
        entry_in-Lies (λ m. cut_at c m (entry_in g m)) (beside (without c g) (tree_at c g)) lies count n
        ∙ ap (cut_at c n) (alike.entries n) ∙ bare-cut_at c n (entry_in f n) ∙ ap (option_map bare_entry) (sym (entry-cut f once c n));
    numbers = λ n. omega (arith, total-beside (one_at n) (without c g) (tree_at c g), total-tree_at (one_at n) c g, alike.numbers n, total-cut (one_at n) c f);
    childless = Childless-beside (without c g) (tree_at c g) (Childless-without c g alike.childless) (Childless-tree_at c g alike.childless);
  }
    where
      at' : ℕ → Option (Entry (Node Content))
      at' m = cut_at c m (entry_in g m)

      lies : Lies at' None (beside (without c g) (tree_at c g))
      lies = Lies-beside at' None (without c g) (tree_at c g) (Lies-without (entry_in g) at' c (λ m. refl) None g (Lies-entry_in g alike-once)) (Lies-cut_top (entry_in g) at' c (λ m. refl) None g (alike-once c) (Lies-entry_in g alike-once))

      count : (n : ℕ) → occurs n (beside (without c g) (tree_at c g)) ≡ held (at' n)
      count n = omega (arith, total-beside (one_at n) (without c g) (tree_at c g), total-tree_at (one_at n) c g, occurs-held g n (alike-once n), held-cut_at c n (entry_in g n))

  -- a root comes under a node that is not inside it
  pub alike-put : (p c : ℕ) (b : Option ℕ) → 0 < occurs p f → 0 < occurs c f → parent_of f c ≡ None → occurs p (tree_at c f) ≡ 0 → Childless (put p c b g) → Alike (put p c b g) (put p c b f)
  alike-put p c b hp hc r z d = record {
    entries = λ n.
        entry-put g alike-once p c b gp gc gr gz n
        ∙ ap (link_at p b c n) (alike.entries n) ∙ bare-link_at p b c n (entry_in f n) ∙ ap (option_map bare_entry) (sym (entry-put f once p c b hp hc r z n));
    numbers = λ n. total-put (one_at n) p c b g (let k = total-tree_at (one_at p) c g in let l = alike-once p in let y = gz in let u = gp in omega arith) ∙ alike.numbers n ∙ sym (total-put (one_at n) p c b f (let k = total-tree_at (one_at p) c f in let l = once p in omega arith));
    childless = d;
  }
    where
      gp : 0 < occurs p g
      gp = let a = alike.numbers p in omega arith

      gc : 0 < occurs c g
      gc = let a = alike.numbers c in omega arith

      gr : parent_of g c ≡ None
      gr = alike-parent g f alike c ∙ r

      gz : occurs p (tree_at c g) ≡ 0
      gz = alike-inside c p ∙ z

  -- a node changes
  pub alike-node : (n : ℕ) (h h' : Node Content → Node Content) → ((x : Node Content) → (h x).number ≡ x.number) → ((x : Node Content) → (h' x).number ≡ x.number) → ((x : Node Content) → h (bare x) ≡ bare (h' x)) → Childless (with_node n h g) → Alike (with_node n h g) (with_node n h' f)
  alike-node n h h' e e' fits c = record {
    entries = λ m.
        entry-with_node h e n m None g ∙ ap (change_at h n m) (alike.entries m) ∙ bare-change (m == n) m refl (entry_in f m)
        ∙ ap (option_map bare_entry) (sym (entry-with_node h' e' n m None f));
    numbers = λ m. total-with_node (one_at m) n h e g ∙ alike.numbers m ∙ sym (total-with_node (one_at m) n h' e' f);
    childless = c;
  }
    where
      bare-change : (v : Bool) (m : ℕ) → (m == n) ≡ v → (a : Option (Entry (Node Content))) → change_at h n m (option_map bare_entry a) ≡ option_map bare_entry (change_at h' n m a)
      bare-change v m d None = refl
      bare-change true m d (Some a) = rw d (ap (λ (x : Node Content). Some (record { value = x; parent = a.parent; children = a.children })) (fits a.value))
      bare-change false m d (Some a) = rw d refl

-- other trees come beside
pub alike-beside : (g f h k : Forest Content) → Alike g f → Alike h k → Alike (beside g h) (beside f k)
alike-beside g f h k a b = record {
  entries = λ n.
      entry-joined None n g h ∙ ap (λ e. or_else e (entry_in h n)) (a.entries n) ∙ ap (λ e. or_else (option_map bare_entry (entry_in f n)) e) (b.entries n)
      ∙ or_else-map (entry_in f n) (entry_in k n) ∙ ap (option_map bare_entry) (sym (entry-joined None n f k));
  numbers = λ n. omega (arith, total-beside (one_at n) g h, total-beside (one_at n) f k, a.numbers n, b.numbers n);
  childless = Childless-beside g h a.childless b.childless;
}

-- The node documents of a tree change.

bared-in_document : (d : ℕ) (f : Forest Content) → bared (map_nodes (in_document d) f) ≡ bared f
bared-in_document d empty = refl
bared-in_document d (node x kids rest) = rw (bared-in_document d kids, bared-in_document d rest) refl

pub bared-adopted : (n d : ℕ) (f : Forest Content) → bared (adopted n d f) ≡ bared f
bared-adopted n d empty = refl
bared-adopted n d (node x kids rest) =
    elim (same_or x.number n) [
      | same e t ↦ rw (t, bared-in_document d kids, bared-adopted n d rest) refl
      | apart ne t ↦ rw (t, bared-adopted n d kids, bared-adopted n d rest) refl
    ]

pub alike-adopted : (g f : Forest Content) (n d : ℕ) → Alike g f → Alike g (adopted n d f)
alike-adopted g f n d a = record {
  entries = λ m. a.entries m ∙ sym (entry_under-bared None m f) ∙ ap (λ h. entry_in h m) (sym (bared-adopted n d f)) ∙ entry_under-bared None m (adopted n d f);
  numbers = λ m. a.numbers m ∙ sym (total-bared (one_at m) f) ∙ ap (occurs m) (sym (bared-adopted n d f)) ∙ total-bared (one_at m) (adopted n d f);
  childless = a.childless;
}
