-- Texts stay those of the world where a root comes into a gap.
use Rattle.std.proofs.Common.{◌≡◌, ℕ, suc, ◌+◌, ◌<◌, ◌≤◌, Bool, false, List, [], ◌∷◌, ◌++◌, length, Option, Some, None, option_map, refl, ap, sym, ◌∙◌, subst, arith, append_assoc, slice_get}
use Rattle.std.proofs.lemmas.{Bool.false≢true, Bool.Decides.nat_tests}
use Rattle.dom_model.specs.Definitions.{is_character_data, Entry, children_in, Node, Forest, empty, node, occurs, one_at, tops, beside, tree_at, without, placed_before, placed_under, put, entry_in, parent_of, children_of, Content, Point, World, after_gap, entry_has, kind_passes, node_document, content_in, Token, Open, Close, point, child_tokens, token_texts, in_gap, after_marks, other_texts, on_texts, Insertion, on_world, Childless, end_at, IsReady}
use Rattle.dom_model.specs.declared.Kind.{Kind}
use Rattle.dom_model.proofs.PlainLists.Numbers.{same_or, same, apart}
use Rattle.dom_model.proofs.Forests.{Totals.total-beside, Totals.total-tree_at, Lying.Lies-without_root, Entries.Lies-entry_in, Entries.entry_under-Lies}
use Rattle.dom_model.proofs.TokenText.{Pieces.TokenLists.AreMarks, Pieces.TokenLists.after_marks-marks, Pieces.TextParts.breadth, Pieces.TextParts.inside, Pieces.TextParts.own, Pieces.TextParts.own-then, Pieces.TextParts.child_front, Pieces.TextParts.child_tokens-beside, Pieces.TextPieces.child_front-same, Pieces.TextPieces.inside-same, Pieces.TextContexts.AgreeOff, Pieces.TextContexts.Around, Pieces.TextContexts.around_texts, Pieces.TextContexts.with_root, Pieces.TextPoints.child_back, Pieces.TextPoints.child_tokens-back, Pieces.TextPoints.child_back-same, Pieces.TextPoints.TreesParted, Pieces.TextPoints.trees_parted, Pieces.TextPoints.Gap, Pieces.TextPoints.gap_in_children, AlikeTrees.TreesAlike.Alike, AlikeTrees.TreesAlike.Top, AlikeTrees.TreesAlike.top_of, AlikeTrees.TreesAlike.bare_entry, AlikeTrees.TreesAlike.Childless-tree_at, AlikeTrees.TreesAlike.Childless-without, AlikeTrees.TreesAlike.alike-parent, AlikeTrees.TreesAlikeAfter.alike-once, AlikeTrees.TreesAlikeAfter.alike-inside, AlikeTrees.TreesAlikeAfter.alike-put, AlikeTrees.TreesAlikeAfter.alike-adopted, AlikeTrees.TreesAlikeAfter.entry_parts, AlikeTrees.TreesPlaced.placed_between, AlikeTrees.TreesPlaced.with_root-placed, Pieces.RootTexts.OnTop, Pieces.RootTexts.root-on_top, Pieces.RootTexts.other-texts, Pieces.RootTexts.tokens_among-root, Marked.MarkedTexts.stands, Marked.MarkedTexts.Marked, Marked.MarkedTexts.trees_once, Marked.MarkedTexts.not_inside, Marked.MarkedTexts.not_twice, Marked.MarkersMoved.in_gap-reaches, Marked.GapOpened.end_at-moved, Marked.GapOpened.gap_opened, Marked.GapOpened.opened-earlier, Marked.GapOpened.opened-new, Marked.GapOpened.opened-later, Marked.GapOpened.standing-opened, Marked.GapOpened.AreMarks-opened, Marked.GapOpened.equal, Marked.GapOpened.different}

-- the node stands in the trees with its kind and its children of the world's forest
pub record Stands (h f : Forest Content) (n : ℕ) : Type 0 where
  pub top : Node Content
  pub kids : Forest Content
  pub named : top.number ≡ n
  pub at : tree_at n h ≡ node top kids empty
  pub children : tops kids ≡ children_of f n
  pub kind : (test : Kind → Bool) → test top.label.kind ≡ kind_passes test f n
  pub text : top.body.text ≡ (content_in (entry_in f n)).text

told : (a : Option (Entry (Node Content))) (x : Node Content) (q : Option ℕ) (c : List ℕ) → option_map bare_entry a ≡ Some (record { value = x; parent = q; children = c }) → (c ≡ children_in a) × ((test : Kind → Bool) → test x.label.kind ≡ entry_has test a) × (x.body.text ≡ (content_in a).text)
told None x q c e = absurd (cc e)
told (Some a) x q c e =
    let i = entry_parts (bare_entry a).value x a.parent q a.children c e in
    (sym i.1, (λ test. ap (λ (y : Node Content). test y.label.kind) (sym i.0)), ap (λ (y : Node Content). y.body.text) (sym i.0))

stands_as : (h f : Forest Content) (n : ℕ) → (t : Top n h (entry_in h n)) → entry_in h n ≡ option_map bare_entry (entry_in f n) → Stands h f n
stands_as h f n t e =
    let d = told (entry_in f n) t.top t.parent (tops t.kids) (sym e ∙ t.told) in
    record {
      top = t.top;
      kids = t.kids;
      named = t.named;
      at = t.at;
      children = d.0;
      kind = d.1;
      text = d.2;
    }

module _ (g f : Forest Content) (alike : Alike g f) (once : (n : ℕ) → occurs n f ≤ 1) where
  pub stands_in : (n : ℕ) → 0 < occurs n f → Stands g f n
  stands_in n h = stands_as g f n (top_of None n g (alike-once g f alike once) (let a = alike.numbers n in omega arith)) (alike.entries n)

  pub without_once : (c n : ℕ) → occurs n (without c g) ≤ 1
  without_once c n = let a = total-tree_at (one_at n) c g in let b = alike-once g f alike once n in omega arith

  -- and where a root is left out that it is not inside
  pub stands_without : (c n : ℕ) → parent_of f c ≡ None → 0 < occurs n f → occurs n (tree_at c f) ≡ 0 → Stands (without c g) f n
  stands_without c n r h z =
      let o = alike-once g f alike once in
      let i : 0 < occurs n (without c g) = let a = total-tree_at (one_at n) c g in let b = alike-inside g f alike once c n in let k = alike.numbers n in omega arith in
      let t = top_of None n g o (let a = alike.numbers n in omega arith) in
      let l = Lies-without_root (entry_in g) c (alike-parent g f alike c ∙ r) g (Lies-entry_in g o) in
      let s = entry_under-Lies (entry_in g) None n (without c g) (record { value = t.top; parent = t.parent; children = tops t.kids }) l i t.told in
      stands_as (without c g) f n (top_of None n (without c g) (without_once c) i) (s ∙ sym t.told ∙ alike.entries n)

pub Childless-with_root : (n : ℕ) (y : Node Content) (ys f : Forest Content) → Childless (node y ys empty) → Childless f → Childless (with_root n y ys f)
Childless-with_root n y ys empty c d = tt
Childless-with_root n y ys (node x kids rest) c d =
    elim (same_or x.number n) [
      | same e t ↦ rw t (c.0, c.1, Childless-with_root n y ys rest c d.2)
      | apart ne t ↦ rw t ((λ v. ap (with_root n y ys) (d.0 v)), Childless-with_root n y ys kids c d.1, Childless-with_root n y ys rest c d.2)
    ]

Childless-put : (z : Node Content) (zs fs bs : Forest Content) → Childless (node z zs empty) → Childless (beside fs bs) → Childless (beside fs (node z zs bs))
Childless-put z zs empty bs c d = (c.0, c.1, d)
Childless-put z zs (node x kids rest) bs c d = (d.0, d.1, Childless-put z zs rest bs c d.2)

-- a node's tokens put behind the markers of a gap among children
after_marks-children : (new : List Token) (marks : (Point → List Token)) (n k : ℕ) (ms : List Token) (f : Forest Content) (ts : List Token) → AreMarks ms → after_marks new ((ms ++ child_back marks n k f) ++ (Close ∷ ts)) ≡ ms ++ (new ++ (child_back marks n k f ++ (Close ∷ ts)))
after_marks-children new marks n k ms f ts h =
    ap (after_marks new) (append_assoc ms (child_back marks n k f) (Close ∷ ts))
    ∙ after_marks-marks new ms (child_back marks n k f ++ (Close ∷ ts)) h
    ∙ ap (λ (us : List Token). ms ++ us) (go f)
  where
    go : (f : Forest Content) → after_marks new (child_back marks n k f ++ (Close ∷ ts)) ≡ new ++ (child_back marks n k f ++ (Close ∷ ts))
    go empty = refl
    go (node x kids rest) = refl

module _ (marks : Point → List Token) (only : (p : Point) → AreMarks (marks p)) (k : ℕ) (y z : Node Content) (zs fs bs : Forest Content) (no_data : is_character_data y.label.kind ≡ false)
    (long : breadth fs ≡ k) (zf : occurs y.number fs ≡ 0) (zb : occurs y.number bs ≡ 0) (zz : occurs y.number (node z zs empty) ≡ 0) where
  abbrev marks' : Point → List Token
  marks' q = gap_opened y.number k marks q

  away : (q : Point) → (q.node ≡ y.number → ⊥) → marks' q ≡ marks q
  away q h = rw (different q.node y.number h) refl

  away_from : (f : Forest Content) → occurs y.number f ≡ 0 → (q : Point) → 0 < occurs q.node f → marks' q ≡ marks q
  away_from f h q o = away q (λ e. absurd (let b : occurs q.node f ≡ 0 = subst (λ n. occurs n f ≡ 0) (sym e) h in omega arith))

  at_parent : (o o' : ℕ) → o ≡ o' → o ≤ k → marks' (point y.number o) ≡ marks (point y.number o')
  at_parent o o' e h = rw (equal y.number y.number refl) (opened-earlier k (λ i. marks (point y.number i)) o h ∙ ap (λ i. marks (point y.number i)) e)

  past : (o o' : ℕ) → o ≡ suc o' → k < o' → marks' (point y.number o) ≡ marks (point y.number o')
  past o o' e h = rw (equal y.number y.number refl) (opened-later k (λ i. marks (point y.number i)) o o' e h)

  new_one : marks' (point y.number (suc k)) ≡ []
  new_one = rw (equal y.number y.number refl) (opened-new k (λ i. marks (point y.number i)) (suc k) refl)

  opened-inside_parent : inside marks' y (beside fs (node z zs bs)) ≡ child_front marks y.number 0 fs ++ (marks (point y.number k) ++ (own marks z zs ++ child_back marks y.number k bs))
  opened-inside_parent =
      let s : inside marks' y (beside fs (node z zs bs)) ≡ child_tokens marks' y.number 0 (beside fs (node z zs bs)) = rw no_data refl in
      let e : 0 + breadth fs ≡ k = omega (arith, long) in
      let f : child_front marks' y.number 0 fs ≡ child_front marks y.number 0 fs = child_front-same marks marks' y.number 0 0 fs (λ j j' d a b. at_parent j' j (omega arith) (omega (arith, long))) (away_from fs zf) in
      let c : child_tokens marks' y.number (suc k) bs ≡ child_back marks y.number k bs = child_tokens-back marks' y.number (suc k) bs ∙ ap (λ (ts : List Token). ts ++ child_back marks' y.number (suc k) bs) new_one
      ∙ child_back-same marks marks' y.number k (suc k) bs (λ j j' d a b. past j' j (omega arith) a) (away_from bs zb) in
      s ∙ (rw (child_tokens-beside marks' y.number 0 fs (node z zs bs), e, f, at_parent k k refl (omega arith), inside-same marks marks' z zs (away_from (node z zs empty) zz), c)
      (ap (λ (ts : List Token). child_front marks y.number 0 fs ++ (marks (point y.number k) ++ ts)) (own-then marks z zs (child_back marks y.number k bs))))

-- The texts after a root came into a gap.
module _ (marks : Point → List Token) (only : (p : Point) → AreMarks (marks p)) (g : Forest Content) (og : (n : ℕ) → occurs n g ≤ 1) (cg : Childless g) (k : ℕ) (y z : Node Content) (ys zs : Forest Content)
    (top : OnTop z.number g) (root : tree_at z.number g ≡ node z zs empty) (parent : tree_at y.number (without z.number g) ≡ node y ys empty) (no_data : is_character_data y.label.kind ≡ false) (part : TreesParted k ys) where
  left_once : (n : ℕ) → occurs n (without z.number g) ≤ 1
  left_once n = let a = total-tree_at (one_at n) z.number g in let b = og n in omega arith

  none_inside : occurs y.number part.first + occurs y.number part.last ≡ 0
  none_inside = sym (total-beside (one_at y.number) part.first part.last) ∙ sym (ap (occurs y.number) part.whole) ∙ not_inside (without z.number g) left_once y ys parent

  none_in_root : occurs y.number (node z zs empty) ≡ 0
  none_in_root =
      let a = total-tree_at (one_at y.number) z.number g in
      let b = ap (occurs y.number) root in
      let c = og y.number in
      let d = not_twice (without z.number g) left_once y ys parent in
      omega arith

  agree : AgreeOff (node y ys empty) marks (gap_opened y.number k marks)
  agree q h = grind (arith, nat_tests)

  abbrev placed : Forest Content
  placed = beside part.first (node z zs part.last)

  shifted : (front ms new back ts : List Token) → (front ++ (ms ++ (new ++ back))) ++ ts ≡ front ++ (ms ++ (new ++ (back ++ ts)))
  shifted front ms new back ts =
      append_assoc front (ms ++ (new ++ back)) ts
      ∙ ap (λ (us : List Token). front ++ us) (append_assoc ms (new ++ back) ts ∙ ap (λ (us : List Token). ms ++ us) (append_assoc new back ts))

  pub inserted-texts : on_texts (Insertion z.number (point y.number k)) (token_texts marks g) ≡ token_texts (gap_opened y.number k marks) (with_root y.number y placed (without z.number g))
  inserted-texts =
      ap (λ (ts : List Token). in_gap (point y.number k) (after_marks ts) (other_texts z.number (token_texts marks g))) (tokens_among-root marks only z.number z zs g og cg top root)
      ∙ ap (in_gap (point y.number k) (after_marks (own marks z zs))) (other-texts marks z.number g top)
      ∙ in_gap-reaches marks only (without z.number g) left_once ch (after_marks (own marks z zs)) y ys k parent a p
      ∙ ap (λ (ts : List Token). a.above ++ ((a.ahead ++ (Open y.number ∷ (child_front marks y.number 0 part.first ++ ts))) ∷ a.below)) (after_marks-children (own marks z zs) marks y.number k (marks (point y.number k)) part.last a.behind (only (point y.number k)))
      ∙ sym (a.spelt (gap_opened y.number k marks) y placed refl agree
      ∙ ap (λ (ts : List Token). a.above ++ ((a.ahead ++ (Open y.number ∷ (ts ++ (Close ∷ a.behind)))) ∷ a.below)) (opened-inside_parent marks only k y z zs part.first part.last no_data part.long (let i = none_inside in omega arith) (let i = none_inside in omega arith) none_in_root)
      ∙ ap (λ (ts : List Token). a.above ++ ((a.ahead ++ (Open y.number ∷ ts)) ∷ a.below)) (shifted (child_front marks y.number 0 part.first) (marks (point y.number k)) (own marks z zs) (child_back marks y.number k part.last) (Close ∷ a.behind)))
    where
      ch : Childless (without z.number g)
      ch = Childless-without z.number g cg

      a : Around marks y.number (node y ys empty) (without z.number g)
      a = around_texts marks y.number (node y ys empty) (without z.number g) left_once ch (not_twice (without z.number g) left_once y ys parent) parent

      p : Gap marks y ys k
      p = gap_in_children marks only y ys k no_data (not_inside (without z.number g) left_once y ys parent) part

  -- and the trees that they spell
  pub inserted-trees : put y.number z.number (slice_get (tops ys) k) g ≡ with_root y.number y placed (without z.number g)
  inserted-trees =
      ap (λ t. placed_under y.number (slice_get (tops ys) k) t (without z.number g)) root
      ∙ with_root-placed y.number (slice_get (tops ys) k) (node z zs empty) y ys (without z.number g) left_once parent
      ∙ ap (λ (t : Forest Content). with_root y.number y t (without z.number g)) there
    where
      both : (n : ℕ) → occurs n (beside part.first part.last) ≤ 1
      both n =
          let a = total-tree_at (one_at n) y.number (without z.number g) in
          let b = ap (occurs n) parent in
          let c = ap (occurs n) part.whole in
          let d = left_once n in
          omega arith

      there : placed_before (slice_get (tops ys) k) (node z zs empty) ys ≡ placed
      there =
          ap (λ (t : Forest Content). placed_before (slice_get (tops t) k) (node z zs empty) t) part.whole
          ∙ ap (λ i. placed_before (slice_get (tops (beside part.first part.last)) i) (node z zs empty) (beside part.first part.last)) (sym part.long)
          ∙ placed_between (node z zs empty) part.first part.last both

-- a root comes into a gap of a node that is not inside it and is no character data
pub marked-insertion : (texts : List (List Token)) (w : World) → Marked texts w → IsReady w → (n : ℕ) (p : Point) → 0 < occurs n w.forest → parent_of w.forest n ≡ None → 0 < occurs p.node w.forest → occurs p.node (tree_at n w.forest) ≡ 0 → kind_passes is_character_data w.forest p.node ≡ false → p.offset ≤ length (children_of w.forest p.node) → Marked (on_texts (Insertion n p) texts) (on_world (Insertion n p) w)
marked-insertion texts w m ready n p there root apart_from inside_of kind within = result (stands_in m.trees w.forest m.alike ready.once n there) (stands_without m.trees w.forest m.alike ready.once n p.node root apart_from inside_of)
  where
    top : OnTop n m.trees
    top = root-on_top n m.trees (trees_once texts w m ready.once) (alike-parent m.trees w.forest m.alike n ∙ root)

    result : Stands m.trees w.forest n → Stands (without n m.trees) w.forest p.node → Marked (on_texts (Insertion n p) texts) (on_world (Insertion n p) w)
    result z y = record {
      trees = put p.node n (slice_get (children_of w.forest p.node) p.offset) m.trees;
      marks = gap_opened p.node p.offset m.marks;
      spelt = ap (on_texts (Insertion n p)) m.spelt ∙ texts_at;
      alike = alike-adopted (put p.node n (slice_get (children_of w.forest p.node) p.offset) m.trees) (put p.node n (slice_get (children_of w.forest p.node) p.offset) w.forest) n (node_document w p.node)
          (alike-put m.trees w.forest m.alike ready.once p.node n (slice_get (children_of w.forest p.node) p.offset) apart_from there root inside_of childless);
      only = AreMarks-opened p.node p.offset m.marks m.only;
      standing = λ r side q. standing-opened p.node p.offset m.marks (end_at w.ranges) m.standing r side q ∙ ap (λ (e : Option Point). stands e q) (sym (end_at-moved (after_gap p.node p.offset 1) w.ranges r side));
    }
      where
        new_parent : tree_at y.top.number (without z.top.number m.trees) ≡ node y.top y.kids empty
        new_parent = ap (λ i. tree_at y.top.number (without i m.trees)) z.named ∙ ap (λ i. tree_at i (without n m.trees)) y.named ∙ y.at

        new_root : tree_at z.top.number m.trees ≡ node z.top z.kids empty
        new_root = ap (λ i. tree_at i m.trees) z.named ∙ z.at

        part : TreesParted p.offset y.kids
        part = trees_parted p.offset y.kids (let l = ap length y.children in omega arith)

        no_data : is_character_data y.top.label.kind ≡ false
        no_data = y.kind is_character_data ∙ kind

        trees_at : put y.top.number z.top.number (slice_get (tops y.kids) p.offset) m.trees ≡ with_root y.top.number y.top (beside part.first (node z.top z.kids part.last)) (without z.top.number m.trees)
        trees_at = inserted-trees m.marks m.only m.trees (trees_once texts w m ready.once) m.alike.childless p.offset y.top z.top y.kids z.kids (subst (λ i. OnTop i m.trees) (sym z.named) top) new_root new_parent no_data part

        renamed : put y.top.number z.top.number (slice_get (tops y.kids) p.offset) m.trees ≡ put p.node n (slice_get (children_of w.forest p.node) p.offset) m.trees
        renamed =
            ap (λ i. put i z.top.number (slice_get (tops y.kids) p.offset) m.trees) y.named
            ∙ ap (λ i. put p.node i (slice_get (tops y.kids) p.offset) m.trees) z.named
            ∙ ap (λ c. put p.node n (slice_get c p.offset) m.trees) y.children

        texts_at : on_texts (Insertion n p) (token_texts m.marks m.trees) ≡ token_texts (gap_opened p.node p.offset m.marks) (put p.node n (slice_get (children_of w.forest p.node) p.offset) m.trees)
        texts_at =
            sym (ap (λ i. on_texts (Insertion i (point y.top.number p.offset)) (token_texts m.marks m.trees)) z.named ∙ ap (λ i. on_texts (Insertion n (point i p.offset)) (token_texts m.marks m.trees)) y.named)
            ∙ inserted-texts m.marks m.only m.trees (trees_once texts w m ready.once) m.alike.childless p.offset y.top z.top y.kids z.kids (subst (λ i. OnTop i m.trees) (sym z.named) top) new_root new_parent no_data part
            ∙ ap (token_texts (gap_opened y.top.number p.offset m.marks)) (sym trees_at ∙ renamed)
            ∙ ap (λ i. token_texts (gap_opened i p.offset m.marks) (put p.node n (slice_get (children_of w.forest p.node) p.offset) m.trees)) y.named

        childless : Childless (put p.node n (slice_get (children_of w.forest p.node) p.offset) m.trees)
        childless =
            let cl : Childless (without z.top.number m.trees) = Childless-without z.top.number m.trees m.alike.childless in
            let cz : Childless (node z.top z.kids empty) = subst Childless new_root (Childless-tree_at z.top.number m.trees m.alike.childless) in
            let cy : Childless (node y.top y.kids empty) = subst Childless new_parent (Childless-tree_at y.top.number (without z.top.number m.trees) cl) in
            subst Childless (sym trees_at ∙ renamed)
            (Childless-with_root y.top.number y.top (beside part.first (node z.top z.kids part.last)) (without z.top.number m.trees)
            ((λ v. absurd (false≢true (sym no_data ∙ v))), Childless-put z.top z.kids part.first part.last cz (subst Childless part.whole cy.1), tt) cl)
