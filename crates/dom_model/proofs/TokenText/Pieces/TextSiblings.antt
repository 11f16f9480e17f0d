-- A child of a node in the token texts: what stands around it.
use Rattle.std.proofs.Common.{◌≡◌, ℕ, suc, ◌+◌, ◌<◌, ◌≤◌, ◌==◌, false, List, ◌∷◌, ◌++◌, refl, ap, sym, ◌∙◌, subst, arith, append_assoc}
use Rattle.dom_model.specs.Definitions.{is_character_data, Node, Forest, empty, node, occurs, one_at, beside, tree_at, Content, Point, Token, Open, Close, is_open, point, child_tokens, token_texts, Childless}
use Rattle.dom_model.proofs.Forests.Totals.{total-beside, total-tree_at, beside-empty}
use Rattle.dom_model.proofs.TokenText.{Pieces.TokenLists.opened, Pieces.TokenLists.tally-append, Pieces.TokenLists.AreMarks, Pieces.TokenLists.opened-marks, Pieces.TextParts.breadth, Pieces.TextParts.inside, Pieces.TextParts.child_front, Pieces.TextParts.child_tokens-front, Pieces.TextParts.child_tokens-beside, Pieces.TextCounts.opened-children, Pieces.TextContexts.Around, Pieces.TextContexts.around_texts, Pieces.TextContexts.no_data, Pieces.TextGaps.Free, Pieces.TextGaps.around-spells, Pieces.TextGaps.around-free, AlikeTrees.TreesAlike.Childless-tree_at, AlikeTrees.TreesWithin.tree_within, AlikeTrees.TreesWithin.tree_at-between, Marked.MarkedTexts.not_inside, Marked.MarkedTexts.not_twice, Marked.GapOpened.different, Marked.GapOpened.equal}

Childless-first : (f g : Forest Content) → Childless (beside f g) → Childless f
Childless-first empty g c = tt
Childless-first (node x kids rest) g c = (c.0, c.1, Childless-first rest g c.2)

pub Childless-child : (z : Node Content) (zs f g : Forest Content) → Childless (beside f (node z zs g)) → Childless (node z zs empty)
Childless-child z zs empty g c = (c.0, c.1, tt)
Childless-child z zs (node x kids rest) g c = Childless-child z zs rest g c.2

pub parent_then : (a : List Token) (n : ℕ) (f m : List Token) (z : ℕ) (i c t : List Token) → a ++ (Open n ∷ ((f ++ (m ++ (Open z ∷ (i ++ (Close ∷ c))))) ++ t)) ≡ (a ++ (Open n ∷ (f ++ m))) ++ (Open z ∷ (i ++ (Close ∷ (c ++ t))))
parent_then a n f m z i c t = simp append_assoc

-- the child z at index k of the node y, with what stands around y in the texts
pub record Siblings (marks : Point → List Token) (g : Forest Content) (k : ℕ) (y z : Node Content) (ys zs fs bs : Forest Content) : Type 0 where
  pub parts : (m : ℕ) → occurs m ys ≡ occurs m fs + (occurs m (node z zs empty) + occurs m bs)
  pub below_parent : (m : ℕ) → occurs m ys ≤ 1
  pub parent_above : occurs y.number ys ≡ 0
  pub itself : 0 < occurs z.number (node z zs empty)
  pub childless : Childless (beside fs (node z zs bs))
  pub kind : is_character_data y.label.kind ≡ false
  pub around : Around marks y.number (node y ys empty) g
  pub free : (m : ℕ) → 0 < occurs m ys → Free (is_open m) around.above around.ahead around.behind around.below
  pub ahead_free : opened z.number (around.ahead ++ (Open y.number ∷ (child_front marks y.number 0 fs ++ marks (point y.number k)))) ≡ 0
  pub spells : token_texts marks g ≡ around.above ++ (((around.ahead ++ (Open y.number ∷ (child_front marks y.number 0 fs ++ marks (point y.number k)))) ++ (Open z.number ∷ (inside marks z zs ++ (Close ∷ (child_tokens marks y.number (suc k) bs ++ (Close ∷ around.behind)))))) ∷ around.below)
  pub tree : tree_at z.number g ≡ node z zs empty

module _ (marks : Point → List Token) (only : (p : Point) → AreMarks (marks p)) (g : Forest Content) (og : (n : ℕ) → occurs n g ≤ 1) (cg : Childless g) (k : ℕ) (y z : Node Content) (ys zs fs bs : Forest Content)
    (at : tree_at y.number g ≡ node y ys empty) (whole : ys ≡ beside fs (node z zs bs)) (long : breadth fs ≡ k) where
  abbrev front : List Token
  front = child_front marks y.number 0 fs

  parts : (m : ℕ) → occurs m ys ≡ occurs m fs + (occurs m (node z zs empty) + occurs m bs)
  parts m = ap (occurs m) whole ∙ total-beside (one_at m) fs (node z zs bs) ∙ (omega arith)

  below_parent : (m : ℕ) → occurs m ys ≤ 1
  below_parent m = let a = total-tree_at (one_at m) y.number g in let b = ap (occurs m) at in let c = og m in omega arith

  parent_above : occurs y.number ys ≡ 0
  parent_above = not_inside g og y ys at

  itself : 0 < occurs z.number (node z zs empty)
  itself = rw (equal z.number z.number refl) (omega arith)

  inside_parent : 0 < occurs z.number ys
  inside_parent = let a = parts z.number in let b = itself in omega arith

  cy : Childless (node y ys empty)
  cy = subst Childless at (Childless-tree_at y.number g cg)

  cp : Childless (beside fs (node z zs bs))
  cp = subst Childless whole cy.1

  kind : is_character_data y.label.kind ≡ false
  kind = no_data z.number y ys cy.0 inside_parent

  before : inside marks y ys ≡ front ++ (marks (point y.number k) ++ (Open z.number ∷ (inside marks z zs ++ (Close ∷ child_tokens marks y.number (suc k) bs))))
  before =
      let s : inside marks y ys ≡ child_tokens marks y.number 0 ys = rw kind refl in
      let e : 0 + breadth fs ≡ k = omega (arith, long) in
      s ∙ ap (child_tokens marks y.number 0) whole ∙ child_tokens-beside marks y.number 0 fs (node z zs bs)
      ∙ ap (λ i. front ++ child_tokens marks y.number i (node z zs bs)) e

  a : Around marks y.number (node y ys empty) g
  a = around_texts marks y.number (node y ys empty) g og cg (not_twice g og y ys at) at

  free : (m : ℕ) → 0 < occurs m ys → Free (is_open m) a.above a.ahead a.behind a.below
  free m h = around-free marks only y.number y ys refl g og cg at a cy m (omega arith)

  -- what stands ahead of the node does not open it
  front-free : opened z.number (a.ahead ++ (Open y.number ∷ (front ++ marks (point y.number k)))) ≡ 0
  front-free =
      let b = tally-append (is_open z.number) a.ahead (Open y.number ∷ (front ++ marks (point y.number k))) in
      let c = tally-append (is_open z.number) front (marks (point y.number k)) in
      let d = opened-marks z.number (marks (point y.number k)) (only (point y.number k)) in
      let e = opened-children marks only z.number y.number 0 fs (Childless-first fs (node z zs bs) cp) in
      let f = ap (opened z.number) (child_tokens-front marks y.number 0 fs) ∙ tally-append (is_open z.number) front (marks (point y.number (0 + breadth fs))) in
      let h = parts z.number in
      let i = below_parent z.number in
      let j = itself in
      let l = (free z.number inside_parent).ahead_of_it in
      let m : (y.number == z.number) ≡ false = different y.number z.number (λ n. absurd (let o : occurs z.number ys ≡ 0 = subst (λ v. occurs v ys ≡ 0) n parent_above in omega arith)) in
      rw (b, m) (omega arith)

  child-tree : tree_at z.number g ≡ node z zs empty
  child-tree =
      let s : tree_at z.number (tree_at y.number g) ≡ tree_at z.number g = tree_within y.number z.number g og (let b = ap (occurs z.number) at in let c = inside_parent in omega arith) in
      let t : tree_at z.number (node y ys empty) ≡ tree_at z.number ys = rw (different y.number z.number (λ n. absurd (let o : occurs z.number ys ≡ 0 = subst (λ v. occurs v ys ≡ 0) n parent_above in let p = inside_parent in omega arith))) (beside-empty (tree_at z.number ys)) in
      sym s ∙ ap (tree_at z.number) at ∙ t ∙ ap (tree_at z.number) whole ∙ tree_at-between z zs fs bs (λ m. let c = ap (occurs m) whole in let b = below_parent m in omega arith)

  pub siblings : Siblings marks g k y z ys zs fs bs
  siblings = record {
    parts = parts;
    below_parent = below_parent;
    parent_above = parent_above;
    itself = itself;
    childless = cp;
    kind = kind;
    around = a;
    free = free;
    ahead_free = front-free;
    spells =
        around-spells marks only y.number y ys refl g og cg at a
        ∙ ap (λ (ts : List Token). a.above ++ ((a.ahead ++ (Open y.number ∷ (ts ++ (Close ∷ a.behind)))) ∷ a.below)) before
        ∙ ap (λ (ts : List Token). a.above ++ (ts ∷ a.below)) (parent_then a.ahead y.number front (marks (point y.number k)) z.number (inside marks z zs) (child_tokens marks y.number (suc k) bs) (Close ∷ a.behind));
    tree = child-tree;
  }
