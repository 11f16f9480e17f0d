-- The texts of whole trees: of a root, without a root, and beside others.
use Rattle.std.proofs.Common.{◌≡◌, ℕ, ◌+◌, ◌<◌, ◌≤◌, Bool, List, [], ◌∷◌, ◌++◌, Option, Some, None, refl, ap, sym, ◌∙◌, subst, arith, append-nil}
use Rattle.std.proofs.lemmas.Bool.{eq-eqb}
use Rattle.dom_model.specs.Definitions.{Node, Forest, empty, node, occurs, beside, tree_at, without, entry_in, parent_of, Content, Point, World, Token, Mark, token_texts, no_marks, tokens_at, tokens_among, other_texts, through_close, on_texts, Making, on_world, Lies, Childless, end_at, IsReady}
use Rattle.dom_model.proofs.PlainLists.Numbers.{same_or, same, apart}
use Rattle.dom_model.proofs.Forests.{Lying.absent_under, Totals.without-absent, Entries.Lies-entry_in}
use Rattle.dom_model.proofs.TokenText.{Pieces.TokenLists.opened, Pieces.TokenLists.marked, Pieces.TokenLists.AreMarks, Pieces.TokenLists.from_open-none, Pieces.TextParts.inside, Pieces.TextParts.own, Pieces.TextPieces.Closes-inside, Pieces.TextPieces.through-node, Pieces.TextPieces.texts-same, Pieces.TextCounts.opened-own, AlikeTrees.TreesAlike.bared, AlikeTrees.TreesAlike.bared-alike, AlikeTrees.TreesAlikeAfter.alike-beside, Marked.MarkedTexts.stands, Marked.MarkedTexts.Marked, Marked.MarkedFirst.bared-texts, Marked.MarkersMoved.end_itself, AlikeTrees.WaysToTrees.to_tree}

-- the number stands under no root
abbrev pub OnTop : ℕ → Forest Content → Type 0
OnTop n empty = Unit {0}
OnTop n (node x kids rest) = (occurs n kids ≡ 0) × OnTop n rest

pub root-on_top : (n : ℕ) (f : Forest Content) → ((m : ℕ) → occurs m f ≤ 1) → parent_of f n ≡ None → OnTop n f
root-on_top n f o h = go f (Lies-entry_in f o)
  where
    go : (g : Forest Content) → Lies (entry_in f) None g → OnTop n g
    go empty l = tt
    go (node x kids rest) l = (absent_under (entry_in f) n x.number kids h l.1, go rest l.2)

pub texts-beside : (marks : (Point → List Token)) (f g : Forest Content) → token_texts marks (beside f g) ≡ token_texts marks f ++ token_texts marks g
texts-beside marks empty g = refl
texts-beside marks (node x kids rest) g = ap (λ (ts : List (List Token)). own marks x kids ∷ ts) (texts-beside marks rest g)

-- the texts but for a root's
pub other-texts : (marks : (Point → List Token)) (n : ℕ) (f : Forest Content) → OnTop n f → other_texts n (token_texts marks f) ≡ token_texts marks (without n f)
other-texts marks n empty h = refl
other-texts marks n (node x kids rest) h =
    elim (same_or x.number n) [
      | same d t ↦ rw t (other-texts marks n rest h.1)
      | apart ne t ↦ rw (t, without-absent n kids h.0) (ap (λ (ts : List (List Token)). own marks x kids ∷ ts) (other-texts marks n rest h.1))
    ]

module _ (marks : Point → List Token) (only : (p : Point) → AreMarks (marks p)) where
  pub tokens_among-none : (n : ℕ) (f : Forest Content) → Childless f → occurs n f ≡ 0 → tokens_among n (token_texts marks f) ≡ []
  tokens_among-none n empty c h = refl
  tokens_among-none n (node x kids rest) c h =
      rw (from_open-none n (own marks x kids) (opened-own marks only n x kids (c.0, c.1, tt) ∙ (omega arith))) (tokens_among-none n rest c.2 (omega arith))

  pub tokens_at-root : (x : Node Content) (kids : Forest Content) → tokens_at x.number (own marks x kids) ≡ own marks x kids
  tokens_at-root x kids = rw (eq-eqb x.number x.number refl) (through-node x.number (inside marks x kids) [] (Closes-inside marks only x kids))

  -- the tokens of a root
  pub tokens_among-root : (n : ℕ) (z : Node Content) (zs : Forest Content) (f : Forest Content) → ((m : ℕ) → occurs m f ≤ 1) → Childless f → OnTop n f → tree_at n f ≡ node z zs empty → tokens_among n (token_texts marks f) ≡ own marks z zs
  tokens_among-root n z zs f o c h e =
      to_tree n z zs (λ g. Childless g → OnTop n g → tokens_among n (token_texts marks g) ≡ own marks z zs)
      (λ rest o d t k r c h.
      ap (λ m. tokens_at m (own marks z zs) ++ tokens_among n (token_texts marks rest)) (sym d)
      ∙ (rw (tokens_at-root z zs, tokens_among-none n rest c.2 r) (append-nil (own marks z zs))))
      (λ x kids rest o t l r e i c h. absurd (let k = h.0 in omega arith))
      (λ x kids rest o t k e i c h.
      let none : opened n (own marks x kids) ≡ 0 = opened-own marks only n x kids (c.0, c.1, tt) ∙ (rw t (omega arith)) in
      ap (λ (ts : List Token). through_close 0 ts ++ tokens_among n (token_texts marks rest)) (from_open-none n (own marks x kids) none) ∙ i c.2 h.1) f o e c h

-- markers of no end are none
pub unmarked_gap : (ms : List Token) → AreMarks ms → ((r : ℕ) (side : Bool) → marked r side ms ≡ 0) → ms ≡ []
unmarked_gap [] h k = refl
unmarked_gap (Mark r side ∷ ms) h k = absurd (let i = k r side in let j = rw (end_itself r side) at i in omega arith)
unmarked_gap (m ∷ ms) h k = absurd h

-- a gap at no end of a live range has no markers
pub no_marks-at : (texts : List (List Token)) (w : World) (m : Marked texts w) (q : Point) → ((r : ℕ) (side : Bool) (p : Point) → end_at w.ranges r side ≡ Some p → p.node ≡ q.node → ⊥) → m.marks q ≡ []
no_marks-at texts w m q h = unmarked_gap (m.marks q) (m.only q) (λ r side. m.standing r side q ∙ go (end_at w.ranges r side) (λ p e. h r side p e))
  where
    go : (e : Option Point) → ((p : Point) → e ≡ Some p → p.node ≡ q.node → ⊥) → stands e q ≡ 0
    go None k = refl
    go (Some p) k = elim (same_or p.node q.node) [ same d t ↦ absurd (k p refl d) | apart ne t ↦ rw t refl ]

-- New trees come beside those of the world; their numbers are new.
pub marked-making : (texts : List (List Token)) (w : World) → Marked texts w → IsReady w → (f : Forest Content) → Childless f → ((n : ℕ) → occurs n w.forest + occurs n f ≤ 1) → Marked (on_texts (Making f) texts) (on_world (Making f) w)
marked-making texts w m ready f c new = record {
  trees = beside m.trees (bared f);
  marks = m.marks;
  spelt = ap (λ (ts : List (List Token)). ts ++ token_texts no_marks f) m.spelt
      ∙ ap (λ (ts : List (List Token)). token_texts m.marks m.trees ++ ts) (sym (bared-texts m.marks f ∙ texts-same no_marks m.marks f (λ q h. none q h)))
      ∙ sym (texts-beside m.marks m.trees (bared f));
  alike = alike-beside m.trees w.forest (bared f) f m.alike (bared-alike f c);
  only = m.only;
  standing = m.standing;
}
  where
    none : (q : Point) → 0 < occurs q.node f → m.marks q ≡ []
    none q h = no_marks-at texts w m q (λ r side p e d. absurd (let i = (ready.points r side p e).there in let k : 0 < occurs q.node w.forest = subst (λ n. 0 < occurs n w.forest) d i in let l = new q.node in omega arith))
