-- Each node's own tokens, from its open to its close, are the same in all texts that stand for a world, but for the markers.
use Rattle.std.proofs.Common.{◌≡◌, ℕ, ◌<◌, ◌≤◌, List, [], None, refl, ap, sym, ◌∙◌, subst, arith, inl, inr}
use Rattle.std.proofs.lemmas.Bool.{cases_lt}
use Rattle.dom_model.specs.Definitions.{Node, Forest, empty, node, occurs, tree_at, entry_in, Content, Point, World, Token, is_open, no_marks, token_texts, unmarked, tokens_among, Childless}
use Rattle.dom_model.proofs.PlainLists.Numbers.{same_or, same, apart}
use Rattle.dom_model.proofs.Forests.Totals.{tree_at-absent}
use Rattle.dom_model.proofs.TokenText.{Pieces.TokenLists.tallies, Pieces.TokenLists.AreMarks, Pieces.TextParts.own, Pieces.TextParts.inside, Pieces.TextPieces.Closes-inside, Pieces.TextPieces.unmarked-own, Pieces.TextCounts.opened-texts, Pieces.TextContexts.around_texts, Pieces.TextGaps.around-spells, Pieces.TextGaps.around-free, Pieces.TextsClosedUp.tokens_among-free, Pieces.TextsClosedUp.tokens_among-there, AlikeTrees.TreesAlike.Top, AlikeTrees.TreesAlike.top_of, AlikeTrees.TreesAlike.Childless-tree_at, AlikeTrees.TreesAlikeAfter.alike-tree, Marked.MarkedTexts.Marked, Marked.MarkedTexts.not_twice, Marked.MarkedTexts.trees_once}

-- the tokens of a node of a forest
pub node-tokens : (marks : (Point → List Token)) → ((p : Point) → AreMarks (marks p)) → (y : Node Content) (ys f : Forest Content) → ((m : ℕ) → occurs m f ≤ 1) → Childless f → tree_at y.number f ≡ node y ys empty → tokens_among y.number (token_texts marks f) ≡ own marks y ys
node-tokens marks only y ys f o c e =
    let h = not_twice f o y ys e in
    let a = around_texts marks y.number (node y ys empty) f o c h e in
    let d : Childless (node y ys empty) = subst Childless e (Childless-tree_at y.number f c) in
    let here : 0 < occurs y.number (node y ys empty) = elim (same_or y.number y.number) [ same _ t ↦ rw t (omega arith) | apart ne t ↦ absurd (ne refl) ] in
    let free = around-free marks only y.number y ys refl f o c e a d y.number here in
    ap (tokens_among y.number) (around-spells marks only y.number y ys refl f o c e a)
    ∙ tokens_among-there y.number a.above a.below a.ahead (inside marks y ys) a.behind free.above_it free.ahead_of_it free.below_it (Closes-inside marks only y ys)

-- the first tree's own tokens without markers
abbrev own_of : Forest Content → List Token
own_of empty = []
own_of (node y ys rest) = own no_marks y ys

module _ (texts : List (List Token)) (w : World) (m : Marked texts w) (once : (n : ℕ) → occurs n w.forest ≤ 1) where
  -- a node's tokens in the texts, without their markers
  tokens-of : (n : ℕ) → unmarked (tokens_among n texts) ≡ own_of (tree_at n m.trees)
  tokens-of n = elim (cases_lt 0 (occurs n m.trees)) [
    | inl lt ↦ there (top_of None n m.trees (trees_once texts w m once) lt)
    | inr le ↦
        let z : occurs n m.trees ≡ 0 = omega arith in
        let none : tallies (is_open n) texts ≡ 0 = ap (tallies (is_open n)) m.spelt ∙ opened-texts m.marks m.only n m.trees m.alike.childless ∙ z in
        rw (tokens_among-free n texts none, tree_at-absent n m.trees z) refl
  ]
    where
      there : Top n m.trees (entry_in m.trees n) → unmarked (tokens_among n texts) ≡ own_of (tree_at n m.trees)
      there t =
          let e : tree_at t.top.number m.trees ≡ node t.top t.kids empty = ap (λ k. tree_at k m.trees) t.named ∙ t.at in
          let told = node-tokens m.marks m.only t.top t.kids m.trees (trees_once texts w m once) m.alike.childless e in
          ap (λ (ts : List (List Token)). unmarked (tokens_among n ts)) m.spelt
          ∙ ap unmarked (subst (λ k. tokens_among k (token_texts m.marks m.trees) ≡ own m.marks t.top t.kids) t.named told)
          ∙ unmarked-own m.marks m.only t.top t.kids
          ∙ ap own_of (sym t.at)

-- two lists of texts that stand for one world
pub tokens-same : (texts others : List (List Token)) (w : World) → Marked texts w → Marked others w → ((n : ℕ) → occurs n w.forest ≤ 1) → (n : ℕ) → unmarked (tokens_among n texts) ≡ unmarked (tokens_among n others)
tokens-same texts others w m k once n =
    tokens-of texts w m once n
    ∙ ap own_of (alike-tree m.trees w.forest m.alike once n ∙ sym (alike-tree k.trees w.forest k.alike once n))
    ∙ sym (tokens-of others w k once n)
