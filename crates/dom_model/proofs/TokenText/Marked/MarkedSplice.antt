-- Texts stay those of the world where units of a node give way to others.
use Rattle.std.proofs.Common.{◌≡◌, ℕ, zero, suc, ◌+◌, ◌<◌, ◌≤◌, true, List, [], ◌∷◌, ◌++◌, take, drop, length, Option, refl, ap, sym, ◌∙◌, subst, arith, append_assoc, length-append}
use Rattle.std.proofs.lemmas.Bool.Decides.{nat_tests}
use Rattle.std.proofs.Math.Seq.{take-append_seam, drop-append-add, drop-append_seam}
use Rattle.dom_model.specs.Definitions.{is_character_data, Node, Forest, empty, node, occurs, tree_at, with_node, Content, Point, World, after_splice, spliced, kind_passes, data_of, with_data, Token, Open, Close, OneUnit, point, unit_tokens, token_texts, after_marks, units_out, unit_list, on_texts, Splice, on_world, Childless, end_at, IsReady}
use Rattle.dom_model.proofs.Forests.Totals.{tree_at-absent, beside-empty}
use Rattle.dom_model.proofs.TokenText.{Pieces.TokenLists.AreMarks, Pieces.TokenLists.AreMarks-append, Pieces.TokenLists.after_marks-marks, Pieces.TokenLists.units_out-marks, Pieces.TokenLists.units_out-none, Pieces.TextParts.inside, Pieces.TextParts.unit_front, Pieces.TextParts.unit_tokens-append, Pieces.TextPieces.unit_front-same, Pieces.TextContexts.AgreeOff, Pieces.TextContexts.Around, Pieces.TextContexts.around_texts, Pieces.TextContexts.with_root, Pieces.TextContexts.with_root-absent, Pieces.TextPoints.unit_back, Pieces.TextPoints.unit_tokens-back, Pieces.TextPoints.unit_back-same, Pieces.TextPoints.Parted, Pieces.TextPoints.parted, Pieces.TextPoints.gap_in_units, AlikeTrees.TreesAlike.Childless-tree_at, AlikeTrees.TreesAlikeAfter.alike-node, Marked.MarkedTexts.stands, Marked.MarkedTexts.Marked, Marked.MarkedTexts.trees_once, Marked.MarkedTexts.not_twice, Marked.MarkersMoved.in_gap-reaches, Marked.GapOpened.end_at-moved, Marked.GapSpliced.gathered, Marked.GapSpliced.gap_spliced, Marked.GapSpliced.standing-spliced, Marked.GapSpliced.AreMarks-spliced, Marked.MarkedInsertion.Stands, Marked.MarkedInsertion.stands_in, Marked.MarkedInsertion.Childless-with_root}

module _ {X : Type 0} where
  pub with_node-absent : (n : ℕ) (h : Node X → Node X) (f : Forest X) → occurs n f ≡ 0 → with_node n h f ≡ f
  with_node-absent n h empty z = refl
  with_node-absent n h (node x kids rest) z = grind (arith, nat_tests, with_node-absent n h kids, with_node-absent n h rest)

  -- a node that changes is its tree giving way to another
  pub with_root-node : (n : ℕ) (h : Node X → Node X) (y : Node X) (ys f : Forest X) → ((m : ℕ) → occurs m f ≤ 1) → tree_at n f ≡ node y ys empty → with_node n h f ≡ with_root n (h y) ys f
  with_root-node n h y ys empty o e = refl
  with_root-node n h y ys (node x kids rest) o e =
      let c = o n in
      let below = with_root-node n h y ys kids (λ m. let k = o m in omega arith) in
      let beside_it = with_root-node n h y ys rest (λ m. let k = o m in omega arith) in
      grind (arith, nat_tests, with_node-absent, with_root-absent, tree_at-absent, beside-empty)

pub spliced-parts : (us cs vs new : List ℕ) → spliced (length us) (length cs) new (us ++ (cs ++ vs)) ≡ us ++ (new ++ vs)
spliced-parts us cs vs new =
    append_assoc (take (length us) (us ++ (cs ++ vs))) new (drop (length us + length cs) (us ++ (cs ++ vs)))
    ∙ ap (λ ts. ts ++ (new ++ drop (length us + length cs) (us ++ (cs ++ vs)))) (take-append_seam us (cs ++ vs))
    ∙ ap (λ ts. us ++ (new ++ ts)) (drop-append-add us (cs ++ vs) (length cs) ∙ drop-append_seam cs vs)

module _ (marks : Point → List Token) (only : (p : Point) → AreMarks (marks p)) (n : ℕ) where
  abbrev gap : ℕ → List Token
  gap j = marks (point n j)

  -- units that go leave the markers of their gaps
  left_units : (i : ℕ) (cs vs : List ℕ) (ts : List Token) → units_out (length cs) (unit_tokens marks n i (cs ++ vs) ++ ts) ≡ gathered gap i (length cs) ++ (unit_back marks n (i + length cs) vs ++ ts)
  left_units i [] vs ts =
      let e : i + 0 ≡ i = omega arith in
      units_out-none (unit_tokens marks n i vs ++ ts)
      ∙ ap (λ (us : List Token). us ++ ts) (unit_tokens-back marks n i vs)
      ∙ append_assoc (gap i) (unit_back marks n i vs) ts
      ∙ ap (λ j. gap i ++ (unit_back marks n j vs ++ ts)) (sym e)
  left_units i (c ∷ cs) vs ts =
      let e : suc i + length cs ≡ i + suc (length cs) = omega arith in
      ap (units_out (suc (length cs))) (append_assoc (gap i) (OneUnit c ∷ unit_tokens marks n (suc i) (cs ++ vs)) ts)
      ∙ units_out-marks (length cs) (gap i) (OneUnit c ∷ (unit_tokens marks n (suc i) (cs ++ vs) ++ ts)) (only (point n i))
      ∙ ap (λ (us : List Token). gap i ++ us) (left_units (suc i) cs vs ts ∙ ap (λ j. gathered gap (suc i) (length cs) ++ (unit_back marks n j vs ++ ts)) e)
      ∙ sym (append_assoc (gap i) (gathered gap (suc i) (length cs)) (unit_back marks n (i + suc (length cs)) vs ++ ts))

  gathered-marks : (i l : ℕ) → AreMarks (gathered gap i l)
  gathered-marks i zero = only (point n i)
  gathered-marks i (suc l) = AreMarks-append (gap i) (gathered gap (suc i) l) (only (point n i)) (gathered-marks (suc i) l)

  -- the change that a splice makes
  pub spliced_there : (i : ℕ) (cs vs new : List ℕ) (ts : List Token) → after_marks (unit_list new) (units_out (length cs) ((gap i ++ unit_back marks n i (cs ++ vs)) ++ (Close ∷ ts))) ≡ gathered gap i (length cs) ++ (unit_list new ++ (unit_back marks n (i + length cs) vs ++ (Close ∷ ts)))
  spliced_there i cs vs new ts =
      ap (λ (us : List Token). after_marks (unit_list new) (units_out (length cs) (us ++ (Close ∷ ts)))) (sym (unit_tokens-back marks n i (cs ++ vs)))
      ∙ ap (after_marks (unit_list new)) (left_units i cs vs (Close ∷ ts))
      ∙ after_marks-marks (unit_list new) (gathered gap i (length cs)) (unit_back marks n (i + length cs) vs ++ (Close ∷ ts)) (gathered-marks i (length cs))
      ∙ ap (λ (us : List Token). gathered gap i (length cs) ++ us) (go vs)
    where
      go : (vs : List ℕ) → after_marks (unit_list new) (unit_back marks n (i + length cs) vs ++ (Close ∷ ts)) ≡ unit_list new ++ (unit_back marks n (i + length cs) vs ++ (Close ∷ ts))
      go [] = refl
      go (v ∷ vs) = refl

-- new units have no markers behind them
new_units : (marks : (Point → List Token)) (n i : ℕ) (new vs : List ℕ) (back : List Token) → ((j : ℕ) → i < j → j ≤ i + length new → marks (point n j) ≡ []) → unit_back marks n (i + length new) vs ≡ back → unit_back marks n i (new ++ vs) ≡ unit_list new ++ back
new_units marks n i [] vs back h e = let d : i ≡ i + 0 = omega arith in ap (λ j. unit_back marks n j vs) d ∙ e
new_units marks n i (u ∷ new) vs back h e =
    let d : suc i + length new ≡ i + suc (length new) = omega arith in
    ap (λ (ts : List Token). OneUnit u ∷ ts)
    (unit_tokens-back marks n (suc i) (new ++ vs)
    ∙ ap (λ (ts : List Token). ts ++ unit_back marks n (suc i) (new ++ vs)) (h (suc i) (omega arith) (omega arith))
    ∙ new_units marks n (suc i) new vs back (λ j a b. h j (omega arith) (omega arith)) (ap (λ j. unit_back marks n j vs) d ∙ e))

-- The texts after a splice.
module _ (marks : Point → List Token) (only : (p : Point) → AreMarks (marks p)) (g : Forest Content) (og : (n : ℕ) → occurs n g ≤ 1) (cg : Childless g) (y : Node Content) (ys : Forest Content) (us cs vs new : List ℕ)
    (at : tree_at y.number g ≡ node y ys empty) (kind : is_character_data y.label.kind ≡ true) (text : y.body.text ≡ us ++ (cs ++ vs)) where
  abbrev marks' : Point → List Token
  marks' q = gap_spliced y.number (length us) (length cs) (length new) marks q

  agree : AgreeOff (node y ys empty) marks marks'
  agree q h = grind (arith, nat_tests)

  abbrev changed : Node Content
  changed = with_data (us ++ (new ++ vs)) y

  abbrev back : List Token
  back = unit_back marks y.number (length us + length cs) vs

  after : inside marks' changed ys ≡ unit_front marks y.number 0 us ++ (gathered (λ i. marks (point y.number i)) (length us) (length cs) ++ (unit_list new ++ back))
  after =
      let s : inside marks' changed ys ≡ unit_tokens marks' y.number 0 (us ++ (new ++ vs)) = rw kind refl in
      let e : 0 + length us ≡ length us = omega arith in
      let f : unit_front marks' y.number 0 us ≡ unit_front marks y.number 0 us = unit_front-same marks marks' y.number 0 0 us
      (λ j j' d a b. grind (arith, nat_tests)) in
      let c : unit_back marks' y.number (length us + length new) vs ≡ back = unit_back-same marks marks' y.number y.number (length us + length cs) (length us + length new) vs
      (λ j j' d a b. grind (arith, nat_tests)) in
      let b : unit_back marks' y.number (length us) (new ++ vs) ≡ unit_list new ++ back = new_units marks' y.number (length us) new vs back
      (λ j a d. grind (arith, nat_tests)) c in
      let here : marks' (point y.number (length us)) ≡ gathered (λ i. marks (point y.number i)) (length us) (length cs) = grind (arith, nat_tests) in
      s ∙ (rw (unit_tokens-append marks' y.number 0 us (new ++ vs), e, f, unit_tokens-back marks' y.number (length us) (new ++ vs), here, b) refl)

  a : Around marks y.number (node y ys empty) g
  a = around_texts marks y.number (node y ys empty) g og cg (not_twice g og y ys at) at

  abbrev part : Parted (length us) y.body.text
  part = record { first = us; last = cs ++ vs; whole = text; long = refl }

  shifted : (f m n b t : List Token) → (f ++ (m ++ (n ++ b))) ++ t ≡ f ++ (m ++ (n ++ (b ++ t)))
  shifted f m n b t = simp append_assoc

  pub spliced-texts : on_texts (Splice y.number (length us) (length cs) new) (token_texts marks g) ≡ token_texts marks' (with_root y.number changed ys g)
  spliced-texts =
      in_gap-reaches marks only g og cg (λ ts. after_marks (unit_list new) (units_out (length cs) ts)) y ys (length us) at a (gap_in_units marks only y ys (length us) kind part)
      ∙ ap (λ (ts : List Token). a.above ++ ((a.ahead ++ (Open y.number ∷ (unit_front marks y.number 0 us ++ ts))) ∷ a.below)) (spliced_there marks only y.number (length us) cs vs new a.behind)
      ∙ sym (a.spelt marks' changed ys refl agree
      ∙ ap (λ (ts : List Token). a.above ++ ((a.ahead ++ (Open y.number ∷ (ts ++ (Close ∷ a.behind)))) ∷ a.below)) after
      ∙ ap (λ (ts : List Token). a.above ++ ((a.ahead ++ (Open y.number ∷ ts)) ∷ a.below)) (shifted (unit_front marks y.number 0 us) (gathered (λ i. marks (point y.number i)) (length us) (length cs)) (unit_list new) back (Close ∷ a.behind)))

-- units of character data give way to others
pub marked-splice : (texts : List (List Token)) (w : World) → Marked texts w → IsReady w → (n offset count : ℕ) (units : List ℕ) → 0 < occurs n w.forest → kind_passes is_character_data w.forest n ≡ true → offset + count ≤ length (data_of w n) → Marked (on_texts (Splice n offset count units) texts) (on_world (Splice n offset count units) w)
marked-splice texts w m ready n offset count units there kind within = result (stands_in m.trees w.forest m.alike ready.once n there)
  where
    text : List ℕ
    text = spliced offset count units (data_of w n)

    result : Stands m.trees w.forest n → Marked (on_texts (Splice n offset count units) texts) (on_world (Splice n offset count units) w)
    result y = record {
      trees = with_node n (with_data text) m.trees;
      marks = gap_spliced n offset count (length units) m.marks;
      spelt = ap (on_texts (Splice n offset count units)) m.spelt ∙ texts_at;
      alike = alike-node m.trees w.forest m.alike ready.once n (with_data text) (with_data text) (λ x. refl) (λ x. refl) (λ x. refl) (subst Childless (sym trees_at) childless);
      only = AreMarks-spliced n offset count (length units) m.marks m.only;
      standing = λ r side q. standing-spliced n offset count (length units) m.marks (end_at w.ranges) m.standing r side q ∙ ap (λ (e : Option Point). stands e q) (sym (end_at-moved (after_splice n offset count (length units)) w.ranges r side));
    }
      where
        first : Parted offset y.top.body.text
        first = parted offset y.top.body.text (let l = ap length y.text in omega arith)

        second : Parted count first.last
        second = parted count first.last (let l = ap length y.text in let k = ap length first.whole in omega (arith, length-append first.first first.last, first.long))

        whole : y.top.body.text ≡ first.first ++ (second.first ++ second.last)
        whole = first.whole ∙ ap (λ ts. first.first ++ ts) second.whole

        at : tree_at y.top.number m.trees ≡ node y.top y.kids empty
        at = ap (λ i. tree_at i m.trees) y.named ∙ y.at

        is_data : is_character_data y.top.label.kind ≡ true
        is_data = y.kind is_character_data ∙ kind

        spelling : text ≡ first.first ++ (units ++ second.last)
        spelling =
            ap (spliced offset count units) (sym y.text ∙ whole)
            ∙ ap (λ i. spliced i count units (first.first ++ (second.first ++ second.last))) (sym first.long)
            ∙ ap (λ i. spliced (length first.first) i units (first.first ++ (second.first ++ second.last))) (sym second.long)
            ∙ spliced-parts first.first second.first second.last units

        trees_at : with_node n (with_data text) m.trees ≡ with_root y.top.number (with_data (first.first ++ (units ++ second.last)) y.top) y.kids m.trees
        trees_at =
            ap (λ i. with_node i (with_data text) m.trees) (sym y.named)
            ∙ with_root-node y.top.number (with_data text) y.top y.kids m.trees (trees_once texts w m ready.once) at
            ∙ ap (λ ts. with_root y.top.number (with_data ts y.top) y.kids m.trees) spelling

        childless : Childless (with_root y.top.number (with_data (first.first ++ (units ++ second.last)) y.top) y.kids m.trees)
        childless =
            let c : Childless (node y.top y.kids empty) = subst Childless at (Childless-tree_at y.top.number m.trees m.alike.childless) in
            Childless-with_root y.top.number (with_data (first.first ++ (units ++ second.last)) y.top) y.kids m.trees (c.0, c.1, tt) m.alike.childless

        texts_at : on_texts (Splice n offset count units) (token_texts m.marks m.trees) ≡ token_texts (gap_spliced n offset count (length units) m.marks) (with_node n (with_data text) m.trees)
        texts_at =
            sym (ap (λ i. on_texts (Splice y.top.number i (length second.first) units) (token_texts m.marks m.trees)) first.long
            ∙ ap (λ i. on_texts (Splice y.top.number offset i units) (token_texts m.marks m.trees)) second.long
            ∙ ap (λ i. on_texts (Splice i offset count units) (token_texts m.marks m.trees)) y.named)
            ∙ spliced-texts m.marks m.only m.trees (trees_once texts w m ready.once) m.alike.childless y.top y.kids first.first second.first second.last units at is_data whole
            ∙ ap (λ i. token_texts (gap_spliced y.top.number i (length second.first) (length units) m.marks) (with_root y.top.number (with_data (first.first ++ (units ++ second.last)) y.top) y.kids m.trees)) first.long
            ∙ ap (λ i. token_texts (gap_spliced y.top.number offset i (length units) m.marks) (with_root y.top.number (with_data (first.first ++ (units ++ second.last)) y.top) y.kids m.trees)) second.long
            ∙ ap (token_texts (gap_spliced y.top.number offset count (length units) m.marks)) (sym trees_at)
            ∙ ap (λ i. token_texts (gap_spliced i offset count (length units) m.marks) (with_node n (with_data text) m.trees)) y.named
