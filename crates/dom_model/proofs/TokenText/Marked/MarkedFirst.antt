-- The token texts of a world stand for it; the points of its forest are those of its texts; what the texts do not tell may change.
use Rattle.std.proofs.Common.{◌≡◌, ℕ, zero, suc, ◌+◌, ◌<◌, ◌≤◌, ◌==◌, Bool, true, false, ◌&&◌, if◌then◌else◌, List, [], ◌∷◌, Option, Some, None, option_map, refl, ap, sym, ◌∙◌, arith}
use Rattle.std.proofs.lemmas.Bool.Decides.{nat_tests}
use Rattle.dom_model.specs.Definitions.{is_character_data, may_stand_in, Entry, Node, Forest, empty, node, occurs, one_at, tops, entry_in, KindsFit, Content, Point, Range, World, length_of, length_in, node_length, unit_count, Token, same_side, mark_if, marks_from, child_tokens, token_texts, texts_of, Childless, end_at}
use Rattle.dom_model.specs.declared.Kind.{Kind}
use Rattle.dom_model.proofs.TokenText.{Pieces.TokenLists.marked, Pieces.TokenLists.tally-append, Pieces.TokenLists.AreMarks, Pieces.TokenLists.AreMarks-append, Pieces.TextCounts.measure_of, AlikeTrees.TreesAlike.Alike, AlikeTrees.TreesAlike.bare, AlikeTrees.TreesAlike.bared, AlikeTrees.TreesAlike.bare_entry, AlikeTrees.TreesAlike.bared-alike, AlikeTrees.TreesAlike.entry_under-bared, AlikeTrees.TreesAlike.total-bared, AlikeTrees.TreesAlike.top_of, Marked.MarkedTexts.stands, Marked.MarkedTexts.Marked, Marked.MarkedTexts.HasPoint}

no_child : (parent kind : Kind) → is_character_data parent ≡ true → may_stand_in parent kind ≡ true → ⊥
no_child parent kind c h = grind arith

-- Texts know no node documents and no attributes.

module _ (marks : Point → List Token) where
  bared-children : (n i : ℕ) (f : Forest Content) → child_tokens marks n i (bared f) ≡ child_tokens marks n i f
  bared-children n i empty = refl
  bared-children n i (node x kids rest) =
      rw (bared-children x.number 0 kids, bared-children n (suc i) rest) refl

  pub bared-texts : (f : Forest Content) → token_texts marks (bared f) ≡ token_texts marks f
  bared-texts empty = refl
  bared-texts (node x kids rest) =
      rw (bared-children x.number 0 kids, bared-texts rest) refl

-- The markers of a gap.

pub AreMarks-mark_if : (v : Bool) (r : ℕ) (side : Bool) → AreMarks (mark_if v r side)
AreMarks-mark_if true r side = tt
AreMarks-mark_if false r side = tt

pub AreMarks-marks_from : (r : ℕ) (ranges : List (Option Range)) (p : Point) → AreMarks (marks_from r ranges p)
AreMarks-marks_from r [] p = tt
AreMarks-marks_from r (None ∷ ranges) p = AreMarks-marks_from (suc r) ranges p
AreMarks-marks_from r (Some range ∷ ranges) p = search (AreMarks-append, AreMarks-mark_if, AreMarks-marks_from (suc r) ranges p)

pub marked-other : (v : Bool) (q : ℕ) (other : Bool) (r : ℕ) (side : Bool) → (q == r) ≡ false → marked r side (mark_if v q other) ≡ 0
marked-other v q other r side h = grind arith

pub marked-here : (v : Bool) (q : ℕ) (other : Bool) (r : ℕ) (side : Bool) → (q == r) ≡ true → marked r side (mark_if v q other) ≡ (if v && same_side side other then 1 else 0)
marked-here v q other r side h = grind arith

pub marks_from-later : (r q : ℕ) (side : Bool) (ranges : List (Option Range)) (p : Point) → r < q → marked r side (marks_from q ranges p) ≡ 0
marks_from-later r q side [] p h = refl
marks_from-later r q side (None ∷ ranges) p h = marks_from-later r (suc q) side ranges p (omega arith)
marks_from-later r q side (Some range ∷ ranges) p h = grind (arith, nat_tests, tally-append, marks_from-later r (suc q) side ranges p)

-- each gap has the markers of the ends that stand there
pub marks_from-at : (k r q : ℕ) (side : Bool) (ranges : List (Option Range)) (p : Point) → r ≡ q + k → marked r side (marks_from q ranges p) ≡ stands (end_at ranges k side) p
marks_from-at zero r q side [] p e = refl
marks_from-at (suc k) r q side [] p e = refl
marks_from-at zero r q side (None ∷ ranges) p e = marks_from-later r (suc q) side ranges p (omega arith)
marks_from-at (suc k) r q side (None ∷ ranges) p e = marks_from-at k r (suc q) side ranges p (omega arith)
marks_from-at zero r q side (Some range ∷ ranges) p e = grind (arith, nat_tests, tally-append, marks_from-later r (suc q) side ranges p)
marks_from-at (suc k) r q side (Some range ∷ ranges) p e = grind (arith, nat_tests, tally-append, marks_from-at k r (suc q) side ranges p)

-- The start: a world's own token texts are marked for it.
pub marked-first : (w : World) → Childless w.forest → Marked (texts_of w) w
marked-first w c = record {
  trees = bared w.forest;
  marks = marks_from 0 w.ranges;
  spelt = sym (bared-texts (marks_from 0 w.ranges) w.forest);
  alike = bared-alike w.forest c;
  only = AreMarks-marks_from 0 w.ranges;
  standing = λ r side p. marks_from-at r r 0 side w.ranges p (omega arith);
}

-- a change of node documents, attributes and what else the texts do not tell
pub marked-kept : (texts : List (List Token)) (w w' : World) → bared w'.forest ≡ bared w.forest → w'.ranges ≡ w.ranges → Marked texts w → Marked texts w'
marked-kept texts w w' e d m = record {
  trees = m.trees;
  marks = m.marks;
  spelt = m.spelt;
  alike = record {
    entries = λ n. m.alike.entries n ∙ sym (entry_under-bared None n w.forest) ∙ ap (λ f. entry_in f n) (sym e) ∙ entry_under-bared None n w'.forest;
    numbers = λ n. m.alike.numbers n ∙ sym (total-bared (one_at n) w.forest) ∙ ap (occurs n) (sym e) ∙ total-bared (one_at n) w'.forest;
    childless = m.alike.childless;
  };
  only = m.only;
  standing = λ r side p. m.standing r side p ∙ ap (λ (rs : List (Option Range)). stands (end_at rs r side) p) (sym d);
}

-- A point of a world's forest is one of the trees that its texts spell.
length-bare : (x : Node Content) (kids : Forest Content) (parent : Option ℕ) (a : Entry (Node Content)) → Some (bare_entry a) ≡ Some (record { value = x; parent = parent; children = tops kids }) → (o : ℕ) → o ≤ length_of unit_count a → o ≤ measure_of x kids
length-bare x kids parent a e o h =
    let told : bare_entry a ≡ record { value = x; parent = parent; children = tops kids } = cc e in
    let value : bare a.value ≡ x = ap (λ (b : Entry (Node Content)). b.value) told in
    let children : a.children ≡ tops kids = ap (λ (b : Entry (Node Content)). b.children) told in
    let label : a.value.label ≡ x.label = ap (λ (y : Node Content). y.label) value in
    let text : a.value.body.text ≡ x.body.text = ap (λ (y : Node Content). y.body.text) value in
    grind arith

pub has_point : (g f : Forest Content) → Alike g f → ((n : ℕ) → occurs n f ≤ 1) → (p : Point) → 0 < occurs p.node f → p.offset ≤ node_length unit_count f p.node → HasPoint g p
has_point g f alike once p h l =
    let t = top_of None p.node g (λ n. let a = alike.numbers n in let b = once n in omega arith) (let a = alike.numbers p.node in omega arith) in
    let e = sym (alike.entries p.node) ∙ t.told in
    record { top = t.top; kids = t.kids; named = t.named; at = t.at; within = go t.top t.kids t.parent (entry_in f p.node) e l }
  where
    go : (top : Node Content) (kids : Forest Content) (parent : Option ℕ) (a : Option (Entry (Node Content))) → option_map bare_entry a ≡ Some (record { value = top; parent = parent; children = tops kids }) → p.offset ≤ length_in unit_count a → p.offset ≤ measure_of top kids
    go top kids parent None e k = absurd (cc e)
    go top kids parent (Some a) e k = length-bare top kids parent a e p.offset k

-- character data has no children where each node stands where its kind may
pub kinds-childless : (q : Option Kind) (f : Forest Content) → KindsFit q f → Childless f
kinds-childless q empty k = tt
kinds-childless q (node x kids rest) k = (alone x.label.kind kids k.1, kinds-childless (Some x.label.kind) kids k.1, kinds-childless q rest k.2)
  where
    alone : (kind : Kind) (kids : Forest Content) → KindsFit (Some kind) kids → is_character_data kind ≡ true → kids ≡ empty
    alone kind empty k c = refl
    alone kind (node y ks rest) k c = absurd (no_child kind y.label.kind c k.0)
