-- The six tests, in their order. What is read at a handle is told of its node.
use Rattle.std.proofs.Common.{◌≡◌, ℕ, Bool, true, false, not, ◌&&◌, ◌||◌, if◌then◌else◌, [], ◌∷◌, Some, None, refl, ap, sym, ◌∙◌, tests, rules}
use Rattle.std.proofs.lemmas.Bool.{false≢true}
use Rattle.dom_model.specs.declared.{Kind.Kind, Kind.TheVariants.Text, Kind.TheVariants.Document, Kind.TheVariants.DocumentType, DomError.TheVariants.HierarchyRequestError, DomError.TheVariants.NotFoundError}
use Rattle.dom_model.specs.Definitions.{among, is_number, first_refusal, is_kind, may_be_parent, Forest, Grove, IsForest, parent_of, ancestors, inclusive_descendants, kind_passes, is_of_kind, if_given, is_misplaced, kind_refuses, Content}
use Rattle.dom_model.proofs.Forests.ToTheRoot.{inside-same}
use Rattle.dom_tree.specs.Spots.{Spot}
use Rattle.dom_traverse.proofs.SpotLemmas.{told_at}
use Rattle.dom_edit.specs.{declared.insertion_point.InsertionPoint.InsertionPoint, InsertionPoints.child_of, InsertionPoints.refuses, InsertionPoints.conditions_at}
use Rattle.dom_edit.proofs.pre_insertion.check.Goals as goal
use Rattle.dom_edit.proofs.pre_insertion.check.Goals.{then-is_misplaced-via-then-is_misplaced, then-is_misplaced-via-else-is_misplaced+then-is_inside-2, else-eq-via-then-eq+else-is_refused, else-eq-via-else-eq}

kinds-at : (s : Spot Content) (g : Grove Content) (n : ℕ) (k : Kind) → s.tree ≡ g → s.node ≡ n → ((test : Kind → Bool) → kind_passes test s.tree.forest s.node ≡ test k) → (test : Kind → Bool) → kind_passes test g.forest n ≡ test k
kinds-at s g n k d e h test = told_at d e (λ (t : Grove Content) (m : ℕ). kind_passes test t.forest m) (sym (h test))

above-at : (g : Grove Content) → IsForest g → (top s : Spot Content) (n p : ℕ) (b : Bool) → top.tree ≡ g → top.node ≡ n → s.node ≡ p → b ≡ among s.node (inclusive_descendants top.tree.forest top.node) → among n (ancestors p g.forest) ≡ b
above-at g sound top s n p b d e i h =
    inside-same sound n p
    ∙ ap (λ m. among m (inclusive_descendants g.forest n)) (sym i)
    ∙ told_at d e (λ (t : Grove Content) (m : ℕ). among s.node (inclusive_descendants t.forest m)) h

-- The first of the tests that holds.

module _ (place : InsertionPoint) (f : Forest Content) (p n : ℕ) where
  closed : kind_passes may_be_parent f p ≡ false → first_refusal (conditions_at place f p n) ≡ Some HierarchyRequestError
  closed i = rw i refl

  inside : among n (ancestors p f) ≡ true → first_refusal (conditions_at place f p n) ≡ Some HierarchyRequestError
  inside j = rw j (go (kind_passes may_be_parent f p))
    where
      go : (a : Bool) → (if not a then Some HierarchyRequestError else Some HierarchyRequestError) ≡ Some HierarchyRequestError
      go true = refl
      go false = refl

  elsewhere : kind_passes may_be_parent f p ≡ true → among n (ancestors p f) ≡ false → if_given (λ m. not (is_number (parent_of f m) p)) (child_of place) ≡ true → first_refusal (conditions_at place f p n) ≡ Some NotFoundError
  elsewhere i j k = rw (i, j, k) refl

  misplaced : kind_passes may_be_parent f p ≡ true → if_given (λ m. not (is_number (parent_of f m) p)) (child_of place) ≡ false → (is_of_kind Document f n || is_misplaced f p n) ≡ true → first_refusal (conditions_at place f p n) ≡ Some HierarchyRequestError
  misplaced i k h = rw (i, k) (go (among n (ancestors p f)) (is_of_kind Document f n) (is_misplaced f p n) (kind_refuses (λ l. refuses place l f p n) f p n) h)
    where
      go : (b d e o : Bool) → (d || e) ≡ true → first_refusal ((b, HierarchyRequestError) ∷ (d, HierarchyRequestError) ∷ (e, HierarchyRequestError) ∷ (o, HierarchyRequestError) ∷ []) ≡ Some HierarchyRequestError
      go true d e o h = refl
      go false true e o h = refl
      go false false true o h = refl
      go false false false o h = absurd (false≢true h)

passed : {a b c d e o : Bool} → a ≡ true → b ≡ false → c ≡ false → d ≡ false → e ≡ false → o ≡ false → first_refusal ((not a, HierarchyRequestError) ∷ (b, HierarchyRequestError) ∷ (c, NotFoundError) ∷ (d, HierarchyRequestError) ∷ (e, HierarchyRequestError) ∷ (o, HierarchyRequestError) ∷ []) ≡ None
passed i j k l m n = rw (i, j, k, l, m, n) refl

refused : {a b c d e o : Bool} → a ≡ true → b ≡ false → c ≡ false → d ≡ false → e ≡ false → o ≡ true → first_refusal ((not a, HierarchyRequestError) ∷ (b, HierarchyRequestError) ∷ (c, NotFoundError) ∷ (d, HierarchyRequestError) ∷ (e, HierarchyRequestError) ∷ (o, HierarchyRequestError) ∷ []) ≡ Some HierarchyRequestError
refused i j k l m n = rw (i, j, k, l, m, n) refl

left-off : (a b : Bool) → (a || b) ≡ false → a ≡ false
left-off true b e = absurd (false≢true (sym e))
left-off false b e = refl

right-off : (a b : Bool) → (a || b) ≡ false → b ≡ false
right-off true b e = absurd (false≢true (sym e))
right-off false b e = e

both : {a b : Bool} → a ≡ true → b ≡ true → (a && b) ≡ true
both i j = rw (i, j) refl

first-off : (b : Bool) {a : Bool} → a ≡ false → (a && b) ≡ false
first-off b i = rw i refl

second-off : (a : Bool) {b : Bool} → b ≡ false → (a && b) ≡ false
second-off true j = j
second-off false j = refl

-- that a kind stands nowhere under another, told of two nodes
misplaced-at : (g : Grove Content) (n p : ℕ) (k l : Kind) → ((test : Kind → Bool) → kind_passes test g.forest n ≡ test k) → ((test : Kind → Bool) → kind_passes test g.forest p ≡ test l)
    → is_misplaced g.forest p n ≡ ((is_kind Text k && is_kind Document l) || (is_kind DocumentType k && not (is_kind Document l)))
misplaced-at g n p k l i j = rw (i (is_kind Text), i (is_kind DocumentType), j (is_kind Document)) refl

pub returns-then-not-may_be_parent : goal.returns-then-not-may_be_parent
returns-then-not-may_be_parent c =
    let above = kinds-at c.at-parent_at.result c.args.tree.now c.args.parent c.kind_at-above.result c.at-parent_at.ensures.tree c.at-parent_at.ensures.node c.kind_at-above.ensures in
    closed c.args.place c.args.tree.now.forest c.args.parent c.args.node (above may_be_parent ∙ sym c.may_be_parent.ensures ∙ c.if-not-may_be_parent.true)

pub returns-then-is_inside : goal.returns-then-is_inside
returns-then-is_inside c =
    let g = c.args.tree.now in
    let i = above-at g c.state_law.ensures c.at-node_at.result c.at-parent_at.result c.args.node c.args.parent c.is_inside.result c.at-node_at.ensures.tree c.at-node_at.ensures.node c.at-parent_at.ensures.node c.is_inside.ensures in
    inside c.args.place g.forest c.args.parent c.args.node (i ∙ c.if-is_inside.true)

pub returns-else-is_inside : goal.returns-else-is_inside
returns-else-is_inside c =
    let g = c.args.tree.now in
    let above = kinds-at c.at-parent_at.result g c.args.parent c.kind_at-above.result c.at-parent_at.ensures.tree c.at-parent_at.ensures.node c.kind_at-above.ensures in
    let i = above-at g c.state_law.ensures c.at-node_at.result c.at-parent_at.result c.args.node c.args.parent c.is_inside.result c.at-node_at.ensures.tree c.at-node_at.ensures.node c.at-parent_at.ensures.node c.is_inside.ensures in
    let e = ap (λ o. if_given (λ m. not (is_number (parent_of g.forest m) c.args.parent)) o) (sym c.child.ensures) ∙ sym c.is_elsewhere.ensures in
    elsewhere c.args.place g.forest c.args.parent c.args.node (above may_be_parent ∙ sym c.may_be_parent.ensures ∙ c.if-not-may_be_parent.false) (i ∙ c.if-is_inside.false) (e ∙ c.if-is_elsewhere.true)

pub returns-then-is_misplaced : goal.returns-then-is_misplaced
returns-then-is_misplaced c =
    let g = c.args.tree.now in
    let f = g.forest in
    let p = c.args.parent in
    let n = c.args.node in
    let above = kinds-at c.at-parent_at.result g p c.kind_at-above.result c.at-parent_at.ensures.tree c.at-parent_at.ensures.node c.kind_at-above.ensures in
    let kind = kinds-at c.at-node_at.result g n c.kind_at-kind.result c.at-node_at.ensures.tree c.at-node_at.ensures.node c.kind_at-kind.ensures in
    let e = ap (λ o. if_given (λ m. not (is_number (parent_of f m) p)) o) (sym c.child.ensures) ∙ sym c.is_elsewhere.ensures in
    elim c.then-is_misplaced.branch [
      | then-is_misplaced-via-then-is_misplaced w ↦
          let m : (is_of_kind Document f n || is_misplaced f p n) ≡ true = rw (kind (is_kind Document), misplaced-at g n p c.kind_at-kind.result c.kind_at-above.result kind above) (sym c.is_misplaced.ensures ∙ w.if-is_misplaced.true) in
          misplaced c.args.place f p n (above may_be_parent ∙ sym c.may_be_parent.ensures ∙ c.if-not-may_be_parent.false) (e ∙ c.if-is_elsewhere.false) m
      | then-is_misplaced-via-else-is_misplaced+then-is_inside-2 w ↦
          let i = above-at g c.state_law.ensures c.at-node_at.result c.at-parent_at.result n p w.is_inside-else-is_misplaced.result c.at-node_at.ensures.tree c.at-node_at.ensures.node c.at-parent_at.ensures.node w.is_inside-else-is_misplaced.ensures in
          inside c.args.place f p n (i ∙ w.if-is_inside-2.true)
    ]

pub returns-then-is_refused : goal.returns-then-is_refused
returns-then-is_refused c =
    let g = c.args.tree.now in
    let f = g.forest in
    let p = c.args.parent in
    let n = c.args.node in
    let above = kinds-at c.at-parent_at.result g p c.kind_at-above.result c.at-parent_at.ensures.tree c.at-parent_at.ensures.node c.kind_at-above.ensures in
    let kind = kinds-at c.at-node_at.result g n c.kind_at-kind.result c.at-node_at.ensures.tree c.at-node_at.ensures.node c.kind_at-kind.ensures in
    let i = above-at g c.state_law.ensures c.at-node_at.result c.at-parent_at.result n p c.is_inside-else-is_misplaced.result c.at-node_at.ensures.tree c.at-node_at.ensures.node c.at-parent_at.ensures.node c.is_inside-else-is_misplaced.ensures in
    let e = ap (λ o. if_given (λ m. not (is_number (parent_of f m) p)) o) (sym c.child.ensures) ∙ sym c.is_elsewhere.ensures in
    let m = sym c.is_misplaced.ensures ∙ c.if-is_misplaced.false in
    let same : is_kind Document c.kind_at-above.result ≡ c.eq.result = search (tests, rules) in
    refused (above may_be_parent ∙ sym c.may_be_parent.ensures ∙ c.if-not-may_be_parent.false) (i ∙ c.if-is_inside-2.false) (e ∙ c.if-is_elsewhere.false)
    (kind (is_kind Document) ∙ left-off _ _ m) (misplaced-at g n p c.kind_at-kind.result c.kind_at-above.result kind above ∙ right-off _ _ m)
    (both (above (is_kind Document) ∙ same ∙ c.if-eq.true) (kind (λ k. refuses c.args.place k f p n) ∙ sym c.is_refused.ensures ∙ c.if-is_refused.true))

pub returns : goal.returns
returns c =
    let g = c.args.tree.now in
    let f = g.forest in
    let p = c.args.parent in
    let n = c.args.node in
    let above = kinds-at c.at-parent_at.result g p c.kind_at-above.result c.at-parent_at.ensures.tree c.at-parent_at.ensures.node c.kind_at-above.ensures in
    let kind = kinds-at c.at-node_at.result g n c.kind_at-kind.result c.at-node_at.ensures.tree c.at-node_at.ensures.node c.kind_at-kind.ensures in
    let i = above-at g c.state_law.ensures c.at-node_at.result c.at-parent_at.result n p c.is_inside-else-is_misplaced.result c.at-node_at.ensures.tree c.at-node_at.ensures.node c.at-parent_at.ensures.node c.is_inside-else-is_misplaced.ensures in
    let e = ap (λ o. if_given (λ m. not (is_number (parent_of f m) p)) o) (sym c.child.ensures) ∙ sym c.is_elsewhere.ensures in
    let m = sym c.is_misplaced.ensures ∙ c.if-is_misplaced.false in
    let same : is_kind Document c.kind_at-above.result ≡ c.eq.result = search (tests, rules) in
    let none : kind_refuses (λ k. refuses c.args.place k f p n) f p n ≡ false =
    elim c.else-eq.branch [
      | else-eq-via-then-eq+else-is_refused w ↦ second-off (is_of_kind Document f p) (kind (λ k. refuses c.args.place k f p n) ∙ sym w.is_refused.ensures ∙ w.if-is_refused.false)
      | else-eq-via-else-eq w ↦ first-off (kind_passes (λ k. refuses c.args.place k f p n) f n) (above (is_kind Document) ∙ same ∙ w.if-eq.false)
    ] in
    passed (above may_be_parent ∙ sym c.may_be_parent.ensures ∙ c.if-not-may_be_parent.false) (i ∙ c.if-is_inside-2.false) (e ∙ c.if-is_elsewhere.false)
    (kind (is_kind Document) ∙ left-off _ _ m) (misplaced-at g n p c.kind_at-kind.result c.kind_at-above.result kind above ∙ right-off _ _ m) none
