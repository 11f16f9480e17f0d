-- What stands around a node's own tokens in the token texts of a forest: it stays where the node's tree alone gives way to another.
use Rattle.std.proofs.Common.{◌≡◌, ℕ, suc, ◌<◌, ◌≤◌, ◌==◌, true, false, List, [], ◌∷◌, ◌++◌, refl, ap, subst, arith, append_assoc, inl, inr}
use Rattle.std.proofs.lemmas.{Bool.cases_Bool, Bool.eq-eqb, Bool.Decides.nat_tests}
use Rattle.dom_model.specs.Definitions.{is_character_data, Node, Forest, empty, node, occurs, one_at, tree_at, with_tree, Content, Point, Token, Open, Close, point, child_tokens, token_texts, Childless}
use Rattle.dom_model.proofs.Forests.Totals.{total-tree_at}
use Rattle.dom_model.proofs.TokenText.{Pieces.TextParts.inside, Pieces.TextParts.own, Pieces.TextPieces.children-same, Pieces.TextPieces.inside-same, Pieces.TextPieces.texts-same, AlikeTrees.WaysToTrees.along, AlikeTrees.WaysToTrees.to_tree}

module _ {X : Type 0} where
  -- a forest whose tree of a number is another
  abbrev pub with_root : ℕ → Node X → Forest X → Forest X → Forest X
  with_root n y ys f = with_tree n (λ _. node y ys empty) f

  pub with_root-absent : (n : ℕ) (y : Node X) (ys f : Forest X) → occurs n f ≡ 0 → with_root n y ys f ≡ f
  with_root-absent n y ys empty h = refl
  with_root-absent n y ys (node x kids rest) h =
      let t : (x.number == n) ≡ false = grind (arith, nat_tests) in
      let k = rw t at h in
      rw (t, with_root-absent n y ys kids (omega arith), with_root-absent n y ys rest (omega arith)) refl

  pub with_root-itself : (n : ℕ) (y : Node X) (ys f : Forest X) → ((m : ℕ) → occurs m f ≤ 1) → tree_at n f ≡ node y ys empty → with_root n y ys f ≡ f
  with_root-itself n y ys f o e =
      to_tree n y ys (λ g. with_root n y ys g ≡ g)
      (λ rest o d t k z. rw (t, with_root-absent n y ys rest z) refl)
      (λ x kids rest o t h z e i. rw (t, with_root-absent n y ys rest z, i) refl)
      (λ x kids rest o t k e i. rw (t, with_root-absent n y ys kids k, i) refl) f o e

-- the markers are the same in all gaps outside a tree
abbrev pub AgreeOff : Forest Content → (Point → List Token) → (Point → List Token) → Type 0
AgreeOff t marks marks' = (q : Point) → occurs q.node t ≡ 0 → marks' q ≡ marks q

-- among the children of a node: what stands ahead of the node's own tokens and behind them
pub record Among (marks : Point → List Token) (n : ℕ) (t : Forest Content) (m i : ℕ) (f : Forest Content) : Type 0 where
  pub ahead : List Token
  pub behind : List Token
  pub spelt : (marks' : Point → List Token) (y : Node Content) (ys : Forest Content) → y.number ≡ n → AgreeOff t marks marks' → child_tokens marks' m i (with_root n y ys f) ≡ ahead ++ (Open n ∷ (inside marks' y ys ++ (Close ∷ behind)))

-- among the texts: those above the text with the node, what stands ahead of the node's own tokens and behind them, and the texts below
pub record Around (marks : Point → List Token) (n : ℕ) (t : Forest Content) (f : Forest Content) : Type 0 where
  pub above : List (List Token)
  pub ahead : List Token
  pub behind : List Token
  pub below : List (List Token)
  pub spelt : (marks' : Point → List Token) (y : Node Content) (ys : Forest Content) → y.number ≡ n → AgreeOff t marks marks' → token_texts marks' (with_root n y ys f) ≡ above ++ ((ahead ++ (Open n ∷ (inside marks' y ys ++ (Close ∷ behind)))) ∷ below)

pub no_data : (n : ℕ) (x : Node Content) (kids : Forest Content) → (is_character_data x.label.kind ≡ true → kids ≡ empty) → 0 < occurs n kids → is_character_data x.label.kind ≡ false
no_data n x kids c h =
    elim (cases_Bool (is_character_data x.label.kind)) [
      | inl e ↦ absurd (let k : occurs n kids ≡ 0 = ap (occurs n) (c e) in omega arith)
      | inr e ↦ e
    ]

-- a node does not stand under itself
top_once : (x : Node Content) (kids rest : Forest Content) → ((m : ℕ) → occurs m (node x kids rest) ≤ 1) → occurs x.number kids ≡ 0
top_once x kids rest o = let u = rw (eq-eqb x.number x.number refl) at (o x.number) in omega arith

module _ (marks : Point → List Token) (n : ℕ) (t : Forest Content) where
  -- nodes beside the tree
  off_rest : (x : Node Content) (kids rest : Forest Content) → ((m : ℕ) → occurs m (node x kids rest) ≤ 1) → node x kids empty ≡ t → (k : ℕ) → 0 < occurs k rest → occurs k t ≡ 0
  off_rest x kids rest o e k h = subst (λ g. occurs k g ≡ 0) e (let u = o k in let z : occurs k (node x kids empty) ≡ 0 = omega arith in z)

  -- the tree stands in a part of the forest that does not have the node
  off_part : (part : Forest Content) (k : ℕ) → tree_at n part ≡ t → occurs k part ≡ 0 → occurs k t ≡ 0
  off_part part k e h = subst (λ g. occurs k g ≡ 0) e (omega (arith, total-tree_at (one_at k) n part))

  -- later children stay
  rest_stays : (marks' : (Point → List Token)) (m i : ℕ) (rest : Forest Content) → AgreeOff t marks marks' → occurs m t ≡ 0 → ((k : ℕ) → 0 < occurs k rest → occurs k t ≡ 0) → child_tokens marks' m i rest ≡ child_tokens marks m i rest
  rest_stays marks' m i rest a z h = children-same marks marks' m i i rest (λ j j' e b c. let d : j ≡ j' = omega arith in subst (λ l. marks' (point m l) ≡ marks (point m j)) d (a (point m j) z)) (λ q o. a q (h q.node o))

  here : (m i : ℕ) (x : Node Content) (kids rest : Forest Content) → ((k : ℕ) → occurs k (node x kids rest) ≤ 1) → (x.number == n) ≡ true → occurs n rest ≡ 0 → node x kids empty ≡ t → occurs m t ≡ 0 → Among marks n t m i (node x kids rest)
  here m i x kids rest o d r e z = record {
    ahead = marks (point m i);
    behind = child_tokens marks m (suc i) rest;
    spelt = λ marks' y ys f a.
        rw (d, with_root-absent n y ys rest r, a (point m i) z, rest_stays marks' m (suc i) rest a z (off_rest x kids rest o e)) (ap (λ k. marks (point m i) ++ (Open k ∷ (inside marks' y ys ++ (Close ∷ child_tokens marks m (suc i) rest)))) f);
  }

  under : (m i : ℕ) (x : Node Content) (kids rest : Forest Content) → ((k : ℕ) → occurs k (node x kids rest) ≤ 1) → (x.number == n) ≡ false → is_character_data x.label.kind ≡ false → 0 < occurs n kids → tree_at n kids ≡ t → occurs m t ≡ 0 → Among marks n t x.number 0 kids → Among marks n t m i (node x kids rest)
  under m i x kids rest o d v h e z w = record {
    ahead = marks (point m i) ++ (Open x.number ∷ w.ahead);
    behind = w.behind ++ (Close ∷ child_tokens marks m (suc i) rest);
    spelt = λ marks' y ys f a.
        let c = o n in
        let none : occurs n rest ≡ 0 = omega arith in
        let same_rest = rest_stays marks' m (suc i) rest a z (λ l b. off_part kids l e (let u = o l in omega arith)) in
        rw (d, v, with_root-absent n y ys rest none, a (point m i) z, same_rest, w.spelt marks' y ys f a) (simp append_assoc);
  }

  later : (m i : ℕ) (x : Node Content) (kids rest : Forest Content) → ((k : ℕ) → occurs k (node x kids rest) ≤ 1) → (x.number == n) ≡ false → occurs n kids ≡ 0 → tree_at n rest ≡ t → occurs m t ≡ 0 → Among marks n t m (suc i) rest → Among marks n t m i (node x kids rest)
  later m i x kids rest o d h e z w = record {
    ahead = marks (point m i) ++ (own marks x kids ++ w.ahead);
    behind = w.behind;
    spelt = λ marks' y ys f a.
        let same_kids = inside-same marks marks' x kids (λ q b. a q (off_part rest q.node e (let u = o q.node in omega arith))) in
        rw (d, with_root-absent n y ys kids h, a (point m i) z, same_kids, w.spelt marks' y ys f a) (simp append_assoc);
  }

  pub among_children : (m i : ℕ) (f : Forest Content) → ((k : ℕ) → occurs k f ≤ 1) → Childless f → 0 < occurs n f → tree_at n f ≡ t → occurs m t ≡ 0 → Among marks n t m i f
  among_children m i f o c h e z =
      along n t (λ g. (m i : ℕ) → Childless g → occurs m t ≡ 0 → Among marks n t m i g)
      (λ x kids rest o d v k r e m i c z. here m i x kids rest o v r e z)
      (λ x kids rest o v h r e w m i c z. under m i x kids rest o v (no_data n x kids c.0 h) h e z (w x.number 0 c.1 (off_part kids x.number e (top_once x kids rest o))))
      (λ x kids rest o v k e w m i c z. later m i x kids rest o v k e z (w m (suc i) c.2 z)) f o h e m i c z

  here_text : (x : Node Content) (kids rest : Forest Content) → ((k : ℕ) → occurs k (node x kids rest) ≤ 1) → (x.number == n) ≡ true → occurs n rest ≡ 0 → node x kids empty ≡ t → Around marks n t (node x kids rest)
  here_text x kids rest o d r e = record {
    above = [];
    ahead = [];
    behind = [];
    below = token_texts marks rest;
    spelt = λ marks' y ys f a.
        rw (d, with_root-absent n y ys rest r, texts-same marks marks' rest (λ q b. a q (off_rest x kids rest o e q.node b))) (ap (λ k. (Open k ∷ (inside marks' y ys ++ (Close ∷ []))) ∷ token_texts marks rest) f);
  }

  under_text : (x : Node Content) (kids rest : Forest Content) → ((k : ℕ) → occurs k (node x kids rest) ≤ 1) → (x.number == n) ≡ false → is_character_data x.label.kind ≡ false → 0 < occurs n kids → tree_at n kids ≡ t → Among marks n t x.number 0 kids → Around marks n t (node x kids rest)
  under_text x kids rest o d v h e w = record {
    above = [];
    ahead = Open x.number ∷ w.ahead;
    behind = w.behind ++ (Close ∷ []);
    below = token_texts marks rest;
    spelt = λ marks' y ys f a.
        let c = o n in
        let none : occurs n rest ≡ 0 = omega arith in
        let same_rest = texts-same marks marks' rest (λ q b. a q (off_part kids q.node e (let u = o q.node in omega arith))) in
        rw (d, v, with_root-absent n y ys rest none, same_rest, w.spelt marks' y ys f a) (simp append_assoc);
  }

  later_text : (x : Node Content) (kids rest : Forest Content) → ((k : ℕ) → occurs k (node x kids rest) ≤ 1) → (x.number == n) ≡ false → occurs n kids ≡ 0 → tree_at n rest ≡ t → Around marks n t rest → Around marks n t (node x kids rest)
  later_text x kids rest o d h e w = record {
    above = own marks x kids ∷ w.above;
    ahead = w.ahead;
    behind = w.behind;
    below = w.below;
    spelt = λ marks' y ys f a.
        let same_kids = inside-same marks marks' x kids (λ q b. a q (off_part rest q.node e (let u = o q.node in omega arith))) in
        rw (d, with_root-absent n y ys kids h, same_kids, w.spelt marks' y ys f a) refl;
  }

  pub around_texts : (f : Forest Content) → ((k : ℕ) → occurs k f ≤ 1) → Childless f → 0 < occurs n f → tree_at n f ≡ t → Around marks n t f
  around_texts f o c h e =
      along n t (λ g. Childless g → Around marks n t g)
      (λ x kids rest o d v k r e c. here_text x kids rest o v r e)
      (λ x kids rest o v h r e w c.
      let once : (m : ℕ) → occurs m kids ≤ 1 = λ m. let u = o m in omega arith in
      under_text x kids rest o v (no_data n x kids c.0 h) h e (among_children x.number 0 kids once c.1 h e (off_part kids x.number e (top_once x kids rest o))))
      (λ x kids rest o v k e w c. later_text x kids rest o v k e (w c.2)) f o h e c
