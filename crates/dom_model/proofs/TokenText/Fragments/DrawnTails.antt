-- What lies beside a path and at its end comes into a fragment, in copies of the nodes of the path: the fragment has the tokens of that part
-- of the tree, with opens in front or closes behind that make all pairs match. DOM Standard, "Interface Range": extract, clone the contents.
use Rattle.std.proofs.Common.{◌≡◌, ℕ, suc, ◌+◌, ◌-◌, ◌<◌, ◌≤◌, Bool, true, false, if◌then◌else◌, List, [], ◌∷◌, ◌++◌, take, drop, length, refl, ap, sym, ◌∙◌, subst, arith, append_assoc, length-drop, inr, replicate}
use Rattle.std.proofs.lemmas.{List.take_all, List.replicate_more, Bool.Decides.nat_tests}
use Rattle.dom_model.specs.Definitions.{hits, past, up_to, is_character_data, may_be_parent, occurs, tree_at, children_of, World, kind_passes, data_of, units_into, children_into, copy_into, tail_into, head_into, Token, Open, Close, no_marks, unit_tokens, opened_in, tail_nodes, head_nodes}
use Rattle.dom_model.proofs.Forests.{Climbing.hits-append, Climbing.hits-first, Indices.child-parent, Indices.child-once}
use Rattle.dom_model.proofs.RangesAndContents.{Drawing.IsDrawing, Drawing.Extends, Drawing.extends-same, Drawing.extends-then, Drawing.passes_there, Drawing.IsHolder, Drawing.holder-extends, DrawnPieces.new-greater, DrawnPieces.is_drawn, DrawnPieces.IsDrawable, DrawnPieces.drawable-extends, DrawnPaths.ArePath, DrawnPaths.IsWithin, DrawnPaths.child-drawable, DrawnPaths.hits-drop, DrawnPaths.hits-take, DrawnPaths.hits-past, DrawnPaths.hits-up_to}
use Rattle.dom_model.proofs.TokenText.{Contents.PathTokens.nodes_tokens, Contents.PathTokens.tail_tokens, Contents.PathTokens.head_tokens, Contents.PathShapes.opens_of, Fragments.Shapes.shape, Fragments.StandingTrees.Stands, Fragments.StandingTrees.Keeps, Fragments.StandingTrees.keeps-then, Fragments.DrawnTrees.IsSafe, Fragments.DrawnTrees.each-weaker, Fragments.DrawnTrees.Drew, Fragments.DrawnTrees.drew-none, Fragments.DrawnTrees.drew-as, Fragments.DrawnTrees.AreOld, Fragments.DrawnTrees.safe-kept, Fragments.DrawnTrees.drew-then, Fragments.DrawnNodes.IsAside, Fragments.DrawnNodes.old-one, Fragments.DrawnNodes.children-drew, Fragments.DrawnCopies.units-drew, Fragments.DrawnCopies.copy-drew}

-- A path and the nodes beside it, which are as they were in the world that is read.
pub record IsReady (low : ℕ) (bad : List ℕ) (w v : World) (path beside : List ℕ) : Type 0 where
  pub in_bad : (n : ℕ) → 0 < hits n path → 0 < hits n bad
  pub once : (n : ℕ) → hits n path ≤ 1
  pub drawable : (n : ℕ) → 0 < hits n path → IsDrawable low w n
  pub keeps : (n : ℕ) → 0 < hits n path → Keeps w v n
  pub aside : (c : ℕ) → 0 < hits c beside → IsAside low bad w c
  pub stands : (c : ℕ) → 0 < hits c beside → Stands v (tree_at c w.forest)

-- a list of nodes of the ways
pub old-ones : (low : ℕ) (bad path : List ℕ) → ((x : ℕ) → low ≤ x → hits x bad ≡ 0) → ((n : ℕ) → 0 < hits n path → 0 < hits n bad) → AreOld low bad path
old-ones low bad path old h = record {
  old = old;
  within = λ x z. let i = h x in grind arith;
}

-- what is old and aside stands on
pub aside-stands : (low : ℕ) (bad touched : List ℕ) → AreOld low bad touched → (w v x : World) (into : ℕ) → low ≤ into → Extends v x → ((y : ℕ) → 0 < occurs y v.forest → (y ≡ into → ⊥) → hits y touched ≡ 0 → Keeps v x y) → (c : ℕ) → IsAside low bad w c → Stands v (tree_at c w.forest) → Stands x (tree_at c w.forest)
aside-stands low bad touched o w v x into l e keeps c a s =
    safe-kept low bad touched o (suc into) v x into l (omega arith) (omega arith) e keeps (tree_at c w.forest)
    (each-weaker (λ y. (y < low) × (hits y bad ≡ 0)) (IsSafe low bad (suc into)) (λ y i. inr i) (tree_at c w.forest) a.far) s

-- after a step elsewhere
pub ready-later : (low : ℕ) (bad touched : List ℕ) → AreOld low bad touched → (w v x : World) (into : ℕ) → low ≤ into → Extends w v → Extends v x → ((y : ℕ) → 0 < occurs y v.forest → (y ≡ into → ⊥) → hits y touched ≡ 0 → Keeps v x y) →
    (path beside more others : List ℕ) → ((n : ℕ) → hits n more ≤ hits n path) → ((n : ℕ) → 0 < hits n more → hits n touched ≡ 0) → ((n : ℕ) → hits n others ≤ hits n beside) → IsReady low bad w v path beside → IsReady low bad w x more others
ready-later low bad touched o w v x into l ew e keeps path beside more others fewer apart_from less r = record {
  in_bad = λ n h. r.in_bad n (let i = fewer n in omega arith);
  once = λ n. let i = fewer n in let j = r.once n in omega arith;
  drawable = λ n h. r.drawable n (let i = fewer n in omega arith);
  keeps = λ n h.
      let i : 0 < hits n path = (let i = fewer n in omega arith) in
      let d = r.drawable n i in
      keeps-then w v x n (r.keeps n i) (keeps n (ew.there n (passes_there is_drawn w.forest n d.kind)) (λ j. let a = d.old in omega arith) (apart_from n h));
  aside = λ c h. r.aside c (let i = less c in omega arith);
  stands = λ c h. let i : 0 < hits c beside = (let i = less c in omega arith) in aside-stands low bad touched o w v x into l e keeps c (r.aside c i) (r.stands c i);
}

module _ (low : ℕ) (bad : List ℕ) (old : (x : ℕ) → low ≤ x → hits x bad ≡ 0) (w : World) (dw : IsDrawing low w) (moves : Bool) where
  -- some children of an old node
  pub some-drew : (p : ℕ) (ns : List ℕ) → p < low → 0 < hits p bad → ((c : ℕ) → hits c ns ≤ hits c (children_of w.forest p)) → ((c : ℕ) → 0 < hits c ns → IsDrawable low w c) → ((c : ℕ) → 0 < hits c ns → IsAside low bad w c) →
      (into : ℕ) (x : World) → IsDrawing low x → Extends w x → IsHolder low x into → children_of x.forest p ≡ children_of w.forest p → ((c : ℕ) → 0 < hits c ns → Stands x (tree_at c w.forest)) → Drew w moves low bad (p ∷ []) x (children_into moves into ns x) into (nodes_tokens w.forest ns)
  some-drew p ns p_old p_bad fewer drawable aside into x dx e k same_children stands =
      children-drew low bad old w into p p_old p_bad moves ns x dx k
      (λ c h. record {
        drawable = drawable-extends low w x c e (drawable c h);
        aside = aside c h;
        stands = stands c h;
        parent = child-parent x.forest dx.sound.forest.once c p (subst (λ cs. 0 < hits c cs) (sym same_children) (let i = fewer c in omega arith));
      })
      (λ c. let i = fewer c in let j = child-once w.forest dw.sound.forest.once c p in omega arith)

  -- the children beside a path
  beside-drew : (n : ℕ) (ns : List ℕ) → IsDrawable low w n → 0 < hits n bad → ((c : ℕ) → hits c ns ≤ hits c (children_of w.forest n)) → ((c : ℕ) → 0 < hits c ns → IsAside low bad w c) →
      (into : ℕ) (x : World) → IsDrawing low x → Extends w x → IsHolder low x into → children_of x.forest n ≡ children_of w.forest n → ((c : ℕ) → 0 < hits c ns → Stands x (tree_at c w.forest)) → Drew w moves low bad (n ∷ []) x (children_into moves into ns x) into (nodes_tokens w.forest ns)
  beside-drew n ns h n_bad fewer aside = some-drew n ns h.old n_bad fewer (λ c i. child-drawable low w dw n c h (let j = fewer c in omega arith)) aside

  first-in : (n : ℕ) (ns : List ℕ) → ((m : ℕ) → hits m (n ∷ ns) ≤ 1) → hits n ns ≡ 0
  first-in n ns once = let o = once n in grind (arith, nat_tests)

  apart-first : (n y : ℕ) (ns : List ℕ) → ((m : ℕ) → hits m (n ∷ ns) ≤ 1) → 0 < hits y ns → hits y (n ∷ []) ≡ 0
  apart-first n y ns once h = let o = once y in grind (arith, nat_tests)

  -- of the last node of a path, or of the only one

  abbrev last_tokens : ℕ → List ℕ → List ℕ → Bool → List Token
  last_tokens n us ns b = if b then unit_tokens no_marks n 0 us else nodes_tokens w.forest ns

  rest-units : (offset : ℕ) (us : List ℕ) → take (length us - offset) (drop offset us) ≡ drop offset us
  rest-units offset us = take_all (length us - offset) (drop offset us) (let i = length-drop offset us in omega arith)

  module _ (n from count : ℕ) (ns us : List ℕ) (into : ℕ) (v : World) (dv : IsDrawing low v) (e : Extends w v) (k : IsHolder low v into) (h : IsDrawable low w n) (n_bad : 0 < hits n bad) (kept : Keeps w v n) (within : kind_passes is_character_data w.forest n ≡ true → from ≤ length (data_of w n)) (cut : take count (drop from (data_of w n)) ≡ us) (fewer : (c : ℕ) → hits c ns ≤ hits c (children_of w.forest n)) (aside : kind_passes is_character_data w.forest n ≡ false → (c : ℕ) → 0 < hits c ns → IsAside low bad w c) (stands : kind_passes is_character_data w.forest n ≡ false → (c : ℕ) → 0 < hits c ns → Stands v (tree_at c w.forest)) where
    n_there : 0 < occurs n w.forest
    n_there = passes_there is_drawn w.forest n h.kind

    same_kind : kind_passes is_character_data v.forest n ≡ kind_passes is_character_data w.forest n
    same_kind = e.kinds is_character_data n n_there

    abbrev drawn : Bool → World
    drawn b = if b then units_into moves into n from count v else copy_into into n (λ inner x. children_into moves inner ns x) v

    abbrev one_tokens : Bool → List Token
    one_tokens b = Open n ∷ (last_tokens n us ns b ++ (Close ∷ []))

    with_units : kind_passes is_character_data w.forest n ≡ true → Drew w moves low bad (n ∷ []) v (units_into moves into n from count v) into (one_tokens true)
    with_units b =
        let l : from ≤ length (data_of v n) = subst (λ (xs : List ℕ). from ≤ length xs) (sym kept.text) (within b) in
        let u = units-drew low bad old into n from count v dv k (same_kind ∙ b) l n_bad w (sym (e.tags n n_there)) moves in
        drew-as w moves low bad (n ∷ []) (n ∷ []) v (units_into moves into n from count v) into (Open n ∷ (unit_tokens no_marks n 0 (take count (drop from (data_of v n))) ++ (Close ∷ []))) (one_tokens true)
        (ap (λ (xs : List ℕ). shape (Open n ∷ (unit_tokens no_marks n 0 xs ++ (Close ∷ [])))) (ap (λ (xs : List ℕ). take count (drop from xs)) kept.text ∙ cut))
        (ap (λ (xs : List ℕ). opened_in (Open n ∷ (unit_tokens no_marks n 0 xs ++ (Close ∷ [])))) (ap (λ (xs : List ℕ). take count (drop from xs)) kept.text ∙ cut))
        (λ x z. z) u

    with_children : kind_passes is_character_data w.forest n ≡ false → Drew w moves low bad (n ∷ []) v (copy_into into n (λ inner x. children_into moves inner ns x) v) into (one_tokens false)
    with_children b =
        copy-drew low bad into n v dv k (drawable-extends low w v n e h) (same_kind ∙ b) w (sym (e.tags n n_there)) moves n_bad (n ∷ []) (old-one low bad old n n_bad) (λ inner x. children_into moves inner ns x) (nodes_tokens w.forest ns)
        (λ inner x dx ex kx keeps.
        let i = keeps n (e.there n n_there) (λ j. let a = h.old in let c = k.fresh in omega arith) in
        beside-drew n ns h n_bad fewer (aside b) inner x dx (extends-then w v x e ex) kx (i.children ∙ kept.children)
        (λ c j. aside-stands low bad [] (record { old = old; within = λ y z. refl }) w v x into k.fresh ex (λ y t ne z. keeps y t ne) c (aside b c j) (stands b c j)))

    pub one-drew : Drew w moves low bad (n ∷ []) v (drawn (kind_passes is_character_data v.forest n)) into (one_tokens (kind_passes is_character_data w.forest n))
    one-drew = subst (λ b. Drew w moves low bad (n ∷ []) v (drawn b) into (one_tokens (kind_passes is_character_data w.forest n))) (sym same_kind) (go (kind_passes is_character_data w.forest n) refl)
      where
        go : (b : Bool) → kind_passes is_character_data w.forest n ≡ b → Drew w moves low bad (n ∷ []) v (drawn b) into (one_tokens b)
        go true e = with_units e
        go false e = with_children e

  -- A path from its first node on: the copy of the first holds what is drawn of the others, and the children beside.

  nodes-if : (b : Bool) (ns : List ℕ) → b ≡ false → (c : ℕ) → 0 < hits c ns → 0 < hits c (if b then [] else ns)
  nodes-if b ns e c h = rw e h

  abbrev DrawsTail : ℕ → List ℕ → Type 0
  DrawsTail offset path = (into : ℕ) (v : World) → IsDrawing low v → Extends w v → IsHolder low v into → IsReady low bad w v path (tail_nodes w offset path) → Drew w moves low bad path v (tail_into moves into offset path v) into (opens_of path ++ tail_tokens w offset path)

  abbrev DrawsHead : ℕ → List ℕ → Type 0
  DrawsHead offset path = (into : ℕ) (v : World) → IsDrawing low v → Extends w v → IsHolder low v into → IsReady low bad w v path (head_nodes w offset path) → Drew w moves low bad path v (head_into moves into offset path v) into (head_tokens w offset path ++ replicate (length path) Close)

  pub tail-drew : (offset : ℕ) (path : List ℕ) (into : ℕ) (v : World) → IsDrawing low v → Extends w v → IsHolder low v into → ArePath low w path → IsWithin offset w path → IsReady low bad w v path (tail_nodes w offset path) →
      Drew w moves low bad path v (tail_into moves into offset path v) into (opens_of path ++ tail_tokens w offset path)
  tail-drew offset [] into v dv e k p within r = drew-none w moves low bad [] v into dv
  tail-drew offset (n ∷ []) into v dv e k p within r =
      let kept = r.keeps n (hits-first n []) in
      let each = nodes-if (kind_passes is_character_data w.forest n) (drop offset (children_of w.forest n)) in
      subst (λ (cs : List ℕ). Drew w moves low bad (n ∷ []) v (if kind_passes is_character_data v.forest n then units_into moves into n offset (length (data_of v n) - offset) v else copy_into into n (λ inner x. children_into moves inner (drop offset cs) x) v) into (Open n ∷ tail_tokens w offset (n ∷ []))) (sym kept.children)
      (subst (λ (xs : List ℕ). Drew w moves low bad (n ∷ []) v (if kind_passes is_character_data v.forest n then units_into moves into n offset (length xs - offset) v else copy_into into n (λ inner x. children_into moves inner (drop offset (children_of w.forest n)) x) v) into (Open n ∷ tail_tokens w offset (n ∷ []))) (sym kept.text)
      (one-drew n offset (length (data_of w n) - offset) (drop offset (children_of w.forest n)) (drop offset (data_of w n)) into v dv e k p (r.in_bad n (hits-first n [])) kept within
      (rest-units offset (data_of w n)) (λ c. hits-drop c offset (children_of w.forest n)) (λ b c h. r.aside c (each b c h)) (λ b c h. r.stands c (each b c h))))
  tail-drew offset (n ∷ m ∷ path) into v dv e k p within r =
      let kept = r.keeps n (hits-first n (m ∷ path)) in
      subst (λ (cs : List ℕ). Drew w moves low bad (n ∷ m ∷ path) v (copy_into into n (λ inner x. children_into moves inner (past m cs) (tail_into moves inner offset (m ∷ path) x)) v) into (opens_of (n ∷ m ∷ path) ++ tail_tokens w offset (n ∷ m ∷ path))) (sym kept.children)
      (drew-as w moves low bad (n ∷ m ∷ path) (n ∷ m ∷ path) v _ into (Open n ∷ ((deeper ++ nodes_tokens w.forest ns) ++ (Close ∷ []))) (opens_of (n ∷ m ∷ path) ++ tail_tokens w offset (n ∷ m ∷ path))
      (ap (λ ts. Open 0 ∷ shape ts) regrouped) (ap (λ ts. n ∷ opened_in ts) regrouped) (λ x z. z)
      (copy-drew low bad into n v dv k (drawable-extends low w v n e p.0) (e.kinds is_character_data n n_there ∙ p.1) w (sym (e.tags n n_there)) moves (r.in_bad n (hits-first n (m ∷ path))) (n ∷ m ∷ path) (old-ones low bad (n ∷ m ∷ path) old r.in_bad)
      (λ inner x. children_into moves inner (past m (children_of w.forest n)) (tail_into moves inner offset (m ∷ path) x)) (deeper ++ nodes_tokens w.forest ns)
      (filled (λ inner u du eu ku ru. tail-drew offset (m ∷ path) inner u du eu ku p.2 within ru))))
    where
      ns : List ℕ
      ns = past m (children_of w.forest n)

      deeper : List Token
      deeper = opens_of (m ∷ path) ++ tail_tokens w offset (m ∷ path)

      n_there : 0 < occurs n w.forest
      n_there = passes_there is_drawn w.forest n p.0.kind

      regrouped : (deeper ++ nodes_tokens w.forest ns) ++ (Close ∷ []) ≡ opens_of (m ∷ path) ++ (tail_tokens w offset (m ∷ path) ++ (nodes_tokens w.forest ns ++ (Close ∷ [])))
      regrouped =
          append_assoc deeper (nodes_tokens w.forest ns) (Close ∷ [])
          ∙ append_assoc (opens_of (m ∷ path)) (tail_tokens w offset (m ∷ path)) (nodes_tokens w.forest ns ++ (Close ∷ []))

      filled : DrawsTail offset (m ∷ path) → (inner : ℕ) (x : World) → IsDrawing low x → Extends v x → IsHolder low x inner → ((y : ℕ) → 0 < occurs y v.forest → (y ≡ into → ⊥) → Keeps v x y) → Drew w moves low bad (n ∷ m ∷ path) x (children_into moves inner ns (tail_into moves inner offset (m ∷ path) x)) inner (deeper ++ nodes_tokens w.forest ns)
      filled deep inner x dx ex kx keeps =
          let ewx = extends-then w v x e ex in
          let none : AreOld low bad [] = record { old = old; within = λ y z. refl } in
          let rx = ready-later low bad [] none w v x into k.fresh e ex (λ y t ne z. keeps y t ne) (n ∷ m ∷ path) (tail_nodes w offset (n ∷ m ∷ path)) (n ∷ m ∷ path) (tail_nodes w offset (n ∷ m ∷ path)) (λ y. omega arith) (λ y h. refl) (λ y. omega arith) r in
          let ry = ready-later low bad [] none w x x into k.fresh ewx (extends-same x) (λ y t ne z. record { text = refl; children = refl }) (n ∷ m ∷ path) (tail_nodes w offset (n ∷ m ∷ path)) (m ∷ path) (tail_nodes w offset (m ∷ path)) (λ y. omega arith) (λ y h. refl) (λ y. let i = hits-append y (tail_nodes w offset (m ∷ path)) ns in omega arith) rx in
          let first = deep inner x dx ewx kx ry in
          let u = tail_into moves inner offset (m ∷ path) x in
          let here = rx.keeps n (hits-first n (m ∷ path)) in
          let still = first.keeps n (ewx.there n n_there) (λ j. let a = p.0.old in let c = kx.fresh in omega arith) (first-in n (m ∷ path) r.once) in
          let listed : (c : ℕ) → 0 < hits c ns → 0 < hits c (tail_nodes w offset (n ∷ m ∷ path)) = λ c h. let i = hits-append c (tail_nodes w offset (m ∷ path)) ns in omega arith in
          let second = beside-drew n ns p.0 (r.in_bad n (hits-first n (m ∷ path))) (λ c. hits-past c m (children_of w.forest n)) (λ c h. r.aside c (listed c h)) inner u first.drawing (extends-then w x u ewx first.extends) (holder-extends low x u inner first.extends kx) (still.children ∙ here.children)
          (λ c h. aside-stands low bad (m ∷ path) (old-ones low bad (m ∷ path) old ry.in_bad) w x u inner kx.fresh first.extends first.keeps c (r.aside c (listed c h)) (rx.stands c (listed c h))) in
          drew-as w moves low bad ((m ∷ path) ++ (n ∷ [])) (n ∷ m ∷ path) x (children_into moves inner ns u) inner (deeper ++ nodes_tokens w.forest ns) (deeper ++ nodes_tokens w.forest ns) refl refl (λ y z. let i = hits-append y (m ∷ path) (n ∷ []) in omega arith)
          (drew-then w moves low bad (m ∷ path) (n ∷ []) (old-one low bad old n (r.in_bad n (hits-first n (m ∷ path)))) x u (children_into moves inner ns u) inner deeper (nodes_tokens w.forest ns) kx.fresh (new-greater low x dx inner (passes_there may_be_parent x.forest inner kx.kind)) dx.begun first second)

  pub head-drew : (offset : ℕ) (path : List ℕ) (into : ℕ) (v : World) → IsDrawing low v → Extends w v → IsHolder low v into → ArePath low w path → IsReady low bad w v path (head_nodes w offset path) →
      Drew w moves low bad path v (head_into moves into offset path v) into (head_tokens w offset path ++ replicate (length path) Close)
  head-drew offset [] into v dv e k p r = drew-none w moves low bad [] v into dv
  head-drew offset (n ∷ []) into v dv e k p r =
      let kept = r.keeps n (hits-first n []) in
      let each = nodes-if (kind_passes is_character_data w.forest n) (take offset (children_of w.forest n)) in
      subst (λ (cs : List ℕ). Drew w moves low bad (n ∷ []) v (if kind_passes is_character_data v.forest n then units_into moves into n 0 offset v else copy_into into n (λ inner x. children_into moves inner (take offset cs) x) v) into (head_tokens w offset (n ∷ []) ++ (Close ∷ []))) (sym kept.children)
      (one-drew n 0 offset (take offset (children_of w.forest n)) (take offset (data_of w n)) into v dv e k p (r.in_bad n (hits-first n [])) kept (λ b. omega arith)
      refl (λ c. hits-take c offset (children_of w.forest n)) (λ b c h. r.aside c (each b c h)) (λ b c h. r.stands c (each b c h)))
  head-drew offset (n ∷ m ∷ path) into v dv e k p r =
      let kept = r.keeps n (hits-first n (m ∷ path)) in
      subst (λ (cs : List ℕ). Drew w moves low bad (n ∷ m ∷ path) v (copy_into into n (λ inner x. head_into moves inner offset (m ∷ path) (children_into moves inner (up_to m cs) x)) v) into (head_tokens w offset (n ∷ m ∷ path) ++ replicate (length (n ∷ m ∷ path)) Close)) (sym kept.children)
      (drew-as w moves low bad (n ∷ m ∷ path) (n ∷ m ∷ path) v _ into (Open n ∷ ((nodes_tokens w.forest ns ++ deeper) ++ (Close ∷ []))) (head_tokens w offset (n ∷ m ∷ path) ++ replicate (length (n ∷ m ∷ path)) Close)
      (ap (λ ts. Open 0 ∷ shape ts) regrouped) (ap (λ ts. n ∷ opened_in ts) regrouped) (λ x z. z)
      (copy-drew low bad into n v dv k (drawable-extends low w v n e p.0) (e.kinds is_character_data n n_there ∙ p.1) w (sym (e.tags n n_there)) moves (r.in_bad n (hits-first n (m ∷ path))) (n ∷ m ∷ path) (old-ones low bad (n ∷ m ∷ path) old r.in_bad)
      (λ inner x. head_into moves inner offset (m ∷ path) (children_into moves inner (up_to m (children_of w.forest n)) x)) (nodes_tokens w.forest ns ++ deeper)
      (filled (λ inner u du eu ku ru. head-drew offset (m ∷ path) inner u du eu ku p.2 ru))))
    where
      ns : List ℕ
      ns = up_to m (children_of w.forest n)

      closes : List Token
      closes = replicate (length (m ∷ path)) Close

      deeper : List Token
      deeper = head_tokens w offset (m ∷ path) ++ closes

      n_there : 0 < occurs n w.forest
      n_there = passes_there is_drawn w.forest n p.0.kind

      one_more : closes ++ (Close ∷ []) ≡ replicate (length (n ∷ m ∷ path)) Close
      one_more = replicate_more (length (m ∷ path)) Close ∙ ap (λ i. replicate i Close) (let i : length (m ∷ path) + 1 ≡ suc (length (m ∷ path)) = omega arith in i)

      regrouped : (nodes_tokens w.forest ns ++ deeper) ++ (Close ∷ []) ≡ (nodes_tokens w.forest ns ++ head_tokens w offset (m ∷ path)) ++ replicate (length (n ∷ m ∷ path)) Close
      regrouped =
          append_assoc (nodes_tokens w.forest ns) deeper (Close ∷ [])
          ∙ ap (λ ts. nodes_tokens w.forest ns ++ ts) (append_assoc (head_tokens w offset (m ∷ path)) closes (Close ∷ []) ∙ ap (λ ts. head_tokens w offset (m ∷ path) ++ ts) one_more)
          ∙ sym (append_assoc (nodes_tokens w.forest ns) (head_tokens w offset (m ∷ path)) (replicate (length (n ∷ m ∷ path)) Close))

      filled : DrawsHead offset (m ∷ path) → (inner : ℕ) (x : World) → IsDrawing low x → Extends v x → IsHolder low x inner → ((y : ℕ) → 0 < occurs y v.forest → (y ≡ into → ⊥) → Keeps v x y) → Drew w moves low bad (n ∷ m ∷ path) x (head_into moves inner offset (m ∷ path) (children_into moves inner ns x)) inner (nodes_tokens w.forest ns ++ deeper)
      filled deep inner x dx ex kx keeps =
          let ewx = extends-then w v x e ex in
          let none : AreOld low bad [] = record { old = old; within = λ y z. refl } in
          let one = old-one low bad old n (r.in_bad n (hits-first n (m ∷ path))) in
          let rx = ready-later low bad [] none w v x into k.fresh e ex (λ y t ne z. keeps y t ne) (n ∷ m ∷ path) (head_nodes w offset (n ∷ m ∷ path)) (n ∷ m ∷ path) (head_nodes w offset (n ∷ m ∷ path)) (λ y. omega arith) (λ y h. refl) (λ y. omega arith) r in
          let here = rx.keeps n (hits-first n (m ∷ path)) in
          let listed : (c : ℕ) → 0 < hits c ns → 0 < hits c (head_nodes w offset (n ∷ m ∷ path)) = λ c h. let i = hits-append c ns (head_nodes w offset (m ∷ path)) in omega arith in
          let first = beside-drew n ns p.0 (r.in_bad n (hits-first n (m ∷ path))) (λ c. hits-up_to c m (children_of w.forest n)) (λ c h. r.aside c (listed c h)) inner x dx ewx kx here.children (λ c h. rx.stands c (listed c h)) in
          let u = children_into moves inner ns x in
          let ry = ready-later low bad (n ∷ []) one w x u inner kx.fresh ewx first.extends first.keeps (n ∷ m ∷ path) (head_nodes w offset (n ∷ m ∷ path)) (m ∷ path) (head_nodes w offset (m ∷ path)) (λ y. omega arith) (λ y h. apart-first n y (m ∷ path) r.once h) (λ y. let i = hits-append y ns (head_nodes w offset (m ∷ path)) in omega arith) rx in
          let second = deep inner u first.drawing (extends-then w x u ewx first.extends) (holder-extends low x u inner first.extends kx) ry in
          drew-then w moves low bad (n ∷ []) (m ∷ path) (old-ones low bad (m ∷ path) old ry.in_bad) x u (head_into moves inner offset (m ∷ path) u) inner (nodes_tokens w.forest ns) deeper kx.fresh (new-greater low x dx inner (passes_there may_be_parent x.forest inner kx.kind)) dx.begun first second
