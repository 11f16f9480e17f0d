-- A forest stays one as trees are cut, put, made, changed and taken away.
use Rattle.std.proofs.Common.{◌≡◌, ℕ, suc, ◌<◌, ◌≤◌, true, false, List, [], ◌∷◌, ◌++◌, Option, Some, None, is_some, refl, ap, sym, ◌∙◌, subst, arith, ⊎_elim, Bool}
use Rattle.std.proofs.lemmas.Bool.{cases_lt, false≢true}
use Rattle.dom_model.specs.Definitions.{hits, Entry, parent_in, is_kind, is_character_data, may_be_parent, may_stand_in, may_stand_under, Node, Forest, empty, node, occurs, one_at, tops, beside, tree_at, without, cut, put, entry_in, parent_of, children_of, IsRising, KindsFit, IsForest, Content, entry_has, kind_passes, Lies, may_stand_at}
use Rattle.dom_model.specs.declared.{Kind.Kind, Kind.TheVariants.Element, Kind.TheVariants.Document, Kind.TheVariants.DocumentType, Kind.TheVariants.DocumentFragment}
use Rattle.dom_model.proofs.PlainLists.Numbers.{same_or, same, apart}
use Rattle.dom_model.proofs.Forests.{Changes.seen, Changes.nothing, Changes.just, Totals.total-beside, Totals.total-tree_at, Totals.total-cut, Totals.total-put, Totals.occurs-without, Tops.IsRising-from, Tops.IsRising-left_out, Tops.IsRising-placed_root, Tops.tops-beside, Tops.tops-without, Tops.tops-placed_under, Tops.tops-tree_at, Tops.hits-tops, Lying.Lies-without_root, Climbing.hits-first, Entries.Lies-entry_in, Entries.HasNode-occurs, Indices.child-parent, Indices.child-there, Paths.parent-path, KindsFitting.KindsFit-beside, KindsFitting.KindsFit-cut, KindsFitting.KindsFit-without, KindsFitting.KindsFit-under, KindsFitting.KindsFit-placed_under}
use Rattle.dom_model.proofs.Worlds.SameShape.{IsAlike, occurs-alike, tops-alike, fits-alike}

abbrev pub IsWood : Forest Content → ℕ → Type 0
IsWood f made = IsForest {X = Content} (record { forest = f; made = made })

-- Kinds.

document_kind : (k : Kind) → is_kind k Document ≡ true → may_be_parent k ≡ true
document_kind Element h = refl
document_kind Document h = refl
document_kind DocumentFragment h = refl
document_kind k h = absurd (false≢true h)

-- only a node that may be a parent has a child
pub parent_kind : (parent child : Kind) → may_stand_in parent child ≡ true → may_be_parent parent ≡ true
parent_kind parent Document h = absurd (false≢true h)
parent_kind parent DocumentType h = document_kind parent h
parent_kind parent DocumentFragment h = absurd (false≢true h)
parent_kind parent child h = h

-- it has no data, and is no doctype
pub parent_no_data : (k : Kind) → may_be_parent k ≡ true → is_character_data k ≡ false
parent_no_data Element h = refl
parent_no_data k h = cc

pub parent_no_doctype : (k : Kind) → may_be_parent k ≡ true → is_kind DocumentType k ≡ false
parent_no_doctype DocumentType h = absurd (false≢true h)
parent_no_doctype k h = refl

-- what the kinds tell that pass a test
pub passes-also : (test other : Kind → Bool) (v : Bool) → ((k : Kind) → test k ≡ true → other k ≡ v) → (f : Forest Content) (n : ℕ) → kind_passes test f n ≡ true → kind_passes other f n ≡ v
passes-also test other v tells f n h = go (entry_in f n) h
  where
    go : (o : Option (Entry (Node Content))) → entry_has test o ≡ true → entry_has other o ≡ v
    go None k = absurd (false≢true k)
    go (Some e) k = tells e.value.label.kind k

pub entry_there : (f : Forest Content) (n : ℕ) → 0 < occurs n f → (e : Entry (Node Content)) × (entry_in f n ≡ Some e)
entry_there f n h =
    elim (seen (entry_in f n)) [
      | nothing e ↦ absurd (let k : is_some (entry_in f n) ≡ true = HasNode-occurs f n h in let j = rw e at k in false≢true j)
      | just a e ↦ (a, e)
    ]

value_same : (d e : Entry (Node Content)) → Some d ≡ Some e → d.value ≡ e.value
value_same d e i = let k : d ≡ e = cc i in ap (λ (x : Entry (Node Content)). x.value) k

fitting : (at : (ℕ → Option (Entry (Node Content)))) (n p : ℕ) (e above : Entry (Node Content)) → at n ≡ Some e → e.parent ≡ Some p → at p ≡ Some above →
    (q : Option ℕ) (k : Option Kind) (f : Forest Content) → Lies at q f → KindsFit k f → (q ≡ Some p → k ≡ Some above.value.label.kind) → 0 < occurs n f → may_stand_in above.value.label.kind e.value.label.kind ≡ true
fitting at n p e above en ep ea q k empty l w top h = absurd (omega arith)
fitting at n p e above en ep ea q k (node x kids rest) l w top h =
    elim (same_or x.number n) [
      | same d t ↦
          let i : Some e ≡ Some (record { value = x; parent = q; children = tops kids }) = sym en ∙ sym (ap at d) ∙ l.0 in
          let j : q ≡ Some p = sym (ap parent_in i) ∙ ep in
          let u = subst (λ (m : Option Kind). may_stand_under m x.label.kind ≡ true) (top j) w.0 in
          subst (λ (y : Node Content). may_stand_in above.value.label.kind y.label.kind ≡ true) (sym (value_same e _ i)) u
      | apart ne t ↦
          let j = rw t at h in
          ⊎_elim
          (λ (lt : 0 < occurs n kids). fitting at n p e above en ep ea (Some x.number) (Some x.label.kind) kids l.1 w.1 inner lt)
          (λ (le : occurs n kids ≤ 0). fitting at n p e above en ep ea q k rest l.2 w.2 top (omega arith))
          (cases_lt 0 (occurs n kids))
    ]
  where
    inner : Some x.number ≡ Some p → Some x.label.kind ≡ Some above.value.label.kind
    inner d =
        let j : x.number ≡ p = cc d in
        let i : Some above ≡ Some (record { value = x; parent = q; children = tops kids }) = sym ea ∙ sym (ap at j) ∙ l.0 in
        ap (λ (y : Node Content). Some y.label.kind) (sym (value_same above _ i))

module _ {f : Forest Content} {made : ℕ} (s : IsWood f made) where
  -- a child stands where its kind may
  pub child-fits : (c p : ℕ) → parent_of f c ≡ Some p → 0 < occurs c f → may_stand_at f p c ≡ true
  child-fits c p e h =
      let a = entry_there f c h in
      let b = entry_there f p (parent-path f s.once c p h e).0 in
      let d : a.0.parent ≡ Some p = sym (ap parent_in a.1) ∙ e in
      rw (a.1, b.1) (fitting (entry_in f) c p a.0 b.0 a.1 d b.1 None None f (Lies-entry_in f s.once) s.kinds (λ i. absurd (cc i)) h)

  pub parent-passes : (c p : ℕ) → parent_of f c ≡ Some p → 0 < occurs c f → kind_passes may_be_parent f p ≡ true
  parent-passes c p e h =
      let a = entry_there f c h in
      let b = entry_there f p (parent-path f s.once c p h e).0 in
      let k = rw (a.1, b.1) at (child-fits c p e h) in
      rw b.1 (parent_kind b.0.value.label.kind a.0.value.label.kind k)

  -- a node with data has no children
  pub data-childless : (n : ℕ) → kind_passes is_character_data f n ≡ true → children_of f n ≡ []
  data-childless n h = go (children_of f n) refl
    where
      go : (ns : List ℕ) → children_of f n ≡ ns → children_of f n ≡ []
      go [] e = e
      go (c ∷ cs) e =
          let k : 0 < hits c (children_of f n) = rw e (hits-first c cs) in
          let p = parent-passes c n (child-parent f s.once c n k) (child-there f s.once c n k) in
          absurd (contrary (entry_in f n) p h)
        where
          contrary : (o : Option (Entry (Node Content))) → entry_has may_be_parent o ≡ true → entry_has is_character_data o ≡ true → ⊥
          contrary None p d = false≢true p
          contrary (Some a) p d = false≢true (sym (parent_no_data a.value.label.kind p) ∙ d)

  -- Changes of the forest.

  pub IsWood-alike : {g : Forest Content} → IsAlike f g → IsWood g made
  IsWood-alike a =
      record {
        once = λ n. subst (λ k. k ≤ 1) (sym (occurs-alike a n)) (s.once n);
        small = λ n l. occurs-alike a n ∙ s.small n l;
        rising = subst (λ ns. IsRising 0 ns) (sym (tops-alike a)) s.rising;
        kinds = fits-alike a s.kinds;
      }

  pub IsWood-cut : (c : ℕ) → 0 < occurs c f → IsWood (cut c f) made
  IsWood-cut c h =
      record {
        once = λ n. subst (λ k. k ≤ 1) (sym (total-cut (one_at n) c f)) (s.once n);
        small = λ n l. total-cut (one_at n) c f ∙ s.small n l;
        rising = IsRising-placed_root 0 c (tree_at c f) (without c f) (tops-tree_at c f (let k = s.once c in omega arith)) (omega arith) (omega (arith, hits-tops c (without c f), occurs-without c f)) (rw (tops-without c f) (IsRising-left_out 0 c (tops f) s.rising));
        kinds = KindsFit-cut c f s.kinds;
      }

  pub IsWood-put : (p c : ℕ) (b : Option ℕ) → 0 < occurs p f → 0 < occurs c f → parent_of f c ≡ None → occurs p (tree_at c f) ≡ 0 → may_stand_at f p c ≡ true → IsWood (put p c b f) made
  IsWood-put p c b hp hc r z k =
      let whole : occurs p (without c f) ≡ 1 = (let o = s.once p in let t = total-tree_at (one_at p) c f in omega arith) in
      let ec = entry_there f c hc in
      let ep = entry_there f p hp in
      let m = rw (ec.1, ep.1) at k in
      let lies = Lies-entry_in f s.once in
      record {
        once = λ n. subst (λ k. k ≤ 1) (sym (total-put (one_at n) p c b f whole)) (s.once n);
        small = λ n l. total-put (one_at n) p c b f whole ∙ s.small n l;
        rising = rw (tops-placed_under p b (tree_at c f) (without c f), tops-without c f) (IsRising-left_out 0 c (tops f) s.rising);
        kinds =
            KindsFit-placed_under (entry_in f) p ep.0 b (tree_at c f) ep.1
            (KindsFit-under (entry_in f) c ec.0 ep.0.value.label.kind ec.1 m None None f lies s.kinds)
            None None (without c f) (Lies-without_root (entry_in f) c r f lies) (KindsFit-without None c f s.kinds);
      }

  -- trees with new numbers come in last
  pub IsWood-beside : (g : Forest Content) (more : ℕ) → made ≤ more → ((n : ℕ) → occurs n g ≤ 1) → ((n : ℕ) → n < made → occurs n g ≡ 0) → ((n : ℕ) → more ≤ n → occurs n g ≡ 0) → IsRising made (tops g) → KindsFit None g → IsWood (beside f g) more
  IsWood-beside g more m once old new rising kinds =
      record {
        once = λ n. let t = total-beside (one_at n) f g in
            grind (arith, old n, s.small n, s.once n, once n);
        small = λ n l. let t = total-beside (one_at n) f g in let z = s.small n (omega arith) in let k = new n l in omega arith;
        rising = rw (tops-beside f g) (risen 0 (tops f) (omega arith) s.rising (λ n h. below n h));
        kinds = KindsFit-beside None f g s.kinds kinds;
      }
    where
      below : (n : ℕ) → 0 < hits n (tops f) → n < made
      below n h = grind (arith, s.small n, hits-tops n f)

      risen : (low : ℕ) (ns : List ℕ) → low ≤ made → IsRising low ns → ((n : ℕ) → 0 < hits n ns → n < made) → IsRising low (ns ++ tops g)
      risen low [] l r h = IsRising-from made low (tops g) l rising
      risen low (n ∷ ns) l r h = (r.0, risen (suc n) ns (h n (hits-first n ns)) r.1 (λ m k. h m (omega arith)))

  -- a root goes with its tree
  pub IsWood-without : (n : ℕ) → IsWood (without n f) made
  IsWood-without n =
      record {
        once = λ m. let t = total-tree_at (one_at m) n f in let k = s.once m in omega arith;
        small = λ m l. let t = total-tree_at (one_at m) n f in let k = s.small m l in omega arith;
        rising = rw (tops-without n f) (IsRising-left_out 0 n (tops f) s.rising);
        kinds = KindsFit-without None n f s.kinds;
      }
