-- The tree of a root: its text, without markers and with them, and its nodes among those of the forest.
use Rattle.std.proofs.Common.{◌≡◌, ℕ, suc, ◌+◌, ◌<◌, ◌≤◌, ◌==◌, true, false, List, [], ◌∷◌, ◌++◌, map, Option, Some, None, refl, ap, sym, ◌∙◌, subst, arith, append_assoc, ⊎_elim, eq-eqb, inl, inr}
use Rattle.std.proofs.lemmas.{Bool.false≢true, Bool.cases_lt, Bool.cond_both, Bool.Decides.nat_tests, Bool.cases_Bool, Bool.ne_eqb}
use Rattle.dom_model.specs.Definitions.{hits, last_of, is_character_data, Entry, Node, Forest, empty, node, occurs, tops, numbers, entry_in, root_of, Lies, Content, Point, World, is_of_kind, content_in, data_of, Token, Open, Close, no_marks, unit_tokens, child_tokens, token_texts, text_among, Childless}
use Rattle.dom_model.specs.declared.Kind.TheVariants.{Text}
use Rattle.dom_model.proofs.PlainLists.Numbers.{same_or, same, apart}
use Rattle.dom_model.proofs.Forests.{Tops.hits-tops, Climbing.ancestors-absent, Lots.lot, Lots.on_top, Lots.beneath, Lots.elsewhere, Lots.at_top, Lots.under_top, Lots.root-top, Lots.root-elsewhere, Lots.root-listed, TreeOrder.Flattened.hits-numbers, Climbing.hits-append}
use Rattle.dom_model.proofs.TokenText.{Pieces.TextParts.inside, Pieces.TextParts.own, Pieces.TextParts.own-then, Contents.Dressed.dressed, Contents.BetweenGaps.NoMarks, Contents.BetweenGaps.NoMarks-append, Contents.TextTold.no_text-kind}

-- Texts without markers.

no_marks-units : (n i : ℕ) (us : List ℕ) → NoMarks (unit_tokens no_marks n i us)
no_marks-units n i [] = tt
no_marks-units n i (u ∷ us) = (refl, no_marks-units n (suc i) us)

no_marks-inside : (x : Node Content) (kids : Forest Content) → NoMarks (child_tokens no_marks x.number 0 kids) → NoMarks (inside no_marks x kids)
no_marks-inside x kids below = cond_both (is_character_data x.label.kind) _ _ NoMarks (λ _. no_marks-units x.number 0 x.body.text) (λ _. below)

no_marks-children : (n i : ℕ) (f : Forest Content) → NoMarks (child_tokens no_marks n i f)
no_marks-children n i empty = tt
no_marks-children n i (node x kids rest) = (
  refl,
  NoMarks-append (inside no_marks x kids) (Close ∷ child_tokens no_marks n (suc i) rest) (no_marks-inside x kids (no_marks-children x.number 0 kids)) (refl, no_marks-children n (suc i) rest),
)

pub no_marks-own : (x : Node Content) (kids : Forest Content) → NoMarks (own no_marks x kids)
no_marks-own x kids =
    (refl, NoMarks-append (inside no_marks x kids) (Close ∷ []) (no_marks-inside x kids (no_marks-children x.number 0 kids)) (refl, tt))

-- the marked text of a root is its text with the markers put in
pub dressed-among : (marks : Point → List Token) (root : ℕ) (texts : List (List Token)) → text_among root (map (dressed marks []) texts) ≡ dressed marks [] (text_among root texts)
dressed-among marks root [] = refl
dressed-among marks root ([] ∷ texts) = dressed-among marks root texts
dressed-among marks root ((t ∷ ts) ∷ texts) = grind (arith, dressed-among marks root texts)

-- A node with data stands in the text of a tree, with its units.

pub record HasData (n : ℕ) (us : List ℕ) (ts : List Token) : Type 0 where
  pub ahead : List Token
  pub behind : List Token
  pub whole : ts ≡ ahead ++ (Open n ∷ (unit_tokens no_marks n 0 us ++ (Close ∷ behind)))

has_data-left : (n : ℕ) (us : List ℕ) (xs ys : List Token) → HasData n us xs → HasData n us (xs ++ ys)
has_data-left n us xs ys h = record {
  ahead = h.ahead;
  behind = h.behind ++ ys;
  whole = ap (λ ts. ts ++ ys) h.whole ∙ (simp append_assoc);
}

has_data-right : (n : ℕ) (us : List ℕ) (xs ys : List Token) → HasData n us ys → HasData n us (xs ++ ys)
has_data-right n us xs ys h = record {
  ahead = xs ++ h.ahead;
  behind = h.behind;
  whole = ap (λ ts. xs ++ ts) h.whole ∙ sym (append_assoc xs h.ahead (Open n ∷ (unit_tokens no_marks n 0 us ++ (Close ∷ h.behind))));
}

module _ (w : World) (n : ℕ) (is_text : is_of_kind Text w.forest n ≡ true) where
  data-own : (q : Option ℕ) (x : Node Content) (kids : Forest Content) → entry_in w.forest x.number ≡ Some (record { value = x; parent = q; children = tops kids }) → (is_character_data x.label.kind ≡ true → kids ≡ empty) → (0 < occurs n kids → HasData n (data_of w n) (child_tokens no_marks x.number 0 kids)) → 0 < occurs n (node x kids empty) → HasData n (data_of w n) (own no_marks x kids)
  data-own q x kids entry alone below h =
      elim (cases_Bool (is_character_data x.label.kind)) [
        | inl v ↦
            elim (same_or x.number n) [
              | same d t ↦
                  let data_is : data_of w x.number ≡ x.body.text = ap (λ (o : Option (Entry (Node Content))). (content_in o).text) entry in
                  rw v (subst (λ m. HasData m (data_of w m) (Open x.number ∷ (unit_tokens no_marks x.number 0 x.body.text ++ (Close ∷ [])))) d
                  (record { ahead = []; behind = []; whole = ap (λ us. Open x.number ∷ (unit_tokens no_marks x.number 0 us ++ (Close ∷ []))) (sym data_is) }))
              | apart ne t ↦ absurd (let k = rw t at h in let e = alone v in let z = rw e at k in omega arith)
            ]
        | inr v ↦
            let kind : is_of_kind Text w.forest x.number ≡ false = rw entry (no_text-kind x.label.kind v) in
            let other : (x.number == n) ≡ false = ne_eqb x.number n (λ d. false≢true (sym kind ∙ subst (λ m. is_of_kind Text w.forest m ≡ true) (sym d) is_text)) in
            let k = rw other at h in
            rw v (has_data-right n (data_of w n) (Open x.number ∷ []) (child_tokens no_marks x.number 0 kids ++ (Close ∷ []))
            (has_data-left n (data_of w n) (child_tokens no_marks x.number 0 kids) (Close ∷ []) (below (omega arith))))
      ]

  data-children : (q : Option ℕ) (m i : ℕ) (f : Forest Content) → Lies (entry_in w.forest) q f → Childless f → 0 < occurs n f → HasData n (data_of w n) (child_tokens no_marks m i f)
  data-children q m i empty lies alone h = absurd (omega arith)
  data-children q m i (node x kids rest) lies alone h =
      subst (HasData n (data_of w n)) (sym (own-then no_marks x kids (child_tokens no_marks m (suc i) rest)))
      (⊎_elim
      (λ (lt : 0 < occurs n (node x kids empty)).
      has_data-left n (data_of w n) (own no_marks x kids) (child_tokens no_marks m (suc i) rest)
      (data-own q x kids lies.0 alone.0 (λ k. data-children (Some x.number) x.number 0 kids lies.1 alone.1 k) lt))
      (λ (ge : occurs n (node x kids empty) ≤ 0).
      has_data-right n (data_of w n) (own no_marks x kids) (child_tokens no_marks m (suc i) rest) (data-children q m (suc i) rest lies.2 alone.2 (omega arith)))
      (cases_lt 0 (occurs n (node x kids empty))))

  pub data-found : (q : Option ℕ) (x : Node Content) (kids : Forest Content) → entry_in w.forest x.number ≡ Some (record { value = x; parent = q; children = tops kids }) → Lies (entry_in w.forest) (Some x.number) kids → (is_character_data x.label.kind ≡ true → kids ≡ empty) → Childless kids → 0 < occurs n (node x kids empty) → HasData n (data_of w n) (own no_marks x kids)
  data-found q x kids entry lies alone less h = data-own q x kids entry alone (λ k. data-children (Some x.number) x.number 0 kids lies less k) h

-- the tree of a root among the trees of a forest
pub record TreeOf (at : ℕ → Option (Entry (Node Content))) (root : ℕ) (f : Forest Content) : Type 0 where
  pub top : Node Content
  pub kids : Forest Content
  pub text : text_among root (token_texts no_marks f) ≡ own no_marks top kids
  pub entry : at top.number ≡ Some (record { value = top; parent = None; children = tops kids })
  pub lies : Lies at (Some top.number) kids
  pub alone : is_character_data top.label.kind ≡ true → kids ≡ empty
  pub less : Childless kids
  pub once : (m : ℕ) → occurs m (node top kids empty) ≤ 1
  pub inside : (m : ℕ) → 0 < occurs m (node top kids empty) → root_of f m ≡ Some root
  pub within : (m : ℕ) → root_of f m ≡ Some root → 0 < occurs m (node top kids empty)
  pub ahead : List ℕ
  pub behind : List ℕ
  pub listed : numbers f ≡ ahead ++ ((top.number ∷ numbers kids) ++ behind)
  pub not_ahead : (m : ℕ) → 0 < hits m ahead → root_of f m ≡ Some root → ⊥
  pub not_behind : (m : ℕ) → 0 < hits m behind → root_of f m ≡ Some root → ⊥

pub tree_of_root : (at : ℕ → Option (Entry (Node Content))) (root : ℕ) (f : Forest Content) → ((m : ℕ) → occurs m f ≤ 1) → Lies at None f → Childless f → 0 < hits root (tops f) → TreeOf at root f
tree_of_root at root empty o lies alone h = absurd (omega arith)
tree_of_root at root (node x kids rest) o lies alone h =
    elim (same_or x.number root) [
      | same e t ↦ first e t
      | apart ne t ↦ (let k = rw t at h in later ne t (tree_of_root at root rest (λ m. let i = o m in omega arith) lies.2 alone.2 (omega arith)))
    ]
  where
    -- a node of the first tree has its top as root, and any other node the root that it has among the rest
    in_first : (m : ℕ) → 0 < occurs m (node x kids empty) → root_of (node x kids rest) m ≡ Some x.number
    in_first m k =
        elim (lot m x kids) [
          | on_top d ↦ root-top m x kids rest (at_top d)
          | beneath ne j ↦ root-top m x kids rest (under_top ne j)
          | elsewhere ne z ↦ absurd (grind (arith, nat_tests))
        ]

    in_rest : (m : ℕ) → occurs m (node x kids empty) ≡ 0 → root_of (node x kids rest) m ≡ root_of rest m
    in_rest m z =
        root-elsewhere m x kids rest (λ d. (let i = rw (eq-eqb x.number m d) at z in absurd (omega arith))) (omega arith)

    first : x.number ≡ root → (x.number == root) ≡ true → TreeOf at root (node x kids rest)
    first e t = record {
      top = x;
      kids = kids;
      text = rw t refl;
      entry = lies.0;
      lies = lies.1;
      alone = alone.0;
      less = alone.1;
      once = λ m. let i = o m in omega arith;
      inside = λ m k. in_first m k ∙ ap (λ i. Some i) e;
      within = λ m r. let not_none : occurs m (node x kids empty) ≡ 0 → ⊥ = λ z. beyond e t m (sym (in_rest m z) ∙ r) in omega arith;
      ahead = [];
      behind = numbers rest;
      listed = refl;
      not_ahead = λ m k r. absurd (omega arith);
      not_behind = λ m k r.
          let i = o m in
          let j = hits-numbers m rest in
          beyond e t m (sym (in_rest m (omega arith)) ∙ r);
    }
      where
        beyond : x.number ≡ root → (x.number == root) ≡ true → (m : ℕ) → root_of rest m ≡ Some root → ⊥
        beyond e t m r =
            let j = root-listed m root rest r in
            let i = o root in
            let u = rw t at i in
            omega (arith, hits-tops root rest)

    later : (x.number ≡ root → ⊥) → (x.number == root) ≡ false → TreeOf at root rest → TreeOf at root (node x kids rest)
    later ne t i = record {
      top = i.top;
      kids = i.kids;
      text = rw t i.text;
      entry = i.entry;
      lies = i.lies;
      alone = i.alone;
      less = i.less;
      once = i.once;
      inside = λ m k. in_rest m (rest_only m (there m (i.inside m k))) ∙ i.inside m k;
      within = λ m r. i.within m (not_first ne m r);
      ahead = (x.number ∷ numbers kids) ++ i.ahead;
      behind = i.behind;
      listed =
          ap (λ ns. (x.number ∷ numbers kids) ++ ns) i.listed
          ∙ sym (append_assoc (x.number ∷ numbers kids) i.ahead ((i.top.number ∷ numbers i.kids) ++ i.behind));
      not_ahead = λ m k r.
          let s = not_first ne m r in
          let z = rest_only m (there m s) in
          let c = hits-append m (x.number ∷ numbers kids) i.ahead in
          let n = hits-numbers m kids in
          i.not_ahead m (only_ahead m z k) s;
      not_behind = λ m k r. i.not_behind m k (not_first ne m r);
    }
      where
        not_first : (x.number ≡ root → ⊥) → (m : ℕ) → root_of (node x kids rest) m ≡ Some root → root_of rest m ≡ Some root
        not_first ne m r =
            let none : 0 < occurs m (node x kids empty) → ⊥ = λ lt. ne (let s : Some x.number ≡ Some root = sym (in_first m lt) ∙ r in cc s) in
            sym (in_rest m (omega arith)) ∙ r

        there : (m : ℕ) → root_of rest m ≡ Some root → 0 < occurs m rest
        there m r =
            let not_none : occurs m rest ≡ 0 → ⊥ = λ z. (let s : None ≡ Some root = sym (ap last_of (ancestors-absent m rest z)) ∙ r in cc s) in
            omega arith

        rest_only : (m : ℕ) → 0 < occurs m rest → occurs m (node x kids empty) ≡ 0
        rest_only m k = let j = o m in omega arith

        only_ahead : (m : ℕ) → occurs m (node x kids empty) ≡ 0 → 0 < hits m ((x.number ∷ numbers kids) ++ i.ahead) → 0 < hits m i.ahead
        only_ahead m z k = let c = hits-append m (numbers kids) i.ahead in let n = hits-numbers m kids in omega arith
