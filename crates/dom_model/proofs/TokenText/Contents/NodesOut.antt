-- The text of a root where a node under it leaves its parent: the node's own tokens go.
use Rattle.std.proofs.Common.{◌≡◌, ℕ, suc, ◌+◌, ◌<◌, ◌≤◌, ◌==◌, nat_lt, false, if◌then◌else◌, List, [], ◌∷◌, ◌++◌, Option, Some, None, refl, ap, sym, ◌∙◌, subst, arith, append_assoc, append-nil, ⊎_elim, eq-eqb, inl, inr}
use Rattle.std.proofs.lemmas.Bool.{cases_lt, ne_eqb, cases_Bool}
use Rattle.dom_model.specs.Definitions.{Node, Forest, empty, node, occurs, tree_at, without, placed_root, cut, parent_of, Content, World, IsSound, remove, removed_from, remove_each, Token, Open, Close, no_marks, is_open, has_open, before_open, from_open, past_close, child_tokens, token_texts, text_among, root_text, Childless}
use Rattle.dom_model.proofs.PlainLists.Numbers.{same_or, same, apart}
use Rattle.dom_model.proofs.Forests.Totals.{without-absent}
use Rattle.dom_model.proofs.Soundness.SoundWorlds.{sound-remove}
use Rattle.dom_model.proofs.TokenText.{Pieces.TokenLists.opened, Pieces.TokenLists.tally-append, Pieces.TokenLists.has_open-none, Pieces.TokenLists.has_open-there, Pieces.TokenLists.before_open-skips, Pieces.TokenLists.from_open-skips, Pieces.TextParts.inside, Pieces.TextParts.own, Pieces.TextParts.own-then, Pieces.TextPieces.Closes, Pieces.TextPieces.Closes-inside, Pieces.TextPieces.past-node, Pieces.TextCounts.opened-children, Pieces.TextCounts.opened-own, Pieces.TextCounts.opened-texts, Pieces.TextContexts.no_data, Pieces.RootTexts.OnTop, Pieces.RootTexts.root-on_top, Pieces.RootTexts.texts-beside, AlikeTrees.TreesAlike.top_of, Marked.MarkedFirst.kinds-childless, Contents.TextTold.no_mark, Contents.DeletedUnits.among-tally, Contents.LeafPlaces.opened-around}

-- the text without the next tokens of a node
abbrev out_of : ℕ → List Token → List Token
out_of n ts = if has_open n ts then before_open n ts ++ past_close 0 (from_open n ts) else ts

out-there : (n : ℕ) (ahead inner behind : List Token) → opened n ahead ≡ 0 → Closes inner → out_of n (ahead ++ (Open n ∷ (inner ++ (Close ∷ behind)))) ≡ ahead ++ behind
out-there n ahead inner behind o c =
    let this = eq-eqb n n refl in
    let first : before_open n (ahead ++ (Open n ∷ (inner ++ (Close ∷ behind)))) ≡ ahead = before_open-skips n ahead (Open n ∷ (inner ++ (Close ∷ behind))) o ∙ (rw this (append-nil ahead)) in
    let from : from_open n (ahead ++ (Open n ∷ (inner ++ (Close ∷ behind)))) ≡ Open n ∷ (inner ++ (Close ∷ behind)) = from_open-skips n ahead (Open n ∷ (inner ++ (Close ∷ behind))) o ∙ (rw this refl) in
    rw (has_open-there n ahead (inner ++ (Close ∷ behind)), first, from) (ap (λ ts. ahead ++ ts) (past-node n inner behind c))

-- a node's own tokens go, or there are none
data Out (n : ℕ) (ts left : List Token) : Type 0 where
  none : opened n ts ≡ 0 → left ≡ ts → Out n ts left
  one : (ahead inner behind : List Token) → ts ≡ ahead ++ (Open n ∷ (inner ++ (Close ∷ behind))) → Closes inner → opened n ahead ≡ 0 → left ≡ ahead ++ behind → Out n ts left

out-is : (n : ℕ) (ts left : List Token) → Out n ts left → left ≡ out_of n ts
out-is n ts left (none o e) = let k = has_open-none n ts o in rw k e
out-is n ts left (one ahead inner behind s c o e) = e ∙ sym (out-there n ahead inner behind o c) ∙ ap (out_of n) (sym s)

out-within : (n : ℕ) (zs ts left ys : List Token) → opened n zs ≡ 0 → opened n ys ≡ 0 → Out n ts left → Out n (zs ++ (ts ++ ys)) (zs ++ (left ++ ys))
out-within n zs ts left ys a b (none o e) =
    none (let i = tally-append (is_open n) zs (ts ++ ys) in let j = tally-append (is_open n) ts ys in omega arith) (ap (λ us. zs ++ (us ++ ys)) e)
out-within n zs ts left ys a b (one ahead inner behind s c o e) =
    one (zs ++ ahead) inner (behind ++ ys)
    (ap (λ us. zs ++ (us ++ ys)) s ∙ (simp append_assoc))
    c (let i = tally-append (is_open n) zs ahead in omega arith)
    (ap (λ us. zs ++ (us ++ ys)) e ∙ (simp append_assoc))

out-same : (n : ℕ) (ts us left others : List Token) → ts ≡ us → left ≡ others → Out n ts left → Out n us others
out-same n ts us left others e d o = subst (λ vs. Out n vs others) e (subst (λ vs. Out n ts vs) d o)

children-anywhere : (m i j : ℕ) (f : Forest Content) → child_tokens no_marks m i f ≡ child_tokens no_marks m j f
children-anywhere m i j empty = refl
children-anywhere m i j (node x kids rest) = ap (λ ts. Open x.number ∷ (inside no_marks x kids ++ (Close ∷ ts))) (children-anywhere m (suc i) (suc j) rest)

module _ (n : ℕ) where
  -- a node's own tokens, where another goes that may be among its children
  out-own : (x : Node Content) (kids : Forest Content) → Childless (node x kids empty) → (x.number == n) ≡ false → (0 < occurs n kids → Out n (child_tokens no_marks x.number 0 kids) (child_tokens no_marks x.number 0 (without n kids))) → Out n (own no_marks x kids) (own no_marks x (without n kids))
  out-own x kids c t below =
      elim (cases_lt 0 (occurs n kids)) [
        | inl lt ↦ let v = no_data n x kids c.0 lt in out-within n (Open x.number ∷ []) (inside no_marks x kids) (inside no_marks x (without n kids)) (Close ∷ []) (rw t refl) refl (rw v (below lt))
        | inr le ↦ none (opened-own no_marks no_mark n x kids c ∙ (rw t (omega arith))) (ap (own no_marks x) (without-absent n kids (omega arith)))
      ]

  out-children : (m i : ℕ) (f : Forest Content) → ((k : ℕ) → occurs k f ≤ 1) → Childless f → Out n (child_tokens no_marks m i f) (child_tokens no_marks m i (without n f))
  out-children m i empty o c = none refl refl
  out-children m i (node x kids rest) o c =
      elim (same_or x.number n) [
        | same d t ↦
            let a = rw t at (o n) in
            let z : without n rest ≡ rest = without-absent n rest (omega arith) in
            rw (t, z) (one [] (inside no_marks x kids) (child_tokens no_marks m (suc i) rest) (ap (λ k. Open k ∷ (inside no_marks x kids ++ (Close ∷ child_tokens no_marks m (suc i) rest))) d) (Closes-inside no_marks no_mark x kids) refl (children-anywhere m i (suc i) rest))
        | apart ne t ↦
            let a = o n in
            ⊎_elim
            (λ (lt : 0 < occurs n kids).
            let z : without n rest ≡ rest = without-absent n rest (omega arith) in
            let below = out-own x kids (c.0, c.1, tt) t (λ _. out-children x.number 0 kids (λ k. let b = o k in omega arith) c.1) in
            let quiet : opened n (child_tokens no_marks m (suc i) rest) ≡ 0 = opened-children no_marks no_mark n m (suc i) rest c.2 ∙ (omega arith) in
            let whole = out-within n [] (own no_marks x kids) (own no_marks x (without n kids)) (child_tokens no_marks m (suc i) rest) refl quiet below in
            rw (t, z) (out-same n (own no_marks x kids ++ child_tokens no_marks m (suc i) rest) (child_tokens no_marks m i (node x kids rest)) (own no_marks x (without n kids) ++ child_tokens no_marks m (suc i) rest) (child_tokens no_marks m i (node x (without n kids) rest)) (sym (own-then no_marks x kids (child_tokens no_marks m (suc i) rest))) (sym (own-then no_marks x (without n kids) (child_tokens no_marks m (suc i) rest))) whole))
            (λ (le : occurs n kids ≤ 0).
            let z : without n kids ≡ kids = without-absent n kids (omega arith) in
            let quiet : opened n (own no_marks x kids) ≡ 0 = opened-own no_marks no_mark n x kids (c.0, c.1, tt) ∙ (rw t (omega arith)) in
            let later = out-children m (suc i) rest (λ k. let b = o k in omega arith) c.2 in
            let whole = out-within n (own no_marks x kids) (child_tokens no_marks m (suc i) rest) (child_tokens no_marks m (suc i) (without n rest)) [] quiet refl later in
            rw (t, z) (out-same n (own no_marks x kids ++ (child_tokens no_marks m (suc i) rest ++ [])) (child_tokens no_marks m i (node x kids rest)) (own no_marks x kids ++ (child_tokens no_marks m (suc i) (without n rest) ++ [])) (child_tokens no_marks m i (node x kids (without n rest)))
            (ap (λ ts. own no_marks x kids ++ ts) (append-nil (child_tokens no_marks m (suc i) rest)) ∙ sym (own-then no_marks x kids (child_tokens no_marks m (suc i) rest)))
            (ap (λ ts. own no_marks x kids ++ ts) (append-nil (child_tokens no_marks m (suc i) (without n rest))) ∙ sym (own-then no_marks x kids (child_tokens no_marks m (suc i) (without n rest))))
            whole))
            (cases_lt 0 (occurs n kids))
      ]

  -- the text of a root where a node goes
  out-texts : (root : ℕ) (f : Forest Content) → (root ≡ n → ⊥) → ((k : ℕ) → occurs k f ≤ 1) → Childless f → text_among root (token_texts no_marks (without n f)) ≡ out_of n (text_among root (token_texts no_marks f))
  out-texts root empty ne o c = refl
  out-texts root (node x kids rest) ne o c =
      let later = out-texts root rest ne (λ k. let b = o k in omega arith) c.2 in
      elim (same_or x.number n) [
        | same d t ↦ let far = ne_eqb x.number root (λ e. ne (sym e ∙ d)) in rw (t, far) later
        | apart na t ↦
            elim (same_or x.number root) [
              | same e v ↦ rw (t, v) (out-is n (own no_marks x kids) (own no_marks x (without n kids)) (out-own x kids (c.0, c.1, tt) t (λ _. out-children x.number 0 kids (λ k. let b = o k in omega arith) c.1)))
              | apart e v ↦ rw (t, v) later
            ]
      ]

  -- a root is in no other's text
  other-root : (root : ℕ) (f : Forest Content) → (root ≡ n → ⊥) → Childless f → OnTop n f → opened n (text_among root (token_texts no_marks f)) ≡ 0
  other-root root empty ne c h = refl
  other-root root (node x kids rest) ne c h =
      elim (same_or x.number root) [
        | same e t ↦
            let far : (x.number == n) ≡ false = ne_eqb x.number n (λ d. ne (sym e ∙ d)) in
            let z = h.0 in
            rw t (opened-own no_marks no_mark n x kids (c.0, c.1, tt) ∙ (rw far (omega arith)))
        | apart e t ↦ rw t (other-root root rest ne c.2 h.1)
      ]

  -- a tree put among the roots leaves the text of another
  placed-texts : (root : ℕ) (t f : Forest Content) → text_among root (token_texts no_marks t) ≡ [] → ((others : List (List Token)) → text_among root (token_texts no_marks t ++ others) ≡ text_among root others) → text_among root (token_texts no_marks (placed_root n t f)) ≡ text_among root (token_texts no_marks f)
  placed-texts root t empty h k = h
  placed-texts root t (node x kids rest) h k =
      elim (cases_Bool (nat_lt n x.number)) [
        | inl e ↦ rw e (ap (text_among root) (texts-beside no_marks t (node x kids rest)) ∙ k (token_texts no_marks (node x kids rest)))
        | inr e ↦ rw e (ap (λ (ts : List Token). if x.number == root then own no_marks x kids else ts) (placed-texts root t rest h k))
      ]

  pub cut-texts : (root : ℕ) (f : Forest Content) → (root ≡ n → ⊥) → ((k : ℕ) → occurs k f ≤ 1) → Childless f → 0 < occurs n f → text_among root (token_texts no_marks (cut n f)) ≡ out_of n (text_among root (token_texts no_marks f))
  cut-texts root f ne o c h =
      let t = top_of None n f o h in
      let far : (t.top.number == root) ≡ false = ne_eqb t.top.number root (λ e. ne (sym e ∙ t.named)) in
      placed-texts root (tree_at n f) (without n f) (rw t.at (rw far refl)) (λ others. rw t.at (rw far refl)) ∙ out-texts root f ne o c

-- the own tokens of a node go from among others
pub record Gone (n : ℕ) (ts left : List Token) : Type 0 where
  pub ahead : List Token
  pub inner : List Token
  pub behind : List Token
  pub is : ts ≡ ahead ++ (Open n ∷ (inner ++ (Close ∷ behind)))
  pub closes : Closes inner
  pub rest : left ≡ ahead ++ behind

-- the own tokens of nodes go, one after another
abbrev pub AllGone : List ℕ → List Token → List Token → Type 0
AllGone [] ts left = ts ≡ left
AllGone (n ∷ ns) ts left = (mid : List Token) × Gone n ts mid × AllGone ns mid left

pub gone-within : (n : ℕ) (zs ts left ys : List Token) → Gone n ts left → Gone n (zs ++ (ts ++ ys)) (zs ++ (left ++ ys))
gone-within n zs ts left ys g = record {
  ahead = zs ++ g.ahead;
  inner = g.inner;
  behind = g.behind ++ ys;
  is = ap (λ us. zs ++ (us ++ ys)) g.is ∙ (simp append_assoc);
  closes = g.closes;
  rest = ap (λ us. zs ++ (us ++ ys)) g.rest ∙ (simp append_assoc);
}

pub all_gone-within : (ns : List ℕ) (zs ts left ys : List Token) → AllGone ns ts left → AllGone ns (zs ++ (ts ++ ys)) (zs ++ (left ++ ys))
all_gone-within [] zs ts left ys g = ap (λ us. zs ++ (us ++ ys)) g
all_gone-within (n ∷ ns) zs ts left ys g = (zs ++ (g.0 ++ ys), gone-within n zs ts g.0 ys g.1, all_gone-within ns zs g.0 left ys g.2)

pub all_gone-then : (ns ms : List ℕ) (ts mid left : List Token) → AllGone ns ts mid → AllGone ms mid left → AllGone (ns ++ ms) ts left
all_gone-then [] ms ts mid left g h = subst (λ us. AllGone ms us left) (sym g) h
all_gone-then (n ∷ ns) ms ts mid left g h = (g.0, g.1, all_gone-then ns ms g.0 mid left g.2 h)

-- The steps on a world.

pub text-opens : (v : World) (root n : ℕ) → IsSound v → opened n (root_text v.forest root) ≤ occurs n v.forest
text-opens v root n s =
    let a = among-tally (is_open n) root (token_texts no_marks v.forest) in
    omega (arith, opened-texts no_marks no_mark n v.forest (kinds-childless None v.forest s.forest.kinds))

removed-text : (v : World) (root n : ℕ) (ahead left : List Token) → IsSound v → 0 < opened root ahead → (ts : List Token) → root_text v.forest root ≡ ahead ++ ts → Gone n ts left → root_text (remove false n v).forest root ≡ ahead ++ left
removed-text v root n ahead left s first ts e g = go (parent_of v.forest n) refl
  where
    alone : Childless v.forest
    alone = kinds-childless None v.forest s.forest.kinds

    text : root_text v.forest root ≡ (ahead ++ g.ahead) ++ (Open n ∷ (g.inner ++ (Close ∷ g.behind)))
    text = e ∙ ap (λ us. ahead ++ us) g.is ∙ sym (append_assoc ahead g.ahead (Open n ∷ (g.inner ++ (Close ∷ g.behind))))

    count : opened n (root_text v.forest root) ≡ opened n ahead + opened n g.ahead + (1 + opened n (g.inner ++ (Close ∷ g.behind)))
    count = omega (arith, ap (opened n) text ∙ opened-around n (ahead ++ g.ahead) (g.inner ++ (Close ∷ g.behind)), tally-append (is_open n) ahead g.ahead)

    other : root ≡ n → ⊥
    other d =
        let a : 0 < opened n ahead = subst (λ m. 0 < opened m ahead) d first in
        omega (arith, count, text-opens v root n s, s.forest.once n)

    there : 0 < occurs n v.forest
    there = let b = count in let c = text-opens v root n s in omega arith

    free : opened n (ahead ++ g.ahead) ≡ 0
    free = let b = count in let c = text-opens v root n s in let o = s.forest.once n in let d = tally-append (is_open n) ahead g.ahead in omega arith

    go : (p : Option ℕ) → parent_of v.forest n ≡ p → root_text (removed_from false n p v).forest root ≡ ahead ++ left
    go None q = absurd (let z = other-root n root v.forest other alone (root-on_top n v.forest s.forest.once q) in let b = count in omega arith)
    go (Some p) q =
        cc (cut-texts n root v.forest other s.forest.once alone there, text, out-there n (ahead ++ g.ahead) g.inner g.behind free g.closes, append_assoc ahead g.ahead g.behind)

-- the text of a root where nodes behind its open leave their parents
pub removed-texts : (ns : List ℕ) (v : World) (root : ℕ) (ahead ts left : List Token) → IsSound v → 0 < opened root ahead → root_text v.forest root ≡ ahead ++ ts → AllGone ns ts left → root_text (remove_each ns v).forest root ≡ ahead ++ left
removed-texts [] v root ahead ts left s first e g = e ∙ ap (λ us. ahead ++ us) g
removed-texts (n ∷ ns) v root ahead ts left s first e g =
    removed-texts ns (remove false n v) root ahead g.0 left (sound-remove false n v s) first (removed-text v root n ahead g.0 s first ts e g.1) g.2
