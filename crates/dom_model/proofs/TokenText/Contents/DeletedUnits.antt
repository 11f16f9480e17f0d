-- Deleting the contents of a live range within one node with data leaves of the text what is to be left: the units between its markers go.
use Rattle.std.proofs.Common.{◌≡◌, ℕ, zero, suc, ◌+◌, ◌<◌, ◌≤◌, Bool, true, List, [], ◌∷◌, ◌++◌, length, take, drop, Option, None, option_map, slice_index_or, refl, ap, sym, ◌∙◌, arith, append_assoc, ◌⊎◌, inl, inr, ◌-◌}
use Rattle.std.proofs.lemmas.{Bool.false≢true, List.take-append-drop, Bool.cases_Bool, List.drop-drop, List.drop_at, List.take_at}
use Rattle.dom_model.specs.Definitions.{is_character_data, node_length, unit_count, Entry, Node, Forest, empty, node, occurs, with_node, entry_in, Content, Point, Range, World, moved_range, map_ranges, kind_passes, content_in, data_of, with_data, Token, is_open, Open, Close, OneUnit, no_marks, unit_tokens, token_texts, is_root_text, text_among, root_text, Childless}
use Rattle.dom_model.proofs.Forests.Changes.{seen, nothing, just}
use Rattle.dom_model.proofs.TokenText.{AlikeTrees.TreesAlike.top_of, Marked.MarkedSplice.with_root-node, Pieces.TokenLists.tally, Pieces.TokenLists.tallies, Pieces.TokenLists.tallies-append, Pieces.TokenLists.opened, Pieces.TextParts.inside, Pieces.TextContexts.with_root-itself, Pieces.TextContexts.around_texts, Pieces.TextCounts.opened-texts, Contents.TextTold.no_mark, Contents.LeafPlaces.opened-around}
use Rattle.dom_model.proofs.Worlds.Measured.{data_kind}

-- The text of a root in which a node's text changes is its text with that change, if the root's text opens the node.

pub among-tally : (test : Token → Bool) (root : ℕ) (texts : List (List Token)) → tally test (text_among root texts) ≤ tallies test texts
among-tally test root [] = omega arith
among-tally test root (text ∷ texts) = grind (arith, among-tally test root texts)

pub among-changed : (test : Token → Bool) (root : ℕ) (above : List (List Token)) (text other : List Token) (below : List (List Token)) → is_root_text root other ≡ is_root_text root text → ((text_among root (above ++ (text ∷ below)) ≡ text) × (text_among root (above ++ (other ∷ below)) ≡ other)) ⊎ (tally test (text_among root (above ++ (text ∷ below))) ≤ tallies test above + tallies test below)
among-changed test root [] text other below e =
    elim (cases_Bool (is_root_text root text)) [
      | inl h ↦ inl (rw h refl, rw (e, h) refl)
      | inr h ↦ inr (let i = among-tally test root below in rw h (omega arith))
    ]
among-changed test root (first ∷ above) text other below e =
    elim (cases_Bool (is_root_text root first)) [
      | inl h ↦ inr (rw h (omega arith))
      | inr h ↦ elim (among-changed test root above text other below e) [ inl i ↦ inl (rw h i.0, rw h i.1) | inr i ↦ inr (rw h (omega arith)) ]
    ]

-- the text that opens a node is among them
pub among-found : (f : Forest Content) (root n : ℕ) → ((m : ℕ) → occurs m f ≤ 1) → Childless f → 0 < opened n (root_text f root) → (above : List (List Token)) (ahead behind : List Token) (below : List (List Token)) → token_texts no_marks f ≡ above ++ ((ahead ++ (Open n ∷ behind)) ∷ below) → tally (is_open n) (text_among root (above ++ ((ahead ++ (Open n ∷ behind)) ∷ below))) ≤ tallies (is_open n) above + tallies (is_open n) below → ⊥
among-found f root n once alone there above ahead behind below e k =
    let one = opened-around n ahead behind in
    let all = tallies-append (is_open n) above ((ahead ++ (Open n ∷ behind)) ∷ below) in
    let sum : tallies (is_open n) (token_texts no_marks f) ≡ occurs n f = opened-texts no_marks no_mark n f alone in
    let same_sum = ap (tallies (is_open n)) e in
    let found : opened n (root_text f root) ≡ tally (is_open n) (text_among root (above ++ ((ahead ++ (Open n ∷ behind)) ∷ below))) = ap (λ ts. opened n (text_among root ts)) e in
    omega (arith, once n)

same-first : (root : ℕ) (pre : List Token) (n : ℕ) (xs ys : List Token) → is_root_text root (pre ++ (Open n ∷ xs)) ≡ is_root_text root (pre ++ (Open n ∷ ys))
same-first root [] n xs ys = refl
same-first root (t ∷ pre) n xs ys = refl

-- a node with data in the text of its root, and that text with other data in the node
pub record DataThere (f : Forest Content) (root n : ℕ) (us : List ℕ) : Type 0 where
  pub ahead : List Token
  pub behind : List Token
  pub now : root_text f root ≡ ahead ++ (Open n ∷ (unit_tokens no_marks n 0 us ++ (Close ∷ behind)))
  pub changed : (vs : List ℕ) → root_text (with_node n (with_data vs) f) root ≡ ahead ++ (Open n ∷ (unit_tokens no_marks n 0 vs ++ (Close ∷ behind)))

pub data-there : (w : World) (root n : ℕ) → ((m : ℕ) → occurs m w.forest ≤ 1) → Childless w.forest → 0 < occurs n w.forest → kind_passes is_character_data w.forest n ≡ true → 0 < opened n (root_text w.forest root) → DataThere w.forest root n (data_of w n)
data-there w root n once alone h kind there =
    let t = top_of None n w.forest once h in
    let a = around_texts no_marks n (node t.top t.kids empty) w.forest once alone h t.at in
    let v : is_character_data t.top.label.kind ≡ true = (let k = rw t.told at kind in k) in
    let us_is : data_of w n ≡ t.top.body.text = ap (λ (o : Option (Entry (Node Content))). (content_in o).text) t.told in
    let whole : token_texts no_marks w.forest ≡ a.above ++ ((a.ahead ++ (Open n ∷ (unit_tokens no_marks n 0 (data_of w n) ++ (Close ∷ a.behind)))) ∷ a.below) =
    ap (token_texts no_marks) (sym (with_root-itself n t.top t.kids w.forest once t.at))
    ∙ a.spelt no_marks t.top t.kids t.named (λ q z. refl)
    ∙ ap (λ ts. a.above ++ ((a.ahead ++ (Open n ∷ (ts ++ (Close ∷ a.behind)))) ∷ a.below))
    (data-inside t.top t.kids v ∙ ap (λ m. unit_tokens no_marks m 0 t.top.body.text) t.named ∙ ap (unit_tokens no_marks n 0) (sym us_is))
    in
    let after : (vs : List ℕ) → token_texts no_marks (with_node n (with_data vs) w.forest) ≡ a.above ++ ((a.ahead ++ (Open n ∷ (unit_tokens no_marks n 0 vs ++ (Close ∷ a.behind)))) ∷ a.below) =
    λ vs. ap (token_texts no_marks) (with_root-node n (with_data vs) t.top t.kids w.forest once t.at)
    ∙ a.spelt no_marks (with_data vs t.top) t.kids t.named (λ q z. refl)
    ∙ ap (λ ts. a.above ++ ((a.ahead ++ (Open n ∷ (ts ++ (Close ∷ a.behind)))) ∷ a.below))
    (data-inside (with_data vs t.top) t.kids v ∙ ap (λ m. unit_tokens no_marks m 0 vs) t.named)
    in
    record {
      ahead = a.ahead;
      behind = a.behind;
      now = elim (among-changed (is_open n) root a.above (a.ahead ++ (Open n ∷ (unit_tokens no_marks n 0 (data_of w n) ++ (Close ∷ a.behind)))) (a.ahead ++ (Open n ∷ (unit_tokens no_marks n 0 (data_of w n) ++ (Close ∷ a.behind)))) a.below refl) [
        | inl i ↦ ap (text_among root) whole ∙ i.0
        | inr k ↦ absurd (among-found w.forest root n once alone there a.above a.ahead (unit_tokens no_marks n 0 (data_of w n) ++ (Close ∷ a.behind)) a.below whole k)
      ];
      changed = λ vs. elim (among-changed (is_open n) root a.above (a.ahead ++ (Open n ∷ (unit_tokens no_marks n 0 (data_of w n) ++ (Close ∷ a.behind)))) (a.ahead ++ (Open n ∷ (unit_tokens no_marks n 0 vs ++ (Close ∷ a.behind)))) a.below (same-first root a.ahead n (unit_tokens no_marks n 0 vs ++ (Close ∷ a.behind)) (unit_tokens no_marks n 0 (data_of w n) ++ (Close ∷ a.behind)))) [
        | inl i ↦ ap (text_among root) (after vs) ∙ i.1
        | inr k ↦ absurd (among-found w.forest root n once alone there a.above a.ahead (unit_tokens no_marks n 0 (data_of w n) ++ (Close ∷ a.behind)) a.below whole k)
      ];
    }
  where
    data-inside : (x : Node Content) (kids : Forest Content) → is_character_data x.label.kind ≡ true → inside no_marks x kids ≡ unit_tokens no_marks x.number 0 x.body.text
    data-inside x kids v = rw v refl

-- Lists in three parts.

pub take-front : {A : Type 0} (xs ys : List A) → take (length xs) (xs ++ ys) ≡ xs
take-front xs ys = take_at xs ys (length xs) refl

pub drop-front : {A : Type 0} (xs ys : List A) → drop (length xs) (xs ++ ys) ≡ ys
drop-front xs ys = drop_at xs ys (length xs) refl

pub middle-of : {A : Type 0} (xs ys zs ts : List A) (a b : ℕ) → ts ≡ xs ++ (ys ++ zs) → a ≡ length xs → b ≡ length xs + length ys → take (b - a) (drop a ts) ≡ ys
middle-of xs ys zs ts a b whole start end = let many : b - a ≡ length ys = omega arith in cc (drop-front xs (ys ++ zs), take-front ys zs)

three-parts : (o c : ℕ) (us : List ℕ) → us ≡ take o us ++ (take c (drop o us) ++ drop (o + c) us)
three-parts o c us =
    let behind : take c (drop o us) ++ drop (o + c) us ≡ drop o us = cc (take-append-drop c (drop o us), drop-drop c o us) in
    cc (take-append-drop o us)

pub units-anywhere : (n i j : ℕ) (us : List ℕ) → unit_tokens no_marks n i us ≡ unit_tokens no_marks n j us
units-anywhere n i j [] = refl
units-anywhere n i j (u ∷ us) = ap (λ ts. OneUnit u ∷ ts) (units-anywhere n (suc i) (suc j) us)

pub units-append : (n : ℕ) (us vs : List ℕ) → unit_tokens no_marks n 0 (us ++ vs) ≡ unit_tokens no_marks n 0 us ++ unit_tokens no_marks n 0 vs
units-append n [] vs = refl
units-append n (u ∷ us) vs =
    ap (λ ts. OneUnit u ∷ ts) (units-anywhere n 1 0 (us ++ vs) ∙ units-append n us vs ∙ ap (λ ts. ts ++ unit_tokens no_marks n 0 vs) (units-anywhere n 0 1 us))

-- Units that go from between two markers.

-- what is ahead of the units that go, those units, and what is behind them
pub cut-text : (ahead behind : List Token) (n o c : ℕ) (us : List ℕ) → ahead ++ (Open n ∷ (unit_tokens no_marks n 0 us ++ (Close ∷ behind))) ≡ (ahead ++ (Open n ∷ unit_tokens no_marks n 0 (take o us))) ++ (unit_tokens no_marks n 0 (take c (drop o us)) ++ (unit_tokens no_marks n 0 (drop (o + c) us) ++ (Close ∷ behind)))
cut-text ahead behind n o c us =
    ap (λ ts. ahead ++ (Open n ∷ (ts ++ (Close ∷ behind))))
    (ap (unit_tokens no_marks n 0) (three-parts o c us)
    ∙ units-append n (take o us) (take c (drop o us) ++ drop (o + c) us)
    ∙ ap (λ ts. unit_tokens no_marks n 0 (take o us) ++ ts) (units-append n (take c (drop o us)) (drop (o + c) us)))
    ∙ (simp append_assoc)

pub left-text : (ahead behind : List Token) (n o c : ℕ) (us : List ℕ) → ahead ++ (Open n ∷ (unit_tokens no_marks n 0 (take o us ++ drop (o + c) us) ++ (Close ∷ behind))) ≡ (ahead ++ (Open n ∷ unit_tokens no_marks n 0 (take o us))) ++ (unit_tokens no_marks n 0 (drop (o + c) us) ++ (Close ∷ behind))
left-text ahead behind n o c us = ap (λ ts. ahead ++ (Open n ∷ (ts ++ (Close ∷ behind)))) (units-append n (take o us) (drop (o + c) us)) ∙ (simp append_assoc)

pub moved-at : (move : Point → Point) (rs : List (Option Range)) (r : ℕ) → slice_index_or (map_ranges move rs) r None ≡ option_map (moved_range move) (slice_index_or rs r None)
moved-at move [] zero = refl
moved-at move [] (suc r) = refl
moved-at move (x ∷ rs) zero = refl
moved-at move (x ∷ rs) (suc r) = moved-at move rs r

pub data-long : (w : World) (n : ℕ) → kind_passes is_character_data w.forest n ≡ true → node_length unit_count w.forest n ≡ length (data_of w n)
data-long w n h =
    elim (seen (entry_in w.forest n)) [
      | nothing z ↦ absurd (false≢true (rw z at h))
      | just e z ↦ let k = rw z at h in let j = data_kind e.value.label.kind k in rw (z, j, k) (sym (ap (λ (o : Option (Entry (Node Content))). length (content_in o).text) z))
    ]
