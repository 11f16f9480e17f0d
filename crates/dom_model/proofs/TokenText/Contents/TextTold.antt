-- The units of Texts between the gaps of a range's two ends, by recursion on the trees: if each Text tells its part, the whole text of a
-- root tells the text of the range.
use Rattle.std.proofs.Common.{◌≡◌, ℕ, suc, ◌+◌, ◌-◌, ◌<◌, ◌≤◌, Bool, true, false, ◌&&◌, if◌then◌else◌, List, [], ◌∷◌, ◌++◌, length, Option, Some, refl, ap, sym, ◌∙◌, subst, arith, append_assoc, append-nil, length-append, inl, inr, filter}
use Rattle.std.proofs.lemmas.{Bool.false≢true, List.Elements.filter-append, Grind.flat_map-append, Bool.cases_Bool}
use Rattle.dom_model.specs.Definitions.{is_kind, is_character_data, Entry, Node, Forest, empty, node, tops, numbers, entry_in, Lies, node_length, unit_count, Content, Point, World, is_of_kind, content_in, data_of, joined_data, Token, Open, Close, point, same_point, no_marks, unit_tokens, child_tokens, stands_at, tokens_ahead, numbers_of, Childless}
use Rattle.dom_model.specs.declared.{Kind.Kind, Kind.TheVariants.Text, Kind.TheVariants.DocumentType}
use Rattle.dom_model.proofs.PlainLists.Numbers.{same_or, same, apart}
use Rattle.dom_model.proofs.TokenText.{Pieces.TokenLists.opened, Pieces.TokenLists.AreMarks, Pieces.TextWalks.walk, Pieces.TextWalks.walk-append, Pieces.TextParts.own, Pieces.TextParts.own-then, Pieces.TextParts.breadth, Pieces.TextParts.walk-own, Pieces.TextParts.walk-all_children, Contents.Sifted.sifted, Contents.LeafPlaces.units-long, Contents.LeafPlaces.leaf-aside, Contents.LeafPlaces.gap-here, Contents.LeafPlaces.ahead-within, Contents.LeafUnits.other-sifted, Contents.Told.AtPlace, Contents.Told.Told, Contents.Told.told-nothing, Contents.Told.Tells, Contents.Told.tells-joined, Contents.Told.tells-token, Contents.Told.Quiet, Contents.Told.sifted_after, Contents.LeafPlaces.opened-around}

-- what is told of a Text by its kind
pub text-kind : (k : Kind) → is_kind Text k ≡ true → (is_kind k DocumentType ≡ false) × (is_character_data k ≡ true)
text-kind k h = (grind arith, grind arith)

pub no_text-kind : (k : Kind) → is_character_data k ≡ false → is_kind Text k ≡ false
no_text-kind k h = grind arith

pub no_mark : (p : Point) → AreMarks (no_marks p)
no_mark p = tt

-- the data of the Texts among nodes that pass a test
abbrev pub held_data : World → (ℕ → Bool) → List ℕ → List ℕ
held_data w held ns = joined_data w (filter (λ n. is_of_kind Text w.forest n && held n) ns)

pub held-append : (w : World) (held : ℕ → Bool) (ns ms : List ℕ) → held_data w held (ns ++ ms) ≡ held_data w held ns ++ held_data w held ms
held-append w held ns ms =
    ap (joined_data w) (filter-append (λ n. is_of_kind Text w.forest n && held n) ns ms)
    ∙ flat_map-append (data_of w) (filter (λ n. is_of_kind Text w.forest n && held n) ns) (filter (λ n. is_of_kind Text w.forest n && held n) ms)

held-text : (w : World) (held : ℕ → Bool) (n : ℕ) → is_of_kind Text w.forest n ≡ true → held_data w held (n ∷ []) ≡ (if held n then data_of w n else [])
held-text w held n h = rw h (grind (arith, append-nil))

held-other : (w : World) (held : ℕ → Bool) (n : ℕ) (ns : List ℕ) → is_of_kind Text w.forest n ≡ false → held_data w held (n ∷ ns) ≡ held_data w held ns
held-other w held n ns h = rw h refl

-- what each Text tells, where it stands in a text after some tokens
abbrev pub TextsTell : (w : World) (a b : ℕ) (le : a ≤ b) (s e : Point) (front back : List ℕ) (held : ℕ → Bool) (text : List Token) → Type 0
TextsTell w a b le s e front back held text =
    (pre : List Token) (n : ℕ) (post : List Token) → text ≡ pre ++ (Open n ∷ (unit_tokens no_marks n 0 (data_of w n) ++ (Close ∷ post))) → opened n pre ≡ 0 → is_of_kind Text w.forest n ≡ true → node_length unit_count w.forest n ≡ length (data_of w n) → Quiet w a b le s e front back pre → Told a b front back (length pre) (2 + length (data_of w n)) (sifted_after w a b le s e front back pre (Open n ∷ (unit_tokens no_marks n 0 (data_of w n) ++ (Close ∷ [])))) (if held n then data_of w n else [])

module _ (w : World) (a b : ℕ) (le : a ≤ b) (s e : Point) (front back : List ℕ) (held : ℕ → Bool) (text : List Token) (starts : tokens_ahead s [] text ≡ Some a) (ends : tokens_ahead e [] text ≡ Some b) (once : (m : ℕ) → opened m text ≤ 1) (no_front : is_of_kind Text w.forest s.node ≡ false → front ≡ []) (no_back : is_of_kind Text w.forest e.node ≡ false → back ≡ []) (tell : TextsTell w a b le s e front back held text) where
  abbrev says : List Token → List Token → List ℕ → Type 0
  says pre ts ns = Tells w a b le s e front back pre ts (held_data w held ns)

  same-node : (p : Point) (n i : ℕ) → same_point p (point n i) ≡ true → p.node ≡ n
  same-node p n i h = elim (same_or p.node n) [ same d t ↦ d | apart ne t ↦ absurd (false≢true (rw t at h)) ]

  -- within a node that is no Text no end tells a unit
  quiet-in : (pre : List Token) (n i : ℕ) (around : List Point) → walk pre [] ≡ point n i ∷ around → is_of_kind Text w.forest n ≡ false → Quiet w a b le s e front back pre
  quiet-in pre n i around h k = record {
    starts = λ g. no_front (let d = same-node s n i (rw h at g) in subst (λ m. is_of_kind Text w.forest m ≡ false) (sym d) k);
    ends = λ g. no_back (let d = same-node e n i (rw h at g) in subst (λ m. is_of_kind Text w.forest m ≡ false) (sym d) k);
  }

  quiet-first : Quiet w a b le s e front back []
  quiet-first = record { starts = λ g. absurd (false≢true g); ends = λ g. absurd (false≢true g) }

  -- what is ahead of a node does not open it
  unopened : (pre : List Token) (n : ℕ) (post : List Token) → text ≡ pre ++ (Open n ∷ post) → opened n pre ≡ 0
  unopened pre n post h = let sum = ap (opened n) h ∙ opened-around n pre post in let o = once n in omega arith

  -- a node with data that is no Text tells nothing
  tells-other : (pre : List Token) (n : ℕ) (us : List ℕ) (post : List Token) → text ≡ pre ++ (Open n ∷ (unit_tokens no_marks n 0 us ++ (Close ∷ post))) → is_of_kind Text w.forest n ≡ false → Quiet w a b le s e front back pre → Told a b front back (length pre) (2 + length us) (sifted_after w a b le s e front back pre (Open n ∷ (unit_tokens no_marks n 0 us ++ (Close ∷ [])))) []
  tells-other pre n us post h k quiet = record {
    first = [];
    last = [];
    at_start = aside s a front starts no_front quiet.starts;
    at_end = aside e b back ends no_back quiet.ends;
    whole = other-sifted w (numbers_of (walk pre [])) (a - length pre) (b - length pre) n us k;
    early = λ i. refl;
    late = λ i. refl;
  }
    where
      aside : (p : Point) (c : ℕ) (units : List ℕ) → tokens_ahead p [] text ≡ Some c → (is_of_kind Text w.forest p.node ≡ false → units ≡ []) → (stands_at p (walk pre []) ≡ true → units ≡ []) → AtPlace c (length pre) (2 + length us) units []
      aside p c units g none quiet = record {
        inside = λ l m.
            sym (elim (same_or p.node n) [
              | same d t ↦ none (subst (λ (i : ℕ). is_of_kind Text w.forest i ≡ false) (sym d) k)
              | apart ne t ↦
                  let there : tokens_ahead p [] (pre ++ (Open n ∷ (unit_tokens no_marks n 0 us ++ (Close ∷ post)))) ≡ Some c = sym (ap (tokens_ahead p []) h) ∙ g in
                  elim (leaf-aside pre n us post (unopened pre n (unit_tokens no_marks n 0 us ++ (Close ∷ post)) h) p c t there) [
                    | inl near ↦
                        let z : c ≡ length pre = omega arith in
                        quiet (gap-here p [] pre (Open n) (unit_tokens no_marks n 0 us ++ (Close ∷ post)) (there ∙ ap (λ i. Some i) z))
                    | inr far ↦ absurd (omega arith)
                  ]
            ]);
        before = λ l. refl;
        after = λ l. refl;
      }

  data-long : (n : ℕ) (us : List ℕ) → length (Open n ∷ (unit_tokens no_marks n 0 us ++ (Close ∷ []))) ≡ 2 + length us
  data-long n us = (let i = length-append (unit_tokens no_marks n 0 us) (Close ∷ []) in let j = units-long n 0 us in omega arith)

  tells-data : (pre : List Token) (x : Node Content) (post : List Token) (q : Option ℕ) (c : List ℕ) → entry_in w.forest x.number ≡ Some (record { value = x; parent = q; children = c }) → is_character_data x.label.kind ≡ true → text ≡ pre ++ (Open x.number ∷ (unit_tokens no_marks x.number 0 x.body.text ++ (Close ∷ post))) → Quiet w a b le s e front back pre → says pre (Open x.number ∷ (unit_tokens no_marks x.number 0 x.body.text ++ (Close ∷ []))) (x.number ∷ [])
  tells-data pre x post q c entry is_data h quiet =
      let ts = Open x.number ∷ (unit_tokens no_marks x.number 0 x.body.text ++ (Close ∷ [])) in
      let kind : is_of_kind Text w.forest x.number ≡ is_kind Text x.label.kind = rw entry refl in
      let data_is : data_of w x.number ≡ x.body.text = ap (λ (o : Option (Entry (Node Content))). (content_in o).text) entry in
      subst (λ l. Told a b front back (length pre) l (sifted_after w a b le s e front back pre ts) (held_data w held (x.number ∷ []))) (sym (data-long x.number x.body.text))
      (elim (cases_Bool (is_kind Text x.label.kind)) [
        | inl v ↦
            let kinds = text-kind x.label.kind v in
            let long : node_length unit_count w.forest x.number ≡ length x.body.text = rw entry (rw (kinds.0, kinds.1) refl) in
            subst (λ us. Told a b front back (length pre) (2 + length x.body.text) (sifted_after w a b le s e front back pre ts) us) (sym (held-text w held x.number (kind ∙ v)))
            (subst (λ us. Told a b front back (length pre) (2 + length us) (sifted_after w a b le s e front back pre (Open x.number ∷ (unit_tokens no_marks x.number 0 us ++ (Close ∷ [])))) (if held x.number then data_of w x.number else [])) data_is
            (tell pre x.number post (h ∙ ap (λ us. pre ++ (Open x.number ∷ (unit_tokens no_marks x.number 0 us ++ (Close ∷ post)))) (sym data_is)) (unopened pre x.number (unit_tokens no_marks x.number 0 x.body.text ++ (Close ∷ post)) h) (kind ∙ v) (long ∙ sym (ap (λ us. length us) data_is)) quiet))
        | inr v ↦
            subst (λ us. Told a b front back (length pre) (2 + length x.body.text) (sifted_after w a b le s e front back pre ts) us) (sym (held-other w held x.number [] (kind ∙ v)))
            (tells-other pre x.number x.body.text post h (kind ∙ v) quiet)
      ])

  -- a node's own tokens, if those of its children tell
  tells-own : (pre : List Token) (x : Node Content) (kids : Forest Content) (post : List Token) (q : Option ℕ) → text ≡ pre ++ (own no_marks x kids ++ post) → Quiet w a b le s e front back pre → entry_in w.forest x.number ≡ Some (record { value = x; parent = q; children = tops kids }) → (is_character_data x.label.kind ≡ true → kids ≡ empty) → ((before : List Token) (behind : List Token) (around : List Point) → text ≡ before ++ (child_tokens no_marks x.number 0 kids ++ behind) → walk before [] ≡ point x.number 0 ∷ around → is_of_kind Text w.forest x.number ≡ false → says before (child_tokens no_marks x.number 0 kids) (numbers kids)) → says pre (own no_marks x kids) (x.number ∷ numbers kids)
  tells-own pre x kids post q h quiet entry alone below =
      elim (cases_Bool (is_character_data x.label.kind)) [
        | inl v ↦
            let t = rw v at h in
            rw v
            (subst (λ (f : Forest Content). says pre (Open x.number ∷ (unit_tokens no_marks x.number 0 x.body.text ++ (Close ∷ []))) (x.number ∷ numbers f)) (sym (alone v))
            (tells-data pre x post q (tops kids) entry v (t ∙ ap (λ us. pre ++ (Open x.number ∷ us)) (append_assoc (unit_tokens no_marks x.number 0 x.body.text) (Close ∷ []) post)) quiet))
        | inr v ↦
            let t = rw v at h in
            let inner = child_tokens no_marks x.number 0 kids in
            let here = pre ++ (Open x.number ∷ []) in
            let flat : text ≡ pre ++ (Open x.number ∷ (inner ++ (Close ∷ post))) = t ∙ ap (λ us. pre ++ (Open x.number ∷ us)) (append_assoc inner (Close ∷ []) post) in
            let at_kids : text ≡ here ++ (inner ++ (Close ∷ post)) = flat ∙ sym (append_assoc pre (Open x.number ∷ []) (inner ++ (Close ∷ post))) in
            let at_close : text ≡ (here ++ inner) ++ (Close ∷ post) = at_kids ∙ sym (append_assoc here inner (Close ∷ post)) in
            let come : walk here [] ≡ point x.number 0 ∷ walk pre [] = walk-append pre (Open x.number ∷ []) [] in
            let gone : walk (here ++ inner) [] ≡ point x.number (0 + breadth kids) ∷ walk pre [] = walk-append here inner [] ∙ ap (walk inner) come ∙ walk-all_children no_marks no_mark x.number 0 kids (walk pre []) in
            let none : is_of_kind Text w.forest x.number ≡ false = rw entry (no_text-kind x.label.kind v) in
            let first = tells-token w a b le s e front back pre (Open x.number) (inner ++ (Close ∷ post)) (sym (ap (tokens_ahead s []) flat) ∙ starts) (sym (ap (tokens_ahead e []) flat) ∙ ends) quiet (λ around. refl) in
            let last = tells-token w a b le s e front back (here ++ inner) Close post (sym (ap (tokens_ahead s []) at_close) ∙ starts) (sym (ap (tokens_ahead e []) at_close) ∙ ends) (quiet-in (here ++ inner) x.number (0 + breadth kids) (walk pre []) gone none) (λ around. refl) in
            let kept = below here (Close ∷ post) (walk pre []) at_kids come none in
            let rest = tells-joined w a b le s e front back here inner (Close ∷ []) (held_data w held (numbers kids)) [] kept last in
            let all = tells-joined w a b le s e front back pre (Open x.number ∷ []) (inner ++ (Close ∷ [])) [] (held_data w held (numbers kids) ++ []) first rest in
            rw v (subst (λ us. Tells w a b le s e front back pre (Open x.number ∷ (inner ++ (Close ∷ []))) us) (append-nil (held_data w held (numbers kids)) ∙ sym (held-other w held x.number (numbers kids) none)) all)
      ]

  tells-children : (q : Option ℕ) (n i : ℕ) (f : Forest Content) (pre post : List Token) (around : List Point) → text ≡ pre ++ (child_tokens no_marks n i f ++ post) → walk pre [] ≡ point n i ∷ around → is_of_kind Text w.forest n ≡ false → Lies (entry_in w.forest) q f → Childless f → says pre (child_tokens no_marks n i f) (numbers f)
  tells-children q n i empty pre post around h come none lies alone = told-nothing a b front back (length pre)
  tells-children q n i (node x kids rest) pre post around h come none lies alone =
      let more = child_tokens no_marks n (suc i) rest in
      let o = own no_marks x kids in
      let same_tokens : child_tokens no_marks n i (node x kids rest) ≡ o ++ more = own-then no_marks x kids more in
      let whole : text ≡ pre ++ (o ++ (more ++ post)) = h ∙ ap (λ us. pre ++ (us ++ post)) same_tokens ∙ ap (λ us. pre ++ us) (append_assoc o more post) in
      let beyond : text ≡ (pre ++ o) ++ (more ++ post) = whole ∙ sym (append_assoc pre o (more ++ post)) in
      let d : i + 1 ≡ suc i = omega arith in
      let gone : walk (pre ++ o) [] ≡ point n (suc i) ∷ around = walk-append pre o [] ∙ ap (walk o) come ∙ walk-own no_marks no_mark x kids (point n i ∷ around) ∙ ap (λ k. point n k ∷ around) d in
      let first = tells-own pre x kids (more ++ post) q whole (quiet-in pre n i around come none) lies.0 alone.0
      (λ before behind others t c k. tells-children (Some x.number) x.number 0 kids before behind others t c k lies.1 alone.1) in
      let second = tells-children q n (suc i) rest (pre ++ o) post around beyond gone none lies.2 alone.2 in
      let both = tells-joined w a b le s e front back pre o more (held_data w held (x.number ∷ numbers kids)) (held_data w held (numbers rest)) first second in
      subst (λ us. Tells w a b le s e front back pre (child_tokens no_marks n i (node x kids rest)) us) (sym (held-append w held (x.number ∷ numbers kids) (numbers rest)))
      (subst (λ (us : List Token). Tells w a b le s e front back pre us (held_data w held (x.number ∷ numbers kids) ++ held_data w held (numbers rest))) (sym same_tokens) both)

  -- the text of a root
  pub root-tells : (q : Option ℕ) (x : Node Content) (kids : Forest Content) → text ≡ own no_marks x kids → entry_in w.forest x.number ≡ Some (record { value = x; parent = q; children = tops kids }) → Lies (entry_in w.forest) (Some x.number) kids → (is_character_data x.label.kind ≡ true → kids ≡ empty) → Childless kids → sifted w [] a b text ≡ front ++ (held_data w held (x.number ∷ numbers kids) ++ back)
  root-tells q x kids h entry lies alone less =
      let t = tells-own [] x kids [] q (h ∙ sym (append-nil (own no_marks x kids))) quiet-first entry alone
      (λ before behind others t c k. tells-children (Some x.number) x.number 0 kids before behind others t c k lies less) in
      let i : a < length (own no_marks x kids) = subst (λ (us : List Token). a < length us) h (ahead-within s [] text a starts) in
      let j : b < length (own no_marks x kids) = subst (λ (us : List Token). b < length us) h (ahead-within e [] text b ends) in
      let c : a - 0 ≡ a = omega arith in
      let d : b - 0 ≡ b = omega arith in
      ap (λ us. sifted w [] a b us) h
      ∙ ap (λ k. sifted w [] k b (own no_marks x kids)) (sym c)
      ∙ ap (λ k. sifted w [] (a - 0) k (own no_marks x kids)) (sym d)
      ∙ t.whole
      ∙ ap (λ us. us ++ (held_data w held (x.number ∷ numbers kids) ++ t.last)) (t.at_start.inside (omega arith) (omega arith))
      ∙ ap (λ us. front ++ (held_data w held (x.number ∷ numbers kids) ++ us)) (t.at_end.inside (omega arith) (omega arith))
