-- The text of a live range is the units of Texts between its markers, in the token text of its root.
use Rattle.std.proofs.Common.{◌≡◌, ℕ, suc, ◌+◌, ◌-◌, ◌<◌, ◌≤◌, ◌==◌, Bool, true, false, ◌&&◌, if◌then◌else◌, List, [], ◌∷◌, ◌++◌, length, take, drop, Option, Some, None, is_none, refl, ap, sym, ◌∙◌, subst, arith, append-nil, ◌⊎◌, inl, inr, eq-eqb}
use Rattle.std.specs.Ordering.{nat_cmp}
use Rattle.std.proofs.lemmas.{Bool.false≢true, Bool.and_right, Bool.ne_eqb, Bool.Decides.nat_tests, Bool.cond_both}
use Rattle.dom_model.specs.Definitions.{hits, is_same, numbers, entry_in, root_of, node_length, unit_count, Point, Range, World, IsSound, IsRange, order_of, is_of_kind, is_less, range_at, contained_in, text_part, text_between, range_text, data_of, RangeText, Units, Done, Own, Bounds, guarded, answers, on_range, answer, Token, Open, Close, point, no_marks, marks_from, unit_tokens, token_texts, texts_of, text_among, root_text, tokens_ahead, gap_order, between, numbers_of, text_units, text_of_range, is_kind, is_character_data, occurs, node, empty, stands_at}
use Rattle.dom_model.specs.declared.{Kind.TheVariants.Text, OwnError.TheVariants.NoSuchObject}
use Rattle.dom_model.proofs.PlainLists.Numbers.{same_or, same, apart}
use Rattle.dom_model.proofs.Forests.{Entries.Lies-entry_in, Lots.root-listed, Climbing.hits-first}
use Rattle.dom_model.proofs.BoundaryPoints.PointOrder.{nat_cmp-same, nat_cmp-less, nat_cmp-greater}
use Rattle.dom_model.proofs.TokenText.{Marked.MarkedFirst.kinds-childless, EditsMade.EditsOfDrawnContents.sound-range, Pieces.TokenLists.opened, Pieces.TextWalks.walk, Pieces.TextCounts.opened-own, PointGaps.GapsInOrder.gap-found, PointGaps.GapsInOrder.gaps-in_order, Contents.Dressed.dressed, Contents.Dressed.dressed-texts, Contents.MarksInOrder.marking, Contents.BetweenGaps.NoMarks, Contents.BetweenGaps.between-gaps, Contents.BetweenGaps.open-around, Contents.Sifted.sifted, Contents.Sifted.sifted-part, Contents.Sifted.numbers-walk, Contents.Sifted.open_past_all, Contents.LeafPlaces.leaf-gap, Contents.LeafPlaces.leaf-aside, Contents.LeafPlaces.gap-here, Contents.LeafUnits.cut_units, Contents.LeafUnits.text-sifted, Contents.LeafUnits.told-start, Contents.LeafUnits.told-end, Contents.LeafUnits.told-both, Contents.LeafUnits.told-through, Contents.LeafUnits.told-ahead, Contents.LeafUnits.told-behind, Contents.Told.Told, Contents.TextTold.text-kind, Contents.TextTold.TextsTell, Contents.TextTold.held_data, Contents.TextTold.held-append, Contents.TextTold.no_mark, Contents.TextTold.root-tells, Contents.TextsOfRoots.TreeOf, Contents.TextsOfRoots.tree_of_root, Contents.TextsOfRoots.no_marks-own, Contents.TextsOfRoots.dressed-among, Contents.TextsOfRoots.HasData, Contents.TextsOfRoots.data-found, Contents.LeafPlaces.opened-around, Contents.DeletedUnits.data-long}
use Rattle.dom_model.proofs.Soundness.SoundForests.{passes-also}

pub less-true : (i j : ℕ) → i < j → is_less (nat_cmp i j) ≡ true
less-true i j h = rw (nat_cmp-less i j h) refl

pub less-false : (i j : ℕ) → j ≤ i → is_less (nat_cmp i j) ≡ false
less-false i j h = grind (arith, nat_cmp-greater, nat_cmp-same)

-- nothing is held where the test fails of each number
held-none : (w : World) (held : ℕ → Bool) (ns : List ℕ) → ((m : ℕ) → 0 < hits m ns → held m ≡ false) → held_data w held ns ≡ []
held-none w held [] h = refl
held-none w held (n ∷ ns) h =
    let first : held n ≡ false = h n (hits-first n ns) in
    let rest = held-none w held ns (λ m k. h m (omega arith)) in
    rw (first, and_right (is_of_kind Text w.forest n) false refl) rest

-- the two ends of a live range in the text of its root
pub record EndsAhead (w : World) (range : Range) (root : ℕ) : Type 0 where
  pub tree : TreeOf (entry_in w.forest) root w.forest
  pub a : ℕ
  pub b : ℕ
  pub starts : tokens_ahead range.start [] (root_text w.forest root) ≡ Some a
  pub ends : tokens_ahead range.end [] (root_text w.forest root) ≡ Some b
  pub le : a ≤ b

-- What the law is about: a live range of a sound world, and its root.
module _ (w : World) (sound : IsSound w) (range : Range) (is_range : IsRange w.forest range) (root : ℕ) (rooted : root_of w.forest range.start.node ≡ Some root) where
  end-rooted : root_of w.forest range.end.node ≡ Some root
  end-rooted = sym is_range.one_root ∙ rooted

  order-is : (p q : Point) (i j : ℕ) → root_of w.forest p.node ≡ Some root → root_of w.forest q.node ≡ Some root → p.offset ≤ node_length unit_count w.forest p.node → q.offset ≤ node_length unit_count w.forest q.node → tokens_ahead p [] (root_text w.forest root) ≡ Some i → tokens_ahead q [] (root_text w.forest root) ≡ Some j → order_of w.forest p q ≡ nat_cmp i j
  order-is p q i j rp rq lp lq hp hq =
      let e : gap_order p q (root_text w.forest root) ≡ Some (nat_cmp i j) = rw (hp, hq) refl in
      cc (gaps-in_order w.forest sound.forest.once sound.forest.kinds root p q rp rq lp lq)

  pub ends_ahead : EndsAhead w range root
  ends_ahead =
      let s = gap-found w.forest sound.forest.once sound.forest.kinds root range.start rooted is_range.starts.within in
      let e = gap-found w.forest sound.forest.once sound.forest.kinds root range.end end-rooted is_range.ends.within in
      let o = order-is range.start range.end s.0 e.0 rooted end-rooted is_range.starts.within is_range.ends.within s.1 e.1 in
      record {
        tree = tree_of_root (entry_in w.forest) root w.forest sound.forest.once (Lies-entry_in w.forest sound.forest.once) (kinds-childless None w.forest sound.forest.kinds) (root-listed range.start.node root w.forest rooted);
        a = s.0;
        b = e.0;
        starts = s.1;
        ends = e.1;
        le = let no_later : e.0 < s.0 → ⊥ = λ lt. is_range.in_order (o ∙ nat_cmp-greater s.0 e.0 lt) in omega arith;
      }

  module _ (t : EndsAhead w range root) where
    -- the text opens a node as often as the root's tree has it
    pub opened-tree : (m : ℕ) → opened m (root_text w.forest root) ≡ occurs m (node t.tree.top t.tree.kids empty)
    opened-tree m = ap (opened m) t.tree.text ∙ opened-own no_marks no_mark m t.tree.top t.tree.kids (t.tree.alone, t.tree.less, tt)

    pub once-opened : (m : ℕ) → opened m (root_text w.forest root) ≤ 1
    once-opened m = let e = opened-tree m in let o = t.tree.once m in omega arith

    -- what is ahead of a node does not open it
    pub unopened-ahead : (pre : List Token) (n : ℕ) (post : List Token) → root_text w.forest root ≡ pre ++ (Open n ∷ post) → opened n pre ≡ 0
    unopened-ahead pre n post h = let sum = ap (opened n) h ∙ opened-around n pre post in let o = once-opened n in omega arith

    -- the length of a Text is that of its data
    text-long : (n : ℕ) → is_of_kind Text w.forest n ≡ true → node_length unit_count w.forest n ≡ length (data_of w n)
    text-long n h = data-long w n (passes-also (is_kind Text) is_character_data true (λ k e. (text-kind k e).1) w.forest n h)

    -- a node that the text opens is of the root
    opened-rooted : (pre : List Token) (n : ℕ) (post : List Token) → root_text w.forest root ≡ pre ++ (Open n ∷ post) → root_of w.forest n ≡ Some root
    opened-rooted pre n post h =
        let sum = ap (opened n) h ∙ opened-around n pre post in
        let e = opened-tree n in
        t.tree.inside n (omega arith)

    -- a Text is contained where the range starts ahead of it and ends behind it
    contained-leaf : (pre : List Token) (n : ℕ) (post : List Token) → root_text w.forest root ≡ pre ++ (Open n ∷ (unit_tokens no_marks n 0 (data_of w n) ++ (Close ∷ post))) → opened n pre ≡ 0 → node_length unit_count w.forest n ≡ length (data_of w n) → contained_in w range n ≡ (is_less (nat_cmp t.a (length pre + 1)) && is_less (nat_cmp (length pre + suc (length (data_of w n))) t.b))
    contained-leaf pre n post h first long =
        let us = data_of w n in
        let rn = opened-rooted pre n (unit_tokens no_marks n 0 us ++ (Close ∷ post)) h in
        let g = ap (tokens_ahead (point n 0) []) h ∙ leaf-gap pre n us post first 0 (omega arith) in
        let k = ap (tokens_ahead (point n (length us)) []) h ∙ leaf-gap pre n us post first (length us) (omega arith) in
        let l : length us ≤ node_length unit_count w.forest n = omega arith in
        let o = order-is range.start (point n 0) t.a (length pre + 1) rooted rn is_range.starts.within (omega arith) t.starts g in
        let p : order_of w.forest (point n (node_length unit_count w.forest n)) range.end ≡ nat_cmp (length pre + suc (length us)) t.b =
        ap (λ i. order_of w.forest (point n i) range.end) long
        ∙ order-is (point n (length us)) range.end (length pre + suc (length us)) t.b rn end-rooted l is_range.ends.within k t.ends
        in
        let r : is_same (root_of w.forest n) (root_of w.forest range.start.node) ≡ true = rw (rn, rooted) (eq-eqb root root refl) in
        rw (r, o, p) refl

    front : List ℕ
    front = text_part w range.start.node range.start.offset (length (data_of w range.start.node) - range.start.offset)

    back : List ℕ
    back = text_part w range.end.node 0 range.end.offset

    inner : List ℕ
    inner = text_part w range.start.node range.start.offset (range.end.offset - range.start.offset)

    -- an end that stands in a Text, told by what is ahead of the Text
    pub end-in : (p : Point) (c : ℕ) (pre : List Token) (n : ℕ) (post : List Token) → root_text w.forest root ≡ pre ++ (Open n ∷ (unit_tokens no_marks n 0 (data_of w n) ++ (Close ∷ post))) → opened n pre ≡ 0 → p.node ≡ n → p.offset ≤ length (data_of w n) → tokens_ahead p [] (root_text w.forest root) ≡ Some c → c ≡ length pre + suc p.offset
    end-in p c pre n post h first d l g =
        let k = ap (tokens_ahead (point n p.offset) []) h ∙ leaf-gap pre n (data_of w n) post first p.offset l in
        let e : tokens_ahead p [] (root_text w.forest root) ≡ Some (length pre + suc p.offset) = ap (λ m. tokens_ahead (point m p.offset) [] (root_text w.forest root)) d ∙ k in
        cc

    offset-in : (p : Point) (n : ℕ) → p.node ≡ n → p.offset ≤ node_length unit_count w.forest p.node → node_length unit_count w.forest n ≡ length (data_of w n) → p.offset ≤ length (data_of w n)
    offset-in p n d l long = (let e = ap (node_length unit_count w.forest) d in omega arith)

    -- an end in another node is ahead of a Text or behind it
    aside : (pre : List Token) (n : ℕ) (post : List Token) → root_text w.forest root ≡ pre ++ (Open n ∷ (unit_tokens no_marks n 0 (data_of w n) ++ (Close ∷ post))) → opened n pre ≡ 0 → (p : Point) (c : ℕ) → tokens_ahead p [] (root_text w.forest root) ≡ Some c → (p.node == n) ≡ false → (c ≤ length pre) ⊎ (length pre + (2 + length (data_of w n)) ≤ c)
    aside pre n post h first p c g u = leaf-aside pre n (data_of w n) post first p c u (sym (ap (tokens_ahead p []) h) ∙ g)

    ahead-here : (pre : List Token) (n : ℕ) (post : List Token) → root_text w.forest root ≡ pre ++ (Open n ∷ (unit_tokens no_marks n 0 (data_of w n) ++ (Close ∷ post))) → (p : Point) (c : ℕ) → tokens_ahead p [] (root_text w.forest root) ≡ Some c → c ≡ length pre → stands_at p (walk pre []) ≡ true
    ahead-here pre n post h p c g e = gap-here p [] pre (Open n) (unit_tokens no_marks n 0 (data_of w n) ++ (Close ∷ post)) (sym (ap (tokens_ahead p []) h) ∙ g ∙ ap (λ i. Some i) e)

    -- each Text tells its part, where the ends do not both stand in one Text
    texts-tell : ((n : ℕ) → range.start.node ≡ n → range.end.node ≡ n → is_of_kind Text w.forest n ≡ true → ⊥) → TextsTell w t.a t.b t.le range.start range.end front back (contained_in w range) (root_text w.forest root)
    unfolding front back
    texts-tell far pre n post h first kind long quiet =
        subst (λ us. Told t.a t.b front back (length pre) (2 + length (data_of w n)) us (if contained_in w range n then data_of w n else [])) (sym (text-sifted w (numbers_of (walk pre [])) t.a t.b (length pre) n (data_of w n) kind))
        (elim (same_or range.start.node n) [
          | same d v ↦
              let o = offset-in range.start n d is_range.starts.within long in
              let c = end-in range.start t.a pre n post h first d o t.starts in
              elim (same_or range.end.node n) [
                | same e u ↦ absurd (far n d e kind)
                | apart ne u ↦
                    elim (aside pre n post h first range.end t.b t.ends u) [
                      | inl near ↦ absurd (let i = t.le in omega arith)
                      | inr beyond ↦ held_as false (rw (less-false t.a (length pre + 1) (omega arith)) refl) (told-start t.a t.b (length pre) t.le (data_of w n) range.start.offset front back c o beyond (front_is d))
                    ]
              ]
          | apart ne v ↦
              elim (aside pre n post h first range.start t.a t.starts v) [
                | inl near ↦
                    elim (same_or range.end.node n) [
                      | same e u ↦
                          let o = offset-in range.end n e is_range.ends.within long in
                          let c = end-in range.end t.b pre n post h first e o t.ends in
                          held_as false (rw (less-false (length pre + suc (length (data_of w n))) t.b (omega arith)) (and_right (is_less (nat_cmp t.a (length pre + 1))) false refl)) (told-end t.a t.b (length pre) t.le (data_of w n) range.end.offset front back c o near (quiet_start) (back_is e))
                      | apart me u ↦
                          elim (aside pre n post h first range.end t.b t.ends u) [
                            | inl close ↦ held_as false (rw (less-false (length pre + suc (length (data_of w n))) t.b (omega arith)) (and_right (is_less (nat_cmp t.a (length pre + 1))) false refl)) (told-ahead t.a t.b (length pre) t.le (data_of w n) front back quiet_start close quiet_end)
                            | inr beyond ↦ held_as true (rw (less-true t.a (length pre + 1) (omega arith), less-true (length pre + suc (length (data_of w n))) t.b (omega arith)) refl) (told-through t.a t.b (length pre) t.le (data_of w n) front back near quiet_start beyond)
                          ]
                    ]
                | inr beyond ↦ held_as false (rw (less-false t.a (length pre + 1) (omega arith)) refl) (told-behind t.a t.b (length pre) t.le (data_of w n) front back beyond)
              ]
        ])
      where
        quiet_start : t.a ≡ length pre → front ≡ []
        quiet_start e = quiet.starts (ahead-here pre n post h range.start t.a t.starts e)

        quiet_end : t.b ≡ length pre → back ≡ []
        quiet_end e = quiet.ends (ahead-here pre n post h range.end t.b t.ends e)

        front_is : range.start.node ≡ n → front ≡ take (length (data_of w n) - range.start.offset) (drop range.start.offset (data_of w n))
        front_is d = ap (λ m. text_part w m range.start.offset (length (data_of w m) - range.start.offset)) d ∙ (rw kind refl)

        back_is : range.end.node ≡ n → back ≡ take range.end.offset (drop 0 (data_of w n))
        back_is d = ap (λ m. text_part w m 0 range.end.offset) d ∙ (rw kind refl)

        held_as : (v : Bool) → (is_less (nat_cmp t.a (length pre + 1)) && is_less (nat_cmp (length pre + suc (length (data_of w n))) t.b)) ≡ v → Told t.a t.b front back (length pre) (2 + length (data_of w n)) (cut_units (t.a - suc (length pre)) (t.b - suc (length pre)) (data_of w n)) (if v then data_of w n else []) → Told t.a t.b front back (length pre) (2 + length (data_of w n)) (cut_units (t.a - suc (length pre)) (t.b - suc (length pre)) (data_of w n)) (if contained_in w range n then data_of w n else [])
        held_as v e i = subst (λ (u : Bool). Told t.a t.b front back (length pre) (2 + length (data_of w n)) (cut_units (t.a - suc (length pre)) (t.b - suc (length pre)) (data_of w n)) (if u then data_of w n else [])) (sym (contained-leaf pre n post h first long ∙ e)) i

    -- each Text tells its part, where both ends stand in one
    texts-tell_one : range.start.node ≡ range.end.node → is_of_kind Text w.forest range.start.node ≡ true → HasData range.start.node (data_of w range.start.node) (root_text w.forest root) → TextsTell w t.a t.b t.le range.start range.end inner [] (λ _. false) (root_text w.forest root)
    unfolding inner
    texts-tell_one one text_there found pre n post h first kind long quiet =
        subst (λ us. Told t.a t.b inner [] (length pre) (2 + length (data_of w n)) us []) (sym (text-sifted w (numbers_of (walk pre [])) t.a t.b (length pre) n (data_of w n) kind))
        (elim (same_or range.start.node n) [
          | same d v ↦
              let o = offset-in range.start n d is_range.starts.within long in
              let c = end-in range.start t.a pre n post h first d o t.starts in
              let e : range.end.node ≡ n = sym one ∙ d in
              let g = end-in range.end t.b pre n post h first e (offset-in range.end n e is_range.ends.within long) t.ends in
              told-both t.a t.b (length pre) t.le (data_of w n) range.start.offset range.end.offset inner c o g (inner_is d)
          | apart ne v ↦
              elim (aside pre n post h first range.start t.a t.starts v) [
                | inl near ↦
                    elim (aside pre n post h first range.end t.b t.ends (subst (λ (m : ℕ). (m == n) ≡ false) one v)) [
                      | inl close ↦ told-ahead t.a t.b (length pre) t.le (data_of w n) inner [] quiet_start close (λ e. refl)
                      | inr beyond ↦ absurd (not_across ne near beyond)
                    ]
                | inr beyond ↦ told-behind t.a t.b (length pre) t.le (data_of w n) inner [] beyond
              ]
        ])
      where
        quiet_start : t.a ≡ length pre → inner ≡ []
        quiet_start e = quiet.starts (ahead-here pre n post h range.start t.a t.starts e)

        inner_is : range.start.node ≡ n → inner ≡ take (range.end.offset - range.start.offset) (drop range.start.offset (data_of w n))
        inner_is d = ap (λ m. text_part w m range.start.offset (range.end.offset - range.start.offset)) d ∙ (rw kind refl)

        -- no other Text stands between two points of one
        not_across : (range.start.node ≡ n → ⊥) → t.a ≤ length pre → length pre + (2 + length (data_of w n)) ≤ t.b → ⊥
        not_across ne near beyond =
            let us = data_of w range.start.node in
            let whole = found.whole in
            let free = unopened-ahead found.ahead range.start.node (unit_tokens no_marks range.start.node 0 us ++ (Close ∷ found.behind)) found.whole in
            let long_there = text-long range.start.node text_there in
            let e : range.end.node ≡ range.start.node = sym one in
            let c = end-in range.start t.a found.ahead range.start.node found.behind found.whole free refl (offset-in range.start range.start.node refl is_range.starts.within long_there) t.starts in
            let l = offset-in range.end range.start.node e is_range.ends.within long_there in
            let g = end-in range.end t.b found.ahead range.start.node found.behind found.whole free e l t.ends in
            let here = ap (tokens_ahead (point n 0) []) h ∙ leaf-gap pre n (data_of w n) post first 0 (omega arith) in
            let u : (n == range.start.node) ≡ false = ne_eqb n range.start.node (λ d. ne (sym d)) in
            elim (leaf-aside found.ahead range.start.node us found.behind free (point n 0) (length pre + 1) u (sym (ap (tokens_ahead (point n 0) []) found.whole) ∙ here)) [
              | inl before ↦ omega arith
              | inr after ↦ omega arith
            ]

    -- What the text of the root tells.

    not_contained : (m : ℕ) → (root_of w.forest m ≡ Some root → ⊥) → contained_in w range m ≡ false
    not_contained m h =
        let other : is_same (root_of w.forest m) (Some root) ≡ false = grind (arith, nat_tests) in
        let e : is_same (root_of w.forest m) (root_of w.forest range.start.node) ≡ false = ap (λ (o : Option ℕ). is_same (root_of w.forest m) o) rooted ∙ other in
        rw e refl

    held-in_tree : held_data w (contained_in w range) (numbers w.forest) ≡ held_data w (contained_in w range) (t.tree.top.number ∷ numbers t.tree.kids)
    held-in_tree =
        let tree = t.tree.top.number ∷ numbers t.tree.kids in
        let ahead = held-none w (contained_in w range) t.tree.ahead (λ m k. not_contained m (t.tree.not_ahead m k)) in
        let behind = held-none w (contained_in w range) t.tree.behind (λ m k. not_contained m (t.tree.not_behind m k)) in
        ap (held_data w (contained_in w range)) t.tree.listed
        ∙ held-append w (contained_in w range) t.tree.ahead (tree ++ t.tree.behind)
        ∙ (rw (ahead, held-append w (contained_in w range) tree t.tree.behind, behind) (append-nil (held_data w (contained_in w range) tree)))

    sifted-between : ((n : ℕ) → range.start.node ≡ n → range.end.node ≡ n → is_of_kind Text w.forest n ≡ true → ⊥) → sifted w [] t.a t.b (root_text w.forest root) ≡ text_between w range
    unfolding front back
    sifted-between far =
        root-tells w t.a t.b t.le range.start range.end front back (contained_in w range) (root_text w.forest root) t.starts t.ends once-opened (λ h. rw h refl) (λ h. rw h refl) (texts-tell far) None t.tree.top t.tree.kids t.tree.text t.tree.entry t.tree.lies t.tree.alone t.tree.less
        ∙ ap (λ us. front ++ (us ++ back)) (sym held-in_tree)

    sifted-inner : range.start.node ≡ range.end.node → is_of_kind Text w.forest range.start.node ≡ true → sifted w [] t.a t.b (root_text w.forest root) ≡ text_part w range.start.node range.start.offset (range.end.offset - range.start.offset)
    unfolding inner
    sifted-inner one kind =
        let found = subst (HasData range.start.node (data_of w range.start.node)) (sym t.tree.text) (data-found w range.start.node kind None t.tree.top t.tree.kids t.tree.entry t.tree.lies t.tree.alone t.tree.less (t.tree.within range.start.node rooted)) in
        root-tells w t.a t.b t.le range.start range.end inner [] (λ _. false) (root_text w.forest root) t.starts t.ends once-opened (λ h. rw h refl) (λ h. refl) (texts-tell_one one kind found) None t.tree.top t.tree.kids t.tree.text t.tree.entry t.tree.lies t.tree.alone t.tree.less
        ∙ ap (λ us. inner ++ (us ++ [])) (held-none w (λ _. false) (t.tree.top.number ∷ numbers t.tree.kids) (λ m k. refl))
        ∙ append-nil inner

    sifted-range : sifted w [] t.a t.b (root_text w.forest root) ≡ range_text w range
    sifted-range =
        elim (same_or range.start.node range.end.node) [
          | same d v ↦ rw v (cond_both (is_of_kind Text w.forest range.start.node) _ _ (λ us. sifted w [] t.a t.b (root_text w.forest root) ≡ us) (sifted-inner d)
              (λ k. sifted-between (λ n x y i. false≢true (sym k ∙ subst (λ m. is_of_kind Text w.forest m ≡ true) (sym x) i))))
          | apart ne v ↦ rw v (sifted-between (λ n x y k. ne (x ∙ sym y)))
        ]

    -- the marked text of the root
    pub marked-text : text_among root (texts_of w) ≡ dressed (marks_from 0 w.ranges) [] (root_text w.forest root)
    marked-text = ap (text_among root) (dressed-texts (marks_from 0 w.ranges) w.forest) ∙ dressed-among (marks_from 0 w.ranges) root (token_texts no_marks w.forest)

    pub bare-text : NoMarks (root_text w.forest root)
    bare-text = subst NoMarks (sym t.tree.text) (no_marks-own t.tree.top t.tree.kids)

    told-range : (r : ℕ) → range_at w r ≡ Some range → text_of_range w r (text_among root (texts_of w)) ≡ range_text w range
    told-range r h =
        let m = marking w r range h in
        ap (text_of_range w r) marked-text
        ∙ ap (λ ns. text_units w ns (between r (dressed (marks_from 0 w.ranges) [] (root_text w.forest root)))) (open-around r range.start range.end (marks_from 0 w.ranges) m [] (root_text w.forest root) t.a bare-text t.starts ∙ numbers-walk (take t.a (root_text w.forest root)) [])
        ∙ ap (text_units w (open_past_all (take t.a (root_text w.forest root)) [])) (between-gaps r range.start range.end (marks_from 0 w.ranges) m [] (root_text w.forest root) t.a t.b bare-text t.starts t.ends t.le)
        ∙ sifted-part w [] t.a t.b (root_text w.forest root) t.le
        ∙ sifted-range

-- The text of a live range of a sound world is the units of Texts that lie between its two markers, in the token text of its root.
pub range_text-between : (w : World) (r root : ℕ) (range : Range) → IsSound w → range_at w r ≡ Some range → root_of w.forest range.start.node ≡ Some root → range_text w range ≡ text_of_range w r (text_among root (texts_of w))
range_text-between w r root range sound h rooted =
    let is_range = sound-range w r range sound h in
    sym (told-range w sound range is_range root rooted (ends_ahead w sound range is_range root rooted) r h)

-- and so the command answers
pub range_text-answered : (b : Bounds) (w : World) (r root : ℕ) (range : Range) → IsSound w → range_at w r ≡ Some range → root_of w.forest range.start.node ≡ Some root → (answer b w (RangeText r)).reply ≡ Done (Units (text_of_range w r (text_among root (texts_of w))))
range_text-answered b w r root range sound h rooted =
    ap (λ (o : Option Range). (guarded ((is_none o, Own NoSuchObject) ∷ []) w (on_range o w (λ x. answers (Units (range_text w x)) w))).reply) h
    ∙ ap (λ us. Done (Units us)) (range_text-between w r root range sound h rooted)
