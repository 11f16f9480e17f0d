-- The Texts that follow a Text among its siblings, found one after another, and their data.
use Rattle.std.proofs.Common.{◌≡◌, ℕ, zero, suc, ◌+◌, ◌<◌, ◌≤◌, Bool, true, false, if◌then◌else◌, List, [], ◌∷◌, ◌++◌, drop, length, slice_index_or, take_while, Option, Some, None, refl, ap, sym, ◌∙◌, subst, append_assoc, append-nil, length-drop, cond, arith}
use Rattle.std.proofs.lemmas.{List.drop_more, List.Sums.take_while-cons}
use Rattle.dom_model.specs.declared.Kind.TheVariants.{Text}
use Rattle.dom_model.specs.Definitions.{hits, after, head_of, past, list_under, siblings_in, Forest, Grove, IsForest, HasNode, entry_in, parent_of, next_of, Content, is_of_kind, content_in}
use Rattle.dom_model.proofs.PlainLists.Numbers.{same_or, same, apart}
use Rattle.dom_model.proofs.Forests.{Climbing.hits-append, Climbing.hits-first, Indices.child-once, PutBack.hits-after, PutBack.hits-head_of, Listed.front}
use Rattle.dom_tree.proofs.SiblingLemmas.{forward-step}
use Rattle.dom_data.specs.JoinedTexts.{if_text, next_text, texts_behind, data_among}
use Rattle.dom_data.proofs.TextHeldLemmas.{text-held}
use Rattle.dom_model.proofs.Traversal.IteratorSteps.{past-end}

-- What is past a number in a list.

past-after : (n m : ℕ) (l : List ℕ) → hits m l ≤ 1 → after n l ≡ Some m → past n l ≡ m ∷ past m l
past-after n m [] o e = absurd (cc e)
past-after n m (x ∷ xs) o e =
    elim (same_or x n) [
      | same d t ↦
          let k = rw t at e in
          let there = hits-head_of xs m k in
          elim (same_or x m) [
            | same d2 v ↦ absurd (let w = rw v at o in omega arith)
            | apart ne v ↦ rw (t, v) (first xs k)
          ]
      | apart ne t ↦
          let k = rw t at e in
          let there = hits-after n xs m k in
          elim (same_or x m) [
            | same d2 v ↦ absurd (let w = rw v at o in omega arith)
            | apart ne2 v ↦ rw (t, v) (past-after n m xs (let w = rw v at o in omega arith) k)
          ]
    ]
  where
    first : (ys : List ℕ) → head_of ys ≡ Some m → ys ≡ m ∷ past m ys
    first [] h = absurd (cc h)
    first (z ∷ zs) h =
        let d : z ≡ m = cc h in
        elim (same_or z m) [ same _ t ↦ rw t (ap (λ k. k ∷ zs) d) | apart ne t ↦ absurd (ne d) ]

-- What a step finds.

pub found-next : (f : Forest Content) (n m : ℕ) → next_text f n ≡ Some m → next_of f n ≡ Some m
found-next f n m e = go (next_of f n) e
  where
    test : (d : ℕ) (v : Bool) → (if v then Some d else None) ≡ Some m → Some d ≡ Some m
    test d true k = k
    test d false k = absurd (cc k)

    go : (o : Option ℕ) → if_text f o ≡ Some m → o ≡ Some m
    go None k = absurd (cc k)
    go (Some d) k = test d (is_of_kind Text f d) k

found-text : (f : Forest Content) (n m : ℕ) → next_text f n ≡ Some m → is_of_kind Text f m ≡ true
found-text f n m e = go (next_of f n) e
  where
    test : (d : ℕ) (v : Bool) → is_of_kind Text f d ≡ v → (if v then Some d else None) ≡ Some m → is_of_kind Text f m ≡ true
    test d true t k = let i : d ≡ m = cc k in ap (is_of_kind Text f) (sym i) ∙ t
    test d false t k = absurd (cc k)

    go : (o : Option ℕ) → if_text f o ≡ Some m → is_of_kind Text f m ≡ true
    go None k = absurd (cc k)
    go (Some d) k = test d (is_of_kind Text f d) refl k

none-while : (f : Forest Content) (n : ℕ) (all : List ℕ) → ((m : ℕ) → hits m all ≤ 1) → if_text f (after n all) ≡ None → take_while (is_of_kind Text f) (past n all) ≡ []
none-while f n all once e = go (after n all) refl e
  where
    test : (d : ℕ) (v : Bool) → is_of_kind Text f d ≡ v → (if v then Some d else None) ≡ None → is_of_kind Text f d ≡ false
    test d true t k = absurd (cc k)
    test d false t k = t

    go : (o : Option ℕ) → after n all ≡ o → if_text f o ≡ None → take_while (is_of_kind Text f) (past n all) ≡ []
    go None a k = ap (take_while (is_of_kind Text f)) (past-end n all a)
    go (Some d) a k =
        ap (take_while (is_of_kind Text f)) (past-after n d all (once d) a)
        ∙ take_while-cons (is_of_kind Text f) d (past d all)
        ∙ ap (λ v. cond v (d ∷ take_while (is_of_kind Text f) (past d all)) []) (test d (is_of_kind Text f d) refl k)

-- the walk has come to a sibling, and the list has the Texts up to it
pub record IsFollowing (f : Forest Content) (n here : ℕ) (texts : List ℕ) : Type 0 where
  pub there : HasNode f here
  pub beside : siblings_in (entry_in f) here ≡ siblings_in (entry_in f) n
  pub told : texts_behind f n ≡ texts ++ take_while (is_of_kind Text f) (past here (siblings_in (entry_in f) n))

module _ (g : Grove Content) (s : IsForest g) (n : ℕ) where
  abbrev all : List ℕ
  all = siblings_in (entry_in g.forest) n

  once : (m : ℕ) → hits m all ≤ 1
  once m = go (parent_of g.forest n)
    where
      go : (p : Option ℕ) → hits m (list_under (entry_in g.forest) p) ≤ 1
      go None = omega arith
      go (Some p) = child-once g.forest s.once m p

  pub following-first : HasNode g.forest n → (texts : List ℕ) → texts ≡ [] → IsFollowing g.forest n n texts
  following-first h texts e = record {
    there = h;
    beside = refl;
    told = ap (λ ts. ts ++ texts_behind g.forest n) (sym e);
  }

  module _ (here : ℕ) (texts : List ℕ) (i : IsFollowing g.forest n here texts) where
    next-among : next_of g.forest here ≡ after here all
    next-among = ap (after here) i.beside

    module _ (m : ℕ) (e : next_text g.forest here ≡ Some m) where
      past-here : past here all ≡ m ∷ past m all
      past-here = past-after here m all (once m) (sym next-among ∙ found-next g.forest here m e)

      pub following-smaller : length (past m all) < length (past here all)
      following-smaller = let l = ap (λ (ns : List ℕ). length ns) past-here in omega arith

      pub following-next : (grown : List ℕ) → grown ≡ texts ++ m ∷ [] → IsFollowing g.forest n m grown
      following-next grown t =
          let step = forward-step s here m i.there (found-next g.forest here m e) in
          record {
            there = step.1.1;
            beside = ap (list_under (entry_in g.forest)) step.1.0 ∙ i.beside;
            told =
                i.told
                ∙ ap (λ ns. texts ++ take_while (is_of_kind Text g.forest) ns) past-here
                ∙ ap (λ ns. texts ++ ns) (take_while-cons (is_of_kind Text g.forest) m (past m all))
                ∙ ap (λ v. texts ++ cond v (m ∷ take_while (is_of_kind Text g.forest) (past m all)) []) (found-text g.forest here m e)
                ∙ sym (append_assoc texts (m ∷ []) (take_while (is_of_kind Text g.forest) (past m all)))
                ∙ ap (λ ts. ts ++ take_while (is_of_kind Text g.forest) (past m all)) (sym t);
          }

    pub following-end : next_text g.forest here ≡ None → texts ≡ texts_behind g.forest n
    following-end e =
        sym (i.told
        ∙ ap (λ ns. texts ++ ns) (none-while g.forest here all once (ap (if_text g.forest) (sym next-among) ∙ e))
        ∙ append-nil texts)

-- all of them are Texts
pub behind-texts : (f : Forest Content) (n m : ℕ) → 0 < hits m (texts_behind f n) → is_of_kind Text f m ≡ true
behind-texts f n m h = (front (is_of_kind Text f) (past n (siblings_in (entry_in f) n))).passes m h

pub behind-held : (f : Forest Content) (n : ℕ) (ts : List ℕ) → ts ≡ texts_behind f n → (m : ℕ) → 0 < hits m ts → HasNode f m
behind-held f n ts e m h = text-held f m (behind-texts f n m (subst (λ ns. 0 < hits m ns) e h))

-- an item of a list stands in it
pub item-listed : (ns : List ℕ) (i x : ℕ) → x ≡ slice_index_or ns i x → i < length ns → 0 < hits x ns
item-listed [] i x is lt = absurd (omega arith)
item-listed (n ∷ ns) zero x is lt = subst (λ m. 0 < hits x (m ∷ ns)) is (hits-first x ns)
item-listed (n ∷ ns) (suc i) x is lt = let k = item-listed ns i x is (omega arith) in let l = hits-append x (n ∷ []) ns in omega arith

-- Their data.

-- the data of the nodes that were passed is in the list
abbrev pub IsAmassed : Forest Content → List ℕ → ℕ → List ℕ → Type 0
IsAmassed f ns i units = data_among f ns ≡ units ++ data_among f (drop i ns)

module _ (f : Forest Content) (ns : List ℕ) where
  pub amassed-first : (units : List ℕ) → units ≡ [] → IsAmassed f ns 0 units
  amassed-first units e = ap (λ us. us ++ data_among f ns) (sym e)

  pub amassed-next : (i x : ℕ) (units grown : List ℕ) → IsAmassed f ns i units → x ≡ slice_index_or ns i x → i < length ns → grown ≡ units ++ (content_in (entry_in f x)).text → IsAmassed f ns (i + 1) grown
  amassed-next i x units grown h is lt e =
      let here = (content_in (entry_in f x)).text in
      h
      ∙ ap (λ ms. units ++ data_among f ms) (drop_more ns i x lt ∙ ap (λ y. y ∷ drop (i + 1) ns) (sym is))
      ∙ sym (append_assoc units here (data_among f (drop (i + 1) ns)))
      ∙ ap (λ us. us ++ data_among f (drop (i + 1) ns)) (sym e)

  no_more : (xs : List ℕ) → length xs ≡ 0 → xs ≡ []
  no_more [] e = refl
  no_more (x ∷ xs) e = absurd (omega arith)

  pub amassed-end : (i : ℕ) (units : List ℕ) → IsAmassed f ns i units → length ns ≤ i → units ≡ data_among f ns
  amassed-end i units h le =
      sym (h
      ∙ ap (λ ms. units ++ data_among f ms) (no_more (drop i ns) (let l = length-drop i ns in omega arith))
      ∙ append-nil units)
