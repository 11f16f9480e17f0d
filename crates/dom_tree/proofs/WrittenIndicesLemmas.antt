-- The indices of children written one after another.
use Rattle.std.proofs.Common.{◌≡◌, ℕ, suc, ◌+◌, ◌-◌, ◌<◌, ◌≤◌, min, max, true, false, List, length, Option, Some, None, IsSome, refl, ap, sym, ◌∙◌, subst, arith, add-one, ⊎_elim, slice_get}
use Rattle.std.proofs.lemmas.Bool.{cases_lt}
use Rattle.dom_model.specs.Definitions.{hits, after, before, place_in, Arena, Entry, entry_at, names, parent_in, children_in, list_under, siblings_in, next_in, previous_in, IsHeld, Node}
use Rattle.dom_model.specs.Forests.Arena.{IsSound}
use Rattle.dom_model.proofs.PlainLists.{Numbers.same_or, Numbers.same, Numbers.apart, Members.hits-before, Places.place-there}
use Rattle.dom_model.proofs.Forests.{Changes.seen, Changes.nothing, Changes.just, Chains.place-apart, Siblings.after-get, Siblings.hits-get, Siblings.place-before, Siblings.place-first}
use Rattle.dom_tree.specs.{Slots.Kept, Slots.with_sure, Slots.unknown, Slots.IsIndexCached, Slots.nodes_alone, Slots.index_in, Slots.sure_in, Slots.reach_in, Slots.indexed, Slots.assured, Slots.IsCounted, CachedIndices.cached_index, CachedIndices.IsWritten, CachedIndices.IsNumbered}
use Rattle.dom_tree.proofs.{Nodes.parent-nodes, Nodes.children-nodes, Nodes.held-nodes, Nodes.held-back, Nodes.indexed-nodes, Nodes.assured-nodes, Nodes.room-altered, PlaceInLemmas.get-place, PlaceInLemmas.get-within, PlaceInLemmas.place-get, CachedIndexLemmas.children-once, CachedIndexLemmas.altered-children, CachedIndexLemmas.indexed-index, CachedIndexLemmas.indexed-other, CachedIndexLemmas.indexed-sure, CachedIndexLemmas.indexed-reach, CachedIndexLemmas.assured-sure, CachedIndexLemmas.assured-reach, CachedIndexLemmas.assured-other, CachedIndexLemmas.assured-far, CachedIndexLemmas.assured-index, OwnedSlots.indexed-owned, OwnedSlots.assured-owned}
use Rattle.dom_links.proofs.UnlinkLemmas.{names-same, names-other}

module _ {X : Type 0} where
  pub children-same : (a b : Arena (Kept X)) → nodes_alone a ≡ nodes_alone b → (n : ℕ) → children_in (entry_at a n) ≡ children_in (entry_at b n)
  children-same a b e n = sym (children-nodes a n) ∙ ap (λ (d : Arena (Node X)). children_in (entry_at d n)) e ∙ children-nodes b n

  pub parent-same : (a b : Arena (Kept X)) → nodes_alone a ≡ nodes_alone b → (n : ℕ) → parent_in (entry_at a n) ≡ parent_in (entry_at b n)
  parent-same a b e n = sym (parent-nodes a n) ∙ ap (λ (d : Arena (Node X)). parent_in (entry_at d n)) e ∙ parent-nodes b n

  pub held-same : (a b : Arena (Kept X)) → nodes_alone a ≡ nodes_alone b → (n : ℕ) → IsHeld b n → IsHeld a n
  held-same a b e n h = held-back a n (subst (λ (d : Arena (Node X)). IsHeld d n) (sym e) (held-nodes b n h))

  -- how far the children have been written from a place on, and the next one
  pub record IsWriting (start now : Arena (Kept X)) (p from place until : ℕ) (tell : ℕ → ℕ) (next : Option ℕ) : Type 0 where
    pub so_far : IsWritten start now p from place tell
    pub ahead : next ≡ slice_get (children_in (entry_at start p)) place
    pub since : from ≤ place
    pub up_to : place ≤ until

  -- a child so many places ahead of another, on the way to so many steps
  pub record IsAhead (start : Arena (Kept X)) (p child here passed steps : ℕ) : Type 0 where
    pub listed : 0 < hits here (children_in (entry_at start p))
    pub at : place_in here (children_in (entry_at start p)) + passed ≡ place_in child (children_in (entry_at start p))
    pub up_to : passed ≤ steps

module _ {X : Type 0} {start : Arena (Kept X)} (l : IsSound start) (p : ℕ) where
  abbrev list : List ℕ
  list = children_in (entry_at start p)

  pub once : (x : ℕ) → hits x list ≤ 1
  once = children-once (entry_at start) l.linked p

  pub under : (c : ℕ) → 0 < hits c list → parent_in (entry_at start c) ≡ Some p
  under c listed = go (parent_in (entry_at start c)) (omega (arith, l.linked p c, listed))
    where
      go : (o : Option ℕ) → 0 < names o p → o ≡ Some p
      go None h = absurd (omega arith)
      go (Some q) h = elim (same_or q p) [ same e t ↦ ap Some e | apart ne t ↦ absurd (let k = rw t at h in omega arith) ]

  -- a child of another is none of these
  pub not_in : (q x : ℕ) → (q ≡ p → ⊥) → 0 < hits x (children_in (entry_at start q)) → hits x list ≡ 0
  not_in q x ne h =
      elim (seen (parent_in (entry_at start x))) [
        | nothing e ↦ absurd (let a = l.linked q x in let b = ap (λ o. names o q) e in omega arith)
        | just r e ↦
            elim (same_or r p) [
              | same d t ↦
                  let far : r ≡ q → ⊥ = λ f. ne (sym f ∙ d) in
                  absurd (let a = l.linked q x in let b = ap (λ o. names o q) e in let c = names-other r q far in omega arith)
              | apart nr t ↦ l.linked p x ∙ ap (λ o. names o p) e ∙ names-other r p nr
            ]
      ]

  pub listed_under : (c : ℕ) → parent_in (entry_at start c) ≡ Some p → 0 < hits c list
  listed_under c e = omega (arith, l.linked p c, ap (λ o. names o p) e, names-same p)

  pub held_under : (c : ℕ) → 0 < hits c list → IsHeld start c
  held_under c listed = go (entry_at start c) (under c listed)
    where
      go : (o : Option (Entry (Kept X))) → parent_in o ≡ Some p → IsSome o
      go None e = absurd (cc e)
      go (Some d) e = refl

  -- A way back along the children.

  pub ahead-start : (child steps : ℕ) → parent_in (entry_at start child) ≡ Some p → IsAhead start p child child 0 steps
  ahead-start child steps e = record { listed = listed_under child e; at = omega arith; up_to = omega arith }

  module _ {child here passed steps : ℕ} (w : IsAhead start p child here passed steps) where
    pub ahead-held : IsHeld start here
    ahead-held = held_under here w.listed

    pub before_here : previous_in (entry_at start) here ≡ before here list
    before_here = ap (λ o. before here (list_under (entry_at start) o)) (under here w.listed)

    pub ahead-there : passed < steps → steps ≤ place_in child list → IsSome (previous_in (entry_at start) here)
    ahead-there lt le = rw before_here (go (before here list) refl)
      where
        go : (o : Option ℕ) → before here list ≡ o → IsSome o
        go None e = absurd (let i = place-first here list w.listed e in let j = w.at in omega arith)
        go (Some m) e = refl

    pub ahead-next : passed < steps → (m : ℕ) → previous_in (entry_at start) here ≡ Some m → IsAhead start p child m (passed + 1) steps
    ahead-next lt m e =
        let k : before here list ≡ Some m = sym before_here ∙ e in
        let i = place-before here m list once k in
        record {
          listed = ⊎_elim (λ (q : None ≡ Some m). absurd (cc q)) (λ (q : 0 < hits m list). q) (hits-before None here list m k);
          at = (let j = w.at in omega arith);
          up_to = omega arith;
        }

    pub ahead-end : steps ≤ passed → slice_get list (place_in child list - steps) ≡ Some here
    ahead-end le =
        let i : place_in child list - steps ≡ place_in here list = (let j = w.at in let k = w.up_to in omega arith) in
        ap (slice_get list) i ∙ place-get list here w.listed

  -- Indices written.

  pub writing-start : (from until : ℕ) (tell : ℕ → ℕ) (next : Option ℕ) → next ≡ slice_get list from → from ≤ until → IsWriting start start p from from until tell next
  writing-start from until tell next e le =
      record {
        so_far = record {
          nodes = refl;
          written = λ x h a b. absurd (omega arith);
          untouched = λ x h. refl;
          sures = λ s. refl;
          reaches = λ s. refl;
          room = refl;
          owned = λ s. refl;
        };
        ahead = e;
        since = omega arith;
        up_to = le;
      }

  module _ {now : Arena (Kept X)} {from place until : ℕ} {tell : ℕ → ℕ} {next : Option ℕ} (w : IsWriting start now p from place until tell next) where
    pub writing-there : place < until → until ≤ length list → IsSome next
    writing-there h le = rw w.ahead (get-within list place (omega arith))

    module _ (c : ℕ) (ec : next ≡ Some c) where
      got : slice_get list place ≡ Some c
      got = sym w.ahead ∙ ec

      listed : 0 < hits c list
      listed = hits-get list place c got

      place_c : place_in c list ≡ place
      place_c = get-place list place c once got

      pub writing-held : IsHeld now c
      writing-held = held-same now start w.so_far.nodes c (held_under c listed)

      pub writing-still : (now' : Arena (Kept X)) (i : ℕ) → now' ≡ indexed now c i → IsHeld now' c
      writing-still now' i e = held-same now' now (ap nodes_alone e ∙ indexed-nodes now c i) c writing-held

      pub writing-next : place < until → (i : ℕ) → i ≡ tell place → (now' : Arena (Kept X)) → now' ≡ indexed now c i → (next' : Option ℕ) → next' ≡ next_in (entry_at now') c → IsWriting start now' p from (place + 1) until tell next'
      writing-next lt i ei now' e next' en =
          record {
            so_far = record {
              nodes = n;
              written = rw e written;
              untouched = rw e untouched;
              sures = rw e (λ s. indexed-sure now c i s ∙ w.so_far.sures s);
              reaches = rw e (λ s. indexed-reach now c i s ∙ w.so_far.reaches s);
              room = ap (λ (d : Arena (Kept X)). length d.slots) e ∙ room-altered _ now c ∙ w.so_far.room;
              owned = rw e (λ s. indexed-owned now c i s ∙ w.so_far.owned s);
            };
            ahead = en ∙ ap (after c) siblings ∙ after-get list place c once got ∙ ap (slice_get list) (sym (add-one place));
            since = (let k = w.since in omega arith);
            up_to = omega arith;
          }
        where
          n : nodes_alone now' ≡ nodes_alone start
          n = ap nodes_alone e ∙ indexed-nodes now c i ∙ w.so_far.nodes

          siblings : siblings_in (entry_at now') c ≡ list
          siblings = ap (list_under (entry_at now')) (parent-same now' start n c ∙ under c listed) ∙ children-same now' start n p

          written : (x : ℕ) → 0 < hits x list → from ≤ place_in x list → place_in x list < place + 1 → index_in (entry_at (indexed now c i) x) ≡ tell (place_in x list)
          written x hx a lt2 =
              elim (same_or x c) [
                | same d t ↦ ap (λ m. index_in (entry_at (indexed now c i) m)) d ∙ indexed-index now c i writing-held ∙ ei ∙ ap tell (sym place_c ∙ ap (λ m. place_in m list) (sym d))
                | apart ne t ↦
                    let far : place_in x list ≡ place → ⊥ = λ f. ne (place-apart x c list hx (f ∙ sym place_c)) in
                    indexed-other now c i x ne ∙ w.so_far.written x hx a (omega arith)
              ]

          untouched : (x : ℕ) → (0 < hits x list → from ≤ place_in x list → place + 1 ≤ place_in x list) → index_in (entry_at (indexed now c i) x) ≡ index_in (entry_at start x)
          untouched x h =
              let ne : x ≡ c → ⊥ = λ d. (let k = h (subst (λ m. 0 < hits m list) (sym d) listed) in let pl : place_in x list ≡ place = ap (λ m. place_in m list) d ∙ place_c in let k2 = k (let q = w.since in omega arith) in omega arith) in
              indexed-other now c i x ne ∙ w.so_far.untouched x (λ hx a. let k = h hx a in omega arith)

    pub writing-end : until ≤ place → IsWritten start now p from until tell
    writing-end le =
        let e : place ≡ until = (let k = w.up_to in omega arith) in
        subst (λ m. IsWritten start now p from m tell) e w.so_far

  -- What is known once those up to a child were written, and those behind it were made unknown.

  module _ (k : IsCounted (entry_at start)) (hp : IsHeld start p) (child from index count until : ℕ) (under_p : parent_in (entry_at start child) ≡ Some p) (ei : index ≡ place_in child list) (ef : from ≡ min index (sure_in (entry_at start p))) (ec : count ≡ length list) (small : count ≤ unknown) where
    child_listed : 0 < hits child list
    child_listed = listed_under child under_p

    pub index-within : index < count
    index-within = omega (arith, ei, ec, place-there child list child_listed)

    module _ {mid : Arena (Kept X)} (w : IsWritten start mid p from (index + 1) (cached_index true)) where
      pub next-ahead : (next : Option ℕ) → next ≡ next_in (entry_at mid) child → next ≡ slice_get (children_in (entry_at mid p)) (index + 1)
      next-ahead next e =
          let n = w.nodes in
          let siblings : siblings_in (entry_at mid) child ≡ list = ap (list_under (entry_at mid)) (parent-same mid start n child ∙ under_p) ∙ children-same mid start n p in
          let k : suc (place_in child list) ≡ index + 1 = (let i = ei in omega arith) in
          e ∙ ap (after child) siblings ∙ after-get list (place_in child list) child once (place-get list child child_listed) ∙ ap (slice_get list) k ∙ ap (λ ns. slice_get ns (index + 1)) (sym (children-same mid start n p))

      pub mid-held : IsHeld mid p
      mid-held = held-same mid start w.nodes p hp

      pub numbered : until ≡ max (min (reach_in (entry_at start p)) count) (index + 1) → {last : Arena (Kept X)} → IsWritten mid last p (index + 1) until (cached_index false) → (done : Arena (Kept X)) → done ≡ assured last p (index + 1) (index + 1) → IsNumbered start done p child
      numbered eu {last} v done e = rw e (record {
        nodes = assured-nodes last p (index + 1) (index + 1) ∙ n;
        counted = counted;
        elsewhere = λ x z. assured-index last p (index + 1) (index + 1) x ∙ elsewhere x z;
        far = λ q ne. assured-far last p (index + 1) (index + 1) q ne ∙ v.reaches q ∙ w.reaches q;
        known = (let i = ei in let j = assured-sure last p (index + 1) (index + 1) held_last in omega arith);
        room = room-altered _ last p ∙ v.room ∙ w.room;
        owned = λ s. assured-owned last p (index + 1) (index + 1) s ∙ v.owned s ∙ w.owned s;
      })
        where
          s : ℕ
          s = index + 1

          n : nodes_alone last ≡ nodes_alone start
          n = v.nodes ∙ w.nodes

          held_last : IsHeld last p
          held_last = held-same last start n p hp

          mid_list : children_in (entry_at mid p) ≡ list
          mid_list = children-same mid start w.nodes p

          lists : (q : ℕ) → children_in (entry_at (assured last p s s) q) ≡ children_in (entry_at start q)
          lists q = altered-children (with_sure s s) last p q ∙ children-same last start n q

          -- a child up to the one that is asked for
          right : (x : ℕ) → 0 < hits x list → place_in x list < s → index_in (entry_at last x) ≡ place_in x list
          right x hx lt =
              v.untouched x (λ h a. absurd (let b = ap (place_in x) mid_list in omega arith))
              ∙ ⊎_elim
              (λ (front : place_in x list < from). w.untouched x (λ h a. absurd (omega arith)) ∙ (let t = (k p x hx).0 in let f = ef in omega arith))
              (λ (back : from ≤ place_in x list). w.written x hx back lt)
              (cases_lt (place_in x list) from)

          -- and one behind it
          blank : (x : ℕ) → 0 < hits x list → s ≤ place_in x list → index_in (entry_at last x) ≡ unknown
          blank x hx le =
              let at : place_in x (children_in (entry_at mid p)) ≡ place_in x list = ap (place_in x) mid_list in
              let within = place-there x list hx in
              ⊎_elim
              (λ (lt : place_in x list < until). v.written x (rw mid_list hx) (omega arith) (omega arith))
              (λ (past : until ≤ place_in x list).
              v.untouched x (λ h a. omega arith) ∙ w.untouched x (λ h a. le) ∙ (k p x hx).1 (let f = eu in let g = ec in omega arith))
              (cases_lt (place_in x list) until)

          at_p : (x : ℕ) → 0 < hits x list → IsIndexCached (index_in (entry_at last x)) (place_in x list) s s
          at_p x hx =
              ⊎_elim
              (λ (lt : place_in x list < s). (ap (λ m. min m s) (right x hx lt), λ le. absurd (omega arith)))
              (λ (le : s ≤ place_in x list). let u = blank x hx le in (let i = index-within in let j = small in omega arith, λ _. u))
              (cases_lt (place_in x list) s)

          elsewhere : (x : ℕ) → hits x list ≡ 0 → index_in (entry_at last x) ≡ index_in (entry_at start x)
          elsewhere x z =
              v.untouched x (λ h a. absurd (let b = ap (hits x) mid_list in omega arith)) ∙ w.untouched x (λ h a. absurd (omega arith))

          counted : IsCounted (entry_at (assured last p s s))
          counted q x hx =
              let h : 0 < hits x (children_in (entry_at start q)) = rw (lists q) at hx in
              elim (same_or q p) [
                | same e t ↦
                    subst (λ m. IsIndexCached (index_in (entry_at (assured last p s s) x)) (place_in x (children_in (entry_at (assured last p s s) m))) (sure_in (entry_at (assured last p s s) m)) (reach_in (entry_at (assured last p s s) m))) (sym e)
                    (rw (lists p, assured-sure last p s s held_last, assured-reach last p s s held_last, assured-index last p s s x) (at_p x (subst (λ m. 0 < hits x (children_in (entry_at start m))) e h)))
                | apart ne t ↦
                    rw (lists q, assured-other last p s s q ne ∙ v.sures q ∙ w.sures q, assured-far last p s s q ne ∙ v.reaches q ∙ w.reaches q, assured-index last p s s x ∙ elsewhere x (not_in q x ne h)) (k q x h)
              ]
