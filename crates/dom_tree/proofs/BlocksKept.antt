-- Children stay in their blocks over each change of the store.
use Rattle.std.proofs.Common.{◌≡◌, ℕ, ◌+◌, ◌-◌, ◌<◌, ◌≤◌, ◌==◌, ◌^◌, min, true, false, if◌then◌else◌, List, [], ◌∷◌, length, Option, Some, None, option_map, IsSome, refl, ap, sym, ◌∙◌, subst, arith, ⊎_elim, slice_get}
use Rattle.std.proofs.lemmas.Bool.{cases_lt}
use Rattle.dom_model.specs.Definitions.{hits, is_number, entered, left_out, last_of, place_in, Arena, Entry, entry_at, names, parent_in, children_in, with_value, linked, unlinked, altered, added, taken, next_slot, IsLinked, IsHeld}
use Rattle.dom_model.specs.Forests.Arena.{IsSound}
use Rattle.dom_model.proofs.PlainLists.{Numbers.same_or, Numbers.same, Numbers.apart, Places.place_before, Places.place-there}
use Rattle.dom_model.proofs.Forests.{Changes.seen, Changes.nothing, Changes.just, Changes.cut_at, Lying.left_out-absent, Siblings.hits-get}
use Rattle.dom_tree.specs.{Slots.Kept, Slots.with_index, Slots.with_sure, Slots.unknown, Slots.IsIndexCached, Slots.index_in, Slots.sure_in, Slots.reach_in, Slots.indexed, Slots.assured, Slots.IsCounted, CachedIndices.index_put, CachedIndices.sure_put, CachedIndices.reach_put, CachedIndices.numbered_put, CachedIndices.numbered_cut_from, CachedIndices.numbered_cut, CachedIndices.IsWritten, CachedIndices.IsNumbered, Blocks.count_ahead, Blocks.raised, Blocks.lowered, Blocks.counts_in, Blocks.counts_but, Blocks.AreFilled, Blocks.FitsBlocks, Blocks.StandsInBlocks, Blocks.AreBlocked, Blocks.block_of, Blocks.block_beside, Blocks.block_put, Blocks.unsure, Blocks.blocked_put, Blocks.block_at, Blocks.IsInBlocks, Blocks.IsRenumbered}
use Rattle.dom_tree.proofs.{PlaceInLemmas.get-place, PlaceInLemmas.get-within, SiblingLemmas.get-last, StoreEntryLemmas.linked-at, StoreEntryLemmas.unlinked-at, StoreEntryLemmas.added-old, StoreEntryLemmas.taken-other, CachedIndexLemmas.children-once, CachedIndexLemmas.altered-children, CachedIndexLemmas.altered-parent, CachedIndexLemmas.altered-part, CachedIndexLemmas.indexed-index, CachedIndexLemmas.indexed-other, CachedIndexLemmas.indexed-sure, CachedIndexLemmas.indexed-reach, CachedIndexLemmas.assured-sure, CachedIndexLemmas.assured-reach, CachedIndexLemmas.assured-other, CachedIndexLemmas.assured-far, CachedIndexLemmas.assured-index, CachedIndexLemmas.hits-entered, CachedIndexLemmas.link-index, CachedIndexLemmas.link-reach, CachedIndexLemmas.link-children, CachedIndexLemmas.cut-index, CachedIndexLemmas.cut-reach, CachedIndexLemmas.cut-children, CachedIndexLemmas.some-altered, CachedIndexLemmas.linked-under, CachedIndexLemmas.held-linked, Nodes.indexed-nodes, Nodes.assured-nodes, Nodes.room-altered, OwnedSlots.indexed-owned, OwnedSlots.assured-owned, WrittenIndicesLemmas.children-same, WrittenIndicesLemmas.held-same, WrittenIndicesLemmas.not_in, BlockCountLemmas.ahead-first, BlockCountLemmas.fits-entered, BlockCountLemmas.fits-left_out, BlockCountLemmas.fits-filled, MapTable.blocks, MapTable.but-here, MapTable.but-other}
use Rattle.dom_links.proofs.UnlinkLemmas.{names-same, names-other}

raised-some : (cs : List ℕ) (r : ℕ) → 0 < length (raised cs r) → 0 < length cs
raised-some [] r h = h
raised-some (c ∷ cs) r h = omega arith

lowered-some : (cs : List ℕ) (r : ℕ) → 0 < length (lowered cs r) → 0 < length cs
lowered-some [] r h = h
lowered-some (c ∷ cs) r h = omega arith

none-unknown : 0 ≡ unknown → ⊥
none-unknown e = omega arith

module _ {X : Type 0} where
  -- a parent whose children, their indices and whose reach are as they were
  stands-same : (at at' : ℕ → Option (Entry (Kept X))) (p : ℕ) (counts : List ℕ) → children_in (at' p) ≡ children_in (at p) → reach_in (at' p) ≡ reach_in (at p) → ((c : ℕ) → 0 < hits c (children_in (at p)) → index_in (at' c) ≡ index_in (at c)) → StandsInBlocks at counts p → StandsInBlocks at' counts p
  stands-same at at' p counts hc hr hi s =
      record {
        fits = record {
          since = λ x hx. (let h : 0 < hits x (children_in (at p)) = rw hc at hx in rw (hc, hi x h) (s.fits.since x h));
          until = λ x hx. (let h : 0 < hits x (children_in (at p)) = rw hc at hx in rw (hc, hi x h) (s.fits.until x h));
        };
        reach = hr ∙ s.reach;
      }

  -- the contents of a node written over, with its index and its reach
  pub blocked-altered : (f : Kept X → Kept X) → ((k : Kept X) → (f k).index ≡ k.index) → ((k : Kept X) → (f k).reach ≡ k.reach) → (a : Arena (Kept X)) (n : ℕ) (table : List (ℕ × List ℕ)) → AreBlocked (entry_at a) table → AreBlocked (entry_at (altered (λ (e : Entry (Kept X)). with_value (f e.value) e) a n)) table
  blocked-altered f hi hr a n table k p h =
      stands-same (entry_at a) (entry_at (altered (λ (e : Entry (Kept X)). with_value (f e.value) e) a n)) p (counts_in table p) (altered-children f a n p) (altered-part reach_in f reaches a n p) (λ c _. altered-part index_in f indices a n c) (k p h)
    where
      reaches : (o : Option (Entry (Kept X))) → reach_in (option_map (λ (e : Entry (Kept X)). with_value (f e.value) e) o) ≡ reach_in o
      reaches None = refl
      reaches (Some e) = hr e.value

      indices : (o : Option (Entry (Kept X))) → index_in (option_map (λ (e : Entry (Kept X)). with_value (f e.value) e) o) ≡ index_in o
      indices None = refl
      indices (Some e) = hi e.value

  -- what has blocks is held
  blocked-held : (at : ℕ → Option (Entry (Kept X))) (counts : List ℕ) (p : ℕ) → StandsInBlocks at counts p → IsSome (at p)
  blocked-held at counts p s =
      elim (seen (at p)) [
        | nothing e ↦ absurd (none-unknown (ap reach_in (sym e) ∙ s.reach))
        | just d e ↦ rw e refl
      ]

  -- each child's kept index tells what it is to tell where one parent's children have none
  pub counted-unsure : (at at' : ℕ → Option (Entry (Kept X))) (p : ℕ) → ((q : ℕ) → children_in (at' q) ≡ children_in (at q)) → ((x : ℕ) → hits x (children_in (at p)) ≡ 0 → index_in (at' x) ≡ index_in (at x)) → sure_in (at' p) ≡ 0 → reach_in (at' p) ≡ unknown → ((q : ℕ) → (q ≡ p → ⊥) → sure_in (at' q) ≡ sure_in (at q)) → ((q : ℕ) → (q ≡ p → ⊥) → reach_in (at' q) ≡ reach_in (at q)) → length (children_in (at p)) ≤ unknown → ((q x : ℕ) → (q ≡ p → ⊥) → 0 < hits x (children_in (at q)) → hits x (children_in (at p)) ≡ 0) → IsCounted at → IsCounted at'
  counted-unsure at at' p hc hi sp rp hs hr few far k q x hx =
      elim (same_or q p) [
        | same e t ↦
            let h : 0 < hits x (children_in (at p)) = subst (λ m. 0 < hits x (children_in (at m))) e (rw (hc q) at hx) in
            let i = place-there x (children_in (at p)) h in
            subst (λ m. IsIndexCached (index_in (at' x)) (place_in x (children_in (at' m))) (sure_in (at' m)) (reach_in (at' m))) (sym e)
            (rw (hc p, sp, rp) (omega arith, λ le. absurd (omega arith)))
        | apart ne t ↦
            let h : 0 < hits x (children_in (at q)) = rw (hc q) at hx in
            rw (hc q, hs q ne, hr q ne, hi x (far q x ne h)) (k q x h)
      ]

module _ {X : Type 0} {a : Arena (Kept X)} (l : IsSound a) (table : List (ℕ × List ℕ)) (k : AreBlocked (entry_at a) table) where
  -- a node in a fresh slot
  pub blocked-added : (v : Kept X) → entry_at a (next_slot a) ≡ None → AreBlocked (entry_at (added a v)) table
  blocked-added v fresh p h =
      elim (same_or p (next_slot a)) [
        | same e t ↦ absurd (none-unknown (ap reach_in (sym fresh) ∙ ap (λ m. reach_in (entry_at a m)) (sym e) ∙ (k p h).reach))
        | apart ne t ↦
            stands-same (entry_at a) (entry_at (added a v)) p (counts_in table p) (ap children_in (added-old a v p ne)) (ap reach_in (added-old a v p ne))
            (λ c hc.
            let nc : c ≡ next_slot a → ⊥ = λ d. (let h3 : 0 < hits (next_slot a) (children_in (entry_at a p)) = subst (λ m. 0 < hits m (children_in (entry_at a p))) d hc in omega (arith, h3, l.linked p (next_slot a), ap (λ (o : Option (Entry (Kept X))). names (parent_in o) p) fresh)) in
            ap index_in (added-old a v c nc))
            (k p h)
      ]

  -- a root taken out of its slot, with its blocks
  pub blocked-taken : (n : ℕ) → parent_in (entry_at a n) ≡ None → (table' : List (ℕ × List ℕ)) → ((p : ℕ) → counts_in table' p ≡ counts_but n [] table p) → AreBlocked (entry_at (taken a n)) table'
  blocked-taken n root table' ht p h =
      elim (same_or p n) [
        | same e t ↦ absurd (let z = ap (λ m. length (counts_in table' m)) e ∙ ap length (but-here blocks table' table n [] ht) in omega arith)
        | apart ne t ↦
            let ec = but-other blocks table' table n [] ht p ne in
            let h2 : 0 < length (counts_in table p) = rw ec at h in
            subst (λ counts. StandsInBlocks (entry_at (taken a n)) counts p) (sym ec)
            (stands-same (entry_at a) (entry_at (taken a n)) p (counts_in table p) (ap children_in (taken-other a n p ne)) (ap reach_in (taken-other a n p ne))
            (λ c hc.
            let nc : c ≡ n → ⊥ = λ d. (let h3 : 0 < hits n (children_in (entry_at a p)) = subst (λ m. 0 < hits m (children_in (entry_at a p))) d hc in omega (arith, h3, l.linked p n, ap (λ o. names o p) root)) in
            ap index_in (taken-other a n c nc))
            (k p h2))
      ]

  -- a root put among a parent's children
  module _ (p c : ℕ) (b : Option ℕ) (hp : IsHeld a p) (hc : IsHeld a c) (root : parent_in (entry_at a c) ≡ None) (hb : (q : ℕ) → b ≡ Some q → parent_in (entry_at a q) ≡ Some p) where
    abbrev mid : Arena (Kept X)
    mid = linked a p c b

    abbrev i : ℕ
    i = index_put (entry_at mid) p b

    abbrev s : ℕ
    s = sure_put (entry_at mid) p b i

    abbrev r : ℕ
    r = reach_put (entry_at mid) p b

    abbrev done : Arena (Kept X)
    done = numbered_put (linked a p c b) p c b

    absent : (q : ℕ) → hits c (children_in (entry_at a q)) ≡ 0
    absent q = l.linked q c ∙ ap (λ o. names o q) root

    at_mid : (q : ℕ) → children_in (entry_at done q) ≡ children_in (entry_at mid q)
    at_mid q = altered-children (with_sure s r) (indexed mid c i) p q ∙ altered-children (with_index i) mid c q

    put-elsewhere : (q : ℕ) → (q ≡ p → ⊥) → children_in (entry_at done q) ≡ children_in (entry_at a q)
    put-elsewhere q ne = at_mid q ∙ ap children_in (linked-at a p c b q) ∙ link-children p b c q (entry_at a q) ne

    put-here : children_in (entry_at done p) ≡ entered b c (children_in (entry_at a p))
    put-here = at_mid p ∙ linked-under a p c b hp

    put-indices : (x : ℕ) → (x ≡ c → ⊥) → index_in (entry_at done x) ≡ index_in (entry_at a x)
    put-indices x ne = assured-index (indexed mid c i) p s r x ∙ indexed-other mid c i x ne ∙ ap index_in (linked-at a p c b x) ∙ link-index p b c x (entry_at a x)

    put-reaches : (q : ℕ) → (q ≡ p → ⊥) → reach_in (entry_at done q) ≡ reach_in (entry_at a q)
    put-reaches q ne = assured-far (indexed mid c i) p s r q ne ∙ indexed-reach mid c i q ∙ ap reach_in (linked-at a p c b q) ∙ link-reach p b c q (entry_at a q)

    put-held : (q : ℕ) → IsHeld a q → IsHeld done q
    put-held q h = some-altered _ (indexed mid c i) p q (some-altered _ mid c q (held-linked a p c b q h))

    none-of : (q x : ℕ) → 0 < hits x (children_in (entry_at a q)) → x ≡ c → ⊥
    none-of q x h d = (let h4 : 0 < hits c (children_in (entry_at a q)) = subst (λ m. 0 < hits m (children_in (entry_at a q))) d h in omega (arith, absent q, h4))

    -- its children stand in no blocks
    pub blocked-put_none : block_put (entry_at a) p b ≡ None → AreBlocked (entry_at done) table
    blocked-put_none e q h =
        elim (same_or q p) [
          | same d t ↦ absurd (go (reach_in (entry_at a p)) e (ap (λ m. reach_in (entry_at a m)) (sym d) ∙ (k q h).reach))
          | apart ne t ↦ stands-same (entry_at a) (entry_at done) q (counts_in table q) (put-elsewhere q ne) (put-reaches q ne) (λ x hx. put-indices x (none-of q x hx)) (k q h)
        ]
      where
        go : (reach : ℕ) → (if reach == unknown then Some (block_beside (entry_at a) p b) else None) ≡ None → reach ≡ unknown → ⊥
        go reach e2 d = (let e3 = rw (ap (λ n. n == unknown) d) at e2 in cc e3)

    -- its children stand in blocks
    module _ (block : ℕ) (eb : block_put (entry_at a) p b ≡ Some block) (few : length (children_in (entry_at (linked a p c b) p)) < 2 ^ 32) where
      abbrev f : Arena (Kept X)
      f = blocked_put done p c block

      block-is : block ≡ block_beside (entry_at a) p b
      block-is = go (reach_in (entry_at a p) == unknown) eb
        where
          go : (v : _) → (if v then Some (block_beside (entry_at a) p b) else None) ≡ Some block → block ≡ block_beside (entry_at a) p b
          go true e = (let d : block_beside (entry_at a) p b ≡ block = cc e in sym d)
          go false e = absurd (cc e)

      f-children : (q : ℕ) → children_in (entry_at f q) ≡ children_in (entry_at done q)
      f-children q = altered-children (with_sure 0 unknown) (indexed done c block) p q ∙ altered-children (with_index block) done c q

      f-indices : (x : ℕ) → (x ≡ c → ⊥) → index_in (entry_at f x) ≡ index_in (entry_at done x)
      f-indices x ne = assured-index (indexed done c block) p 0 unknown x ∙ indexed-other done c block x ne

      f-index : index_in (entry_at f c) ≡ block
      f-index = assured-index (indexed done c block) p 0 unknown c ∙ indexed-index done c block (put-held c hc)

      f-held : IsHeld (indexed done c block) p
      f-held = some-altered _ done c p (put-held p hp)

      f-sure : sure_in (entry_at f p) ≡ 0
      f-sure = assured-sure (indexed done c block) p 0 unknown f-held

      f-reach : reach_in (entry_at f p) ≡ unknown
      f-reach = assured-reach (indexed done c block) p 0 unknown f-held

      f-sures : (q : ℕ) → (q ≡ p → ⊥) → sure_in (entry_at f q) ≡ sure_in (entry_at done q)
      f-sures q ne = assured-other (indexed done c block) p 0 unknown q ne ∙ indexed-sure done c block q

      f-reaches : (q : ℕ) → (q ≡ p → ⊥) → reach_in (entry_at f q) ≡ reach_in (entry_at done q)
      f-reaches q ne = assured-far (indexed done c block) p 0 unknown q ne ∙ indexed-reach done c block q

      nb : is_number b c ≡ false
      nb = go b hb
        where
          go : (o : Option ℕ) → ((q : ℕ) → o ≡ Some q → parent_in (entry_at a q) ≡ Some p) → is_number o c ≡ false
          go None h = refl
          go (Some q) h =
              elim (same_or q c) [
                | same d t ↦ absurd (let z : None ≡ Some p = sym root ∙ ap (λ m. parent_in (entry_at a m)) (sym d) ∙ h q refl in cc z)
                | apart _ t ↦ t
              ]

      beside : (o : Option ℕ) → ((q : ℕ) → o ≡ Some q → parent_in (entry_at a q) ≡ Some p) → FitsBlocks (counts_in table p) (λ x. index_in (entry_at a x)) (children_in (entry_at a p)) → (count_ahead (counts_in table p) (block_beside (entry_at a) p o) ≤ place_before o (children_in (entry_at a p))) × (place_before o (children_in (entry_at a p)) ≤ count_ahead (counts_in table p) (block_beside (entry_at a) p o + 1))
      beside (Some q) h ft =
          let hq : 0 < hits q (children_in (entry_at a p)) = omega (arith, l.linked p q, ap (λ o. names o p) (h q refl), names-same p) in
          let u = ft.until q hq in
          (ft.since q hq, omega arith)
      beside None h ft =
          elim (seen (last_of list)) [
            | nothing e ↦
                let z : length list ≡ 0 = none-last e in
                let e2 : block_of (entry_at a) (last_of list) ≡ 0 = ap (block_of (entry_at a)) e in
                let e3 = ap (count_ahead (counts_in table p)) e2 in
                let e4 = ahead-first (counts_in table p) in
                (omega arith, omega arith)
            | just m e ↦
                let g : slice_get list (length list - 1) ≡ Some m = sym (get-last list) ∙ e in
                let hm = hits-get list (length list - 1) m g in
                let pm = get-place list (length list - 1) m (children-once (entry_at a) l.linked p) g in
                let th = place-there m list hm in
                let e2 : block_of (entry_at a) (last_of list) ≡ index_in (entry_at a m) = ap (block_of (entry_at a)) e in
                let e3 = ap (count_ahead (counts_in table p)) e2 in
                let e4 = ap (λ n. count_ahead (counts_in table p) (n + 1)) e2 in
                let lo = ft.since m hm in
                let hi = ft.until m hm in
                (omega arith, omega arith)
          ]
        where
          list : List ℕ
          list = children_in (entry_at a p)

          none-last : last_of list ≡ None → length list ≡ 0
          none-last e =
              ⊎_elim
              (λ (h : 0 < length list). absurd (let w = get-within list (length list - 1) (omega arith) in let g : slice_get list (length list - 1) ≡ None = sym (get-last list) ∙ e in let w2 = rw g at w in cc w2))
              (λ (h : length list ≤ 0). omega arith)
              (cases_lt 0 (length list))

      blocked-put_into : (table' : List (ℕ × List ℕ)) → ((q : ℕ) → counts_in table' q ≡ counts_but p (raised (counts_in table p) block) table q) → AreBlocked (entry_at f) table'
      blocked-put_into table' ht q h =
          elim (same_or q p) [
            | same d t ↦
                let here = but-here blocks table' table p (raised (counts_in table p) block) ht in
                let h1 : 0 < length (raised (counts_in table p) block) = subst (λ cs. 0 < length cs) (ap (counts_in table') d ∙ here) h in
                let ft = (k p (raised-some (counts_in table p) block h1)).fits in
                let bs = beside b hb ft in
                let bs2 = rw (sym block-is) at bs in
                subst (λ m. StandsInBlocks (entry_at f) (counts_in table' m) m) (sym d)
                (subst (λ cs. StandsInBlocks (entry_at f) cs p) (sym here)
                record {
                  fits = subst (FitsBlocks (raised (counts_in table p) block) (λ x. index_in (entry_at f x))) (sym (f-children p ∙ put-here))
                      (fits-entered ft b c block (absent p) nb bs2.0 bs2.1 h1 (λ x. index_in (entry_at f x)) f-index (λ x ne. f-indices x ne ∙ put-indices x ne));
                  reach = f-reach;
                })
            | apart ne t ↦
                let ec = but-other blocks table' table p (raised (counts_in table p) block) ht q ne in
                let h2 : 0 < length (counts_in table q) = rw ec at h in
                subst (λ counts. StandsInBlocks (entry_at f) counts q) (sym ec)
                (stands-same (entry_at a) (entry_at f) q (counts_in table q) (f-children q ∙ put-elsewhere q ne) (f-reaches q ne ∙ put-reaches q ne) (λ x hx. f-indices x (none-of q x hx) ∙ put-indices x (none-of q x hx)) (k q h2))
          ]

      counted-put_into : IsCounted (entry_at done) → IsCounted (entry_at f)
      counted-put_into kc =
          counted-unsure (entry_at done) (entry_at f) p f-children
          (λ x z. f-indices x (λ d. absurd (let in_list = here_hits in let e = ap (λ m. hits m (children_in (entry_at done p))) d in omega arith)))
          f-sure f-reach f-sures f-reaches (let e = ap length (at_mid p) in omega arith)
          (λ q x ne hx. elsewhere q x ne hx) kc
        where
          here_hits : 0 < hits c (children_in (entry_at done p))
          here_hits = subst (λ ns. 0 < hits c ns) (sym put-here) (entered-hits b (children_in (entry_at a p)))
            where
              entered-hits : (o : Option ℕ) (ns : List ℕ) → 0 < hits c (entered o c ns)
              entered-hits o [] = elim (same_or c c) [ same _ t ↦ rw t (omega arith) | apart ne t ↦ absurd (ne refl) ]
              entered-hits o (n ∷ ns) =
                  elim (is_number o n) as (λ v. 0 < hits c (if v then c ∷ n ∷ ns else n ∷ entered o c ns)) [
                    | true ↦ elim (same_or c c) [ same _ t ↦ rw t (omega arith) | apart ne t ↦ absurd (ne refl) ]
                    | false ↦ (let w = entered-hits o ns in omega arith)
                  ]

          elsewhere : (q x : ℕ) → (q ≡ p → ⊥) → 0 < hits x (children_in (entry_at done q)) → hits x (children_in (entry_at done p)) ≡ 0
          elsewhere q x ne hx =
              let h : 0 < hits x (children_in (entry_at a q)) = rw (put-elsewhere q ne) at hx in
              ap (hits x) put-here ∙ hits-entered x c b (children_in (entry_at a p)) (none-of q x h) ∙ not_in l p q x ne h

      pub renumbered-put : IsCounted (entry_at done) → (table' : List (ℕ × List ℕ)) → ((q : ℕ) → counts_in table' q ≡ counts_but p (raised (counts_in table p) block) table q) → IsRenumbered done f table'
      renumbered-put kc table' ht =
          record {
            nodes = assured-nodes (indexed done c block) p 0 unknown ∙ indexed-nodes done c block;
            counted = counted-put_into kc;
            blocked = blocked-put_into table' ht;
            room = room-altered _ (indexed done c block) p ∙ room-altered _ done c;
            owned = λ q. assured-owned (indexed done c block) p 0 unknown q ∙ indexed-owned done c block q;
          }

  -- a child cut from its parent
  pub blocked-cut : (c p : ℕ) → parent_in (entry_at a c) ≡ Some p → IsHeld a p → (table' : List (ℕ × List ℕ)) → ((q : ℕ) → counts_in table' q ≡ counts_but p (lowered (counts_in table p) (index_in (entry_at a c))) table q) → AreBlocked (entry_at (unlinked (numbered_cut a c) c)) table'
  blocked-cut c p e hp table' ht = rw e (go (numbered_cut_from (Some p) a c) refl)
    where
      s : ℕ
      s = min (index_in (entry_at a c)) (sure_in (entry_at a p))

      r : ℕ
      r = reach_in (entry_at a p)

      go : (d : Arena (Kept X)) → d ≡ assured a p s r → AreBlocked (entry_at (unlinked d c)) table'
      go d ed q h =
          elim (same_or q p) [
            | same w t ↦
                let here = but-here blocks table' table p (lowered (counts_in table p) (index_in (entry_at a c))) ht in
                let h1 : 0 < length (lowered (counts_in table p) (index_in (entry_at a c))) = subst (λ cs. 0 < length cs) (ap (counts_in table') w ∙ here) h in
                let st = k p (lowered-some (counts_in table p) (index_in (entry_at a c)) h1) in
                subst (λ m. StandsInBlocks (entry_at (unlinked d c)) (counts_in table' m) m) (sym w)
                (subst (λ cs. StandsInBlocks (entry_at (unlinked d c)) cs p) (sym here)
                (stands-same at' (entry_at (unlinked d c)) p (lowered (counts_in table p) (index_in (entry_at a c))) refl refl (λ x _. refl)
                record {
                  fits = (let ft = fits-left_out st.fits c listed (children-once (entry_at a) l.linked p) h1 in
                      record {
                        since = λ x hx. (let h3 : 0 < hits x (left_out c (children_in (entry_at a p))) = rw (lists p) at hx in rw (lists p, indices x) (ft.since x h3));
                        until = λ x hx. (let h3 : 0 < hits x (left_out c (children_in (entry_at a p))) = rw (lists p) at hx in rw (lists p, indices x) (ft.until x h3));
                      });
                  reach = reaches p ∙ st.reach;
                }))
            | apart ne t ↦
                let ec = but-other blocks table' table p (lowered (counts_in table p) (index_in (entry_at a c))) ht q ne in
                let h2 : 0 < length (counts_in table q) = rw ec at h in
                let same_list : children_in (entry_at (unlinked d c) q) ≡ children_in (entry_at a q) = lists q ∙ left_out-absent c (children_in (entry_at a q)) (l.linked q c ∙ ap (λ o. names o q) e ∙ names-other p q (λ w. ne (sym w))) in
                subst (λ counts. StandsInBlocks (entry_at (unlinked d c)) counts q) (sym ec)
                (stands-same (entry_at a) (entry_at (unlinked d c)) q (counts_in table q) same_list (reaches q) (λ x _. indices x) (k q h2))
          ]
        where
          at' : ℕ → Option (Entry (Kept X))
          at' = entry_at (unlinked d c)

          d-children : (n : ℕ) → children_in (entry_at d n) ≡ children_in (entry_at a n)
          d-children n = ap (λ (b : Arena (Kept X)). children_in (entry_at b n)) ed ∙ altered-children (with_sure s r) a p n

          d-parent : (n : ℕ) → parent_in (entry_at d n) ≡ parent_in (entry_at a n)
          d-parent n = ap (λ (b : Arena (Kept X)). parent_in (entry_at b n)) ed ∙ altered-parent (with_sure s r) a p n

          d-linked : IsLinked (entry_at d)
          d-linked n m = ap (hits m) (d-children n) ∙ l.linked n m ∙ ap (λ o. names o n) (sym (d-parent m))

          cut_is : (n : ℕ) → entry_at (unlinked d c) n ≡ cut_at c n (entry_at d n)
          cut_is = unlinked-at d c d-linked (rw (d-parent c, e) refl)

          lists : (n : ℕ) → children_in (entry_at (unlinked d c) n) ≡ left_out c (children_in (entry_at a n))
          lists n = ap children_in (cut_is n) ∙ cut-children c n (entry_at d n) ∙ ap (left_out c) (d-children n)

          indices : (n : ℕ) → index_in (entry_at (unlinked d c) n) ≡ index_in (entry_at a n)
          indices n = ap index_in (cut_is n) ∙ cut-index c n (entry_at d n) ∙ ap (λ (b : Arena (Kept X)). index_in (entry_at b n)) ed ∙ assured-index a p s r n

          reaches : (n : ℕ) → reach_in (entry_at (unlinked d c) n) ≡ reach_in (entry_at a n)
          reaches n =
              ap reach_in (cut_is n) ∙ cut-reach c n (entry_at d n) ∙ ap (λ (b : Arena (Kept X)). reach_in (entry_at b n)) ed
              ∙ (elim (same_or n p) [
                | same e2 t ↦ subst (λ m. reach_in (entry_at (assured a p s r) m) ≡ reach_in (entry_at a m)) (sym e2) (assured-reach a p s r hp)
                | apart ne t ↦ assured-far a p s r n ne
              ])

          listed : 0 < hits c (children_in (entry_at a p))
          listed = omega (arith, l.linked p c, ap (λ o. names o p) e, names-same p)

  -- the indices of a parent's first children made known, where they stand in no blocks
  pub blocked-numbered : (b : Arena (Kept X)) (p c : ℕ) → IsNumbered a b p c → (table' : List (ℕ × List ℕ)) → counts_in table' p ≡ [] → ((q : ℕ) → counts_in table' q ≡ counts_but p (counts_in table' p) table q) → IsRenumbered a b table'
  blocked-numbered b p c n table' none ht =
      record {
        nodes = n.nodes;
        counted = n.counted;
        blocked = λ q h.
            elim (same_or q p) [
              | same d t ↦ absurd (let z = ap (λ m. length (counts_in table' m)) d ∙ ap length none in omega arith)
              | apart ne t ↦
                  let ec = but-other blocks table' table p (counts_in table' p) ht q ne in
                  let h2 : 0 < length (counts_in table q) = rw ec at h in
                  subst (λ counts. StandsInBlocks (entry_at b) counts q) (sym ec)
                  (stands-same (entry_at a) (entry_at b) q (counts_in table q) (children-same b a n.nodes q) (n.far q ne) (λ x hx. n.elsewhere x (not_in l p q x ne hx)) (k q h2))
            ];
        room = n.room;
        owned = n.owned;
      }

  -- the children of a parent put into blocks
  pub blocked-filled : (b : Arena (Kept X)) (p : ℕ) → IsInBlocks a b p → IsCounted (entry_at a) → length (children_in (entry_at a p)) ≤ unknown → (table' : List (ℕ × List ℕ)) → AreFilled (counts_in table' p) (length (children_in (entry_at a p))) → ((q : ℕ) → counts_in table' q ≡ counts_but p (counts_in table' p) table q) → IsRenumbered a b table'
  blocked-filled b p n kc few table' filled ht =
      record {
        nodes = n.nodes;
        counted =
            counted-unsure (entry_at a) (entry_at b) p (children-same b a n.nodes) n.untouched n.sure n.reach n.sures n.reaches few (λ q x ne hx. not_in l p q x ne hx) kc;
        blocked = λ q h.
            elim (same_or q p) [
              | same d t ↦
                  subst (λ m. StandsInBlocks (entry_at b) (counts_in table' m) m) (sym d)
                  record {
                    fits = subst (FitsBlocks (counts_in table' p) (λ x. index_in (entry_at b x))) (sym (children-same b a n.nodes p))
                        (fits-filled (counts_in table' p) (λ x. index_in (entry_at b x)) (children_in (entry_at a p)) filled n.written);
                    reach = n.reach;
                  }
              | apart ne t ↦
                  let ec = but-other blocks table' table p (counts_in table' p) ht q ne in
                  let h2 : 0 < length (counts_in table q) = rw ec at h in
                  subst (λ counts. StandsInBlocks (entry_at b) counts q) (sym ec)
                  (stands-same (entry_at a) (entry_at b) q (counts_in table q) (children-same b a n.nodes q) (n.reaches q ne) (λ x hx. n.untouched x (not_in l p q x ne hx)) (k q h2))
            ];
        room = n.room;
        owned = n.owned;
      }

  -- nothing done
  pub blocked-still : IsCounted (entry_at a) → IsRenumbered a a table
  blocked-still kc = record { nodes = refl; counted = kc; blocked = k; room = refl; owned = λ s. refl }

module _ {X : Type 0} {a : Arena (Kept X)} {p : ℕ} (hp : IsHeld a p) where
  -- all children of a parent written, and that they may stand in blocks
  pub blocks-written : {count : ℕ} → count ≡ length (children_in (entry_at a p)) → {b : Arena (Kept X)} → IsWritten a b p 0 count block_at → {d : Arena (Kept X)} → d ≡ unsure b p → IsInBlocks a d p
  blocks-written {count} ec {b} w {d} ed = rw ed (record {
    nodes = assured-nodes b p 0 unknown ∙ w.nodes;
    written = λ x hx. assured-index b p 0 unknown x ∙ w.written x hx (omega arith) (let i = place-there x (children_in (entry_at a p)) hx in omega arith);
    untouched = λ x z. assured-index b p 0 unknown x ∙ w.untouched x (λ hx _. absurd (omega arith));
    sure = assured-sure b p 0 unknown held_b;
    reach = assured-reach b p 0 unknown held_b;
    sures = λ q ne. assured-other b p 0 unknown q ne ∙ w.sures q;
    reaches = λ q ne. assured-far b p 0 unknown q ne ∙ w.reaches q;
    room = room-altered _ b p ∙ w.room;
    owned = λ q. assured-owned b p 0 unknown q ∙ w.owned q;
  })
    where
      held_b : IsHeld b p
      held_b = held-same b a w.nodes p hp
