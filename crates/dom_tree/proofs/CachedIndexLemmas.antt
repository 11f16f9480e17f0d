-- The kept indices stay right over each change of the store.
use Rattle.std.proofs.Common.{◌≡◌, ℕ, ◌+◌, ◌<◌, ◌≤◌, ◌==◌, nat_lt, nat_le, min, true, false, ◌-◌, ◌&&◌, if◌then◌else◌, List, [], ◌∷◌, length, Option, Some, None, option_map, IsSome, refl, ap, sym, ◌∙◌, subst, arith, ◌⊎◌, inl, inr, ⊎_elim}
use Rattle.std.proofs.lemmas.{Bool.cases_lt, Bool.lt-ltb, Bool.le-ltb, Bool.false≢true, Bool.Decides.nat_tests}
use Rattle.dom_model.specs.Definitions.{hits, is_number, entered, left_out, place_in, Arena, Entry, entry_at, names, parent_in, children_in, with_value, linked, unlinked, altered, added, taken, next_slot, IsLinked, IsHeld}
use Rattle.dom_model.specs.Forests.Arena.{IsSound}
use Rattle.dom_model.proofs.PlainLists.{Numbers.same_or, Numbers.same, Numbers.apart, Places.place-there, Places.place-left_out, Places.place-entered, Places.place-kept}
use Rattle.dom_model.proofs.Forests.{Changes.cut_at, Changes.link_at, Lying.left_out-absent}
use Rattle.dom_tree.specs.{Slots.Kept, Slots.with_index, Slots.with_sure, Slots.unknown, Slots.IsIndexCached, Slots.index_in, Slots.sure_in, Slots.reach_in, Slots.indexed, Slots.assured, Slots.IsCounted, CachedIndices.index_put, CachedIndices.sure_put, CachedIndices.reach_put, CachedIndices.numbered_put, CachedIndices.numbered_cut_from, CachedIndices.numbered_cut}
use Rattle.dom_tree.proofs.{PlaceInLemmas.last-there, StoreEntryLemmas.altered-at, StoreEntryLemmas.linked-at, StoreEntryLemmas.unlinked-at, StoreEntryLemmas.added-new, StoreEntryLemmas.added-old, StoreEntryLemmas.taken-at, StoreEntryLemmas.taken-other}
use Rattle.dom_links.proofs.UnlinkLemmas.{names-le, names-same, names-other}

pub hits-left_out : (x c : ℕ) (l : List ℕ) → 0 < hits x (left_out c l) → (x ≡ c → ⊥) × (0 < hits x l)
hits-left_out x c [] h = absurd (omega arith)
hits-left_out x c (y ∷ ys) h =
    elim (same_or y c) [
      | same e t ↦
          let k = rw t at h in
          let i = hits-left_out x c ys k in
          (i.0, omega (arith, i.1))
      | apart ne t ↦
          let k = rw t at h in
          elim (same_or y x) [
            | same e v ↦ (λ d. ne (e ∙ d), rw v (omega arith))
            | apart nx v ↦
                let k2 = rw v at k in
                let i = hits-left_out x c ys (omega arith) in
                (i.0, omega (arith, i.1))
          ]
    ]

pub hits-entered : (x c : ℕ) (b : Option ℕ) (l : List ℕ) → (x ≡ c → ⊥) → hits x (entered b c l) ≡ hits x l
hits-entered x c b [] ne = elim (same_or c x) [ same e t ↦ absurd (ne (sym e)) | apart _ t ↦ rw t refl ]
hits-entered x c b (y ∷ ys) ne =
    elim (is_number b y) as (λ v. hits x (if v then c ∷ y ∷ ys else y ∷ entered b c ys) ≡ hits x (y ∷ ys)) [
      | true ↦ elim (same_or c x) [ same e t ↦ absurd (ne (sym e)) | apart _ t ↦ rw t (omega arith) ]
      | false ↦ omega (arith, hits-entered x c b ys ne)
    ]

pub entered-some : (b : Option ℕ) (c : ℕ) (l : List ℕ) → 0 < length (entered b c l)
entered-some b c [] = omega arith
entered-some b c (y ∷ ys) =
    elim (is_number b y) as (λ v. 0 < length (if v then c ∷ y ∷ ys else y ∷ entered b c ys)) [ true ↦ omega arith | false ↦ omega arith ]

length-entered : (c : ℕ) (l : List ℕ) → length (entered None c l) ≡ length l + 1
length-entered c [] = refl
length-entered c (y ∷ ys) = omega (arith, length-entered c ys)

length-entered-some : (b c : ℕ) (l : List ℕ) → 0 < hits b l → length (entered (Some b) c l) ≡ length l + 1
length-entered-some b c [] h = absurd (omega arith)
length-entered-some b c (y ∷ ys) h =
    elim (same_or b y) [
      | same e t ↦ rw t (omega arith)
      | apart ne t ↦
          elim (same_or y b) [
            | same e2 t2 ↦ absurd (ne (sym e2))
            | apart ne2 t2 ↦ (let k = rw t2 at h in rw t (omega (arith, length-entered-some b c ys (omega arith))))
          ]
    ]

moved_on : (l m k : ℕ) → m ≡ k + (if nat_le l k then 1 else 0) → (l ≤ k → m ≡ k + 1) × (k < l → m ≡ k)
moved_on l m k e = (λ h. grind (arith, nat_tests), λ h. grind (arith, nat_tests))

moved_back : (l m k : ℕ) → m + (if nat_lt l k then 1 else 0) ≡ k → (l < k → m + 1 ≡ k) × (k ≤ l → m ≡ k)
moved_back l m k e = (λ h. grind (arith, nat_tests), λ h. grind (arith, nat_tests))

-- what an index, a count of right ones and a reach become with a new last child at the place n
abbrev pub AtEnd : ℕ → ℕ → ℕ → ℕ → ℕ → ℕ → Type 0
AtEnd sure reach n i s r =
    ((sure < n) × ((reach < n) × ((i ≡ unknown) × ((s ≡ min i sure) × (r ≡ reach)))))
    ⊎ ((i ≡ n) × (((n ≤ sure → s ≡ n + 1) × (sure < n → s ≡ min i sure)) × (r ≡ n + 1)))

-- the list with c put in, in which c has the index that `put` gives it
counted-entered : (index : ℕ → ℕ) (sure reach c : ℕ) (b : Option ℕ) (l : List ℕ) (i s r : ℕ) → hits c l ≡ 0 → ((x : ℕ) → hits x l ≤ 1) → ((q : ℕ) → b ≡ Some q → 0 < hits q l) → ((x : ℕ) → 0 < hits x l → IsIndexCached (index x) (place_in x l) sure reach) → (b ≡ None → AtEnd sure reach (length l) i s r) → ((q : ℕ) → b ≡ Some q → (i ≡ index q) × ((s ≡ min i sure) × (r ≡ min reach (length l) + 1))) → (x : ℕ) → 0 < hits x (entered b c l) → (x ≡ c → IsIndexCached i (place_in c (entered b c l)) s r) × ((x ≡ c → ⊥) → IsIndexCached (index x) (place_in x (entered b c l)) s r)
counted-entered index sure reach c None l i s r z o hb h hn hs x hx =
    ⊎_elim beyond behind (hn refl)
  where
    pc : place_in c (entered None c l) ≡ length l
    pc = place-entered None c l z refl

    still : (x ≡ c → ⊥) → (0 < hits x l) × (place_in x (entered None c l) ≡ place_in x l)
    still ne =
        let hxl : 0 < hits x l = omega (arith, hits-entered x c None l ne) in
        let lt = place-there x l hxl in
        let cx : (c == x) ≡ false = elim (same_or c x) [ same e t ↦ absurd (ne (sym e)) | apart _ t ↦ t ] in
        let k = moved_on (length l) (place_in x (entered None c l)) (place_in x l) (place-kept None c x l cx hxl) in
        (hxl, k.1 lt)

    beyond : (sure < length l) × ((reach < length l) × ((i ≡ unknown) × ((s ≡ min i sure) × (r ≡ reach)))) → (x ≡ c → IsIndexCached i (place_in c (entered None c l)) s r) × ((x ≡ c → ⊥) → IsIndexCached (index x) (place_in x (entered None c l)) s r)
    beyond d =
        let last = last-there l (omega (arith, d.0)) o in
        let tl = h last.0 last.1.0 in
        let ul : index last.0 ≡ unknown = tl.1 (let e = last.1.1 in let k = d.1.0 in omega arith) in
        let il : i ≡ index last.0 = d.1.1.0 ∙ sym ul in
        let ss : s ≡ sure = (let e = last.1.1 in let t = tl.0 in let k = d.0 in let m = d.1.1.1.0 in omega arith) in
        let ii : min i sure ≡ sure = (let m = d.1.1.1.0 in omega arith) in (
          λ e. rw pc (let k = d.0 in omega (arith, ss, ii), λ le. d.1.1.0),
          λ ne.
              let st = still ne in
              let te = h x st.0 in
              rw (st.1, ss, d.1.1.1.1) te,
        )

    behind : (i ≡ length l) × (((length l ≤ sure → s ≡ length l + 1) × (sure < length l → s ≡ min i sure)) × (r ≡ length l + 1)) → (x ≡ c → IsIndexCached i (place_in c (entered None c l)) s r) × ((x ≡ c → ⊥) → IsIndexCached (index x) (place_in x (entered None c l)) s r)
    behind d = (
      λ e. rw pc (omega (arith, d.0), λ le. absurd (let k = d.1.1 in omega arith)),
      λ ne.
          let st = still ne in
          let lt = place-there x l st.0 in
          let te = (h x st.0).0 in
          rw st.1 (
            ⊎_elim (λ (lo : sure < length l). let e = d.1.0.1 lo in omega (arith, d.0)) (λ (hi : length l ≤ sure). let e = d.1.0.0 hi in omega (arith, d.0)) (cases_lt sure (length l)),
            λ le. absurd (let k = d.1.1 in omega arith),
          ),
    )
counted-entered index sure reach c (Some q) l i s r z o hb h hn hs x hx =
    let d = hs q refl in
    let hq = hb q refl in
    let tq = h q hq in
    let tq0 = tq.0 in
    let pq = place-there q l hq in
    let qc : (q == c) ≡ false = elim (same_or q c) [ same e t ↦ absurd (let k = subst (λ m. 0 < hits m l) e hq in omega arith) | apart _ t ↦ t ] in
    let pc = place-entered (Some q) c l z qc in
    let rr = d.1.1 in (
      λ e. rw pc (omega (arith, d.0, d.1.0, tq0), λ le. d.0 ∙ tq.1 (omega arith)),
      λ ne.
          let hxl : 0 < hits x l = omega (arith, hits-entered x c (Some q) l ne) in
          let te = h x hxl in
          let te0 = te.0 in
          let px = place-there x l hxl in
          let cx : (c == x) ≡ false = elim (same_or c x) [ same e t ↦ absurd (ne (sym e)) | apart _ t ↦ t ] in
          let k = moved_on (place_in q l) (place_in x (entered (Some q) c l)) (place_in x l) (place-kept (Some q) c x l cx hxl) in
          ⊎_elim
          (λ (lt : place_in x l < place_in q l). let e = k.1 lt in (omega (arith, d.0, d.1.0, tq0, te0), λ le. te.1 (omega arith)))
          (λ (le : place_in q l ≤ place_in x l). let e = k.0 le in (omega (arith, d.0, d.1.0, tq0, te0), λ le2. te.1 (omega arith)))
          (cases_lt (place_in x l) (place_in q l)),
    )

-- the list without c, where no index behind c's counts any more
counted-left_out : (index : ℕ → ℕ) (sure reach c : ℕ) (l : List ℕ) → 0 < hits c l → ((x : ℕ) → hits x l ≤ 1) → ((x : ℕ) → 0 < hits x l → IsIndexCached (index x) (place_in x l) sure reach) → (x : ℕ) → 0 < hits x (left_out c l) → IsIndexCached (index x) (place_in x (left_out c l)) (min (index c) sure) reach
counted-left_out index sure reach c l hc o h x hx =
    let d = hits-left_out x c l hx in
    let tc = (h c hc).0 in
    let te = h x d.1 in
    let te0 = te.0 in
    let xc : (x == c) ≡ false = elim (same_or x c) [ same e t ↦ absurd (d.0 e) | apart _ t ↦ t ] in
    let k = moved_back (place_in c l) (place_in x (left_out c l)) (place_in x l) (place-left_out c x l (o c) xc) in
    ⊎_elim
    (λ (lt : place_in c l < place_in x l). let e = k.0 lt in (omega (arith, tc, te0), λ le. te.1 (omega arith)))
    (λ (le : place_in x l ≤ place_in c l). let e = k.1 le in (omega (arith, tc, te0), λ le2. te.1 (omega arith)))
    (cases_lt (place_in c l) (place_in x l))

module _ {X : Type 0} where
  pub children-once : (at : ℕ → Option (Entry (Kept X))) → IsLinked at → (p x : ℕ) → hits x (children_in (at p)) ≤ 1
  children-once at l p x = omega (arith, l p x, names-le (parent_in (at x)) p)

  -- a slot's children and indices as they were, or held by none
  pub counted-same : (at at' : ℕ → Option (Entry (Kept X))) → ((p : ℕ) → children_in (at' p) ≡ children_in (at p)) → ((p : ℕ) → sure_in (at' p) ≡ sure_in (at p)) → ((p : ℕ) → reach_in (at' p) ≡ reach_in (at p)) → ((p c : ℕ) → 0 < hits c (children_in (at p)) → index_in (at' c) ≡ index_in (at c)) → IsCounted at → IsCounted at'
  counted-same at at' hc hs hr hi k p c h =
      let h2 : 0 < hits c (children_in (at p)) = rw (hc p) at h in
      rw (hc p, hs p, hr p, hi p c h2) (k p c h2)

  value-parts : (f : Kept X → Kept X) (o : Option (Entry (Kept X))) → (children_in (option_map (λ (e : Entry (Kept X)). with_value (f e.value) e) o) ≡ children_in o) × (parent_in (option_map (λ (e : Entry (Kept X)). with_value (f e.value) e) o) ≡ parent_in o)
  value-parts f None = (refl, refl)
  value-parts f (Some e) = (refl, refl)

  pub altered-children : (f : Kept X → Kept X) (a : Arena (Kept X)) (n k : ℕ) → children_in (entry_at (altered (λ (e : Entry (Kept X)). with_value (f e.value) e) a n) k) ≡ children_in (entry_at a k)
  altered-children f a n k =
      ap children_in (altered-at (λ (e : Entry (Kept X)). with_value (f e.value) e) a n k)
      ∙ (elim (k == n) as (λ v. children_in (if v then option_map (λ (e : Entry (Kept X)). with_value (f e.value) e) (entry_at a k) else entry_at a k) ≡ children_in (entry_at a k)) [ true ↦ (value-parts f (entry_at a k)).0 | false ↦ refl ])

  pub altered-parent : (f : Kept X → Kept X) (a : Arena (Kept X)) (n k : ℕ) → parent_in (entry_at (altered (λ (e : Entry (Kept X)). with_value (f e.value) e) a n) k) ≡ parent_in (entry_at a k)
  altered-parent f a n k =
      ap parent_in (altered-at (λ (e : Entry (Kept X)). with_value (f e.value) e) a n k)
      ∙ (elim (k == n) as (λ v. parent_in (if v then option_map (λ (e : Entry (Kept X)). with_value (f e.value) e) (entry_at a k) else entry_at a k) ≡ parent_in (entry_at a k)) [ true ↦ (value-parts f (entry_at a k)).1 | false ↦ refl ])

  pub altered-part : (part : Option (Entry (Kept X)) → ℕ) (f : Kept X → Kept X) → ((o : Option (Entry (Kept X))) → part (option_map (λ (e : Entry (Kept X)). with_value (f e.value) e) o) ≡ part o) → (a : Arena (Kept X)) (n k : ℕ) → part (entry_at (altered (λ (e : Entry (Kept X)). with_value (f e.value) e) a n) k) ≡ part (entry_at a k)
  altered-part part f h a n k =
      ap part (altered-at (λ (e : Entry (Kept X)). with_value (f e.value) e) a n k)
      ∙ (elim (k == n) as (λ v. part (if v then option_map (λ (e : Entry (Kept X)). with_value (f e.value) e) (entry_at a k) else entry_at a k) ≡ part (entry_at a k)) [ true ↦ h (entry_at a k) | false ↦ refl ])

  altered-other : (f : Entry (Kept X) → Entry (Kept X)) (a : Arena (Kept X)) (n k : ℕ) → (k ≡ n → ⊥) → entry_at (altered f a n) k ≡ entry_at a k
  altered-other f a n k ne = altered-at f a n k ∙ (elim (same_or k n) [ same e t ↦ absurd (ne e) | apart _ t ↦ rw t refl ])

  altered-here : (f : Entry (Kept X) → Entry (Kept X)) (a : Arena (Kept X)) (n : ℕ) → entry_at (altered f a n) n ≡ option_map f (entry_at a n)
  altered-here f a n = altered-at f a n n ∙ (elim (same_or n n) [ same _ t ↦ rw t refl | apart ne t ↦ absurd (ne refl) ])

  -- the contents of a node written over, with its index and its count
  pub counted-altered : (f : Kept X → Kept X) → ((k : Kept X) → (f k).index ≡ k.index) → ((k : Kept X) → (f k).sure ≡ k.sure) → ((k : Kept X) → (f k).reach ≡ k.reach) → (a : Arena (Kept X)) (n : ℕ) → IsCounted (entry_at a) → IsCounted (entry_at (altered (λ (e : Entry (Kept X)). with_value (f e.value) e) a n))
  counted-altered f hi hs hr a n k =
      counted-same (entry_at a) (entry_at (altered (λ (e : Entry (Kept X)). with_value (f e.value) e) a n)) (altered-children f a n) (altered-part sure_in f sures a n) (altered-part reach_in f reaches a n) (λ p c _. altered-part index_in f indices a n c) k
    where
      sures : (o : Option (Entry (Kept X))) → sure_in (option_map (λ (e : Entry (Kept X)). with_value (f e.value) e) o) ≡ sure_in o
      sures None = refl
      sures (Some e) = hs e.value

      reaches : (o : Option (Entry (Kept X))) → reach_in (option_map (λ (e : Entry (Kept X)). with_value (f e.value) e) o) ≡ reach_in o
      reaches None = refl
      reaches (Some e) = hr e.value

      indices : (o : Option (Entry (Kept X))) → index_in (option_map (λ (e : Entry (Kept X)). with_value (f e.value) e) o) ≡ index_in o
      indices None = refl
      indices (Some e) = hi e.value

  pub indexed-index : (a : Arena (Kept X)) (n i : ℕ) → IsHeld a n → index_in (entry_at (indexed a n i) n) ≡ i
  indexed-index a n i h = ap index_in (altered-here (λ (e : Entry (Kept X)). with_value (with_index i e.value) e) a n) ∙ go (entry_at a n) h
    where
      go : (o : Option (Entry (Kept X))) → IsSome o → index_in (option_map (λ (e : Entry (Kept X)). with_value (with_index i e.value) e) o) ≡ i
      go None h = absurd (false≢true h)
      go (Some e) h = refl

  pub indexed-other : (a : Arena (Kept X)) (n i k : ℕ) → (k ≡ n → ⊥) → index_in (entry_at (indexed a n i) k) ≡ index_in (entry_at a k)
  indexed-other a n i k ne = ap index_in (altered-other (λ (e : Entry (Kept X)). with_value (with_index i e.value) e) a n k ne)

  pub indexed-sure : (a : Arena (Kept X)) (n i k : ℕ) → sure_in (entry_at (indexed a n i) k) ≡ sure_in (entry_at a k)
  indexed-sure a n i k = altered-part sure_in (with_index i) go a n k
    where
      go : (o : Option (Entry (Kept X))) → sure_in (option_map (λ (e : Entry (Kept X)). with_value (with_index i e.value) e) o) ≡ sure_in o
      go None = refl
      go (Some e) = refl

  pub indexed-reach : (a : Arena (Kept X)) (n i k : ℕ) → reach_in (entry_at (indexed a n i) k) ≡ reach_in (entry_at a k)
  indexed-reach a n i k = altered-part reach_in (with_index i) go a n k
    where
      go : (o : Option (Entry (Kept X))) → reach_in (option_map (λ (e : Entry (Kept X)). with_value (with_index i e.value) e) o) ≡ reach_in o
      go None = refl
      go (Some e) = refl

  pub assured-sure : (a : Arena (Kept X)) (n s r : ℕ) → IsHeld a n → sure_in (entry_at (assured a n s r) n) ≡ s
  assured-sure a n s r h = ap sure_in (altered-here (λ (e : Entry (Kept X)). with_value (with_sure s r e.value) e) a n) ∙ go (entry_at a n) h
    where
      go : (o : Option (Entry (Kept X))) → IsSome o → sure_in (option_map (λ (e : Entry (Kept X)). with_value (with_sure s r e.value) e) o) ≡ s
      go None h = absurd (false≢true h)
      go (Some e) h = refl

  pub assured-reach : (a : Arena (Kept X)) (n s r : ℕ) → IsHeld a n → reach_in (entry_at (assured a n s r) n) ≡ r
  assured-reach a n s r h = ap reach_in (altered-here (λ (e : Entry (Kept X)). with_value (with_sure s r e.value) e) a n) ∙ go (entry_at a n) h
    where
      go : (o : Option (Entry (Kept X))) → IsSome o → reach_in (option_map (λ (e : Entry (Kept X)). with_value (with_sure s r e.value) e) o) ≡ r
      go None h = absurd (false≢true h)
      go (Some e) h = refl

  pub assured-other : (a : Arena (Kept X)) (n s r k : ℕ) → (k ≡ n → ⊥) → sure_in (entry_at (assured a n s r) k) ≡ sure_in (entry_at a k)
  assured-other a n s r k ne = ap sure_in (altered-other (λ (e : Entry (Kept X)). with_value (with_sure s r e.value) e) a n k ne)

  pub assured-far : (a : Arena (Kept X)) (n s r k : ℕ) → (k ≡ n → ⊥) → reach_in (entry_at (assured a n s r) k) ≡ reach_in (entry_at a k)
  assured-far a n s r k ne = ap reach_in (altered-other (λ (e : Entry (Kept X)). with_value (with_sure s r e.value) e) a n k ne)

  pub assured-index : (a : Arena (Kept X)) (n s r k : ℕ) → index_in (entry_at (assured a n s r) k) ≡ index_in (entry_at a k)
  assured-index a n s r k = altered-part index_in (with_sure s r) go a n k
    where
      go : (o : Option (Entry (Kept X))) → index_in (option_map (λ (e : Entry (Kept X)). with_value (with_sure s r e.value) e) o) ≡ index_in o
      go None = refl
      go (Some e) = refl

  pub link-index : (p : ℕ) (b : Option ℕ) (c k : ℕ) (o : Option (Entry (Kept X))) → index_in (link_at p b c k o) ≡ index_in o
  link-index p b c k None = refl
  link-index p b c k (Some e) = refl

  link-sure : (p : ℕ) (b : Option ℕ) (c k : ℕ) (o : Option (Entry (Kept X))) → sure_in (link_at p b c k o) ≡ sure_in o
  link-sure p b c k None = refl
  link-sure p b c k (Some e) = refl

  pub link-reach : (p : ℕ) (b : Option ℕ) (c k : ℕ) (o : Option (Entry (Kept X))) → reach_in (link_at p b c k o) ≡ reach_in o
  link-reach p b c k None = refl
  link-reach p b c k (Some e) = refl

  pub link-children : (p : ℕ) (b : Option ℕ) (c k : ℕ) (o : Option (Entry (Kept X))) → (k ≡ p → ⊥) → children_in (link_at p b c k o) ≡ children_in o
  link-children p b c k None ne = refl
  link-children p b c k (Some e) ne = elim (same_or k p) [ same d t ↦ absurd (ne d) | apart _ t ↦ rw t refl ]

  link-under : (p : ℕ) (b : Option ℕ) (c : ℕ) (o : Option (Entry (Kept X))) → IsSome o → children_in (link_at p b c p o) ≡ entered b c (children_in o)
  link-under p b c None h = absurd (false≢true h)
  link-under p b c (Some e) h = elim (same_or p p) [ same _ t ↦ rw t refl | apart ne t ↦ absurd (ne refl) ]

  pub cut-index : (c k : ℕ) (o : Option (Entry (Kept X))) → index_in (cut_at c k o) ≡ index_in o
  cut-index c k None = refl
  cut-index c k (Some e) = refl

  cut-sure : (c k : ℕ) (o : Option (Entry (Kept X))) → sure_in (cut_at c k o) ≡ sure_in o
  cut-sure c k None = refl
  cut-sure c k (Some e) = refl

  pub cut-reach : (c k : ℕ) (o : Option (Entry (Kept X))) → reach_in (cut_at c k o) ≡ reach_in o
  cut-reach c k None = refl
  cut-reach c k (Some e) = refl

  pub cut-children : (c k : ℕ) (o : Option (Entry (Kept X))) → children_in (cut_at c k o) ≡ left_out c (children_in o)
  cut-children c k None = refl
  cut-children c k (Some e) = refl

  pub some-altered : (f : Entry (Kept X) → Entry (Kept X)) (a : Arena (Kept X)) (n k : ℕ) → IsHeld a k → IsHeld (altered f a n) k
  some-altered f a n k h =
      rw (altered-at f a n k) (elim (k == n) as (λ v. IsSome (if v then option_map f (entry_at a k) else entry_at a k)) [ true ↦ go (entry_at a k) h | false ↦ h ])
    where
      go : (o : Option (Entry (Kept X))) → IsSome o → IsSome (option_map f o)
      go None h = h
      go (Some e) h = refl

  pub linked-under : (a : Arena (Kept X)) (p c : ℕ) (b : Option ℕ) → IsHeld a p → children_in (entry_at (linked a p c b) p) ≡ entered b c (children_in (entry_at a p))
  linked-under a p c b h = ap children_in (linked-at a p c b p) ∙ link-under p b c (entry_at a p) h

  -- who has a child put in has a child
  pub linked-some : (a : Arena (Kept X)) (p c : ℕ) (b : Option ℕ) → IsHeld a p → (d : Arena (Kept X)) → d ≡ linked a p c b → 0 < length (children_in (entry_at d p))
  linked-some a p c b h d e =
      let n = linked-under a p c b h in
      let g : 0 < length (entered b c (children_in (entry_at a p))) = entered-some b c (children_in (entry_at a p)) in
      rw (e, n) g

  pub held-linked : (a : Arena (Kept X)) (p c : ℕ) (b : Option ℕ) (k : ℕ) → IsHeld a k → IsHeld (linked a p c b) k
  held-linked a p c b k h = rw (linked-at a p c b k) (go (entry_at a k) h)
    where
      go : (o : Option (Entry (Kept X))) → IsSome o → IsSome (link_at p b c k o)
      go None h = h
      go (Some e) h = refl

sure-last : (n all m i s : ℕ) → s ≡ (if nat_le n m then all else min i m) → all ≡ n + 1 → (n ≤ m → s ≡ n + 1) × (m < n → s ≡ min i m)
sure-last n all m i s e h = (λ k. grind (arith, nat_tests), λ k. grind (arith, nat_tests))

-- what `put` writes for a new last child, of which all are one more than the place
at_end : (n all sure reach i s r : ℕ) → all ≡ n + 1 → i ≡ (if nat_lt sure n && nat_lt reach n then unknown else n) → s ≡ (if nat_le n sure then all else min i sure) → r ≡ (if nat_lt sure n && nat_lt reach n then reach else all) → AtEnd sure reach n i s r
at_end n all sure reach i s r e ei es er =
    ⊎_elim
    (λ (a : sure < n).
    ⊎_elim
    (λ (b : reach < n).
    let t : (nat_lt sure n && nat_lt reach n) ≡ true = rw (lt-ltb sure n a, lt-ltb reach n b) refl in
    let i2 = rw t at ei in
    let r2 = rw t at er in
    inl (a, (b, (i2, (u.1 a, r2)))))
    (λ (b : n ≤ reach). (let t : (nat_lt sure n && nat_lt reach n) ≡ false = rw (lt-ltb sure n a, le-ltb reach n b) refl in last t))
    (cases_lt reach n))
    (λ (a : n ≤ sure). (let t : (nat_lt sure n && nat_lt reach n) ≡ false = rw (le-ltb sure n a) refl in last t))
    (cases_lt sure n)
  where
    u : (n ≤ sure → s ≡ n + 1) × (sure < n → s ≡ min i sure)
    u = sure-last n all sure i s es e

    last : (nat_lt sure n && nat_lt reach n) ≡ false → AtEnd sure reach n i s r
    last t =
        let i2 = rw t at ei in
        let r2 = rw t at er in
        inr (i2, (u, r2 ∙ e))

module _ {X : Type 0} {a : Arena (Kept X)} (l : IsSound a) (k : IsCounted (entry_at a)) where
  -- a root put among a parent's children
  pub counted-put : (p c : ℕ) (b : Option ℕ) → IsHeld a p → IsHeld a c → parent_in (entry_at a c) ≡ None → ((q : ℕ) → b ≡ Some q → parent_in (entry_at a q) ≡ Some p) → IsCounted (entry_at (numbered_put (linked a p c b) p c b))
  counted-put p c b hp hc root hb q x hx =
      elim (same_or q p) [
        | same e t ↦
            let h3 : 0 < hits x (children_in (entry_at done p)) = subst (λ m. 0 < hits x (children_in (entry_at done m))) e hx in
            subst (λ m. IsIndexCached (index_in (entry_at done x)) (place_in x (children_in (entry_at done m))) (sure_in (entry_at done m)) (reach_in (entry_at done m))) (sym e) (under h3)
        | apart ne t ↦
            let h2 : 0 < hits x (children_in (entry_at a q)) = rw (elsewhere q ne) at hx in
            let nx : x ≡ c → ⊥ = λ d. (let h4 : 0 < hits c (children_in (entry_at a q)) = subst (λ m. 0 < hits m (children_in (entry_at a q))) d h2 in omega (arith, absent q, h4)) in
            rw (elsewhere q ne, indices x nx, sures q ne, reaches q ne) (k q x h2)
      ]
    where
      mid : Arena (Kept X)
      mid = linked a p c b

      i : ℕ
      i = index_put (entry_at mid) p b

      s : ℕ
      s = sure_put (entry_at mid) p b i

      r : ℕ
      r = reach_put (entry_at mid) p b

      done : Arena (Kept X)
      done = numbered_put (linked a p c b) p c b

      absent : (q : ℕ) → hits c (children_in (entry_at a q)) ≡ 0
      absent q = l.linked q c ∙ ap (λ o. names o q) root

      at_mid : (q : ℕ) → children_in (entry_at done q) ≡ children_in (entry_at mid q)
      at_mid q = altered-children (with_sure s r) (indexed mid c i) p q ∙ altered-children (with_index i) mid c q

      elsewhere : (q : ℕ) → (q ≡ p → ⊥) → children_in (entry_at done q) ≡ children_in (entry_at a q)
      elsewhere q ne = at_mid q ∙ ap children_in (linked-at a p c b q) ∙ link-children p b c q (entry_at a q) ne

      here : children_in (entry_at mid p) ≡ entered b c (children_in (entry_at a p))
      here = linked-under a p c b hp

      mid-index : (x : ℕ) → index_in (entry_at mid x) ≡ index_in (entry_at a x)
      mid-index x = ap index_in (linked-at a p c b x) ∙ link-index p b c x (entry_at a x)

      mid-sure : (q : ℕ) → sure_in (entry_at mid q) ≡ sure_in (entry_at a q)
      mid-sure q = ap sure_in (linked-at a p c b q) ∙ link-sure p b c q (entry_at a q)

      mid-reach : (q : ℕ) → reach_in (entry_at mid q) ≡ reach_in (entry_at a q)
      mid-reach q = ap reach_in (linked-at a p c b q) ∙ link-reach p b c q (entry_at a q)

      indices : (x : ℕ) → (x ≡ c → ⊥) → index_in (entry_at done x) ≡ index_in (entry_at a x)
      indices x ne = assured-index (indexed mid c i) p s r x ∙ indexed-other mid c i x ne ∙ mid-index x

      index_c : index_in (entry_at done c) ≡ i
      index_c = assured-index (indexed mid c i) p s r c ∙ indexed-index mid c i (held-linked a p c b c hc)

      sures : (q : ℕ) → (q ≡ p → ⊥) → sure_in (entry_at done q) ≡ sure_in (entry_at a q)
      sures q ne = assured-other (indexed mid c i) p s r q ne ∙ indexed-sure mid c i q ∙ mid-sure q

      reaches : (q : ℕ) → (q ≡ p → ⊥) → reach_in (entry_at done q) ≡ reach_in (entry_at a q)
      reaches q ne = assured-far (indexed mid c i) p s r q ne ∙ indexed-reach mid c i q ∙ mid-reach q

      held_p : IsHeld (indexed mid c i) p
      held_p = some-altered (λ (e : Entry (Kept X)). with_value (with_index i e.value) e) mid c p (held-linked a p c b p hp)

      sure_p : sure_in (entry_at done p) ≡ s
      sure_p = assured-sure (indexed mid c i) p s r held_p

      reach_p : reach_in (entry_at done p) ≡ r
      reach_p = assured-reach (indexed mid c i) p s r held_p

      listed : (q : ℕ) → b ≡ Some q → 0 < hits q (children_in (entry_at a p))
      listed q e = omega (arith, l.linked p q, ap (λ o. names o p) (hb q e), names-same p)

      last : b ≡ None → AtEnd (sure_in (entry_at a p)) (reach_in (entry_at a p)) (length (children_in (entry_at a p))) i s r
      last e = at_end n all (sure_in (entry_at a p)) (reach_in (entry_at a p)) i s r long index_is sure_is reach_is
        where
          n : ℕ
          n = length (children_in (entry_at a p))

          all : ℕ
          all = length (children_in (entry_at mid p))

          long : all ≡ n + 1
          long = ap length here ∙ ap (λ o. length (entered o c (children_in (entry_at a p)))) e ∙ length-entered c (children_in (entry_at a p))

          less : all - 1 ≡ n
          less = omega (arith, long)

          index_is : i ≡ (if nat_lt (sure_in (entry_at a p)) n && nat_lt (reach_in (entry_at a p)) n then unknown else n)
          index_is =
              ap (index_put (entry_at mid) p) e
              ∙ (λ j. if nat_lt (mid-sure p j) (less j) && nat_lt (mid-reach p j) (less j) then unknown else less j)

          sure_is : s ≡ (if nat_le n (sure_in (entry_at a p)) then all else min i (sure_in (entry_at a p)))
          sure_is =
              ap (λ o. sure_put (entry_at mid) p o i) e
              ∙ (λ j. if nat_le (less j) (mid-sure p j) then all else min i (mid-sure p j))

          reach_is : r ≡ (if nat_lt (sure_in (entry_at a p)) n && nat_lt (reach_in (entry_at a p)) n then reach_in (entry_at a p) else all)
          reach_is =
              ap (reach_put (entry_at mid) p) e
              ∙ (λ j. if nat_lt (mid-sure p j) (less j) && nat_lt (mid-reach p j) (less j) then mid-reach p j else all)

      behind : (q : ℕ) → b ≡ Some q → (i ≡ index_in (entry_at a q)) × ((s ≡ min i (sure_in (entry_at a p))) × (r ≡ min (reach_in (entry_at a p)) (length (children_in (entry_at a p))) + 1))
      behind q e = (
        ap (index_put (entry_at mid) p) e ∙ mid-index q,
        (ap (λ o. sure_put (entry_at mid) p o i) e ∙ ap (min i) (mid-sure p), ap (reach_put (entry_at mid) p) e ∙ (λ j. min (mid-reach p j) (less j) + 1)),
      )
        where
          less : length (children_in (entry_at mid p)) - 1 ≡ length (children_in (entry_at a p))
          less = omega (arith, ap length here ∙ ap (λ o. length (entered o c (children_in (entry_at a p)))) e, length-entered-some q c (children_in (entry_at a p)) (listed q e))

      under : 0 < hits x (children_in (entry_at done p)) → IsIndexCached (index_in (entry_at done x)) (place_in x (children_in (entry_at done p))) (sure_in (entry_at done p)) (reach_in (entry_at done p))
      under h =
          let e = at_mid p ∙ here in
          let h2 : 0 < hits x (entered b c (children_in (entry_at a p))) = rw e at h in
          let w = counted-entered (λ m. index_in (entry_at a m)) (sure_in (entry_at a p)) (reach_in (entry_at a p)) c b (children_in (entry_at a p)) i s r (absent p) (children-once (entry_at a) l.linked p) listed (λ y hy. k p y hy) last behind x h2 in
          rw (e, sure_p, reach_p) (elim (same_or x c) [
            | same d t ↦ subst (λ m. IsIndexCached (index_in (entry_at done m)) (place_in m (entered b c (children_in (entry_at a p)))) s r) (sym d) (rw index_c (w.0 d))
            | apart ne t ↦ rw (indices x ne) (w.1 ne)
          ])

  -- a child cut from its parent, once the indices behind it count no more
  pub counted-cut : (c p : ℕ) → parent_in (entry_at a c) ≡ Some p → IsHeld a p → IsCounted (entry_at (unlinked (numbered_cut a c) c))
  counted-cut c p e hp = rw e (go (numbered_cut_from (Some p) a c) refl)
    where
      s : ℕ
      s = min (index_in (entry_at a c)) (sure_in (entry_at a p))

      r : ℕ
      r = reach_in (entry_at a p)

      go : (d : Arena (Kept X)) → d ≡ assured a p s r → IsCounted (entry_at (unlinked d c))
      go d ed q x hx =
          elim (same_or q p) [
            | same h t ↦
                let h2 : 0 < hits x (children_in (entry_at (unlinked d c) p)) = subst (λ m. 0 < hits x (children_in (entry_at (unlinked d c) m))) h hx in
                subst (λ m. IsIndexCached (index_in (entry_at (unlinked d c) x)) (place_in x (children_in (entry_at (unlinked d c) m))) (sure_in (entry_at (unlinked d c) m)) (reach_in (entry_at (unlinked d c) m))) (sym h)
                (let h3 : 0 < hits x (left_out c (children_in (entry_at a p))) = rw (lists p) at h2 in
                rw (lists p, sure_p, reaches p, indices x) (counted-left_out (λ m. index_in (entry_at a m)) (sure_in (entry_at a p)) (reach_in (entry_at a p)) c (children_in (entry_at a p)) listed (children-once (entry_at a) l.linked p) (λ y hy. k p y hy) x h3))
            | apart ne t ↦
                let same_list : children_in (entry_at (unlinked d c) q) ≡ children_in (entry_at a q) = lists q ∙ left_out-absent c (children_in (entry_at a q)) (l.linked q c ∙ ap (λ o. names o q) e ∙ names-other p q (λ w. ne (sym w))) in
                let h3 : 0 < hits x (children_in (entry_at a q)) = rw same_list at hx in
                rw (same_list, sures q ne, reaches q, indices x) (k q x h3)
          ]
        where
          held_p : IsHeld a p
          held_p = hp

          d-children : (n : ℕ) → children_in (entry_at d n) ≡ children_in (entry_at a n)
          d-children n = ap (λ (b : Arena (Kept X)). children_in (entry_at b n)) ed ∙ altered-children (with_sure s r) a p n

          d-parent : (n : ℕ) → parent_in (entry_at d n) ≡ parent_in (entry_at a n)
          d-parent n = ap (λ (b : Arena (Kept X)). parent_in (entry_at b n)) ed ∙ altered-parent (with_sure s r) a p n

          d-linked : IsLinked (entry_at d)
          d-linked n m = ap (hits m) (d-children n) ∙ l.linked n m ∙ ap (λ o. names o n) (sym (d-parent m))

          cut_is : (n : ℕ) → entry_at (unlinked d c) n ≡ cut_at c n (entry_at d n)
          cut_is = unlinked-at d c d-linked (rw (d-parent c, e) refl)

          lists : (n : ℕ) → children_in (entry_at (unlinked d c) n) ≡ left_out c (children_in (entry_at a n))
          lists n = ap children_in (cut_is n) ∙ cut-children c n (entry_at d n) ∙ ap (left_out c) (d-children n)

          indices : (n : ℕ) → index_in (entry_at (unlinked d c) n) ≡ index_in (entry_at a n)
          indices n = ap index_in (cut_is n) ∙ cut-index c n (entry_at d n) ∙ ap (λ (b : Arena (Kept X)). index_in (entry_at b n)) ed ∙ assured-index a p s r n

          sures : (n : ℕ) → (n ≡ p → ⊥) → sure_in (entry_at (unlinked d c) n) ≡ sure_in (entry_at a n)
          sures n ne = ap sure_in (cut_is n) ∙ cut-sure c n (entry_at d n) ∙ ap (λ (b : Arena (Kept X)). sure_in (entry_at b n)) ed ∙ assured-other a p s r n ne

          reaches : (n : ℕ) → reach_in (entry_at (unlinked d c) n) ≡ reach_in (entry_at a n)
          reaches n =
              ap reach_in (cut_is n) ∙ cut-reach c n (entry_at d n) ∙ ap (λ (b : Arena (Kept X)). reach_in (entry_at b n)) ed
              ∙ (elim (same_or n p) [
                | same e2 t ↦ subst (λ m. reach_in (entry_at (assured a p s r) m) ≡ reach_in (entry_at a m)) (sym e2) (assured-reach a p s r held_p)
                | apart ne t ↦ assured-far a p s r n ne
              ])

          sure_p : sure_in (entry_at (unlinked d c) p) ≡ s
          sure_p = ap sure_in (cut_is p) ∙ cut-sure c p (entry_at d p) ∙ ap (λ (b : Arena (Kept X)). sure_in (entry_at b p)) ed ∙ assured-sure a p s r held_p

          listed : 0 < hits c (children_in (entry_at a p))
          listed = omega (arith, l.linked p c, ap (λ o. names o p) e, names-same p)

  -- a node in a fresh slot
  pub counted-added : (v : Kept X) → entry_at a (next_slot a) ≡ None → IsCounted (entry_at (added a v))
  counted-added v fresh p c h =
      elim (same_or p (next_slot a)) [
        | same e t ↦
            let h2 : 0 < hits c (children_in (entry_at (added a v) (next_slot a))) = subst (λ m. 0 < hits c (children_in (entry_at (added a v) m))) e h in
            absurd (let h3 = rw (added-new a v l) at h2 in omega arith)
        | apart ne t ↦
            let h2 : 0 < hits c (children_in (entry_at a p)) = rw (added-old a v p ne) at h in
            let nc : c ≡ next_slot a → ⊥ = λ d. (let h3 : 0 < hits (next_slot a) (children_in (entry_at a p)) = subst (λ m. 0 < hits m (children_in (entry_at a p))) d h2 in omega (arith, h3, l.linked p (next_slot a), ap (λ (o : Option (Entry (Kept X))). names (parent_in o) p) fresh)) in
            rw (added-old a v p ne, added-old a v c nc) (k p c h2)
      ]

  -- a root without children taken out of its slot
  pub counted-taken : (n : ℕ) → parent_in (entry_at a n) ≡ None → IsCounted (entry_at (taken a n))
  counted-taken n root p c h =
      elim (same_or p n) [
        | same e t ↦ absurd (let h2 = rw (taken-at a n p, t) at h in omega arith)
        | apart ne t ↦
            let other : entry_at (taken a n) p ≡ entry_at a p = taken-other a n p ne in
            let h2 : 0 < hits c (children_in (entry_at a p)) = rw other at h in
            let nc : c ≡ n → ⊥ = λ d. (let h3 : 0 < hits n (children_in (entry_at a p)) = subst (λ m. 0 < hits m (children_in (entry_at a p))) d h2 in omega (arith, h3, l.linked p n, ap (λ o. names o p) root)) in
            rw (other, taken-other a n c nc) (k p c h2)
      ]
