-- One transient registration ends, with its key among those of its node and of its observer.
use Rattle.std.proofs.Common.{◌≡◌, ◌≢◌, ◌⊎◌, inl, inr, ℕ, ◌+◌, ◌<◌, ◌≤◌, ◌==◌, Bool, true, false, ◌&&◌, if◌then◌else◌, List, [], ◌∷◌, ◌++◌, length, take, drop, filter, filter_map, Option, None, Some, is_some, refl, ap, sym, ◌∙◌, subst, arith, append-nil, ◌-◌, take_all, slice_index_or, slice_set}
use Rattle.std.specs.{Option.option_map_or, List.AllByRecursion, List.cons_option}
use Rattle.std.proofs.lemmas.{Bool.true≢false, List.get_or-set_same, List.get_or-set_other, List.take-append-le, List.take_more, List.length-take-le, List.drop-append-le, List.Elements.filter_map-append, List.Elements.filter-append}
use Rattle.dom_model.specs.Definitions.{hits, among, Registration, is_registered}
use Rattle.dom_model.proofs.Forests.Climbing.{hits-append, among-hits}
use Rattle.dom_model.proofs.PlainLists.Numbers.{same_or, same, apart}
use Rattle.dom_observe.specs.{Watchers.on, Registrations.is_live, Registrations.AllLive, Registrations.is_on_node, Registrations.lasts_for, Registrations.passes_for, Registrations.Owned, Registrations.StandsOn, Registrations.AllStand, Registrations.AreListedByNode, Registrations.HaveSources, Registrations.Agree, QueuedNodes.names_one, QueuedNodes.NamesNone, Invariant.PlacedOnce, Invariant.IsIndexed}
use Rattle.dom_observe.proofs.{EndByNodeLemmas.one-or_gone, HaveSourcesLemmas.own-shape, OwnedLemmas.passing-kind, OwnedLemmas.not_both2, OwnedLemmas.owned-ended, OwnedLemmas.owned-other, HaveOnceLemmas.once-ended, OrderedLemmas.ordered-ended, OrderedLemmas.ordered-set, OrderedLemmas.ordered-filter, RegistrationTableLemmas.all_imply, RegistrationTableLemmas.all_filter, RegistrationTableLemmas.all_at}

-- live keys have a registration each
pub live-length : (u : ℕ → Option Registration) (keys : List ℕ) → AllLive u keys → length (filter_map u keys) ≡ length keys
live-length u [] live = refl
live-length u (k ∷ keys) live = go (u k) live.0 (live-length u keys live.1)
  where
    go : (o : Option Registration) → is_some o ≡ true → length (filter_map u keys) ≡ length keys → length (cons_option o (filter_map u keys)) ≡ length (k ∷ keys)
    go None h i = absurd (true≢false (sym h))
    go (Some r) h i = omega (arith, i)

pub all_split : {A : Type 0} (P : A → Type 0) (xs ys : List A) → AllByRecursion P (xs ++ ys) → AllByRecursion P xs × AllByRecursion P ys
all_split P [] ys h = (tt, h)
all_split P (x ∷ xs) ys h = let i = all_split P xs ys h.1 in ((h.0, i.0), i.1)

-- keys without the last, and the last
pub ends-last : (keys : List ℕ) → 0 < length keys → keys ≡ take (length keys - 1) keys ++ slice_index_or keys (length keys - 1) 0 ∷ []
ends-last keys h =
    let next : (length keys - 1) + 1 ≡ length keys = omega (arith, h) in
    sym (take_all (length keys) keys (omega arith)) ∙ ap (λ (j : ℕ). take j keys) (sym next) ∙ take_more keys (length keys - 1) 0 (omega (arith, h))

pub length-last : (keys : List ℕ) → length (take (length keys - 1) keys) ≡ length keys - 1
length-last keys = length-take-le (length keys - 1) keys (omega arith)

-- under the last key is a registration on the node
pub last-stands : (u : ℕ → Option Registration) (there : ℕ → Bool) (lists : List (ℕ × List ℕ)) (node : ℕ) → AllStand u there lists → 0 < length (on node lists) → StandsOn u there node (slice_index_or (on node lists) (length (on node lists) - 1) 0)
last-stands u there lists node all h = all_at (StandsOn u there node) (on node lists) (length (on node lists) - 1) 0 (all node) (omega (arith, h))

pub stands-there : (u : ℕ → Option Registration) (there : ℕ → Bool) (node key : ℕ) → StandsOn u there node key → is_on_node node (u key) ≡ true
stands-there u there node key s = ap (is_on_node node) s.is ∙ elim (same_or s.registration.node node) [ same _ t ↦ t | apart ne _ ↦ absurd (ne s.node) ]

-- The last of the registrations on a node.
module _ (u : ℕ → Option Registration) (count : ℕ) (xs : List ℕ) (key : ℕ) (r : Registration) (live : AllLive u xs) (is : u key ≡ Some r) (within : count ≤ length xs) where
  found-last : filter_map u (xs ++ key ∷ []) ≡ filter_map u xs ++ r ∷ []
  found-last = filter_map-append u xs (key ∷ []) ∙ ap (λ o. filter_map u xs ++ cons_option o []) is

  within-found : count ≤ length (filter_map u xs)
  within-found = omega (arith, within, live-length u xs live)

  pub last-take : take count (filter_map u (xs ++ key ∷ [])) ≡ take count (filter_map u xs)
  last-take = ap (take count) found-last ∙ take-append-le count (filter_map u xs) (r ∷ []) within-found

  pub last-drop : (P : Registration → Type 0) → AllByRecursion P (drop count (filter_map u (xs ++ key ∷ []))) → AllByRecursion P (drop count (filter_map u xs)) × P r
  last-drop P all =
      let s = all_split P (drop count (filter_map u xs)) (r ∷ []) (subst (AllByRecursion P) (ap (drop count) found-last ∙ drop-append-le count (filter_map u xs) (r ∷ []) within-found) all) in
      (s.0, s.1.0)

module _ (u v : ℕ → Option Registration) (key : ℕ) (left : (k : ℕ) → v k ≡ (if k == key then None else u k)) where
  either : (k : ℕ) → (v k ≡ u k) ⊎ (v k ≡ None)
  either = one-or_gone u v key left

  was : (k : ℕ) (r : Registration) → v k ≡ Some r → u k ≡ Some r
  was k r is = go (either k)
    where
      go : (v k ≡ u k) ⊎ (v k ≡ None) → u k ≡ Some r
      go (inl e) = sym e ∙ is
      go (inr e) = let d : None ≡ Some r = sym e ∙ is in cc d

  off : (k : ℕ) → k ≢ key → v k ≡ u k
  off k ne = left k ∙ elim (same_or k key) [ same e _ ↦ absurd (ne e) | apart _ t ↦ rw t refl ]

  pub gone-agree : Agree u → Agree v
  gone-agree a = record {
    options = a.options;
    alike = λ k r is. a.alike k r (was k r is);
    one = λ k j r s e f. a.one k j r s (was k r e) (was j s f);
  }

  pub gone-sources : (r : Registration) → u key ≡ Some r → is_some r.source ≡ true → HaveSources u → HaveSources v
  gone-sources r is passing have k s n e f =
      let o = have k s n (was k s e) f in
      let t = own-shape s.observer n (u o.key) o.own in
      let other : o.key ≢ key = λ d. (
      let both : Some t.0 ≡ Some r = sym t.1 ∙ ap u d ∙ is in
      let one : t.0 ≡ r = cc both in
      true≢false (sym passing ∙ ap (λ (q : Registration). is_some q.source) (sym one) ∙ ap is_some t.4)) in
      record { key = o.key; own = ap (λ p. option_map_or (is_registered s.observer n) p false) (off o.key other) ∙ o.own }

  pub gone-indexed : (ls ps ps' : List (List ℕ)) (some : List ℕ) (there : ℕ → Bool) (r : Registration) → u key ≡ Some r → is_some r.source ≡ true → r.observer < length ps
      → ps' ≡ slice_set ps r.observer (filter (is_live v) (slice_index_or ps r.observer [])) → IsIndexed u ls ps some there → IsIndexed v ls ps' some there
  gone-indexed ls ps ps' some there r is passing lt set ix = record {
    lasting = owned-other passes_for passing-kind u v ps r.observer ix.passing either others lasts_for (λ j. refl) (not_both2 r.observer) ls ix.lasting;
    passing = owned_passing;
    lasting_once = ix.lasting_once;
    passing_once = once-ended ps ps' r.observer (is_live v) lt set ix.passing_once;
    passing_ordered = ordered-ended u v ps' either owned_passing
        (ordered-set u ps ps' r.observer keys lt set (ordered-filter u (is_live v) (slice_index_or ps r.observer []) (ix.passing_ordered r.observer)) ix.passing_ordered);
    fleeting = λ p out. elim (same_or p r.observer) [
      | same e _ ↦ ap (λ q. slice_index_or ps' q []) e ∙ ap (λ l. slice_index_or l r.observer []) set ∙ get_or-set_same ps r.observer keys [] lt ∙ ap (filter (is_live v)) (ap (λ q. slice_index_or ps q []) (sym e) ∙ ix.fleeting p out)
      | apart ne _ ↦ ap (λ l. slice_index_or l p []) set ∙ get_or-set_other ps r.observer p keys [] ne ∙ ix.fleeting p out
    ];
    known = ix.known;
  }
    where
      itself : (r.observer == r.observer) ≡ true
      itself = elim (same_or r.observer r.observer) [ same _ t ↦ t | apart ne _ ↦ absurd (ne refl) ]

      own : among key (slice_index_or ps r.observer []) ≡ true
      own = ix.passing r.observer key ∙ ap (passes_for r.observer) is ∙ (λ i. itself i && passing i)

      others : (k : ℕ) → among k (slice_index_or ps r.observer []) ≡ false → v k ≡ u k
      others k out = off k (λ e. true≢false (sym own ∙ ap (λ j. among j (slice_index_or ps r.observer [])) (sym e) ∙ out))

      keys : List ℕ
      keys = filter (is_live v) (slice_index_or ps r.observer [])

      owned_passing : Owned passes_for v ps'
      owned_passing = owned-ended passes_for passing-kind u v ps r.observer ix.passing either others ps' lt set

  -- Its key goes from its node.
  module _ (lists lists' : List (ℕ × List ℕ)) (swept : (n : ℕ) → on n lists' ≡ filter (is_live v) (on n lists)) where
    pub gone-none : (p : ℕ → Bool) → NamesNone p u lists → NamesNone p v lists'
    gone-none p none n =
        subst (AllByRecursion (λ k. names_one p (v k) ≡ false)) (sym (swept n))
        (all_imply (λ k. (names_one p (u k) ≡ false) × (is_live v k ≡ true)) (λ k. names_one p (v k) ≡ false) (λ k h. go k h.0 (either k)) (filter (is_live v) (on n lists))
        (all_filter (λ k. names_one p (u k) ≡ false) (is_live v) (on n lists) (none n)))
      where
        go : (k : ℕ) → names_one p (u k) ≡ false → (v k ≡ u k) ⊎ (v k ≡ None) → names_one p (v k) ≡ false
        go k h (inl e) = ap (names_one p) e ∙ h
        go k h (inr e) = ap (names_one p) e

    pub gone-stand : (there : ℕ → Bool) → AllStand u there lists → AllStand v there lists'
    gone-stand there all n =
        subst (AllByRecursion (StandsOn v there n)) (sym (swept n))
        (all_imply (λ k. StandsOn u there n k × (is_live v k ≡ true)) (StandsOn v there n) (λ k h. go k h.0 h.1 (either k)) (filter (is_live v) (on n lists))
        (all_filter (StandsOn u there n) (is_live v) (on n lists) (all n)))
      where
        go : (k : ℕ) → StandsOn u there n k → is_live v k ≡ true → (v k ≡ u k) ⊎ (v k ≡ None) → StandsOn v there n k
        go k s live (inl e) = record { registration = s.registration; is = e ∙ s.is; observer = s.observer; node = s.node }
        go k s live (inr e) = absurd (true≢false (sym live ∙ ap is_some e))

    -- keys without that one stay, with what stands under them
    stay : (keys : List ℕ) → among key keys ≡ false → AllLive u keys → filter_map v keys ≡ filter_map u keys
    stay [] out live = refl
    stay (k ∷ keys) out live = elim (same_or k key) [
      | same e t ↦ (let h = rw t at out in absurd (true≢false h))
      | apart ne t ↦ (let h = rw t at out in (λ i. cons_option (off k ne i) (stay keys h live.1 i)))
    ]

    remain : (keys : List ℕ) → among key keys ≡ false → AllLive u keys → filter (is_live v) keys ≡ keys
    remain [] out live = refl
    remain (k ∷ keys) out live = elim (same_or k key) [
      | same e t ↦ (let h = rw t at out in absurd (true≢false h))
      | apart ne t ↦ (
          let h = rw t at out in
          let alive : is_live v k ≡ true = ap is_some (off k ne) ∙ live.0 in
          rw alive (ap (λ ks. k ∷ ks) (remain keys h live.1)))
    ]

    module _ (placed : AreListedByNode u lists) (node : ℕ) (there : is_on_node node (u key) ≡ true) where
      pub gone-elsewhere : (n : ℕ) → n ≢ node → AllLive u (on n lists) → filter_map v (on n lists') ≡ filter_map u (on n lists)
      gone-elsewhere n ne live = ap (filter_map v) (swept n ∙ remain (on n lists) out live) ∙ stay (on n lists) out live
        where
          go : (o : Option Registration) → is_on_node node o ≡ true → is_on_node n o ≡ false
          go None h = absurd (true≢false (sym h))
          go (Some r) h = elim (same_or r.node n) [
            | same e _ ↦ elim (same_or r.node node) [ same f _ ↦ absurd (ne (sym e ∙ f)) | apart _ t ↦ absurd (true≢false (sym h ∙ t)) ]
            | apart _ t ↦ t
          ]

          out : among key (on n lists) ≡ false
          out = placed n key ∙ go (u key) there

      -- the others of the node are ahead of it
      module _ (xs : List ℕ) (ends : on node lists ≡ xs ++ key ∷ []) (once : PlacedOnce lists) (live : AllLive u (on node lists)) where
        before : AllLive u xs × AllLive u (key ∷ [])
        before = all_split (λ k. is_live u k ≡ true) xs (key ∷ []) (subst (AllLive u) ends live)

        fresh : among key xs ≡ false
        fresh = go (among key xs) refl
          where
            go : (b : Bool) → among key xs ≡ b → b ≡ false
            go false e = refl
            go true e = absurd (omega (arith, once node key, ap (hits key) ends, hits-append key xs (key ∷ []), among-hits key xs e, own))
              where
                own : hits key (key ∷ []) ≡ 1
                own = elim (same_or key key) [ same _ t ↦ rw t refl | apart ne _ ↦ absurd (ne refl) ]

        gone : v key ≡ None
        gone = left key ∙ elim (same_or key key) [ same _ t ↦ rw t refl | apart ne _ ↦ absurd (ne refl) ]

        pub gone-keys : on node lists' ≡ xs
        gone-keys = swept node ∙ ap (filter (is_live v)) ends ∙ filter-append (is_live v) xs (key ∷ []) ∙ rw gone (append-nil (filter (is_live v) xs)) ∙ remain xs fresh before.0

        pub gone-here : filter_map v (on node lists') ≡ filter_map u xs
        gone-here = ap (filter_map v) gone-keys ∙ stay xs fresh before.0

        module _ (count : ℕ) (within : count ≤ length xs) (r : Registration) (is : u key ≡ Some r) where
          pub gone-kept : take count (filter_map v (on node lists')) ≡ take count (filter_map u (on node lists))
          gone-kept = ap (take count) gone-here ∙ sym (ap (λ ks. take count (filter_map u ks)) ends ∙ last-take u count xs key r before.0 is within)

          pub gone-rest : (P : Registration → Type 0) → AllByRecursion P (drop count (filter_map u (on node lists))) → AllByRecursion P (drop count (filter_map v (on node lists'))) × P r
          gone-rest P all =
              let s = last-drop u count xs key r before.0 is within P (subst (λ ks. AllByRecursion P (drop count (filter_map u ks))) ends all) in
              (subst (λ rs. AllByRecursion P (drop count rs)) (sym gone-here) s.0, s.1)
