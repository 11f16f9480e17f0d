-- Lists of children in blocks: what a block's count says of places, as children come and go.
use Rattle.std.proofs.Common.{◌≡◌, ℕ, zero, suc, ◌+◌, ◌-◌, ◌*◌, ◌/◌, ◌<◌, ◌≤◌, ◌==◌, nat_lt, nat_le, min, true, false, if◌then◌else◌, List, [], ◌∷◌, ◌++◌, length, slice_get, slice_set, slice_index_or, Option, Some, None, refl, ap, sym, ◌∙◌, subst, arith, add-one, ⊎_elim}
use Rattle.std.proofs.lemmas.{Bool.cases_lt, Bool.lt-ltb, Bool.le-ltb, Bool.Decides.nat_tests, List.length-set}
use Rattle.std.proofs.Math.Nat.{div-add-mod}
use Rattle.std.proofs.Math.Seq.{get_or-append_seam}
use Rattle.dom_model.specs.Definitions.{hits, is_number, entered, left_out, place_in}
use Rattle.dom_model.proofs.PlainLists.{Numbers.same_or, Numbers.same, Numbers.apart, Places.place_before, Places.place-there, Places.place-left_out, Places.place-entered, Places.place-kept}
use Rattle.dom_model.proofs.Forests.Chains.{place-apart}
use Rattle.dom_tree.specs.{Slots.unknown, Blocks.count_ahead, Blocks.raised_from, Blocks.raised, Blocks.lowered_from, Blocks.lowered, Blocks.block_at, Blocks.run_size, Blocks.AreFilled, Blocks.AreRuns, Blocks.AreRunsOf, Blocks.FitsBlocks}
use Rattle.dom_tree.proofs.CachedIndexLemmas.{hits-left_out, hits-entered}

-- The counts ahead.

pub ahead-first : (cs : List ℕ) → count_ahead cs 0 ≡ 0
ahead-first [] = refl
ahead-first (c ∷ cs) = refl

pub ahead-grows : (cs : List ℕ) (q r : ℕ) → q ≤ r → count_ahead cs q ≤ count_ahead cs r
ahead-grows [] q r h = omega arith
ahead-grows (c ∷ cs) zero r h = omega arith
ahead-grows (c ∷ cs) (suc q) zero h = absurd (omega arith)
ahead-grows (c ∷ cs) (suc q) (suc r) h = (let k = ahead-grows cs q r (omega arith) in omega arith)

-- a block in which something stands is one of them
pub ahead-within : (cs : List ℕ) (q : ℕ) → count_ahead cs q < count_ahead cs (suc q) → q < length cs
ahead-within [] q h = absurd (omega arith)
ahead-within (c ∷ cs) zero h = omega arith
ahead-within (c ∷ cs) (suc q) h = (let k = ahead-within cs q (omega arith) in omega arith)

-- the next block comes after one more count
pub ahead-step : (cs : List ℕ) (q : ℕ) → count_ahead cs (q + 1) ≡ count_ahead cs q + slice_index_or cs q 0
ahead-step cs q = (let e = ap (count_ahead cs) (add-one q) in let k = go cs q in omega arith)
  where
    go : (cs : List ℕ) (q : ℕ) → count_ahead cs (suc q) ≡ count_ahead cs q + slice_index_or cs q 0
    go [] q = refl
    go (c ∷ cs) zero = (let e = ahead-first cs in omega arith)
    go (c ∷ cs) (suc q) = (let k = go cs q in omega arith)

ahead-front : (cs ds : List ℕ) (q : ℕ) → q ≤ length cs → count_ahead (cs ++ ds) q ≡ count_ahead cs q
ahead-front [] ds zero h = ahead-first ds
ahead-front [] ds (suc q) h = absurd (omega arith)
ahead-front (c ∷ cs) ds zero h = refl
ahead-front (c ∷ cs) ds (suc q) h = (let k = ahead-front cs ds q (omega arith) in omega arith)

ahead-last : (cs : List ℕ) (v : ℕ) → count_ahead (cs ++ v ∷ []) (length cs + 1) ≡ count_ahead cs (length cs) + v
ahead-last cs v = (let k = ahead-step (cs ++ v ∷ []) (length cs) in let e = ahead-front cs (v ∷ []) (length cs) (omega arith) in let s = get_or-append_seam cs v [] 0 in omega arith)

-- behind the last block stand all
ahead-past : (cs : List ℕ) (q : ℕ) → length cs ≤ q → count_ahead cs q ≡ count_ahead cs (length cs)
ahead-past [] q h = refl
ahead-past (c ∷ cs) zero h = absurd (omega arith)
ahead-past (c ∷ cs) (suc q) h = (let k = ahead-past cs q (omega arith) in omega arith)

-- one more block is made, whole or the last, or one more run of blocks
pub ahead-pushed : (made : ℕ → ℕ) (size : ℕ) → ((q : ℕ) → made (q + 1) ≡ made q + size) → (cs : List ℕ) (v n count : ℕ) → length cs ≡ n → ((q : ℕ) → q ≤ n → count_ahead cs q ≡ min (made q) count) → v ≡ min (count - made n) size → made n ≤ count → (q : ℕ) → q ≤ n + 1 → count_ahead (cs ++ v ∷ []) q ≡ min (made q) count
ahead-pushed made size step cs v n count en h ev le q hq =
    ⊎_elim
    (λ (lt : q < n + 1). ahead-front cs (v ∷ []) q (omega arith) ∙ h q (omega arith))
    (λ (ge : n + 1 ≤ q).
    let e : q ≡ length cs + 1 = omega arith in
    let f : q ≡ n + 1 = omega arith in
    let m = ap made f in
    let t = step n in
    let k = ahead-last cs v in
    let a = h n (omega arith) in
    let b = ap (count_ahead cs) en in
    ap (count_ahead (cs ++ v ∷ [])) e ∙ omega arith)
    (cases_lt q (n + 1))

-- another count for a block: those ahead of it are the same, and those behind it follow it
pub ahead-set : (cs : List ℕ) (r v q old : ℕ) → slice_get cs r ≡ Some old → (q ≤ r → count_ahead (slice_set cs r v) q ≡ count_ahead cs q) × (r < q → count_ahead (slice_set cs r v) q + old ≡ count_ahead cs q + v)
ahead-set [] r v q old h = absurd (let z : None ≡ Some old = h in cc z)
ahead-set (c ∷ cs) zero v zero old h = (λ _. refl, λ lt. absurd (omega arith))
ahead-set (c ∷ cs) zero v (suc q) old h = (let e : c ≡ old = cc h in (λ le. absurd (omega arith), λ lt. omega arith))
ahead-set (c ∷ cs) (suc r) v zero old h = (λ _. refl, λ lt. absurd (omega arith))
ahead-set (c ∷ cs) (suc r) v (suc q) old h =
    let k = ahead-set cs r v q old h in
    (λ le. (let e = k.0 (omega arith) in omega arith), λ lt. (let e = k.1 (omega arith) in omega arith))

pub some-left : (n : ℕ) → (n == 0) ≡ false → 0 < n
some-left zero e = absurd (cc e)
some-left (suc n) e = omega arith

empty : (ns : List ℕ) → length ns ≤ 0 → ns ≡ []
empty [] h = refl
empty (n ∷ ns) h = absurd (omega arith)

pub raised-at : (cs : List ℕ) (r : ℕ) → 0 < length (raised cs r) → (old : ℕ) × ((slice_get cs r ≡ Some old) × (raised cs r ≡ slice_set cs r (old + 1)))
raised-at cs r h = go (slice_get cs r) refl h
  where
    go : (o : Option ℕ) → slice_get cs r ≡ o → 0 < length (raised_from o cs r) → (old : ℕ) × ((slice_get cs r ≡ Some old) × (raised_from o cs r ≡ slice_set cs r (old + 1)))
    go None e k = absurd (omega arith)
    go (Some old) e k =
        ⊎_elim
        (λ (lt : old < unknown). (let t = lt-ltb old unknown lt in (old, (e, rw t refl))))
        (λ (le : unknown ≤ old). absurd (let t = le-ltb old unknown le in let k2 = rw t at k in omega arith))
        (cases_lt old unknown)

pub lowered-at : (cs : List ℕ) (r : ℕ) → 0 < length (lowered cs r) → (left : ℕ) × ((slice_get cs r ≡ Some (left + 1)) × (lowered cs r ≡ slice_set cs r left))
lowered-at cs r h = go (slice_get cs r) refl h
  where
    go : (o : Option ℕ) → slice_get cs r ≡ o → 0 < length (lowered_from o cs r) → (left : ℕ) × ((slice_get cs r ≡ Some (left + 1)) × (lowered_from o cs r ≡ slice_set cs r left))
    go None e k = absurd (omega arith)
    go (Some zero) e k = absurd (omega arith)
    go (Some (suc left)) e k =
        let one : suc left ≡ left + 1 = omega arith in
        let less : suc left - 1 ≡ left = omega arith in
        let t : nat_lt 0 (suc left) ≡ true = lt-ltb 0 (suc left) (omega arith) in
        (left, (e ∙ ap Some one, rw t (ap (slice_set cs r) less)))

-- Runs of blocks.

-- none are kept
pub runs-none : (cs : List ℕ) → AreRuns [] cs
runs-none cs run h =
    let e : run_size * run ≡ 0 = omega arith in
    sym (ap (count_ahead cs) e ∙ ahead-first cs)

pub runs-none-of : (count : ℕ) → AreRunsOf [] count
runs-none-of count run h = omega arith

-- the runs of blocks just made
pub runs-filled : (runs cs : List ℕ) (count : ℕ) → AreFilled cs count → AreRunsOf runs count → AreRuns runs cs
runs-filled runs cs count a h run le =
    h run le ∙ sym (⊎_elim
    (λ (lt : length cs < run_size * run).
    let past = ahead-past cs (run_size * run) (omega arith) in
    let all = a.ahead (length cs) (omega arith) in
    let enough = a.enough in
    omega arith)
    (λ (in_list : run_size * run ≤ length cs). a.ahead (run_size * run) in_list)
    (cases_lt (length cs) (run_size * run)))

-- another count for a block, and for its run
runs-set : (runs cs : List ℕ) (b old new old' new' : ℕ) → AreRuns runs cs → slice_get cs b ≡ Some old → slice_get runs (b / run_size) ≡ Some old' → new + old' ≡ new' + old → AreRuns (slice_set runs (b / run_size) new') (slice_set cs b new)
runs-set runs cs b old new old' new' h e e' same_change run le =
    let d = div-add-mod b 256 in
    let known = h run (omega (arith, length-set runs (b / run_size) new')) in
    let there = ahead-set runs (b / run_size) new' run old' e' in
    let here = ahead-set cs b new (run_size * run) old e in
    ⊎_elim
    (λ (lt : b / run_size < run). (let t = there.1 lt in let k = here.1 (omega arith) in omega arith))
    (λ (ge : run ≤ b / run_size). (let t = there.0 ge in let k = here.0 (omega arith) in omega arith))
    (cases_lt (b / run_size) run)

pub runs-raised : (runs cs : List ℕ) (b : ℕ) → AreRuns runs cs → 0 < length (raised cs b) → AreRuns (raised runs (b / run_size)) (raised cs b)
runs-raised runs cs b h some =
    let (old, (e, is)) = raised-at cs b some in
    ⊎_elim
    (λ (more : 0 < length (raised runs (b / run_size))).
    let (old', (e', is')) = raised-at runs (b / run_size) more in
    subst (λ ns. AreRuns ns (raised cs b)) (sym is') (subst (AreRuns (slice_set runs (b / run_size) (old' + 1))) (sym is) (runs-set runs cs b old (old + 1) old' (old' + 1) h e e' (omega arith))))
    (λ (none : length (raised runs (b / run_size)) ≤ 0). subst (λ ns. AreRuns ns (raised cs b)) (sym (empty _ none)) (runs-none (raised cs b)))
    (cases_lt 0 (length (raised runs (b / run_size))))

pub runs-lowered : (runs cs : List ℕ) (b : ℕ) → AreRuns runs cs → 0 < length (lowered cs b) → AreRuns (lowered runs (b / run_size)) (lowered cs b)
runs-lowered runs cs b h some =
    let (left, (e, is)) = lowered-at cs b some in
    ⊎_elim
    (λ (more : 0 < length (lowered runs (b / run_size))).
    let (left', (e', is')) = lowered-at runs (b / run_size) more in
    subst (λ ns. AreRuns ns (lowered cs b)) (sym is') (subst (AreRuns (slice_set runs (b / run_size) left')) (sym is) (runs-set runs cs b (left + 1) left (left' + 1) left' h e e' (omega arith))))
    (λ (none : length (lowered runs (b / run_size)) ≤ 0). subst (λ ns. AreRuns ns (lowered cs b)) (sym (empty _ none)) (runs-none (lowered cs b)))
    (cases_lt 0 (length (lowered runs (b / run_size))))

-- Places under a change of one count. A child at the place i stands in the block q, and the change is at the place j in the block r.

module _ (A B : ℕ → ℕ) (r j : ℕ) (mono : (m n : ℕ) → m ≤ n → A m ≤ A n) where
  pub comes : A r ≤ j → j ≤ A (r + 1) → ((t : ℕ) → (t ≤ r → B t ≡ A t) × (r < t → B t ≡ A t + 1)) → (q i i' : ℕ) → A q ≤ i → i < A (q + 1) → i' ≡ i + (if nat_le j i then 1 else 0) → (B q ≤ i') × (i' < B (q + 1))
  comes lo hi b q i i' s u e =
      ⊎_elim
      (λ (lt : q < r).
      let b0 = (b q).0 (omega arith) in
      let b1 = (b (q + 1)).0 (omega arith) in
      let m = mono (q + 1) r (omega arith) in
      let e2 = here (omega arith) in
      (omega arith, omega arith))
      (λ (le : r ≤ q).
      ⊎_elim
      (λ (lt : r < q).
      let b0 = (b q).1 lt in
      let b1 = (b (q + 1)).1 (omega arith) in
      let m = mono (r + 1) q (omega arith) in
      let e2 = there (omega arith) in
      (omega arith, omega arith))
      (λ (ge : q ≤ r).
      let d : q ≡ r = omega arith in
      let b0 = (b q).0 ge in
      let b1 = (b (q + 1)).1 (omega arith) in
      (omega arith, grind (arith, nat_tests)))
      (cases_lt r q))
      (cases_lt q r)
    where
      here : i < j → i' ≡ i
      here h = grind (arith, nat_tests)

      there : j ≤ i → i' ≡ i + 1
      there h = grind (arith, nat_tests)

  pub goes : A r ≤ j → j < A (r + 1) → ((t : ℕ) → (t ≤ r → B t ≡ A t) × (r < t → B t + 1 ≡ A t)) → (q i i' : ℕ) → A q ≤ i → i < A (q + 1) → (i ≡ j → ⊥) → i' + (if nat_lt j i then 1 else 0) ≡ i → (B q ≤ i') × (i' < B (q + 1))
  goes lo hi b q i i' s u ne e =
      ⊎_elim
      (λ (lt : q < r).
      let b0 = (b q).0 (omega arith) in
      let b1 = (b (q + 1)).0 (omega arith) in
      let m = mono (q + 1) r (omega arith) in
      let e2 = here (omega arith) in
      (omega arith, omega arith))
      (λ (le : r ≤ q).
      ⊎_elim
      (λ (lt : r < q).
      let b0 = (b q).1 lt in
      let b1 = (b (q + 1)).1 (omega arith) in
      let m = mono (r + 1) q (omega arith) in
      let e2 = there (omega arith) in
      (omega arith, omega arith))
      (λ (ge : q ≤ r).
      let d : q ≡ r = omega arith in
      let b0 = (b q).0 ge in
      let b1 = (b (q + 1)).1 (omega arith) in
      let ar = ap A d in
      let ars = ap (λ n. A (n + 1)) d in
      ⊎_elim
      (λ (lt : i < j). let e2 = here (omega arith) in (omega arith, omega arith))
      (λ (ge2 : j ≤ i). let far : j < i = ⊎_elim (λ (k : j < i). k) (λ (k : i ≤ j). absurd (ne (omega arith))) (cases_lt j i) in let e2 = there far in (omega arith, omega arith))
      (cases_lt i j))
      (cases_lt r q))
      (cases_lt q r)
    where
      here : i ≤ j → i' ≡ i
      here h = grind (arith, nat_tests)

      there : j < i → i' + 1 ≡ i
      there h = grind (arith, nat_tests)

-- the first child of a block has all those of the blocks ahead before it, and no more
pub block-start : (A : ℕ → ℕ) → ((m n : ℕ) → m ≤ n → A m ≤ A n) → (q p i j : ℕ) → A q ≤ i → i < A (q + 1) → A p ≤ j → j < A (p + 1) → j + 1 ≡ i → (p ≡ q → ⊥) → A q ≡ i
block-start A mono q p i j s u s2 u2 e ne =
    ⊎_elim
    (λ (lt : p < q). let m = mono (p + 1) q (omega arith) in omega arith)
    (λ (le : q ≤ p). ⊎_elim (λ (lt : q < p). let m = mono (q + 1) p (omega arith) in absurd (omega arith)) (λ (ge : p ≤ q). absurd (ne (omega arith))) (cases_lt q p))
    (cases_lt p q)

module _ {cs : List ℕ} {index : ℕ → ℕ} {l : List ℕ} (f : FitsBlocks cs index l) where
  grows : (m n : ℕ) → m ≤ n → count_ahead cs m ≤ count_ahead cs n
  grows m n h = ahead-grows cs m n h

  pub fits-within : (x : ℕ) → 0 < hits x l → index x < length cs
  fits-within x h = ahead-within cs (index x) (let a = f.since x h in let b = f.until x h in let e = ap (count_ahead cs) (add-one (index x)) in omega arith)

  -- a child comes between two, or last, into the block of one beside it
  pub fits-entered : (b : Option ℕ) (c r : ℕ) → hits c l ≡ 0 → is_number b c ≡ false → count_ahead cs r ≤ place_before b l → place_before b l ≤ count_ahead cs (r + 1) → 0 < length (raised cs r) → (index' : ℕ → ℕ) → index' c ≡ r → ((x : ℕ) → (x ≡ c → ⊥) → index' x ≡ index x) → FitsBlocks (raised cs r) index' (entered b c l)
  fits-entered b c r z nb lo hi h index' ec eo =
      record { since = λ x hx. (both x hx).0; until = λ x hx. (both x hx).1 }
    where
      at : (old : ℕ) × ((slice_get cs r ≡ Some old) × (raised cs r ≡ slice_set cs r (old + 1)))
      at = raised-at cs r h

      B : ℕ → ℕ
      B = count_ahead (raised cs r)

      steps : (t : ℕ) → (t ≤ r → B t ≡ count_ahead cs t) × (r < t → B t ≡ count_ahead cs t + 1)
      steps t =
          let k = ahead-set cs r (at.0 + 1) t at.0 at.1.0 in
          let e = ap (λ ns. count_ahead ns t) at.1.1 in
          (λ le. e ∙ k.0 le, λ lt. (let k1 = k.1 lt in omega arith))

      pc : place_in c (entered b c l) ≡ place_before b l
      pc = place-entered b c l z nb

      both : (x : ℕ) → 0 < hits x (entered b c l) → (B (index' x) ≤ place_in x (entered b c l)) × (place_in x (entered b c l) < B (index' x + 1))
      both x hx =
          elim (same_or x c) [
            | same e t ↦
                subst (λ m. (B (index' m) ≤ place_in m (entered b c l)) × (place_in m (entered b c l) < B (index' m + 1))) (sym e)
                (rw (ec, pc) (let b0 = (steps r).0 (omega arith) in let b1 = (steps (r + 1)).1 (omega arith) in (omega arith, omega arith)))
            | apart ne t ↦
                let hxl : 0 < hits x l = omega (arith, hits-entered x c b l ne) in
                let cx : (c == x) ≡ false = elim (same_or c x) [ same e t2 ↦ absurd (ne (sym e)) | apart _ t2 ↦ t2 ] in
                rw (eo x ne) (comes (count_ahead cs) B r (place_before b l) grows lo hi steps (index x) (place_in x l) (place_in x (entered b c l)) (f.since x hxl) (f.until x hxl) (place-kept b c x l cx hxl))
          ]

  -- a child goes
  pub fits-left_out : (c : ℕ) → 0 < hits c l → ((x : ℕ) → hits x l ≤ 1) → 0 < length (lowered cs (index c)) → FitsBlocks (lowered cs (index c)) index (left_out c l)
  fits-left_out c hc once h =
      record { since = λ x hx. (both x hx).0; until = λ x hx. (both x hx).1 }
    where
      r : ℕ
      r = index c

      at : (left : ℕ) × ((slice_get cs r ≡ Some (left + 1)) × (lowered cs r ≡ slice_set cs r left))
      at = lowered-at cs r h

      B : ℕ → ℕ
      B = count_ahead (lowered cs r)

      steps : (t : ℕ) → (t ≤ r → B t ≡ count_ahead cs t) × (r < t → B t + 1 ≡ count_ahead cs t)
      steps t =
          let k = ahead-set cs r at.0 t (at.0 + 1) at.1.0 in
          let e = ap (λ ns. count_ahead ns t) at.1.1 in
          (λ le. e ∙ k.0 le, λ lt. (let k1 = k.1 lt in omega arith))

      both : (x : ℕ) → 0 < hits x (left_out c l) → (B (index x) ≤ place_in x (left_out c l)) × (place_in x (left_out c l) < B (index x + 1))
      both x hx =
          let d = hits-left_out x c l hx in
          let xc : (x == c) ≡ false = elim (same_or x c) [ same e t ↦ absurd (d.0 e) | apart _ t ↦ t ] in
          goes (count_ahead cs) B r (place_in c l) grows (f.since c hc) (f.until c hc) steps (index x) (place_in x l) (place_in x (left_out c l)) (f.since x d.1) (f.until x d.1) (λ e. d.0 (place-apart x c l d.1 e)) (place-left_out c x l (once c) xc)

  -- where a child stands at the start of its block
  pub fits-start : (x m : ℕ) → 0 < hits x l → 0 < hits m l → place_in m l + 1 ≡ place_in x l → (index m ≡ index x → ⊥) → count_ahead cs (index x) ≡ place_in x l
  fits-start x m hx hm e ne = block-start (count_ahead cs) grows (index x) (index m) (place_in x l) (place_in m l) (f.since x hx) (f.until x hx) (f.since m hm) (f.until m hm) e ne

  pub fits-first : (x : ℕ) → 0 < hits x l → place_in x l ≡ 0 → count_ahead cs (index x) ≡ place_in x l
  fits-first x hx e = (let a = f.since x hx in omega arith)

  -- of two in different blocks the one in the block ahead comes before the other
  pub fits-order : (x y : ℕ) → 0 < hits x l → 0 < hits y l → (index x ≡ index y → ⊥) → nat_lt (index x) (index y) ≡ nat_lt (place_in x l) (place_in y l)
  fits-order x y hx hy ne =
      ⊎_elim
      (λ (lt : index x < index y).
      let m = grows (index x + 1) (index y) (omega arith) in
      let u = f.until x hx in
      let s = f.since y hy in
      lt-ltb (index x) (index y) lt ∙ sym (lt-ltb (place_in x l) (place_in y l) (omega arith)))
      (λ (le : index y ≤ index x).
      ⊎_elim
      (λ (lt : index y < index x).
      let m = grows (index y + 1) (index x) (omega arith) in
      let u = f.until y hy in
      let s = f.since x hx in
      le-ltb (index x) (index y) le ∙ sym (le-ltb (place_in x l) (place_in y l) (omega arith)))
      (λ (ge : index x ≤ index y). absurd (ne (omega arith)))
      (cases_lt (index y) (index x)))
      (cases_lt (index x) (index y))

-- blocks that were just made
pub fits-filled : (cs : List ℕ) (index : ℕ → ℕ) (l : List ℕ) → AreFilled cs (length l) → ((x : ℕ) → 0 < hits x l → index x ≡ block_at (place_in x l)) → FitsBlocks cs index l
fits-filled cs index l a h =
    record {
      since = λ x hx. (let k = both x hx in rw (h x hx) k.0);
      until = λ x hx. (let k = both x hx in rw (h x hx) k.1);
    }
  where
    both : (x : ℕ) → 0 < hits x l → (count_ahead cs (block_at (place_in x l)) ≤ place_in x l) × (place_in x l < count_ahead cs (block_at (place_in x l) + 1))
    both x hx =
        let i = place-there x l hx in
        let d = div-add-mod (place_in x l) 16 in
        let en = a.enough in
        let b0 = a.ahead (block_at (place_in x l)) (omega arith) in
        let b1 = a.ahead (block_at (place_in x l) + 1) (omega arith) in
        (omega arith, omega arith)
