-- The chains stay spelled as an item is taken out of its chain, and as one comes first in a chain.
use Rattle.std.proofs.Common.{◌≡◌, ℕ, ◌≤◌, ◌<◌, ◌==◌, true, false, cond, List, [], ◌∷◌, length, set, Option, Some, None, unwrap_or, refl, sym, ap, ◌∙◌, ⊎_elim, arith, length-set, get_or-set_same, get_or-set_other, if◌then◌else◌}
use Rattle.std.proofs.lemmas.{Bool.cases_Bool, Bool.cases_eq, Bool.eq-eqb, Bool.ne_eqb, Bool.Decides.nat_tests}
use Rattle.dom_model.specs.Definitions.{hits, is_number, head_of, after, before_from, before, left_out}
use Rattle.dom_links.specs.LinkSteps.{link_unless}
use Rattle.dom_links.proofs.ListNeighbourLemmas.{hits-left_out_other, head_of-left_out, after-left_out, before_from-left_out, meets, first_of}
use Rattle.dom_chains.specs.{Keyed.covers, Chained.Firsts, Chained.head_at, Chained.cover_of, Chained.Links, Chained.link_at, Chained.counted_at, Chained.IsChained, Chained.ForLink, Chained.led, Chained.heads_led, Chained.led_on, Chained.led_back, Chained.led_first, Chained.keys_without, Chained.unchained, Chained.chained_first}
use Rattle.dom_chains.proofs.{AfterBeforeLemmas.after-there, AfterBeforeLemmas.before-there, AfterBeforeLemmas.head-there, AfterBeforeLemmas.has-head, CoversLemmas.head-within, CoversLemmas.head-covers}
use Rattle.dom_model.proofs.Soundness.SoundEditing.{number_is}
use Rattle.dom_model.proofs.MutationAlgorithms.Emptied.{none-left_out}
use Rattle.dom_model.proofs.Forests.Lying.{left_out-absent}

-- an item has one key
stands-both : (n m : ℕ) (o : Option ℕ) → 0 < counted_at n o → 0 < counted_at m o → n ≡ m
stands-both n m None a b = absurd (omega arith)
stands-both n m (Some k) a b = grind (arith, nat_tests)

stands-once : (n : ℕ) (o : Option ℕ) → counted_at n o ≤ 1
stands-once n None = omega arith
stands-once n (Some k) = grind (arith, nat_tests)

pub stands-itself : (n : ℕ) → counted_at n (Some n) ≡ 1
stands-itself n = rw (eq-eqb n n refl) refl

pub stands-there : (n : ℕ) (o : Option ℕ) → 0 < counted_at n o → o ≡ Some n
stands-there n None h = absurd (omega arith)
stands-there n (Some k) h = ap Some (stands-both k n (Some k) (omega (arith, stands-itself k)) h)

-- a link or a head that is written, and the others
led-at : (from to : Option ℕ) (links : List (Option ℕ)) (k : ℕ) → ForLink from (length links) → link_at (led from to links) k ≡ (if is_number from k then to else link_at links k)
led-at None to links k w = refl
led-at (Some p) to links k w =
    ⊎_elim (λ (e : p ≡ k). let a : (p == k) ≡ true = eq-eqb p k e in let w' : k < length links = omega arith in rw a (rw e (get_or-set_same links k to None w')))
    (λ (d : p ≡ k → ⊥). let a : (p == k) ≡ false = ne_eqb p k d in rw a (get_or-set_other links p k to None (λ q. d (sym q)))) (cases_eq p k)

pub led-length : (from to : Option ℕ) (links : List (Option ℕ)) → length (led from to links) ≡ length links
led-length None to links = refl
led-length (Some p) to links = length-set links p to

written-head : (heads : Firsts) (n : ℕ) (o : Option ℕ) → n < length heads → head_at (set heads n (Some o)) n ≡ o
written-head heads n o w = ap (λ (x : Option (Option ℕ)). unwrap_or x None) (get_or-set_same heads n (Some o) None w)

written-other : (heads : Firsts) (n m : ℕ) (o : Option ℕ) → (m ≡ n → ⊥) → head_at (set heads n (Some o)) m ≡ head_at heads m
written-other heads n m o d = ap (λ (x : Option (Option ℕ)). unwrap_or x None) (get_or-set_other heads n m (Some o) None d)

module _ (keys : ℕ → Option ℕ) (c : ℕ → List ℕ) (l : Links) (ok : IsChained keys c l) where
  pub in-stands : (e n : ℕ) → 0 < hits e (c n) → keys e ≡ Some n
  in-stands e n h = stands-there n (keys e) (omega (arith, ok.counted e n))

  pub once : (e n : ℕ) → hits e (c n) ≤ 1
  once e n = omega (arith, ok.counted e n, stands-once n (keys e))

  pub in-chain : (e n : ℕ) → keys e ≡ Some n → hits e (c n) ≡ 1
  in-chain e n h = ok.counted e n ∙ ap (counted_at n) h ∙ stands-itself n

  one-chain : (e n m : ℕ) → 0 < hits e (c n) → 0 < hits e (c m) → n ≡ m
  one-chain e n m a b = stands-both n m (keys e) (omega (arith, ok.counted e n)) (omega (arith, ok.counted e m))

  -- a key in whose chain an item is, and so one that an item has, is covered
  pub covered : (e n : ℕ) → 0 < hits e (c n) → covers (cover_of l.heads) n ≡ true
  covered e n h = go (head_at l.heads n) refl
    where
      go : (o : Option ℕ) → head_at l.heads n ≡ o → covers (cover_of l.heads) n ≡ true
      go None q = absurd (has-head e (c n) h (sym (ok.first n) ∙ q))
      go (Some k) q = head-covers l.heads n k q

  link-within : (o : Option ℕ) (n : ℕ) → ((k : ℕ) → o ≡ Some k → 0 < hits k (c n)) → ForLink o (length l.prevs) × ForLink o (length l.nexts)
  link-within None n h = (tt, tt)
  link-within (Some k) n h = ok.within k n (h k refl)

  pub first-within : (n : ℕ) → ForLink (head_at l.heads n) (length l.prevs)
  first-within n = (link-within (head_at l.heads n) n (λ k q. head-there k (c n) (sym (ok.first n) ∙ q))).0

-- an item is taken out, whose links were read
module _ (keys : ℕ → Option ℕ) (c : ℕ → List ℕ) (l : Links) (ok : IsChained keys c l) (e p : ℕ) (at : keys e ≡ Some p) (back on : Option ℕ) (back-is : back ≡ link_at l.prevs e) (on-is : on ≡ link_at l.nexts e) where
  here : 0 < hits e (c p)
  here = omega (arith, in-chain keys c l ok e p at)

  pub key-covered : covers (cover_of l.heads) p ≡ true
  key-covered = covered keys c l ok e p here

  comes-before : (n : ℕ) → 0 < hits e (c n) → back ≡ before e (c n)
  comes-before n h = back-is ∙ ok.prev e n h

  comes-after : (n : ℕ) → 0 < hits e (c n) → on ≡ after e (c n)
  comes-after n h = on-is ∙ ok.next e n h

  pub back-within : ForLink back (length l.nexts)
  back-within = (link-within keys c l ok back p (λ k q. before-there e k (c p) (sym (comes-before p here) ∙ q))).1

  pub on-within : ForLink on (length l.prevs)
  on-within = (link-within keys c l ok on p (λ k q. after-there e k (c p) (sym (comes-after p here) ∙ q))).0

  apart : (n : ℕ) → hits e (c n) ≡ 0 → n ≡ p → ⊥
  apart n z q = let a : 0 < hits e (c n) = rw q here in omega arith

  -- its neighbours stand in its own chain
  not-before : (k n : ℕ) → hits e (c n) ≡ 0 → 0 < hits k (c n) → is_number back k ≡ false
  not-before k n z h =
      ⊎_elim (λ (y : is_number back k ≡ true). absurd (apart n z (one-chain keys c l ok k n p h (before-there e k (c p) (sym (comes-before p here) ∙ number_is back k y)))))
      (λ y. y) (cases_Bool (is_number back k))

  not-after : (k n : ℕ) → hits e (c n) ≡ 0 → 0 < hits k (c n) → is_number on k ≡ false
  not-after k n z h =
      ⊎_elim (λ (y : is_number on k ≡ true). absurd (apart n z (one-chain keys c l ok k n p h (after-there e k (c p) (sym (comes-after p here) ∙ number_is on k y)))))
      (λ y. y) (cases_Bool (is_number on k))

  first-here : head_at (heads_led back p on l.heads) p ≡ head_of (left_out e (c p))
  first-here = go back (comes-before p here) ∙ sym (head_of-left_out e (c p) (once keys c l ok e p))
    where
      starts : is_number (link_unless (before e (c p)) 0) 0 ≡ is_number (head_of (c p)) e
      starts = first_of e 0 (c p) (in-chain keys c l ok e p at)

      go : (o : Option ℕ) → o ≡ before e (c p) → head_at (heads_led o p on l.heads) p ≡ cond (is_number (head_of (c p)) e) (after e (c p)) (head_of (c p))
      go None q =
          let a : true ≡ is_number (head_of (c p)) e = rw (← q) at starts in
          rw (← a) (written-head l.heads p on (head-within l.heads p key-covered) ∙ comes-after p here)
      go (Some b) q = let a : false ≡ is_number (head_of (c p)) e = rw (← q) at starts in rw (← a) (ok.first p)

  first-there : (n : ℕ) → (n ≡ p → ⊥) → (o : Option ℕ) → head_at (heads_led o p on l.heads) n ≡ head_at l.heads n
  first-there n d None = written-other l.heads p n on d
  first-there n d (Some b) = refl

  pub IsChained-without : IsChained (keys_without e keys) (unchained e c) (led_back on back (led_on back p on l))
  IsChained-without = record { first = first; counted = counted; next = next; prev = prev; within = within; few = rw (led-length back on l.nexts) ok.few }
    where
      other : (k n : ℕ) → 0 < hits k (left_out e (c n)) → k ≡ e → ⊥
      other k n h q = let a : 0 < hits e (left_out e (c n)) = rw q at h in omega (arith, none-left_out e (c n))

      stayed : (k n : ℕ) → 0 < hits k (left_out e (c n)) → 0 < hits k (c n)
      stayed k n h = omega (arith, hits-left_out_other k e (c n) (λ q. other k n h (sym q)))

      first : (n : ℕ) → head_at (heads_led back p on l.heads) n ≡ head_of (left_out e (c n))
      first n =
          ⊎_elim (λ (z : hits e (c n) ≡ 0). first-there n (apart n z) back ∙ ok.first n ∙ sym (ap head_of (left_out-absent e (c n) z)))
          (λ (d : hits e (c n) ≡ 0 → ⊥). let q : n ≡ p = one-chain keys c l ok e n p (omega arith) here in rw q first-here) (cases_eq (hits e (c n)) 0)

      counted : (k n : ℕ) → hits k (left_out e (c n)) ≡ counted_at n (keys_without e keys k)
      counted k n =
          ⊎_elim (λ (q : k ≡ e). let y : (k == e) ≡ true = eq-eqb k e q in rw (y, q) (none-left_out e (c n)))
          (λ (d : k ≡ e → ⊥). let y : (k == e) ≡ false = ne_eqb k e d in rw y (hits-left_out_other k e (c n) (λ q. d (sym q)) ∙ ok.counted k n)) (cases_eq k e)

      next : (k n : ℕ) → 0 < hits k (left_out e (c n)) → link_at (led back on l.nexts) k ≡ after k (left_out e (c n))
      next k n h =
          let d = other k n h in
          let there : 0 < hits k (c n) = stayed k n h in
          led-at back on l.nexts k back-within
          ∙ ⊎_elim (λ (z : hits e (c n) ≡ 0). rw (not-before k n z there) (ok.next k n there ∙ sym (ap (after k) (left_out-absent e (c n) z))))
          (λ (y : hits e (c n) ≡ 0 → ⊥).
          let inside : 0 < hits e (c n) = omega arith in
          let m = meets None e k (c n) d (once keys c l ok e n) (once keys c l ok k n) refl in
          rw (comes-before n inside, comes-after n inside, ok.next k n there, m) (sym (after-left_out k e (c n) d (once keys c l ok e n)))) (cases_eq (hits e (c n)) 0)

      prev : (k n : ℕ) → 0 < hits k (left_out e (c n)) → link_at (led on back l.prevs) k ≡ before k (left_out e (c n))
      prev k n h =
          let d = other k n h in
          let there : 0 < hits k (c n) = stayed k n h in
          led-at on back l.prevs k on-within
          ∙ ⊎_elim (λ (z : hits e (c n) ≡ 0). rw (not-after k n z there) (ok.prev k n there ∙ sym (ap (before k) (left_out-absent e (c n) z))))
          (λ (y : hits e (c n) ≡ 0 → ⊥).
          let inside : 0 < hits e (c n) = omega arith in
          let m = meets None k e (c n) (λ q. d (sym q)) (once keys c l ok k n) (once keys c l ok e n) refl in
          rw (comes-before n inside, comes-after n inside, ok.prev k n there, ← m) (sym (before_from-left_out None k e (c n) d (once keys c l ok e n) refl))) (cases_eq (hits e (c n)) 0)

      within : (k n : ℕ) → 0 < hits k (left_out e (c n)) → (k < length (led on back l.prevs)) × (k < length (led back on l.nexts))
      within k n h = rw (led-length on back l.prevs, led-length back on l.nexts) (ok.within k n (stayed k n h))

-- an item that is in no chain comes first in that of its key
module _ (keys : ℕ → Option ℕ) (c : ℕ → List ℕ) (l : Links) (e p : ℕ) (ok : IsChained (keys_without e keys) c l) (at : keys e ≡ Some p) (covers-it : covers (cover_of l.heads) p ≡ true) (inside : (e < length l.prevs) × (e < length l.nexts)) where
  abbrev head : Option ℕ
  head = head_at l.heads p

  abbrev prevs : List (Option ℕ)
  prevs = led head (Some e) l.prevs

  absent : (n : ℕ) → hits e (c n) ≡ 0
  absent n = let a : counted_at n (keys_without e keys e) ≡ 0 = rw (eq-eqb e e refl) refl in ok.counted e n ∙ a

  prev-itself : link_at (set prevs e None) e ≡ None
  prev-itself = get_or-set_same prevs e None None (omega (arith, led-length head (Some e) l.prevs, inside.0))

  prev-other : (k : ℕ) → (k ≡ e → ⊥) → link_at (set prevs e None) k ≡ (if is_number head k then Some e else link_at l.prevs k)
  prev-other k d = get_or-set_other prevs e k None None d ∙ led-at head (Some e) l.prevs k (first-within (keys_without e keys) c l ok p)

  before-first : (k : ℕ) (xs : List ℕ) → before_from (Some e) k xs ≡ (if is_number (head_of xs) k then Some e else before k xs)
  before-first k [] = refl
  before-first k (x ∷ xs) = ⊎_elim (λ (y : (x == k) ≡ true). rw y refl) (λ (y : (x == k) ≡ false). rw y refl) (cases_Bool (x == k))

  not-head : (k n : ℕ) → 0 < hits k (c n) → (p ≡ n → ⊥) → is_number head k ≡ false
  not-head k n h d =
      ⊎_elim (λ (y : is_number head k ≡ true).
      absurd (d (one-chain (keys_without e keys) c l ok k p n (head-there k (c p) (sym (ok.first p) ∙ number_is head k y)) h))) (λ y. y) (cases_Bool (is_number head k))

  -- the chains as they were of the other items
  others : (k n : ℕ) → (k ≡ e → ⊥) → hits k (chained_first e p c n) ≡ hits k (c n)
  others k n d =
      let f : (e == k) ≡ false = ne_eqb e k (λ q. d (sym q)) in
      ⊎_elim (λ (y : (p == n) ≡ true). rw (y, f) (omega arith)) (λ (y : (p == n) ≡ false). rw y refl) (cases_Bool (p == n))

  pub IsChained-with : IsChained keys (chained_first e p c) (led_first e p l)
  IsChained-with = record { first = first; counted = counted; next = next; prev = prev; within = within; few = rw (length-set l.nexts e head) ok.few }
    where
      first : (n : ℕ) → head_at (set l.heads p (Some (Some e))) n ≡ head_of (chained_first e p c n)
      first n =
          ⊎_elim (λ (q : p ≡ n). let y : (p == n) ≡ true = eq-eqb p n q in rw y (rw (← q) (written-head l.heads p (Some e) (head-within l.heads p covers-it))))
          (λ (d : p ≡ n → ⊥). let y : (p == n) ≡ false = ne_eqb p n d in rw y (written-other l.heads p n (Some e) (λ q. d (sym q)) ∙ ok.first n)) (cases_eq p n)

      counted : (k n : ℕ) → hits k (chained_first e p c n) ≡ counted_at n (keys k)
      counted k n =
          ⊎_elim (λ (q : k ≡ e). rw (q, at) itself)
          (λ (d : k ≡ e → ⊥). let y : (k == e) ≡ false = ne_eqb k e d in let a : hits k (c n) ≡ counted_at n (keys k) = rw y at (ok.counted k n) in others k n d ∙ a) (cases_eq k e)
        where
          itself : hits e (chained_first e p c n) ≡ counted_at n (Some p)
          itself =
              let z = absent n in
              ⊎_elim (λ (y : (p == n) ≡ true). rw (y, eq-eqb e e refl) (omega arith)) (λ (y : (p == n) ≡ false). rw y z) (cases_Bool (p == n))

      next : (k n : ℕ) → 0 < hits k (chained_first e p c n) → link_at (set l.nexts e head) k ≡ after k (chained_first e p c n)
      next k n h = ⊎_elim (λ (q : k ≡ e). itself q) (λ (d : k ≡ e → ⊥). other d) (cases_eq k e)
        where
          itself : k ≡ e → link_at (set l.nexts e head) k ≡ after k (chained_first e p c n)
          itself q =
              ⊎_elim (λ (same : p ≡ n).
              let y : (p == n) ≡ true = eq-eqb p n same in
              let a : head ≡ after e (chained_first e p c n) = rw (y, eq-eqb e e refl) (rw same (ok.first n)) in
              rw q (get_or-set_same l.nexts e head None inside.1 ∙ a))
              (λ (d : p ≡ n → ⊥).
              let y : (p == n) ≡ false = ne_eqb p n d in
              let h' : 0 < hits e (c n) = rw (q, y) at h in
              absurd (omega (arith, absent n))) (cases_eq p n)

          other : (k ≡ e → ⊥) → link_at (set l.nexts e head) k ≡ after k (chained_first e p c n)
          other d =
              let f : (e == k) ≡ false = ne_eqb e k (λ q. d (sym q)) in
              let h' : 0 < hits k (c n) = omega (arith, others k n d) in
              get_or-set_other l.nexts e k head None d ∙ ok.next k n h'
              ∙ ⊎_elim (λ (y : (p == n) ≡ true). rw (y, f) refl) (λ (y : (p == n) ≡ false). rw y refl) (cases_Bool (p == n))

      prev : (k n : ℕ) → 0 < hits k (chained_first e p c n) → link_at (set prevs e None) k ≡ before k (chained_first e p c n)
      prev k n h = ⊎_elim (λ (q : k ≡ e). itself q) (λ (d : k ≡ e → ⊥). other d) (cases_eq k e)
        where
          itself : k ≡ e → link_at (set prevs e None) k ≡ before k (chained_first e p c n)
          itself q =
              ⊎_elim (λ (y : (p == n) ≡ true). let a : None ≡ before e (chained_first e p c n) = rw (y, eq-eqb e e refl) refl in rw q (prev-itself ∙ a))
              (λ (y : (p == n) ≡ false). let h' : 0 < hits e (c n) = rw (q, y) at h in absurd (omega (arith, absent n))) (cases_Bool (p == n))

          other : (k ≡ e → ⊥) → link_at (set prevs e None) k ≡ before k (chained_first e p c n)
          other d =
              let f : (e == k) ≡ false = ne_eqb e k (λ q. d (sym q)) in
              let h' : 0 < hits k (c n) = omega (arith, others k n d) in
              prev-other k d
              ∙ (⊎_elim (λ (same : p ≡ n).
              let y : (p == n) ≡ true = eq-eqb p n same in
              rw (y, f) (rw (same, ok.first n, ok.prev k n h') (sym (before-first k (c n)))))
              (λ (dn : p ≡ n → ⊥).
              let y : (p == n) ≡ false = ne_eqb p n dn in
              let z : is_number head k ≡ false = not-head k n h' dn in
              rw (y, z) (ok.prev k n h')) (cases_eq p n))

      within : (k n : ℕ) → 0 < hits k (chained_first e p c n) → (k < length (set prevs e None)) × (k < length (set l.nexts e head))
      within k n h =
          rw (length-set prevs e None, led-length head (Some e) l.prevs, length-set l.nexts e head)
          (⊎_elim (λ (q : k ≡ e). rw q inside) (λ (d : k ≡ e → ⊥). ok.within k n (omega (arith, others k n d))) (cases_eq k e))
