-- How many registrations stand under keys: as many as are left where later equal ones are left out.
use Rattle.std.proofs.Common.{◌≡◌, ℕ, zero, suc, ◌==◌, Bool, true, false, not, ◌||◌, List, [], ◌∷◌, length, filter, filter_map, count_by, Option, None, Some, is_some, option_map, refl, ap, sym, ◌∙◌, subst, cond, arith, slice_index_or}
use Rattle.std.specs.{List.AllByRecursion, List.IsDistinct, List.list_any, List.cons_option, Cmp.IsEquivalence}
use Rattle.std.proofs.lemmas.{Bool.true≢false, List.Sums.sum_by-cons, Map.Made.length-le_from_is_member}
use Rattle.dom_model.specs.Definitions.{among, Registration, registered_on}
use Rattle.dom_model.proofs.PlainLists.Numbers.{Same, same_or, same, apart}
use Rattle.dom_observe.specs.declared.registration.Registration as held
use Rattle.dom_observe.specs.{WithoutRepeats.same_registration, WithoutRepeats.once, Watchers.on, Registrations.Registered, Registrations.plain, Registrations.at, Registrations.found, Registrations.is_on_node, Registrations.AreListedByNode, Invariant.registered_nodes}
use Rattle.dom_observe.proofs.{IsDistinctLemmas.distinct-none, IsDistinctLemmas.distinct-more, IsDistinctLemmas.distinct-first, IsDistinctLemmas.distinct-rest, IsDistinctLemmas.all-none, InvariantLemmas.on-registered_nodes, OnceLemmas.same-is, OnceLemmas.same-itself, OnceLemmas.apart_from, OnceLemmas.any-once, IsSoundLemmas.any_found}
use Rattle.dom_model.proofs.Forests.Below.{at_itself}

-- Being equal in every field.

alike : (a b : Bool) → (a ≡ true → b ≡ true) → (b ≡ true → a ≡ true) → a ≡ b
alike true b f g = sym (f refl)
alike false true f g = g refl
alike false false f g = refl

same-turned : (r s : Registration) → same_registration r s ≡ true → same_registration s r ≡ true
same-turned r s h = subst (λ t. same_registration t r ≡ true) (same-is r s h) (same-itself r)

same-equivalence : IsEquivalence same_registration
same-equivalence = record {
  refl = same-itself;
  symm = λ r s. alike (same_registration r s) (same_registration s r) (same-turned r s) (same-turned s r);
  congr = λ r s t h. ap (λ q. same_registration q t) (same-is r s h);
}

-- Lists in which nothing comes again.

all-filter : (P : Registration → Type 0) (keep : Registration → Bool) (rs : List Registration) → AllByRecursion P rs → AllByRecursion P (filter keep rs)
all-filter P keep [] h = tt
all-filter P keep (r ∷ rs) h = go (keep r) (all-filter P keep rs h.1)
  where
    go : (b : Bool) → AllByRecursion P (filter keep rs) → AllByRecursion P (cond b (r ∷ filter keep rs) (filter keep rs))
    go true rest = (h.0, rest)
    go false rest = rest

distinct-filter : (keep : Registration → Bool) (rs : List Registration) → IsDistinct same_registration rs → IsDistinct same_registration (filter keep rs)
distinct-filter keep [] h = h
distinct-filter keep (r ∷ rs) h = go (keep r) (distinct-filter keep rs (distinct-rest r rs h))
  where
    go : (b : Bool) → IsDistinct same_registration (filter keep rs) → IsDistinct same_registration (cond b (r ∷ filter keep rs) (filter keep rs))
    go true rest = distinct-more r (filter keep rs) (all-filter (λ s. same_registration r s ≡ false) keep rs (distinct-first r rs h)) rest
    go false rest = rest

all-apart : (r : Registration) (rs : List Registration) → AllByRecursion (λ s. same_registration r s ≡ false) (apart_from r rs)
all-apart r [] = tt
all-apart r (s ∷ rs) = go (same_registration r s) refl (all-apart r rs)
  where
    go : (b : Bool) → same_registration r s ≡ b → AllByRecursion (λ t. same_registration r t ≡ false) (apart_from r rs)
        → AllByRecursion (λ t. same_registration r t ≡ false) (cond (not b) (s ∷ apart_from r rs) (apart_from r rs))
    go true e rest = rest
    go false e rest = (e, rest)

once-distinct : (rs : List Registration) → IsDistinct same_registration (once rs)
once-distinct [] = distinct-none
once-distinct (r ∷ rs) = distinct-more r (apart_from r (once rs)) (all-apart r (once rs)) (distinct-filter (λ s. not (same_registration r s)) (once rs) (once-distinct rs))

none-of : (p : Registration → Bool) (rs : List Registration) → AllByRecursion (λ s. p s ≡ false) rs → list_any p rs ≡ false
none-of p [] h = refl
none-of p (r ∷ rs) h = ap (λ b. b || list_any p rs) h.0 ∙ none-of p rs h.1

-- A filter that keeps what passes.
any-kept : (p keep : Registration → Bool) → ((r : Registration) → p r ≡ true → keep r ≡ true) → (rs : List Registration) → list_any p (filter keep rs) ≡ list_any p rs
any-kept p keep each [] = refl
any-kept p keep each (r ∷ rs) = go (keep r) (p r) refl refl (any-kept p keep each rs)
  where
    go : (b v : Bool) → keep r ≡ b → p r ≡ v → list_any p (filter keep rs) ≡ list_any p rs → list_any p (cond b (r ∷ filter keep rs) (filter keep rs)) ≡ (v || list_any p rs)
    go true v e f rest = ap (λ c. c || list_any p (filter keep rs)) f ∙ ap (λ c. v || c) rest
    go false true e f rest = absurd (true≢false (sym (each r f) ∙ e))
    go false false e f rest = rest

-- What a list of places has of registrations.
module _ {A : Type 0} (f : A → Option Registration) where
  -- what is in a place is among them
  member-at : (xs : List A) (i : ℕ) (d : A) (q : Registration) → f d ≡ None → f (slice_index_or xs i d) ≡ Some q → list_any (same_registration q) (filter_map f xs) ≡ true
  member-at [] i d q none is = let e : None ≡ Some q = sym none ∙ is in cc e
  member-at (x ∷ xs) zero d q none is = ap (λ o. list_any (same_registration q) (cons_option o (filter_map f xs))) is ∙ ap (λ b. b || list_any (same_registration q) (filter_map f xs)) (same-itself q)
  member-at (x ∷ xs) (suc i) d q none is = go (f x) (member-at xs i d q none is)
    where
      or_true : (b : Bool) → (b || true) ≡ true
      or_true true = refl
      or_true false = refl

      go : (o : Option Registration) → list_any (same_registration q) (filter_map f xs) ≡ true → list_any (same_registration q) (cons_option o (filter_map f xs)) ≡ true
      go None rest = rest
      go (Some r) rest = ap (λ b. same_registration q r || b) rest ∙ or_true (same_registration q r)

  -- what is among them is in a place
  at-member : (xs : List A) (d : A) (q : Registration) → list_any (same_registration q) (filter_map f xs) ≡ true → (i : ℕ) × (f (slice_index_or xs i d) ≡ Some q)
  at-member [] d q h = absurd (true≢false (sym h))
  at-member (x ∷ xs) d q h = go (f x) refl (λ g. further (at-member xs d q g)) h
    where
      further : (i : ℕ) × (f (slice_index_or xs i d) ≡ Some q) → (i : ℕ) × (f (slice_index_or (x ∷ xs) i d) ≡ Some q)
      further p = (suc p.0, p.1)

      by : (r : Registration) → f x ≡ Some r → (b : Bool) → same_registration q r ≡ b → (list_any (same_registration q) (filter_map f xs) ≡ true → (i : ℕ) × (f (slice_index_or (x ∷ xs) i d) ≡ Some q))
          → (b || list_any (same_registration q) (filter_map f xs)) ≡ true → (i : ℕ) × (f (slice_index_or (x ∷ xs) i d) ≡ Some q)
      by r e true t rest g = (0, e ∙ ap (λ s. Some s) (sym (same-is q r t)))
      by r e false t rest g = rest g

      go : (o : Option Registration) → f x ≡ o → (list_any (same_registration q) (filter_map f xs) ≡ true → (i : ℕ) × (f (slice_index_or (x ∷ xs) i d) ≡ Some q))
          → list_any (same_registration q) (cons_option o (filter_map f xs)) ≡ true → (i : ℕ) × (f (slice_index_or (x ∷ xs) i d) ≡ Some q)
      go None e rest g = rest g
      go (Some r) e rest g = by r e (same_registration q r) refl rest g

  -- where no two places have the same, nothing comes again
  distinct-places : (xs : List A) (d : A) → ((i j : ℕ) (r : Registration) → f (slice_index_or xs i d) ≡ Some r → f (slice_index_or xs j d) ≡ Some r → i ≡ j) → IsDistinct same_registration (filter_map f xs)
  distinct-places [] d one = distinct-none
  distinct-places (x ∷ xs) d one = go (f x) refl (distinct-places xs d (λ i j r a b. omega (arith, one (suc i) (suc j) r a b)))
    where
      absent : (r : Registration) → f x ≡ Some r → (b : Bool) → list_any (same_registration r) (filter_map f xs) ≡ b → b ≡ false
      absent r e true t = let p = at-member xs d r t in let z : 0 ≡ suc p.0 = one 0 (suc p.0) r e p.1 in absurd (omega (arith, z))
      absent r e false t = refl

      go : (o : Option Registration) → f x ≡ o → IsDistinct same_registration (filter_map f xs) → IsDistinct same_registration (cons_option o (filter_map f xs))
      go None e rest = rest
      go (Some r) e rest =
          let none = absent r e (list_any (same_registration r) (filter_map f xs)) refl in
          distinct-more r (filter_map f xs) (all-none (same_registration r) (filter_map f xs) none) rest

-- a key that is among others, with what stands under it, is the only one of these
apart-keys : (u : ℕ → Option Registration) (keys : List ℕ) (k m : ℕ) (r : Registration) → u k ≡ Some r → u m ≡ Some r → among k keys ≡ true → among m keys ≡ true
    → IsDistinct same_registration (filter_map u keys) → k ≡ m
apart-keys u [] k m r a b p q d = absurd (true≢false (sym p))
apart-keys u (j ∷ keys) k m r a b p q d = go (same_or j k) (same_or j m) (apart-keys u keys k m r a b)
  where
    -- the first has what another has
    twice : (i : ℕ) → u j ≡ Some r → u i ≡ Some r → among i keys ≡ true → ⊥
    twice i e g there =
        let first : IsDistinct same_registration (r ∷ filter_map u keys) = subst (λ o. IsDistinct same_registration (cons_option o (filter_map u keys))) e d in
        true≢false (sym (any_found u (same_registration r) i r g (same-itself r) keys there) ∙ none-of (same_registration r) (filter_map u keys) (distinct-first r (filter_map u keys) first))

    behind : (o : Option Registration) → IsDistinct same_registration (cons_option o (filter_map u keys)) → IsDistinct same_registration (filter_map u keys)
    behind None h = h
    behind (Some s) h = distinct-rest s (filter_map u keys) h

    go : Same j k → Same j m → (among k keys ≡ true → among m keys ≡ true → IsDistinct same_registration (filter_map u keys) → k ≡ m) → k ≡ m
    go (same e t) (same g s) rest = sym e ∙ g
    go (same e t) (apart ne s) rest = let there = rw s at q in absurd (twice m (ap u e ∙ a) b there)
    go (apart ne t) (same g s) rest = let there = rw t at p in absurd (twice k (ap u g ∙ b) a there)
    go (apart ne t) (apart nf s) rest = let first = rw t at p in let second = rw s at q in rest first second (behind (u j) d)

-- as many registrations stand as rows that have one
length-standing : (ss : List (Option held.Registration)) → length (filter_map (option_map plain) ss) ≡ count_by is_some ss
length-standing [] = refl
length-standing (None ∷ ss) = omega (arith, length-standing ss, sum_by-cons (λ (o : Option held.Registration). cond (is_some o) 1 0) None ss)
length-standing (Some s ∷ ss) = omega (arith, length-standing ss, sum_by-cons (λ (o : Option held.Registration). cond (is_some o) 1 0) (Some s) ss)

module _ (reg : Registered) (placed : AreListedByNode (at reg) reg.lists) (rs : List Registration) (by_node : (n : ℕ) → on n (registered_nodes reg) ≡ once (registered_on n rs)) where
  abbrev standing : List Registration
  standing = filter_map (option_map plain) reg.rows

  found-on : (n : ℕ) → found reg (on n reg.lists) ≡ once (registered_on n rs)
  found-on n = sym (on-registered_nodes reg n) ∙ by_node n

  -- a key is among those of its node
  there : (k : ℕ) (r : Registration) → at reg k ≡ Some r → among k (on r.node reg.lists) ≡ true
  there k r is = placed r.node k ∙ ap (is_on_node r.node) is ∙ at_itself r.node

  one-key : (i j : ℕ) (r : Registration) → at reg i ≡ Some r → at reg j ≡ Some r → i ≡ j
  one-key i j r a b = apart-keys (at reg) (on r.node reg.lists) i j r a b (there i r a) (there j r b) (subst (IsDistinct same_registration) (sym (found-on r.node)) (once-distinct (registered_on r.node rs)))

  -- what is found on its node is left of all
  among-left : (q : Registration) → list_any (same_registration q) (found reg (on q.node reg.lists)) ≡ list_any (same_registration q) (once rs)
  among-left q =
      ap (list_any (same_registration q)) (found-on q.node)
      ∙ any-once (same_registration q) (registered_on q.node rs)
      ∙ any-kept (same_registration q) (λ (r : Registration). r.node == q.node) (λ r t. ap (λ (s : Registration). s.node == q.node) (sym (same-is q r t)) ∙ at_itself q.node) rs
      ∙ sym (any-once (same_registration q) rs)

  left-of-standing : (q : Registration) → list_any (same_registration q) standing ≡ true → list_any (same_registration q) (once rs) ≡ true
  left-of-standing q h =
      let p = at-member (option_map plain) reg.rows None q h in
      sym (among-left q) ∙ any_found (at reg) (same_registration q) p.0 q p.1 (same-itself q) (on q.node reg.lists) (there p.0 q p.1)

  standing-of-left : (q : Registration) → list_any (same_registration q) (once rs) ≡ true → list_any (same_registration q) standing ≡ true
  standing-of-left q h =
      let p = at-member (at reg) (on q.node reg.lists) 0 q (among-left q ∙ h) in
      member-at (option_map plain) reg.rows (slice_index_or (on q.node reg.lists) p.0 0) None q refl p.1

  pub registrations-counted : count_by is_some reg.rows ≡ length (once rs)
  registrations-counted =
      let few = length-le_from_is_member same-equivalence standing (once rs) (distinct-places (option_map plain) reg.rows None one-key) left-of-standing in
      let many = length-le_from_is_member same-equivalence (once rs) standing (once-distinct rs) standing-of-left in
      omega (arith, few, many, length-standing reg.rows)
