-- What is left where later equal registrations are left out: the same answers to every question, and the same end of every walk that takes
-- nothing twice.
use Rattle.std.proofs.Common.{◌≡◌, ℕ, ◌≤◌, Bool, true, false, not, ◌||◌, if◌then◌else◌, List, [], ◌∷◌, ◌++◌, length, map, filter, Option, None, Some, refl, ap, sym, ◌∙◌, subst, cond, arith, append_assoc, nat_eq, flat_map, bytes_eq}
use Rattle.std.specs.{Bool.beq, Bool.Decides, Option.option_eq, List.AllByRecursion, List.list_any, Cmp.booleans_Decides, Cmp.unsigned_Decides, Cmp.Lexicographic.pointwise, Cmp.Lexicographic.pointwise_decides}
use Rattle.std.proofs.lemmas.{Bool.true≢false, Bool.or_parts, Bool.or_from, List.Elements.filter-append, List.Folds.list_any-append, Slice.Eq.bytes_eq-Decides, Bool.and_parts, Bool.and_from}
use Rattle.dom_model.specs.Definitions.{Options, Registration, registered_on, standing_on}
use Rattle.dom_model.proofs.MutationObservers.NodeRegistrations.{filter-twice}
use Rattle.dom_observe.specs.WithoutRepeats.{same_options, same_registration, once}
use Rattle.dom_observe.proofs.TallyLemmas.{tally, count-filter}

-- Two are equal in every field where they are one.

maybe_decides : {A : Type 0} (E : A → A → Bool) → ((x y : A) → Decides (E x y) (x ≡ y)) → (p q : Option A) → Decides (option_eq E p q) (p ≡ q)
maybe_decides E d None None = (λ _. refl, λ _. refl)
maybe_decides E d None (Some y) = (λ h. absurd (true≢false (sym h)), λ e. cc e)
maybe_decides E d (Some x) None = (λ h. absurd (true≢false (sym h)), λ e. cc e)
maybe_decides E d (Some x) (Some y) = (λ h. ap (λ z. Some z) ((d x y).0 h), λ e. let f : x ≡ y = cc e in (d x y).1 f)

options-is : (a b : Options) → same_options a b ≡ true → a ≡ b
options-is a b h =
    let p1 = and_parts (beq a.child_list b.child_list) _ h in
    let p2 = and_parts (beq a.attributes b.attributes) _ p1.1 in
    let p3 = and_parts (beq a.character_data b.character_data) _ p2.1 in
    let p4 = and_parts (beq a.subtree b.subtree) _ p3.1 in
    let p5 = and_parts (beq a.attribute_old_value b.attribute_old_value) _ p4.1 in
    let p6 = and_parts (beq a.character_data_old_value b.character_data_old_value) _ p5.1 in
    let e1 = (booleans_Decides a.child_list b.child_list).0 p1.0 in
    let e2 = (booleans_Decides a.attributes b.attributes).0 p2.0 in
    let e3 = (booleans_Decides a.character_data b.character_data).0 p3.0 in
    let e4 = (booleans_Decides a.subtree b.subtree).0 p4.0 in
    let e5 = (booleans_Decides a.attribute_old_value b.attribute_old_value).0 p5.0 in
    let e6 = (booleans_Decides a.character_data_old_value b.character_data_old_value).0 p6.0 in
    let e7 = (maybe_decides (pointwise bytes_eq) (pointwise_decides bytes_eq-Decides) a.attribute_filter b.attribute_filter).0 p6.1 in
    λ i. record {
      child_list = e1 i;
      attributes = e2 i;
      character_data = e3 i;
      subtree = e4 i;
      attribute_old_value = e5 i;
      character_data_old_value = e6 i;
      attribute_filter = e7 i;
    }

pub options-itself : (a : Options) → same_options a a ≡ true
options-itself a =
    and_from _ _ ((booleans_Decides a.child_list a.child_list).1 refl)
    (and_from _ _ ((booleans_Decides a.attributes a.attributes).1 refl)
    (and_from _ _ ((booleans_Decides a.character_data a.character_data).1 refl)
    (and_from _ _ ((booleans_Decides a.subtree a.subtree).1 refl)
    (and_from _ _ ((booleans_Decides a.attribute_old_value a.attribute_old_value).1 refl)
    (and_from _ _ ((booleans_Decides a.character_data_old_value a.character_data_old_value).1 refl)
    ((maybe_decides (pointwise bytes_eq) (pointwise_decides bytes_eq-Decides) a.attribute_filter a.attribute_filter).1 refl))))))

pub same-is : (r s : Registration) → same_registration r s ≡ true → r ≡ s
same-is r s h =
    let p1 = and_parts (nat_eq r.node s.node) _ h in
    let p2 = and_parts (nat_eq r.observer s.observer) _ p1.1 in
    let p3 = and_parts (option_eq nat_eq r.source s.source) _ p2.1 in
    let e1 = (unsigned_Decides r.node s.node).0 p1.0 in
    let e2 = (unsigned_Decides r.observer s.observer).0 p2.0 in
    let e3 = (maybe_decides nat_eq unsigned_Decides r.source s.source).0 p3.0 in
    let e4 = options-is r.options s.options p3.1 in
    λ i. record { node = e1 i; observer = e2 i; options = e4 i; source = e3 i }

pub same-itself : (r : Registration) → same_registration r r ≡ true
same-itself r =
    and_from _ _ ((unsigned_Decides r.node r.node).1 refl)
    (and_from _ _ ((unsigned_Decides r.observer r.observer).1 refl)
    (and_from _ _ ((maybe_decides nat_eq unsigned_Decides r.source r.source).1 refl) (options-itself r.options)))

-- what passes a test that another does not pass is not equal to it
pub not-same : (p : Registration → Bool) (r s : Registration) → p r ≡ false → p s ≡ true → same_registration r s ≡ false
not-same p r s off on = go (same_registration r s) refl
  where
    go : (b : Bool) → same_registration r s ≡ b → b ≡ false
    go true e = absurd (true≢false (sym on ∙ ap p (sym (same-is r s e)) ∙ off))
    go false e = refl

-- those that are not equal to one
abbrev pub apart_from : Registration → List Registration → List Registration
apart_from r rs = filter (λ s. not (same_registration r s)) rs

-- Questions.

module _ (p : Registration → Bool) where
  -- one that fails is not missed
  filter-apart : (r : Registration) → p r ≡ false → (rs : List Registration) → filter p (apart_from r rs) ≡ filter p rs
  filter-apart r off [] = refl
  filter-apart r off (s ∷ rs) = go (same_registration r s) (p s) refl refl (filter-apart r off rs)
    where
      go : (b v : Bool) → same_registration r s ≡ b → p s ≡ v → filter p (apart_from r rs) ≡ filter p rs → filter p (cond (not b) (s ∷ apart_from r rs) (apart_from r rs)) ≡ cond v (s ∷ filter p rs) (filter p rs)
      go true true e f i = absurd (true≢false (sym e ∙ not-same p r s off f))
      go true false e f i = i
      go false true e f i = rw f (ap (λ ys. s ∷ ys) i)
      go false false e f i = rw f i

  any-apart : (r : Registration) → p r ≡ false → (rs : List Registration) → list_any p (apart_from r rs) ≡ list_any p rs
  any-apart r off [] = refl
  any-apart r off (s ∷ rs) = go (same_registration r s) (p s) refl refl (any-apart r off rs)
    where
      go : (b v : Bool) → same_registration r s ≡ b → p s ≡ v → list_any p (apart_from r rs) ≡ list_any p rs → list_any p (cond (not b) (s ∷ apart_from r rs) (apart_from r rs)) ≡ (v || list_any p rs)
      go true true e f i = absurd (true≢false (sym e ∙ not-same p r s off f))
      go true false e f i = i
      go false true e f i = ap (λ b. b || list_any p (apart_from r rs)) f
      go false false e f i = ap (λ b. b || list_any p (apart_from r rs)) f ∙ i

  -- leaving out goes with every filter by a test
  pub filter-once : (rs : List Registration) → filter p (once rs) ≡ once (filter p rs)
  filter-once [] = refl
  filter-once (r ∷ rs) = go (p r) refl (filter-once rs)
    where
      go : (b : Bool) → p r ≡ b → filter p (once rs) ≡ once (filter p rs) → cond b (r ∷ filter p (apart_from r (once rs))) (filter p (apart_from r (once rs))) ≡ once (cond b (r ∷ filter p rs) (filter p rs))
      go true e i = ap (λ ys. r ∷ ys) (filter-twice p (λ s. not (same_registration r s)) (once rs) ∙ ap (apart_from r) i)
      go false e i = filter-apart r e (once rs) ∙ i

  pub any-once : (rs : List Registration) → list_any p (once rs) ≡ list_any p rs
  any-once [] = refl
  any-once (r ∷ rs) = go (p r) refl (any-once rs)
    where
      go : (b : Bool) → p r ≡ b → list_any p (once rs) ≡ list_any p rs → (b || list_any p (apart_from r (once rs))) ≡ (b || list_any p rs)
      go true e i = refl
      go false e i = any-apart r e (once rs) ∙ i

  pub count-once : (rs : List Registration) → tally p (once rs) ≤ tally p rs
  count-once [] = omega arith
  count-once (r ∷ rs) = go (p r) (count-once rs) (count-filter p (λ s. not (same_registration r s)) (once rs))
    where
      go : (b : Bool) → tally p (once rs) ≤ tally p rs → tally p (apart_from r (once rs)) ≤ tally p (once rs) → length (cond b (r ∷ filter p (apart_from r (once rs))) (filter p (apart_from r (once rs)))) ≤ length (cond b (r ∷ filter p rs) (filter p rs))
      go true i j = omega (arith, i, j)
      go false i j = omega (arith, i, j)

-- where nothing is left there was nothing
pub once-none : (rs : List Registration) → once rs ≡ [] → rs ≡ []
once-none [] h = refl
once-none (r ∷ rs) h = cc h

-- Those that come last.

-- one comes last, where it is not there yet
abbrev pub with_once : List Registration → Registration → List Registration
with_once rs e = if list_any (λ r. same_registration r e) rs then rs else rs ++ e ∷ []

abbrev pub with_all_once : List Registration → List Registration → List Registration
with_all_once rs [] = rs
with_all_once rs (e ∷ es) = with_all_once (with_once rs e) es

once-last : (rs : List Registration) (e : Registration) → once (rs ++ e ∷ []) ≡ with_once (once rs) e
once-last [] e = refl
once-last (r ∷ rs) e = ap (λ ys. r ∷ apart_from r ys) (once-last rs e) ∙ go (same_registration r e) refl
  where
    equal : Registration → Bool
    equal s = same_registration s e

    apart_last : (b : Bool) → same_registration r e ≡ b → apart_from r (e ∷ []) ≡ (if b then [] else e ∷ [])
    apart_last true f = ap (λ b. cond (not b) (e ∷ []) []) f
    apart_last false f = ap (λ b. cond (not b) (e ∷ []) []) f

    nothing : (ys : List Registration) → ys ++ [] ≡ ys
    nothing [] = refl
    nothing (y ∷ ys) = ap (λ zs. y ∷ zs) (nothing ys)

    known : (b : Bool) → apart_from r (e ∷ []) ≡ [] → apart_from r (if b then once rs else once rs ++ e ∷ []) ≡ apart_from r (once rs)
    known true f = refl
    known false f = filter-append (λ s. not (same_registration r s)) (once rs) (e ∷ []) ∙ ap (λ ys. apart_from r (once rs) ++ ys) f ∙ nothing (apart_from r (once rs))

    new : (b : Bool) → apart_from r (e ∷ []) ≡ e ∷ [] → r ∷ apart_from r (if b then once rs else once rs ++ e ∷ []) ≡ (if b then r ∷ apart_from r (once rs) else r ∷ (apart_from r (once rs) ++ e ∷ []))
    new true f = refl
    new false f = ap (λ ys. r ∷ ys) (filter-append (λ s. not (same_registration r s)) (once rs) (e ∷ []) ∙ ap (λ ys. apart_from r (once rs) ++ ys) f)

    go : (b : Bool) → same_registration r e ≡ b → r ∷ apart_from r (with_once (once rs) e) ≡ (if (b || list_any equal (apart_from r (once rs))) then r ∷ apart_from r (once rs) else r ∷ (apart_from r (once rs) ++ e ∷ []))
    go true f = ap (λ ys. r ∷ ys) (known (list_any equal (once rs)) (apart_last true f))
    go false f = new (list_any equal (once rs)) (apart_last false f) ∙ ap (λ b. if b then r ∷ apart_from r (once rs) else r ∷ (apart_from r (once rs) ++ e ∷ [])) (sym (any-apart equal r f (once rs)))

-- and with what is put behind
pub once-append : (rs es : List Registration) → once (rs ++ es) ≡ with_all_once (once rs) es
once-append rs [] = ap once (nothing rs)
  where
    nothing : (ys : List Registration) → ys ++ [] ≡ ys
    nothing [] = refl
    nothing (y ∷ ys) = ap (λ zs. y ∷ zs) (nothing ys)
once-append rs (e ∷ es) = ap once (sym (append_assoc rs (e ∷ []) es)) ∙ once-append (rs ++ e ∷ []) es ∙ ap (λ ys. with_all_once ys es) (once-last rs e)

-- one that comes last, and passes a test that none passed
pub once-new : (p : Registration → Bool) (e : Registration) → p e ≡ true → (rs : List Registration) → list_any p rs ≡ false → once (rs ++ e ∷ []) ≡ once rs ++ e ∷ []
once-new p e on rs none = once-last rs e ∙ ap (λ b. if b then once rs else once rs ++ e ∷ []) (any-once (λ r. same_registration r e) rs ∙ absent rs none)
  where
    absent : (ss : List Registration) → list_any p ss ≡ false → list_any (λ r. same_registration r e) ss ≡ false
    absent [] h = refl
    absent (s ∷ ss) h =
        let f = or_parts (p s) (list_any p ss) h in
        or_from (same_registration s e) (list_any (λ r. same_registration r e) ss) (not-same p s e f.0 on) (absent ss f.1)

-- What changes registrations, and makes none equal to one that was not.
module _ (f : Registration → Registration) where
  pub apart-map : (r : Registration) (rs : List Registration) → AllByRecursion (λ s. same_registration (f r) (f s) ≡ same_registration r s) rs → apart_from (f r) (map f rs) ≡ map f (apart_from r rs)
  apart-map r [] h = refl
  apart-map r (s ∷ rs) h = rw h.0 (go (same_registration r s) (apart-map r rs h.1))
    where
      go : (b : Bool) → apart_from (f r) (map f rs) ≡ map f (apart_from r rs) → cond (not b) (f s ∷ apart_from (f r) (map f rs)) (apart_from (f r) (map f rs)) ≡ map f (cond (not b) (s ∷ apart_from r rs) (apart_from r rs))
      go true i = i
      go false i = ap (λ ys. f s ∷ ys) i

-- A walk that takes each registration, one after another.

abbrev pub walk : {A : Type 0} → (A → Registration → A) → A → List Registration → A
walk step a [] = a
walk step a (r ∷ rs) = walk step (step a r) rs

pub walk-append : {A : Type 0} (step : A → Registration → A) (a : A) (rs ss : List Registration) → walk step a (rs ++ ss) ≡ walk step (walk step a rs) ss
walk-append step a [] ss = refl
walk-append step a (r ∷ rs) ss = walk-append step (step a r) rs ss

-- where one that was taken is taken again for nothing, later equal ones may be left out
module _ {A : Type 0} (step : A → Registration → A) (Has : A → Registration → Type 0) (gets : (a : A) (r : Registration) → Has (step a r) r)
    (keeps : (a : A) (r s : Registration) → Has a r → Has (step a s) r) (again : (a : A) (r : Registration) → Has a r → step a r ≡ a) where
  walk-apart : (a : A) (r : Registration) → Has a r → (rs : List Registration) → walk step a (apart_from r rs) ≡ walk step a rs
  walk-apart a r h [] = refl
  walk-apart a r h (s ∷ rs) = go (same_registration r s) refl (walk-apart a r h rs) (walk-apart (step a s) r (keeps a r s h) rs)
    where
      go : (b : Bool) → same_registration r s ≡ b → walk step a (apart_from r rs) ≡ walk step a rs → walk step (step a s) (apart_from r rs) ≡ walk step (step a s) rs
          → walk step a (cond (not b) (s ∷ apart_from r rs) (apart_from r rs)) ≡ walk step (step a s) rs
      go true e i j = i ∙ ap (λ b. walk step b rs) (sym (again a s (subst (Has a) (same-is r s e) h)))
      go false e i j = j

  pub walk-once : (a : A) (rs : List Registration) → walk step a (once rs) ≡ walk step a rs
  walk-once a [] = refl
  walk-once a (r ∷ rs) = walk-apart (step a r) r (gets a r) (once rs) ∙ walk-once (step a r) rs

  -- on several nodes
  pub walk-standing : (a : A) (ns : List ℕ) (rs : List Registration) → walk step a (flat_map (λ n. once (registered_on n rs)) ns) ≡ walk step a (standing_on ns rs)
  walk-standing a [] rs = refl
  walk-standing a (n ∷ ns) rs =
      walk-append step a (once (registered_on n rs)) (flat_map (λ m. once (registered_on m rs)) ns)
      ∙ ap (λ b. walk step b (flat_map (λ m. once (registered_on m rs)) ns)) (walk-once a (registered_on n rs))
      ∙ walk-standing (walk step a (registered_on n rs)) ns rs
      ∙ sym (walk-append step a (registered_on n rs) (standing_on ns rs))

-- a question to the registrations on several nodes
pub any-standing : (p : Registration → Bool) (ns : List ℕ) (rs : List Registration) → list_any p (flat_map (λ n. once (registered_on n rs)) ns) ≡ list_any p (standing_on ns rs)
any-standing p [] rs = refl
any-standing p (n ∷ ns) rs =
    list_any-append p (once (registered_on n rs)) (flat_map (λ m. once (registered_on m rs)) ns)
    ∙ (λ i. any-once p (registered_on n rs) i || any-standing p ns rs i)
    ∙ sym (list_any-append p (registered_on n rs) (standing_on ns rs))
