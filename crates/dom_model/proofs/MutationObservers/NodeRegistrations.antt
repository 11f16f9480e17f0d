-- The registrations of one node, as the flat list changes.
use Rattle.std.proofs.Common.{arith, ◌≡◌, ℕ, ◌==◌, Bool, true, false, not, if◌then◌else◌, List, [], ◌∷◌, ◌++◌, map, refl, ap, ◌∙◌}
use Rattle.std.specs.{Prelude.filter, List.list_any}
use Rattle.std.proofs.lemmas.List.Elements.{filter-append}
use Rattle.dom_model.specs.Definitions.{Options, Registration, registered_on, transient_of, is_registered, is_transient_from, new_registration, with_options, registered}

-- two filters, in either order
pub filter-twice : {A : Type 0} (p q : A → Bool) (xs : List A) → filter p (filter q xs) ≡ filter q (filter p xs)
filter-twice p q [] = refl
filter-twice p q (x ∷ xs) = grind (arith, filter-twice p q xs)

-- a filter by what a change keeps
pub filter-map_kept : {A : Type 0} (p : A → Bool) (h : A → A) → ((a : A) → p (h a) ≡ p a) → (xs : List A) → filter p (map h xs) ≡ map h (filter p xs)
filter-map_kept p h k [] = refl
filter-map_kept p h k (x ∷ xs) = grind (arith, filter-map_kept p h k xs)

pub registered_on-filter : (n : ℕ) (keep : Registration → Bool) (rs : List Registration) → registered_on n (filter keep rs) ≡ filter keep (registered_on n rs)
registered_on-filter n keep rs = filter-twice (λ (r : Registration). r.node == n) keep rs

pub registered_on-append : (n : ℕ) (rs ss : List Registration) → registered_on n (rs ++ ss) ≡ registered_on n rs ++ registered_on n ss
registered_on-append n rs ss = filter-append (λ (r : Registration). r.node == n) rs ss

-- whether the observer is registered on a node is told by that node's registrations
pub registered-there : (o n : ℕ) (rs : List Registration) → list_any (is_registered o n) (registered_on n rs) ≡ list_any (is_registered o n) rs
registered-there o n [] = refl
registered-there o n (r ∷ rs) = grind (arith, registered-there o n rs)

-- observe, where the observer is not registered on the node yet, and where it is
pub registrations-observed : (o n m : ℕ) (options : Options) (rs : List Registration) → list_any (is_registered o n) rs ≡ false → registered_on m (registered o n options rs) ≡ registered_on m rs ++ registered_on m (new_registration o n options ∷ [])
registrations-observed o n m options rs h = rw h (registered_on-append m rs (new_registration o n options ∷ []))

pub registrations-observed_again : (o n m : ℕ) (options : Options) (rs : List Registration) → list_any (is_registered o n) rs ≡ true → registered_on m (registered o n options rs) ≡ map (with_options o n options) (filter (λ (r : Registration). not (is_transient_from o n r)) (registered_on m rs))
registrations-observed_again o n m options rs h = grind (arith, filter-map_kept, registered_on-filter m)

-- a node gets the transient registrations that are made for it, last and in order, and no other node does
pub registrations-transients : (n m : ℕ) (rs ss : List Registration) → registered_on m (rs ++ map (transient_of n) ss) ≡ registered_on m rs ++ (if n == m then map (transient_of n) ss else [])
registrations-transients n m rs ss = registered_on-append m rs (map (transient_of n) ss) ∙ ap (λ ts. registered_on m rs ++ ts) (go (n == m) refl ss)
  where
    go : (v : Bool) → (n == m) ≡ v → (ts : List Registration) → registered_on m (map (transient_of n) ts) ≡ (if v then map (transient_of n) ts else [])
    go true e [] = refl
    go false e [] = refl
    go true e (t ∷ ts) = rw e (ap (λ us. transient_of n t ∷ us) (go true e ts))
    go false e (t ∷ ts) = rw e (go false e ts)
