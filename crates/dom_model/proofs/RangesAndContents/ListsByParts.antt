-- A list of which each element gives itself or nothing, but for one that gives more: what the whole list gives.
use Rattle.std.proofs.Common.{◌≡◌, ℕ, zero, suc, ◌<◌, ◌≤◌, Bool, false, if◌then◌else◌, List, [], ◌∷◌, ◌++◌, take, drop, filter, flat_map, Some, slice_get, refl, ap, ◌∙◌, arith, append-nil}
use Rattle.std.proofs.lemmas.{Bool.cases_Bool, Bool.Decides.nat_tests, Grind.flat_map-append}
use Rattle.dom_model.specs.Definitions.{hits, place_in, past, up_to}
use Rattle.dom_model.proofs.Forests.{Climbing.hits-first, Listed.parted_at}
use Rattle.dom_model.proofs.RangesAndContents.DrawnPaths.{hits-past}

pub flat-none : (give : ℕ → List ℕ) (ns : List ℕ) → ((x : ℕ) → 0 < hits x ns → give x ≡ []) → flat_map give ns ≡ []
flat-none give [] h = refl
flat-none give (n ∷ ns) h = ap (λ xs. xs ++ flat_map give ns) (h n (hits-first n ns)) ∙ flat-none give ns (λ x k. h x (omega arith))

pub flat-same : (give other : ℕ → List ℕ) (ns : List ℕ) → ((x : ℕ) → 0 < hits x ns → give x ≡ other x) → flat_map give ns ≡ flat_map other ns
flat-same give other [] h = refl
flat-same give other (n ∷ ns) h =
    ap (λ xs. xs ++ flat_map give ns) (h n (hits-first n ns)) ∙ ap (λ xs. other n ++ xs) (flat-same give other ns (λ x k. h x (omega arith)))

pub flat-each : (give : ℕ → List ℕ) (ns : List ℕ) → ((x : ℕ) → 0 < hits x ns → give x ≡ x ∷ []) → flat_map give ns ≡ ns
flat-each give [] h = refl
flat-each give (n ∷ ns) h = ap (λ xs. xs ++ flat_map give ns) (h n (hits-first n ns)) ∙ ap (λ xs. n ∷ xs) (flat-each give ns (λ x k. h x (omega arith)))

pub flat-filter : (test : ℕ → Bool) (ns : List ℕ) → flat_map (λ x. if test x then x ∷ [] else []) ns ≡ filter test ns
flat-filter test [] = refl
flat-filter test (n ∷ ns) = grind (arith, cases_Bool, flat-filter test ns)

pub filter-nothing : (test : ℕ → Bool) (ns : List ℕ) → ((x : ℕ) → 0 < hits x ns → test x ≡ false) → filter test ns ≡ []
filter-nothing test [] h = refl
filter-nothing test (n ∷ ns) h = rw (h n (hits-first n ns)) (filter-nothing test ns (λ x k. h x (omega arith)))

-- By indices.

pub flat-drop : (give : ℕ → List ℕ) (ns : List ℕ) (k : ℕ) → ((i x : ℕ) → slice_get ns i ≡ Some x → (i < k → give x ≡ []) × (k ≤ i → give x ≡ x ∷ [])) → flat_map give ns ≡ drop k ns
flat-drop give [] zero h = refl
flat-drop give [] (suc k) h = refl
flat-drop give (n ∷ ns) zero h =
    rw ((h 0 n refl).1 (omega arith)) (ap (λ xs. n ∷ xs) (flat-drop give ns zero (λ i x e. (λ l. absurd (omega arith), λ l. (h (suc i) x e).1 (omega arith)))))
flat-drop give (n ∷ ns) (suc k) h =
    rw ((h 0 n refl).0 (omega arith)) (flat-drop give ns k (λ i x e. (λ l. (h (suc i) x e).0 (omega arith), λ l. (h (suc i) x e).1 (omega arith))))

pub flat-take : (give : ℕ → List ℕ) (ns : List ℕ) (k : ℕ) → ((i x : ℕ) → slice_get ns i ≡ Some x → (i < k → give x ≡ x ∷ []) × (k ≤ i → give x ≡ [])) → flat_map give ns ≡ take k ns
flat-take give [] zero h = refl
flat-take give [] (suc k) h = refl
flat-take give (n ∷ ns) zero h =
    rw ((h 0 n refl).1 (omega arith)) (flat-take give ns zero (λ i x e. (λ l. absurd (omega arith), λ l. (h (suc i) x e).1 (omega arith))))
flat-take give (n ∷ ns) (suc k) h =
    rw ((h 0 n refl).0 (omega arith)) (ap (λ xs. n ∷ xs) (flat-take give ns k (λ i x e. (λ l. (h (suc i) x e).0 (omega arith), λ l. (h (suc i) x e).1 (omega arith)))))

-- Around one element.

pub place-up_to : (x m : ℕ) (ns : List ℕ) → 0 < hits x (up_to m ns) → place_in x ns < place_in m ns
place-up_to x m [] h = omega arith
place-up_to x m (n ∷ ns) h = grind (arith, nat_tests, place-up_to x m ns)

pub place-past : (x m : ℕ) (ns : List ℕ) → hits x ns ≤ 1 → 0 < hits x (past m ns) → place_in m ns < place_in x ns
place-past x m [] o h = omega arith
place-past x m (n ∷ ns) o h = grind (arith, nat_tests, hits-past x m ns, place-past x m ns)

module _ (give other : ℕ → List ℕ) (m : ℕ) (part : List ℕ) (ns : List ℕ) (there : 0 < hits m ns) (here : give m ≡ part) where
  whole : (g : ℕ → List ℕ) → flat_map g ns ≡ flat_map g (up_to m ns) ++ (g m ++ flat_map g (past m ns))
  whole g = ap (flat_map g) (parted_at m ns there) ∙ flat_map-append g (up_to m ns) (m ∷ past m ns)

  -- nothing ahead of it, and past it what the other gives
  pub flat-first : other m ≡ [] → ((x : ℕ) → 0 < hits x (up_to m ns) → (give x ≡ []) × (other x ≡ [])) → ((x : ℕ) → 0 < hits x (past m ns) → give x ≡ other x) → flat_map give ns ≡ part ++ flat_map other ns
  flat-first z ahead behind =
      rw (whole give, whole other, flat-none give (up_to m ns) (λ x k. (ahead x k).0), flat-none other (up_to m ns) (λ x k. (ahead x k).1), here, z)
      (rw (flat-same give other (past m ns) behind) refl)

  -- nothing past it, and ahead of it what the other gives
  pub flat-last : other m ≡ [] → ((x : ℕ) → 0 < hits x (up_to m ns) → give x ≡ other x) → ((x : ℕ) → 0 < hits x (past m ns) → (give x ≡ []) × (other x ≡ [])) → flat_map give ns ≡ flat_map other ns ++ part
  flat-last z ahead behind =
      rw (whole give, whole other, flat-same give other (up_to m ns) ahead, here, z, flat-none give (past m ns) (λ x k. (behind x k).0))
      (rw (flat-none other (past m ns) (λ x k. (behind x k).1), append-nil part, append-nil (flat_map other (up_to m ns))) refl)

  -- nothing ahead of it, and past it each element itself
  pub flat-past : ((x : ℕ) → 0 < hits x (up_to m ns) → give x ≡ []) → ((x : ℕ) → 0 < hits x (past m ns) → give x ≡ x ∷ []) → flat_map give ns ≡ part ++ past m ns
  flat-past ahead behind = rw (whole give, flat-none give (up_to m ns) ahead, here, flat-each give (past m ns) behind) refl

  -- each element ahead of it itself, and nothing past it
  pub flat-up_to : ((x : ℕ) → 0 < hits x (up_to m ns) → give x ≡ x ∷ []) → ((x : ℕ) → 0 < hits x (past m ns) → give x ≡ []) → flat_map give ns ≡ up_to m ns ++ part
  flat-up_to ahead behind = rw (whole give, flat-each give (up_to m ns) ahead, here, flat-none give (past m ns) behind, append-nil part) refl
