-- Lists of which an item went, and the last came into its place.
use Rattle.std.proofs.Common.{◌≡◌, ℕ, ◌+◌, ◌-◌, ◌<◌, ◌≤◌, ◌==◌, if◌then◌else◌, List, [], ◌∷◌, length, map, take, set, get_or, swap_remove, sum_by, refl, sym, ap, ◌∙◌, arith}
use Rattle.std.proofs.lemmas.{List.take-map, List.map-set, List.get_or-map, List.length-map, List.Sums.sum_by-swap_remove, List.Sums.sum_by-cons, List.Sums.count_by-le-length}
use Rattle.dom_model.specs.Definitions.{hits}

pub map-swap_remove : {A B : Type 0} (f : A → B) (xs : List A) (k : ℕ) (d : A) (e : B) → k < length xs → map f (swap_remove xs k d) ≡ swap_remove (map f xs) k e
map-swap_remove f xs k d e lt =
    sym (take-map f (length xs - 1) (set xs k (get_or xs (length xs - 1) d)))
    ∙ ap (take (length xs - 1)) (map-set f xs k (get_or xs (length xs - 1) d) ∙ ap (set (map f xs) k) (sym (get_or-map f xs (length xs - 1) d e (omega (arith, lt)))))
    ∙ ap (λ l. take (l - 1) (set (map f xs) k (get_or (map f xs) (l - 1) e))) (sym (length-map xs f))

-- how often a number stands in a list, as a sum
hits-sum : (n : ℕ) (ns : List ℕ) → hits n ns ≡ sum_by (λ m. if m == n then 1 else 0) ns
hits-sum n [] = refl
hits-sum n (m ∷ ns) = ap (λ c. (if m == n then 1 else 0) + c) (hits-sum n ns) ∙ sym (sum_by-cons (λ m. if m == n then 1 else 0) m ns)

pub hits-le-length : (n : ℕ) (ns : List ℕ) → hits n ns ≤ length ns
hits-le-length n ns = omega (arith, hits-sum n ns, count_by-le-length (λ m. m == n) ns)

pub hits-swap_remove : (n : ℕ) (ns : List ℕ) (k d : ℕ) → k < length ns → hits n (swap_remove ns k d) + (if get_or ns k d == n then 1 else 0) ≡ hits n ns
hits-swap_remove n ns k d lt =
    ap (λ c. c + (if get_or ns k d == n then 1 else 0)) (hits-sum n (swap_remove ns k d)) ∙ sum_by-swap_remove (λ m. if m == n then 1 else 0) ns k d lt ∙ sym (hits-sum n ns)
