-- A node whose children are removed one after another has none left, and they are roots. DOM Standard, "Mutation algorithms": insert.
use Rattle.std.proofs.Common.{◌≡◌, ℕ, ◌<◌, ◌≤◌, Bool, true, List, [], ◌∷◌, None, refl, ap, sym, ◌∙◌, subst, arith}
use Rattle.std.proofs.lemmas.Bool.Decides.{nat_tests}
use Rattle.dom_model.specs.Definitions.{hits, left_out, Forest, occurs, parent_of, children_of, Content, World, remove, remove_all, IsSound}
use Rattle.dom_model.proofs.Forests.{Climbing.hits-first, Entries.children-cut, Indices.child-there}
use Rattle.dom_model.proofs.Soundness.SoundWorlds.{sound-remove}
use Rattle.dom_model.proofs.MutationAlgorithms.{Loosened.forest-remove, Loosened.loosened-remove, Loosened.root-remove_all, RemovalsLike.hits-left_out}

-- a list without the numbers of another
abbrev pub all_left_out : List ℕ → List ℕ → List ℕ
all_left_out [] xs = xs
all_left_out (n ∷ ns) xs = all_left_out ns (left_out n xs)

pub none-left_out : (n : ℕ) (xs : List ℕ) → hits n (left_out n xs) ≡ 0
none-left_out n [] = refl
none-left_out n (x ∷ xs) = grind (arith, nat_tests, none-left_out n xs)

fewer : (m : ℕ) (ns xs : List ℕ) → hits m (all_left_out ns xs) ≤ hits m xs
fewer m [] xs = omega arith
fewer m (n ∷ ns) xs = omega (arith, fewer m ns (left_out n xs), hits-left_out n m xs)

-- no number of the other is left
pub none-all_left_out : (m : ℕ) (ns xs : List ℕ) → 0 < hits m ns → hits m (all_left_out ns xs) ≡ 0
none-all_left_out m [] xs h = absurd (omega arith)
none-all_left_out m (n ∷ ns) xs h = grind (arith, nat_tests, fewer m ns (left_out n xs), none-left_out n xs, none-all_left_out m ns (left_out n xs))

nothing-stands : (xs : List ℕ) → ((m : ℕ) → hits m xs ≡ 0) → xs ≡ []
nothing-stands [] h = refl
nothing-stands (x ∷ xs) h = absurd (let a = h x in let b = hits-first x xs in omega arith)

-- a list without its own numbers
pub all_left_out-itself : (ns : List ℕ) → all_left_out ns ns ≡ []
all_left_out-itself ns = nothing-stands (all_left_out ns ns) (λ m. grind (arith, none-all_left_out m ns ns, fewer m ns ns))

-- the children of each node, once a node is removed, and each of a list
pub children-remove : (suppressed : Bool) (n : ℕ) (w : World) → IsSound w → 0 < occurs n w.forest → (m : ℕ) → children_of (remove suppressed n w).forest m ≡ left_out n (children_of w.forest m)
children-remove suppressed n w s h m = ap (λ (g : Forest Content). children_of g m) (forest-remove suppressed n w s h) ∙ children-cut w.forest s.forest.once n m

pub children-remove_all : (ns : List ℕ) (w : World) → IsSound w → ((n : ℕ) → 0 < hits n ns → 0 < occurs n w.forest) → (m : ℕ) → children_of (remove_all ns w).forest m ≡ all_left_out ns (children_of w.forest m)
children-remove_all [] w s h m = refl
children-remove_all (n ∷ ns) w s h m =
    let k = h n (hits-first n ns) in
    let v = remove true n w in
    let a = loosened-remove true n w s k in
    children-remove_all ns v (sound-remove true n w s) (λ l i. subst (λ x. 0 < x) (sym (a.numbers l)) (h l (omega arith))) m
    ∙ ap (all_left_out ns) (children-remove true n w s k m)

module _ (n : ℕ) (w : World) (s : IsSound w) where
  there : (m : ℕ) → 0 < hits m (children_of w.forest n) → 0 < occurs m w.forest
  there m h = child-there w.forest s.forest.once m n h

  -- nothing is left of the children
  pub emptied : children_of (remove_all (children_of w.forest n) w).forest n ≡ []
  emptied = children-remove_all (children_of w.forest n) w s there n ∙ all_left_out-itself (children_of w.forest n)

  -- and they are roots
  pub emptied-roots : (m : ℕ) → 0 < hits m (children_of w.forest n) → parent_of (remove_all (children_of w.forest n) w).forest m ≡ None
  emptied-roots m h = root-remove_all (children_of w.forest n) w s there m h
