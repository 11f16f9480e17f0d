-- The opens of tokens and the nodes of trees, and lists in step with one another.
use Rattle.std.proofs.Common.{◌≡◌, ℕ, suc, ◌<◌, if◌then◌else◌, List, [], ◌∷◌, ◌++◌, map, refl, arith, append_assoc, Bool, true, false}
use Rattle.std.proofs.lemmas.List.{map-append}
use Rattle.dom_model.specs.Definitions.{hits, is_character_data, Node, Forest, empty, node, beside, Content, Token, no_marks, unit_tokens, child_tokens, opened_in, InStep}
use Rattle.dom_model.proofs.Forests.Climbing.{hits-first}

-- Lists in step.

pub steps-append : {A B : Type 0} (related : A → B → Type 0) (xs us : List A) (ys vs : List B) → InStep related xs ys → InStep related us vs → InStep related (xs ++ us) (ys ++ vs)
steps-append related [] us [] vs h k = k
steps-append related (x ∷ xs) us (y ∷ ys) vs h k = (h.0, steps-append related xs us ys vs h.1 k)
steps-append related xs us ys vs h k = absurd h

pub steps-if : {A B : Type 0} (related : A → B → Type 0) (v : Bool) (xs zs : List A) (ys us : List B) → InStep related xs ys → InStep related zs us → InStep related ((if v then [] else xs) ++ zs) ((if v then [] else ys) ++ us)
steps-if related true xs zs ys us h k = k
steps-if related false xs zs ys us h k = steps-append related xs zs ys us h k

-- another relation of the same elements
pub steps-among : {B : Type 0} (related other : ℕ → B → Type 0) (xs : List ℕ) (ys : List B) → ((x : ℕ) (y : B) → 0 < hits x xs → related x y → other x y) → InStep related xs ys → InStep other xs ys
steps-among related other [] [] f h = tt
steps-among related other (x ∷ xs) (y ∷ ys) f h = (f x y (hits-first x xs) h.0, steps-among related other xs ys (λ z v k. f z v (omega arith)) h.1)
steps-among related other xs ys f h = absurd h

pub steps-map : {A B C : Type 0} (related : A → C → Type 0) (of : B → C) (xs : List A) (ys : List B) → InStep (λ x y. related x (of y)) xs ys → InStep related xs (map of ys)
steps-map related of [] [] h = tt
steps-map related of (x ∷ xs) (y ∷ ys) h = (h.0, steps-map related of xs ys h.1)
steps-map related of xs ys h = absurd h

-- each of a list
abbrev pub EachOf : {A : Type 0} → (A → Type 0) → List A → Type 0
EachOf is [] = Unit {0}
EachOf is (x ∷ xs) = is x × EachOf is xs

pub each-append : {A : Type 0} (is : A → Type 0) (xs ys : List A) → EachOf is xs → EachOf is ys → EachOf is (xs ++ ys)
each-append is [] ys h k = k
each-append is (x ∷ xs) ys h k = (h.0, each-append is xs ys h.1 k)

pub each-map : {A B : Type 0} (is : B → Type 0) (of : A → B) (xs : List A) → EachOf (λ x. is (of x)) xs → EachOf is (map of xs)
each-map is of [] h = tt
each-map is of (x ∷ xs) h = (h.0, each-map is of xs h.1)

pub each-both : {A : Type 0} (is also both : A → Type 0) (xs : List A) → ((x : A) → is x → also x → both x) → EachOf is xs → EachOf also xs → EachOf both xs
each-both is also both [] f h k = tt
each-both is also both (x ∷ xs) f h k = (f x h.0 k.0, each-both is also both xs f h.1 k.1)

-- with what is told of each of the first list, and of each of the second
pub steps-left : {A B : Type 0} (related other : A → B → Type 0) (is : A → Type 0) (xs : List A) (ys : List B) → ((x : A) (y : B) → is x → related x y → other x y) → EachOf is xs → InStep related xs ys → InStep other xs ys
steps-left related other is [] [] f e h = tt
steps-left related other is (x ∷ xs) (y ∷ ys) f e h = (f x y e.0 h.0, steps-left related other is xs ys f e.1 h.1)
steps-left related other is xs ys f e h = absurd h

pub steps-right : {A B : Type 0} (related other : A → B → Type 0) (is : B → Type 0) (xs : List A) (ys : List B) → ((x : A) (y : B) → is y → related x y → other x y) → EachOf is ys → InStep related xs ys → InStep other xs ys
steps-right related other is [] [] f e h = tt
steps-right related other is (x ∷ xs) (y ∷ ys) f e h = (f x y e.0 h.0, steps-right related other is xs ys f e.1 h.1)
steps-right related other is xs ys f e h = absurd h

-- a list with what each of it comes of
pub steps-self : {A B : Type 0} (related : A → B → Type 0) (of : B → A) (ys : List B) → EachOf (λ y. related (of y) y) ys → InStep related (map of ys) ys
steps-self related of [] h = tt
steps-self related of (y ∷ ys) h = (h.0, steps-self related of ys h.1)

pub steps-of : {A B C : Type 0} (related : C → B → Type 0) (of : A → C) (xs : List A) (ys : List B) → InStep (λ x y. related (of x) y) xs ys → InStep related (map of xs) ys
steps-of related of [] [] h = tt
steps-of related of (x ∷ xs) (y ∷ ys) h = (h.0, steps-of related of xs ys h.1)
steps-of related of xs ys h = absurd h

-- The opens of tokens.

pub opened_in-append : (xs ys : List Token) → opened_in (xs ++ ys) ≡ opened_in xs ++ opened_in ys
opened_in-append [] ys = refl
opened_in-append (x ∷ xs) ys = grind (arith, opened_in-append xs ys)

pub opened_in-units : (n i : ℕ) (us : List ℕ) → opened_in (unit_tokens no_marks n i us) ≡ []
opened_in-units n i [] = refl
opened_in-units n i (u ∷ us) = opened_in-units n (suc i) us

-- The nodes of trees whose opens stand in a text, in tree order.

abbrev pub tree_nodes : Forest Content → List (Node Content)
tree_nodes empty = []
tree_nodes (node x kids rest) = x ∷ ((if is_character_data x.label.kind then [] else tree_nodes kids) ++ tree_nodes rest)

abbrev pub tree_numbers : Forest Content → List ℕ
tree_numbers empty = []
tree_numbers (node x kids rest) = x.number ∷ ((if is_character_data x.label.kind then [] else tree_numbers kids) ++ tree_numbers rest)

pub numbers-nodes : (f : Forest Content) → map (λ (x : Node Content). x.number) (tree_nodes f) ≡ tree_numbers f
numbers-nodes empty = refl
numbers-nodes (node x kids rest) = grind (arith, map-append, numbers-nodes kids, numbers-nodes rest)

pub opened_in-children : (n i : ℕ) (f : Forest Content) → opened_in (child_tokens no_marks n i f) ≡ tree_numbers f
opened_in-children n i empty = refl
opened_in-children n i (node x kids rest) =
    grind (arith, opened_in-append, opened_in-units, opened_in-children x.number 0 kids, opened_in-children n (suc i) rest)

pub tree_nodes-beside : (f g : Forest Content) → tree_nodes (beside f g) ≡ tree_nodes f ++ tree_nodes g
tree_nodes-beside empty g = refl
tree_nodes-beside (node x kids rest) g = simp (append_assoc, tree_nodes-beside rest g)
