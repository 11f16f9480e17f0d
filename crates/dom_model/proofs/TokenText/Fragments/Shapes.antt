-- Tokens without the numbers of their nodes, and those of trees: as the fragment's numbers do not count, a fragment is told by its shape.
use Rattle.std.proofs.Common.{◌≡◌, ℕ, suc, ◌+◌, true, if◌then◌else◌, List, [], ◌∷◌, ◌++◌, refl, ap, append_assoc, arith}
use Rattle.std.proofs.lemmas.Bool.Decides.{nat_tests}
use Rattle.dom_model.specs.Definitions.{is_character_data, Forest, empty, node, beside, size, Content, renumbered, Token, Open, Close, OneUnit, Mark, no_marks, unit_list, unit_tokens, child_tokens, same_shape}

abbrev pub shape : List Token → List Token
shape [] = []
shape (Open n ∷ ts) = Open 0 ∷ shape ts
shape (Close ∷ ts) = Close ∷ shape ts
shape (OneUnit u ∷ ts) = OneUnit u ∷ shape ts
shape (Mark r side ∷ ts) = Mark 0 true ∷ shape ts

pub shape-append : (xs ys : List Token) → shape (xs ++ ys) ≡ shape xs ++ shape ys
shape-append [] ys = refl
shape-append (x ∷ xs) ys = grind (arith, shape-append xs ys)

-- tokens of one shape
pub shape-same : (xs ys : List Token) → shape xs ≡ shape ys → same_shape xs ys ≡ true
shape-same [] [] e = refl
shape-same [] (y ∷ ys) e = grind arith
shape-same (x ∷ xs) [] e = grind arith
shape-same (x ∷ xs) (y ∷ ys) e = grind (arith, nat_tests, shape-same xs ys)

-- the tokens of trees without their numbers
abbrev pub tree_shape : Forest Content → List Token
tree_shape empty = []
tree_shape (node x kids rest) = Open 0 ∷ ((if is_character_data x.label.kind then unit_list x.body.text else tree_shape kids) ++ (Close ∷ tree_shape rest))

pub shape-units : (n i : ℕ) (us : List ℕ) → shape (unit_tokens no_marks n i us) ≡ unit_list us
shape-units n i [] = refl
shape-units n i (u ∷ us) = ap (λ ts. OneUnit u ∷ ts) (shape-units n (suc i) us)

pub shape-children : (n i : ℕ) (f : Forest Content) → shape (child_tokens no_marks n i f) ≡ tree_shape f
shape-children n i empty = refl
shape-children n i (node x kids rest) =
    grind (arith, shape-append, shape-units, shape-children x.number 0 kids, shape-children n (suc i) rest)

pub tree_shape-beside : (f g : Forest Content) → tree_shape (beside f g) ≡ tree_shape f ++ tree_shape g
tree_shape-beside empty g = refl
tree_shape-beside (node x kids rest) g = simp (append_assoc, tree_shape-beside rest g)

-- copies have the shape of what they are copies of
pub tree_shape-renumbered : (document next : ℕ) (f : Forest Content) → tree_shape (renumbered document next f) ≡ tree_shape f
tree_shape-renumbered document next empty = refl
tree_shape-renumbered document next (node x kids rest) =
    rw (tree_shape-renumbered document (next + 1) kids, tree_shape-renumbered document (next + 1 + size kids) rest) refl
