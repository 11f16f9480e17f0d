-- The nodes that the opens of a fragment are, or are copies of, where it is made of what lies between the markers of a live range. Ours.
use Rattle.std.specs.Prelude.{ℕ, ◌-◌, Bool, true, not, ◌&&◌, if◌then◌else◌, List, [], ◌∷◌, ◌++◌, Option, Some, None, drop, length}
use Rattle.dom_model.specs.Forests.Kinds.{Label}
use Rattle.dom_model.specs.Forests.Arena.{Entry}
use Rattle.dom_model.specs.Forests.Forest.{Node, Forest, entry_in}
use Rattle.dom_model.specs.Worlds.World.{Content}
use Rattle.dom_model.specs.TokenText.Tokens.{Token, Open, Close, OneUnit, Mark, unmarked, has_open}
use Rattle.dom_model.specs.TokenText.Between.{before_mark, between, opens_left, closes_left, are_units, without_first}

-- the numbers of the nodes that tokens open, in order
abbrev pub opened_in : List Token → List ℕ
opened_in [] = []
opened_in (Open n ∷ ts) = n ∷ opened_in ts
opened_in (Close ∷ ts) = opened_in ts
opened_in (OneUnit u ∷ ts) = opened_in ts
opened_in (Mark r side ∷ ts) = opened_in ts

-- the nodes of a text but its root
abbrev pub opened_inside : List Token → List ℕ
opened_inside ts = without_first (opened_in ts)

-- a node's open is among the tokens, and its close too
abbrev pub lies_in : List Token → ℕ → Bool
lies_in ts n = has_open n ts && not (has_open n (opens_left [] ts))

-- of opens that have no close yet, the innermost
abbrev pub innermost : ℕ → List Token → List Token
innermost count opens = drop (length opens - count) opens

-- how many opens stand in the fragment in front of what lay between the markers
abbrev pub front_count : List Token → ℕ
front_count [] = 0
front_count (t ∷ ts) = if are_units (t ∷ ts) then 1 else length (closes_left 0 (t ∷ ts))

-- The nodes of the fragment's opens, in order: of those around the start marker the innermost, and then each that is opened between the markers.
abbrev pub originals : ℕ → List Token → List ℕ
originals r text =
    let inner = between r text in
    opened_in (innermost (front_count inner) (opens_left [] (unmarked (before_mark r true text))) ++ inner)

-- the label of a node, where it is there
abbrev pub label_in : Option (Entry (Node Content)) → Option Label
label_in None = None
label_in (Some e) = Some e.value.label

abbrev pub label_of : Forest Content → ℕ → Option Label
label_of f n = label_in (entry_in f n)

-- as many in both lists, and each stands so to the one of its place in the other
abbrev pub InStep : {A B : Type 0} → (A → B → Type 0) → List A → List B → Type 0
InStep related [] [] = Unit {0}
InStep related [] (y ∷ ys) = ⊥
InStep related (x ∷ xs) [] = ⊥
InStep related (x ∷ xs) (y ∷ ys) = related x y × InStep related xs ys
