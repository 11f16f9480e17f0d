-- The gaps of a token text, as a walk comes to them: those of a tree, in the order of its children and units.
use Rattle.std.proofs.Common.{◌≡◌, ℕ, suc, ◌+◌, Bool, false, if◌then◌else◌, List, [], ◌∷◌, ◌++◌, Option, Some, None, option_map, refl, ap, sym, ◌∙◌, append_assoc, append-nil, inl, inr}
use Rattle.std.proofs.lemmas.Bool.{cases_Bool}
use Rattle.dom_model.specs.Definitions.{is_character_data, Node, Forest, empty, node, Content, Point, Token, Open, Close, point, same_point, no_marks, unit_tokens, inner_tokens, child_tokens, stepped, passed, first_point, tokens_ahead, gap_count}

-- the gaps ahead of each token of a text, as points; ahead of the open of a root there is none
abbrev pub gaps : List Point → List Token → List (Option Point)
gaps here [] = []
gaps here (t ∷ ts) = first_point here ∷ gaps (passed t here) ts

-- the gaps of a node from offset i on, among its units
abbrev pub unit_gaps : ℕ → ℕ → List ℕ → List (Option Point)
unit_gaps n i [] = Some (point n i) ∷ []
unit_gaps n i (u ∷ units) = Some (point n i) ∷ unit_gaps n (i + 1) units

-- those between a node's open and close
abbrev pub inner_gaps : Node Content → List (Option Point) → List (Option Point)
inner_gaps x children = if is_character_data x.label.kind then unit_gaps x.number 0 x.body.text else children

-- those of a node from index i on, among its children
abbrev pub child_gaps : ℕ → ℕ → Forest Content → List (Option Point)
child_gaps n i empty = Some (point n i) ∷ []
child_gaps n i (node x kids rest) = Some (point n i) ∷ (inner_gaps x (child_gaps x.number 0 kids) ++ child_gaps n (i + 1) rest)

-- those of a whole tree
abbrev pub tree_gaps : Node Content → Forest Content → List (Option Point)
tree_gaps x kids = inner_gaps x (child_gaps x.number 0 kids)

-- the tokens between a node's open and close, without markers
abbrev pub tree_tokens : Node Content → Forest Content → List Token
tree_tokens x kids = inner_tokens no_marks x (child_tokens no_marks x.number 0 kids)

walk-units : (n i j : ℕ) (units : List ℕ) (around : List Point) (ts : List Token) → gaps (point n i ∷ around) (unit_tokens no_marks n j units ++ Close ∷ ts) ≡ unit_gaps n i units ++ gaps (stepped around) ts
walk-units n i j [] around ts = refl
walk-units n i j (u ∷ units) around ts = ap (λ gs. Some (point n i) ∷ gs) (walk-units n (i + 1) (suc j) units around ts)

walk-tree : (x : Node Content) (kids : Forest Content) (around : List Point) (ts : List Token) → gaps (point x.number 0 ∷ around) (child_tokens no_marks x.number 0 kids ++ Close ∷ ts) ≡ child_gaps x.number 0 kids ++ gaps (stepped around) ts → gaps (point x.number 0 ∷ around) (tree_tokens x kids ++ Close ∷ ts) ≡ tree_gaps x kids ++ gaps (stepped around) ts
walk-tree x kids around ts below =
    elim (cases_Bool (is_character_data x.label.kind)) [
      | inl e ↦ rw e (walk-units x.number 0 0 x.body.text around ts)
      | inr e ↦ rw e below
    ]

walk-children : (n i j : ℕ) (f : Forest Content) (around : List Point) (ts : List Token) → gaps (point n i ∷ around) (child_tokens no_marks n j f ++ Close ∷ ts) ≡ child_gaps n i f ++ gaps (stepped around) ts
walk-children n i j empty around ts = refl
walk-children n i j (node x kids rest) around ts =
    let behind = child_tokens no_marks n (suc j) rest ++ Close ∷ ts in
    let here = point n i ∷ around in
    ap (λ gs. Some (point n i) ∷ gs) (ap (gaps (point x.number 0 ∷ here)) (append_assoc (tree_tokens x kids) (Close ∷ child_tokens no_marks n (suc j) rest) (Close ∷ ts))
    ∙ walk-tree x kids here behind (walk-children x.number 0 0 kids here behind)
    ∙ ap (λ gs. tree_gaps x kids ++ gs) (walk-children n (i + 1) (suc j) rest around ts)
    ∙ sym (append_assoc (tree_gaps x kids) (child_gaps n (i + 1) rest) (gaps (stepped around) ts)))

-- the gaps of the text of a root
pub walk-root : (x : Node Content) (kids : Forest Content) → gaps [] (Open x.number ∷ (tree_tokens x kids ++ Close ∷ [])) ≡ None ∷ tree_gaps x kids
walk-root x kids =
    ap (λ gs. None ∷ gs) (walk-tree x kids [] [] (walk-children x.number 0 0 kids [] []) ∙ append-nil (tree_gaps x kids))

-- Places and counts in a list of gaps.

abbrev pub is_at : Point → Option Point → Bool
is_at p None = false
is_at p (Some q) = same_point p q

-- how many gaps are ahead of the point's
abbrev pub gaps_ahead : Point → List (Option Point) → Option ℕ
gaps_ahead p [] = None
gaps_ahead p (g ∷ gs) = if is_at p g then Some 0 else option_map (λ k. suc k) (gaps_ahead p gs)

abbrev pub times : Point → List (Option Point) → ℕ
times p [] = 0
times p (g ∷ gs) = (if is_at p g then 1 else 0) + times p gs

pub ahead-gaps : (p : Point) (here : List Point) (ts : List Token) → tokens_ahead p here ts ≡ gaps_ahead p (gaps here ts)
ahead-gaps p here [] = refl
ahead-gaps p [] (t ∷ ts) = ap (option_map (λ k. suc k)) (ahead-gaps p (passed t []) ts)
ahead-gaps p (q ∷ around) (t ∷ ts) = ap (λ o. if same_point p q then Some 0 else option_map (λ k. suc k) o) (ahead-gaps p (passed t (q ∷ around)) ts)

pub count-gaps : (p : Point) (here : List Point) (ts : List Token) → gap_count p here ts ≡ times p (gaps here ts)
count-gaps p here [] = refl
count-gaps p [] (t ∷ ts) = ap (λ k. 0 + k) (count-gaps p (passed t []) ts)
count-gaps p (q ∷ around) (t ∷ ts) = ap (λ k. (if same_point p q then 1 else 0) + k) (count-gaps p (passed t (q ∷ around)) ts)
