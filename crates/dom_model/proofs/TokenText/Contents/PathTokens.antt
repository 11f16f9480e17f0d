-- What lies between the ends of a live range, by parts: the tokens from its start to the end of the first partially contained child, those of
-- the contained children, and those from the start of the last partially contained child to its end. DOM Standard, "Interface Range".
use Rattle.std.proofs.Common.{ℕ, if◌then◌else◌, List, [], ◌∷◌, ◌++◌, take, drop, flat_map}
use Rattle.dom_model.specs.Definitions.{is_character_data, Forest, children_of, Content, Range, World, past, up_to, kind_passes, data_of, path_below, common_of, contained_children, Token, Open, Close, no_marks, unit_tokens, token_texts, tokens_among}

-- the tokens of nodes with all that is in them
abbrev pub nodes_tokens : Forest Content → List ℕ → List Token
nodes_tokens f ns = flat_map (λ n. tokens_among n (token_texts no_marks f)) ns

-- from an offset of the path's last node to the end of its first
abbrev pub tail_tokens : World → ℕ → List ℕ → List Token
tail_tokens w offset [] = []
tail_tokens w offset (n ∷ []) =
    (if kind_passes is_character_data w.forest n then unit_tokens no_marks n 0 (drop offset (data_of w n)) else nodes_tokens w.forest (drop offset (children_of w.forest n))) ++ (Close ∷ [])
tail_tokens w offset (n ∷ m ∷ path) = tail_tokens w offset (m ∷ path) ++ (nodes_tokens w.forest (past m (children_of w.forest n)) ++ (Close ∷ []))

-- from the start of the path's first node to an offset of its last
abbrev pub head_tokens : World → ℕ → List ℕ → List Token
head_tokens w offset [] = []
head_tokens w offset (n ∷ []) =
    Open n ∷ (if kind_passes is_character_data w.forest n then unit_tokens no_marks n 0 (take offset (data_of w n)) else nodes_tokens w.forest (take offset (children_of w.forest n)))
head_tokens w offset (n ∷ m ∷ path) = Open n ∷ (nodes_tokens w.forest (up_to m (children_of w.forest n)) ++ head_tokens w offset (m ∷ path))

-- the paths from below the common ancestor down to the start node and to the end node
abbrev pub start_path : World → Range → List ℕ
start_path w range = path_below w.forest (common_of w range) range.start.node

abbrev pub end_path : World → Range → List ℕ
end_path w range = path_below w.forest (common_of w range) range.end.node

abbrev pub parts_tokens : World → Range → List Token
parts_tokens w range =
    tail_tokens w range.start.offset (start_path w range)
    ++ (nodes_tokens w.forest (contained_children w range) ++ head_tokens w range.end.offset (end_path w range))
