-- Tests for dialogues, in each of which a list without members says that nothing was missed: after each command, each live range end stands
-- where its marker stands in the token texts that are edited all the way, those texts are the world's but for their markers, and the edits
-- leave of a world what the command leaves of its nesting, data and live ranges.
use Rattle.std.proofs.Common.{ℕ, ◌==◌, Bool, true, false, not, ◌&&◌, List, [], ◌∷◌, map, filter, length, Option, Some, None}
use Rattle.dom_model.specs.Definitions.{tops, Range, World, first_world, Command, Row, lines_of, Token, Open, Close, OneUnit, Mark, same_side, same_point, unmarked, tokens_among, texts_of, all_on_texts, marked_ranges, all_on_world, Bounds, answer, command_edits, unless_refused, commands_among, command_within}

abbrev pub same_token : Token → Token → Bool
same_token (Open n) (Open m) = n == m
same_token Close Close = true
same_token (OneUnit u) (OneUnit v) = u == v
same_token (Mark r side) (Mark q other) = (r == q) && same_side side other
same_token _ _ = false

abbrev pub all_same : {A : Type 0} → (A → A → Bool) → List A → List A → Bool
all_same same [] [] = true
all_same same [] (y ∷ ys) = false
all_same same (x ∷ xs) [] = false
all_same same (x ∷ xs) (y ∷ ys) = same x y && all_same same xs ys

abbrev pub same_texts : List (List Token) → List (List Token) → Bool
same_texts a b = all_same (all_same same_token) a b

abbrev pub same_range : Option Range → Option Range → Bool
same_range None None = true
same_range None (Some r) = false
same_range (Some r) None = false
same_range (Some r) (Some q) = same_point r.start q.start && same_point r.end q.end

-- whether the ends stand in their markers' gaps, after each command
abbrev pub ends_stand : Bounds → World → List (List Token) → List Command → List Bool
ends_stand b w texts [] = []
ends_stand b w texts (c ∷ cs) =
    let s = answer b w c in
    let edited = all_on_texts (unless_refused s.reply (command_edits c w)) texts in
    all_same same_range (marked_ranges 0 s.world.ranges edited) s.world.ranges ∷ ends_stand b s.world edited cs

-- whether the edited texts are the world's but for their markers
abbrev pub texts_agree : Bounds → World → List (List Token) → List Command → List Bool
texts_agree b w texts [] = []
texts_agree b w texts (c ∷ cs) =
    let s = answer b w c in
    let edited = all_on_texts (unless_refused s.reply (command_edits c w)) texts in
    (same_texts (map (λ n. unmarked (tokens_among n edited)) (tops s.world.forest)) (map unmarked (texts_of s.world))
    && (length edited == length (tops s.world.forest)))
    ∷ texts_agree b s.world edited cs

-- whether the world that the edits leave is the command's, as its texts show it
abbrev pub worlds_agree : Bounds → World → World → List Command → List Bool
worlds_agree b w v [] = []
worlds_agree b w v (c ∷ cs) =
    let s = answer b w c in
    let edited = all_on_world (unless_refused s.reply (command_edits c w)) v in
    same_texts (texts_of edited) (texts_of s.world) ∷ worlds_agree b s.world edited cs

abbrev pub missed : List Bool → List Bool
missed bs = filter not bs

-- the commands that a session reads in bytes
abbrev pub commands_read : List Row → Bounds → List ℕ → List Command
commands_read table b bytes = commands_among (map (command_within table b.line) (lines_of bytes))

abbrev pub ends_missed : List Row → Bounds → List ℕ → List Bool
ends_missed table b bytes = missed (ends_stand b first_world (texts_of first_world) (commands_read table b bytes))

abbrev pub texts_missed : List Row → Bounds → List ℕ → List Bool
texts_missed table b bytes = missed (texts_agree b first_world (texts_of first_world) (commands_read table b bytes))

abbrev pub worlds_missed : List Row → Bounds → List ℕ → List Bool
worlds_missed table b bytes = missed (worlds_agree b first_world first_world (commands_read table b bytes))
