-- The token texts where a node leaves its parent, as lists of tokens.
use Rattle.std.proofs.Common.{◌≡◌, ℕ, List, [], ◌∷◌, ◌++◌, map, refl, ◌∙◌, arith, append_assoc, append-nil}
use Rattle.std.proofs.lemmas.{Bool.eq-eqb, Grind.flat_map-append, List.map-append}
use Rattle.dom_model.specs.Definitions.{Token, Open, Close, is_open, unmarked, marks_in, tokens_at, tokens_among, closed_up, on_texts, Removal}
use Rattle.dom_model.proofs.TokenText.{Pieces.TokenLists.tallies, Pieces.TokenLists.opened, Pieces.TokenLists.has_open-none, Pieces.TokenLists.has_open-there, Pieces.TokenLists.before_open-skips, Pieces.TokenLists.from_open-skips, Pieces.TokenLists.from_open-none, Pieces.TextPieces.Closes, Pieces.TextPieces.through-node}

-- A text that opens a node, and those that do not.

closed_up-at : (n : ℕ) (ahead inner behind : List Token) → opened n ahead ≡ 0 → Closes inner → closed_up n (ahead ++ (Open n ∷ (inner ++ (Close ∷ behind)))) ≡ ahead ++ (marks_in (Open n ∷ (inner ++ (Close ∷ []))) ++ behind)
closed_up-at n ahead inner behind o c =
    let rest = Open n ∷ (inner ++ (Close ∷ behind)) in
    rw (has_open-there n ahead (inner ++ (Close ∷ behind)), before_open-skips n ahead rest o, from_open-skips n ahead rest o, eq-eqb n n refl)
    (rw (append-nil ahead, c.through 0 (Close ∷ behind), c.past 0 (Close ∷ behind)) refl)

closed_up-free : (n : ℕ) (texts : List (List Token)) → tallies (is_open n) texts ≡ 0 → map (closed_up n) texts ≡ texts
closed_up-free n [] h = refl
closed_up-free n (text ∷ texts) h = rw (has_open-none n text (omega arith), closed_up-free n texts (omega arith)) refl

pub tokens_among-free : (n : ℕ) (texts : List (List Token)) → tallies (is_open n) texts ≡ 0 → tokens_among n texts ≡ []
tokens_among-free n [] h = refl
tokens_among-free n (text ∷ texts) h = rw (from_open-none n text (omega arith)) (tokens_among-free n texts (omega arith))

pub tokens_at-there : (n : ℕ) (ahead inner behind : List Token) → opened n ahead ≡ 0 → Closes inner → tokens_at n (ahead ++ (Open n ∷ (inner ++ (Close ∷ behind)))) ≡ Open n ∷ (inner ++ (Close ∷ []))
tokens_at-there n ahead inner behind o c =
    rw (from_open-skips n ahead (Open n ∷ (inner ++ (Close ∷ behind))) o, eq-eqb n n refl) (through-node n inner behind c)

-- the tokens of a node that one of the texts opens
pub tokens_among-there : (n : ℕ) (above below : List (List Token)) (ahead inner behind : List Token) → tallies (is_open n) above ≡ 0 → opened n ahead ≡ 0 → tallies (is_open n) below ≡ 0 → Closes inner → tokens_among n (above ++ ((ahead ++ (Open n ∷ (inner ++ (Close ∷ behind)))) ∷ below)) ≡ Open n ∷ (inner ++ (Close ∷ []))
tokens_among-there n above below ahead inner behind a o b c =
    let text = ahead ++ (Open n ∷ (inner ++ (Close ∷ behind))) in
    flat_map-append (tokens_at n) above (text ∷ below) ∙ (rw (tokens_among-free n above a, tokens_at-there n ahead inner behind o c, tokens_among-free n below b) (append-nil (Open n ∷ (inner ++ (Close ∷ [])))))

pub removed-there : (n : ℕ) (above below : List (List Token)) (ahead inner behind : List Token) → tallies (is_open n) above ≡ 0 → opened n ahead ≡ 0 → tallies (is_open n) below ≡ 0 → Closes inner → on_texts (Removal n) (above ++ ((ahead ++ (Open n ∷ (inner ++ (Close ∷ behind)))) ∷ below)) ≡ (above ++ ((ahead ++ (marks_in (Open n ∷ (inner ++ (Close ∷ []))) ++ behind)) ∷ below)) ++ (unmarked (Open n ∷ (inner ++ (Close ∷ []))) ∷ [])
removed-there n above below ahead inner behind a o b c =
    let text = ahead ++ (Open n ∷ (inner ++ (Close ∷ behind))) in
    rw (tokens_among-there n above below ahead inner behind a o b c, map-append (closed_up n) above (text ∷ below))
    (rw (closed_up-free n above a, closed_up-at n ahead inner behind o c, closed_up-free n below b) refl)

pub joined_then : (a : List Token) (n : ℕ) (f m e l b t : List Token) → (a ++ (Open n ∷ (f ++ m))) ++ (e ++ ((l ++ b) ++ t)) ≡ a ++ (Open n ∷ ((f ++ ((m ++ (e ++ l)) ++ b)) ++ t))
joined_then a n f m e l b t = simp append_assoc
