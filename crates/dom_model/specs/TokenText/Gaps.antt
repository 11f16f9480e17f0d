-- Where the gap of a boundary point stands in the token text of its root, told by how many tokens are ahead of it.
-- Ours: the order of boundary points in other words. DOM Standard, "Boundary points".
-- The texts are those without markers: ahead of each token but the root's open there is one gap.
use Rattle.std.specs.Prelude.{ℕ, suc, ◌+◌, if◌then◌else◌, List, [], ◌∷◌, Option, Some, None, option_map}
use Rattle.std.specs.Ordering.{nat_cmp}
use Rattle.std.specs.declared.cmp.Ordering.{Ordering}
use Rattle.dom_model.specs.Forests.Forest.{Forest}
use Rattle.dom_model.specs.Worlds.World.{Content, Point}
use Rattle.dom_model.specs.TokenText.Tokens.{Token, no_marks, token_texts, passed, stands_at, is_root_text}

-- the text of a root, among the texts of all roots
abbrev pub text_among : ℕ → List (List Token) → List Token
text_among root [] = []
text_among root (text ∷ texts) = if is_root_text root text then text else text_among root texts

abbrev pub root_text : Forest Content → ℕ → List Token
root_text f root = text_among root (token_texts no_marks f)

-- how many tokens are ahead of the point's gap, where a walk has come to `here`; none where the text has no such gap
abbrev pub tokens_ahead : Point → List Point → List Token → Option ℕ
tokens_ahead p here [] = None
tokens_ahead p here (t ∷ ts) = let next = passed t here in if stands_at p here then Some 0 else option_map (λ k. suc k) (tokens_ahead p next ts)

-- how many gaps of the text are the point's
abbrev pub gap_count : Point → List Point → List Token → ℕ
gap_count p here [] = 0
gap_count p here (t ∷ ts) = let next = passed t here in (if stands_at p here then 1 else 0) + gap_count p next ts

-- of two numbers that are there, which is less
abbrev pub order_if_any : Option ℕ → Option ℕ → Option Ordering
order_if_any None b = None
order_if_any (Some a) None = None
order_if_any (Some a) (Some b) = Some (nat_cmp a b)

-- whether the gap of the first point stands before, at or after the gap of the second
abbrev pub gap_order : Point → Point → List Token → Option Ordering
gap_order p q text = order_if_any (tokens_ahead p [] text) (tokens_ahead q [] text)
