-- Whole nodes among tokens leave no open without its close and no close without its open.
use Rattle.std.proofs.Common.{◌≡◌, ℕ, zero, suc, List, [], ◌∷◌, ◌++◌, take, refl, ap, ◌∙◌, subst, append_assoc, arith}
use Rattle.std.proofs.lemmas.Bool.{cond_both}
use Rattle.dom_model.specs.Definitions.{is_character_data, Node, Forest, empty, node, Content, Token, Open, Close, OneUnit, no_marks, unit_tokens, child_tokens, opens_left, closes_left}
use Rattle.dom_model.proofs.TokenText.Pieces.TextParts.{inside, own}

pub record Matches (ts : List Token) : Type 0 where
  pub closes : (depth : ℕ) (us : List Token) → closes_left depth (ts ++ us) ≡ closes_left depth us
  pub opens : (above us : List Token) → opens_left above (ts ++ us) ≡ opens_left above us

pub matches-none : Matches []
matches-none = record { closes = λ depth us. refl; opens = λ above us. refl }

pub matches-append : (xs ys : List Token) → Matches xs → Matches ys → Matches (xs ++ ys)
matches-append xs ys m n = record {
  closes = λ depth us. ap (closes_left depth) (append_assoc xs ys us) ∙ m.closes depth (ys ++ us) ∙ n.closes depth us;
  opens = λ above us. ap (opens_left above) (append_assoc xs ys us) ∙ m.opens above (ys ++ us) ∙ n.opens above us;
}

matches-unit : (u : ℕ) (ts : List Token) → Matches ts → Matches (OneUnit u ∷ ts)
matches-unit u ts m = record { closes = λ depth us. grind (arith, m.closes depth us); opens = λ above us. grind (arith, m.opens above us) }

pub closes-open : (n depth : ℕ) (ts : List Token) → closes_left depth (Open n ∷ ts) ≡ closes_left (suc depth) ts
closes-open n depth ts = grind arith

pub opens-open : (n : ℕ) (above ts : List Token) → opens_left above (Open n ∷ ts) ≡ opens_left (Open n ∷ above) ts
opens-open n above ts = grind arith

pub matches-units : (n i : ℕ) (us : List ℕ) → Matches (unit_tokens no_marks n i us)
matches-units n i [] = matches-none
matches-units n i (u ∷ us) = matches-unit u (unit_tokens no_marks n (suc i) us) (matches-units n (suc i) us)

-- units alone leave nothing
pub matches-part : (k n i : ℕ) (us : List ℕ) → Matches (take k (unit_tokens no_marks n i us))
matches-part zero n i us = matches-none
matches-part (suc k) n i [] = matches-none
matches-part (suc k) n i (u ∷ us) = matches-unit u (take k (unit_tokens no_marks n (suc i) us)) (matches-part k n (suc i) us)

-- a node around tokens that match
pub matches-node : (n : ℕ) (ts : List Token) → Matches ts → Matches (Open n ∷ (ts ++ (Close ∷ [])))
matches-node n ts m = record {
  closes = λ depth us.
      closes-open n depth ((ts ++ (Close ∷ [])) ++ us)
      ∙ ap (closes_left (suc depth)) (append_assoc ts (Close ∷ []) us)
      ∙ m.closes (suc depth) (Close ∷ us);
  opens = λ above us.
      opens-open n above ((ts ++ (Close ∷ [])) ++ us)
      ∙ ap (opens_left (Open n ∷ above)) (append_assoc ts (Close ∷ []) us)
      ∙ m.opens (Open n ∷ above) (Close ∷ us);
}

matches-inside : (x : Node Content) (kids : Forest Content) → Matches (child_tokens no_marks x.number 0 kids) → Matches (inside no_marks x kids)
matches-inside x kids below = cond_both (is_character_data x.label.kind) _ _ Matches (λ _. matches-units x.number 0 x.body.text) (λ _. below)

-- the children of a node
pub matches-children : (n i : ℕ) (f : Forest Content) → Matches (child_tokens no_marks n i f)
matches-children n i empty = matches-none
matches-children n i (node x kids rest) =
    let own_ones = matches-node x.number (inside no_marks x kids) (matches-inside x kids (matches-children x.number 0 kids)) in
    subst Matches (ap (λ us. Open x.number ∷ us) (append_assoc (inside no_marks x kids) (Close ∷ []) (child_tokens no_marks n (suc i) rest)))
    (matches-append (own no_marks x kids) (child_tokens no_marks n (suc i) rest) own_ones (matches-children n (suc i) rest))

-- and a node's own tokens
pub matches-own : (x : Node Content) (kids : Forest Content) → Matches (own no_marks x kids)
matches-own x kids = matches-node x.number (inside no_marks x kids) (matches-inside x kids (matches-children x.number 0 kids))
