-- The flattening after a cut and a put: a tree stands in it in one piece.
use Rattle.std.proofs.Common.{◌≡◌, ℕ, suc, ◌+◌, true, false, if◌then◌else◌, List, [], ◌∷◌, ◌++◌, Option, refl, ap, sym, ◌∙◌, arith, append_assoc, append-nil}
use Rattle.dom_model.specs.Definitions.{hits, is_number, Node, Forest, empty, node, occurs, rows, numbers, beside, tree_at, without, placed_before, placed_under, put}
use Rattle.dom_model.specs.Forests.Forest.{Row}
use Rattle.dom_model.proofs.Forests.{Whereabouts.top, Whereabouts.inside, Whereabouts.beyond, Whereabouts.whereabouts, Totals.without-absent, Totals.tree_at-absent, Totals.beside-empty, Undone.placed_under-absent}

-- a list that stands in another in one piece, and what is left without it
pub record Piece (whole piece left : List ℕ) : Type 0 where
  pub ahead : List ℕ
  pub behind : List ℕ
  pub holds : whole ≡ ahead ++ (piece ++ behind)
  pub leaves : left ≡ ahead ++ behind

module _ {X : Type 0} where
  pub numbers-beside : (f g : Forest X) → numbers (beside f g) ≡ numbers f ++ numbers g
  numbers-beside empty g = refl
  numbers-beside (node x kids rest) g =
      ap (λ ns. x.number ∷ ns) (ap (λ ns. numbers kids ++ ns) (numbers-beside rest g) ∙ sym (append_assoc (numbers kids) (numbers rest) (numbers g)))

  pub rows-beside : (d : ℕ) (f g : Forest X) → rows d (beside f g) ≡ rows d f ++ rows d g
  rows-beside d empty g = refl
  rows-beside d (node x kids rest) g =
      ap (λ (rs : List (Row X)). record { depth = d; at = x } ∷ rs) (ap (λ (rs : List (Row X)). rows (suc d) kids ++ rs) (rows-beside d rest g) ∙ sym (append_assoc (rows (suc d) kids) (rows d rest) (rows d g)))

  -- a number stands in the flattening as often as in the forest
  pub hits-numbers : (n : ℕ) (f : Forest X) → hits n (numbers f) ≡ occurs n f
  hits-numbers n empty = refl
  hits-numbers n (node x kids rest) = omega (arith, both (numbers kids) (numbers rest), hits-numbers n kids, hits-numbers n rest)
    where
      both : (xs ys : List ℕ) → hits n (xs ++ ys) ≡ hits n xs + hits n ys
      both [] ys = omega arith
      both (y ∷ xs) ys = omega (arith, both xs ys)

  in_kids : (x : Node X) (kids' kids rest' rest : Forest X) (piece : List ℕ) → Piece (numbers kids') piece (numbers kids) → numbers rest' ≡ numbers rest → Piece (numbers (node x kids' rest')) piece (numbers (node x kids rest))
  in_kids x kids' kids rest' rest piece i e =
      record {
        ahead = x.number ∷ i.ahead;
        behind = i.behind ++ numbers rest;
        holds = ap (λ ns. x.number ∷ ns) (rw (i.holds, e) (append_assoc i.ahead (piece ++ i.behind) (numbers rest) ∙ ap (λ ns. i.ahead ++ ns) (append_assoc piece i.behind (numbers rest))));
        leaves = ap (λ ns. x.number ∷ ns) (rw i.leaves (append_assoc i.ahead i.behind (numbers rest)));
      }

  in_rest : (x : Node X) (kids' kids rest' rest : Forest X) (piece : List ℕ) → numbers kids' ≡ numbers kids → Piece (numbers rest') piece (numbers rest) → Piece (numbers (node x kids' rest')) piece (numbers (node x kids rest))
  in_rest x kids' kids rest' rest piece e i =
      record {
        ahead = x.number ∷ (numbers kids ++ i.ahead);
        behind = i.behind;
        holds = ap (λ ns. x.number ∷ ns) (rw (i.holds, e) (sym (append_assoc (numbers kids) i.ahead (piece ++ i.behind))));
        leaves = ap (λ ns. x.number ∷ ns) (rw i.leaves (sym (append_assoc (numbers kids) i.ahead i.behind)));
      }

  -- the flattening without a number is the flattening without its tree's
  pub numbers-without : (c : ℕ) (f : Forest X) → occurs c f ≡ 1 → Piece (numbers f) (numbers (tree_at c f)) (numbers (without c f))
  numbers-without c empty h = absurd (omega arith)
  numbers-without c (node x kids rest) h =
      elim (whereabouts c x kids rest h) [
        | top e t zk zr ↦
            rw (t, tree_at-absent c rest zr, without-absent c rest zr) (record {
              ahead = [];
              behind = numbers rest;
              holds = ap (λ ns. x.number ∷ ns) (ap (λ ns. ns ++ numbers rest) (sym (append-nil (numbers kids))));
              leaves = refl;
            })
        | inside ne t ok zr ↦
            rw (t, tree_at-absent c rest zr, without-absent c rest zr, beside-empty (tree_at c kids))
            (in_kids x kids (without c kids) rest rest (numbers (tree_at c kids)) (numbers-without c kids ok) refl)
        | beyond ne t zk or ↦
            rw (t, tree_at-absent c kids zk, without-absent c kids zk)
            (in_rest x kids kids rest (without c rest) (numbers (tree_at c rest)) refl (numbers-without c rest or))
      ]

  pub numbers-placed_before : (b : Option ℕ) (t f : Forest X) → Piece (numbers (placed_before b t f)) (numbers t) (numbers f)
  numbers-placed_before b t empty = record { ahead = []; behind = []; holds = sym (append-nil (numbers t)); leaves = refl }
  numbers-placed_before b t (node x kids rest) =
      elim (is_number b x.number) as (λ v. Piece (numbers (if v then beside t (node x kids rest) else node x kids (placed_before b t rest))) (numbers t) (numbers (node x kids rest))) [
        | true ↦ record { ahead = []; behind = numbers (node x kids rest); holds = numbers-beside t (node x kids rest); leaves = refl }
        | false ↦ in_rest x kids kids (placed_before b t rest) rest (numbers t) refl (numbers-placed_before b t rest)
      ]

  pub numbers-placed_under : (p : ℕ) (b : Option ℕ) (t f : Forest X) → occurs p f ≡ 1 → Piece (numbers (placed_under p b t f)) (numbers t) (numbers f)
  numbers-placed_under p b t empty h = absurd (omega arith)
  numbers-placed_under p b t (node x kids rest) h =
      elim (whereabouts p x kids rest h) [
        | top e v pk pr ↦
            rw (v, placed_under-absent p b t kids pk, placed_under-absent p b t rest pr)
            (in_kids x (placed_before b t kids) kids rest rest (numbers t) (numbers-placed_before b t kids) refl)
        | inside ne v pk pr ↦
            rw (v, placed_under-absent p b t rest pr)
            (in_kids x (placed_under p b t kids) kids rest rest (numbers t) (numbers-placed_under p b t kids pk) refl)
        | beyond ne v pk pr ↦
            rw (v, placed_under-absent p b t kids pk)
            (in_rest x kids kids (placed_under p b t rest) rest (numbers t) refl (numbers-placed_under p b t rest pr))
      ]

  -- what is put stands in one piece in the flattening of what it was put into
  pub numbers-put : (p c : ℕ) (b : Option ℕ) (f : Forest X) → occurs p (without c f) ≡ 1 → Piece (numbers (put p c b f)) (numbers (tree_at c f)) (numbers (without c f))
  numbers-put p c b f h = numbers-placed_under p b (tree_at c f) (without c f) h
