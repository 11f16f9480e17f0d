-- Items that stand at their nodes or wait, and how those that wait come to stand.
use Rattle.std.proofs.Common.{◌≡◌, ℕ, ◌-◌, ◌<◌, Bool, false, List, [], ◌∷◌, ◌++◌, length, map, set, swap_remove, Option, Some, None, is_some, IfNone, sym, ◌∙◌, arith}
use Rattle.std.specs.Option.{IsSome}
use Rattle.std.proofs.lemmas.{Grind.common_steps, Bool.false≢true, List.ext_get_or, List.get_or-map, List.length-map}
use Rattle.dom_traverse.specs.PositionsByNode.{node_in, StandsOrWaits, StandOrWait}

-- what is told where there is none
pub told-none : {P : Type 0} (o : Option ℕ) (b : Bool) → b ≡ is_some o → b ≡ false → IfNone o P → P
told-none None b e f h = h
told-none (Some n) b e f h = absurd (false≢true (sym f ∙ e))

module _ {A : Type 0} (at : A → ℕ) where
  item : (xs : List A) (k : ℕ) → k < length xs → A
  item [] k l = absurd (omega arith)
  item (x ∷ xs) k l = x

  module _ (xs : List A) (nodes : List (Option ℕ)) (are : StandOrWait at xs nodes) where
    -- and where none waits all stand
    pub caught_up-end : ((e : ℕ) → e < length nodes → IsSome (node_in nodes e)) → nodes ≡ map (λ x. Some (at x)) xs
    caught_up-end all =
        ext_get_or None nodes (map (λ x. Some (at x)) xs) (are.long ∙ sym (length-map xs (λ x. Some (at x))))
        (λ k l.
        let w : k < length xs = omega (arith, l, are.long) in
        let x = item xs k w in
        grind (arith, common_steps, all k l, are.each k x w, get_or-map (λ x. Some (at x)) xs k x None w))

    -- one is written, with where it is
    pub stand-written : (id : ℕ) (y : A) (o : Option ℕ) (nodes' : List (Option ℕ)) → id < length xs → StandsOrWaits at y o → nodes' ≡ set nodes id o → StandOrWait at (set xs id y) nodes'
    stand-written id y o nodes' w s h = record {
      long = grind (arith, common_steps, are.long);
      each = λ k z l. grind (arith, common_steps, are.long, are.each k z);
    }

    -- one more
    pub stand-more : (xs' : List A) (nodes' : List (Option ℕ)) (x : A) (r : ℕ) → at x ≡ r → nodes' ≡ nodes ++ Some r ∷ [] → xs' ≡ xs ++ x ∷ [] → StandOrWait at xs' nodes'
    stand-more xs' nodes' x r q h pushed = record {
      long = grind (arith, common_steps, are.long);
      each = λ k z l. grind (arith, common_steps, are.long, are.each k z);
    }

    -- one is taken out; the last came into its place
    pub stand-fewer : (id : ℕ) (x : A) (xs' : List A) (nodes' : List (Option ℕ)) → id < length xs → nodes' ≡ swap_remove nodes id None → xs' ≡ swap_remove xs id x → StandOrWait at xs' nodes'
    stand-fewer id x xs' nodes' w h removed = record {
      long = grind (arith, common_steps, are.long);
      each = λ k z l. grind (arith, common_steps, are.long, are.each k z, are.each (length xs - 1) z);
    }
