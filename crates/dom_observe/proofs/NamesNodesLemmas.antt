-- The nodes that the records of a queue name, as a set has them.
use Rattle.std.proofs.Common.{◌≡◌, ℕ, ◌+◌, ◌==◌, Bool, true, false, ◌||◌, if◌then◌else◌, Option, Some, List, ◌∷◌, ◌++◌, length, take, drop, refl, ap, sym, ◌∙◌, nat_eq, arith, length-append, take-append-drop, take_all, drop_of_length-le, flat_map}
use Rattle.std.specs.List.{list_any}
use Rattle.std.proofs.lemmas.{List.Concat.flat_map-append, List.Folds.list_any-append}
use Rattle.dom_model.specs.Definitions.{among, Record, nodes_of_record}
use Rattle.dom_model.proofs.PlainLists.Searches.{among-both, any-same}
use Rattle.indexmap.specs.IndexSet.{IndexSet, contains}
use Rattle.dom_observe.specs.QueuedNodes.{NamesNodes, IsCaughtUp}
use Rattle.dom_observe.proofs.{InterestedLemmas.among-list_any, ObservedNodesLemmas.any-flat}

pub or-grouped : (a b c : Bool) → (a || (b || c)) ≡ ((a || b) || c)
or-grouped true b c = refl
or-grouped false b c = refl

-- a set of the names is searched where the nodes of the records are
pub any-names : {S : Type 0} (p : ℕ → Bool) (rs : List Record) (names : IndexSet ℕ S) → NamesNodes rs names → list_any p names.keys ≡ list_any p (flat_map nodes_of_record rs)
any-names p rs names named = any-same p names.keys (flat_map nodes_of_record rs) (λ n. sym (among-list_any n names.keys) ∙ named n)

-- the parts of several nodes are put in, one after another
pub name-parts : (n : ℕ) (before : Bool) (target : ℕ) (added removed previous next : List ℕ)
    → (((((before || (target == n)) || among n added) || among n removed) || among n previous) || among n next) ≡ (before || among n (target ∷ (added ++ (removed ++ (previous ++ next)))))
name-parts n before target added removed previous next =
    turned before (target == n) (among n added) (among n removed) (among n previous) (among n next)
    ∙ sym (ap (λ b. before || (if target == n then true else b)) parts)
  where
    parts : among n (added ++ (removed ++ (previous ++ next))) ≡ (among n added || (among n removed || (among n previous || among n next)))
    parts =
        among-both n added (removed ++ (previous ++ next))
        ∙ ap (λ b. among n added || b) (among-both n removed (previous ++ next)
        ∙ ap (λ b. among n removed || b) (among-both n previous next))

    turned : (z t a b c d : Bool) → (((((z || t) || a) || b) || c) || d) ≡ (z || (if t then true else (a || (b || (c || d)))))
    turned true t a b c d = refl
    turned false true a b c d = refl
    turned false false true b c d = refl
    turned false false false true c d = refl
    turned false false false false true d = refl
    turned false false false false false d = refl

-- what the records name, those that are caught_up and the others
any-parts : (p : ℕ → Bool) (caught_up : ℕ) (rs : List Record) → list_any p (flat_map nodes_of_record rs) ≡ (list_any p (flat_map nodes_of_record (take caught_up rs)) || list_any p (flat_map nodes_of_record (drop caught_up rs)))
any-parts p caught_up rs =
    ap (λ l. list_any p (flat_map nodes_of_record l)) (sym (take-append-drop caught_up rs))
    ∙ ap (list_any p) (flat_map-append nodes_of_record (take caught_up rs) (drop caught_up rs))
    ∙ list_any-append p (flat_map nodes_of_record (take caught_up rs)) (flat_map nodes_of_record (drop caught_up rs))

pub any-caught_up : {S : Type 0} (p : ℕ → Bool) (rs : List Record) (named : IndexSet ℕ S) (caught_up : ℕ) (owed : Option ℕ) → IsCaughtUp rs named caught_up owed
    → list_any p (flat_map nodes_of_record rs) ≡ (list_any p named.keys || list_any (λ r. list_any p (nodes_of_record r)) (drop caught_up rs))
any-caught_up p rs named caught_up owed s =
    any-parts p caught_up rs
    ∙ (λ i. sym (any-names p (take caught_up rs) named s.first) i || any-flat p nodes_of_record (drop caught_up rs) i)

-- the others are named too
pub caught_up-all : {S : Type 0} (rs : List Record) (old new : IndexSet ℕ S) (caught_up : ℕ) (owed : Option ℕ) (all : ℕ) → IsCaughtUp rs old caught_up owed → all ≡ length rs
    → ((n : ℕ) → contains nat_eq new n ≡ (contains nat_eq old n || among n (flat_map nodes_of_record (drop caught_up rs)))) → IsCaughtUp rs new all (Some 0)
caught_up-all rs old new caught_up owed all s end put = record {
  within = omega (arith, end);
  first = λ n.
      put n
      ∙ ap (λ b. b || among n (flat_map nodes_of_record (drop caught_up rs))) (s.first n)
      ∙ sym (parts n)
      ∙ sym (ap (λ l. among n (flat_map nodes_of_record l)) (take_all all rs (omega (arith, end))));
  others = omega (arith, none);
}
  where
    none : length (flat_map nodes_of_record (drop all rs)) ≡ 0
    none = ap (λ l. length (flat_map nodes_of_record l)) (drop_of_length-le rs (omega (arith, end)))

    parts : (n : ℕ) → among n (flat_map nodes_of_record rs) ≡ (among n (flat_map nodes_of_record (take caught_up rs)) || among n (flat_map nodes_of_record (drop caught_up rs)))
    parts n =
        ap (λ l. among n (flat_map nodes_of_record l)) (sym (take-append-drop caught_up rs))
        ∙ ap (among n) (flat_map-append nodes_of_record (take caught_up rs) (drop caught_up rs))
        ∙ among-both n (flat_map nodes_of_record (take caught_up rs)) (flat_map nodes_of_record (drop caught_up rs))

-- the nodes of the next record are named
module _ (rs : List Record) (i : ℕ) (r : Record) (next : drop i rs ≡ r ∷ drop (i + 1) rs) where
  pub named-next : (n : ℕ) (before after : Bool) → after ≡ (before || among n (nodes_of_record r))
      → (after || among n (flat_map nodes_of_record (drop (i + 1) rs))) ≡ (before || among n (flat_map nodes_of_record (drop i rs)))
  named-next n before after put =
      ap (λ b. b || among n (flat_map nodes_of_record (drop (i + 1) rs))) put
      ∙ sym (or-grouped before (among n (nodes_of_record r)) (among n (flat_map nodes_of_record (drop (i + 1) rs))))
      ∙ sym (ap (λ b. before || b) (ap (λ l. among n (flat_map nodes_of_record l)) next ∙ among-both n (nodes_of_record r) (flat_map nodes_of_record (drop (i + 1) rs))))

  pub length-next : length (flat_map nodes_of_record (drop i rs)) ≡ length (nodes_of_record r) + length (flat_map nodes_of_record (drop (i + 1) rs))
  length-next = ap (λ l. length (flat_map nodes_of_record l)) next ∙ length-append (nodes_of_record r) (flat_map nodes_of_record (drop (i + 1) rs))
