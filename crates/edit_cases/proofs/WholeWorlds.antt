-- A world stays whole where an observer watches a node more, and where a live range is made.
use Rattle.std.proofs.Common.{◌≡◌, ℕ, true, [], ◌∷◌, ◌++◌, Option, Some, IfSome, OnOk, OnErr, subst}
use Rattle.std.specs.declared.result.Result.{Result}
use Rattle.std.specs.declared.result.Result.TheVariants.{Ok, Err}
use Rattle.std.proofs.lemmas.List.Elements.{All-push}
use Rattle.dom_model.specs.Definitions.{among, HasNode, Range, IsRange}
use Rattle.dom_model.proofs.PlainLists.Numbers.{same_or, same, apart}
use Rattle.dom_observe.specs.{ObservedNodes.NamesOnly, Watchers.Watchers}
use Rattle.dom_observe.proofs.NamesHeldLemmas.{held-after}
use Rattle.dom_ranges.specs.Tables.{RangeTable}
use Rattle.dom_edit.specs.{declared.world.World.World, Whole.IsWhole}

module _ (v : World) (whole : IsWhole v) where
  pub whole-watched : (n : ℕ) (o : Watchers) → HasNode v.tree.forest n → NamesOnly (n ∷ []) v.observers o → IsWhole (record v { observers = o })
  whole-watched n o held only = record {
    forest = whole.forest;
    documents = whole.documents;
    owners = whole.owners;
    covered = whole.covered;
    ranges = whole.ranges;
    statics = whole.statics;
    iterators = whole.iterators;
    walkers = whole.walkers;
    observers = held-after v.tree.forest (n ∷ []) v.observers o only here whole.observers;
  }
    where
      here : (m : ℕ) → among m (n ∷ []) ≡ true → HasNode v.tree.forest m
      here m e = elim (same_or n m) [ same d t ↦ subst (λ k. HasNode v.tree.forest k) d held | apart ne t ↦ absurd (let k = rw t at e in cc k) ]

  module _ {A E : Type 0} (r : Range) (live : IsRange v.tree.forest r) where
    pub whole-ranged : (made : Result A E) (t : RangeTable) → OnOk made (t ≡ record v.ranges { ranges = v.ranges.ranges ++ Some r ∷ [] }) → OnErr made (t ≡ v.ranges) → IsWhole (record v { ranges = t })
    whole-ranged (Ok x) t is stays = rw is (record {
      forest = whole.forest;
      documents = whole.documents;
      owners = whole.owners;
      covered = whole.covered;
      ranges = All-push (λ (o : Option Range). IfSome o (IsRange v.tree.forest)) v.ranges.ranges (Some r) whole.ranges live;
      statics = whole.statics;
      iterators = whole.iterators;
      walkers = whole.walkers;
      observers = whole.observers;
    })
    whole-ranged (Err e) t is stays = rw stays whole
