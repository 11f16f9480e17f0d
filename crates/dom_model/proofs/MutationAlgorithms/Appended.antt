-- What a node that is appended leaves of the forest: all numbers and kinds; each node has the parent that it had, or the new one, or none.
-- DOM Standard, "Mutation algorithms": append.
use Rattle.std.proofs.Common.{◌≡◌, ℕ, ◌<◌, Bool, true, false, if◌then◌else◌, List, [], ◌∷◌, Some, None, refl, sym, ◌∙◌, subst, arith, ◌⊎◌, inr}
use Rattle.std.proofs.lemmas.Bool.Decides.{nat_tests}
use Rattle.dom_model.proofs.MutationAlgorithms.{Extending.insert-made, Loosened.IsLoosened, Loosened.loosened-remove, Loosened.parent-remove, Loosened.loosened-remove_all, Loosened.parent-remove_all, Loosened.root-remove_all}
use Rattle.dom_model.specs.Definitions.{hits, Forest, occurs, parent_of, children_of, Content, World, kind_passes, remove, remove_all, is_fragment, nodes_of, emptied_fragment, freed, put_in, put_all, insert_nodes, append, IsSound, ArePlaceable, IsInsertable}
use Rattle.dom_model.specs.declared.Kind.{Kind}
use Rattle.dom_model.proofs.Forests.Indices.{child-there}
use Rattle.dom_model.proofs.Soundness.{SoundWorlds.child_there, SoundPlacing.occurs_placed, SoundPlacing.parent_placed, SoundPlacing.kind_placed, SoundPlacing.all_placeable, SoundPlacing.sound-put_one, SoundInserting.IsReady, SoundInserting.freed_ready}

-- the nodes have left where they stood, and no parent is new
record IsFreed (f g : Forest Content) : Type 0 where
  loosened : IsLoosened f g
  fewer : (m q : ℕ) → parent_of g m ≡ Some q → parent_of f m ≡ Some q

freed-alone : (n : ℕ) (w : World) → IsSound w → 0 < occurs n w.forest → IsFreed w.forest (remove false n w).forest
freed-alone n w s h =
    record {
      loosened = loosened-remove false n w s h;
      fewer = λ m q e. grind (arith, nat_tests, parent-remove false n w s h m);
    }

freed-children : (n : ℕ) (w : World) → IsSound w → IsFreed w.forest (remove_all (children_of w.forest n) w).forest
freed-children n w s =
    let there : (m : ℕ) → 0 < hits m (children_of w.forest n) → 0 < occurs m w.forest = λ m h. child-there w.forest s.forest.once m n h in
    record {
      loosened = loosened-remove_all (children_of w.forest n) w s there;
      fewer = λ m q e. grind (arith, root-remove_all (children_of w.forest n) w s there m, parent-remove_all (children_of w.forest n) w s there m);
    }

freed-nodes : (n : ℕ) (w : World) → IsSound w → 0 < occurs n w.forest → IsFreed w.forest (freed n (nodes_of w n) w).forest
freed-nodes n w s h = go (is_fragment w n)
  where
    go : (v : Bool) → IsFreed w.forest (if v then emptied_fragment n (if v then children_of w.forest n else n ∷ []) w else remove false n w).forest
    go true = freed-children n w s
    go false = freed-alone n w s h

-- nodes have come under a parent
pub record IsAppended (f g : Forest Content) (parent : ℕ) (ns : List ℕ) : Type 0 where
  pub numbers : (m : ℕ) → occurs m g ≡ occurs m f
  pub kinds : (test : Kind → Bool) (m : ℕ) → kind_passes test g m ≡ kind_passes test f m
  pub parents : (m q : ℕ) → parent_of g m ≡ Some q → ((q ≡ parent) × (0 < hits m ns)) ⊎ (parent_of f m ≡ Some q)

put-last : (parent : ℕ) (ns : List ℕ) (w : World) → IsSound w → 0 < occurs parent w.forest → ArePlaceable w.forest parent ns → IsAppended w.forest (put_all parent None ns w).forest parent ns
put-last parent [] w s hp k = record { numbers = λ m. refl; kinds = λ test m. refl; parents = λ m q e. inr e }
put-last parent (n ∷ ns) w s hp k =
    let v = put_in parent None n w in
    let next = put-last parent ns v (sound-put_one parent n None w s hp k.0 tt) (subst (λ x. 0 < x) (sym (occurs_placed parent n None w s hp k.0 parent)) hp) (all_placeable parent n None w s hp k.0 ns k.1 k.2) in
    record {
      numbers = λ m. next.numbers m ∙ occurs_placed parent n None w s hp k.0 m;
      kinds = λ test m. next.kinds test m ∙ kind_placed parent n None w s hp k.0 test m;
      parents = λ m q e. grind (arith, nat_tests, next.parents m q e, first m q);
    }
  where
    first : (m q : ℕ) → parent_of (put_in parent None n w).forest m ≡ Some q → ((q ≡ parent) × (0 < hits m (n ∷ ns))) ⊎ (parent_of w.forest m ≡ Some q)
    first m q e =
        let h : 0 < occurs m w.forest = subst (λ x. 0 < x) (occurs_placed parent n None w s hp k.0 m) (child_there (put_in parent None n w).forest m q e) in
        let i = sym (parent_placed parent n None w s hp k.0 m h) ∙ e in
        grind (arith, nat_tests)

freed-put : (f g h : Forest Content) (parent : ℕ) (ns : List ℕ) → IsFreed f g → IsAppended g h parent ns → IsAppended f h parent ns
freed-put f g h parent ns a b =
    record {
      numbers = λ m. b.numbers m ∙ a.loosened.numbers m;
      kinds = λ test m. b.kinds test m ∙ a.loosened.kinds test m;
      parents = λ m q e. grind (arith, b.parents m q e, a.fewer m q);
    }

module _ (n parent : ℕ) (w : World) (s : IsSound w) (k : IsInsertable w.forest n parent None) where
  pub appended : IsAppended w.forest (append n parent w).forest parent (nodes_of w n)
  appended = go (nodes_of w n) (freed_ready n parent None w s k) (freed-nodes n w s k.there)
    where
      go : (ns : List ℕ) → IsReady (freed n ns w) parent None ns → IsFreed w.forest (freed n ns w).forest → IsAppended w.forest (insert_nodes false n parent None ns w).forest parent ns
      go [] r a = record { numbers = λ m. refl; kinds = λ test m. refl; parents = λ m q e. inr e }
      go (m ∷ ms) r a = freed-put w.forest (freed n (m ∷ ms) w).forest _ parent (m ∷ ms) a (put-last parent (m ∷ ms) (freed n (m ∷ ms) w) r.sound r.parent_there r.placeable)

  pub made-appended : (append n parent w).made ≡ w.made
  made-appended = insert-made false n parent None w
