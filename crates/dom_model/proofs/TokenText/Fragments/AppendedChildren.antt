-- The children of each node once a node is appended: the parent has what comes in behind those that it had, and no other node has it.
-- DOM Standard, "Mutation algorithms": append.
use Rattle.std.proofs.Common.{◌≡◌, ℕ, ◌<◌, ◌==◌, Bool, true, false, if◌then◌else◌, List, [], ◌∷◌, ◌++◌, None, refl, ap, sym, ◌∙◌, subst, arith, append_assoc, append-nil}
use Rattle.dom_model.specs.Definitions.{hits, entered, occurs, children_of, World, remove, is_fragment, nodes_of, emptied_fragment, freed, put_in, put_all, insert_nodes, append, IsSound, IsPlaceable, ArePlaceable, IsInsertable}
use Rattle.dom_model.proofs.Forests.{Climbing.hits-first, Lying.left_out-absent, Entries.children-put, Indices.child-there}
use Rattle.dom_model.proofs.Worlds.SameShape.{children-alike}
use Rattle.dom_model.proofs.MutationAlgorithms.{Loosened.loosened-remove, Loosened.loosened-remove_all, Emptied.all_left_out, Emptied.children-remove, Emptied.children-remove_all}
use Rattle.dom_model.proofs.Soundness.{SoundPlacing.apart_from, SoundPlacing.renamed, SoundPlacing.occurs_placed, SoundPlacing.all_placeable, SoundPlacing.sound-put_one, SoundInserting.IsReady, SoundInserting.freed_ready}

entered-last : (c : ℕ) (xs : List ℕ) → entered None c xs ≡ xs ++ (c ∷ [])
entered-last c [] = refl
entered-last c (x ∷ xs) = ap (λ ys. x ∷ ys) (entered-last c xs)

-- what does not stand in a list is not missed there
pub all_left_out-absent : (ns xs : List ℕ) → ((m : ℕ) → 0 < hits m ns → hits m xs ≡ 0) → all_left_out ns xs ≡ xs
all_left_out-absent [] xs h = refl
all_left_out-absent (n ∷ ns) xs h =
    ap (all_left_out ns) (left_out-absent n xs (h n (hits-first n ns))) ∙ all_left_out-absent ns xs (λ m k. h m (omega arith))

children-put_one : (parent n : ℕ) (w : World) (s : IsSound w) (hp : 0 < occurs parent w.forest) (k : IsPlaceable w.forest parent n) → (m : ℕ) → 0 < occurs m w.forest → children_of (put_in parent None n w).forest m ≡ (if m == parent then children_of w.forest m ++ (n ∷ []) else children_of w.forest m)
children-put_one parent n w s hp k m h =
    children-alike (renamed parent n None w s hp k) m
    ∙ children-put w.forest s.forest.once parent n None hp k.there k.root (apart_from parent n None w s hp k) m h
    ∙ ap (λ xs. if m == parent then xs else children_of w.forest m) (entered-last n (children_of w.forest m))

children-put_all : (parent : ℕ) (ns : List ℕ) (w : World) → IsSound w → 0 < occurs parent w.forest → ArePlaceable w.forest parent ns → (m : ℕ) → 0 < occurs m w.forest → children_of (put_all parent None ns w).forest m ≡ (if m == parent then children_of w.forest m ++ ns else children_of w.forest m)
children-put_all parent [] w s hp k m h = grind (arith, append-nil)
children-put_all parent (n ∷ ns) w s hp k m h =
    let v = put_in parent None n w in
    let stay = occurs_placed parent n None w s hp k.0 in
    children-put_all parent ns v (sound-put_one parent n None w s hp k.0 tt) (subst (λ x. 0 < x) (sym (stay parent)) hp) (all_placeable parent n None w s hp k.0 ns k.1 k.2) m (subst (λ x. 0 < x) (sym (stay m)) h)
    ∙ ap (λ xs. if m == parent then xs ++ ns else xs) (children-put_one parent n w s hp k.0 m h)
    ∙ (grind (arith, append_assoc))

module _ (n parent : ℕ) (w : World) (s : IsSound w) (k : IsInsertable w.forest n parent None) where
  children-freed : (m : ℕ) → children_of (freed n (nodes_of w n) w).forest m ≡ all_left_out (nodes_of w n) (children_of w.forest m)
  children-freed m = go (is_fragment w n)
    where
      go : (v : Bool) → children_of (if v then emptied_fragment n (if v then children_of w.forest n else n ∷ []) w else remove false n w).forest m ≡ all_left_out (if v then children_of w.forest n else n ∷ []) (children_of w.forest m)
      go true = children-remove_all (children_of w.forest n) w s (λ c i. child-there w.forest s.forest.once c n i) m
      go false = children-remove false n w s k.there m

  there-freed : (m : ℕ) → occurs m (freed n (nodes_of w n) w).forest ≡ occurs m w.forest
  there-freed m = go (is_fragment w n)
    where
      go : (v : Bool) → occurs m (if v then emptied_fragment n (if v then children_of w.forest n else n ∷ []) w else remove false n w).forest ≡ occurs m w.forest
      go true = let a = loosened-remove_all (children_of w.forest n) w s (λ c i. child-there w.forest s.forest.once c n i) in a.numbers m
      go false = let a = loosened-remove false n w s k.there in a.numbers m

  pub children-append : (m : ℕ) → 0 < occurs m w.forest → children_of (append n parent w).forest m ≡ (if m == parent then all_left_out (nodes_of w n) (children_of w.forest m) ++ nodes_of w n else all_left_out (nodes_of w n) (children_of w.forest m))
  children-append m h = go (nodes_of w n) (freed_ready n parent None w s k) (there-freed m) (children-freed m)
    where
      go : (ns : List ℕ) → IsReady (freed n ns w) parent None ns → occurs m (freed n ns w).forest ≡ occurs m w.forest → children_of (freed n ns w).forest m ≡ all_left_out ns (children_of w.forest m) → children_of (insert_nodes false n parent None ns w).forest m ≡ (if m == parent then all_left_out ns (children_of w.forest m) ++ ns else all_left_out ns (children_of w.forest m))
      go [] r t e = grind (arith, append-nil)
      go (c ∷ cs) r t e =
          children-put_all parent (c ∷ cs) (freed n (c ∷ cs) w) r.sound r.parent_there r.placeable m (subst (λ x. 0 < x) (sym t) h)
          ∙ ap (λ xs. if m == parent then xs ++ (c ∷ cs) else xs) e
