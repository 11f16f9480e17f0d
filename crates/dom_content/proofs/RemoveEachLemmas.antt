-- One node after another leaves its parent.
use Rattle.std.proofs.Common.{◌≡◌, ℕ, ◌+◌, ◌<◌, ◌≤◌, false, List, [], ◌∷◌, drop, length, slice_index_or, refl, ap, sym, ◌∙◌, subst, arith, length-drop}
use Rattle.std.proofs.lemmas.List.{drop_more}
use Rattle.dom_model.specs.Definitions.{hits, HasNode, remove, remove_each}
use Rattle.dom_model.proofs.Forests.Entries.{occurs-HasNode, HasNode-occurs}
use Rattle.dom_edit.specs.{declared.world.World.World, Whole.IsWhole, Whole.Follows}
use Rattle.dom_edit.proofs.{FollowsLemmas.follows-none, FollowsLemmas.follows-then, InsertLemmas.item-hit, InsertLemmas.there-removed}

-- all nodes are there, and once those still to come are out, all are
pub record IsLeaving (initial here : World) (nodes : List ℕ) (i : ℕ) : Type 0 where
  pub whole : IsWhole here
  pub there : (m : ℕ) → 0 < hits m nodes → HasNode here.tree.forest m
  pub rest : (final : World) → Follows here final (remove_each (drop i nodes)) → Follows initial final (remove_each nodes)

module _ (initial here : World) (nodes : List ℕ) (i : ℕ) (t : IsLeaving initial here nodes i) where
  pub leaving-node : (x : ℕ) → x ≡ slice_index_or nodes i x → i < length nodes → HasNode here.tree.forest x
  leaving-node x is lt = t.there x (item-hit nodes i x lt is)

  pub leaving-next : (next : World) (x : ℕ) → x ≡ slice_index_or nodes i x → i < length nodes → Follows here next (remove false x) → IsWhole next → IsLeaving initial next nodes (i + 1)
  leaving-next next x is lt f h =
      let e : drop i nodes ≡ x ∷ drop (i + 1) nodes = drop_more nodes i x lt ∙ ap (λ y. y ∷ drop (i + 1) nodes) (sym is) in
      let hx = occurs-HasNode here.tree.forest x (leaving-node x is lt) in
      record {
        whole = h;
        there = λ m l. HasNode-occurs next.tree.forest m (there-removed here next x false t.whole hx f m (occurs-HasNode here.tree.forest m (t.there m l)));
        rest = λ final g.
            t.rest final (subst (λ ns. Follows here final (remove_each ns)) (sym e) (follows-then here next final (remove false x) (remove_each (drop (i + 1) nodes)) f g));
      }

  no_more : (xs : List ℕ) → length xs ≡ 0 → xs ≡ []
  no_more [] e = refl
  no_more (x ∷ xs) e = absurd (omega arith)

  pub leaving-end : length nodes ≤ i → Follows initial here (remove_each nodes)
  leaving-end le =
      let e = no_more (drop i nodes) (let l = length-drop i nodes in omega arith) in
      t.rest here (subst (λ ns. Follows here here (remove_each ns)) (sym e) (follows-none here))
