-- A node is adopted: what follows, and that the world stays whole.
use Rattle.std.proofs.Common.{◌≡◌, ℕ, Bool, true, false, None, IfSome, refl, ap, sym, ◌∙◌, subst, arith}
use Rattle.dom_model.specs.declared.Kind.TheVariants.{Document}
use Rattle.dom_model.specs.Definitions.{is_kind, HasNode, occurs, entry_in, parent_of, cut, adopted, in_document, HasOneDocument, HasDocument, is_of_kind, remove, adopt, HasOwners}
use Rattle.dom_model.proofs.PlainLists.Numbers.{same_or, same, apart}
use Rattle.dom_model.proofs.Forests.{Entries.occurs-HasNode, Entries.parent-cut, Documents.HasDocument-entry, Documents.HasOneDocument-adopted, Documents.adopted-same}
use Rattle.dom_model.proofs.Worlds.{SameShape.with_tree-alike, SameShape.occurs-alike, Measured.kind-cut, Owners.HasOwners-adopted}
use Rattle.dom_model.proofs.RangesAndContents.RangesSpliced.{there-alike}
use Rattle.dom_model.proofs.Soundness.{SoundWorlds.there_after_cut, SoundWorlds.statics-kept, SoundEditing.sound-adopted}
use Rattle.dom_model.proofs.MutationAlgorithms.Loosened.{forest-remove}
use Rattle.dom_observe.specs.ObservedNodes.{NamesHeld}
use Rattle.dom_observe.proofs.NamesHeldLemmas.{held-kept}
use Rattle.dom_edit.specs.{declared.world.World.World, Whole.IsWhole, Whole.Keeps, Whole.Follows, Whole.unwatched}
use Rattle.dom_edit.proofs.{FollowsLemmas.keeps-unwatched, FollowsLemmas.whole-sound, CoversHeldLemmas.covered-kept, RemoveLemmas.sound-unwatched}

-- what a removal leaves of the trees
module _ (v new : World) (suppressed : Bool) (n : ℕ) (h : IsWhole v) (held : HasNode v.tree.forest n) (f : Follows v new (remove suppressed n)) where
  pub removed-forest : new.tree.forest ≡ cut n v.tree.forest
  removed-forest = sym (f.keeps (unwatched v) (keeps-unwatched v)).forest ∙ forest-remove suppressed n (unwatched v) (sound-unwatched v h) (occurs-HasNode v.tree.forest n held)

  pub removed-held : (m : ℕ) → HasNode v.tree.forest m → HasNode new.tree.forest m
  removed-held m there = subst (λ g. HasNode g m) (sym removed-forest) (there_after_cut v.tree.forest n m there)

  pub removed-root : parent_of new.tree.forest n ≡ None
  removed-root = ap (λ g. parent_of g n) removed-forest ∙ parent-cut v.tree.forest h.forest.once n n ∙ (elim (same_or n n) [ same e t ↦ rw t refl | apart ne t ↦ absurd (ne refl) ])

  pub removed-document : (d : ℕ) → is_of_kind Document v.tree.forest d ≡ true → is_of_kind Document new.tree.forest d ≡ true
  removed-document d k = ap (λ g. is_of_kind Document g d) removed-forest ∙ (kind-cut v.tree.forest h.forest.once n (is_kind Document) d ∙ k)

-- a root gets a node document
pub whole-adopted : (v new : World) (n d : ℕ) → IsWhole v → parent_of v.tree.forest n ≡ None → is_of_kind Document v.tree.forest d ≡ true
    → new.tree ≡ record { forest = adopted n d v.tree.forest; made = v.tree.made } → new.ranges ≡ v.ranges → new.statics ≡ v.statics → new.iterators ≡ v.iterators → new.walkers ≡ v.walkers → new.observers ≡ v.observers → IsWhole new
whole-adopted v new n d h root document tree ranges statics iterators walkers observers =
    let f = v.tree.forest in
    let g = adopted n d f in
    let forest : g ≡ new.tree.forest = sym (ap (λ t. t.forest) tree) in
    let keeps : Keeps new (record (unwatched v) { forest = g }) = record {
      forest = forest;
      made = sym (ap (λ t. t.made) tree);
      ranges = sym (ap (λ r. r.ranges) ranges);
      static_ranges = sym statics;
      iterators = sym iterators;
      walkers = sym walkers;
    } in
    let held = statics-kept f g (there-alike (with_tree-alike (in_document d) (λ x. refl) n f)) v.statics h.statics in
    whole-sound new (record (unwatched v) { forest = g }) keeps (sound-adopted n d (unwatched v) (sound-unwatched v h))
    (subst HasOneDocument forest (HasOneDocument-adopted n d f h.forest.once root h.documents))
    (subst HasOwners forest (HasOwners-adopted n d f document h.owners))
    (rw ranges
    (covered-kept v.tree new.tree v.ranges.covered
    (λ m. let z : occurs m new.tree.forest ≡ occurs m f = ap (occurs m) (sym forest) ∙ occurs-alike (with_tree-alike (in_document d) (λ x. refl) n f) m in omega arith) (ap (λ t. t.made) tree) h.covered))
    (rw (forest, sym statics) at held)
    (subst (NamesHeld new.tree.forest) (sym observers)
    (held-kept f new.tree.forest v.observers (λ m there. subst (λ k. HasNode k m) forest (there-alike (with_tree-alike (in_document d) (λ x. refl) n f) m there)) h.observers))

-- a node whose node document it is already
pub follows-staying : (v new : World) (n d told : ℕ) → IsWhole new → Follows v new (remove false n) → IfSome (entry_in new.tree.forest n) (λ e. told ≡ e.value.document) → told ≡ d
    → Follows v new (adopt n d)
follows-staying v new n d told h f document same_document =
    let g = new.tree.forest in
    let here : HasDocument n d g = HasDocument-entry n d g h.forest.once (subst (λ k. IfSome (entry_in g n) (λ e. k ≡ e.value.document)) same_document document) in
    record {
      keeps = λ w k.
          let out = f.keeps w k in
          record {
            forest = ap (adopted n d) out.forest ∙ adopted-same n d g h.documents here;
            made = out.made;
            ranges = out.ranges;
            static_ranges = out.static_ranges;
            iterators = out.iterators;
            walkers = out.walkers;
          };
      watches = λ w k o. f.watches w k o;
    }
