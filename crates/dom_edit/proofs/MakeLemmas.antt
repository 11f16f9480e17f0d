-- A node is made: what follows, and that the world stays whole.
use Rattle.std.proofs.Common.{unwrap_or, IsSome, [], ◌≡◌, ◌+◌, ◌==◌, ℕ, true, false, Option, Some, None, refl, ap, sym, ◌∙◌, subst, arith}
use Rattle.std.specs.Option.{ForSome}
use Rattle.std.proofs.lemmas.Bool.{ne_eqb}
use Rattle.dom_model.specs.declared.Kind.TheVariants.{Document}
use Rattle.dom_model.specs.Definitions.{or_else, Label, is_kind, Forest, Node, empty, node, one_at, occurs, beside, entry_under, HasNode, HasOneDocument, Content, made_node, entry_has, is_of_kind, IsOwned, HasOwners}
use Rattle.dom_model.proofs.PlainLists.Numbers.{same_or, same, apart}
use Rattle.dom_model.proofs.Forests.{Entries.entry_under-absent, Entries.occurs-HasNode, Totals.total-beside, Documents.HasOneDocument-new_root}
use Rattle.dom_model.proofs.Worlds.{Measured.entry-joined, Measured.entry-beside, Measured.kind-beside, Owners.HasOwners-new_root, Owners.kind-there}
use Rattle.dom_model.proofs.Soundness.{SoundMaking.sound-made_node, SoundWorlds.statics-kept}
use Rattle.dom_ranges.specs.Tables.{covered_to}
use Rattle.dom_observe.specs.{ObservedNodes.NamesHeld, Watchers.Watches}
use Rattle.dom_observe.proofs.NamesHeldLemmas.{held-kept}
use Rattle.dom_edit.specs.{declared.world.World.World, Whole.CoversHeld, Whole.IsWhole, Whole.Follows, Whole.unwatched}
use Rattle.dom_edit.proofs.{FollowsLemmas.keeps-unwatched, FollowsLemmas.whole-sound, CoversHeldLemmas.covered-more, CoversHeldLemmas.covered-made, RemoveLemmas.sound-unwatched}

abbrev pub new_node : ℕ → Option ℕ → Label → Content → Node Content
new_node made document label body = record { number = made; document = unwrap_or document made; label = label; body = body }

root-entry : (x : Node Content) → entry_under None x.number (node x empty empty) ≡ Some (record { value = x; parent = None; children = [] })
root-entry x = elim (same_or x.number x.number) [ same e t ↦ rw t refl | apart ne t ↦ absurd (ne refl) ]

-- its node document is a Document: the one that is given, or itself
owned-new : (f : Forest Content) (made : ℕ) (document : Option ℕ) (label : Label) (body : Content) → occurs made f ≡ 0 → ForSome document (λ d. is_of_kind Document f d ≡ true) → (document ≡ None → is_kind Document label.kind ≡ true)
    → IsOwned (beside f (node (new_node made document label body) empty empty)) (new_node made document label body)
owned-new f made None label body absent given own =
    let x = new_node made None label body in
    let told = entry_under-absent None made f absent in
    let joined = entry-joined None made f (node x empty empty) ∙ ap (λ o. or_else o (entry_under None made (node x empty empty))) told in
    ap (entry_has (is_kind Document)) (joined ∙ root-entry x) ∙ own refl
owned-new f made (Some d) label body absent given own =
    let x = new_node made (Some d) label body in
    kind-beside f (node x empty empty) d (kind-there f d (given d refl)) (is_kind Document) ∙ given d refl

pub follows-made : (v new : World) (document : Option ℕ) (label : Label) (body : Content)
    → new.tree ≡ record { forest = beside v.tree.forest (node (new_node v.tree.made document label body) empty empty); made = v.tree.made + 1 }
    → new.ranges.ranges ≡ v.ranges.ranges → new.statics ≡ v.statics → new.iterators ≡ v.iterators → new.walkers ≡ v.walkers → new.observers ≡ v.observers
    → Follows v new (made_node (unwrap_or document v.tree.made) label body)
follows-made v new document label body tree ranges statics iterators walkers observers = record {
  keeps = λ w k. record {
    forest = rw (k.forest, k.made) (sym (ap (λ t. t.forest) tree));
    made = rw k.made (sym (ap (λ t. t.made) tree));
    ranges = k.ranges ∙ sym ranges;
    static_ranges = k.static_ranges ∙ sym statics;
    iterators = k.iterators ∙ sym iterators;
    walkers = k.walkers ∙ sym walkers;
  };
  watches = λ w k o. subst (λ b. Watches b w.observing) (sym observers) o;
}

pub whole-made : (v new : World) (document : Option ℕ) (label : Label) (body : Content) → IsWhole v → ForSome document (λ d. is_of_kind Document v.tree.forest d ≡ true)
    → (document ≡ None → is_kind Document label.kind ≡ true) → Follows v new (made_node (unwrap_or document v.tree.made) label body) → new.ranges.covered ≡ covered_to (v.tree.made + 1) v.ranges.covered → new.observers ≡ v.observers → IsWhole new
whole-made v new document label body h given own follows covered observers =
    let f = v.tree.forest in
    let x = new_node v.tree.made document label body in
    let k = follows.keeps (unwatched v) (keeps-unwatched v) in
    let owned = owned-new f v.tree.made document label body (h.forest.small v.tree.made (omega arith)) given own in
    let there : (n : ℕ) → HasNode f n → HasNode (beside f (node x empty empty)) n = λ n held. subst (λ e. IsSome e) (sym (entry-beside f (node x empty empty) n (occurs-HasNode f n held))) held in
    let held = statics-kept f (beside f (node x empty empty)) there v.statics h.statics in
    let made = k.made in
    whole-sound new (made_node (unwrap_or document v.tree.made) label body (unwatched v)) k
    (sound-made_node (unwrap_or document v.tree.made) label body (unwatched v) (sound-unwatched v h))
    (subst HasOneDocument k.forest (HasOneDocument-new_root f x h.documents))
    (subst HasOwners k.forest (HasOwners-new_root f x owned h.owners))
    (subst (CoversHeld new.tree) (sym covered)
    (covered-made v.tree new.tree v.ranges.covered (v.tree.made + 1)
    (λ m before.
    let z : occurs m new.tree.forest ≡ occurs m (beside f (node x empty empty)) = ap (occurs m) (sym k.forest) in
    let t = total-beside (one_at m) f (node x empty empty) in
    let u : (v.tree.made == m) ≡ false = ne_eqb v.tree.made m (λ q. omega arith) in
    let o : occurs m (node x empty empty) ≡ 0 = rw u refl in
    omega arith)
    (λ m past.
    let s = sound-made_node (unwrap_or document v.tree.made) label body (unwatched v) (sound-unwatched v h) in
    let z : occurs m new.tree.forest ≡ occurs m (beside f (node x empty empty)) = ap (occurs m) (sym k.forest) in
    z ∙ s.forest.small m (omega arith))
    refl (sym made) h.covered))
    (rw (k.forest, k.static_ranges) at held)
    (subst (NamesHeld new.tree.forest) (sym observers)
    (held-kept f new.tree.forest v.observers (λ n here. subst (λ g. HasNode g n) k.forest (there n here)) h.observers))

-- more nodes are covered
pub whole-covered : (v new : World) (made : ℕ) → IsWhole v → new.tree ≡ v.tree → new.ranges.ranges ≡ v.ranges.ranges → new.ranges.covered ≡ covered_to made v.ranges.covered → new.statics ≡ v.statics → new.iterators ≡ v.iterators → new.walkers ≡ v.walkers → new.observers ≡ v.observers → IsWhole new
whole-covered v new made h tree ranges covered statics iterators walkers observers = record {
  forest = rw tree h.forest;
  documents = rw tree h.documents;
  owners = rw tree h.owners;
  covered = rw (tree, covered) (covered-more v.tree v.ranges.covered made h.covered);
  ranges = rw (tree, ranges) h.ranges;
  statics = rw (tree, statics) h.statics;
  iterators = rw (tree, iterators) h.iterators;
  walkers = rw (tree, walkers) h.walkers;
  observers = rw (tree, observers) h.observers;
}
