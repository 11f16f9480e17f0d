-- The world of the code once roots have come in under a parent.
use Rattle.std.proofs.Common.{◌≡◌, ℕ, ◌<◌, List, length, Option, refl, ap, sym, ◌∙◌, subst, arith}
use Rattle.dom_model.specs.Definitions.{Forest, Grove, HasNode, Content, put_all, gap_before}
use Rattle.dom_model.specs.Worlds.World as model
use Rattle.dom_model.proofs.Forests.Entries.{HasNode-occurs, occurs-HasNode}
use Rattle.dom_model.proofs.Soundness.{SoundPlacing.sound-put_all, SoundWorlds.statics-kept}
use Rattle.dom_observe.specs.Watchers.{Watches}
use Rattle.dom_observe.proofs.NamesHeldLemmas.{held-kept}
use Rattle.dom_edit.specs.{declared.world.World.World, Whole.IsWhole, Whole.Keeps, Whole.Follows, Whole.unwatched, Insertion.all_placed, Insertion.with_room, Insertion.IsOpen}
use Rattle.dom_edit.proofs.{FollowsLemmas.keeps-unwatched, FollowsLemmas.whole-sound, CoversHeldLemmas.covered-kept, PlacedInLemmas.placed-world, PlacedInLemmas.placed-all}
pub use Rattle.dom_edit.proofs.FollowsLemmas.{sound-unwatched}

-- the world with room made, and the roots in
abbrev pub with_placed : ℕ → Option ℕ → List ℕ → World → World
with_placed parent child nodes v = record v {
  tree = record v.tree { forest = all_placed parent child nodes v.tree.forest };
  ranges = record v.ranges { ranges = with_room v.tree.forest parent child (length nodes) v.ranges.ranges };
}

-- the two steps of the definitions
abbrev pub placing : ℕ → Option ℕ → List ℕ → model.World → model.World
placing parent child nodes w = put_all parent child nodes (gap_before parent child (length nodes) w)

pub follows-placing : (parent : ℕ) (child : Option ℕ) (nodes : List ℕ) (v : World) → Follows v (with_placed parent child nodes v) (placing parent child nodes)
follows-placing parent child nodes v = record {
  keeps = λ w k.
      let e = sym (placed-world parent child nodes w) in
      subst (Keeps (with_placed parent child nodes v)) e (record {
        forest = ap (all_placed parent child nodes) k.forest;
        made = k.made;
        ranges = ap (λ (f : Forest Content). with_room f parent child (length nodes) w.ranges) k.forest ∙ ap (with_room v.tree.forest parent child (length nodes)) k.ranges;
        static_ranges = k.static_ranges;
        iterators = k.iterators;
        walkers = k.walkers;
      });
  watches = λ w k o.
      let e = sym (placed-world parent child nodes w) in
      subst (λ (x : model.World). Watches v.observers x.observing) e o;
}

pub whole-placed : (parent : ℕ) (child : Option ℕ) (nodes : List ℕ) (v : World) → IsWhole v → IsOpen v.tree.forest parent child nodes → IsWhole (with_placed parent child nodes v)
whole-placed parent child nodes v h ready =
    let new = with_placed parent child nodes v in
    let placed = placed-all v.tree h.forest parent child nodes ready (record { documents = h.documents; owners = h.owners }) in
    let there : (m : ℕ) → HasNode v.tree.forest m → HasNode new.tree.forest m = λ m i. HasNode-occurs new.tree.forest m (subst (λ x. 0 < x) (sym (placed.numbers m)) (occurs-HasNode v.tree.forest m i)) in
    whole-sound new (placing parent child nodes (unwatched v)) ((follows-placing parent child nodes v).keeps (unwatched v) (keeps-unwatched v))
    (sound-put_all parent child nodes (unwatched v) (sound-unwatched v h) ready.parent_there ready.placeable ready.before_child)
    placed.owned.documents placed.owned.owners
    (covered-kept v.tree new.tree v.ranges.covered (λ m. let z = placed.numbers m in omega arith) refl h.covered)
    (statics-kept v.tree.forest new.tree.forest there v.statics h.statics)
    (held-kept v.tree.forest new.tree.forest v.observers there h.observers)

-- room is made, and then the tree changes
pub placed-is : (parent : ℕ) (child : Option ℕ) (nodes : List ℕ) (v u : World) (t : Grove Content) →
    u ≡ record v { ranges = record v.ranges { ranges = with_room v.tree.forest parent child (length nodes) v.ranges.ranges } } →
    t ≡ record u.tree { forest = all_placed parent child nodes u.tree.forest } → with_placed parent child nodes v ≡ record u { tree = t }
placed-is parent child nodes v u t e d =
    sym (ap (λ (s : Grove Content). record u { tree = s }) d
    ∙ ap (λ (x : World). record x { tree = record x.tree { forest = all_placed parent child nodes x.tree.forest } }) e)
