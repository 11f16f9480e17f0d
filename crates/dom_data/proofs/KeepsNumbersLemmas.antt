-- Steps after which each node that was held is held, with its label and its attributes.
use Rattle.std.proofs.Common.{◌≡◌, ℕ, ◌==◌, Bool, true, false, if◌then◌else◌, List, Option, Some, None, refl, ap, ◌∙◌}
use Rattle.dom_model.specs.Definitions.{Entry, Node, Forest, Grove, entry_in, with_node, Content, Point, map_ranges, with_data}
use Rattle.dom_model.proofs.Forests.Changes.{change_at}
use Rattle.dom_model.proofs.MutationAlgorithms.Extending.{tag_in, tag_at}
use Rattle.dom_model.proofs.Worlds.Measured.{entry-with_node}
use Rattle.dom_ranges.specs.Tables.{RangeTable}
use Rattle.dom_edit.specs.{declared.world.World.World, KeptNodes.present, KeptNodes.KeepsWatchers, KeptNodes.KeepsNodes}
use Rattle.dom_edit.proofs.{KeepsLabelsLemmas.labelled-there, KeepsNodesLemmas.labels-then, KeepsNodesLemmas.nodes-then, KeepsNodesLemmas.nodes-same, KeepsNodesLemmas.nodes-none, KeepsNodesLemmas.nodes-ranged, KeepsWatchersLemmas.present-moved}
use Rattle.dom_data.specs.KeptNumbers.{KeepsNumbers}

pub numbers-kept : (a b : World) → KeepsNodes a b → KeepsNumbers a b
numbers-kept a b k = record { labelled = k.labelled; made = k.made }

pub numbers-then : (a b c : World) → KeepsNumbers a b → KeepsNumbers b c → KeepsNumbers a c
numbers-then a b c f s = record { labelled = labels-then a b c f.labelled s.labelled; made = s.made ∙ f.made }

-- the tree is as it was
pub numbers-same : (a b : World) → b.tree ≡ a.tree → b.statics ≡ a.statics → b.walkers ≡ a.walkers → KeepsWatchers a b → KeepsNumbers a b
numbers-same a b e statics walkers watchers = numbers-kept a b (nodes-same a b e statics walkers watchers)

pub numbers-none : (a : World) → KeepsNumbers a a
numbers-none a = numbers-kept a a (nodes-none a)

-- ends of live ranges move, and then come steps that keep nodes
pub numbers-merged : (a : World) (table : RangeTable) (c : World) (move : Point → Point) → table ≡ record a.ranges { ranges = map_ranges move a.ranges.ranges } → KeepsNodes (record a { ranges = table }) c → KeepsNumbers a c
numbers-merged a table c move e k =
    let moved = ap (λ (t : RangeTable). present t.ranges) e ∙ present-moved move a.ranges.ranges in
    numbers-kept a c (nodes-then a (record a { ranges = table }) c (nodes-ranged a table moved) k)

-- other data: each node has its label and its attributes
pub tag-with_data : (f : Forest Content) (n : ℕ) (text : List ℕ) (m : ℕ) → tag_at (with_node n (with_data text) f) m ≡ tag_at f m
tag-with_data f n text m = ap tag_in (entry-with_node (with_data text) (λ x. refl) n m None f) ∙ go (entry_in f m)
  where
    either : (v : Bool) (e : Entry (Node Content)) → tag_in (Some (record e { value = if v then with_data text e.value else e.value })) ≡ tag_in (Some e)
    either true e = refl
    either false e = refl

    go : (e : Option (Entry (Node Content))) → tag_in (change_at (with_data text) n m e) ≡ tag_in e
    go None = refl
    go (Some e) = either (m == n) e

pub numbers-replaced : (a b : World) (n : ℕ) (text : List ℕ) → b.tree ≡ record a.tree { forest = with_node n (with_data text) a.tree.forest } → b.statics ≡ a.statics → b.walkers ≡ a.walkers → KeepsWatchers a b → KeepsNumbers a b
numbers-replaced a b n text e statics walkers watchers =
    let same : (m : ℕ) → tag_at b.tree.forest m ≡ tag_at a.tree.forest m = λ m. ap (λ (t : Grove Content). tag_at t.forest m) e ∙ tag-with_data a.tree.forest n text m in
    record {
      labelled = record {
        held = λ m h. labelled-there (entry_in b.tree.forest m) (entry_in a.tree.forest m) (ap (λ t. t.0) (same m)) h;
        labels = λ m h. ap (λ t. t.0) (same m);
        attributes = λ m h. ap (λ t. t.1) (same m);
        statics = statics;
        walkers = walkers;
        watchers = watchers;
      };
      made = ap (λ (t : Grove Content). t.made) e;
    }
