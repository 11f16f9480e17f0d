-- Steps after which each node that was held is held, with its label.
use Rattle.std.proofs.Common.{IsSome, ◌≡◌, ℕ, ap, sym, ◌∙◌, subst}
use Rattle.dom_model.specs.Definitions.{Forest, HasNode, entry_in, Content, content_in, label_in}
use Rattle.dom_model.proofs.Forests.Entries.{HasNode-occurs, occurs-HasNode}
use Rattle.dom_model.proofs.Worlds.Measured.{entry-beside}
use Rattle.dom_edit.specs.{declared.world.World.World, KeptNodes.present, KeptNodes.KeepsLabels, OlderNodes.LeavesAll}
use Rattle.dom_edit.proofs.{KeepsNodesLemmas.nodes-none, KeepsWatchersLemmas.watchers-ranged}
use Rattle.dom_content.specs.Paths.{StillHeld}

-- nothing has changed
pub labels-none : (a : World) → KeepsLabels a a
labels-none a = (nodes-none a).labelled

-- what is new stands behind what was there
pub labels-left : (a b : World) → LeavesAll a b → KeepsLabels a b
labels-left a b l =
    let same : (n : ℕ) → HasNode a.tree.forest n → entry_in b.tree.forest n ≡ entry_in a.tree.forest n =
    λ n h. ap (λ (f : Forest Content). entry_in f n) l.forest ∙ entry-beside a.tree.forest l.trees n (occurs-HasNode a.tree.forest n h) in
    record {
      held = λ n h. subst (λ e. IsSome e) (sym (same n h)) h;
      labels = λ n h. ap label_in (same n h);
      attributes = λ n h. ap (λ e. (content_in e).attributes) (same n h);
      statics = l.static_ranges;
      walkers = l.walkers;
      watchers = watchers-ranged a b (ap present l.ranges) l.iterators l.observers;
    }

-- each node that was there is there
pub still-held : (a b : World) → KeepsLabels a b → StillHeld a b
still-held a b k m h = occurs-HasNode b.tree.forest m (k.held m (HasNode-occurs a.tree.forest m h))
