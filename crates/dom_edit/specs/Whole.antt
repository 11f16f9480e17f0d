-- What the code keeps of a world, and the worlds that it stands for.
-- DOM Standard, "Nodes", "Live ranges", "Interface NodeIterator", "Interface TreeWalker", "Mutation observers".
use Rattle.std.specs.Prelude.{◌≡◌, ℕ, ◌<◌, ◌≤◌, Bool, true, List, [], length, Option, All, IfSome}
use Rattle.dom_model.specs.Forests.Forest.{Grove, HasNode, IsForest}
use Rattle.dom_model.specs.Forests.Documents.{HasOneDocument}
use Rattle.dom_model.specs.Worlds.World.{Content, Range, Iterator, Walker}
use Rattle.dom_model.specs.Worlds.World as model
use Rattle.dom_model.specs.Soundness.Sound.{IsRange, IsIterator, IsWalker, IsSound}
pub use Rattle.dom_model.specs.Soundness.Sound.{AreHeld}
use Rattle.dom_model.specs.Soundness.Owners.{HasOwners}
use Rattle.dom_ranges.specs.Tables.{covers, covered_to}
use Rattle.dom_observe.specs.ObservedNodes.{NamesHeld}
use Rattle.dom_observe.specs.Watchers.{Watches}
use Rattle.dom_edit.specs.declared.world.World.{World}

-- each held node is covered, and of the numbers that are still to be given out none was forgotten
pub record CoversHeld (g : Grove Content) (covered : List Bool) : Type 0 where
  pub held : (n : ℕ) → HasNode g.forest n → covers covered n ≡ true
  pub ahead : (n : ℕ) → g.made ≤ n → n < length covered → covers covered n ≡ true

-- what holds of a world of the code at every time, also where memory was wanting half-way; of queues no more than that what they name is there
pub record IsWhole (v : World) : Type 0 where
  pub forest : IsForest v.tree
  pub documents : HasOneDocument v.tree.forest
  pub owners : HasOwners v.tree.forest
  pub covered : CoversHeld v.tree v.ranges.covered
  pub ranges : All (λ (r : Option Range). IfSome r (IsRange v.tree.forest)) v.ranges.ranges
  pub statics : All (λ (r : Option Range). IfSome r (AreHeld v.tree.forest)) v.statics
  pub iterators : All (λ (i : Option Iterator). IfSome i (IsIterator v.tree.forest)) v.iterators
  pub walkers : All (λ (k : Option Walker). IfSome k (IsWalker v.tree.forest)) v.walkers
  pub observers : NamesHeld v.tree.forest v.observers

-- nobody observes a node
abbrev pub IsUnobserved : World → Type 0
IsUnobserved v = v.observers.nodes ≡ []

-- all parts but those that watch are the world's
pub record Keeps (v : World) (w : model.World) : Type 0 where
  pub forest : w.forest ≡ v.tree.forest
  pub made : w.made ≡ v.tree.made
  pub ranges : w.ranges ≡ v.ranges.ranges
  pub static_ranges : w.static_ranges ≡ v.statics
  pub iterators : w.iterators ≡ v.iterators
  pub walkers : w.walkers ≡ v.walkers

-- nothing has changed, but that more of the numbers ahead may be covered
pub record CoversAhead (old new : World) : Type 0 where
  pub made : ℕ
  pub is : new ≡ record old { ranges = record old.ranges { covered = covered_to made old.ranges.covered } }

-- the code's world stands for the definitions'
pub record Shows (v : World) (w : model.World) : Type 0 where
  pub keeps : Keeps v w
  pub watched : Watches v.observers w.observing
  pub sound : IsSound w
  pub whole : IsWhole v

-- there is a world that it stands for
pub record IsShown (v : World) : Type 0 where
  pub stands_for : model.World
  pub shows : Shows v stands_for

-- From one world of the code to another as a step of the definitions goes: whatever the old one keeps and watches, the new one keeps and
-- watches what the step makes of it.
pub record Follows (old new : World) (step : model.World → model.World) : Type 0 where
  pub keeps : (w : model.World) → Keeps old w → Keeps new (step w)
  pub watches : (w : model.World) → Keeps old w → Watches old.observers w.observing → Watches new.observers (step w).observing

-- the half of it that speaks of all parts but those that watch
abbrev pub Moves : World → World → (model.World → model.World) → Type 0
Moves old new step = (w : model.World) → Keeps old w → Keeps new (step w)

-- the world with the same parts, in which nobody watches
abbrev pub unwatched : World → model.World
unwatched v = record {
  forest = v.tree.forest;
  made = v.tree.made;
  ranges = v.ranges.ranges;
  iterators = v.iterators;
  walkers = v.walkers;
  observing = record { registrations = []; mutations = []; places = []; notified = 0 };
  static_ranges = v.statics;
}
