-- Where references go before a node is removed, in iterators of one root.
use Rattle.std.specs.Prelude.{◌≡◌, ℕ, ◌==◌, true, not, ◌&&◌, if◌then◌else◌}
use Rattle.dom_model.specs.PlainLists.Lists.{among, head_of, before}
use Rattle.dom_model.specs.Forests.Forest.{Forest, inclusive_descendants}
use Rattle.dom_model.specs.Worlds.World.{Iterator}
use Rattle.dom_model.specs.MutationAlgorithms.PreRemoval.{following_outside, moved_on, moved_back}
use Rattle.dom_traverse.specs.declared.new_reference.NewReference.{NewReference}

-- whether the root loses the node, and then what stands inside the root after all of the node, and before it
pub record IsExit {X : Type 0} (f : Forest X) (n : ℕ) (e : NewReference) : Type 0 where
  pub loses : e.loses ≡ (not (n == e.root) && among n (inclusive_descendants f e.root))
  pub following : e.loses ≡ true → e.following ≡ head_of (following_outside n (inclusive_descendants f n) (inclusive_descendants f e.root))
  pub preceding : e.loses ≡ true → e.preceding ≡ before n (inclusive_descendants f e.root)

-- an iterator with its reference inside goes there
abbrev pub gone_by : NewReference → Iterator → Iterator
gone_by e i = if e.loses then (if i.before then moved_on e.following e.preceding i else moved_back e.preceding i) else i
