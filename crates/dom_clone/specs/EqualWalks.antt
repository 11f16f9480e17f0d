-- What a walk meets at a node, and two walks in step. DOM Standard, "Interface Node" (equals).
use Rattle.std.specs.Prelude.{ℕ, ◌==◌, Bool, false, not, ◌&&◌, if◌then◌else◌, Option, Some, None, is_some}
use Rattle.dom_model.specs.PlainLists.Lists.{head_of}
use Rattle.dom_model.specs.Forests.Kinds.{is_kind}
use Rattle.dom_model.specs.Forests.Forest.{Node, Forest, entry_in, children_of, next_of}
use Rattle.dom_model.specs.Worlds.World.{Content, value_of}
use Rattle.dom_model.specs.DataAndCopies.Clones.{agree}

-- a node, whether it has children, and whether siblings follow it inside the tree that is walked
pub record Met : Type 0 where
  pub value : Option (Node Content)
  pub has_child : Bool
  pub has_next : Bool

abbrev pub follows_inside : Forest Content → ℕ → ℕ → Bool
follows_inside f top n = not (n == top) && is_some (next_of f n)

abbrev pub met : Forest Content → ℕ → ℕ → Met
met f top n = record {
  value = value_of (entry_in f n);
  has_child = is_some (head_of (children_of f n));
  has_next = follows_inside f top n;
}

abbrev pub are_both : Bool → Bool → Bool
are_both b c = if b then c else not c

abbrev pub agree_in : Option (Node Content) → Option (Node Content) → Bool
agree_in None y = false
agree_in (Some x) None = false
agree_in (Some x) (Some y) = is_kind x.label.kind y.label.kind && agree x.label.kind x y

abbrev pub are_alike : Met → Met → Bool
are_alike p q = agree_in p.value q.value && (are_both p.has_child q.has_child && are_both p.has_next q.has_next)
