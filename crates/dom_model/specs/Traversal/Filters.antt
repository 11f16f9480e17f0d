-- What a filter says of a node. DOM Standard, "Traversal", to filter a node; "Interface NodeFilter".
-- Ours: a filter is no callback but a list of names with a verdict each; the first name that is the nodeName, or `*`, decides.
use Rattle.std.specs.Prelude.{ℕ, ◌-◌, ◌/◌, ◌%◌, ◌^◌, ◌==◌, Bool, true, false, ◌||◌, if◌then◌else◌, List, [], ◌∷◌, Option, Some, None, codes, bytes_eq}
use Rattle.dom_model.specs.declared.Kind.{Kind}
use Rattle.dom_model.specs.declared.Verdict.{Verdict}
use Rattle.dom_model.specs.declared.Verdict.TheVariants.{Accept, Skip, Reject}
use Rattle.dom_model.specs.Forests.Kinds.{Label, number_of_kind, node_name}
use Rattle.dom_model.specs.Forests.Arena.{Entry}
use Rattle.dom_model.specs.Forests.Forest.{Node, Forest, entry_in}
use Rattle.dom_model.specs.Worlds.World.{FilterRule, Filter}

-- the bit of whatToShow for nodes of the kind: bit nodeType - 1
abbrev pub shows : ℕ → Kind → Bool
shows show kind = show / 2 ^ (number_of_kind kind - 1) % 2 == 1

abbrev pub is_rule_for : List ℕ → FilterRule → Bool
is_rule_for name r = bytes_eq r.name name || bytes_eq r.name (codes "*")

-- the first rule for the name decides; where there is none, the node is accepted
abbrev pub ruled : List FilterRule → List ℕ → Verdict
ruled [] name = Accept
ruled (r ∷ rs) name = if is_rule_for name r then r.verdict else ruled rs name

-- what the filter says of a node with this label
abbrev pub judged : Filter → Label → Verdict
judged filter label = if shows filter.show label.kind then ruled filter.rules (node_name label) else Skip

abbrev pub is_accept : Verdict → Bool
is_accept Accept = true
is_accept Skip = false
is_accept Reject = false

abbrev pub is_reject : Verdict → Bool
is_reject Accept = false
is_reject Skip = false
is_reject Reject = true

module _ {X : Type 0} where
  abbrev pub judged_entry : Filter → Option (Entry (Node X)) → Verdict
  judged_entry filter None = Skip
  judged_entry filter (Some e) = judged filter e.value.label

  -- what the filter says of a node of the forest
  abbrev pub verdict_on : Forest X → Filter → ℕ → Verdict
  verdict_on f filter n = judged_entry filter (entry_in f n)

  abbrev pub accepts : Forest X → Filter → ℕ → Bool
  accepts f filter n = is_accept (verdict_on f filter n)

  abbrev pub rejects : Forest X → Filter → ℕ → Bool
  rejects f filter n = is_reject (verdict_on f filter n)
