-- The rules of a filter, found by name.
use Rattle.std.specs.Prelude.{◌≡◌, ℕ, List, String, unwrap_or}
use Rattle.std.specs.BTreeMap.{BTreeMap, get_by_text}
use Rattle.dom_model.specs.declared.Verdict.{Verdict}
use Rattle.dom_model.specs.Worlds.World.{FilterRule}
use Rattle.dom_model.specs.Traversal.Filters.{ruled}

module _ {Y : Type 0} where
  -- the verdict on a name: the one that is known of it, or else that on all others
  abbrev pub known_or : BTreeMap (String Y) Verdict → Verdict → List ℕ → Verdict
  known_or verdicts others name = unwrap_or (get_by_text verdicts name) others

  -- on each name it is that of the rules
  abbrev pub AreRulesByName : List FilterRule → BTreeMap (String Y) Verdict → Verdict → Type 0
  AreRulesByName rules verdicts others = (name : List ℕ) → ruled rules name ≡ known_or verdicts others name
