-- The inclusive descendants of a node, told by ancestors.
use Rattle.std.proofs.Common.{◌≡◌, ℕ, ◌<◌, Bool, true, false, List, refl, sym, ◌∙◌, arith}
use Rattle.dom_model.specs.Definitions.{hits, among, Forest, HasNode, tree_at, ancestors, inclusive_descendants}
use Rattle.dom_model.proofs.Forests.{Totals.IsOnce, Entries.HasNode-occurs, TreeOrder.Flattened.hits-numbers, Climbing.among-hits, Climbing.hits-among, Climbing.not_among-hits, Climbing.hits-not_among, Climbing.hits-ancestors, Below.occurs-tree}

-- two numbers that stand in two lists as often
among-alike : (n m : ℕ) (ns ms : List ℕ) → hits n ns ≡ hits m ms → among n ns ≡ among m ms
among-alike n m ns ms e = go (among m ms) refl
  where
    go : (v : Bool) → among m ms ≡ v → among n ns ≡ among m ms
    go true h = hits-among n ns (let i = among-hits m ms h in omega arith) ∙ sym h
    go false h = hits-not_among n ns (e ∙ not_among-hits m ms h) ∙ sym h

module _ {X : Type 0} (f : Forest X) (o : IsOnce f) where
  -- a node is inside those that are its inclusive ancestors
  pub among-inside : (n c : ℕ) → among n (inclusive_descendants f c) ≡ among c (ancestors n f)
  among-inside n c = among-alike n c (inclusive_descendants f c) (ancestors n f) (hits-numbers n (tree_at c f) ∙ sym (hits-ancestors c n f o))

  pub hits-inside : (n c : ℕ) → 0 < hits n (inclusive_descendants f c) → among c (ancestors n f) ≡ true
  hits-inside n c h = sym (among-inside n c) ∙ hits-among n (inclusive_descendants f c) h

  -- what stands inside a node is there
  pub inside-there : (n c : ℕ) → 0 < hits n (inclusive_descendants f c) → HasNode f n
  inside-there n c h = HasNode-occurs f n (let i = hits-numbers n (tree_at c f) in let j = occurs-tree n c f in omega arith)
