-- A way up from a node, step by step.
use Rattle.std.proofs.Common.{◌≡◌, ℕ, true, Option, Some, None, refl, subst}
use Rattle.dom_model.specs.Definitions.{among, Grove, HasNode, parent_of, ancestors, root_of, IsForest}
use Rattle.dom_model.proofs.Forests.{Climbing.hits-among, Climbing.among-hits, Indices.parent-there, Paths.parent-path, Entries.occurs-HasNode, Entries.HasNode-occurs, WaysMeeting.above-itself, WaysMeeting.above-child, WaysMeeting.above-root}
use Rattle.dom_tree.specs.PathsUp.{CameThrough, IsOnWay}
use Rattle.dom_tree.proofs.TreeOrder.{among-through, among-parent}

module _ {X : Type 0} {g : Grove X} (s : IsForest g) where
  pub way-start : (n : ℕ) → HasNode g.forest n → IsOnWay g.forest n n None
  way-start n h = record { above = hits-among n (ancestors n g.forest) (above-itself g.forest s.once n (occurs-HasNode g.forest n h)); through = refl }

  -- where a way has come to is there
  pub way-held : (n top : ℕ) (child : Option ℕ) → HasNode g.forest n → IsOnWay g.forest n top child → HasNode g.forest top
  way-held n top None h w = subst (λ m. HasNode g.forest m) w.through h
  way-held n top (Some c) h w =
      let hc = parent-there g.forest c top w.through.0 in
      HasNode-occurs g.forest top (parent-path g.forest s.once c top hc w.through.0).0

  pub way-up : (n top q : ℕ) (child : Option ℕ) → HasNode g.forest n → IsOnWay g.forest n top child → parent_of g.forest top ≡ Some q → IsOnWay g.forest n q (Some top)
  way-up n top q child h w e =
      let hn = occurs-HasNode g.forest n h in
      record {
        above = hits-among q (ancestors n g.forest) (above-child g.forest s.once top q n hn (parent-there g.forest top q e) (among-hits top (ancestors n g.forest) w.above) e);
        through = (e, w.above);
      }

  pub way-root : (n top : ℕ) (child : Option ℕ) → HasNode g.forest n → IsOnWay g.forest n top child → root_of g.forest top ≡ root_of g.forest n
  way-root n top child h w =
      above-root g.forest s.once top n (occurs-HasNode g.forest n h) (occurs-HasNode g.forest top (way-held n top child h w)) (among-hits top (ancestors n g.forest) w.above)

  -- a way goes on from where it has come to
  pub way-on : (n m top c : ℕ) → among m (ancestors n g.forest) ≡ true → CameThrough g.forest m top (Some c) → IsOnWay g.forest n top (Some c)
  way-on n m top c a t =
      let i = among-through s c m n a t.1 in
      let hc = HasNode-occurs g.forest c (parent-there g.forest c top t.0) in
      record { above = among-through s top c n i (among-parent s c top hc t.0); through = (t.0, i) }
