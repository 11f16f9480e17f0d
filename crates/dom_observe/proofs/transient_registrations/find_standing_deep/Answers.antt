-- Each step goes to the parent, which has fewer ancestors.
use Rattle.std.proofs.Common.{ℕ, sym, ◌∙◌, ap, subst, filter, append-nil, ◌++◌, [], flat_map}
use Rattle.dom_model.specs.Definitions.{HasNode, ancestors}
use Rattle.dom_model.proofs.Forests.{Entries.occurs-HasNode, Paths.root-path, Above.above, ToTheRoot.shorter}
use Rattle.dom_tree.specs.Spots.{node_at}
use Rattle.dom_observe.specs.{Watchers.on, Registrations.at, Registrations.deep_at}
use Rattle.dom_observe.proofs.{ClimbLemmas.parent-told, RegistrationTableLemmas.climbed}
use Rattle.dom_observe.proofs.transient_registrations.find_standing_deep.Goals as goal

pub at-here-requires : goal.at-here-requires
at-here-requires g c = c.requires

pub loop-here-init : goal.loop-here-init
loop-here-init g c =
    let has = λ (n : ℕ). filter (deep_at (at c.args.registrations.now)) (on n c.args.registrations.now.lists) in
    record {
      tree = c.at-here.ensures.tree;
      there = subst (HasNode c.args.tree.now.forest) (sym c.at-here.ensures.node) c.requires;
      so_far = ap (λ ks. ks ++ flat_map has (ancestors c.at-here.result.node c.args.tree.now.forest)) c.clear.ensures.items ∙ ap (λ m. flat_map has (ancestors m c.args.tree.now.forest)) c.at-here.ensures.node;
    }

pub loop-here-smaller : goal.loop-here-smaller
loop-here-smaller g c =
    let up = parent-told c.loop-here.here c.args.tree.now c.loop-here.invariant.tree c.parent.result c.parent.ensures.node ∙ ap node_at c.in-Some.is in
    shorter c.args.tree.now.forest c.loop-here.here.node c.in-Some.parent.node (above c.state_law.ensures c.loop-here.here.node c.in-Some.parent.node c.loop-here.invariant.there up)

pub loop-here-preserved : goal.loop-here-preserved
loop-here-preserved g c =
    let inv = c.loop-here.invariant in
    let up = parent-told c.loop-here.here c.args.tree.now inv.tree c.parent.result c.parent.ensures.node ∙ ap node_at c.in-Some.is in
    let a = above c.state_law.ensures c.loop-here.here.node c.in-Some.parent.node inv.there up in
    let deep = filter (deep_at (at c.args.registrations.now)) in
    record {
      tree = c.parent.ensures.tree c.in-Some.parent c.in-Some.is ∙ inv.tree;
      there = a.there;
      so_far = climbed (λ n. deep (on n c.args.registrations.now.lists)) c.loop-here.keys.items (deep c.keys_on.result.now) c.push_deep.new.keys.items _ c.loop-here.here.node (ancestors c.in-Some.parent.node c.args.tree.now.forest)
          (ancestors c.loop-here.here.node c.args.tree.now.forest) a.path (ap deep (c.keys_on.ensures ∙ ap (λ n. on n c.args.registrations.now.lists) c.number.ensures)) c.in_ok-push_deep.ensures inv.so_far;
    }

pub returns-in-None : goal.returns-in-None
returns-in-None g c =
    let inv = c.loop-here.invariant in
    let up = parent-told c.loop-here.here c.args.tree.now inv.tree c.parent.result c.parent.ensures.node ∙ ap node_at c.in-None.is in
    let p = root-path c.args.tree.now.forest c.state_law.ensures.once c.loop-here.here.node (occurs-HasNode c.args.tree.now.forest c.loop-here.here.node inv.there) up in
    let deep = filter (deep_at (at c.args.registrations.now)) in
    sym (append-nil c.push_deep.new.keys.items)
    ∙ climbed (λ n. deep (on n c.args.registrations.now.lists)) c.loop-here.keys.items (deep c.keys_on.result.now) c.push_deep.new.keys.items _ c.loop-here.here.node []
    (ancestors c.loop-here.here.node c.args.tree.now.forest) p (ap deep (c.keys_on.ensures ∙ ap (λ n. on n c.args.registrations.now.lists) c.number.ensures)) c.in_ok-push_deep.ensures inv.so_far
