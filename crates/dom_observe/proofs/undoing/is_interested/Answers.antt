-- Each step goes to the parent, which has fewer ancestors.
use Rattle.std.proofs.Common.{◌≡◌, ℕ, false, true, ◌||◌, List, sym, ◌∙◌, ap, subst}
use Rattle.std.specs.List.{list_any}
use Rattle.dom_model.specs.Definitions.{HasNode, ancestors}
use Rattle.dom_model.proofs.Forests.{Entries.occurs-HasNode, Paths.root-path, Above.above, ToTheRoot.shorter}
use Rattle.dom_tree.specs.Spots.{node_at}
use Rattle.dom_observe.specs.{Names.given_name, Registrations.at, Undoing.hears_under, Undoing.hears_at, Watchers.on}
use Rattle.dom_observe.proofs.ClimbLemmas.{parent-told, begins}
use Rattle.dom_observe.proofs.undoing.is_interested.Goals as goal

pub at-here-requires : goal.at-here-requires
at-here-requires g c = c.requires

pub loop-here-init : goal.loop-here-init
loop-here-init g c =
    let q = c.args.question.now in
    record {
      tree = c.at-here.ensures.tree;
      there = subst (HasNode c.args.tree.now.forest) (sym c.at-here.ensures.node) c.requires;
      rest = ap (λ n. hears_at (at c.args.registrations.now) c.args.registrations.now.lists q.what q.target (given_name q.name) (ancestors n c.args.tree.now.forest) c.args.observer) c.at-here.ensures.node;
    }

pub loop-here-smaller : goal.loop-here-smaller
loop-here-smaller g c =
    let up = parent-told c.loop-here.here c.args.tree.now c.loop-here.invariant.tree c.parent.result c.parent.ensures.node ∙ ap node_at c.in-Some.is in
    shorter c.args.tree.now.forest c.loop-here.here.node c.in-Some.parent.node (above c.state_law.ensures c.loop-here.here.node c.in-Some.parent.node c.loop-here.invariant.there up)

-- what is asked of the node here
pub loop-here-preserved : goal.loop-here-preserved
loop-here-preserved g c =
    let inv = c.loop-here.invariant in
    let q = c.args.question.now in
    let test = hears_under (at c.args.registrations.now) q.what q.target (given_name q.name) c.args.observer in
    let hears = λ (ns : List ℕ). hears_at (at c.args.registrations.now) c.args.registrations.now.lists q.what q.target (given_name q.name) ns c.args.observer in
    let up = parent-told c.loop-here.here c.args.tree.now inv.tree c.parent.result c.parent.ensures.node ∙ ap node_at c.in-Some.is in
    let a = above c.state_law.ensures c.loop-here.here.node c.in-Some.parent.node inv.there up in
    let here : list_any test (on c.loop-here.here.node c.args.registrations.now.lists) ≡ false =
    ap (λ n. list_any test (on n c.args.registrations.now.lists)) (sym c.number.ensures) ∙ ap (list_any test) (sym c.keys_on-keys.ensures) ∙ sym c.is_heard_on.ensures ∙ c.if-is_heard_on.false in
    record {
      tree = c.parent.ensures.tree c.in-Some.parent c.in-Some.is ∙ inv.tree;
      there = a.there;
      rest = sym (ap (λ b. b || hears (ancestors c.in-Some.parent.node c.args.tree.now.forest)) here) ∙ sym (ap hears a.path) ∙ inv.rest;
    }

pub returns-then-is_heard_on : goal.returns-then-is_heard_on
returns-then-is_heard_on g c =
    let inv = c.loop-here.invariant in
    let q = c.args.question.now in
    let test = hears_under (at c.args.registrations.now) q.what q.target (given_name q.name) c.args.observer in
    let hears = λ (ns : List ℕ). hears_at (at c.args.registrations.now) c.args.registrations.now.lists q.what q.target (given_name q.name) ns c.args.observer in
    let first = begins c.state_law.ensures c.loop-here.here.node inv.there in
    let here : list_any test (on c.loop-here.here.node c.args.registrations.now.lists) ≡ true =
    ap (λ n. list_any test (on n c.args.registrations.now.lists)) (sym c.number.ensures) ∙ ap (list_any test) (sym c.keys_on-keys.ensures) ∙ sym c.is_heard_on.ensures ∙ c.if-is_heard_on.true in
    sym (ap (λ b. b || hears first.0) here) ∙ sym (ap hears first.1) ∙ inv.rest

pub returns-in-None : goal.returns-in-None
returns-in-None g c =
    let inv = c.loop-here.invariant in
    let q = c.args.question.now in
    let test = hears_under (at c.args.registrations.now) q.what q.target (given_name q.name) c.args.observer in
    let hears = λ (ns : List ℕ). hears_at (at c.args.registrations.now) c.args.registrations.now.lists q.what q.target (given_name q.name) ns c.args.observer in
    let up = parent-told c.loop-here.here c.args.tree.now inv.tree c.parent.result c.parent.ensures.node ∙ ap node_at c.in-None.is in
    let p = root-path c.args.tree.now.forest c.state_law.ensures.once c.loop-here.here.node (occurs-HasNode c.args.tree.now.forest c.loop-here.here.node inv.there) up in
    let here : list_any test (on c.loop-here.here.node c.args.registrations.now.lists) ≡ false =
    ap (λ n. list_any test (on n c.args.registrations.now.lists)) (sym c.number.ensures) ∙ ap (list_any test) (sym c.keys_on-keys.ensures) ∙ sym c.is_heard_on.ensures ∙ c.if-is_heard_on.false in
    sym (ap (λ b. b || false) here) ∙ sym (ap hears p) ∙ inv.rest
