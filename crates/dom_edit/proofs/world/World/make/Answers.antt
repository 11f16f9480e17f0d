use Rattle.std.proofs.Common.{unwrap_or, ◌≡◌, ◌+◌, refl, ap, ◌∙◌, tests, rules}
use Rattle.dom_ranges.specs.Tables.{covered_to}
use Rattle.dom_observe.proofs.ResultLemmas.{by_outcome}
use Rattle.dom_edit.specs.{declared.world.World.World, KeptNodes.present}
use Rattle.dom_edit.proofs.{MakeLemmas.follows-made, MakeLemmas.whole-made, MakeLemmas.whole-covered, CallerLemmas.labels-made, KeepsNodesLemmas.nodes-same, KeepsWatchersLemmas.watchers-ranged}
use Rattle.dom_edit.proofs.world.World.make.Goals as goal

pub returns-clause-whole : goal.returns-clause-whole
returns-clause-whole c =
    let v = c.args.self.now in
    let new : World = record { tree = c.make.new.self; ranges = c.cover.new.self; statics = v.statics; iterators = v.iterators; walkers = v.walkers; observers = v.observers } in
    let ranges = ap (λ r. r.ranges) c.in_ok-cover.ensures.ok in
    let covered : c.cover.new.self.covered ≡ covered_to (v.tree.made + 1) v.ranges.covered = ap (λ r. r.covered) c.in_ok-cover.ensures.ok ∙ ap (λ m. covered_to (m + 1) v.ranges.covered) c.made.ensures in
    by_outcome c.make.result c.make.ensures.made c.make.ensures.unchanged c.make.ensures.unchanged
    (λ made. whole-made v new c.args.document c.args.label c.args.content c.requires.whole c.requires.document_kind c.requires.own_document
    (follows-made v new c.args.document c.args.label c.args.content made ranges refl refl refl refl) covered refl)
    (λ same again. whole-covered v new (v.tree.made + 1) c.requires.whole same ranges covered refl refl refl refl)

pub returns-clause-number : goal.returns-clause-number
returns-clause-number c = search (tests, rules)

pub returns-clause-made : goal.returns-clause-made
returns-clause-made c = search (tests, rules)

pub returns-clause-labelled : goal.returns-clause-labelled
returns-clause-labelled c =
    let v = c.args.self.now in
    let new : World = record { tree = c.make.new.self; ranges = c.cover.new.self; statics = v.statics; iterators = v.iterators; walkers = v.walkers; observers = v.observers } in
    let ranges = ap (λ r. r.ranges) c.in_ok-cover.ensures.ok in
    let watchers = watchers-ranged v new (ap (λ rs. present rs) ranges) refl refl in
    by_outcome c.make.result c.make.ensures.made c.make.ensures.unchanged c.make.ensures.unchanged
    (λ made. labels-made v new (unwrap_or c.args.document v.tree.made) c.args.label c.args.content (follows-made v new c.args.document c.args.label c.args.content made ranges refl refl refl refl) watchers)
    (λ same again. (nodes-same v new same refl refl watchers).labelled)

pub returns-clause-parts : goal.returns-clause-parts
returns-clause-parts c = refl
