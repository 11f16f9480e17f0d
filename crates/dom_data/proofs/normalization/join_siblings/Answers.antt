-- All data comes in at once, and then one Text after another leaves.
use Rattle.std.proofs.Common.{ℕ, List, length, ap, sym, ◌∙◌, tests, rules}
use Rattle.std.proofs.lemmas.Result.{on_ok_weaker}
use Rattle.dom_data.specs.JoinedTexts.{data_among}
use Rattle.dom_data.proofs.{FollowingTexts.behind-held, JoinedTexts.joinable-mid, JoinedTexts.follows-joined}
use Rattle.dom_data.proofs.normalization.join_siblings.Goals as goal

pub data_among-requires : goal.data_among-requires
data_among-requires c = record {
  held = behind-held c.args.world.now.tree.forest c.args.node c.deref.result.now (c.deref.ensures.value ∙ c.in_ok-texts.ensures);
}

pub take_each_in-requires-clause-joinable : goal.take_each_in-requires-clause-joinable
take_each_in-requires-clause-joinable c =
    let f = c.args.world.now.tree.forest in
    joinable-mid c.args.world.now c.append_units.new.world c.requires.whole c.args.node c.args.parent (length c.data_in-base.result.now) c.deref-2.result.now c.units.result.now c.requires.kind c.requires.child
    (c.deref-2.ensures.value ∙ c.in_ok-texts.ensures)
    (c.units.ensures ∙ c.in_ok-added.ensures ∙ ap (data_among f) (c.deref.ensures.value ∙ sym c.deref-2.ensures.value))
    (ap (λ (units : List ℕ). length units) c.data_in-base.ensures)
    c.in_ok-append_units.ensures.appended c.in_ok-append_units.ensures.whole

pub returns-clause-joined : goal.returns-clause-joined
returns-clause-joined c =
    let f = c.args.world.now.tree.forest in
    on_ok_weaker c.take_each_in.result
    (follows-joined c.args.world.now c.append_units.new.world c.requires.whole c.args.node c.args.parent (length c.data_in-base.result.now) c.deref-2.result.now c.units.result.now c.requires.kind c.requires.child
    (c.deref-2.ensures.value ∙ c.in_ok-texts.ensures)
    (c.units.ensures ∙ c.in_ok-added.ensures ∙ ap (data_among f) (c.deref.ensures.value ∙ sym c.deref-2.ensures.value))
    (ap (λ (units : List ℕ). length units) c.data_in-base.ensures)
    c.in_ok-append_units.ensures.appended c.take_each_in.new.world)
    c.take_each_in.ensures.taken

pub returns-clause-whole : goal.returns-clause-whole
returns-clause-whole c = search (tests, rules)
