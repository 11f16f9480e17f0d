-- The Texts below the node, each in turn.
use Rattle.std.proofs.Common.{◌<◌, drop, subst, ◌∙◌}
use Rattle.std.proofs.lemmas.Result.{on_ok_weaker}
use Rattle.dom_model.specs.declared.Kind.TheVariants.{Text}
use Rattle.dom_model.specs.Definitions.{hits, inclusive_descendants, is_of_kind}
use Rattle.dom_model.proofs.Soundness.SoundNormalizing.{filter-passed}
use Rattle.dom_model.proofs.Forests.Climbing.{hits-among}
use Rattle.dom_data.proofs.{StandByEditsLemmas.stand-by_normalize, StillBelow.below-tells, TextsBelow.texts-filtered, TextsInTurn.follows-all}
use Rattle.dom_data.proofs.normalization.normalize.Goals as goal

pub normalize_each-requires-clause-kinds : goal.normalize_each-requires-clause-kinds
normalize_each-requires-clause-kinds c = λ n h.
    let f = c.args.world.now.tree.forest in
    let below = drop 1 (inclusive_descendants f c.args.node) in
    let e = c.deref.ensures.value ∙ c.in_ok-texts.ensures ∙ texts-filtered f below in
    (filter-passed (is_of_kind Text f) below n (subst (λ ns. 0 < hits n ns) e h)).0

pub normalize_each-requires-clause-told : goal.normalize_each-requires-clause-told
normalize_each-requires-clause-told c = λ n h.
    let f = c.args.world.now.tree.forest in
    let below = drop 1 (inclusive_descendants f c.args.node) in
    let e = c.deref.ensures.value ∙ c.in_ok-texts.ensures ∙ texts-filtered f below in
    let listed = (filter-passed (is_of_kind Text f) below n (subst (λ ns. 0 < hits n ns) e h)).1 in
    below-tells f c.requires.whole.forest.once c.args.node n (hits-among n below listed)

pub returns-clause-normalized : goal.returns-clause-normalized
returns-clause-normalized c =
    let f = c.args.world.now.tree.forest in
    let below = drop 1 (inclusive_descendants f c.args.node) in
    on_ok_weaker c.normalize_each.result (follows-all c.args.world.now c.normalize_each.new.world c.args.node c.deref.result.now (c.deref.ensures.value ∙ c.in_ok-texts.ensures ∙ texts-filtered f below)) c.normalize_each.ensures.normalized

pub returns-clause-markers : goal.returns-clause-markers
returns-clause-markers c =
    on_ok_weaker c.normalize_each.result (stand-by_normalize c.args.world.now c.normalize_each.new.world c.requires.whole c.normalize_each.ensures.whole c.args.node) (returns-clause-normalized c)
