use Rattle.dom_model.specs.Definitions.{Range}
use Rattle.dom_wrap.proofs.AllowCode.{common-held, start-root, end-root}
use Rattle.dom_wrap.proofs.surround_check.is_refused.Goals as goal

pub is_refused_between-requires-clause-held : goal.is_refused_between-requires-clause-held
is_refused_between-requires-clause-held c =
    let range : Range = record { start = c.args.start; end = c.args.end } in
    common-held c.args.world.now c.requires.whole range c.requires.range c.args.common c.requires.common

pub is_refused_between-requires-clause-start_root : goal.is_refused_between-requires-clause-start_root
is_refused_between-requires-clause-start_root c =
    let range : Range = record { start = c.args.start; end = c.args.end } in
    start-root c.args.world.now c.requires.whole range c.requires.range c.args.common c.requires.common

pub is_refused_between-requires-clause-end_root : goal.is_refused_between-requires-clause-end_root
is_refused_between-requires-clause-end_root c =
    let range : Range = record { start = c.args.start; end = c.args.end } in
    end-root c.args.world.now c.requires.whole range c.requires.range c.args.common c.requires.common
