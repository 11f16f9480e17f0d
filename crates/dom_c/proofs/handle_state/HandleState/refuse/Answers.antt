use Rattle.std.proofs.Common.{◌≡◌, true, false, refl}
use Rattle.dom_session.proofs.GoingOn.{as_before}
use Rattle.dom_c.specs.Statuses.{not_utf8, bad_lengths, bad_choice}
use Rattle.dom_c.proofs.Spared.{steps-after_end, steps-malformed, steps-spared}
use Rattle.dom_c.proofs.handle_state.HandleState.refuse.Goals as goal

pub returns-then-self : goal.returns-then-self
returns-then-self c r _ =
    let ended : c.args.self.now.ended ≡ true = cc in
    steps-after_end r c.args.self.now ended

pub returns-in-Memory : goal.returns-in-Memory
returns-in-Memory c r _ =
    let on : c.args.self.now.ended ≡ false = cc in
    steps-spared r c.args.self.now c.args.self.now.session on (as_before c.args.self.now.session) refl

pub returns-in-NotUtf8 : goal.returns-in-NotUtf8
returns-in-NotUtf8 c r fault =
    let on : c.args.self.now.ended ≡ false = cc in
    let same = rw c.in-NotUtf8.is at fault in
    rw same (steps-malformed not_utf8 c.args.self.now on)

pub returns-in-BadLengths : goal.returns-in-BadLengths
returns-in-BadLengths c r fault =
    let on : c.args.self.now.ended ≡ false = cc in
    let same = rw c.in-BadLengths.is at fault in
    rw same (steps-malformed bad_lengths c.args.self.now on)

pub returns-in-BadChoice : goal.returns-in-BadChoice
returns-in-BadChoice c r fault =
    let on : c.args.self.now.ended ≡ false = cc in
    let same = rw c.in-BadChoice.is at fault in
    rw same (steps-malformed bad_choice c.args.self.now on)
