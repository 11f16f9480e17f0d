use Rattle.std.proofs.Common.{◌≡◌, true, None, sym, is_some}
use Rattle.serde_json.specs.{Find.as_object, View.view}
use Rattle.dom_model.specs.Definitions.{options_in}
use Rattle.dom_wire.proofs.ReadStepLemmas.{options-read, options-none}
use Rattle.dom_wire.proofs.options.options_with.Goals as goal

pub returns-in_err-flag_member-6 : goal.returns-in_err-flag_member-6
returns-in_err-flag_member-6 c =
    let t : is_some (as_object (view c.args.value.now)) ≡ true = cc in
    let none : options_in (view c.args.value.now) ≡ None = options-none (view c.args.value.now) _ _ _ _ _ t (sym c.in_ok-flag_member.ensures) (sym c.in_ok-flag_member-2.ensures) (sym c.in_ok-flag_member-3.ensures)
    (sym c.in_ok-flag_member-4.ensures) (sym c.in_ok-flag_member-5.ensures) (sym c.in_err-flag_member-6.ensures) in
    cc

pub returns : goal.returns
returns c =
    let t : is_some (as_object (view c.args.value.now)) ≡ true = cc in
    sym (options-read (view c.args.value.now) _ _ _ _ _ _ _ t (sym c.in_ok-flag_member.ensures) (sym c.in_ok-flag_member-2.ensures) (sym c.in_ok-flag_member-3.ensures)
    (sym c.in_ok-flag_member-4.ensures) (sym c.in_ok-flag_member-5.ensures) (sym c.in_ok-flag_member-6.ensures) c.requires)
