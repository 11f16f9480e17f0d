use Rattle.std.proofs.Common.{◌≡◌, true, arith, rules, ◌∙◌, is_some, is_ok}
use Rattle.std.proofs.lemmas.Grind.{common_steps}
use Rattle.dom_model.specs.Definitions.{entry_in, root_of, unit_count, check_point}
use Rattle.dom_ranges.specs.Tables.{result_of_check}
use Rattle.edit_cases.proofs.{LiveRanges.range-checked, LiveRanges.range-in, WholeWorlds.whole-ranged}
use Rattle.edit_cases.proofs.contents.range_made.Goals as goal

pub make-requires-clause-in_order : goal.make-requires-clause-in_order
make-requires-clause-in_order g c =
    let f = c.args.world.now.tree.forest in
    let a_held : is_some (entry_in f c.args.start.node) ≡ true = search rules in
    let b_held : is_some (entry_in f c.args.end.node) ≡ true = search rules in
    let a_ok : is_ok (result_of_check (check_point unit_count f c.args.start)) ≡ true = cc in
    let b_ok : is_ok (result_of_check (check_point unit_count f c.args.end)) ≡ true = cc in
    let one_root : root_of f c.args.start.node ≡ root_of f c.args.end.node = grind (arith, common_steps) in
    range-in f (record { start = c.args.start; end = c.args.end }) (range-checked f c.args.start c.args.end a_held b_held a_ok b_ok one_root (λ e. let k = rw (c.order.ensures ∙ e) at c.ne.ensures in absurd (cc k)))

pub returns : goal.returns
returns g c =
    let f = c.args.world.now.tree.forest in
    let a_held : is_some (entry_in f c.args.start.node) ≡ true = search rules in
    let b_held : is_some (entry_in f c.args.end.node) ≡ true = search rules in
    let a_ok : is_ok (result_of_check (check_point unit_count f c.args.start)) ≡ true = cc in
    let b_ok : is_ok (result_of_check (check_point unit_count f c.args.end)) ≡ true = cc in
    let one_root : root_of f c.args.start.node ≡ root_of f c.args.end.node = grind (arith, common_steps) in
    let live = range-checked f c.args.start c.args.end a_held b_held a_ok b_ok one_root (λ e. let k = rw (c.order.ensures ∙ e) at c.ne.ensures in absurd (cc k)) in
    whole-ranged c.args.world.now c.requires (record { start = c.args.start; end = c.args.end }) live c.make.result c.make.new.self c.make.ensures.made c.make.ensures.unchanged
