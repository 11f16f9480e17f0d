use Rattle.dom_model.specs.Definitions.{command_of_json}
use Rattle.dom_model.specs.{Commands.Table.whole_table, Commands.Line.command_of}
use Rattle.dom_wire.proofs.ReadStepLemmas.{json_of-text, json_of-none}
use Rattle.dom_wire.proofs.command_reader.read_line.Goals as goal
use Rattle.std.proofs.Common.{ap, sym, true≢false}

pub returns-in-Ok : goal.returns-in-Ok
unfolding command_of
returns-in-Ok c = rw (json_of-text c.args.line.now _ c.in-Ok.ensures.ok.0 c.in-Ok.ensures.ok.1) c.command_in.ensures

pub returns-else-is_memory : goal.returns-else-is_memory
unfolding command_of
returns-else-is_memory c = ap (command_of_json whole_table) (json_of-none c.args.line.now (c.in-Err.ensures.err (λ memory. true≢false (sym (c.if-is_memory.ensures.1 memory)))))
