use Rattle.dom_model.specs.Definitions.{whole_table}
use Rattle.dom_model.proofs.Commands.ReplyLines.{length-whole_lines-output_of, last_piece-output_of}
use Rattle.dom_serve.proofs.laws.each_line_has_one_reply.Goals as goal

pub returns-clause-one_each : goal.returns-clause-one_each
returns-clause-one_each c = length-whole_lines-output_of whole_table

pub returns-clause-nothing_more : goal.returns-clause-nothing_more
returns-clause-nothing_more c = last_piece-output_of whole_table
