use Rattle.std.proofs.Common.{◌∙◌}
use Rattle.dom_wire.proofs.ReadStepLemmas.{line_of_tokens}
use Rattle.dom_wire.proofs.reply_printer.write_reply.Goals as goal

pub returns : goal.returns
returns c =
    c.in_ok-push.ensures.items
    ∙ line_of_tokens _ _ _ _ _ c.into_inner-line.ensures.items (c.write_object.ensures.before ∙ c.new-writer.ensures.before ∙ c.in_ok-with_capacity.ensures.items)
    c.in_ok-write_object.ensures.tokens c.new-writer.ensures.tokens
