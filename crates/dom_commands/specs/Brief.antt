-- A reply whose answer is small, as one of all replies.
use Rattle.dom_commands.specs.declared.brief.Brief.{Brief}
use Rattle.dom_commands.specs.declared.reply.Reply.{Reply}
use Rattle.dom_commands.specs.declared.reply.Reply.TheVariants as reply

abbrev pub reply_of : Brief → Reply
reply_of b = reply.Brief b
