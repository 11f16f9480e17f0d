-- What the commands that discard are answered, beside the other replies. Ours.
-- A registration, a record that is not taken, a range, an iterator or a walker may be what refuses a `discard`, so that it is answered
-- otherwise where they are erased. Where each `discard` is answered alike, the laws of erasing hold of lists with `discard` too.
use Rattle.std.specs.Prelude.{if◌then◌else◌, List, [], ◌∷◌}
use Rattle.dom_model.specs.Commands.Command.{Command}
use Rattle.dom_model.specs.Commands.Reply.{Reply}
use Rattle.dom_model.specs.Erasure.Erasing.{discards}

-- the replies to the commands of a list that discard
abbrev pub replies_to_discards : List Command → List Reply → List Reply
replies_to_discards [] rs = []
replies_to_discards (c ∷ cs) [] = []
replies_to_discards (c ∷ cs) (r ∷ rs) = if discards c then r ∷ replies_to_discards cs rs else replies_to_discards cs rs
