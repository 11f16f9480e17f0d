-- An iterator that is released: no command finds it, its number is not given again, and the tree that it walked can be discarded. No line can say so.
use Rattle.std.proofs.Common.{◌≡◌, refl, codes, List, [], ◌∷◌}
use Rattle.dom_model.proofs.Dialogues.{Exchanges.bytes_due, Released.Replies.Replied, Released.Replies.commands_of, Released.Replies.printed, Released.Replies.printed_replies, Released.Replies.every_node}
use Rattle.dom_model.specs.Definitions.{CreateElement, AppendChild, CreateIterator, NextNode, PreviousNode, DescribeIterator, ReleaseIterator, Discard}

-- the tree is in use by the iterator alone
abbrev iterator_released_exchanges : List Replied
iterator_released_exchanges =
    (CreateElement 0 (codes "p"), codes "{\"ok\":1}\n")
    ∷ (CreateElement 0 (codes "b"), codes "{\"ok\":2}\n")
    ∷ (AppendChild 1 2, codes "{\"ok\":2}\n")
    ∷ (CreateIterator 1 every_node, codes "{\"ok\":0}\n")
    ∷ (NextNode 0, codes "{\"ok\":1}\n")
    ∷ (NextNode 0, codes "{\"ok\":2}\n")
    ∷ (Discard 1, codes "{\"error\":\"in-use\"}\n")
    ∷ (ReleaseIterator 0, codes "{\"ok\":null}\n")
    ∷ (DescribeIterator 0, codes "{\"error\":\"no-such-object\"}\n")
    ∷ (NextNode 0, codes "{\"error\":\"no-such-object\"}\n")
    ∷ (PreviousNode 0, codes "{\"error\":\"no-such-object\"}\n")
    ∷ (ReleaseIterator 0, codes "{\"error\":\"no-such-object\"}\n")
    ∷ (ReleaseIterator 1, codes "{\"error\":\"no-such-object\"}\n")
    ∷ (Discard 1, codes "{\"ok\":null}\n")
    ∷ (CreateIterator 0 every_node, codes "{\"ok\":1}\n")
    ∷ (DescribeIterator 1, codes "{\"ok\":[0,0,true]}\n")
    ∷ []

pub iterator_released : printed_replies (commands_of iterator_released_exchanges) ≡ bytes_due iterator_released_exchanges
unfolding printed
iterator_released = refl
