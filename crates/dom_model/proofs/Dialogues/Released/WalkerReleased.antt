-- A walker that is released: no command finds it, its number is not given again, and its root's tree and its current node's can be discarded. No line can
-- say so.
use Rattle.std.proofs.Common.{◌≡◌, refl, codes, List, [], ◌∷◌}
use Rattle.dom_model.specs.Definitions.{CreateElement, AppendChild, CreateWalker, DescribeWalker, SetCurrent, Walk, ReleaseWalker, Discard}
use Rattle.dom_model.specs.declared.Move.TheVariants.{FirstChild, NextNode}
use Rattle.dom_model.proofs.Dialogues.{Exchanges.bytes_due, Released.Replies.Replied, Released.Replies.commands_of, Released.Replies.printed, Released.Replies.printed_replies, Released.Replies.every_node}

-- two trees are in use by the walker alone
abbrev walker_released_exchanges : List Replied
walker_released_exchanges =
    (CreateElement 0 (codes "p"), codes "{\"ok\":1}\n")
    ∷ (CreateElement 0 (codes "b"), codes "{\"ok\":2}\n")
    ∷ (AppendChild 1 2, codes "{\"ok\":2}\n")
    ∷ (CreateElement 0 (codes "i"), codes "{\"ok\":3}\n")
    ∷ (CreateWalker 1 every_node, codes "{\"ok\":0}\n")
    ∷ (Walk 0 FirstChild, codes "{\"ok\":2}\n")
    ∷ (SetCurrent 0 3, codes "{\"ok\":null}\n")
    ∷ (DescribeWalker 0, codes "{\"ok\":[1,3]}\n")
    ∷ (Discard 1, codes "{\"error\":\"in-use\"}\n")
    ∷ (Discard 3, codes "{\"error\":\"in-use\"}\n")
    ∷ (ReleaseWalker 0, codes "{\"ok\":null}\n")
    ∷ (DescribeWalker 0, codes "{\"error\":\"no-such-object\"}\n")
    ∷ (SetCurrent 0 1, codes "{\"error\":\"no-such-object\"}\n")
    ∷ (Walk 0 NextNode, codes "{\"error\":\"no-such-object\"}\n")
    ∷ (ReleaseWalker 0, codes "{\"error\":\"no-such-object\"}\n")
    ∷ (ReleaseWalker 1, codes "{\"error\":\"no-such-object\"}\n")
    ∷ (Discard 1, codes "{\"ok\":null}\n")
    ∷ (Discard 3, codes "{\"ok\":null}\n")
    ∷ (CreateWalker 0 every_node, codes "{\"ok\":1}\n")
    ∷ (DescribeWalker 1, codes "{\"ok\":[0,0]}\n")
    ∷ []

pub walker_released : printed_replies (commands_of walker_released_exchanges) ≡ bytes_due walker_released_exchanges
unfolding printed
walker_released = refl
