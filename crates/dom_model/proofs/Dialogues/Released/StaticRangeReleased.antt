-- A static range that is released: no command finds it, its number is not given again, and the tree of its nodes can be discarded. No line can say so.
use Rattle.std.proofs.Common.{◌≡◌, refl, codes, List, [], ◌∷◌}
use Rattle.dom_model.proofs.Dialogues.{Exchanges.bytes_due, Released.Replies.Replied, Released.Replies.commands_of, Released.Replies.printed, Released.Replies.printed_replies}
use Rattle.dom_model.specs.Definitions.{CreateElement, CreateStaticRange, DescribeStaticRange, ReleaseStaticRange, Discard}

-- the tree is in use by the static range alone
abbrev static_range_released_exchanges : List Replied
static_range_released_exchanges =
    (CreateElement 0 (codes "p"), codes "{\"ok\":1}\n")
    ∷ (CreateStaticRange (record { node = 1; offset = 0 }) (record { node = 1; offset = 0 }), codes "{\"ok\":0}\n")
    ∷ (DescribeStaticRange 0, codes "{\"ok\":[1,0,1,0,true]}\n")
    ∷ (Discard 1, codes "{\"error\":\"in-use\"}\n")
    ∷ (ReleaseStaticRange 0, codes "{\"ok\":null}\n")
    ∷ (DescribeStaticRange 0, codes "{\"error\":\"no-such-object\"}\n")
    ∷ (ReleaseStaticRange 0, codes "{\"error\":\"no-such-object\"}\n")
    ∷ (ReleaseStaticRange 1, codes "{\"error\":\"no-such-object\"}\n")
    ∷ (Discard 1, codes "{\"ok\":null}\n")
    ∷ (CreateStaticRange (record { node = 0; offset = 0 }) (record { node = 0; offset = 0 }), codes "{\"ok\":1}\n")
    ∷ (DescribeStaticRange 1, codes "{\"ok\":[0,0,0,0,true]}\n")
    ∷ []

pub static_range_released : printed_replies (commands_of static_range_released_exchanges) ≡ bytes_due static_range_released_exchanges
unfolding printed
static_range_released = refl
