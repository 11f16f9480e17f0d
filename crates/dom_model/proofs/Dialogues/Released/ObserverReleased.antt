-- An observer that is released: no command finds it, its number is not given again, what only its registrations and records named can be discarded, and it
-- is neither pending nor told; another observer is told as before. No line can say so.
use Rattle.std.proofs.Common.{◌≡◌, refl, codes, List, [], ◌∷◌, Some, true}
use Rattle.dom_model.specs.Definitions.{no_options, CreateElement, AppendChild, Remove, SetAttribute, CreateObserver, Observe, Disconnect, TakeRecords, Notify, Pending, ReleaseObserver, Discard}
use Rattle.dom_model.proofs.Dialogues.{Exchanges.bytes_due, Released.Replies.Replied, Released.Replies.commands_of, Released.Replies.printed, Released.Replies.printed_replies}

-- the tree is in use by a registration alone
abbrev registered_observer_released_exchanges : List Replied
registered_observer_released_exchanges =
    (CreateElement 0 (codes "p"), codes "{\"ok\":1}\n")
    ∷ (CreateObserver, codes "{\"ok\":0}\n")
    ∷ (Observe 0 1 (record no_options { attributes = Some true }), codes "{\"ok\":null}\n")
    ∷ (Discard 1, codes "{\"error\":\"in-use\"}\n")
    ∷ (ReleaseObserver 0, codes "{\"ok\":null}\n")
    ∷ (Observe 0 1 (record no_options { attributes = Some true }), codes "{\"error\":\"no-such-object\"}\n")
    ∷ (Disconnect 0, codes "{\"error\":\"no-such-object\"}\n")
    ∷ (TakeRecords 0, codes "{\"error\":\"no-such-object\"}\n")
    ∷ (ReleaseObserver 0, codes "{\"error\":\"no-such-object\"}\n")
    ∷ (ReleaseObserver 1, codes "{\"error\":\"no-such-object\"}\n")
    ∷ (Discard 1, codes "{\"ok\":null}\n")
    ∷ (CreateObserver, codes "{\"ok\":1}\n")
    ∷ (TakeRecords 1, codes "{\"ok\":[]}\n")
    ∷ []

pub registered_observer_released : printed_replies (commands_of registered_observer_released_exchanges) ≡ bytes_due registered_observer_released_exchanges
unfolding printed
registered_observer_released = refl

-- a tree is in use by records that were not taken
abbrev observer_with_records_released_exchanges : List Replied
observer_with_records_released_exchanges =
    (CreateElement 0 (codes "p"), codes "{\"ok\":1}\n")
    ∷ (CreateElement 0 (codes "b"), codes "{\"ok\":2}\n")
    ∷ (CreateObserver, codes "{\"ok\":0}\n")
    ∷ (Observe 0 1 (record no_options { child_list = Some true }), codes "{\"ok\":null}\n")
    ∷ (AppendChild 1 2, codes "{\"ok\":2}\n")
    ∷ (Remove 2, codes "{\"ok\":null}\n")
    ∷ (Discard 2, codes "{\"error\":\"in-use\"}\n")
    ∷ (ReleaseObserver 0, codes "{\"ok\":null}\n")
    ∷ (Discard 2, codes "{\"ok\":null}\n")
    ∷ (Discard 1, codes "{\"ok\":null}\n")
    ∷ (Pending, codes "{\"ok\":[]}\n")
    ∷ (Notify, codes "{\"ok\":[]}\n")
    ∷ []

pub observer_with_records_released : printed_replies (commands_of observer_with_records_released_exchanges) ≡ bytes_due observer_with_records_released_exchanges
unfolding printed
observer_with_records_released = refl

-- of two that are pending, with registrations above a node that left and transient ones on it, the first is released
abbrev pending_observer_released_exchanges : List Replied
pending_observer_released_exchanges =
    (CreateElement 0 (codes "p"), codes "{\"ok\":1}\n")
    ∷ (CreateElement 0 (codes "b"), codes "{\"ok\":2}\n")
    ∷ (AppendChild 1 2, codes "{\"ok\":2}\n")
    ∷ (CreateObserver, codes "{\"ok\":0}\n")
    ∷ (CreateObserver, codes "{\"ok\":1}\n")
    ∷ (Observe 0 1 (record no_options { attributes = Some true; subtree = Some true }), codes "{\"ok\":null}\n")
    ∷ (Observe 1 1 (record no_options { attributes = Some true; subtree = Some true }), codes "{\"ok\":null}\n")
    ∷ (SetAttribute 2 (codes "x") (codes "1"), codes "{\"ok\":null}\n")
    ∷ (Pending, codes "{\"ok\":[0,1]}\n")
    ∷ (Remove 2, codes "{\"ok\":null}\n")
    ∷ (ReleaseObserver 0, codes "{\"ok\":null}\n")
    ∷ (Pending, codes "{\"ok\":[1]}\n")
    ∷ (SetAttribute 2 (codes "x") (codes "2"), codes "{\"ok\":null}\n")
    ∷ (Pending, codes "{\"ok\":[1]}\n")
    ∷ (Notify, codes "{\"ok\":[[1,[[\"attributes\",2,[],[],null,null,\"x\",null],[\"attributes\",2,[],[],null,null,\"x\",null]]]]}\n")
    ∷ (Pending, codes "{\"ok\":[]}\n")
    ∷ []

pub pending_observer_released : printed_replies (commands_of pending_observer_released_exchanges) ≡ bytes_due pending_observer_released_exchanges
unfolding printed
pending_observer_released = refl
