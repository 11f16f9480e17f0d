-- Observers that are told in turn: the pending ones are taken, and then each is told, with what it has by then; who was disconnected or released meanwhile
-- has nothing, or is not there. What waits for one that was taken waits on through a notify. No line can say so.
use Rattle.std.proofs.Common.{◌≡◌, refl, codes, List, [], ◌∷◌, Some, true}
use Rattle.dom_model.specs.Definitions.{no_options, CreateElement, AppendChild, Remove, SetAttribute, CreateObserver, Observe, Disconnect, TakeRecords, Notify, Pending, ReleaseObserver, TakePending, TellObserver}
use Rattle.dom_model.proofs.Dialogues.{Exchanges.bytes_due, Released.Replies.Replied, Released.Replies.commands_of, Released.Replies.printed, Released.Replies.printed_replies}

-- two with transient registrations: the first is told, and its own end; the second hears one change more, and is disconnected before its turn
abbrev disconnected_before_its_turn_exchanges : List Replied
disconnected_before_its_turn_exchanges =
    (CreateElement 0 (codes "p"), codes "{\"ok\":1}\n")
    ∷ (CreateElement 0 (codes "b"), codes "{\"ok\":2}\n")
    ∷ (AppendChild 1 2, codes "{\"ok\":2}\n")
    ∷ (CreateObserver, codes "{\"ok\":0}\n")
    ∷ (CreateObserver, codes "{\"ok\":1}\n")
    ∷ (Observe 0 1 (record no_options { attributes = Some true; subtree = Some true }), codes "{\"ok\":null}\n")
    ∷ (Observe 1 1 (record no_options { attributes = Some true; subtree = Some true }), codes "{\"ok\":null}\n")
    ∷ (Remove 2, codes "{\"ok\":null}\n")
    ∷ (SetAttribute 2 (codes "x") (codes "1"), codes "{\"ok\":null}\n")
    ∷ (TakePending, codes "{\"ok\":[0,1]}\n")
    ∷ (Pending, codes "{\"ok\":[]}\n")
    ∷ (TellObserver 0, codes "{\"ok\":[[\"attributes\",2,[],[],null,null,\"x\",null]]}\n")
    ∷ (SetAttribute 2 (codes "x") (codes "2"), codes "{\"ok\":null}\n")
    ∷ (Pending, codes "{\"ok\":[1]}\n")
    ∷ (Disconnect 1, codes "{\"ok\":null}\n")
    ∷ (TellObserver 1, codes "{\"ok\":[]}\n")
    ∷ (SetAttribute 2 (codes "x") (codes "3"), codes "{\"ok\":null}\n")
    ∷ (SetAttribute 1 (codes "x") (codes "4"), codes "{\"ok\":null}\n")
    ∷ (TakePending, codes "{\"ok\":[1,0]}\n")
    ∷ (TellObserver 1, codes "{\"ok\":[]}\n")
    ∷ (TellObserver 0, codes "{\"ok\":[[\"attributes\",1,[],[],null,null,\"x\",null]]}\n")
    ∷ (TakePending, codes "{\"ok\":[]}\n")
    ∷ []

pub disconnected_before_its_turn : printed_replies (commands_of disconnected_before_its_turn_exchanges) ≡ bytes_due disconnected_before_its_turn_exchanges
unfolding printed
disconnected_before_its_turn = refl

-- one whose records were taken before its turn, one whose records wait through a notify, and one that was released
abbrev waiting_for_its_turn_exchanges : List Replied
waiting_for_its_turn_exchanges =
    (CreateElement 0 (codes "p"), codes "{\"ok\":1}\n")
    ∷ (CreateObserver, codes "{\"ok\":0}\n")
    ∷ (CreateObserver, codes "{\"ok\":1}\n")
    ∷ (CreateObserver, codes "{\"ok\":2}\n")
    ∷ (Observe 0 1 (record no_options { attributes = Some true }), codes "{\"ok\":null}\n")
    ∷ (Observe 1 1 (record no_options { attributes = Some true }), codes "{\"ok\":null}\n")
    ∷ (Observe 2 1 (record no_options { attributes = Some true }), codes "{\"ok\":null}\n")
    ∷ (SetAttribute 1 (codes "x") (codes "1"), codes "{\"ok\":null}\n")
    ∷ (TakePending, codes "{\"ok\":[0,1,2]}\n")
    ∷ (TakeRecords 0, codes "{\"ok\":[[\"attributes\",1,[],[],null,null,\"x\",null]]}\n")
    ∷ (TellObserver 0, codes "{\"ok\":[]}\n")
    ∷ (Notify, codes "{\"ok\":[]}\n")
    ∷ (TellObserver 1, codes "{\"ok\":[[\"attributes\",1,[],[],null,null,\"x\",null]]}\n")
    ∷ (TellObserver 1, codes "{\"ok\":[]}\n")
    ∷ (ReleaseObserver 2, codes "{\"ok\":null}\n")
    ∷ (TellObserver 2, codes "{\"error\":\"no-such-object\"}\n")
    ∷ (TellObserver 3, codes "{\"error\":\"no-such-object\"}\n")
    ∷ []

pub waiting_for_its_turn : printed_replies (commands_of waiting_for_its_turn_exchanges) ≡ bytes_due waiting_for_its_turn_exchanges
unfolding printed
waiting_for_its_turn = refl
