-- A dialogue, from bytes to bytes: room after discarding.
use Rattle.dom_model.proofs.Dialogues.Exchanges.{◌≡◌, refl, List, codes, [], ◌∷◌, Bounds, whole_table, output_of, Exchange, bytes_given, bytes_due, MissesNothing, computing}

abbrev bounds : Bounds
bounds = record { numbers = 13; line = 1048576 }

abbrev exchanges : List Exchange
exchanges =
    (codes "[\"createText\",0,\"a\"]\n", codes "{\"ok\":1}\n")
    ∷ (codes "[\"cloneNode\",0,false]\n", codes "{\"error\":\"limit\"}\n")
    ∷ (codes "[\"discard\",1]\n", codes "{\"ok\":null}\n")
    ∷ (codes "[\"cloneNode\",0,false]\n", codes "{\"ok\":2}\n")
    ∷ []

pub room_after_discarding : output_of whole_table bounds (bytes_given exchanges) ≡ bytes_due exchanges
unfolding computing
room_after_discarding = refl

pub room_after_discarding-misses_nothing : MissesNothing whole_table bounds (bytes_given exchanges)
unfolding computing
room_after_discarding-misses_nothing = record { ends = refl; texts = refl; worlds = refl; contents = refl }
