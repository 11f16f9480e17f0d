-- A dialogue, from bytes to bytes: numbers limited.
use Rattle.dom_model.proofs.Dialogues.Exchanges.{◌≡◌, refl, List, codes, [], ◌∷◌, Bounds, whole_table, output_of, Exchange, bytes_given, bytes_due, MissesNothing, computing}

abbrev bounds : Bounds
bounds = record { numbers = 4; line = 1048576 }

abbrev exchanges : List Exchange
exchanges =
    (codes "[\"createText\",0,\"a\"]\n", codes "{\"ok\":1}\n")
    ∷ (codes "[\"createText\",0,\"a\"]\n", codes "{\"ok\":2}\n")
    ∷ (codes "[\"createText\",0,\"a\"]\n", codes "{\"ok\":3}\n")
    ∷ (codes "[\"createText\",0,\"a\"]\n", codes "{\"error\":\"limit\"}\n")
    ∷ (codes "[\"createElement\",0,\"\"]\n", codes "{\"error\":\"limit\"}\n")
    ∷ (codes "[\"createRange\",0]\n", codes "{\"ok\":0}\n")
    ∷ []

pub numbers_limited : output_of whole_table bounds (bytes_given exchanges) ≡ bytes_due exchanges
unfolding computing
numbers_limited = refl

pub numbers_limited-misses_nothing : MissesNothing whole_table bounds (bytes_given exchanges)
unfolding computing
numbers_limited-misses_nothing = record { ends = refl; texts = refl; worlds = refl; contents = refl }
