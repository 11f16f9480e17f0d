-- A dialogue, from bytes to bytes: nodes limited.
use Rattle.dom_model.proofs.Dialogues.Exchanges.{◌≡◌, refl, List, codes, [], ◌∷◌, Bounds, whole_table, output_of, Exchange, bytes_given, bytes_due, MissesNothing, computing}

abbrev bounds : Bounds
bounds = record { numbers = 4; line = 1048576 }

abbrev exchanges : List Exchange
exchanges =
    (codes "[\"createText\",0,\"a\"]\n", codes "{\"ok\":1}\n")
    ∷ (codes "[\"createText\",0,\"a\"]\n", codes "{\"ok\":2}\n")
    ∷ (codes "[\"createText\",0,\"a\"]\n", codes "{\"ok\":3}\n")
    ∷ (codes "[\"createText\",0,\"a\"]\n", codes "{\"error\":\"limit\"}\n")
    ∷ (codes "[\"createElement\",0,\"\"]\n", codes "{\"error\":\"limit\"}\n")
    ∷ (codes "[\"newDocument\"]\n", codes "{\"error\":\"limit\"}\n")
    ∷ (codes "[\"createText\",1,\"a\"]\n", codes "{\"error\":\"TypeError\"}\n")
    ∷ (codes "[\"tree\",3]\n", codes "{\"ok\":[[0,3,3,\"#text\",\"a\"]]}\n")
    ∷ []

pub nodes_limited : output_of whole_table bounds (bytes_given exchanges) ≡ bytes_due exchanges
unfolding computing
nodes_limited = refl

pub nodes_limited-misses_nothing : MissesNothing whole_table bounds (bytes_given exchanges)
unfolding computing
nodes_limited-misses_nothing = record { ends = refl; texts = refl; worlds = refl; contents = refl }
