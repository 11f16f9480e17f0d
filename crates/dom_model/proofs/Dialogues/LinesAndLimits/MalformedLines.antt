-- A dialogue, from bytes to bytes: malformed lines.
use Rattle.dom_model.proofs.Dialogues.Exchanges.{◌≡◌, refl, List, codes, [], ◌∷◌, usual_bounds, whole_table, output_of, Exchange, bytes_given, bytes_due, MissesNothing, computing}

abbrev exchanges : List Exchange
exchanges =
    (codes "[\"data\",0,]\n", codes "{\"error\":\"bad-json\"}\n")
    ∷ (codes "{}\n", codes "{\"error\":\"bad-command\"}\n")
    ∷ (codes "[\"nosuch\"]\n", codes "{\"error\":\"bad-command\"}\n")
    ∷ (codes "[\"tree\"]\n", codes "{\"error\":\"bad-arguments\"}\n")
    ∷ (codes "[\"tree\",-1]\n", codes "{\"error\":\"bad-arguments\"}\n")
    ∷ (codes "[\"tree\",4294967296]\n", codes "{\"error\":\"bad-arguments\"}\n")
    ∷ (codes "[\"createElement\",7,5]\n", codes "{\"error\":\"bad-arguments\"}\n")
    ∷ (codes "[\"tree\",7]\n", codes "{\"error\":\"no-such-object\"}\n")
    ∷ (codes "[\"data\",0]\n", codes "{\"error\":\"TypeError\"}\n")
    ∷ (codes "[\"createElement\",0,\"\"]\n", codes "{\"error\":\"InvalidCharacterError\"}\n")
    ∷ []

pub malformed_lines : output_of whole_table usual_bounds (bytes_given exchanges) ≡ bytes_due exchanges
unfolding computing
malformed_lines = refl

pub malformed_lines-misses_nothing : MissesNothing whole_table usual_bounds (bytes_given exchanges)
unfolding computing
malformed_lines-misses_nothing = record { ends = refl; texts = refl; worlds = refl; contents = refl }
