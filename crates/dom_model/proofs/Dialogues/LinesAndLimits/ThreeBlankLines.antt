-- A dialogue, from bytes to bytes: three blank lines.
use Rattle.dom_model.proofs.Dialogues.Exchanges.{◌≡◌, refl, List, codes, [], ◌∷◌, usual_bounds, whole_table, output_of, Exchange, bytes_given, bytes_due, MissesNothing, computing}

abbrev exchanges : List Exchange
exchanges =
    (codes "\n", codes "{\"error\":\"bad-json\"}\n")
    ∷ (codes "\n", codes "{\"error\":\"bad-json\"}\n")
    ∷ (codes "\n", codes "{\"error\":\"bad-json\"}\n")
    ∷ []

pub three_blank_lines : output_of whole_table usual_bounds (bytes_given exchanges) ≡ bytes_due exchanges
unfolding computing
three_blank_lines = refl

pub three_blank_lines-misses_nothing : MissesNothing whole_table usual_bounds (bytes_given exchanges)
unfolding computing
three_blank_lines-misses_nothing = record { ends = refl; texts = refl; worlds = refl; contents = refl }
