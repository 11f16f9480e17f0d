-- A dialogue, from bytes to bytes: blank line.
use Rattle.dom_model.proofs.Dialogues.Exchanges.{◌≡◌, refl, List, codes, [], ◌∷◌, usual_bounds, whole_table, output_of, Exchange, bytes_given, bytes_due, MissesNothing, computing}

abbrev exchanges : List Exchange
exchanges =
    (codes "\n", codes "{\"error\":\"bad-json\"}\n")
    ∷ []

pub blank_line : output_of whole_table usual_bounds (bytes_given exchanges) ≡ bytes_due exchanges
unfolding computing
blank_line = refl

pub blank_line-misses_nothing : MissesNothing whole_table usual_bounds (bytes_given exchanges)
unfolding computing
blank_line-misses_nothing = record { ends = refl; texts = refl; worlds = refl; contents = refl }
