-- A dialogue, from bytes to bytes: split past the end.
use Rattle.dom_model.proofs.Dialogues.Exchanges.{◌≡◌, refl, List, codes, [], ◌∷◌, usual_bounds, whole_table, output_of, Exchange, bytes_given, bytes_due, MissesNothing, computing}

abbrev exchanges : List Exchange
exchanges =
    (codes "[\"createText\",0,\"ab\"]\n", codes "{\"ok\":1}\n")
    ∷ (codes "[\"splitText\",1,2]\n", codes "{\"ok\":2}\n")
    ∷ (codes "[\"data\",2]\n", codes "{\"ok\":\"\"}\n")
    ∷ (codes "[\"splitText\",1,3]\n", codes "{\"error\":\"IndexSizeError\"}\n")
    ∷ (codes "[\"createText\",0,\"\"]\n", codes "{\"ok\":3}\n")
    ∷ []

pub split_past_the_end : output_of whole_table usual_bounds (bytes_given exchanges) ≡ bytes_due exchanges
unfolding computing
split_past_the_end = refl

pub split_past_the_end-misses_nothing : MissesNothing whole_table usual_bounds (bytes_given exchanges)
unfolding computing
split_past_the_end-misses_nothing = record { ends = refl; texts = refl; worlds = refl; contents = refl }
