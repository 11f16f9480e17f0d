-- A dialogue, from bytes to bytes: ends after split.
use Rattle.dom_model.proofs.Dialogues.Exchanges.{◌≡◌, refl, List, codes, [], ◌∷◌, usual_bounds, whole_table, output_of, Exchange, bytes_given, bytes_due, MissesNothing, computing}

abbrev exchanges : List Exchange
exchanges =
    (codes "[\"createElement\",0,\"p\"]\n", codes "{\"ok\":1}\n")
    ∷ (codes "[\"createText\",0,\"abcd\"]\n", codes "{\"ok\":2}\n")
    ∷ (codes "[\"createText\",0,\"e\"]\n", codes "{\"ok\":3}\n")
    ∷ (codes "[\"appendChild\",1,2]\n", codes "{\"ok\":2}\n")
    ∷ (codes "[\"appendChild\",1,3]\n", codes "{\"ok\":3}\n")
    ∷ (codes "[\"createRange\",0]\n", codes "{\"ok\":0}\n")
    ∷ (codes "[\"createRange\",0]\n", codes "{\"ok\":1}\n")
    ∷ (codes "[\"setStart\",0,2,2]\n", codes "{\"ok\":null}\n")
    ∷ (codes "[\"setEnd\",0,2,3]\n", codes "{\"ok\":null}\n")
    ∷ (codes "[\"setStart\",1,1,1]\n", codes "{\"ok\":null}\n")
    ∷ (codes "[\"setEnd\",1,1,2]\n", codes "{\"ok\":null}\n")
    ∷ (codes "[\"splitText\",2,2]\n", codes "{\"ok\":4}\n")
    ∷ (codes "[\"range\",0]\n", codes "{\"ok\":[2,2,4,1]}\n")
    ∷ (codes "[\"range\",1]\n", codes "{\"ok\":[1,2,1,3]}\n")
    ∷ []

pub ends_after_split : output_of whole_table usual_bounds (bytes_given exchanges) ≡ bytes_due exchanges
unfolding computing
ends_after_split = refl

pub ends_after_split-misses_nothing : MissesNothing whole_table usual_bounds (bytes_given exchanges)
unfolding computing
ends_after_split-misses_nothing = record { ends = refl; texts = refl; worlds = refl; contents = refl }
