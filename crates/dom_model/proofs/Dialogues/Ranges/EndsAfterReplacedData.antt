-- A dialogue, from bytes to bytes: ends after replaced data.
use Rattle.dom_model.proofs.Dialogues.Exchanges.{◌≡◌, refl, List, codes, [], ◌∷◌, usual_bounds, whole_table, output_of, Exchange, bytes_given, bytes_due, MissesNothing, computing}

abbrev exchanges : List Exchange
exchanges =
    (codes "[\"createText\",0,\"abcdefg\"]\n", codes "{\"ok\":1}\n")
    ∷ (codes "[\"createRange\",0]\n", codes "{\"ok\":0}\n")
    ∷ (codes "[\"createRange\",0]\n", codes "{\"ok\":1}\n")
    ∷ (codes "[\"setStart\",0,1,2]\n", codes "{\"ok\":null}\n")
    ∷ (codes "[\"setEnd\",0,1,3]\n", codes "{\"ok\":null}\n")
    ∷ (codes "[\"setStart\",1,1,5]\n", codes "{\"ok\":null}\n")
    ∷ (codes "[\"setEnd\",1,1,6]\n", codes "{\"ok\":null}\n")
    ∷ (codes "[\"replaceData\",1,2,3,\"XY\"]\n", codes "{\"ok\":null}\n")
    ∷ (codes "[\"data\",1]\n", codes "{\"ok\":\"abXYfg\"}\n")
    ∷ (codes "[\"range\",0]\n", codes "{\"ok\":[1,2,1,2]}\n")
    ∷ (codes "[\"range\",1]\n", codes "{\"ok\":[1,2,1,5]}\n")
    ∷ (codes "[\"replaceData\",1,4,4294967295,\"\"]\n", codes "{\"ok\":null}\n")
    ∷ (codes "[\"range\",1]\n", codes "{\"ok\":[1,2,1,4]}\n")
    ∷ (codes "[\"replaceData\",1,4294967295,4294967295,\"\"]\n", codes "{\"error\":\"IndexSizeError\"}\n")
    ∷ []

pub ends_after_replaced_data : output_of whole_table usual_bounds (bytes_given exchanges) ≡ bytes_due exchanges
unfolding computing
ends_after_replaced_data = refl

pub ends_after_replaced_data-misses_nothing : MissesNothing whole_table usual_bounds (bytes_given exchanges)
unfolding computing
ends_after_replaced_data-misses_nothing = record { ends = refl; texts = refl; worlds = refl; contents = refl }
