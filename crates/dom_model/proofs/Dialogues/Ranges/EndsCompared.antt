-- A dialogue, from bytes to bytes: ends compared.
use Rattle.dom_model.proofs.Dialogues.Exchanges.{◌≡◌, refl, List, codes, [], ◌∷◌, usual_bounds, whole_table, output_of, Exchange, bytes_given, bytes_due, MissesNothing, computing}

abbrev exchanges : List Exchange
exchanges =
    (codes "[\"createText\",0,\"abcd\"]\n", codes "{\"ok\":1}\n")
    ∷ (codes "[\"createRange\",0]\n", codes "{\"ok\":0}\n")
    ∷ (codes "[\"createRange\",0]\n", codes "{\"ok\":1}\n")
    ∷ (codes "[\"setStart\",0,1,1]\n", codes "{\"ok\":null}\n")
    ∷ (codes "[\"setEnd\",0,1,2]\n", codes "{\"ok\":null}\n")
    ∷ (codes "[\"setStart\",1,1,2]\n", codes "{\"ok\":null}\n")
    ∷ (codes "[\"setEnd\",1,1,3]\n", codes "{\"ok\":null}\n")
    ∷ (codes "[\"compareBoundaryPoints\",0,0,1]\n", codes "{\"ok\":-1}\n")
    ∷ (codes "[\"compareBoundaryPoints\",0,1,1]\n", codes "{\"ok\":0}\n")
    ∷ (codes "[\"compareBoundaryPoints\",0,2,1]\n", codes "{\"ok\":-1}\n")
    ∷ (codes "[\"compareBoundaryPoints\",0,3,1]\n", codes "{\"ok\":-1}\n")
    ∷ (codes "[\"compareBoundaryPoints\",1,0,0]\n", codes "{\"ok\":1}\n")
    ∷ (codes "[\"compareBoundaryPoints\",1,1,0]\n", codes "{\"ok\":1}\n")
    ∷ (codes "[\"compareBoundaryPoints\",1,2,0]\n", codes "{\"ok\":1}\n")
    ∷ (codes "[\"compareBoundaryPoints\",1,3,0]\n", codes "{\"ok\":0}\n")
    ∷ (codes "[\"setStart\",0,1,4]\n", codes "{\"ok\":null}\n")
    ∷ (codes "[\"range\",0]\n", codes "{\"ok\":[1,4,1,4]}\n")
    ∷ (codes "[\"setEnd\",1,1,1]\n", codes "{\"ok\":null}\n")
    ∷ (codes "[\"range\",1]\n", codes "{\"ok\":[1,1,1,1]}\n")
    ∷ (codes "[\"comparePoint\",1,1,0]\n", codes "{\"ok\":-1}\n")
    ∷ (codes "[\"comparePoint\",1,1,1]\n", codes "{\"ok\":0}\n")
    ∷ (codes "[\"comparePoint\",1,1,2]\n", codes "{\"ok\":1}\n")
    ∷ (codes "[\"comparePoint\",1,1,5]\n", codes "{\"error\":\"IndexSizeError\"}\n")
    ∷ (codes "[\"comparePoint\",1,0,0]\n", codes "{\"error\":\"WrongDocumentError\"}\n")
    ∷ []

pub ends_compared : output_of whole_table usual_bounds (bytes_given exchanges) ≡ bytes_due exchanges
unfolding computing
ends_compared = refl

pub ends_compared-misses_nothing : MissesNothing whole_table usual_bounds (bytes_given exchanges)
unfolding computing
ends_compared-misses_nothing = record { ends = refl; texts = refl; worlds = refl; contents = refl }
