-- A dialogue, from bytes to bytes: ends at joined texts.
use Rattle.dom_model.proofs.Dialogues.Exchanges.{◌≡◌, refl, List, codes, [], ◌∷◌, usual_bounds, whole_table, output_of, Exchange, bytes_given, bytes_due, MissesNothing, computing}

abbrev exchanges : List Exchange
exchanges =
    (codes "[\"createElement\",0,\"p\"]\n", codes "{\"ok\":1}\n")
    ∷ (codes "[\"createText\",0,\"a\"]\n", codes "{\"ok\":2}\n")
    ∷ (codes "[\"createText\",0,\"bc\"]\n", codes "{\"ok\":3}\n")
    ∷ (codes "[\"createText\",0,\"\"]\n", codes "{\"ok\":4}\n")
    ∷ (codes "[\"createText\",0,\"d\"]\n", codes "{\"ok\":5}\n")
    ∷ (codes "[\"appendChild\",1,2]\n", codes "{\"ok\":2}\n")
    ∷ (codes "[\"appendChild\",1,3]\n", codes "{\"ok\":3}\n")
    ∷ (codes "[\"appendChild\",1,4]\n", codes "{\"ok\":4}\n")
    ∷ (codes "[\"appendChild\",1,5]\n", codes "{\"ok\":5}\n")
    ∷ (codes "[\"createRange\",0]\n", codes "{\"ok\":0}\n")
    ∷ (codes "[\"createRange\",0]\n", codes "{\"ok\":1}\n")
    ∷ (codes "[\"createRange\",0]\n", codes "{\"ok\":2}\n")
    ∷ (codes "[\"setStart\",0,1,1]\n", codes "{\"ok\":null}\n")
    ∷ (codes "[\"setEnd\",0,3,1]\n", codes "{\"ok\":null}\n")
    ∷ (codes "[\"setStart\",1,1,3]\n", codes "{\"ok\":null}\n")
    ∷ (codes "[\"setEnd\",1,1,4]\n", codes "{\"ok\":null}\n")
    ∷ (codes "[\"setStart\",2,2,1]\n", codes "{\"ok\":null}\n")
    ∷ (codes "[\"setEnd\",2,5,0]\n", codes "{\"ok\":null}\n")
    ∷ (codes "[\"normalize\",1]\n", codes "{\"ok\":null}\n")
    ∷ (codes "[\"children\",1]\n", codes "{\"ok\":[2]}\n")
    ∷ (codes "[\"data\",2]\n", codes "{\"ok\":\"abcd\"}\n")
    ∷ (codes "[\"range\",0]\n", codes "{\"ok\":[2,1,2,2]}\n")
    ∷ (codes "[\"range\",1]\n", codes "{\"ok\":[2,3,1,1]}\n")
    ∷ (codes "[\"range\",2]\n", codes "{\"ok\":[2,1,2,3]}\n")
    ∷ []

pub ends_at_joined_texts : output_of whole_table usual_bounds (bytes_given exchanges) ≡ bytes_due exchanges
unfolding computing
ends_at_joined_texts = refl

pub ends_at_joined_texts-misses_nothing : MissesNothing whole_table usual_bounds (bytes_given exchanges)
unfolding computing
ends_at_joined_texts-misses_nothing = record { ends = refl; texts = refl; worlds = refl; contents = refl }
