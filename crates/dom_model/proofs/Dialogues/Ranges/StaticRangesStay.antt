-- A dialogue, from bytes to bytes: static ranges stay.
use Rattle.dom_model.proofs.Dialogues.Exchanges.{◌≡◌, refl, List, codes, [], ◌∷◌, usual_bounds, whole_table, output_of, Exchange, bytes_given, bytes_due, MissesNothing, computing}

abbrev exchanges : List Exchange
exchanges =
    (codes "[\"createElement\",0,\"p\"]\n", codes "{\"ok\":1}\n")
    ∷ (codes "[\"createText\",0,\"ab\"]\n", codes "{\"ok\":2}\n")
    ∷ (codes "[\"appendChild\",1,2]\n", codes "{\"ok\":2}\n")
    ∷ (codes "[\"createStaticRange\",2,1,1,1]\n", codes "{\"ok\":0}\n")
    ∷ (codes "[\"staticRange\",0]\n", codes "{\"ok\":[2,1,1,1,true]}\n")
    ∷ (codes "[\"deleteData\",2,0,2]\n", codes "{\"ok\":null}\n")
    ∷ (codes "[\"staticRange\",0]\n", codes "{\"ok\":[2,1,1,1,false]}\n")
    ∷ (codes "[\"appendData\",2,\"cd\"]\n", codes "{\"ok\":null}\n")
    ∷ (codes "[\"staticRange\",0]\n", codes "{\"ok\":[2,1,1,1,true]}\n")
    ∷ (codes "[\"createStaticRange\",1,4294967295,2,0]\n", codes "{\"ok\":1}\n")
    ∷ (codes "[\"staticRange\",1]\n", codes "{\"ok\":[1,4294967295,2,0,false]}\n")
    ∷ (codes "[\"createDoctype\",0,\"d\",\"\",\"\"]\n", codes "{\"ok\":3}\n")
    ∷ (codes "[\"createStaticRange\",1,0,3,0]\n", codes "{\"error\":\"InvalidNodeTypeError\"}\n")
    ∷ (codes "[\"createStaticRange\",1,0,1,0]\n", codes "{\"ok\":2}\n")
    ∷ (codes "[\"remove\",2]\n", codes "{\"ok\":null}\n")
    ∷ (codes "[\"staticRange\",0]\n", codes "{\"ok\":[2,1,1,1,false]}\n")
    ∷ (codes "[\"discard\",2]\n", codes "{\"error\":\"in-use\"}\n")
    ∷ []

pub static_ranges_stay : output_of whole_table usual_bounds (bytes_given exchanges) ≡ bytes_due exchanges
unfolding computing
static_ranges_stay = refl

pub static_ranges_stay-misses_nothing : MissesNothing whole_table usual_bounds (bytes_given exchanges)
unfolding computing
static_ranges_stay-misses_nothing = record { ends = refl; texts = refl; worlds = refl; contents = refl }
