-- A dialogue, from bytes to bytes: texts surrounded.
use Rattle.dom_model.proofs.Dialogues.Exchanges.{◌≡◌, refl, List, codes, [], ◌∷◌, usual_bounds, whole_table, output_of, Exchange, bytes_given, bytes_due, MissesNothing, computing}

abbrev exchanges : List Exchange
exchanges =
    (codes "[\"createElement\",0,\"p\"]\n", codes "{\"ok\":1}\n")
    ∷ (codes "[\"createText\",0,\"ab\"]\n", codes "{\"ok\":2}\n")
    ∷ (codes "[\"createElement\",0,\"b\"]\n", codes "{\"ok\":3}\n")
    ∷ (codes "[\"createText\",0,\"cd\"]\n", codes "{\"ok\":4}\n")
    ∷ (codes "[\"createElement\",0,\"w\"]\n", codes "{\"ok\":5}\n")
    ∷ (codes "[\"createText\",0,\"old\"]\n", codes "{\"ok\":6}\n")
    ∷ (codes "[\"appendChild\",1,2]\n", codes "{\"ok\":2}\n")
    ∷ (codes "[\"appendChild\",1,3]\n", codes "{\"ok\":3}\n")
    ∷ (codes "[\"appendChild\",1,4]\n", codes "{\"ok\":4}\n")
    ∷ (codes "[\"appendChild\",5,6]\n", codes "{\"ok\":6}\n")
    ∷ (codes "[\"createRange\",0]\n", codes "{\"ok\":0}\n")
    ∷ (codes "[\"setStart\",0,2,1]\n", codes "{\"ok\":null}\n")
    ∷ (codes "[\"setEnd\",0,4,1]\n", codes "{\"ok\":null}\n")
    ∷ (codes "[\"surroundContents\",0,5]\n", codes "{\"ok\":null}\n")
    ∷ (codes "[\"children\",1]\n", codes "{\"ok\":[2,5,4]}\n")
    ∷ (codes "[\"children\",5]\n", codes "{\"ok\":[8,3,9]}\n")
    ∷ (codes "[\"data\",2]\n", codes "{\"ok\":\"a\"}\n")
    ∷ (codes "[\"data\",8]\n", codes "{\"ok\":\"b\"}\n")
    ∷ (codes "[\"data\",9]\n", codes "{\"ok\":\"c\"}\n")
    ∷ (codes "[\"data\",4]\n", codes "{\"ok\":\"d\"}\n")
    ∷ (codes "[\"range\",0]\n", codes "{\"ok\":[1,1,1,2]}\n")
    ∷ (codes "[\"root\",6]\n", codes "{\"ok\":6}\n")
    ∷ (codes "[\"children\",7]\n", codes "{\"ok\":[]}\n")
    ∷ (codes "[\"setStart\",0,3,0]\n", codes "{\"ok\":null}\n")
    ∷ (codes "[\"setEnd\",0,9,1]\n", codes "{\"ok\":null}\n")
    ∷ (codes "[\"surroundContents\",0,6]\n", codes "{\"error\":\"InvalidStateError\"}\n")
    ∷ (codes "[\"createText\",0,\"\"]\n", codes "{\"ok\":10}\n")
    ∷ []

pub texts_surrounded : output_of whole_table usual_bounds (bytes_given exchanges) ≡ bytes_due exchanges
unfolding computing
texts_surrounded = refl

pub texts_surrounded-misses_nothing : MissesNothing whole_table usual_bounds (bytes_given exchanges)
unfolding computing
texts_surrounded-misses_nothing = record { ends = refl; texts = refl; worlds = refl; contents = refl }
