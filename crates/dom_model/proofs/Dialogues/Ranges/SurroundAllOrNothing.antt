-- A dialogue, from bytes to bytes: surround all or nothing.
use Rattle.dom_model.proofs.Dialogues.Exchanges.{◌≡◌, refl, List, codes, [], ◌∷◌, usual_bounds, whole_table, output_of, Exchange, bytes_given, bytes_due, MissesNothing, computing}

abbrev exchanges : List Exchange
exchanges =
    (codes "[\"createElement\",0,\"r\"]\n", codes "{\"ok\":1}\n")
    ∷ (codes "[\"createText\",0,\"abc\"]\n", codes "{\"ok\":2}\n")
    ∷ (codes "[\"createElement\",0,\"b\"]\n", codes "{\"ok\":3}\n")
    ∷ (codes "[\"createText\",0,\"d\"]\n", codes "{\"ok\":4}\n")
    ∷ (codes "[\"createElement\",0,\"w\"]\n", codes "{\"ok\":5}\n")
    ∷ (codes "[\"appendChild\",0,1]\n", codes "{\"ok\":1}\n")
    ∷ (codes "[\"appendChild\",1,2]\n", codes "{\"ok\":2}\n")
    ∷ (codes "[\"appendChild\",1,3]\n", codes "{\"ok\":3}\n")
    ∷ (codes "[\"appendChild\",3,4]\n", codes "{\"ok\":4}\n")
    ∷ (codes "[\"createFragment\",0]\n", codes "{\"ok\":6}\n")
    ∷ (codes "[\"createComment\",0,\"k\"]\n", codes "{\"ok\":7}\n")
    ∷ (codes "[\"createRange\",0]\n", codes "{\"ok\":0}\n")
    ∷ (codes "[\"setStart\",0,2,1]\n", codes "{\"ok\":null}\n")
    ∷ (codes "[\"setEnd\",0,4,1]\n", codes "{\"ok\":null}\n")
    ∷ (codes "[\"surroundContents\",0,5]\n", codes "{\"error\":\"InvalidStateError\"}\n")
    ∷ (codes "[\"setEnd\",0,2,2]\n", codes "{\"ok\":null}\n")
    ∷ (codes "[\"surroundContents\",0,6]\n", codes "{\"error\":\"InvalidNodeTypeError\"}\n")
    ∷ (codes "[\"surroundContents\",0,7]\n", codes "{\"error\":\"HierarchyRequestError\"}\n")
    ∷ (codes "[\"data\",2]\n", codes "{\"ok\":\"abc\"}\n")
    ∷ (codes "[\"range\",0]\n", codes "{\"ok\":[2,1,2,2]}\n")
    ∷ (codes "[\"surroundContents\",0,5]\n", codes "{\"ok\":null}\n")
    ∷ (codes "[\"children\",1]\n", codes "{\"ok\":[2,5,10,3]}\n")
    ∷ (codes "[\"children\",5]\n", codes "{\"ok\":[9]}\n")
    ∷ (codes "[\"range\",0]\n", codes "{\"ok\":[1,1,1,2]}\n")
    ∷ (codes "[\"createRange\",0]\n", codes "{\"ok\":1}\n")
    ∷ (codes "[\"createElement\",0,\"v\"]\n", codes "{\"ok\":11}\n")
    ∷ (codes "[\"surroundContents\",1,11]\n", codes "{\"error\":\"HierarchyRequestError\"}\n")
    ∷ []

pub surround_all_or_nothing : output_of whole_table usual_bounds (bytes_given exchanges) ≡ bytes_due exchanges
unfolding computing
surround_all_or_nothing = refl

pub surround_all_or_nothing-misses_nothing : MissesNothing whole_table usual_bounds (bytes_given exchanges)
unfolding computing
surround_all_or_nothing-misses_nothing = record { ends = refl; texts = refl; worlds = refl; contents = refl }
