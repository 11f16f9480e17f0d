-- A dialogue, from bytes to bytes: contents of a range.
use Rattle.dom_model.proofs.Dialogues.Exchanges.{◌≡◌, refl, List, codes, [], ◌∷◌, usual_bounds, whole_table, output_of, Exchange, bytes_given, bytes_due, MissesNothing, computing}

abbrev exchanges : List Exchange
exchanges =
    (codes "[\"createElement\",0,\"p\"]\n", codes "{\"ok\":1}\n")
    ∷ (codes "[\"createText\",0,\"abc\"]\n", codes "{\"ok\":2}\n")
    ∷ (codes "[\"createElement\",0,\"b\"]\n", codes "{\"ok\":3}\n")
    ∷ (codes "[\"createText\",0,\"de\"]\n", codes "{\"ok\":4}\n")
    ∷ (codes "[\"createComment\",0,\"x\"]\n", codes "{\"ok\":5}\n")
    ∷ (codes "[\"appendChild\",1,2]\n", codes "{\"ok\":2}\n")
    ∷ (codes "[\"appendChild\",1,3]\n", codes "{\"ok\":3}\n")
    ∷ (codes "[\"appendChild\",3,4]\n", codes "{\"ok\":4}\n")
    ∷ (codes "[\"appendChild\",1,5]\n", codes "{\"ok\":5}\n")
    ∷ (codes "[\"createRange\",0]\n", codes "{\"ok\":0}\n")
    ∷ (codes "[\"setStart\",0,2,1]\n", codes "{\"ok\":null}\n")
    ∷ (codes "[\"setEnd\",0,4,1]\n", codes "{\"ok\":null}\n")
    ∷ (codes "[\"rangeText\",0]\n", codes "{\"ok\":\"bcd\"}\n")
    ∷ (codes "[\"commonAncestor\",0]\n", codes "{\"ok\":1}\n")
    ∷ (codes "[\"comparePoint\",0,2,0]\n", codes "{\"ok\":-1}\n")
    ∷ (codes "[\"isPointInRange\",0,3,0]\n", codes "{\"ok\":true}\n")
    ∷ (codes "[\"intersectsNode\",0,5]\n", codes "{\"ok\":false}\n")
    ∷ (codes "[\"cloneContents\",0]\n", codes "{\"ok\":6}\n")
    ∷ (codes "[\"children\",6]\n", codes "{\"ok\":[7,8]}\n")
    ∷ (codes "[\"children\",8]\n", codes "{\"ok\":[10]}\n")
    ∷ (codes "[\"deleteContents\",0]\n", codes "{\"ok\":null}\n")
    ∷ (codes "[\"data\",4]\n", codes "{\"ok\":\"e\"}\n")
    ∷ (codes "[\"range\",0]\n", codes "{\"ok\":[1,1,1,1]}\n")
    ∷ (codes "[\"insertNode\",0,5]\n", codes "{\"ok\":null}\n")
    ∷ (codes "[\"range\",0]\n", codes "{\"ok\":[1,1,1,2]}\n")
    ∷ (codes "[\"children\",1]\n", codes "{\"ok\":[2,5,3]}\n")
    ∷ (codes "[\"selectNode\",0,4]\n", codes "{\"ok\":null}\n")
    ∷ (codes "[\"cloneRange\",0]\n", codes "{\"ok\":1}\n")
    ∷ (codes "[\"collapse\",1,true]\n", codes "{\"ok\":null}\n")
    ∷ (codes "[\"range\",1]\n", codes "{\"ok\":[3,0,3,0]}\n")
    ∷ (codes "[\"setStartBefore\",1,1]\n", codes "{\"error\":\"InvalidNodeTypeError\"}\n")
    ∷ []

pub contents_of_a_range : output_of whole_table usual_bounds (bytes_given exchanges) ≡ bytes_due exchanges
unfolding computing
contents_of_a_range = refl

pub contents_of_a_range-misses_nothing : MissesNothing whole_table usual_bounds (bytes_given exchanges)
unfolding computing
contents_of_a_range-misses_nothing = record { ends = refl; texts = refl; worlds = refl; contents = refl }
