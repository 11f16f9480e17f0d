-- A dialogue, from bytes to bytes: iterator gives way.
use Rattle.dom_model.proofs.Dialogues.Exchanges.{◌≡◌, refl, List, codes, [], ◌∷◌, usual_bounds, whole_table, output_of, Exchange, bytes_given, bytes_due, MissesNothing, computing}

abbrev exchanges : List Exchange
exchanges =
    (codes "[\"createElement\",0,\"r\"]\n", codes "{\"ok\":1}\n")
    ∷ (codes "[\"createElement\",0,\"a\"]\n", codes "{\"ok\":2}\n")
    ∷ (codes "[\"createElement\",0,\"b\"]\n", codes "{\"ok\":3}\n")
    ∷ (codes "[\"createElement\",0,\"c\"]\n", codes "{\"ok\":4}\n")
    ∷ (codes "[\"appendChild\",1,2]\n", codes "{\"ok\":2}\n")
    ∷ (codes "[\"appendChild\",2,3]\n", codes "{\"ok\":3}\n")
    ∷ (codes "[\"appendChild\",1,4]\n", codes "{\"ok\":4}\n")
    ∷ (codes "[\"createIterator\",1,4294967295,[]]\n", codes "{\"ok\":0}\n")
    ∷ (codes "[\"iterator\",0]\n", codes "{\"ok\":[1,1,true]}\n")
    ∷ (codes "[\"nextNode\",0]\n", codes "{\"ok\":1}\n")
    ∷ (codes "[\"nextNode\",0]\n", codes "{\"ok\":2}\n")
    ∷ (codes "[\"nextNode\",0]\n", codes "{\"ok\":3}\n")
    ∷ (codes "[\"previousNode\",0]\n", codes "{\"ok\":3}\n")
    ∷ (codes "[\"remove\",2]\n", codes "{\"ok\":null}\n")
    ∷ (codes "[\"iterator\",0]\n", codes "{\"ok\":[1,4,true]}\n")
    ∷ (codes "[\"remove\",4]\n", codes "{\"ok\":null}\n")
    ∷ (codes "[\"iterator\",0]\n", codes "{\"ok\":[1,1,false]}\n")
    ∷ (codes "[\"nextNode\",0]\n", codes "{\"ok\":null}\n")
    ∷ (codes "[\"createElement\",0,\"q\"]\n", codes "{\"ok\":5}\n")
    ∷ (codes "[\"createElement\",0,\"z\"]\n", codes "{\"ok\":6}\n")
    ∷ (codes "[\"appendChild\",5,1]\n", codes "{\"ok\":1}\n")
    ∷ (codes "[\"appendChild\",6,5]\n", codes "{\"ok\":5}\n")
    ∷ (codes "[\"remove\",5]\n", codes "{\"ok\":null}\n")
    ∷ (codes "[\"iterator\",0]\n", codes "{\"ok\":[1,1,false]}\n")
    ∷ []

pub iterator_gives_way : output_of whole_table usual_bounds (bytes_given exchanges) ≡ bytes_due exchanges
unfolding computing
iterator_gives_way = refl

pub iterator_gives_way-misses_nothing : MissesNothing whole_table usual_bounds (bytes_given exchanges)
unfolding computing
iterator_gives_way-misses_nothing = record { ends = refl; texts = refl; worlds = refl; contents = refl }
