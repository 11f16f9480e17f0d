-- A dialogue, from bytes to bytes: iterator falls back.
use Rattle.dom_model.proofs.Dialogues.Exchanges.{◌≡◌, refl, List, codes, [], ◌∷◌, usual_bounds, whole_table, output_of, Exchange, bytes_given, bytes_due, MissesNothing, computing}

abbrev exchanges : List Exchange
exchanges =
    (codes "[\"createElement\",0,\"r\"]\n", codes "{\"ok\":1}\n")
    ∷ (codes "[\"createElement\",0,\"a\"]\n", codes "{\"ok\":2}\n")
    ∷ (codes "[\"createElement\",0,\"b\"]\n", codes "{\"ok\":3}\n")
    ∷ (codes "[\"createElement\",0,\"c\"]\n", codes "{\"ok\":4}\n")
    ∷ (codes "[\"appendChild\",1,2]\n", codes "{\"ok\":2}\n")
    ∷ (codes "[\"appendChild\",2,3]\n", codes "{\"ok\":3}\n")
    ∷ (codes "[\"appendChild\",1,4]\n", codes "{\"ok\":4}\n")
    ∷ (codes "[\"createIterator\",1,4294967295,[]]\n", codes "{\"ok\":0}\n")
    ∷ (codes "[\"nextNode\",0]\n", codes "{\"ok\":1}\n")
    ∷ (codes "[\"nextNode\",0]\n", codes "{\"ok\":2}\n")
    ∷ (codes "[\"nextNode\",0]\n", codes "{\"ok\":3}\n")
    ∷ (codes "[\"nextNode\",0]\n", codes "{\"ok\":4}\n")
    ∷ (codes "[\"remove\",4]\n", codes "{\"ok\":null}\n")
    ∷ (codes "[\"iterator\",0]\n", codes "{\"ok\":[1,3,false]}\n")
    ∷ (codes "[\"nextNode\",0]\n", codes "{\"ok\":null}\n")
    ∷ (codes "[\"previousNode\",0]\n", codes "{\"ok\":3}\n")
    ∷ (codes "[\"iterator\",0]\n", codes "{\"ok\":[1,3,true]}\n")
    ∷ (codes "[\"appendChild\",1,4]\n", codes "{\"ok\":4}\n")
    ∷ (codes "[\"remove\",3]\n", codes "{\"ok\":null}\n")
    ∷ (codes "[\"iterator\",0]\n", codes "{\"ok\":[1,4,true]}\n")
    ∷ (codes "[\"previousNode\",0]\n", codes "{\"ok\":2}\n")
    ∷ (codes "[\"nextNode\",0]\n", codes "{\"ok\":2}\n")
    ∷ (codes "[\"remove\",2]\n", codes "{\"ok\":null}\n")
    ∷ (codes "[\"iterator\",0]\n", codes "{\"ok\":[1,1,false]}\n")
    ∷ (codes "[\"nextNode\",0]\n", codes "{\"ok\":4}\n")
    ∷ (codes "[\"createIterator\",4,4294967295,[]]\n", codes "{\"ok\":1}\n")
    ∷ (codes "[\"remove\",4]\n", codes "{\"ok\":null}\n")
    ∷ (codes "[\"iterator\",1]\n", codes "{\"ok\":[4,4,true]}\n")
    ∷ (codes "[\"appendChild\",1,4]\n", codes "{\"ok\":4}\n")
    ∷ (codes "[\"appendChild\",2,1]\n", codes "{\"ok\":1}\n")
    ∷ (codes "[\"remove\",1]\n", codes "{\"ok\":null}\n")
    ∷ (codes "[\"iterator\",1]\n", codes "{\"ok\":[4,4,true]}\n")
    ∷ (codes "[\"iterator\",0]\n", codes "{\"ok\":[1,1,false]}\n")
    ∷ []

pub iterator_falls_back : output_of whole_table usual_bounds (bytes_given exchanges) ≡ bytes_due exchanges
unfolding computing
iterator_falls_back = refl

pub iterator_falls_back-misses_nothing : MissesNothing whole_table usual_bounds (bytes_given exchanges)
unfolding computing
iterator_falls_back-misses_nothing = record { ends = refl; texts = refl; worlds = refl; contents = refl }
