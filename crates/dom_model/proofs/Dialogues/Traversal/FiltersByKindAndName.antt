-- A dialogue, from bytes to bytes: filters by kind and name.
use Rattle.dom_model.proofs.Dialogues.Exchanges.{◌≡◌, refl, List, codes, [], ◌∷◌, usual_bounds, whole_table, output_of, Exchange, bytes_given, bytes_due, MissesNothing, computing}

abbrev exchanges : List Exchange
exchanges =
    (codes "[\"createElement\",0,\"p\"]\n", codes "{\"ok\":1}\n")
    ∷ (codes "[\"createText\",0,\"t\"]\n", codes "{\"ok\":2}\n")
    ∷ (codes "[\"createElement\",0,\"q\"]\n", codes "{\"ok\":3}\n")
    ∷ (codes "[\"createText\",0,\"u\"]\n", codes "{\"ok\":4}\n")
    ∷ (codes "[\"appendChild\",1,2]\n", codes "{\"ok\":2}\n")
    ∷ (codes "[\"appendChild\",1,3]\n", codes "{\"ok\":3}\n")
    ∷ (codes "[\"appendChild\",3,4]\n", codes "{\"ok\":4}\n")
    ∷ (codes "[\"appendChild\",0,1]\n", codes "{\"ok\":1}\n")
    ∷ (codes "[\"createIterator\",0,1,[]]\n", codes "{\"ok\":0}\n")
    ∷ (codes "[\"nextNode\",0]\n", codes "{\"ok\":1}\n")
    ∷ (codes "[\"nextNode\",0]\n", codes "{\"ok\":3}\n")
    ∷ (codes "[\"nextNode\",0]\n", codes "{\"ok\":null}\n")
    ∷ (codes "[\"previousNode\",0]\n", codes "{\"ok\":3}\n")
    ∷ (codes "[\"previousNode\",0]\n", codes "{\"ok\":1}\n")
    ∷ (codes "[\"previousNode\",0]\n", codes "{\"ok\":null}\n")
    ∷ (codes "[\"iterator\",0]\n", codes "{\"ok\":[0,1,true]}\n")
    ∷ (codes "[\"createIterator\",0,4,[]]\n", codes "{\"ok\":1}\n")
    ∷ (codes "[\"nextNode\",1]\n", codes "{\"ok\":2}\n")
    ∷ (codes "[\"nextNode\",1]\n", codes "{\"ok\":4}\n")
    ∷ (codes "[\"nextNode\",1]\n", codes "{\"ok\":null}\n")
    ∷ (codes "[\"iterator\",1]\n", codes "{\"ok\":[0,4,false]}\n")
    ∷ (codes "[\"createIterator\",0,256,[]]\n", codes "{\"ok\":2}\n")
    ∷ (codes "[\"nextNode\",2]\n", codes "{\"ok\":0}\n")
    ∷ (codes "[\"nextNode\",2]\n", codes "{\"ok\":null}\n")
    ∷ (codes "[\"createIterator\",1,4294967295,[[\"q\",\"accept\"],[\"*\",\"reject\"],[\"#text\",\"accept\"]]]\n", codes "{\"ok\":3}\n")
    ∷ (codes "[\"nextNode\",3]\n", codes "{\"ok\":3}\n")
    ∷ (codes "[\"nextNode\",3]\n", codes "{\"ok\":null}\n")
    ∷ (codes "[\"createIterator\",1,4294967295,[[\"#text\",\"skip\"]]]\n", codes "{\"ok\":4}\n")
    ∷ (codes "[\"nextNode\",4]\n", codes "{\"ok\":1}\n")
    ∷ (codes "[\"nextNode\",4]\n", codes "{\"ok\":3}\n")
    ∷ (codes "[\"nextNode\",4]\n", codes "{\"ok\":null}\n")
    ∷ (codes "[\"createIterator\",1,4294967295,[[\"*\",\"reject\"]]]\n", codes "{\"ok\":5}\n")
    ∷ (codes "[\"nextNode\",5]\n", codes "{\"ok\":null}\n")
    ∷ (codes "[\"iterator\",5]\n", codes "{\"ok\":[1,1,true]}\n")
    ∷ (codes "[\"createWalker\",0,5,[[\"q\",\"skip\"],[\"q\",\"reject\"]]]\n", codes "{\"ok\":0}\n")
    ∷ (codes "[\"walk\",0,\"nextNode\"]\n", codes "{\"ok\":1}\n")
    ∷ (codes "[\"walk\",0,\"nextNode\"]\n", codes "{\"ok\":2}\n")
    ∷ (codes "[\"walk\",0,\"nextNode\"]\n", codes "{\"ok\":4}\n")
    ∷ (codes "[\"walk\",0,\"nextNode\"]\n", codes "{\"ok\":null}\n")
    ∷ (codes "[\"createWalker\",0,4,[[\"q\",\"reject\"]]]\n", codes "{\"ok\":1}\n")
    ∷ (codes "[\"walk\",1,\"firstChild\"]\n", codes "{\"ok\":2}\n")
    ∷ (codes "[\"walk\",1,\"nextNode\"]\n", codes "{\"ok\":4}\n")
    ∷ (codes "[\"createWalker\",0,4,[[\"p\",\"reject\"]]]\n", codes "{\"ok\":2}\n")
    ∷ (codes "[\"walk\",2,\"firstChild\"]\n", codes "{\"ok\":2}\n")
    ∷ (codes "[\"createWalker\",0,0,[]]\n", codes "{\"ok\":3}\n")
    ∷ (codes "[\"walk\",3,\"firstChild\"]\n", codes "{\"ok\":null}\n")
    ∷ []

pub filters_by_kind_and_name : output_of whole_table usual_bounds (bytes_given exchanges) ≡ bytes_due exchanges
unfolding computing
filters_by_kind_and_name = refl

pub filters_by_kind_and_name-misses_nothing : MissesNothing whole_table usual_bounds (bytes_given exchanges)
unfolding computing
filters_by_kind_and_name-misses_nothing = record { ends = refl; texts = refl; worlds = refl; contents = refl }
