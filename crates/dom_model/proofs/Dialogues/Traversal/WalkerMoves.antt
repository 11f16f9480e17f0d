-- A dialogue, from bytes to bytes: walker moves.
use Rattle.dom_model.proofs.Dialogues.Exchanges.{◌≡◌, refl, List, codes, [], ◌∷◌, usual_bounds, whole_table, output_of, Exchange, bytes_given, bytes_due, MissesNothing, computing}

abbrev exchanges : List Exchange
exchanges =
    (codes "[\"createElement\",0,\"r\"]\n", codes "{\"ok\":1}\n")
    ∷ (codes "[\"createElement\",0,\"a\"]\n", codes "{\"ok\":2}\n")
    ∷ (codes "[\"createElement\",0,\"b\"]\n", codes "{\"ok\":3}\n")
    ∷ (codes "[\"createElement\",0,\"c\"]\n", codes "{\"ok\":4}\n")
    ∷ (codes "[\"appendChild\",1,2]\n", codes "{\"ok\":2}\n")
    ∷ (codes "[\"appendChild\",2,3]\n", codes "{\"ok\":3}\n")
    ∷ (codes "[\"appendChild\",1,4]\n", codes "{\"ok\":4}\n")
    ∷ (codes "[\"createWalker\",1,4294967295,[[\"a\",\"skip\"]]]\n", codes "{\"ok\":0}\n")
    ∷ (codes "[\"createWalker\",1,4294967295,[[\"a\",\"reject\"]]]\n", codes "{\"ok\":1}\n")
    ∷ (codes "[\"walk\",0,\"nextNode\"]\n", codes "{\"ok\":3}\n")
    ∷ (codes "[\"walk\",1,\"nextNode\"]\n", codes "{\"ok\":4}\n")
    ∷ (codes "[\"walk\",1,\"nextNode\"]\n", codes "{\"ok\":null}\n")
    ∷ (codes "[\"walk\",0,\"parentNode\"]\n", codes "{\"ok\":1}\n")
    ∷ (codes "[\"walk\",0,\"firstChild\"]\n", codes "{\"ok\":3}\n")
    ∷ (codes "[\"walk\",0,\"nextSibling\"]\n", codes "{\"ok\":4}\n")
    ∷ (codes "[\"walk\",0,\"previousSibling\"]\n", codes "{\"ok\":3}\n")
    ∷ (codes "[\"createElement\",0,\"s\"]\n", codes "{\"ok\":5}\n")
    ∷ (codes "[\"appendChild\",5,1]\n", codes "{\"ok\":1}\n")
    ∷ (codes "[\"createText\",0,\"t\"]\n", codes "{\"ok\":6}\n")
    ∷ (codes "[\"appendChild\",5,6]\n", codes "{\"ok\":6}\n")
    ∷ (codes "[\"setCurrent\",0,6]\n", codes "{\"ok\":null}\n")
    ∷ (codes "[\"walk\",0,\"nextNode\"]\n", codes "{\"ok\":null}\n")
    ∷ (codes "[\"walk\",0,\"previousNode\"]\n", codes "{\"ok\":4}\n")
    ∷ (codes "[\"setCurrent\",1,2]\n", codes "{\"ok\":null}\n")
    ∷ (codes "[\"walk\",1,\"previousNode\"]\n", codes "{\"ok\":1}\n")
    ∷ (codes "[\"walk\",1,\"previousNode\"]\n", codes "{\"ok\":null}\n")
    ∷ []

pub walker_moves : output_of whole_table usual_bounds (bytes_given exchanges) ≡ bytes_due exchanges
unfolding computing
walker_moves = refl

pub walker_moves-misses_nothing : MissesNothing whole_table usual_bounds (bytes_given exchanges)
unfolding computing
walker_moves-misses_nothing = record { ends = refl; texts = refl; worlds = refl; contents = refl }
