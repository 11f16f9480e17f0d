-- A dialogue, from bytes to bytes: two told.
use Rattle.dom_model.proofs.Dialogues.Exchanges.{◌≡◌, refl, List, codes, [], ◌∷◌, usual_bounds, whole_table, output_of, Exchange, bytes_given, bytes_due, MissesNothing, computing}

abbrev exchanges : List Exchange
exchanges =
    (codes "[\"createElement\",0,\"a\"]\n", codes "{\"ok\":1}\n")
    ∷ (codes "[\"createElement\",0,\"b\"]\n", codes "{\"ok\":2}\n")
    ∷ (codes "[\"appendChild\",1,2]\n", codes "{\"ok\":2}\n")
    ∷ (codes "[\"createObserver\"]\n", codes "{\"ok\":0}\n")
    ∷ (codes "[\"createObserver\"]\n", codes "{\"ok\":1}\n")
    ∷ (codes "[\"createObserver\"]\n", codes "{\"ok\":2}\n")
    ∷ (codes "[\"observe\",2,2,{\"attributes\":true}]\n", codes "{\"ok\":null}\n")
    ∷ (codes "[\"observe\",0,1,{\"attributes\":true,\"subtree\":true}]\n", codes "{\"ok\":null}\n")
    ∷ (codes "[\"observe\",1,1,{\"childList\":true,\"subtree\":true}]\n", codes "{\"ok\":null}\n")
    ∷ (codes "[\"remove\",2]\n", codes "{\"ok\":null}\n")
    ∷ (codes "[\"setAttribute\",2,\"x\",\"1\"]\n", codes "{\"ok\":null}\n")
    ∷ (codes "[\"pending\"]\n", codes "{\"ok\":[1,2,0]}\n")
    ∷ (codes "[\"takeRecords\",2]\n", codes "{\"ok\":[[\"attributes\",2,[],[],null,null,\"x\",null]]}\n")
    ∷ (codes "[\"setAttribute\",2,\"y\",\"2\"]\n", codes "{\"ok\":null}\n")
    ∷ (codes "[\"takeRecords\",2]\n", codes "{\"ok\":[[\"attributes\",2,[],[],null,null,\"y\",null]]}\n")
    ∷ (codes "[\"pending\"]\n", codes "{\"ok\":[1,2,0]}\n")
    ∷ (
      codes "[\"notify\"]\n",
      codes "{\"ok\":[[1,[[\"childList\",1,[],[2],null,null,null,null]]],[0,[[\"attributes\",2,[],[],null,null,\"x\",null],[\"attributes\",2,[],[],null,null,\"y\",null]]]]}\n",
    )
    ∷ (codes "[\"pending\"]\n", codes "{\"ok\":[]}\n")
    ∷ (codes "[\"setAttribute\",2,\"z\",\"3\"]\n", codes "{\"ok\":null}\n")
    ∷ (codes "[\"appendChild\",1,2]\n", codes "{\"ok\":2}\n")
    ∷ (codes "[\"notify\"]\n", codes "{\"ok\":[[2,[[\"attributes\",2,[],[],null,null,\"z\",null]]],[1,[[\"childList\",1,[2],[],null,null,null,null]]]]}\n")
    ∷ []

pub two_told : output_of whole_table usual_bounds (bytes_given exchanges) ≡ bytes_due exchanges
unfolding computing
two_told = refl

pub two_told-misses_nothing : MissesNothing whole_table usual_bounds (bytes_given exchanges)
unfolding computing
two_told-misses_nothing = record { ends = refl; texts = refl; worlds = refl; contents = refl }
