-- A dialogue, from bytes to bytes: transients of transients.
use Rattle.dom_model.proofs.Dialogues.Exchanges.{◌≡◌, refl, List, codes, [], ◌∷◌, usual_bounds, whole_table, output_of, Exchange, bytes_given, bytes_due, MissesNothing, computing}

abbrev exchanges : List Exchange
exchanges =
    (codes "[\"createElement\",0,\"a\"]\n", codes "{\"ok\":1}\n")
    ∷ (codes "[\"createElement\",0,\"b\"]\n", codes "{\"ok\":2}\n")
    ∷ (codes "[\"createElement\",0,\"c\"]\n", codes "{\"ok\":3}\n")
    ∷ (codes "[\"createElement\",0,\"d\"]\n", codes "{\"ok\":4}\n")
    ∷ (codes "[\"appendChild\",1,2]\n", codes "{\"ok\":2}\n")
    ∷ (codes "[\"appendChild\",2,3]\n", codes "{\"ok\":3}\n")
    ∷ (codes "[\"createObserver\"]\n", codes "{\"ok\":0}\n")
    ∷ (codes "[\"createObserver\"]\n", codes "{\"ok\":1}\n")
    ∷ (codes "[\"observe\",0,1,{\"attributes\":true,\"subtree\":true}]\n", codes "{\"ok\":null}\n")
    ∷ (codes "[\"observe\",1,2,{\"attributes\":true}]\n", codes "{\"ok\":null}\n")
    ∷ (codes "[\"remove\",3]\n", codes "{\"ok\":null}\n")
    ∷ (codes "[\"setAttribute\",3,\"x\",\"1\"]\n", codes "{\"ok\":null}\n")
    ∷ (codes "[\"takeRecords\",0]\n", codes "{\"ok\":[[\"attributes\",3,[],[],null,null,\"x\",null]]}\n")
    ∷ (codes "[\"takeRecords\",1]\n", codes "{\"ok\":[]}\n")
    ∷ (codes "[\"appendChild\",3,4]\n", codes "{\"ok\":4}\n")
    ∷ (codes "[\"remove\",4]\n", codes "{\"ok\":null}\n")
    ∷ (codes "[\"setAttribute\",4,\"x\",\"2\"]\n", codes "{\"ok\":null}\n")
    ∷ (codes "[\"takeRecords\",0]\n", codes "{\"ok\":[[\"attributes\",4,[],[],null,null,\"x\",null]]}\n")
    ∷ (codes "[\"observe\",0,3,{\"childList\":true}]\n", codes "{\"ok\":null}\n")
    ∷ (codes "[\"setAttribute\",3,\"x\",\"3\"]\n", codes "{\"ok\":null}\n")
    ∷ (codes "[\"takeRecords\",0]\n", codes "{\"ok\":[[\"attributes\",3,[],[],null,null,\"x\",null]]}\n")
    ∷ (codes "[\"observe\",0,1,{\"childList\":true}]\n", codes "{\"ok\":null}\n")
    ∷ (codes "[\"setAttribute\",3,\"x\",\"4\"]\n", codes "{\"ok\":null}\n")
    ∷ (codes "[\"setAttribute\",4,\"x\",\"4\"]\n", codes "{\"ok\":null}\n")
    ∷ (codes "[\"takeRecords\",0]\n", codes "{\"ok\":[]}\n")
    ∷ (codes "[\"appendChild\",3,4]\n", codes "{\"ok\":4}\n")
    ∷ (codes "[\"takeRecords\",0]\n", codes "{\"ok\":[[\"childList\",3,[4],[],null,null,null,null]]}\n")
    ∷ (codes "[\"observe\",1,1,{\"attributes\":true,\"subtree\":true}]\n", codes "{\"ok\":null}\n")
    ∷ (codes "[\"remove\",2]\n", codes "{\"ok\":null}\n")
    ∷ (codes "[\"setAttribute\",2,\"x\",\"5\"]\n", codes "{\"ok\":null}\n")
    ∷ (codes "[\"disconnect\",1]\n", codes "{\"ok\":null}\n")
    ∷ (codes "[\"takeRecords\",1]\n", codes "{\"ok\":[]}\n")
    ∷ (codes "[\"setAttribute\",2,\"x\",\"6\"]\n", codes "{\"ok\":null}\n")
    ∷ (codes "[\"takeRecords\",1]\n", codes "{\"ok\":[]}\n")
    ∷ (codes "[\"pending\"]\n", codes "{\"ok\":[0,1]}\n")
    ∷ (codes "[\"notify\"]\n", codes "{\"ok\":[[0,[[\"childList\",1,[],[2],null,null,null,null]]]]}\n")
    ∷ (codes "[\"pending\"]\n", codes "{\"ok\":[]}\n")
    ∷ []

pub transients_of_transients : output_of whole_table usual_bounds (bytes_given exchanges) ≡ bytes_due exchanges
unfolding computing
transients_of_transients = refl

pub transients_of_transients-misses_nothing : MissesNothing whole_table usual_bounds (bytes_given exchanges)
unfolding computing
transients_of_transients-misses_nothing = record { ends = refl; texts = refl; worlds = refl; contents = refl }
