-- A dialogue, from bytes to bytes: order of registrations.
use Rattle.dom_model.proofs.Dialogues.Exchanges.{◌≡◌, refl, List, codes, [], ◌∷◌, usual_bounds, whole_table, output_of, Exchange, bytes_given, bytes_due, MissesNothing, computing}

abbrev exchanges : List Exchange
exchanges =
    (codes "[\"createElement\",0,\"a\"]\n", codes "{\"ok\":1}\n")
    ∷ (codes "[\"createElement\",0,\"b\"]\n", codes "{\"ok\":2}\n")
    ∷ (codes "[\"createElement\",0,\"c\"]\n", codes "{\"ok\":3}\n")
    ∷ (codes "[\"appendChild\",1,2]\n", codes "{\"ok\":2}\n")
    ∷ (codes "[\"appendChild\",2,3]\n", codes "{\"ok\":3}\n")
    ∷ (codes "[\"createObserver\"]\n", codes "{\"ok\":0}\n")
    ∷ (codes "[\"createObserver\"]\n", codes "{\"ok\":1}\n")
    ∷ (codes "[\"createObserver\"]\n", codes "{\"ok\":2}\n")
    ∷ (codes "[\"observe\",0,1,{\"attributes\":true,\"subtree\":true}]\n", codes "{\"ok\":null}\n")
    ∷ (codes "[\"observe\",1,2,{\"attributes\":true,\"subtree\":true}]\n", codes "{\"ok\":null}\n")
    ∷ (codes "[\"observe\",2,3,{\"attributes\":true}]\n", codes "{\"ok\":null}\n")
    ∷ (codes "[\"setAttribute\",3,\"x\",\"1\"]\n", codes "{\"ok\":null}\n")
    ∷ (codes "[\"pending\"]\n", codes "{\"ok\":[2,1,0]}\n")
    ∷ (
      codes "[\"notify\"]\n",
      codes "{\"ok\":[[2,[[\"attributes\",3,[],[],null,null,\"x\",null]]],[1,[[\"attributes\",3,[],[],null,null,\"x\",null]]],[0,[[\"attributes\",3,[],[],null,null,\"x\",null]]]]}\n",
    )
    ∷ (codes "[\"disconnect\",2]\n", codes "{\"ok\":null}\n")
    ∷ (codes "[\"remove\",3]\n", codes "{\"ok\":null}\n")
    ∷ (codes "[\"setAttribute\",3,\"x\",\"2\"]\n", codes "{\"ok\":null}\n")
    ∷ (codes "[\"pending\"]\n", codes "{\"ok\":[1,0]}\n")
    ∷ (codes "[\"takeRecords\",0]\n", codes "{\"ok\":[[\"attributes\",3,[],[],null,null,\"x\",null]]}\n")
    ∷ (codes "[\"notify\"]\n", codes "{\"ok\":[[1,[[\"attributes\",3,[],[],null,null,\"x\",null]]]]}\n")
    ∷ (codes "[\"observe\",1,1,{\"attributes\":true}]\n", codes "{\"ok\":null}\n")
    ∷ (codes "[\"observe\",0,1,{\"attributes\":true,\"attributeOldValue\":true}]\n", codes "{\"ok\":null}\n")
    ∷ (codes "[\"setAttribute\",1,\"x\",\"3\"]\n", codes "{\"ok\":null}\n")
    ∷ (codes "[\"pending\"]\n", codes "{\"ok\":[0,1]}\n")
    ∷ (codes "[\"takeRecords\",0]\n", codes "{\"ok\":[[\"attributes\",1,[],[],null,null,\"x\",null]]}\n")
    ∷ (codes "[\"setAttribute\",2,\"x\",\"3\"]\n", codes "{\"ok\":null}\n")
    ∷ (codes "[\"takeRecords\",0]\n", codes "{\"ok\":[]}\n")
    ∷ (codes "[\"notify\"]\n", codes "{\"ok\":[[1,[[\"attributes\",1,[],[],null,null,\"x\",null],[\"attributes\",2,[],[],null,null,\"x\",null]]]]}\n")
    ∷ []

pub order_of_registrations : output_of whole_table usual_bounds (bytes_given exchanges) ≡ bytes_due exchanges
unfolding computing
order_of_registrations = refl

pub order_of_registrations-misses_nothing : MissesNothing whole_table usual_bounds (bytes_given exchanges)
unfolding computing
order_of_registrations-misses_nothing = record { ends = refl; texts = refl; worlds = refl; contents = refl }
