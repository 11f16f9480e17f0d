-- A dialogue, from bytes to bytes: observers apart.
use Rattle.dom_model.proofs.Dialogues.Exchanges.{◌≡◌, refl, List, codes, [], ◌∷◌, usual_bounds, whole_table, output_of, Exchange, bytes_given, bytes_due, MissesNothing, computing}

abbrev exchanges : List Exchange
exchanges =
    (codes "[\"createElement\",0,\"a\"]\n", codes "{\"ok\":1}\n")
    ∷ (codes "[\"createElement\",0,\"b\"]\n", codes "{\"ok\":2}\n")
    ∷ (codes "[\"appendChild\",1,2]\n", codes "{\"ok\":2}\n")
    ∷ (codes "[\"createObserver\"]\n", codes "{\"ok\":0}\n")
    ∷ (codes "[\"createObserver\"]\n", codes "{\"ok\":1}\n")
    ∷ (codes "[\"observe\",1,1,{\"attributes\":true,\"attributeOldValue\":true}]\n", codes "{\"ok\":null}\n")
    ∷ (codes "[\"observe\",0,1,{\"attributes\":true}]\n", codes "{\"ok\":null}\n")
    ∷ (codes "[\"observe\",0,1,{\"attributes\":true,\"childList\":true}]\n", codes "{\"ok\":null}\n")
    ∷ (codes "[\"setAttribute\",1,\"x\",\"1\"]\n", codes "{\"ok\":null}\n")
    ∷ (codes "[\"setAttribute\",1,\"x\",\"2\"]\n", codes "{\"ok\":null}\n")
    ∷ (codes "[\"pending\"]\n", codes "{\"ok\":[1,0]}\n")
    ∷ (codes "[\"takeRecords\",1]\n", codes "{\"ok\":[[\"attributes\",1,[],[],null,null,\"x\",null],[\"attributes\",1,[],[],null,null,\"x\",\"1\"]]}\n")
    ∷ (codes "[\"remove\",2]\n", codes "{\"ok\":null}\n")
    ∷ (codes "[\"disconnect\",1]\n", codes "{\"ok\":null}\n")
    ∷ (codes "[\"setAttribute\",1,\"x\",\"3\"]\n", codes "{\"ok\":null}\n")
    ∷ (
      codes "[\"notify\"]\n",
      codes "{\"ok\":[[0,[[\"attributes\",1,[],[],null,null,\"x\",null],[\"attributes\",1,[],[],null,null,\"x\",null],[\"childList\",1,[],[2],null,null,null,null],[\"attributes\",1,[],[],null,null,\"x\",null]]]]}\n",
    )
    ∷ (codes "[\"observe\",1,1,{\"attributes\":true}]\n", codes "{\"ok\":null}\n")
    ∷ (codes "[\"observe\",1,1,{\"attributes\":true,\"attributeFilter\":[\"y\"]}]\n", codes "{\"ok\":null}\n")
    ∷ (codes "[\"setAttribute\",1,\"y\",\"4\"]\n", codes "{\"ok\":null}\n")
    ∷ (codes "[\"setAttribute\",1,\"x\",\"5\"]\n", codes "{\"ok\":null}\n")
    ∷ (codes "[\"pending\"]\n", codes "{\"ok\":[0,1]}\n")
    ∷ (
      codes "[\"notify\"]\n",
      codes "{\"ok\":[[0,[[\"attributes\",1,[],[],null,null,\"y\",null],[\"attributes\",1,[],[],null,null,\"x\",null]]],[1,[[\"attributes\",1,[],[],null,null,\"y\",null]]]]}\n",
    )
    ∷ []

pub observers_apart : output_of whole_table usual_bounds (bytes_given exchanges) ≡ bytes_due exchanges
unfolding computing
observers_apart = refl

pub observers_apart-misses_nothing : MissesNothing whole_table usual_bounds (bytes_given exchanges)
unfolding computing
observers_apart-misses_nothing = record { ends = refl; texts = refl; worlds = refl; contents = refl }
