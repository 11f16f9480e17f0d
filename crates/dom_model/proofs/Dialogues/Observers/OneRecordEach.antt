-- A dialogue, from bytes to bytes: one record each.
use Rattle.dom_model.proofs.Dialogues.Exchanges.{◌≡◌, refl, List, codes, [], ◌∷◌, usual_bounds, whole_table, output_of, Exchange, bytes_given, bytes_due, MissesNothing, computing}

abbrev exchanges : List Exchange
exchanges =
    (codes "[\"createElement\",0,\"a\"]\n", codes "{\"ok\":1}\n")
    ∷ (codes "[\"createElement\",0,\"b\"]\n", codes "{\"ok\":2}\n")
    ∷ (codes "[\"appendChild\",1,2]\n", codes "{\"ok\":2}\n")
    ∷ (codes "[\"createObserver\"]\n", codes "{\"ok\":0}\n")
    ∷ (codes "[\"createObserver\"]\n", codes "{\"ok\":1}\n")
    ∷ (codes "[\"observe\",0,1,{\"attributeOldValue\":true,\"subtree\":true}]\n", codes "{\"ok\":null}\n")
    ∷ (codes "[\"observe\",0,2,{\"attributeFilter\":[\"x\"]}]\n", codes "{\"ok\":null}\n")
    ∷ (codes "[\"observe\",1,2,{\"attributeFilter\":[\"x\"]}]\n", codes "{\"ok\":null}\n")
    ∷ (codes "[\"setAttribute\",2,\"x\",\"1\"]\n", codes "{\"ok\":null}\n")
    ∷ (codes "[\"setAttribute\",2,\"x\",\"1\"]\n", codes "{\"ok\":null}\n")
    ∷ (codes "[\"setAttribute\",2,\"y\",\"2\"]\n", codes "{\"ok\":null}\n")
    ∷ (
      codes "[\"takeRecords\",0]\n",
      codes "{\"ok\":[[\"attributes\",2,[],[],null,null,\"x\",null],[\"attributes\",2,[],[],null,null,\"x\",\"1\"],[\"attributes\",2,[],[],null,null,\"y\",null]]}\n",
    )
    ∷ (codes "[\"takeRecords\",1]\n", codes "{\"ok\":[[\"attributes\",2,[],[],null,null,\"x\",null],[\"attributes\",2,[],[],null,null,\"x\",null]]}\n")
    ∷ (codes "[\"observe\",1,2,{\"subtree\":true}]\n", codes "{\"error\":\"TypeError\"}\n")
    ∷ []

pub one_record_each : output_of whole_table usual_bounds (bytes_given exchanges) ≡ bytes_due exchanges
unfolding computing
one_record_each = refl

pub one_record_each-misses_nothing : MissesNothing whole_table usual_bounds (bytes_given exchanges)
unfolding computing
one_record_each-misses_nothing = record { ends = refl; texts = refl; worlds = refl; contents = refl }
