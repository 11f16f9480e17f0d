-- A dialogue, from bytes to bytes: node before itself.
use Rattle.dom_model.proofs.Dialogues.Exchanges.{◌≡◌, refl, List, codes, [], ◌∷◌, usual_bounds, whole_table, output_of, Exchange, bytes_given, bytes_due, MissesNothing, computing}

abbrev exchanges : List Exchange
exchanges =
    (codes "[\"createElement\",0,\"p\"]\n", codes "{\"ok\":1}\n")
    ∷ (codes "[\"createElement\",0,\"x\"]\n", codes "{\"ok\":2}\n")
    ∷ (codes "[\"createElement\",0,\"n\"]\n", codes "{\"ok\":3}\n")
    ∷ (codes "[\"appendChild\",1,2]\n", codes "{\"ok\":2}\n")
    ∷ (codes "[\"appendChild\",1,3]\n", codes "{\"ok\":3}\n")
    ∷ (codes "[\"createObserver\"]\n", codes "{\"ok\":0}\n")
    ∷ (codes "[\"observe\",0,1,{\"childList\":true}]\n", codes "{\"ok\":null}\n")
    ∷ (codes "[\"insertBefore\",1,2,2]\n", codes "{\"ok\":2}\n")
    ∷ (codes "[\"children\",1]\n", codes "{\"ok\":[2,3]}\n")
    ∷ (codes "[\"takeRecords\",0]\n", codes "{\"ok\":[[\"childList\",1,[],[2],null,3,null,null],[\"childList\",1,[2],[],null,3,null,null]]}\n")
    ∷ (codes "[\"appendChild\",1,3]\n", codes "{\"ok\":3}\n")
    ∷ (codes "[\"takeRecords\",0]\n", codes "{\"ok\":[[\"childList\",1,[],[3],2,null,null,null],[\"childList\",1,[3],[],2,null,null,null]]}\n")
    ∷ []

pub node_before_itself : output_of whole_table usual_bounds (bytes_given exchanges) ≡ bytes_due exchanges
unfolding computing
node_before_itself = refl

pub node_before_itself-misses_nothing : MissesNothing whole_table usual_bounds (bytes_given exchanges)
unfolding computing
node_before_itself-misses_nothing = record { ends = refl; texts = refl; worlds = refl; contents = refl }
