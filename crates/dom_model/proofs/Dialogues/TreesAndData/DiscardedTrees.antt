-- A dialogue, from bytes to bytes: discarded trees.
use Rattle.dom_model.proofs.Dialogues.Exchanges.{◌≡◌, refl, List, codes, [], ◌∷◌, usual_bounds, whole_table, output_of, Exchange, bytes_given, bytes_due, MissesNothing, computing}

abbrev exchanges : List Exchange
exchanges =
    (codes "[\"createElement\",0,\"p\"]\n", codes "{\"ok\":1}\n")
    ∷ (codes "[\"createText\",0,\"a\"]\n", codes "{\"ok\":2}\n")
    ∷ (codes "[\"appendChild\",1,2]\n", codes "{\"ok\":2}\n")
    ∷ (codes "[\"discard\",2]\n", codes "{\"error\":\"in-use\"}\n")
    ∷ (codes "[\"remove\",2]\n", codes "{\"ok\":null}\n")
    ∷ (codes "[\"createRange\",0]\n", codes "{\"ok\":0}\n")
    ∷ (codes "[\"setStart\",0,2,0]\n", codes "{\"ok\":null}\n")
    ∷ (codes "[\"discard\",2]\n", codes "{\"error\":\"in-use\"}\n")
    ∷ (codes "[\"releaseRange\",0]\n", codes "{\"ok\":null}\n")
    ∷ (codes "[\"discard\",2]\n", codes "{\"ok\":null}\n")
    ∷ (codes "[\"data\",2]\n", codes "{\"error\":\"no-such-object\"}\n")
    ∷ (codes "[\"createText\",0,\"b\"]\n", codes "{\"ok\":3}\n")
    ∷ (codes "[\"createObserver\"]\n", codes "{\"ok\":0}\n")
    ∷ (codes "[\"observe\",0,1,{\"childList\":true}]\n", codes "{\"ok\":null}\n")
    ∷ (codes "[\"appendChild\",1,3]\n", codes "{\"ok\":3}\n")
    ∷ (codes "[\"removeChild\",1,3]\n", codes "{\"ok\":3}\n")
    ∷ (codes "[\"discard\",3]\n", codes "{\"error\":\"in-use\"}\n")
    ∷ (codes "[\"takeRecords\",0]\n", codes "{\"ok\":[[\"childList\",1,[3],[],null,null,null,null],[\"childList\",1,[],[3],null,null,null,null]]}\n")
    ∷ (codes "[\"discard\",3]\n", codes "{\"ok\":null}\n")
    ∷ (codes "[\"discard\",0]\n", codes "{\"error\":\"in-use\"}\n")
    ∷ (codes "[\"newDocument\"]\n", codes "{\"ok\":4}\n")
    ∷ (codes "[\"adoptNode\",4,1]\n", codes "{\"ok\":1}\n")
    ∷ (codes "[\"discard\",0]\n", codes "{\"ok\":null}\n")
    ∷ (codes "[\"tree\",0]\n", codes "{\"error\":\"no-such-object\"}\n")
    ∷ (codes "[\"discard\",1]\n", codes "{\"error\":\"in-use\"}\n")
    ∷ (codes "[\"disconnect\",0]\n", codes "{\"ok\":null}\n")
    ∷ (codes "[\"discard\",1]\n", codes "{\"ok\":null}\n")
    ∷ (codes "[\"tree\",4]\n", codes "{\"ok\":[[0,4,9,\"#document\"]]}\n")
    ∷ []

pub discarded_trees : output_of whole_table usual_bounds (bytes_given exchanges) ≡ bytes_due exchanges
unfolding computing
discarded_trees = refl

pub discarded_trees-misses_nothing : MissesNothing whole_table usual_bounds (bytes_given exchanges)
unfolding computing
discarded_trees-misses_nothing = record { ends = refl; texts = refl; worlds = refl; contents = refl }
