-- A dialogue, from bytes to bytes: fragment observed.
use Rattle.dom_model.proofs.Dialogues.Exchanges.{◌≡◌, refl, List, codes, [], ◌∷◌, usual_bounds, whole_table, output_of, Exchange, bytes_given, bytes_due, MissesNothing, computing}

abbrev exchanges : List Exchange
exchanges =
    (codes "[\"createElement\",0,\"p\"]\n", codes "{\"ok\":1}\n")
    ∷ (codes "[\"createFragment\",0]\n", codes "{\"ok\":2}\n")
    ∷ (codes "[\"createText\",0,\"a\"]\n", codes "{\"ok\":3}\n")
    ∷ (codes "[\"appendChild\",2,3]\n", codes "{\"ok\":3}\n")
    ∷ (codes "[\"createObserver\"]\n", codes "{\"ok\":0}\n")
    ∷ (codes "[\"createObserver\"]\n", codes "{\"ok\":1}\n")
    ∷ (codes "[\"observe\",0,2,{\"childList\":true}]\n", codes "{\"ok\":null}\n")
    ∷ (codes "[\"appendChild\",1,2]\n", codes "{\"ok\":2}\n")
    ∷ (codes "[\"takeRecords\",0]\n", codes "{\"ok\":[[\"childList\",2,[],[3],null,null,null,null]]}\n")
    ∷ (codes "[\"createElement\",0,\"b\"]\n", codes "{\"ok\":4}\n")
    ∷ (codes "[\"observe\",1,1,{\"attributes\":true,\"subtree\":true}]\n", codes "{\"ok\":null}\n")
    ∷ (codes "[\"replaceChildren\",1,4]\n", codes "{\"ok\":null}\n")
    ∷ (codes "[\"replaceChildren\",1,null]\n", codes "{\"ok\":null}\n")
    ∷ (codes "[\"setAttribute\",4,\"k\",\"v\"]\n", codes "{\"ok\":null}\n")
    ∷ (codes "[\"takeRecords\",1]\n", codes "{\"ok\":[[\"attributes\",4,[],[],null,null,\"k\",null]]}\n")
    ∷ []

pub fragment_observed : output_of whole_table usual_bounds (bytes_given exchanges) ≡ bytes_due exchanges
unfolding computing
fragment_observed = refl

pub fragment_observed-misses_nothing : MissesNothing whole_table usual_bounds (bytes_given exchanges)
unfolding computing
fragment_observed-misses_nothing = record { ends = refl; texts = refl; worlds = refl; contents = refl }
