-- A dialogue, from bytes to bytes: transient registrations.
use Rattle.dom_model.proofs.Dialogues.Exchanges.{◌≡◌, refl, List, codes, [], ◌∷◌, usual_bounds, whole_table, output_of, Exchange, bytes_given, bytes_due, MissesNothing, computing}

abbrev exchanges : List Exchange
exchanges =
    (codes "[\"createElement\",0,\"p\"]\n", codes "{\"ok\":1}\n")
    ∷ (codes "[\"createText\",0,\"a\"]\n", codes "{\"ok\":2}\n")
    ∷ (codes "[\"appendChild\",1,2]\n", codes "{\"ok\":2}\n")
    ∷ (codes "[\"createObserver\"]\n", codes "{\"ok\":0}\n")
    ∷ (codes "[\"observe\",0,1,{\"characterData\":true,\"subtree\":true}]\n", codes "{\"ok\":null}\n")
    ∷ (codes "[\"remove\",2]\n", codes "{\"ok\":null}\n")
    ∷ (codes "[\"setData\",2,\"b\"]\n", codes "{\"ok\":null}\n")
    ∷ (codes "[\"notify\"]\n", codes "{\"ok\":[[0,[[\"characterData\",2,[],[],null,null,null,null]]]]}\n")
    ∷ (codes "[\"setData\",2,\"c\"]\n", codes "{\"ok\":null}\n")
    ∷ (codes "[\"notify\"]\n", codes "{\"ok\":[]}\n")
    ∷ (codes "[\"appendChild\",1,2]\n", codes "{\"ok\":2}\n")
    ∷ (codes "[\"remove\",2]\n", codes "{\"ok\":null}\n")
    ∷ (codes "[\"observe\",0,2,{\"characterDataOldValue\":true}]\n", codes "{\"ok\":null}\n")
    ∷ (codes "[\"setData\",2,\"d\"]\n", codes "{\"ok\":null}\n")
    ∷ (codes "[\"takeRecords\",0]\n", codes "{\"ok\":[[\"characterData\",2,[],[],null,null,null,\"c\"]]}\n")
    ∷ (codes "[\"pending\"]\n", codes "{\"ok\":[0]}\n")
    ∷ (codes "[\"notify\"]\n", codes "{\"ok\":[]}\n")
    ∷ (codes "[\"setData\",2,\"e\"]\n", codes "{\"ok\":null}\n")
    ∷ (codes "[\"takeRecords\",0]\n", codes "{\"ok\":[[\"characterData\",2,[],[],null,null,null,\"d\"]]}\n")
    ∷ []

pub transient_registrations : output_of whole_table usual_bounds (bytes_given exchanges) ≡ bytes_due exchanges
unfolding computing
transient_registrations = refl

pub transient_registrations-misses_nothing : MissesNothing whole_table usual_bounds (bytes_given exchanges)
unfolding computing
transient_registrations-misses_nothing = record { ends = refl; texts = refl; worlds = refl; contents = refl }
