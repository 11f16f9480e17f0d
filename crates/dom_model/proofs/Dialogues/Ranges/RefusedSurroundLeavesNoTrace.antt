-- A dialogue, from bytes to bytes: refused surround leaves no trace.
use Rattle.dom_model.proofs.Dialogues.Exchanges.{◌≡◌, refl, List, codes, [], ◌∷◌, usual_bounds, whole_table, output_of, Exchange, bytes_given, bytes_due, MissesNothing, computing}

abbrev exchanges : List Exchange
exchanges =
    (codes "[\"createElement\",0,\"r\"]\n", codes "{\"ok\":1}\n")
    ∷ (codes "[\"createText\",0,\"abc\"]\n", codes "{\"ok\":2}\n")
    ∷ (codes "[\"createComment\",0,\"k\"]\n", codes "{\"ok\":3}\n")
    ∷ (codes "[\"appendChild\",1,2]\n", codes "{\"ok\":2}\n")
    ∷ (codes "[\"createObserver\"]\n", codes "{\"ok\":0}\n")
    ∷ (codes "[\"observe\",0,1,{\"childList\":true,\"characterData\":true,\"subtree\":true}]\n", codes "{\"ok\":null}\n")
    ∷ (codes "[\"createRange\",0]\n", codes "{\"ok\":0}\n")
    ∷ (codes "[\"setStart\",0,2,1]\n", codes "{\"ok\":null}\n")
    ∷ (codes "[\"setEnd\",0,2,2]\n", codes "{\"ok\":null}\n")
    ∷ (codes "[\"surroundContents\",0,3]\n", codes "{\"error\":\"HierarchyRequestError\"}\n")
    ∷ (codes "[\"takeRecords\",0]\n", codes "{\"ok\":[]}\n")
    ∷ (codes "[\"range\",0]\n", codes "{\"ok\":[2,1,2,2]}\n")
    ∷ (codes "[\"tree\",1]\n", codes "{\"ok\":[[0,1,1,\"r\",[]],[1,2,3,\"#text\",\"abc\"]]}\n")
    ∷ (codes "[\"node\",3]\n", codes "{\"ok\":{\"document\":0,\"name\":\"#comment\",\"next\":null,\"parent\":null,\"previous\":null,\"type\":8}}\n")
    ∷ (codes "[\"createText\",0,\"n\"]\n", codes "{\"ok\":4}\n")
    ∷ (codes "[\"setStart\",0,4,0]\n", codes "{\"ok\":null}\n")
    ∷ (codes "[\"insertNode\",0,3]\n", codes "{\"error\":\"HierarchyRequestError\"}\n")
    ∷ (codes "[\"takeRecords\",0]\n", codes "{\"ok\":[]}\n")
    ∷ []

pub refused_surround_leaves_no_trace : output_of whole_table usual_bounds (bytes_given exchanges) ≡ bytes_due exchanges
unfolding computing
refused_surround_leaves_no_trace = refl

pub refused_surround_leaves_no_trace-misses_nothing : MissesNothing whole_table usual_bounds (bytes_given exchanges)
unfolding computing
refused_surround_leaves_no_trace-misses_nothing = record { ends = refl; texts = refl; worlds = refl; contents = refl }
