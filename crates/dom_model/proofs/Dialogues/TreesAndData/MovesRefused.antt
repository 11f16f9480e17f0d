-- A dialogue, from bytes to bytes: moves refused.
use Rattle.dom_model.proofs.Dialogues.Exchanges.{◌≡◌, refl, List, codes, [], ◌∷◌, usual_bounds, whole_table, output_of, Exchange, bytes_given, bytes_due, MissesNothing, computing}

abbrev exchanges : List Exchange
exchanges =
    (codes "[\"createElement\",0,\"a\"]\n", codes "{\"ok\":1}\n")
    ∷ (codes "[\"createElement\",0,\"b\"]\n", codes "{\"ok\":2}\n")
    ∷ (codes "[\"createText\",0,\"t\"]\n", codes "{\"ok\":3}\n")
    ∷ (codes "[\"appendChild\",1,2]\n", codes "{\"ok\":2}\n")
    ∷ (codes "[\"appendChild\",2,1]\n", codes "{\"error\":\"HierarchyRequestError\"}\n")
    ∷ (codes "[\"appendChild\",0,3]\n", codes "{\"error\":\"HierarchyRequestError\"}\n")
    ∷ (codes "[\"appendChild\",2,3]\n", codes "{\"ok\":3}\n")
    ∷ (codes "[\"appendChild\",1,3]\n", codes "{\"ok\":3}\n")
    ∷ (codes "[\"tree\",1]\n", codes "{\"ok\":[[0,1,1,\"a\",[]],[1,2,1,\"b\",[]],[1,3,3,\"#text\",\"t\"]]}\n")
    ∷ (codes "[\"newDocument\"]\n", codes "{\"ok\":4}\n")
    ∷ (codes "[\"appendChild\",0,4]\n", codes "{\"error\":\"HierarchyRequestError\"}\n")
    ∷ (codes "[\"createElement\",0,\"1a\"]\n", codes "{\"error\":\"InvalidCharacterError\"}\n")
    ∷ (codes "[\"newDocument\"]\n", codes "{\"ok\":5}\n")
    ∷ []

pub moves_refused : output_of whole_table usual_bounds (bytes_given exchanges) ≡ bytes_due exchanges
unfolding computing
moves_refused = refl

pub moves_refused-misses_nothing : MissesNothing whole_table usual_bounds (bytes_given exchanges)
unfolding computing
moves_refused-misses_nothing = record { ends = refl; texts = refl; worlds = refl; contents = refl }
