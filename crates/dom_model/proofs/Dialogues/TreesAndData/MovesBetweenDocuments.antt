-- A dialogue, from bytes to bytes: moves between documents.
use Rattle.dom_model.proofs.Dialogues.Exchanges.{◌≡◌, refl, List, codes, [], ◌∷◌, ◌++◌, usual_bounds, whole_table, output_of, Exchange, bytes_given, bytes_due, MissesNothing, computing}

abbrev exchanges : List Exchange
exchanges =
    (codes "[\"createElement\",0,\"r\"]\n", codes "{\"ok\":1}\n")
    ∷ (codes "[\"createText\",0,\"" ++ (195 ∷ 169 ∷ []) ++ codes "\"]\n", codes "{\"ok\":2}\n")
    ∷ (codes "[\"appendChild\",1,2]\n", codes "{\"ok\":2}\n")
    ∷ (codes "[\"appendChild\",0,1]\n", codes "{\"ok\":1}\n")
    ∷ (codes "[\"newDocument\"]\n", codes "{\"ok\":3}\n")
    ∷ (codes "[\"appendChild\",3,1]\n", codes "{\"ok\":1}\n")
    ∷ (codes "[\"tree\",0]\n", codes "{\"ok\":[[0,0,9,\"#document\"]]}\n")
    ∷ (codes "[\"tree\",3]\n", codes "{\"ok\":[[0,3,9,\"#document\"],[1,1,1,\"r\",[]],[2,2,3,\"#text\",\"" ++ (195 ∷ 169 ∷ []) ++ codes "\"]]}\n")
    ∷ (codes "[\"createElement\",3,\"s\"]\n", codes "{\"ok\":4}\n")
    ∷ (codes "[\"appendChild\",0,4]\n", codes "{\"ok\":4}\n")
    ∷ (codes "[\"appendChild\",4,2]\n", codes "{\"ok\":2}\n")
    ∷ (codes "[\"appendChild\",0,1]\n", codes "{\"error\":\"HierarchyRequestError\"}\n")
    ∷ (codes "[\"tree\",0]\n", codes "{\"ok\":[[0,0,9,\"#document\"],[1,4,1,\"s\",[]],[2,2,3,\"#text\",\"" ++ (195 ∷ 169 ∷ []) ++ codes "\"]]}\n")
    ∷ (codes "[\"tree\",3]\n", codes "{\"ok\":[[0,3,9,\"#document\"],[1,1,1,\"r\",[]]]}\n")
    ∷ []

pub moves_between_documents : output_of whole_table usual_bounds (bytes_given exchanges) ≡ bytes_due exchanges
unfolding computing
moves_between_documents = refl

pub moves_between_documents-misses_nothing : MissesNothing whole_table usual_bounds (bytes_given exchanges)
unfolding computing
moves_between_documents-misses_nothing = record { ends = refl; texts = refl; worlds = refl; contents = refl }
