-- A dialogue, from bytes to bytes: order of children.
use Rattle.dom_model.proofs.Dialogues.Exchanges.{◌≡◌, refl, List, codes, [], ◌∷◌, usual_bounds, whole_table, output_of, Exchange, bytes_given, bytes_due, MissesNothing, computing}

abbrev exchanges : List Exchange
exchanges =
    (codes "[\"createElement\",0,\"r\"]\n", codes "{\"ok\":1}\n")
    ∷ (codes "[\"createElement\",0,\"a\"]\n", codes "{\"ok\":2}\n")
    ∷ (codes "[\"createElement\",0,\"b\"]\n", codes "{\"ok\":3}\n")
    ∷ (codes "[\"createText\",0,\"t\"]\n", codes "{\"ok\":4}\n")
    ∷ (codes "[\"appendChild\",0,1]\n", codes "{\"ok\":1}\n")
    ∷ (codes "[\"appendChild\",1,2]\n", codes "{\"ok\":2}\n")
    ∷ (codes "[\"appendChild\",1,3]\n", codes "{\"ok\":3}\n")
    ∷ (codes "[\"appendChild\",1,4]\n", codes "{\"ok\":4}\n")
    ∷ (codes "[\"tree\",1]\n", codes "{\"ok\":[[0,1,1,\"r\",[]],[1,2,1,\"a\",[]],[1,3,1,\"b\",[]],[1,4,3,\"#text\",\"t\"]]}\n")
    ∷ (codes "[\"appendChild\",1,2]\n", codes "{\"ok\":2}\n")
    ∷ (codes "[\"appendChild\",3,4]\n", codes "{\"ok\":4}\n")
    ∷ (codes "[\"tree\",0]\n", codes "{\"ok\":[[0,0,9,\"#document\"],[1,1,1,\"r\",[]],[2,3,1,\"b\",[]],[3,4,3,\"#text\",\"t\"],[2,2,1,\"a\",[]]]}\n")
    ∷ (codes "[\"appendChild\",4,2]\n", codes "{\"error\":\"HierarchyRequestError\"}\n")
    ∷ (codes "[\"appendChild\",3,1]\n", codes "{\"error\":\"HierarchyRequestError\"}\n")
    ∷ (codes "[\"appendChild\",3,3]\n", codes "{\"error\":\"HierarchyRequestError\"}\n")
    ∷ (codes "[\"appendChild\",3,0]\n", codes "{\"error\":\"HierarchyRequestError\"}\n")
    ∷ (codes "[\"appendChild\",0,2]\n", codes "{\"error\":\"HierarchyRequestError\"}\n")
    ∷ (codes "[\"appendChild\",0,1]\n", codes "{\"error\":\"HierarchyRequestError\"}\n")
    ∷ (codes "[\"appendChild\",0,4]\n", codes "{\"error\":\"HierarchyRequestError\"}\n")
    ∷ (codes "[\"tree\",0]\n", codes "{\"ok\":[[0,0,9,\"#document\"],[1,1,1,\"r\",[]],[2,3,1,\"b\",[]],[3,4,3,\"#text\",\"t\"],[2,2,1,\"a\",[]]]}\n")
    ∷ []

pub order_of_children : output_of whole_table usual_bounds (bytes_given exchanges) ≡ bytes_due exchanges
unfolding computing
order_of_children = refl

pub order_of_children-misses_nothing : MissesNothing whole_table usual_bounds (bytes_given exchanges)
unfolding computing
order_of_children-misses_nothing = record { ends = refl; texts = refl; worlds = refl; contents = refl }
