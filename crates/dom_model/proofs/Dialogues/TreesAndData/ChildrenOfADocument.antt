-- A dialogue, from bytes to bytes: children of a document.
use Rattle.dom_model.proofs.Dialogues.Exchanges.{◌≡◌, refl, List, codes, [], ◌∷◌, usual_bounds, whole_table, output_of, Exchange, bytes_given, bytes_due, MissesNothing, computing}

abbrev exchanges : List Exchange
exchanges =
    (codes "[\"createElement\",0,\"r\"]\n", codes "{\"ok\":1}\n")
    ∷ (codes "[\"createDoctype\",0,\"html\",\"\",\"\"]\n", codes "{\"ok\":2}\n")
    ∷ (codes "[\"createText\",0,\"x\"]\n", codes "{\"ok\":3}\n")
    ∷ (codes "[\"createElement\",0,\"s\"]\n", codes "{\"ok\":4}\n")
    ∷ (codes "[\"createFragment\",0]\n", codes "{\"ok\":5}\n")
    ∷ (codes "[\"createComment\",0,\"c\"]\n", codes "{\"ok\":6}\n")
    ∷ (codes "[\"createElement\",0,\"u\"]\n", codes "{\"ok\":7}\n")
    ∷ (codes "[\"appendChild\",0,1]\n", codes "{\"ok\":1}\n")
    ∷ (codes "[\"appendChild\",0,4]\n", codes "{\"error\":\"HierarchyRequestError\"}\n")
    ∷ (codes "[\"appendChild\",0,3]\n", codes "{\"error\":\"HierarchyRequestError\"}\n")
    ∷ (codes "[\"appendChild\",0,2]\n", codes "{\"error\":\"HierarchyRequestError\"}\n")
    ∷ (codes "[\"insertBefore\",0,2,1]\n", codes "{\"ok\":2}\n")
    ∷ (codes "[\"insertBefore\",0,4,2]\n", codes "{\"error\":\"HierarchyRequestError\"}\n")
    ∷ (codes "[\"appendChild\",0,6]\n", codes "{\"ok\":6}\n")
    ∷ (codes "[\"appendChild\",5,4]\n", codes "{\"ok\":4}\n")
    ∷ (codes "[\"appendChild\",5,7]\n", codes "{\"ok\":7}\n")
    ∷ (codes "[\"replaceChild\",0,5,1]\n", codes "{\"error\":\"HierarchyRequestError\"}\n")
    ∷ (codes "[\"children\",0]\n", codes "{\"ok\":[2,1,6]}\n")
    ∷ (codes "[\"removeChild\",0,1]\n", codes "{\"ok\":1}\n")
    ∷ (codes "[\"insertBefore\",0,1,2]\n", codes "{\"error\":\"HierarchyRequestError\"}\n")
    ∷ (codes "[\"insertBefore\",0,6,2]\n", codes "{\"ok\":6}\n")
    ∷ (codes "[\"insertBefore\",0,1,6]\n", codes "{\"error\":\"HierarchyRequestError\"}\n")
    ∷ (codes "[\"appendChild\",0,1]\n", codes "{\"ok\":1}\n")
    ∷ (codes "[\"children\",0]\n", codes "{\"ok\":[6,2,1]}\n")
    ∷ []

pub children_of_a_document : output_of whole_table usual_bounds (bytes_given exchanges) ≡ bytes_due exchanges
unfolding computing
children_of_a_document = refl

pub children_of_a_document-misses_nothing : MissesNothing whole_table usual_bounds (bytes_given exchanges)
unfolding computing
children_of_a_document-misses_nothing = record { ends = refl; texts = refl; worlds = refl; contents = refl }
