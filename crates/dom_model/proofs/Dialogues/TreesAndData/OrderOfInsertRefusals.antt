-- A dialogue, from bytes to bytes: order of insert refusals.
use Rattle.dom_model.proofs.Dialogues.Exchanges.{◌≡◌, refl, List, codes, [], ◌∷◌, usual_bounds, whole_table, output_of, Exchange, bytes_given, bytes_due, MissesNothing, computing}

abbrev exchanges : List Exchange
exchanges =
    (codes "[\"createElement\",0,\"a\"]\n", codes "{\"ok\":1}\n")
    ∷ (codes "[\"createElement\",0,\"b\"]\n", codes "{\"ok\":2}\n")
    ∷ (codes "[\"createElement\",0,\"c\"]\n", codes "{\"ok\":3}\n")
    ∷ (codes "[\"appendChild\",1,2]\n", codes "{\"ok\":2}\n")
    ∷ (codes "[\"insertBefore\",2,1,3]\n", codes "{\"error\":\"HierarchyRequestError\"}\n")
    ∷ (codes "[\"insertBefore\",2,3,2]\n", codes "{\"error\":\"NotFoundError\"}\n")
    ∷ (codes "[\"replaceChild\",1,2,3]\n", codes "{\"error\":\"NotFoundError\"}\n")
    ∷ (codes "[\"removeChild\",2,1]\n", codes "{\"error\":\"NotFoundError\"}\n")
    ∷ []

pub order_of_insert_refusals : output_of whole_table usual_bounds (bytes_given exchanges) ≡ bytes_due exchanges
unfolding computing
order_of_insert_refusals = refl

pub order_of_insert_refusals-misses_nothing : MissesNothing whole_table usual_bounds (bytes_given exchanges)
unfolding computing
order_of_insert_refusals-misses_nothing = record { ends = refl; texts = refl; worlds = refl; contents = refl }
