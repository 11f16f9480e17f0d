-- A dialogue, from bytes to bytes: attributes in order.
use Rattle.dom_model.proofs.Dialogues.Exchanges.{◌≡◌, refl, List, codes, [], ◌∷◌, usual_bounds, whole_table, output_of, Exchange, bytes_given, bytes_due, MissesNothing, computing}

abbrev exchanges : List Exchange
exchanges =
    (codes "[\"createElement\",0,\"e\"]\n", codes "{\"ok\":1}\n")
    ∷ (codes "[\"toggleAttribute\",1,\"k\",null]\n", codes "{\"ok\":true}\n")
    ∷ (codes "[\"setAttribute\",1,\"a\",\"1\"]\n", codes "{\"ok\":null}\n")
    ∷ (codes "[\"setAttribute\",1,\"k\",\"2\"]\n", codes "{\"ok\":null}\n")
    ∷ (codes "[\"tree\",1]\n", codes "{\"ok\":[[0,1,1,\"e\",[[\"k\",\"2\"],[\"a\",\"1\"]]]]}\n")
    ∷ (codes "[\"toggleAttribute\",1,\"k\",false]\n", codes "{\"ok\":false}\n")
    ∷ (codes "[\"attributeNames\",1]\n", codes "{\"ok\":[\"a\"]}\n")
    ∷ (codes "[\"setAttribute\",1,\"a b\",\"\"]\n", codes "{\"error\":\"InvalidCharacterError\"}\n")
    ∷ (codes "[\"createPI\",0,\"t\",\"?>\"]\n", codes "{\"error\":\"InvalidCharacterError\"}\n")
    ∷ (codes "[\"createElement\",0,\"1a\"]\n", codes "{\"error\":\"InvalidCharacterError\"}\n")
    ∷ []

pub attributes_in_order : output_of whole_table usual_bounds (bytes_given exchanges) ≡ bytes_due exchanges
unfolding computing
attributes_in_order = refl

pub attributes_in_order-misses_nothing : MissesNothing whole_table usual_bounds (bytes_given exchanges)
unfolding computing
attributes_in_order-misses_nothing = record { ends = refl; texts = refl; worlds = refl; contents = refl }
