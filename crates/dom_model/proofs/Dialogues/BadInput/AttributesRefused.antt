-- A dialogue, from bytes to bytes: attributes refused.
use Rattle.dom_model.proofs.Dialogues.Exchanges.{◌≡◌, refl, List, codes, [], ◌∷◌, usual_bounds, whole_table, output_of, Exchange, bytes_given, bytes_due, MissesNothing, computing}

abbrev exchanges : List Exchange
exchanges =
    (codes "[\"createElement\",0,\"e\"]\n", codes "{\"ok\":1}\n")
    ∷ (codes "[\"createText\",0,\"t\"]\n", codes "{\"ok\":2}\n")
    ∷ (codes "[\"createComment\",0,\"c\"]\n", codes "{\"ok\":3}\n")
    ∷ (codes "[\"setAttribute\",1,\"y\"]\n", codes "{\"error\":\"bad-arguments\"}\n")
    ∷ (codes "[\"setAttribute\",1,\"y\",\"y\",0]\n", codes "{\"error\":\"bad-arguments\"}\n")
    ∷ (codes "[\"setAttribute\",\"x\",\"y\",\"y\"]\n", codes "{\"error\":\"bad-arguments\"}\n")
    ∷ (codes "[\"setAttribute\",1,7,\"y\"]\n", codes "{\"error\":\"bad-arguments\"}\n")
    ∷ (codes "[\"setAttribute\",1,\"y\",7]\n", codes "{\"error\":\"bad-arguments\"}\n")
    ∷ (codes "[\"setAttribute\",99,\"y\",\"y\"]\n", codes "{\"error\":\"no-such-object\"}\n")
    ∷ (codes "[\"setAttribute\",2,\"y\",\"y\"]\n", codes "{\"error\":\"TypeError\"}\n")
    ∷ (codes "[\"getAttribute\",1]\n", codes "{\"error\":\"bad-arguments\"}\n")
    ∷ (codes "[\"getAttribute\",1,\"y\",0]\n", codes "{\"error\":\"bad-arguments\"}\n")
    ∷ (codes "[\"getAttribute\",\"x\",\"y\"]\n", codes "{\"error\":\"bad-arguments\"}\n")
    ∷ (codes "[\"getAttribute\",1,7]\n", codes "{\"error\":\"bad-arguments\"}\n")
    ∷ (codes "[\"getAttribute\",99,\"y\"]\n", codes "{\"error\":\"no-such-object\"}\n")
    ∷ (codes "[\"getAttribute\",2,\"y\"]\n", codes "{\"error\":\"TypeError\"}\n")
    ∷ (codes "[\"hasAttribute\",1]\n", codes "{\"error\":\"bad-arguments\"}\n")
    ∷ (codes "[\"hasAttribute\",1,\"y\",0]\n", codes "{\"error\":\"bad-arguments\"}\n")
    ∷ (codes "[\"hasAttribute\",\"x\",\"y\"]\n", codes "{\"error\":\"bad-arguments\"}\n")
    ∷ (codes "[\"hasAttribute\",1,7]\n", codes "{\"error\":\"bad-arguments\"}\n")
    ∷ (codes "[\"hasAttribute\",99,\"y\"]\n", codes "{\"error\":\"no-such-object\"}\n")
    ∷ (codes "[\"hasAttribute\",2,\"y\"]\n", codes "{\"error\":\"TypeError\"}\n")
    ∷ (codes "[\"removeAttribute\",1]\n", codes "{\"error\":\"bad-arguments\"}\n")
    ∷ (codes "[\"removeAttribute\",1,\"y\",0]\n", codes "{\"error\":\"bad-arguments\"}\n")
    ∷ (codes "[\"removeAttribute\",\"x\",\"y\"]\n", codes "{\"error\":\"bad-arguments\"}\n")
    ∷ (codes "[\"removeAttribute\",1,7]\n", codes "{\"error\":\"bad-arguments\"}\n")
    ∷ (codes "[\"removeAttribute\",99,\"y\"]\n", codes "{\"error\":\"no-such-object\"}\n")
    ∷ (codes "[\"removeAttribute\",2,\"y\"]\n", codes "{\"error\":\"TypeError\"}\n")
    ∷ (codes "[\"toggleAttribute\",1,\"y\"]\n", codes "{\"error\":\"bad-arguments\"}\n")
    ∷ (codes "[\"toggleAttribute\",1,\"y\",null,0]\n", codes "{\"error\":\"bad-arguments\"}\n")
    ∷ (codes "[\"toggleAttribute\",\"x\",\"y\",null]\n", codes "{\"error\":\"bad-arguments\"}\n")
    ∷ (codes "[\"toggleAttribute\",1,7,null]\n", codes "{\"error\":\"bad-arguments\"}\n")
    ∷ (codes "[\"toggleAttribute\",1,\"y\",0]\n", codes "{\"error\":\"bad-arguments\"}\n")
    ∷ (codes "[\"toggleAttribute\",99,\"y\",null]\n", codes "{\"error\":\"no-such-object\"}\n")
    ∷ (codes "[\"toggleAttribute\",2,\"y\",null]\n", codes "{\"error\":\"TypeError\"}\n")
    ∷ (codes "[\"attributeNames\"]\n", codes "{\"error\":\"bad-arguments\"}\n")
    ∷ (codes "[\"attributeNames\",1,0]\n", codes "{\"error\":\"bad-arguments\"}\n")
    ∷ (codes "[\"attributeNames\",\"x\"]\n", codes "{\"error\":\"bad-arguments\"}\n")
    ∷ (codes "[\"attributeNames\",99]\n", codes "{\"error\":\"no-such-object\"}\n")
    ∷ (codes "[\"attributeNames\",2]\n", codes "{\"error\":\"TypeError\"}\n")
    ∷ (codes "[\"createText\",0,\"t\"]\n", codes "{\"ok\":4}\n")
    ∷ (codes "[\"tree\",1]\n", codes "{\"ok\":[[0,1,1,\"e\",[]]]}\n")
    ∷ []

pub attributes_refused : output_of whole_table usual_bounds (bytes_given exchanges) ≡ bytes_due exchanges
unfolding computing
attributes_refused = refl

pub attributes_refused-misses_nothing : MissesNothing whole_table usual_bounds (bytes_given exchanges)
unfolding computing
attributes_refused-misses_nothing = record { ends = refl; texts = refl; worlds = refl; contents = refl }
