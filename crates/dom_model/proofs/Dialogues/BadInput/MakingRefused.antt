-- A dialogue, from bytes to bytes: making refused.
use Rattle.dom_model.proofs.Dialogues.Exchanges.{◌≡◌, refl, List, codes, [], ◌∷◌, usual_bounds, whole_table, output_of, Exchange, bytes_given, bytes_due, MissesNothing, computing}

abbrev exchanges : List Exchange
exchanges =
    (codes "[\"createElement\",0,\"e\"]\n", codes "{\"ok\":1}\n")
    ∷ (codes "[\"newDocument\",0]\n", codes "{\"error\":\"bad-arguments\"}\n")
    ∷ (codes "[\"createElement\",0]\n", codes "{\"error\":\"bad-arguments\"}\n")
    ∷ (codes "[\"createElement\",0,\"y\",0]\n", codes "{\"error\":\"bad-arguments\"}\n")
    ∷ (codes "[\"createElement\",\"x\",\"y\"]\n", codes "{\"error\":\"bad-arguments\"}\n")
    ∷ (codes "[\"createElement\",0,7]\n", codes "{\"error\":\"bad-arguments\"}\n")
    ∷ (codes "[\"createElement\",99,\"y\"]\n", codes "{\"error\":\"no-such-object\"}\n")
    ∷ (codes "[\"createElement\",1,\"y\"]\n", codes "{\"error\":\"TypeError\"}\n")
    ∷ (codes "[\"createText\",0]\n", codes "{\"error\":\"bad-arguments\"}\n")
    ∷ (codes "[\"createText\",0,\"y\",0]\n", codes "{\"error\":\"bad-arguments\"}\n")
    ∷ (codes "[\"createText\",\"x\",\"y\"]\n", codes "{\"error\":\"bad-arguments\"}\n")
    ∷ (codes "[\"createText\",0,7]\n", codes "{\"error\":\"bad-arguments\"}\n")
    ∷ (codes "[\"createText\",99,\"y\"]\n", codes "{\"error\":\"no-such-object\"}\n")
    ∷ (codes "[\"createText\",1,\"y\"]\n", codes "{\"error\":\"TypeError\"}\n")
    ∷ (codes "[\"createComment\",0]\n", codes "{\"error\":\"bad-arguments\"}\n")
    ∷ (codes "[\"createComment\",0,\"y\",0]\n", codes "{\"error\":\"bad-arguments\"}\n")
    ∷ (codes "[\"createComment\",\"x\",\"y\"]\n", codes "{\"error\":\"bad-arguments\"}\n")
    ∷ (codes "[\"createComment\",0,7]\n", codes "{\"error\":\"bad-arguments\"}\n")
    ∷ (codes "[\"createComment\",99,\"y\"]\n", codes "{\"error\":\"no-such-object\"}\n")
    ∷ (codes "[\"createComment\",1,\"y\"]\n", codes "{\"error\":\"TypeError\"}\n")
    ∷ (codes "[\"createPI\",0,\"y\"]\n", codes "{\"error\":\"bad-arguments\"}\n")
    ∷ (codes "[\"createPI\",0,\"y\",\"y\",0]\n", codes "{\"error\":\"bad-arguments\"}\n")
    ∷ (codes "[\"createPI\",\"x\",\"y\",\"y\"]\n", codes "{\"error\":\"bad-arguments\"}\n")
    ∷ (codes "[\"createPI\",0,7,\"y\"]\n", codes "{\"error\":\"bad-arguments\"}\n")
    ∷ (codes "[\"createPI\",0,\"y\",7]\n", codes "{\"error\":\"bad-arguments\"}\n")
    ∷ (codes "[\"createPI\",99,\"y\",\"y\"]\n", codes "{\"error\":\"no-such-object\"}\n")
    ∷ (codes "[\"createPI\",1,\"y\",\"y\"]\n", codes "{\"error\":\"TypeError\"}\n")
    ∷ (codes "[\"createDoctype\",0,\"y\",\"y\"]\n", codes "{\"error\":\"bad-arguments\"}\n")
    ∷ (codes "[\"createDoctype\",0,\"y\",\"y\",\"y\",0]\n", codes "{\"error\":\"bad-arguments\"}\n")
    ∷ (codes "[\"createDoctype\",\"x\",\"y\",\"y\",\"y\"]\n", codes "{\"error\":\"bad-arguments\"}\n")
    ∷ (codes "[\"createDoctype\",0,7,\"y\",\"y\"]\n", codes "{\"error\":\"bad-arguments\"}\n")
    ∷ (codes "[\"createDoctype\",0,\"y\",7,\"y\"]\n", codes "{\"error\":\"bad-arguments\"}\n")
    ∷ (codes "[\"createDoctype\",0,\"y\",\"y\",7]\n", codes "{\"error\":\"bad-arguments\"}\n")
    ∷ (codes "[\"createDoctype\",99,\"y\",\"y\",\"y\"]\n", codes "{\"error\":\"no-such-object\"}\n")
    ∷ (codes "[\"createDoctype\",1,\"y\",\"y\",\"y\"]\n", codes "{\"error\":\"TypeError\"}\n")
    ∷ (codes "[\"createFragment\"]\n", codes "{\"error\":\"bad-arguments\"}\n")
    ∷ (codes "[\"createFragment\",0,0]\n", codes "{\"error\":\"bad-arguments\"}\n")
    ∷ (codes "[\"createFragment\",\"x\"]\n", codes "{\"error\":\"bad-arguments\"}\n")
    ∷ (codes "[\"createFragment\",99]\n", codes "{\"error\":\"no-such-object\"}\n")
    ∷ (codes "[\"createFragment\",1]\n", codes "{\"error\":\"TypeError\"}\n")
    ∷ (codes "[\"createText\",0,\"t\"]\n", codes "{\"ok\":2}\n")
    ∷ []

pub making_refused : output_of whole_table usual_bounds (bytes_given exchanges) ≡ bytes_due exchanges
unfolding computing
making_refused = refl

pub making_refused-misses_nothing : MissesNothing whole_table usual_bounds (bytes_given exchanges)
unfolding computing
making_refused-misses_nothing = record { ends = refl; texts = refl; worlds = refl; contents = refl }
