-- A dialogue, from bytes to bytes: data parts refused.
use Rattle.dom_model.proofs.Dialogues.Exchanges.{◌≡◌, refl, List, codes, [], ◌∷◌, usual_bounds, whole_table, output_of, Exchange, bytes_given, bytes_due, MissesNothing, computing}

abbrev exchanges : List Exchange
exchanges =
    (codes "[\"createElement\",0,\"e\"]\n", codes "{\"ok\":1}\n")
    ∷ (codes "[\"createText\",0,\"t\"]\n", codes "{\"ok\":2}\n")
    ∷ (codes "[\"createComment\",0,\"c\"]\n", codes "{\"ok\":3}\n")
    ∷ (codes "[\"data\"]\n", codes "{\"error\":\"bad-arguments\"}\n")
    ∷ (codes "[\"data\",3,0]\n", codes "{\"error\":\"bad-arguments\"}\n")
    ∷ (codes "[\"data\",\"x\"]\n", codes "{\"error\":\"bad-arguments\"}\n")
    ∷ (codes "[\"data\",99]\n", codes "{\"error\":\"no-such-object\"}\n")
    ∷ (codes "[\"data\",1]\n", codes "{\"error\":\"TypeError\"}\n")
    ∷ (codes "[\"substringData\",3,0]\n", codes "{\"error\":\"bad-arguments\"}\n")
    ∷ (codes "[\"substringData\",3,0,0,0]\n", codes "{\"error\":\"bad-arguments\"}\n")
    ∷ (codes "[\"substringData\",\"x\",0,0]\n", codes "{\"error\":\"bad-arguments\"}\n")
    ∷ (codes "[\"substringData\",3,\"x\",0]\n", codes "{\"error\":\"bad-arguments\"}\n")
    ∷ (codes "[\"substringData\",3,0,\"x\"]\n", codes "{\"error\":\"bad-arguments\"}\n")
    ∷ (codes "[\"substringData\",99,0,0]\n", codes "{\"error\":\"no-such-object\"}\n")
    ∷ (codes "[\"substringData\",1,0,0]\n", codes "{\"error\":\"TypeError\"}\n")
    ∷ (codes "[\"splitText\",2]\n", codes "{\"error\":\"bad-arguments\"}\n")
    ∷ (codes "[\"splitText\",2,0,0]\n", codes "{\"error\":\"bad-arguments\"}\n")
    ∷ (codes "[\"splitText\",\"x\",0]\n", codes "{\"error\":\"bad-arguments\"}\n")
    ∷ (codes "[\"splitText\",2,\"x\"]\n", codes "{\"error\":\"bad-arguments\"}\n")
    ∷ (codes "[\"splitText\",99,0]\n", codes "{\"error\":\"no-such-object\"}\n")
    ∷ (codes "[\"splitText\",3,0]\n", codes "{\"error\":\"TypeError\"}\n")
    ∷ (codes "[\"createText\",0,\"t\"]\n", codes "{\"ok\":4}\n")
    ∷ (codes "[\"tree\",1]\n", codes "{\"ok\":[[0,1,1,\"e\",[]]]}\n")
    ∷ []

pub data_parts_refused : output_of whole_table usual_bounds (bytes_given exchanges) ≡ bytes_due exchanges
unfolding computing
data_parts_refused = refl

pub data_parts_refused-misses_nothing : MissesNothing whole_table usual_bounds (bytes_given exchanges)
unfolding computing
data_parts_refused-misses_nothing = record { ends = refl; texts = refl; worlds = refl; contents = refl }
