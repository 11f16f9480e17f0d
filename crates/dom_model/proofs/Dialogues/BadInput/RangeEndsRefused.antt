-- A dialogue, from bytes to bytes: range ends refused.
use Rattle.dom_model.proofs.Dialogues.Exchanges.{◌≡◌, refl, List, codes, [], ◌∷◌, usual_bounds, whole_table, output_of, Exchange, bytes_given, bytes_due, MissesNothing, computing}

abbrev exchanges : List Exchange
exchanges =
    (codes "[\"createElement\",0,\"e\"]\n", codes "{\"ok\":1}\n")
    ∷ (codes "[\"createText\",0,\"t\"]\n", codes "{\"ok\":2}\n")
    ∷ (codes "[\"createComment\",0,\"c\"]\n", codes "{\"ok\":3}\n")
    ∷ (codes "[\"createRange\",0]\n", codes "{\"ok\":0}\n")
    ∷ (codes "[\"setStart\",0,1]\n", codes "{\"error\":\"bad-arguments\"}\n")
    ∷ (codes "[\"setStart\",0,1,0,0]\n", codes "{\"error\":\"bad-arguments\"}\n")
    ∷ (codes "[\"setStart\",\"x\",1,0]\n", codes "{\"error\":\"bad-arguments\"}\n")
    ∷ (codes "[\"setStart\",0,\"x\",0]\n", codes "{\"error\":\"bad-arguments\"}\n")
    ∷ (codes "[\"setStart\",0,1,\"x\"]\n", codes "{\"error\":\"bad-arguments\"}\n")
    ∷ (codes "[\"setStart\",99,1,0]\n", codes "{\"error\":\"no-such-object\"}\n")
    ∷ (codes "[\"setStart\",0,99,0]\n", codes "{\"error\":\"no-such-object\"}\n")
    ∷ (codes "[\"setEnd\",0,1]\n", codes "{\"error\":\"bad-arguments\"}\n")
    ∷ (codes "[\"setEnd\",0,1,0,0]\n", codes "{\"error\":\"bad-arguments\"}\n")
    ∷ (codes "[\"setEnd\",\"x\",1,0]\n", codes "{\"error\":\"bad-arguments\"}\n")
    ∷ (codes "[\"setEnd\",0,\"x\",0]\n", codes "{\"error\":\"bad-arguments\"}\n")
    ∷ (codes "[\"setEnd\",0,1,\"x\"]\n", codes "{\"error\":\"bad-arguments\"}\n")
    ∷ (codes "[\"setEnd\",99,1,0]\n", codes "{\"error\":\"no-such-object\"}\n")
    ∷ (codes "[\"setEnd\",0,99,0]\n", codes "{\"error\":\"no-such-object\"}\n")
    ∷ (codes "[\"setStartBefore\",0]\n", codes "{\"error\":\"bad-arguments\"}\n")
    ∷ (codes "[\"setStartBefore\",0,1,0]\n", codes "{\"error\":\"bad-arguments\"}\n")
    ∷ (codes "[\"setStartBefore\",\"x\",1]\n", codes "{\"error\":\"bad-arguments\"}\n")
    ∷ (codes "[\"setStartBefore\",0,\"x\"]\n", codes "{\"error\":\"bad-arguments\"}\n")
    ∷ (codes "[\"setStartBefore\",99,1]\n", codes "{\"error\":\"no-such-object\"}\n")
    ∷ (codes "[\"setStartBefore\",0,99]\n", codes "{\"error\":\"no-such-object\"}\n")
    ∷ (codes "[\"setStartAfter\",0]\n", codes "{\"error\":\"bad-arguments\"}\n")
    ∷ (codes "[\"setStartAfter\",0,1,0]\n", codes "{\"error\":\"bad-arguments\"}\n")
    ∷ (codes "[\"setStartAfter\",\"x\",1]\n", codes "{\"error\":\"bad-arguments\"}\n")
    ∷ (codes "[\"setStartAfter\",0,\"x\"]\n", codes "{\"error\":\"bad-arguments\"}\n")
    ∷ (codes "[\"setStartAfter\",99,1]\n", codes "{\"error\":\"no-such-object\"}\n")
    ∷ (codes "[\"setStartAfter\",0,99]\n", codes "{\"error\":\"no-such-object\"}\n")
    ∷ (codes "[\"setEndBefore\",0]\n", codes "{\"error\":\"bad-arguments\"}\n")
    ∷ (codes "[\"setEndBefore\",0,1,0]\n", codes "{\"error\":\"bad-arguments\"}\n")
    ∷ (codes "[\"setEndBefore\",\"x\",1]\n", codes "{\"error\":\"bad-arguments\"}\n")
    ∷ (codes "[\"setEndBefore\",0,\"x\"]\n", codes "{\"error\":\"bad-arguments\"}\n")
    ∷ (codes "[\"setEndBefore\",99,1]\n", codes "{\"error\":\"no-such-object\"}\n")
    ∷ (codes "[\"setEndBefore\",0,99]\n", codes "{\"error\":\"no-such-object\"}\n")
    ∷ (codes "[\"setEndAfter\",0]\n", codes "{\"error\":\"bad-arguments\"}\n")
    ∷ (codes "[\"setEndAfter\",0,1,0]\n", codes "{\"error\":\"bad-arguments\"}\n")
    ∷ (codes "[\"setEndAfter\",\"x\",1]\n", codes "{\"error\":\"bad-arguments\"}\n")
    ∷ (codes "[\"setEndAfter\",0,\"x\"]\n", codes "{\"error\":\"bad-arguments\"}\n")
    ∷ (codes "[\"setEndAfter\",99,1]\n", codes "{\"error\":\"no-such-object\"}\n")
    ∷ (codes "[\"setEndAfter\",0,99]\n", codes "{\"error\":\"no-such-object\"}\n")
    ∷ (codes "[\"createText\",0,\"t\"]\n", codes "{\"ok\":4}\n")
    ∷ (codes "[\"tree\",1]\n", codes "{\"ok\":[[0,1,1,\"e\",[]]]}\n")
    ∷ (codes "[\"range\",0]\n", codes "{\"ok\":[0,0,0,0]}\n")
    ∷ (codes "[\"createRange\",0]\n", codes "{\"ok\":1}\n")
    ∷ []

pub range_ends_refused : output_of whole_table usual_bounds (bytes_given exchanges) ≡ bytes_due exchanges
unfolding computing
range_ends_refused = refl

pub range_ends_refused-misses_nothing : MissesNothing whole_table usual_bounds (bytes_given exchanges)
unfolding computing
range_ends_refused-misses_nothing = record { ends = refl; texts = refl; worlds = refl; contents = refl }
