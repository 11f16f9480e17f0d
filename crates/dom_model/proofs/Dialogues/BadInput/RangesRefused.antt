-- A dialogue, from bytes to bytes: ranges refused.
use Rattle.dom_model.proofs.Dialogues.Exchanges.{◌≡◌, refl, List, codes, [], ◌∷◌, usual_bounds, whole_table, output_of, Exchange, bytes_given, bytes_due, MissesNothing, computing}

abbrev exchanges : List Exchange
exchanges =
    (codes "[\"createElement\",0,\"e\"]\n", codes "{\"ok\":1}\n")
    ∷ (codes "[\"createText\",0,\"t\"]\n", codes "{\"ok\":2}\n")
    ∷ (codes "[\"createComment\",0,\"c\"]\n", codes "{\"ok\":3}\n")
    ∷ (codes "[\"createRange\",0]\n", codes "{\"ok\":0}\n")
    ∷ (codes "[\"createRange\"]\n", codes "{\"error\":\"bad-arguments\"}\n")
    ∷ (codes "[\"createRange\",0,0]\n", codes "{\"error\":\"bad-arguments\"}\n")
    ∷ (codes "[\"createRange\",\"x\"]\n", codes "{\"error\":\"bad-arguments\"}\n")
    ∷ (codes "[\"createRange\",99]\n", codes "{\"error\":\"no-such-object\"}\n")
    ∷ (codes "[\"createRange\",1]\n", codes "{\"error\":\"TypeError\"}\n")
    ∷ (codes "[\"cloneRange\"]\n", codes "{\"error\":\"bad-arguments\"}\n")
    ∷ (codes "[\"cloneRange\",0,0]\n", codes "{\"error\":\"bad-arguments\"}\n")
    ∷ (codes "[\"cloneRange\",\"x\"]\n", codes "{\"error\":\"bad-arguments\"}\n")
    ∷ (codes "[\"cloneRange\",99]\n", codes "{\"error\":\"no-such-object\"}\n")
    ∷ (codes "[\"range\"]\n", codes "{\"error\":\"bad-arguments\"}\n")
    ∷ (codes "[\"range\",0,0]\n", codes "{\"error\":\"bad-arguments\"}\n")
    ∷ (codes "[\"range\",\"x\"]\n", codes "{\"error\":\"bad-arguments\"}\n")
    ∷ (codes "[\"range\",99]\n", codes "{\"error\":\"no-such-object\"}\n")
    ∷ (codes "[\"collapse\",0]\n", codes "{\"error\":\"bad-arguments\"}\n")
    ∷ (codes "[\"collapse\",0,true,0]\n", codes "{\"error\":\"bad-arguments\"}\n")
    ∷ (codes "[\"collapse\",\"x\",true]\n", codes "{\"error\":\"bad-arguments\"}\n")
    ∷ (codes "[\"collapse\",0,0]\n", codes "{\"error\":\"bad-arguments\"}\n")
    ∷ (codes "[\"collapse\",99,true]\n", codes "{\"error\":\"no-such-object\"}\n")
    ∷ (codes "[\"selectNode\",0]\n", codes "{\"error\":\"bad-arguments\"}\n")
    ∷ (codes "[\"selectNode\",0,1,0]\n", codes "{\"error\":\"bad-arguments\"}\n")
    ∷ (codes "[\"selectNode\",\"x\",1]\n", codes "{\"error\":\"bad-arguments\"}\n")
    ∷ (codes "[\"selectNode\",0,\"x\"]\n", codes "{\"error\":\"bad-arguments\"}\n")
    ∷ (codes "[\"selectNode\",99,1]\n", codes "{\"error\":\"no-such-object\"}\n")
    ∷ (codes "[\"selectNode\",0,99]\n", codes "{\"error\":\"no-such-object\"}\n")
    ∷ (codes "[\"selectNodeContents\",0]\n", codes "{\"error\":\"bad-arguments\"}\n")
    ∷ (codes "[\"selectNodeContents\",0,1,0]\n", codes "{\"error\":\"bad-arguments\"}\n")
    ∷ (codes "[\"selectNodeContents\",\"x\",1]\n", codes "{\"error\":\"bad-arguments\"}\n")
    ∷ (codes "[\"selectNodeContents\",0,\"x\"]\n", codes "{\"error\":\"bad-arguments\"}\n")
    ∷ (codes "[\"selectNodeContents\",99,1]\n", codes "{\"error\":\"no-such-object\"}\n")
    ∷ (codes "[\"selectNodeContents\",0,99]\n", codes "{\"error\":\"no-such-object\"}\n")
    ∷ (codes "[\"releaseRange\"]\n", codes "{\"error\":\"bad-arguments\"}\n")
    ∷ (codes "[\"releaseRange\",0,0]\n", codes "{\"error\":\"bad-arguments\"}\n")
    ∷ (codes "[\"releaseRange\",\"x\"]\n", codes "{\"error\":\"bad-arguments\"}\n")
    ∷ (codes "[\"releaseRange\",99]\n", codes "{\"error\":\"no-such-object\"}\n")
    ∷ (codes "[\"createText\",0,\"t\"]\n", codes "{\"ok\":4}\n")
    ∷ (codes "[\"tree\",1]\n", codes "{\"ok\":[[0,1,1,\"e\",[]]]}\n")
    ∷ (codes "[\"range\",0]\n", codes "{\"ok\":[0,0,0,0]}\n")
    ∷ (codes "[\"createRange\",0]\n", codes "{\"ok\":1}\n")
    ∷ []

pub ranges_refused : output_of whole_table usual_bounds (bytes_given exchanges) ≡ bytes_due exchanges
unfolding computing
ranges_refused = refl

pub ranges_refused-misses_nothing : MissesNothing whole_table usual_bounds (bytes_given exchanges)
unfolding computing
ranges_refused-misses_nothing = record { ends = refl; texts = refl; worlds = refl; contents = refl }
