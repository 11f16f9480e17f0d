-- A dialogue, from bytes to bytes: insertions refused.
use Rattle.dom_model.proofs.Dialogues.Exchanges.{◌≡◌, refl, List, codes, [], ◌∷◌, usual_bounds, whole_table, output_of, Exchange, bytes_given, bytes_due, MissesNothing, computing}

abbrev exchanges : List Exchange
exchanges =
    (codes "[\"createElement\",0,\"e\"]\n", codes "{\"ok\":1}\n")
    ∷ (codes "[\"createText\",0,\"t\"]\n", codes "{\"ok\":2}\n")
    ∷ (codes "[\"createComment\",0,\"c\"]\n", codes "{\"ok\":3}\n")
    ∷ (codes "[\"insertBefore\",1,1]\n", codes "{\"error\":\"bad-arguments\"}\n")
    ∷ (codes "[\"insertBefore\",1,1,null,0]\n", codes "{\"error\":\"bad-arguments\"}\n")
    ∷ (codes "[\"insertBefore\",\"x\",1,null]\n", codes "{\"error\":\"bad-arguments\"}\n")
    ∷ (codes "[\"insertBefore\",1,\"x\",null]\n", codes "{\"error\":\"bad-arguments\"}\n")
    ∷ (codes "[\"insertBefore\",1,1,\"x\"]\n", codes "{\"error\":\"bad-arguments\"}\n")
    ∷ (codes "[\"insertBefore\",99,1,null]\n", codes "{\"error\":\"no-such-object\"}\n")
    ∷ (codes "[\"insertBefore\",1,99,null]\n", codes "{\"error\":\"no-such-object\"}\n")
    ∷ (codes "[\"insertBefore\",1,1,99]\n", codes "{\"error\":\"no-such-object\"}\n")
    ∷ (codes "[\"appendChild\",1]\n", codes "{\"error\":\"bad-arguments\"}\n")
    ∷ (codes "[\"appendChild\",1,1,0]\n", codes "{\"error\":\"bad-arguments\"}\n")
    ∷ (codes "[\"appendChild\",\"x\",1]\n", codes "{\"error\":\"bad-arguments\"}\n")
    ∷ (codes "[\"appendChild\",1,\"x\"]\n", codes "{\"error\":\"bad-arguments\"}\n")
    ∷ (codes "[\"appendChild\",99,1]\n", codes "{\"error\":\"no-such-object\"}\n")
    ∷ (codes "[\"appendChild\",1,99]\n", codes "{\"error\":\"no-such-object\"}\n")
    ∷ (codes "[\"adoptNode\",0]\n", codes "{\"error\":\"bad-arguments\"}\n")
    ∷ (codes "[\"adoptNode\",0,1,0]\n", codes "{\"error\":\"bad-arguments\"}\n")
    ∷ (codes "[\"adoptNode\",\"x\",1]\n", codes "{\"error\":\"bad-arguments\"}\n")
    ∷ (codes "[\"adoptNode\",0,\"x\"]\n", codes "{\"error\":\"bad-arguments\"}\n")
    ∷ (codes "[\"adoptNode\",99,1]\n", codes "{\"error\":\"no-such-object\"}\n")
    ∷ (codes "[\"adoptNode\",0,99]\n", codes "{\"error\":\"no-such-object\"}\n")
    ∷ (codes "[\"adoptNode\",1,1]\n", codes "{\"error\":\"TypeError\"}\n")
    ∷ (codes "[\"replaceChild\",1,1]\n", codes "{\"error\":\"bad-arguments\"}\n")
    ∷ (codes "[\"replaceChild\",1,1,2,0]\n", codes "{\"error\":\"bad-arguments\"}\n")
    ∷ (codes "[\"replaceChild\",\"x\",1,2]\n", codes "{\"error\":\"bad-arguments\"}\n")
    ∷ (codes "[\"replaceChild\",1,\"x\",2]\n", codes "{\"error\":\"bad-arguments\"}\n")
    ∷ (codes "[\"replaceChild\",1,1,\"x\"]\n", codes "{\"error\":\"bad-arguments\"}\n")
    ∷ (codes "[\"replaceChild\",99,1,2]\n", codes "{\"error\":\"no-such-object\"}\n")
    ∷ (codes "[\"replaceChild\",1,99,2]\n", codes "{\"error\":\"no-such-object\"}\n")
    ∷ (codes "[\"replaceChild\",1,1,99]\n", codes "{\"error\":\"no-such-object\"}\n")
    ∷ (codes "[\"createText\",0,\"t\"]\n", codes "{\"ok\":4}\n")
    ∷ (codes "[\"tree\",1]\n", codes "{\"ok\":[[0,1,1,\"e\",[]]]}\n")
    ∷ []

pub insertions_refused : output_of whole_table usual_bounds (bytes_given exchanges) ≡ bytes_due exchanges
unfolding computing
insertions_refused = refl

pub insertions_refused-misses_nothing : MissesNothing whole_table usual_bounds (bytes_given exchanges)
unfolding computing
insertions_refused-misses_nothing = record { ends = refl; texts = refl; worlds = refl; contents = refl }
