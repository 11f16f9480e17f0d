-- A dialogue, from bytes to bytes: observers refused.
use Rattle.dom_model.proofs.Dialogues.Exchanges.{◌≡◌, refl, List, codes, [], ◌∷◌, usual_bounds, whole_table, output_of, Exchange, bytes_given, bytes_due, MissesNothing, computing}

abbrev exchanges : List Exchange
exchanges =
    (codes "[\"createElement\",0,\"e\"]\n", codes "{\"ok\":1}\n")
    ∷ (codes "[\"createText\",0,\"t\"]\n", codes "{\"ok\":2}\n")
    ∷ (codes "[\"createComment\",0,\"c\"]\n", codes "{\"ok\":3}\n")
    ∷ (codes "[\"createObserver\"]\n", codes "{\"ok\":0}\n")
    ∷ (codes "[\"createObserver\",0]\n", codes "{\"error\":\"bad-arguments\"}\n")
    ∷ (codes "[\"observe\",0,1]\n", codes "{\"error\":\"bad-arguments\"}\n")
    ∷ (codes "[\"observe\",0,1,{\"childList\":true},0]\n", codes "{\"error\":\"bad-arguments\"}\n")
    ∷ (codes "[\"observe\",\"x\",1,{\"childList\":true}]\n", codes "{\"error\":\"bad-arguments\"}\n")
    ∷ (codes "[\"observe\",0,\"x\",{\"childList\":true}]\n", codes "{\"error\":\"bad-arguments\"}\n")
    ∷ (codes "[\"observe\",0,1,[]]\n", codes "{\"error\":\"bad-arguments\"}\n")
    ∷ (codes "[\"observe\",99,1,{\"childList\":true}]\n", codes "{\"error\":\"no-such-object\"}\n")
    ∷ (codes "[\"observe\",0,99,{\"childList\":true}]\n", codes "{\"error\":\"no-such-object\"}\n")
    ∷ (codes "[\"disconnect\"]\n", codes "{\"error\":\"bad-arguments\"}\n")
    ∷ (codes "[\"disconnect\",0,0]\n", codes "{\"error\":\"bad-arguments\"}\n")
    ∷ (codes "[\"disconnect\",\"x\"]\n", codes "{\"error\":\"bad-arguments\"}\n")
    ∷ (codes "[\"disconnect\",99]\n", codes "{\"error\":\"no-such-object\"}\n")
    ∷ (codes "[\"takeRecords\"]\n", codes "{\"error\":\"bad-arguments\"}\n")
    ∷ (codes "[\"takeRecords\",0,0]\n", codes "{\"error\":\"bad-arguments\"}\n")
    ∷ (codes "[\"takeRecords\",\"x\"]\n", codes "{\"error\":\"bad-arguments\"}\n")
    ∷ (codes "[\"takeRecords\",99]\n", codes "{\"error\":\"no-such-object\"}\n")
    ∷ (codes "[\"notify\",0]\n", codes "{\"error\":\"bad-arguments\"}\n")
    ∷ (codes "[\"pending\",0]\n", codes "{\"error\":\"bad-arguments\"}\n")
    ∷ (codes "[\"createText\",0,\"t\"]\n", codes "{\"ok\":4}\n")
    ∷ (codes "[\"tree\",1]\n", codes "{\"ok\":[[0,1,1,\"e\",[]]]}\n")
    ∷ (codes "[\"takeRecords\",0]\n", codes "{\"ok\":[]}\n")
    ∷ (codes "[\"createObserver\"]\n", codes "{\"ok\":1}\n")
    ∷ []

pub observers_refused : output_of whole_table usual_bounds (bytes_given exchanges) ≡ bytes_due exchanges
unfolding computing
observers_refused = refl

pub observers_refused-misses_nothing : MissesNothing whole_table usual_bounds (bytes_given exchanges)
unfolding computing
observers_refused-misses_nothing = record { ends = refl; texts = refl; worlds = refl; contents = refl }
