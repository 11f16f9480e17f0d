-- A dialogue, from bytes to bytes: static ranges refused.
use Rattle.dom_model.proofs.Dialogues.Exchanges.{◌≡◌, refl, List, codes, [], ◌∷◌, usual_bounds, whole_table, output_of, Exchange, bytes_given, bytes_due, MissesNothing, computing}

abbrev exchanges : List Exchange
exchanges =
    (codes "[\"createElement\",0,\"e\"]\n", codes "{\"ok\":1}\n")
    ∷ (codes "[\"createText\",0,\"t\"]\n", codes "{\"ok\":2}\n")
    ∷ (codes "[\"createComment\",0,\"c\"]\n", codes "{\"ok\":3}\n")
    ∷ (codes "[\"createStaticRange\",0,0,0,0]\n", codes "{\"ok\":0}\n")
    ∷ (codes "[\"createStaticRange\",1,0,1]\n", codes "{\"error\":\"bad-arguments\"}\n")
    ∷ (codes "[\"createStaticRange\",1,0,1,0,0]\n", codes "{\"error\":\"bad-arguments\"}\n")
    ∷ (codes "[\"createStaticRange\",\"x\",0,1,0]\n", codes "{\"error\":\"bad-arguments\"}\n")
    ∷ (codes "[\"createStaticRange\",1,\"x\",1,0]\n", codes "{\"error\":\"bad-arguments\"}\n")
    ∷ (codes "[\"createStaticRange\",1,0,\"x\",0]\n", codes "{\"error\":\"bad-arguments\"}\n")
    ∷ (codes "[\"createStaticRange\",1,0,1,\"x\"]\n", codes "{\"error\":\"bad-arguments\"}\n")
    ∷ (codes "[\"createStaticRange\",99,0,1,0]\n", codes "{\"error\":\"no-such-object\"}\n")
    ∷ (codes "[\"createStaticRange\",1,0,99,0]\n", codes "{\"error\":\"no-such-object\"}\n")
    ∷ (codes "[\"staticRange\"]\n", codes "{\"error\":\"bad-arguments\"}\n")
    ∷ (codes "[\"staticRange\",0,0]\n", codes "{\"error\":\"bad-arguments\"}\n")
    ∷ (codes "[\"staticRange\",\"x\"]\n", codes "{\"error\":\"bad-arguments\"}\n")
    ∷ (codes "[\"staticRange\",99]\n", codes "{\"error\":\"no-such-object\"}\n")
    ∷ (codes "[\"createText\",0,\"t\"]\n", codes "{\"ok\":4}\n")
    ∷ (codes "[\"tree\",1]\n", codes "{\"ok\":[[0,1,1,\"e\",[]]]}\n")
    ∷ (codes "[\"createStaticRange\",0,0,0,0]\n", codes "{\"ok\":1}\n")
    ∷ []

pub static_ranges_refused : output_of whole_table usual_bounds (bytes_given exchanges) ≡ bytes_due exchanges
unfolding computing
static_ranges_refused = refl

pub static_ranges_refused-misses_nothing : MissesNothing whole_table usual_bounds (bytes_given exchanges)
unfolding computing
static_ranges_refused-misses_nothing = record { ends = refl; texts = refl; worlds = refl; contents = refl }
