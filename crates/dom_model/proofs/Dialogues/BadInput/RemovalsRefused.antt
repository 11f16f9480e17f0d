-- A dialogue, from bytes to bytes: removals refused.
use Rattle.dom_model.proofs.Dialogues.Exchanges.{◌≡◌, refl, List, codes, [], ◌∷◌, usual_bounds, whole_table, output_of, Exchange, bytes_given, bytes_due, MissesNothing, computing}

abbrev exchanges : List Exchange
exchanges =
    (codes "[\"createElement\",0,\"e\"]\n", codes "{\"ok\":1}\n")
    ∷ (codes "[\"createText\",0,\"t\"]\n", codes "{\"ok\":2}\n")
    ∷ (codes "[\"createComment\",0,\"c\"]\n", codes "{\"ok\":3}\n")
    ∷ (codes "[\"removeChild\",1]\n", codes "{\"error\":\"bad-arguments\"}\n")
    ∷ (codes "[\"removeChild\",1,2,0]\n", codes "{\"error\":\"bad-arguments\"}\n")
    ∷ (codes "[\"removeChild\",\"x\",2]\n", codes "{\"error\":\"bad-arguments\"}\n")
    ∷ (codes "[\"removeChild\",1,\"x\"]\n", codes "{\"error\":\"bad-arguments\"}\n")
    ∷ (codes "[\"removeChild\",99,2]\n", codes "{\"error\":\"no-such-object\"}\n")
    ∷ (codes "[\"removeChild\",1,99]\n", codes "{\"error\":\"no-such-object\"}\n")
    ∷ (codes "[\"remove\"]\n", codes "{\"error\":\"bad-arguments\"}\n")
    ∷ (codes "[\"remove\",1,0]\n", codes "{\"error\":\"bad-arguments\"}\n")
    ∷ (codes "[\"remove\",\"x\"]\n", codes "{\"error\":\"bad-arguments\"}\n")
    ∷ (codes "[\"remove\",99]\n", codes "{\"error\":\"no-such-object\"}\n")
    ∷ (codes "[\"remove\",0]\n", codes "{\"error\":\"TypeError\"}\n")
    ∷ (codes "[\"replaceChildren\",1]\n", codes "{\"error\":\"bad-arguments\"}\n")
    ∷ (codes "[\"replaceChildren\",1,null,0]\n", codes "{\"error\":\"bad-arguments\"}\n")
    ∷ (codes "[\"replaceChildren\",\"x\",null]\n", codes "{\"error\":\"bad-arguments\"}\n")
    ∷ (codes "[\"replaceChildren\",1,\"x\"]\n", codes "{\"error\":\"bad-arguments\"}\n")
    ∷ (codes "[\"replaceChildren\",99,null]\n", codes "{\"error\":\"no-such-object\"}\n")
    ∷ (codes "[\"replaceChildren\",1,99]\n", codes "{\"error\":\"no-such-object\"}\n")
    ∷ (codes "[\"replaceChildren\",2,null]\n", codes "{\"error\":\"TypeError\"}\n")
    ∷ (codes "[\"discard\"]\n", codes "{\"error\":\"bad-arguments\"}\n")
    ∷ (codes "[\"discard\",1,0]\n", codes "{\"error\":\"bad-arguments\"}\n")
    ∷ (codes "[\"discard\",\"x\"]\n", codes "{\"error\":\"bad-arguments\"}\n")
    ∷ (codes "[\"discard\",99]\n", codes "{\"error\":\"no-such-object\"}\n")
    ∷ (codes "[\"createText\",0,\"t\"]\n", codes "{\"ok\":4}\n")
    ∷ (codes "[\"tree\",1]\n", codes "{\"ok\":[[0,1,1,\"e\",[]]]}\n")
    ∷ []

pub removals_refused : output_of whole_table usual_bounds (bytes_given exchanges) ≡ bytes_due exchanges
unfolding computing
removals_refused = refl

pub removals_refused-misses_nothing : MissesNothing whole_table usual_bounds (bytes_given exchanges)
unfolding computing
removals_refused-misses_nothing = record { ends = refl; texts = refl; worlds = refl; contents = refl }
