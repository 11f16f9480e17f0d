-- A dialogue, from bytes to bytes: copies and comparisons refused.
use Rattle.dom_model.proofs.Dialogues.Exchanges.{◌≡◌, refl, List, codes, [], ◌∷◌, usual_bounds, whole_table, output_of, Exchange, bytes_given, bytes_due, MissesNothing, computing}

abbrev exchanges : List Exchange
exchanges =
    (codes "[\"createElement\",0,\"e\"]\n", codes "{\"ok\":1}\n")
    ∷ (codes "[\"createText\",0,\"t\"]\n", codes "{\"ok\":2}\n")
    ∷ (codes "[\"createComment\",0,\"c\"]\n", codes "{\"ok\":3}\n")
    ∷ (codes "[\"importNode\",0,1]\n", codes "{\"error\":\"bad-arguments\"}\n")
    ∷ (codes "[\"importNode\",0,1,true,0]\n", codes "{\"error\":\"bad-arguments\"}\n")
    ∷ (codes "[\"importNode\",\"x\",1,true]\n", codes "{\"error\":\"bad-arguments\"}\n")
    ∷ (codes "[\"importNode\",0,\"x\",true]\n", codes "{\"error\":\"bad-arguments\"}\n")
    ∷ (codes "[\"importNode\",0,1,0]\n", codes "{\"error\":\"bad-arguments\"}\n")
    ∷ (codes "[\"importNode\",99,1,true]\n", codes "{\"error\":\"no-such-object\"}\n")
    ∷ (codes "[\"importNode\",0,99,true]\n", codes "{\"error\":\"no-such-object\"}\n")
    ∷ (codes "[\"importNode\",1,1,true]\n", codes "{\"error\":\"TypeError\"}\n")
    ∷ (codes "[\"cloneNode\",1]\n", codes "{\"error\":\"bad-arguments\"}\n")
    ∷ (codes "[\"cloneNode\",1,true,0]\n", codes "{\"error\":\"bad-arguments\"}\n")
    ∷ (codes "[\"cloneNode\",\"x\",true]\n", codes "{\"error\":\"bad-arguments\"}\n")
    ∷ (codes "[\"cloneNode\",1,0]\n", codes "{\"error\":\"bad-arguments\"}\n")
    ∷ (codes "[\"cloneNode\",99,true]\n", codes "{\"error\":\"no-such-object\"}\n")
    ∷ (codes "[\"normalize\"]\n", codes "{\"error\":\"bad-arguments\"}\n")
    ∷ (codes "[\"normalize\",1,0]\n", codes "{\"error\":\"bad-arguments\"}\n")
    ∷ (codes "[\"normalize\",\"x\"]\n", codes "{\"error\":\"bad-arguments\"}\n")
    ∷ (codes "[\"normalize\",99]\n", codes "{\"error\":\"no-such-object\"}\n")
    ∷ (codes "[\"contains\",1]\n", codes "{\"error\":\"bad-arguments\"}\n")
    ∷ (codes "[\"contains\",1,null,0]\n", codes "{\"error\":\"bad-arguments\"}\n")
    ∷ (codes "[\"contains\",\"x\",null]\n", codes "{\"error\":\"bad-arguments\"}\n")
    ∷ (codes "[\"contains\",1,\"x\"]\n", codes "{\"error\":\"bad-arguments\"}\n")
    ∷ (codes "[\"contains\",99,null]\n", codes "{\"error\":\"no-such-object\"}\n")
    ∷ (codes "[\"contains\",1,99]\n", codes "{\"error\":\"no-such-object\"}\n")
    ∷ (codes "[\"isEqual\",1]\n", codes "{\"error\":\"bad-arguments\"}\n")
    ∷ (codes "[\"isEqual\",1,null,0]\n", codes "{\"error\":\"bad-arguments\"}\n")
    ∷ (codes "[\"isEqual\",\"x\",null]\n", codes "{\"error\":\"bad-arguments\"}\n")
    ∷ (codes "[\"isEqual\",1,\"x\"]\n", codes "{\"error\":\"bad-arguments\"}\n")
    ∷ (codes "[\"isEqual\",99,null]\n", codes "{\"error\":\"no-such-object\"}\n")
    ∷ (codes "[\"isEqual\",1,99]\n", codes "{\"error\":\"no-such-object\"}\n")
    ∷ (codes "[\"comparePosition\",1]\n", codes "{\"error\":\"bad-arguments\"}\n")
    ∷ (codes "[\"comparePosition\",1,1,0]\n", codes "{\"error\":\"bad-arguments\"}\n")
    ∷ (codes "[\"comparePosition\",\"x\",1]\n", codes "{\"error\":\"bad-arguments\"}\n")
    ∷ (codes "[\"comparePosition\",1,\"x\"]\n", codes "{\"error\":\"bad-arguments\"}\n")
    ∷ (codes "[\"comparePosition\",99,1]\n", codes "{\"error\":\"no-such-object\"}\n")
    ∷ (codes "[\"comparePosition\",1,99]\n", codes "{\"error\":\"no-such-object\"}\n")
    ∷ (codes "[\"createText\",0,\"t\"]\n", codes "{\"ok\":4}\n")
    ∷ (codes "[\"tree\",1]\n", codes "{\"ok\":[[0,1,1,\"e\",[]]]}\n")
    ∷ []

pub copies_and_comparisons_refused : output_of whole_table usual_bounds (bytes_given exchanges) ≡ bytes_due exchanges
unfolding computing
copies_and_comparisons_refused = refl

pub copies_and_comparisons_refused-misses_nothing : MissesNothing whole_table usual_bounds (bytes_given exchanges)
unfolding computing
copies_and_comparisons_refused-misses_nothing = record { ends = refl; texts = refl; worlds = refl; contents = refl }
