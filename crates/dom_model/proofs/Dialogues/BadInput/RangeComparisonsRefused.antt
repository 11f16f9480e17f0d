-- A dialogue, from bytes to bytes: range comparisons refused.
use Rattle.dom_model.proofs.Dialogues.Exchanges.{◌≡◌, refl, List, codes, [], ◌∷◌, usual_bounds, whole_table, output_of, Exchange, bytes_given, bytes_due, MissesNothing, computing}

abbrev exchanges : List Exchange
exchanges =
    (codes "[\"createElement\",0,\"e\"]\n", codes "{\"ok\":1}\n")
    ∷ (codes "[\"createText\",0,\"t\"]\n", codes "{\"ok\":2}\n")
    ∷ (codes "[\"createComment\",0,\"c\"]\n", codes "{\"ok\":3}\n")
    ∷ (codes "[\"createRange\",0]\n", codes "{\"ok\":0}\n")
    ∷ (codes "[\"compareBoundaryPoints\",0,0]\n", codes "{\"error\":\"bad-arguments\"}\n")
    ∷ (codes "[\"compareBoundaryPoints\",0,0,0,0]\n", codes "{\"error\":\"bad-arguments\"}\n")
    ∷ (codes "[\"compareBoundaryPoints\",\"x\",0,0]\n", codes "{\"error\":\"bad-arguments\"}\n")
    ∷ (codes "[\"compareBoundaryPoints\",0,\"x\",0]\n", codes "{\"error\":\"bad-arguments\"}\n")
    ∷ (codes "[\"compareBoundaryPoints\",0,0,\"x\"]\n", codes "{\"error\":\"bad-arguments\"}\n")
    ∷ (codes "[\"compareBoundaryPoints\",99,0,0]\n", codes "{\"error\":\"no-such-object\"}\n")
    ∷ (codes "[\"compareBoundaryPoints\",0,0,99]\n", codes "{\"error\":\"no-such-object\"}\n")
    ∷ (codes "[\"comparePoint\",0,1]\n", codes "{\"error\":\"bad-arguments\"}\n")
    ∷ (codes "[\"comparePoint\",0,1,0,0]\n", codes "{\"error\":\"bad-arguments\"}\n")
    ∷ (codes "[\"comparePoint\",\"x\",1,0]\n", codes "{\"error\":\"bad-arguments\"}\n")
    ∷ (codes "[\"comparePoint\",0,\"x\",0]\n", codes "{\"error\":\"bad-arguments\"}\n")
    ∷ (codes "[\"comparePoint\",0,1,\"x\"]\n", codes "{\"error\":\"bad-arguments\"}\n")
    ∷ (codes "[\"comparePoint\",99,1,0]\n", codes "{\"error\":\"no-such-object\"}\n")
    ∷ (codes "[\"comparePoint\",0,99,0]\n", codes "{\"error\":\"no-such-object\"}\n")
    ∷ (codes "[\"isPointInRange\",0,1]\n", codes "{\"error\":\"bad-arguments\"}\n")
    ∷ (codes "[\"isPointInRange\",0,1,0,0]\n", codes "{\"error\":\"bad-arguments\"}\n")
    ∷ (codes "[\"isPointInRange\",\"x\",1,0]\n", codes "{\"error\":\"bad-arguments\"}\n")
    ∷ (codes "[\"isPointInRange\",0,\"x\",0]\n", codes "{\"error\":\"bad-arguments\"}\n")
    ∷ (codes "[\"isPointInRange\",0,1,\"x\"]\n", codes "{\"error\":\"bad-arguments\"}\n")
    ∷ (codes "[\"isPointInRange\",99,1,0]\n", codes "{\"error\":\"no-such-object\"}\n")
    ∷ (codes "[\"isPointInRange\",0,99,0]\n", codes "{\"error\":\"no-such-object\"}\n")
    ∷ (codes "[\"intersectsNode\",0]\n", codes "{\"error\":\"bad-arguments\"}\n")
    ∷ (codes "[\"intersectsNode\",0,1,0]\n", codes "{\"error\":\"bad-arguments\"}\n")
    ∷ (codes "[\"intersectsNode\",\"x\",1]\n", codes "{\"error\":\"bad-arguments\"}\n")
    ∷ (codes "[\"intersectsNode\",0,\"x\"]\n", codes "{\"error\":\"bad-arguments\"}\n")
    ∷ (codes "[\"intersectsNode\",99,1]\n", codes "{\"error\":\"no-such-object\"}\n")
    ∷ (codes "[\"intersectsNode\",0,99]\n", codes "{\"error\":\"no-such-object\"}\n")
    ∷ (codes "[\"commonAncestor\"]\n", codes "{\"error\":\"bad-arguments\"}\n")
    ∷ (codes "[\"commonAncestor\",0,0]\n", codes "{\"error\":\"bad-arguments\"}\n")
    ∷ (codes "[\"commonAncestor\",\"x\"]\n", codes "{\"error\":\"bad-arguments\"}\n")
    ∷ (codes "[\"commonAncestor\",99]\n", codes "{\"error\":\"no-such-object\"}\n")
    ∷ (codes "[\"createText\",0,\"t\"]\n", codes "{\"ok\":4}\n")
    ∷ (codes "[\"tree\",1]\n", codes "{\"ok\":[[0,1,1,\"e\",[]]]}\n")
    ∷ (codes "[\"range\",0]\n", codes "{\"ok\":[0,0,0,0]}\n")
    ∷ (codes "[\"createRange\",0]\n", codes "{\"ok\":1}\n")
    ∷ []

pub range_comparisons_refused : output_of whole_table usual_bounds (bytes_given exchanges) ≡ bytes_due exchanges
unfolding computing
range_comparisons_refused = refl

pub range_comparisons_refused-misses_nothing : MissesNothing whole_table usual_bounds (bytes_given exchanges)
unfolding computing
range_comparisons_refused-misses_nothing = record { ends = refl; texts = refl; worlds = refl; contents = refl }
