-- A dialogue, from bytes to bytes: range contents refused.
use Rattle.dom_model.proofs.Dialogues.Exchanges.{◌≡◌, refl, List, codes, [], ◌∷◌, usual_bounds, whole_table, output_of, Exchange, bytes_given, bytes_due, MissesNothing, computing}

abbrev exchanges : List Exchange
exchanges =
    (codes "[\"createElement\",0,\"e\"]\n", codes "{\"ok\":1}\n")
    ∷ (codes "[\"createText\",0,\"t\"]\n", codes "{\"ok\":2}\n")
    ∷ (codes "[\"createComment\",0,\"c\"]\n", codes "{\"ok\":3}\n")
    ∷ (codes "[\"createRange\",0]\n", codes "{\"ok\":0}\n")
    ∷ (codes "[\"rangeText\"]\n", codes "{\"error\":\"bad-arguments\"}\n")
    ∷ (codes "[\"rangeText\",0,0]\n", codes "{\"error\":\"bad-arguments\"}\n")
    ∷ (codes "[\"rangeText\",\"x\"]\n", codes "{\"error\":\"bad-arguments\"}\n")
    ∷ (codes "[\"rangeText\",99]\n", codes "{\"error\":\"no-such-object\"}\n")
    ∷ (codes "[\"deleteContents\"]\n", codes "{\"error\":\"bad-arguments\"}\n")
    ∷ (codes "[\"deleteContents\",0,0]\n", codes "{\"error\":\"bad-arguments\"}\n")
    ∷ (codes "[\"deleteContents\",\"x\"]\n", codes "{\"error\":\"bad-arguments\"}\n")
    ∷ (codes "[\"deleteContents\",99]\n", codes "{\"error\":\"no-such-object\"}\n")
    ∷ (codes "[\"extractContents\"]\n", codes "{\"error\":\"bad-arguments\"}\n")
    ∷ (codes "[\"extractContents\",0,0]\n", codes "{\"error\":\"bad-arguments\"}\n")
    ∷ (codes "[\"extractContents\",\"x\"]\n", codes "{\"error\":\"bad-arguments\"}\n")
    ∷ (codes "[\"extractContents\",99]\n", codes "{\"error\":\"no-such-object\"}\n")
    ∷ (codes "[\"cloneContents\"]\n", codes "{\"error\":\"bad-arguments\"}\n")
    ∷ (codes "[\"cloneContents\",0,0]\n", codes "{\"error\":\"bad-arguments\"}\n")
    ∷ (codes "[\"cloneContents\",\"x\"]\n", codes "{\"error\":\"bad-arguments\"}\n")
    ∷ (codes "[\"cloneContents\",99]\n", codes "{\"error\":\"no-such-object\"}\n")
    ∷ (codes "[\"insertNode\",0]\n", codes "{\"error\":\"bad-arguments\"}\n")
    ∷ (codes "[\"insertNode\",0,1,0]\n", codes "{\"error\":\"bad-arguments\"}\n")
    ∷ (codes "[\"insertNode\",\"x\",1]\n", codes "{\"error\":\"bad-arguments\"}\n")
    ∷ (codes "[\"insertNode\",0,\"x\"]\n", codes "{\"error\":\"bad-arguments\"}\n")
    ∷ (codes "[\"insertNode\",99,1]\n", codes "{\"error\":\"no-such-object\"}\n")
    ∷ (codes "[\"insertNode\",0,99]\n", codes "{\"error\":\"no-such-object\"}\n")
    ∷ (codes "[\"surroundContents\",0]\n", codes "{\"error\":\"bad-arguments\"}\n")
    ∷ (codes "[\"surroundContents\",0,1,0]\n", codes "{\"error\":\"bad-arguments\"}\n")
    ∷ (codes "[\"surroundContents\",\"x\",1]\n", codes "{\"error\":\"bad-arguments\"}\n")
    ∷ (codes "[\"surroundContents\",0,\"x\"]\n", codes "{\"error\":\"bad-arguments\"}\n")
    ∷ (codes "[\"surroundContents\",99,1]\n", codes "{\"error\":\"no-such-object\"}\n")
    ∷ (codes "[\"surroundContents\",0,99]\n", codes "{\"error\":\"no-such-object\"}\n")
    ∷ (codes "[\"createText\",0,\"t\"]\n", codes "{\"ok\":4}\n")
    ∷ (codes "[\"tree\",1]\n", codes "{\"ok\":[[0,1,1,\"e\",[]]]}\n")
    ∷ (codes "[\"range\",0]\n", codes "{\"ok\":[0,0,0,0]}\n")
    ∷ (codes "[\"createRange\",0]\n", codes "{\"ok\":1}\n")
    ∷ []

pub range_contents_refused : output_of whole_table usual_bounds (bytes_given exchanges) ≡ bytes_due exchanges
unfolding computing
range_contents_refused = refl

pub range_contents_refused-misses_nothing : MissesNothing whole_table usual_bounds (bytes_given exchanges)
unfolding computing
range_contents_refused-misses_nothing = record { ends = refl; texts = refl; worlds = refl; contents = refl }
