-- A dialogue, from bytes to bytes: walks begun refused.
use Rattle.dom_model.proofs.Dialogues.Exchanges.{◌≡◌, refl, List, codes, [], ◌∷◌, usual_bounds, whole_table, output_of, Exchange, bytes_given, bytes_due, MissesNothing, computing}

abbrev exchanges : List Exchange
exchanges =
    (codes "[\"createElement\",0,\"e\"]\n", codes "{\"ok\":1}\n")
    ∷ (codes "[\"createText\",0,\"t\"]\n", codes "{\"ok\":2}\n")
    ∷ (codes "[\"createComment\",0,\"c\"]\n", codes "{\"ok\":3}\n")
    ∷ (codes "[\"createIterator\",0,4294967295,[]]\n", codes "{\"ok\":0}\n")
    ∷ (codes "[\"createWalker\",0,4294967295,[]]\n", codes "{\"ok\":0}\n")
    ∷ (codes "[\"createIterator\",1,0]\n", codes "{\"error\":\"bad-arguments\"}\n")
    ∷ (codes "[\"createIterator\",1,0,[],0]\n", codes "{\"error\":\"bad-arguments\"}\n")
    ∷ (codes "[\"createIterator\",\"x\",0,[]]\n", codes "{\"error\":\"bad-arguments\"}\n")
    ∷ (codes "[\"createIterator\",1,\"x\",[]]\n", codes "{\"error\":\"bad-arguments\"}\n")
    ∷ (codes "[\"createIterator\",1,0,{}]\n", codes "{\"error\":\"bad-arguments\"}\n")
    ∷ (codes "[\"createIterator\",99,0,[]]\n", codes "{\"error\":\"no-such-object\"}\n")
    ∷ (codes "[\"createWalker\",1,0]\n", codes "{\"error\":\"bad-arguments\"}\n")
    ∷ (codes "[\"createWalker\",1,0,[],0]\n", codes "{\"error\":\"bad-arguments\"}\n")
    ∷ (codes "[\"createWalker\",\"x\",0,[]]\n", codes "{\"error\":\"bad-arguments\"}\n")
    ∷ (codes "[\"createWalker\",1,\"x\",[]]\n", codes "{\"error\":\"bad-arguments\"}\n")
    ∷ (codes "[\"createWalker\",1,0,{}]\n", codes "{\"error\":\"bad-arguments\"}\n")
    ∷ (codes "[\"createWalker\",99,0,[]]\n", codes "{\"error\":\"no-such-object\"}\n")
    ∷ (codes "[\"createText\",0,\"t\"]\n", codes "{\"ok\":4}\n")
    ∷ (codes "[\"tree\",1]\n", codes "{\"ok\":[[0,1,1,\"e\",[]]]}\n")
    ∷ (codes "[\"iterator\",0]\n", codes "{\"ok\":[0,0,true]}\n")
    ∷ (codes "[\"walker\",0]\n", codes "{\"ok\":[0,0]}\n")
    ∷ (codes "[\"createIterator\",0,1,[]]\n", codes "{\"ok\":1}\n")
    ∷ (codes "[\"createWalker\",0,1,[]]\n", codes "{\"ok\":1}\n")
    ∷ []

pub walks_begun_refused : output_of whole_table usual_bounds (bytes_given exchanges) ≡ bytes_due exchanges
unfolding computing
walks_begun_refused = refl

pub walks_begun_refused-misses_nothing : MissesNothing whole_table usual_bounds (bytes_given exchanges)
unfolding computing
walks_begun_refused-misses_nothing = record { ends = refl; texts = refl; worlds = refl; contents = refl }
