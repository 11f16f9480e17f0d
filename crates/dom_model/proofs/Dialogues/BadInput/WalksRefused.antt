-- A dialogue, from bytes to bytes: walks refused.
use Rattle.dom_model.proofs.Dialogues.Exchanges.{◌≡◌, refl, List, codes, [], ◌∷◌, usual_bounds, whole_table, output_of, Exchange, bytes_given, bytes_due, MissesNothing, computing}

abbrev exchanges : List Exchange
exchanges =
    (codes "[\"createElement\",0,\"e\"]\n", codes "{\"ok\":1}\n")
    ∷ (codes "[\"createText\",0,\"t\"]\n", codes "{\"ok\":2}\n")
    ∷ (codes "[\"createComment\",0,\"c\"]\n", codes "{\"ok\":3}\n")
    ∷ (codes "[\"createIterator\",0,4294967295,[]]\n", codes "{\"ok\":0}\n")
    ∷ (codes "[\"createWalker\",0,4294967295,[]]\n", codes "{\"ok\":0}\n")
    ∷ (codes "[\"iterator\"]\n", codes "{\"error\":\"bad-arguments\"}\n")
    ∷ (codes "[\"iterator\",0,0]\n", codes "{\"error\":\"bad-arguments\"}\n")
    ∷ (codes "[\"iterator\",\"x\"]\n", codes "{\"error\":\"bad-arguments\"}\n")
    ∷ (codes "[\"iterator\",99]\n", codes "{\"error\":\"no-such-object\"}\n")
    ∷ (codes "[\"nextNode\"]\n", codes "{\"error\":\"bad-arguments\"}\n")
    ∷ (codes "[\"nextNode\",0,0]\n", codes "{\"error\":\"bad-arguments\"}\n")
    ∷ (codes "[\"nextNode\",\"x\"]\n", codes "{\"error\":\"bad-arguments\"}\n")
    ∷ (codes "[\"nextNode\",99]\n", codes "{\"error\":\"no-such-object\"}\n")
    ∷ (codes "[\"previousNode\"]\n", codes "{\"error\":\"bad-arguments\"}\n")
    ∷ (codes "[\"previousNode\",0,0]\n", codes "{\"error\":\"bad-arguments\"}\n")
    ∷ (codes "[\"previousNode\",\"x\"]\n", codes "{\"error\":\"bad-arguments\"}\n")
    ∷ (codes "[\"previousNode\",99]\n", codes "{\"error\":\"no-such-object\"}\n")
    ∷ (codes "[\"walker\"]\n", codes "{\"error\":\"bad-arguments\"}\n")
    ∷ (codes "[\"walker\",0,0]\n", codes "{\"error\":\"bad-arguments\"}\n")
    ∷ (codes "[\"walker\",\"x\"]\n", codes "{\"error\":\"bad-arguments\"}\n")
    ∷ (codes "[\"walker\",99]\n", codes "{\"error\":\"no-such-object\"}\n")
    ∷ (codes "[\"setCurrent\",0]\n", codes "{\"error\":\"bad-arguments\"}\n")
    ∷ (codes "[\"setCurrent\",0,1,0]\n", codes "{\"error\":\"bad-arguments\"}\n")
    ∷ (codes "[\"setCurrent\",\"x\",1]\n", codes "{\"error\":\"bad-arguments\"}\n")
    ∷ (codes "[\"setCurrent\",0,\"x\"]\n", codes "{\"error\":\"bad-arguments\"}\n")
    ∷ (codes "[\"setCurrent\",99,1]\n", codes "{\"error\":\"no-such-object\"}\n")
    ∷ (codes "[\"setCurrent\",0,99]\n", codes "{\"error\":\"no-such-object\"}\n")
    ∷ (codes "[\"walk\",0]\n", codes "{\"error\":\"bad-arguments\"}\n")
    ∷ (codes "[\"walk\",0,\"parentNode\",0]\n", codes "{\"error\":\"bad-arguments\"}\n")
    ∷ (codes "[\"walk\",\"x\",\"parentNode\"]\n", codes "{\"error\":\"bad-arguments\"}\n")
    ∷ (codes "[\"walk\",0,\"sideways\"]\n", codes "{\"error\":\"bad-arguments\"}\n")
    ∷ (codes "[\"walk\",99,\"parentNode\"]\n", codes "{\"error\":\"no-such-object\"}\n")
    ∷ (codes "[\"createText\",0,\"t\"]\n", codes "{\"ok\":4}\n")
    ∷ (codes "[\"tree\",1]\n", codes "{\"ok\":[[0,1,1,\"e\",[]]]}\n")
    ∷ (codes "[\"iterator\",0]\n", codes "{\"ok\":[0,0,true]}\n")
    ∷ (codes "[\"walker\",0]\n", codes "{\"ok\":[0,0]}\n")
    ∷ (codes "[\"createIterator\",0,1,[]]\n", codes "{\"ok\":1}\n")
    ∷ (codes "[\"createWalker\",0,1,[]]\n", codes "{\"ok\":1}\n")
    ∷ []

pub walks_refused : output_of whole_table usual_bounds (bytes_given exchanges) ≡ bytes_due exchanges
unfolding computing
walks_refused = refl

pub walks_refused-misses_nothing : MissesNothing whole_table usual_bounds (bytes_given exchanges)
unfolding computing
walks_refused-misses_nothing = record { ends = refl; texts = refl; worlds = refl; contents = refl }
