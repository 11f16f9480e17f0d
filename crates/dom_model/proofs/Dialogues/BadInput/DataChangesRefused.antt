-- A dialogue, from bytes to bytes: data changes refused.
use Rattle.dom_model.proofs.Dialogues.Exchanges.{◌≡◌, refl, List, codes, [], ◌∷◌, usual_bounds, whole_table, output_of, Exchange, bytes_given, bytes_due, MissesNothing, computing}

abbrev exchanges : List Exchange
exchanges =
    (codes "[\"createElement\",0,\"e\"]\n", codes "{\"ok\":1}\n")
    ∷ (codes "[\"createText\",0,\"t\"]\n", codes "{\"ok\":2}\n")
    ∷ (codes "[\"createComment\",0,\"c\"]\n", codes "{\"ok\":3}\n")
    ∷ (codes "[\"setData\",3]\n", codes "{\"error\":\"bad-arguments\"}\n")
    ∷ (codes "[\"setData\",3,\"y\",0]\n", codes "{\"error\":\"bad-arguments\"}\n")
    ∷ (codes "[\"setData\",\"x\",\"y\"]\n", codes "{\"error\":\"bad-arguments\"}\n")
    ∷ (codes "[\"setData\",3,7]\n", codes "{\"error\":\"bad-arguments\"}\n")
    ∷ (codes "[\"setData\",99,\"y\"]\n", codes "{\"error\":\"no-such-object\"}\n")
    ∷ (codes "[\"setData\",1,\"y\"]\n", codes "{\"error\":\"TypeError\"}\n")
    ∷ (codes "[\"appendData\",3]\n", codes "{\"error\":\"bad-arguments\"}\n")
    ∷ (codes "[\"appendData\",3,\"y\",0]\n", codes "{\"error\":\"bad-arguments\"}\n")
    ∷ (codes "[\"appendData\",\"x\",\"y\"]\n", codes "{\"error\":\"bad-arguments\"}\n")
    ∷ (codes "[\"appendData\",3,7]\n", codes "{\"error\":\"bad-arguments\"}\n")
    ∷ (codes "[\"appendData\",99,\"y\"]\n", codes "{\"error\":\"no-such-object\"}\n")
    ∷ (codes "[\"appendData\",1,\"y\"]\n", codes "{\"error\":\"TypeError\"}\n")
    ∷ (codes "[\"insertData\",3,0]\n", codes "{\"error\":\"bad-arguments\"}\n")
    ∷ (codes "[\"insertData\",3,0,\"y\",0]\n", codes "{\"error\":\"bad-arguments\"}\n")
    ∷ (codes "[\"insertData\",\"x\",0,\"y\"]\n", codes "{\"error\":\"bad-arguments\"}\n")
    ∷ (codes "[\"insertData\",3,\"x\",\"y\"]\n", codes "{\"error\":\"bad-arguments\"}\n")
    ∷ (codes "[\"insertData\",3,0,7]\n", codes "{\"error\":\"bad-arguments\"}\n")
    ∷ (codes "[\"insertData\",99,0,\"y\"]\n", codes "{\"error\":\"no-such-object\"}\n")
    ∷ (codes "[\"insertData\",1,0,\"y\"]\n", codes "{\"error\":\"TypeError\"}\n")
    ∷ (codes "[\"deleteData\",3,0]\n", codes "{\"error\":\"bad-arguments\"}\n")
    ∷ (codes "[\"deleteData\",3,0,0,0]\n", codes "{\"error\":\"bad-arguments\"}\n")
    ∷ (codes "[\"deleteData\",\"x\",0,0]\n", codes "{\"error\":\"bad-arguments\"}\n")
    ∷ (codes "[\"deleteData\",3,\"x\",0]\n", codes "{\"error\":\"bad-arguments\"}\n")
    ∷ (codes "[\"deleteData\",3,0,\"x\"]\n", codes "{\"error\":\"bad-arguments\"}\n")
    ∷ (codes "[\"deleteData\",99,0,0]\n", codes "{\"error\":\"no-such-object\"}\n")
    ∷ (codes "[\"deleteData\",1,0,0]\n", codes "{\"error\":\"TypeError\"}\n")
    ∷ (codes "[\"replaceData\",3,0,0]\n", codes "{\"error\":\"bad-arguments\"}\n")
    ∷ (codes "[\"replaceData\",3,0,0,\"y\",0]\n", codes "{\"error\":\"bad-arguments\"}\n")
    ∷ (codes "[\"replaceData\",\"x\",0,0,\"y\"]\n", codes "{\"error\":\"bad-arguments\"}\n")
    ∷ (codes "[\"replaceData\",3,\"x\",0,\"y\"]\n", codes "{\"error\":\"bad-arguments\"}\n")
    ∷ (codes "[\"replaceData\",3,0,\"x\",\"y\"]\n", codes "{\"error\":\"bad-arguments\"}\n")
    ∷ (codes "[\"replaceData\",3,0,0,7]\n", codes "{\"error\":\"bad-arguments\"}\n")
    ∷ (codes "[\"replaceData\",99,0,0,\"y\"]\n", codes "{\"error\":\"no-such-object\"}\n")
    ∷ (codes "[\"replaceData\",1,0,0,\"y\"]\n", codes "{\"error\":\"TypeError\"}\n")
    ∷ (codes "[\"createText\",0,\"t\"]\n", codes "{\"ok\":4}\n")
    ∷ (codes "[\"tree\",1]\n", codes "{\"ok\":[[0,1,1,\"e\",[]]]}\n")
    ∷ []

pub data_changes_refused : output_of whole_table usual_bounds (bytes_given exchanges) ≡ bytes_due exchanges
unfolding computing
data_changes_refused = refl

pub data_changes_refused-misses_nothing : MissesNothing whole_table usual_bounds (bytes_given exchanges)
unfolding computing
data_changes_refused-misses_nothing = record { ends = refl; texts = refl; worlds = refl; contents = refl }
