-- A dialogue, from bytes to bytes: questions refused.
use Rattle.dom_model.proofs.Dialogues.Exchanges.{◌≡◌, refl, List, codes, [], ◌∷◌, usual_bounds, whole_table, output_of, Exchange, bytes_given, bytes_due, MissesNothing, computing}

abbrev exchanges : List Exchange
exchanges =
    (codes "[\"createElement\",0,\"e\"]\n", codes "{\"ok\":1}\n")
    ∷ (codes "[\"createText\",0,\"t\"]\n", codes "{\"ok\":2}\n")
    ∷ (codes "[\"createComment\",0,\"c\"]\n", codes "{\"ok\":3}\n")
    ∷ (codes "[\"node\"]\n", codes "{\"error\":\"bad-arguments\"}\n")
    ∷ (codes "[\"node\",1,0]\n", codes "{\"error\":\"bad-arguments\"}\n")
    ∷ (codes "[\"node\",\"x\"]\n", codes "{\"error\":\"bad-arguments\"}\n")
    ∷ (codes "[\"node\",99]\n", codes "{\"error\":\"no-such-object\"}\n")
    ∷ (codes "[\"children\"]\n", codes "{\"error\":\"bad-arguments\"}\n")
    ∷ (codes "[\"children\",1,0]\n", codes "{\"error\":\"bad-arguments\"}\n")
    ∷ (codes "[\"children\",\"x\"]\n", codes "{\"error\":\"bad-arguments\"}\n")
    ∷ (codes "[\"children\",99]\n", codes "{\"error\":\"no-such-object\"}\n")
    ∷ (codes "[\"index\"]\n", codes "{\"error\":\"bad-arguments\"}\n")
    ∷ (codes "[\"index\",1,0]\n", codes "{\"error\":\"bad-arguments\"}\n")
    ∷ (codes "[\"index\",\"x\"]\n", codes "{\"error\":\"bad-arguments\"}\n")
    ∷ (codes "[\"index\",99]\n", codes "{\"error\":\"no-such-object\"}\n")
    ∷ (codes "[\"length\"]\n", codes "{\"error\":\"bad-arguments\"}\n")
    ∷ (codes "[\"length\",1,0]\n", codes "{\"error\":\"bad-arguments\"}\n")
    ∷ (codes "[\"length\",\"x\"]\n", codes "{\"error\":\"bad-arguments\"}\n")
    ∷ (codes "[\"length\",99]\n", codes "{\"error\":\"no-such-object\"}\n")
    ∷ (codes "[\"root\"]\n", codes "{\"error\":\"bad-arguments\"}\n")
    ∷ (codes "[\"root\",1,0]\n", codes "{\"error\":\"bad-arguments\"}\n")
    ∷ (codes "[\"root\",\"x\"]\n", codes "{\"error\":\"bad-arguments\"}\n")
    ∷ (codes "[\"root\",99]\n", codes "{\"error\":\"no-such-object\"}\n")
    ∷ (codes "[\"textContent\"]\n", codes "{\"error\":\"bad-arguments\"}\n")
    ∷ (codes "[\"textContent\",1,0]\n", codes "{\"error\":\"bad-arguments\"}\n")
    ∷ (codes "[\"textContent\",\"x\"]\n", codes "{\"error\":\"bad-arguments\"}\n")
    ∷ (codes "[\"textContent\",99]\n", codes "{\"error\":\"no-such-object\"}\n")
    ∷ (codes "[\"setTextContent\",1]\n", codes "{\"error\":\"bad-arguments\"}\n")
    ∷ (codes "[\"setTextContent\",1,\"y\",0]\n", codes "{\"error\":\"bad-arguments\"}\n")
    ∷ (codes "[\"setTextContent\",\"x\",\"y\"]\n", codes "{\"error\":\"bad-arguments\"}\n")
    ∷ (codes "[\"setTextContent\",1,7]\n", codes "{\"error\":\"bad-arguments\"}\n")
    ∷ (codes "[\"setTextContent\",99,\"y\"]\n", codes "{\"error\":\"no-such-object\"}\n")
    ∷ (codes "[\"tree\"]\n", codes "{\"error\":\"bad-arguments\"}\n")
    ∷ (codes "[\"tree\",1,0]\n", codes "{\"error\":\"bad-arguments\"}\n")
    ∷ (codes "[\"tree\",\"x\"]\n", codes "{\"error\":\"bad-arguments\"}\n")
    ∷ (codes "[\"tree\",99]\n", codes "{\"error\":\"no-such-object\"}\n")
    ∷ (codes "[\"createText\",0,\"t\"]\n", codes "{\"ok\":4}\n")
    ∷ (codes "[\"tree\",1]\n", codes "{\"ok\":[[0,1,1,\"e\",[]]]}\n")
    ∷ []

pub questions_refused : output_of whole_table usual_bounds (bytes_given exchanges) ≡ bytes_due exchanges
unfolding computing
questions_refused = refl

pub questions_refused-misses_nothing : MissesNothing whole_table usual_bounds (bytes_given exchanges)
unfolding computing
questions_refused-misses_nothing = record { ends = refl; texts = refl; worlds = refl; contents = refl }
