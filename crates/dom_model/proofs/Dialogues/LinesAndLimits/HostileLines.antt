-- A dialogue, from bytes to bytes: hostile lines.
use Rattle.dom_model.proofs.Dialogues.Exchanges.{◌≡◌, refl, List, codes, [], ◌∷◌, ◌++◌, usual_bounds, whole_table, output_of, Exchange, bytes_given, bytes_due, MissesNothing, computing}

abbrev exchanges : List Exchange
exchanges =
    (codes "[]\n", codes "{\"error\":\"bad-command\"}\n")
    ∷ (codes "[[\"tree\",0]]\n", codes "{\"error\":\"bad-command\"}\n")
    ∷ (codes "[\"tree\",0,0]\n", codes "{\"error\":\"bad-arguments\"}\n")
    ∷ (
      codes "[[[[[[[[[[[[[[[[[[[[[[[[[[[[[[[[[[[[[[[[[[[[[[[[[[[[[[[[[[[[[[[[[[[[[[[[[[[[[[[[[[[[[[[[[[[[[[[[[[[[[[[[[[[[[[[[[[[[[[[[[[[[[[[[[[[[[[[[[[[[[[[[[[[[[[[[[[[[[[[[[[[[[[[[[[[[[[[[[[[[[[[[[[[[[[[[[[[[[[[[]]]]]]]]]]]]]]]]]]]]]]]]]]]]]]]]]]]]]]]]]]]]]]]]]]]]]]]]]]]]]]]]]]]]]]]]]]]]]]]]]]]]]]]]]]]]]]]]]]]]]]]]]]]]]]]]]]]]]]]]]]]]]]]]]]]]]]]]]]]]]]]]]]]]]]]]]]]]]]]]]]]]]]]]]]]]]]]]]]]]]]]]]]]]]]]]]]]]]]]]\n",
      codes "{\"error\":\"bad-json\"}\n",
    )
    ∷ (
      codes "[[[[[[[[[[[[[[[[[[[[[[[[[[[[[[[[[[[[[[[[[[[[[[[[[[[[[[[[[[[[[[[[[[[[[[[[[[[[[[[[[[[[[[[[[[[[[[[[[[[[]]]]]]]]]]]]]]]]]]]]]]]]]]]]]]]]]]]]]]]]]]]]]]]]]]]]]]]]]]]]]]]]]]]]]]]]]]]]]]]]]]]]]]]]]]]]]]]]]]]]\n",
      codes "{\"error\":\"bad-command\"}\n",
    )
    ∷ ((255 ∷ []) ++ codes "\n", codes "{\"error\":\"bad-json\"}\n")
    ∷ (codes "[\"createText\",0,[97,65536]]\n", codes "{\"error\":\"bad-arguments\"}\n")
    ∷ (codes "[\"createText\",0,[55296]]\n", codes "{\"ok\":1}\n")
    ∷ (codes "[\"data\",1]\n", codes "{\"ok\":[55296]}\n")
    ∷ (codes "[\"setAttribute\",1,\"a b\",\"\"]\n", codes "{\"error\":\"TypeError\"}\n")
    ∷ (codes "[\"compareBoundaryPoints\",0,9,9]\n", codes "{\"error\":\"no-such-object\"}\n")
    ∷ []

pub hostile_lines : output_of whole_table usual_bounds (bytes_given exchanges) ≡ bytes_due exchanges
unfolding computing
hostile_lines = refl

pub hostile_lines-misses_nothing : MissesNothing whole_table usual_bounds (bytes_given exchanges)
unfolding computing
hostile_lines-misses_nothing = record { ends = refl; texts = refl; worlds = refl; contents = refl }
