-- A dialogue, from bytes to bytes: lines at the limit.
use Rattle.dom_model.proofs.Dialogues.Exchanges.{◌≡◌, refl, List, codes, [], ◌∷◌, ◌++◌, Bounds, whole_table, output_of, Exchange, bytes_given, bytes_due, MissesNothing, computing}

abbrev bounds : Bounds
bounds = record { numbers = 4294967295; line = 11 }

abbrev exchanges : List Exchange
exchanges =
    (codes "[\"tree\",0]" ++ (13 ∷ []) ++ codes "\n", codes "{\"ok\":[[0,0,9,\"#document\"]]}\n")
    ∷ (codes "[\"tree\",0]" ++ (13 ∷ []) ++ codes " \n", codes "{\"error\":\"line-too-long\"}\n")
    ∷ (codes "[\"tree\", 0]\n", codes "{\"ok\":[[0,0,9,\"#document\"]]}\n")
    ∷ (codes "[\"tree\",  0]\n", codes "{\"error\":\"line-too-long\"}\n")
    ∷ (codes "           \n", codes "{\"error\":\"bad-json\"}\n")
    ∷ (codes "            \n", codes "{\"error\":\"line-too-long\"}\n")
    ∷ (codes "                              \n", codes "{\"error\":\"line-too-long\"}\n")
    ∷ (codes "[\"tree\",00]\n", codes "{\"error\":\"bad-json\"}\n")
    ∷ (codes "\n", codes "{\"error\":\"bad-json\"}\n")
    ∷ (codes " [\"tree\",0]", codes "{\"ok\":[[0,0,9,\"#document\"]]}\n")
    ∷ []

pub lines_at_the_limit : output_of whole_table bounds (bytes_given exchanges) ≡ bytes_due exchanges
unfolding computing
lines_at_the_limit = refl

pub lines_at_the_limit-misses_nothing : MissesNothing whole_table bounds (bytes_given exchanges)
unfolding computing
lines_at_the_limit-misses_nothing = record { ends = refl; texts = refl; worlds = refl; contents = refl }
