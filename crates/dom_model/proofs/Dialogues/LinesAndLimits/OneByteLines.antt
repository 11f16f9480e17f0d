-- A dialogue, from bytes to bytes: one byte lines.
use Rattle.dom_model.proofs.Dialogues.Exchanges.{◌≡◌, refl, List, codes, [], ◌∷◌, ◌++◌, Bounds, whole_table, output_of, Exchange, bytes_given, bytes_due, MissesNothing, computing}

abbrev bounds : Bounds
bounds = record { numbers = 4294967295; line = 1 }

abbrev exchanges : List Exchange
exchanges =
    (codes "\n", codes "{\"error\":\"bad-json\"}\n")
    ∷ (codes "[\n", codes "{\"error\":\"bad-json\"}\n")
    ∷ (codes "[]\n", codes "{\"error\":\"line-too-long\"}\n")
    ∷ (codes "5\n", codes "{\"error\":\"bad-command\"}\n")
    ∷ (codes "55\n", codes "{\"error\":\"line-too-long\"}\n")
    ∷ ((13 ∷ []) ++ codes "\n", codes "{\"error\":\"bad-json\"}\n")
    ∷ (codes "[\"tree\",0]\n", codes "{\"error\":\"line-too-long\"}\n")
    ∷ (codes "\n", codes "{\"error\":\"bad-json\"}\n")
    ∷ ((195 ∷ 169 ∷ []) ++ codes "\n", codes "{\"error\":\"line-too-long\"}\n")
    ∷ (codes "0\n", codes "{\"error\":\"bad-command\"}\n")
    ∷ (codes "[]", codes "{\"error\":\"line-too-long\"}\n")
    ∷ []

pub one_byte_lines : output_of whole_table bounds (bytes_given exchanges) ≡ bytes_due exchanges
unfolding computing
one_byte_lines = refl

pub one_byte_lines-misses_nothing : MissesNothing whole_table bounds (bytes_given exchanges)
unfolding computing
one_byte_lines-misses_nothing = record { ends = refl; texts = refl; worlds = refl; contents = refl }
