-- A dialogue, from bytes to bytes: tree printed.
use Rattle.dom_model.proofs.Dialogues.Exchanges.{◌≡◌, refl, List, codes, [], ◌∷◌, usual_bounds, whole_table, output_of, Exchange, bytes_given, bytes_due, MissesNothing, computing}

abbrev exchanges : List Exchange
exchanges =
    (codes "[\"createElement\",0,\"p\"]\n", codes "{\"ok\":1}\n")
    ∷ (codes "[\"appendChild\",0,1]\n", codes "{\"ok\":1}\n")
    ∷ (codes "[\"tree\",0]", codes "{\"ok\":[[0,0,9,\"#document\"],[1,1,1,\"p\",[]]]}\n")
    ∷ []

pub tree_printed : output_of whole_table usual_bounds (bytes_given exchanges) ≡ bytes_due exchanges
unfolding computing
tree_printed = refl

pub tree_printed-misses_nothing : MissesNothing whole_table usual_bounds (bytes_given exchanges)
unfolding computing
tree_printed-misses_nothing = record { ends = refl; texts = refl; worlds = refl; contents = refl }
