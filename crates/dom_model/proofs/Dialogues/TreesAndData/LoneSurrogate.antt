-- A dialogue, from bytes to bytes: lone surrogate.
use Rattle.dom_model.proofs.Dialogues.Exchanges.{◌≡◌, refl, List, codes, [], ◌∷◌, ◌++◌, usual_bounds, whole_table, output_of, Exchange, bytes_given, bytes_due, MissesNothing, computing}

abbrev exchanges : List Exchange
exchanges =
    (codes "[\"createText\",0,[55296]]\n", codes "{\"ok\":1}\n")
    ∷ (codes "[\"createText\",0,\"a\\ud83d\\ude00\"]\n", codes "{\"ok\":2}\n")
    ∷ (codes "[\"createText\",0,[97,55357,56832]]\n", codes "{\"ok\":3}\n")
    ∷ (codes "[\"tree\",1]\n", codes "{\"ok\":[[0,1,3,\"#text\",[55296]]]}\n")
    ∷ (codes "[\"tree\",2]\n", codes "{\"ok\":[[0,2,3,\"#text\",\"a" ++ (240 ∷ 159 ∷ 152 ∷ 128 ∷ []) ++ codes "\"]]}\n")
    ∷ (codes "[\"tree\",3]\n", codes "{\"ok\":[[0,3,3,\"#text\",\"a" ++ (240 ∷ 159 ∷ 152 ∷ 128 ∷ []) ++ codes "\"]]}\n")
    ∷ []

pub lone_surrogate : output_of whole_table usual_bounds (bytes_given exchanges) ≡ bytes_due exchanges
unfolding computing
lone_surrogate = refl

pub lone_surrogate-misses_nothing : MissesNothing whole_table usual_bounds (bytes_given exchanges)
unfolding computing
lone_surrogate-misses_nothing = record { ends = refl; texts = refl; worlds = refl; contents = refl }
