-- A dialogue, from bytes to bytes: data counted in units.
use Rattle.dom_model.proofs.Dialogues.Exchanges.{◌≡◌, refl, List, codes, [], ◌∷◌, ◌++◌, usual_bounds, whole_table, output_of, Exchange, bytes_given, bytes_due, MissesNothing, computing}

abbrev exchanges : List Exchange
exchanges =
    (codes "[\"createText\",0,\"a" ++ (240 ∷ 159 ∷ 152 ∷ 128 ∷ []) ++ codes "b\"]\n", codes "{\"ok\":1}\n")
    ∷ (codes "[\"length\",1]\n", codes "{\"ok\":4}\n")
    ∷ (codes "[\"splitText\",1,2]\n", codes "{\"ok\":2}\n")
    ∷ (codes "[\"data\",1]\n", codes "{\"ok\":[97,55357]}\n")
    ∷ (codes "[\"data\",2]\n", codes "{\"ok\":[56832,98]}\n")
    ∷ []

pub data_counted_in_units : output_of whole_table usual_bounds (bytes_given exchanges) ≡ bytes_due exchanges
unfolding computing
data_counted_in_units = refl

pub data_counted_in_units-misses_nothing : MissesNothing whole_table usual_bounds (bytes_given exchanges)
unfolding computing
data_counted_in_units-misses_nothing = record { ends = refl; texts = refl; worlds = refl; contents = refl }
