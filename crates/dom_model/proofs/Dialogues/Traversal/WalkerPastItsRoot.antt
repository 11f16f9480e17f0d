-- A dialogue, from bytes to bytes: walker past its root.
use Rattle.dom_model.proofs.Dialogues.Exchanges.{◌≡◌, refl, List, codes, [], ◌∷◌, usual_bounds, whole_table, output_of, Exchange, bytes_given, bytes_due, MissesNothing, computing}

abbrev exchanges : List Exchange
exchanges =
    (codes "[\"createElement\",0,\"p\"]\n", codes "{\"ok\":1}\n")
    ∷ (codes "[\"createElement\",0,\"a\"]\n", codes "{\"ok\":2}\n")
    ∷ (codes "[\"createElement\",0,\"b\"]\n", codes "{\"ok\":3}\n")
    ∷ (codes "[\"createElement\",0,\"c\"]\n", codes "{\"ok\":4}\n")
    ∷ (codes "[\"appendChild\",1,2]\n", codes "{\"ok\":2}\n")
    ∷ (codes "[\"appendChild\",1,3]\n", codes "{\"ok\":3}\n")
    ∷ (codes "[\"appendChild\",1,4]\n", codes "{\"ok\":4}\n")
    ∷ (codes "[\"createWalker\",3,4294967295,[[\"b\",\"skip\"]]]\n", codes "{\"ok\":0}\n")
    ∷ (codes "[\"setCurrent\",0,4]\n", codes "{\"ok\":null}\n")
    ∷ (codes "[\"walk\",0,\"previousNode\"]\n", codes "{\"ok\":2}\n")
    ∷ (codes "[\"walker\",0]\n", codes "{\"ok\":[3,2]}\n")
    ∷ []

pub walker_past_its_root : output_of whole_table usual_bounds (bytes_given exchanges) ≡ bytes_due exchanges
unfolding computing
walker_past_its_root = refl

pub walker_past_its_root-misses_nothing : MissesNothing whole_table usual_bounds (bytes_given exchanges)
unfolding computing
walker_past_its_root-misses_nothing = record { ends = refl; texts = refl; worlds = refl; contents = refl }
