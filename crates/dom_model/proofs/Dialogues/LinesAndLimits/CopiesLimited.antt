-- A dialogue, from bytes to bytes: copies limited.
use Rattle.dom_model.proofs.Dialogues.Exchanges.{◌≡◌, refl, List, codes, [], ◌∷◌, Bounds, whole_table, output_of, Exchange, bytes_given, bytes_due, MissesNothing, computing}

abbrev bounds : Bounds
bounds = record { numbers = 20; line = 1048576 }

abbrev exchanges : List Exchange
exchanges =
    (codes "[\"cloneNode\",0,false]\n", codes "{\"ok\":1}\n")
    ∷ (codes "[\"cloneNode\",0,false]\n", codes "{\"ok\":2}\n")
    ∷ (codes "[\"cloneNode\",0,false]\n", codes "{\"ok\":3}\n")
    ∷ (codes "[\"cloneNode\",0,false]\n", codes "{\"ok\":4}\n")
    ∷ (codes "[\"cloneNode\",0,false]\n", codes "{\"error\":\"limit\"}\n")
    ∷ (codes "[\"createFragment\",0]\n", codes "{\"ok\":5}\n")
    ∷ []

pub copies_limited : output_of whole_table bounds (bytes_given exchanges) ≡ bytes_due exchanges
unfolding computing
copies_limited = refl

pub copies_limited-misses_nothing : MissesNothing whole_table bounds (bytes_given exchanges)
unfolding computing
copies_limited-misses_nothing = record { ends = refl; texts = refl; worlds = refl; contents = refl }
