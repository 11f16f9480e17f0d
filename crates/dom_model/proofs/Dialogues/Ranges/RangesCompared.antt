-- A dialogue, from bytes to bytes: ranges compared.
use Rattle.dom_model.proofs.Dialogues.Exchanges.{◌≡◌, refl, List, codes, [], ◌∷◌, usual_bounds, whole_table, output_of, Exchange, bytes_given, bytes_due, MissesNothing, computing}

abbrev exchanges : List Exchange
exchanges =
    (codes "[\"createRange\",0]\n", codes "{\"ok\":0}\n")
    ∷ (codes "[\"newDocument\"]\n", codes "{\"ok\":1}\n")
    ∷ (codes "[\"createRange\",1]\n", codes "{\"ok\":1}\n")
    ∷ (codes "[\"compareBoundaryPoints\",0,4,1]\n", codes "{\"error\":\"NotSupportedError\"}\n")
    ∷ (codes "[\"compareBoundaryPoints\",0,0,1]\n", codes "{\"error\":\"WrongDocumentError\"}\n")
    ∷ (codes "[\"compareBoundaryPoints\",0,0,0]\n", codes "{\"ok\":0}\n")
    ∷ (codes "[\"releaseRange\",1]\n", codes "{\"ok\":null}\n")
    ∷ (codes "[\"range\",1]\n", codes "{\"error\":\"no-such-object\"}\n")
    ∷ (codes "[\"createRange\",0]\n", codes "{\"ok\":2}\n")
    ∷ []

pub ranges_compared : output_of whole_table usual_bounds (bytes_given exchanges) ≡ bytes_due exchanges
unfolding computing
ranges_compared = refl

pub ranges_compared-misses_nothing : MissesNothing whole_table usual_bounds (bytes_given exchanges)
unfolding computing
ranges_compared-misses_nothing = record { ends = refl; texts = refl; worlds = refl; contents = refl }
