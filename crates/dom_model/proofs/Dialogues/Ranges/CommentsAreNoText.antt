-- A dialogue, from bytes to bytes: comments are no text.
use Rattle.dom_model.proofs.Dialogues.Exchanges.{◌≡◌, refl, List, codes, [], ◌∷◌, usual_bounds, whole_table, output_of, Exchange, bytes_given, bytes_due, MissesNothing, computing}

abbrev exchanges : List Exchange
exchanges =
    (codes "[\"createElement\",0,\"p\"]\n", codes "{\"ok\":1}\n")
    ∷ (codes "[\"createText\",0,\"ab\"]\n", codes "{\"ok\":2}\n")
    ∷ (codes "[\"createComment\",0,\"x\"]\n", codes "{\"ok\":3}\n")
    ∷ (codes "[\"createText\",0,\"cd\"]\n", codes "{\"ok\":4}\n")
    ∷ (codes "[\"appendChild\",1,2]\n", codes "{\"ok\":2}\n")
    ∷ (codes "[\"appendChild\",1,3]\n", codes "{\"ok\":3}\n")
    ∷ (codes "[\"appendChild\",1,4]\n", codes "{\"ok\":4}\n")
    ∷ (codes "[\"createRange\",0]\n", codes "{\"ok\":0}\n")
    ∷ (codes "[\"setStart\",0,2,1]\n", codes "{\"ok\":null}\n")
    ∷ (codes "[\"setEnd\",0,4,1]\n", codes "{\"ok\":null}\n")
    ∷ (codes "[\"rangeText\",0]\n", codes "{\"ok\":\"bc\"}\n")
    ∷ (codes "[\"setStart\",0,3,0]\n", codes "{\"ok\":null}\n")
    ∷ (codes "[\"rangeText\",0]\n", codes "{\"ok\":\"c\"}\n")
    ∷ (codes "[\"setEnd\",0,3,1]\n", codes "{\"ok\":null}\n")
    ∷ (codes "[\"rangeText\",0]\n", codes "{\"ok\":\"\"}\n")
    ∷ (codes "[\"textContent\",1]\n", codes "{\"ok\":\"abcd\"}\n")
    ∷ (codes "[\"textContent\",3]\n", codes "{\"ok\":\"x\"}\n")
    ∷ (codes "[\"textContent\",0]\n", codes "{\"ok\":null}\n")
    ∷ []

pub comments_are_no_text : output_of whole_table usual_bounds (bytes_given exchanges) ≡ bytes_due exchanges
unfolding computing
comments_are_no_text = refl

pub comments_are_no_text-misses_nothing : MissesNothing whole_table usual_bounds (bytes_given exchanges)
unfolding computing
comments_are_no_text-misses_nothing = record { ends = refl; texts = refl; worlds = refl; contents = refl }
