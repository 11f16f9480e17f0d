-- A dialogue, from bytes to bytes: empty ends extracted.
use Rattle.dom_model.proofs.Dialogues.Exchanges.{◌≡◌, refl, List, codes, [], ◌∷◌, usual_bounds, whole_table, output_of, Exchange, bytes_given, bytes_due, MissesNothing, computing}

abbrev exchanges : List Exchange
exchanges =
    (codes "[\"createElement\",0,\"p\"]\n", codes "{\"ok\":1}\n")
    ∷ (codes "[\"createText\",0,\"ab\"]\n", codes "{\"ok\":2}\n")
    ∷ (codes "[\"createElement\",0,\"b\"]\n", codes "{\"ok\":3}\n")
    ∷ (codes "[\"createText\",0,\"cd\"]\n", codes "{\"ok\":4}\n")
    ∷ (codes "[\"appendChild\",1,2]\n", codes "{\"ok\":2}\n")
    ∷ (codes "[\"appendChild\",1,3]\n", codes "{\"ok\":3}\n")
    ∷ (codes "[\"appendChild\",3,4]\n", codes "{\"ok\":4}\n")
    ∷ (codes "[\"createRange\",0]\n", codes "{\"ok\":0}\n")
    ∷ (codes "[\"setStart\",0,2,2]\n", codes "{\"ok\":null}\n")
    ∷ (codes "[\"setEnd\",0,4,0]\n", codes "{\"ok\":null}\n")
    ∷ (codes "[\"extractContents\",0]\n", codes "{\"ok\":5}\n")
    ∷ (codes "[\"tree\",5]\n", codes "{\"ok\":[[0,5,11,\"#document-fragment\"],[1,6,3,\"#text\",\"\"],[1,7,1,\"b\",[]],[2,9,3,\"#text\",\"\"]]}\n")
    ∷ (codes "[\"range\",0]\n", codes "{\"ok\":[1,1,1,1]}\n")
    ∷ (codes "[\"setStart\",0,2,2]\n", codes "{\"ok\":null}\n")
    ∷ (codes "[\"createRange\",0]\n", codes "{\"ok\":1}\n")
    ∷ (codes "[\"setStart\",1,2,1]\n", codes "{\"ok\":null}\n")
    ∷ (codes "[\"setEnd\",1,4,1]\n", codes "{\"ok\":null}\n")
    ∷ (codes "[\"deleteContents\",1]\n", codes "{\"ok\":null}\n")
    ∷ (codes "[\"range\",0]\n", codes "{\"ok\":[2,1,1,1]}\n")
    ∷ (codes "[\"range\",1]\n", codes "{\"ok\":[1,1,1,1]}\n")
    ∷ (codes "[\"textContent\",1]\n", codes "{\"ok\":\"ad\"}\n")
    ∷ []

pub empty_ends_extracted : output_of whole_table usual_bounds (bytes_given exchanges) ≡ bytes_due exchanges
unfolding computing
empty_ends_extracted = refl

pub empty_ends_extracted-misses_nothing : MissesNothing whole_table usual_bounds (bytes_given exchanges)
unfolding computing
empty_ends_extracted-misses_nothing = record { ends = refl; texts = refl; worlds = refl; contents = refl }
