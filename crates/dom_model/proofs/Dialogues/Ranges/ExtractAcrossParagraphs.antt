-- A dialogue, from bytes to bytes: extract across paragraphs.
use Rattle.dom_model.proofs.Dialogues.Exchanges.{◌≡◌, refl, List, codes, [], ◌∷◌, usual_bounds, whole_table, output_of, Exchange, bytes_given, bytes_due, MissesNothing, computing}

abbrev exchanges : List Exchange
exchanges =
    (codes "[\"createElement\",0,\"div\"]\n", codes "{\"ok\":1}\n")
    ∷ (codes "[\"createElement\",0,\"p\"]\n", codes "{\"ok\":2}\n")
    ∷ (codes "[\"createText\",0,\"abcd\"]\n", codes "{\"ok\":3}\n")
    ∷ (codes "[\"createElement\",0,\"p\"]\n", codes "{\"ok\":4}\n")
    ∷ (codes "[\"createText\",0,\"efgh\"]\n", codes "{\"ok\":5}\n")
    ∷ (codes "[\"appendChild\",1,2]\n", codes "{\"ok\":2}\n")
    ∷ (codes "[\"appendChild\",2,3]\n", codes "{\"ok\":3}\n")
    ∷ (codes "[\"appendChild\",1,4]\n", codes "{\"ok\":4}\n")
    ∷ (codes "[\"appendChild\",4,5]\n", codes "{\"ok\":5}\n")
    ∷ (codes "[\"createRange\",0]\n", codes "{\"ok\":0}\n")
    ∷ (codes "[\"setStart\",0,3,1]\n", codes "{\"ok\":null}\n")
    ∷ (codes "[\"setEnd\",0,5,2]\n", codes "{\"ok\":null}\n")
    ∷ (codes "[\"extractContents\",0]\n", codes "{\"ok\":6}\n")
    ∷ (
      codes "[\"tree\",6]\n",
      codes "{\"ok\":[[0,6,11,\"#document-fragment\"],[1,7,1,\"p\",[]],[2,9,3,\"#text\",\"bcd\"],[1,10,1,\"p\",[]],[2,12,3,\"#text\",\"ef\"]]}\n",
    )
    ∷ (codes "[\"children\",8]\n", codes "{\"ok\":[]}\n")
    ∷ (codes "[\"data\",5]\n", codes "{\"ok\":\"gh\"}\n")
    ∷ (codes "[\"range\",0]\n", codes "{\"ok\":[1,1,1,1]}\n")
    ∷ []

pub extract_across_paragraphs : output_of whole_table usual_bounds (bytes_given exchanges) ≡ bytes_due exchanges
unfolding computing
extract_across_paragraphs = refl

pub extract_across_paragraphs-misses_nothing : MissesNothing whole_table usual_bounds (bytes_given exchanges)
unfolding computing
extract_across_paragraphs-misses_nothing = record { ends = refl; texts = refl; worlds = refl; contents = refl }
