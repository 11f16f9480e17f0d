-- A dialogue, from bytes to bytes: contents cloned and extracted.
use Rattle.dom_model.proofs.Dialogues.Exchanges.{◌≡◌, refl, List, codes, [], ◌∷◌, usual_bounds, whole_table, output_of, Exchange, bytes_given, bytes_due, MissesNothing, computing}

abbrev exchanges : List Exchange
exchanges =
    (codes "[\"createElement\",0,\"r\"]\n", codes "{\"ok\":1}\n")
    ∷ (codes "[\"createElement\",0,\"a\"]\n", codes "{\"ok\":2}\n")
    ∷ (codes "[\"createText\",0,\"x\"]\n", codes "{\"ok\":3}\n")
    ∷ (codes "[\"createElement\",0,\"b\"]\n", codes "{\"ok\":4}\n")
    ∷ (codes "[\"createText\",0,\"y\"]\n", codes "{\"ok\":5}\n")
    ∷ (codes "[\"createText\",0,\"tail\"]\n", codes "{\"ok\":6}\n")
    ∷ (codes "[\"appendChild\",0,1]\n", codes "{\"ok\":1}\n")
    ∷ (codes "[\"appendChild\",1,2]\n", codes "{\"ok\":2}\n")
    ∷ (codes "[\"appendChild\",2,3]\n", codes "{\"ok\":3}\n")
    ∷ (codes "[\"appendChild\",2,4]\n", codes "{\"ok\":4}\n")
    ∷ (codes "[\"appendChild\",4,5]\n", codes "{\"ok\":5}\n")
    ∷ (codes "[\"appendChild\",1,6]\n", codes "{\"ok\":6}\n")
    ∷ (codes "[\"setAttribute\",2,\"k\",\"v\"]\n", codes "{\"ok\":null}\n")
    ∷ (codes "[\"createRange\",0]\n", codes "{\"ok\":0}\n")
    ∷ (codes "[\"setStart\",0,1,0]\n", codes "{\"ok\":null}\n")
    ∷ (codes "[\"setEnd\",0,6,2]\n", codes "{\"ok\":null}\n")
    ∷ (codes "[\"cloneContents\",0]\n", codes "{\"ok\":7}\n")
    ∷ (
      codes "[\"tree\",7]\n",
      codes "{\"ok\":[[0,7,11,\"#document-fragment\"],[1,8,1,\"a\",[[\"k\",\"v\"]]],[2,9,3,\"#text\",\"x\"],[2,10,1,\"b\",[]],[3,11,3,\"#text\",\"y\"],[1,12,3,\"#text\",\"ta\"]]}\n",
    )
    ∷ (codes "[\"range\",0]\n", codes "{\"ok\":[1,0,6,2]}\n")
    ∷ (codes "[\"extractContents\",0]\n", codes "{\"ok\":13}\n")
    ∷ (
      codes "[\"tree\",13]\n",
      codes "{\"ok\":[[0,13,11,\"#document-fragment\"],[1,2,1,\"a\",[[\"k\",\"v\"]]],[2,3,3,\"#text\",\"x\"],[2,4,1,\"b\",[]],[3,5,3,\"#text\",\"y\"],[1,14,3,\"#text\",\"ta\"]]}\n",
    )
    ∷ (codes "[\"data\",6]\n", codes "{\"ok\":\"il\"}\n")
    ∷ (codes "[\"range\",0]\n", codes "{\"ok\":[1,0,1,0]}\n")
    ∷ (codes "[\"createDoctype\",0,\"d\",\"\",\"\"]\n", codes "{\"ok\":15}\n")
    ∷ (codes "[\"insertBefore\",0,15,1]\n", codes "{\"ok\":15}\n")
    ∷ (codes "[\"selectNodeContents\",0,0]\n", codes "{\"ok\":null}\n")
    ∷ (codes "[\"extractContents\",0]\n", codes "{\"error\":\"HierarchyRequestError\"}\n")
    ∷ (codes "[\"cloneContents\",0]\n", codes "{\"error\":\"HierarchyRequestError\"}\n")
    ∷ (codes "[\"createFragment\",0]\n", codes "{\"ok\":16}\n")
    ∷ (codes "[\"rangeText\",0]\n", codes "{\"ok\":\"il\"}\n")
    ∷ []

pub contents_cloned_and_extracted : output_of whole_table usual_bounds (bytes_given exchanges) ≡ bytes_due exchanges
unfolding computing
contents_cloned_and_extracted = refl

pub contents_cloned_and_extracted-misses_nothing : MissesNothing whole_table usual_bounds (bytes_given exchanges)
unfolding computing
contents_cloned_and_extracted-misses_nothing = record { ends = refl; texts = refl; worlds = refl; contents = refl }
