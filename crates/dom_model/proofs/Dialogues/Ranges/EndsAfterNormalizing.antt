-- A dialogue, from bytes to bytes: ends after normalizing.
use Rattle.dom_model.proofs.Dialogues.Exchanges.{◌≡◌, refl, List, codes, [], ◌∷◌, usual_bounds, whole_table, output_of, Exchange, bytes_given, bytes_due, MissesNothing, computing}

abbrev exchanges : List Exchange
exchanges =
    (codes "[\"createElement\",0,\"p\"]\n", codes "{\"ok\":1}\n")
    ∷ (codes "[\"createText\",0,\"\"]\n", codes "{\"ok\":2}\n")
    ∷ (codes "[\"createText\",0,\"a\"]\n", codes "{\"ok\":3}\n")
    ∷ (codes "[\"createText\",0,\"\"]\n", codes "{\"ok\":4}\n")
    ∷ (codes "[\"createText\",0,\"b\"]\n", codes "{\"ok\":5}\n")
    ∷ (codes "[\"createComment\",0,\"x\"]\n", codes "{\"ok\":6}\n")
    ∷ (codes "[\"createText\",0,\"c\"]\n", codes "{\"ok\":7}\n")
    ∷ (codes "[\"appendChild\",1,2]\n", codes "{\"ok\":2}\n")
    ∷ (codes "[\"appendChild\",1,3]\n", codes "{\"ok\":3}\n")
    ∷ (codes "[\"appendChild\",1,4]\n", codes "{\"ok\":4}\n")
    ∷ (codes "[\"appendChild\",1,5]\n", codes "{\"ok\":5}\n")
    ∷ (codes "[\"appendChild\",1,6]\n", codes "{\"ok\":6}\n")
    ∷ (codes "[\"appendChild\",1,7]\n", codes "{\"ok\":7}\n")
    ∷ (codes "[\"createObserver\"]\n", codes "{\"ok\":0}\n")
    ∷ (codes "[\"observe\",0,1,{\"childList\":true,\"subtree\":true,\"characterDataOldValue\":true}]\n", codes "{\"ok\":null}\n")
    ∷ (codes "[\"createRange\",0]\n", codes "{\"ok\":0}\n")
    ∷ (codes "[\"createRange\",0]\n", codes "{\"ok\":1}\n")
    ∷ (codes "[\"setStart\",0,4,0]\n", codes "{\"ok\":null}\n")
    ∷ (codes "[\"setEnd\",0,1,3]\n", codes "{\"ok\":null}\n")
    ∷ (codes "[\"setStart\",1,5,1]\n", codes "{\"ok\":null}\n")
    ∷ (codes "[\"setEnd\",1,1,5]\n", codes "{\"ok\":null}\n")
    ∷ (codes "[\"normalize\",1]\n", codes "{\"ok\":null}\n")
    ∷ (codes "[\"range\",0]\n", codes "{\"ok\":[3,1,3,1]}\n")
    ∷ (codes "[\"range\",1]\n", codes "{\"ok\":[3,2,1,2]}\n")
    ∷ (codes "[\"children\",1]\n", codes "{\"ok\":[3,6,7]}\n")
    ∷ (
      codes "[\"takeRecords\",0]\n",
      codes "{\"ok\":[[\"childList\",1,[],[2],null,3,null,null],[\"characterData\",3,[],[],null,null,null,\"a\"],[\"childList\",1,[],[4],3,5,null,null],[\"childList\",1,[],[5],3,6,null,null],[\"characterData\",7,[],[],null,null,null,\"c\"]]}\n",
    )
    ∷ []

pub ends_after_normalizing : output_of whole_table usual_bounds (bytes_given exchanges) ≡ bytes_due exchanges
unfolding computing
ends_after_normalizing = refl

pub ends_after_normalizing-misses_nothing : MissesNothing whole_table usual_bounds (bytes_given exchanges)
unfolding computing
ends_after_normalizing-misses_nothing = record { ends = refl; texts = refl; worlds = refl; contents = refl }
