-- A dialogue, from bytes to bytes: documents of copies.
use Rattle.dom_model.proofs.Dialogues.Exchanges.{◌≡◌, refl, List, codes, [], ◌∷◌, usual_bounds, whole_table, output_of, Exchange, bytes_given, bytes_due, MissesNothing, computing}

abbrev exchanges : List Exchange
exchanges =
    (codes "[\"createElement\",0,\"a\"]\n", codes "{\"ok\":1}\n")
    ∷ (codes "[\"createElement\",0,\"b\"]\n", codes "{\"ok\":2}\n")
    ∷ (codes "[\"createText\",0,\"c\"]\n", codes "{\"ok\":3}\n")
    ∷ (codes "[\"createComment\",0,\"d\"]\n", codes "{\"ok\":4}\n")
    ∷ (codes "[\"appendChild\",0,1]\n", codes "{\"ok\":1}\n")
    ∷ (codes "[\"appendChild\",1,2]\n", codes "{\"ok\":2}\n")
    ∷ (codes "[\"appendChild\",2,3]\n", codes "{\"ok\":3}\n")
    ∷ (codes "[\"appendChild\",1,4]\n", codes "{\"ok\":4}\n")
    ∷ (codes "[\"newDocument\"]\n", codes "{\"ok\":5}\n")
    ∷ (codes "[\"importNode\",5,1,true]\n", codes "{\"ok\":6}\n")
    ∷ (codes "[\"tree\",6]\n", codes "{\"ok\":[[0,6,1,\"a\",[]],[1,7,1,\"b\",[]],[2,8,3,\"#text\",\"c\"],[1,9,8,\"#comment\",\"d\"]]}\n")
    ∷ (codes "[\"node\",9]\n", codes "{\"ok\":{\"document\":5,\"name\":\"#comment\",\"next\":null,\"parent\":6,\"previous\":7,\"type\":8}}\n")
    ∷ (codes "[\"cloneNode\",0,true]\n", codes "{\"ok\":10}\n")
    ∷ (
      codes "[\"tree\",10]\n",
      codes "{\"ok\":[[0,10,9,\"#document\"],[1,11,1,\"a\",[]],[2,12,1,\"b\",[]],[3,13,3,\"#text\",\"c\"],[2,14,8,\"#comment\",\"d\"]]}\n",
    )
    ∷ (codes "[\"node\",10]\n", codes "{\"ok\":{\"document\":10,\"name\":\"#document\",\"next\":null,\"parent\":null,\"previous\":null,\"type\":9}}\n")
    ∷ (codes "[\"node\",14]\n", codes "{\"ok\":{\"document\":10,\"name\":\"#comment\",\"next\":null,\"parent\":11,\"previous\":12,\"type\":8}}\n")
    ∷ (codes "[\"cloneNode\",1,false]\n", codes "{\"ok\":15}\n")
    ∷ (codes "[\"node\",15]\n", codes "{\"ok\":{\"document\":0,\"name\":\"a\",\"next\":null,\"parent\":null,\"previous\":null,\"type\":1}}\n")
    ∷ (codes "[\"children\",15]\n", codes "{\"ok\":[]}\n")
    ∷ (codes "[\"importNode\",5,0,true]\n", codes "{\"error\":\"NotSupportedError\"}\n")
    ∷ (codes "[\"cloneContents\",0]\n", codes "{\"error\":\"no-such-object\"}\n")
    ∷ []

pub documents_of_copies : output_of whole_table usual_bounds (bytes_given exchanges) ≡ bytes_due exchanges
unfolding computing
documents_of_copies = refl

pub documents_of_copies-misses_nothing : MissesNothing whole_table usual_bounds (bytes_given exchanges)
unfolding computing
documents_of_copies-misses_nothing = record { ends = refl; texts = refl; worlds = refl; contents = refl }
