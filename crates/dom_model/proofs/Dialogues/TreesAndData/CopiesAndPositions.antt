-- A dialogue, from bytes to bytes: copies and positions.
use Rattle.dom_model.proofs.Dialogues.Exchanges.{◌≡◌, refl, List, codes, [], ◌∷◌, usual_bounds, whole_table, output_of, Exchange, bytes_given, bytes_due, MissesNothing, computing}

abbrev exchanges : List Exchange
exchanges =
    (codes "[\"createElement\",0,\"p\"]\n", codes "{\"ok\":1}\n")
    ∷ (codes "[\"createText\",0,\"a\"]\n", codes "{\"ok\":2}\n")
    ∷ (codes "[\"createElement\",0,\"b\"]\n", codes "{\"ok\":3}\n")
    ∷ (codes "[\"appendChild\",1,2]\n", codes "{\"ok\":2}\n")
    ∷ (codes "[\"appendChild\",1,3]\n", codes "{\"ok\":3}\n")
    ∷ (codes "[\"cloneNode\",1,true]\n", codes "{\"ok\":4}\n")
    ∷ (codes "[\"children\",4]\n", codes "{\"ok\":[5,6]}\n")
    ∷ (codes "[\"isEqual\",1,4]\n", codes "{\"ok\":true}\n")
    ∷ (codes "[\"contains\",1,3]\n", codes "{\"ok\":true}\n")
    ∷ (codes "[\"comparePosition\",1,3]\n", codes "{\"ok\":20}\n")
    ∷ (codes "[\"comparePosition\",2,3]\n", codes "{\"ok\":4}\n")
    ∷ (codes "[\"comparePosition\",1,4]\n", codes "{\"ok\":37}\n")
    ∷ (codes "[\"comparePosition\",4,1]\n", codes "{\"ok\":35}\n")
    ∷ (codes "[\"setTextContent\",3,\"z\"]\n", codes "{\"ok\":null}\n")
    ∷ (codes "[\"textContent\",1]\n", codes "{\"ok\":\"az\"}\n")
    ∷ (codes "[\"newDocument\"]\n", codes "{\"ok\":8}\n")
    ∷ (codes "[\"importNode\",8,1,false]\n", codes "{\"ok\":9}\n")
    ∷ (codes "[\"adoptNode\",8,1]\n", codes "{\"ok\":1}\n")
    ∷ (codes "[\"node\",3]\n", codes "{\"ok\":{\"document\":8,\"name\":\"b\",\"next\":null,\"parent\":1,\"previous\":2,\"type\":1}}\n")
    ∷ (codes "[\"replaceChildren\",1,9]\n", codes "{\"ok\":null}\n")
    ∷ (codes "[\"children\",1]\n", codes "{\"ok\":[9]}\n")
    ∷ (codes "[\"adoptNode\",0,8]\n", codes "{\"error\":\"NotSupportedError\"}\n")
    ∷ []

pub copies_and_positions : output_of whole_table usual_bounds (bytes_given exchanges) ≡ bytes_due exchanges
unfolding computing
copies_and_positions = refl

pub copies_and_positions-misses_nothing : MissesNothing whole_table usual_bounds (bytes_given exchanges)
unfolding computing
copies_and_positions-misses_nothing = record { ends = refl; texts = refl; worlds = refl; contents = refl }
