-- A dialogue, from bytes to bytes: bytes of no text.
use Rattle.dom_model.proofs.Dialogues.Exchanges.{◌≡◌, refl, List, codes, [], ◌∷◌, ◌++◌, usual_bounds, whole_table, output_of, Exchange, bytes_given, bytes_due, MissesNothing, computing}

abbrev exchanges : List Exchange
exchanges =
    (codes "[\"createText\",0,\"a" ++ (255 ∷ []) ++ codes "\"]\n", codes "{\"error\":\"bad-json\"}\n")
    ∷ (codes "[\"createText\",0,\"a" ++ (128 ∷ []) ++ codes "\"]\n", codes "{\"error\":\"bad-json\"}\n")
    ∷ (codes "[\"createText\",0,\"a" ++ (192 ∷ 128 ∷ []) ++ codes "\"]\n", codes "{\"error\":\"bad-json\"}\n")
    ∷ (codes "[\"createText\",0,\"a" ++ (193 ∷ 191 ∷ []) ++ codes "\"]\n", codes "{\"error\":\"bad-json\"}\n")
    ∷ (codes "[\"createText\",0,\"a" ++ (224 ∷ 159 ∷ 191 ∷ []) ++ codes "\"]\n", codes "{\"error\":\"bad-json\"}\n")
    ∷ (codes "[\"createText\",0,\"a" ++ (237 ∷ 160 ∷ 128 ∷ []) ++ codes "\"]\n", codes "{\"error\":\"bad-json\"}\n")
    ∷ (codes "[\"createText\",0,\"a" ++ (240 ∷ 143 ∷ 191 ∷ 191 ∷ []) ++ codes "\"]\n", codes "{\"error\":\"bad-json\"}\n")
    ∷ (codes "[\"createText\",0,\"a" ++ (244 ∷ 144 ∷ 128 ∷ 128 ∷ []) ++ codes "\"]\n", codes "{\"error\":\"bad-json\"}\n")
    ∷ (codes "[\"createText\",0,\"a" ++ (245 ∷ 128 ∷ 128 ∷ 128 ∷ []) ++ codes "\"]\n", codes "{\"error\":\"bad-json\"}\n")
    ∷ (codes "[\"createText\",0,\"a" ++ (195 ∷ []) ++ codes "\"]\n", codes "{\"error\":\"bad-json\"}\n")
    ∷ (codes "[\"createText\",0,\"a" ++ (226 ∷ 130 ∷ []) ++ codes "\"]\n", codes "{\"error\":\"bad-json\"}\n")
    ∷ (codes "[\"createText\",0,\"a" ++ (240 ∷ 159 ∷ 152 ∷ []) ++ codes "\"]\n", codes "{\"error\":\"bad-json\"}\n")
    ∷ (codes "[\"createText\",0,\"a" ++ (195 ∷ 195 ∷ []) ++ codes "\"]\n", codes "{\"error\":\"bad-json\"}\n")
    ∷ (codes "[\"tree\",0]" ++ (255 ∷ []) ++ codes "\n", codes "{\"error\":\"bad-json\"}\n")
    ∷ ((195 ∷ 169 ∷ []) ++ codes "\n", codes "{\"error\":\"bad-json\"}\n")
    ∷ (codes "[\"tr" ++ (255 ∷ []) ++ codes "ee\",0]\n", codes "{\"error\":\"bad-json\"}\n")
    ∷ (codes "[\"observe\",0,0,{\"" ++ (255 ∷ []) ++ codes "\":true}]\n", codes "{\"error\":\"bad-json\"}\n")
    ∷ (codes "[\"createText\",0,\"a" ++ (194 ∷ 128 ∷ []) ++ codes "\"]\n", codes "{\"ok\":1}\n")
    ∷ (codes "[\"createText\",0,\"a" ++ (237 ∷ 159 ∷ 191 ∷ []) ++ codes "\"]\n", codes "{\"ok\":2}\n")
    ∷ (codes "[\"createText\",0,\"a" ++ (238 ∷ 128 ∷ 128 ∷ []) ++ codes "\"]\n", codes "{\"ok\":3}\n")
    ∷ (codes "[\"createText\",0,\"a" ++ (239 ∷ 191 ∷ 191 ∷ []) ++ codes "\"]\n", codes "{\"ok\":4}\n")
    ∷ (codes "[\"createText\",0,\"a" ++ (244 ∷ 143 ∷ 191 ∷ 191 ∷ []) ++ codes "\"]\n", codes "{\"ok\":5}\n")
    ∷ (codes "[\"data\",1]\n", codes "{\"ok\":\"a" ++ (194 ∷ 128 ∷ []) ++ codes "\"}\n")
    ∷ (codes "[\"data\",2]\n", codes "{\"ok\":\"a" ++ (237 ∷ 159 ∷ 191 ∷ []) ++ codes "\"}\n")
    ∷ (codes "[\"data\",3]\n", codes "{\"ok\":\"a" ++ (238 ∷ 128 ∷ 128 ∷ []) ++ codes "\"}\n")
    ∷ (codes "[\"data\",4]\n", codes "{\"ok\":\"a" ++ (239 ∷ 191 ∷ 191 ∷ []) ++ codes "\"}\n")
    ∷ (codes "[\"data\",5]\n", codes "{\"ok\":\"a" ++ (244 ∷ 143 ∷ 191 ∷ 191 ∷ []) ++ codes "\"}\n")
    ∷ (codes "[\"length\",5]\n", codes "{\"ok\":3}\n")
    ∷ []

pub bytes_of_no_text : output_of whole_table usual_bounds (bytes_given exchanges) ≡ bytes_due exchanges
unfolding computing
bytes_of_no_text = refl

pub bytes_of_no_text-misses_nothing : MissesNothing whole_table usual_bounds (bytes_given exchanges)
unfolding computing
bytes_of_no_text-misses_nothing = record { ends = refl; texts = refl; worlds = refl; contents = refl }
