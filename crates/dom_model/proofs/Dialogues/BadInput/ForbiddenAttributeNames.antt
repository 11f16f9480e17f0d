-- A dialogue, from bytes to bytes: forbidden attribute names.
use Rattle.dom_model.proofs.Dialogues.Exchanges.{◌≡◌, refl, List, codes, [], ◌∷◌, ◌++◌, usual_bounds, whole_table, output_of, Exchange, bytes_given, bytes_due, MissesNothing, computing}

abbrev exchanges : List Exchange
exchanges =
    (codes "[\"createElement\",0,\"e\"]\n", codes "{\"ok\":1}\n")
    ∷ (codes "[\"setAttribute\",1,\"\",\"v\"]\n", codes "{\"error\":\"InvalidCharacterError\"}\n")
    ∷ (codes "[\"toggleAttribute\",1,\"\",null]\n", codes "{\"error\":\"InvalidCharacterError\"}\n")
    ∷ (codes "[\"setAttribute\",1,\"\\t\",\"v\"]\n", codes "{\"error\":\"InvalidCharacterError\"}\n")
    ∷ (codes "[\"toggleAttribute\",1,\"\\t\",null]\n", codes "{\"error\":\"InvalidCharacterError\"}\n")
    ∷ (codes "[\"setAttribute\",1,\"\\n\",\"v\"]\n", codes "{\"error\":\"InvalidCharacterError\"}\n")
    ∷ (codes "[\"toggleAttribute\",1,\"\\n\",null]\n", codes "{\"error\":\"InvalidCharacterError\"}\n")
    ∷ (codes "[\"setAttribute\",1,\"\\f\",\"v\"]\n", codes "{\"error\":\"InvalidCharacterError\"}\n")
    ∷ (codes "[\"toggleAttribute\",1,\"\\f\",null]\n", codes "{\"error\":\"InvalidCharacterError\"}\n")
    ∷ (codes "[\"setAttribute\",1,\"\\r\",\"v\"]\n", codes "{\"error\":\"InvalidCharacterError\"}\n")
    ∷ (codes "[\"toggleAttribute\",1,\"\\r\",null]\n", codes "{\"error\":\"InvalidCharacterError\"}\n")
    ∷ (codes "[\"setAttribute\",1,\" \",\"v\"]\n", codes "{\"error\":\"InvalidCharacterError\"}\n")
    ∷ (codes "[\"toggleAttribute\",1,\" \",null]\n", codes "{\"error\":\"InvalidCharacterError\"}\n")
    ∷ (codes "[\"setAttribute\",1,\"\\u0000\",\"v\"]\n", codes "{\"error\":\"InvalidCharacterError\"}\n")
    ∷ (codes "[\"toggleAttribute\",1,\"\\u0000\",null]\n", codes "{\"error\":\"InvalidCharacterError\"}\n")
    ∷ (codes "[\"setAttribute\",1,\"/\",\"v\"]\n", codes "{\"error\":\"InvalidCharacterError\"}\n")
    ∷ (codes "[\"toggleAttribute\",1,\"/\",null]\n", codes "{\"error\":\"InvalidCharacterError\"}\n")
    ∷ (codes "[\"setAttribute\",1,\">\",\"v\"]\n", codes "{\"error\":\"InvalidCharacterError\"}\n")
    ∷ (codes "[\"toggleAttribute\",1,\">\",null]\n", codes "{\"error\":\"InvalidCharacterError\"}\n")
    ∷ (codes "[\"setAttribute\",1,\"=\",\"v\"]\n", codes "{\"error\":\"InvalidCharacterError\"}\n")
    ∷ (codes "[\"toggleAttribute\",1,\"=\",null]\n", codes "{\"error\":\"InvalidCharacterError\"}\n")
    ∷ (codes "[\"toggleAttribute\",1,\"a b\",false]\n", codes "{\"error\":\"InvalidCharacterError\"}\n")
    ∷ (codes "[\"toggleAttribute\",1,\"a=\",false]\n", codes "{\"error\":\"InvalidCharacterError\"}\n")
    ∷ (codes "[\"setAttribute\",1,\"\\u000b\",\"\"]\n", codes "{\"ok\":null}\n")
    ∷ (codes "[\"setAttribute\",1,\"<\",\"\"]\n", codes "{\"ok\":null}\n")
    ∷ (codes "[\"setAttribute\",1,\"1\",\"\"]\n", codes "{\"ok\":null}\n")
    ∷ (codes "[\"setAttribute\",1,\"\\\"\",\"\"]\n", codes "{\"ok\":null}\n")
    ∷ (codes "[\"setAttribute\",1,\"\\u007f\",\"\"]\n", codes "{\"ok\":null}\n")
    ∷ (codes "[\"setAttribute\",1,\"" ++ (195 ∷ 169 ∷ []) ++ codes "\",\"\"]\n", codes "{\"ok\":null}\n")
    ∷ (codes "[\"toggleAttribute\",1,\"-\",true]\n", codes "{\"ok\":true}\n")
    ∷ (codes "[\"getAttribute\",1,\"a b\"]\n", codes "{\"ok\":null}\n")
    ∷ (codes "[\"hasAttribute\",1,\"=\"]\n", codes "{\"ok\":false}\n")
    ∷ (codes "[\"removeAttribute\",1,\"\"]\n", codes "{\"ok\":null}\n")
    ∷ (
      codes "[\"attributeNames\",1]\n",
      codes "{\"ok\":[\"\\u000b\",\"<\",\"1\",\"\\\"\",\"" ++ (127 ∷ []) ++ codes "\",\"" ++ (195 ∷ 169 ∷ []) ++ codes "\",\"-\"]}\n",
    )
    ∷ (codes "[\"createDoctype\",0,\"a\\t\",\"\",\"\"]\n", codes "{\"error\":\"InvalidCharacterError\"}\n")
    ∷ (codes "[\"createDoctype\",0,\"a\\n\",\"\",\"\"]\n", codes "{\"error\":\"InvalidCharacterError\"}\n")
    ∷ (codes "[\"createDoctype\",0,\"a\\f\",\"\",\"\"]\n", codes "{\"error\":\"InvalidCharacterError\"}\n")
    ∷ (codes "[\"createDoctype\",0,\"a\\r\",\"\",\"\"]\n", codes "{\"error\":\"InvalidCharacterError\"}\n")
    ∷ (codes "[\"createDoctype\",0,\"a \",\"\",\"\"]\n", codes "{\"error\":\"InvalidCharacterError\"}\n")
    ∷ (codes "[\"createDoctype\",0,\"a\\u0000\",\"\",\"\"]\n", codes "{\"error\":\"InvalidCharacterError\"}\n")
    ∷ (codes "[\"createDoctype\",0,\"a>\",\"\",\"\"]\n", codes "{\"error\":\"InvalidCharacterError\"}\n")
    ∷ (codes "[\"createDoctype\",0,\"\",\"a b>\",\"\\u0000\"]\n", codes "{\"ok\":2}\n")
    ∷ (codes "[\"createDoctype\",0,\"/\",\"a b>\",\"\\u0000\"]\n", codes "{\"ok\":3}\n")
    ∷ (codes "[\"createDoctype\",0,\"=\",\"a b>\",\"\\u0000\"]\n", codes "{\"ok\":4}\n")
    ∷ (codes "[\"createDoctype\",0,\"1\",\"a b>\",\"\\u0000\"]\n", codes "{\"ok\":5}\n")
    ∷ (codes "[\"createDoctype\",0,\"\\u000b\",\"a b>\",\"\\u0000\"]\n", codes "{\"ok\":6}\n")
    ∷ (codes "[\"tree\",2]\n", codes "{\"ok\":[[0,2,10,\"\",\"a b>\",\"\\u0000\"]]}\n")
    ∷ []

pub forbidden_attribute_names : output_of whole_table usual_bounds (bytes_given exchanges) ≡ bytes_due exchanges
unfolding computing
forbidden_attribute_names = refl

pub forbidden_attribute_names-misses_nothing : MissesNothing whole_table usual_bounds (bytes_given exchanges)
unfolding computing
forbidden_attribute_names-misses_nothing = record { ends = refl; texts = refl; worlds = refl; contents = refl }
