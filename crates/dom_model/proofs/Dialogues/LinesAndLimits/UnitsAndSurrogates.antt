-- A dialogue, from bytes to bytes: units and surrogates.
use Rattle.dom_model.proofs.Dialogues.Exchanges.{◌≡◌, refl, List, codes, [], ◌∷◌, ◌++◌, usual_bounds, whole_table, output_of, Exchange, bytes_given, bytes_due, MissesNothing, computing}

abbrev exchanges : List Exchange
exchanges =
    (codes "[\"createText\",0,[55357,56832]]\n", codes "{\"ok\":1}\n")
    ∷ (codes "[\"data\",1]\n", codes "{\"ok\":\"" ++ (240 ∷ 159 ∷ 152 ∷ 128 ∷ []) ++ codes "\"}\n")
    ∷ (codes "[\"createText\",0,[56832,55357]]\n", codes "{\"ok\":2}\n")
    ∷ (codes "[\"data\",2]\n", codes "{\"ok\":[56832,55357]}\n")
    ∷ (codes "[\"createText\",0,[65535,0]]\n", codes "{\"ok\":3}\n")
    ∷ (codes "[\"data\",3]\n", codes "{\"ok\":\"" ++ (239 ∷ 191 ∷ 191 ∷ []) ++ codes "\\u0000\"}\n")
    ∷ (codes "[\"createText\",0,[]]\n", codes "{\"ok\":4}\n")
    ∷ (codes "[\"data\",4]\n", codes "{\"ok\":\"\"}\n")
    ∷ (codes "[\"createText\",0,\"\\uD83D\\ude00\"]\n", codes "{\"ok\":5}\n")
    ∷ (codes "[\"length\",5]\n", codes "{\"ok\":2}\n")
    ∷ (codes "[\"data\",5]\n", codes "{\"ok\":\"" ++ (240 ∷ 159 ∷ 152 ∷ 128 ∷ []) ++ codes "\"}\n")
    ∷ (codes "[\"createText\",0,\"\\ud800\"]\n", codes "{\"error\":\"bad-json\"}\n")
    ∷ (codes "[\"createText\",0,\"\\udc00\"]\n", codes "{\"error\":\"bad-json\"}\n")
    ∷ (codes "[\"createText\",0,\"\\ud800\\u0041\"]\n", codes "{\"error\":\"bad-json\"}\n")
    ∷ (codes "[\"createText\",0,\"\\ud800x\"]\n", codes "{\"error\":\"bad-json\"}\n")
    ∷ (codes "[\"createText\",0,\"\\ud800\\ud800\"]\n", codes "{\"error\":\"bad-json\"}\n")
    ∷ (codes "[\"createText\",0,\"\\u12\"]\n", codes "{\"error\":\"bad-json\"}\n")
    ∷ (codes "[\"createText\",0,[65536]]\n", codes "{\"error\":\"bad-arguments\"}\n")
    ∷ (codes "[\"createText\",0,[97,65536]]\n", codes "{\"error\":\"bad-arguments\"}\n")
    ∷ (codes "[\"createText\",0,[4294967296]]\n", codes "{\"error\":\"bad-arguments\"}\n")
    ∷ (codes "[\"createText\",0,[-1]]\n", codes "{\"error\":\"bad-arguments\"}\n")
    ∷ (codes "[\"createText\",0,[97.0]]\n", codes "{\"error\":\"bad-arguments\"}\n")
    ∷ (codes "[\"createText\",0,[\"a\"]]\n", codes "{\"error\":\"bad-arguments\"}\n")
    ∷ (codes "[\"createText\",0,[[97]]]\n", codes "{\"error\":\"bad-arguments\"}\n")
    ∷ (codes "[\"createText\",0,[null]]\n", codes "{\"error\":\"bad-arguments\"}\n")
    ∷ (codes "[\"createText\",0,[true]]\n", codes "{\"error\":\"bad-arguments\"}\n")
    ∷ (codes "[\"createText\",0,null]\n", codes "{\"error\":\"bad-arguments\"}\n")
    ∷ (codes "[\"createText\",0,{\"0\":97}]\n", codes "{\"error\":\"bad-arguments\"}\n")
    ∷ (codes "[\"appendData\",1,[55357]]\n", codes "{\"ok\":null}\n")
    ∷ (codes "[\"data\",1]\n", codes "{\"ok\":[55357,56832,55357]}\n")
    ∷ (codes "[\"appendData\",1,[56832]]\n", codes "{\"ok\":null}\n")
    ∷ (codes "[\"data\",1]\n", codes "{\"ok\":\"" ++ (240 ∷ 159 ∷ 152 ∷ 128 ∷ 240 ∷ 159 ∷ 152 ∷ 128 ∷ []) ++ codes "\"}\n")
    ∷ (codes "[\"substringData\",1,1,2]\n", codes "{\"ok\":[56832,55357]}\n")
    ∷ (codes "[\"substringData\",1,2,2]\n", codes "{\"ok\":\"" ++ (240 ∷ 159 ∷ 152 ∷ 128 ∷ []) ++ codes "\"}\n")
    ∷ (codes "[\"createObserver\"]\n", codes "{\"ok\":0}\n")
    ∷ (codes "[\"observe\",0,1,{\"characterDataOldValue\":true}]\n", codes "{\"ok\":null}\n")
    ∷ (codes "[\"replaceData\",1,1,2,\"x\"]\n", codes "{\"ok\":null}\n")
    ∷ (codes "[\"setData\",1,\"\"]\n", codes "{\"ok\":null}\n")
    ∷ (
      codes "[\"takeRecords\",0]\n",
      codes "{\"ok\":[[\"characterData\",1,[],[],null,null,null,\"" ++ (240 ∷ 159 ∷ 152 ∷ 128 ∷ 240 ∷ 159 ∷ 152 ∷ 128 ∷ []) ++ codes "\"],[\"characterData\",1,[],[],null,null,null,[55357,120,56832]]]}\n",
    )
    ∷ (codes "[\"createElement\",0,\"e\"]\n", codes "{\"ok\":6}\n")
    ∷ (codes "[\"setAttribute\",6,\"a\",[55296]]\n", codes "{\"ok\":null}\n")
    ∷ (codes "[\"getAttribute\",6,\"a\"]\n", codes "{\"ok\":[55296]}\n")
    ∷ (codes "[\"tree\",6]\n", codes "{\"ok\":[[0,6,1,\"e\",[[\"a\",[55296]]]]]}\n")
    ∷ (codes "[\"setAttribute\",6,[97],\"v\"]\n", codes "{\"error\":\"bad-arguments\"}\n")
    ∷ (codes "[\"createElement\",0,[101]]\n", codes "{\"error\":\"bad-arguments\"}\n")
    ∷ (codes "[\"createText\",0,[55357]]\n", codes "{\"ok\":7}\n")
    ∷ (codes "[\"createText\",0,[56832]]\n", codes "{\"ok\":8}\n")
    ∷ (codes "[\"appendChild\",6,7]\n", codes "{\"ok\":7}\n")
    ∷ (codes "[\"appendChild\",6,8]\n", codes "{\"ok\":8}\n")
    ∷ (codes "[\"textContent\",6]\n", codes "{\"ok\":\"" ++ (240 ∷ 159 ∷ 152 ∷ 128 ∷ []) ++ codes "\"}\n")
    ∷ (codes "[\"tree\",6]\n", codes "{\"ok\":[[0,6,1,\"e\",[[\"a\",[55296]]]],[1,7,3,\"#text\",[55357]],[1,8,3,\"#text\",[56832]]]}\n")
    ∷ (codes "[\"createComment\",0,\"\\b\\f\\n\\r\\t\\\"\\\\\\/\\u0001\\u001f\\u007f\\u2028\"]\n", codes "{\"ok\":9}\n")
    ∷ (codes "[\"data\",9]\n", codes "{\"ok\":\"\\b\\f\\n\\r\\t\\\"\\\\/\\u0001\\u001f" ++ (127 ∷ 226 ∷ 128 ∷ 168 ∷ []) ++ codes "\"}\n")
    ∷ (codes "[\"length\",9]\n", codes "{\"ok\":12}\n")
    ∷ []

pub units_and_surrogates : output_of whole_table usual_bounds (bytes_given exchanges) ≡ bytes_due exchanges
unfolding computing
units_and_surrogates = refl

pub units_and_surrogates-misses_nothing : MissesNothing whole_table usual_bounds (bytes_given exchanges)
unfolding computing
units_and_surrogates-misses_nothing = record { ends = refl; texts = refl; worlds = refl; contents = refl }
