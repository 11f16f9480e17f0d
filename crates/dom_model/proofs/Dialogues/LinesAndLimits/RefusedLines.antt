-- A dialogue, from bytes to bytes: refused lines.
use Rattle.dom_model.proofs.Dialogues.Exchanges.{◌≡◌, refl, List, codes, [], ◌∷◌, ◌++◌, Bounds, whole_table, output_of, Exchange, bytes_given, bytes_due, MissesNothing, computing}

abbrev bounds : Bounds
bounds = record { numbers = 4294967295; line = 40 }

abbrev exchanges : List Exchange
exchanges =
    (codes "[\"createText\",0,\"t\"]\n", codes "{\"ok\":1}\n")
    ∷ (codes "\n", codes "{\"error\":\"bad-json\"}\n")
    ∷ (codes "[\"createText\",0,\"t\"]\n", codes "{\"ok\":2}\n")
    ∷ (codes " " ++ (9 ∷ []) ++ codes " \n", codes "{\"error\":\"bad-json\"}\n")
    ∷ (codes "[\"createText\",0,\"t\"]\n", codes "{\"ok\":3}\n")
    ∷ (codes "tree\n", codes "{\"error\":\"bad-json\"}\n")
    ∷ (codes "[\"createText\",0,\"t\"]\n", codes "{\"ok\":4}\n")
    ∷ (codes "[\"tree\",0,]\n", codes "{\"error\":\"bad-json\"}\n")
    ∷ (codes "[\"createText\",0,\"t\"]\n", codes "{\"ok\":5}\n")
    ∷ (codes "[\"tree\",0\n", codes "{\"error\":\"bad-json\"}\n")
    ∷ (codes "[\"createText\",0,\"t\"]\n", codes "{\"ok\":6}\n")
    ∷ (codes "[\"tree\",0][\"tree\",0]\n", codes "{\"error\":\"bad-json\"}\n")
    ∷ (codes "[\"createText\",0,\"t\"]\n", codes "{\"ok\":7}\n")
    ∷ ((255 ∷ []) ++ codes "\n", codes "{\"error\":\"bad-json\"}\n")
    ∷ (codes "[\"createText\",0,\"t\"]\n", codes "{\"ok\":8}\n")
    ∷ (codes "[\"createText\",0,\"" ++ (255 ∷ []) ++ codes "\"]\n", codes "{\"error\":\"bad-json\"}\n")
    ∷ (codes "[\"createText\",0,\"t\"]\n", codes "{\"ok\":9}\n")
    ∷ (codes "{}\n", codes "{\"error\":\"bad-command\"}\n")
    ∷ (codes "[\"createText\",0,\"t\"]\n", codes "{\"ok\":10}\n")
    ∷ (codes "null\n", codes "{\"error\":\"bad-command\"}\n")
    ∷ (codes "[\"createText\",0,\"t\"]\n", codes "{\"ok\":11}\n")
    ∷ (codes "[]\n", codes "{\"error\":\"bad-command\"}\n")
    ∷ (codes "[\"createText\",0,\"t\"]\n", codes "{\"ok\":12}\n")
    ∷ (codes "[[\"tree\",0]]\n", codes "{\"error\":\"bad-command\"}\n")
    ∷ (codes "[\"createText\",0,\"t\"]\n", codes "{\"ok\":13}\n")
    ∷ (codes "[\"nosuch\"]\n", codes "{\"error\":\"bad-command\"}\n")
    ∷ (codes "[\"createText\",0,\"t\"]\n", codes "{\"ok\":14}\n")
    ∷ (codes "[\"Tree\",0]\n", codes "{\"error\":\"bad-command\"}\n")
    ∷ (codes "[\"createText\",0,\"t\"]\n", codes "{\"ok\":15}\n")
    ∷ (codes "[\"tree\"]\n", codes "{\"error\":\"bad-arguments\"}\n")
    ∷ (codes "[\"createText\",0,\"t\"]\n", codes "{\"ok\":16}\n")
    ∷ (codes "[\"tree\",-1]\n", codes "{\"error\":\"bad-arguments\"}\n")
    ∷ (codes "[\"createText\",0,\"t\"]\n", codes "{\"ok\":17}\n")
    ∷ (codes "[\"tree\",0.0]\n", codes "{\"error\":\"bad-arguments\"}\n")
    ∷ (codes "[\"createText\",0,\"t\"]\n", codes "{\"ok\":18}\n")
    ∷ (codes "[\"tree\",4294967296]\n", codes "{\"error\":\"bad-arguments\"}\n")
    ∷ (codes "[\"createText\",0,\"t\"]\n", codes "{\"ok\":19}\n")
    ∷ (codes "[\"tree\",0,0]\n", codes "{\"error\":\"bad-arguments\"}\n")
    ∷ (codes "[\"createText\",0,\"t\"]\n", codes "{\"ok\":20}\n")
    ∷ (codes "[\"newDocument\",0]\n", codes "{\"error\":\"bad-arguments\"}\n")
    ∷ (codes "[\"createText\",0,\"t\"]\n", codes "{\"ok\":21}\n")
    ∷ (codes "[\"createElement\",9,5]\n", codes "{\"error\":\"bad-arguments\"}\n")
    ∷ (codes "[\"createText\",0,\"t\"]\n", codes "{\"ok\":22}\n")
    ∷ (codes "[\"createText\",0,[97,65536]]\n", codes "{\"error\":\"bad-arguments\"}\n")
    ∷ (codes "[\"createText\",0,\"t\"]\n", codes "{\"ok\":23}\n")
    ∷ (codes "[\"tree\",4294967295]\n", codes "{\"error\":\"no-such-object\"}\n")
    ∷ (codes "[\"createText\",0,\"t\"]\n", codes "{\"ok\":24}\n")
    ∷ (codes "[\"appendChild\",0,9999]\n", codes "{\"error\":\"no-such-object\"}\n")
    ∷ (codes "[\"createText\",0,\"t\"]\n", codes "{\"ok\":25}\n")
    ∷ (codes "[\"createElement\",9999,\"1a\"]\n", codes "{\"error\":\"no-such-object\"}\n")
    ∷ (codes "[\"createText\",0,\"t\"]\n", codes "{\"ok\":26}\n")
    ∷ (codes "[\"createElement\",1,\"1a\"]\n", codes "{\"error\":\"TypeError\"}\n")
    ∷ (codes "[\"createText\",0,\"t\"]\n", codes "{\"ok\":27}\n")
    ∷ (codes "[\"createText\",1,\"t\"]\n", codes "{\"error\":\"TypeError\"}\n")
    ∷ (codes "[\"createText\",0,\"t\"]\n", codes "{\"ok\":28}\n")
    ∷ (codes "[\"createElement\",0,\"1a\"]\n", codes "{\"error\":\"InvalidCharacterError\"}\n")
    ∷ (codes "[\"createText\",0,\"t\"]\n", codes "{\"ok\":29}\n")
    ∷ (codes "[\"createElement\",0,\"\"]\n", codes "{\"error\":\"InvalidCharacterError\"}\n")
    ∷ (codes "[\"createText\",0,\"t\"]\n", codes "{\"ok\":30}\n")
    ∷ (codes "[\"appendChild\",0,1]\n", codes "{\"error\":\"HierarchyRequestError\"}\n")
    ∷ (codes "[\"createText\",0,\"t\"]\n", codes "{\"ok\":31}\n")
    ∷ (codes "[\"createText\",0,\"0123456789012345678901\"]\n", codes "{\"error\":\"line-too-long\"}\n")
    ∷ (codes "[\"createText\",0,\"t\"]\n", codes "{\"ok\":32}\n")
    ∷ (codes "[\"tree\",0]", codes "{\"ok\":[[0,0,9,\"#document\"]]}\n")
    ∷ []

pub refused_lines : output_of whole_table bounds (bytes_given exchanges) ≡ bytes_due exchanges
unfolding computing
refused_lines = refl

pub refused_lines-misses_nothing : MissesNothing whole_table bounds (bytes_given exchanges)
unfolding computing
refused_lines-misses_nothing = record { ends = refl; texts = refl; worlds = refl; contents = refl }
