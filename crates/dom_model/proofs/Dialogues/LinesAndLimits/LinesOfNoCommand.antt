-- A dialogue, from bytes to bytes: lines of no command.
use Rattle.dom_model.proofs.Dialogues.Exchanges.{◌≡◌, refl, List, codes, [], ◌∷◌, ◌++◌, usual_bounds, whole_table, output_of, Exchange, bytes_given, bytes_due, MissesNothing, computing}

abbrev exchanges : List Exchange
exchanges =
    (codes "5\n", codes "{\"error\":\"bad-command\"}\n")
    ∷ (codes "-1.5e3\n", codes "{\"error\":\"bad-command\"}\n")
    ∷ (codes "\"tree\"\n", codes "{\"error\":\"bad-command\"}\n")
    ∷ (codes "true\n", codes "{\"error\":\"bad-command\"}\n")
    ∷ (codes "{\"tree\":0}\n", codes "{\"error\":\"bad-command\"}\n")
    ∷ (codes "[null]\n", codes "{\"error\":\"bad-command\"}\n")
    ∷ (codes "[5]\n", codes "{\"error\":\"bad-command\"}\n")
    ∷ (codes "[true,0]\n", codes "{\"error\":\"bad-command\"}\n")
    ∷ (codes "[{}]\n", codes "{\"error\":\"bad-command\"}\n")
    ∷ (codes "[[],0]\n", codes "{\"error\":\"bad-command\"}\n")
    ∷ (codes "[\"\"]\n", codes "{\"error\":\"bad-command\"}\n")
    ∷ (codes "[\"tree \",0]\n", codes "{\"error\":\"bad-command\"}\n")
    ∷ (codes "[\"trees\",0]\n", codes "{\"error\":\"bad-command\"}\n")
    ∷ (codes "[\"tre\",0]\n", codes "{\"error\":\"bad-command\"}\n")
    ∷ (codes "[\"tree\\u0000\",0]\n", codes "{\"error\":\"bad-command\"}\n")
    ∷ (codes "[\"\\u0074r\\u0065e\",0]\n", codes "{\"ok\":[[0,0,9,\"#document\"]]}\n")
    ∷ (codes " [ \"tree\"" ++ (9 ∷ []) ++ codes ", 0 ] " ++ (13 ∷ []) ++ codes "\n", codes "{\"ok\":[[0,0,9,\"#document\"]]}\n")
    ∷ (codes "[\n", codes "{\"error\":\"bad-json\"}\n")
    ∷ (codes "]\n", codes "{\"error\":\"bad-json\"}\n")
    ∷ (codes "[\"tree\",0]]\n", codes "{\"error\":\"bad-json\"}\n")
    ∷ (codes "[\"tree\" 0]\n", codes "{\"error\":\"bad-json\"}\n")
    ∷ (codes "[\"tree\",,0]\n", codes "{\"error\":\"bad-json\"}\n")
    ∷ (codes "['tree',0]\n", codes "{\"error\":\"bad-json\"}\n")
    ∷ (codes "[\"tree,0]\n", codes "{\"error\":\"bad-json\"}\n")
    ∷ (codes "[,]\n", codes "{\"error\":\"bad-json\"}\n")
    ∷ (codes "nul\n", codes "{\"error\":\"bad-json\"}\n")
    ∷ (codes "tru\n", codes "{\"error\":\"bad-json\"}\n")
    ∷ (codes "[\"tree\",NaN]\n", codes "{\"error\":\"bad-json\"}\n")
    ∷ (codes "[\"tree\",0]//\n", codes "{\"error\":\"bad-json\"}\n")
    ∷ ((239 ∷ 187 ∷ 191 ∷ []) ++ codes "[\"tree\",0]\n", codes "{\"error\":\"bad-json\"}\n")
    ∷ ((194 ∷ 160 ∷ []) ++ codes "[\"tree\",0]\n", codes "{\"error\":\"bad-json\"}\n")
    ∷ ((12 ∷ []) ++ codes "[\"tree\",0]\n", codes "{\"error\":\"bad-json\"}\n")
    ∷ ((11 ∷ []) ++ codes "[\"tree\",0]\n", codes "{\"error\":\"bad-json\"}\n")
    ∷ (codes "[\"tr\\ee\",0]\n", codes "{\"error\":\"bad-json\"}\n")
    ∷ (codes "[\"tr" ++ (9 ∷ []) ++ codes "ee\",0]\n", codes "{\"error\":\"bad-json\"}\n")
    ∷ (codes "[\"tree\",0]" ++ (0 ∷ []) ++ codes "\n", codes "{\"error\":\"bad-json\"}\n")
    ∷ ((0 ∷ []) ++ codes "\n", codes "{\"error\":\"bad-json\"}\n")
    ∷ (codes "{\"a\":1\n", codes "{\"error\":\"bad-json\"}\n")
    ∷ (codes "{\"a\"}\n", codes "{\"error\":\"bad-json\"}\n")
    ∷ (codes "{a:1}\n", codes "{\"error\":\"bad-json\"}\n")
    ∷ (codes "{\"a\":1,}\n", codes "{\"error\":\"bad-json\"}\n")
    ∷ (codes "[\"newDocument\",\"x\"]\n", codes "{\"error\":\"bad-arguments\"}\n")
    ∷ (codes "[\"notify\",null]\n", codes "{\"error\":\"bad-arguments\"}\n")
    ∷ (codes "[\"createText\",0]\n", codes "{\"error\":\"bad-arguments\"}\n")
    ∷ (codes "[\"createText\"]\n", codes "{\"error\":\"bad-arguments\"}\n")
    ∷ (codes "[\"insertBefore\",0,1]\n", codes "{\"error\":\"bad-arguments\"}\n")
    ∷ (codes "[\"insertBefore\",0,1,null,null]\n", codes "{\"error\":\"bad-arguments\"}\n")
    ∷ (codes "[\"createPI\",0,\"t\"]\n", codes "{\"error\":\"bad-arguments\"}\n")
    ∷ (codes "[\"toggleAttribute\",0,\"a\"]\n", codes "{\"error\":\"bad-arguments\"}\n")
    ∷ (codes "[\"replaceData\",0,0,0]\n", codes "{\"error\":\"bad-arguments\"}\n")
    ∷ (codes "[\"compareBoundaryPoints\",0,0]\n", codes "{\"error\":\"bad-arguments\"}\n")
    ∷ (codes "[\"createWalker\",0,4294967295]\n", codes "{\"error\":\"bad-arguments\"}\n")
    ∷ (codes "[\"tree\",0,null]\n", codes "{\"error\":\"bad-arguments\"}\n")
    ∷ (codes "[\"tree\",0]\n", codes "{\"ok\":[[0,0,9,\"#document\"]]}\n")
    ∷ []

pub lines_of_no_command : output_of whole_table usual_bounds (bytes_given exchanges) ≡ bytes_due exchanges
unfolding computing
lines_of_no_command = refl

pub lines_of_no_command-misses_nothing : MissesNothing whole_table usual_bounds (bytes_given exchanges)
unfolding computing
lines_of_no_command-misses_nothing = record { ends = refl; texts = refl; worlds = refl; contents = refl }
