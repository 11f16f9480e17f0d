-- An element is made, appended to the document, and the tree is printed.
use Rattle.dom_model.proofs.Dialogues.Exchanges.{◌≡◌, refl, codes, usual_bounds, whole_table, output_of, computing}

pub first_dialogue : output_of whole_table usual_bounds
    (codes "[\"createElement\",0,\"p\"]\n[\"appendChild\",0,1]\n[\"tree\",0]\n[\"createText\",0,\"\"]\n[\"createText\",0,[55357]]\n[\"tree\",3]")
    ≡ codes "{\"ok\":1}\n{\"ok\":1}\n{\"ok\":[[0,0,9,\"#document\"],[1,1,1,\"p\",[]]]}\n{\"ok\":2}\n{\"ok\":3}\n{\"ok\":[[0,3,3,\"#text\",[55357]]]}\n"
unfolding computing
first_dialogue = refl
