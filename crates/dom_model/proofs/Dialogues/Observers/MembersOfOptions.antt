-- A dialogue, from bytes to bytes: members of options.
use Rattle.dom_model.proofs.Dialogues.Exchanges.{◌≡◌, refl, List, codes, [], ◌∷◌, usual_bounds, whole_table, output_of, Exchange, bytes_given, bytes_due, MissesNothing, computing}

abbrev exchanges : List Exchange
exchanges =
    (codes "[\"createElement\",0,\"e\"]\n", codes "{\"ok\":1}\n")
    ∷ (codes "[\"createElement\",0,\"f\"]\n", codes "{\"ok\":2}\n")
    ∷ (codes "[\"createObserver\"]\n", codes "{\"ok\":0}\n")
    ∷ (codes "[\"observe\",0,1,{\"childList\":true,\"childList\":false}]\n", codes "{\"error\":\"TypeError\"}\n")
    ∷ (codes "[\"observe\",0,1,{\"ChildList\":true}]\n", codes "{\"error\":\"TypeError\"}\n")
    ∷ (codes "[\"observe\",0,1,{\"childList \":true}]\n", codes "{\"error\":\"TypeError\"}\n")
    ∷ (codes "[\"observe\",0,1,{\"other\":true}]\n", codes "{\"error\":\"TypeError\"}\n")
    ∷ (codes "[\"observe\",0,1,{\"childList\":1}]\n", codes "{\"error\":\"bad-arguments\"}\n")
    ∷ (codes "[\"observe\",0,1,{\"childList\":null}]\n", codes "{\"error\":\"bad-arguments\"}\n")
    ∷ (codes "[\"observe\",0,1,{\"childList\":\"true\"}]\n", codes "{\"error\":\"bad-arguments\"}\n")
    ∷ (codes "[\"observe\",0,1,{\"childList\":[]}]\n", codes "{\"error\":\"bad-arguments\"}\n")
    ∷ (codes "[\"observe\",0,1,{\"attributes\":0}]\n", codes "{\"error\":\"bad-arguments\"}\n")
    ∷ (codes "[\"observe\",0,1,{\"characterData\":{}}]\n", codes "{\"error\":\"bad-arguments\"}\n")
    ∷ (codes "[\"observe\",0,1,{\"childList\":true,\"subtree\":1}]\n", codes "{\"error\":\"bad-arguments\"}\n")
    ∷ (codes "[\"observe\",0,1,{\"childList\":true,\"subtree\":null}]\n", codes "{\"error\":\"bad-arguments\"}\n")
    ∷ (codes "[\"observe\",0,1,{\"childList\":true,\"attributeOldValue\":null}]\n", codes "{\"error\":\"bad-arguments\"}\n")
    ∷ (codes "[\"observe\",0,1,{\"childList\":true,\"characterDataOldValue\":\"x\"}]\n", codes "{\"error\":\"bad-arguments\"}\n")
    ∷ (codes "[\"observe\",0,1,{\"childList\":true,\"attributeFilter\":\"x\"}]\n", codes "{\"error\":\"bad-arguments\"}\n")
    ∷ (codes "[\"observe\",0,1,{\"childList\":true,\"attributeFilter\":null}]\n", codes "{\"error\":\"bad-arguments\"}\n")
    ∷ (codes "[\"observe\",0,1,{\"childList\":true,\"attributeFilter\":{}}]\n", codes "{\"error\":\"bad-arguments\"}\n")
    ∷ (codes "[\"observe\",0,1,{\"childList\":true,\"attributeFilter\":[7]}]\n", codes "{\"error\":\"bad-arguments\"}\n")
    ∷ (codes "[\"observe\",0,1,{\"childList\":true,\"attributeFilter\":[\"x\",null]}]\n", codes "{\"error\":\"bad-arguments\"}\n")
    ∷ (codes "[\"observe\",0,1,{\"childList\":true,\"attributeFilter\":[[\"x\"]]}]\n", codes "{\"error\":\"bad-arguments\"}\n")
    ∷ (codes "[\"observe\",0,1,{\"childList\":true,\"childList\":1}]\n", codes "{\"error\":\"bad-arguments\"}\n")
    ∷ (codes "[\"observe\",0,1,null]\n", codes "{\"error\":\"bad-arguments\"}\n")
    ∷ (codes "[\"observe\",0,1,true]\n", codes "{\"error\":\"bad-arguments\"}\n")
    ∷ (codes "[\"observe\",0,1,\"childList\"]\n", codes "{\"error\":\"bad-arguments\"}\n")
    ∷ (codes "[\"observe\",0,1,[[\"childList\",true]]]\n", codes "{\"error\":\"bad-arguments\"}\n")
    ∷ (codes "[\"observe\",9,9,{\"childList\":1}]\n", codes "{\"error\":\"bad-arguments\"}\n")
    ∷ (codes "[\"observe\",9,9,{}]\n", codes "{\"error\":\"no-such-object\"}\n")
    ∷ (codes "[\"setAttribute\",1,\"x\",\"0\"]\n", codes "{\"ok\":null}\n")
    ∷ (codes "[\"appendChild\",1,2]\n", codes "{\"ok\":2}\n")
    ∷ (codes "[\"takeRecords\",0]\n", codes "{\"ok\":[]}\n")
    ∷ (
      codes "[\"observe\",0,1,{\"childList\":1,\"childList\":true,\"other\":[{\"deep\":null}],\"\":0,\"subtree\":\"no\",\"subtree\":false}]\n",
      codes "{\"ok\":null}\n",
    )
    ∷ (codes "[\"remove\",2]\n", codes "{\"ok\":null}\n")
    ∷ (codes "[\"takeRecords\",0]\n", codes "{\"ok\":[[\"childList\",1,[],[2],null,null,null,null]]}\n")
    ∷ (codes "[\"observe\",0,1,{\"attributeFilter\":[\"y\"],\"attributeFilter\":[\"x\",\"x\"]}]\n", codes "{\"ok\":null}\n")
    ∷ (codes "[\"setAttribute\",1,\"y\",\"1\"]\n", codes "{\"ok\":null}\n")
    ∷ (codes "[\"setAttribute\",1,\"x\",\"1\"]\n", codes "{\"ok\":null}\n")
    ∷ (codes "[\"takeRecords\",0]\n", codes "{\"ok\":[[\"attributes\",1,[],[],null,null,\"x\",null]]}\n")
    ∷ (codes "[\"observe\",0,1,{\"child\\u004cist\":true,\"attributes\":true,\"attributes\":false}]\n", codes "{\"ok\":null}\n")
    ∷ (codes "[\"setAttribute\",1,\"x\",\"2\"]\n", codes "{\"ok\":null}\n")
    ∷ (codes "[\"appendChild\",1,2]\n", codes "{\"ok\":2}\n")
    ∷ (codes "[\"takeRecords\",0]\n", codes "{\"ok\":[[\"childList\",1,[2],[],null,null,null,null]]}\n")
    ∷ []

pub members_of_options : output_of whole_table usual_bounds (bytes_given exchanges) ≡ bytes_due exchanges
unfolding computing
members_of_options = refl

pub members_of_options-misses_nothing : MissesNothing whole_table usual_bounds (bytes_given exchanges)
unfolding computing
members_of_options-misses_nothing = record { ends = refl; texts = refl; worlds = refl; contents = refl }
