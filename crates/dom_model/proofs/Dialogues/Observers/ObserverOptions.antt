-- A dialogue, from bytes to bytes: observer options.
use Rattle.dom_model.proofs.Dialogues.Exchanges.{◌≡◌, refl, List, codes, [], ◌∷◌, usual_bounds, whole_table, output_of, Exchange, bytes_given, bytes_due, MissesNothing, computing}

abbrev exchanges : List Exchange
exchanges =
    (codes "[\"createElement\",0,\"a\"]\n", codes "{\"ok\":1}\n")
    ∷ (codes "[\"createElement\",0,\"b\"]\n", codes "{\"ok\":2}\n")
    ∷ (codes "[\"appendChild\",1,2]\n", codes "{\"ok\":2}\n")
    ∷ (codes "[\"createText\",0,\"t\"]\n", codes "{\"ok\":3}\n")
    ∷ (codes "[\"appendChild\",2,3]\n", codes "{\"ok\":3}\n")
    ∷ (codes "[\"createObserver\"]\n", codes "{\"ok\":0}\n")
    ∷ (codes "[\"observe\",0,1,{}]\n", codes "{\"error\":\"TypeError\"}\n")
    ∷ (codes "[\"observe\",0,1,{\"subtree\":true}]\n", codes "{\"error\":\"TypeError\"}\n")
    ∷ (codes "[\"observe\",0,1,{\"childList\":false}]\n", codes "{\"error\":\"TypeError\"}\n")
    ∷ (codes "[\"observe\",0,1,{\"childList\":true,\"attributes\":false,\"attributeOldValue\":true}]\n", codes "{\"error\":\"TypeError\"}\n")
    ∷ (codes "[\"observe\",0,1,{\"childList\":true,\"attributes\":false,\"attributeFilter\":[]}]\n", codes "{\"error\":\"TypeError\"}\n")
    ∷ (codes "[\"observe\",0,1,{\"childList\":true,\"characterData\":false,\"characterDataOldValue\":true}]\n", codes "{\"error\":\"TypeError\"}\n")
    ∷ (codes "[\"observe\",1,1,{\"childList\":true}]\n", codes "{\"error\":\"no-such-object\"}\n")
    ∷ (codes "[\"observe\",0,9,{}]\n", codes "{\"error\":\"no-such-object\"}\n")
    ∷ (codes "[\"observe\",0,1,{\"childList\":true,\"attributes\":false,\"attributeOldValue\":false}]\n", codes "{\"ok\":null}\n")
    ∷ (codes "[\"setAttribute\",1,\"x\",\"1\"]\n", codes "{\"ok\":null}\n")
    ∷ (codes "[\"takeRecords\",0]\n", codes "{\"ok\":[]}\n")
    ∷ (codes "[\"observe\",0,1,{\"attributeOldValue\":false}]\n", codes "{\"ok\":null}\n")
    ∷ (codes "[\"setAttribute\",1,\"x\",\"2\"]\n", codes "{\"ok\":null}\n")
    ∷ (codes "[\"setAttribute\",2,\"x\",\"2\"]\n", codes "{\"ok\":null}\n")
    ∷ (codes "[\"takeRecords\",0]\n", codes "{\"ok\":[[\"attributes\",1,[],[],null,null,\"x\",null]]}\n")
    ∷ (codes "[\"observe\",0,1,{\"attributeFilter\":[\"y\",\"x\"]}]\n", codes "{\"ok\":null}\n")
    ∷ (codes "[\"setAttribute\",1,\"z\",\"2\"]\n", codes "{\"ok\":null}\n")
    ∷ (codes "[\"setAttribute\",1,\"x\",\"3\"]\n", codes "{\"ok\":null}\n")
    ∷ (codes "[\"takeRecords\",0]\n", codes "{\"ok\":[[\"attributes\",1,[],[],null,null,\"x\",null]]}\n")
    ∷ (codes "[\"observe\",0,1,{\"attributeFilter\":[]}]\n", codes "{\"ok\":null}\n")
    ∷ (codes "[\"setAttribute\",1,\"x\",\"4\"]\n", codes "{\"ok\":null}\n")
    ∷ (codes "[\"takeRecords\",0]\n", codes "{\"ok\":[]}\n")
    ∷ (codes "[\"observe\",0,1,{\"characterDataOldValue\":false,\"subtree\":true}]\n", codes "{\"ok\":null}\n")
    ∷ (codes "[\"setData\",3,\"u\"]\n", codes "{\"ok\":null}\n")
    ∷ (codes "[\"takeRecords\",0]\n", codes "{\"ok\":[[\"characterData\",3,[],[],null,null,null,null]]}\n")
    ∷ (codes "[\"observe\",0,1,{\"characterDataOldValue\":true,\"subtree\":true,\"attributes\":true,\"attributeOldValue\":true}]\n", codes "{\"ok\":null}\n")
    ∷ (codes "[\"setData\",3,\"v\"]\n", codes "{\"ok\":null}\n")
    ∷ (codes "[\"setAttribute\",2,\"x\",\"5\"]\n", codes "{\"ok\":null}\n")
    ∷ (codes "[\"remove\",3]\n", codes "{\"ok\":null}\n")
    ∷ (codes "[\"takeRecords\",0]\n", codes "{\"ok\":[[\"characterData\",3,[],[],null,null,null,\"u\"],[\"attributes\",2,[],[],null,null,\"x\",\"2\"]]}\n")
    ∷ (codes "[\"takeRecords\",1]\n", codes "{\"error\":\"no-such-object\"}\n")
    ∷ (codes "[\"disconnect\",1]\n", codes "{\"error\":\"no-such-object\"}\n")
    ∷ []

pub observer_options : output_of whole_table usual_bounds (bytes_given exchanges) ≡ bytes_due exchanges
unfolding computing
observer_options = refl

pub observer_options-misses_nothing : MissesNothing whole_table usual_bounds (bytes_given exchanges)
unfolding computing
observer_options-misses_nothing = record { ends = refl; texts = refl; worlds = refl; contents = refl }
