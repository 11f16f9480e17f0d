-- A dialogue, from bytes to bytes: watchers limited.
use Rattle.dom_model.proofs.Dialogues.Exchanges.{◌≡◌, refl, List, codes, [], ◌∷◌, Bounds, whole_table, output_of, Exchange, bytes_given, bytes_due, MissesNothing, computing}

abbrev bounds : Bounds
bounds = record { numbers = 2; line = 1048576 }

abbrev exchanges : List Exchange
exchanges =
    (codes "[\"createElement\",0,\"p\"]\n", codes "{\"ok\":1}\n")
    ∷ (codes "[\"createElement\",0,\"p\"]\n", codes "{\"error\":\"limit\"}\n")
    ∷ (codes "[\"createIterator\",0,4294967295,[]]\n", codes "{\"ok\":0}\n")
    ∷ (codes "[\"createIterator\",1,4294967295,[]]\n", codes "{\"ok\":1}\n")
    ∷ (codes "[\"createIterator\",2,4294967295,[]]\n", codes "{\"error\":\"no-such-object\"}\n")
    ∷ (codes "[\"createIterator\",1,4294967295,[]]\n", codes "{\"error\":\"limit\"}\n")
    ∷ (codes "[\"nextNode\",2]\n", codes "{\"error\":\"no-such-object\"}\n")
    ∷ (codes "[\"previousNode\",2]\n", codes "{\"error\":\"no-such-object\"}\n")
    ∷ (codes "[\"iterator\",2]\n", codes "{\"error\":\"no-such-object\"}\n")
    ∷ (codes "[\"createWalker\",0,4294967295,[]]\n", codes "{\"ok\":0}\n")
    ∷ (codes "[\"createWalker\",1,4294967295,[]]\n", codes "{\"ok\":1}\n")
    ∷ (codes "[\"createWalker\",2,4294967295,[]]\n", codes "{\"error\":\"no-such-object\"}\n")
    ∷ (codes "[\"createWalker\",1,4294967295,[]]\n", codes "{\"error\":\"limit\"}\n")
    ∷ (codes "[\"walk\",2,\"nextNode\"]\n", codes "{\"error\":\"no-such-object\"}\n")
    ∷ (codes "[\"walker\",2]\n", codes "{\"error\":\"no-such-object\"}\n")
    ∷ (codes "[\"setCurrent\",2,1]\n", codes "{\"error\":\"no-such-object\"}\n")
    ∷ (codes "[\"setCurrent\",1,2]\n", codes "{\"error\":\"no-such-object\"}\n")
    ∷ (codes "[\"walker\",1]\n", codes "{\"ok\":[1,1]}\n")
    ∷ (codes "[\"createObserver\"]\n", codes "{\"ok\":0}\n")
    ∷ (codes "[\"createObserver\"]\n", codes "{\"ok\":1}\n")
    ∷ (codes "[\"createObserver\"]\n", codes "{\"error\":\"limit\"}\n")
    ∷ (codes "[\"takeRecords\",2]\n", codes "{\"error\":\"no-such-object\"}\n")
    ∷ (codes "[\"disconnect\",2]\n", codes "{\"error\":\"no-such-object\"}\n")
    ∷ (codes "[\"observe\",2,1,{\"childList\":true}]\n", codes "{\"error\":\"no-such-object\"}\n")
    ∷ (codes "[\"createRange\",0]\n", codes "{\"ok\":0}\n")
    ∷ []

pub watchers_limited : output_of whole_table bounds (bytes_given exchanges) ≡ bytes_due exchanges
unfolding computing
watchers_limited = refl

pub watchers_limited-misses_nothing : MissesNothing whole_table bounds (bytes_given exchanges)
unfolding computing
watchers_limited-misses_nothing = record { ends = refl; texts = refl; worlds = refl; contents = refl }
