-- A dialogue, from bytes to bytes: numbers written otherwise.
use Rattle.dom_model.proofs.Dialogues.Exchanges.{◌≡◌, refl, List, codes, [], ◌∷◌, usual_bounds, whole_table, output_of, Exchange, bytes_given, bytes_due, MissesNothing, computing}

abbrev exchanges : List Exchange
exchanges =
    (codes "[\"createText\",0,\"ab\"]\n", codes "{\"ok\":1}\n")
    ∷ (codes "[\"index\",0]\n", codes "{\"ok\":0}\n")
    ∷ (codes "[\"index\",1]\n", codes "{\"ok\":0}\n")
    ∷ (codes "[\"index\",0.0]\n", codes "{\"error\":\"bad-arguments\"}\n")
    ∷ (codes "[\"index\",1.0]\n", codes "{\"error\":\"bad-arguments\"}\n")
    ∷ (codes "[\"index\",-0]\n", codes "{\"error\":\"bad-arguments\"}\n")
    ∷ (codes "[\"index\",-0.0]\n", codes "{\"error\":\"bad-arguments\"}\n")
    ∷ (codes "[\"index\",0e0]\n", codes "{\"error\":\"bad-arguments\"}\n")
    ∷ (codes "[\"index\",1e0]\n", codes "{\"error\":\"bad-arguments\"}\n")
    ∷ (codes "[\"index\",1e2]\n", codes "{\"error\":\"bad-arguments\"}\n")
    ∷ (codes "[\"index\",1E2]\n", codes "{\"error\":\"bad-arguments\"}\n")
    ∷ (codes "[\"index\",1e-400]\n", codes "{\"error\":\"bad-arguments\"}\n")
    ∷ (codes "[\"index\",4294967296]\n", codes "{\"error\":\"bad-arguments\"}\n")
    ∷ (codes "[\"index\",18446744073709551615]\n", codes "{\"error\":\"bad-arguments\"}\n")
    ∷ (codes "[\"index\",18446744073709551616]\n", codes "{\"error\":\"bad-arguments\"}\n")
    ∷ (codes "[\"index\",-1]\n", codes "{\"error\":\"bad-arguments\"}\n")
    ∷ (codes "[\"index\",-9223372036854775809]\n", codes "{\"error\":\"bad-arguments\"}\n")
    ∷ (codes "[\"index\",\"0\"]\n", codes "{\"error\":\"bad-arguments\"}\n")
    ∷ (codes "[\"index\",null]\n", codes "{\"error\":\"bad-arguments\"}\n")
    ∷ (codes "[\"index\",true]\n", codes "{\"error\":\"bad-arguments\"}\n")
    ∷ (codes "[\"index\",[0]]\n", codes "{\"error\":\"bad-arguments\"}\n")
    ∷ (codes "[\"index\",{}]\n", codes "{\"error\":\"bad-arguments\"}\n")
    ∷ (codes "[\"index\",00]\n", codes "{\"error\":\"bad-json\"}\n")
    ∷ (codes "[\"index\",01]\n", codes "{\"error\":\"bad-json\"}\n")
    ∷ (codes "[\"index\",-01]\n", codes "{\"error\":\"bad-json\"}\n")
    ∷ (codes "[\"index\",+0]\n", codes "{\"error\":\"bad-json\"}\n")
    ∷ (codes "[\"index\",.0]\n", codes "{\"error\":\"bad-json\"}\n")
    ∷ (codes "[\"index\",0.]\n", codes "{\"error\":\"bad-json\"}\n")
    ∷ (codes "[\"index\",1e]\n", codes "{\"error\":\"bad-json\"}\n")
    ∷ (codes "[\"index\",1e+]\n", codes "{\"error\":\"bad-json\"}\n")
    ∷ (codes "[\"index\",0x0]\n", codes "{\"error\":\"bad-json\"}\n")
    ∷ (codes "[\"index\",1e400]\n", codes "{\"error\":\"bad-json\"}\n")
    ∷ (codes "[\"index\",-]\n", codes "{\"error\":\"bad-json\"}\n")
    ∷ (codes "[\"index\",1_0]\n", codes "{\"error\":\"bad-json\"}\n")
    ∷ (codes "[\"index\",Infinity]\n", codes "{\"error\":\"bad-json\"}\n")
    ∷ (codes "[\"index\",]\n", codes "{\"error\":\"bad-json\"}\n")
    ∷ (codes "[\"index\",2]\n", codes "{\"error\":\"no-such-object\"}\n")
    ∷ (codes "[\"index\",4294967295]\n", codes "{\"error\":\"no-such-object\"}\n")
    ∷ (codes "[\"substringData\",1,0,4294967295]\n", codes "{\"ok\":\"ab\"}\n")
    ∷ (codes "[\"substringData\",1,4294967295,0]\n", codes "{\"error\":\"IndexSizeError\"}\n")
    ∷ (codes "[\"substringData\",1,0,4294967296]\n", codes "{\"error\":\"bad-arguments\"}\n")
    ∷ (codes "[\"substringData\",1,0,1.0]\n", codes "{\"error\":\"bad-arguments\"}\n")
    ∷ (codes "[\"substringData\",1,-0,1]\n", codes "{\"error\":\"bad-arguments\"}\n")
    ∷ (codes "[\"substringData\",1,1,1]\n", codes "{\"ok\":\"b\"}\n")
    ∷ (codes "[\"createRange\",0]\n", codes "{\"ok\":0}\n")
    ∷ (codes "[\"setStart\",0,1,1e0]\n", codes "{\"error\":\"bad-arguments\"}\n")
    ∷ (codes "[\"setStart\",0,1,4294967295]\n", codes "{\"error\":\"IndexSizeError\"}\n")
    ∷ (codes "[\"compareBoundaryPoints\",0,4294967295,0]\n", codes "{\"error\":\"NotSupportedError\"}\n")
    ∷ (codes "[\"compareBoundaryPoints\",0,4294967296,0]\n", codes "{\"error\":\"bad-arguments\"}\n")
    ∷ (codes "[\"compareBoundaryPoints\",0,3.0,0]\n", codes "{\"error\":\"bad-arguments\"}\n")
    ∷ (codes "[\"createIterator\",0,4294967295,[]]\n", codes "{\"ok\":0}\n")
    ∷ (codes "[\"createIterator\",0,4294967296,[]]\n", codes "{\"error\":\"bad-arguments\"}\n")
    ∷ (codes "[\"createIterator\",0,-1,[]]\n", codes "{\"error\":\"bad-arguments\"}\n")
    ∷ (codes "[\"range\",0]\n", codes "{\"ok\":[0,0,0,0]}\n")
    ∷ []

pub numbers_written_otherwise : output_of whole_table usual_bounds (bytes_given exchanges) ≡ bytes_due exchanges
unfolding computing
numbers_written_otherwise = refl

pub numbers_written_otherwise-misses_nothing : MissesNothing whole_table usual_bounds (bytes_given exchanges)
unfolding computing
numbers_written_otherwise-misses_nothing = record { ends = refl; texts = refl; worlds = refl; contents = refl }
