-- A line with the name of a release is no command; that of live ranges alone is one.
use Rattle.dom_model.proofs.Dialogues.Exchanges.{◌≡◌, refl, List, codes, [], ◌∷◌, usual_bounds, whole_table, output_of, Exchange, bytes_given, bytes_due, computing}

abbrev exchanges : List Exchange
exchanges =
    (codes "[\"releaseIterator\",0]\n", codes "{\"error\":\"bad-command\"}\n")
    ∷ (codes "[\"releaseWalker\",0]\n", codes "{\"error\":\"bad-command\"}\n")
    ∷ (codes "[\"releaseStaticRange\",0]\n", codes "{\"error\":\"bad-command\"}\n")
    ∷ (codes "[\"releaseObserver\",0]\n", codes "{\"error\":\"bad-command\"}\n")
    ∷ []

pub lines_of_releases : output_of whole_table usual_bounds (bytes_given exchanges) ≡ bytes_due exchanges
unfolding computing
lines_of_releases = refl
