-- A dialogue, from bytes to bytes: no input.
use Rattle.dom_model.proofs.Dialogues.Exchanges.{◌≡◌, refl, List, [], usual_bounds, whole_table, output_of, Exchange, bytes_given, bytes_due, MissesNothing, computing}

abbrev exchanges : List Exchange
exchanges = []

pub no_input : output_of whole_table usual_bounds (bytes_given exchanges) ≡ bytes_due exchanges
unfolding computing
no_input = refl

pub no_input-misses_nothing : MissesNothing whole_table usual_bounds (bytes_given exchanges)
unfolding computing
no_input-misses_nothing = record { ends = refl; texts = refl; worlds = refl; contents = refl }
