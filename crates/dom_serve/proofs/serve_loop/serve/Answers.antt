use Rattle.dom_session.specs.Sessions.{bounds_of}
use Rattle.dom_serve.proofs.ServesPiecesLemmas.{told-output}
use Rattle.dom_serve.proofs.serve_loop.serve.Goals as goal

pub returns-clause-output : goal.returns-clause-output
returns-clause-output g c =
    told-output g.R.Source.reading (bounds_of c.args.limits) 1099511627776 _ _ _ _ c.serve_within.result c.serve_within.ensures.told c.serve_within.ensures.at_end
