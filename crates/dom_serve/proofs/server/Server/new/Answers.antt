use Rattle.std.proofs.Common.{refl}
use Rattle.dom_session.specs.Sessions.{bounds_of}
use Rattle.dom_serve.proofs.FedLemmas.{Stands-new}
use Rattle.dom_serve.proofs.server.Server.new.Goals as goal

pub returns-clause-stands : goal.returns-clause-stands
returns-clause-stands c =
    Stands-new (bounds_of c.args.limits) _ c.in_ok-session.ensures.first c.in_ok-session.ensures.bounds refl refl c.new-kept.ensures.items refl
