-- It stays under its key.
use Rattle.dom_observe.proofs.AreRegisteredLemmas.{registered-changed}
use Rattle.dom_observe.proofs.registrations.Registrations.set_options.Goals as goal

pub invariant_of-self : goal.invariant_of-self
invariant_of-self c =
    let a = c.self.inside in
    let s = c.set_options in
    registered-changed a.table a.nodes.entries c.self.invariant s.new.table c.args.key c.args.options.value s.ensures.changed s.ensures.others s.ensures.turns
