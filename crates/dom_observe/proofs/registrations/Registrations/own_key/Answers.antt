-- Either list finds it.
use Rattle.std.proofs.Common.{sym, ◌∙◌}
use Rattle.dom_observe.specs.{Watchers.on, Registrations.at}
use Rattle.dom_observe.proofs.OwnKeyLemmas.{found-either}
use Rattle.dom_observe.proofs.registrations.Registrations.own_key.Goals as goal

pub returns-then-lasting-keys : goal.returns-then-lasting-keys
returns-then-lasting-keys c =
    c.first_own.ensures ∙ sym (found-either (at c.args.self.now) c.args.observer c.args.node c.requires.one (on c.args.node c.args.self.now.lists) c.args.lasting.now c.requires.either)
