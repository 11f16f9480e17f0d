-- Who is not there yet comes last.
use Rattle.std.proofs.Common.{◌≡◌, ◌∙◌, nat_eq}
use Rattle.indexmap.specs.IndexSet.{insert_key}
use Rattle.dom_observe.proofs.InterestedLemmas.{insert-last}
use Rattle.dom_observe.proofs.queue_record.mark_pending.Goals as goal

pub returns-clause-ok : goal.returns-clause-ok
returns-clause-ok c =
    let e : c.insert.new.self.keys ≡ insert_key nat_eq c.args.pending.now.keys c.args.observer = c.in_ok-insert.ensures.keys in
    e ∙ insert-last c.args.pending.now.keys c.args.observer
