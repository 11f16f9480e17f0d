-- Who is last already stays there, and else comes last.
use Rattle.std.proofs.Common.{◌≡◌, IfOk, ◌∙◌, subst, nat_eq}
use Rattle.indexmap.specs.IndexSet.{insert_key}
use Rattle.dom_observe.proofs.InterestedLemmas.{insert-last}
use Rattle.dom_observe.proofs.queue_record.mark_pending_reserved.Goals as goal

pub returns-then-not-is_last-clause-keys : goal.returns-then-not-is_last-clause-keys
returns-then-not-is_last-clause-keys c =
    let e : c.insert.new.self.keys ≡ insert_key nat_eq c.args.pending.now.keys c.args.observer =
    subst (λ r. IfOk r (λ added. c.insert.new.self.keys ≡ insert_key nat_eq c.args.pending.now.keys c.args.observer)) c.unwrap.ensures c.insert.ensures.keys in
    e ∙ insert-last c.args.pending.now.keys c.args.observer
