use Rattle.std.proofs.Common.{◌≡◌, string_bytes, add-one}
use Rattle.dom_attrs.specs.Entries.{attribute_at}
use Rattle.dom_session.proofs.NodeData.{names-next}
use Rattle.dom_session.proofs.attributes.names_in.Goals as goal

pub loop-index-preserved : goal.loop-index-preserved
loop-index-preserved c =
    let told : string_bytes c.in_ok-from_str.field-0 ≡ c.pair_at.result.0.now = c.in_ok-from_str.ensures.ok in
    rw (add-one, c.in_ok-push.ensures.items)
    (names-next c.args.content.now.attributes c.loop-index.index (attribute_at c.pair_at.result) c.loop-index.names.items c.in_ok-from_str.field-0 c.loop-index.invariant c.pair_at.ensures told)
