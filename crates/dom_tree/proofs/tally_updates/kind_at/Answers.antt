-- The kind that the node's label has.
use Rattle.std.proofs.Common.{ap, sym, ◌∙◌}
use Rattle.dom_model.specs.Definitions.{is_kind}
use Rattle.dom_links.specs.Placed.{slot_of}
use Rattle.dom_tree.specs.declared.item.Item.TheInside.{Inside}
use Rattle.dom_tree.proofs.TalliesSoundLemmas.{kind-read}
use Rattle.dom_tree.proofs.tally_updates.kind_at.Goals as goal

pub returns : goal.returns
returns g c = λ q.
    kind-read c.args.links.now.arena (slot_of c.args.links.now c.args.place) c.value.result.now _ c.behind-links.view_is c.requires.held c.value.ensures q
    ∙ ap (λ (i : Inside g.row.X.Denot). is_kind q i.label.kind) (sym c.value-2.view_is)
