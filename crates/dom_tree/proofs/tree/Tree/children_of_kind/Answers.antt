-- What is counted by slot is so by number.
use Rattle.std.proofs.Common.{◌≡◌, Some, ap, sym, ◌∙◌}
use Rattle.dom_model.specs.declared.Kind.TheVariants.{Element, DocumentType}
use Rattle.dom_model.specs.Definitions.{children_of, count_kind}
use Rattle.dom_links.specs.Placed.{slot_of}
use Rattle.dom_tree.specs.Tallies.{tally_in}
use Rattle.dom_tree.proofs.{PlaceTableLemmas.place-held, PlaceTableLemmas.slot-led, TalliesSoundLemmas.tally-read}
use Rattle.dom_tree.proofs.tree.Tree.children_of_kind.Goals as goal

pub place_of-place-requires : goal.place_of-place-requires
place_of-place-requires g c = place-held c.self.invariant c.self.view_is c.args.parent c.requires

pub returns-in-Element : goal.returns-in-Element
returns-in-Element g c =
    let s = slot_of c.self.inside.links c.place_of-place.result in
    let e : tally_in c.self.inside.tallies s ≡ Some c.in_ok-tally.tally = ap (tally_in c.self.inside.tallies) (sym c.slot.ensures) ∙ sym c.get.ensures ∙ c.in_ok-tally.was in
    (c.self.invariant.tallied s c.in_ok-tally.tally e).elements
    ∙ tally-read c.self.invariant.tree c.self.view_is c.state_law.ensures c.args.parent s (slot-led c.place_of-place.ensures) Element
    ∙ ap (λ kind. count_kind kind c.args.self.now.forest (children_of c.args.self.now.forest c.args.parent)) (sym c.in-Element.is)

pub returns-in-DocumentType : goal.returns-in-DocumentType
returns-in-DocumentType g c =
    let s = slot_of c.self.inside.links c.place_of-place.result in
    let e : tally_in c.self.inside.tallies s ≡ Some c.in_ok-tally.tally = ap (tally_in c.self.inside.tallies) (sym c.slot.ensures) ∙ sym c.get.ensures ∙ c.in_ok-tally.was in
    (c.self.invariant.tallied s c.in_ok-tally.tally e).doctypes
    ∙ tally-read c.self.invariant.tree c.self.view_is c.state_law.ensures c.args.parent s (slot-led c.place_of-place.ensures) DocumentType
    ∙ ap (λ kind. count_kind kind c.args.self.now.forest (children_of c.args.self.now.forest c.args.parent)) (sym c.in-DocumentType.is)
