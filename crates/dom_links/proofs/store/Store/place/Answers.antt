use Rattle.std.proofs.Common.{◌∙◌, sym}
use Rattle.dom_links.proofs.PlacedLemmas.{within_table, some_at, place_slot, place_placed}
use Rattle.dom_links.proofs.store.Store.place.Goals as goal

pub link_at-requires : goal.link_at-requires
link_at-requires g c = within_table c.self.invariant.stands c.self.view_is c.number.ensures c.requires

pub unwrap-requires : goal.unwrap-requires
unwrap-requires g c = rw (c.get.ensures, c.link_at.ensures) (some_at c.self.invariant.stands c.self.view_is c.number.ensures ∙ c.requires)

pub returns-clause-slot : goal.returns-clause-slot
returns-clause-slot g c = place_slot c.self.invariant.stands c.self.view_is c.number.ensures (sym c.link_at.ensures ∙ (sym c.get.ensures ∙ c.unwrap.ensures))

pub returns-clause-placed : goal.returns-clause-placed
returns-clause-placed g c = place_placed c.self.invariant.stands c.self.view_is _ (sym c.link_at.ensures ∙ (sym c.get.ensures ∙ c.unwrap.ensures))
