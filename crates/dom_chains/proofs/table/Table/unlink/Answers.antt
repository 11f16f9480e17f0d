-- The neighbours of the item are led past it.
use Rattle.std.proofs.Common.{option_map, length, sym, ap, ◌∙◌, subst}
use Rattle.dom_chains.specs.Chained.{ForLink, IsChained, Links, keys_in, keys_without, led_back, links_of, unchained}
use Rattle.dom_chains.proofs.RechainsLemmas.{IsChained-without, back-within, key-covered, on-within}
use Rattle.dom_chains.proofs.table.Table.unlink.Goals as goal

pub lead_on-requires-clause-covered : goal.lead_on-requires-clause-covered
lead_on-requires-clause-covered g c =
    let has = c.requires.chains in
    key-covered (keys_in c.args.self.now) has.chain (links_of g.H.Heads.by_key c.args.self.now) has.chained c.args.id c.seat-seat.result.key (ap (option_map (λ it. it.0)) c.seat-seat.ensures.item) c.seat-seat.result.prev c.seat-seat.result.next c.seat-seat.ensures.prev c.seat-seat.ensures.next

pub lead_on-requires-clause-link : goal.lead_on-requires-clause-link
lead_on-requires-clause-link g c =
    let has = c.requires.chains in
    back-within (keys_in c.args.self.now) has.chain (links_of g.H.Heads.by_key c.args.self.now) has.chained c.args.id c.seat-seat.result.key (ap (option_map (λ it. it.0)) c.seat-seat.ensures.item) c.seat-seat.result.prev c.seat-seat.result.next c.seat-seat.ensures.prev c.seat-seat.ensures.next

pub lead_back-requires : goal.lead_back-requires
lead_back-requires g c =
    let has = c.requires.chains in
    subst (λ (m : Links). ForLink c.seat-seat.result.next (length m.prevs)) (sym c.lead_on.ensures.links)
    (on-within (keys_in c.args.self.now) has.chain (links_of g.H.Heads.by_key c.args.self.now) has.chained c.args.id c.seat-seat.result.key (ap (option_map (λ it. it.0)) c.seat-seat.ensures.item) c.seat-seat.result.prev c.seat-seat.result.next c.seat-seat.ensures.prev c.seat-seat.ensures.next)

pub returns-clause-chains : goal.returns-clause-chains
returns-clause-chains g c chain ok =
    subst (IsChained (keys_without c.args.id (keys_in c.args.self.now)) (unchained c.args.id chain)) (sym (c.lead_back.ensures.links ∙ ap (led_back c.seat-seat.result.next c.seat-seat.result.prev) c.lead_on.ensures.links))
    (IsChained-without (keys_in c.args.self.now) chain (links_of g.H.Heads.by_key c.args.self.now) ok c.args.id c.seat-seat.result.key (ap (option_map (λ it. it.0)) c.seat-seat.ensures.item) c.seat-seat.result.prev c.seat-seat.result.next c.seat-seat.ensures.prev c.seat-seat.ensures.next)
