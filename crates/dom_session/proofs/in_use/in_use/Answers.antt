-- Each count is that of a part, which is the world's.
use Rattle.std.proofs.Common.{is_some, count_by, ap, sym, ◌∙◌}
use Rattle.dom_model.specs.Definitions.{size}
use Rattle.dom_session.proofs.in_use.in_use.Goals as goal

pub returns-clause-shown : goal.returns-clause-shown
returns-clause-shown c = λ w s.
    let k = s.keeps in
    let nodes = c.live.ensures ∙ ap size (sym k.forest) in
    let ranges = c.count.ensures ∙ ap (count_by is_some) (sym k.ranges) in
    let statics = c.count-2.ensures ∙ ap (count_by is_some) (sym k.static_ranges) in
    let iterators = c.count-3.ensures ∙ ap (count_by is_some) (sym k.iterators) in
    let walkers = c.count-4.ensures ∙ ap (count_by is_some) (sym k.walkers) in
    let observers = c.count-5.ensures.watched w.observing s.watched in
    let registrations = c.registrations.ensures.watched w.observing s.watched in
    λ i. record {
      nodes = nodes i;
      ranges = ranges i;
      static_ranges = statics i;
      iterators = iterators i;
      walkers = walkers i;
      observers = observers i;
      registrations = registrations i;
    }

pub returns-clause-own : goal.returns-clause-own
returns-clause-own c = λ i. record {
  nodes = c.live.ensures i;
  ranges = c.count.ensures i;
  static_ranges = c.count-2.ensures i;
  iterators = c.count-3.ensures i;
  walkers = c.count-4.ensures i;
  observers = c.count-5.ensures.count i;
  registrations = c.registrations.ensures.own i;
}
