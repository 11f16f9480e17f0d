-- The items that were passed are spread, and there is room for the others.
use Rattle.std.proofs.Common.{◌≡◌, ◌+◌, ◌<◌, true, length, replicate, take}
use Rattle.dom_traverse.specs.PositionsByNode.{spread_over}
use Rattle.dom_traverse.proofs.positions_by_node.PositionsByNode.spread.Given as goal

abbrev pub invariant-loop-id : goal.invariant-loop-id
invariant-loop-id l = record {
  items : l.chains.items ≡ spread_over l.count (take l.id l.self);
  covered : l.chains.covered ≡ replicate l.count true;
  room : length l.self < l.chains.room + l.id;
}
