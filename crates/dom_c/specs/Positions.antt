-- Where things stand, as C reads it.
use Rattle.std.specs.Prelude.{ℕ, Option, Some, None}
use Rattle.dom_model.specs.Forests.Kinds.{number_of_kind}
use Rattle.dom_model.specs.Commands.Reply as model
use Rattle.dom_c.specs.WrittenValues.{number_or_null, flag_number}
use Rattle.dom_c.specs.declared.positions.Ends.{Ends}
use Rattle.dom_c.specs.declared.positions.StaticEnds.{StaticEnds}
use Rattle.dom_c.specs.declared.positions.IteratorAt.{IteratorAt}
use Rattle.dom_c.specs.declared.positions.WalkerAt.{WalkerAt}
use Rattle.dom_c.specs.declared.positions.NodePosition.{NodePosition}

abbrev pub ends_out : Option model.Answer → Ends → Ends
ends_out (Some (model.Ends r)) before = record { start = r.start.node; start_offset = r.start.offset; end = r.end.node; end_offset = r.end.offset }
ends_out _ before = before

abbrev pub static_ends_out : Option model.Answer → StaticEnds → StaticEnds
static_ends_out (Some (model.StaticEnds r valid)) before =
    record { start = r.start.node; start_offset = r.start.offset; end = r.end.node; end_offset = r.end.offset; is_valid = flag_number valid }
static_ends_out _ before = before

abbrev pub iterator_at_out : Option model.Answer → IteratorAt → IteratorAt
iterator_at_out (Some (model.IteratorAt root reference before)) was = record { root = root; reference = reference; is_before = flag_number before }
iterator_at_out _ was = was

abbrev pub walker_at_out : Option model.Answer → WalkerAt → WalkerAt
walker_at_out (Some (model.WalkerAt root current)) before = record { root = root; current = current }
walker_at_out _ before = before

abbrev pub position_out : Option model.Answer → NodePosition → NodePosition
position_out (Some (model.NodeAt d)) before = record {
  document = d.document;
  kind = number_of_kind d.label.kind;
  next = number_or_null d.next;
  parent = number_or_null d.parent;
  previous = number_or_null d.previous;
}
position_out _ before = before
