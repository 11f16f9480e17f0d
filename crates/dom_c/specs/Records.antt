-- What is read of records of mutations, and of who is told of them.
use Rattle.std.specs.Prelude.{ℕ, nat_eq, if◌then◌else◌, List, length, map, slice_get, Option, Some, None, option_map, option_and_then}
use Rattle.dom_model.specs.declared.RecordType.{RecordType}
use Rattle.dom_model.specs.declared.RecordType.TheVariants.{ChildList, Attributes, CharacterData}
use Rattle.dom_model.specs.MutationObservers.Record as plain
use Rattle.dom_model.specs.Commands.Reply as model
use Rattle.dom_c.specs.WrittenValues.{number_or_null}
use Rattle.dom_c.specs.declared.notices.Notice.{Notice}
use Rattle.dom_c.specs.declared.records.Record.{Record}

abbrev pub notice_in : ℕ → model.Answer → Option plain.Notification
notice_in n (model.Notified ts) = slice_get ts n
notice_in n _ = None

abbrev pub notice_out : plain.Notification → Notice
notice_out t = record { observer = t.observer; records = length t.records }

abbrev pub notice_at : ℕ → model.Answer → Option Notice
notice_at n a = option_map notice_out (notice_in n a)

-- the records of a notice; those that were taken stand as the first
abbrev pub records_in : ℕ → model.Answer → Option (List plain.Record)
records_in n (model.Records rs) = if nat_eq n 0 then Some rs else None
records_in n (model.Notified ts) = option_map (λ (t : plain.Notification). t.records) (slice_get ts n)
records_in n _ = None

abbrev pub record_in : ℕ → ℕ → model.Answer → Option plain.Record
record_in n i a = option_and_then (λ (rs : List plain.Record). slice_get rs i) (records_in n a)

abbrev pub type_number : RecordType → ℕ
type_number Attributes = 0
type_number CharacterData = 1
type_number ChildList = 2

abbrev pub record_out : plain.Record → Record
record_out r = record {
  type_ = type_number r.type;
  target = r.target;
  added = length r.added;
  removed = length r.removed;
  previous = number_or_null r.previous;
  next = number_or_null r.next;
}

abbrev pub record_at : ℕ → ℕ → model.Answer → Option Record
record_at n i a = option_map record_out (record_in n i a)

-- all records of a notice, as they are told
abbrev pub records_read_at : ℕ → model.Answer → Option (List Record)
records_read_at n a = option_map (map record_out) (records_in n a)

abbrev pub added_at : ℕ → ℕ → ℕ → model.Answer → Option ℕ
added_at n i at a = option_and_then (λ (r : plain.Record). slice_get r.added at) (record_in n i a)

abbrev pub removed_at : ℕ → ℕ → ℕ → model.Answer → Option ℕ
removed_at n i at a = option_and_then (λ (r : plain.Record). slice_get r.removed at) (record_in n i a)

abbrev pub record_name_at : ℕ → ℕ → model.Answer → Option (List ℕ)
record_name_at n i a = option_and_then (λ (r : plain.Record). r.name) (record_in n i a)

abbrev pub old_value_at : ℕ → ℕ → model.Answer → Option (List ℕ)
old_value_at n i a = option_and_then (λ (r : plain.Record). r.old_value) (record_in n i a)
