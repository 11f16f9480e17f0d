-- What a call tells of an answer: the last one that is kept, and what of it is written through C's pointers.
use Rattle.std.specs.Prelude.{ℕ, ℤ, pos, negsuc, nat_eq, nat_lt, Bool, true, false, if◌then◌else◌, Option, Some, None, option_map, option_and_then}
use Rattle.std.specs.declared.cmp.Ordering.{Ordering}
use Rattle.std.specs.declared.cmp.Ordering.TheVariants.{Less, Equal, Greater}
use Rattle.dom_model.specs.Commands.Reply.{Reply, Done, Answer, Number, MaybeNumber, Flag, Order}
use Rattle.dom_session.specs.Sessions.{reply_view}
use Rattle.dom_c.specs.Statuses.{has_ended}
use Rattle.dom_c.specs.declared.handle_state.HandleState.{HandleState}
use Rattle.dom_c.specs.declared.handle.Handle.{Handle}

abbrev pub answer_of : Reply → Option Answer
answer_of (Done a) = Some a
answer_of _ = None

-- the last answer, where the last reply is one
abbrev pub last_answer_of : HandleState → Option Answer
last_answer_of k = option_and_then answer_of (option_map reply_view k.reply)

abbrev pub last_answer : Handle → Option Answer
last_answer h = option_and_then last_answer_of h.slot.kept

-- the answer of the call that gave this status
abbrev pub answer_of_status : HandleState → ℕ → Option Answer
answer_of_status k status = if nat_eq status 0 then last_answer_of k else None

abbrev pub answer_of_call : Handle → ℕ → Option Answer
answer_of_call h status = option_and_then (λ k. answer_of_status k status) h.slot.kept

-- the answer of a session that has ended is told as one of a session that goes on
abbrev pub as_answered : ℕ → ℕ
as_answered status = if nat_eq status has_ended then 0 else status

-- what is written where such an answer is told; otherwise what was there stays
abbrev pub number_out : Option Answer → ℕ → ℕ
number_out (Some (Number n)) before = if nat_lt n 4294967296 then n else before
number_out _ before = before

abbrev pub count_out : Option Answer → ℕ → ℕ
count_out (Some (Number n)) before = n
count_out _ before = before

abbrev pub number_or_null : Option ℕ → ℕ
number_or_null None = 4294967295
number_or_null (Some n) = n

abbrev pub maybe_number_out : Option Answer → ℕ → ℕ
maybe_number_out (Some (MaybeNumber n)) before = number_or_null n
maybe_number_out _ before = before

abbrev pub flag_number : Bool → ℕ
flag_number false = 0
flag_number true = 1

abbrev pub flag_out : Option Answer → ℕ → ℕ
flag_out (Some (Flag b)) before = flag_number b
flag_out _ before = before

abbrev pub order_number : Ordering → ℤ
order_number Less = negsuc 0
order_number Equal = pos 0
order_number Greater = pos 1

abbrev pub order_out : Option Answer → ℤ → ℤ
order_out (Some (Order o)) before = order_number o
order_out _ before = before
