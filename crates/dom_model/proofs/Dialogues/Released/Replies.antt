-- The replies to a list of commands from the first world on, as they are printed.
use Rattle.std.specs.{Prelude.ℕ, Prelude.List, Prelude.[], Prelude.map, Prelude.flat_map, Char.Utf16.utf16_chars, Fmt.digits}
use lib.Utf8.{encode}
use Rattle.serde_json.proofs.OnLiterals.{serde_json_on_literals}
use Rattle.dom_model.specs.Definitions.{Filter, first_world, Command, Reply, reply_line, replies_to}
use Rattle.dom_model.proofs.Dialogues.Exchanges.{usual_bounds}

-- a command with its reply, as it is printed
abbrev pub Replied : Type 0
Replied = Command × List ℕ

abbrev pub commands_of : List Replied → List Command
commands_of exchanges = map (λ e. e.0) exchanges

-- a filter that accepts every node
abbrev pub every_node : Filter
every_node = record { show = 4294967295; rules = [] }

unfoldable pub printed : List Reply → List ℕ
unfolding serde_json_on_literals digits utf16_chars encode
printed replies = flat_map reply_line replies

abbrev pub printed_replies : List Command → List ℕ
printed_replies commands = printed (replies_to usual_bounds first_world commands)
