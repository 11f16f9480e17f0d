-- A dialogue as a list of exchanges, each a line that is given with the line that is due; and what is proved of a dialogue beside its output.
pub use Rattle.std.specs.Prelude.{◌≡◌, refl, List, codes, [], ◌∷◌, ◌++◌}
pub use Rattle.dom_model.specs.Definitions.{Bounds, output_of}
unfoldable pub use Rattle.dom_model.specs.Commands.Table.{whole_table}
use Rattle.std.specs.{Prelude.ℕ, Prelude.flat_map, Str.is_utf8, Str.chars, Char.Utf16.utf16_chars, Fmt.digits}
use Rattle.serde_json.proofs.OnLiterals.{serde_json_on_literals}
use lib.Utf8.{encode}
use Rattle.dom_model.specs.Definitions.{Row}
use Rattle.dom_model.specs.{Commands.Line.json_of, Commands.Line.command_of, Commands.Line.command_within, Commands.Output.whole_lines, Commands.Output.last_piece, Commands.Output.due}
use Rattle.dom_model.proofs.TokenText.{Agreement.ends_missed, Agreement.texts_missed, Agreement.worlds_missed, ContentsBetween.contents_missed}

abbrev pub Exchange : Type 0
Exchange = List ℕ × List ℕ

abbrev pub bytes_given : List Exchange → List ℕ
bytes_given exchanges = flat_map (λ e. e.0) exchanges

abbrev pub bytes_due : {A : Type 0} → List (A × List ℕ) → List ℕ
bytes_due exchanges = flat_map (λ e. e.1) exchanges

-- the bounds of a session to which no options are given
abbrev pub usual_bounds : Bounds
usual_bounds = record { numbers = 4294967295; line = 1048576 }

-- of each command that a session reads: the ends stand in their markers' gaps, and the edits of the token texts leave its texts, its world
-- and the contents of its ranges
pub record MissesNothing (table : List Row) (b : Bounds) (bytes : List ℕ) : Type 0 where
  pub ends : ends_missed table b bytes ≡ []
  pub texts : texts_missed table b bytes ≡ []
  pub worlds : worlds_missed table b bytes ≡ []
  pub contents : contents_missed table b bytes ≡ []

-- what a dialogue unfolds, to be proved by computing
unfoldable pub computing : Unit {0}
unfolding serde_json_on_literals is_utf8 chars digits utf16_chars encode whole_table json_of command_of command_within whole_lines last_piece due
computing = tt
