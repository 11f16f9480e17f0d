-- What is written for a value and its text, token by token.
use Rattle.std.specs.Prelude.{◌≡◌, List, ◌++◌, flat_map, Result, OnOk}
use Rattle.json.specs.Token.{Token}
use Rattle.json.specs.Tree.{json_tokens}
use Rattle.json.specs.Written.{Written}
use Rattle.serde_json.specs.Data.{Data}
use Rattle.serde_json.specs.Written.{outline}

-- the tokens of a value
abbrev pub tokens_of : Data → List Token
tokens_of d = json_tokens (outline d)

abbrev pub tokens_of_all : List Data → List Token
tokens_of_all ds = flat_map tokens_of ds

-- these tokens were added after what stood there
pub record Adds {E : Type 0} (r : Result (Unit {0}) E) (old new : Written) (added : List Token) : Type 0 where
  pub tokens : OnOk r (new.tokens ≡ old.tokens ++ added)
  pub before : new.before ≡ old.before
