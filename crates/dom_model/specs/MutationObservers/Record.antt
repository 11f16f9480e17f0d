-- Mutation records. DOM Standard, "Interface MutationRecord".
use Rattle.std.specs.Prelude.{ℕ, List, Option}
use Rattle.dom_model.specs.declared.RecordType.{RecordType}

-- what an observer is told of a change
pub record Record : Type 0 where
  pub type : RecordType
  pub target : ℕ
  pub added : List ℕ
  pub removed : List ℕ
  pub previous : Option ℕ
  pub next : Option ℕ
  pub name : Option (List ℕ)
  pub old_value : Option (List ℕ)

-- an observer and the records that it is told
pub record Notification : Type 0 where
  pub observer : ℕ
  pub records : List Record
