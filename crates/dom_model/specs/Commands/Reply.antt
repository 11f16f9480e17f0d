-- Replies: an answer of some shape, or a refusal by its name.
use Rattle.std.specs.Prelude.{ℕ, List, Bool, true, false, Option}
use Rattle.std.specs.declared.cmp.Ordering.{Ordering}
use Rattle.dom_model.specs.declared.DomError.{DomError}
use Rattle.dom_model.specs.declared.OwnError.{OwnError}
use Rattle.dom_model.specs.Forests.Kinds.{Label}
use Rattle.dom_model.specs.Worlds.World.{Content, Range}
use Rattle.dom_model.specs.MutationObservers.Record.{Record, Notification}

-- a node, where it stands; of a doctype the label's ids are told too
pub record Description : Type 0 where
  pub document : ℕ
  pub label : Label
  pub next : Option ℕ
  pub parent : Option ℕ
  pub previous : Option ℕ

-- a row of a printed tree
pub record TreeRow : Type 0 where
  pub depth : ℕ
  pub number : ℕ
  pub label : Label
  pub body : Content

pub data Answer : Type 0 where
  Nothing : Answer
  Number : ℕ → Answer
  MaybeNumber : Option ℕ → Answer
  Numbers : List ℕ → Answer
  Flag : Bool → Answer
  Order : Ordering → Answer
  Units : List ℕ → Answer
  MaybeUnits : Option (List ℕ) → Answer
  Names : List (List ℕ) → Answer
  NodeAt : Description → Answer
  Rows : List TreeRow → Answer
  Ends : Range → Answer
  StaticEnds : Range → Bool → Answer
  IteratorAt : ℕ → ℕ → Bool → Answer
  WalkerAt : ℕ → ℕ → Answer
  Records : List Record → Answer
  Notified : List Notification → Answer

pub data Reply : Type 0 where
  Done : Answer → Reply
  Dom : DomError → Reply
  Own : OwnError → Reply

-- a refusal, by whatever name
abbrev pub is_refusal : Reply → Bool
is_refusal (Done a) = false
is_refusal (Dom e) = true
is_refusal (Own e) = true
