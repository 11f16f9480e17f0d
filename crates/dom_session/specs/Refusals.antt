-- What stands in the way of a command, asked of the world of the code, and the reply where its call was refused.
use Rattle.std.specs.Prelude.{ℕ, ◌+◌, nat_lt, false, not, [], ◌∷◌, Bool, Option, Some, None, is_none, Result, Ok, Err}
use Rattle.std.specs.declared.alloc.AllocError.{AllocError}
use Rattle.dom_model.specs.declared.Kind.{Kind}
use Rattle.dom_model.specs.declared.Kind.TheVariants.{Document}
use Rattle.dom_model.specs.declared.DomError.TheVariants.{TypeError}
use Rattle.dom_model.specs.declared.OwnError.TheVariants.{NoSuchObject, Limit}
use Rattle.dom_model.specs.Forests.Kinds.{is_kind}
use Rattle.dom_model.specs.Forests.Forest.{entry_in}
use Rattle.dom_model.specs.PlainLists.Lists.{first_refusal}
use Rattle.dom_model.specs.Forests.Nodes.{kind_passes}
use Rattle.dom_model.specs.Commands.Reply as model
use Rattle.dom_edit.specs.declared.world.World.{World}
use Rattle.dom_edit.specs.declared.refusal.Refusal.{Refusal}
use Rattle.dom_edit.specs.declared.refusal.Refusal.TheVariants as refusal
use Rattle.dom_commands.specs.declared.brief.Brief.{Brief as Small}
use Rattle.dom_commands.specs.declared.brief.Brief.TheVariants.{Dom}
use Rattle.dom_commands.specs.declared.reply.Reply.{Reply}
use Rattle.dom_commands.specs.declared.reply.Reply.TheVariants.{Brief}

-- no node of that number
abbrev pub lacks_node : World → ℕ → Bool
lacks_node v n = is_none (entry_in v.tree.forest n)

-- no node of that number, where one is given
abbrev pub lacks_given : World → Option ℕ → Bool
lacks_given v None = false
lacks_given v (Some n) = lacks_node v n

-- what stands in the way of a new node in a document: no such node, not a Document, no number left
abbrev pub making_refusal : World → ℕ → ℕ → Option model.Reply
making_refusal v numbers document =
    first_refusal ((lacks_node v document, model.Own NoSuchObject)
    ∷ (not (kind_passes (is_kind Document) v.tree.forest document), model.Dom TypeError)
    ∷ (nat_lt numbers (v.tree.made + 1), model.Own Limit)
    ∷ [])

-- what stands in the way of a command on a node of some kinds: no such node, or one of another kind
abbrev pub kind_refusal : (Kind → Bool) → World → ℕ → Option model.Reply
kind_refusal test v n =
    first_refusal ((lacks_node v n, model.Own NoSuchObject)
    ∷ (not (kind_passes test v.tree.forest n), model.Dom TypeError)
    ∷ [])

-- the reply to a refusal of the world: the name of the exception; to want of memory there is none
abbrev pub reply_to : Refusal → Result Reply AllocError
reply_to (refusal.Dom e) = Ok (Brief (Dom e))
reply_to refusal.Memory = Err (record {})

-- the same as a small reply
abbrev pub brief_to : Refusal → Result Small AllocError
brief_to (refusal.Dom e) = Ok (Dom e)
brief_to refusal.Memory = Err (record {})
