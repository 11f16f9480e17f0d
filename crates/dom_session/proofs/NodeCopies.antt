-- The answers of the commands that copy and compare nodes, and of those on the contents of ranges, where nothing is refused before the step.
use Rattle.std.proofs.Common.{◌≡◌, ℕ, ◌+◌, ◌*◌, ◌≤◌, nat_lt, Bool, true, false, Some, None, refl, arith, is_some}
use Rattle.std.proofs.lemmas.Bool.Decides.{nat_tests}
use Rattle.dom_model.specs.declared.{Kind.TheVariants.Document, DomError.DomError, DomError.TheVariants.NotSupportedError}
use Rattle.dom_model.specs.Definitions.{is_kind, Forest, size, entry_in, Content, kind_passes, is_of_kind, original, clone_node, import_node, ImportNode, CloneNode, refused, answer}
use Rattle.dom_model.specs.Worlds.World as model
use Rattle.dom_model.specs.Commands.Reply as model_reply
use Rattle.dom_model.proofs.Counting.CountsOfContents.{size-original}
use Rattle.dom_edit.specs.{declared.world.World.World, Whole.Shows, Refusals.check_adopt}
use Rattle.dom_session.specs.AnswerBounds.{numbered}
use Rattle.dom_session.proofs.TreeEdits.{not-none, throws-some, throws-none}

-- where enough numbers are left for copies, a copy of a node has room
pub room-copy : (numbers made : ℕ) (deep : Bool) (n : ℕ) (f : Forest Content) → numbers ≤ 4294967295 → nat_lt numbers (made + (2 * size f + 8)) ≡ false → made + size (original deep n f) ≤ 4294967295
room-copy numbers made deep n f most room =
    let s = size-original deep n f in
    let r : made + (2 * size f + 8) ≤ numbers = grind (arith, nat_tests) in
    omega (arith, s, r, most)

module _ (v : World) (numbers : ℕ) (w : model.World) (shown : Shows v w) where
  pub answer-clone_node : (n : ℕ) (deep : Bool) → is_some (entry_in v.tree.forest n) ≡ true → nat_lt numbers (v.tree.made + (2 * size v.tree.forest + 8)) ≡ false → answer (numbered numbers) w (CloneNode n deep) ≡ record { reply = model_reply.Done (model_reply.Number v.tree.made); world = clone_node deep n w }
  answer-clone_node n deep held room =
      rw (shown.keeps.forest, shown.keeps.made, not-none (entry_in v.tree.forest n) held, room) refl

  pub answer-import_node : (d n : ℕ) (deep : Bool) → is_some (entry_in v.tree.forest d) ≡ true → is_some (entry_in v.tree.forest n) ≡ true → kind_passes (is_kind Document) v.tree.forest d ≡ true → nat_lt numbers (v.tree.made + (2 * size v.tree.forest + 8)) ≡ false → check_adopt v.tree.forest n ≡ None → answer (numbered numbers) w (ImportNode d n deep) ≡ record { reply = model_reply.Done (model_reply.Number v.tree.made); world = import_node d deep n w }
  answer-import_node d n deep document held kind room allowed =
      let t = throws-none (is_of_kind Document v.tree.forest n) NotSupportedError allowed in
      rw (shown.keeps.forest, shown.keeps.made, not-none (entry_in v.tree.forest d) document, not-none (entry_in v.tree.forest n) held, kind, room, t) refl

  pub refused-import_node : (d n : ℕ) (deep : Bool) → is_some (entry_in v.tree.forest d) ≡ true → is_some (entry_in v.tree.forest n) ≡ true → kind_passes (is_kind Document) v.tree.forest d ≡ true → nat_lt numbers (v.tree.made + (2 * size v.tree.forest + 8)) ≡ false → (e : DomError) → check_adopt v.tree.forest n ≡ Some e → answer (numbered numbers) w (ImportNode d n deep) ≡ refused (model_reply.Dom e) w
  refused-import_node d n deep document held kind room e check =
      let t = throws-some (is_of_kind Document v.tree.forest n) NotSupportedError e check in
      rw (shown.keeps.forest, shown.keeps.made, not-none (entry_in v.tree.forest d) document, not-none (entry_in v.tree.forest n) held, kind, room, t.holds, ← t.name) refl
