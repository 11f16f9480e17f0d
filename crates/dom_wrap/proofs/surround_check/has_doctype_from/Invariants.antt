-- None of those that were passed is a doctype, so what is told of those to come is told of all.
use Rattle.std.proofs.Common.{◌≡◌}
use Rattle.dom_model.specs.declared.Kind.TheVariants.{DocumentType}
use Rattle.dom_model.specs.Definitions.{children_of, has_kind}
use Rattle.dom_edit.proofs.IsAmongLemmas.{AreAmong}
use Rattle.dom_edit.specs.InsertionPoints.{from_optional}
use Rattle.dom_wrap.proofs.surround_check.has_doctype_from.Given as goal

abbrev pub invariant-loop-child : goal.invariant-loop-child
invariant-loop-child l =
    let all = children_of l.tree.forest l.fn.parent in
    record {
      told : has_kind DocumentType l.tree.forest (from_optional l.fn.first all) ≡ has_kind DocumentType l.tree.forest l.child-iterator;
      within : AreAmong l.child-iterator all;
    }
