-- What was found, and what stands among those to come, is all of it.
use Rattle.std.proofs.Common.{◌||◌, ◌≡◌}
use Rattle.dom_model.specs.declared.Kind.TheVariants.{Element, DocumentType}
use Rattle.dom_model.specs.Definitions.{children_of, has_kind}
use Rattle.dom_edit.specs.InsertionPoints.{from_optional, children_ahead}
use Rattle.dom_edit.proofs.IsAmongLemmas.{AreAmong}
use Rattle.dom_edit.proofs.insertion_point.found_between.Given as goal

abbrev pub invariant-loop-child : goal.invariant-loop-child
invariant-loop-child l =
    let f = l.tree.forest in
    let all = children_of f l.fn.parent in
    record {
      element : has_kind Element f (children_ahead l.until (from_optional l.fn.from all)) ≡ (l.found.element || has_kind Element f (children_ahead l.until l.child-iterator));
      doctype : has_kind DocumentType f (children_ahead l.until (from_optional l.fn.from all)) ≡ (l.found.doctype || has_kind DocumentType f (children_ahead l.until l.child-iterator));
      within : AreAmong l.child-iterator all;
    }
