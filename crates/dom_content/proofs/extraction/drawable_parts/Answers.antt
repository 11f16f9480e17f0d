-- The contained children are there, and one of them is a doctype or none is.
use Rattle.std.proofs.Common.{sym, subst}
use Rattle.dom_edit.specs.Insertion.{AreThere}
use Rattle.dom_content.proofs.DrawnContents.{contained-held}
use Rattle.dom_content.proofs.extraction.drawable_parts.Goals as goal

pub has_doctype-requires : goal.has_doctype-requires
has_doctype-requires c =
    let v = c.args.world.now in
    record {
      held = subst (λ ns. AreThere v.tree.forest ns) (sym c.deref.ensures.value)
          (contained-held v c.requires.whole (record { start = c.args.start; end = c.args.end }) c.requires.range
          c.in_ok-parts.parts.first.items c.in_ok-parts.parts.contained.items c.in_ok-parts.parts.last.items c.in_ok-parts.ensures);
    }
