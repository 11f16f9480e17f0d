-- What stands behind the first path, between the two, and ahead of the second.
use Rattle.std.proofs.Common.{ℕ, List, ◌++◌, ap, sym, ◌∙◌, subst}
use Rattle.dom_model.specs.Definitions.{Point, Range, tail_nodes, head_nodes}
use Rattle.dom_edit.specs.{Insertion.AreThere, Whole.unwatched}
use Rattle.dom_content.proofs.{DrawnContents.first-held, DrawnContents.last-held, TopsOfPaths.tops-of_parts}
use Rattle.dom_content.proofs.contained.contained_tops.Goals as goal

pub tail_nodes-requires : goal.tail_nodes-requires
tail_nodes-requires c =
    let v = c.args.world.now in
    let r : Range = record { start = c.args.start; end = c.args.end } in
    let parts = c.args.parts.now in
    record { held = subst (λ (ns : List ℕ). AreThere v.tree.forest ns) (sym c.deref.ensures.value) (first-held v c.requires.whole r c.requires.range parts.first.items parts.contained.items parts.last.items c.requires.parts) }

pub head_nodes-requires : goal.head_nodes-requires
head_nodes-requires c =
    let v = c.args.world.now in
    let r : Range = record { start = c.args.start; end = c.args.end } in
    let parts = c.args.parts.now in
    record { held = subst (λ (ns : List ℕ). AreThere v.tree.forest ns) (sym c.deref-3.ensures.value) (last-held v c.requires.whole r c.requires.range parts.first.items parts.contained.items parts.last.items c.requires.parts) }

pub returns : goal.returns
returns c =
    let v = c.args.world.now in
    let w = unwatched v in
    let r : Range = record { start = c.args.start; end = c.args.end } in
    let parts = c.args.parts.now in
    let first = c.in_ok-tops.ensures ∙ ap (λ (p : Point). tail_nodes w p.offset c.deref.result.now) c.start.view_is ∙ ap (tail_nodes w c.args.start.offset) c.deref.ensures.value in
    let last = c.in_ok-last.ensures ∙ ap (λ (p : Point). head_nodes w p.offset c.deref-3.result.now) c.end.view_is ∙ ap (head_nodes w c.args.end.offset) c.deref-3.ensures.value in
    tops-of_parts v c.requires.whole r c.requires.range parts.first.items parts.contained.items parts.last.items c.append.new.self.items c.requires.parts
    (c.in_ok-append.ensures.items
    ∙ ap (λ ns. ns ++ c.in_ok-last.last.items) (c.in_ok-extend_from_slice.ensures.items ∙ ap (λ ns. c.in_ok-tops.tops.items ++ ns) c.deref-2.ensures.value ∙ ap (λ ns. ns ++ parts.contained.items) first)
    ∙ ap (λ ns. (tail_nodes w c.args.start.offset parts.first.items ++ parts.contained.items) ++ ns) last)
