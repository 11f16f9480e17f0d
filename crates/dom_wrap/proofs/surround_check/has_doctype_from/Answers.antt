use Rattle.std.proofs.Common.{refl, sym, ◌∙◌}
use Rattle.dom_model.specs.declared.Kind.TheVariants.{DocumentType}
use Rattle.dom_model.specs.Definitions.{children_of, has_kind, is_of_kind}
use Rattle.dom_edit.specs.InsertionPoints.{from_optional}
use Rattle.dom_edit.proofs.IsAmongLemmas.{from-among, first-among, from_optional-given, HasNode-child, parent-among}
use Rattle.dom_wrap.proofs.AllowCode.{found-first}
use Rattle.dom_wrap.proofs.surround_check.has_doctype_from.Goals as goal

pub children_from-child-items-requires : goal.children_from-child-items-requires
children_from-child-items-requires c = parent-among c.args.tree.now c.state_law.ensures c.args.parent c.args.first c.requires.under

pub loop-child-init : goal.loop-child-init
loop-child-init c =
    let all = children_of c.args.tree.now.forest c.args.parent in
    rw (c.into_iter-child-iterator.ensures.into_iter_gives, from_optional-given c.args.first c.children_from-child-items.result all c.children_from-child-items.ensures)
    (record { told = refl; within = from-among c.args.first all })

pub is_of_kind-requires : goal.is_of_kind-requires
is_of_kind-requires c =
    let within = rw c.in-Some.ensures.steps at c.loop-child.invariant.within in
    let here = first-among c.in-Some.child c.next.new.self (children_of c.args.tree.now.forest c.args.parent) within in
    HasNode-child c.args.tree.now c.state_law.ensures c.args.parent c.in-Some.child here

pub returns-then-is_of_kind : goal.returns-then-is_of_kind
returns-then-is_of_kind c =
    let f = c.args.tree.now.forest in
    let told = rw c.in-Some.ensures.steps at c.loop-child.invariant.told in
    found-first (is_of_kind DocumentType f) c.in-Some.child c.next.new.self (has_kind DocumentType f (from_optional c.args.first (children_of f c.args.parent))) told (sym c.is_of_kind.ensures ∙ c.if-is_of_kind.true)

pub returns : goal.returns
returns c = (let told = rw c.in-None.ensures.steps.0 at c.loop-child.invariant.told in sym told)
