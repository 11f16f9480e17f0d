-- The node document is written, and the counts of the two documents.
use Rattle.std.proofs.Common.{true, refl, sym, ◌∙◌}
use Rattle.std.proofs.lemmas.Bool.{false≢true}
use Rattle.dom_tree.proofs.{PlaceWalkLemmas.led, PlaceTableLemmas.place-held, MoveToLemmas.moved-placed, MoveToLemmas.strayed-seated, MoveToLemmas.moved-shown, MoveToLemmas.former-listed, MoveToLemmas.from-some, MoveToLemmas.to-placed, MoveToLemmas.to-few, MoveToLemmas.counted-seated, MoveToLemmas.counted-shown}
use Rattle.dom_tree.proofs.tree.Tree.move_to.Goals as goal

pub place_of-place-requires : goal.place_of-place-requires
place_of-place-requires g c = place-held c.self.invariant c.self.view_is c.args.id c.requires

pub replace_document-former-requires : goal.replace_document-former-requires
replace_document-former-requires g c = c.place_of-place.ensures.placed c.place_of-place.result refl

pub invariant_of-self : goal.invariant_of-self
invariant_of-self g c = strayed-seated c.self.invariant c.args.id c.place_of-place.ensures c.replace_document-former.result c.args.document c.replace_document-former.ensures.former c.replace_document-former.new.links c.replace_document-former.ensures.written c.self.inside.strays (λ e. false≢true (sym e ∙ c.if-self.true))

pub returns-then-self : goal.returns-then-self
returns-then-self g c = moved-shown c.self.invariant c.args.id c.place_of-place.ensures c.replace_document-former.result c.args.document c.replace_document-former.ensures.former c.replace_document-former.new.links c.replace_document-former.ensures.written c.self.view_is

pub place_at-requires : goal.place_at-requires
place_at-requires g c = moved-placed c.self.invariant c.args.id c.place_of-place.ensures c.replace_document-former.result c.args.document c.replace_document-former.ensures.former c.replace_document-former.new.links c.replace_document-former.ensures.written

pub invariant_of-self-in_default : goal.invariant_of-self-in_default
invariant_of-self-in_default g c = strayed-seated c.self.invariant c.args.id c.place_of-place.ensures c.replace_document-former.result c.args.document c.replace_document-former.ensures.former c.replace_document-former.new.links c.replace_document-former.ensures.written true (λ e. false≢true (sym e))

pub returns-in_default : goal.returns-in_default
returns-in_default g c = moved-shown c.self.invariant c.args.id c.place_of-place.ensures c.replace_document-former.result c.args.document c.replace_document-former.ensures.former c.replace_document-former.new.links c.replace_document-former.ensures.written c.self.view_is

pub place_of-from-requires : goal.place_of-from-requires
place_of-from-requires g c = former-listed c.self.invariant c.args.id c.place_of-place.ensures c.replace_document-former.result c.args.document c.replace_document-former.ensures.former c.replace_document-former.new.links c.replace_document-former.ensures.written c.if-self.false

pub count_out-requires-clause-placed : goal.count_out-requires-clause-placed
count_out-requires-clause-placed g c = c.place_of-from.ensures.placed c.place_of-from.result refl

pub count_out-requires-clause-some : goal.count_out-requires-clause-some
count_out-requires-clause-some g c = from-some c.self.invariant c.args.id c.place_of-place.ensures c.replace_document-former.result c.args.document c.replace_document-former.ensures.former c.replace_document-former.new.links c.replace_document-former.ensures.written c.if-self.false c.place_of-from.result c.in-Some.to c.place_of-from.ensures (led c.in-Some.is c.place_at.ensures)

pub count_in-requires-clause-placed : goal.count_in-requires-clause-placed
count_in-requires-clause-placed g c =
    to-placed c.self.invariant c.args.id c.place_of-place.ensures c.replace_document-former.result c.args.document c.replace_document-former.ensures.former c.replace_document-former.new.links c.replace_document-former.ensures.written c.if-self.false c.place_of-from.result c.in-Some.to c.place_of-from.ensures (led c.in-Some.is c.place_at.ensures)
    c.count_out.new.links c.count_out.ensures

pub count_in-requires-clause-few : goal.count_in-requires-clause-few
count_in-requires-clause-few g c =
    to-few c.self.invariant c.args.id c.place_of-place.ensures c.replace_document-former.result c.args.document c.replace_document-former.ensures.former c.replace_document-former.new.links c.replace_document-former.ensures.written c.if-self.false c.place_of-from.result c.in-Some.to c.place_of-from.ensures (led c.in-Some.is c.place_at.ensures)
    c.count_out.new.links c.count_out.ensures

pub invariant_of-self-2 : goal.invariant_of-self-2
invariant_of-self-2 g c =
    counted-seated c.self.invariant c.args.id c.place_of-place.ensures c.replace_document-former.result c.args.document c.replace_document-former.ensures.former c.replace_document-former.new.links c.replace_document-former.ensures.written c.if-self.false c.place_of-from.result c.in-Some.to c.place_of-from.ensures (led c.in-Some.is c.place_at.ensures)
    c.count_out.new.links c.count_out.ensures c.count_in.new.links c.count_in.ensures

pub returns : goal.returns
returns g c =
    counted-shown c.self.invariant c.args.id c.place_of-place.ensures c.replace_document-former.result c.args.document c.replace_document-former.ensures.former c.replace_document-former.new.links c.replace_document-former.ensures.written c.if-self.false c.place_of-from.result c.in-Some.to c.place_of-from.ensures (led c.in-Some.is c.place_at.ensures)
    c.count_out.new.links c.count_out.ensures c.count_in.new.links c.count_in.ensures c.self.view_is
