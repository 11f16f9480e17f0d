-- Where a parent is in the map and there is room, its counts are made anew; else it has none.
use Rattle.std.proofs.Common.{◌≡◌, ℕ, Some, [], is_some, refl, ap, sym, ◌∙◌, subst}
use Rattle.dom_tree.specs.Blocks.{counts_in, counts_but, AreFilled}
use Rattle.dom_tree.proofs.{MapTable.blocks, MapTable.but-changed, MapTable.but-none, MapTable.but-here}
use Rattle.dom_tree.proofs.blocks.Blocks.fill.Goals as goal

pub returns-then-fill-clause-filled : goal.returns-then-fill-clause-filled
returns-then-fill-clause-filled c = λ _.
    let es = c.self.inside.by_slot.entries in
    let written = c.get_mut.follows.holds c.fill.new.self in
    let all = but-changed blocks es c.self.view_is c.number.ensures _ (Some c.fill.new.self) (written.3 (sym (ap is_some c.in-Some.ensures.value))).0 c.fill.new.self refl in
    subst (λ t. AreFilled (counts_in t c.args.parent) c.args.count) (sym c.forget.ensures)
    (subst (λ counts. AreFilled counts c.args.count) (sym (but-here blocks _ c.args.self.now c.args.parent c.fill.new.self all)) (c.if-fill.ensures.filled refl))

pub returns-then-fill-clause-others : goal.returns-then-fill-clause-others
returns-then-fill-clause-others c =
    let es = c.self.inside.by_slot.entries in
    let written = c.get_mut.follows.holds c.fill.new.self in
    let all = but-changed blocks es c.self.view_is c.number.ensures _ (Some c.fill.new.self) (written.3 (sym (ap is_some c.in-Some.ensures.value))).0 c.fill.new.self refl in
    subst (λ t. (p : ℕ) → counts_in t p ≡ counts_but c.args.parent (counts_in t c.args.parent) c.args.self.now p) (sym c.forget.ensures)
    (λ p. all p ∙ ap (λ counts. counts_but c.args.parent counts c.args.self.now p) (sym (but-here blocks _ c.args.self.now c.args.parent c.fill.new.self all)))

pub returns-else-fill-clause-none : goal.returns-else-fill-clause-none
returns-else-fill-clause-none c = λ _.
    let es = c.self.inside.by_slot.entries in
    let written = c.get_mut.follows.holds c.fill.new.self in
    let all = but-changed blocks es c.self.view_is c.number.ensures _ (Some c.fill.new.self) (written.3 (sym (ap is_some c.in-Some.ensures.value))).0 [] (c.if-fill.ensures.none refl) in
    but-here blocks _ c.args.self.now c.args.parent [] all

pub returns-else-fill-clause-others : goal.returns-else-fill-clause-others
returns-else-fill-clause-others c =
    let es = c.self.inside.by_slot.entries in
    let written = c.get_mut.follows.holds c.fill.new.self in
    let all = but-changed blocks es c.self.view_is c.number.ensures _ (Some c.fill.new.self) (written.3 (sym (ap is_some c.in-Some.ensures.value))).0 [] (c.if-fill.ensures.none refl) in
    let here = but-here blocks _ c.args.self.now c.args.parent [] all in
    λ p. all p ∙ ap (λ counts. counts_but c.args.parent counts c.args.self.now p) (sym here)

pub returns-in_default-clause-none : goal.returns-in_default-clause-none
returns-in_default-clause-none c = λ _.
    let es = c.self.inside.by_slot.entries in
    let all = but-none blocks es c.self.view_is c.number.ensures c.in_default.ensures.value [] refl in
    ap (λ m. counts_in m.entries c.args.parent) c.get_mut.follows.holds-at-none ∙ but-here blocks _ c.args.self.now c.args.parent [] all
