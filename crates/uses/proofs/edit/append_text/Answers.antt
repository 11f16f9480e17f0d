use Rattle.std.proofs.Common.{◌≡◌, ◌∙◌, ap}
use Rattle.dom_model.specs.Definitions.{HasNode, entry_in, content_in}
use Rattle.dom_edit.proofs.CallerLemmas.{after-made, after-appended, held-stays, data-stays, new-held, new-data}
use Rattle.uses.proofs.edit.append_text.Goals as goal

pub append-requires-clause-parent_held : goal.append-requires-clause-parent_held
append-requires-clause-parent_held c =
    let grown = after-made c.args.world.now c.make.new.self _ _ _ c.in_ok-child.ensures.made in
    held-stays _ _ _ grown c.args.parent c.requires.parent_held

pub append-requires-clause-node_held : goal.append-requires-clause-node_held
append-requires-clause-node_held c = rw c.in_ok-child.ensures.number (new-held c.args.world.now c.make.new.self _ _ _ c.requires.whole c.in_ok-child.ensures.made)

pub returns-clause-held : goal.returns-clause-held
returns-clause-held c =
    let child = c.in_ok-child.child in
    let there : HasNode c.make.new.self.tree.forest child = rw c.in_ok-child.ensures.number (new-held c.args.world.now c.make.new.self _ _ _ c.requires.whole c.in_ok-child.ensures.made) in
    let put = after-appended c.make.new.self c.append.new.self child c.args.parent c.in_ok-child.ensures.whole there c.in_ok-append.ensures.allowed c.in_ok-append.ensures.appended in
    held-stays _ _ _ put child there

pub returns-clause-data : goal.returns-clause-data
returns-clause-data c =
    let child = c.in_ok-child.child in
    let there : HasNode c.make.new.self.tree.forest child = rw c.in_ok-child.ensures.number (new-held c.args.world.now c.make.new.self _ _ _ c.requires.whole c.in_ok-child.ensures.made) in
    let put = after-appended c.make.new.self c.append.new.self child c.args.parent c.in_ok-child.ensures.whole there c.in_ok-append.ensures.allowed c.in_ok-append.ensures.appended in
    let given : (content_in (entry_in c.make.new.self.tree.forest child)).text ≡ c.in_ok-data.data.text = rw c.in_ok-child.ensures.number (new-data c.args.world.now c.make.new.self _ _ _ c.requires.whole c.in_ok-child.ensures.made) in
    data-stays _ _ _ put child there ∙ (given ∙ (ap (λ b. b.text) c.in_ok-data.ensures ∙ c.in_ok-from_str.ensures))
