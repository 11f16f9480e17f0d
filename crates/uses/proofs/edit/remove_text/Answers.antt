use Rattle.std.proofs.Common.{◌∙◌, ap, sym, subst, refl, length, IsSome}
use Rattle.uses.proofs.RemovalLemmas.{data-length, data-range_in, ranged-whole, removed-ends, start-there, end-there}
use Rattle.uses.proofs.edit.remove_text.Goals as goal

pub make-requires-clause-in_order : goal.make-requires-clause-in_order
make-requires-clause-in_order c =
    let node = c.new-node.ensures in
    let k = c.requires.keeps.1 in
    let text = c.requires.keeps.0 in
    let len = data-length c.args.world.now text c.length.result k (let h = c.length.ensures in rw node at h) in
    rw node (data-range_in c.args.world.now text c.length.result k len)

pub remove-requires-clause-whole : goal.remove-requires-clause-whole
remove-requires-clause-whole c =
    let node = c.new-node.ensures in
    let k = c.requires.keeps.1 in
    let text = c.requires.keeps.0 in
    let len = data-length c.args.world.now text c.length.result k (let h = c.length.ensures in rw node at h) in
    let made = (let h = c.in_ok-range.ensures.made in rw node at h) in
    ranged-whole c.args.world.now text c.length.result c.make.new.self k len made c.requires.whole

pub ends-requires : goal.ends-requires
ends-requires c =
    let node = c.new-node.ensures in
    let k = c.requires.keeps.1 in
    let text = c.requires.keeps.0 in
    let len = data-length c.args.world.now text c.length.result k (let h = c.length.ensures in rw node at h) in
    let made = (let h = c.in_ok-range.ensures.made in rw node at h) in
    let r = removed-ends c.args.world.now text c.length.result c.make.new.self k len made c.remove.new.self (let h = c.in_ok-remove.ensures.removed in rw node at h) in
    let range = c.in_ok-range.ensures.number ∙ ap length (sym k.ranges) in
    rw range (subst (λ o. IsSome o) (sym r) refl)

pub returns-clause-start : goal.returns-clause-start
returns-clause-start c =
    let node = c.new-node.ensures in
    let k = c.requires.keeps.1 in
    let text = c.requires.keeps.0 in
    let len = data-length c.args.world.now text c.length.result k (let h = c.length.ensures in rw node at h) in
    let made = (let h = c.in_ok-range.ensures.made in rw node at h) in
    let r = removed-ends c.args.world.now text c.length.result c.make.new.self k len made c.remove.new.self (let h = c.in_ok-remove.ensures.removed in rw node at h) in
    let range = c.in_ok-range.ensures.number ∙ ap length (sym k.ranges) in
    start-there _ _ _ r (let h = c.ends.ensures.ends in rw range at h)

pub returns-clause-end : goal.returns-clause-end
returns-clause-end c =
    let node = c.new-node.ensures in
    let k = c.requires.keeps.1 in
    let text = c.requires.keeps.0 in
    let len = data-length c.args.world.now text c.length.result k (let h = c.length.ensures in rw node at h) in
    let made = (let h = c.in_ok-range.ensures.made in rw node at h) in
    let r = removed-ends c.args.world.now text c.length.result c.make.new.self k len made c.remove.new.self (let h = c.in_ok-remove.ensures.removed in rw node at h) in
    let range = c.in_ok-range.ensures.number ∙ ap length (sym k.ranges) in
    end-there _ _ _ r (let h = c.ends.ensures.ends in rw range at h)
