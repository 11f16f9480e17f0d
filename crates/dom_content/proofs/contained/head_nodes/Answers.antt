-- Each step takes the children ahead of one node of the path, down to the deepest.
use Rattle.dom_model.specs.Definitions.{head_nodes}
use Rattle.std.proofs.Common.{◌≡◌, ◌+◌, ◌-◌, ◌++◌, drop, length, refl, ap, sym, ◌∙◌, arith}
use Rattle.std.proofs.lemmas.Grind.{common_steps}
use Rattle.dom_edit.specs.Whole.{unwatched}
use Rattle.dom_content.proofs.TopsOfPaths.{on-path, head-last, head-more}
use Rattle.dom_content.proofs.contained.head_nodes.Goals as goal

pub loop-k-init : goal.loop-k-init
loop-k-init c = rw c.new-list.ensures.items refl

pub children_ahead-requires : goal.children_ahead-requires
children_ahead-requires c = on-path c.args.world.now c.args.path.now c.requires.held (c.loop-k.k - 1) c.index-path-k.result c.index-path-k.is (omega arith)

pub head_of-requires : goal.head_of-requires
head_of-requires c = record { held = on-path c.args.world.now c.args.path.now c.requires.held (length c.args.path.now - 1) c.index-path-count.result c.index-path-count.is (omega arith) }

pub loop-k-preserved : goal.loop-k-preserved
loop-k-preserved c =
    let w = unwatched c.args.world.now in
    let path = c.args.path.now in
    let next : c.loop-k.k + 1 - 1 ≡ c.loop-k.k = omega arith in
    ap (λ k. c.append.new.self.items ++ head_nodes w c.args.offset (drop k path)) next
    ∙ head-more w c.args.offset path (c.loop-k.k - 1) c.loop-k.k c.index-path-k.result c.index-path-k-in-loop-k.result (omega arith) c.index-path-k.is c.index-path-k-in-loop-k.is (omega arith) c.loop-k.list.items c.append.new.self.items (head_nodes w c.args.offset path) c.loop-k.invariant
    (c.in_ok-append.ensures.items ∙ ap (λ ns. c.loop-k.list.items ++ ns) c.in_ok-ahead.ensures)

pub returns : goal.returns
returns c =
    let w = unwatched c.args.world.now in
    let path = c.args.path.now in
    let last : c.loop-k.k - 1 ≡ length path - 1 = omega arith in
    c.in_ok-append-2.ensures.items
    ∙ ap (λ ns. c.loop-k.list.items ++ ns)
    (c.in_ok-ahead-2.ensures
    ∙ sym (head-last w c.args.offset path (length path - 1) c.index-path-count.result c.index-path-count.is (omega arith))
    ∙ ap (λ k. head_nodes w c.args.offset (drop k path)) (sym last))
    ∙ c.loop-k.invariant

pub returns-then-count-eq0 : goal.returns-then-count-eq0
returns-then-count-eq0 c = grind (arith, common_steps)
