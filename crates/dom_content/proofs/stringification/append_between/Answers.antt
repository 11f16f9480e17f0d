-- Each step tells one node, up to the last that is ahead of the end.
use Rattle.std.proofs.Common.{◌==◌, sym, ap, ◌∙◌, refl}
use Rattle.std.proofs.lemmas.Bool.{not-true, not-false, eqb-true}
use Rattle.dom_model.specs.Definitions.{root_of, Point, Range}
use Rattle.dom_model.proofs.Forests.{Changes.seen, Changes.nothing, Changes.just, TreeOrder.InsideWalks.smaller}
use Rattle.dom_content.specs.RangeTexts.{text_within}
use Rattle.dom_content.proofs.{AlongGaps.walk-at, RangeTexts.texts-contained, WalkedParts.last-ahead, WalkedParts.apart-from, WalkedParts.along-start, WalkedParts.along-end, WalkedParts.along-found, WalkedParts.next, WalkedParts.next-not_past, WalkedParts.along-next}
use Rattle.dom_content.proofs.stringification.append_between.Goals as goal

pub loop-start-init : goal.loop-start-init
loop-start-init c =
    let g = c.args.tree.now in
    let r : Range = record { start = c.args.start; end = c.args.end } in
    let rooted = ap (λ (p : Point). root_of g.forest p.node) (sym c.start.view_is) ∙ sym c.root-root.ensures in
    let stop = last-ahead g c.root-root.result c.args.end c.last_ahead-stop.result c.last_ahead-stop.ensures.held c.last_ahead-stop.ensures.one_root c.last_ahead-stop.ensures.ahead c.last_ahead-stop.ensures.behind
    (sym c.requires.range.one_root ∙ rooted) c.requires.range.ends.within in
    let first = last-ahead g c.root-root.result c.args.start c.last_ahead-here.result c.last_ahead-here.ensures.held c.last_ahead-here.ensures.one_root c.last_ahead-here.ensures.ahead c.last_ahead-here.ensures.behind
    rooted c.requires.range.starts.within in
    along-start g c.state_law.ensures r c.requires.range c.root-root.result rooted c.last_ahead-stop.result stop (text_within g.forest r) (texts-contained g r) c.last_ahead-here.result c.args.text.now first

pub next_inside-requires-clause-held : goal.next_inside-requires-clause-held
next_inside-requires-clause-held c = c.loop-start.invariant.told.there

pub next_inside-requires-clause-under : goal.next_inside-requires-clause-under
next_inside-requires-clause-under c =
    let t = c.loop-start.invariant.told in
    (walk-at c.args.tree.now c.state_law.ensures c.root-root.result c.loop-start.here t.there t.of_root).under

pub unwrap-next-requires : goal.unwrap-next-requires
unwrap-next-requires c =
    let g = c.args.tree.now in
    let r : Range = record { start = c.args.start; end = c.args.end } in
    let t = c.loop-start.invariant in
    let rooted = t.told.rooted in
    let stop = last-ahead g c.root-root.result c.args.end c.last_ahead-stop.result c.last_ahead-stop.ensures.held c.last_ahead-stop.ensures.one_root c.last_ahead-stop.ensures.ahead c.last_ahead-stop.ensures.behind
    (sym c.requires.range.one_root ∙ rooted) c.requires.range.ends.within in
    let ne = apart-from c.loop-start.here c.last_ahead-stop.result (not-true (c.loop-start.here == c.last_ahead-stop.result) (sym c.ne.ensures ∙ c.loop-start-test.true)) in
    elim (seen c.next_inside.result) [
      | nothing e ↦ absurd (along-found g c.state_law.ensures r c.requires.range c.root-root.result rooted c.last_ahead-stop.result stop (text_within g.forest r) (texts-contained g r) c.args.text.now c.loop-start.here c.loop-start.text t ne (sym c.next_inside.ensures ∙ e))
      | just m e ↦ rw e refl
    ]

pub append_contained-requires-clause-held : goal.append_contained-requires-clause-held
append_contained-requires-clause-held c =
    let g = c.args.tree.now in
    let r : Range = record { start = c.args.start; end = c.args.end } in
    let t = c.loop-start.invariant in
    let rooted = t.told.rooted in
    let stop = last-ahead g c.root-root.result c.args.end c.last_ahead-stop.result c.last_ahead-stop.ensures.held c.last_ahead-stop.ensures.one_root c.last_ahead-stop.ensures.ahead c.last_ahead-stop.ensures.behind
    (sym c.requires.range.one_root ∙ rooted) c.requires.range.ends.within in
    let ne = apart-from c.loop-start.here c.last_ahead-stop.result (not-true (c.loop-start.here == c.last_ahead-stop.result) (sym c.ne.ensures ∙ c.loop-start-test.true)) in
    let e = sym c.next_inside.ensures ∙ c.unwrap-next.ensures in
    (next g c.state_law.ensures r c.requires.range c.root-root.result rooted c.last_ahead-stop.result stop (text_within g.forest r) (texts-contained g r) c.args.text.now c.loop-start.here c.loop-start.text t ne c.unwrap-next.result e).1

pub append_contained-requires-clause-one_root : goal.append_contained-requires-clause-one_root
append_contained-requires-clause-one_root c =
    let g = c.args.tree.now in
    let r : Range = record { start = c.args.start; end = c.args.end } in
    let t = c.loop-start.invariant in
    let rooted = t.told.rooted in
    let stop = last-ahead g c.root-root.result c.args.end c.last_ahead-stop.result c.last_ahead-stop.ensures.held c.last_ahead-stop.ensures.one_root c.last_ahead-stop.ensures.ahead c.last_ahead-stop.ensures.behind
    (sym c.requires.range.one_root ∙ rooted) c.requires.range.ends.within in
    let ne = apart-from c.loop-start.here c.last_ahead-stop.result (not-true (c.loop-start.here == c.last_ahead-stop.result) (sym c.ne.ensures ∙ c.loop-start-test.true)) in
    let e = sym c.next_inside.ensures ∙ c.unwrap-next.ensures in
    (next g c.state_law.ensures r c.requires.range c.root-root.result rooted c.last_ahead-stop.result stop (text_within g.forest r) (texts-contained g r) c.args.text.now c.loop-start.here c.loop-start.text t ne c.unwrap-next.result e).0 ∙ sym rooted

pub append_contained-requires-clause-behind : goal.append_contained-requires-clause-behind
append_contained-requires-clause-behind c = c.loop-start.invariant.behind c.unwrap-next.result (sym c.next_inside.ensures ∙ c.unwrap-next.ensures)

pub append_contained-requires-clause-not_past : goal.append_contained-requires-clause-not_past
append_contained-requires-clause-not_past c =
    let g = c.args.tree.now in
    let r : Range = record { start = c.args.start; end = c.args.end } in
    let t = c.loop-start.invariant in
    let rooted = t.told.rooted in
    let stop = last-ahead g c.root-root.result c.args.end c.last_ahead-stop.result c.last_ahead-stop.ensures.held c.last_ahead-stop.ensures.one_root c.last_ahead-stop.ensures.ahead c.last_ahead-stop.ensures.behind
    (sym c.requires.range.one_root ∙ rooted) c.requires.range.ends.within in
    let ne = apart-from c.loop-start.here c.last_ahead-stop.result (not-true (c.loop-start.here == c.last_ahead-stop.result) (sym c.ne.ensures ∙ c.loop-start-test.true)) in
    let e = sym c.next_inside.ensures ∙ c.unwrap-next.ensures in
    next-not_past g c.state_law.ensures r c.requires.range c.root-root.result rooted c.last_ahead-stop.result stop (text_within g.forest r) (texts-contained g r) c.args.text.now c.loop-start.here c.loop-start.text t ne c.unwrap-next.result e

pub loop-start-smaller : goal.loop-start-smaller
loop-start-smaller c = smaller c.args.tree.now c.state_law.ensures c.root-root.result c.loop-start.here c.unwrap-next.result (sym c.next_inside.ensures ∙ c.unwrap-next.ensures)

pub loop-start-preserved : goal.loop-start-preserved
loop-start-preserved c =
    let g = c.args.tree.now in
    let r : Range = record { start = c.args.start; end = c.args.end } in
    let t = c.loop-start.invariant in
    let rooted = t.told.rooted in
    let stop = last-ahead g c.root-root.result c.args.end c.last_ahead-stop.result c.last_ahead-stop.ensures.held c.last_ahead-stop.ensures.one_root c.last_ahead-stop.ensures.ahead c.last_ahead-stop.ensures.behind
    (sym c.requires.range.one_root ∙ rooted) c.requires.range.ends.within in
    let ne = apart-from c.loop-start.here c.last_ahead-stop.result (not-true (c.loop-start.here == c.last_ahead-stop.result) (sym c.ne.ensures ∙ c.loop-start-test.true)) in
    let e = sym c.next_inside.ensures ∙ c.unwrap-next.ensures in
    along-next g c.state_law.ensures r c.requires.range c.root-root.result rooted c.last_ahead-stop.result stop (text_within g.forest r) (texts-contained g r) c.args.text.now c.loop-start.here c.loop-start.text t ne c.unwrap-next.result e c.append_contained.new.text c.in_ok-append_contained.ensures

pub returns : goal.returns
returns c =
    let g = c.args.tree.now in
    let r : Range = record { start = c.args.start; end = c.args.end } in
    let t = c.loop-start.invariant in
    let rooted = t.told.rooted in
    let stop = last-ahead g c.root-root.result c.args.end c.last_ahead-stop.result c.last_ahead-stop.ensures.held c.last_ahead-stop.ensures.one_root c.last_ahead-stop.ensures.ahead c.last_ahead-stop.ensures.behind
    (sym c.requires.range.one_root ∙ rooted) c.requires.range.ends.within in
    let same = eqb-true c.loop-start.here c.last_ahead-stop.result (not-false (c.loop-start.here == c.last_ahead-stop.result) (sym c.ne.ensures ∙ c.loop-start-test.false)) in
    along-end g c.state_law.ensures r c.requires.range c.root-root.result rooted c.last_ahead-stop.result stop (text_within g.forest r) (texts-contained g r) c.args.text.now c.loop-start.here c.loop-start.text t same
