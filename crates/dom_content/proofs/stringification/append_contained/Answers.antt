-- A Text that comes between the ends is contained, unless it is the end's node.
use Rattle.std.proofs.Common.{◌≡◌, ◌++◌, ap, sym, ◌∙◌, append-nil}
use Rattle.std.proofs.lemmas.{Bool.eqb-true, Result.on_ok_weaker}
use Rattle.dom_model.specs.Definitions.{Point, Range}
use Rattle.dom_content.proofs.{WalkedParts.apart-from, WalkedTexts.end-untold, WalkedTexts.others-told}
use Rattle.dom_content.proofs.stringification.append_contained.Goals as goal

pub returns-then-eq : goal.returns-then-eq
returns-then-eq c =
    let g = c.args.tree.now in
    let r : Range = record { start = c.args.start; end = c.args.end } in
    let same = eqb-true c.args.node c.end.inside.node (sym c.if-eq.ensures) ∙ ap (λ (p : Point). p.node) c.end.view_is in
    sym (ap (λ us. c.args.text.now ++ us) (end-untold g c.state_law.ensures r c.requires.range c.args.node same c.requires.held c.requires.one_root c.requires.behind c.requires.not_past) ∙ append-nil c.args.text.now)

pub returns : goal.returns
returns c =
    let g = c.args.tree.now in
    let r : Range = record { start = c.args.start; end = c.args.end } in
    let ne = λ (d : c.args.node ≡ c.args.end.node). apart-from c.args.node c.end.inside.node (sym c.if-eq.ensures) (d ∙ sym (ap (λ (p : Point). p.node) c.end.view_is)) in
    let whole = others-told g c.state_law.ensures r c.requires.range c.args.node ne c.requires.held c.requires.one_root c.requires.behind c.requires.not_past in
    on_ok_weaker c.append_tail.result (λ e. e ∙ ap (λ us. c.args.text.now ++ us) whole) c.append_tail.ensures
