use Rattle.std.proofs.Common.{◌∙◌, sym, ap, arith, flat_map}
use Rattle.std.proofs.lemmas.{Grind.common_steps, Iterator.YieldsList-from_chars, Iterator.Consumers.YieldsList-end, List.Folds.flat_map-map}
use Rattle.std.specs.Char.Escape.{encode_utf16}
use Rattle.dom_units.proofs.scan.encode.Goals as goal

pub returns : goal.returns
returns c =
    let e = YieldsList-end (YieldsList-from_chars c.args.text.now c.utf8.text cc) c.loop-character.yielded _ c.loop-character.yielded_by _ _ c.in-None.is c.next.ensures.steps in
    c.loop-character.invariant ∙ sym (flat_map-map encode_utf16 (λ x. x) c.loop-character.yielded) ∙ ap (flat_map encode_utf16) e.0

pub loop-character-preserved : goal.loop-character-preserved
loop-character-preserved c = grind (arith, common_steps)
