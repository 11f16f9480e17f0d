-- The text content of an element or a fragment.
use Rattle.std.proofs.Common.{ap, ⊎_elim}
use Rattle.dom_data.specs.TextContent.{may_hold_text}
use Rattle.dom_data.proofs.GatheredLemmas.{content-below}
use Rattle.dom_data.proofs.text_contents.text_content.Goals as goal

pub returns-in_ok-text-in-Element : goal.returns-in_ok-text-in-Element
returns-in_ok-text-in-Element c =
    content-below c.args.world.now c.args.node c.kind_in.result c.in_ok-text-in-Element.text c.requires.held c.kind_in.ensures
    (⊎_elim (λ e. ap may_hold_text e) (λ e. ap may_hold_text e) c.in-Element.is) c.in_ok-text-in-Element.ensures
