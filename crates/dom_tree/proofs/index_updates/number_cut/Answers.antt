-- The parent is where its link leads.
use Rattle.std.proofs.Common.{refl}
use Rattle.dom_tree.proofs.PlaceWalkLemmas.{led, led-there}
use Rattle.dom_tree.proofs.index_updates.number_cut.Goals as goal

pub unwrap-parent-requires : goal.unwrap-parent-requires
unwrap-parent-requires g c = led-there c.parent.result _ c.parent.ensures c.requires.has_parent

pub sure_of-sure-requires : goal.sure_of-sure-requires
sure_of-sure-requires g c = (led c.unwrap-parent.ensures c.parent.ensures).placed c.unwrap-parent.result refl

pub reach_of-reach-requires : goal.reach_of-reach-requires
reach_of-reach-requires g c = (led c.unwrap-parent.ensures c.parent.ensures).placed c.unwrap-parent.result refl

pub set_sure-requires : goal.set_sure-requires
set_sure-requires g c = (led c.unwrap-parent.ensures c.parent.ensures).placed c.unwrap-parent.result refl
