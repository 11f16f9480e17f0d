-- The place of the number.
use Rattle.std.proofs.Common.{refl}
use Rattle.dom_tree.proofs.PlaceTableLemmas.{place-held}
use Rattle.dom_tree.proofs.tree.Tree.at.Goals as goal

pub place_of-requires : goal.place_of-requires
place_of-requires g c = place-held c.self.invariant c.self.view_is c.args.id c.requires

pub invariant_of-result : goal.invariant_of-result
invariant_of-result g c =
    record {
      live = c.self.inside.live;
      strays = c.self.inside.strays;
      blocks = c.self.inside.blocks;
      tallies = c.self.inside.tallies;
      seated = c.self.invariant;
      placed = c.place_of.ensures.placed c.place_of.result refl;
    }
