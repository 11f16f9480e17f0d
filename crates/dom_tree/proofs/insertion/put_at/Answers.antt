use Rattle.std.proofs.Common.{◌<◌, length, refl, sym, ◌∙◌, subst}
use Rattle.dom_model.specs.Definitions.{entry_at, children_in}
use Rattle.dom_links.specs.Placed.{slot_of, slots_of}
use Rattle.dom_tree.proofs.CachedIndexLemmas.{linked-some}
use Rattle.dom_tree.proofs.insertion.put_at.Goals as goal

pub number_put-requires-clause-parent_placed : goal.number_put-requires-clause-parent_placed
number_put-requires-clause-parent_placed g c = (c.link.ensures.kept c.args.parent c.requires.parent_placed).placed

pub number_put-requires-clause-child_placed : goal.number_put-requires-clause-child_placed
number_put-requires-clause-child_placed g c = (c.link.ensures.kept c.args.child c.requires.child_placed).placed

pub number_put-requires-clause-child : goal.number_put-requires-clause-child
number_put-requires-clause-child g c =
    let same = (c.link.ensures.kept c.args.parent c.requires.parent_placed).slot in
    subst (λ n. 0 < length (children_in (entry_at c.link.new.self.arena n))) (sym same)
    (linked-some c.args.links.now.arena (slot_of c.args.links.now c.args.parent) (slot_of c.args.links.now c.args.child) (slots_of c.args.links.now c.args.before) c.requires.parent_placed.held c.link.new.self.arena c.link.ensures.linked)

pub number_put-requires-clause-before_placed : goal.number_put-requires-clause-before_placed
number_put-requires-clause-before_placed g c = λ b e. (c.link.ensures.kept b (c.requires.before_placed b e)).placed

pub returns-in-Some : goal.returns-in-Some
returns-in-Some g c =
    record {
      linked = c.link.new.self;
      is_linked = c.link.ensures.linked;
      same_places = c.link.ensures.places;
      numbered = c.number_put.new.links;
      is_numbered = c.number_put.ensures.numbered;
      few = c.number_put.ensures.few;
      blocked = rw (sym c.block_put-block.ensures ∙ c.in-Some.is) (c.blocked_put.ensures.links, c.blocked_put.ensures.blocks);
      tallied = c.tallied_put.ensures;
    }

pub returns-in_default : goal.returns-in_default
returns-in_default g c =
    record {
      linked = c.link.new.self;
      is_linked = c.link.ensures.linked;
      same_places = c.link.ensures.places;
      numbered = c.number_put.new.links;
      is_numbered = c.number_put.ensures.numbered;
      few = c.number_put.ensures.few;
      blocked = rw (sym c.block_put-block.ensures ∙ c.in_default.is) (refl, refl);
      tallied = c.tallied_put.ensures;
    }
