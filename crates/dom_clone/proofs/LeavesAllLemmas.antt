-- What copies leave as it was, copy by copy.
use Rattle.std.proofs.Common.{◌≡◌, ℕ, ◌+◌, ◌≤◌, List, refl, ap, sym, ◌∙◌, subst, arith, Result, Ok, Err, OnOk, OnErr}
use Rattle.dom_model.specs.Definitions.{Label, EachNode, Node, Forest, empty, node, beside, Content, made_node}
use Rattle.dom_model.proofs.Forests.{EachNode.EachNode-beside, Totals.beside-empty, Undone.beside-assoc}
use Rattle.dom_model.proofs.Worlds.Owners.{EachNode-each}
use Rattle.dom_edit.specs.{declared.world.World.World, Whole.CoversAhead, Whole.Follows, Whole.unwatched, OlderNodes.LeavesAll}
use Rattle.dom_edit.proofs.FollowsLemmas.{keeps-unwatched}
use Rattle.dom_clone.specs.declared.walk_stack.Waiting.{Waiting}
use Rattle.dom_clone.proofs.{PutUnderLemmas.follows-same, IsCopyingLemmas.IsCopying, IsCopyingLemmas.with_trees}

-- the numbers of the nodes are given out later than those of a world
abbrev IsLater : World → Node Content → Type 0
IsLater v x = v.tree.made ≤ x.number

-- what follows from a success and from a failure
pub either-way : {T E P Q A : Type 0} (r : Result T E) → OnOk r P → OnErr r Q → (P → A) → (Q → A) → A
either-way (Ok x) p q f g = f p
either-way (Err e) p q f g = g q

-- what holds anyway holds after a failure
pub after_error : {T E Q : Type 0} (r : Result T E) → Q → OnErr r Q
after_error (Ok x) q = tt
after_error (Err e) q = q

pub left-same : (v : World) → LeavesAll v v
left-same v = record {
  trees = empty;
  forest = sym (beside-empty v.tree.forest);
  numbers = tt;
  made = omega arith;
  ranges = refl;
  static_ranges = refl;
  iterators = refl;
  walkers = refl;
  observers = refl;
}

pub left-covered : (old new : World) → CoversAhead old new → LeavesAll old new
left-covered old new c =
    subst (λ v. LeavesAll old v) (sym c.is)
    (record {
      trees = empty;
      forest = sym (beside-empty old.tree.forest);
      numbers = tt;
      made = omega arith;
      ranges = refl;
      static_ranges = refl;
      iterators = refl;
      walkers = refl;
      observers = refl;
    })

pub left-then : (a b c : World) → LeavesAll a b → LeavesAll b c → LeavesAll a c
left-then a b c l k = record {
  trees = beside l.trees k.trees;
  forest = k.forest ∙ ap (λ (g : Forest Content). beside g k.trees) l.forest ∙ beside-assoc a.tree.forest l.trees k.trees;
  numbers = EachNode-beside (IsLater a) l.trees k.trees l.numbers (EachNode-each (IsLater b) (IsLater a) (λ x h. omega (arith, h, l.made)) k.trees k.numbers);
  made = omega (arith, l.made, k.made);
  ranges = k.ranges ∙ l.ranges;
  static_ranges = k.static_ranges ∙ l.static_ranges;
  iterators = k.iterators ∙ l.iterators;
  walkers = k.walkers ∙ l.walkers;
  observers = k.observers ∙ l.observers;
}

-- trees beside those that were there
left-trees : (old new : World) (g : Forest Content) → EachNode (IsLater old) g → old.tree.made ≤ new.tree.made → Follows old new (with_trees g new.tree.made) → new.observers ≡ old.observers → LeavesAll old new
left-trees old new g numbers made f observers =
    let k = f.keeps (unwatched old) (keeps-unwatched old) in
    record {
      trees = g;
      forest = sym k.forest;
      numbers = numbers;
      made = made;
      ranges = sym k.ranges;
      static_ranges = sym k.static_ranges;
      iterators = sym k.iterators;
      walkers = sym k.walkers;
      observers = observers;
    }

-- one more root
pub left-made : (old new : World) (d : ℕ) (label : Label) (body : Content) → new.observers ≡ old.observers → Follows old new (made_node d label body) → LeavesAll old new
left-made old new d label body observers f =
    left-trees old new one (omega arith, tt, tt) (omega (arith, more))
    (follows-same old new (made_node d label body) (with_trees one new.tree.made)
    (λ w k.
    ap (λ (c : ℕ). record w { forest = beside w.forest (node (record { number = c; document = d; label = label; body = body }) empty empty); made = c + 1 }) k.made
    ∙ ap (λ (c : ℕ). with_trees one c w) more)
    f)
    observers
  where
    one : Forest Content
    one = node (record { number = old.tree.made; document = d; label = label; body = body }) empty empty

    more : old.tree.made + 1 ≡ new.tree.made
    more = (f.keeps (unwatched old) (keeps-unwatched old)).made

-- a copy that is being made
pub left-copying : (old : World) (n d : ℕ) (now : World) {ws : List (Waiting ℕ)} → IsCopying old n d now ws → now.observers ≡ old.observers → LeavesAll old now
left-copying old n d now i observers = left-trees old now i.copies i.from i.grows i.follows observers
