-- The first world: one Document in a world with nothing else.
use Rattle.std.proofs.Common.{◌≡◌, ℕ, ◌<◌, ◌≤◌, List, [], Option, None, is_some, IfSome, unwrap_or, refl, ap, sym, ◌∙◌, subst, arith}
use Rattle.std.proofs.lemmas.{List.get_or_past, List.Elements.All-nil}
use Rattle.dom_model.specs.Definitions.{Label, empty, IsForest, Content, Range, Iterator, Walker, document_label, no_content, first_world, made_node, Record, taken_up_to, records_past, IsRange, IsIterator, IsWalker}
use Rattle.dom_model.specs.Worlds.World as model
use Rattle.dom_model.proofs.Soundness.SoundAnswers.{sound-first}
use Rattle.dom_observe.specs.{ObservedNodes.NamesHeld, Watchers.Watchers, Watchers.queue_at, Watchers.Watches}
use Rattle.dom_edit.specs.{declared.world.World.World, Whole.AreHeld, Whole.CoversHeld, Whole.IsWhole, Whole.Keeps, Whole.Shows, Whole.Follows}

abbrev bare : model.World
bare = record first_world { forest = empty; made = 0 }

no-queue : (i : ℕ) → queue_at [] i ≡ None
no-queue i = get_or_past {X = Option (List Record)} [] i None (omega arith)

no-place : (i : ℕ) → taken_up_to i bare.observing ≡ None
no-place i = get_or_past {X = Option ℕ} [] i None (omega arith)

nobody-watches : (o : Watchers) → o ≡ record { nodes = []; queues = []; pending = [] } → Watches o bare.observing
nobody-watches o e = subst (λ p. Watches p bare.observing) (sym e) (record {
  registrations = λ n. refl;
  made = refl;
  there = λ i. ap is_some (no-queue i) ∙ sym (ap is_some (no-place i));
  queues = λ i. ap (λ (q : Option (List Record)). unwrap_or q []) (no-queue i) ∙ sym (ap (records_past i []) (no-place i));
  pending = refl;
  places = λ i. subst (λ (o : Option ℕ). IfSome o (λ place. place ≤ 0)) (sym (no-place i)) tt;
  notified = omega arith;
  interested = All-nil (λ (i : ℕ). i < 0);
  once = λ i n. omega arith;
})

nothing-placed : IsForest {X = Content} (record { forest = empty; made = 0 })
nothing-placed = record { once = λ n. omega arith; small = λ n le. refl; rising = tt; kinds = tt }

nothing-covered : CoversHeld (record { forest = empty; made = 0 }) []
nothing-covered = record { held = λ n there. absurd (cc there); ahead = λ n le lt. absurd (omega arith) }

nothing-named : NamesHeld {X = Content} empty (record { nodes = []; queues = []; pending = [] })
nothing-named = record { nodes = λ n there. absurd (cc there); observers = λ i there. absurd (cc there) }

-- a world without nodes is whole
pub whole-empty : (v : World)
    → v.tree ≡ record { forest = empty; made = 0 } → v.ranges ≡ record { ranges = []; covered = [] } → v.statics ≡ [] → v.iterators ≡ [] → v.walkers ≡ []
    → v.observers ≡ record { nodes = []; queues = []; pending = [] } → IsWhole v
whole-empty v tree ranges statics iterators walkers observers = record {
  forest = rw tree nothing-placed;
  documents = rw tree tt;
  owners = rw tree tt;
  covered = rw (tree, ranges) nothing-covered;
  ranges = rw ranges (All-nil (λ (r : Option Range). IfSome r (IsRange v.tree.forest)));
  statics = rw statics (All-nil (λ (r : Option Range). IfSome r (AreHeld v.tree.forest)));
  iterators = rw iterators (All-nil (λ (i : Option Iterator). IfSome i (IsIterator v.tree.forest)));
  walkers = rw walkers (All-nil (λ (k : Option Walker). IfSome k (IsWalker v.tree.forest)));
  observers = rw (tree, observers) nothing-named;
}

pub shows-first : (v new : World) (made : ℕ) (label : Label) (body : Content)
    → v.tree ≡ record { forest = empty; made = 0 } → v.ranges ≡ record { ranges = []; covered = [] } → v.statics ≡ [] → v.iterators ≡ [] → v.walkers ≡ []
    → v.observers ≡ record { nodes = []; queues = []; pending = [] }
    → made ≡ 0 → label ≡ document_label → body ≡ no_content → Follows v new (made_node made label body) → IsWhole new → Shows new first_world
shows-first v new made label body tree ranges statics iterators walkers observers number labelled bodied f whole =
    let keeps : Keeps v bare = record {
      forest = sym (ap (λ t. t.forest) tree);
      made = sym (ap (λ t. t.made) tree);
      ranges = sym (ap (λ r. r.ranges) ranges);
      static_ranges = sym statics;
      iterators = sym iterators;
      walkers = sym walkers;
    } in
    let is_first : made_node made label body bare ≡ first_world =
    ap (λ m. made_node m label body bare) number ∙ (ap (λ l. made_node 0 l body bare) labelled ∙ ap (λ b. made_node 0 document_label b bare) bodied) in
    record {
      keeps = subst (λ w. Keeps new w) is_first (f.keeps bare keeps);
      watched = f.watches bare keeps (nobody-watches v.observers observers);
      sound = sound-first;
      whole = whole;
    }
