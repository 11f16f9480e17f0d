-- A change that observers were told of, as a step of the world.
use Rattle.std.specs.{Borrow.Bor, Option.option_copied}
use Rattle.std.proofs.Common.{◌≡◌, ◌==◌, ℕ, true, List, [], ◌∷◌, ◌++◌, length, Bool, Option, Some, None, refl, ap, sym, ◌∙◌, subst, append-nil, arith, filter_map}
use Rattle.std.proofs.lemmas.Bool.{eqb-true}
use Rattle.std.specs.Map.{keys_of}
use Rattle.dom_model.specs.declared.RecordType.{RecordType}
use Rattle.dom_model.specs.Definitions.{Forest, ancestors, Content, Mutation, with_all_last, queued, noted, standing_on}
use Rattle.dom_observe.specs.{Names.given_name, Interested.listener_of, Interested.flag_of, Interested.delivered, Undoing.standing_at, Undoing.heard_at, Undoing.IsQueued, Watchers.Watchers, Watchers.on, Watchers.records_at, Watchers.Watches}
use Rattle.dom_edit.specs.{declared.world.World.World, Whole.Follows}
use Rattle.dom_data.specs.Changes.{change_of, QueuesMutation}

-- a queued change as a step
pub follows-told : (old new : World) (what : RecordType) (target : ℕ) (name : Option (List ℕ)) (value : Forest Content → Option (List ℕ)) → new ≡ record old { observers = new.observers } → QueuesMutation what target name (value old.tree.forest) old.tree.forest old.observers new.observers → Follows old new (λ w. queued (change_of what target name (value w.forest)) w)
follows-told old new what target name value e tells = record {
  keeps = λ w k. record {
    forest = k.forest ∙ ap (λ (v : World). v.tree.forest) (sym e);
    made = k.made ∙ ap (λ (v : World). v.tree.made) (sym e);
    ranges = k.ranges ∙ ap (λ (v : World). v.ranges.ranges) (sym e);
    static_ranges = k.static_ranges ∙ ap (λ (v : World). v.statics) (sym e);
    iterators = k.iterators ∙ ap (λ (v : World). v.iterators) (sym e);
    walkers = k.walkers ∙ ap (λ (v : World). v.walkers) (sym e);
  };
  watches = λ w k o. subst (λ f. Watches new.observers (noted (record (change_of what target name (value f)) { standing = standing_on (ancestors target f) w.observing.registrations }) w.observing)) (sym k.forest) (tells w.observing o);
}

-- a text that is lent, as a clause on an optional reference says it
pub lent-text : (o : Option (Bor (List ℕ))) → option_copied o ≡ given_name o
lent-text None = refl
lent-text (Some text) = refl

-- if nobody observes, nobody gets a record
none-stand : (ns : List ℕ) (o : Watchers) → o.nodes ≡ [] → standing_at ns o ≡ []
none-stand [] o none = refl
none-stand (n ∷ ns) o none = ap (λ nodes. on n nodes ++ standing_at ns o) none ∙ none-stand ns o none

none-heard : (ns : List ℕ) (m : Mutation) (o : Watchers) → o.nodes ≡ [] → heard_at ns m o ≡ []
none-heard ns m o none = ap (filter_map (listener_of m.type m.target m.name)) (none-stand ns o none)

no-nodes : {A : Type 0} (xs : List A) → (length xs == 0) ≡ true → xs ≡ []
no-nodes [] e = refl
no-nodes (x ∷ xs) e = let none = eqb-true (length (x ∷ xs)) 0 e in absurd (omega arith)

pub queued-unheard : (ns : List ℕ) (m : Mutation) (o : Watchers) → (length o.nodes == 0) ≡ true → IsQueued ns m o o
queued-unheard ns m o idle =
    let nobody = none-heard ns m o (no-nodes o.nodes idle) in
    record {
      nodes = refl;
      made = refl;
      there = λ i. refl;
      records = λ i. sym (ap (λ ls. records_at o.queues i ++ delivered m (flag_of i ls)) nobody ∙ append-nil (records_at o.queues i));
      pending = sym (ap (λ (ls : List (ℕ × Bool)). with_all_last o.pending (keys_of ls)) nobody);
    }
