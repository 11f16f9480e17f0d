-- What comes in where nobody hears of it.
use Rattle.std.proofs.Common.{◌≡◌, ℕ, Bool, true, false, List, [], ◌∷◌, filter, length, Option, None, Some, refl, ap, ◌∙◌}
use Rattle.dom_model.specs.Definitions.{ancestors, Mutation, Observing, Registration, put_in, put_all, gap_before, previous_to, insert_all, queued, tree_record, transients_made, standing_on, interests}
use Rattle.dom_model.specs.declared.RecordType.TheVariants.{ChildList}
use Rattle.dom_model.specs.Worlds.World as model
use Rattle.dom_observe.specs.Watchers.{Watches}
use Rattle.dom_observe.proofs.{QueueRecordLemmas.standing_on-none, WatchesLemmas.watches-unheard}
use Rattle.dom_edit.specs.{declared.world.World.World, Removal.removal_noted, Whole.Follows}
use Rattle.dom_edit.proofs.{FollowsLemmas.follows-then, RemoveLemmas.follows-idle, TreeRecordLemmas.tree_mutation}

-- what is observed stays as it was
observing-put : (parent : ℕ) (child : Option ℕ) (ns : List ℕ) (w : model.World) → (put_all parent child ns w).observing ≡ w.observing
observing-put parent child [] w = refl
observing-put parent child (n ∷ ns) w = observing-put parent child ns (put_in parent child n w)

observing-gap : (parent : ℕ) (child : Option ℕ) (count : ℕ) (w : model.World) → (gap_before parent child count w).observing ≡ w.observing
observing-gap parent None count w = refl
observing-gap parent (Some c) count w = refl

-- nothing is observed, or the record is suppressed
pub follows-unheard : (old new : World) (suppressed : Bool) (parent : ℕ) (child : Option ℕ) (nodes : List ℕ) → ((x : Observing) → Watches old.observers x → x.registrations ≡ [])
    → Follows old new (λ w. put_all parent child nodes (gap_before parent child (length nodes) w)) → Follows old new (insert_all suppressed parent child nodes)
follows-unheard old new true parent child nodes idle f = f
follows-unheard old new false parent child nodes idle f = record {
  keeps = λ w k.
      let a = f.keeps w k in
      record { forest = a.forest; made = a.made; ranges = a.ranges; static_ranges = a.static_ranges; iterators = a.iterators; walkers = a.walkers };
  watches = λ w k o.
      let after : model.World = put_all parent child nodes (gap_before parent child (length nodes) w) in
      let above = ancestors parent after.forest in
      let unobserved : after.observing.registrations ≡ [] =
      ap (λ (x : Observing). x.registrations) (observing-put parent child nodes (gap_before parent child (length nodes) w) ∙ observing-gap parent child (length nodes) w) ∙ idle w.observing o in
      let m : Mutation = record {
        type = ChildList;
        target = parent;
        name = None;
        old_value = None;
        added = nodes;
        removed = [];
        previous = previous_to w.forest parent child;
        next = child;
        standing = standing_on above after.observing.registrations;
      } in
      watches-unheard new.observers after.observing (f.watches w k o) m (ap (λ (rs : List Registration). filter (interests m) (standing_on above rs)) unobserved ∙ ap (filter (interests m)) (standing_on-none above));
}

-- a record for nobody
pub follows-unheard_mutation : (v : World) (m : model.World → Mutation) → ((x : Observing) → Watches v.observers x → x.registrations ≡ []) → Follows v v (λ w. queued (m w) w)
follows-unheard_mutation v m idle = record {
  keeps = λ w k. record { forest = k.forest; made = k.made; ranges = k.ranges; static_ranges = k.static_ranges; iterators = k.iterators; walkers = k.walkers };
  watches = λ w k o.
      let above = ancestors (m w).target w.forest in
      let told : Mutation = record (m w) { standing = standing_on above w.observing.registrations } in
      watches-unheard v.observers w.observing o told (ap (λ (rs : List Registration). filter (interests told) (standing_on above rs)) (idle w.observing o) ∙ ap (filter (interests told)) (standing_on-none above));
}

pub follows-unheard_record : (v : World) (target : ℕ) (added removed : List ℕ) (previous next : Option ℕ) → ((x : Observing) → Watches v.observers x → x.registrations ≡ [])
    → Follows v v (tree_record target added removed previous next)
follows-unheard_record v target added removed previous next idle = follows-unheard_mutation v (tree_mutation target added removed previous next) idle

-- a removal that nobody observes
pub follows-unheard_removal : (v : World) (n p : ℕ) (previous next : Option ℕ) → ((x : Observing) → Watches v.observers x → x.registrations ≡ []) → Follows v v (removal_noted n p previous next)
follows-unheard_removal v n p previous next idle =
    follows-then v v v (transients_made n p) (tree_record p [] (n ∷ []) previous next) (follows-idle v n p idle) (follows-unheard_record v p [] (n ∷ []) previous next idle)
