-- Each key gives the node one more transient registration, or none.
use Rattle.std.proofs.Common.{◌≡◌, refl, List, if◌then◌else◌, ◌==◌, Bool, true, false, Some, None, option_map, take, inl, ap, sym, ◌∙◌, subst, slice_index_or, slice_set}
use Rattle.std.specs.{List.AllByRecursion, Map.keys_of}
use Rattle.dom_observe.specs.{Watchers.on, Registrations.plain, Registrations.at, Registrations.found, Registrations.AllStand, Registrations.HaveSources, Registrations.Agree, Registrations.transient_under, Registrations.ByOrigin, Registrations.IsPast, GetsTransients.GetsTransients, NodeOrder.MayComeLast, QueuedNodes.NamesNone, Invariant.has_queue, Invariant.IsIndexed, Roster.passing_by, Roster.queues_by, Origins.NotesIfAny, Origins.AlsoNotes}
use Rattle.dom_observe.proofs.{AgreeLemmas.agree-made, AgreeLemmas.alone-made, AgreeLemmas.agree-transient, NamedNodesLemmas.none-added, NamedNodesLemmas.none-made, InterestedLemmas.last-there, IsIndexedLemmas.indexed-pended, IsIndexedLemmas.indexed-transient, IsIndexedLemmas.made-transient, RosterLemmas.has-kept, RosterLemmas.within-passing, RosterLemmas.passing-there, RosterLemmas.passing-set, RosterLemmas.passing-same, RosterLemmas.lasting-same, RosterLemmas.queues-same, OriginsLemmas.noted-added, AreRegisteredLemmas.are-live, GetsTransientsLemmas.gets-none, GetsTransientsLemmas.gets-added, GetsTransientsLemmas.elsewhere-same, HaveSourcesLemmas.sources-added, HaveSourcesLemmas.source-made, RegistrationTableLemmas.alike_self, RegistrationTableLemmas.turn-none, RegistrationTableLemmas.turn-added, RegistrationTableLemmas.turn-alike, RegistrationTableLemmas.turn-stands, RegistrationTableLemmas.transient_shape, NodeOrderLemmas.comes-last, transient_registrations.add_each_transient.Goals.in-Some+in_ok-note+in_ok-mark_pending+in_ok-add, transient_registrations.add_each_transient.Goals.in_default}
use Rattle.dom_model.specs.Definitions.{with_last, Registration}
use Rattle.dom_observe.proofs.transient_registrations.add_each_transient.Goals as goal

nothing_yet : {A : Type 0} (b : Bool) (rs : List A) → rs ≡ (if b then rs else rs)
nothing_yet true rs = refl
nothing_yet false rs = refl

pub loop-key-init : goal.loop-key-init
loop-key-init c = record {
  noted = subst (λ own. NotesIfAny (at c.args.registrations.now) own c.in_ok-origins.origins.noted) c.keys_on.ensures c.in_ok-origins.ensures;
  standing = alike_self (at c.args.registrations.now) c.args.standing.now;
  has = λ n. nothing_yet (c.args.node == n) _;
  nodes = inl refl;
  stands = λ there bounded all. all;
  names = λ p here keys none. none;
  indexed = λ lasts there bounded ix. ix;
  sources = λ have. have;
  agree = λ have. have;
  lasting = refl;
  queues = refl;
  sound = c.state_law.ensures;
}

pub returns-in_err-add-clause-stay : goal.returns-in_err-add-clause-stay
returns-in_err-add-clause-stay c = subst (λ r. AllByRecursion (λ k. at r k ≡ at c.args.registrations.now k) c.args.standing.now) (sym c.in_err-add.ensures.err) c.loop-key.invariant.standing

pub returns-in_err-add-clause-all_stand : goal.returns-in_err-add-clause-all_stand
returns-in_err-add-clause-all_stand c = λ there bounded all. subst (λ r. AllStand (at r) there r.lists) (sym c.in_err-add.ensures.err) (c.loop-key.invariant.stands there bounded all)

pub returns-in_err-add-clause-names : goal.returns-in_err-add-clause-names
returns-in_err-add-clause-names c = λ p here keys none. subst (λ r. NamesNone p (at r) r.lists) (sym c.in_err-add.ensures.err) (c.loop-key.invariant.names p here keys none)

pub returns-in_err-add-clause-sources : goal.returns-in_err-add-clause-sources
returns-in_err-add-clause-sources c = λ have. subst (λ r. HaveSources (at r)) (sym c.in_err-add.ensures.err) (c.loop-key.invariant.sources have)

pub returns-in_err-add-clause-agree : goal.returns-in_err-add-clause-agree
returns-in_err-add-clause-agree c = λ have. subst (λ r. Agree (at r)) (sym c.in_err-add.ensures.err) (c.loop-key.invariant.agree have)

pub returns-in_err-mark_pending-clause-indexed : goal.returns-in_err-mark_pending-clause-indexed
returns-in_err-mark_pending-clause-indexed c = λ lasts there bounded ix.
    subst (λ some. IsIndexed (at c.loop-key.registrations) lasts (passing_by c.loop-key.roster) some there) (sym c.in_err-mark_pending.ensures.err) (c.loop-key.invariant.indexed lasts there bounded ix)

-- the observer of a registration that is made is there
pub get_mut-kept-requires : goal.get_mut-kept-requires
get_mut-kept-requires c =
    let u0 = at c.args.registrations.now in
    let u = at c.loop-key.registrations in
    let i = c.loop-key.key-index in
    let own = on c.args.node c.loop-key.registrations.lists in
    let some : transient_under u own c.args.node (slice_index_or c.args.standing.now i 0) ≡ Some (plain c.in-Some.made) = ap (λ ks. transient_under u ks c.args.node (slice_index_or c.args.standing.now i 0)) (sym c.keys_on-in-loop-key.ensures) ∙ sym c.in_ok-made.ensures ∙ ap (option_map plain) c.in-Some.is in
    let shape = made-transient u0 u own c.args.node c.args.standing.now i 0 c.loop-key-test.true c.loop-key.invariant.standing (plain c.in-Some.made) some in
    sym (has-kept c.loop-key.roster c.in-Some.made.observer)
    ∙ ap (λ qs. has_queue qs c.in-Some.made.observer) c.loop-key.invariant.queues
    ∙ shape.0 (has_queue (queues_by c.args.roster.now)) c.requires.there

pub returns-in_err-add-clause-lasting : goal.returns-in_err-add-clause-lasting
returns-in_err-add-clause-lasting c =
    lasting-same c.loop-key.roster c.in-Some.made.observer c.get_mut-kept.result.now c.get_mut-kept.ensures.value (record c.get_mut-kept.result.now { passing = c.add.new.keys }) refl ∙ c.loop-key.invariant.lasting

pub returns-in_err-add-clause-queues : goal.returns-in_err-add-clause-queues
returns-in_err-add-clause-queues c =
    queues-same c.loop-key.roster c.in-Some.made.observer c.get_mut-kept.result.now c.get_mut-kept.ensures.value (record c.get_mut-kept.result.now { passing = c.add.new.keys }) refl ∙ c.loop-key.invariant.queues

pub returns-in_err-add-clause-indexed : goal.returns-in_err-add-clause-indexed
returns-in_err-add-clause-indexed c = λ lasts there bounded ix.
    let u0 = at c.args.registrations.now in
    let u = at c.loop-key.registrations in
    let inv = c.loop-key.invariant in
    let i = c.loop-key.key-index in
    let own = on c.args.node c.loop-key.registrations.lists in
    let some : transient_under u own c.args.node (slice_index_or c.args.standing.now i 0) ≡ Some (plain c.in-Some.made) = ap (λ ks. transient_under u ks c.args.node (slice_index_or c.args.standing.now i 0)) (sym c.keys_on-in-loop-key.ensures) ∙ sym c.in_ok-made.ensures ∙ ap (option_map plain) c.in-Some.is in
    let shape = made-transient u0 u own c.args.node c.args.standing.now i 0 c.loop-key-test.true inv.standing (plain c.in-Some.made) some in
    let o = c.in-Some.made.observer in
    let kept = c.get_mut-kept.result.now in
    let same_keys = passing-same c.loop-key.roster o kept c.get_mut-kept.ensures.value (record kept { passing = c.add.new.keys }) c.in_err-add.ensures.err_own in
    let roster' = slice_set c.loop-key.roster o (Some (record kept { passing = c.add.new.keys })) in
    subst (λ r. IsIndexed (at r) lasts (passing_by roster') c.mark_pending.new.pending.keys there) (sym c.in_err-add.ensures.err)
    (subst (λ l. IsIndexed u lasts l c.mark_pending.new.pending.keys there) (sym same_keys)
    (subst (λ some. IsIndexed u lasts (passing_by c.loop-key.roster) some there) (sym c.in_ok-mark_pending.ensures.ok)
    (indexed-pended u lasts (passing_by c.loop-key.roster) c.loop-key.fleeting.keys there o (shape.0 there bounded) (inv.indexed lasts there bounded ix))))

pub loop-key-preserved : goal.loop-key-preserved
loop-key-preserved c =
    let u0 = at c.args.registrations.now in
    let u = at c.loop-key.registrations in
    let inv = c.loop-key.invariant in
    let lists0 = c.args.registrations.now.lists in
    let lists = c.loop-key.registrations.lists in
    let keys = c.args.standing.now in
    let i = c.loop-key.key-index in
    let own = on c.args.node lists in
    let live = are-live inv.sound in
    elim c.match-branch-3.branch [
      | in-Some+in_ok-note+in_ok-mark_pending+in_ok-add w ↦
          let some : transient_under u own c.args.node (slice_index_or keys i 0) ≡ Some (plain w.in-Some.made) = ap (λ ks. transient_under u ks c.args.node (slice_index_or keys i 0)) (sym c.keys_on-in-loop-key.ensures) ∙ sym c.in_ok-made.ensures ∙ ap (option_map plain) w.in-Some.is in
          let a = w.in_ok-add.ensures.ok in
          let v = at w.add.new.self in
          let lists' = w.add.new.self.lists in
          rw (w.registrations-is, w.roster-is, w.fleeting-is, w.origins-is) (record {
            noted = noted-added u lists (plain w.in-Some.made) v lists' a live c.args.node (slice_index_or keys i 0) some c.loop-key.origins.noted w.note.new.self.noted inv.noted
                (subst (λ n. AlsoNotes w.in-Some.made.observer n c.loop-key.origins.noted w.note.new.self.noted) w.origin-origin.ensures w.in_ok-note.ensures);
            standing = turn-alike u0 u lists0 lists c.args.node keys i 0 c.loop-key-test.true live inv.standing inv.has (plain w.in-Some.made) some v lists' a c.requires.standing;
            has = turn-added u0 u lists0 lists c.args.node keys i 0 c.loop-key-test.true live inv.standing inv.has (plain w.in-Some.made) some v lists' a;
            nodes = comes-last c.args.node lists0 lists lists' inv.nodes (w.in_ok-add.ensures.nodes ∙ ap (with_last (keys_of lists)) (sym (ap (λ (r : Registration). r.node) (transient_shape u own c.args.node (u (slice_index_or keys i 0)) (plain w.in-Some.made) some).2)));
            stands = λ there bounded all. turn-stands u0 u lists0 lists c.args.node keys i 0 c.loop-key-test.true live inv.standing inv.has (plain w.in-Some.made) some v lists' a there bounded (inv.stands there bounded all);
            names = λ p here named none.
                none-added p u lists (plain w.in-Some.made) v lists' a live
                (none-made p u0 u own c.args.node keys i 0 c.loop-key-test.true inv.standing (plain w.in-Some.made) some here named) (inv.names p here named none);
            indexed = λ lasts there bounded ix.
                let shape = made-transient u0 u own c.args.node keys i 0 c.loop-key-test.true inv.standing (plain w.in-Some.made) some in
                let o = w.in-Some.made.observer in
                let kept = w.get_mut-kept.result.now in
                let held_there = ap (λ qs. has_queue qs o) inv.queues ∙ shape.0 (has_queue (queues_by c.args.roster.now)) c.requires.there in
                let ps = passing_by c.loop-key.roster in
                let ps' = passing_by (slice_set c.loop-key.roster o (Some (record kept { passing = w.add.new.keys }))) in
                subst (λ some. IsIndexed v lasts ps' some there) (sym w.in_ok-mark_pending.ensures.ok)
                (indexed-transient u (plain w.in-Some.made) v w.place_past-place.result kept.passing.items w.add.new.keys.items w.in_ok-add.ensures.own lasts ps (with_last c.loop-key.fleeting.keys o) there
                (indexed-pended u lasts ps c.loop-key.fleeting.keys there o (shape.0 there bounded) (inv.indexed lasts there bounded ix)) shape.1 ps'
                (within-passing c.loop-key.roster o held_there) (sym (passing-there c.loop-key.roster o kept w.get_mut-kept.ensures.value)) (passing-set c.loop-key.roster o (record kept { passing = w.add.new.keys })) (last-there o c.loop-key.fleeting.keys)
                (λ ordered.
                let found_place = w.place_past-place.ensures.place (subst (ByOrigin u) (sym w.as_slice.ensures.value) ordered) in
                subst (λ n. IsPast u n kept.passing.items w.place_past-place.result) w.origin-origin.ensures
                (subst (λ ks. IsPast u w.origin-origin.result ks w.place_past-place.result) w.as_slice.ensures.value found_place)));
            sources = λ have. sources-added u v lists (plain w.in-Some.made) lists' a (source-made u own c.args.node (slice_index_or keys i 0) (plain w.in-Some.made) some (inv.sources have)) (inv.sources have);
            agree = λ have.
                let before = inv.agree have in
                agree-transient u v lists (plain w.in-Some.made) lists' a before (agree-made u own c.args.node (slice_index_or keys i 0) (plain w.in-Some.made) some before)
                (alone-made u lists c.args.node (slice_index_or keys i 0) (plain w.in-Some.made) inv.sound.placed some);
            lasting = lasting-same c.loop-key.roster w.in-Some.made.observer w.get_mut-kept.result.now w.get_mut-kept.ensures.value (record w.get_mut-kept.result.now { passing = w.add.new.keys }) refl ∙ inv.lasting;
            queues = queues-same c.loop-key.roster w.in-Some.made.observer w.get_mut-kept.result.now w.get_mut-kept.ensures.value (record w.get_mut-kept.result.now { passing = w.add.new.keys }) refl ∙ inv.queues;
            sound = w.state_law-in-Some.ensures;
          })
      | in_default w ↦
          let none : transient_under u own c.args.node (slice_index_or keys i 0) ≡ None = ap (λ ks. transient_under u ks c.args.node (slice_index_or keys i 0)) (sym c.keys_on-in-loop-key.ensures) ∙ sym c.in_ok-made.ensures ∙ ap (option_map plain) w.in_default.is in
          rw (w.registrations-is, w.roster-is, w.fleeting-is, w.origins-is) (record {
            noted = inv.noted;
            standing = inv.standing;
            has = turn-none u0 u lists0 lists c.args.node keys i 0 c.loop-key-test.true live inv.standing inv.has none;
            nodes = inv.nodes;
            stands = inv.stands;
            names = inv.names;
            indexed = inv.indexed;
            sources = inv.sources;
            agree = inv.agree;
            lasting = inv.lasting;
            queues = inv.queues;
            sound = inv.sound;
          })
    ]

-- what came in came in last on the node, as far as the loop went

pub returns-in_err-origins-clause-added : goal.returns-in_err-origins-clause-added
returns-in_err-origins-clause-added c =
    let here = found c.args.registrations.now (on c.args.node c.args.registrations.now.lists) in
    gets-none here here refl

pub returns-in_err-made-clause-added : goal.returns-in_err-made-clause-added
returns-in_err-made-clause-added c =
    let here = found c.args.registrations.now (on c.args.node c.args.registrations.now.lists) in
    let ss = found c.args.registrations.now (take c.loop-key.key-index c.args.standing.now) in
    gets-added c.args.node ss here (found c.loop-key.registrations (on c.args.node c.loop-key.registrations.lists)) (c.loop-key.invariant.has c.args.node)

pub returns-in_err-made-clause-elsewhere : goal.returns-in_err-made-clause-elsewhere
returns-in_err-made-clause-elsewhere c = λ n ne.
    let ss = found c.args.registrations.now (take c.loop-key.key-index c.args.standing.now) in
    elsewhere-same c.args.node n ne ss (found c.args.registrations.now (on n c.args.registrations.now.lists)) (found c.loop-key.registrations (on n c.loop-key.registrations.lists)) (c.loop-key.invariant.has n)

pub returns-in_err-note-clause-added : goal.returns-in_err-note-clause-added
returns-in_err-note-clause-added c =
    let here = found c.args.registrations.now (on c.args.node c.args.registrations.now.lists) in
    let ss = found c.args.registrations.now (take c.loop-key.key-index c.args.standing.now) in
    gets-added c.args.node ss here (found c.loop-key.registrations (on c.args.node c.loop-key.registrations.lists)) (c.loop-key.invariant.has c.args.node)

pub returns-in_err-note-clause-elsewhere : goal.returns-in_err-note-clause-elsewhere
returns-in_err-note-clause-elsewhere c = λ n ne.
    let ss = found c.args.registrations.now (take c.loop-key.key-index c.args.standing.now) in
    elsewhere-same c.args.node n ne ss (found c.args.registrations.now (on n c.args.registrations.now.lists)) (found c.loop-key.registrations (on n c.loop-key.registrations.lists)) (c.loop-key.invariant.has n)

pub returns-in_err-mark_pending-clause-added : goal.returns-in_err-mark_pending-clause-added
returns-in_err-mark_pending-clause-added c =
    let here = found c.args.registrations.now (on c.args.node c.args.registrations.now.lists) in
    let ss = found c.args.registrations.now (take c.loop-key.key-index c.args.standing.now) in
    gets-added c.args.node ss here (found c.loop-key.registrations (on c.args.node c.loop-key.registrations.lists)) (c.loop-key.invariant.has c.args.node)

pub returns-in_err-mark_pending-clause-elsewhere : goal.returns-in_err-mark_pending-clause-elsewhere
returns-in_err-mark_pending-clause-elsewhere c = λ n ne.
    let ss = found c.args.registrations.now (take c.loop-key.key-index c.args.standing.now) in
    elsewhere-same c.args.node n ne ss (found c.args.registrations.now (on n c.args.registrations.now.lists)) (found c.loop-key.registrations (on n c.loop-key.registrations.lists)) (c.loop-key.invariant.has n)

pub returns-in_err-add-clause-added : goal.returns-in_err-add-clause-added
returns-in_err-add-clause-added c =
    let here = found c.args.registrations.now (on c.args.node c.args.registrations.now.lists) in
    let ss = found c.args.registrations.now (take c.loop-key.key-index c.args.standing.now) in
    subst (λ r. GetsTransients here (found r (on c.args.node r.lists))) (sym c.in_err-add.ensures.err)
    (gets-added c.args.node ss here (found c.loop-key.registrations (on c.args.node c.loop-key.registrations.lists)) (c.loop-key.invariant.has c.args.node))

pub returns-in_err-add-clause-elsewhere : goal.returns-in_err-add-clause-elsewhere
returns-in_err-add-clause-elsewhere c = λ n ne.
    let old = found c.args.registrations.now (on n c.args.registrations.now.lists) in
    let ss = found c.args.registrations.now (take c.loop-key.key-index c.args.standing.now) in
    subst (λ r. found r (on n r.lists) ≡ old) (sym c.in_err-add.ensures.err) (elsewhere-same c.args.node n ne ss old (found c.loop-key.registrations (on n c.loop-key.registrations.lists)) (c.loop-key.invariant.has n))

pub returns-clause-added : goal.returns-clause-added
returns-clause-added c =
    let here = found c.args.registrations.now (on c.args.node c.args.registrations.now.lists) in
    let ss = found c.args.registrations.now (take c.loop-key.key-index c.args.standing.now) in
    gets-added c.args.node ss here (found c.loop-key.registrations (on c.args.node c.loop-key.registrations.lists)) (c.loop-key.invariant.has c.args.node)

pub returns-clause-elsewhere : goal.returns-clause-elsewhere
returns-clause-elsewhere c = λ n ne.
    let ss = found c.args.registrations.now (take c.loop-key.key-index c.args.standing.now) in
    elsewhere-same c.args.node n ne ss (found c.args.registrations.now (on n c.args.registrations.now.lists)) (found c.loop-key.registrations (on n c.loop-key.registrations.lists)) (c.loop-key.invariant.has n)

-- the node came last among those with registrations, or had some

pub returns-in_err-origins-clause-nodes : goal.returns-in_err-origins-clause-nodes
returns-in_err-origins-clause-nodes c = inl refl

pub returns-in_err-made-clause-nodes : goal.returns-in_err-made-clause-nodes
returns-in_err-made-clause-nodes c = c.loop-key.invariant.nodes

pub returns-in_err-note-clause-nodes : goal.returns-in_err-note-clause-nodes
returns-in_err-note-clause-nodes c = c.loop-key.invariant.nodes

pub returns-in_err-mark_pending-clause-nodes : goal.returns-in_err-mark_pending-clause-nodes
returns-in_err-mark_pending-clause-nodes c = c.loop-key.invariant.nodes

pub returns-in_err-add-clause-nodes : goal.returns-in_err-add-clause-nodes
returns-in_err-add-clause-nodes c = subst (λ r. MayComeLast c.args.node c.args.registrations.now.lists r.lists) (sym c.in_err-add.ensures.err) c.loop-key.invariant.nodes

pub returns-clause-nodes : goal.returns-clause-nodes
returns-clause-nodes c = c.loop-key.invariant.nodes
