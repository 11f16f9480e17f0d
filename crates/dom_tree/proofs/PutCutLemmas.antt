-- A child put or cut by place, with its block.
use Rattle.std.proofs.Common.{◌≡◌, ℕ, ◌<◌, ◌^◌, Bool, false, List, length, Option, Some, None, IsSome, ap, sym, ◌∙◌, subst}
use Rattle.std.specs.Option.{ForSome}
use denote.RawPtr.{Ptr}
use Rattle.dom_model.specs.Definitions.{among, Arena, entry_at, parent_in, children_in, linked, unlinked, Node, Grove, HasNode, parent_of, ancestors, put}
use Rattle.dom_model.specs.Forests.Arena.{IsSound}
use Rattle.dom_model.proofs.Forests.Changes.{seen, nothing, just}
use Rattle.dom_links.specs.Placed.{Placed, index_of, slot_of, slots_of, children_at, linked_at}
use Rattle.dom_tree.specs.{PutConditions.MayStand, SpelledForest.slot_in, SpelledForest.slot_for, SpelledForest.shown, Slots.Kept, Slots.nodes_alone, Slots.IsCounted, Slots.IsTree, CachedIndices.numbered_put, CachedIndices.numbered_cut, Blocks.raised, Blocks.counts_in, Blocks.counts_but, Blocks.block_put, Blocks.blocked_put, Blocks.lowered_at, Blocks.AreBlocked, Blocks.IsRenumbered, declared.tallies.Tally.Tally, Tallies.tally_in, Tallies.tally_put, Tallies.AreTallied, Places.slots_in, Places.with_arena, Places.Leads, Places.IsSeated, PutRoot.IsPutAt}
use Rattle.dom_tree.proofs.{BlocksKept.blocked-put_none, BlocksKept.renumbered-put, BlocksKept.blocked-cut, OwnedTrees.put-tree, OwnedTrees.numbered-tree, PlaceTableLemmas.slot-led, PlaceTableLemmas.put-at, PlaceTableLemmas.seated, PlaceTableLemmas.same-places, TalliesSoundLemmas.tallied-put, SlotStepLemmas.Stays, SlotStepLemmas.put-nodes, SlotStepLemmas.held-slot, SlotStepLemmas.parents-held, SlotStepLemmas.parent-none, SlotStepLemmas.parent-same, SlotStepLemmas.put-done, SlotStepLemmas.changed-shown, SlotStepLemmas.numbered-shown}

module _ {X : Type 0} {s : Placed (Kept X)} {table : List (Option Ptr)} {live : ℕ} {strays : Bool} {blocks : List (ℕ × List ℕ)} {tallies : List (ℕ × Tally)} (k : IsSeated s table live strays blocks tallies) {w : Grove X} (v : record { forest = shown (nodes_alone s.arena) (slots_in s table); made = length (slots_in s table) } ≡ w) (l : IsSound s.arena) where
  module _ (np nc : ℕ) (nb : Option ℕ) {above below : Ptr} {next : Option Ptr} (la : Leads s (Some above) (slot_in (slots_in s table) np)) (lb : Leads s (Some below) (slot_in (slots_in s table) nc)) (ln : Leads s next (slot_for (slots_in s table) nb)) (hp : HasNode w.forest np) (hc : HasNode w.forest nc) (root : parent_of w.forest nc ≡ None) (cy : among nc (ancestors np w.forest) ≡ false) (under : ForSome nb (λ b. parent_of w.forest b ≡ Some np)) (may : MayStand w.forest np nc) (d : Placed (Kept X)) (ed : d.arena ≡ linked_at s above below next) (pd : d.places ≡ s.places) (e : Placed (Kept X)) (ee : e ≡ with_arena (numbered_put d.arena (slot_of d above) (slot_of d below) (slots_of d next)) d) where
    at : (e.arena ≡ numbered_put d.arena (slot_of s above) (slot_of s below) (slots_of s next)) × (e.places ≡ s.places)
    at = put-at s d pd e above below next ee

    done : Stays e.arena (slots_in s table) live (put np nc nb (shown (nodes_alone s.arena) (slots_in s table)))
    done = put-done k.tree v l np (slot_of s above) nc (slot_of s below) nb (slots_of s next) (slot-led la) (slot-led lb) (sym ln.slot) root cy under may d.arena e.arena ed at.0

    tree_e : IsTree e.arena (slots_in s table) live strays
    tree_e = put-tree k.tree v np (slot_of s above) nc (slot_of s below) nb (slots_of s next) hp hc root cy d.arena e.arena ed at.0 done

    arena_e : e.arena ≡ numbered_put (linked s.arena (slot_of s above) (slot_of s below) (slots_of s next)) (slot_of s above) (slot_of s below) (slots_of s next)
    arena_e = at.0 ∙ ap (λ (b : Arena (Kept X)). numbered_put b (slot_of s above) (slot_of s below) (slots_of s next)) ed

    shown_e : ◌≡◌ {A = Grove X} (record { forest = shown (nodes_alone e.arena) (slots_in s table); made = length (slots_in s table) }) (record { forest = put np nc nb w.forest; made = w.made })
    shown_e = changed-shown k.tree v e.arena (put np nc nb) done.same

    -- the counts are as they are to be for the new child
    module _ (few : length (children_at d above) < 2 ^ 32) (tallies' : List (ℕ × Tally)) (ht : (p : ℕ) → tally_in tallies' p ≡ tally_put (entry_at (nodes_alone s.arena)) tallies (slot_of s above) (slot_of s below) p) where
      few_s : length (children_in (entry_at (linked s.arena (slot_of s above) (slot_of s below) (slots_of s next)) (slot_of s above))) < 2 ^ 32
      few_s = subst (λ (a : Arena (Kept X)). length (children_in (entry_at a (slot_of s above))) < 2 ^ 32) ed (subst (λ ps. length (children_in (entry_at d.arena (index_of ps above))) < 2 ^ 32) pd few)

      tallied_e : AreTallied (entry_at (nodes_alone e.arena)) tallies'
      tallied_e =
          tallied-put s.arena tallies k.tallied (slot_of s above) (slot_of s below) (slots_of s next) few_s tallies' ht e.arena
          (ap nodes_alone arena_e ∙ put-nodes (linked s.arena (slot_of s above) (slot_of s below) (slots_of s next)) (slot_of s above) (slot_of s below) (slots_of s next))

    -- its siblings stand in no blocks
    pub put-seated : (few : length (children_at d above) < 2 ^ 32) (tallies' : List (ℕ × Tally)) → ((p : ℕ) → tally_in tallies' p ≡ tally_put (entry_at (nodes_alone s.arena)) tallies (slot_of s above) (slot_of s below) p) → block_put (entry_at s.arena) (slot_of s above) (slots_of s next) ≡ None → IsSeated e table live strays blocks tallies'
    put-seated few tallies' ht h =
        seated k e at.1 tree_e (subst (λ (a : Arena (Kept X)). AreBlocked (entry_at a) blocks) (sym arena_e)
        (blocked-put_none l blocks k.blocked (slot_of s above) (slot_of s below) (slots_of s next) (held-slot k.tree v np (slot_of s above) (slot-led la)) (held-slot k.tree v nc (slot_of s below) (slot-led lb)) (parent-none k.tree v nc (slot_of s below) (slot-led lb) root)
        (parent-same k.tree v l nb np (slot_of s above) (slots_of s next) (slot-led la) (sym ln.slot) under) h))
        (tallied_e few tallies' ht)

    pub put-shown : ◌≡◌ {A = Grove X} (record { forest = shown (nodes_alone e.arena) (slots_in e table); made = length (slots_in e table) }) (record { forest = put np nc nb w.forest; made = w.made })
    put-shown = same-places s e table at.1 shown_e

    -- they do
    module _ (block : ℕ) (eb : block_put (entry_at s.arena) (slot_of s above) (slots_of s next) ≡ Some block) (few : length (children_at d above) < 2 ^ 32) (f : Placed (Kept X)) (ef : f ≡ with_arena (blocked_put e.arena (slot_of e above) (slot_of e below) block) e) (tallies' : List (ℕ × Tally)) (ht : (p : ℕ) → tally_in tallies' p ≡ tally_put (entry_at (nodes_alone s.arena)) tallies (slot_of s above) (slot_of s below) p) (blocks' : List (ℕ × List ℕ)) (hb : (p : ℕ) → counts_in blocks' p ≡ counts_but (slot_of e above) (raised (counts_in blocks (slot_of e above)) block) blocks p) where
      places_f : f.places ≡ s.places
      places_f = ap (λ (q : Placed (Kept X)). q.places) ef ∙ at.1

      arena_f : f.arena ≡ blocked_put e.arena (slot_of s above) (slot_of s below) block
      arena_f = ap (λ (q : Placed (Kept X)). q.arena) ef ∙ ap (λ ps. blocked_put e.arena (index_of ps above) (index_of ps below) block) at.1

      renumbered_f : IsRenumbered e.arena f.arena blocks'
      renumbered_f =
          subst (λ (a : Arena (Kept X)). IsRenumbered e.arena a blocks') (sym arena_f)
          (subst (λ (a : Arena (Kept X)). IsRenumbered a (blocked_put a (slot_of s above) (slot_of s below) block) blocks') (sym arena_e)
          (renumbered-put l blocks k.blocked (slot_of s above) (slot_of s below) (slots_of s next) (held-slot k.tree v np (slot_of s above) (slot-led la)) (held-slot k.tree v nc (slot_of s below) (slot-led lb)) (parent-none k.tree v nc (slot_of s below) (slot-led lb) root)
          (parent-same k.tree v l nb np (slot_of s above) (slots_of s next) (slot-led la) (sym ln.slot) under) block eb (few_s few tallies' ht)
          (subst (λ (a : Arena (Kept X)). IsCounted (entry_at a)) arena_e done.kept.counted) blocks'
          (subst (λ ps. (p : ℕ) → counts_in blocks' p ≡ counts_but (index_of ps above) (raised (counts_in blocks (index_of ps above)) block) blocks p) at.1 hb)))

      pub put-seated_into : IsSeated f table live strays blocks' tallies'
      put-seated_into =
          seated k f places_f (numbered-tree tree_e f.arena blocks' renumbered_f) renumbered_f.blocked
          (subst (λ (a : Arena (Node X)). AreTallied (entry_at a) tallies') (sym renumbered_f.nodes) (tallied_e few tallies' ht))

      pub put-shown_into : ◌≡◌ {A = Grove X} (record { forest = shown (nodes_alone f.arena) (slots_in f table); made = length (slots_in f table) }) (record { forest = put np nc nb w.forest; made = w.made })
      put-shown_into = same-places s f table places_f (numbered-shown tree_e shown_e f.arena blocks' renumbered_f)

  -- a root that was put by places, as one step
  module _ (np nc : ℕ) (nb : Option ℕ) {above below : Ptr} {next : Option Ptr} (la : Leads s (Some above) (slot_in (slots_in s table) np)) (lb : Leads s (Some below) (slot_in (slots_in s table) nc)) (ln : Leads s next (slot_for (slots_in s table) nb)) (hp : HasNode w.forest np) (hc : HasNode w.forest nc) (root : parent_of w.forest nc ≡ None) (cy : among nc (ancestors np w.forest) ≡ false) (under : ForSome nb (λ b. parent_of w.forest b ≡ Some np)) (may : MayStand w.forest np nc) {new : Placed (Kept X)} {blocks' : List (ℕ × List ℕ)} {tallies' : List (ℕ × Tally)} (p : IsPutAt s new blocks blocks' tallies tallies' above below next) where
    pub put_at-seated : IsSeated new table live strays blocks' tallies'
    put_at-seated =
        elim (seen (block_put (entry_at s.arena) (slot_of s above) (slots_of s next))) [
          | nothing e ↦
              let b = rw e at p.blocked in
              subst (λ (n : Placed (Kept X)). IsSeated n table live strays blocks' tallies') (sym b.0)
              (subst (λ bs. IsSeated p.numbered table live strays bs tallies') (sym b.1)
              (put-seated np nc nb la lb ln hp hc root cy under may p.linked p.is_linked p.same_places p.numbered p.is_numbered p.few tallies' p.tallied e))
          | just block e ↦
              let b = rw e at p.blocked in
              put-seated_into np nc nb la lb ln hp hc root cy under may p.linked p.is_linked p.same_places p.numbered p.is_numbered block e p.few new b.0 tallies' p.tallied blocks' b.1
        ]

    pub put_at-shown : ◌≡◌ {A = Grove X} (record { forest = shown (nodes_alone new.arena) (slots_in new table); made = length (slots_in new table) }) (record { forest = put np nc nb w.forest; made = w.made })
    put_at-shown =
        elim (seen (block_put (entry_at s.arena) (slot_of s above) (slots_of s next))) [
          | nothing e ↦
              let b = rw e at p.blocked in
              subst (λ (n : Placed (Kept X)). ◌≡◌ {A = Grove X} (record { forest = shown (nodes_alone n.arena) (slots_in n table); made = length (slots_in n table) }) (record { forest = put np nc nb w.forest; made = w.made })) (sym b.0)
              (put-shown np nc nb la lb ln hp hc root cy under may p.linked p.is_linked p.same_places p.numbered p.is_numbered)
          | just block e ↦
              let b = rw e at p.blocked in
              put-shown_into np nc nb la lb ln hp hc root cy under may p.linked p.is_linked p.same_places p.numbered p.is_numbered block e p.few new b.0 tallies' p.tallied blocks' b.1
        ]

  -- the blocks once a child was cut
  pub cut-blocked : (slot : ℕ) → IsSome (parent_in (entry_at s.arena slot)) → (blocks' : List (ℕ × List ℕ)) → ((p : ℕ) → counts_in blocks' p ≡ lowered_at (entry_at s.arena) blocks slot (parent_in (entry_at s.arena slot)) p) → AreBlocked (entry_at (unlinked (numbered_cut s.arena slot) slot)) blocks'
  cut-blocked slot there blocks' h =
      elim (seen (parent_in (entry_at s.arena slot))) [
        | nothing e ↦ absurd (let t = rw e at there in cc t)
        | just p e ↦
            blocked-cut l blocks k.blocked slot p e (parents-held k.tree v l slot p e) blocks'
            (λ q. h q ∙ ap (λ o. lowered_at (entry_at s.arena) blocks slot o q) e)
      ]
