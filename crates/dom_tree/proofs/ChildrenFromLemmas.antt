-- Going along the children of a node from slot to slot: what is left of them, and the numbers of what is left.
use Rattle.std.proofs.Common.{◌≡◌, ℕ, ◌<◌, ◌==◌, Bool, true, false, if◌then◌else◌, List, [], ◌∷◌, map, Option, Some, None, IsSome, length, refl, ap, sym, ◌∙◌, subst, arith, MatchOption}
use Rattle.std.proofs.lemmas.Bool.{false≢true}
use Rattle.std.specs.Option.{ForSome}
use denote.RawPtr.{Ptr}
use Rattle.dom_model.specs.Definitions.{hits, head_of, after, from_first, Arena, Entry, entry_at, names, parent_in, children_in, list_under, siblings_in, next_in, IsLinked, IsHeld, Node, Grove, entry_in, parent_of, children_of}
use Rattle.dom_model.specs.Forests.Arena.{IsSound}
use Rattle.dom_model.proofs.PlainLists.{Numbers.same_or, Numbers.same, Numbers.apart, FromFirst.from-last, FromFirst.from-after}
use Rattle.dom_model.proofs.Forests.{Changes.seen, Changes.nothing, Changes.just, Climbing.hits-first, PutBack.hits-head_of, PutBack.hits-after}
use Rattle.dom_links.specs.Placed.{Placed, slot_of, slots_of, IsPlaced}
use Rattle.dom_tree.specs.{ChildrenFrom.HasParent, ChildrenFrom.slots_from, ChildrenFrom.slot_numbers_from, ChildrenFrom.IsChild, Slots.Kept, Slots.nodes_alone, Slots.IsTree, SpelledForest.number_in_slot, SpelledForest.slot_in, SpelledForest.slot_for, SpelledForest.numbered, SpelledForest.shown, SpelledForest.IsKept}
use Rattle.dom_tree.proofs.{CachedIndexLemmas.children-once, TreeInvariantLemmas.entry-numbered, Nodes.children-nodes, Nodes.siblings-nodes, Nodes.sound-nodes, Nodes.held-nodes, NumberedEntryLemmas.same_test, NumberedEntryLemmas.sibling-held, NumberedEntryLemmas.siblings_in-map, SlotReadLemmas.children-read, SlotStepLemmas.slot-of_child, SlotStepLemmas.parent-there}
use Rattle.dom_links.proofs.UnlinkLemmas.{names-same, names-other}

-- a list from its head on is the whole of it
from-head : (c : ℕ) (xs : List ℕ) → head_of xs ≡ Some c → from_first c xs ≡ xs
from-head c [] e = refl
from-head c (x ∷ xs) e = elim (same_or x c) [ same _ t ↦ rw t refl | apart ne t ↦ absurd (ne (cc e)) ]

no-head : (xs : List ℕ) → head_of xs ≡ None → xs ≡ []
no-head [] e = refl
no-head (x ∷ xs) e = absurd (cc e)

from_first-map : (f : ℕ → ℕ) (s : ℕ) (l : List ℕ) → ((x : ℕ) → 0 < hits x l → (f x == f s) ≡ (x == s)) → from_first (f s) (map f l) ≡ map f (from_first s l)
from_first-map f s [] h = refl
from_first-map f s (x ∷ xs) h =
    rw (h x (hits-first x xs)) (elim (x == s) as (λ v. (if v then f x ∷ map f xs else from_first (f s) (map f xs)) ≡ map f (if v then x ∷ xs else from_first s xs)) [
      | true ↦ refl
      | false ↦ from_first-map f s xs (λ y k. h y (omega arith))
    ])

module _ {X : Type 0} (at : ℕ → Option (Entry (Kept X))) (l : IsLinked at) where
  -- who stands among the children of a slot has it as parent
  under-parent : (p c : ℕ) → 0 < hits c (children_in (at p)) → parent_in (at c) ≡ Some p
  under-parent p c h =
      elim (seen (parent_in (at c))) [
        | nothing e ↦ absurd (omega (arith, l p c, ap (λ o. names o p) e))
        | just q e ↦
            elim (same_or q p) [
              | same d t ↦ e ∙ ap Some d
              | apart ne t ↦ absurd (omega (arith, l p c, ap (λ o. names o p) e, names-other q p ne))
            ]
      ]

  -- the first child is a child, and from it on stand all
  pub first-child : (p : ℕ) → HasParent at (head_of (children_in (at p)))
  first-child p c e = rw (under-parent p c (hits-head_of (children_in (at p)) c e)) refl

  pub slots-first : (p : ℕ) → slots_from at (head_of (children_in (at p))) ≡ children_in (at p)
  slots-first p =
      elim (seen (head_of (children_in (at p)))) [
        | nothing e ↦ rw e (sym (no-head (children_in (at p)) e))
        | just c e ↦
            let d = under-parent p c (hits-head_of (children_in (at p)) c e) in
            rw (e, d) (from-head c (children_in (at p)) e)
      ]

  -- the sibling after a child is a child, and from the child on stand it and those from that sibling on
  pub next-child : (s : ℕ) → HasParent at (next_in at s)
  next-child s n e =
      elim (seen (parent_in (at s))) [
        | nothing d ↦ absurd (let k = rw d at e in let z : None ≡ Some n = k in cc z)
        | just p d ↦
            let k = rw d at e in
            rw (under-parent p n (hits-after s (children_in (at p)) n k)) refl
      ]

  pub slots-next : (s : ℕ) → IsSome (parent_in (at s)) → slots_from at (Some s) ≡ s ∷ slots_from at (next_in at s)
  slots-next s h =
      elim (seen (parent_in (at s))) [
        | nothing d ↦ absurd (let k = rw d at h in false≢true k)
        | just p d ↦
            let here : 0 < hits s (children_in (at p)) = omega (arith, l p s, ap (λ o. names o p) d, names-same p) in
            rw d (elim (seen (after s (children_in (at p)))) [
              | nothing e ↦ rw e (from-last s (children_in (at p)) here e)
              | just n e ↦
                  let q = under-parent p n (hits-after s (children_in (at p)) n e) in
                  rw (e, q) (from-after s n (children_in (at p)) (children-once at l p n) e)
            ])
      ]

entry-there : {X : Type 0} (o : Option (Entry (Kept X))) → IsSome (parent_in o) → IsSome o
entry-there None h = h
entry-there (Some e) h = refl

module _ {X : Type 0} {a : Arena (Kept X)} (l : IsSound a) (s : ℕ) (h : IsSome (parent_in (entry_at a s))) where
  -- a child's slot is held
  pub child-held : IsHeld a s
  child-held = entry-there (entry_at a s) h

  pub child-node : IsHeld (nodes_alone a) s
  child-node = held-nodes a s child-held

  -- the numbers from a child on: its own, and those from the sibling after it on
  pub numbers-next : (o : Option ℕ) (n : ℕ) → o ≡ next_in (entry_at a) s → n ≡ number_in_slot (entry_at (nodes_alone a)) s → slot_numbers_from a (Some s) ≡ n ∷ slot_numbers_from a o
  numbers-next o n e d = rw (e, d) (ap (map (number_in_slot (entry_at (nodes_alone a)))) (slots-next (entry_at a) l.linked s h))

module _ {X : Type 0} {a : Arena (Node X)} {table : List (Option ℕ)} {live : ℕ} (k : IsKept a table live) (l : IsSound a) where
  entries : entry_in (shown a table) ≡ numbered a table
  entries = λ i n. entry-numbered k n i

  -- from a number on stand the numbers of what stands from its slot on
  from-slot : (n s : ℕ) → slot_in table n ≡ Some s → from_first n (siblings_in (entry_in (shown a table)) n) ≡ map (number_in_slot (entry_at a)) (from_first s (siblings_in (entry_at a) s))
  from-slot n s e =
      let at = entry_at a in
      let d = k.tabled.named n s e in
      let m = from_first-map (number_in_slot at) s (siblings_in at s) (λ x h. same_test at (slot_in table) k.tabled x s (sibling-held at l.linked s x h) d.0) in
      let m2 = rw d.1 at m in
      ap (λ (o : ℕ → Option (Entry (Node X))). from_first n (siblings_in o n)) entries
      ∙ ap (from_first n) (siblings_in-map at (slot_in table) k.tabled l.linked n s e)
      ∙ m2

module _ {X : Type 0} {a : Arena (Kept X)} {table : List (Option ℕ)} {live : ℕ} {strays : Bool} (k : IsTree a table live strays) {w : Grove X} (v : record { forest = shown (nodes_alone a) table; made = length table } ≡ w) (l : IsSound a) where
  -- the numbers from the first child's slot on are those of all children
  pub all-numbers : (n s : ℕ) (o : Option ℕ) → slot_in table n ≡ Some s → o ≡ head_of (children_in (entry_at a s)) → slot_numbers_from a o ≡ children_of w.forest n
  all-numbers n s o i e =
      ap (slot_numbers_from a) e
      ∙ ap (map (number_in_slot (entry_at (nodes_alone a)))) (slots-first (entry_at a) l.linked s ∙ sym (children-nodes a s))
      ∙ children-read k.stored.kept v n s i

  numbers-slot : (c s p : ℕ) → slot_in table c ≡ Some s → parent_of w.forest c ≡ Some p → slot_numbers_from a (Some s) ≡ from_first c (children_of w.forest p)
  numbers-slot c s p i e =
      ap (λ (ss : List ℕ). map (number_in_slot (entry_at (nodes_alone a))) (from_first s ss)) (sym (siblings-nodes a s))
      ∙ sym (from-slot k.stored.kept (sound-nodes l) c s i)
      ∙ ap (λ (g : Grove X). from_first c (siblings_in (entry_in g.forest) c)) v
      ∙ ap (λ o. from_first c (list_under (entry_in w.forest) o)) e

  module _ (child so : Option ℕ) (p : ℕ) (i : slot_for table child ≡ so) (h : ForSome child (λ c. parent_of w.forest c ≡ Some p)) where
    -- the slot of a child is a child's
    pub given-child : HasParent (entry_at a) so
    given-child = go child i h
      where
        go : (nc : Option ℕ) → slot_for table nc ≡ so → ForSome nc (λ c. parent_of w.forest c ≡ Some p) → HasParent (entry_at a) so
        go None j u s d = absurd (let z : None ≡ Some s = j ∙ d in cc z)
        go (Some c) j u s d = parent-there k v c s (j ∙ d) (rw (u c refl) refl)

    -- the numbers from it on
    pub given-numbers : MatchOption child (slot_numbers_from a so ≡ []) (λ c. slot_numbers_from a so ≡ from_first c (children_of w.forest p))
    given-numbers = go child i h
      where
        go : (nc : Option ℕ) → slot_for table nc ≡ so → ForSome nc (λ c. parent_of w.forest c ≡ Some p) → MatchOption nc (slot_numbers_from a so ≡ []) (λ c. slot_numbers_from a so ≡ from_first c (children_of w.forest p))
        go None j u = ap (slot_numbers_from a) (sym j)
        go (Some c) j u =
            elim (seen so) [
              | nothing d ↦ absurd (let there = slot-of_child k v c (rw (u c refl) refl) in let none = rw (j, d) at there in false≢true none)
              | just s d ↦ ap (slot_numbers_from a) d ∙ numbers-slot c s p (j ∙ d) (u c refl)
            ]

module _ {X : Type 0} {s : Placed (Kept X)} (l : IsSound s.arena) (p : Ptr) (o : Option Ptr) (h : ForSome o (IsPlaced s)) where
  -- where the first child lies is a child
  pub first-placed : slots_of s o ≡ head_of (children_in (entry_at s.arena (slot_of s p))) → IsChild s o
  first-placed e = record { placed = h; child = subst (HasParent (entry_at s.arena)) (sym e) (first-child (entry_at s.arena) l.linked (slot_of s p)) }

  -- and so is where the sibling after a child does
  pub next-placed : slots_of s o ≡ next_in (entry_at s.arena) (slot_of s p) → IsChild s o
  next-placed e = record { placed = h; child = subst (HasParent (entry_at s.arena)) (sym e) (next-child (entry_at s.arena) l.linked (slot_of s p)) }
