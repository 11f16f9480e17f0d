-- A walk from place to place: what each step says of the numbers of the nodes that lie there.
use Rattle.std.proofs.Common.{◌≡◌, ◌==◌, ℕ, Bool, List, length, Option, Some, None, IsSome, is_some, refl, ap, sym, ◌∙◌, subst}
use denote.RawPtr.{Ptr}
use Rattle.dom_model.specs.Definitions.{head_of, last_of, entry_at, parent_in, children_in, list_under, siblings_in, next_in, previous_in, Grove, entry_in, HasNode, parent_of, children_of, next_of, previous_of}
use Rattle.dom_model.specs.Forests.Arena.{IsSound}
use Rattle.dom_links.specs.Placed.{Placed, slot_of, IsPlaced}
use Rattle.dom_tree.specs.{Places.called, Places.Leads, SpelledForest.slot_in, SpelledForest.shown, Slots.Kept, Slots.nodes_alone, Slots.IsTree}
use Rattle.dom_tree.proofs.{Nodes.held-nodes, NumberedEntryLemmas.one_slot, NumberedEntryLemmas.same_test, SlotStepLemmas.parent-read, SlotStepLemmas.parent-there, SlotStepLemmas.parent-same, SlotStepLemmas.count-read, SlotStepLemmas.first-read, SlotStepLemmas.last-read, SlotStepLemmas.next-read, SlotStepLemmas.previous-read, SlotStepLemmas.holds-read}

module _ {X : Type 0} {s : Placed (Kept X)} where
  -- a link that is another leads where that does
  pub led : {r r' : Option Ptr} {to : Option ℕ} → r ≡ r' → Leads s r to → Leads s r' to
  led {r} {r'} {to} e l = subst (λ o. Leads s o to) e l

  -- it leads somewhere where there is somewhere to go
  pub led-there : (r : Option Ptr) (to : Option ℕ) → Leads s r to → IsSome to → IsSome r
  led-there None to l h = subst IsSome (sym l.slot) h
  led-there (Some p) to l h = refl

module _ {X : Type 0} {s : Placed (Kept X)} {table : List (Option ℕ)} {live : ℕ} {strays : Bool} (k : IsTree s.arena table live strays) {w : Grove X} (v : record { forest = shown (nodes_alone s.arena) table; made = length table } ≡ w) where
  -- the node at the place of a number has that number
  pub begins : (n : ℕ) (p : Ptr) → Leads s (Some p) (slot_in table n) → IsPlaced s p × (called s p ≡ n)
  begins n p e = (e.placed p refl, (k.stored.kept.tabled.named n (slot_of s p) (sym e.slot)).1)

  pub listed : (p : Ptr) → IsPlaced s p → slot_in table (called s p) ≡ Some (slot_of s p)
  listed p h = k.stored.kept.tabled.listed (slot_of s p) (held-nodes s.arena (slot_of s p) h.held)

  pub stands : (p : Ptr) → IsPlaced s p → HasNode w.forest (called s p)
  stands p h = sym (holds-read k v (called s p)) ∙ ap is_some (listed p h)

  -- two places of one number have one slot
  pub one : (p q : Ptr) → IsPlaced s p → IsPlaced s q → called s p ≡ called s q → slot_of s p ≡ slot_of s q
  one p q hp hq e =
      one_slot (entry_at (nodes_alone s.arena)) (slot_in table) k.stored.kept.tabled (slot_of s p) (slot_of s q) (held-nodes s.arena (slot_of s p) hp.held) (held-nodes s.arena (slot_of s q) hq.held) e

  -- a place's slot is that of a number's place, or is not, as the node there has the number
  pub meets : (p : Ptr) (n : ℕ) (q : Ptr) (a b : ℕ) → IsPlaced s p → Leads s (Some q) (slot_in table n) → a ≡ slot_of s p → b ≡ slot_of s q → (called s p == n) ≡ (a == b)
  meets p n q a b h e ea eb =
      let i = begins n q e in
      ap (λ m. called s p == m) (sym i.1)
      ∙ same_test (entry_at (nodes_alone s.arena)) (slot_in table) k.stored.kept.tabled (slot_of s p) (slot_of s q) (held-nodes s.arena (slot_of s p) h.held) (held-nodes s.arena (slot_of s q) i.0.held)
      ∙ ap (λ m. m == slot_of s q) (sym ea)
      ∙ ap (λ m. a == m) (sym eb)

  -- a step leads to a place of the store's, where the forest says so by number
  module _ (l : IsSound s.arena) (p : Ptr) (h : IsPlaced s p) where
    pub up : (q : Ptr) → Leads s (Some q) (parent_in (entry_at s.arena (slot_of s p))) → IsPlaced s q × (parent_of w.forest (called s p) ≡ Some (called s q))
    up q e = (e.placed q refl, sym (parent-read k v (called s p) (slot_of s p) (Some (slot_of s q)) (Some (called s q)) (listed p h) e.slot refl))

    -- a parent by number is one by slot
    pub under : (q : Ptr) → IsPlaced s q → parent_of w.forest (called s p) ≡ Some (called s q) → parent_in (entry_at s.arena (slot_of s p)) ≡ Some (slot_of s q)
    under q hq e =
        parent-same k v l (Some (called s p)) (called s q) (slot_of s q) (Some (slot_of s p)) (listed q hq) (listed p h)
        (λ b d. let i : called s p ≡ b = cc d in subst (λ m. parent_of w.forest m ≡ Some (called s q)) i e)
        (slot_of s p) refl

    -- as many children of the parent as there are siblings
    pub beside : (q : Ptr) (r : ℕ) → Leads s (Some q) (parent_in (entry_at s.arena (slot_of s p))) → r ≡ length (children_in (entry_at s.arena (slot_of s q))) → r ≡ length (siblings_in (entry_in w.forest) (called s p))
    beside q r e i =
        let u = up q e in
        count-read k v (called s q) (slot_of s q) r (listed q u.0) i ∙ ap (λ o. length (list_under (entry_in w.forest) o)) (sym u.1)

    pub parented : (r : Option Ptr) → Leads s r (parent_in (entry_at s.arena (slot_of s p))) → IsSome (parent_of w.forest (called s p)) → IsSome r
    parented r e i = led-there r (parent_in (entry_at s.arena (slot_of s p))) e (parent-there k v (called s p) (slot_of s p) (listed p h) i)

    pub topmost : Leads s None (parent_in (entry_at s.arena (slot_of s p))) → parent_of w.forest (called s p) ≡ None
    topmost e = sym (parent-read k v (called s p) (slot_of s p) None None (listed p h) e.slot refl)

    pub down : (q : Ptr) → Leads s (Some q) (head_of (children_in (entry_at s.arena (slot_of s p)))) → IsPlaced s q × (head_of (children_of w.forest (called s p)) ≡ Some (called s q))
    down q e = (e.placed q refl, sym (first-read k v (called s p) (slot_of s p) (Some (slot_of s q)) (Some (called s q)) (listed p h) e.slot refl))

    pub childless : Leads s None (head_of (children_in (entry_at s.arena (slot_of s p)))) → head_of (children_of w.forest (called s p)) ≡ None
    childless e = sym (first-read k v (called s p) (slot_of s p) None None (listed p h) e.slot refl)

    pub down_last : (q : Ptr) → Leads s (Some q) (last_of (children_in (entry_at s.arena (slot_of s p)))) → IsPlaced s q × (last_of (children_of w.forest (called s p)) ≡ Some (called s q))
    down_last q e = (e.placed q refl, sym (last-read k v (called s p) (slot_of s p) (Some (slot_of s q)) (Some (called s q)) (listed p h) e.slot refl))

    pub leaf : Leads s None (last_of (children_in (entry_at s.arena (slot_of s p)))) → last_of (children_of w.forest (called s p)) ≡ None
    leaf e = sym (last-read k v (called s p) (slot_of s p) None None (listed p h) e.slot refl)

    pub on : (q : Ptr) → Leads s (Some q) (next_in (entry_at s.arena) (slot_of s p)) → IsPlaced s q × (next_of w.forest (called s p) ≡ Some (called s q))
    on q e = (e.placed q refl, sym (next-read k v l (called s p) (slot_of s p) (Some (slot_of s q)) (Some (called s q)) (listed p h) e.slot refl))

    pub hindmost : Leads s None (next_in (entry_at s.arena) (slot_of s p)) → next_of w.forest (called s p) ≡ None
    hindmost e = sym (next-read k v l (called s p) (slot_of s p) None None (listed p h) e.slot refl)

    pub back : (q : Ptr) → Leads s (Some q) (previous_in (entry_at s.arena) (slot_of s p)) → IsPlaced s q × (previous_of w.forest (called s p) ≡ Some (called s q))
    back q e = (e.placed q refl, sym (previous-read k v l (called s p) (slot_of s p) (Some (slot_of s q)) (Some (called s q)) (listed p h) e.slot refl))

    pub foremost : Leads s None (previous_in (entry_at s.arena) (slot_of s p)) → previous_of w.forest (called s p) ≡ None
    foremost e = sym (previous-read k v l (called s p) (slot_of s p) None None (listed p h) e.slot refl)

  -- who has the same parent by number has it by slot
  pub under_one : IsSound s.arena → (a b : ℕ) (p q r : Ptr) → Leads s (Some p) (slot_in table a) → Leads s (Some q) (slot_in table b) → parent_of w.forest a ≡ parent_of w.forest b → Leads s (Some r) (parent_in (entry_at s.arena (slot_of s p))) → parent_in (entry_at s.arena (slot_of s q)) ≡ Some (slot_of s r)
  under_one l a b p q r ea eb e er =
      let i = begins a p ea in
      let j = begins b q eb in
      let u = up l p i.0 r er in
      under l q j.0 r u.0 (ap (parent_of w.forest) j.1 ∙ sym e ∙ sym (ap (parent_of w.forest) i.1) ∙ u.1)
