-- What is read by slot is what the forest says by number, where a tree's value is the forest that it shows.
use Rattle.std.proofs.Common.{◌≡◌, ℕ, ◌<◌, true, false, List, length, map, Option, Some, None, option_map, IsSome, is_some, IfSome, refl, ap, sym, ◌∙◌, subst, arith, ⊎_elim}
use Rattle.std.proofs.lemmas.List.{length-map}
use Rattle.std.specs.Option.{ForSome}
use Rattle.dom_model.specs.Definitions.{hits, among, head_of, last_of, Arena, Entry, entry_at, parent_in, children_in, siblings_in, next_in, previous_in, linked, unlinked, altered, with_value, StandsUnder, IsHeld, Node, Forest, Grove, size, entry_in, HasNode, parent_of, children_of, next_of, previous_of, ancestors, cut, put, with_node, IsForest}
use Rattle.dom_model.specs.Forests.Arena.{IsSound}
use Rattle.dom_tree.specs.{PutConditions.MayStand, SpelledForest.number_in_slot, SpelledForest.renumbered, SpelledForest.entry_in_slot, SpelledForest.slot_in, SpelledForest.slot_for, SpelledForest.numbered, SpelledForest.shown, SpelledForest.IsKept}
use Rattle.dom_model.proofs.Forests.{Changes.seen, Changes.nothing, Changes.just, Climbing.not_among-hits, PutBack.hits-head_of, PutBack.hits-after}
use Rattle.dom_tree.proofs.{MakeLemmas.write-kept, MakeLemmas.alter-kept, TreeInvariantLemmas.Keeps, TreeInvariantLemmas.cut-kept, TreeInvariantLemmas.put-kept, TreeInvariantLemmas.stands-among, TreeInvariantLemmas.entry-numbered, TreeInvariantLemmas.entry-slot, TreeInvariantLemmas.parent-slot, TreeInvariantLemmas.children-slot, TreeInvariantLemmas.next-slot, TreeInvariantLemmas.previous-slot, TreeInvariantLemmas.slot-node, TreeInvariantLemmas.slot-parent, TreeInvariantLemmas.option_map-none, TreeInvariantLemmas.option_map-some, NumberedEntryLemmas.child-held, NumberedEntryLemmas.parent-held, NumberedEntryLemmas.sibling-held, NumberedEntryLemmas.one_slot, SpellsLemmas.IsForest-Spells}
use Rattle.dom_model.proofs.PlainLists.{Members.hits-before, Members.hits-last_of, Mapped.last_of-map, Mapped.head_of-map}

-- what a reading of the links names is held
module _ {X : Type 0} {a : Arena (Node X)} (l : IsSound a) where
  pub parent-named : (s : ℕ) (o : Option ℕ) → o ≡ parent_in (entry_at a s) → (x : ℕ) → o ≡ Some x → IsHeld a x
  parent-named s o e x h = parent-held (entry_at a) l.linked s x (sym e ∙ h)

  pub first-named : (s : ℕ) (o : Option ℕ) → o ≡ head_of (children_in (entry_at a s)) → (x : ℕ) → o ≡ Some x → IsHeld a x
  first-named s o e x h = child-held (entry_at a) l.linked s x (hits-head_of (children_in (entry_at a s)) x (sym e ∙ h))

  pub last-named : (s : ℕ) (o : Option ℕ) → o ≡ last_of (children_in (entry_at a s)) → (x : ℕ) → o ≡ Some x → IsHeld a x
  last-named s o e x h = child-held (entry_at a) l.linked s x (hits-last_of (children_in (entry_at a s)) x (sym e ∙ h))

  pub next-named : (s : ℕ) (o : Option ℕ) → o ≡ next_in (entry_at a) s → (x : ℕ) → o ≡ Some x → IsHeld a x
  next-named s o e x h = sibling-held (entry_at a) l.linked s x (hits-after s (siblings_in (entry_at a) s) x (sym e ∙ h))

  pub previous-named : (s : ℕ) (o : Option ℕ) → o ≡ previous_in (entry_at a) s → (x : ℕ) → o ≡ Some x → IsHeld a x
  previous-named s o e x h =
      ⊎_elim
      (λ (z : None ≡ Some x). absurd (cc z))
      (λ (lt : 0 < hits x (siblings_in (entry_at a) s)). sibling-held (entry_at a) l.linked s x lt)
      (hits-before None s (siblings_in (entry_at a) s) x (sym e ∙ h))

module _ {X : Type 0} {a : Arena (Node X)} {table : List (Option ℕ)} {live : ℕ} (k : IsKept a table live) {w : Grove X} (v : record { forest = shown a table; made = length table } ≡ w) where
  pub slot-held : (n : ℕ) → HasNode w.forest n → IsSome (slot_in table n)
  slot-held n h = slot-node k n (subst (λ (g : Grove X). HasNode g.forest n) (sym v) h)

  pub slot-of_child : (n : ℕ) → IsSome (parent_of w.forest n) → IsSome (slot_in table n)
  slot-of_child n h = slot-parent k n (subst (λ (g : Grove X). IsSome (parent_of g.forest n)) (sym v) h)

  pub value-read : {B : Type 0} (p : Node X → B) (n s : ℕ) → slot_in table n ≡ Some s → (x y : Node X) → y ≡ x → IfSome (entry_at a s) (λ e. x ≡ e.value) → IfSome (entry_in w.forest n) (λ e. p y ≡ p e.value)
  value-read p n s i x y yx h =
      subst (λ (o : Option (Entry (Node X))). IfSome o (λ e. p y ≡ p e.value)) (sym (entry-slot k n s i) ∙ ap (λ (g : Grove X). entry_in g.forest n) v) (go (entry_at a s) h)
    where
      go : (o : Option (Entry (Node X))) → IfSome o (λ e. x ≡ e.value) → IfSome (option_map (renumbered (entry_at a)) o) (λ e. p y ≡ p e.value)
      go None z = tt
      go (Some e) z = ap p (yx ∙ z)

  pub parent-read : (n s : ℕ) (o r : Option ℕ) → slot_in table n ≡ Some s → o ≡ parent_in (entry_at a s) → r ≡ option_map (number_in_slot (entry_at a)) o → r ≡ parent_of w.forest n
  parent-read n s o r i h j =
      j ∙ ap (option_map (number_in_slot (entry_at a))) h ∙ sym (parent-slot k n s i) ∙ ap (λ (g : Grove X). parent_of g.forest n) v

  pub children-read : (n s : ℕ) → slot_in table n ≡ Some s → map (number_in_slot (entry_at a)) (children_in (entry_at a s)) ≡ children_of w.forest n
  children-read n s i = sym (children-slot k n s i) ∙ ap (λ (g : Grove X). children_of g.forest n) v

  pub first-read : (n s : ℕ) (o r : Option ℕ) → slot_in table n ≡ Some s → o ≡ head_of (children_in (entry_at a s)) → r ≡ option_map (number_in_slot (entry_at a)) o → r ≡ head_of (children_of w.forest n)
  first-read n s o r i h j =
      j ∙ ap (option_map (number_in_slot (entry_at a))) h ∙ sym (head_of-map (number_in_slot (entry_at a)) (children_in (entry_at a s))) ∙ ap head_of (children-read n s i)

  pub last-read : (n s : ℕ) (o r : Option ℕ) → slot_in table n ≡ Some s → o ≡ last_of (children_in (entry_at a s)) → r ≡ option_map (number_in_slot (entry_at a)) o → r ≡ last_of (children_of w.forest n)
  last-read n s o r i h j =
      j ∙ ap (option_map (number_in_slot (entry_at a))) h ∙ sym (last_of-map (number_in_slot (entry_at a)) (children_in (entry_at a s))) ∙ ap last_of (children-read n s i)

  pub count-read : (n s : ℕ) (r : ℕ) → slot_in table n ≡ Some s → r ≡ length (children_in (entry_at a s)) → r ≡ length (children_of w.forest n)
  count-read n s r i h =
      h ∙ sym (length-map (children_in (entry_at a s)) (number_in_slot (entry_at a))) ∙ ap length (children-read n s i)

  pub next-read : IsSound a → (n s : ℕ) (o r : Option ℕ) → slot_in table n ≡ Some s → o ≡ next_in (entry_at a) s → r ≡ option_map (number_in_slot (entry_at a)) o → r ≡ next_of w.forest n
  next-read l n s o r i h j =
      j ∙ ap (option_map (number_in_slot (entry_at a))) h ∙ sym (next-slot k l n s i) ∙ ap (λ (g : Grove X). next_of g.forest n) v

  pub previous-read : IsSound a → (n s : ℕ) (o r : Option ℕ) → slot_in table n ≡ Some s → o ≡ previous_in (entry_at a) s → r ≡ option_map (number_in_slot (entry_at a)) o → r ≡ previous_of w.forest n
  previous-read l n s o r i h j =
      j ∙ ap (option_map (number_in_slot (entry_at a))) h ∙ sym (previous-slot k l n s i) ∙ ap (λ (g : Grove X). previous_of g.forest n) v

  pub holds-read : (n : ℕ) → is_some (slot_in table n) ≡ is_some (entry_in w.forest n)
  holds-read n =
      sym (ap is_some (entry-numbered k n) ∙ there (slot_in table n) (λ s e. (k.tabled.named n s e).0)) ∙ ap (λ (g : Grove X). is_some (entry_in g.forest n)) v
    where
      there : (o : Option ℕ) → ((s : ℕ) → o ≡ Some s → IsSome (entry_at a s)) → is_some (entry_in_slot (entry_at a) o) ≡ is_some o
      there None h = refl
      there (Some s) h = mapped (entry_at a s) (h s refl)
        where
          mapped : (o : Option (Entry (Node X))) → IsSome o → is_some (option_map (renumbered (entry_at a)) o) ≡ true
          mapped None i = i
          mapped (Some e) i = refl

  pub forest-read : IsForest w
  forest-read = subst (λ (g : Grove X). IsForest g) v (IsForest-Spells (length table) (numbered a table) (shown a table) k.spelled k.kinds)

  pub live-read : live ≡ size w.forest
  live-read = k.alive ∙ ap (λ (g : Grove X). size g.forest) v

  -- the value after a change of the forest alone
  pub changed-shown : (a' : Arena (Node X)) (change : Forest X → Forest X) → shown a' table ≡ change (shown a table) → ◌≡◌ {A = Grove X} (record { forest = shown a' table; made = length table }) (record { forest = change w.forest; made = w.made })
  changed-shown a' change h =
      λ i. record { forest = forest i; made = made i }
    where
      forest : shown a' table ≡ change w.forest
      forest = h ∙ ap (λ (g : Grove X). change g.forest) v

      made : length table ≡ w.made
      made = ap (λ (g : Grove X). g.made) v

  pub keeps-shown : {a' : Arena (Node X)} (change : Forest X → Forest X) → Keeps a' table live (change (shown a table)) → ◌≡◌ {A = Grove X} (record { forest = shown a' table; made = length table }) (record { forest = change w.forest; made = w.made })
  keeps-shown {a'} change h = changed-shown a' change h.same

  pub parent-there : (n s : ℕ) → slot_in table n ≡ Some s → IsSome (parent_of w.forest n) → IsSome (parent_in (entry_at a s))
  parent-there n s i h =
      let j : IsSome (parent_of (shown a table) n) = subst (λ (g : Grove X). IsSome (parent_of g.forest n)) (sym v) h in
      let d = parent-slot k n s i in
      option_map-some (number_in_slot (entry_at a)) (parent_in (entry_at a s)) (let j2 = rw d at j in j2)

  pub parent-none : (n s : ℕ) → slot_in table n ≡ Some s → parent_of w.forest n ≡ None → parent_in (entry_at a s) ≡ None
  parent-none n s i h =
      option_map-none (number_in_slot (entry_at a)) (parent_in (entry_at a s)) (sym (parent-slot k n s i) ∙ ap (λ (g : Grove X). parent_of g.forest n) v ∙ h)

  -- the slot before which a child goes stands under the parent's slot
  pub parent-same : IsSound a → (nb : Option ℕ) (np sp : ℕ) (sb : Option ℕ) → slot_in table np ≡ Some sp → slot_for table nb ≡ sb → ForSome nb (λ b. parent_of w.forest b ≡ Some np) → (x : ℕ) → sb ≡ Some x → parent_in (entry_at a x) ≡ Some sp
  parent-same l None np sp sb ep eb h x d = absurd (let z : None ≡ Some x = eb ∙ d in cc z)
  parent-same l (Some n) np sp sb ep eb h x d =
      let i : slot_in table n ≡ Some x = eb ∙ d in
      let j : option_map (number_in_slot (entry_at a)) (parent_in (entry_at a x)) ≡ Some np = sym (parent-slot k n x i) ∙ ap (λ (g : Grove X). parent_of g.forest n) v ∙ h n refl in
      elim (seen (parent_in (entry_at a x))) [
        | nothing z ↦ absurd (let j2 = rw z at j in cc j2)
        | just q z ↦
            let j2 = rw z at j in
            let m : number_in_slot (entry_at a) q ≡ np = cc j2 in
            let hq = parent-held (entry_at a) l.linked x q z in
            let hp = k.tabled.named np sp ep in
            z ∙ ap Some (one_slot (entry_at a) (slot_in table) k.tabled q sp hq hp.0 (m ∙ sym hp.1))
      ]

  pub slots-held : (nb : Option ℕ) (p : ℕ) → ForSome nb (λ b. parent_of w.forest b ≡ Some p) → (n : ℕ) → nb ≡ Some n → IsSome (slot_in table n)
  slots-held nb p h n d = slot-of_child n (rw (h n d) refl)

  pub no_cycle-slots : IsSound a → (np sp nc sc : ℕ) → slot_in table np ≡ Some sp → slot_in table nc ≡ Some sc → among nc (ancestors np w.forest) ≡ false → StandsUnder (entry_at a) sc sp → ⊥
  no_cycle-slots l np sp nc sc ep ec h st =
      let m = stands-among k l sc sp st np nc ep ec in
      let z : hits nc (ancestors np (shown a table)) ≡ 0 = not_among-hits nc (ancestors np (shown a table)) (ap (λ (g : Grove X). among nc (ancestors np g.forest)) v ∙ h) in
      omega arith

  pub cut-done : IsSound a → (n s : ℕ) → slot_in table n ≡ Some s → IsSome (parent_of w.forest n) → (a' : Arena (Node X)) → a' ≡ unlinked a s → Keeps a' table live (cut n (shown a table))
  cut-done l n s i h a' ea = rw ea (cut-kept k l n s i (parent-there n s i h))

  pub put-done : IsSound a → (np sp nc sc : ℕ) (nb sb : Option ℕ) → slot_in table np ≡ Some sp → slot_in table nc ≡ Some sc → slot_for table nb ≡ sb → parent_of w.forest nc ≡ None → among nc (ancestors np w.forest) ≡ false → ForSome nb (λ b. parent_of w.forest b ≡ Some np) → MayStand w.forest np nc → (a' : Arena (Node X)) → a' ≡ linked a sp sc sb → Keeps a' table live (put np nc nb (shown a table))
  put-done l np sp nc sc nb sb ep ec eb root cy under may a' ea =
      rw ea (put-kept k l np sp nc sc nb sb ep ec eb
      (λ n d. slots-held nb np under n d)
      (parent-none nc sc ec root)
      (ap (λ (g : Grove X). among nc (ancestors np g.forest)) v ∙ cy)
      (subst (λ (g : Grove X). MayStand g.forest np nc) (sym v) may))

  -- a node written to its slot, with the number and the label that stood there
  pub write-done : (n s : ℕ) → slot_in table n ≡ Some s → (x y z : Node X) (h : Node X → Node X) → ((q : Node X) → (h q).number ≡ q.number) → ((q : Node X) → (h q).label ≡ q.label) → y ≡ x → z ≡ h y → IfSome (entry_at a s) (λ e. x ≡ e.value) → Keeps (altered (with_value z) a s) table live (with_node n h (shown a table))
  write-done n s i x y z h hn hl yx zh j =
      write-kept k n s h hn hl z i (go (entry_at a s) j)
    where
      go : (o : Option (Entry (Node X))) → IfSome o (λ e. x ≡ e.value) → IfSome o (λ e. z ≡ h e.value)
      go None q = tt
      go (Some d) q = zh ∙ ap h (yx ∙ q)

  pub alter-done : (n s : ℕ) → slot_in table n ≡ Some s → (h : Node X → Node X) → ((q : Node X) → (h q).number ≡ q.number) → ((q : Node X) → (h q).label ≡ q.label) → Keeps (altered (λ (e : Entry (Node X)). with_value (h e.value) e) a s) table live (with_node n h (shown a table))
  alter-done n s i h hn hl = alter-kept k n s h hn hl i

  pub part-read : {B : Type 0} (p : Node X → B) (n s : ℕ) → slot_in table n ≡ Some s → (b : B) → IfSome (entry_at a s) (λ e. b ≡ p e.value) → IfSome (entry_in w.forest n) (λ e. b ≡ p e.value)
  part-read p n s i b h =
      subst (λ (o : Option (Entry (Node X))). IfSome o (λ e. b ≡ p e.value)) (sym (entry-slot k n s i) ∙ ap (λ (g : Grove X). entry_in g.forest n) v) (go (entry_at a s) h)
    where
      go : (o : Option (Entry (Node X))) → IfSome o (λ e. b ≡ p e.value) → IfSome (option_map (renumbered (entry_at a)) o) (λ e. b ≡ p e.value)
      go None z = tt
      go (Some e) z = z
