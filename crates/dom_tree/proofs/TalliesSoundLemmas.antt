-- What is counted for Documents over each change of a tree, and what it says of the forest.
use Rattle.std.proofs.Common.{◌≡◌, ℕ, suc, ◌<◌, ◌^◌, Bool, true, false, cond, filter, List, [], ◌∷◌, length, map, Option, Some, None, option_map, IsSome, IfSome, refl, ap, sym, ◌∙◌, subst}
use Rattle.std.proofs.lemmas.Bool.{false≢true}
use Rattle.dom_model.specs.declared.Kind.{Kind}
use Rattle.dom_model.specs.Definitions.{Arena, Entry, entry_at, parent_in, children_in, with_value, linked, unlinked, altered, added, taken, next_slot, IsHeld, Node, Grove, entry_in, children_of, is_kind, entry_has, is_of_kind, count_kind}
use Rattle.dom_model.specs.Forests.Arena.{IsSound}
use Rattle.dom_model.proofs.Forests.Changes.{seen, nothing, just}
use Rattle.dom_tree.specs.{declared.tallies.Tally.Tally, SpelledForest.number_in_slot, SpelledForest.renumbered, SpelledForest.slot_in, SpelledForest.shown, Slots.Kept, Slots.node_entry, Slots.nodes_alone, Slots.IsTree, CachedIndices.numbered_cut, Tallies.tally_in, Tallies.tally_but, Tallies.has_in, Tallies.kind_tally, Tallies.tally_put, Tallies.tally_cut, Tallies.AreStarted, Tallies.AreTallied}
use Rattle.dom_tree.proofs.{TreeInvariantLemmas.entry-slot, NumberedEntryLemmas.child-held, Nodes.entry-nodes, Nodes.altered-nodes, Nodes.linked-nodes, Nodes.unlinked-nodes, Nodes.added-nodes, Nodes.taken-nodes, Nodes.parent-nodes, Nodes.children-nodes, Nodes.none-nodes, Nodes.next_slot-nodes, Nodes.sound-nodes, SlotReadLemmas.children-read, TalliesLemmas.passing-same, TalliesLemmas.tallied-altered, TalliesLemmas.tallied-linked, TalliesLemmas.tallied-unlinked, TalliesLemmas.tallied-taken, TalliesLemmas.tallied-added, SlotStepLemmas.cut-nodes}

module _ {X : Type 0} where
  -- the contents of a node written over, with its label
  pub tallied-kept : (f : Kept X → Kept X) (g : Node X → Node X) → ((q : Kept X) → (f q).node ≡ g q.node) → ((x : Node X) → (g x).label ≡ x.label) → (a : Arena (Kept X)) (n : ℕ) (table : List (ℕ × Tally)) → AreTallied (entry_at (nodes_alone a)) table → AreTallied (entry_at (nodes_alone (altered (λ (e : Entry (Kept X)). with_value (f e.value) e) a n))) table
  tallied-kept f g h hl a n table k =
      subst (λ (b : Arena (Node X)). AreTallied (entry_at b) table)
      (sym (altered-nodes (λ (e : Entry (Kept X)). with_value (f e.value) e) (λ (e : Entry (Node X)). with_value (g e.value) e) (λ e. ap (λ (x : Node X). with_value x (node_entry e)) (h e.value)) a n))
      (tallied-altered g hl (nodes_alone a) n table k)

  -- the kind of what stands in a slot
  pub kind-read : (a : Arena (Kept X)) (n : ℕ) (x y : Kept X) → y ≡ x → IsHeld a n → IfSome (entry_at a n) (λ e. x ≡ e.value) → (q : Kind) → has_in (entry_at (nodes_alone a)) n q ≡ is_kind q y.node.label.kind
  kind-read a n x y yx h i q = ap (entry_has (is_kind q)) (entry-nodes a n) ∙ go (entry_at a n) h i
    where
      go : (o : Option (Entry (Kept X))) → IsSome o → IfSome o (λ e. x ≡ e.value) → entry_has (is_kind q) (option_map node_entry o) ≡ is_kind q y.node.label.kind
      go None j z = absurd (false≢true j)
      go (Some d) j z = ap (λ (v : Kept X). is_kind q v.node.label.kind) (sym (yx ∙ z))

module _ {X : Type 0} (a : Arena (Kept X)) (table : List (ℕ × Tally)) (k : AreTallied (entry_at (nodes_alone a)) table) where
  -- a child put under a parent
  pub tallied-put : (p c : ℕ) (b : Option ℕ) → length (children_in (entry_at (linked a p c b) p)) < 2 ^ 32 → (table' : List (ℕ × Tally)) → ((q : ℕ) → tally_in table' q ≡ tally_put (entry_at (nodes_alone a)) table p c q) → (d : Arena (Kept X)) → nodes_alone d ≡ nodes_alone (linked a p c b) → AreTallied (entry_at (nodes_alone d)) table'
  tallied-put p c b few table' ht d ed =
      subst (λ (e : Arena (Node X)). AreTallied (entry_at e) table') (sym (ed ∙ linked-nodes a p c b))
      (tallied-linked (nodes_alone a) table k p c b (subst (λ (e : Arena (Node X)). length (children_in (entry_at e p)) < 2 ^ 32) (linked-nodes a p c b) (subst (λ l. length l < 2 ^ 32) (sym (children-nodes (linked a p c b) p)) few)) table' ht)

  -- a child cut from its parent
  pub tallied-cut : IsSound a → (c : ℕ) → IsSome (parent_in (entry_at a c)) → (table' : List (ℕ × Tally)) → ((q : ℕ) → tally_in table' q ≡ tally_cut (entry_at (nodes_alone a)) table c (parent_in (entry_at a c)) q) → (d : Arena (Kept X)) → d ≡ unlinked (numbered_cut a c) c → AreTallied (entry_at (nodes_alone d)) table'
  tallied-cut l c there table' ht d ed =
      elim (seen (parent_in (entry_at a c))) [
        | nothing e ↦ absurd (let t = rw e at there in cc t)
        | just p e ↦
            subst (λ (b : Arena (Node X)). AreTallied (entry_at b) table')
            (sym (ap nodes_alone ed ∙ unlinked-nodes (numbered_cut a c) c ∙ ap (λ (b : Arena (Node X)). unlinked b c) (cut-nodes a c)))
            (tallied-unlinked (nodes_alone a) table k (sound-nodes l) c p (parent-nodes a c ∙ e) table' (λ q. ht q ∙ ap (λ o. tally_cut (entry_at (nodes_alone a)) table c o q) e))
      ]

  -- a root taken out of its slot
  pub tallied-take : IsSound a → (n : ℕ) → parent_in (entry_at a n) ≡ None → (table' : List (ℕ × Tally)) → ((q : ℕ) → tally_in table' q ≡ tally_but n None table q) → (d : Arena (Kept X)) → d ≡ taken a n → AreTallied (entry_at (nodes_alone d)) table'
  tallied-take l n root table' ht d ed =
      subst (λ (b : Arena (Node X)). AreTallied (entry_at b) table') (sym (ap nodes_alone ed ∙ taken-nodes a n))
      (tallied-taken (nodes_alone a) table k (sound-nodes l) n (parent-nodes a n ∙ root) table' ht)

  -- a node in a fresh slot
  pub tallied-make : IsSound a → (v : Kept X) (s : ℕ) → entry_at a s ≡ None → s ≡ next_slot a → (table' : List (ℕ × Tally)) → AreStarted s v.node.label.kind table table' → (d : Arena (Kept X)) → d ≡ added a v → AreTallied (entry_at (nodes_alone d)) table'
  tallied-make l v s fresh es table' ht d ed =
      let here : s ≡ next_slot (nodes_alone a) = es ∙ sym (next_slot-nodes a) in
      subst (λ (b : Arena (Node X)). AreTallied (entry_at b) table') (sym (ap nodes_alone ed ∙ added-nodes a v))
      (tallied-added (nodes_alone a) table k (sound-nodes l) v.node (subst (λ n. entry_at (nodes_alone a) n ≡ None) here (none-nodes a s fresh)) table' (subst (λ n. AreStarted n v.node.label.kind table table') here ht))

passing-map : (f : ℕ → Bool) (g : ℕ → ℕ) (l : List ℕ) → length (filter f (map g l)) ≡ length (filter (λ n. f (g n)) l)
passing-map f g [] = refl
passing-map f g (n ∷ ns) = go (f (g n)) (passing-map f g ns)
  where
    go : (b : Bool) → length (filter f (map g ns)) ≡ length (filter (λ m. f (g m)) ns) → length (cond b (g n ∷ filter f (map g ns)) (filter f (map g ns))) ≡ length (cond b (n ∷ filter (λ m. f (g m)) ns) (filter (λ m. f (g m)) ns))
    go true e = ap suc e
    go false e = e

module _ {X : Type 0} {a : Arena (Kept X)} {slots : List (Option ℕ)} {live : ℕ} {strays : Bool} (k : IsTree a slots live strays) {w : Grove X} (v : record { forest = shown (nodes_alone a) slots; made = length slots } ≡ w) (l : IsSound a) where
  abbrev at : ℕ → Option (Entry (Node X))
  at = entry_at (nodes_alone a)

  kind-slot : (q : Kind) (c : ℕ) → IsSome (at c) → has_in at c q ≡ is_of_kind q w.forest (number_in_slot at c)
  kind-slot q c h =
      go (at c)
      ∙ ap (entry_has (is_kind q)) (sym (entry-slot k.stored.kept (number_in_slot at c) c (k.stored.kept.tabled.listed c h)) ∙ ap (λ (g : Grove X). entry_in g.forest (number_in_slot at c)) v)
    where
      go : (o : Option (Entry (Node X))) → entry_has (is_kind q) o ≡ entry_has (is_kind q) (option_map (renumbered at) o)
      go None = refl
      go (Some d) = refl

  -- as many by slot as by number
  pub tally-read : (n s : ℕ) → slot_in slots n ≡ Some s → (q : Kind) → kind_tally q at (children_in (at s)) ≡ count_kind q w.forest (children_of w.forest n)
  tally-read n s i q =
      passing-same (λ c. has_in at c q) (λ c. is_of_kind q w.forest (number_in_slot at c)) (children_in (at s)) (λ c hc. kind-slot q c (child-held at (sound-nodes l).linked s c hc))
      ∙ sym (passing-map (is_of_kind q w.forest) (number_in_slot at) (children_in (at s)))
      ∙ ap (count_kind q w.forest) (children-read k.stored.kept v n s i)
