-- Nodes that are there before a step and after it, as the record of the step names them.
use Rattle.std.specs.Option.{ForSome}
use Rattle.std.proofs.Common.{◌≡◌, ℕ, ◌<◌, Bool, true, false, if◌then◌else◌, List, [], ◌∷◌, Option, Some, None, refl, ap, sym, ◌∙◌, subst, arith}
use Rattle.std.proofs.lemmas.Bool.{cond-false}
use Rattle.dom_model.specs.declared.Kind.TheVariants.{DocumentFragment}
use Rattle.dom_model.specs.Definitions.{is_number, Forest, Grove, HasNode, occurs, children_of, previous_of, next_of, cut, adopted, Content, is_of_kind, previous_to, IsChildOf, ArePlaceable}
use Rattle.dom_model.proofs.PlainLists.{Numbers.same_or, Numbers.same, Numbers.apart, Members.hits-last_of}
use Rattle.dom_model.proofs.Forests.{Entries.HasNode-occurs, Entries.occurs-HasNode, Indices.child-there, Siblings.index-step}
use Rattle.dom_model.proofs.Soundness.SoundWorlds.{child_there}
use Rattle.dom_tree.proofs.SiblingLemmas.{forward-step}
use Rattle.dom_edit.specs.{declared.world.World.World, Whole.IsWhole, Insertion.reference_in, Insertion.AreThere, KeptNodes.present, KeptNodes.KeepsWatchers, KeptNodes.KeepsLabels, KeptNodes.KeepsNodes}
use Rattle.dom_ranges.specs.Tables.{RangeTable}
use Rattle.dom_observe.specs.ObservedNodes.{SameObservers}
use Rattle.dom_edit.proofs.{KeepsWatchersLemmas.watchers-then, KeepsWatchersLemmas.watchers-none, KeepsWatchersLemmas.watchers-observed, KeepsWatchersLemmas.watchers-ranged, KeepsLabelsLemmas.told_of, KeepsLabelsLemmas.kept-told, KeepsLabelsLemmas.told-cut, KeepsLabelsLemmas.told-adopted, InsertLemmas.entering, InsertLemmas.entering_if_any, InsertLemmas.entering-there}

-- Steps that keep all nodes.

pub labels-then : (a b c : World) → KeepsLabels a b → KeepsLabels b c → KeepsLabels a c
labels-then a b c f s = record {
  held = λ n h. s.held n (f.held n h);
  labels = λ n h. s.labels n (f.held n h) ∙ f.labels n h;
  attributes = λ n h. s.attributes n (f.held n h) ∙ f.attributes n h;
  statics = s.statics ∙ f.statics;
  walkers = s.walkers ∙ f.walkers;
  watchers = watchers-then a b c f.watchers s.watchers;
}

pub nodes-then : (a b c : World) → KeepsNodes a b → KeepsNodes b c → KeepsNodes a c
nodes-then a b c f s = record {
  labelled = labels-then a b c f.labelled s.labelled;
  contents = λ n h. s.contents n (f.labelled.held n h) ∙ f.contents n h;
  made = s.made ∙ f.made;
}

pub nodes-same : (a b : World) → b.tree ≡ a.tree → b.statics ≡ a.statics → b.walkers ≡ a.walkers → KeepsWatchers a b → KeepsNodes a b
nodes-same a b e = kept-told a b (λ n. ap (λ (t : Grove Content). told_of t.forest n) e) (ap (λ (t : Grove Content). t.made) e)

-- nothing has changed
pub nodes-none : (a : World) → KeepsNodes a a
nodes-none a = nodes-same a a refl refl refl (watchers-none a)

-- ends of live ranges stand elsewhere
pub nodes-ranged : (a : World) (table : RangeTable) → present table.ranges ≡ present a.ranges.ranges → KeepsNodes a (record a { ranges = table })
nodes-ranged a table e = nodes-same a (record a { ranges = table }) refl refl refl (watchers-ranged a (record a { ranges = table }) e refl refl)

pub nodes-observed : (a b : World) → b ≡ record a { observers = b.observers } → SameObservers a.observers b.observers → KeepsNodes a b
nodes-observed a b e observers =
    nodes-same a b (ap (λ (v : World). v.tree) e) (ap (λ (v : World). v.statics) e) (ap (λ (v : World). v.walkers) e) (watchers-observed a b e observers)

-- a tree whose node was cut
pub nodes-cut : (a b : World) (n : ℕ) → IsWhole a → b.tree ≡ record a.tree { forest = cut n a.tree.forest } → b.statics ≡ a.statics → b.walkers ≡ a.walkers → KeepsWatchers a b → KeepsNodes a b
nodes-cut a b n h e =
    kept-told a b (λ m. ap (λ (t : Grove Content). told_of t.forest m) e ∙ told-cut a.tree.forest h.forest.once n m) (ap (λ (t : Grove Content). t.made) e)

-- a tree in which nodes got another document
pub nodes-adopted : (a b : World) (n d : ℕ) → b.tree ≡ record { forest = adopted n d a.tree.forest; made = a.tree.made } → b.statics ≡ a.statics → b.walkers ≡ a.walkers → KeepsWatchers a b → KeepsNodes a b
nodes-adopted a b n d e =
    kept-told a b (λ m. ap (λ (t : Grove Content). told_of t.forest m) e ∙ told-adopted n d a.tree.forest m) (ap (λ (t : Grove Content). t.made) e)

pub stay-there : (a b : World) → KeepsNodes a b → (ns : List ℕ) → AreThere a.tree.forest ns → AreThere b.tree.forest ns
stay-there a b k ns h m i = occurs-HasNode b.tree.forest m (k.labelled.held m (HasNode-occurs a.tree.forest m (h m i)))

pub stay-some : (a b : World) → KeepsNodes a b → (o : Option ℕ) → ForSome o (λ n. HasNode a.tree.forest n) → ForSome o (λ n. HasNode b.tree.forest n)
stay-some a b k o h n e = k.labelled.held n (h n e)

-- Nodes that are there.

pub none-there : (f : Forest Content) → AreThere f []
none-there f m i = absurd (omega arith)

pub one-there : (f : Forest Content) (n : ℕ) → HasNode f n → AreThere f (n ∷ [])
one-there f n h m i =
    elim (same_or n m) [
      | same e t ↦ subst (λ k. 0 < occurs k f) e (occurs-HasNode f n h)
      | apart ne t ↦ absurd (let k = rw t at i in omega arith)
    ]

pub placeable-there : (f : Forest Content) (parent : ℕ) (ns : List ℕ) → ArePlaceable f parent ns → AreThere f ns
placeable-there f parent [] k m i = absurd (omega arith)
placeable-there f parent (n ∷ ns) k m i =
    elim (same_or n m) [
      | same e t ↦ subst (λ q. 0 < occurs q f) e k.0.there
      | apart ne t ↦ placeable-there f parent ns k.2 m (let j = rw t at i in omega arith)
    ]

module _ (v : World) (h : IsWhole v) where
  pub previous-held : (n : ℕ) → HasNode v.tree.forest n → (o : Option ℕ) → o ≡ previous_of v.tree.forest n → ForSome o (λ m. HasNode v.tree.forest m)
  previous-held n held o e m i = (index-step {g = v.tree} h.forest n m held (sym e ∙ i)).1.1

  pub next-held : (n : ℕ) → HasNode v.tree.forest n → (o : Option ℕ) → o ≡ next_of v.tree.forest n → ForSome o (λ m. HasNode v.tree.forest m)
  next-held n held o e m i = (forward-step {g = v.tree} h.forest n m held (sym e ∙ i)).1.1

  pub child-held : (parent : ℕ) (child : Option ℕ) → IsChildOf v.tree.forest parent child → ForSome child (λ m. HasNode v.tree.forest m)
  child-held parent None k m i = absurd (cc i)
  child-held parent (Some c) k m i =
      let d : c ≡ m = cc i in
      subst (λ q. HasNode v.tree.forest q) d (HasNode-occurs v.tree.forest c (child_there v.tree.forest c parent k))

  -- what stands ahead of a place
  pub ahead-held : (parent : ℕ) (child : Option ℕ) → IsChildOf v.tree.forest parent child → (o : Option ℕ) → o ≡ previous_to v.tree.forest parent child → ForSome o (λ m. HasNode v.tree.forest m)
  ahead-held parent None k o e m i =
      HasNode-occurs v.tree.forest m (child-there v.tree.forest h.forest.once m parent (hits-last_of (children_of v.tree.forest parent) m (sym e ∙ i)))
  ahead-held parent (Some c) k o e m i =
      previous-held c (HasNode-occurs v.tree.forest c (child_there v.tree.forest c parent k)) o e m i

  -- what comes in with a node
  pub entering-held : (n : ℕ) → HasNode v.tree.forest n → (ns : List ℕ) → ns ≡ entering v.tree.forest n → AreThere v.tree.forest ns
  entering-held n held ns e = go (is_of_kind DocumentFragment v.tree.forest n) refl
    where
      go : (t : Bool) → is_of_kind DocumentFragment v.tree.forest n ≡ t → AreThere v.tree.forest ns
      go true k = entering-there v n h k ns e
      go false k = subst (AreThere v.tree.forest) (sym (e ∙ cond-false (is_of_kind DocumentFragment v.tree.forest n) (children_of v.tree.forest n) (n ∷ []) k)) (one-there v.tree.forest n held)

  pub entering_if_any-held : (node : Option ℕ) → ForSome node (λ n. HasNode v.tree.forest n) → (ns : List ℕ) → ns ≡ entering_if_any v.tree.forest node → AreThere v.tree.forest ns
  entering_if_any-held None held ns e = subst (AreThere v.tree.forest) (sym e) (none-there v.tree.forest)
  entering_if_any-held (Some n) held ns e = entering-held n (held n refl) ns e

  -- what a node comes in before
  pub reference-held : (n : ℕ) (child o : Option ℕ) → HasNode v.tree.forest n → ForSome child (λ m. HasNode v.tree.forest m) → o ≡ reference_in v.tree.forest n child → ForSome o (λ m. HasNode v.tree.forest m)
  reference-held n child o held given e = go (is_number child n) (e ∙ refl)
    where
      go : (t : Bool) → o ≡ (if t then next_of v.tree.forest n else child) → ForSome o (λ m. HasNode v.tree.forest m)
      go true d = next-held n held o d
      go false d = λ m i. given m (sym d ∙ i)
