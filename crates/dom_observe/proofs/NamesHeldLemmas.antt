-- What observers name stays held: after a step of theirs, and after a step of the tree that they watch.
use Rattle.std.proofs.Common.{◌≡◌, ℕ, true, false, List, [], ◌∷◌, ◌++◌, refl, ◌⊎◌, inl, inr}
use Rattle.std.specs.List.{list_any}
use Rattle.dom_model.specs.Definitions.{among, Forest, HasNode}
use Rattle.dom_model.proofs.PlainLists.{Numbers.same_or, Numbers.same, Numbers.apart, Searches.passes_not}
use Rattle.dom_observe.specs.{Watchers.Watchers, ObservedNodes.referred_nodes, ObservedNodes.NamesHeld, ObservedNodes.NamesOnly}

pub among-either : (n : ℕ) (xs ys : List ℕ) → among n (xs ++ ys) ≡ true → (among n xs ≡ true) ⊎ (among n ys ≡ true)
among-either n [] ys h = inr h
among-either n (x ∷ xs) ys h = elim (same_or x n) [ same e t ↦ inl (rw t refl) | apart ne t ↦ let k = rw t at h in rw t (among-either n xs ys k) ]

module _ {X : Type 0} (f : Forest X) where
  -- the nodes that come in are held
  pub held-after : (these : List ℕ) (old new : Watchers) → NamesOnly these old new → ((n : ℕ) → among n these ≡ true → HasNode f n) → NamesHeld f old → NamesHeld f new
  held-after these old new only here held = record {
    nodes = λ n there. go n (among-either n (referred_nodes old) these (only.nodes n there));
    observers = only.observers;
  }
    where
      go : (n : ℕ) → ((among n (referred_nodes old) ≡ true) ⊎ (among n these ≡ true)) → HasNode f n
      go n (inl before) = held.nodes n before
      go n (inr new_name) = here n new_name

  -- the tree keeps its nodes
  pub held-kept : (g : Forest X) (o : Watchers) → ((n : ℕ) → HasNode f n → HasNode g n) → NamesHeld f o → NamesHeld g o
  held-kept g o keeps held = record { nodes = λ n there. keeps n (held.nodes n there); observers = held.observers }

  -- the tree loses nodes of which none is named
  pub held-freed : (g : Forest X) (o : Watchers) (gone : List ℕ) → ((n : ℕ) → HasNode f n → among n gone ≡ false → HasNode g n) → list_any (λ m. among m gone) (referred_nodes o) ≡ false → NamesHeld f o → NamesHeld g o
  held-freed g o gone keeps none held = record { nodes = λ n there. keeps n (held.nodes n there) (passes_not (λ m. among m gone) (referred_nodes o) n none there); observers = held.observers }
