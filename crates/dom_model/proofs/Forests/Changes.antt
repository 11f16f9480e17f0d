-- The entries after a change: a node cut from its parent, put under one, or given other contents.
use Rattle.std.proofs.Common.{◌≡◌, ℕ, ◌==◌, if◌then◌else◌, Option, Some, None, option_map, refl}
use Rattle.dom_model.specs.Definitions.{entered, left_out, Entry, held, Node}

-- what an option is
pub data Seen {A : Type 0} (o : Option A) : Type 0 where
  nothing : o ≡ None → Seen o
  just : (a : A) → o ≡ Some a → Seen o

pub seen : {A : Type 0} (o : Option A) → Seen o
seen None = nothing refl
seen (Some a) = just a refl

module _ {T : Type 0} where
  -- c leaves every list, and has no parent
  abbrev pub cut_at : ℕ → ℕ → Option (Entry T) → Option (Entry T)
  cut_at c n o =
      option_map (λ (e : Entry T). record { value = e.value; parent = if n == c then None else e.parent; children = left_out c e.children }) o

  -- c stands under p, before b or last
  abbrev pub link_at : ℕ → Option ℕ → ℕ → ℕ → Option (Entry T) → Option (Entry T)
  link_at p b c n o =
      option_map (λ (e : Entry T). record { value = e.value; parent = if n == c then Some p else e.parent; children = if n == p then entered b c e.children else e.children }) o

  pub held-cut_at : (c n : ℕ) (o : Option (Entry T)) → held (cut_at c n o) ≡ held o
  held-cut_at c n None = refl
  held-cut_at c n (Some e) = refl

  pub held-link_at : (p : ℕ) (b : Option ℕ) (c n : ℕ) (o : Option (Entry T)) → held (link_at p b c n o) ≡ held o
  held-link_at p b c n None = refl
  held-link_at p b c n (Some e) = refl

module _ {X : Type 0} where
  -- the node of n changed
  abbrev pub change_at : (Node X → Node X) → ℕ → ℕ → Option (Entry (Node X)) → Option (Entry (Node X))
  change_at h c n o =
      option_map (λ (e : Entry (Node X)). record { value = if n == c then h e.value else e.value; parent = e.parent; children = e.children }) o

  pub held-change_at : (h : Node X → Node X) (c n : ℕ) (o : Option (Entry (Node X))) → held (change_at h c n o) ≡ held o
  held-change_at h c n None = refl
  held-change_at h c n (Some e) = refl
