-- The Texts that follow a Text may be joined to it one after another: each leaves once the ends in it have moved.
use Rattle.std.proofs.Common.{◌≡◌, ℕ, ◌+◌, false, List, [], ◌∷◌, length, Option, Some, None, refl, ap, sym, ◌∙◌}
use Rattle.dom_model.specs.Definitions.{parent_of, Observing, World, removed_from, remove, data_of, merged_ends, merge_ends, remove_each, AreJoinable}
use Rattle.dom_model.proofs.Soundness.SoundJoining.{merged_is, in_either_order, joinable_left, left}
use Rattle.dom_data.specs.JoinedTexts.{taken_in, each_taken_in}

-- all ends moved first, or one Text after another
abbrev pub joined_at_once : ℕ → ℕ → List ℕ → World → World
joined_at_once into base ts w = remove_each ts (merge_ends into base ts w)

-- in a sound world
pub in_turn-sound : (v : World) (t p base : ℕ) (ts : List ℕ) → AreJoinable v t p base ts → joined_at_once t base ts v ≡ each_taken_in t base ts v
in_turn-sound v t p base [] j = refl
in_turn-sound v t p base (first ∷ ts) j =
    let further = base + length (data_of v first) in
    ap (λ x. remove_each ts (remove false first (merge_ends t further ts x))) (merged_is v t p base first ts j)
    ∙ ap (remove_each ts) (in_either_order v t p base first ts j)
    ∙ in_turn-sound (left v t p base first ts j) t p further ts (joinable_left v t p base first ts j)
    ∙ ap (λ x. each_taken_in t further ts (remove false first x)) (sym (merged_is v t p base first ts j))

-- Whoever watches: the other parts go as they would go if others watched.

abbrev pub watched_by : Observing → World → World
watched_by o w = record w { observing = o }

removed-watched : (n : ℕ) (a b : Observing) (w : World) → watched_by a (remove false n w) ≡ watched_by a (remove false n (watched_by b w))
removed-watched n a b w = go (parent_of w.forest n)
  where
    go : (p : Option ℕ) → watched_by a (removed_from false n p w) ≡ watched_by a (removed_from false n p (watched_by b w))
    go None = refl
    go (Some p) = refl

merged-watched : (t into base : ℕ) (a : Observing) (w : World) → merged_ends t into base (parent_of w.forest t) (watched_by a w) ≡ watched_by a (merged_ends t into base (parent_of w.forest t) w)
merged-watched t into base a w = go (parent_of w.forest t)
  where
    go : (p : Option ℕ) → merged_ends t into base p (watched_by a w) ≡ watched_by a (merged_ends t into base p w)
    go None = refl
    go (Some p) = refl

merges-watched : (into base : ℕ) (ts : List ℕ) (a : Observing) (w : World) → merge_ends into base ts (watched_by a w) ≡ watched_by a (merge_ends into base ts w)
merges-watched into base [] a w = refl
merges-watched into base (t ∷ ts) a w =
    let further = base + length (data_of w t) in
    ap (merge_ends into further ts) (merged-watched t into base a w)
    ∙ merges-watched into further ts a (merged_ends t into base (parent_of w.forest t) w)

removes-watched : (ns : List ℕ) (a b : Observing) (w : World) → watched_by a (remove_each ns w) ≡ watched_by a (remove_each ns (watched_by b w))
removes-watched [] a b w = refl
removes-watched (n ∷ ns) a b w =
    removes-watched ns a a (remove false n w)
    ∙ ap (λ x. watched_by a (remove_each ns x)) (removed-watched n a b w)
    ∙ sym (removes-watched ns a a (remove false n (watched_by b w)))

taken-watched : (into base t : ℕ) (a b : Observing) (w : World) → watched_by a (taken_in into base t w) ≡ watched_by a (taken_in into base t (watched_by b w))
taken-watched into base t a b w =
    removed-watched t a b (merged_ends t into base (parent_of w.forest t) w)
    ∙ ap (λ x. watched_by a (remove false t x)) (sym (merged-watched t into base b w))

each-watched : (into base : ℕ) (ts : List ℕ) (a b : Observing) (w : World) → watched_by a (each_taken_in into base ts w) ≡ watched_by a (each_taken_in into base ts (watched_by b w))
each-watched into base [] a b w = refl
each-watched into base (t ∷ ts) a b w =
    let further = base + length (data_of w t) in
    each-watched into further ts a a (taken_in into base t w)
    ∙ ap (λ x. watched_by a (each_taken_in into further ts x)) (taken-watched into base t a b w)
    ∙ sym (each-watched into further ts a a (taken_in into base t (watched_by b w)))

at_once-watched : (into base : ℕ) (ts : List ℕ) (a b : Observing) (w : World) → watched_by a (joined_at_once into base ts w) ≡ watched_by a (joined_at_once into base ts (watched_by b w))
at_once-watched into base ts a b w =
    removes-watched ts a b (merge_ends into base ts w)
    ∙ ap (λ x. watched_by a (remove_each ts x)) (sym (merges-watched into base ts b w))

-- Wherever ends stand: the other parts go as they would go without ranges.

abbrev pub without_ranges : World → World
without_ranges w = record w { ranges = [] }

removed-bare : (n : ℕ) (w : World) → without_ranges (remove false n w) ≡ without_ranges (remove false n (without_ranges w))
removed-bare n w = go (parent_of w.forest n)
  where
    go : (p : Option ℕ) → without_ranges (removed_from false n p w) ≡ without_ranges (removed_from false n p (without_ranges w))
    go None = refl
    go (Some p) = refl

merged-bare : (t into base : ℕ) (w : World) → without_ranges (merged_ends t into base (parent_of w.forest t) w) ≡ without_ranges w
merged-bare t into base w = go (parent_of w.forest t)
  where
    go : (p : Option ℕ) → without_ranges (merged_ends t into base p w) ≡ without_ranges w
    go None = refl
    go (Some p) = refl

pub merges-bare : (into base : ℕ) (ts : List ℕ) (w : World) → without_ranges (merge_ends into base ts w) ≡ without_ranges w
merges-bare into base [] w = refl
merges-bare into base (t ∷ ts) w =
    merges-bare into (base + length (data_of w t)) ts (merged_ends t into base (parent_of w.forest t) w)
    ∙ merged-bare t into base w

removes-bare : (ns : List ℕ) (w : World) → without_ranges (remove_each ns w) ≡ without_ranges (remove_each ns (without_ranges w))
removes-bare [] w = refl
removes-bare (n ∷ ns) w =
    removes-bare ns (remove false n w)
    ∙ ap (λ x. without_ranges (remove_each ns x)) (removed-bare n w)
    ∙ sym (removes-bare ns (remove false n (without_ranges w)))

taken-bare : (into base t : ℕ) (w : World) → without_ranges (taken_in into base t w) ≡ without_ranges (remove false t w)
taken-bare into base t w =
    removed-bare t (merged_ends t into base (parent_of w.forest t) w)
    ∙ ap (λ x. without_ranges (remove false t x)) (merged-bare t into base w)
    ∙ sym (removed-bare t w)

each-bare : (into base : ℕ) (ts : List ℕ) (w : World) → without_ranges (each_taken_in into base ts w) ≡ without_ranges (remove_each ts w)
each-bare into base [] w = refl
each-bare into base (t ∷ ts) w =
    each-bare into (base + length (data_of w t)) ts (taken_in into base t w)
    ∙ removes-bare ts (taken_in into base t w)
    ∙ ap (λ x. without_ranges (remove_each ts x)) (taken-bare into base t w)
    ∙ sym (removes-bare ts (remove false t w))

at_once-bare : (into base : ℕ) (ts : List ℕ) (w : World) → without_ranges (joined_at_once into base ts w) ≡ without_ranges (remove_each ts w)
at_once-bare into base ts w =
    removes-bare ts (merge_ends into base ts w)
    ∙ ap (λ x. without_ranges (remove_each ts x)) (merges-bare into base ts w)
    ∙ sym (removes-bare ts w)

-- two worlds with the same ranges, and the same parts but those
same_world : (a b : World) → without_ranges a ≡ without_ranges b → a.ranges ≡ b.ranges → a ≡ b
same_world a b e r = λ i. record (e i) { ranges = r i }

-- whoever watches, where the world is sound in all parts but the observing one
pub in_turn : (w v : World) (t p base : ℕ) (ts : List ℕ) → watched_by v.observing w ≡ v → AreJoinable v t p base ts → joined_at_once t base ts w ≡ each_taken_in t base ts w
in_turn w v t p base ts e j =
    let o = v.observing in
    let unlike =
    at_once-watched t base ts o o w
    ∙ ap (λ x. watched_by o (joined_at_once t base ts x)) e
    ∙ ap (watched_by o) (in_turn-sound v t p base ts j)
    ∙ ap (λ x. watched_by o (each_taken_in t base ts x)) (sym e)
    ∙ sym (each-watched t base ts o o w) in
    same_world (joined_at_once t base ts w) (each_taken_in t base ts w)
    (at_once-bare t base ts w ∙ sym (each-bare t base ts w))
    (ap (λ (x : World). x.ranges) unlike)
