-- A number that stands nowhere in a forest comes into none as trees are cut, put, changed or taken away; and a live range, an iterator, a walker
-- or an observer that is moved or set stays there, as a released one stays released.
use Rattle.std.proofs.Common.{◌≡◌, ℕ, ◌<◌, true, false, List, [], ◌∷◌, ◌++◌, length, map, Option, Some, None, is_none, option_map, slice_index_or, slice_set, refl, ap, ◌∙◌, arith}
use Rattle.std.proofs.Math.ListN.{get_or-map}
use Rattle.std.proofs.lemmas.{Bool.false≢true, List.length-set, List.get_or-set_same, List.get_or-set_other, List.get_or_past, List.get_or_append_left}
use Rattle.dom_model.specs.Definitions.{Forest, occurs, one_at, beside, tree_at, without, cut, put, adopted, in_document, Content, Point, Range, moved_range, map_ranges, among, moved_to}
use Rattle.dom_model.proofs.Forests.Totals.{total-beside, total-tree_at, total-placed_under, total-cut}
use Rattle.dom_model.proofs.MutationObservers.Queues.{among-later}
use Rattle.dom_model.proofs.Worlds.SameShape.{IsAlike, occurs-alike, with_tree-alike}
use Rattle.dom_model.proofs.PlainLists.Heads.{among-first}

-- the second forest has no number that the first has not
abbrev pub NoneComes : Forest Content → Forest Content → Type 0
NoneComes f g = (n : ℕ) → occurs n f ≡ 0 → occurs n g ≡ 0

pub none-alike : {f g : Forest Content} → IsAlike f g → NoneComes f g
none-alike a n e = occurs-alike a n ∙ e

pub none-cut : (c : ℕ) (f : Forest Content) → NoneComes f (cut c f)
none-cut c f n e = total-cut (one_at n) c f ∙ e

pub none-without : (c : ℕ) (f : Forest Content) → NoneComes f (without c f)
none-without c f n e = let t = total-tree_at (one_at n) c f in omega arith

none-put : (parent c : ℕ) (before : Option ℕ) (f : Forest Content) → NoneComes f (put parent c before f)
none-put parent c before f n e =
    let t = total-tree_at (one_at n) c f in
    let tree : occurs n (tree_at c f) ≡ 0 = omega arith in
    let others : occurs n (without c f) ≡ 0 = omega arith in
    total-placed_under (one_at n) parent before (tree_at c f) (without c f) ∙ (rw (tree, others) (omega arith))

pub none-adopted : (top document : ℕ) (f : Forest Content) → NoneComes f (adopted top document f)
none-adopted top document f = none-alike (with_tree-alike (in_document document) (λ x. refl) top f)

pub none-placed : (parent c document : ℕ) (before : Option ℕ) (f : Forest Content) → NoneComes f (adopted c document (put parent c before f))
none-placed parent c document before f n e = none-adopted c document (put parent c before f) n (none-put parent c before f n e)

-- trees of later numbers come beside
pub none-beside : (made : ℕ) (f g : Forest Content) → ((n : ℕ) → n < made → occurs n g ≡ 0) → (n : ℕ) → n < made → occurs n f ≡ 0 → occurs n (beside f g) ≡ 0
none-beside made f g later n l e = let t = total-beside (one_at n) f g in let z = later n l in omega arith

-- Live ranges, iterators, walkers, observers and static ranges: those that were released are None.

-- the same numbers are those of what is there
abbrev pub AreLiveAlike : {A : Type 0} → List (Option A) → List (Option A) → Type 0
AreLiveAlike rs ss = (r : ℕ) → is_none (slice_index_or ss r None) ≡ is_none (slice_index_or rs r None)

-- a number is that of something that is there
abbrev pub IsLiveAt : {A : Type 0} → List (Option A) → ℕ → Type 0
IsLiveAt rs r = is_none (slice_index_or rs r None) ≡ false

-- of the numbers given out, those of what was released stay so
abbrev pub StaysReleased : {A : Type 0} → List (Option A) → List (Option A) → Type 0
StaysReleased rs ss = (r : ℕ) → r < length rs → slice_index_or rs r None ≡ None → slice_index_or ss r None ≡ None

pub none-of : {A : Type 0} (o : Option A) → is_none o ≡ true → o ≡ None
none-of None h = refl
none-of (Some a) h = absurd (false≢true h)

pub live-of : {A : Type 0} (o : Option A) (a : A) → o ≡ Some a → is_none o ≡ false
live-of o a e = rw e refl

pub live-mapped : {A : Type 0} (change : A → A) (rs : List (Option A)) → AreLiveAlike rs (map (λ (o : Option A). option_map change o) rs)
live-mapped {A} change rs r = grind (arith, get_or-map (λ (o : Option A). option_map change o) rs r None)

pub live-map : (move : Point → Point) (rs : List (Option Range)) → AreLiveAlike rs (map_ranges move rs)
live-map move rs = live-mapped (moved_range move) rs

pub given : {A : Type 0} (rs : List (Option A)) (r : ℕ) → IsLiveAt rs r → r < length rs
given rs r live = grind (arith, get_or_past rs r None)

pub live-set : {A : Type 0} (rs : List (Option A)) (r : ℕ) (a : A) → IsLiveAt rs r → AreLiveAlike rs (slice_set rs r (Some a))
live-set rs r a live q = grind (arith, get_or-set_same rs r (Some a) None (given rs r live), get_or-set_other rs r q (Some a) None)

-- places of some that are there are moved
pub live-moved : (place : ℕ) (os : List ℕ) (places : List (Option ℕ)) → ((o : ℕ) → among o os ≡ true → IsLiveAt places o) → AreLiveAlike places (moved_to place os places)
live-moved place [] places h r = refl
live-moved place (o ∷ os) places h r =
    live-moved place os (slice_set places o (Some place)) (λ q k. live-set places o place (h o (among-first o os)) q ∙ h q (among-later q o os k)) r
    ∙ live-set places o place (h o (among-first o os)) r

pub alike-released : {A : Type 0} (rs ss : List (Option A)) → AreLiveAlike rs ss → StaysReleased rs ss
alike-released {A} rs ss alike r l e = none-of (slice_index_or ss r None) (alike r ∙ ap (λ (o : Option A). is_none o) e)

-- one more is made
pub pushed-released : {A : Type 0} (rs more : List (Option A)) → StaysReleased rs (rs ++ more)
pushed-released rs more r l e = get_or_append_left rs more None r l ∙ e

-- one is released, and every other one that was stays so
pub none-set : {A : Type 0} (rs : List (Option A)) (r q : ℕ) → slice_index_or rs q None ≡ None → slice_index_or (slice_set rs r None) q None ≡ None
none-set rs r q h = grind (arith, get_or-set_same rs r None None, get_or-set_other rs r q None None, get_or_past (slice_set rs r None) q None, length-set rs r None)
