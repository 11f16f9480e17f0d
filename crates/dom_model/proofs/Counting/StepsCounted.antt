-- A step that is refused leaves the world; any other takes no more numbers than are asked for, and where they are left, and brings none back.
use Rattle.std.proofs.Common.{◌≡◌, ℕ, ◌+◌, ◌<◌, ◌≤◌, nat_lt, Bool, true, false, List, [], ◌∷◌, Option, Some, None, refl, sym, ◌∙◌, arith, rules, Ok, Err}
use Rattle.std.proofs.lemmas.{Bool.false≢true, Bool.cond_both, Bool.Decides.nat_tests}
use Rattle.dom_model.specs.Definitions.{occurs, Point, Range, World, Answer, Reply, Done, is_refusal, Counts, counts_of, no_numbers, node_numbers, plus, of_each, AreAtMost, Bounds, Step, guarded, checked, Outcome, on_range, at_point, at_ends, done_or_refused, with_object}
use Rattle.dom_model.specs.declared.DomError.{DomError}
use Rattle.dom_model.proofs.Counting.{NumbersGone.StaysReleased, NumbersGone.alike-released, CountsKept.IsGrown, CountsOfExtraction.IsGrownTo}

-- the numbers asked for are left, where no more than the limit were given out before
abbrev pub HasRoom : Bounds → Counts → World → Type 0
HasRoom b asked w = AreAtMost (counts_of w) (of_each b.numbers) → AreAtMost (plus (counts_of w) asked) (of_each b.numbers)

-- of the numbers given out, a node that is gone stays so, and so does what was released
pub record StaysGone (w v : World) : Type 0 where
  pub nodes : (n : ℕ) → n < w.made → occurs n w.forest ≡ 0 → occurs n v.forest ≡ 0
  pub ranges : StaysReleased w.ranges v.ranges
  pub iterators : StaysReleased w.iterators v.iterators
  pub walkers : StaysReleased w.walkers v.walkers
  pub observers : StaysReleased w.observing.places v.observing.places
  pub static_ranges : StaysReleased w.static_ranges v.static_ranges

pub data IsCounted (b : Bounds) (asked : Counts) (needs : Type 0) (w : World) (s : Step) : Type 0 where
  leaves : s.world ≡ w → IsCounted b asked needs w s
  takes : is_refusal s.reply ≡ false → HasRoom b asked w → AreAtMost (counts_of w) (counts_of s.world) → (needs → AreAtMost (counts_of s.world) (plus (counts_of w) asked)) → StaysGone w s.world → IsCounted b asked needs w s

pub counted-leaves : {b : Bounds} {asked : Counts} {needs : Type 0} {w : World} {s : Step} → IsCounted b asked needs w s → is_refusal s.reply ≡ true → s.world ≡ w
counted-leaves (leaves e) h = e
counted-leaves (takes n room more most gone) h = absurd (false≢true (sym n ∙ h))

pub at_most-then : {x y z : Counts} → AreAtMost x y → AreAtMost y z → AreAtMost x z
at_most-then g h = search rules

-- the counts never fall
pub counted-never_fall : {b : Bounds} {asked : Counts} {needs : Type 0} {w : World} {s : Step} → IsCounted b asked needs w s → AreAtMost (counts_of w) (counts_of s.world)
counted-never_fall {b} {asked} {needs} {w} {s} (leaves e) = rw e (search rules)
counted-never_fall (takes n room more most gone) = more

-- what is gone stays so
pub counted-stays_gone : {b : Bounds} {asked : Counts} {needs : Type 0} {w : World} {s : Step} → IsCounted b asked needs w s → StaysGone w s.world
counted-stays_gone {b} {asked} {needs} {w} {s} (leaves e) = rw e (search rules)
counted-stays_gone (takes n room more most gone) = gone

-- they grow by at most what is asked for
pub counted-at_most : {b : Bounds} {asked : Counts} {needs : Type 0} {w : World} {s : Step} → IsCounted b asked needs w s → needs → AreAtMost (counts_of s.world) (plus (counts_of w) asked)
counted-at_most {b} {asked} {needs} {w} {s} (leaves e) o = rw e (grind arith)
counted-at_most (takes n room more most gone) o = most o

-- and stay within the limit
pub counted-within : {b : Bounds} {asked : Counts} {needs : Type 0} {w : World} {s : Step} → IsCounted b asked needs w s → needs → AreAtMost (counts_of w) (of_each b.numbers) → AreAtMost (counts_of s.world) (of_each b.numbers)
counted-within {b} {asked} {needs} {w} {s} (leaves e) o h = rw e h
counted-within (takes n room more most gone) o h = at_most-then (most o) (room h)

-- How steps are made up.

-- no test holds
abbrev pub NoneHolds : List (Bool × Reply) → Type 0
NoneHolds [] = Unit {0}
NoneHolds (c ∷ cs) = (c.0 ≡ false) × NoneHolds cs

pub guarded-counted : {needs : Type 0} (b : Bounds) (asked : Counts) (cs : List (Bool × Reply)) (w : World) (s : Step) → (NoneHolds cs → IsCounted b asked needs w s) → IsCounted b asked needs w (guarded cs w s)
guarded-counted b asked [] w s h = h tt
guarded-counted {needs} b asked (c ∷ cs) w s h =
    cond_both c.0 _ _ (IsCounted b asked needs w) (λ _. leaves refl) (λ e. guarded-counted b asked cs w s (λ k. h (e, k)))

pub checked-counted : {needs : Type 0} (b : Bounds) (asked : Counts) (c : Option DomError) (w : World) (s : Step) → IsCounted b asked needs w s → IsCounted b asked needs w (checked c w s)
checked-counted b asked None w s h = h
checked-counted b asked (Some e) w s h = leaves refl

pub on_range-counted : {needs : Type 0} (b : Bounds) (asked : Counts) (o : Option Range) (w : World) (step : Range → Step) → ((x : Range) → IsCounted b asked needs w (step x)) → IsCounted b asked needs w (on_range o w step)
on_range-counted b asked None w step h = leaves refl
on_range-counted b asked (Some x) w step h = h x

pub at_point-counted : {needs : Type 0} (b : Bounds) (asked : Counts) (o : Option Point) (w : World) (step : Point → Step) → ((x : Point) → IsCounted b asked needs w (step x)) → IsCounted b asked needs w (at_point o w step)
at_point-counted b asked None w step h = leaves refl
at_point-counted b asked (Some x) w step h = h x

pub at_ends-counted : {needs : Type 0} (b : Bounds) (asked : Counts) (o : Option Range) (w : World) (step : Range → Step) → ((x : Range) → IsCounted b asked needs w (step x)) → IsCounted b asked needs w (at_ends o w step)
at_ends-counted b asked None w step h = leaves refl
at_ends-counted b asked (Some x) w step h = h x

-- where the step needs to know that the object is there, and where it does not
pub object_there-counted : {A needs : Type 0} (b : Bounds) (asked : Counts) (o : Option A) (w : World) (step : A → Step) → ((x : A) → o ≡ Some x → IsCounted b asked needs w (step x)) → IsCounted b asked needs w (with_object o w step)
object_there-counted b asked None w step h = leaves refl
object_there-counted b asked (Some x) w step h = h x refl

pub object-counted : {A needs : Type 0} (b : Bounds) (asked : Counts) (o : Option A) (w : World) (step : A → Step) → ((x : A) → IsCounted b asked needs w (step x)) → IsCounted b asked needs w (with_object o w step)
object-counted b asked o w step h = object_there-counted b asked o w step (λ x e. h x)

-- What steps take.

pub never-fall : (more : ℕ) (w v : World) → IsGrown more w v → AreAtMost (counts_of w) (counts_of v)
never-fall more w v g = grind arith

pub grown-stays_gone : (more : ℕ) (w v : World) → IsGrown more w v → StaysGone w v
grown-stays_gone more w v g = search (rules, alike-released)

pub grow-at_most : (more asked : ℕ) (w v : World) → more ≤ asked → IsGrown more w v → AreAtMost (counts_of v) (plus (counts_of w) (node_numbers asked))
grow-at_most more asked w v l g = grind arith

has-room : (b : Bounds) (asked : ℕ) (w : World) → nat_lt b.numbers (w.made + asked) ≡ false → HasRoom b (node_numbers asked) w
has-room b asked w e h = grind (arith, nat_tests)

-- no number
pub keeps : {needs : Type 0} (b : Bounds) (w v : World) (a : Answer) → IsGrown 0 w v → IsCounted b no_numbers needs w (record { reply = Done a; world = v })
keeps b w v a g = takes refl (λ h. grind arith) (never-fall 0 w v g) (λ o. grow-at_most 0 0 w v (omega arith) g) (grown-stays_gone 0 w v g)

-- numbers of nodes
pub grows : {needs : Type 0} (b : Bounds) (asked more : ℕ) (w v : World) (a : Answer) → nat_lt b.numbers (w.made + asked) ≡ false → more ≤ asked → IsGrown more w v → IsCounted b (node_numbers asked) needs w (record { reply = Done a; world = v })
grows b asked more w v a room l g = takes refl (has-room b asked w room) (never-fall more w v g) (λ o. grow-at_most more asked w v l g) (grown-stays_gone more w v g)

-- the same, where something is needed to tell how many
pub grows-in_order : {needs : Type 0} (b : Bounds) (asked most more : ℕ) (w v : World) (a : Answer) → nat_lt b.numbers (w.made + asked) ≡ false → IsGrown most w v → more ≤ asked → (needs → IsGrown more w v) → IsCounted b (node_numbers asked) needs w (record { reply = Done a; world = v })
grows-in_order b asked most more w v a room g l h = takes refl (has-room b asked w room) (never-fall most w v g) (λ o. grow-at_most more asked w v l (h o)) (grown-stays_gone most w v g)

pub outcome-counted : {needs : Type 0} (b : Bounds) (asked more : ℕ) (w : World) (o : Outcome) → nat_lt b.numbers (w.made + asked) ≡ false → more ≤ asked → IsGrownTo more w o → IsCounted b (node_numbers asked) needs w (done_or_refused o w)
outcome-counted b asked more w (Ok v) room l g = grows b asked more w v _ room l g
outcome-counted b asked more w (Err e) room l g = leaves refl
