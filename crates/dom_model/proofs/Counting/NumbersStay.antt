-- Over any list of commands the counts only rise, what is gone stays gone, and no number is given out twice.
use Rattle.std.proofs.Common.{◌≡◌, ℕ, ◌<◌, ◌≤◌, List, [], ◌∷◌, length, Some, None, subst, arith, rules}
use Rattle.dom_model.specs.Definitions.{Forest, occurs, HasNode, Content, World, range_at, static_at, taken_up_to, iterator_at, walker_at, Command, Number, Done, Bounds, answer, counts_of, AreAtMost, Numbered, Nodes, Ranges, Iterators, Walkers, Observers, StaticRanges, count_of, made_by, IsNext, world_past}
use Rattle.dom_model.proofs.Forests.Entries.{HasNode-occurs, occurs-HasNode}
use Rattle.dom_model.proofs.Counting.{StepsCounted.StaysGone, StepsCounted.at_most-then, StepsCounted.counted-stays_gone, CommandsCounted.command-counted, NewNumbers.AnswersNext, NewNumbers.answer-next}
use Rattle.dom_model.proofs.Commands.RefusalsLeave.{counts-never_fall}

-- the counts only rise
pub counts-rise : (b : Bounds) (w : World) (cs : List Command) → AreAtMost (counts_of w) (counts_of (world_past b w cs))
counts-rise b w [] = search rules
counts-rise b w (c ∷ cs) = at_most-then (counts-never_fall b w c) (counts-rise b (answer b w c).world cs)

-- What is gone.

stays_gone-then : {u v w : World} → AreAtMost (counts_of u) (counts_of v) → StaysGone u v → StaysGone v w → StaysGone u w
stays_gone-then m g h = grind arith

past-stays_gone : (b : Bounds) (w : World) (cs : List Command) → StaysGone w (world_past b w cs)
past-stays_gone b w [] = search rules
past-stays_gone b w (c ∷ cs) = stays_gone-then (counts-never_fall b w c) (counted-stays_gone (command-counted b w c)) (past-stays_gone b (answer b w c).world cs)

not-there : (f : Forest Content) (n : ℕ) → (HasNode f n → ⊥) → occurs n f ≡ 0
not-there f n h = grind (arith, HasNode-occurs f n)

-- a node that is gone does not come back
pub node-stays_gone : (b : Bounds) (w : World) (cs : List Command) (n : ℕ) → n < w.made → (HasNode w.forest n → ⊥) → HasNode (world_past b w cs).forest n → ⊥
node-stays_gone b w cs n l h there =
    let v = world_past b w cs in
    let e = (past-stays_gone b w cs).nodes n l (not-there w.forest n h) in
    let k = occurs-HasNode v.forest n there in
    absurd (omega arith)

-- so a node that was not there before has a number that was not given out before
pub node-is_new : (b : Bounds) (w : World) (cs : List Command) (n : ℕ) → (HasNode w.forest n → ⊥) → HasNode (world_past b w cs).forest n → w.made ≤ n
node-is_new b w cs n h there = grind (arith, node-stays_gone b w cs n)

-- a live range that was released stays so
pub range-stays_released : (b : Bounds) (w : World) (cs : List Command) (r : ℕ) → r < length w.ranges → range_at w r ≡ None → range_at (world_past b w cs) r ≡ None
range-stays_released b w cs r l e = (past-stays_gone b w cs).ranges r l e

-- so does an iterator, a walker, a static range and an observer
pub iterator-stays_released : (b : Bounds) (w : World) (cs : List Command) (i : ℕ) → i < length w.iterators → iterator_at i w ≡ None → iterator_at i (world_past b w cs) ≡ None
iterator-stays_released b w cs i l e = (past-stays_gone b w cs).iterators i l e

pub walker-stays_released : (b : Bounds) (w : World) (cs : List Command) (k : ℕ) → k < length w.walkers → walker_at k w ≡ None → walker_at k (world_past b w cs) ≡ None
walker-stays_released b w cs k l e = (past-stays_gone b w cs).walkers k l e

pub static_range-stays_released : (b : Bounds) (w : World) (cs : List Command) (u : ℕ) → u < length w.static_ranges → static_at w u ≡ None → static_at (world_past b w cs) u ≡ None
static_range-stays_released b w cs u l e = (past-stays_gone b w cs).static_ranges u l e

pub observer-stays_released : (b : Bounds) (w : World) (cs : List Command) (o : ℕ) → o < length w.observing.places → taken_up_to o w.observing ≡ None → taken_up_to o (world_past b w cs).observing ≡ None
observer-stays_released b w cs o l e = (past-stays_gone b w cs).observers o l e

-- What is given out.

count-rises : (kind : Numbered) (w v : World) → AreAtMost (counts_of w) (counts_of v) → count_of kind w ≤ count_of kind v
count-rises Nodes w v h = h.nodes
count-rises Ranges w v h = h.ranges
count-rises Iterators w v h = h.iterators
count-rises Walkers w v h = h.walkers
count-rises Observers w v h = h.observers
count-rises StaticRanges w v h = h.static_ranges

-- a new number is the next of its kind
pub number-is_next : (b : Bounds) (w : World) (c : Command) (kind : Numbered) (n : ℕ) → made_by c ≡ Some kind → (answer b w c).reply ≡ Done (Number n) → IsNext kind n w (answer b w c).world
number-is_next b w c kind n e d = (subst (λ o. AnswersNext o w (answer b w c)) e (answer-next b w c)) n d

-- of two new numbers of a kind the later is greater
pub numbers-rise : (b : Bounds) (w : World) (c : Command) (cs : List Command) (later : Command) (kind : Numbered) (n m : ℕ) → made_by c ≡ Some kind → made_by later ≡ Some kind → (answer b w c).reply ≡ Done (Number n) → (answer b (world_past b w (c ∷ cs)) later).reply ≡ Done (Number m) → n < m
numbers-rise b w c cs later kind n m e f d g =
    let v = (answer b w c).world in
    let u = world_past b v cs in
    let first = number-is_next b w c kind n e d in
    let second = number-is_next b u later kind m f g in
    omega (arith, first.given_out, second.next, count-rises kind v u (counts-rise b v cs))
