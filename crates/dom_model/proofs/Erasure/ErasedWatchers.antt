-- The tree does not feel what watches it: a list of commands that makes no edit by a range is answered, without the commands that only
-- watch, as it is with them. DOM Standard, "Live ranges", "Traversal".
use Rattle.std.proofs.Common.{◌≡◌, ℕ, Bool, true, false, List, [], ◌∷◌, length, Option, Some, None, refl, ap, ◌∙◌, filter}
use Rattle.dom_model.specs.Definitions.{Point, Range, World, first_world, Command, CreateIterator, CreateWalker, Disconnect, Notify, Pending, TakePending, Discard, Answer, Reply, Done, Dom, Own, Numbers, Notified, Bounds, Step, no_node, no_room, on_range, at_point, at_ends, with_object, static_told, answer, replies_to, is_by_observer, parts_left, reply_left, left_by_observers, edits_by_range, only_watches, makes_no_edit_by_range, without_watchers, replies_without_watchers, discards, makes_no_discard}
use Rattle.dom_model.proofs.Erasure.{ErasedWorlds.Without, ErasedWorlds.without, ErasedWorlds.first-left, ErasedSteps.guarded-alone, ErasedSteps.checked-alone, ErasedObserving.command-left, ErasedLists.IsErased, ErasedLists.apart_from, ErasedLists.discard-follows}

-- no observer is erased here
abbrev pub none : ℕ → Bool
none o = false

-- the second world is the first one with any watchers
abbrev pub Unwatched : World → World → Type 0
Unwatched x y = Without none false x y

-- A step in the first world alone, which the second does not meet.

on_range-alone : (range : Option Range) (x y : World) (s : Range → Step) → Unwatched x y → ((range : Range) → Unwatched (s range).world y) → Unwatched (on_range range x s).world y
on_range-alone None x y s h k = h
on_range-alone (Some range) x y s h k = k range

at_point-alone : (p : Option Point) (x y : World) (s : Point → Step) → Unwatched x y → ((p : Point) → Unwatched (s p).world y) → Unwatched (at_point p x s).world y
at_point-alone None x y s h k = h
at_point-alone (Some p) x y s h k = k p

at_ends-alone : (ends : Option Range) (x y : World) (s : Range → Step) → Unwatched x y → ((ends : Range) → Unwatched (s ends).world y) → Unwatched (at_ends ends x s).world y
at_ends-alone None x y s h k = h
at_ends-alone (Some ends) x y s h k = k ends

with_object-alone : {A : Type 0} (object : Option A) (x y : World) (s : A → Step) → Unwatched x y → ((a : A) → Unwatched (s a).world y) → Unwatched (with_object object x s).world y
with_object-alone None x y s h k = h
with_object-alone (Some a) x y s h k = k a

static_told-alone : (range : Option Range) (x y : World) → Unwatched x y → Unwatched (static_told x range).world y
static_told-alone None x y h = h
static_told-alone (Some range) x y h = h

-- a case that the test excludes
impossible : {x y : World} → false ≡ true → Unwatched x y
impossible e = absurd (cc e)

ruleset steps = (
  guarded-alone,
  checked-alone,
  on_range-alone,
  at_point-alone,
  at_ends-alone,
  with_object-alone,
  static_told-alone,
  without,
  impossible,
)

pub watcher-alone : (b : Bounds) (c : Command) (x y : World) → Unwatched x y → only_watches c ≡ true → Unwatched (answer b x c).world y
watcher-alone b (CreateIterator root filter) x _ (without o v h) e =
    guarded-alone none false (no_node root x ∷ no_room b (length x.iterators) 1 ∷ []) x _ _ (without o v h) (without o v h)
watcher-alone b (CreateWalker root filter) x _ (without o v h) e =
    guarded-alone none false (no_node root x ∷ no_room b (length x.walkers) 1 ∷ []) x _ _ (without o v h) (without o v h)
watcher-alone b c x _ (without o v h) e = search steps

-- Where no observer is erased, nothing is taken out of the answers.

filter-all : {A : Type 0} (xs : List A) → filter (λ _. true) xs ≡ xs
filter-all [] = refl
filter-all (x ∷ xs) = ap (λ ys. x ∷ ys) (filter-all xs)

whole_answer : (a : Answer) → parts_left none a ≡ a
whole_answer (Notified ts) = ap Notified (filter-all ts)
whole_answer (Numbers os) = ap Numbers (filter-all os)
whole_answer a = refl

whole_reply : (r : Reply) → reply_left none r ≡ r
whole_reply (Done a) = ap Done (whole_answer a)
whole_reply (Dom e) = refl
whole_reply (Own e) = refl

pub whole : (c : Command) (r : Reply) → left_by_observers none c r ≡ r
whole Notify r = whole_reply r
whole Pending r = whole_reply r
whole TakePending r = whole_reply r
whole c r = refl

pub by_none : (c : Command) → is_by_observer none c ≡ false
by_none (Disconnect o) = refl
by_none c = refl

watches-keeps : (c : Command) → only_watches c ≡ true → discards c ≡ false
watches-keeps (Discard n) e = absurd (cc e)
watches-keeps c e = refl

-- Only edits by a range are barred.

pub watchers-erased : (b : Bounds) → IsErased b only_watches (λ c r. r) edits_by_range Unwatched
watchers-erased b = record {
  alone = watcher-alone b;
  keeps = watches-keeps;
  others = λ c x y h r d e. let k = command-left none false b c x y h d (by_none c) (rw e r) in (k.reply ∙ whole c (answer b x c).reply, k.world);
  discard = λ c x y h d e. let k = discard-follows none false b c x y h d e in (k.reply ∙ whole c (answer b x c).reply, k.world);
}

-- from any two such worlds on, and from the first world on

pub watchers-apart_from : (b : Bounds) (cs : List Command) → makes_no_edit_by_range cs ≡ true → makes_no_discard cs ≡ true → (x y : World) → Unwatched x y → replies_to b y (without_watchers cs) ≡ replies_without_watchers cs (replies_to b x cs)
watchers-apart_from b cs r d x y h = apart_from b only_watches (λ c r. r) edits_by_range Unwatched (watchers-erased b) cs x y r d h

pub watchers-apart : (b : Bounds) (cs : List Command) → makes_no_edit_by_range cs ≡ true → makes_no_discard cs ≡ true → replies_to b first_world (without_watchers cs) ≡ replies_without_watchers cs (replies_to b first_world cs)
watchers-apart b cs r d = watchers-apart_from b cs r d first_world first_world (first-left none false)
