-- The answers to the commands of iterators and tree walkers. DOM Standard, "Interface NodeIterator", "Interface TreeWalker".
-- Ours: both are numbered in the order of making, and stand until they are released or the session ends.
use Rattle.std.specs.Prelude.{ℕ, [], ◌∷◌, ◌++◌, length, Option, Some, None, slice_index_or, slice_set}
use Rattle.dom_model.specs.declared.OwnError.TheVariants.{NoSuchObject}
use Rattle.dom_model.specs.declared.Move.{Move}
use Rattle.dom_model.specs.Worlds.World.{Filter, Iterator, Walker, World}
use Rattle.dom_model.specs.Commands.Reply.{Number, MaybeNumber, IteratorAt, WalkerAt, Own}
use Rattle.dom_model.specs.Commands.Guards.{Bounds, Step, refused, guarded, no_node, no_room, answers, does}
use Rattle.dom_model.specs.Traversal.Iterators.{new_iterator, next_found, previous_found, moved_to_next, moved_to_previous}
use Rattle.dom_model.specs.Traversal.Walks.{new_walker, walk_found, walker_moved}

-- the step that is made with the object, or the refusal where there is none of its number
abbrev pub with_object : {A : Type 0} → Option A → World → (A → Step) → Step
with_object None w step = refused (Own NoSuchObject) w
with_object (Some a) w step = step a

-- an iterator, or a walker, of the world; none where its number was not given out, or was released
abbrev pub iterator_at : ℕ → World → Option Iterator
iterator_at i w = slice_index_or w.iterators i None

abbrev pub walker_at : ℕ → World → Option Walker
walker_at k w = slice_index_or w.walkers k None

abbrev pub with_iterator : ℕ → Iterator → World → World
with_iterator i it w = record w { iterators = slice_set w.iterators i (Some it) }

abbrev pub with_walker : ℕ → Walker → World → World
with_walker k walker w = record w { walkers = slice_set w.walkers k (Some walker) }

-- an iterator, or a walker, is released; its number is not used again
abbrev pub released_iterator : ℕ → World → World
released_iterator i w = record w { iterators = slice_set w.iterators i None }

abbrev pub released_walker : ℕ → World → World
released_walker k w = record w { walkers = slice_set w.walkers k None }

abbrev pub answer_create_iterator : Bounds → ℕ → Filter → World → Step
answer_create_iterator b root filter w =
    guarded (no_node root w ∷ no_room b (length w.iterators) 1 ∷ []) w
    (answers (Number (length w.iterators)) (record w { iterators = w.iterators ++ Some (new_iterator root filter) ∷ [] }))

abbrev pub answer_create_walker : Bounds → ℕ → Filter → World → Step
answer_create_walker b root filter w =
    guarded (no_node root w ∷ no_room b (length w.walkers) 1 ∷ []) w
    (answers (Number (length w.walkers)) (record w { walkers = w.walkers ++ Some (new_walker root filter) ∷ [] }))

abbrev pub answer_iterator : Bounds → ℕ → World → Step
answer_iterator b i w =
    with_object (iterator_at i w) w (λ (it : Iterator). answers (IteratorAt it.root it.reference it.before) w)

abbrev pub answer_next_node : Bounds → ℕ → World → Step
answer_next_node b i w =
    with_object (iterator_at i w) w
    (λ (it : Iterator). answers (MaybeNumber (next_found w.forest it)) (with_iterator i (moved_to_next w.forest it) w))

abbrev pub answer_previous_node : Bounds → ℕ → World → Step
answer_previous_node b i w =
    with_object (iterator_at i w) w
    (λ (it : Iterator). answers (MaybeNumber (previous_found w.forest it)) (with_iterator i (moved_to_previous w.forest it) w))

abbrev pub answer_walker : Bounds → ℕ → World → Step
answer_walker b k w = with_object (walker_at k w) w (λ (walker : Walker). answers (WalkerAt walker.root walker.current) w)

abbrev pub answer_set_current : Bounds → ℕ → ℕ → World → Step
answer_set_current b k n w =
    with_object (walker_at k w) w
    (λ (walker : Walker). guarded (no_node n w ∷ []) w (does (with_walker k (record walker { current = n }) w)))

abbrev pub answer_walk : Bounds → ℕ → Move → World → Step
answer_walk b k move w =
    with_object (walker_at k w) w
    (λ (walker : Walker). answers (MaybeNumber (walk_found move w.forest walker))
    (with_walker k (walker_moved (walk_found move w.forest walker) walker) w))

-- release an iterator, or a walker (ours; the standard leaves it to garbage collection)
abbrev pub answer_release_iterator : Bounds → ℕ → World → Step
answer_release_iterator b i w = with_object (iterator_at i w) w (λ (it : Iterator). does (released_iterator i w))

abbrev pub answer_release_walker : Bounds → ℕ → World → Step
answer_release_walker b k w = with_object (walker_at k w) w (λ (walker : Walker). does (released_walker k w))
