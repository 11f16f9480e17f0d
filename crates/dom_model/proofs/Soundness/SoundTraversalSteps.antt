-- The commands of iterators and tree walkers leave a sound world. DOM Standard, "Interface NodeIterator", "Interface TreeWalker".
use Rattle.std.proofs.Common.{◌≡◌, ℕ, ◌<◌, ◌≤◌, Bool, true, false, [], ◌∷◌, ◌++◌, find, length, Option, Some, None, IfSome, refl, sym, subst, arith, All, List}
use Rattle.std.proofs.lemmas.List.Elements.{All-set, All-push}
use Rattle.dom_model.specs.Definitions.{Forest, occurs, one_at, tree_at, HasNode, Content, Filter, Iterator, Walker, World, Number, new_iterator, iterator_moved, next_found, previous_found, moved_to_next, moved_to_previous, new_walker, walk_list, is_inside_root, found_where, walk_found, walker_moved, accepts, Bounds, Step, guarded, no_node, no_room, answers, does, with_object, iterator_at, walker_at, with_iterator, with_walker, released_iterator, released_walker, answer_create_iterator, answer_create_walker, answer_set_current, IsIterator, IsWalker, IsSound}
use Rattle.dom_model.specs.declared.Move.{Move}
use Rattle.dom_model.proofs.Forests.{Totals.total-tree_at, Totals.occurs-without, Entries.HasNode-occurs, Entries.occurs-HasNode, TreeOrder.Flattened.hits-numbers}
use Rattle.dom_model.proofs.BoundaryPoints.RootsKept.{hits-found, next-stays, previous-stays}
use Rattle.dom_model.proofs.Traversal.WalksThere.{listed_there, steps_there}
use Rattle.dom_model.proofs.Soundness.{SoundWorlds.element, SoundGuards.sound-guarded, SoundGuards.there_unless}

sound-with_object : {A : Type 0} (P : A → Type 0) (o : Option A) (w : World) (step : A → Step) → IsSound w → IfSome o P → ((a : A) → P a → IsSound (step a).world) → IsSound (with_object o w step).world
sound-with_object P None w step s h k = s
sound-with_object P (Some a) w step s h k = k a h

pub sound-on_iterator : (i : ℕ) (w : World) (step : Iterator → Step) → IsSound w → ((it : Iterator) → IsIterator w.forest it → IsSound (step it).world) → IsSound (with_object (iterator_at i w) w step).world
sound-on_iterator i w step s k = sound-with_object (IsIterator w.forest) (iterator_at i w) w step s (element (IsIterator w.forest) w.iterators i s.iterators) k

pub sound-on_walker : (k : ℕ) (w : World) (step : Walker → Step) → IsSound w → ((walker : Walker) → IsWalker w.forest walker → IsSound (step walker).world) → IsSound (with_object (walker_at k w) w step).world
sound-on_walker k w step s h = sound-with_object (IsWalker w.forest) (walker_at k w) w step s (element (IsWalker w.forest) w.walkers k s.walkers) h

sound-iterators : (xs : List (Option Iterator)) (w : World) → IsSound w → All (λ (x : Option Iterator). IfSome x (IsIterator w.forest)) xs → IsSound (record w { iterators = xs })
sound-iterators xs w s h = record { forest = s.forest; ranges = s.ranges; iterators = h; walkers = s.walkers; registrations = s.registrations; statics = s.statics }

sound-walkers : (xs : List (Option Walker)) (w : World) → IsSound w → All (λ (x : Option Walker). IfSome x (IsWalker w.forest)) xs → IsSound (record w { walkers = xs })
sound-walkers xs w s h = record { forest = s.forest; ranges = s.ranges; iterators = s.iterators; walkers = h; registrations = s.registrations; statics = s.statics }

pub sound-with_iterator : (i : ℕ) (it : Iterator) (w : World) → IsSound w → IsIterator w.forest it → IsSound (with_iterator i it w)
sound-with_iterator i it w s h =
    sound-iterators _ w s (All-set (λ (x : Option Iterator). IfSome x (IsIterator w.forest)) w.iterators i (Some it) h s.iterators)

pub sound-with_walker : (k : ℕ) (walker : Walker) (w : World) → IsSound w → IsWalker w.forest walker → IsSound (with_walker k walker w)
sound-with_walker k walker w s h =
    sound-walkers _ w s (All-set (λ (x : Option Walker). IfSome x (IsWalker w.forest)) w.walkers k (Some walker) h s.walkers)

pub sound-released_iterator : (i : ℕ) (w : World) → IsSound w → IsSound (released_iterator i w)
sound-released_iterator i w s =
    sound-iterators _ w s (All-set (λ (x : Option Iterator). IfSome x (IsIterator w.forest)) w.iterators i None tt s.iterators)

pub sound-released_walker : (k : ℕ) (w : World) → IsSound w → IsSound (released_walker k w)
sound-released_walker k w s =
    sound-walkers _ w s (All-set (λ (x : Option Walker). IfSome x (IsWalker w.forest)) w.walkers k None tt s.walkers)

new_iterator_sound : (f : Forest Content) (root : ℕ) (filter : Filter) → 0 < occurs root f → IsIterator f (new_iterator root filter)
new_iterator_sound f root filter h =
    record {
      root = HasNode-occurs f root h;
      inside = (let a = hits-numbers root (tree_at root f) in let t = total-tree_at (one_at root) root f in let z = occurs-without root f in omega arith);
    }

pub root-moved : (before : Bool) (found : Option ℕ) (i : Iterator) → (iterator_moved before found i).root ≡ i.root
root-moved before None i = refl
root-moved before (Some n) i = refl

pub next_sound : (f : Forest Content) (i : Iterator) → IsIterator f i → IsIterator f (moved_to_next f i)
next_sound f i h = record { root = subst (HasNode f) (sym (root-moved false (next_found f i) i)) h.root; inside = next-stays f i h.inside }

pub previous_sound : (f : Forest Content) (i : Iterator) → IsIterator f i → IsIterator f (moved_to_previous f i)
previous_sound f i h = record { root = subst (HasNode f) (sym (root-moved true (previous_found f i) i)) h.root; inside = previous-stays f i h.inside }

-- Walkers.

pub walk_there : (move : Move) (f : Forest Content) → ((m : ℕ) → occurs m f ≤ 1) → (k : Walker) → IsWalker f k → IfSome (walk_found move f k) (λ n. 0 < occurs n f)
walk_there move f o k h = go (is_inside_root f k)
  where
    listed : (x : Option ℕ) → find (accepts f k.filter) (walk_list move f k.filter k.root k.current) ≡ x → IfSome x (λ n. 0 < occurs n f)
    listed None e = tt
    listed (Some n) e = listed_there move f o k.filter k.root k.current n (hits-found (accepts f k.filter) (walk_list move f k.filter k.root k.current) n e)

    go : (v : Bool) → IfSome (found_where v move f k) (λ n. 0 < occurs n f)
    go true = listed (find (accepts f k.filter) (walk_list move f k.filter k.root k.current)) refl
    go false = steps_there move f o k.filter k.root k.current (occurs-HasNode f k.current h.current)

pub moved_walker_sound : (f : Forest Content) (found : Option ℕ) (k : Walker) → IfSome found (λ n. 0 < occurs n f) → IsWalker f k → IsWalker f (walker_moved found k)
moved_walker_sound f None k t h = h
moved_walker_sound f (Some n) k t h = record { root = h.root; current = HasNode-occurs f n t }

-- what a step of an iterator or a walker leaves
pub ruleset iterator_steps = (sound-on_iterator, sound-with_iterator, next_sound, previous_sound, sound-released_iterator)

pub ruleset walker_steps = (sound-on_walker, sound-with_walker, walk_there, moved_walker_sound, sound-released_walker)

module _ (b : Bounds) (w : World) (s : IsSound w) where
  pub sound-create_iterator : (root : ℕ) (filter : Filter) → IsSound (answer_create_iterator b root filter w).world
  sound-create_iterator root filter =
      sound-guarded (no_node root w ∷ no_room b (length w.iterators) 1 ∷ []) w (answers (Number (length w.iterators)) (record w { iterators = w.iterators ++ Some (new_iterator root filter) ∷ [] })) s
      (λ h. sound-iterators _ w s (All-push (λ (x : Option Iterator). IfSome x (IsIterator w.forest)) w.iterators (Some (new_iterator root filter)) s.iterators (new_iterator_sound w.forest root filter (there_unless w.forest root h.0))))

  pub sound-create_walker : (root : ℕ) (filter : Filter) → IsSound (answer_create_walker b root filter w).world
  sound-create_walker root filter =
      sound-guarded (no_node root w ∷ no_room b (length w.walkers) 1 ∷ []) w (answers (Number (length w.walkers)) (record w { walkers = w.walkers ++ Some (new_walker root filter) ∷ [] })) s
      (λ h. let t = HasNode-occurs w.forest root (there_unless w.forest root h.0) in
      sound-walkers _ w s (All-push (λ (x : Option Walker). IfSome x (IsWalker w.forest)) w.walkers (Some (new_walker root filter)) s.walkers (record { root = t; current = t })))

  pub sound-set_current : (k n : ℕ) → IsSound (answer_set_current b k n w).world
  sound-set_current k n =
      sound-on_walker k w (λ walker. guarded (no_node n w ∷ []) w (does (with_walker k (record walker { current = n }) w))) s
      (λ walker h. sound-guarded (no_node n w ∷ []) w (does (with_walker k (record walker { current = n }) w)) s
      (λ c. sound-with_walker k (record walker { current = n }) w s (record { root = h.root; current = HasNode-occurs w.forest n (there_unless w.forest n c.0) })))
