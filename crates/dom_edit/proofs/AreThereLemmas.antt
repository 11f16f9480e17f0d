-- The nodes that a record of children names are there, and observers that were told of them name nodes that are there.
use Rattle.std.specs.Option.{ForSome}
use Rattle.std.proofs.Common.{◌≡◌, ℕ, ◌<◌, ◌≤◌, List, [], ◌∷◌, ◌++◌, Option, Some, None, refl, ⊎_elim, arith}
use Rattle.std.proofs.lemmas.Bool.{cases_lt}
use Rattle.dom_model.specs.Definitions.{hits, Forest, HasNode, Content, if_any}
use Rattle.dom_model.proofs.Forests.{Climbing.among-hits, Climbing.hits-append, Entries.HasNode-occurs}
use Rattle.dom_observe.specs.ObservedNodes.{NamesOnly}
use Rattle.dom_observe.proofs.NamesHeldLemmas.{held-after}
use Rattle.dom_edit.specs.{declared.world.World.World, Whole.IsWhole, Insertion.AreThere}
use Rattle.dom_edit.proofs.{FollowsLemmas.whole-observed, KeepsNodesLemmas.none-there, KeepsNodesLemmas.one-there}

-- Lists of nodes that are there.

pub there-append : (f : Forest Content) (ns ms : List ℕ) → AreThere f ns → AreThere f ms → AreThere f (ns ++ ms)
there-append f ns ms h k m i =
    let parted = hits-append m ns ms in
    ⊎_elim (λ (before : 0 < hits m ns). h m before) (λ (none : hits m ns ≤ 0). k m (omega arith)) (cases_lt 0 (hits m ns))

there-any : (f : Forest Content) (o : Option ℕ) → ForSome o (λ n. HasNode f n) → AreThere f (if_any o)
there-any f None h = none-there f
there-any f (Some n) h = one-there f n (h n refl)

-- those that a record of children names
pub there-told : (f : Forest Content) (target : ℕ) (added removed : List ℕ) (previous next : Option ℕ)
    → HasNode f target → AreThere f added → AreThere f removed → ForSome previous (λ n. HasNode f n) → ForSome next (λ n. HasNode f n) → AreThere f (target ∷ (added ++ (removed ++ (if_any previous ++ if_any next))))
there-told f target added removed previous next t a r p n =
    there-append f (target ∷ []) (added ++ (removed ++ (if_any previous ++ if_any next))) (one-there f target t)
    (there-append f added (removed ++ (if_any previous ++ if_any next)) a
    (there-append f removed (if_any previous ++ if_any next) r
    (there-append f (if_any previous) (if_any next) (there-any f previous p) (there-any f next n))))

-- observers that name these besides
pub whole-named : (old new : World) (these : List ℕ) → new ≡ record old { observers = new.observers } → IsWhole old → NamesOnly these old.observers new.observers → AreThere old.tree.forest these → IsWhole new
whole-named old new these e h only there =
    let f = old.tree.forest in
    whole-observed old new e h
    (held-after f these old.observers new.observers only (λ n i. HasNode-occurs f n (there n (among-hits n these i))) h.observers)
