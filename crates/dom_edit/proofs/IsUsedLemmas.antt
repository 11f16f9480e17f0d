-- What names the nodes of a tree, part by part, and a tree that nothing names.
use Rattle.std.proofs.Common.{◌==◌, ◌||◌, map, ◌≡◌, ℕ, suc, Bool, true, false, List, [], ◌∷◌, ◌++◌, Option, None, IfSome, All, refl, ap, sym, ◌∙◌, subst, arith}
use Rattle.std.specs.List.{list_any, flat_map}
use Rattle.std.proofs.lemmas.{Bool.false≢true, Bool.or_parts, List.Folds.list_any-append}
use Rattle.dom_model.specs.declared.{Kind.Kind, Kind.TheVariants.Element, Kind.TheVariants.Text, Kind.TheVariants.ProcessingInstruction, Kind.TheVariants.Comment, Kind.TheVariants.Document, Kind.TheVariants.DocumentType, Kind.TheVariants.DocumentFragment}
use Rattle.dom_model.specs.Definitions.{among, is_kind, may_stand_in, Forest, empty, node, occurs, HasNode, IsForest, one_at, rows, tree_at, parent_of, ancestors, without, inclusive_descendants, HasOneDocument, EachNode, Content, Range, is_of_kind, nodes_of_range, nodes_of_iterator, nodes_of_walker, nodes_unless_released, observed_nodes, named_nodes, is_held_outside, is_in_use, discarded, IsOwned, HasOwners}
use Rattle.dom_model.specs.Forests.Forest.{Row}
use Rattle.dom_model.specs.Worlds.World as model
use Rattle.dom_model.proofs.PlainLists.Numbers.{same_or, same, apart}
use Rattle.dom_model.proofs.Forests.{Changes.seen, Changes.nothing, Changes.just, Totals.total-tree_at, Climbing.hits-ancestors, Climbing.hits-not_among, Climbing.not_among-hits, Entries.HasNode-occurs, Entries.occurs-HasNode, EachNode.EachNode-without, Documents.HasOneDocument-without, Paths.parent-path, ToTheRoot.among-top, TreeOrder.Flattened.hits-numbers}
use Rattle.dom_model.proofs.Worlds.Owners.{EachNode-each, HasOwners-discarded, kind-there}
use Rattle.dom_model.proofs.Soundness.{SoundForests.entry_there, SoundForests.child-fits, SoundDiscarding.sound-without}
use Rattle.dom_ranges.specs.Tables.{uncovered, live_nodes}
use Rattle.dom_observe.specs.ObservedNodes.{referred_nodes}
use Rattle.dom_observe.proofs.NamesHeldLemmas.{held-freed}
use Rattle.dom_edit.specs.{declared.world.World.World, Whole.AreHeld, Whole.CoversHeld, Whole.IsWhole, Whole.Keeps, Whole.unwatched, UsedNodes.used_nodes, UsedNodes.is_used}
use Rattle.dom_edit.proofs.{FollowsLemmas.keeps-unwatched, FollowsLemmas.whole-sound, FollowsLemmas.sound-unwatched, CoversHeldLemmas.covered-left}

five : (a b c d e : Bool) → ((((a || b) || c) || d) || e) ≡ (a || (b || (c || (d || e))))
five true b c d e = refl
five false true c d e = refl
five false false true d e = refl
five false false false d e = refl

parted : (p : ℕ → Bool) (a b c d e : List ℕ) → ((((list_any p a || list_any p b) || list_any p c) || list_any p d) || list_any p e) ≡ list_any p (a ++ (b ++ (c ++ (d ++ e))))
parted p a b c d e =
    let all : list_any p (a ++ (b ++ (c ++ (d ++ e)))) ≡ (list_any p a || (list_any p b || (list_any p c || (list_any p d || list_any p e)))) =
    rw (list_any-append p a (b ++ (c ++ (d ++ e))), list_any-append p b (c ++ (d ++ e)), list_any-append p c (d ++ e), list_any-append p d e) refl in
    five (list_any p a) (list_any p b) (list_any p c) (list_any p d) (list_any p e) ∙ sym all

-- a number of a tree is among those that the parts of the code's world name
pub named-own : (v : World) (p : ℕ → Bool)
    → ((((list_any p (flat_map (nodes_unless_released nodes_of_range) v.ranges.ranges) || list_any p (flat_map (nodes_unless_released nodes_of_range) v.statics)) || list_any p (flat_map (nodes_unless_released nodes_of_iterator) v.iterators)) || list_any p (flat_map (nodes_unless_released nodes_of_walker) v.walkers)) || list_any p (referred_nodes v.observers)) ≡ list_any p (used_nodes v)
named-own v p = parted p (flat_map (nodes_unless_released nodes_of_range) v.ranges.ranges) (flat_map (nodes_unless_released nodes_of_range) v.statics) (flat_map (nodes_unless_released nodes_of_iterator) v.iterators) (flat_map (nodes_unless_released nodes_of_walker) v.walkers) (referred_nodes v.observers)

-- and among those that a world names which it keeps
pub named-parts : (v : World) (w : model.World) (top : ℕ) → Keeps v w → (p : ℕ → Bool) → p ≡ (λ m. among m (inclusive_descendants v.tree.forest top))
    → ((((list_any p (flat_map (nodes_unless_released nodes_of_range) v.ranges.ranges) || list_any p (flat_map (nodes_unless_released nodes_of_range) v.statics)) || list_any p (flat_map (nodes_unless_released nodes_of_iterator) v.iterators)) || list_any p (flat_map (nodes_unless_released nodes_of_walker) v.walkers)) || list_any p (observed_nodes w.observing))
    ≡ list_any (λ m. among m (inclusive_descendants w.forest top)) (named_nodes w)
named-parts v w top k p e =
    let inside : p ≡ (λ m. among m (inclusive_descendants w.forest top)) = e ∙ ap (λ f m. among m (inclusive_descendants f top)) (sym k.forest) in
    let ranges = flat_map (nodes_unless_released nodes_of_range) v.ranges.ranges in
    let statics = flat_map (nodes_unless_released nodes_of_range) v.statics in
    let iterators = flat_map (nodes_unless_released nodes_of_iterator) v.iterators in
    let walkers = flat_map (nodes_unless_released nodes_of_walker) v.walkers in
    let observed = observed_nodes w.observing in
    let all : named_nodes w ≡ ranges ++ (statics ++ (iterators ++ (walkers ++ observed))) = rw (k.ranges, k.static_ranges, k.iterators, k.walkers) refl in
    parted p ranges statics iterators walkers observed ∙ (ap (list_any p) (sym all) ∙ ap (λ q. list_any q (named_nodes w)) inside)

-- A test that was made, or passed over.
pub or-met : (value first a b : Bool) → value ≡ true → first ≡ true → first ≡ a → value ≡ (a || b)
or-met value first a b v f e = let k : a ≡ true = sym e ∙ f in rw k v

pub or-next : (value first second a b : Bool) → value ≡ second → first ≡ false → first ≡ a → second ≡ b → value ≡ (a || b)
or-next value first second a b v f e d = let k : a ≡ false = sym e ∙ f in rw k (v ∙ d)

-- Only a Document is a node document, and it is a root.

no_document_below : (parent k : Kind) → may_stand_in parent k ≡ true → is_kind Document k ≡ true → ⊥
no_document_below parent Element h e = false≢true e
no_document_below parent Text h e = false≢true e
no_document_below parent ProcessingInstruction h e = false≢true e
no_document_below parent Comment h e = false≢true e
no_document_below parent Document h e = false≢true h
no_document_below parent DocumentType h e = false≢true e
no_document_below parent DocumentFragment h e = false≢true e

document-root : (f : Forest Content) (made : ℕ) → IsForest {X = Content} (record { forest = f; made = made }) → (d : ℕ) → is_of_kind Document f d ≡ true → parent_of f d ≡ None
document-root f made s d k =
    elim (seen (parent_of f d)) [
      | nothing e ↦ e
      | just u e ↦
          let h = kind-there f d k in
          let ed = entry_there f d h in
          let eu = entry_there f u (parent-path f s.once d u h e).0 in
          let fits = rw (ed.1, eu.1) at (child-fits {f = f} {made = made} s d u e h) in
          let kind = rw ed.1 at k in
          absurd (no_document_below eu.0.value.label.kind ed.0.value.label.kind fits kind)
    ]

-- a Document does not stand in the tree of another node
document-outside : (f : Forest Content) (made : ℕ) → IsForest {X = Content} (record { forest = f; made = made }) → (n : ℕ) → is_of_kind Document f n ≡ false → (d : ℕ) → is_of_kind Document f d ≡ true
    → among d (inclusive_descendants f n) ≡ false
document-outside f made s n other d k =
    let h = kind-there f d k in
    let root = document-root f made s d k in
    let ne : (d == n) ≡ false = elim (same_or d n) [ same e t ↦ absurd (let j : is_of_kind Document f n ≡ true = subst (λ m. is_of_kind Document f m ≡ true) e k in false≢true (sym other ∙ j)) | apart x t ↦ t ] in
    let away = among-top {X = Content} {g = record { forest = f; made = made }} s n d (HasNode-occurs f d h) root ne in
    let none = not_among-hits n (ancestors d f) (sym away) in
    hits-not_among d (inclusive_descendants f n) (omega (arith, hits-numbers d (tree_at n f), hits-ancestors n d f s.once, none))

none-passes : (test : ℕ → Bool) (depth : ℕ) (f : Forest Content) → EachNode (λ x. test x.document ≡ false) f → list_any test (map (λ (r : Row Content). r.at.document) (rows depth f)) ≡ false
none-passes test depth empty h = refl
none-passes test depth (node x kids rest) h =
    let a = none-passes test (suc depth) kids h.1 in
    let b = none-passes test depth rest h.2 in
    rw h.0 (both (rows (suc depth) kids) (rows depth rest) a b)
  where
    both : (xs ys : List (Row Content)) → list_any test (map (λ (r : Row Content). r.at.document) xs) ≡ false → list_any test (map (λ (r : Row Content). r.at.document) ys) ≡ false
        → list_any test (map (λ (r : Row Content). r.at.document) (xs ++ ys)) ≡ false
    both [] ys h k = k
    both (x ∷ xs) ys h k =
        elim (test x.at.document) as (λ v. (v || list_any test (map (λ (r : Row Content). r.at.document) xs)) ≡ false → (v || list_any test (map (λ (r : Row Content). r.at.document) (xs ++ ys))) ≡ false) [
          | true ↦ λ t. t
          | false ↦ λ t. both xs ys t k
        ] h

-- nothing outside holds a root that is no Document
pub root-not_held : (v : World) → IsWhole v → (n : ℕ) → parent_of v.tree.forest n ≡ None → is_of_kind Document v.tree.forest n ≡ false → is_held_outside v.tree.forest n ≡ false
root-not_held v h n root other =
    let f = v.tree.forest in
    let owned = EachNode-without (IsOwned f) n f h.owners in
    let none = none-passes (λ m. among m (inclusive_descendants f n)) 0 (without n f)
    (EachNode-each (IsOwned f) (λ x. among x.document (inclusive_descendants f n) ≡ false) (λ x k. document-outside f v.tree.made h.forest n other x.document k) (without n f) owned) in
    rw (root, none) refl

-- a tree that no node outside holds, and nothing else names, is not in use
pub not_in_use : (v : World) (w : model.World) (n : ℕ) (referred_nodes : Bool) → Keeps v w → referred_nodes ≡ list_any (λ m. among m (inclusive_descendants w.forest n)) (named_nodes w) → referred_nodes ≡ false
    → is_held_outside v.tree.forest n ≡ false → is_in_use w n ≡ false
not_in_use v w n referred_nodes k e none free =
    let held : is_held_outside w.forest n ≡ false = ap (λ f. is_held_outside f n) k.forest ∙ free in
    let others : list_any (λ m. among m (inclusive_descendants w.forest n)) (named_nodes w) ≡ false = sym e ∙ none in
    rw (held, others) refl

pub not_used : (v : World) (n : ℕ) (referred_nodes : Bool) → referred_nodes ≡ list_any (λ m. among m (inclusive_descendants v.tree.forest n)) (used_nodes v) → referred_nodes ≡ false → is_held_outside v.tree.forest n ≡ false → is_used v n ≡ false
not_used v n referred_nodes e none free =
    let others : list_any (λ m. among m (inclusive_descendants v.tree.forest n)) (used_nodes v) ≡ false = sym e ∙ none in
    rw (free, others) refl

-- What is left where a tree goes.

-- no part names a node of a tree that nothing names
record NamesNothing (v : World) (n : ℕ) : Type 0 where
  outside : is_held_outside v.tree.forest n ≡ false
  ranges : list_any (λ m. among m (inclusive_descendants v.tree.forest n)) (flat_map (nodes_unless_released nodes_of_range) v.ranges.ranges) ≡ false
  observers : list_any (λ m. among m (inclusive_descendants v.tree.forest n)) (referred_nodes v.observers) ≡ false
  unwatched_too : is_in_use (unwatched v) n ≡ false

names-nothing : (v : World) (n : ℕ) → is_used v n ≡ false → NamesNothing v n
names-nothing v n free =
    let p : ℕ → Bool = λ m. among m (inclusive_descendants v.tree.forest n) in
    let apart = or_parts (is_held_outside v.tree.forest n) (list_any (λ m. among m (inclusive_descendants v.tree.forest n)) (used_nodes v)) free in
    let a = list_any p (flat_map (nodes_unless_released nodes_of_range) v.ranges.ranges) in
    let b = list_any p (flat_map (nodes_unless_released nodes_of_range) v.statics) in
    let c = list_any p (flat_map (nodes_unless_released nodes_of_iterator) v.iterators) in
    let d = list_any p (flat_map (nodes_unless_released nodes_of_walker) v.walkers) in
    let all = or_parts (((a || b) || c) || d) (list_any p (referred_nodes v.observers)) (named-own v p ∙ apart.1) in
    let first = or_parts a b (or_parts (a || b) c (or_parts ((a || b) || c) d all.0).0).0 in
    let others : list_any p (named_nodes (unwatched v)) ≡ false = sym (named-parts v (unwatched v) n (keeps-unwatched v) p refl) ∙ ap (λ t. t || false) all.0 in
    record { outside = apart.0; ranges = first.0; observers = all.1; unwatched_too = rw (apart.0, others) refl }

-- no end of a live range stands in it either
pub no-end-inside : (v : World) (n : ℕ) → is_used v n ≡ false → list_any (λ m. among m (inclusive_descendants v.tree.forest n)) (live_nodes v.ranges) ≡ false
no-end-inside v n free = (names-nothing v n free).ranges

pub whole-left : (v new : World) (n : ℕ) → IsWhole v → is_used v n ≡ false
    → new.tree ≡ record { forest = without n v.tree.forest; made = v.tree.made } → new.ranges ≡ record v.ranges { covered = uncovered (inclusive_descendants v.tree.forest n) v.ranges.covered } → new.statics ≡ v.statics → new.iterators ≡ v.iterators → new.walkers ≡ v.walkers → new.observers ≡ v.observers → IsWhole new
whole-left v new n h free tree ranges statics iterators walkers observers =
    let w = unwatched v in
    let k = keeps-unwatched v in
    let f = v.tree.forest in
    let rest = without n f in
    let p : ℕ → Bool = λ m. among m (inclusive_descendants f n) in
    let nothing = names-nothing v n free in
    let stays : (m : ℕ) → p m ≡ false → HasNode f m → HasNode rest m = λ m e held.
    let i = not_among-hits m (inclusive_descendants f n) e in
    let j = hits-numbers m (tree_at n f) in
    let t = total-tree_at (one_at m) n f in
    let there = occurs-HasNode f m held in
    HasNode-occurs rest m (omega arith) in
    let forest : rest ≡ new.tree.forest = sym (ap (λ t. t.forest) tree) in
    let sound = sound-without n w (sound-unwatched v h) nothing.unwatched_too in
    let left : All (λ (r : Option Range). IfSome r (AreHeld rest)) v.statics = sound.statics in
    let names = held-freed f rest v.observers (inclusive_descendants f n) (λ m held e. stays m e held) nothing.observers h.observers in
    let made : v.tree.made ≡ new.tree.made = sym (ap (λ t. t.made) tree) in
    let keeps : Keeps new (discarded n w) = record {
      forest = forest;
      made = made;
      ranges = sym (ap (λ r. r.ranges) ranges);
      static_ranges = sym statics;
      iterators = sym iterators;
      walkers = sym walkers;
    } in
    whole-sound new (discarded n w) keeps sound
    (subst HasOneDocument forest (HasOneDocument-without n f h.documents))
    (subst HasOwners forest (HasOwners-discarded n f h.forest.once nothing.outside h.owners))
    (subst (CoversHeld new.tree) (sym (ap (λ r. r.covered) ranges))
    (covered-left v.tree new.tree v.ranges.covered (inclusive_descendants f n) h.forest
    (λ m.
    let j = hits-numbers m (tree_at n f) in
    let t = total-tree_at (one_at m) n f in
    let z : occurs m new.tree.forest ≡ occurs m rest = ap (occurs m) (sym forest) in
    omega arith) (sym made) h.covered))
    (rw (forest, sym statics) at left)
    (rw (forest, sym observers) at names)
