-- Normalize leaves a sound world. DOM Standard, "Interface Node": normalize.
use Rattle.std.proofs.Common.{◌≡◌, ℕ, ◌+◌, ◌<◌, ◌≤◌, ◌==◌, Bool, true, false, if◌then◌else◌, List, [], ◌∷◌, ◌++◌, filter, take_while, drop, length, Option, Some, None, refl, ap, sym, ◌∙◌, subst, arith}
use Rattle.std.proofs.lemmas.{Bool.false≢true, Bool.Decides.nat_tests, Bool.cases_Bool, Bool.ne_eqb, Bool.eq-eqb}
use Rattle.dom_model.proofs.Worlds.{Parts.hits-dropped, Measured.kept-with_node, SameShape.IsAlike, SameShape.children-alike, SameShape.kind-alike, SameShape.with_node-alike, Measured.kind-cut, Measured.entry-with_node}
use Rattle.dom_model.specs.Definitions.{hits, among, past, up_to, Entry, list_under, siblings_in, is_kind, Node, Forest, empty, node, occurs, one_at, tops, numbers, tree_at, entry_in, parent_of, children_of, inclusive_descendants, spliced, Content, Point, World, after_splice, entry_has, kind_passes, is_of_kind, unit_count, node_length, removed_from, remove, content_in, data_of, with_data, cut_count, replace_data, following_texts, joined_data, merged_ends, merge_ends, remove_each, join_following, normalize_text, is_descendant, text_descendants, normalize_each, normalize, IsRange, IsSound, Lives, IsUpTo, AreUpTo, AreJoinable}
use Rattle.dom_model.specs.declared.{Kind.Kind, Kind.TheVariants.Text}
use Rattle.dom_model.proofs.Forests.{Changes.seen, Changes.nothing, Changes.just, Changes.change_at, Totals.IsOnce-cut, Totals.total-tree_at, Totals.tree_at-absent, Tops.tops-tree_at, Climbing.hits-append, Climbing.among-hits, Climbing.hits-first, Climbing.hits-ancestors, TreeOrder.Flattened.hits-numbers, Indices.child-listed, Indices.child-once, Paths.root-path, Listed.hits-itself, Listed.parted_at, Listed.IsFront, Listed.front}
use Rattle.dom_model.proofs.Soundness.{SoundWorlds.each-moved, SoundWorlds.sound-remove, SoundData.length-data, SoundData.length-spliced, SoundData.cut_fits, SoundData.sound-replace_data, SoundSplitting.text_has_data, SoundJoining.sound-joined}

-- Kinds stay.

abbrev pub SameKinds : Forest Content → Forest Content → Type 0
SameKinds f g = (test : Kind → Bool) (n : ℕ) → kind_passes test g n ≡ kind_passes test f n

pub removed_kinds : (n : ℕ) (w : World) → ((m : ℕ) → occurs m w.forest ≤ 1) → SameKinds w.forest (remove false n w).forest × ((m : ℕ) → occurs m (remove false n w).forest ≤ 1)
removed_kinds n w o = go (parent_of w.forest n)
  where
    go : (p : Option ℕ) → SameKinds w.forest (removed_from false n p w).forest × ((m : ℕ) → occurs m (removed_from false n p w).forest ≤ 1)
    go None = (λ test m. refl, o)
    go (Some p) = (λ test m. kind-cut w.forest o n test m, IsOnce-cut n w.forest o)

pub each_kinds : (ns : List ℕ) (w : World) → ((m : ℕ) → occurs m w.forest ≤ 1) → SameKinds w.forest (remove_each ns w).forest
each_kinds [] w o = λ test m. refl
each_kinds (n ∷ ns) w o =
    let i = removed_kinds n w o in
    λ test m. each_kinds ns (remove false n w) i.1 test m ∙ i.0 test m

merged-forest : (into base : ℕ) (ts : List ℕ) (w : World) → (merge_ends into base ts w).forest ≡ w.forest
merged-forest into base [] w = refl
merged-forest into base (t ∷ ts) w = merged-forest into (base + length (data_of w t)) ts (merged_ends t into base (parent_of w.forest t) w) ∙ (elim (seen (parent_of w.forest t)) [ nothing z ↦ rw z refl | just p z ↦ rw z refl ])

-- A Text takes in those that follow it.

module _ (t p : ℕ) (w : World) (s : IsSound w) (text : is_of_kind Text w.forest t ≡ true) (ht : 0 < occurs t w.forest) (par : parent_of w.forest t ≡ Some p) where
  abbrev pub ts : List ℕ
  ts = following_texts w t

  abbrev pub base : ℕ
  base = length (data_of w t)

  abbrev pub added : List ℕ
  added = joined_data w ts

  abbrev pub count : ℕ
  count = cut_count base base 0

  abbrev change : Node Content → Node Content
  change = with_data (spliced base count added (data_of w t))

  abbrev pub joint : World
  joint = replace_data t base 0 added w

  alike : IsAlike w.forest joint.forest
  alike = with_node-alike change (λ x. refl) t w.forest

  pub no_count : count ≡ 0
  no_count = let i = cut_fits base base 0 (omega arith) in omega arith

  siblings_are : siblings_in (entry_in w.forest) t ≡ children_of w.forest p
  siblings_are = ap (list_under (entry_in w.forest)) par

  listed : children_of w.forest p ≡ up_to t (children_of w.forest p) ++ t ∷ past t (children_of w.forest p)
  listed = parted_at t (children_of w.forest p) (child-listed w.forest s.forest.once t p ht par)

  first_texts : IsFront (is_of_kind Text w.forest) (past t (children_of w.forest p)) ts
  first_texts =
      subst (λ ns. IsFront (is_of_kind Text w.forest) (past t (children_of w.forest p)) (take_while (is_of_kind Text w.forest) (past t ns))) (sym siblings_are)
      (front (is_of_kind Text w.forest) (past t (children_of w.forest p)))

  -- none of them is the Text itself
  pub others : (m : ℕ) → 0 < hits m ts → m ≡ t → ⊥
  others m h e =
      let kids = children_of w.forest p in
      grind (arith, nat_tests, child-once w.forest s.forest.once t p, ap (hits t) listed, hits-append t (up_to t kids) (t ∷ past t kids), ap (hits t) first_texts.all, hits-append t ts first_texts.behind)

  data-other : (m : ℕ) → (m ≡ t → ⊥) → data_of joint m ≡ data_of w m
  data-other m ne = kept-with_node change (λ x. refl) (λ o. (content_in o).text) t m (λ e. rw (ne_eqb m t ne) refl) w.forest

  pub joined-same : (ns : List ℕ) → ((m : ℕ) → 0 < hits m ns → m ≡ t → ⊥) → joined_data joint ns ≡ joined_data w ns
  joined-same [] far = refl
  joined-same (m ∷ ns) far =
      let here = data-other m (far m (hits-first m ns)) in
      ap (λ xs. xs ++ joined_data joint ns) here ∙ ap (λ xs. data_of w m ++ xs) (joined-same ns (λ x h. far x (let i = hits-append x (m ∷ []) ns in omega arith)))

  data-itself : length (data_of joint t) ≡ base + length added
  data-itself =
      ap (λ o. length (content_in o).text) (entry-with_node change (λ x. refl) t t None w.forest)
      ∙ go (entry_in w.forest t) text
      ∙ (let i = length-spliced base count added (data_of w t) (let k = no_count in omega arith) in let k = no_count in omega arith)
    where
      go : (o : Option (Entry (Node Content))) → entry_has (is_kind Text) o ≡ true → length (content_in (change_at change t t o)).text ≡ length (spliced base count added (data_of w t))
      go None k = absurd (false≢true k)
      go (Some e) k = rw (eq-eqb t t refl) refl

  ends_up_to : Lives (AreUpTo t base) joint.ranges
  ends_up_to = each-moved (IsRange w.forest) (AreUpTo t base) (after_splice t base count (length added)) (λ r h. (stays r.start h.starts.within, stays r.end h.ends.within)) w.ranges s.ranges
    where
      whole : node_length unit_count w.forest t ≡ base
      whole = length-data w.forest t (text_has_data w t text)

      stays : (q : Point) → q.offset ≤ node_length unit_count w.forest q.node → IsUpTo t base (after_splice t base count (length added) q)
      stays q h = λ d. grind (arith, nat_tests, whole)

  pub joinable : AreJoinable joint t p base ts
  joinable =
      record {
        sound = sound-replace_data t base 0 added w s (text_has_data w t text) (omega arith);
        text = kind-alike alike (is_kind Text) t ∙ text;
        ahead = up_to t (children_of w.forest p);
        behind = first_texts.behind;
        listed = children-alike alike p ∙ listed ∙ ap (λ ns. up_to t (children_of w.forest p) ++ t ∷ ns) first_texts.all;
        texts = λ m h. kind-alike alike (is_kind Text) m ∙ first_texts.passes m h;
        room = (let a = ap length (joined-same ts others) in let b = data-itself in omega arith);
        up_to = ends_up_to;
      }

  sound-join_following : IsSound (join_following t ts w)
  sound-join_following = sound-joined joint t p base ts joinable

  join_kinds : SameKinds w.forest (join_following t ts w).forest
  join_kinds test m =
      let v = merge_ends t base ts joint in
      let e = merged-forest t base ts joint in
      each_kinds ts v (λ k. subst (λ (g : Forest Content). occurs k g ≤ 1) (sym e) (joinable.sound.forest.once k)) test m
      ∙ ap (λ (g : Forest Content). kind_passes test g m) e
      ∙ kind-alike alike test m

-- A Text that is a proper descendant of some node has a parent.

-- the first number of a tree is its top's
pub numbers-first : (n : ℕ) (g : Forest Content) → tops g ≡ n ∷ [] → numbers g ≡ n ∷ drop 1 (numbers g)
numbers-first n empty e = absurd (cc e)
numbers-first n (node x kids rest) e = cc

pub below_parent : (f : Forest Content) → ((m : ℕ) → occurs m f ≤ 1) → (n t : ℕ) → among t (drop 1 (inclusive_descendants f n)) ≡ true → (0 < occurs t f) × (p : ℕ) × (parent_of f t ≡ Some p)
below_parent f o n t h =
    elim (seen (parent_of f t)) [
      | just p e ↦ (there, p, e)
      | nothing e ↦ absurd (apart_top (at_top e))
    ]
  where
    under : 0 < hits t (drop 1 (numbers (tree_at n f)))
    under = among-hits t (drop 1 (numbers (tree_at n f))) h

    inside : 0 < occurs t (tree_at n f)
    inside = omega (arith, under, hits-dropped t (numbers (tree_at n f)), hits-numbers t (tree_at n f))

    there : 0 < occurs t f
    there = let i = inside in let k = total-tree_at (one_at t) n f in omega arith

    top_there : 0 < occurs n f
    top_there =
        let none : occurs n f ≡ 0 → occurs t (tree_at n f) ≡ 0 = λ z. rw (tree_at-absent n f z) refl in
        grind (arith, inside)

    at_top : parent_of f t ≡ None → t ≡ n
    at_top e = grind (arith, nat_tests, ap (hits n) (root-path f o t there e), hits-ancestors n t f o, inside)

    apart_top : t ≡ n → ⊥
    apart_top e =
        let a = numbers-first n (tree_at n f) (tops-tree_at n f (let k = o n in let l = top_there in omega arith)) in
        let b = ap (hits n) a in
        let c = hits-itself n (drop 1 (numbers (tree_at n f))) in
        let d = hits-numbers n (tree_at n f) in
        let g = total-tree_at (one_at n) n f in
        let i : 0 < hits n (drop 1 (numbers (tree_at n f))) = subst (λ x. 0 < hits x (drop 1 (numbers (tree_at n f)))) e under in
        omega (arith, o n)

-- One Text after another.

-- a sound world in which the kinds are as they were
pub record IsKept (w v : World) : Type 0 where
  pub sound : IsSound v
  pub kinds : SameKinds w.forest v.forest

kept-text : (n t : ℕ) (w : World) → IsSound w → is_of_kind Text w.forest t ≡ true → is_descendant w n t ≡ true → IsKept w (normalize_text t w)
kept-text n t w s text below = go (length (data_of w t) == 0)
  where
    go : (v : Bool) → IsKept w (if v then remove false t w else join_following t (following_texts w t) w)
    go true = record { sound = sound-remove false t w s; kinds = (removed_kinds t w s.forest.once).0 }
    go false =
        let i = below_parent w.forest s.forest.once n t below in
        record { sound = sound-join_following t i.1 w s text i.0 i.2; kinds = join_kinds t i.1 w s text i.0 i.2 }

pub kept-one : (n t : ℕ) (w : World) → IsSound w → is_of_kind Text w.forest t ≡ true → IsKept w (if is_descendant w n t then normalize_text t w else w)
kept-one n t w s text = go (is_descendant w n t) refl
  where
    go : (v : Bool) → is_descendant w n t ≡ v → IsKept w (if v then normalize_text t w else w)
    go true e = kept-text n t w s text e
    go false e = record { sound = s; kinds = λ test m. refl }

sound-normalize_each : (n : ℕ) (ts : List ℕ) (w : World) → IsSound w → ((t : ℕ) → 0 < hits t ts → is_of_kind Text w.forest t ≡ true) → IsSound (normalize_each n ts w)
sound-normalize_each n [] w s texts = s
sound-normalize_each n (t ∷ ts) w s texts =
    let k = kept-one n t w s (texts t (hits-first t ts)) in
    sound-normalize_each n ts (if is_descendant w n t then normalize_text t w else w) k.sound
    (λ m h. k.kinds (is_kind Text) m ∙ texts m (let i = hits-append m (t ∷ []) ts in omega arith))

-- what a filter lets through passes
pub filter-passed : (p : ℕ → Bool) (ns : List ℕ) (m : ℕ) → 0 < hits m (filter p ns) → (p m ≡ true) × (0 < hits m ns)
filter-passed p [] m h = absurd (omega arith)
filter-passed p (n ∷ ns) m h = grind (arith, nat_tests, filter-passed p ns m, cases_Bool (p n))

pub sound-normalize : (n : ℕ) (w : World) → IsSound w → IsSound (normalize n w)
sound-normalize n w s = sound-normalize_each n (text_descendants w n) w s (λ t h. (filter-passed (is_of_kind Text w.forest) (drop 1 (inclusive_descendants w.forest n)) t h).0)
