-- Worlds without some observers: the second world is the first one, with an observing part that tells the other observers the same.
-- Where watchers are erased too, its ranges, iterators and walkers may be any. Removals, insertions and replacements keep the two so.
-- DOM Standard, "Mutation observers", "Mutation algorithms".
use Rattle.std.proofs.Common.{ℕ, Bool, true, false, if◌then◌else◌, List, [], ◌∷◌, Option, Some, None, ap, sym, ◌∙◌, subst, refl}
use Rattle.dom_model.specs.Definitions.{Content, Point, Range, Iterator, Walker, Registration, Mutation, Observing, World, first_world, map_ranges, after_gap, after_removal, pre_removed_all, Forest, parent_of, next_of, previous_of, index_of, ancestors, inclusive_descendants, cut, adopted, standing_on, noted, queued, tree_record, tree_record_unless, taken_out, transients_made, removed_from, remove, remove_all, nodes_of, freed, put_in, put_all, gap_before, insert_all, insert_nodes, insert, reference_child, pre_insert, append, replace, insert_if_any, replaced_record, replace_all, adopt}
use Rattle.dom_model.specs.declared.RecordType.TheVariants.{ChildList}
use Rattle.dom_model.proofs.MutationObservers.Apart.{IsWithout, left_of, standing-left, noted-left, transients-left}

-- what watches the tree beside observers
pub record Watchers : Type 0 where
  pub ranges : List (Option Range)
  pub iterators : List (Option Iterator)
  pub walkers : List (Option Walker)
  pub static_ranges : List (Option Range)

abbrev pub watchers_of : World → Watchers
watchers_of w = record { ranges = w.ranges; iterators = w.iterators; walkers = w.walkers; static_ranges = w.static_ranges }

-- a world's own where they stay, and others where its own are erased
abbrev pub watchers_left : Bool → Watchers → Watchers → Watchers
watchers_left true own others = own
watchers_left false own others = others

-- a world with another observing part, and with other watchers where its own are erased
abbrev pub left_world : Bool → Observing → Watchers → World → World
left_world watched o others w =
    let v = watchers_left watched (watchers_of w) others in
    record w { observing = o; ranges = v.ranges; iterators = v.iterators; walkers = v.walkers; static_ranges = v.static_ranges }

module _ (erased : ℕ → Bool) where
  -- the second world is the first one without the erased observers; where it is not watched alike, with any watchers
  pub data Without (watched : Bool) (x : World) : World → Type 0 where
    without : (o : Observing) (v : Watchers) → IsWithout erased x.observing o → Without watched x (left_world watched o v x)

  -- a step keeps two worlds so
  abbrev pub Keeps : Bool → (World → World) → Type 0
  Keeps watched step = (x y : World) → Without watched x y → Without watched (step x) (step y)

  -- the first world has no observers yet

  none_made : IsWithout erased first_world.observing first_world.observing
  none_made = record { registrations = refl; mutations = refl; places = λ o e. refl; made = refl; last = refl }

  pub first-left : (watched : Bool) → Without watched first_world first_world
  first-left true = without first_world.observing (watchers_of first_world) none_made
  first-left false = without first_world.observing (watchers_of first_world) none_made

  -- The steps that move watchers.

  pub moved_ranges-left : (watched : Bool) (move : Point → Point) → Keeps watched (λ w. record w { ranges = map_ranges move w.ranges })
  moved_ranges-left true move x _ (without o v h) = without o v h
  moved_ranges-left false move x _ (without o v h) = without o (record v { ranges = map_ranges move v.ranges }) h

  moved_iterators-left : (watched : Bool) (move : List (Option Iterator) → List (Option Iterator)) → Keeps watched (λ w. record w { iterators = move w.iterators })
  moved_iterators-left true move x _ (without o v h) = without o v h
  moved_iterators-left false move x _ (without o v h) = without o (record v { iterators = move v.iterators }) h

module _ (erased : ℕ → Bool) (watched : Bool) where
  -- one of two steps by a test
  pub choice-left : (v : Bool) {x y x2 y2 : World} → Without erased watched x y → Without erased watched x2 y2 → Without erased watched (if v then x else x2) (if v then y else y2)
  choice-left true h k = h
  choice-left false h k = k

  -- Records and transient registrations.

  pub queued-left : (m : Mutation) → Keeps erased watched (queued m)
  queued-left m x _ (without o v h) =
      subst (λ (ss : List Registration). Without erased watched (queued m x) (left_world watched (noted (record m { standing = ss }) o) v x))
      (sym (ap (standing_on (ancestors m.target x.forest)) h.registrations ∙ standing-left erased (ancestors m.target x.forest) x.observing.registrations))
      (without (noted (left_of erased told) o) v (noted-left erased x.observing o h told))
    where
      told : Mutation
      told = record m { standing = standing_on (ancestors m.target x.forest) x.observing.registrations }

  pub tree_record-left : (target : ℕ) (added removed : List ℕ) (previous next : Option ℕ) → Keeps erased watched (tree_record target added removed previous next)
  tree_record-left target added removed previous next =
      queued-left (record {
        type = ChildList;
        target = target;
        name = None;
        old_value = None;
        added = added;
        removed = removed;
        previous = previous;
        next = next;
        standing = [];
      })

  tree_record_unless-left : (v : Bool) (target : ℕ) (added removed : List ℕ) (previous next : Option ℕ) → Keeps erased watched (tree_record_unless v target added removed previous next)
  tree_record_unless-left true target added removed previous next x y h = h
  tree_record_unless-left false target added removed previous next x y h = tree_record-left target added removed previous next x y h

  transients_made-left : (n parent : ℕ) → Keeps erased watched (transients_made n parent)
  transients_made-left n parent x _ (without o v h) = search (transients-left, without)

  -- Remove.

  pub with_forest-left : (change : Forest Content → Forest Content) → Keeps erased watched (λ w. record w { forest = change w.forest })
  with_forest-left change x _ (without o v h) = without o v h

  taken_out-left : (n parent : ℕ) → Keeps erased watched (taken_out n parent)
  taken_out-left n parent x _ (without o v h) =
      with_forest-left (cut n) _ _
      (moved_iterators-left erased watched (pre_removed_all x.forest n) _ _
      (moved_ranges-left erased watched (after_removal (inclusive_descendants x.forest n) parent (index_of x.forest n)) x _ (without o v h)))

  removed_from-left : (suppressed : Bool) (n : ℕ) (parent : Option ℕ) → Keeps erased watched (removed_from suppressed n parent)
  removed_from-left suppressed n None x y h = h
  removed_from-left suppressed n (Some parent) x _ (without o v h) = search (tree_record_unless-left, transients_made-left, taken_out-left, without)

  pub remove-left : (suppressed : Bool) (n : ℕ) → Keeps erased watched (remove suppressed n)
  remove-left suppressed n x _ (without o v h) = removed_from-left suppressed n (parent_of x.forest n) x _ (without o v h)

  pub remove_all-left : (ns : List ℕ) → Keeps erased watched (remove_all ns)
  remove_all-left [] x y h = h
  remove_all-left (n ∷ ns) x y h = remove_all-left ns _ _ (remove-left true n x y h)

  -- Insert.

  freed-left : (n : ℕ) (nodes : List ℕ) → Keeps erased watched (freed n nodes)
  freed-left n nodes x _ (without o v h) = search (choice-left, tree_record-left, remove_all-left, remove-left, without)

  put_in-left : (parent : ℕ) (child : Option ℕ) (n : ℕ) → Keeps erased watched (put_in parent child n)
  put_in-left parent child n x _ (without o v h) = without o v h

  put_all-left : (parent : ℕ) (child : Option ℕ) (ns : List ℕ) → Keeps erased watched (put_all parent child ns)
  put_all-left parent child [] x y h = h
  put_all-left parent child (n ∷ ns) x y h = put_all-left parent child ns _ _ (put_in-left parent child n x y h)

  gap_before-left : (parent : ℕ) (child : Option ℕ) (count : ℕ) → Keeps erased watched (gap_before parent child count)
  gap_before-left parent None count x y h = h
  gap_before-left parent (Some c) count x _ (without o v h) =
      moved_ranges-left erased watched (after_gap parent (index_of x.forest c) count) x _ (without o v h)

  insert_all-left : (suppressed : Bool) (parent : ℕ) (child : Option ℕ) (nodes : List ℕ) → Keeps erased watched (insert_all suppressed parent child nodes)
  insert_all-left suppressed parent child nodes x _ (without o v h) = search (tree_record_unless-left, put_all-left, gap_before-left, without)

  insert_nodes-left : (suppressed : Bool) (n parent : ℕ) (child : Option ℕ) (nodes : List ℕ) → Keeps erased watched (insert_nodes suppressed n parent child nodes)
  insert_nodes-left suppressed n parent child [] x y h = h
  insert_nodes-left suppressed n parent child (m ∷ ms) x y h = insert_all-left suppressed parent child (m ∷ ms) _ _ (freed-left n (m ∷ ms) x y h)

  pub insert-left : (suppressed : Bool) (n parent : ℕ) (child : Option ℕ) → Keeps erased watched (insert suppressed n parent child)
  insert-left suppressed n parent child x _ (without o v h) = insert_nodes-left suppressed n parent child (nodes_of x n) x _ (without o v h)

  pub pre_insert-left : (n parent : ℕ) (child : Option ℕ) → Keeps erased watched (pre_insert n parent child)
  pre_insert-left n parent child x _ (without o v h) = insert-left false n parent (reference_child x n child) x _ (without o v h)

  pub append-left : (n parent : ℕ) → Keeps erased watched (append n parent)
  append-left n parent = pre_insert-left n parent None

  -- Replace, replace all, adopt.

  pub replace-left : (child n parent : ℕ) → Keeps erased watched (replace child n parent)
  replace-left child n parent x _ (without o v h) =
      let reference = reference_child x n (next_of x.forest child) in
      tree_record-left parent (nodes_of x n) (child ∷ []) (previous_of x.forest child) reference _ _
      (insert-left true n parent reference _ _ (remove-left true child x _ (without o v h)))

  insert_if_any-left : (n : Option ℕ) (parent : ℕ) → Keeps erased watched (insert_if_any n parent)
  insert_if_any-left None parent x y h = h
  insert_if_any-left (Some n) parent x y h = insert-left true n parent None x y h

  replaced_record-left : (parent : ℕ) (added removed : List ℕ) → Keeps erased watched (replaced_record parent added removed)
  replaced_record-left parent [] [] x y h = h
  replaced_record-left parent [] (r ∷ rs) x y h = tree_record-left parent [] (r ∷ rs) None None x y h
  replaced_record-left parent (a ∷ others) removed x y h = tree_record-left parent (a ∷ others) removed None None x y h

  pub replace_all-left : (n : Option ℕ) (parent : ℕ) → Keeps erased watched (replace_all n parent)
  replace_all-left n parent x _ (without o v h) = search (replaced_record-left, insert_if_any-left, remove_all-left, without)

  pub adopt-left : (n document : ℕ) → Keeps erased watched (adopt n document)
  adopt-left n document x y h = with_forest-left (adopted n document) _ _ (remove-left false n x y h)
