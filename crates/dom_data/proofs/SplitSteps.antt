-- A Text is split: what the steps of the code come to.
use Rattle.std.proofs.Common.{◌≡◌, ℕ, ◌+◌, ◌-◌, ◌≤◌, ◌==◌, true, false, List, [], drop, length, Option, Some, None, refl, ap, sym, ◌∙◌, subst, arith, length-drop, IfSome}
use Rattle.dom_model.specs.declared.Kind.TheVariants.{Text}
use Rattle.dom_model.specs.Definitions.{parent_in, HasOneDocument, Forest, Grove, empty, node, HasNode, IsForest, entry_in, parent_of, children_of, index_of, with_node, spliced, Content, Point, map_ranges, after_splice, after_split, HasOwners, is_of_kind, document_in, node_document, made_node, named, with_text, content_in, data_of, tail_of, with_data, data_record, split}
use Rattle.dom_model.specs.Worlds.World as model
use Rattle.dom_model.proofs.Forests.Entries.{occurs-HasNode}
use Rattle.dom_model.proofs.Worlds.{Measured.entry-beside, SameShape.IsAlike, SameShape.with_node-alike, SameShape.occurs-alike, SameShape.parent-alike, SameShape.children-alike, SameShape.index-alike}
use Rattle.dom_model.proofs.RangesAndContents.RangesSpliced.{there-alike}
use Rattle.dom_model.proofs.Soundness.{SoundSplitting.sound-split, SoundTextContent.entry-made, SoundWorlds.statics-kept}
use Rattle.dom_ranges.specs.Tables.{RangeTable}
use Rattle.dom_observe.proofs.NamesHeldLemmas.{held-kept}
use Rattle.dom_edit.specs.{declared.world.World.World, KeptNodes.present, KeptNodes.KeepsLabels, KeptNodes.KeepsNodes, KeptNodes.attributes_at, Whole.CoversHeld, Whole.IsWhole, Whole.Keeps, Whole.Follows, Whole.unwatched}
use Rattle.dom_edit.proofs.{CoversHeldLemmas.covered-kept, FollowsLemmas.follows-then, FollowsLemmas.keeps-unwatched, FollowsLemmas.whole-sound, KeepsWatchersLemmas.present-moved, KeepsWatchersLemmas.watchers-ranged}
use Rattle.dom_data.specs.{Tails.HasNextSibling, Tails.tail_in, SplitInTurn.put_behind, SplitInTurn.ends_behind, SplitInTurn.tail_moved, SplitInTurn.split_in_turn}
use Rattle.dom_data.proofs.{KeepsNumbersLemmas.numbers-replaced, KeepsNumbersLemmas.numbers-then, NewTexts.made_is, NewTexts.new-there, NewTexts.old-there, TextHeldLemmas.text-held, SplitInTurn.split-in-turn, IsWholeLemmas.documents-with_node, IsWholeLemmas.owners-with_node, IsWholeLemmas.sound-unwatched, IsWholeLemmas.follows-alike}

-- where no end stands in the parent, the index matters to none
pub split-apart : (n offset new parent i j : ℕ) (q : Point) → (q.node == parent) ≡ false → after_split n offset new parent i q ≡ after_split n offset new parent j q
split-apart n offset new parent i j q e = rw e refl

-- as many ends are there
present-behind : (n offset id : ℕ) (p : Option ℕ) (w : model.World) → present (ends_behind n offset id p w) ≡ present w.ranges
present-behind n offset id None w = refl
present-behind n offset id (Some q) w = present-moved (after_split n offset id q (index_of w.forest n)) w.ranges

-- The data of two nodes is another: the shape of the forest is the same.
module _ (f : Forest Content) (n id : ℕ) (a b : List ℕ) where
  abbrev twice : Forest Content
  twice = with_node id (with_data b) (with_node n (with_data a) f)

  pub alike-twice : IsAlike f (with_node id (with_data b) (with_node n (with_data a) f))
  alike-twice = record {
    bare_same = (with_node-alike (with_data b) (λ x. refl) id (with_node n (with_data a) f)).bare_same ∙ (with_node-alike (with_data a) (λ x. refl) n f).bare_same;
  }

  pub documents-twice : HasOneDocument f → HasOneDocument twice
  documents-twice h = documents-with_node id (with_data b) (λ x. refl) (λ x. refl) (with_node n (with_data a) f) (documents-with_node n (with_data a) (λ x. refl) (λ x. refl) f h)

  pub owners-twice : HasOwners f → HasOwners twice
  owners-twice h = owners-with_node id (with_data b) (λ x. refl) (λ x. refl) (with_node n (with_data a) f) (owners-with_node n (with_data a) (λ x. refl) (λ x. refl) f h)

-- The world that the tail leaves behind.
module _ (told : World) (n offset id : ℕ) where
  abbrev whole : List ℕ
  whole = (content_in (entry_in told.tree.forest n)).text

  abbrev left : List ℕ
  left = spliced offset (length whole - offset) [] whole

  abbrev moved : Forest Content
  moved = tail_in n offset id told.tree.forest

  alike : IsAlike told.tree.forest moved
  alike = alike-twice told.tree.forest n id left (drop offset whole)

  module _ (tree : Grove Content) (tree_is : tree ≡ record told.tree { forest = tail_in n offset id told.tree.forest }) where
    forest_is : moved ≡ tree.forest
    forest_is = ap (λ (g : Grove Content). g.forest) (sym tree_is)

    pub held-moved : (m : ℕ) → HasNode told.tree.forest m → HasNode tree.forest m
    held-moved m h = subst (λ f. HasNode f m) forest_is (there-alike alike m h)

    pub room-moved : HasNextSibling told.tree.forest n → HasNextSibling tree.forest n
    room-moved h = subst (λ f. HasNextSibling f n) forest_is (subst (λ p. IfSome p (λ q. index_of moved n + 2 ≤ length (children_of moved q))) (sym (parent-alike alike n)) (go (parent_of told.tree.forest n) h))
      where
        go : (p : Option ℕ) → IfSome p (λ q. index_of told.tree.forest n + 2 ≤ length (children_of told.tree.forest q)) → IfSome p (λ q. index_of moved n + 2 ≤ length (children_of moved q))
        go None k = tt
        go (Some q) k = let i = index-alike alike n in let e = ap length (children-alike alike q) in omega arith

    pub covered-moved : CoversHeld told.tree told.ranges.covered → CoversHeld tree told.ranges.covered
    covered-moved h =
        subst (λ g. CoversHeld g told.ranges.covered) (sym tree_is)
        (covered-kept told.tree (record told.tree { forest = moved }) told.ranges.covered (λ m. let e = occurs-alike alike m in omega arith) refl h)

  -- ends that moved, and then those behind the offset that nothing came for
  abbrev parent : Option ℕ
  parent = parent_of told.tree.forest n

  abbrev pub end_world : World
  end_world = record told {
    tree = record told.tree { forest = tail_in n offset id told.tree.forest };
    ranges = record told.ranges {
      ranges = map_ranges (after_splice n offset (length (content_in (entry_in told.tree.forest n)).text - offset) 0) (ends_behind n offset id (parent_of told.tree.forest n) (unwatched told));
    };
  }

  ends-keep : (p : Option ℕ) (w : model.World) → Keeps told w → ends_behind n offset id p w ≡ ends_behind n offset id p (unwatched told)
  ends-keep None w k = k.ranges
  ends-keep (Some q) w k = λ i. map_ranges (after_split n offset id q (index_of (k.forest i) n)) (k.ranges i)

  ends-alike : (p : Option ℕ) → ends_behind n offset id p (unwatched (record told { tree = record told.tree { forest = tail_in n offset id told.tree.forest } })) ≡ ends_behind n offset id p (unwatched told)
  ends-alike None = refl
  ends-alike (Some q) = ap (λ i. map_ranges (after_split n offset id q i) told.ranges.ranges) (index-alike alike n)

  module _ (tree : Grove Content) (tree_is : tree ≡ record told.tree { forest = tail_in n offset id told.tree.forest })
      (ended : World) (ended_is : ended ≡ record told { tree = tree; ranges = record told.ranges { ranges = ends_behind n offset id (parent_of tree.forest n) (unwatched (record told { tree = tree })) } })
      (count : ℕ) (count_is : count ≡ length (content_in (entry_in told.tree.forest n)).text - offset)
      (table : RangeTable) (table_is : table ≡ record ended.ranges { ranges = map_ranges (after_splice n offset count 0) ended.ranges.ranges }) where
    abbrev spliced_ends : World → World
    spliced_ends v = record v { ranges = record v.ranges { ranges = map_ranges (after_splice n offset count 0) v.ranges.ranges } }

    abbrev parted_ends : Grove Content → World
    parted_ends g = record told { tree = g; ranges = record told.ranges { ranges = ends_behind n offset id (parent_of g.forest n) (unwatched (record told { tree = g })) } }

    pub end-is : end_world ≡ record ended { ranges = table }
    end-is =
        sym (ap (λ (t : RangeTable). record ended { ranges = t }) table_is
        ∙ ap spliced_ends ended_is
        ∙ ap (λ g. spliced_ends (parted_ends g)) tree_is
        ∙ (λ i. record told {
          tree = record told.tree { forest = moved };
          ranges = record told.ranges {
            ranges = map_ranges (after_splice n offset (count_is i) 0) (ends_behind n offset id (parent-alike alike n i) (unwatched (record told { tree = record told.tree { forest = moved } })));
          };
        })
        ∙ ap (λ rs. record told {
          tree = record told.tree { forest = moved };
          ranges = record told.ranges { ranges = map_ranges (after_splice n offset (length whole - offset) 0) rs };
        }) (ends-alike parent))

  -- the tree and the ends alone are others
  follows-end : Follows told end_world (tail_moved n offset id (parent_of told.tree.forest n) (drop offset (content_in (entry_in told.tree.forest n)).text))
  follows-end = record {
    keeps = λ w k. record {
      forest = (λ i. with_node id (with_data (drop offset whole)) (with_node n (with_data (spliced offset (length-drop offset whole i) [] (content_in (entry_in (k.forest i) n)).text)) (k.forest i)));
      made = k.made;
      ranges = (λ i. map_ranges (after_splice n offset (length-drop offset whole i) 0) (ends-keep parent w k i));
      static_ranges = k.static_ranges;
      iterators = k.iterators;
      walkers = k.walkers;
    };
    watches = λ w k o. o;
  }

  pub labels-end : KeepsLabels told end_world
  labels-end =
      let half : World = record told { tree = record told.tree { forest = with_node n (with_data left) told.tree.forest } } in
      (numbers-then told half end_world
      (numbers-replaced told half n left refl refl refl (watchers-ranged told half refl refl refl))
      (numbers-replaced half end_world id (drop offset whole) refl refl refl
      (watchers-ranged half end_world (present-moved (after_splice n offset (length whole - offset) 0) (ends_behind n offset id parent (unwatched told)) ∙ present-behind n offset id parent (unwatched told)) refl refl))).labelled

-- The worlds before: an empty Text comes in, and stands behind the old one.
module _ (old v mid told : World) (n offset d id : ℕ) (units : List ℕ) (h : IsWhole old) (text : is_of_kind Text old.tree.forest n ≡ true) (within : offset ≤ length (data_of (unwatched old) n)) (document : d ≡ document_in (entry_in old.tree.forest n)) (number : id ≡ old.tree.made) (nothing : units ≡ []) (made : Follows old v (made_node d (named Text []) (with_text units))) (kept : KeepsNodes v mid) (noted : told ≡ record mid { observers = told.observers }) where
  hn : HasNode old.tree.forest n
  hn = text-held old.tree.forest n text

  entry-v : entry_in v.tree.forest n ≡ entry_in old.tree.forest n
  entry-v =
      ap (λ (g : Forest Content). entry_in g n) (sym (made_is old v h d units made))
      ∙ entry-beside old.tree.forest (node (record { number = old.tree.made; document = d; label = named Text []; body = with_text units }) empty empty) n (occurs-HasNode old.tree.forest n hn)

  held-v : HasNode v.tree.forest n
  held-v = old-there old v h d units made n hn

  new-v : HasNode v.tree.forest id
  new-v = subst (HasNode v.tree.forest) (sym number) (new-there old v h d units made)

  told_forest : mid.tree.forest ≡ told.tree.forest
  told_forest = ap (λ (x : World). x.tree.forest) (sym noted)

  pub held-told : HasNode told.tree.forest n
  held-told = subst (λ f. HasNode f n) told_forest (kept.labelled.held n held-v)

  pub new-told : HasNode told.tree.forest id
  new-told = subst (λ f. HasNode f id) told_forest (kept.labelled.held id new-v)

  pub content-told : content_in (entry_in told.tree.forest n) ≡ content_in (entry_in old.tree.forest n)
  content-told = ap (λ (f : Forest Content). content_in (entry_in f n)) (sym told_forest) ∙ kept.contents n held-v ∙ ap content_in entry-v

  pub within-told : offset ≤ length (content_in (entry_in told.tree.forest n)).text
  within-told = subst (λ (c : Content). offset ≤ length c.text) (sym content-told) within

  pub bare-told : (content_in (entry_in told.tree.forest id)).attributes ≡ []
  bare-told =
      ap (λ f. attributes_at f id) (sym told_forest) ∙ kept.labelled.attributes id new-v
      ∙ (λ i. attributes_at (sym (made_is old v h d units made) i) (number i))
      ∙ ap (λ o. (content_in o).attributes) (entry-made d (named Text []) (with_text units) (unwatched old) (sound-unwatched old h))

  module _ (behind : Follows v mid (put_behind n id (parent_of v.tree.forest n))) (parents : parent_of mid.tree.forest n ≡ parent_of v.tree.forest n) (record_made : Follows mid told (data_record n)) where
    parent-v : parent_of v.tree.forest n ≡ parent_of old.tree.forest n
    parent-v = ap parent_in entry-v

    parent-told : parent_of told.tree.forest n ≡ parent_of old.tree.forest n
    parent-told = ap (λ (f : Forest Content). parent_of f n) (sym told_forest) ∙ parents ∙ parent-v

    abbrev tail : List ℕ
    tail = drop offset (content_in (entry_in told.tree.forest n)).text

    abbrev in_turn : model.World → model.World
    in_turn w = tail_moved n offset id (parent_of told.tree.forest n) tail (data_record n (put_behind n id (parent_of v.tree.forest n) (made_node d (named Text []) (with_text units) w)))

    follows-turn : Follows old (end_world told n offset id) in_turn
    follows-turn =
        follows-then old told (end_world told n offset id) (λ w. data_record n (put_behind n id (parent_of v.tree.forest n) (made_node d (named Text []) (with_text units) w)))
        (tail_moved n offset id (parent_of told.tree.forest n) tail)
        (follows-then old mid told (λ w. put_behind n id (parent_of v.tree.forest n) (made_node d (named Text []) (with_text units) w)) (data_record n)
        (follows-then old v mid (made_node d (named Text []) (with_text units)) (put_behind n id (parent_of v.tree.forest n)) made behind) record_made)
        (follows-end told n offset id)

    turn-is : (w : model.World) → Keeps old w → in_turn w ≡ split n offset w
    turn-is w k =
        let m : id ≡ w.made = number ∙ sym k.made in
        let e : d ≡ node_document w n = document ∙ ap (λ f. document_in (entry_in f n)) (sym k.forest) in
        let p : parent_of v.tree.forest n ≡ parent_of w.forest n = parent-v ∙ ap (λ (f : Forest Content). parent_of f n) (sym k.forest) in
        let q : parent_of told.tree.forest n ≡ parent_of w.forest n = parent-told ∙ ap (λ (f : Forest Content). parent_of f n) (sym k.forest) in
        let t : tail ≡ tail_of w n offset = ap (λ (c : Content). drop offset c.text) content-told ∙ ap (λ (f : Forest Content). drop offset (content_in (entry_in f n)).text) (sym k.forest) in
        let same : in_turn w ≡ split_in_turn n offset w = (λ i. tail_moved n offset (m i) (q i) (t i) (data_record n (put_behind n (m i) (p i) (made_node (e i) (named Text []) (with_text (nothing i)) w)))) in
        same
        ∙ split-in-turn n offset w (forest-kept w k) (subst (λ f. HasNode f n) (sym k.forest) hn) (subst (λ (f : Forest Content). offset ≤ length (content_in (entry_in f n)).text) (sym k.forest) within)
      where
        forest-kept : (w : model.World) → Keeps old w → IsForest (record { forest = w.forest; made = w.made })
        forest-kept w k = subst (λ (g : Grove Content). IsForest g) (λ i. record { forest = sym k.forest i; made = sym k.made i }) h.forest

    pub follows-split : Follows old (end_world told n offset id) (split n offset)
    follows-split = follows-alike old (end_world told n offset id) in_turn (split n offset) turn-is follows-turn

    pub whole-split : IsWhole told → IsWhole (end_world told n offset id)
    whole-split k =
        let left = spliced offset (length (content_in (entry_in told.tree.forest n)).text - offset) [] (content_in (entry_in told.tree.forest n)).text in
        let alike = alike-twice told.tree.forest n id left tail in
        whole-sound (end_world told n offset id) (split n offset (unwatched old)) (follows-split.keeps (unwatched old) (keeps-unwatched old))
        (sound-split n offset (unwatched old) (sound-unwatched old h) (occurs-HasNode old.tree.forest n hn) text within)
        (documents-twice told.tree.forest n id left tail k.documents)
        (owners-twice told.tree.forest n id left tail k.owners)
        (covered-moved told n offset id (record told.tree { forest = tail_in n offset id told.tree.forest }) refl k.covered)
        (statics-kept told.tree.forest (tail_in n offset id told.tree.forest) (there-alike alike) told.statics k.statics)
        (held-kept told.tree.forest (tail_in n offset id told.tree.forest) told.observers (there-alike alike) k.observers)
