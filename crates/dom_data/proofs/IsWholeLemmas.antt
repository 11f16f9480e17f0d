-- What is whole after steps that keep numbers, labels and node documents.
use Rattle.std.proofs.Common.{◌≡◌, ℕ, ◌+◌, ◌-◌, ◌≤◌, min, true, List, length, refl, ap, sym, ◌∙◌, subst, arith}
use Rattle.dom_model.specs.declared.Kind.TheVariants.{Document}
use Rattle.dom_model.specs.Definitions.{is_kind, is_character_data, Node, Forest, Grove, empty, node, occurs, entry_in, with_node, HasOneDocument, IsInDocument, Content, IsSound, spliced, map_ranges, after_splice, kind_passes, is_of_kind, content_in, data_of, with_data, replace_units, cut_count, data_record, replace_data, set_data, attributes_of, with_attributes, attribute_record, set_attribute, has_attribute, remove_attribute_if, Attribute, with_attribute, without_attribute, HasOwners, IsOwned}
use Rattle.dom_model.specs.Worlds.World as model
use Rattle.dom_model.proofs.Soundness.{SoundData.sound-replace_units, SoundData.sound-set_attribute, SoundData.sound-remove_attribute, SoundWorlds.statics-kept}
use Rattle.dom_ranges.specs.Tables.{RangeTable}
use Rattle.dom_model.proofs.PlainLists.Numbers.{same_or, same, apart}
use Rattle.dom_model.proofs.Worlds.SameShape.{bare_node, with_node-alike, kind-alike, occurs-alike}
use Rattle.dom_model.proofs.RangesAndContents.RangesSpliced.{there-alike}
use Rattle.dom_edit.specs.{declared.world.World.World, Whole.CoversHeld, Whole.IsWhole, Whole.Keeps, Whole.Follows, Whole.unwatched}
use Rattle.dom_observe.specs.Watchers.{Watchers, Watches}
use Rattle.dom_observe.proofs.NamesHeldLemmas.{held-kept}
use Rattle.std.proofs.lemmas.Bool.Decides.{nat_tests}
use Rattle.dom_edit.proofs.{FollowsLemmas.whole-sound, CoversHeldLemmas.covered-kept}
use Rattle.dom_data.proofs.ChangedBodies.{EachNode-with_node}
pub use Rattle.dom_edit.proofs.FollowsLemmas.{sound-unwatched}

module _ (n : ℕ) (change : Node Content → Node Content) (keeps : (x : Node Content) → bare_node (change x) ≡ bare_node x) (stays : (x : Node Content) → (change x).document ≡ x.document) where
  pub documents-with_node : (f : Forest Content) → HasOneDocument f → HasOneDocument (with_node n change f)
  documents-with_node empty h = tt
  documents-with_node (node x kids rest) h =
      let inside : IsInDocument x.document (with_node n change kids) =
      EachNode-with_node (λ (y : Node Content). y.document ≡ x.document) (λ (y : Node Content). y.document ≡ x.document) n change (λ y e. e) (λ y e. stays y ∙ e) kids h.0 in
      elim (same_or x.number n) [
        | same e t ↦ rw t (subst (λ d. IsInDocument d (with_node n change kids)) (sym (stays x)) inside, documents-with_node rest h.1)
        | apart ne t ↦ rw t (inside, documents-with_node rest h.1)
      ]

  pub owners-with_node : (f : Forest Content) → HasOwners f → HasOwners (with_node n change f)
  owners-with_node f h =
      let g = with_node n change f in
      let kinds = kind-alike (with_node-alike change keeps n f) (is_kind Document) in
      EachNode-with_node (IsOwned f) (IsOwned g) n change (λ x e. kinds x.document ∙ e) (λ x e. kinds (change x).document ∙ ap (is_of_kind Document f) (stays x) ∙ e) f h

  -- a node is changed, and ends move
  pub whole-with_node : (old new : World) (w : model.World) → IsWhole old → Keeps new w → IsSound w
      → new.tree.forest ≡ with_node n change old.tree.forest → new.tree.made ≡ old.tree.made → new.ranges.covered ≡ old.ranges.covered → new.statics ≡ old.statics → new.observers ≡ old.observers → IsWhole new
  whole-with_node old new w h k s forest made covered statics observers =
      let a = with_node-alike change keeps n old.tree.forest in
      whole-sound new w k s
      (subst HasOneDocument (sym forest) (documents-with_node old.tree.forest h.documents))
      (subst HasOwners (sym forest) (owners-with_node old.tree.forest h.owners))
      (subst (CoversHeld new.tree) (sym covered)
      (covered-kept old.tree new.tree old.ranges.covered (λ m. let z : occurs m new.tree.forest ≡ occurs m old.tree.forest = ap (occurs m) forest ∙ occurs-alike a m in omega arith) made h.covered))
      (rw (forest, statics) (statics-kept old.tree.forest (with_node n change old.tree.forest) (there-alike a) old.statics h.statics))
      (rw (forest, observers) (held-kept old.tree.forest (with_node n change old.tree.forest) old.observers (there-alike a) h.observers))

-- units are replaced, and ends move
pub whole-replaced : (old told new : World) (n offset count : ℕ) (added : List ℕ) → IsWhole told → told ≡ record old { observers = told.observers }
    → kind_passes is_character_data old.tree.forest n ≡ true → offset + count ≤ length (data_of (unwatched old) n)
    → new.tree ≡ record told.tree { forest = with_node n (with_data (spliced offset count added (data_of (unwatched told) n))) told.tree.forest }
    → new.ranges ≡ record told.ranges { ranges = map_ranges (after_splice n offset count (length added)) told.ranges.ranges }
    → new.statics ≡ told.statics → new.iterators ≡ told.iterators → new.walkers ≡ told.walkers → new.observers ≡ told.observers → IsWhole new
whole-replaced old told new n offset count added whole e kind within tree ranges statics iterators walkers observers =
    let forests = ap (λ (v : World). v.tree.forest) e in
    let kind2 = subst (λ f. kind_passes is_character_data f n ≡ true) (sym forests) kind in
    let within2 = subst (λ f. offset + count ≤ length (content_in (entry_in f n)).text) (sym forests) within in
    whole-with_node n (with_data (spliced offset count added (data_of (unwatched told) n))) (λ x. refl) (λ x. refl) told new
    (replace_units n offset count added (unwatched told)) whole
    (record {
      forest = sym (ap (λ (g : Grove Content). g.forest) tree);
      made = sym (ap (λ (g : Grove Content). g.made) tree);
      ranges = sym (ap (λ (t : RangeTable). t.ranges) ranges);
      static_ranges = sym statics;
      iterators = sym iterators;
      walkers = sym walkers;
    })
    (sound-replace_units n offset count added (unwatched told) (sound-unwatched told whole) kind2 within2)
    (ap (λ (g : Grove Content). g.forest) tree) (ap (λ (g : Grove Content). g.made) tree) (ap (λ (t : RangeTable). t.covered) ranges) statics observers

-- steps that come to the same where the old world's parts are kept
pub follows-alike : (old new : World) (a b : model.World → model.World) → ((w : model.World) → Keeps old w → a w ≡ b w) → Follows old new a → Follows old new b
follows-alike old new a b alike f = record {
  keeps = λ w k. subst (Keeps new) (alike w k) (f.keeps w k);
  watches = λ w k o. subst (λ (u : model.World). Watches new.observers u.observing) (alike w k) (f.watches w k o);
}

-- the whole data replaced
pub whole-cut : (whole : ℕ) → cut_count whole 0 whole ≡ whole
whole-cut whole = grind (arith, nat_tests)

pub count-cut : (whole offset count : ℕ) → offset ≤ whole → min count (whole - offset) ≡ cut_count whole offset count
count-cut whole offset count h = grind (arith, nat_tests)

-- a count that is cut, as the definitions cut it
pub follows-cut : (old new : World) (n offset count cut : ℕ) (added : List ℕ) → cut ≡ cut_count (length (data_of (unwatched old) n)) offset count
    → Follows old new (λ w. replace_units n offset cut added (data_record n w)) → Follows old new (replace_data n offset count added)
follows-cut old new n offset count cut added e f =
    follows-alike old new (λ w. replace_units n offset cut added (data_record n w)) (replace_data n offset count added)
    (λ w k. ap (λ c. replace_units n offset c added (data_record n w)) (e ∙ ap (λ g. cut_count (length (content_in (entry_in g n)).text) offset count) (sym k.forest))) f

pub follows-set : (old new : World) (n whole : ℕ) (text : List ℕ) → whole ≡ length (data_of (unwatched old) n)
    → Follows old new (λ w. replace_units n 0 whole text (data_record n w)) → Follows old new (set_data n text)
follows-set old new n whole text e f =
    follows-alike old new (λ w. replace_units n 0 whole text (data_record n w)) (set_data n text)
    (λ w k.
    let same_length = e ∙ ap (λ g. length (content_in (entry_in g n)).text) (sym k.forest) in
    ap (λ c. replace_units n 0 c text (data_record n w)) (same_length ∙ sym (whole-cut (length (data_of w n)))))
    f

-- Attributes change, and nothing else.

module _ (old told new : World) (n : ℕ) (name : List ℕ) (h : IsWhole told) (e : told ≡ record old { observers = told.observers }) (ranges : new.ranges ≡ told.ranges) (statics : new.statics ≡ told.statics) (iterators : new.iterators ≡ told.iterators) (walkers : new.walkers ≡ told.walkers) (observers : new.observers ≡ told.observers) where
  whole-attributes : (attributes : List Attribute) (w : model.World) → IsSound w → w.forest ≡ with_node n (with_attributes attributes) told.tree.forest → w.made ≡ told.tree.made → w.ranges ≡ told.ranges.ranges → w.static_ranges ≡ told.statics → w.iterators ≡ told.iterators → w.walkers ≡ told.walkers
      → new.tree ≡ record told.tree { forest = with_node n (with_attributes attributes) told.tree.forest } → IsWhole new
  whole-attributes attributes w s forest made live fixed references marks tree =
      whole-with_node n (with_attributes attributes) (λ x. refl) (λ x. refl) told new w h
      (record {
        forest = forest ∙ sym (ap (λ (g : Grove Content). g.forest) tree);
        made = made ∙ sym (ap (λ (g : Grove Content). g.made) tree);
        ranges = live ∙ sym (ap (λ (t : RangeTable). t.ranges) ranges);
        static_ranges = fixed ∙ sym statics;
        iterators = references ∙ sym iterators;
        walkers = marks ∙ sym walkers;
      })
      s (ap (λ (g : Grove Content). g.forest) tree) (ap (λ (g : Grove Content). g.made) tree) (ap (λ (t : RangeTable). t.covered) ranges) statics observers

  pub whole-set_attribute : (value : List ℕ) → new.tree ≡ record told.tree { forest = with_node n (with_attributes (with_attribute name value (attributes_of (unwatched told) n))) told.tree.forest } → IsWhole new
  whole-set_attribute value tree =
      whole-attributes (with_attribute name value (attributes_of (unwatched told) n)) (set_attribute n name value (unwatched told))
      (sound-set_attribute n name value (unwatched told) (sound-unwatched told h)) refl refl refl refl refl refl tree

  -- the attribute is set after its record was queued
  pub follows-set_attribute : (value : List ℕ) → Follows old told (attribute_record n name) → new.tree ≡ record told.tree { forest = with_node n (with_attributes (with_attribute name value (attributes_of (unwatched told) n))) told.tree.forest } → Follows old new (set_attribute n name value)
  follows-set_attribute value f tree = record {
    keeps = λ w k.
        let t = f.keeps w k in
        record {
          forest = ap (λ (g : Forest Content). with_node n (with_attributes (with_attribute name value (content_in (entry_in g n)).attributes)) g) t.forest ∙ sym (ap (λ (g : Grove Content). g.forest) tree);
          made = t.made ∙ sym (ap (λ (g : Grove Content). g.made) tree);
          ranges = t.ranges ∙ sym (ap (λ (t : RangeTable). t.ranges) ranges);
          static_ranges = t.static_ranges ∙ sym statics;
          iterators = t.iterators ∙ sym iterators;
          walkers = t.walkers ∙ sym walkers;
        };
    watches = λ w k o. subst (λ (x : Watchers). Watches x (attribute_record n name w).observing) (sym observers) (f.watches w k o);
  }

  pub whole-remove_attribute : has_attribute (unwatched old) n name ≡ true → new.tree ≡ record told.tree { forest = with_node n (with_attributes (without_attribute name (attributes_of (unwatched told) n))) told.tree.forest } → IsWhole new
  whole-remove_attribute there tree =
      let has : has_attribute (unwatched told) n name ≡ true = ap (λ (v : World). has_attribute (unwatched v) n name) e ∙ there in
      whole-attributes (without_attribute name (attributes_of (unwatched told) n)) (remove_attribute_if true n name (unwatched told))
      (subst (λ b. IsSound (remove_attribute_if b n name (unwatched told))) has (sound-remove_attribute n name (unwatched told) (sound-unwatched told h))) refl refl refl refl refl refl tree
