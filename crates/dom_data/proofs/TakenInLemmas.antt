-- A Text that follows another is taken in: what the steps of the code come to, and what is whole after them.
use Rattle.std.proofs.Common.{◌≡◌, ℕ, ◌+◌, ◌^◌, ◌<◌, ◌≤◌, ◌==◌, ◌&&◌, Bool, true, false, if◌then◌else◌, List, [], ◌∷◌, drop, length, slice_index_or, Option, Some, All, refl, ap, sym, ◌∙◌, subst, length-append, length-drop, arith, IfSome}
use Rattle.std.proofs.lemmas.List.{drop_more}
use Rattle.dom_model.specs.declared.Kind.TheVariants.{Text}
use Rattle.dom_model.specs.Definitions.{among, is_character_data, Forest, HasNode, entry_in, parent_of, children_of, index_of, unit_count, node_length, Content, Point, Range, IsBoundary, IsRange, after_merge, map_ranges, kind_passes, is_of_kind, remove, content_in, data_of, joined_data, merged_ends, Lives, AreUpTo, AreJoinable}
use Rattle.dom_model.specs.Worlds.World as model
use Rattle.dom_model.proofs.PlainLists.Numbers.{same_or, same, apart}
use Rattle.dom_model.proofs.Forests.Entries.{HasNode-occurs}
use Rattle.dom_model.proofs.Soundness.{SoundData.length-data, SoundSplitting.text_has_data, SoundJoining.is_child, SoundJoining.is_there, SoundJoining.first_in, SoundJoining.text_first, SoundJoining.merged_is, SoundJoining.moved, SoundJoining.sound-merged_ranges, SoundJoining.left, SoundJoining.joinable_left}
use Rattle.dom_ranges.specs.Tables.{RangeTable, OffsetsFit, live_nodes}
use Rattle.dom_edit.specs.{declared.world.World.World, Whole.CoversHeld, Whole.IsWhole, Whole.Keeps, Whole.Follows, Whole.unwatched}
use Rattle.dom_edit.proofs.FollowsLemmas.{follows-none, follows-then, keeps-unwatched, whole-sound}
use Rattle.dom_data.specs.JoinedTexts.{data_among, taken_in, each_taken_in}
use Rattle.dom_data.proofs.{IsWholeLemmas.sound-unwatched, IsWholeLemmas.follows-alike, MovedOffsets.offsets-fit, UnneededIndexLemmas.unfelt}

-- Texts that can be joined in a world can be in what the code keeps of it
pub joinable-kept : (v : World) (w : model.World) (t p base : ℕ) (ts : List ℕ) → Keeps v w → IsWhole v → AreJoinable w t p base ts → AreJoinable (unwatched v) t p base ts
joinable-kept v w t p base ts k h j = record {
  sound = sound-unwatched v h;
  text = ap (λ f. is_of_kind Text f t) (sym k.forest) ∙ j.text;
  ahead = j.ahead;
  behind = j.behind;
  listed = ap (λ f. children_of f p) (sym k.forest) ∙ j.listed;
  texts = λ m l. ap (λ f. is_of_kind Text f m) (sym k.forest) ∙ j.texts m l;
  room = subst (λ (f : Forest Content). base + length (data_among f ts) ≤ length (content_in (entry_in f t)).text) k.forest j.room;
  up_to = subst (λ rs. Lives (AreUpTo t base) rs) k.ranges j.up_to;
}

-- ends that move into a Text fit
merge-fits : (f : Forest Content) (from into base parent index : ℕ) → kind_passes is_character_data f from ≡ true → base + length (content_in (entry_in f from)).text < 2 ^ 64
    → (ranges : List (Option Range)) → All (λ (r : Option Range). IfSome r (IsRange f)) ranges → OffsetsFit (after_merge from into base parent index) ranges
merge-fits f from into base parent index kind small = offsets-fit f (after_merge from into base parent index) fits
  where
    fits : (p : Point) → IsBoundary f p → p.offset < 2 ^ 64 → (after_merge from into base parent index p).offset < 2 ^ 64
    fits p b lt =
        elim (same_or p.node from) [
          | same e t ↦
              let within : p.offset ≤ length (content_in (entry_in f from)).text = subst (λ l. p.offset ≤ l) (length-data f from kind) (subst (λ m. p.offset ≤ node_length unit_count f m) e b.within) in
              rw t (omega arith)
          | apart ne t ↦ rw t (go ((p.node == parent) && (p.offset == index)))
        ]
      where
        go : (v : Bool) → (if v then record { node = into; offset = base } else p).offset < 2 ^ 64
        go true = omega arith
        go false = lt

-- where no end stands in the parent, the index matters to none
merge-apart : (from into base parent i j : ℕ) (q : Point) → (q.node == parent) ≡ false → after_merge from into base parent i q ≡ after_merge from into base parent j q
merge-apart from into base parent i j q e = rw e refl

module _ (old : World) (h : IsWhole old) (t p base first : ℕ) (ts : List ℕ) (j : AreJoinable (unwatched old) t p base (first ∷ ts)) where
  pub first-held : HasNode old.tree.forest first
  first-held = HasNode-occurs old.tree.forest first (is_there (unwatched old) t p base first ts j first (first_in (unwatched old) t p base first ts j))

  first-child : parent_of old.tree.forest first ≡ Some p
  first-child = is_child (unwatched old) t p base first ts j first (first_in (unwatched old) t p base first ts j)

  -- its data has room behind what came in
  pub first-room : base + length (content_in (entry_in old.tree.forest first)).text ≤ length (content_in (entry_in old.tree.forest t)).text
  first-room = let r = j.room in let l = length-append (data_of (unwatched old) first) (joined_data (unwatched old) ts) in omega arith

  pub first-fits : length (content_in (entry_in old.tree.forest t)).text < 2 ^ 64 → (index : ℕ) → OffsetsFit (after_merge first t base p index) old.ranges.ranges
  first-fits small index =
      merge-fits old.tree.forest first t base p index (text_has_data (unwatched old) first (text_first (unwatched old) t p base first ts j)) (let r = first-room in omega arith) old.ranges.ranges h.ranges

  module _ (ranges : RangeTable) (index : ℕ) (counted : among p (live_nodes old.ranges) ≡ true → index ≡ index_of old.tree.forest first) (e : ranges ≡ record old.ranges { ranges = map_ranges (after_merge first t base p index) old.ranges.ranges }) where
    abbrev merged : World
    merged = record old { ranges = ranges }

    ranges_are : ranges.ranges ≡ map_ranges (after_merge first t base p (index_of old.tree.forest first)) old.ranges.ranges
    ranges_are = ap (λ (r : RangeTable). r.ranges) e ∙ unfelt (after_merge first t base p) old.ranges p index (index_of old.tree.forest first)
        (merge-apart first t base p index (index_of old.tree.forest first)) counted

    pub whole-merged : IsWhole merged
    whole-merged =
        whole-sound merged (moved (unwatched old) t p base first ts j)
        (record { forest = refl; made = refl; ranges = sym ranges_are; static_ranges = refl; iterators = refl; walkers = refl })
        (sound-merged_ranges (unwatched old) t p base first ts j)
        h.documents h.owners (subst (CoversHeld old.tree) (sym (ap (λ (r : RangeTable). r.covered) e)) h.covered) h.statics h.observers

    follows-merged : Follows old merged (λ w. merged_ends first t base (parent_of w.forest first) w)
    follows-merged =
        follows-alike old merged (λ w. record w { ranges = map_ranges (after_merge first t base p (index_of w.forest first)) w.ranges }) (λ w. merged_ends first t base (parent_of w.forest first) w)
        (λ w k. sym (ap (λ o. merged_ends first t base o w) (ap (λ f. parent_of f first) k.forest ∙ first-child)))
        (record {
          keeps = λ w k. record {
            forest = k.forest;
            made = k.made;
            ranges = (λ i. map_ranges (after_merge first t base p (index_of (k.forest i) first)) (k.ranges i)) ∙ sym ranges_are;
            static_ranges = k.static_ranges;
            iterators = k.iterators;
            walkers = k.walkers;
          };
          watches = λ w k o. o;
        })

    pub follows-taken : (new : World) → Follows merged new (remove false first) → Follows old new (taken_in t base first)
    follows-taken new f = follows-then old merged new (λ w. merged_ends first t base (parent_of w.forest first) w) (remove false first) follows-merged f

  -- the rest can be joined then
  pub joinable-rest : (new : World) → IsWhole new → Follows old new (taken_in t base first) → AreJoinable (unwatched new) t p (base + length (content_in (entry_in old.tree.forest first)).text) ts
  joinable-rest new whole f =
      joinable-kept new (left (unwatched old) t p base first ts j) t p (base + length (content_in (entry_in old.tree.forest first)).text) ts
      (subst (Keeps new) (ap (remove false first) (merged_is (unwatched old) t p base first ts j)) (f.keeps (unwatched old) (keeps-unwatched old)))
      whole (joinable_left (unwatched old) t p base first ts j)

-- The rest in turn.

-- the Texts still to come can be joined, and once they are all are
pub record IsTaking (initial here : World) (t p base : ℕ) (texts : List ℕ) (i further : ℕ) : Type 0 where
  pub whole : IsWhole here
  pub joinable : AreJoinable (unwatched here) t p further (drop i texts)
  pub rest : (final : World) → Follows here final (each_taken_in t further (drop i texts)) → Follows initial final (each_taken_in t base texts)

pub taking-first : (v : World) (t p base : ℕ) (texts : List ℕ) → IsWhole v → AreJoinable (unwatched v) t p base texts → IsTaking v v t p base texts 0 base
taking-first v t p base texts h j = record { whole = h; joinable = j; rest = λ final f. f }

module _ (initial here : World) (t p base : ℕ) (texts : List ℕ) (i further : ℕ) (k : IsTaking initial here t p base texts i further) where
  taking-listed : (x : ℕ) → x ≡ slice_index_or texts i x → i < length texts → drop i texts ≡ x ∷ drop (i + 1) texts
  taking-listed x is lt = drop_more texts i x lt ∙ ap (λ y. y ∷ drop (i + 1) texts) (sym is)

  pub taking-text : (x : ℕ) → x ≡ slice_index_or texts i x → i < length texts → AreJoinable (unwatched here) t p further (x ∷ drop (i + 1) texts)
  taking-text x is lt = subst (λ ns. AreJoinable (unwatched here) t p further ns) (taking-listed x is lt) k.joinable

  pub taking-next : (next : World) (x longer : ℕ) → x ≡ slice_index_or texts i x → i < length texts → longer ≡ further + length (content_in (entry_in here.tree.forest x)).text → Follows here next (taken_in t further x) → IsWhole next → IsTaking initial next t p base texts (i + 1) longer
  taking-next next x longer is lt e f h =
      let rest = drop (i + 1) texts in
      record {
        whole = h;
        joinable = subst (λ l. AreJoinable (unwatched next) t p l rest) (sym e) (joinable-rest here k.whole t p further x rest (taking-text x is lt) next h f);
        rest = λ final g.
            k.rest final (subst (λ ns. Follows here final (each_taken_in t further ns)) (sym (taking-listed x is lt))
            (follows-alike here final (λ w. each_taken_in t longer rest (taken_in t further x w)) (each_taken_in t further (x ∷ rest))
            (λ w kept. ap (λ l. each_taken_in t l rest (taken_in t further x w)) (e ∙ ap (λ (f : Forest Content). further + length (content_in (entry_in f x)).text) (sym kept.forest)))
            (follows-then here next final (taken_in t further x) (each_taken_in t longer rest) f g)));
      }

  no_more : (xs : List ℕ) → length xs ≡ 0 → xs ≡ []
  no_more [] e = refl
  no_more (x ∷ xs) e = absurd (omega arith)

  pub taking-end : length texts ≤ i → Follows initial here (each_taken_in t base texts)
  taking-end le =
      let e = no_more (drop i texts) (let l = length-drop i texts in omega arith) in
      k.rest here (subst (λ ns. Follows here here (each_taken_in t further ns)) (sym e) (follows-none here))
