-- A Text takes in those that follow it: what the steps of the code come to.
use Rattle.std.proofs.Common.{◌≡◌, ℕ, true, List, [], length, Some, None, refl, ap, sym, ◌∙◌, subst, arith}
use Rattle.std.proofs.lemmas.Bool.Decides.{nat_tests}
use Rattle.dom_model.specs.declared.Kind.TheVariants.{Text}
use Rattle.dom_model.specs.Definitions.{Forest, entry_in, parent_of, Content, is_of_kind, content_in, data_of, cut_count, data_record, replace_units, replace_data, following_texts, joined_data, join_following, AreJoinable}
use Rattle.dom_model.specs.Worlds.World as model
use Rattle.dom_model.proofs.Forests.Entries.{occurs-HasNode}
use Rattle.dom_model.proofs.Soundness.SoundNormalizing.{joinable}
use Rattle.dom_edit.specs.{declared.world.World.World, Whole.IsWhole, Whole.Keeps, Whole.Follows, Whole.unwatched}
use Rattle.dom_edit.proofs.FollowsLemmas.{follows-then, keeps-unwatched}
use Rattle.dom_data.specs.JoinedTexts.{texts_behind, data_among, each_taken_in}
use Rattle.dom_data.proofs.{TextHeldLemmas.text-held, IsWholeLemmas.sound-unwatched, IsWholeLemmas.follows-alike, JoinedInTurn.joined_at_once, JoinedInTurn.watched_by, JoinedInTurn.in_turn, TakenInLemmas.joinable-kept}

-- Units behind the last one.

none-cut : (whole : ℕ) → cut_count whole whole 0 ≡ 0
none-cut whole = grind (arith, nat_tests)

abbrev pub appended : ℕ → List ℕ → model.World → model.World
appended n added w = replace_data n (length (data_of w n)) 0 added w

pub follows-appended : (old new : World) (n end : ℕ) (added : List ℕ) → end ≡ length (content_in (entry_in old.tree.forest n)).text
    → Follows old new (λ w. replace_units n end 0 added (data_record n w)) → Follows old new (appended n added)
follows-appended old new n end added e f =
    follows-alike old new (λ w. replace_units n end 0 added (data_record n w)) (appended n added)
    (λ w k.
    let same_end : end ≡ length (data_of w n) = e ∙ ap (λ (g : Forest Content). length (content_in (entry_in g n)).text) (sym k.forest) in
    (λ i. replace_units n (same_end i) (sym (none-cut (length (data_of w n))) i) added (data_record n w)))
    f

-- A root, which nothing follows.

pub follows-root : (old new : World) (n : ℕ) → parent_of old.tree.forest n ≡ None → Follows old new (appended n []) → Follows old new (λ w. join_following n (following_texts w n) w)
follows-root old new n e f =
    follows-alike old new (appended n []) (λ w. join_following n (following_texts w n) w)
    (λ w k. sym (ap (λ ts. join_following n ts w) (ap (λ (g : Forest Content). texts_behind g n) k.forest ∙ none)))
    f
  where
    none : texts_behind old.tree.forest n ≡ []
    none = rw e refl

-- A child, which others may follow.

module _ (old mid : World) (h : IsWhole old) (t p base : ℕ) (ts added : List ℕ) (text : is_of_kind Text old.tree.forest t ≡ true) (par : parent_of old.tree.forest t ≡ Some p) (listed : ts ≡ texts_behind old.tree.forest t) (gathered : added ≡ data_among old.tree.forest ts) (counted : base ≡ length (content_in (entry_in old.tree.forest t)).text) (f : Follows old mid (appended t added)) where
  abbrev joint : model.World
  joint = replace_data t base 0 added (unwatched old)

  joinable-joint : AreJoinable joint t p base ts
  joinable-joint =
      let v = unwatched old in
      let whole = length (data_of v t) in
      let first : AreJoinable (replace_data t whole 0 (joined_data v (following_texts v t)) v) t p whole (following_texts v t) = joinable t p v (sound-unwatched old h) text (occurs-HasNode old.tree.forest t (text-held old.tree.forest t text)) par in
      let second : AreJoinable (replace_data t whole 0 (joined_data v ts) v) t p whole ts = subst (λ ns. AreJoinable (replace_data t whole 0 (joined_data v ns) v) t p whole ns) (sym listed) first in
      let third : AreJoinable (replace_data t whole 0 added v) t p whole ts = subst (λ units. AreJoinable (replace_data t whole 0 units v) t p whole ts) (sym gathered) second in
      subst (λ l. AreJoinable (replace_data t l 0 added v) t p l ts) (sym counted) third

  keeps-joint : Keeps mid joint
  keeps-joint = subst (λ l. Keeps mid (replace_data t l 0 added (unwatched old))) (sym counted) (f.keeps (unwatched old) (keeps-unwatched old))

  pub joinable-mid : IsWhole mid → AreJoinable (unwatched mid) t p base ts
  joinable-mid whole = joinable-kept mid joint t p base ts keeps-joint whole joinable-joint

  joint-watched : (w : model.World) → Keeps old w → watched_by joint.observing (replace_data t base 0 added w) ≡ joint
  joint-watched w k = λ i. watched_by joint.observing (replace_data t base 0 added (record w {
    forest = k.forest i;
    made = k.made i;
    ranges = k.ranges i;
    iterators = k.iterators i;
    walkers = k.walkers i;
    static_ranges = k.static_ranges i;
  }))

  pub follows-joined : (new : World) → Follows mid new (each_taken_in t base ts) → Follows old new (λ w. join_following t (following_texts w t) w)
  follows-joined new g =
      follows-alike old new (λ w. each_taken_in t base ts (appended t added w)) (λ w. join_following t (following_texts w t) w) alike
      (follows-then old mid new (appended t added) (each_taken_in t base ts) f g)
    where
      alike : (w : model.World) → Keeps old w → each_taken_in t base ts (appended t added w) ≡ join_following t (following_texts w t) w
      alike w k =
          let same_length : base ≡ length (data_of w t) = counted ∙ ap (λ (g : Forest Content). length (content_in (entry_in g t)).text) (sym k.forest) in
          let same_texts : ts ≡ following_texts w t = listed ∙ ap (λ (g : Forest Content). texts_behind g t) (sym k.forest) in
          let same_data : added ≡ joined_data w (following_texts w t) = gathered ∙ ap (λ (g : Forest Content). data_among g ts) (sym k.forest) ∙ ap (joined_data w) same_texts in
          ap (λ l. each_taken_in t base ts (replace_data t l 0 added w)) (sym same_length)
          ∙ sym (in_turn (replace_data t base 0 added w) joint t p base ts (joint-watched w k) joinable-joint)
          ∙ (λ i. joined_at_once t (same_length i) (same_texts i) (replace_data t (same_length i) 0 (same_data i) w))
