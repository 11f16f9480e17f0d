-- Steps that change the table of live ranges, or that of static ranges, and nothing else.
use Rattle.std.proofs.Common.{◌≡◌, ℕ, true, false, List, Option, Some, None, All, refl, sym, ap, subst, IfSome, is_some, slice_set}
use Rattle.dom_model.specs.Worlds.World as model
use Rattle.dom_model.specs.Definitions.{Range, IsSound, Command, is_refusal, Bounds, Step, answer}
use Rattle.dom_model.proofs.Soundness.SoundAnswers.{sound-answer}
use Rattle.dom_ranges.specs.Tables.{RangeTable}
use Rattle.dom_edit.specs.{declared.world.World.World, Whole.CoversHeld, Whole.IsWhole, Whole.Shows, Whole.IsShown, Whole.Follows, Whole.AreHeld}
use Rattle.dom_edit.proofs.FollowsLemmas.{whole-sound}
use Rattle.dom_commands.specs.{declared.reply.Reply.Reply, Views.reply_view}
use Rattle.dom_session.specs.{SessionViews.IsStep}
use Rattle.dom_session.proofs.GuardedLemmas.{step-follows, step-stays}

-- other live ranges, under the same cover
pub follows-ranges : (v : World) (t : RangeTable) (rs : List (Option Range)) → t ≡ record v.ranges { ranges = rs } → Follows v (record v { ranges = t }) (λ w. record w { ranges = rs })
follows-ranges v t rs is = record {
  keeps = λ w k. record { forest = k.forest; made = k.made; ranges = sym (ap (λ (u : RangeTable). u.ranges) is); static_ranges = k.static_ranges; iterators = k.iterators; walkers = k.walkers };
  watches = λ w k o. o;
}

pub follows-statics : (v : World) (t ss : List (Option Range)) → t ≡ ss → Follows v (record v { statics = t }) (λ w. record w { static_ranges = ss })
follows-statics v t ss is = record {
  keeps = λ w k. record { forest = k.forest; made = k.made; ranges = k.ranges; static_ranges = sym is; iterators = k.iterators; walkers = k.walkers };
  watches = λ w k o. o;
}

module _ (b : Bounds) (c : Command) (reply : Reply) where
  -- the answer of a world that is shown leaves a sound one
  sound-next : (v : World) (s : IsShown v) (w : model.World) → answer b s.stands_for c ≡ record { reply = reply_view reply; world = w } → IsSound w
  sound-next v s w e =
      let P : model.World → Type 0 = λ u. IsSound u in
      subst P (ap (λ (x : Step). x.world) e) (sound-answer b s.stands_for c s.shows.sound)

  -- a command that puts other live ranges in the place of the old
  pub step-ranges : (v : World) (t : RangeTable) (rs : List (Option Range)) → is_refusal (reply_view reply) ≡ false → IsShown v → t ≡ record v.ranges { ranges = rs } → ((w : model.World) → Shows v w → answer b w c ≡ record { reply = reply_view reply; world = record w { ranges = rs } }) → IsStep v (record v { ranges = t }) b c reply
  step-ranges v t rs done s is e =
      let u = s.stands_for in
      let next : model.World = record u { ranges = rs } in
      let f = follows-ranges v t rs is in
      let covers : CoversHeld v.tree t.covered = subst (CoversHeld v.tree) (sym (ap (λ (x : RangeTable). x.covered) is)) s.shows.whole.covered in
      let whole : IsWhole (record v { ranges = t }) =
      whole-sound (record v { ranges = t }) next (f.keeps u s.shows.keeps) (sound-next v s next (e u s.shows)) s.shows.whole.documents s.shows.whole.owners covers s.shows.whole.statics s.shows.whole.observers in
      step-follows b c reply v (record v { ranges = t }) (λ w. record w { ranges = rs }) done e f whole

  -- a command that sets one live range, to what becomes of a range that is given
  pub step-set : (v : World) (t : RangeTable) (r : ℕ) (o : Option Range) (change : Range → Range) → is_refusal (reply_view reply) ≡ false → IsShown v → is_some o ≡ true → IfSome o (λ range. t ≡ record v.ranges { ranges = slice_set v.ranges.ranges r (Some (change range)) }) → ((range : Range) → o ≡ Some range → (w : model.World) → Shows v w → answer b w c ≡ record { reply = reply_view reply; world = record w { ranges = slice_set v.ranges.ranges r (Some (change range)) } }) → IsStep v (record v { ranges = t }) b c reply
  step-set v t r None change done s there is e = absurd (cc there)
  step-set v t r (Some range) change done s there is e = step-ranges v t (slice_set v.ranges.ranges r (Some (change range))) done s is (e range refl)

  -- a command that is refused by the table of live ranges
  pub step-refused : (v : World) (t : RangeTable) → t ≡ v.ranges → ((w : model.World) → Shows v w → answer b w c ≡ record { reply = reply_view reply; world = w }) → IsStep v (record v { ranges = t }) b c reply
  step-refused v t is e =
      let P : RangeTable → Type 0 = λ u. IsStep v (record v { ranges = u }) b c reply in
      subst P (sym is) (step-stays b c reply v e)

  -- a command that puts other static ranges in the place of the old
  pub step-statics : (v : World) (t ss : List (Option Range)) → is_refusal (reply_view reply) ≡ false → IsShown v → t ≡ ss → All (λ (o : Option Range). IfSome o (AreHeld v.tree.forest)) ss → ((w : model.World) → Shows v w → answer b w c ≡ record { reply = reply_view reply; world = record w { static_ranges = ss } }) → IsStep v (record v { statics = t }) b c reply
  step-statics v t ss done s is held e =
      let u = s.stands_for in
      let next : model.World = record u { static_ranges = ss } in
      let f = follows-statics v t ss is in
      let kept : All (λ (o : Option Range). IfSome o (AreHeld v.tree.forest)) t = subst (λ xs. All (λ (o : Option Range). IfSome o (AreHeld v.tree.forest)) xs) (sym is) held in
      let whole : IsWhole (record v { statics = t }) =
      whole-sound (record v { statics = t }) next (f.keeps u s.shows.keeps) (sound-next v s next (e u s.shows)) s.shows.whole.documents s.shows.whole.owners s.shows.whole.covered kept s.shows.whole.observers in
      step-follows b c reply v (record v { statics = t }) (λ w. record w { static_ranges = ss }) done e f whole
