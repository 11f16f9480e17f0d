-- Worlds without some observers: steps that answer alike, and the forms that commands share.
use Rattle.std.proofs.Common.{◌≡◌, ℕ, Bool, true, false, List, [], ◌∷◌, Option, Some, None, refl}
use Rattle.dom_model.specs.Definitions.{Entry, Node, Content, Point, Range, World, Reply, Step, guarded, checked, described, on_range, at_point, at_ends, done_or_refused, with_object, static_told, Outcome}
use Rattle.dom_model.specs.declared.DomError.{DomError}
use Rattle.dom_model.proofs.Erasure.{ErasedWorlds.Without, ErasedWorlds.without, ErasedWrapping.AlikeOutcome, ErasedWrapping.both_done, ErasedWrapping.both_refused}

module _ (erased : ℕ → Bool) (watched : Bool) where
  -- one reply, and the second world is the first one without the erased observers
  pub record Alike (s t : Step) : Type 0 where
    pub reply : t.reply ≡ s.reply
    pub world : Without erased watched s.world t.world

  pub replies-left : (r : Reply) {x y : World} → Without erased watched x y → Alike (record { reply = r; world = x }) (record { reply = r; world = y })
  replies-left r h = record { reply = refl; world = h }

  -- Refusals in their order.

  pub guarded-left : (cs : List (Bool × Reply)) {x y : World} {s t : Step} → Without erased watched x y → Alike s t → Alike (guarded cs x s) (guarded cs y t)
  guarded-left [] h k = k
  guarded-left ((true, r) ∷ cs) h k = replies-left r h
  guarded-left ((false, r) ∷ cs) h k = guarded-left cs h k

  pub checked-left : (e : Option DomError) {x y : World} {s t : Step} → Without erased watched x y → Alike s t → Alike (checked e x s) (checked e y t)
  checked-left None h k = k
  checked-left (Some e) h k = record { reply = refl; world = h }

  -- Steps for what may not be there.

  pub on_range-left : (range : Option Range) {x y : World} {s t : Range → Step} → Without erased watched x y → ((range : Range) → Alike (s range) (t range)) → Alike (on_range range x s) (on_range range y t)
  on_range-left None h k = record { reply = refl; world = h }
  on_range-left (Some range) h k = k range

  pub at_point-left : (p : Option Point) {x y : World} {s t : Point → Step} → Without erased watched x y → ((p : Point) → Alike (s p) (t p)) → Alike (at_point p x s) (at_point p y t)
  at_point-left None h k = record { reply = refl; world = h }
  at_point-left (Some p) h k = k p

  pub at_ends-left : (ends : Option Range) {x y : World} {s t : Range → Step} → Without erased watched x y → ((ends : Range) → Alike (s ends) (t ends)) → Alike (at_ends ends x s) (at_ends ends y t)
  at_ends-left None h k = record { reply = refl; world = h }
  at_ends-left (Some ends) h k = k ends

  pub with_object-left : {A : Type 0} (object : Option A) {x y : World} {s t : A → Step} → Without erased watched x y → ((a : A) → Alike (s a) (t a)) → Alike (with_object object x s) (with_object object y t)
  with_object-left None h k = record { reply = refl; world = h }
  with_object-left (Some a) h k = k a

  pub described-left : (n : ℕ) (e : Option (Entry (Node Content))) {x y : World} → Without erased watched x y → Alike (described x n e) (described y n e)
  described-left n None h = record { reply = refl; world = h }
  described-left n (Some e) (without o v h) = record { reply = refl; world = without o v h }

  pub static_told-left : (range : Option Range) {x y : World} → Without erased watched x y → Alike (static_told x range) (static_told y range)
  static_told-left None h = record { reply = refl; world = h }
  static_told-left (Some range) (without o v h) = record { reply = refl; world = without o v h }

  -- A step in the first world alone, which the second does not meet.

  pub guarded-alone : (cs : List (Bool × Reply)) (x y : World) (s : Step) → Without erased watched x y → Without erased watched s.world y → Without erased watched (guarded cs x s).world y
  guarded-alone [] x y s h k = k
  guarded-alone ((true, r) ∷ cs) x y s h k = h
  guarded-alone ((false, r) ∷ cs) x y s h k = guarded-alone cs x y s h k

  pub checked-alone : (e : Option DomError) (x y : World) (s : Step) → Without erased watched x y → Without erased watched s.world y → Without erased watched (checked e x s).world y
  checked-alone None x y s h k = k
  checked-alone (Some e) x y s h k = h

module _ (erased : ℕ → Bool) where
  pub done_or_refused-left : (s t : Outcome) → AlikeOutcome erased s t → {x y : World} → Without erased true x y → Alike erased true (done_or_refused s x) (done_or_refused t y)
  done_or_refused-left _ _ (both_done k) h = record { reply = refl; world = k }
  done_or_refused-left _ _ (both_refused e) h = record { reply = refl; world = h }
