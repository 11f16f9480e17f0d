-- Notify is its steps: the pending observers are taken, each of them is told in order, and then every transient registration that is left goes.
-- DOM Standard, "notify mutation observers".
use Rattle.std.proofs.Common.{arith, ◌≡◌, ℕ, Bool, true, false, not, List, [], ◌∷◌, map, length, refl, ap, sym, filter, flat_map, drop, cond, is_none}
use Rattle.std.specs.Prelude.{⊤}
use Rattle.dom_model.specs.Definitions.{among, left_out, Registration, Observing, has_observer, queue_of, observers_of, each_once, pending_of, told_in, has_records, notifications, moved_to, after_notify, pending_taken, is_transient_of, observer_told, told_in_turn, answers_in_turn, transients_ended}
use Rattle.dom_model.proofs.PlainLists.Numbers.{Same, same_or, same, apart}
use Rattle.dom_model.proofs.MutationObservers.Queues.{queue-kept}

-- no number stands twice
abbrev AreApart : List ℕ → Type 0
AreApart [] = ⊤
AreApart (n ∷ ns) = (among n ns ≡ false) × AreApart ns

not_left : (c n : ℕ) (ns : List ℕ) → among n ns ≡ false → among n (left_out c ns) ≡ false
not_left c n [] h = h
not_left c n (m ∷ ns) h = grind (arith, not_left c n ns)

gone : (n : ℕ) (ns : List ℕ) → among n (left_out n ns) ≡ false
gone n [] = refl
gone n (m ∷ ns) = grind (arith, gone n ns)

apart-left_out : (c : ℕ) (ns : List ℕ) → AreApart ns → AreApart (left_out c ns)
apart-left_out c [] h = tt
apart-left_out c (n ∷ ns) h = go (same_or n c) (apart-left_out c ns h.1)
  where
    go : Same n c → AreApart (left_out c ns) → AreApart (left_out c (n ∷ ns))
    go (same e t) i = rw t i
    go (apart ne t) i = rw t (not_left c n ns h.0, i)

apart-each_once : (ns : List ℕ) → AreApart (each_once ns)
apart-each_once [] = tt
apart-each_once (n ∷ ns) = (gone n (each_once ns), apart-left_out n (each_once ns) (apart-each_once ns))

not_passing : (p : ℕ → Bool) (n : ℕ) (ns : List ℕ) → among n ns ≡ false → among n (filter p ns) ≡ false
not_passing p n [] h = h
not_passing p n (m ∷ ns) h = grind (arith, not_passing p n ns)

apart-filter : (p : ℕ → Bool) (ns : List ℕ) → AreApart ns → AreApart (filter p ns)
apart-filter p [] h = tt
apart-filter p (n ∷ ns) h = go (p n) (apart-filter p ns h.1)
  where
    go : (b : Bool) → AreApart (filter p ns) → AreApart (cond b (n ∷ filter p ns) (filter p ns))
    go true i = (not_passing p n ns h.0, i)
    go false i = i

-- What the steps leave.

abbrev lasts : Registration → Bool
lasts r = is_none r.source

lasts-told : (o : ℕ) (rs : List Registration) → filter lasts (filter (λ (r : Registration). not (is_transient_of o r)) rs) ≡ filter lasts rs
lasts-told o [] = refl
lasts-told o (r ∷ rs) = grind (arith, lasts-told o rs)

ended-told : (os : List ℕ) (x : Observing) → transients_ended (told_in_turn os x) ≡ record x { registrations = filter lasts x.registrations; places = moved_to (length x.mutations) os x.places }
ended-told [] x = refl
ended-told (o ∷ os) x = grind (arith, ended-told os (observer_told o x), lasts-told o x.registrations)

pub notify-in_turn : (x : Observing) → after_notify x ≡ transients_ended (told_in_turn (pending_of x) (pending_taken x))
notify-in_turn x = sym (ended-told (pending_of x) (pending_taken x))

-- What each is told.

answers-told : (x : Observing) (os : List ℕ) (y : Observing) → AreApart os → ((o : ℕ) → among o os ≡ true → queue_of o y ≡ queue_of o x) → answers_in_turn os y ≡ map (told_in x) os
answers-told x [] y a h = refl
answers-told x (o ∷ os) y a h = grind (arith, answers-told x os (observer_told o y) a.1, queue-kept o)

-- one that has no records gives no entry
pub told-in_turn : (x : Observing) → notifications x ≡ filter has_records (answers_in_turn (pending_of x) (pending_taken x))
told-in_turn x =
    ap (filter has_records) (sym (answers-told x (pending_of x) (pending_taken x) (apart-filter (has_observer x) (each_once (flat_map observers_of (drop x.notified x.mutations))) (apart-each_once (flat_map observers_of (drop x.notified x.mutations)))) (λ o k. refl)))
