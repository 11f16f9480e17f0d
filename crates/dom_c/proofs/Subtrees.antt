-- What is told of a part of a subtree, from what was found of it.
use Rattle.std.proofs.Common.{◌≡◌, ℕ, Bool, true, false, List, length, map, refl, ap, sym, subst, ◌∙◌, Option, Some, None, Result, Ok, Err}
use Rattle.dom_model.specs.declared.OwnError.{OwnError}
use Rattle.dom_model.specs.Definitions.{Forest, Content, World}
use Rattle.dom_session.specs.{Neighbours.laid_over, BorrowedData.lent_as, Subtree.subtree_part, Subtree.part_in, Subtree.laid_where, Subtree.subtree_in, declared.subtree.SubtreeNode.SubtreeNode, declared.subtree.SubtreePart.SubtreePart}
use Rattle.dom_session.specs.Sessions.{StandsFor, held_world}
use Rattle.dom_c.specs.{BorrowedData.status_of_lent, BorrowedData.status_of_lent_at_end, BorrowedData.lent_or_before, BorrowedData.IsLentOrEnded, BorrowedData.LendsKept, declared.handle_state.HandleState.HandleState}

abbrev pub status_at : {A : Type 0} → Bool → Result (Option A) OwnError → ℕ
status_at true found = status_of_lent_at_end found
status_at false found = status_of_lent found

same-status : {A B C : Type 0} (b : Bool) (p : A → B) (q : A → C) (r : Result (Option A) OwnError) → status_at b (lent_as p r) ≡ status_at b (lent_as q r)
same-status true p q (Ok None) = refl
same-status true p q (Ok (Some a)) = refl
same-status true p q (Err e) = refl
same-status false p q (Ok None) = refl
same-status false p q (Ok (Some a)) = refl
same-status false p q (Err e) = refl

laid-told : {R : Type 0} (tell : SubtreeNode → R) (r : Result (Option (List SubtreeNode)) OwnError) (before : List R)
    → laid_where tell r before ≡ lent_or_before (lent_as (λ (nodes : List SubtreeNode). laid_over (map tell nodes) before) r) before
laid-told tell (Ok None) before = refl
laid-told tell (Ok (Some nodes)) before = refl
laid-told tell (Err e) before = refl

told-of : {B : Type 0} (room : ℕ) (q : SubtreePart → B) (r : Result (Option (List SubtreeNode)) OwnError) (before : B)
    → lent_or_before (lent_as q (lent_as (subtree_part room) r)) before ≡ lent_or_before (lent_as (λ (nodes : List SubtreeNode). q (subtree_part room nodes)) r) before
told-of room q (Ok None) before = refl
told-of room q (Ok (Some nodes)) before = refl
told-of room q (Err e) before = refl

module _ (k : HandleState) (o : Option HandleState) (is : o ≡ Some k) (status room root start : ℕ) (found : Result (Option SubtreePart) OwnError)
    (shown : (w : World) → StandsFor k.session w → found ≡ part_in room w.forest root start)
    (own : found ≡ part_in room (held_world k.session).forest root start)
    (says : status ≡ status_at k.ended found) where
  lends : {B : Type 0} (tell : List SubtreeNode → B) (before after : B)
      → ((w : World) → StandsFor k.session w → after ≡ lent_or_before (lent_as tell (subtree_in w.forest root start)) before)
      → after ≡ lent_or_before (lent_as tell (subtree_in (held_world k.session).forest root start)) before
      → LendsKept (λ f. lent_as tell (subtree_in f root start)) o before after status
  lends {B} tell before after told held =
      subst (λ (q : Option HandleState). LendsKept (λ f. lent_as tell (subtree_in f root start)) q before after status) (sym is) (at k.ended says)
    where
      at : (b : Bool) → status ≡ status_at b found → IsLentOrEnded b (λ f. lent_as tell (subtree_in f root start)) k before after status
      at true s = record {
        status_is = s ∙ ap (status_at true) own ∙ same-status true (subtree_part room) tell (subtree_in (held_world k.session).forest root start);
        lent_is = held;
      }
      at false s = record {
        status_is = λ w st. s ∙ ap (status_at false) (shown w st) ∙ same-status false (subtree_part room) tell (subtree_in w.forest root start);
        lent_is = told;
      }

  -- the rows that were laid
  pub lends-rows : {R : Type 0} (tell : SubtreeNode → R) (before after : List R)
      → ((w : World) → StandsFor k.session w → after ≡ laid_where tell (subtree_in w.forest root start) before)
      → after ≡ laid_where tell (subtree_in (held_world k.session).forest root start) before
      → LendsKept (λ f. lent_as (λ (nodes : List SubtreeNode). laid_over (map tell nodes) before) (subtree_in f root start)) o before after status
  lends-rows tell before after told held =
      lends (λ nodes. laid_over (map tell nodes) before) before after
      (λ w st. told w st ∙ laid-told tell (subtree_in w.forest root start) before)
      (held ∙ laid-told tell (subtree_in (held_world k.session).forest root start) before)

  -- what is told of the part: how many there are, and which comes next
  pub lends-part : {B : Type 0} (q : SubtreePart → B) (before after : B) → after ≡ lent_or_before (lent_as q found) before
      → LendsKept (λ f. lent_as (λ (nodes : List SubtreeNode). q (subtree_part room nodes)) (subtree_in f root start)) o before after status
  lends-part q before after tells =
      lends (λ nodes. q (subtree_part room nodes)) before after
      (λ w st. tells ∙ ap (λ r. lent_or_before (lent_as q r) before) (shown w st) ∙ told-of room q (subtree_in w.forest root start) before)
      (tells ∙ ap (λ r. lent_or_before (lent_as q r) before) own ∙ told-of room q (subtree_in (held_world k.session).forest root start) before)
