-- What is read of an open handle and refused, while its session goes on and once it has ended; and a refusal, after which an array is as it was.
use Rattle.std.proofs.Common.{◌≡◌, ℕ, Bool, true, false, List, length, refl, sym, ap, subst, ◌∙◌, Option, Some, None, Result, Err}
use Rattle.dom_model.specs.declared.OwnError.{OwnError}
use Rattle.dom_model.specs.Definitions.{Entry, children_in, Node, Forest, entry_in, children_of, Content, World}
use Rattle.dom_session.specs.Neighbours.{read_where, child_count_in, laid_over}
use Rattle.dom_session.proofs.LaidOverLemmas.{laid_over-absent}
use Rattle.dom_session.specs.Sessions.{StandsFor, held_world}
use Rattle.dom_c.specs.{Statuses.status_of_own, Neighbours.IsReadOrEnded, Neighbours.ReadsKept, Neighbours.children_over, Neighbours.out_as, Neighbours.written, Neighbours.status_of_read, Neighbours.status_of_read_at_end, declared.handle_state.HandleState.HandleState}

-- a refusal in each world that the session stands for, and in the one that it holds
pub reads-refused : {A : Type 0} (read : Forest Content → Result A OwnError) (k : HandleState) (o : Option HandleState) (before after : A) (status : ℕ) (e : OwnError) → o ≡ Some k → status ≡ status_of_own e
    → ((w : World) → StandsFor k.session w → (Err e ≡ read w.forest) × (after ≡ written (read w.forest) before))
    → (Err e ≡ read (held_world k.session).forest) × (after ≡ written (read (held_world k.session).forest) before) → ReadsKept read o before after status
reads-refused read k o before after status e is says shown held =
    subst (λ (q : Option HandleState). ReadsKept read q before after status) (sym is) (at k.ended)
  where
    at : (b : Bool) → IsReadOrEnded b read k before after status
    at true = record { status_is = says ∙ ap status_of_read_at_end held.0; written_is = held.1 }
    at false = record { status_is = λ w st. says ∙ ap status_of_read (shown w st).0; written_is = λ w st. (shown w st).1 }

module _ (before after : List ℕ) (e : OwnError) where
  as-before : (o : Option (Entry (Node Content))) (count : ℕ) (over : ℕ → List ℕ) → Err e ≡ read_where (λ _. count) o → after ≡ laid_over (children_in o) before
      → after ≡ written (out_as over (read_where (λ _. count) o)) before
  as-before None count over none is = is ∙ sym (laid_over-absent {T = Node Content} None before refl)
  as-before (Some x) count over none is = absurd (cc none)

  pub refused-copies : (f : Forest Content) (n : ℕ) → Err e ≡ child_count_in f n → after ≡ laid_over (children_of f n) before → after ≡ written (children_over n before f) before
  refused-copies f n none is = as-before (entry_in f n) (length (children_of f n)) (λ _. laid_over (children_of f n) before) none is
