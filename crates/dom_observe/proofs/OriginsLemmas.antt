-- The origins that are noted, as a transient registration comes in.
use Rattle.std.proofs.Common.{◌≡◌, ℕ, ◌==◌, Bool, true, false, ◌&&◌, ◌||◌, if◌then◌else◌, List, [], ◌∷◌, ◌++◌, Option, Some, None, refl, ap, sym, ◌∙◌, subst, filter_map, is_some, unwrap_or}
use Rattle.std.specs.List.{list_any}
use Rattle.std.proofs.lemmas.{Bool.true≢false, List.Folds.list_any-append}
use Rattle.indexmap.specs.IndexSet.{IndexSet}
use Rattle.dom_model.specs.Definitions.{is_number, Registration, transient_of, is_transient_from}
use Rattle.dom_observe.specs.{declared.origins.Origin.Origin, Watchers.on, Registrations.AllLive, Registrations.Added, Registrations.from_at, Registrations.origin, Registrations.transient_under, Origins.same_origin, Origins.NotesIfAny, Origins.AlsoNotes}
use Rattle.dom_observe.proofs.{QuestionLemmas.any-found, RegistrationTableLemmas.found-added, RegistrationTableLemmas.transient_shape}
use Rattle.dom_model.proofs.Forests.Below.{at_itself}

-- a transient registration is from its observer and its origin
same-from : (q : Origin) (r : Registration) → is_some r.source ≡ true → same_origin (record { observer = r.observer; node = origin r }) q ≡ (is_transient_from q.observer q.node r || false)
same-from q r source = go r.source source
  where
    alike : (b : Bool) → b ≡ (b || false)
    alike true = refl
    alike false = refl

    go : (s : Option ℕ) → is_some s ≡ true → ((r.observer == q.observer) && (unwrap_or s r.node == q.node)) ≡ (((r.observer == q.observer) && is_number s q.node) || false)
    go None none = absurd (true≢false (sym none))
    go (Some n) some = alike ((r.observer == q.observer) && (n == q.node))

module _ (u : ℕ → Option Registration) (lists : List (ℕ × List ℕ)) (r : Registration) (v : ℕ → Option Registration) (lists' : List (ℕ × List ℕ)) (a : Added u lists r v lists')
    (live : (n : ℕ) → AllLive u (on n lists)) (node key : ℕ) (some : transient_under u (on node lists) node key ≡ Some r) where
  made : (s : Registration) × (u key ≡ Some s) × (transient_of node s ≡ r)
  made = transient_shape u (on node lists) node (u key) r some

  here : r.node ≡ node
  here = sym (ap (λ (t : Registration). t.node) made.2)

  source : is_some r.source ≡ true
  source = ap (λ (t : Registration). is_some t.source) (sym made.2)

  from-added : (o n : ℕ) → list_any (from_at v o n) (on node lists') ≡ (list_any (from_at u o n) (on node lists) || (is_transient_from o n r || false))
  from-added o n =
      any-found p v (on node lists')
      ∙ ap (list_any p) (found-added u lists r v lists' a live node ∙ ap (λ b. filter_map u (on node lists) ++ (if b then r ∷ [] else [])) (ap (λ m. m == node) here ∙ at_itself node))
      ∙ list_any-append p (filter_map u (on node lists)) (r ∷ [])
      ∙ ap (λ b. b || (p r || false)) (sym (any-found p u (on node lists)))
    where
      p : Registration → Bool
      p = is_transient_from o n

  -- its origin is noted, and so the origins of all on the node are
  pub noted-added : {S : Type 0} (noted noted' : Option (IndexSet Origin S)) → NotesIfAny u (on node lists) noted → AlsoNotes r.observer (origin r) noted noted' → NotesIfAny v (on node lists') noted'
  noted-added None noted' t also = subst (NotesIfAny v (on node lists')) (sym also) tt
  noted-added (Some noted) None t also = absurd also
  noted-added (Some noted) (Some noted') t also = λ q.
      also q ∙ (λ i. t q i || same-from q r source i) ∙ sym (from-added q.observer q.node)
