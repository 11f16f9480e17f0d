-- The queues of pending observers are all that has records.
use Rattle.std.proofs.Common.{◌≡◌, ℕ, Bool, true, false, List, [], refl, ap, ◌∙◌, Option, unwrap_or, flat_map}
use Rattle.std.specs.List.{list_any}
use Rattle.dom_model.specs.Definitions.{among, Record, nodes_of_record}
use Rattle.dom_model.proofs.PlainLists.Searches.{alike, passes_not, none-each}
use Rattle.dom_observe.specs.Watchers.{records_at}
use Rattle.dom_observe.proofs.{NamedNodesLemmas.any_tells, NamedNodesLemmas.tells_any, ObservedNodesLemmas.any-flat}

module _ (t : List Record → Bool) (nothing : t [] ≡ false) (queues : List (Option (List Record))) (pending : List ℕ) (waiting : (o : ℕ) → among o pending ≡ false → records_at queues o ≡ []) where
  of_one : list_any (λ o. t (records_at queues o)) pending ≡ false → (o : ℕ) → t (records_at queues o) ≡ false
  of_one none o = go (among o pending) refl
    where
      go : (b : Bool) → among o pending ≡ b → t (records_at queues o) ≡ false
      go true h = passes_not (λ p. t (records_at queues p)) pending o none h
      go false h = ap t (waiting o h) ∙ nothing

  -- so a question to these queues is a question to all
  pub any-pending : list_any (λ o. t (records_at queues o)) pending ≡ list_any (λ q. t (unwrap_or q [])) queues
  any-pending =
      alike (list_any (λ o. t (records_at queues o)) pending) (list_any (λ q. t (unwrap_or q [])) queues)
      (λ none. tells_any t queues (of_one none))
      (λ none. none-each (λ o. t (records_at queues o)) pending (λ o _. any_tells t queues nothing none o))

-- the nodes that the records of pending observers name
pub any-told : (p : ℕ → Bool) (queues : List (Option (List Record))) (pending : List ℕ) → ((o : ℕ) → among o pending ≡ false → records_at queues o ≡ [])
    → list_any (λ o. list_any p (flat_map nodes_of_record (records_at queues o))) pending ≡ list_any (λ (q : Option (List Record)). list_any (λ r. list_any p (nodes_of_record r)) (unwrap_or q [])) queues
any-told p queues pending waiting =
    (λ i. list_any (λ o. any-flat p nodes_of_record (records_at queues o) i) pending)
    ∙ any-pending (λ (q : List Record). list_any (λ r. list_any p (nodes_of_record r)) q) refl queues pending waiting
