-- Transient registrations that come in on a node come in last.
use Rattle.std.proofs.Common.{◌≡◌, ◌≢◌, ℕ, ◌==◌, Bool, true, false, not, ◌&&◌, if◌then◌else◌, List, [], ◌∷◌, ◌++◌, Option, is_some, refl, ap, sym, ◌∙◌, subst, append-nil, append_assoc}
use Rattle.std.specs.List.{list_any}
use Rattle.dom_model.specs.Definitions.{Record, Registration, is_transient_from, transient_of}
use Rattle.dom_model.proofs.PlainLists.Numbers.{same_or, same, apart}
use Rattle.dom_observe.specs.{GetsTransients.GetsTransients, Watchers.Watchers, Registrations.origin, Registrations.with_transient, Registrations.with_transients_of, Registrations.with_added_transients}
use Rattle.dom_observe.proofs.RegistrationTableLemmas.{all_append}

pub gets-none : (rs rs' : List Registration) → rs' ≡ rs → GetsTransients rs rs'
gets-none rs rs' e = record { more = []; last = e ∙ sym (append-nil rs); passing = tt }

gets-both : (xs ys zs : List Registration) → GetsTransients xs ys → GetsTransients ys zs → GetsTransients xs zs
gets-both xs ys zs f g = record {
  more = f.more ++ g.more;
  last = g.last ∙ ap (λ v. v ++ g.more) f.last ∙ append_assoc xs f.more g.more;
  passing = all_append (λ (r : Registration). is_some r.source ≡ true) f.more g.more f.passing g.passing;
}

gets-one : (node : ℕ) (rs : List Registration) (s : Registration) → GetsTransients rs (with_transient node rs s)
gets-one node rs s = go (s.options.subtree && not (list_any (is_transient_from s.observer (origin s)) rs))
  where
    go : (b : Bool) → GetsTransients rs (if b then rs ++ transient_of node s ∷ [] else rs)
    go true = record { more = transient_of node s ∷ []; last = refl; passing = (refl, tt) }
    go false = gets-none rs rs refl

gets-each : (node : ℕ) (rs ss : List Registration) → GetsTransients rs (with_transients_of node rs ss)
gets-each node rs [] = gets-none rs rs refl
gets-each node rs (s ∷ ss) =
    gets-both rs (with_transient node rs s) (with_transients_of node (with_transient node rs s) ss) (gets-one node rs s) (gets-each node (with_transient node rs s) ss)

pub gets-added : (node : ℕ) (ss rs rs' : List Registration) → rs' ≡ with_added_transients node ss node rs → GetsTransients rs rs'
gets-added node ss rs rs' e = subst (GetsTransients rs) (sym e) (go (node == node))
  where
    go : (b : Bool) → GetsTransients rs (if b then with_transients_of node rs ss else rs)
    go true = gets-each node rs ss
    go false = gets-none rs rs refl

pub elsewhere-same : (node n : ℕ) → n ≢ node → (ss rs rs' : List Registration) → rs' ≡ with_added_transients node ss n rs → rs' ≡ rs
elsewhere-same node n ne ss rs rs' e = e ∙ elim (same_or node n) [ same d t ↦ absurd (ne (sym d)) | apart _ t ↦ rw t refl ]

abbrev watchers : List (ℕ × List Registration) → List (Option (List Record)) → List ℕ → Watchers
watchers nodes queues pending = record { nodes = nodes; queues = queues; pending = pending }

-- observers with the same registrations, queues and pending ones are the same
pub same-watchers : (nodes nodes' : List (ℕ × List Registration)) (queues queues' : List (Option (List Record))) (pending pending' : List ℕ) → nodes' ≡ nodes → queues' ≡ queues → pending' ≡ pending
    → watchers nodes' queues' pending' ≡ watchers nodes queues pending
same-watchers nodes nodes' queues queues' pending pending' e f g = λ i. record { nodes = e i; queues = f i; pending = g i }
