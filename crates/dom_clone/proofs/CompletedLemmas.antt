-- Copies that grow node by node: what waits, completed, is the copy of the whole.
use Rattle.std.proofs.Common.{◌≡◌, ℕ, ◌+◌, ◌<◌, ◌≤◌, List, [], ◌∷◌, ◌++◌, None, refl, ap, sym, ◌∙◌, arith, append-nil}
use Rattle.dom_model.specs.Definitions.{Node, Forest, empty, node, occurs, size, beside, tree_at, without, placed_before, placed_under, put, Content, renumbered}
use Rattle.dom_model.proofs.PlainLists.Numbers.{same_or, same, apart}
use Rattle.dom_model.proofs.Forests.{Undone.beside-assoc, Undone.placed_under-absent, ForestsBeside.IsBelow, ForestsBeside.put-younger, ForestsBeside.tree_at-younger, ForestsBeside.without-younger, Totals.beside-empty}

-- Trees that come in last.

before-last : (g f : Forest Content) → placed_before None g f ≡ beside f g
before-last g empty = refl
before-last g (node x kids rest) = rw (before-last g rest) refl

under-beside : (p : ℕ) (t f g : Forest Content) → placed_under p None t (beside f g) ≡ beside (placed_under p None t f) (placed_under p None t g)
under-beside p t empty g = refl
under-beside p t (node x kids rest) g = rw (under-beside p t rest g) refl

under-empty : (p : ℕ) (f : Forest Content) → placed_under p None empty f ≡ f
under-empty p empty = refl
under-empty p (node x kids rest) =
    elim (same_or x.number p) [
      | same e t ↦ rw (t, before-last empty (placed_under p None empty kids), under-empty p kids, under-empty p rest, beside-empty kids) refl
      | apart ne t ↦ rw (t, under-empty p kids, under-empty p rest) refl
    ]

-- a node put last under another, then trees under it and trees after it: as put in with all of them
module _ (x : Node Content) (p : ℕ) (k r : Forest Content) (far : x.number ≡ p → ⊥) (none : occurs p k ≡ 0) where
  under-new : placed_under x.number None k (node x empty empty) ≡ node x k empty
  under-new = elim (same_or x.number x.number) [ same e t ↦ rw t refl | apart ne t ↦ absurd (ne refl) ]

  past-new : placed_under p None r (node x k empty) ≡ node x k empty
  past-new = elim (same_or x.number p) [ same e t ↦ absurd (far e) | apart ne t ↦ rw (t, placed_under-absent p None r k none) refl ]

  below : (a : Forest Content) → placed_before None r (placed_under p None r (placed_under x.number None k (placed_before None (node x empty empty) a))) ≡ placed_before None (node x k r) (placed_under p None r (placed_under x.number None k a))
  below a =
      let b : Forest Content = placed_under p None r (placed_under x.number None k a) in
      before-last r (placed_under p None r (placed_under x.number None k (placed_before None (node x empty empty) a)))
      ∙ ap (λ g. beside (placed_under p None r (placed_under x.number None k g)) r) (before-last (node x empty empty) a)
      ∙ ap (λ g. beside (placed_under p None r g) r) (under-beside x.number k a (node x empty empty))
      ∙ ap (λ g. beside (placed_under p None r (beside (placed_under x.number None k a) g)) r) under-new
      ∙ ap (λ g. beside g r) (under-beside p r (placed_under x.number None k a) (node x k empty))
      ∙ ap (λ g. beside (beside b g) r) past-new
      ∙ beside-assoc b (node x k empty) r
      ∙ sym (before-last (node x k r) b)

  grown : (f : Forest Content) → occurs x.number f ≡ 0 → placed_under p None r (placed_under x.number None k (placed_under p None (node x empty empty) f)) ≡ placed_under p None (node x k r) f
  grown empty z = refl
  grown (node y ys more) z =
      elim (same_or y.number x.number) [
        | same e v ↦ absurd (let i = rw v at z in omega arith)
        | apart ne v ↦
            let i = rw v at z in
            let inside = grown ys (omega arith) in
            let later = grown more (omega arith) in
            elim (same_or y.number p) [
              | same e t ↦ rw (t, v, below (placed_under p None (node x empty empty) ys), inside, later) refl
              | apart far2 t ↦ rw (t, v, inside, later) refl
            ]
      ]

-- copies have no number below the next one
absent-renumbered : (d next n : ℕ) (f : Forest Content) → n < next → occurs n (renumbered d next f) ≡ 0
absent-renumbered d next n empty l = refl
absent-renumbered d next n (node x kids rest) l =
    elim (same_or next n) [
      | same e t ↦ absurd (omega arith)
      | apart ne t ↦ rw t (omega (arith, absent-renumbered d (next + 1) n kids (omega arith), absent-renumbered d (next + 1 + size kids) n rest (omega arith)))
    ]

-- What waits.

-- trees that are to be copied under a copy
pub record Part : Type 0 where
  pub parent : ℕ
  pub trees : Forest Content

abbrev pub sizes : List Part → ℕ
sizes [] = 0
sizes (t ∷ ts) = size t.trees + sizes ts

-- the copies with all that waits, the last part first
abbrev pub completed : ℕ → List Part → Forest Content → ℕ → Forest Content
completed d [] f next = f
completed d (t ∷ ts) f next = placed_under t.parent None (renumbered d (next + sizes ts) t.trees) (completed d ts f next)

-- trees that wait, where there are any
abbrev pub part_if : ℕ → Forest Content → List Part
part_if p empty = []
part_if p (node x kids rest) = record { parent = p; trees = node x kids rest } ∷ []

pub sizes-push : (ts : List Part) (t : Part) → sizes (ts ++ t ∷ []) ≡ sizes ts + size t.trees
sizes-push [] t = omega arith
sizes-push (u ∷ ts) t = omega (arith, sizes-push ts t)

pub sizes-wait : (ts : List Part) (p : ℕ) (k : Forest Content) → sizes (ts ++ part_if p k) ≡ sizes ts + size k
sizes-wait ts p empty = rw (append-nil ts) (omega arith)
sizes-wait ts p (node x kids rest) = sizes-push ts (record { parent = p; trees = node x kids rest })

completed-push : (d : ℕ) (ts : List Part) (t : Part) (f : Forest Content) (next : ℕ) → completed d (ts ++ t ∷ []) f next ≡ completed d ts (placed_under t.parent None (renumbered d next t.trees) f) (next + size t.trees)
completed-push d [] t f next = let e : next + 0 ≡ next = omega arith in ap (λ m. placed_under t.parent None (renumbered d m t.trees) f) e
completed-push d (u ∷ ts) t f next =
    let e : next + sizes (ts ++ t ∷ []) ≡ (next + size t.trees) + sizes ts = omega (arith, sizes-push ts t) in
    ap (λ m. placed_under u.parent None (renumbered d m u.trees) (completed d (ts ++ t ∷ []) f next)) e
    ∙ ap (placed_under u.parent None (renumbered d ((next + size t.trees) + sizes ts) u.trees)) (completed-push d ts t f next)

pub completed-wait : (d : ℕ) (ts : List Part) (p : ℕ) (k f : Forest Content) (next : ℕ) → completed d (ts ++ part_if p k) f next ≡ completed d ts (placed_under p None (renumbered d next k) f) (next + size k)
completed-wait d ts p empty f next =
    let e : next + 0 ≡ next = omega arith in
    ap (λ us. completed d us f next) (append-nil ts) ∙ ap (λ g. completed d ts g next) (sym (under-empty p f)) ∙ ap (completed d ts (placed_under p None empty f)) (sym e)
completed-wait d ts p (node x kids rest) f next = completed-push d ts (record { parent = p; trees = node x kids rest }) f next

-- one more node is copied, and what stands below and beside it waits
pub completed-step : (d p next : ℕ) (x : Node Content) (kids rest : Forest Content) (ts : List Part) (f : Forest Content) → occurs next f ≡ 0 → p < next →
    completed d ((ts ++ part_if p rest) ++ part_if next kids) (placed_under p None (node (record x { number = next; document = d }) empty empty) f) (next + 1)
    ≡ completed d (ts ++ record { parent = p; trees = node x kids rest } ∷ []) f next
completed-step d p next x kids rest ts f new l =
    let y : Node Content = record x { number = next; document = d } in
    let one : Forest Content = placed_under p None (node y empty empty) f in
    let k : Forest Content = renumbered d (next + 1) kids in
    let r : Forest Content = renumbered d (next + 1 + size kids) rest in
    let none : occurs p k ≡ 0 = absent-renumbered d (next + 1) p kids (omega arith) in
    let e : next + 1 + size kids + size rest ≡ next + (1 + (size kids + size rest)) = omega arith in
    completed-wait d (ts ++ part_if p rest) next kids one (next + 1)
    ∙ completed-wait d ts p rest (placed_under next None k one) (next + 1 + size kids)
    ∙ ap (λ g. completed d ts g (next + 1 + size kids + size rest)) (grown y p k r (λ s. omega arith) none f new)
    ∙ ap (completed d ts (placed_under p None (node y k r) f)) e
    ∙ sym (completed-push d ts (record { parent = p; trees = node x kids rest }) f next)

-- a new root beside trees and copies is put last under a copy
pub put-grown : (low p : ℕ) (x : Node Content) (f g : Forest Content) → low ≤ p → low ≤ x.number → IsBelow low f → occurs x.number g ≡ 0 →
    put p x.number None (beside (beside f g) (node x empty empty)) ≡ beside f (placed_under p None (node x empty empty) g)
put-grown low p x f g hp hx b z =
    ap (put p x.number None) (beside-assoc f g (node x empty empty))
    ∙ put-younger low p x.number None f (beside g (node x empty empty)) hp hx b
    ∙ ap (beside f) inner
  where
    taken : tree_at x.number (beside g (node x empty empty)) ≡ node x empty empty
    taken = tree_at-younger x.number g (node x empty empty) z ∙ elim (same_or x.number x.number) [ same e t ↦ rw t refl | apart ne t ↦ absurd (ne refl) ]

    left : without x.number (beside g (node x empty empty)) ≡ g
    left = without-younger x.number g (node x empty empty) z ∙ elim (same_or x.number x.number) [ same e t ↦ rw t (beside-empty g) | apart ne t ↦ absurd (ne refl) ]

    inner : put p x.number None (beside g (node x empty empty)) ≡ placed_under p None (node x empty empty) g
    inner = ap (λ t. placed_under p None t (without x.number (beside g (node x empty empty)))) taken ∙ ap (placed_under p None (node x empty empty)) left
