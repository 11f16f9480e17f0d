-- A point has at most one gap in a tree whose numbers stand once, and what is ahead of the gap that it has.
use Rattle.std.proofs.Common.{◌≡◌, ℕ, suc, ◌+◌, ◌<◌, ◌≤◌, ◌==◌, nat_le, Bool, true, if◌then◌else◌, List, [], ◌∷◌, ◌++◌, length, Option, Some, refl, ap, sym, ◌∙◌, arith, append_assoc, length-append, inl, inr}
use Rattle.std.proofs.lemmas.{Bool.Decides.nat_tests, Bool.cases_Bool, Bool.eq-eqb, Bool.ne_eqb, Bool.cond_both}
use Rattle.dom_model.specs.Definitions.{is_character_data, Node, Forest, empty, node, occurs, one_at, Content, Point, point, same_point}
use Rattle.dom_model.proofs.PlainLists.Numbers.{same_or, same, apart}
use Rattle.dom_model.proofs.TokenText.PointGaps.GapWalk.{unit_gaps, child_gaps, tree_gaps, is_at, gaps_ahead, times}

-- the point's gap in a list of gaps, with so many ahead of it
pub record IsAt (p : Point) (k : ℕ) (gs : List (Option Point)) : Type 0 where
  pub ahead : List (Option Point)
  pub behind : List (Option Point)
  pub holds : gs ≡ ahead ++ Some p ∷ behind
  pub many : length ahead ≡ k

pub at-first : (p : Point) (gs : List (Option Point)) → IsAt p 0 (Some p ∷ gs)
at-first p gs = record { ahead = []; behind = gs; holds = refl; many = refl }

pub at-later : (p : Point) (k : ℕ) (g : Option Point) (gs : List (Option Point)) → IsAt p k gs → IsAt p (suc k) (g ∷ gs)
at-later p k g gs i = record { ahead = g ∷ i.ahead; behind = i.behind; holds = ap (λ xs. g ∷ xs) i.holds; many = ap (λ m. suc m) i.many }

pub at-left : (p : Point) (k : ℕ) (xs ys : List (Option Point)) → IsAt p k xs → IsAt p k (xs ++ ys)
at-left p k xs ys i =
    record { ahead = i.ahead; behind = i.behind ++ ys; holds = ap (λ zs. zs ++ ys) i.holds ∙ append_assoc i.ahead (Some p ∷ i.behind) ys; many = i.many }

pub at-right : (p : Point) (k : ℕ) (xs ys : List (Option Point)) → IsAt p k ys → IsAt p (length xs + k) (xs ++ ys)
at-right p k xs ys i =
    record {
      ahead = xs ++ i.ahead;
      behind = i.behind;
      holds = ap (λ zs. xs ++ zs) i.holds ∙ sym (append_assoc xs i.ahead (Some p ∷ i.behind));
      many = length-append xs i.ahead ∙ ap (λ m. length xs + m) i.many;
    }

pub at-within : (p : Point) (k : ℕ) (gs : List (Option Point)) → IsAt p k gs → k < length gs
at-within p k gs i = omega (arith, ap (λ (xs : List (Option Point)). length xs) i.holds, length-append i.ahead (Some p ∷ i.behind), i.many)

is_at-self : (p : Point) → is_at p (Some p) ≡ true
is_at-self p = rw (eq-eqb p.node p.node refl, eq-eqb p.offset p.offset refl) refl

pub times-append : (p : Point) (xs ys : List (Option Point)) → times p (xs ++ ys) ≡ times p xs + times p ys
times-append p [] ys = omega arith
times-append p (x ∷ xs) ys = omega (arith, times-append p xs ys)

ahead-past : (p : Point) (ahead behind : List (Option Point)) → times p ahead ≡ 0 → gaps_ahead p (ahead ++ Some p ∷ behind) ≡ Some (length ahead)
ahead-past p [] behind z = rw (is_at-self p) refl
ahead-past p (g ∷ ahead) behind z =
    elim (cases_Bool (is_at p g)) [
      | inl e ↦ absurd (let k = rw e at z in omega arith)
      | inr e ↦ (let k = rw e at z in rw (e, ahead-past p ahead behind (omega arith)) refl)
    ]

times-held : (p : Point) (k : ℕ) (gs : List (Option Point)) (i : IsAt p k gs) → times p gs ≡ times p i.ahead + (1 + times p i.behind)
times-held p k gs i =
    ap (times p) i.holds
    ∙ times-append p i.ahead (Some p ∷ i.behind)
    ∙ ap (λ (v : Bool). times p i.ahead + ((if v then 1 else 0) + times p i.behind)) (is_at-self p)

-- a gap that is there, and at most once, is the only one
pub at-once : (p : Point) (k : ℕ) (gs : List (Option Point)) → IsAt p k gs → times p gs ≤ 1 → (gaps_ahead p gs ≡ Some k) × (times p gs ≡ 1)
at-once p k gs i h =
    let t = times-held p k gs i in
    let z : times p i.ahead ≡ 0 = omega arith in
    (ap (gaps_ahead p) i.holds ∙ ahead-past p i.ahead i.behind z ∙ ap (λ m. Some m) i.many, omega arith)

-- 1 where the point is one of the node's, from offset i on
abbrev pub reach : Point → ℕ → ℕ → ℕ
reach p n i = if n == p.node then (if nat_le i p.offset then 1 else 0) else 0

reach-on : (p : Point) (n i : ℕ) → (if same_point p (point n i) then 1 else 0) + reach p n (i + 1) ≤ reach p n i
reach-on p n i =
    elim (same_or n p.node) [
      | same e t ↦ rw (t, eq-eqb p.node n (sym e)) (grind (arith, nat_tests))
      | apart ne t ↦ rw (t, ne_eqb p.node n (λ d. ne (sym d))) (omega arith)
    ]

times-units : (p : Point) (n i : ℕ) (units : List ℕ) → times p (unit_gaps n i units) ≤ reach p n i
times-units p n i [] = omega (arith, reach-on p n i)
times-units p n i (u ∷ units) = omega (arith, reach-on p n i, times-units p n (i + 1) units)

times-inside : (p : Point) (x : Node Content) (kids : Forest Content) → times p (child_gaps x.number 0 kids) ≤ reach p x.number 0 + occurs p.node kids → times p (tree_gaps x kids) ≤ one_at p.node x.number + occurs p.node kids
times-inside p x kids below =
    let u = times-units p x.number 0 x.body.text in
    cond_both (is_character_data x.label.kind) (unit_gaps x.number 0 x.body.text) (child_gaps x.number 0 kids)
    (λ gs. times p gs ≤ one_at p.node x.number + occurs p.node kids) (λ e. grind (arith, nat_tests)) (λ e. grind (arith, nat_tests))

times-children : (p : Point) (n i : ℕ) (f : Forest Content) → times p (child_gaps n i f) ≤ reach p n i + occurs p.node f
times-children p n i empty = omega (arith, reach-on p n i)
times-children p n i (node x kids rest) =
    omega (arith, reach-on p n i, times-inside p x kids (times-children p x.number 0 kids), times-append p (tree_gaps x kids) (child_gaps n (i + 1) rest), times-children p n (i + 1) rest)

-- a point's gaps in a tree are no more than its node stands in it
pub times-tree : (p : Point) (x : Node Content) (kids : Forest Content) → times p (tree_gaps x kids) ≤ one_at p.node x.number + occurs p.node kids
times-tree p x kids = times-inside p x kids (times-children p x.number 0 kids)
