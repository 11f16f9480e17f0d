-- A point at a node stands to the points at a node that is not inside it as each other point at it does. DOM Standard, "Boundary points".
use Rattle.std.proofs.Common.{◌≡◌, ℕ, ◌+◌, ◌*◌, ◌<◌, ◌≤◌, nat_lt, Bool, false, if◌then◌else◌, List, [], ◌∷◌, ◌++◌, ap, sym, ◌∙◌, Less, Greater}
use Rattle.std.proofs.lemmas.Bool.{false≢true}
use Rattle.dom_model.specs.Definitions.{hits, among, Forest, occurs, index_of, ancestors, root_of, Content, path_places, order_of, common_ancestor, path_below, IsWay}
use Rattle.dom_model.proofs.Forests.{Chains.index-apart, Climbing.hits-among, Climbing.hits-first}
use Rattle.dom_model.proofs.BoundaryPoints.OrderByWays.{path-through, order-below, order-beside}
use Rattle.dom_model.proofs.RangesAndContents.WaysBelow.{fork, way-above}

-- all points at the one node stand ahead of the point, or all behind it
pub record IsAside (f : Forest Content) (n m offset : ℕ) : Type 0 where
  pub is_ahead : Bool
  pub stands : (a : ℕ) → order_of f (record { node = n; offset = a }) (record { node = m; offset = offset }) ≡ (if is_ahead then Less else Greater)

module _ (f : Forest Content) (once : (k : ℕ) → occurs k f ≤ 1) (n m offset : ℕ) (hn : 0 < occurs n f) (hm : 0 < occurs m f) (one_root : root_of f n ≡ root_of f m) (out : among n (ancestors m f) ≡ false) where
  abbrev top : ℕ
  top = common_ancestor f n m

  by-ways : (first second : List ℕ) → 0 < occurs top f → IsWay f top first n → IsWay f top second m → ((x : ℕ) → 0 < hits x first → among x (ancestors m f) ≡ false) → IsAside f n m offset
  by-ways [] second ht v w off =
      let on = hits-among top (ancestors m f) (way-above f once top second m ht hm w) in
      absurd (false≢true (sym out ∙ ap (λ k. among k (ancestors m f)) (sym v) ∙ on))
  by-ways (c ∷ first) [] ht v w off =
      let way = path-through f once n top c hn (way-above f once c first n v.0 hn v.2) v.1 in
      let p = way.1 ∙ ap (λ k. path_places f k ++ (2 * index_of f c + 1) ∷ way.0) w in
      record { is_ahead = nat_lt (index_of f c) offset; stands = λ a. order-below f n m (index_of f c) a offset way.0 p }
  by-ways (c ∷ first) (d ∷ second) ht v w off =
      let above = way-above f once d second m w.0 hm w.2 in
      let way = path-through f once n top c hn (way-above f once c first n v.0 hn v.2) v.1 in
      let other = path-through f once m top d hm above w.1 in
      let far : index_of f c ≡ index_of f d → ⊥ = λ e.
      let one : c ≡ d = index-apart f once c d top v.0 v.1 w.1 e in
      false≢true (sym (off c (hits-first c first)) ∙ ap (λ k. among k (ancestors m f)) one ∙ hits-among d (ancestors m f) above) in
      record {
        is_ahead = nat_lt (index_of f c) (index_of f d);
        stands = λ a. order-beside f n m top (index_of f c) (index_of f d) a offset way.0 other.0 way.1 other.1 far;
      }

  pub aside : IsAside f n m offset
  aside = let k = fork f once n m hn hm one_root in by-ways (path_below f top n) (path_below f top m) k.there k.first k.second k.off
