-- A point stands to all points of a tree alike where its own node is not in that tree: it is before them all, or after them all.
use Rattle.std.proofs.Common.{◌≡◌, ℕ, ◌+◌, ◌*◌, ◌<◌, nat_lt, Bool, true, false, if◌then◌else◌, List, [], ◌∷◌, ◌++◌, refl, ap, sym, ◌∙◌, subst, arith, Less, Greater}
use Rattle.std.proofs.lemmas.Bool.{false≢true}
use Rattle.dom_model.specs.Definitions.{hits, among, Forest, occurs, index_of, ancestors, root_of, Content, path_places, order_of, common_ancestor, path_below, point, IsWay}
use Rattle.dom_model.proofs.Forests.{Totals.IsOnce, Chains.index-apart, Climbing.hits-first, Climbing.hits-among, WaysMeeting.above-twice}
use Rattle.dom_model.proofs.BoundaryPoints.{PointOrder.order-above, OrderByWays.path-through, OrderByWays.order-below, OrderByWays.order-beside}
use Rattle.dom_model.proofs.RangesAndContents.WaysBelow.{fork, way-above}

module _ (f : Forest Content) (o : IsOnce f) where
  -- a point, and all points of the tree of x
  pub record Aside (s offset x : ℕ) : Type 0 where
    pub before : Bool
    pub after : Bool
    pub starts : (m k : ℕ) → 0 < occurs m f → 0 < hits x (ancestors m f) → order_of f (point s offset) (point m k) ≡ (if before then Less else Greater)
    pub ends : (m k : ℕ) → 0 < occurs m f → 0 < hits x (ancestors m f) → order_of f (point m k) (point s offset) ≡ (if after then Less else Greater)

  pub swapped : (v : Bool) → (if v then Greater else Less) ≡ (if (if v then false else true) then Less else Greater)
  swapped true = refl
  swapped false = refl

  pub aside : (s offset x : ℕ) → 0 < occurs s f → 0 < occurs x f → root_of f s ≡ root_of f x → hits x (ancestors s f) ≡ 0 → Aside s offset x
  aside s offset x hs hx one off =
      let k = fork f o s x hs hx one in
      go (common_ancestor f s x) k.there (path_below f (common_ancestor f s x) s) (path_below f (common_ancestor f s x) x) k.first k.second k.off
    where
      go : (top : ℕ) → 0 < occurs top f → (first second : List ℕ) → IsWay f top first s → IsWay f top second x → ((y : ℕ) → 0 < hits y first → among y (ancestors x f) ≡ false) → Aside s offset x
      go top there first [] v u apart = absurd (let i = subst (λ t. 0 < hits t (ancestors s f)) u (way-above f o top first s there hs v) in omega arith)
      go top there [] (c ∷ second) v u apart =
          let i = index_of f c in
          let above = way-above f o c second x u.0 hx u.2 in
          let spelled : (m : ℕ) → 0 < occurs m f → 0 < hits x (ancestors m f) → (below : List ℕ) × (path_places f m ≡ path_places f s ++ (2 * index_of f c + 1) ∷ below) = λ m hm l.
          let p = path-through f o m top c hm (above-twice f o c x m hm l above) u.1 in
          (p.0, p.1 ∙ ap (λ t. path_places f t ++ (2 * index_of f c + 1) ∷ p.0) v)
          in
          record {
            before = if nat_lt i offset then false else true;
            after = nat_lt i offset;
            starts = λ m k hm l. (let p = spelled m hm l in order-above f s m (index_of f c) offset k p.0 p.1 ∙ swapped (nat_lt (index_of f c) offset));
            ends = λ m k hm l. (let p = spelled m hm l in order-below f m s (index_of f c) k offset p.0 p.1);
          }
      go top there (b ∷ first) (c ∷ second) v u apart =
          let above = way-above f o c second x u.0 hx u.2 in
          let on_start = way-above f o b first s v.0 hs v.2 in
          let p = path-through f o s top b hs on_start v.1 in
          let ne : index_of f b ≡ index_of f c → ⊥ = λ e.
          let d = index-apart f o b c top v.0 v.1 u.1 e in
          false≢true (sym (apart b (hits-first b first)) ∙ hits-among b (ancestors x f) (subst (λ t. 0 < hits t (ancestors x f)) (sym d) above))
          in
          let through : (m : ℕ) → 0 < occurs m f → 0 < hits x (ancestors m f) → (below : List ℕ) × (path_places f m ≡ path_places f top ++ (2 * index_of f c + 1) ∷ below) = λ m hm l.
          path-through f o m top c hm (above-twice f o c x m hm l above) u.1
          in
          record {
            before = nat_lt (index_of f b) (index_of f c);
            after = nat_lt (index_of f c) (index_of f b);
            starts = λ m k hm l. (let q = through m hm l in order-beside f s m top (index_of f b) (index_of f c) offset k p.0 q.0 p.1 q.1 ne);
            ends = λ m k hm l. (let q = through m hm l in order-beside f m s top (index_of f c) (index_of f b) k offset q.0 p.0 q.1 p.1 (λ e. ne (sym e)));
          }
