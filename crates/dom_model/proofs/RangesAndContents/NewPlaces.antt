-- Where both ends of a live range stand once its contents are gone: under the deepest common ancestor, with no contained child ahead.
-- DOM Standard, "Interface Range": delete the contents, extract.
use Rattle.std.proofs.Common.{◌≡◌, ℕ, zero, suc, ◌+◌, ◌*◌, ◌<◌, ◌≤◌, Bool, true, false, List, [], ◌∷◌, ◌++◌, filter, find, length, Some, refl, ap, sym, ◌∙◌, subst, arith, append_assoc}
use Rattle.std.proofs.lemmas.{Bool.false≢true, Bool.lt-ltb, Bool.Decides.nat_tests}
use Rattle.std.specs.{Ordering.nat_cmp, Cmp.Lexicographic.slice_cmp}
use Rattle.dom_model.specs.Definitions.{hits, among, head_of, last_of, Forest, occurs, parent_of, index_of, ancestors, root_of, Content, path_places, place_of, if_given, is_less, is_before}
use Rattle.dom_model.proofs.Forests.{Changes.seen, Changes.nothing, Changes.just, Climbing.hits-append, Climbing.hits-first, Climbing.ancestors-there, Paths.parent-path, Paths.root-path, Indices.path-child, Chains.root-child}
use Rattle.dom_model.proofs.BoundaryPoints.{PointOrder.slice_cmp-ahead, PointOrder.order-above, OrderByWays.places-past}
use Rattle.dom_model.proofs.Worlds.Parts.{path-there}
use Rattle.dom_model.proofs.Soundness.SoundWorlds.{child_there}

-- What stands ahead.

not_less : (x y : ℕ) (xs : List ℕ) → y ≤ x → is_less (slice_cmp nat_cmp (x ∷ xs) (y ∷ [])) ≡ false
not_less x y [] h = grind (arith, nat_tests)
not_less x y (z ∷ zs) h = grind (arith, nat_tests)

later_step : (i j : ℕ) (rest : List ℕ) (x : ℕ) → i ≤ j → is_less (slice_cmp nat_cmp ((2 * j + 1) ∷ (x ∷ rest)) ((2 * i + 1) ∷ (0 ∷ []))) ≡ false
later_step i j rest x h = grind (arith, nat_tests, not_less x 0 rest)

module _ (f : Forest Content) (o : (m : ℕ) → occurs m f ≤ 1) where
  -- the places on the path of a node begin with those of each node above it
  places-above : (q n : ℕ) → 0 < occurs n f → 0 < hits q (ancestors n f) → (more : List ℕ) × (path_places f n ≡ path_places f q ++ more)
  places-above q n hn h = places-past f o n q hn h (path-there f o n q h)

  -- a point inside a child is not ahead of a child that does not come later
  pub inside_not_before : (q p c n a : ℕ) → 0 < occurs n f → 0 < hits q (ancestors n f) → parent_of f q ≡ Some p → parent_of f c ≡ Some p → index_of f c ≤ index_of f q → is_before f (record { node = n; offset = a }) (record { node = c; offset = 0 }) ≡ false
  inside_not_before q p c n a hn h eq ec le =
      let hq = path-there f o n q h in
      let hc = child_there f c p ec in
      let m = places-above q n hn h in
      let start : place_of f (record { node = n; offset = a }) ≡ path_places f p ++ ((2 * index_of f q + 1) ∷ (m.0 ++ (2 * a) ∷ [])) =
      ap (λ ns. ns ++ (2 * a) ∷ []) (m.1 ∙ ap (λ ns. ns ++ m.0) (path-child f o q p hq eq))
      ∙ append_assoc (path_places f p ++ (2 * index_of f q + 1) ∷ []) m.0 ((2 * a) ∷ [])
      ∙ append_assoc (path_places f p) ((2 * index_of f q + 1) ∷ []) (m.0 ++ (2 * a) ∷ []) in
      let other : place_of f (record { node = c; offset = 0 }) ≡ path_places f p ++ ((2 * index_of f c + 1) ∷ (0 ∷ [])) =
      ap (λ ns. ns ++ (2 * 0) ∷ []) (path-child f o c p hc ec)
      ∙ append_assoc (path_places f p) ((2 * index_of f c + 1) ∷ []) ((2 * 0) ∷ []) in
      ap is_less
      (ap (λ ns. slice_cmp nat_cmp ns (place_of f (record { node = c; offset = 0 }))) start
      ∙ ap (slice_cmp nat_cmp (path_places f p ++ ((2 * index_of f q + 1) ∷ (m.0 ++ (2 * a) ∷ [])))) other
      ∙ slice_cmp-ahead (path_places f p) ((2 * index_of f q + 1) ∷ (m.0 ++ (2 * a) ∷ [])) ((2 * index_of f c + 1) ∷ (0 ∷ [])))
      ∙ compare m.0
    where
      compare : (more : List ℕ) → is_less (slice_cmp nat_cmp ((2 * index_of f q + 1) ∷ (more ++ (2 * a) ∷ [])) ((2 * index_of f c + 1) ∷ (0 ∷ []))) ≡ false
      compare [] = later_step (index_of f c) (index_of f q) [] (2 * a) le
      compare (x ∷ more) = later_step (index_of f c) (index_of f q) (more ++ (2 * a) ∷ []) x le

  -- a point of the parent past a child is not ahead of it
  pub past_not_before : (p c a : ℕ) → parent_of f c ≡ Some p → index_of f c < a → is_before f (record { node = p; offset = a }) (record { node = c; offset = 0 }) ≡ false
  past_not_before p c a e lt =
      let hc = child_there f c p e in
      ap is_less (order-above f p c (index_of f c) a 0 [] (path-child f o c p hc e)) ∙ (rw (lt-ltb (index_of f c) a lt) refl)

  -- The deepest common ancestor.

  -- the nearest node above whose parent is above the other too, and that parent
  pub record IsMeeting (other : List ℕ) (n : ℕ) : Type 0 where
    pub nearest : ℕ
    pub above : ℕ
    pub found : find (λ q. if_given (λ p. among p other) (parent_of f q)) (ancestors n f) ≡ Some nearest
    pub parent : parent_of f nearest ≡ Some above
    pub on_path : 0 < hits nearest (ancestors n f)
    pub deepest : head_of (filter (λ a. among a other) (ancestors n f)) ≡ Some above

  pub meeting : (other : List ℕ) (root n : ℕ) → 0 < occurs n f → root_of f n ≡ Some root → among root other ≡ true → among n other ≡ false → IsMeeting other n
  meeting other root n hn e r out = go (length (ancestors n f)) n (omega arith) hn e out
    where
      go : (k n : ℕ) → length (ancestors n f) ≤ k → 0 < occurs n f → root_of f n ≡ Some root → among n other ≡ false → IsMeeting other n
      go zero n l hn e out = absurd (let i = ancestors-there n f hn in let j = ap (λ ns. length ns) i.1 in omega arith)
      go (suc k) n l hn e out =
          elim (seen (parent_of f n)) [
            | nothing i ↦
                let a = ap last_of (root-path f o n hn i) in
                let d : n ≡ root = (let u : Some n ≡ Some root = sym a ∙ e in cc u) in
                absurd (false≢true (sym out ∙ ap (λ x. among x other) d ∙ r))
            | just u i ↦
                let a = parent-path f o n u hn i in
                let l2 = ap (λ ns. length ns) a.1 in
                further n u i a.1 a.0 out (λ w. go k u (omega arith) a.0 (sym (root-child f o n u hn i) ∙ e) w)
          ]
        where
          further : (n u : ℕ) → parent_of f n ≡ Some u → ancestors n f ≡ n ∷ ancestors u f → 0 < occurs u f → among n other ≡ false → (among u other ≡ false → IsMeeting other u) → IsMeeting other n
          further n u i path hu out more = by (among u other) refl
            where
              top : (ms : List ℕ) × (ancestors u f ≡ u ∷ ms)
              top = ancestors-there u f hu

              passes : (v : Bool) → among u other ≡ v → if_given (λ p. among p other) (parent_of f n) ≡ v
              passes v t = ap (if_given (λ p. among p other)) i ∙ t

              by : (v : Bool) → among u other ≡ v → IsMeeting other n
              by true t =
                  record {
                    nearest = n;
                    above = u;
                    found = ap (find (λ q. if_given (λ p. among p other) (parent_of f q))) path ∙ (rw (passes true t) refl);
                    parent = i;
                    on_path = subst (λ ns. 0 < hits n ns) (sym path) (hits-first n (ancestors u f));
                    deepest = ap (λ ns. head_of (filter (λ a. among a other) ns)) path ∙ (rw out (ap (λ ns. head_of (filter (λ a. among a other) ns)) top.1 ∙ (rw t refl)));
                  }
              by false t =
                  let m = more t in
                  record {
                    nearest = m.nearest;
                    above = m.above;
                    found = ap (find (λ q. if_given (λ p. among p other) (parent_of f q))) path ∙ (rw (passes false t) m.found);
                    parent = m.parent;
                    on_path = (let x = ap (hits m.nearest) path in let y = m.on_path in let z = hits-append m.nearest (n ∷ []) (ancestors u f) in omega arith);
                    deepest = ap (λ ns. head_of (filter (λ a. among a other) ns)) path ∙ (rw out m.deepest);
                  }
