-- What extracting and cloning draw out of a tree: children, units, and copies of the nodes on a path. A sound world is left.
-- DOM Standard, "Interface Range": extract, clone the contents.
use Rattle.std.proofs.Common.{◌≡◌, ℕ, ◌<◌, ◌≤◌, Bool, true, false, List, [], ◌∷◌, ◌++◌, Some, None, refl, ap, sym, ◌∙◌, subst, arith}
use Rattle.dom_model.proofs.Soundness.SoundAppending.{plain_like, IsHolder, IsPlain, IsDrawn, holder_stays, plain_stays, append-plain, clone_copy}
use Rattle.dom_model.specs.Definitions.{hits, may_be_parent, occurs, parent_of, World, kind_passes, append, clone_node, child_into, children_into, IsSound}
use Rattle.dom_model.specs.declared.Kind.{Kind}
use Rattle.dom_model.proofs.Forests.{Climbing.hits-append, Climbing.hits-first, Listed.hits-other}
use Rattle.dom_model.proofs.MutationAlgorithms.Extending.{extends-then, extends-of, extends-same}

-- one step after another
pub drawn-then : (w v u : World) (ns ms : List ℕ) → IsDrawn w v ns → IsDrawn v u ms → IsDrawn w u (ns ++ ms)
drawn-then w v u ns ms a b =
    record { sound = b.sound; extends = extends-then w.forest v.forest u.forest ns ms a.extends b.extends; made = (let i = a.made in let j = b.made in omega arith) }

pub drawn-of : (w v : World) (ns ms : List ℕ) → ((m : ℕ) → 0 < occurs m w.forest → hits m ms ≡ 0 → hits m ns ≡ 0) → IsDrawn w v ns → IsDrawn w v ms
drawn-of w v ns ms fewer a = record { sound = a.sound; extends = extends-of w.forest v.forest ns ms fewer a.extends; made = a.made }

-- a number that is not given out yet is no node's
pub new_apart : (w : World) → IsSound w → (n new : ℕ) → w.made ≤ new → 0 < occurs n w.forest → n ≡ new → ⊥
new_apart w s n new l h e = let z : occurs new w.forest ≡ 0 = s.forest.small new l in let k : 0 < occurs new w.forest = subst (λ x. 0 < occurs x w.forest) e h in omega arith

pub new_not_hit : (w : World) → IsSound w → (new m : ℕ) → w.made ≤ new → 0 < occurs m w.forest → hits m (new ∷ []) ≡ 0
new_not_hit w s new m l h = hits-other m new [] (λ e. new_apart w s m new l h (sym e))

-- A contained child, and all of them.

drawn_child : (moves : Bool) (into n : ℕ) (w : World) → IsSound w → IsHolder w into → IsPlain w n → (n ≡ into → ⊥) → IsDrawn w (child_into moves into n w) (n ∷ [])
drawn_child true into n w s h p ne = (append-plain w s n into h p ne).drawn
drawn_child false into n w s h p ne =
    let c = clone_node true n w in
    let i = clone_copy true n w s p.there in
    let holder = holder_stays w c [] into i.drawn.extends refl h in
    let plain = plain_like w c n w.made i.there i.kinds p in
    let a = append-plain c i.drawn.sound w.made into holder plain (λ e. new_apart w s into w.made (omega arith) h.there (sym e)) in
    drawn-of w (append w.made into c) ([] ++ w.made ∷ []) (n ∷ []) (λ m k z. new_not_hit w s w.made m (omega arith) k)
    (drawn-then w c (append w.made into c) [] (w.made ∷ []) i.drawn a.drawn)

pub drawn_children : (moves : Bool) (into : ℕ) (ns : List ℕ) (w : World) → IsSound w → IsHolder w into → ((n : ℕ) → 0 < hits n ns → IsPlain w n) → hits into ns ≡ 0 → IsDrawn w (children_into moves into ns w) ns
drawn_children moves into [] w s h plain z =
    record { sound = s; extends = extends-same w.forest w.forest refl; made = omega arith }
drawn_children moves into (n ∷ ns) w s h plain z =
    let v = child_into moves into n w in
    let ne : n ≡ into → ⊥ = λ e. (let i = hits-first n ns in let k : hits n (n ∷ ns) ≡ 0 = ap (λ x. hits x (n ∷ ns)) e ∙ z in omega arith) in
    let a = drawn_child moves into n w s h (plain n (hits-first n ns)) ne in
    let zi = hits-append into (n ∷ []) ns in
    let b = drawn_children moves into ns v a.sound (holder_stays w v (n ∷ []) into a.extends (omega arith) h)
    (λ m k. plain_stays w v (n ∷ []) m a.extends (plain m (let i = hits-append m (n ∷ []) ns in omega arith))) (omega arith) in
    drawn-then w v (children_into moves into ns v) (n ∷ []) ns a b

-- What is left where data may have been cut, and where children of the nodes on a path may have moved.

pub record IsFilled (w v : World) (path : List ℕ) : Type 0 where
  pub sound : IsSound v
  pub there : (m : ℕ) → 0 < occurs m w.forest → 0 < occurs m v.forest
  pub kinds : (test : Kind → Bool) (m : ℕ) → 0 < occurs m w.forest → kind_passes test v.forest m ≡ kind_passes test w.forest m
  pub parents : (m : ℕ) → 0 < occurs m w.forest → ((u : ℕ) → parent_of w.forest m ≡ Some u → hits u path ≡ 0) → parent_of v.forest m ≡ parent_of w.forest m
  pub made : w.made ≤ v.made

pub filled_same : (w : World) → IsSound w → (path : List ℕ) → IsFilled w w path
filled_same w s path = record { sound = s; there = λ m h. h; kinds = λ test m h. refl; parents = λ m h far. refl; made = omega arith }

pub filled-then : (w v u : World) (ps qs : List ℕ) → IsFilled w v ps → IsFilled v u qs → IsFilled w u (ps ++ qs)
filled-then w v u ps qs a b =
    record {
      sound = b.sound;
      there = λ m h. b.there m (a.there m h);
      kinds = λ test m h. b.kinds test m (a.there m h) ∙ a.kinds test m h;
      parents = λ m h far.
          let e = a.parents m h (λ x k. let z = far x k in let i = hits-append x ps qs in omega arith) in
          b.parents m (a.there m h) (λ x k. let z = far x (sym e ∙ k) in let i = hits-append x ps qs in omega arith) ∙ e;
      made = (let i = a.made in let j = b.made in omega arith);
    }

pub filled-of : (w v : World) (ps qs : List ℕ) → ((u : ℕ) → hits u qs ≡ 0 → hits u ps ≡ 0) → IsFilled w v ps → IsFilled w v qs
filled-of w v ps qs fewer a =
    record { sound = a.sound; there = a.there; kinds = a.kinds; parents = λ m h far. a.parents m h (λ u e. fewer u (far u e)); made = a.made }

-- children of the nodes on the path have moved
pub filled_by_moves : (w v : World) (ns path : List ℕ) → IsDrawn w v ns → ((m : ℕ) → 0 < hits m ns → 0 < occurs m w.forest → (u : ℕ) × (parent_of w.forest m ≡ Some u) × (0 < hits u path)) → IsFilled w v path
filled_by_moves w v ns path a moved =
    record {
      sound = a.sound;
      there = a.extends.there;
      kinds = a.extends.kinds;
      parents = λ m h far.
          let none : 0 < hits m ns → ⊥ = λ lt. (let i = moved m lt h in let z = far i.0 i.1 in omega (arith, i.2)) in
          a.extends.parents m h (omega arith);
      made = a.made;
    }

pub holder_filled : (w v : World) (path : List ℕ) (into : ℕ) → IsFilled w v path → IsHolder w into → IsHolder v into
holder_filled w v path into a h =
    record {
      there = a.there into h.there;
      root = a.parents into h.there (λ u e. absurd (let k : None ≡ Some u = sym h.root ∙ e in cc k)) ∙ h.root;
      may_hold = a.kinds may_be_parent into h.there ∙ h.may_hold;
    }

pub plain_filled : (w v : World) (path : List ℕ) (n : ℕ) → IsFilled w v path → IsPlain w n → IsPlain v n
plain_filled w v path n a p = plain_like w v n n (a.there n p.there) (λ test. a.kinds test n p.there) p
