-- A node loses its children: where a live range then starts, and what stays. DOM Standard, "Mutation algorithms" (replace all).
use Rattle.std.proofs.Common.{◌≡◌, ℕ, ◌<◌, ◌≤◌, Bool, true, List, [], ◌∷◌, Some, None, refl, ap, sym, ◌∙◌, subst, arith}
use Rattle.dom_model.specs.declared.Kind.{Kind}
use Rattle.dom_model.specs.Definitions.{hits, Forest, occurs, parent_of, children_of, ancestors, Content, Point, Range, World, IsSound, moved_range, kind_passes, remove, remove_all, replaced_record, replace_all, range_at}
use Rattle.dom_model.proofs.PlainLists.Numbers.{same_or, same, apart}
use Rattle.dom_model.proofs.Forests.{Climbing.hits-append, Climbing.hits-first, Lying.left_out-absent, Entries.children-cut, Indices.child-once, Indices.child-parent, Indices.parent-there}
use Rattle.dom_model.proofs.Soundness.SoundWorlds.{sound-remove}
use Rattle.dom_model.proofs.MutationAlgorithms.Loosened.{forest-remove, IsLoosened, loosened-remove, parent-remove}
use Rattle.dom_wrap.proofs.AllowAbove.{none-or-some, move, range_left, start_aside, above_aside, start_inside}

-- what is left of a world where children of a node were removed, and of a live range that was there
pub record IsEmptied (n r : ℕ) (a : Range) (v u : World) : Type 0 where
  pub range : Range
  pub found : range_at u r ≡ Some range
  pub aside : hits n (ancestors a.start.node v.forest) ≡ 0 → (range.start ≡ a.start) × (ancestors a.start.node u.forest ≡ ancestors a.start.node v.forest)
  pub inside : 0 < hits n (ancestors a.start.node v.forest) → 0 < hits n (ancestors range.start.node u.forest)
  pub kinds : (test : Kind → Bool) (m : ℕ) → kind_passes test u.forest m ≡ kind_passes test v.forest m
  pub numbers : (m : ℕ) → occurs m u.forest ≡ occurs m v.forest
  pub children : (m : ℕ) → (m ≡ n → ⊥) → children_of u.forest m ≡ children_of v.forest m

-- The first of them.
module _ (n r x : ℕ) (v : World) (s : IsSound v) (par : parent_of v.forest x ≡ Some n) (a : Range) (e : range_at v r ≡ Some a) (ha : 0 < occurs a.start.node v.forest) where
  abbrev out : World
  out = remove true x v

  abbrev b : Range
  b = moved_range (move n x r v s par a e ha) a

  hx : 0 < occurs x v.forest
  hx = parent-there v.forest x n par

  loose : IsLoosened v.forest out.forest
  loose = loosened-remove true x v s hx

  node_first : hits n (ancestors a.start.node v.forest) ≡ 0 → b.start.node ≡ a.start.node
  node_first z = ap (λ (p : Point). p.node) (start_aside n x r v s par a e ha z)

  above_first : hits n (ancestors a.start.node v.forest) ≡ 0 → ancestors b.start.node out.forest ≡ ancestors a.start.node v.forest
  above_first z = ap (λ m. ancestors m out.forest) (node_first z) ∙ above_aside n x r v s par a e ha z

  there_first : 0 < occurs b.start.node out.forest
  there_first =
      none-or-some n (ancestors a.start.node v.forest)
      (λ z. subst (λ m. 0 < occurs m out.forest) (sym (node_first z)) (subst (λ y. 0 < y) (sym (loose.numbers a.start.node)) ha))
      (λ h. (start_inside n x r v s par a e ha h).0)

  children_first : (m : ℕ) → (m ≡ n → ⊥) → children_of out.forest m ≡ children_of v.forest m
  children_first m ne =
      ap (λ (g : Forest Content). children_of g m) (forest-remove true x v s hx)
      ∙ children-cut v.forest s.forest.once x m
      ∙ left_out-absent x (children_of v.forest m)
      (none-or-some x (children_of v.forest m) (λ z. z)
      (λ lt. absurd (let k : Some m ≡ Some n = sym (child-parent v.forest s.forest.once x m lt) ∙ par in let j : m ≡ n = cc k in ne j)))

  then-emptied : (u : World) → IsEmptied n r b out u → IsEmptied n r a v u
  then-emptied u rest =
      record {
        range = rest.range;
        found = rest.found;
        aside = λ z.
            let k = rest.aside (ap (hits n) (above_first z) ∙ z) in
            (k.0 ∙ start_aside n x r v s par a e ha z, subst (λ p. ancestors p u.forest ≡ ancestors p out.forest) (node_first z) k.1 ∙ above_aside n x r v s par a e ha z);
        inside = λ h. rest.inside (start_inside n x r v s par a e ha h).1;
        kinds = λ test m. rest.kinds test m ∙ loose.kinds test m;
        numbers = λ m. rest.numbers m ∙ loose.numbers m;
        children = λ m ne. rest.children m ne ∙ children_first m ne;
      }

  later : (ns : List ℕ) → ((m : ℕ) → 0 < hits m (x ∷ ns) → parent_of v.forest m ≡ Some n) → ((m : ℕ) → hits m (x ∷ ns) ≤ 1) → (m : ℕ) → 0 < hits m ns → parent_of out.forest m ≡ Some n
  later ns each once m h =
      elim (same_or m x) [
        | same d t ↦ absurd (let o = once x in let i = ap (λ y. hits y ns) d in let z = hits-first x [] in let l = hits-append x (x ∷ []) ns in omega arith)
        | apart ne t ↦ parent-remove true x v s hx m ∙ (rw t (each m (let l = hits-append m (x ∷ []) ns in omega arith)))
      ]

module _ (n r : ℕ) where
  emptied-by : (ns : List ℕ) (v : World) → IsSound v → ((m : ℕ) → 0 < hits m ns → parent_of v.forest m ≡ Some n) → ((m : ℕ) → hits m ns ≤ 1) → (a : Range) → range_at v r ≡ Some a → 0 < occurs a.start.node v.forest → IsEmptied n r a v (remove_all ns v)
  emptied-by [] v s each once a e ha =
      record { range = a; found = e; aside = λ z. (refl, refl); inside = λ h. h; kinds = λ test m. refl; numbers = λ m. refl; children = λ m ne. refl }
  emptied-by (x ∷ ns) v s each once a e ha =
      let par = each x (hits-first x ns) in
      then-emptied n r x v s par a e ha (remove_all ns (remove true x v))
      (emptied-by ns (remove true x v) (sound-remove true x v s) (later n r x v s par a e ha ns each once) (λ m. let l = hits-append m (x ∷ []) ns in let o = once m in omega arith)
      (moved_range (move n x r v s par a e ha) a) (range_left n x r v s par a e ha) (there_first n r x v s par a e ha))

  -- all children of the node are removed
  pub emptied : (v : World) → IsSound v → (a : Range) → range_at v r ≡ Some a → 0 < occurs a.start.node v.forest → IsEmptied n r a v (replace_all None n v)
  emptied v s a e ha = noted (children_of v.forest n) (remove_all (children_of v.forest n) v) (emptied-by (children_of v.forest n) v s (λ m h. child-parent v.forest s.forest.once m n h) (λ m. child-once v.forest s.forest.once m n) a e ha)
    where
      noted : (removed : List ℕ) (x : World) → IsEmptied n r a v x → IsEmptied n r a v (replaced_record n [] removed x)
      noted [] x i = i
      noted (m ∷ ms) x i = record { range = i.range; found = i.found; aside = i.aside; inside = i.inside; kinds = i.kinds; numbers = i.numbers; children = i.children }
