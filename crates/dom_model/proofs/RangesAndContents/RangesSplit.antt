-- The boundary points of a Text that is split, once a new Text with what was beyond the offset stands after it, go to boundary points of the same tree.
use Rattle.std.proofs.Common.{◌≡◌, ℕ, ◌+◌, ◌-◌, ◌<◌, ◌≤◌, ◌==◌, nat_lt, Bool, true, false, ◌&&◌, if◌then◌else◌, Some, refl, sym, ◌∙◌, subst, arith}
use Rattle.std.proofs.lemmas.Bool.{eqb-true, and_parts}
use Rattle.dom_model.specs.Definitions.{may_be_parent, Forest, occurs, parent_of, children_of, index_of, root_of, Content, Point, after_split, kind_passes, is_of_kind, unit_count, node_length, IsBoundary}
use Rattle.dom_model.specs.declared.Kind.TheVariants.{DocumentType}
use Rattle.dom_model.proofs.PlainLists.Places.{place-there}
use Rattle.dom_model.proofs.Forests.{Entries.HasNode-occurs, Paths.parent-path, Indices.child-listed, Indices.index-child, Chains.root-child}
use Rattle.dom_model.proofs.Soundness.SoundForests.{IsWood, parent-passes}
use Rattle.dom_model.proofs.Worlds.Measured.{length-parent}
use Rattle.dom_model.proofs.RangesAndContents.RangesCut.{no_doctype}

-- a node of the same root, at a boundary point
pub record IsWithin (g : Forest Content) (n : ℕ) (q : Point) : Type 0 where
  pub boundary : IsBoundary g q
  pub one_root : root_of g q.node ≡ root_of g n

module _ {g : Forest Content} {made : ℕ} (s : IsWood g made) (p at c offset : ℕ) (hat : 0 < occurs at g) (hc : 0 < occurs c g) (pat : parent_of g at ≡ Some p) (pc : parent_of g c ≡ Some p) (next : index_of g c ≡ index_of g at + 1) (kind : is_of_kind DocumentType g c ≡ false) (rest : node_length unit_count g at ≤ offset + node_length unit_count g c) where
  passes : kind_passes may_be_parent g p ≡ true
  passes = parent-passes s at p pat hat

  into_new : (a : ℕ) → a ≤ node_length unit_count g at → IsWithin g at (record { node = c; offset = a - offset })
  into_new a h =
      record {
        boundary = record { there = HasNode-occurs g c hc; kind = kind; within = omega arith };
        one_root = root-child g s.once c p hc pc ∙ sym (root-child g s.once at p hat pat);
      }

  behind_new : IsWithin g p (record { node = p; offset = index_of g at + 2 })
  behind_new =
      let i = place-there c (children_of g p) (child-listed g s.once c p hc pc) in
      let j = index-child g c p pc in
      let l = length-parent g p passes in
      record {
        boundary = record { there = HasNode-occurs g p (parent-path g s.once at p hat pat).0; kind = no_doctype g p passes; within = omega arith };
        one_root = refl;
      }

  pub boundary-split : (q : Point) → IsBoundary g q → IsWithin g q.node (after_split at offset c p (index_of g at) q)
  boundary-split q b = go ((q.node == at) && nat_lt offset q.offset) refl ((q.node == p) && (q.offset == index_of g at + 1)) refl
    where
      first : (n m : ℕ) (w : Bool) → ((n == m) && w) ≡ true → n ≡ m
      first n m w e = eqb-true n m (and_parts (n == m) w e).0

      go : (v : Bool) → ((q.node == at) && nat_lt offset q.offset) ≡ v → (w : Bool) → ((q.node == p) && (q.offset == index_of g at + 1)) ≡ w → IsWithin g q.node (if v then record { node = c; offset = q.offset - offset } else (if w then record { node = q.node; offset = index_of g at + 2 } else q))
      go true e w d =
          let n = first q.node at (nat_lt offset q.offset) e in
          subst (λ m. IsWithin g m (record { node = c; offset = q.offset - offset })) (sym n) (into_new q.offset (subst (λ m. q.offset ≤ node_length unit_count g m) n b.within))
      go false e true d =
          let n = first q.node p (q.offset == index_of g at + 1) d in
          subst (λ m. IsWithin g m (record { node = m; offset = index_of g at + 2 })) (sym n) behind_new
      go false e false d = record { boundary = b; one_root = refl }
