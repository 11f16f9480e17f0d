-- A root that is made and put last under a parent: what the call asks of the forest, and what is told of both afterwards.
use Rattle.std.proofs.Common.{◌≡◌, ℕ, ◌<◌, true, false, List, [], ◌∷◌, ◌++◌, Some, None, refl, ap, sym, ◌∙◌, arith, IfSome}
use Rattle.dom_model.specs.Definitions.{among, entered, Node, Forest, empty, node, HasNode, occurs, tree_at, put, entry_in, parent_of, children_of, ancestors, may_stand_in}
use Rattle.dom_model.proofs.PlainLists.Numbers.{same_or, same, apart}
use Rattle.dom_model.proofs.Forests.{Totals.IsOnce, Entries.HasNode-occurs, Entries.occurs-HasNode, Entries.parent-put, Entries.children-put, Climbing.hits-ancestors, Climbing.hits-not_among, ForestsBeside.tree_at-younger, OneMoreRoot.more, OneMoreRoot.more-once, OneMoreRoot.more-there, OneMoreRoot.new-there, OneMoreRoot.entry-more, OneMoreRoot.entry-new, OneMoreRoot.parent-new, OneMoreRoot.children-more}

-- a child without a sibling to stand before comes last
pub entered-last : (c : ℕ) (xs : List ℕ) → entered None c xs ≡ xs ++ c ∷ []
entered-last c [] = refl
entered-last c (x ∷ xs) = ap (λ ys. x ∷ ys) (entered-last c xs)

module _ {X : Type 0} (f : Forest X) (o : IsOnce f) (x : Node X) (new : occurs x.number f ≡ 0) (p : ℕ) (held : HasNode f p) where
  there : 0 < occurs p f
  there = occurs-HasNode f p held

  elsewhere : occurs p (node x empty empty) ≡ 0
  elsewhere =
      elim (same_or x.number p) [
        | same e v ↦ absurd (let k : occurs p f ≡ 0 = ap (λ n. occurs n f) (sym e) ∙ new in omega (arith, there))
        | apart ne v ↦ rw v (omega arith)
      ]

  pub parent-held : HasNode (more f o x new) p
  parent-held = HasNode-occurs (more f o x new) p (more-there f o x new p there)

  pub child-held : HasNode (more f o x new) x.number
  child-held = HasNode-occurs (more f o x new) x.number (new-there f o x new)

  pub child-root : parent_of (more f o x new) x.number ≡ None
  child-root = parent-new f o x new

  aside : occurs p (tree_at x.number (more f o x new)) ≡ 0
  aside =
      ap (λ (g : Forest X). occurs p g) (tree_at-younger x.number f (node x empty empty) new)
      ∙ elim (same_or x.number x.number) [ same e v ↦ (let z = elsewhere in rw v z) | apart ne v ↦ absurd (ne refl) ]

  pub child-no_cycle : among x.number (ancestors p (more f o x new)) ≡ false
  child-no_cycle =
      let z = hits-ancestors x.number p (more f o x new) (more-once f o x new) in
      hits-not_among x.number (ancestors p (more f o x new)) (omega (arith, aside))

  pub child-kinds : IfSome (entry_in f p) (λ e. may_stand_in e.value.label.kind x.label.kind ≡ true)
      → IfSome (entry_in (more f o x new) p) (λ e. IfSome (entry_in (more f o x new) x.number) (λ c. may_stand_in e.value.label.kind c.value.label.kind ≡ true))
  child-kinds h = rw (entry-more f o x new p there, entry-new f o x new) h

  pub child-parent : parent_of (put p x.number None (more f o x new)) x.number ≡ Some p
  child-parent =
      parent-put (more f o x new) (more-once f o x new) p x.number None (more-there f o x new p there) (new-there f o x new) child-root aside x.number (new-there f o x new)
      ∙ elim (same_or x.number x.number) [ same e v ↦ rw v refl | apart ne v ↦ absurd (ne refl) ]

  pub child-last : children_of (put p x.number None (more f o x new)) p ≡ children_of f p ++ x.number ∷ []
  child-last =
      children-put (more f o x new) (more-once f o x new) p x.number None (more-there f o x new p there) (new-there f o x new) child-root aside p (more-there f o x new p there)
      ∙ elim (same_or p p) [ same e v ↦ rw v (entered-last x.number (children_of (more f o x new) p) ∙ ap (λ ks. ks ++ x.number ∷ []) (children-more f o x new p there)) | apart ne v ↦ absurd (ne refl) ]
