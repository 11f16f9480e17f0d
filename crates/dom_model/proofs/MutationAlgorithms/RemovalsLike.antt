-- A node that is removed first may come in where it was allowed to: before the child, or before its own next sibling. DOM Standard, "Mutation algorithms".
use Rattle.std.proofs.Common.{◌≡◌, ℕ, ◌≤◌, ◌==◌, Bool, false, not, if◌then◌else◌, List, [], ◌∷◌, Option, Some, None, refl, ap, sym, ◌∙◌, arith}
use Rattle.std.proofs.lemmas.Bool.Decides.{nat_tests}
use Rattle.dom_model.proofs.Worlds.Measured.{kind-cut}
use Rattle.dom_model.specs.Definitions.{hits, among, is_number, after, left_out, past, up_to, list_under, is_kind, Forest, cut, entry_in, parent_of, children_of, next_of, ancestors, Content, if_given, has_kind, doctype_from, doctype_refused, kind_passes, is_of_kind}
use Rattle.dom_model.specs.declared.{Kind.Kind, Kind.TheVariants.Element, Kind.TheVariants.DocumentType}
use Rattle.dom_model.proofs.PlainLists.Numbers.{same_or, same, apart}
use Rattle.dom_model.proofs.Forests.{Totals.IsOnce, Lying.left_out-absent, PutBack.hits-head_of, PutBack.hits-after, Entries.parent-cut, Entries.children-cut, Indices.child-once, Indices.child-parent, Paths.outside-cut}
use Rattle.dom_model.proofs.MutationAlgorithms.ChecksKept.{none-of, any-none, IsLike, number-parent, or_first, or_second, or_both}

-- What is left of a list is of the list.

pub hits-left_out : (n m : ℕ) (ns : List ℕ) → hits m (left_out n ns) ≤ hits m ns
hits-left_out n m [] = omega arith
hits-left_out n m (x ∷ ns) = grind (arith, nat_tests, hits-left_out n m ns)

pub past-left_out : (n c m : ℕ) (ns : List ℕ) → (c == n) ≡ false → hits m (past c (left_out n ns)) ≤ hits m (past c ns)
past-left_out n c m [] far = omega arith
past-left_out n c m (x ∷ ns) far = grind (arith, nat_tests, past-left_out n c m ns far, hits-left_out n m ns)

pub up_to-left_out : (n c m : ℕ) (ns : List ℕ) → (c == n) ≡ false → hits m (up_to c (left_out n ns)) ≤ hits m (up_to c ns)
up_to-left_out n c m [] far = omega arith
up_to-left_out n c m (x ∷ ns) far = grind (arith, nat_tests, up_to-left_out n c m ns far)

-- g is f where n has left its parent, if it had one
pub record IsWithout (f g : Forest Content) (n : ℕ) : Type 0 where
  pub kinds : (test : Kind → Bool) (m : ℕ) → kind_passes test g m ≡ kind_passes test f m
  pub parents : (m : ℕ) → parent_of g m ≡ (if m == n then None else parent_of f m)
  pub children : (m : ℕ) → children_of g m ≡ left_out n (children_of f m)
  pub outside : (m : ℕ) → among n (ancestors m f) ≡ false → among n (ancestors m g) ≡ false

pub without-cut : (f : Forest Content) → IsOnce f → (n : ℕ) → IsWithout f (cut n f) n
without-cut f o n = record {
  kinds = kind-cut f o n;
  parents = parent-cut f o n;
  children = children-cut f o n;
  outside = outside-cut f o n;
}

-- a root stands in no list of children
pub root-unlisted : (f : Forest Content) → IsOnce f → (n m : ℕ) → parent_of f n ≡ None → hits n (children_of f m) ≡ 0
root-unlisted f o n m r = grind (arith, child-parent f o n m)

-- a root stays
pub without-root : (f : Forest Content) → IsOnce f → (n : ℕ) → parent_of f n ≡ None → IsWithout f f n
without-root f o n r = record {
  kinds = λ test m. refl;
  parents = λ m. grind (arith, nat_tests);
  children = λ m. sym (left_out-absent n (children_of f m) (root-unlisted f o n m r));
  outside = λ m h. h;
}

-- what comes after a number that stands once is another
after-apart : (n b : ℕ) (ns : List ℕ) → hits n ns ≤ 1 → after n ns ≡ Some b → (b == n) ≡ false
after-apart n b [] h e = absurd (cc e)
after-apart n b (x ∷ ns) h e = grind (arith, nat_tests, hits-head_of ns b, after-apart n b ns)

module _ (f g : Forest Content) (o : IsOnce f) (parent n : ℕ) (w : IsWithout f g n) where
  -- none of a kind among some of those among whom there was none
  pub none-kept : (k : Kind) (xs ys : List ℕ) → ((m : ℕ) → hits m ys ≤ hits m xs) → has_kind k f xs ≡ false → has_kind k g ys ≡ false
  none-kept k xs ys within h =
      any-none (is_of_kind k g) ys (λ m i. w.kinds (is_kind k) m ∙ none-of (is_of_kind k f) xs h m (let j = within m in omega arith))

  kids : children_of g parent ≡ left_out n (children_of f parent)
  kids = w.children parent

  next-found : (b : Option ℕ) → parent_of f n ≡ Some parent → next_of f n ≡ b → if_given (λ c. not (is_number (parent_of g c) parent)) b ≡ false
  next-found None e d = refl
  next-found (Some b) e d =
      let s : after n (children_of f parent) ≡ Some b = ap (λ q. after n (list_under (entry_in f) q)) (sym e) ∙ d in
      let far = after-apart n b (children_of f parent) (child-once f o n parent) s in
      let p : parent_of f b ≡ Some parent = child-parent f o b parent (hits-after n (children_of f parent) b s) in
      let q : parent_of g b ≡ Some parent = w.parents b ∙ (rw far p) in
      rw q (grind (arith, nat_tests))

  found-kept : (child : Option ℕ) → if_given (λ c. not (is_number (parent_of f c) parent)) child ≡ false → if_given (λ c. not (is_number (parent_of g c) parent)) (if is_number child n then next_of f n else child) ≡ false
  found-kept None h = refl
  found-kept (Some a) h = elim (same_or a n) [
    | same e t ↦ rw t (next-found (next_of f n) (ap (parent_of f) (sym e) ∙ number-parent parent (parent_of f a) h) refl)
    | apart ne t ↦ rw t (rw (w.parents a, t) h)
  ]

  behind-kept : (child : Option ℕ) → is_number child n ≡ false → doctype_from f parent child ≡ false → doctype_from g parent (if is_number child n then next_of f n else child) ≡ false
  behind-kept None far h = refl
  behind-kept (Some a) far h =
      let own = w.kinds (is_kind DocumentType) a ∙ or_first _ _ h in
      let later = none-kept DocumentType (past a (children_of f parent)) (past a (children_of g parent)) (λ m. rw kids (past-left_out n a m (children_of f parent) far)) (or_second _ _ h) in
      rw far (or_both _ _ own later)

  ahead-kept : (child : Option ℕ) → is_number child n ≡ false → doctype_refused f parent child ≡ false → doctype_refused g parent (if is_number child n then next_of f n else child) ≡ false
  ahead-kept None far h =
      let some : (m : ℕ) → hits m (children_of g parent) ≤ hits m (children_of f parent) = λ m. rw kids (hits-left_out n m (children_of f parent)) in
      or_both _ _ (none-kept DocumentType (children_of f parent) (children_of g parent) some (or_first _ _ h)) (none-kept Element (children_of f parent) (children_of g parent) some (or_second _ _ h))
  ahead-kept (Some a) far h =
      let doctypes = none-kept DocumentType (children_of f parent) (children_of g parent) (λ m. rw kids (hits-left_out n m (children_of f parent))) (or_first _ _ h) in
      let elements = none-kept Element (up_to a (children_of f parent)) (up_to a (children_of g parent)) (λ m. rw kids (up_to-left_out n a m (children_of f parent) far)) (or_second _ _ h) in
      rw far (or_both _ _ doctypes elements)

  -- before the child, or before its own next sibling
  pub removal-like : (child : Option ℕ) → if_given (λ c. not (is_number (parent_of f c) parent)) child ≡ false → IsLike f g parent n child (if is_number child n then next_of f n else child)
  removal-like child found = record {
    kinds = λ test m h. w.kinds test m;
    outside = λ h. w.outside parent h;
    found = found-kept child found;
    own = λ r. w.children n ∙ left_out-absent n (children_of f n) (root-unlisted f o n n r);
    listed = λ k text none. λ m i. w.kinds (is_kind k) m ∙ none m (let j = rw kids at i in let l = hits-left_out n m (children_of f parent) in omega arith);
    behind = λ far h. behind-kept child far h;
    ahead = λ far h. ahead-kept child far h;
  }
