-- What may come in before a Text may come in before its second part, once it is split. DOM Standard, "Interface Text", "Mutation algorithms".
use Rattle.std.proofs.Common.{◌≡◌, ℕ, ◌+◌, ◌<◌, ◌≤◌, ◌==◌, Bool, true, false, not, List, [], ◌∷◌, ◌++◌, Option, Some, None, refl, ap, sym, ◌∙◌, subst, arith, append_assoc}
use Rattle.std.proofs.lemmas.{Bool.false≢true, Bool.Decides.nat_tests}
use Rattle.dom_model.specs.Definitions.{hits, among, is_number, head_of, after, entered, left_out, past, up_to, is_kind, Forest, occurs, entry_in, parent_of, children_of, ancestors, Content, doctype_from, doctype_refused, kind_passes, is_of_kind}
use Rattle.dom_model.specs.declared.{Kind.Kind, Kind.TheVariants.Element, Kind.TheVariants.Text, Kind.TheVariants.DocumentType}
use Rattle.dom_model.proofs.PlainLists.Numbers.{same_or, same, apart}
use Rattle.dom_model.proofs.Forests.{Changes.seen, Changes.nothing, Changes.just, Totals.IsOnce, Lying.left_out-absent, PutBack.hits-head_of, PutBack.hits-after, Climbing.hits-append, Climbing.hits-among, Climbing.hits-self, Indices.child-listed, Indices.child-once, Indices.child-there, Indices.parent-there, Paths.parent-path}
use Rattle.dom_model.proofs.MutationAlgorithms.{ChecksKept.NoneOf, ChecksKept.none-of, ChecksKept.any-none, ChecksKept.IsLike, ChecksKept.or_first, ChecksKept.or_second, ChecksKept.or_both, RemovalsLike.IsWithout, RemovalsLike.root-unlisted, RemovalsLike.hits-left_out, RemovalsLike.past-left_out, RemovalsLike.up_to-left_out}
use Rattle.dom_model.proofs.Traversal.{IteratorSteps.past-round, IteratorSteps.up_to-round, IteratorsStay.hits-past}
use Rattle.dom_model.proofs.BoundaryPoints.RootsKept.{hits-up_to}

-- A number that comes in just after another.

pub hits-entered : (b : Option ℕ) (c m : ℕ) (ns : List ℕ) → hits m (entered b c ns) ≡ hits m (c ∷ ns)
hits-entered b c m [] = refl
hits-entered None c m (x ∷ ns) = grind (arith, hits-entered None c m ns)
hits-entered (Some k) c m (x ∷ ns) = grind (arith, nat_tests, hits-entered (Some k) c m ns)

-- the number that comes first of a list stands in it; what does not is not before it
entered-first : (c : ℕ) (ns : List ℕ) → entered (head_of ns) c ns ≡ c ∷ ns
entered-first c [] = refl
entered-first c (x ∷ ns) = grind (arith, nat_tests)

entered-later : (b : Option ℕ) (c x : ℕ) (ns : List ℕ) → ((k : ℕ) → b ≡ Some k → (k ≡ x → ⊥)) → entered b c (x ∷ ns) ≡ x ∷ entered b c ns
entered-later None c x ns h = refl
entered-later (Some k) c x ns h = grind (arith, nat_tests, h k refl)

after-entered : (t c : ℕ) (ns : List ℕ) → ((m : ℕ) → hits m ns ≤ 1) → 0 < hits t ns → hits c ns ≡ 0 → entered (after t ns) c ns ≡ up_to t ns ++ t ∷ c ∷ past t ns
after-entered t c [] o h z = absurd (omega arith)
after-entered t c (x ∷ ns) o h z =
    let i = o x in
    elim (same_or x t) [
      | same e v ↦
          let far : (k : ℕ) → head_of ns ≡ Some k → k ≡ x → ⊥ = λ k d s. grind (arith, nat_tests, hits-head_of ns k) in
          let a : after t (x ∷ ns) ≡ head_of ns = rw v refl in
          let r : up_to t (x ∷ ns) ++ t ∷ c ∷ past t (x ∷ ns) ≡ t ∷ c ∷ ns = rw v refl in
          cc (entered-later (head_of ns) c x ns far, entered-first c ns)
      | apart ne v ↦
          let far : (k : ℕ) → after t ns ≡ Some k → k ≡ x → ⊥ = λ k d s. grind (arith, nat_tests, hits-after t ns k) in
          let k = rw v at h in
          let a : after t (x ∷ ns) ≡ after t ns = rw v refl in
          let r : up_to t (x ∷ ns) ++ t ∷ c ∷ past t (x ∷ ns) ≡ x ∷ (up_to t ns ++ t ∷ c ∷ past t ns) = rw v refl in
          cc (entered-later (after t ns) c x ns far, after-entered t c ns (λ m. let i = o m in omega arith) (omega arith) (omega arith))
    ]

-- h is f with a new Text just after another under their parent
pub record IsSplit (f h : Forest Content) (t new parent : ℕ) : Type 0 where
  pub kinds : (test : Kind → Bool) (m : ℕ) → 0 < occurs m f → kind_passes test h m ≡ kind_passes test f m
  pub text : (k : Kind) → is_of_kind k h new ≡ is_kind k Text
  pub above : ancestors parent h ≡ ancestors parent f
  pub parent_new : parent_of h new ≡ Some parent
  pub kids_there : children_of h parent ≡ entered (after t (children_of f parent)) new (children_of f parent)
  pub kids_elsewhere : (m : ℕ) → 0 < occurs m f → (m == parent) ≡ false → children_of h m ≡ children_of f m

module _ (f h g : Forest Content) (o : IsOnce f) (t new parent n : ℕ) (fresh : occurs new f ≡ 0) (there : 0 < occurs n f) (up : parent_of f t ≡ Some parent) (text : is_of_kind Text f t ≡ true) (s : IsSplit f h t new parent) (w : IsWithout h g n) where
  abbrev before : List ℕ
  before = children_of f parent

  far : (new == n) ≡ false
  far = grind (arith, nat_tests)

  t_listed : 0 < hits t before
  t_listed = child-listed f o t parent (parent-there f t parent up) up

  unlisted : hits new before ≡ 0
  unlisted = grind (arith, child-there f o new parent)

  middle : children_of h parent ≡ (up_to t before ++ t ∷ []) ++ new ∷ past t before
  middle =
      s.kids_there ∙ after-entered t new before (λ m. child-once f o m parent) t_listed unlisted
      ∙ sym (append_assoc (up_to t before) (t ∷ []) (new ∷ past t before))

  ahead_clear : hits new (up_to t before ++ t ∷ []) ≡ 0
  ahead_clear =
      grind (arith, nat_tests, hits-append new (up_to t before) (t ∷ []), hits-up_to new t before, t_listed, unlisted)

  past-within : (m : ℕ) → hits m (past new (children_of g parent)) ≤ hits m (past t before)
  past-within m =
      rw (w.children parent) (omega (arith, past-left_out n new m (children_of h parent) far, ap (λ ns. hits m (past new ns)) middle, ap (hits m) (past-round new (up_to t before ++ t ∷ []) (past t before) ahead_clear)))

  up_to-within : (m : ℕ) → hits m (up_to new (children_of g parent)) ≤ hits m (up_to t before) + hits m (t ∷ [])
  up_to-within m =
      rw (w.children parent) (omega (arith, up_to-left_out n new m (children_of h parent) far, ap (λ ns. hits m (up_to new ns)) middle, ap (hits m) (up_to-round new (up_to t before ++ t ∷ []) (past t before) ahead_clear), hits-append m (up_to t before) (t ∷ [])))

  old-kind : (k : Kind) (m : ℕ) → 0 < hits m before → is_of_kind k g m ≡ is_of_kind k f m
  old-kind k m i = w.kinds (is_kind k) m ∙ s.kinds (is_kind k) m (child-there f o m parent i)

  new-kind : (k : Kind) → is_kind k Text ≡ false → is_of_kind k g new ≡ false
  new-kind k e = w.kinds (is_kind k) new ∙ s.text k ∙ e

  text-only : (k : Kind) → is_kind k Text ≡ false → is_of_kind k f t ≡ false
  text-only k e =
      elim (seen (entry_in f t)) [
        | nothing z ↦ rw z refl
        | just a z ↦ (let i = rw z at text in rw z (go k a.value.label.kind e i))
      ]
    where
      go : (k j : Kind) → is_kind k Text ≡ false → is_kind Text j ≡ true → is_kind k j ≡ false
      go k Text e i = e
      go k j e i = absurd (false≢true i)

  split-own : among n (ancestors parent f) ≡ false → parent_of f n ≡ None → children_of g n ≡ children_of f n
  split-own out r =
      let hp = (parent-path f o t parent (parent-there f t parent up) up).0 in
      let other : (n == parent) ≡ false = grind (arith, nat_tests, hits-among n (ancestors parent f), hits-self parent n f) in
      w.children n ∙ ap (left_out n) (s.kids_elsewhere n there other) ∙ left_out-absent n (children_of f n) (root-unlisted f o n n r)

  split-listed : (k : Kind) → is_kind k Text ≡ false → NoneOf (is_of_kind k f) before → NoneOf (is_of_kind k g) (children_of g parent)
  split-listed k e none m i =
      let a = rw (w.children parent) at i in
      let b = hits-left_out n m (children_of h parent) in
      let c = ap (hits m) s.kids_there in
      let d = hits-entered (after t before) new m before in
      elim (same_or new m) [
        | same u v ↦ subst (λ x. is_of_kind k g x ≡ false) u (new-kind k e)
        | apart ne v ↦ (let j : 0 < hits m before = grind (arith, nat_tests) in old-kind k m j ∙ none m j)
      ]

  split-behind : doctype_from f parent (Some t) ≡ false → doctype_from g parent (Some new) ≡ false
  split-behind d =
      let none : NoneOf (is_of_kind DocumentType f) (past t before) = none-of (is_of_kind DocumentType f) (past t before) (or_second (is_of_kind DocumentType f t) _ d) in
      or_both _ _ (new-kind DocumentType refl) (any-none (is_of_kind DocumentType g) (past new (children_of g parent))
      (λ m i.
      let j = past-within m in
      let l : 0 < hits m (past t before) = omega arith in
      let k = hits-past m t before in
      old-kind DocumentType m (omega arith) ∙ none m l))

  split-ahead : doctype_refused f parent (Some t) ≡ false → doctype_refused g parent (Some new) ≡ false
  split-ahead d =
      let doctypes = split-listed DocumentType refl (none-of (is_of_kind DocumentType f) before (or_first _ _ d)) in
      or_both _ _ (any-none (is_of_kind DocumentType g) (children_of g parent) doctypes) (any-none (is_of_kind Element g) (up_to new (children_of g parent)) (elements (none-of (is_of_kind Element f) (up_to t before) (or_second _ _ d))))
    where
      elements : NoneOf (is_of_kind Element f) (up_to t before) → NoneOf (is_of_kind Element g) (up_to new (children_of g parent))
      elements none m i =
          let j = up_to-within m in
          let k = hits-up_to m t before in
          elim (same_or t m) [
            | same u v ↦ old-kind Element m (subst (λ x. 0 < hits x before) u t_listed) ∙ subst (λ x. is_of_kind Element f x ≡ false) u (text-only Element refl)
            | apart ne v ↦ (let p : 0 < hits m (up_to t before) = grind (arith, nat_tests) in old-kind Element m (omega arith) ∙ none m p)
          ]

  split-found : not (is_number (parent_of g new) parent) ≡ false
  split-found =
      let q : parent_of g new ≡ Some parent = w.parents new ∙ (rw far s.parent_new) in
      rw q (grind (arith, nat_tests))

  -- before the Text, and then before its second part
  pub split-like : among n (ancestors parent f) ≡ false → IsLike f g parent n (Some t) (Some new)
  split-like out = record {
    kinds = λ test m i. w.kinds test m ∙ s.kinds test m i;
    outside = λ k. w.outside parent (rw s.above k);
    found = split-found;
    own = split-own out;
    listed = split-listed;
    behind = λ away d. split-behind d;
    ahead = λ away d. split-ahead d;
  }
