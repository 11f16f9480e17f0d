-- What a removal leaves of the forest: the node is a root, and nothing else of kinds, parents and paths is new.
use Rattle.std.proofs.Common.{◌≡◌, ℕ, ◌<◌, ◌≤◌, ◌==◌, Bool, true, false, if◌then◌else◌, List, [], ◌∷◌, Option, Some, None, refl, ap, sym, ◌∙◌, subst, arith}
use Rattle.std.proofs.lemmas.{Bool.Decides.nat_tests, Bool.cond-false}
use Rattle.dom_model.specs.Definitions.{hits, Entry, parent_in, Node, Forest, empty, node, occurs, one_at, tops, cut, entry_in, parent_of, ancestors, Content, World, kind_passes, removed_from, remove, remove_all, tree_record_unless, IsSound, Lies}
use Rattle.dom_model.specs.declared.Kind.{Kind}
use Rattle.dom_model.proofs.PlainLists.Numbers.{same_or, same, apart}
use Rattle.dom_model.proofs.Forests.{Totals.total-cut, Lying.absent_under, Entries.Lies-entry_in, Entries.parent-cut, Paths.up_with, Paths.ancestors-cut, PutBack.cut-root, Changes.seen, Changes.nothing, Changes.just, Climbing.hits-first}
use Rattle.dom_model.proofs.Worlds.Measured.{kind-cut}
use Rattle.dom_model.proofs.Soundness.SoundWorlds.{sound-remove}

root-top : (at : (ℕ → Option (Entry (Node Content)))) (q : Option ℕ) (n : ℕ) (f : Forest Content) → Lies at q f → parent_in (at n) ≡ None → 0 < occurs n f → 0 < hits n (tops f)
root-top at q n empty l e h = absurd (omega arith)
root-top at q n (node x kids rest) l e h = grind (arith, nat_tests, absent_under at n x.number kids e l.1, root-top at q n rest l.2 e)

-- the number of a root stands among the tops
pub root-listed : (f : Forest Content) → ((m : ℕ) → occurs m f ≤ 1) → (n : ℕ) → parent_of f n ≡ None → 0 < occurs n f → 0 < hits n (tops f)
root-listed f o n e h = root-top (entry_in f) None n f (Lies-entry_in f o) e h

pub unless-forest : (suppressed : Bool) (target : ℕ) (added removed : List ℕ) (previous next : Option ℕ) (w : World) → (tree_record_unless suppressed target added removed previous next w).forest ≡ w.forest
unless-forest true target added removed previous next w = refl
unless-forest false target added removed previous next w = refl

pub unless-made : (suppressed : Bool) (target : ℕ) (added removed : List ℕ) (previous next : Option ℕ) (w : World) → (tree_record_unless suppressed target added removed previous next w).made ≡ w.made
unless-made true target added removed previous next w = refl
unless-made false target added removed previous next w = refl

-- a node that is removed is cut
pub forest-remove : (suppressed : Bool) (n : ℕ) (w : World) → IsSound w → 0 < occurs n w.forest → (remove suppressed n w).forest ≡ cut n w.forest
forest-remove suppressed n w s h = go (parent_of w.forest n) refl
  where
    go : (p : Option ℕ) → parent_of w.forest n ≡ p → (removed_from suppressed n p w).forest ≡ cut n w.forest
    go None e = sym (cut-root w.forest s.forest.once s.forest.rising n (root-listed w.forest s.forest.once n e h))
    go (Some p) e = unless-forest suppressed p [] (n ∷ []) _ _ _

pub made-remove : (suppressed : Bool) (n : ℕ) (w : World) → (remove suppressed n w).made ≡ w.made
made-remove suppressed n w =
    elim (seen (parent_of w.forest n)) [ nothing e ↦ rw e refl | just p e ↦ rw e (unless-made suppressed p [] (n ∷ []) _ _ _) ]

-- one forest is left of another by cuts: no path is longer, and no parent new
pub record IsLoosened (f g : Forest Content) : Type 0 where
  pub numbers : (n : ℕ) → occurs n g ≡ occurs n f
  pub kinds : (test : Kind → Bool) (n : ℕ) → kind_passes test g n ≡ kind_passes test f n
  pub paths : (m n : ℕ) → 0 < occurs n f → hits m (ancestors n g) ≤ hits m (ancestors n f)
  pub roots : (n : ℕ) → parent_of f n ≡ None → parent_of g n ≡ None

pub loosened-same : (f g : Forest Content) → g ≡ f → IsLoosened f g
loosened-same f g e =
    record {
      numbers = λ n. ap (λ (h : Forest Content). occurs n h) e;
      kinds = λ test n. ap (λ (h : Forest Content). kind_passes test h n) e;
      paths = λ m n h. let i = ap (λ (h : Forest Content). hits m (ancestors n h)) e in omega arith;
      roots = λ n k. ap (λ (h : Forest Content). parent_of h n) e ∙ k;
    }

pub loosened-then : (f g h : Forest Content) → IsLoosened f g → IsLoosened g h → IsLoosened f h
loosened-then f g h a b =
    record {
      numbers = λ n. b.numbers n ∙ a.numbers n;
      kinds = λ test n. b.kinds test n ∙ a.kinds test n;
      paths = λ m n k. let i = a.paths m n k in let j = b.paths m n (subst (λ x. 0 < x) (sym (a.numbers n)) k) in omega arith;
      roots = λ n k. b.roots n (a.roots n k);
    }

pub loosened-cut : (f : Forest Content) → ((m : ℕ) → occurs m f ≤ 1) → (c : ℕ) → IsLoosened f (cut c f)
loosened-cut f o c =
    record {
      numbers = λ n. total-cut (one_at n) c f;
      kinds = kind-cut f o c;
      paths = λ m n h. let e = ap (hits m) (ancestors-cut f o c n h) in let i = shorter m (ancestors n f) in omega arith;
      roots = λ n k. grind (arith, nat_tests, parent-cut f o c n);
    }
  where
    shorter : (m : ℕ) (ns : List ℕ) → hits m (up_with c ns) ≤ hits m ns
    shorter m [] = omega arith
    shorter m (n ∷ ns) = grind (arith, nat_tests, shorter m ns)

-- a node removed, and each of a list
pub loosened-remove : (suppressed : Bool) (n : ℕ) (w : World) → IsSound w → 0 < occurs n w.forest → IsLoosened w.forest (remove suppressed n w).forest
loosened-remove suppressed n w s h =
    loosened-then w.forest (cut n w.forest) (remove suppressed n w).forest (loosened-cut w.forest s.forest.once n) (loosened-same (cut n w.forest) (remove suppressed n w).forest (forest-remove suppressed n w s h))

pub parent-remove : (suppressed : Bool) (n : ℕ) (w : World) → IsSound w → 0 < occurs n w.forest → (m : ℕ) → parent_of (remove suppressed n w).forest m ≡ (if m == n then None else parent_of w.forest m)
parent-remove suppressed n w s h m = ap (λ (g : Forest Content). parent_of g m) (forest-remove suppressed n w s h) ∙ parent-cut w.forest s.forest.once n m

pub loosened-remove_all : (ns : List ℕ) (w : World) → IsSound w → ((n : ℕ) → 0 < hits n ns → 0 < occurs n w.forest) → IsLoosened w.forest (remove_all ns w).forest
loosened-remove_all [] w s h = loosened-same w.forest w.forest refl
loosened-remove_all (n ∷ ns) w s h =
    let k = h n (hits-first n ns) in
    let v = remove true n w in
    let a = loosened-remove true n w s k in
    loosened-then w.forest v.forest (remove_all ns v).forest a (loosened-remove_all ns v (sound-remove true n w s) (λ m i. subst (λ x. 0 < x) (sym (a.numbers m)) (h m (omega arith))))

-- what is not in the list keeps its parent
pub parent-remove_all : (ns : List ℕ) (w : World) → IsSound w → ((n : ℕ) → 0 < hits n ns → 0 < occurs n w.forest) → (m : ℕ) → hits m ns ≡ 0 → parent_of (remove_all ns w).forest m ≡ parent_of w.forest m
parent-remove_all [] w s h m z = refl
parent-remove_all (n ∷ ns) w s h m z =
    let k = h n (hits-first n ns) in
    let a = loosened-remove true n w s k in
    parent-remove_all ns (remove true n w) (sound-remove true n w s) (λ l i. subst (λ x. 0 < x) (sym (a.numbers l)) (h l (omega arith))) m (omega arith)
    ∙ parent-remove true n w s k m
    ∙ cond-false (m == n) _ _ (grind (arith, nat_tests))

-- and each of the list is a root
pub root-remove_all : (ns : List ℕ) (w : World) → IsSound w → ((n : ℕ) → 0 < hits n ns → 0 < occurs n w.forest) → (m : ℕ) → 0 < hits m ns → parent_of (remove_all ns w).forest m ≡ None
root-remove_all [] w s h m k = absurd (omega arith)
root-remove_all (n ∷ ns) w s h m k =
    let i = h n (hits-first n ns) in
    let v = remove true n w in
    let a = loosened-remove true n w s i in
    let there : (l : ℕ) → 0 < hits l ns → 0 < occurs l v.forest = λ l j. subst (λ x. 0 < x) (sym (a.numbers l)) (h l (omega arith)) in
    let sv = sound-remove true n w s in
    elim (same_or m n) [
      | same e t ↦ (loosened-remove_all ns v sv there).roots m (parent-remove true n w s i m ∙ (rw t refl))
      | apart ne t ↦ root-remove_all ns v sv there m (grind (arith, nat_tests))
    ]
