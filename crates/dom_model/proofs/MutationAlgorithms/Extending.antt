-- What an insertion keeps of the nodes that were there: their kinds, their data, and the parents of those that do not move.
use Rattle.std.proofs.Common.{◌≡◌, ℕ, suc, ◌+◌, ◌<◌, ◌≤◌, Bool, true, false, if◌then◌else◌, List, [], ◌∷◌, ◌++◌, length, Option, Some, None, refl, ap, sym, ◌∙◌, subst, arith, eqb}
use Rattle.std.proofs.lemmas.{Bool.Decides.nat_tests, Bool.cond-true, Bool.eq-eqb}
use Rattle.dom_model.specs.Definitions.{hits, Label, Attribute, Entry, parent_in, Node, Forest, occurs, one_at, beside, cut, entry_in, parent_of, children_of, Content, World, entry_has, kind_passes, node_document, remove, remove_all, is_fragment, nodes_of, emptied_fragment, freed, put_in, put_all, gap_before, previous_to, insert_nodes, insert, content_in, IsSound, label_in, IsPlaceable, ArePlaceable, IsChildOf, IsInsertable}
use Rattle.dom_model.specs.declared.Kind.{Kind}
use Rattle.dom_model.proofs.Forests.{Changes.link_at, Climbing.hits-append, Climbing.hits-first, Totals.total-cut, Totals.total-beside, Entries.parent-cut, Indices.child-there}
use Rattle.dom_model.proofs.Worlds.Measured.{kind-cut, entry-beside, unplaced_entry, kept-adopted, kept-cut, kept-put}
use Rattle.dom_model.proofs.MutationAlgorithms.Loosened.{forest-remove, made-remove, unless-forest, unless-made}
use Rattle.dom_model.proofs.Soundness.{SoundWorlds.sound-remove, SoundPlacing.after_put, SoundPlacing.after_adoption, SoundPlacing.apart_from, SoundPlacing.occurs_placed, SoundPlacing.parent_placed, SoundPlacing.kind_placed, SoundPlacing.all_placeable, SoundPlacing.child_placed, SoundPlacing.placed-forest, SoundPlacing.gap-apart, SoundPlacing.sound-put_one, SoundInserting.IsReady, SoundInserting.freed_ready}

-- the data of a node
abbrev pub text_at : Forest Content → ℕ → List ℕ
text_at f n = (content_in (entry_in f n)).text

-- its label and attributes
abbrev pub tag_in : Option (Entry (Node Content)) → (Option Label) × (List Attribute)
tag_in e = (label_in e, (content_in e).attributes)

abbrev pub tag_at : Forest Content → ℕ → (Option Label) × (List Attribute)
tag_at f n = tag_in (entry_in f n)

pub record Extends (f g : Forest Content) (moved : List ℕ) : Type 0 where
  pub there : (m : ℕ) → 0 < occurs m f → 0 < occurs m g
  pub kinds : (test : Kind → Bool) (m : ℕ) → 0 < occurs m f → kind_passes test g m ≡ kind_passes test f m
  pub texts : (m : ℕ) → 0 < occurs m f → text_at g m ≡ text_at f m
  pub tags : (m : ℕ) → 0 < occurs m f → tag_at g m ≡ tag_at f m
  pub parents : (m : ℕ) → 0 < occurs m f → hits m moved ≡ 0 → parent_of g m ≡ parent_of f m

pub extends-same : (f g : Forest Content) → g ≡ f → Extends f g []
extends-same f g e =
    record {
      there = λ m h. subst (λ (x : Forest Content). 0 < occurs m x) (sym e) h;
      kinds = λ test m h. ap (λ (x : Forest Content). kind_passes test x m) e;
      texts = λ m h. ap (λ (x : Forest Content). text_at x m) e;
      tags = λ m h. ap (λ (x : Forest Content). tag_at x m) e;
      parents = λ m h z. ap (λ (x : Forest Content). parent_of x m) e;
    }

pub extends-then : (f g h : Forest Content) (ns ms : List ℕ) → Extends f g ns → Extends g h ms → Extends f h (ns ++ ms)
extends-then f g h ns ms a b =
    record {
      there = λ m i. b.there m (a.there m i);
      kinds = λ test m i. b.kinds test m (a.there m i) ∙ a.kinds test m i;
      texts = λ m i. b.texts m (a.there m i) ∙ a.texts m i;
      tags = λ m i. b.tags m (a.there m i) ∙ a.tags m i;
      parents = λ m i z. let c = hits-append m ns ms in b.parents m (a.there m i) (omega arith) ∙ a.parents m i (omega arith);
    }

-- the same, told with other moves
pub extends-of : (f g : Forest Content) (ns ms : List ℕ) → ((m : ℕ) → 0 < occurs m f → hits m ms ≡ 0 → hits m ns ≡ 0) → Extends f g ns → Extends f g ms
extends-of f g ns ms fewer a = record { there = a.there; kinds = a.kinds; texts = a.texts; tags = a.tags; parents = λ m i z. a.parents m i (fewer m i z) }

-- Trees that come in last.

pub extends-beside : (f g : Forest Content) → Extends f (beside f g) []
extends-beside f g =
    record {
      there = λ m h. let t = total-beside (one_at m) f g in omega arith;
      kinds = λ test m h. ap (entry_has test) (entry-beside f g m h);
      texts = λ m h. ap (λ o. (content_in o).text) (entry-beside f g m h);
      tags = λ m h. ap tag_in (entry-beside f g m h);
      parents = λ m h z. ap parent_in (entry-beside f g m h);
    }

-- A removal.

extends-cut : (f : Forest Content) → ((m : ℕ) → occurs m f ≤ 1) → (n : ℕ) → Extends f (cut n f) (n ∷ [])
extends-cut f o n =
    record {
      there = λ m h. subst (λ x. 0 < x) (sym (total-cut (one_at m) n f)) h;
      kinds = λ test m h. kind-cut f o n test m;
      texts = λ m h. kept-cut f o n (λ x. (content_in x).text) m (λ e. refl);
      tags = λ m h. kept-cut f o n tag_in m (λ e. refl);
      parents = λ m h z. grind (arith, nat_tests, parent-cut f o n m);
    }

pub extends-remove : (suppressed : Bool) (n : ℕ) (w : World) → IsSound w → 0 < occurs n w.forest → Extends w.forest (remove suppressed n w).forest (n ∷ [])
extends-remove suppressed n w s h =
    extends-then w.forest (cut n w.forest) (remove suppressed n w).forest (n ∷ []) [] (extends-cut w.forest s.forest.once n)
    (extends-same (cut n w.forest) (remove suppressed n w).forest (forest-remove suppressed n w s h))

pub extends-remove_all : (ns : List ℕ) (w : World) → IsSound w → ((n : ℕ) → 0 < hits n ns → 0 < occurs n w.forest) → Extends w.forest (remove_all ns w).forest ns
extends-remove_all [] w s h = extends-same w.forest w.forest refl
extends-remove_all (n ∷ ns) w s h =
    let v = remove true n w in
    let a = extends-remove true n w s (h n (hits-first n ns)) in
    extends-then w.forest v.forest (remove_all ns v).forest (n ∷ []) ns a
    (extends-remove_all ns v (sound-remove true n w s) (λ m k. a.there m (h m (let i = hits-append m (n ∷ []) ns in omega arith))))

-- A put.

module _ (parent n : ℕ) (child : Option ℕ) (w : World) (s : IsSound w) (hp : 0 < occurs parent w.forest) (k : IsPlaceable w.forest parent n) where
  -- what is read of a node but not of where it stands
  kept-placed : {A : Type 0} (read : Option (Entry (Node Content)) → A) → ((e : Entry (Node Content)) → read (unplaced_entry (Some e)) ≡ read (Some e)) → ((m : ℕ) (e : Entry (Node Content)) → read (link_at parent child n m (Some e)) ≡ read (Some e)) →
      (m : ℕ) → read (entry_in (after_adoption parent n child w s hp k) m) ≡ read (entry_in w.forest m)
  kept-placed read adopts links m =
      kept-adopted read adopts n (node_document w parent) (after_put parent n child w s hp k) m
      ∙ kept-put w.forest s.forest.once parent n child hp k.there k.root (apart_from parent n child w s hp k) read m (links m)

  extends-put : Extends w.forest (after_adoption parent n child w s hp k) (n ∷ [])
  extends-put =
      record {
        there = λ m h. subst (λ x. 0 < x) (sym (occurs_placed parent n child w s hp k m)) h;
        kinds = λ test m h. kind_placed parent n child w s hp k test m;
        texts = λ m h. kept-placed (λ o. (content_in o).text) (λ e. refl) (λ m e. refl) m;
        tags = λ m h. kept-placed tag_in (λ e. refl) (λ m e. refl) m;
        parents = λ m h z. grind (arith, nat_tests, parent_placed parent n child w s hp k m h);
      }

-- what several puts leave: what was there stays, and the nodes have the parent
pub record IsPut (f g : Forest Content) (parent : ℕ) (ns : List ℕ) : Type 0 where
  pub extends : Extends f g ns
  pub put_under : (m : ℕ) → 0 < hits m ns → parent_of g m ≡ Some parent

pub gap-forest : (parent : ℕ) (child : Option ℕ) (count : ℕ) (w : World) → (gap_before parent child count w).forest ≡ w.forest
gap-forest parent None count w = refl
gap-forest parent (Some c) count w = refl

gap-made : (parent : ℕ) (child : Option ℕ) (count : ℕ) (w : World) → (gap_before parent child count w).made ≡ w.made
gap-made parent None count w = refl
gap-made parent (Some c) count w = refl

pub put_all-made : (parent : ℕ) (child : Option ℕ) (ns : List ℕ) (w : World) → (put_all parent child ns w).made ≡ w.made
put_all-made parent child [] w = refl
put_all-made parent child (n ∷ ns) w = put_all-made parent child ns (put_in parent child n w)

put_each : (parent : ℕ) (child : Option ℕ) (ns : List ℕ) (w : World) → IsSound w → 0 < occurs parent w.forest → ArePlaceable w.forest parent ns → IsChildOf w.forest parent child → IsPut w.forest (put_all parent child ns (gap_before parent child (length ns) w)).forest parent ns
put_each parent child [] w s hp k c = record { extends = extends-same w.forest _ (gap-forest parent child 0 w); put_under = λ m h. absurd (omega arith) }
put_each parent child (n ∷ ns) w s hp k c =
    let v = put_in parent child n (gap_before parent child 1 w) in
    let e = placed-forest parent n child w s hp k.0 in
    let count : suc (length ns) ≡ 1 + length ns = omega arith in
    let first = subst (λ (g : Forest Content). Extends w.forest g (n ∷ [])) (sym e) (extends-put parent n child w s hp k.0) in
    let next = put_each parent child ns v (sound-put_one parent n child w s hp k.0 c) (first.there parent hp)
    (subst (λ (g : Forest Content). ArePlaceable g parent ns) (sym e) (all_placeable parent n child w s hp k.0 ns k.1 k.2))
    (subst (λ (g : Forest Content). IsChildOf g parent child) (sym e) (child_placed parent n child w s hp k.0 child c)) in
    let here : parent_of v.forest n ≡ Some parent = ap (λ (g : Forest Content). parent_of g n) e ∙ parent_placed parent n child w s hp k.0 n k.0.there ∙ cond-true (eqb n n) _ _ (eq-eqb n n refl) in
    let whole : IsPut w.forest (put_all parent child ns (gap_before parent child (length ns) v)).forest parent (n ∷ ns) = record {
      extends = extends-then w.forest v.forest _ (n ∷ []) ns first next.extends;
      put_under = λ m h. grind (arith, nat_tests, next.put_under m, next.extends.parents n (first.there n k.0.there) k.1);
    } in
    subst (λ x. IsPut w.forest (put_all parent child ns (put_in parent child n (gap_before parent child x w))).forest parent (n ∷ ns)) (sym count)
    (subst (λ (x : World). IsPut w.forest (put_all parent child ns x).forest parent (n ∷ ns)) (sym (gap-apart parent n child (length ns) w s hp k.0 c)) whole)

-- An insertion.

extends-freed : (n : ℕ) (w : World) → IsSound w → 0 < occurs n w.forest → Extends w.forest (freed n (nodes_of w n) w).forest (nodes_of w n)
extends-freed n w s h = go (is_fragment w n)
  where
    go : (v : Bool) → Extends w.forest (if v then emptied_fragment n (if v then children_of w.forest n else n ∷ []) w else remove false n w).forest (if v then children_of w.forest n else n ∷ [])
    go true = extends-remove_all (children_of w.forest n) w s (λ m k. child-there w.forest s.forest.once m n k)
    go false = extends-remove false n w s h

pub put_by_insert : (suppressed : Bool) (n parent : ℕ) (child : Option ℕ) (w : World) → IsSound w → IsInsertable w.forest n parent child → IsPut w.forest (insert suppressed n parent child w).forest parent (nodes_of w n)
put_by_insert suppressed n parent child w s k = go (nodes_of w n) (freed_ready n parent child w s k) (extends-freed n w s k.there)
  where
    go : (ns : List ℕ) → IsReady (freed n ns w) parent child ns → Extends w.forest (freed n ns w).forest ns → IsPut w.forest (insert_nodes suppressed n parent child ns w).forest parent ns
    go [] r a = record { extends = extends-same w.forest w.forest refl; put_under = λ m h. absurd (omega arith) }
    go (m ∷ ms) r a =
        let v = freed n (m ∷ ms) w in
        let p = put_each parent child (m ∷ ms) v r.sound r.parent_there r.placeable r.before_child in
        let e = unless-forest suppressed parent (m ∷ ms) [] (previous_to v.forest parent child) child (put_all parent child (m ∷ ms) (gap_before parent child (length (m ∷ ms)) v)) in
        subst (λ (g : Forest Content). IsPut w.forest g parent (m ∷ ms)) (sym e)
        (record {
          extends = extends-of w.forest _ ((m ∷ ms) ++ (m ∷ ms)) (m ∷ ms) (λ x _ z. omega (arith, hits-append x (m ∷ ms) (m ∷ ms))) (extends-then w.forest v.forest _ (m ∷ ms) (m ∷ ms) a p.extends);
          put_under = p.put_under;
        })

removed_all-made : (ns : List ℕ) (w : World) → (remove_all ns w).made ≡ w.made
removed_all-made [] w = refl
removed_all-made (n ∷ ns) w = removed_all-made ns (remove true n w) ∙ made-remove true n w

pub insert-made : (suppressed : Bool) (n parent : ℕ) (child : Option ℕ) (w : World) → (insert suppressed n parent child w).made ≡ w.made
insert-made suppressed n parent child w = go (nodes_of w n)
  where
    freed-made : (ns : List ℕ) (v : Bool) → (if v then emptied_fragment n ns w else remove false n w).made ≡ w.made
    freed-made ns true = removed_all-made ns w
    freed-made ns false = made-remove false n w

    go : (ns : List ℕ) → (insert_nodes suppressed n parent child ns w).made ≡ w.made
    go [] = refl
    go (m ∷ ms) =
        let v = freed n (m ∷ ms) w in
        unless-made suppressed parent (m ∷ ms) [] (previous_to v.forest parent child) child (put_all parent child (m ∷ ms) (gap_before parent child (length (m ∷ ms)) v))
        ∙ put_all-made parent child (m ∷ ms) (gap_before parent child (length (m ∷ ms)) v)
        ∙ gap-made parent child (length (m ∷ ms)) v
        ∙ freed-made (m ∷ ms) (is_fragment w n)
