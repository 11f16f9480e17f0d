-- Every node document is a Document of the forest, wherever the trees go. DOM Standard, "Interface Node" (node document).
use Rattle.std.proofs.Common.{◌≡◌, ℕ, suc, ◌<◌, Bool, true, false, List, [], ◌∷◌, ◌++◌, map, Option, None, is_some, refl, ap, sym, ◌∙◌, arith}
use Rattle.std.proofs.lemmas.Bool.{false≢true, or_parts}
use Rattle.std.specs.List.{list_any}
use Rattle.dom_model.specs.Definitions.{among, is_kind, Node, Forest, empty, node, occurs, one_at, rows, beside, tree_at, without, cut, put, in_document, adopted, entry_in, parent_of, inclusive_descendants, EachNode, Content, entry_has, is_of_kind, documents, is_held_outside, IsOwned, HasOwners}
use Rattle.dom_model.specs.declared.Kind.TheVariants.{Document}
use Rattle.dom_model.specs.Forests.Forest.{Row}
use Rattle.dom_model.proofs.Forests.{Changes.seen, Changes.nothing, Changes.just, Totals.IsOnce, Totals.total-tree_at, Lying.Lies-without_root, Climbing.not_among-hits, Entries.entry_under-absent, Entries.Lies-entry_in, Entries.entry_under-Lies, Entries.HasNode-occurs, TreeOrder.Flattened.hits-numbers, EachNode.EachNode-beside, EachNode.EachNode-cut, EachNode.EachNode-put, EachNode.EachNode-without, EachNode.EachNode-with_tree}
use Rattle.dom_model.proofs.Worlds.{SameShape.with_tree-alike, SameShape.kind-alike, Measured.kind-cut, Measured.kind-put, Measured.kind-beside}

-- what holds of each node gives what follows from it
pub EachNode-each : {X : Type 0} (P Q : Node X → Type 0) → ((x : Node X) → P x → Q x) → (f : Forest X) → EachNode P f → EachNode Q f
EachNode-each P Q h empty k = tt
EachNode-each P Q h (node x kids rest) k = (h x k.0, EachNode-each P Q h kids k.1, EachNode-each P Q h rest k.2)

-- where all kinds are kept, so are the owners
owned-kept : (f g : Forest Content) → ((n : ℕ) → is_of_kind Document g n ≡ is_of_kind Document f n) → (h : Forest Content) → EachNode (IsOwned f) h → EachNode (IsOwned g) h
owned-kept f g kinds h k = EachNode-each (IsOwned f) (IsOwned g) (λ x e. kinds x.document ∙ e) h k

pub HasOwners-cut : (c : ℕ) (f : Forest Content) → IsOnce f → HasOwners f → HasOwners (cut c f)
HasOwners-cut c f o h = owned-kept f (cut c f) (kind-cut f o c (is_kind Document)) (cut c f) (EachNode-cut (IsOwned f) c f h)

pub HasOwners-put : (p c : ℕ) (b : Option ℕ) (f : Forest Content) → IsOnce f → 0 < occurs p f → 0 < occurs c f → parent_of f c ≡ None → occurs p (tree_at c f) ≡ 0 → HasOwners f → HasOwners (put p c b f)
HasOwners-put p c b f o hp hc r z h =
    owned-kept f (put p c b f) (kind-put f o p c b hp hc r z (is_kind Document)) (put p c b f) (EachNode-put (IsOwned f) p c b f h)

-- a tree is adopted into a Document of the forest
pub HasOwners-adopted : (n d : ℕ) (f : Forest Content) → is_of_kind Document f d ≡ true → HasOwners f → HasOwners (adopted n d f)
HasOwners-adopted n d f e h =
    owned-kept f (adopted n d f) (kind-alike (with_tree-alike (in_document d) (λ x. refl) n f) (is_kind Document)) (adopted n d f)
    (EachNode-with_tree (IsOwned f) n (in_document d) (λ x k. e) f h)

-- a node of a kind is there
pub kind-there : (f : Forest Content) (n : ℕ) → is_of_kind Document f n ≡ true → 0 < occurs n f
kind-there f n e = grind (arith, entry_under-absent None n f)

-- a new root: a Document in itself, or a node in a Document of the forest
pub HasOwners-new_root : (f : Forest Content) (x : Node Content) → IsOwned (beside f (node x empty empty)) x → HasOwners f → HasOwners (beside f (node x empty empty))
HasOwners-new_root f x e h =
    EachNode-beside (IsOwned (beside f (node x empty empty))) f (node x empty empty)
    (EachNode-each (IsOwned f) (IsOwned (beside f (node x empty empty))) (λ y k. kind-beside f (node x empty empty) y.document (kind-there f y.document k) (is_kind Document) ∙ k) f h)
    (e, tt, tt)

-- the node documents of two lists of rows
any-append : (test : ℕ → Bool) (xs ys : List (Row Content)) → list_any test (map (λ (r : Row Content). r.at.document) (xs ++ ys)) ≡ false →
    (list_any test (map (λ (r : Row Content). r.at.document) xs) ≡ false) × (list_any test (map (λ (r : Row Content). r.at.document) ys) ≡ false)
any-append test [] ys h = (refl, h)
any-append test (x ∷ xs) ys h =
    let a = or_parts (test x.at.document) (list_any test (map (λ (r : Row Content). r.at.document) (xs ++ ys))) h in
    let b = any-append test xs ys a.1 in
    (rw (a.0, b.0) refl, b.1)

-- no node document passes the test
each-fails : (test : ℕ → Bool) (depth : ℕ) (f : Forest Content) → list_any test (map (λ (r : Row Content). r.at.document) (rows depth f)) ≡ false → EachNode (λ x. test x.document ≡ false) f
each-fails test depth empty h = tt
each-fails test depth (node x kids rest) h =
    let a = or_parts (test x.document) (list_any test (map (λ (r : Row Content). r.at.document) (rows (suc depth) kids ++ rows depth rest))) h in
    let b = any-append test (rows (suc depth) kids) (rows depth rest) a.1 in
    (a.0, each-fails test (suc depth) kids b.0, each-fails test depth rest b.1)

both-hold : {X : Type 0} (P Q : Node X → Type 0) (f : Forest X) → EachNode P f → EachNode Q f → EachNode (λ x. P x × Q x) f
both-hold P Q empty h k = tt
both-hold P Q (node x kids rest) h k = ((h.0, k.0), both-hold P Q kids h.1 k.1, both-hold P Q rest h.2 k.2)

-- a tree that nothing outside holds goes
module _ (n : ℕ) (f : Forest Content) (o : IsOnce f) (free : is_held_outside f n ≡ false) where
  parts : (is_some (parent_of f n) ≡ false) × (list_any (λ m. among m (inclusive_descendants f n)) (documents (without n f)) ≡ false)
  parts = or_parts (is_some (parent_of f n)) (list_any (λ m. among m (inclusive_descendants f n)) (documents (without n f))) free

  root : parent_of f n ≡ None
  root = elim (seen (parent_of f n)) [ nothing e ↦ e | just p e ↦ absurd (let j = rw e at parts.0 in false≢true (sym j)) ]

  entry-stays : (m : ℕ) → 0 < occurs m (without n f) → entry_in f m ≡ entry_in (without n f) m
  entry-stays m h =
      elim (seen (entry_in f m)) [
        | nothing e ↦ absurd (let k : 0 < occurs m f = (let t = total-tree_at (one_at m) n f in omega arith) in let j = rw e at (HasNode-occurs f m k) in false≢true j)
        | just a e ↦ e ∙ sym (entry_under-Lies (entry_in f) None m (without n f) a (Lies-without_root (entry_in f) n root f (Lies-entry_in f o)) h e)
      ]

  owner-stays : (x : Node Content) → IsOwned f x × (among x.document (inclusive_descendants f n) ≡ false) → IsOwned (without n f) x
  owner-stays x k =
      let i = not_among-hits x.document (inclusive_descendants f n) k.1 in
      let j = hits-numbers x.document (tree_at n f) in
      let t = total-tree_at (one_at x.document) n f in
      let h = kind-there f x.document k.0 in
      ap (entry_has (is_kind Document)) (sym (entry-stays x.document (omega arith))) ∙ k.0

  pub HasOwners-discarded : HasOwners f → HasOwners (without n f)
  HasOwners-discarded h =
      EachNode-each (λ x. IsOwned f x × (among x.document (inclusive_descendants f n) ≡ false)) (IsOwned (without n f)) owner-stays (without n f)
      (both-hold (IsOwned f) (λ x. among x.document (inclusive_descendants f n) ≡ false) (without n f)
      (EachNode-without (IsOwned f) n f h) (each-fails (λ m. among m (inclusive_descendants f n)) 0 (without n f) parts.1))
