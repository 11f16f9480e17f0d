-- The kinds and lengths of nodes as trees are cut and put, as data is changed, and as trees come in last.
use Rattle.std.proofs.Common.{◌≡◌, ℕ, ◌+◌, ◌<◌, ◌≤◌, ◌==◌, Bool, true, false, if◌then◌else◌, List, [], ◌∷◌, length, Option, Some, None, is_some, option_map, refl, ap, sym, ◌∙◌, arith}
use Rattle.std.proofs.lemmas.{Bool.false≢true, Bool.Decides.nat_tests, Bool.cond-true, Bool.eq-eqb}
use Rattle.dom_model.specs.Definitions.{hits, or_else, entered, left_out, Entry, parent_in, children_in, is_kind, is_character_data, may_be_parent, Node, Forest, empty, node, occurs, tops, beside, tree_at, cut, put, map_nodes, with_node, in_document, adopted, entry_under, entry_in, parent_of, children_of, Content, entry_has, kind_passes, length_of, length_in, node_length, unit_count}
use Rattle.dom_model.specs.declared.{Kind.Kind, Kind.TheVariants.DocumentType}
use Rattle.dom_model.proofs.PlainLists.Numbers.{same_or, same, apart}
use Rattle.dom_model.proofs.Forests.{Changes.cut_at, Changes.link_at, Changes.change_at, Lying.left_out-absent, Lying.tops-with_node, Entries.entry-cut, Entries.entry-put, Entries.entry_under-there, Entries.children-cut, Entries.children-put, Changes.seen, Changes.nothing, Changes.just}
use Rattle.dom_model.proofs.Soundness.SoundForests.{parent_no_data}

pub length-left_out : (c : ℕ) (ns : List ℕ) → length (left_out c ns) + hits c ns ≡ length ns
length-left_out c [] = refl
length-left_out c (n ∷ ns) = grind (arith, nat_tests, length-left_out c ns)

pub length-entered : (b : Option ℕ) (c : ℕ) (ns : List ℕ) → length (entered b c ns) ≡ length ns + 1
length-entered b c [] = refl
length-entered None c (n ∷ ns) = grind (arith, length-entered None c ns)
length-entered (Some k) c (n ∷ ns) = grind (arith, nat_tests, length-entered (Some k) c ns)

length_kind : (k : Kind) → may_be_parent k ≡ true → is_kind k DocumentType ≡ false
length_kind DocumentType h = absurd (false≢true h)
length_kind k h = refl

pub data_kind : (k : Kind) → is_character_data k ≡ true → is_kind k DocumentType ≡ false
data_kind DocumentType h = absurd (false≢true h)
data_kind k h = refl

-- the length of a node that may be a parent is the number of its children
pub length-parent : (f : Forest Content) (p : ℕ) → kind_passes may_be_parent f p ≡ true → node_length unit_count f p ≡ length (children_of f p)
length-parent f p h = go (entry_in f p) h
  where
    go : (o : Option (Entry (Node Content))) → entry_has may_be_parent o ≡ true → length_in unit_count o ≡ length (children_in o)
    go None h = absurd (false≢true h)
    go (Some e) h = rw (length_kind e.value.label.kind h, parent_no_data e.value.label.kind h) refl

-- what a length is made of
same_length : (a b : Entry (Node Content)) → a.value ≡ b.value → length a.children ≡ length b.children → length_of unit_count a ≡ length_of unit_count b
same_length a b v c = rw (v, c) refl

-- A cut.

module _ (f : Forest Content) (o : (m : ℕ) → occurs m f ≤ 1) (c : ℕ) where
  -- what is read of an entry
  pub kept-cut : {A : Type 0} (read : Option (Entry (Node Content)) → A) (n : ℕ) → ((e : Entry (Node Content)) → read (cut_at c n (Some e)) ≡ read (Some e)) → read (entry_in (cut c f) n) ≡ read (entry_in f n)
  kept-cut read n keeps = ap read (entry-cut f o c n) ∙ go (entry_in f n)
    where
      go : (e : Option (Entry (Node Content))) → read (cut_at c n e) ≡ read e
      go None = refl
      go (Some e) = keeps e

  pub kind-cut : (test : Kind → Bool) (n : ℕ) → kind_passes test (cut c f) n ≡ kind_passes test f n
  kind-cut test n = kept-cut (entry_has test) n (λ e. refl)

  pub length-cut : (n : ℕ) → hits c (children_of f n) ≡ 0 → node_length unit_count (cut c f) n ≡ node_length unit_count f n
  length-cut n h = ap (length_in unit_count) (entry-cut f o c n) ∙ (elim (seen (entry_in f n)) [ nothing z ↦ rw z refl | just e z ↦ rw (z, left_out-absent c e.children (rw z at h)) refl ])

  pub length-cut_parent : (p : ℕ) → kind_passes may_be_parent f p ≡ true → node_length unit_count (cut c f) p + hits c (children_of f p) ≡ node_length unit_count f p
  length-cut_parent p h =
      let a = length-parent f p h in
      let b = length-parent (cut c f) p (kind-cut may_be_parent p ∙ h) in
      let d = ap length (children-cut f o c p) in
      let e = length-left_out c (children_of f p) in
      omega arith

-- A put.

module _ (f : Forest Content) (o : (m : ℕ) → occurs m f ≤ 1) (p c : ℕ) (b : Option ℕ) (hp : 0 < occurs p f) (hc : 0 < occurs c f) (r : parent_of f c ≡ None) (z : occurs p (tree_at c f) ≡ 0) where
  pub kept-put : {A : Type 0} (read : Option (Entry (Node Content)) → A) (n : ℕ) → ((e : Entry (Node Content)) → read (link_at p b c n (Some e)) ≡ read (Some e)) → read (entry_in (put p c b f) n) ≡ read (entry_in f n)
  kept-put read n keeps = ap read (entry-put f o p c b hp hc r z n) ∙ go (entry_in f n)
    where
      go : (e : Option (Entry (Node Content))) → read (link_at p b c n e) ≡ read e
      go None = refl
      go (Some e) = keeps e

  pub kind-put : (test : Kind → Bool) (n : ℕ) → kind_passes test (put p c b f) n ≡ kind_passes test f n
  kind-put test n = kept-put (entry_has test) n (λ e. refl)

  pub length-put : (n : ℕ) → (n == p) ≡ false → node_length unit_count (put p c b f) n ≡ node_length unit_count f n
  length-put n h = kept-put (length_in unit_count) n (λ e. rw h refl)

  pub length-put_parent : kind_passes may_be_parent f p ≡ true → node_length unit_count (put p c b f) p ≡ node_length unit_count f p + 1
  length-put_parent h =
      let a = length-parent f p h in
      let d = length-parent (put p c b f) p (kind-put may_be_parent p ∙ h) in
      let k : children_of (put p c b f) p ≡ entered b c (children_of f p) = children-put f o p c b hp hc r z p hp ∙ cond-true (p == p) _ _ (eq-eqb p p refl) in
      omega (arith, ap length k ∙ length-entered b c (children_of f p))

-- Trees that come in last.

pub entry-joined : (q : Option ℕ) (n : ℕ) (f g : Forest Content) → entry_under q n (beside f g) ≡ or_else (entry_under q n f) (entry_under q n g)
entry-joined q n empty g = refl
entry-joined q n (node x kids rest) g =
    elim (same_or x.number n) [
      | same e t ↦ rw t refl
      | apart ne t ↦ rw (t, entry-joined q n rest g) (turned (entry_under (Some x.number) n kids))
    ]
  where
    turned : (a : Option (Entry (Node Content))) → or_else a (or_else (entry_under q n rest) (entry_under q n g)) ≡ or_else (or_else a (entry_under q n rest)) (entry_under q n g)
    turned None = refl
    turned (Some a) = refl

module _ (f g : Forest Content) (n : ℕ) (h : 0 < occurs n f) where
  pub entry-beside : entry_in (beside f g) n ≡ entry_in f n
  entry-beside = entry-joined None n f g ∙ first (entry_in f n) (entry_under-there None n f h)
    where
      first : (a : Option (Entry (Node Content))) → is_some a ≡ true → or_else a (entry_in g n) ≡ a
      first None k = absurd (false≢true k)
      first (Some a) k = refl

  pub kind-beside : (test : Kind → Bool) → kind_passes test (beside f g) n ≡ kind_passes test f n
  kind-beside test = ap (entry_has test) entry-beside

  pub length-beside : node_length unit_count (beside f g) n ≡ node_length unit_count f n
  length-beside = ap (length_in unit_count) entry-beside

  pub parent-beside : parent_of (beside f g) n ≡ parent_of f n
  parent-beside = ap parent_in entry-beside

  pub children-beside : children_of (beside f g) n ≡ children_of f n
  children-beside = ap children_in entry-beside

-- Nodes that are changed, with their numbers kept.

module _ (change : Node Content → Node Content) (number : (x : Node Content) → (change x).number ≡ x.number) where
  pub entry-with_node : (n m : ℕ) (q : Option ℕ) (f : Forest Content) → entry_under q m (with_node n change f) ≡ change_at change n m (entry_under q m f)
  entry-with_node n m q empty = refl
  entry-with_node n m q (node x kids rest) =
      let s = numbered (x.number == n) in
      let t = ap (λ k. k == m) s in
      elim (same_or x.number m) [
        | same e u ↦
            let v : (if x.number == n then change x else x) ≡ (if m == n then change x else x) = ap (λ k. if k == n then change x else x) e in
            rw (t, u, tops-with_node n change number kids, v) refl
        | apart ne u ↦ rw (t, u, s, entry-with_node n m (Some x.number) kids, entry-with_node n m q rest) (both (entry_under (Some x.number) m kids) (entry_under q m rest))
      ]
    where
      numbered : (v : Bool) → (if v then change x else x).number ≡ x.number
      numbered true = number x
      numbered false = refl

      both : (a b : Option (Entry (Node Content))) → or_else (change_at change n m a) (change_at change n m b) ≡ change_at change n m (or_else a b)
      both None b = refl
      both (Some a) b = refl

  pub kept-with_node : {A : Type 0} (read : Option (Entry (Node Content)) → A) (n m : ℕ) → ((e : Entry (Node Content)) → read (change_at change n m (Some e)) ≡ read (Some e)) → (f : Forest Content) → read (entry_in (with_node n change f) m) ≡ read (entry_in f m)
  kept-with_node read n m keeps f = ap read (entry-with_node n m None f) ∙ go (entry_in f m)
    where
      go : (o : Option (Entry (Node Content))) → read (change_at change n m o) ≡ read o
      go None = refl
      go (Some e) = keeps e

-- Another node document changes no length.

abbrev pub unplaced : Node Content → Node Content
unplaced x = record x { document = 0 }

abbrev pub unplaced_entry : Option (Entry (Node Content)) → Option (Entry (Node Content))
unplaced_entry o = option_map (λ (e : Entry (Node Content)). record { value = unplaced e.value; parent = e.parent; children = e.children }) o

tops-unplaced : (f : Forest Content) → tops (map_nodes unplaced f) ≡ tops f
tops-unplaced empty = refl
tops-unplaced (node x kids rest) = ap (λ ns. x.number ∷ ns) (tops-unplaced rest)

pub entry-unplaced : (q : Option ℕ) (n : ℕ) (f : Forest Content) → entry_under q n (map_nodes unplaced f) ≡ unplaced_entry (entry_under q n f)
entry-unplaced q n empty = refl
entry-unplaced q n (node x kids rest) =
    elim (same_or x.number n) [
      | same e t ↦ rw (t, tops-unplaced kids) refl
      | apart ne t ↦ rw (t, entry-unplaced (Some x.number) n kids, entry-unplaced q n rest) (both (entry_under (Some x.number) n kids) (entry_under q n rest))
    ]
  where
    both : (a b : Option (Entry (Node Content))) → or_else (unplaced_entry a) (unplaced_entry b) ≡ unplaced_entry (or_else a b)
    both None b = refl
    both (Some a) b = refl

set-unplaced : (d : ℕ) (f : Forest Content) → map_nodes unplaced (map_nodes (in_document d) f) ≡ map_nodes unplaced f
set-unplaced d empty = refl
set-unplaced d (node x kids rest) = rw (set-unplaced d kids, set-unplaced d rest) refl

pub adopted-unplaced : (n d : ℕ) (f : Forest Content) → map_nodes unplaced (adopted n d f) ≡ map_nodes unplaced f
adopted-unplaced n d empty = refl
adopted-unplaced n d (node x kids rest) =
    elim (same_or x.number n) [
      | same e t ↦ rw t (rw (set-unplaced d kids, adopted-unplaced n d rest) refl)
      | apart ne t ↦ rw t (rw (adopted-unplaced n d kids, adopted-unplaced n d rest) refl)
    ]

-- what is read of an entry but not of a node document stays
pub kept-adopted : {A : Type 0} (read : Option (Entry (Node Content)) → A) → ((e : Entry (Node Content)) → read (unplaced_entry (Some e)) ≡ read (Some e)) → (n d : ℕ) (f : Forest Content) (m : ℕ) → read (entry_in (adopted n d f) m) ≡ read (entry_in f m)
kept-adopted read keeps n d f m = sym (measured (adopted n d f)) ∙ ap (λ g. read (entry_in g m)) (adopted-unplaced n d f) ∙ measured f
  where
    measured : (g : Forest Content) → read (entry_in (map_nodes unplaced g) m) ≡ read (entry_in g m)
    measured g = ap read (entry-unplaced None m g) ∙ go (entry_in g m)
      where
        go : (o : Option (Entry (Node Content))) → read (unplaced_entry o) ≡ read o
        go None = refl
        go (Some e) = keeps e

pub length-adopted : (n d : ℕ) (f : Forest Content) (m : ℕ) → node_length unit_count (adopted n d f) m ≡ node_length unit_count f m
length-adopted n d f m = kept-adopted (length_in unit_count) (λ e. refl) n d f m
