-- Pieces that go into a fragment: what is still held, and room for the numbers. DOM Standard, "Interface Range" (extract, clone the contents).
use Rattle.std.proofs.Common.{◌≡◌, ℕ, ◌+◌, ◌-◌, ◌<◌, ◌≤◌, Bool, true, false, List, [], ◌∷◌, take, drop, length, min, slice_index_or, refl, ap, sym, ◌∙◌, subst, arith, length-drop, Some, None, IsSome, Option, IfSome, OnOk, Result}
use Rattle.dom_model.specs.Definitions.{Entry, is_character_data, Node, Forest, empty, node, occurs, size, tree_at, map_nodes, entry_in, HasNode, substring, Content, made_node, kind_passes, entry_has, IsInsertable, append, nodes_of, document_in, node_document, content_in, data_of, with_data, alone_of, original, with_copies, clone_node, new_fragment, clone_with, cut_if, units_into, child_into, children_into}
use Rattle.std.proofs.lemmas.{List.drop_more, List.take_min, Result.on_ok_weaker}
use Rattle.dom_model.specs.Worlds.World as model
use Rattle.dom_model.proofs.Forests.{Entries.occurs-HasNode, Entries.HasNode-occurs, Standing.Tree, Standing.tree_of}
use Rattle.dom_model.proofs.MutationAlgorithms.Extending.{Extends, extends-beside, put_by_insert}
use Rattle.dom_model.proofs.Soundness.SoundAppending.{clone_copy, clone_with_copy, fragment_made}
use Rattle.dom_model.proofs.Counting.{CountsKept.append-kept, CountsOfData.replace_data-kept}
use Rattle.dom_edit.specs.{declared.world.World.World, Whole.IsWhole, Whole.Keeps, Whole.Follows, Whole.unwatched}
use Rattle.dom_edit.proofs.{FollowsLemmas.follows-none, FollowsLemmas.follows-then, InsertLemmas.follows-as, InsertLemmas.forest-after, PlacedWorldLemmas.sound-unwatched}
use Rattle.dom_content.specs.{Paths.HasNumbers, Paths.StillHeld, Paths.Stays, Paths.KindsStay, Paths.DataStays, DrawConditions.AreOld, DrawConditions.MayDraw}
use Rattle.dom_content.proofs.{StaysLemmas.stays-none, StaysLemmas.stays-then, MayDrawLemmas.first-old, MayDrawLemmas.rest-old, MayDrawLemmas.one-old, MayDrawLemmas.old-there, MayDrawLemmas.holder-goes, MayDrawLemmas.old-goes, MayDrawLemmas.goes-child}

-- Room.

-- room for a step is room for its first part
pub room-before : (v : World) (whole step after : model.World → model.World) → ((w : model.World) → Keeps v w → whole w ≡ after (step w)) → ((w : model.World) → w.made ≤ (after w).made) → HasNumbers v whole → HasNumbers v step
room-before v whole step after same grows r =
    let w = r.stands_for in
    record {
      stands_for = w;
      keeps = r.keeps;
      within = (let e = ap (λ (x : model.World). x.made) (same w r.keeps) in let g = grows (step w) in let i = r.within in omega (arith, e, g, i));
    }

-- and, once that is done, for the rest
pub room-after : (a b : World) (whole step after : model.World → model.World) → ((w : model.World) → Keeps a w → whole w ≡ after (step w)) → Follows a b step → HasNumbers a whole → HasNumbers b after
room-after a b whole step after same f r =
    let w = r.stands_for in
    record {
      stands_for = step w;
      keeps = f.keeps w r.keeps;
      within = (let e = ap (λ (x : model.World). x.made) (same w r.keeps) in let i = r.within in omega (arith, e, i));
    }

pub room-as : (v : World) (whole step : model.World → model.World) → ((w : model.World) → Keeps v w → whole w ≡ step w) → HasNumbers v whole → HasNumbers v step
room-as v whole step same r = room-before v whole step (λ w. w) same (λ w. omega arith) r

pub room-fragment : (v : World) (d : ℕ) → HasNumbers v (new_fragment d) → v.tree.made < 4294967295
room-fragment v d r = let i = r.within in let k = r.keeps.made in omega (arith, i, k)

pub room-clone : (v : World) (deep : Bool) (n : ℕ) → HasNumbers v (clone_node deep n) → v.tree.made + size (original deep n v.tree.forest) ≤ 4294967295
room-clone v deep n r =
    let e = ap (λ (f : Forest Content). size (original deep n f)) r.keeps.forest in
    let k = r.keeps.made in
    let i = r.within in
    omega (arith, e, k, i)

-- What is still held.

kinds-extended : (a b : World) (step : model.World → model.World) (moved : List ℕ) → Follows a b step → Extends a.tree.forest (step (unwatched a)).forest moved → KindsStay a b
kinds-extended a b step moved f e test m h = ap (λ (g : Forest Content). kind_passes test g m) (forest-after a b step f) ∙ e.kinds test m h

data-extended : (a b : World) (step : model.World → model.World) (moved : List ℕ) → Follows a b step → Extends a.tree.forest (step (unwatched a)).forest moved → DataStays a b
data-extended a b step moved f e m h = ap (λ (g : Forest Content). (content_in (entry_in g m)).text) (forest-after a b step f) ∙ e.texts m h

held-new : (a b : World) (step : model.World → model.World) (n : ℕ) → Follows a b step → 0 < occurs n (step (unwatched a)).forest → HasNode b.tree.forest n
held-new a b step n f h = HasNode-occurs b.tree.forest n (subst (λ (g : Forest Content). 0 < occurs n g) (sym (forest-after a b step f)) h)

pub data-fragment : (a b : World) (d : ℕ) → Follows a b (new_fragment d) → DataStays a b
data-fragment a b d f = data-extended a b (new_fragment d) [] f (extends-beside a.tree.forest _)

pub fragment-held : (a b : World) (d : ℕ) → IsWhole a → Follows a b (new_fragment d) → HasNode b.tree.forest a.tree.made
fragment-held a b d h f = held-new a b (new_fragment d) a.tree.made f (fragment_made d (unwatched a) (sound-unwatched a h)).holder.there

pub kinds-clone : (a b : World) (deep : Bool) (n : ℕ) → Follows a b (clone_node deep n) → KindsStay a b
kinds-clone a b deep n f = kinds-extended a b (clone_node deep n) [] f (extends-beside a.tree.forest _)

pub data-clone : (a b : World) (deep : Bool) (n : ℕ) → Follows a b (clone_node deep n) → DataStays a b
data-clone a b deep n f = data-extended a b (clone_node deep n) [] f (extends-beside a.tree.forest _)

pub clone-held : (a b : World) (deep : Bool) (n : ℕ) → IsWhole a → HasNode a.tree.forest n → Follows a b (clone_node deep n) → HasNode b.tree.forest a.tree.made
clone-held a b deep n h held f =
    held-new a b (clone_node deep n) a.tree.made f (clone_copy deep n (unwatched a) (sound-unwatched a h) (occurs-HasNode a.tree.forest n held)).there

pub kinds-copied : (a b : World) (units : List ℕ) (n : ℕ) → Follows a b (clone_with units n) → KindsStay a b
kinds-copied a b units n f = kinds-extended a b (clone_with units n) [] f (extends-beside a.tree.forest _)

pub data-copied : (a b : World) (units : List ℕ) (n : ℕ) → Follows a b (clone_with units n) → DataStays a b
data-copied a b units n f = data-extended a b (clone_with units n) [] f (extends-beside a.tree.forest _)

pub copied-held : (a b : World) (units : List ℕ) (n : ℕ) → IsWhole a → HasNode a.tree.forest n → Follows a b (clone_with units n) → HasNode b.tree.forest a.tree.made
copied-held a b units n h held f =
    held-new a b (clone_with units n) a.tree.made f (clone_with_copy units n (unwatched a) (sound-unwatched a h) (occurs-HasNode a.tree.forest n held)).there

module _ (a b : World) (h : IsWhole a) (parent n : ℕ) (c : IsInsertable a.tree.forest n parent None) (f : Follows a b (append n parent)) where
  put : Extends a.tree.forest (append n parent (unwatched a)).forest (nodes_of (unwatched a) n)
  put = (put_by_insert false n parent None (unwatched a) (sound-unwatched a h) c).extends

  pub kinds-appended : KindsStay a b
  kinds-appended = kinds-extended a b (append n parent) (nodes_of (unwatched a) n) f put

  pub data-appended : DataStays a b
  data-appended = data-extended a b (append n parent) (nodes_of (unwatched a) n) f put

-- a node with data is there
pub data-there : (f : Forest Content) (n : ℕ) → kind_passes is_character_data f n ≡ true → 0 < occurs n f
data-there f n k = occurs-HasNode f n (go (entry_in f n) k)
  where
    go : (o : Option (Entry (Node Content))) → entry_has is_character_data o ≡ true → IsSome o
    go None e = e
    go (Some x) e = refl

pub still-data : (a b c : World) (n : ℕ) → StillHeld a b → KindsStay a b → KindsStay b c → kind_passes is_character_data a.tree.forest n ≡ true → kind_passes is_character_data c.tree.forest n ≡ true
still-data a b c n s i j k =
    let h = data-there a.tree.forest n k in
    j is_character_data n (s n h) ∙ i is_character_data n h ∙ k

-- an offset is still within
pub still-within : (a b c : World) (n offset : ℕ) → StillHeld a b → DataStays a b → DataStays b c → kind_passes is_character_data a.tree.forest n ≡ true → offset ≤ length (data_of (unwatched a) n) → offset ≤ length (data_of (unwatched c) n)
still-within a b c n offset s d e k l =
    let h = data-there a.tree.forest n k in
    subst (λ (xs : List ℕ). offset ≤ length xs) (sym (e n (s n h) ∙ d n h)) l

pub data-then : (a b c : World) → StillHeld a b → DataStays a b → DataStays b c → DataStays a c
data-then a b c s d e m h = e m (s m h) ∙ d m h

-- Room is never taken back.

clone-grows : (deep : Bool) (n : ℕ) (w : model.World) → w.made ≤ (clone_node deep n w).made
clone-grows deep n w = omega arith

append-grows : (n into : ℕ) (w : model.World) → w.made ≤ (append n into w).made
append-grows n into w = (append-kept n into w).least

pub child-grows : (moves : Bool) (into n : ℕ) (w : model.World) → w.made ≤ (child_into moves into n w).made
child-grows true into n w = append-grows n into w
child-grows false into n w =
    let a = clone-grows true n w in
    let b = append-grows w.made into (clone_node true n w) in
    omega (arith, a, b)

pub children-grow : (moves : Bool) (into : ℕ) (ns : List ℕ) (w : model.World) → w.made ≤ (children_into moves into ns w).made
children-grow moves into [] w = omega arith
children-grow moves into (n ∷ ns) w =
    let a = child-grows moves into n w in
    let b = children-grow moves into ns (child_into moves into n w) in
    omega (arith, a, b)

cut-grows : (moves : Bool) (n offset count : ℕ) (w : model.World) → w.made ≤ (cut_if moves n offset count w).made
cut-grows false n offset count w = omega arith
cut-grows true n offset count w = (replace_data-kept n offset count [] w).least

-- Units of a node.

-- the copy is the one node, with its next number
alone : (v : World) (h : IsWhole v) (n : ℕ) → HasNode v.tree.forest n → Tree v.tree.forest n
alone v h n held = tree_of v.tree.forest h.forest.once n (occurs-HasNode v.tree.forest n held)

-- one node is made of the label and the content of another
module _ (v : World) (h : IsWhole v) (n : ℕ) (held : HasNode v.tree.forest n) (units : List ℕ) where
  abbrev top : Node Content
  top = (alone v h n held).top

  original-is : (w : model.World) → Keeps v w → original false n w.forest ≡ node top empty empty
  original-is w k = ap (λ (g : Forest Content). alone_of (tree_at n g)) k.forest ∙ ap (λ (g : Forest Content). alone_of g) (alone v h n held).tree

  copied-as : (w : model.World) → Keeps v w → clone_with units n w ≡ made_node (node_document w n) top.label (with_data units top).body w
  copied-as w k = ap (λ (g : Forest Content). with_copies (node_document w n) (map_nodes (with_data units) g) w) (original-is w k)

  pub room-copied : HasNumbers v (clone_with units n) → v.tree.made < 4294967295
  room-copied r =
      let w = r.stands_for in
      let e = ap (λ (x : model.World). x.made) (copied-as w r.keeps) in
      let i = r.within in
      let k = r.keeps.made in
      omega (arith, e, i, k)

  pub follows-copied : {T E : Type 0} (result : Result T E) (next : World) → IfSome (entry_in v.tree.forest n) (λ e. OnOk result (Follows v next (made_node e.value.document e.value.label (record { text = units; attributes = e.value.body.attributes })))) → OnOk result (Follows v next (clone_with units n))
  follows-copied result next made =
      let t = alone v h n held in
      let f : OnOk result (Follows v next (made_node t.top.document t.top.label (record { text = units; attributes = t.top.body.attributes }))) = rw t.entry at made in
      on_ok_weaker result
      (follows-as v next (made_node t.top.document t.top.label (record { text = units; attributes = t.top.body.attributes })) (clone_with units n)
      (λ w k.
      let doc : node_document w n ≡ t.top.document = ap (λ (g : Forest Content). document_in (entry_in g n)) k.forest ∙ ap document_in t.entry in
      copied-as w k ∙ ap (λ (x : ℕ). made_node x t.top.label (record { text = units; attributes = t.top.body.attributes }) w) doc))
      f

-- a part of the units goes into a fragment, and is cut where it moves
module _ (v : World) (moves : Bool) (into n offset count : ℕ) (units : List ℕ) (same : units ≡ substring offset count (content_in (entry_in v.tree.forest n)).text) where
  units-as : (w : model.World) → Keeps v w → units_into moves into n offset count w ≡ cut_if moves n offset count (append v.tree.made into (clone_with units n w))
  units-as w k =
      let e : substring offset count (data_of w n) ≡ units = ap (λ (g : Forest Content). substring offset count (content_in (entry_in g n)).text) k.forest ∙ sym same in
      ap (λ (us : List ℕ). cut_if moves n offset count (append w.made into (clone_with us n w))) e
      ∙ ap (λ (m : ℕ). cut_if moves n offset count (append m into (clone_with units n w))) k.made

  pub room-units : HasNumbers v (units_into moves into n offset count) → HasNumbers v (clone_with units n)
  room-units r =
      room-before v (units_into moves into n offset count) (clone_with units n) (λ w. cut_if moves n offset count (append v.tree.made into w)) units-as
      (λ w. let a = append-grows v.tree.made into w in let b = cut-grows moves n offset count (append v.tree.made into w) in omega (arith, a, b)) r

  pub follows-units : (mid put cut : World) → Follows v mid (clone_with units n) → Follows mid put (append v.tree.made into) → Follows put cut (cut_if moves n offset count) → Follows v cut (units_into moves into n offset count)
  follows-units mid put cut f g c =
      follows-as v cut (λ w. cut_if moves n offset count (append v.tree.made into (clone_with units n w))) (units_into moves into n offset count) units-as
      (follows-then v put cut (λ w. append v.tree.made into (clone_with units n w)) (cut_if moves n offset count) (follows-then v mid put (clone_with units n) (append v.tree.made into) f g) c)

-- as many units as there are
pub substring-within : (offset count k : ℕ) (xs : List ℕ) → k ≡ min count (length xs - offset) → substring offset k xs ≡ substring offset count xs
substring-within offset count k xs e = ap (λ i. take i (drop offset xs)) (e ∙ ap (λ l. min count l) (sym (length-drop offset xs))) ∙ take_min count (drop offset xs)

-- A child.

copied-child : (v : World) (into n : ℕ) (w : model.World) → Keeps v w → child_into false into n w ≡ append v.tree.made into (clone_node true n w)
copied-child v into n w k = ap (λ (m : ℕ). append m into (clone_node true n w)) k.made

pub room-child : (v : World) (into n : ℕ) → HasNumbers v (child_into false into n) → HasNumbers v (clone_node true n)
room-child v into n r = room-before v (child_into false into n) (clone_node true n) (append v.tree.made into) (copied-child v into n) (append-grows v.tree.made into) r

pub follows-child : (v mid new : World) (into n : ℕ) → Follows v mid (clone_node true n) → Follows mid new (append v.tree.made into) → Follows v new (child_into false into n)
follows-child v mid new into n f g = follows-as v new (λ w. append v.tree.made into (clone_node true n w)) (child_into false into n) (copied-child v into n) (follows-then v mid new (clone_node true n) (append v.tree.made into) f g)

-- Children in turn.

pub record IsFilling (initial here : World) (moves : Bool) (into : ℕ) (nodes : List ℕ) (i : ℕ) : Type 0 where
  pub whole : IsWhole here
  pub still : Stays initial here
  pub may : MayDraw here into (drop i nodes)
  pub room : HasNumbers here (children_into moves into (drop i nodes))
  pub rest : (final : World) → Follows here final (children_into moves into (drop i nodes)) → Follows initial final (children_into moves into nodes)

pub filling-first : (v : World) (moves : Bool) (into : ℕ) (nodes : List ℕ) → IsWhole v → MayDraw v into nodes → HasNumbers v (children_into moves into nodes) → IsFilling v v moves into nodes 0
filling-first v moves into nodes h d r = record { whole = h; still = stays-none v; may = d; room = r; rest = λ final f. f }

module _ (initial here : World) (moves : Bool) (into : ℕ) (nodes : List ℕ) (i : ℕ) (t : IsFilling initial here moves into nodes i) where
  module _ (x : ℕ) (is : x ≡ slice_index_or nodes i x) (lt : i < length nodes) where
    listed : drop i nodes ≡ x ∷ drop (i + 1) nodes
    listed = drop_more nodes i x lt ∙ ap (λ y. y ∷ drop (i + 1) nodes) (sym is)

    step-is : (w : model.World) → Keeps here w → children_into moves into (drop i nodes) w ≡ children_into moves into (drop (i + 1) nodes) (child_into moves into x w)
    step-is w k = ap (λ (ns : List ℕ). children_into moves into ns w) listed

    pub filling-room : HasNumbers here (child_into moves into x)
    filling-room = room-before here (children_into moves into (drop i nodes)) (child_into moves into x) (children_into moves into (drop (i + 1) nodes)) step-is (children-grow moves into (drop (i + 1) nodes)) t.room

    these : AreOld t.may.low here.tree.forest (x ∷ drop (i + 1) nodes)
    these = subst (AreOld t.may.low here.tree.forest) listed t.may.nodes

    pub filling-may : MayDraw here into (x ∷ [])
    filling-may = record { low = t.may.low; rising = t.may.rising; holder = t.may.holder; nodes = one-old t.may.low here.tree.forest x (first-old t.may.low here.tree.forest x (drop (i + 1) nodes) these) }

    pub filling-held : HasNode here.tree.forest x
    filling-held = HasNode-occurs here.tree.forest x (old-there t.may.low here.tree.forest x (first-old t.may.low here.tree.forest x (drop (i + 1) nodes) these))

    pub filling-next : (next : World) → Follows here next (child_into moves into x) → Stays here next → IsWhole next → IsFilling initial next moves into nodes (i + 1)
    filling-next next f s h = record {
      whole = h;
      still = stays-then initial here next t.still s;
      may = (let low = t.may.low in
          let g = goes-child here t.whole low t.may.rising into t.may.holder moves x (first-old low here.tree.forest x (drop (i + 1) nodes) these) next f s in
          record { low = low; rising = g.rising; holder = holder-goes low here next g into t.may.holder; nodes = λ m k. old-goes low here next g m (rest-old low here.tree.forest x (drop (i + 1) nodes) these m k) });
      room = room-after here next (children_into moves into (drop i nodes)) (child_into moves into x) (children_into moves into (drop (i + 1) nodes)) step-is f t.room;
      rest = λ final g.
          t.rest final (follows-as here final (λ w. children_into moves into (drop (i + 1) nodes) (child_into moves into x w)) (children_into moves into (drop i nodes)) step-is
          (follows-then here next final (child_into moves into x) (children_into moves into (drop (i + 1) nodes)) f g));
    }

  no_more : (xs : List ℕ) → length xs ≡ 0 → xs ≡ []
  no_more [] e = refl
  no_more (x ∷ xs) e = absurd (omega arith)

  pub filling-end : length nodes ≤ i → Follows initial here (children_into moves into nodes)
  filling-end le =
      let e = no_more (drop i nodes) (let l = length-drop i nodes in omega arith) in
      t.rest here (subst (λ ns. Follows here here (children_into moves into ns)) (sym e) (follows-none here))
