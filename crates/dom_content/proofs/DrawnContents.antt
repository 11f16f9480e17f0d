-- A range's contents that go into a new fragment by their parts, on every world that a world of the code keeps. DOM Standard, "Interface Range".
use Rattle.std.proofs.Common.{◌≡◌, ℕ, ◌+◌, ◌<◌, ◌≤◌, ◌==◌, Bool, true, false, ◌&&◌, ◌||◌, if◌then◌else◌, List, [], ◌∷◌, drop, length, filter, reverse, slice_index_or, Option, Some, None, refl, ap, sym, ◌∙◌, subst, arith, length-drop, IsSome, is_some}
use Rattle.std.proofs.lemmas.List.{drop_more}
use Rattle.dom_model.specs.declared.{Kind.Kind, Kind.TheVariants.DocumentType, Kind.TheVariants.DocumentFragment}
use Rattle.dom_model.specs.Definitions.{hits, is_same, up_to, is_character_data, Node, Forest, empty, node, occurs, beside, HasNode, entry_in, children_of, ancestors, root_of, unit_count, node_length, Content, Point, Range, no_content, IsRange, IsSound, order_of, named, has_kind, kind_passes, is_of_kind, document_in, node_document, is_collapsed, collapsed_at, is_contained, is_less, common_ancestor, range_at, with_range, for_range, is_in_one_data, new_place, new_fragment, children_into, tail_into, head_into, path_below, parts_into, contents_drawn, check_draw, extracted, extract, clone_contents}
use Rattle.dom_model.specs.Worlds.World as model
use Rattle.dom_model.proofs.PlainLists.Numbers.{same_or, same, apart}
use Rattle.dom_model.proofs.MutationAlgorithms.ChecksKept.{or_first, or_second}
use Rattle.dom_model.proofs.Soundness.SoundContents.{place_after}
use Rattle.dom_model.proofs.Forests.{Climbing.hits-reverse, Entries.occurs-HasNode, Entries.HasNode-occurs, Indices.child-there, OneMoreRoot.more-once, OneMoreRoot.entry-more, OneMoreRoot.children-more, OneMoreRoot.root-more, OneMoreRoot.order-more}
use Rattle.dom_model.proofs.BoundaryPoints.RootsKept.{hits-up_to}
use Rattle.dom_model.proofs.Worlds.{Measured.length-beside, Measured.kind-beside, Parts.ancestors-part, Parts.path-there}
use Rattle.dom_model.proofs.RangesAndContents.{DrawnPaths.hits-filter, PathsToEnds.common-above}
use Rattle.dom_model.proofs.TokenText.EditsMade.EditsOfDrawnContents.{live-contents_drawn}
use Rattle.dom_ranges.specs.Tables.{range_in}
use Rattle.dom_edit.specs.{declared.world.World.World, Insertion.AreThere, Whole.IsWhole, Whole.Keeps, Whole.Follows, Whole.unwatched}
use Rattle.dom_edit.proofs.{FollowsLemmas.follows-then, FollowsLemmas.keeps-unwatched, InsertLemmas.item-hit, InsertLemmas.follows-as}
use Rattle.dom_data.proofs.IsWholeLemmas.{sound-unwatched}
use Rattle.dom_content.specs.{Paths.HasNumbers, DrawnParts.AreParts, DrawnParts.in_one_data, DrawnParts.parts_drawn, DrawnParts.filled}
use Rattle.dom_content.proofs.{PieceSteps.room-before, PieceSteps.room-after, DrawnNumbers.head-rises, DrawnNumbers.rest-rises, DrawnNumbers.filled-rises}

-- The parts that go into a fragment in turn.

module _ (moves : Bool) (into : ℕ) (r : Range) (first contained last : List ℕ) where
  abbrev parts : model.World → model.World
  parts = parts_drawn moves into r first contained last

  -- the offset and the lists as the calls are given them
  pub room-tail : (a : World) (o : ℕ) (p : List ℕ) → o ≡ r.start.offset → p ≡ first → HasNumbers a (parts_drawn moves into r first contained last) → HasNumbers a (tail_into moves into o p)
  room-tail a o p d dp h =
      subst (λ x. HasNumbers a (tail_into moves into x p)) (sym d)
      (subst (λ ns. HasNumbers a (tail_into moves into r.start.offset ns)) (sym dp)
      (room-before a parts (tail_into moves into r.start.offset first) (λ w. head_into moves into r.end.offset last (children_into moves into contained w)) (λ w k. refl) (rest-rises moves into r.end.offset contained last) h))

  tailed : (a b : World) (o : ℕ) (p : List ℕ) → o ≡ r.start.offset → p ≡ first → Follows a b (tail_into moves into o p) → Follows a b (tail_into moves into r.start.offset first)
  tailed a b o p d dp f = subst (λ ns. Follows a b (tail_into moves into r.start.offset ns)) dp (subst (λ x. Follows a b (tail_into moves into x p)) d f)

  pub room-children : (a b : World) (o : ℕ) (p c : List ℕ) → o ≡ r.start.offset → p ≡ first → c ≡ contained → Follows a b (tail_into moves into o p) → HasNumbers a (parts_drawn moves into r first contained last) → HasNumbers b (children_into moves into c)
  room-children a b o p c d dp dc f h =
      let rest = room-after a b parts (tail_into moves into r.start.offset first) (λ w. head_into moves into r.end.offset last (children_into moves into contained w)) (λ w k. refl) (tailed a b o p d dp f) h in
      subst (λ ns. HasNumbers b (children_into moves into ns)) (sym dc)
      (room-before b (λ w. head_into moves into r.end.offset last (children_into moves into contained w)) (children_into moves into contained) (head_into moves into r.end.offset last) (λ w k. refl) (head-rises moves into r.end.offset last) rest)

  pub follows-parts : (a b e z : World) (o i : ℕ) (p c l : List ℕ) → o ≡ r.start.offset → p ≡ first → c ≡ contained → i ≡ r.end.offset → l ≡ last →
      Follows a b (tail_into moves into o p) → Follows b e (children_into moves into c) → Follows e z (head_into moves into i l) → Follows a z (parts_drawn moves into r first contained last)
  follows-parts a b e z o i p c l d dp dc di dl f g h =
      let middle = subst (λ ns. Follows b e (children_into moves into ns)) dc g in
      let end = subst (λ ns. Follows e z (head_into moves into r.end.offset ns)) dl (subst (λ x. Follows e z (head_into moves into x l)) di h) in
      follows-then a b z (tail_into moves into r.start.offset first) (λ w. head_into moves into r.end.offset last (children_into moves into contained w)) (tailed a b o p d dp f)
      (follows-then b e z (children_into moves into contained) (head_into moves into r.end.offset last) middle end)

-- A fragment beside the trees of a whole world.

abbrev all : Bool → Range → model.World → ℕ → ℕ → Bool → List ℕ → List ℕ → List ℕ → model.World
all moves r w d into one_data p c q = filled moves one_data into r p c q (new_fragment d w)

abbrev path : Range → Forest Content → ℕ → List ℕ
path r g n = path_below g (common_ancestor g r.start.node r.end.node) n

abbrev whole : Range → Forest Content → List ℕ
whole r g = filter (is_contained unit_count g r) (children_of g (common_ancestor g r.start.node r.end.node))

pub document-is : (f : Forest Content) (n m d : ℕ) → n ≡ m → d ≡ document_in (entry_in f n) → d ≡ document_in (entry_in f m)
document-is f n m d i e = e ∙ ap (λ (k : ℕ). document_in (entry_in f k)) i

module _ (v : World) (h : IsWhole v) (r : Range) (is : IsRange v.tree.forest r) where
  abbrev w0 : model.World
  w0 = unwatched v

  s : IsSound w0
  s = sound-unwatched v h

  abbrev fragment : Node Content
  fragment = record { number = v.tree.made; document = node_document w0 r.start.node; label = named DocumentFragment []; body = no_content }

  abbrev grown : Forest Content
  grown = beside v.tree.forest (node fragment empty empty)

  abbrev top : ℕ
  top = common_ancestor v.tree.forest r.start.node r.end.node

  fresh : occurs v.tree.made v.tree.forest ≡ 0
  fresh = s.forest.small v.tree.made (omega arith)

  hs : 0 < occurs r.start.node v.tree.forest
  hs = occurs-HasNode v.tree.forest r.start.node is.starts.there

  he : 0 < occurs r.end.node v.tree.forest
  he = occurs-HasNode v.tree.forest r.end.node is.ends.there

  same_ancestors : (n : ℕ) → 0 < occurs n v.tree.forest → ancestors n grown ≡ ancestors n v.tree.forest
  same_ancestors n k = ancestors-part v.tree.forest grown s.forest.once (more-once v.tree.forest s.forest.once fragment fresh) (λ m l. entry-more v.tree.forest s.forest.once fragment fresh m l) n k

  top-same : common_ancestor grown r.start.node r.end.node ≡ top
  top-same = let a = same_ancestors r.start.node hs in let b = same_ancestors r.end.node he in rw (a, b) refl

  top_there : 0 < occurs top v.tree.forest
  top_there = let i = common-above v.tree.forest r.start.node r.end.node hs is.one_root in path-there v.tree.forest s.forest.once r.start.node top i.0

  pub path-same : (n : ℕ) → 0 < occurs n v.tree.forest → path_below grown (common_ancestor grown r.start.node r.end.node) n ≡ path_below v.tree.forest top n
  path-same n k = ap (λ m. path_below grown m n) top-same ∙ ap (λ ns. reverse (up_to top ns)) (same_ancestors n k)

  pub root-same : root_of grown r.start.node ≡ root_of grown r.end.node
  root-same = root-more v.tree.forest s.forest.once fragment fresh r.start.node hs ∙ is.one_root ∙ sym (root-more v.tree.forest s.forest.once fragment fresh r.end.node he)

  contained-same : (n : ℕ) → 0 < occurs n v.tree.forest → is_contained unit_count grown r n ≡ is_contained unit_count v.tree.forest r n
  contained-same n k =
      let root = root-more v.tree.forest s.forest.once fragment fresh in
      let order = order-more v.tree.forest s.forest.once fragment fresh in
      let whole = node_length unit_count v.tree.forest n in
      let a = ap (λ x. is_same x (root_of grown r.start.node)) (root n k) ∙ ap (λ x. is_same (root_of v.tree.forest n) x) (root r.start.node hs) in
      let b = ap is_less (order r.start.node n r.start.offset 0 hs k) in
      let c = ap (λ x. is_less (order_of grown (record { node = n; offset = x }) r.end)) (length-beside v.tree.forest (node fragment empty empty) n k) ∙ ap is_less (order n r.end.node whole r.end.offset k he) in
      both-same a (both-same b c)
    where
      both-same : {a b c d : Bool} → a ≡ b → c ≡ d → (a && c) ≡ (b && d)
      both-same {a} {b} {c} {d} e f = ap (λ x. x && c) e ∙ ap (λ x. b && x) f

  filter-agree : (test other : ℕ → Bool) (ns : List ℕ) → ((n : ℕ) → 0 < hits n ns → test n ≡ other n) → filter test ns ≡ filter other ns
  filter-agree test other [] h = refl
  filter-agree test other (n ∷ ns) h =
      let i : test n ≡ other n = h n (elim (same_or n n) [ same e t ↦ rw t (omega arith) | apart ne t ↦ absurd (ne refl) ]) in
      let j = filter-agree test other ns (λ m k. h m (omega arith)) in
      ap (λ b. if b then n ∷ filter test ns else filter test ns) i ∙ ap (λ xs. if other n then n ∷ xs else xs) j

  children-same : filter (is_contained unit_count grown r) (children_of grown (common_ancestor grown r.start.node r.end.node)) ≡ filter (is_contained unit_count v.tree.forest r) (children_of v.tree.forest top)
  children-same =
      ap (λ m. filter (is_contained unit_count grown r) (children_of grown m)) top-same
      ∙ ap (λ ns. filter (is_contained unit_count grown r) ns) (children-more v.tree.forest s.forest.once fragment fresh top top_there)
      ∙ filter-agree (is_contained unit_count grown r) (is_contained unit_count v.tree.forest r) (children_of v.tree.forest top) (λ n k. contained-same n (child-there v.tree.forest s.forest.once n top k))

  -- the nodes of the parts are there
  path_held : (n : ℕ) → AreThere v.tree.forest (path_below v.tree.forest top n)
  path_held n m k =
      let a = hits-reverse m (up_to top (ancestors n v.tree.forest)) in
      let b = hits-up_to m top (ancestors n v.tree.forest) in
      path-there v.tree.forest s.forest.once n m (omega arith)

  contained_held : AreThere v.tree.forest (filter (is_contained unit_count v.tree.forest r) (children_of v.tree.forest top))
  contained_held m k =
      let a = hits-filter m (is_contained unit_count v.tree.forest r) (children_of v.tree.forest top) in
      child-there v.tree.forest s.forest.once m top (omega arith)

  pub kind-grown : (x : World) (d : ℕ) → Follows v x (new_fragment d) → (test : Kind → Bool) (n : ℕ) → 0 < occurs n v.tree.forest → kind_passes test x.tree.forest n ≡ kind_passes test v.tree.forest n
  kind-grown x d e test n k =
      let i = e.keeps w0 (keeps-unwatched v) in
      ap (λ (g : Forest Content). kind_passes test g n) (sym i.forest)
      ∙ kind-beside v.tree.forest (node (record { number = v.tree.made; document = d; label = named DocumentFragment []; body = no_content }) empty empty) n k test

  pub one-same : (x : World) (d : ℕ) → Follows v x (new_fragment d) → in_one_data x.tree.forest r ≡ in_one_data v.tree.forest r
  one-same x d e = ap (λ b. (r.start.node == r.end.node) && b) (kind-grown x d e is_character_data r.start.node hs)

  module _ (first contained last : List ℕ) (are : AreParts v.tree.forest r first contained last) where
    pub first-held : AreThere v.tree.forest first
    first-held = subst (λ ns. AreThere v.tree.forest ns) (sym are.first) (path_held r.start.node)

    pub contained-held : AreThere v.tree.forest contained
    contained-held = subst (λ ns. AreThere v.tree.forest ns) (sym are.contained) contained_held

    pub last-held : AreThere v.tree.forest last
    last-held = subst (λ ns. AreThere v.tree.forest ns) (sym are.last) (path_held r.end.node)

    module _ (moves one_data : Bool) (into d : ℕ) (number : into ≡ v.tree.made) (document : d ≡ document_in (entry_in v.tree.forest r.start.node)) (one : one_data ≡ in_one_data v.tree.forest r) where
      -- the definition's contents by the parts
      pub drawn-is : (w : model.World) → Keeps v w → contents_drawn moves r w ≡ filled moves one_data into r first contained last (new_fragment d w)
      drawn-is w k =
          let own = node_document w r.start.node in
          let beside_them = (new_fragment own w).forest in
          let shape : (new_fragment (node_document w r.start.node) w).forest ≡ grown = rw (k.forest, k.made) refl in
          ap (λ p. all moves r w own w.made (is_in_one_data w r) p (whole r beside_them) (path r beside_them r.end.node)) (ap (λ g. path r g r.start.node) shape ∙ path-same r.start.node hs ∙ sym are.first)
          ∙ ap (λ c. all moves r w own w.made (is_in_one_data w r) first c (path r beside_them r.end.node)) (ap (whole r) shape ∙ children-same ∙ sym are.contained)
          ∙ ap (λ q. all moves r w own w.made (is_in_one_data w r) first contained q) (ap (λ g. path r g r.end.node) shape ∙ path-same r.end.node he ∙ sym are.last)
          ∙ ap (λ o. all moves r w own w.made o first contained last) (ap (λ g. in_one_data g r) k.forest ∙ sym one)
          ∙ ap (λ i. all moves r w own i one_data first contained last) (k.made ∙ sym number)
          ∙ ap (λ x. all moves r w x into one_data first contained last) (ap (λ (g : Forest Content). document_in (entry_in g r.start.node)) k.forest ∙ sym document)

      pub follows-drawn : (x y : World) → Follows v x (new_fragment d) → Follows x y (filled moves one_data into r first contained last) → Follows v y (contents_drawn moves r)
      follows-drawn x y e g = follows-as v y (λ w. filled moves one_data into r first contained last (new_fragment d w)) (contents_drawn moves r) drawn-is (follows-then v x y (new_fragment d) (filled moves one_data into r first contained last) e g)

      pub room-fragment : HasNumbers v (contents_drawn moves r) → HasNumbers v (new_fragment d)
      room-fragment e = room-before v (contents_drawn moves r) (new_fragment d) (filled moves one_data into r first contained last) drawn-is (filled-rises moves one_data into r first contained last) e

      pub room-filled : (x : World) → Follows v x (new_fragment d) → HasNumbers v (contents_drawn moves r) → HasNumbers x (filled moves one_data into r first contained last)
      room-filled x e g = room-after v x (contents_drawn moves r) (new_fragment d) (filled moves one_data into r first contained last) drawn-is e g

-- The live range.

module _ (v : World) (n : ℕ) (r : Range) (e : range_in v.ranges n ≡ Some r) where
  range-here : (w : model.World) → Keeps v w → range_at w n ≡ Some r
  range-here w k = ap (λ rs. range_in (record { ranges = rs; covered = v.ranges.covered }) n) k.ranges ∙ e

  pub range-extracted : (w : model.World) → Keeps v w → extract n w ≡ extracted n r w
  range-extracted w k = ap (λ (o : Option Range). for_range o w (λ x. extracted n x w)) (range-here w k)

  pub range-cloned : (w : model.World) → Keeps v w → clone_contents n w ≡ contents_drawn false r w
  range-cloned w k = ap (λ (o : Option Range). for_range o w (λ x. contents_drawn false x w)) (range-here w k)

  made-extracted : (w : model.World) → (extracted n r w).made ≡ (contents_drawn true r w).made
  made-extracted w = go (is_collapsed r || is_in_one_data w r)
    where
      go : (b : Bool) → (if b then contents_drawn true r w else with_range n (collapsed_at (new_place w.forest r)) (contents_drawn true r w)).made ≡ (contents_drawn true r w).made
      go true = refl
      go false = refl

  pub room-extracted : (extract n (unwatched v)).made ≤ 4294967295 → HasNumbers v (contents_drawn true r)
  room-extracted l = record {
    stands_for = unwatched v;
    keeps = keeps-unwatched v;
    within = subst (λ m. m ≤ 4294967295) (ap (λ (x : model.World). x.made) (range-extracted (unwatched v) (keeps-unwatched v)) ∙ made-extracted (unwatched v)) l;
  }

  pub room-cloned : (clone_contents n (unwatched v)).made ≤ 4294967295 → HasNumbers v (contents_drawn false r)
  room-cloned l = record {
    stands_for = unwatched v;
    keeps = keeps-unwatched v;
    within = subst (λ m. m ≤ 4294967295) (ap (λ (x : model.World). x.made) (range-cloned (unwatched v) (keeps-unwatched v))) l;
  }

-- Extraction, once the contents are drawn.

module _ (v : World) (n : ℕ) (r : Range) (stays : Bool) (is : stays ≡ (is_collapsed r || in_one_data v.tree.forest r)) where
  stays-is : (w : model.World) → Keeps v w → (is_collapsed r || is_in_one_data w r) ≡ stays
  stays-is w k = ap (λ (g : Forest Content). is_collapsed r || in_one_data g r) k.forest ∙ sym is

  pub extracted-here : (y : World) → stays ≡ true → Follows v y (contents_drawn true r) → Follows v y (extracted n r)
  extracted-here y e f =
      follows-as v y (contents_drawn true r) (extracted n r)
      (λ w k. ap (λ b. if b then contents_drawn true r w else with_range n (collapsed_at (new_place w.forest r)) (contents_drawn true r w)) (stays-is w k ∙ e)) f

  pub extracted-moved : (x y : World) (place : Point) → stays ≡ false → place ≡ new_place v.tree.forest r → Follows v x (contents_drawn true r) → Follows x y (with_range n (collapsed_at place)) → Follows v y (extracted n r)
  extracted-moved x y place e d f g =
      follows-as v y (λ w. with_range n (collapsed_at place) (contents_drawn true r w)) (extracted n r)
      (λ w k.
      ap (λ b. if b then contents_drawn true r w else with_range n (collapsed_at (new_place w.forest r)) (contents_drawn true r w)) (stays-is w k ∙ e)
      ∙ ap (λ p. with_range n (collapsed_at p) (contents_drawn true r w)) (ap (λ (h : Forest Content). new_place h r) k.forest ∙ sym d))
      (follows-then v x y (contents_drawn true r) (with_range n (collapsed_at place)) f g)

-- the place is within its node
pub place-drawn : (v : World) (h : IsWhole v) (r : Range) (is : IsRange v.tree.forest r) (allowed : check_draw (unwatched v) r ≡ None) (stays : Bool) → stays ≡ (is_collapsed r || in_one_data v.tree.forest r) → stays ≡ false
    → (x : World) → Follows v x (contents_drawn true r) → (q : Point) → q ≡ new_place v.tree.forest r → IsRange x.tree.forest (collapsed_at q)
place-drawn v h r is allowed stays told ahead x f q at =
    let w = unwatched v in
    let off : (is_collapsed r || in_one_data v.tree.forest r) ≡ false = sym told ∙ ahead in
    let collapsed : is_collapsed r ≡ false = or_first (is_collapsed r) (in_one_data v.tree.forest r) off in
    let two : is_in_one_data w r ≡ false = or_second (is_collapsed r) (in_one_data v.tree.forest r) off in
    let drawn : contents_drawn true r w ≡ parts_into true w.made r (new_fragment (node_document w r.start.node) w) = rw (collapsed, two) refl in
    let same_forest = ap (λ (u : model.World). u.forest) (sym drawn) ∙ (f.keeps w (keeps-unwatched v)).forest in
    subst (λ (p : Point). IsRange x.tree.forest (collapsed_at p)) (sym at)
    (subst (λ (g : Forest Content). IsRange g (collapsed_at (new_place v.tree.forest r))) same_forest (place_after true r w (sound-unwatched v h) is allowed two))

-- the range is still live
pub live-drawn : (v : World) (h : IsWhole v) (r : Range) (is : IsRange v.tree.forest r) → check_draw (unwatched v) r ≡ None → (moves : Bool) (n : ℕ) (x : World) → Follows v x (contents_drawn moves r) → IsSome (range_in v.ranges n) → IsSome (range_in x.ranges n)
live-drawn v h r is allowed moves n x f live =
    let k = f.keeps (unwatched v) (keeps-unwatched v) in
    let a = live-contents_drawn (unwatched v) (sound-unwatched v h) r is allowed moves n in
    ap (λ rs. is_some (range_in (record { ranges = rs; covered = x.ranges.covered }) n)) (sym k.ranges) ∙ a ∙ live

-- Looking for a doctype.

pub rest-found : (f : Forest Content) (ns : List ℕ) (i x : ℕ) → x ≡ slice_index_or ns i x → i < length ns → has_kind DocumentType f (drop i ns) ≡ (is_of_kind DocumentType f x || has_kind DocumentType f (drop (i + 1) ns))
rest-found f ns i x is lt = ap (has_kind DocumentType f) (drop_more ns i x lt ∙ ap (λ y. y ∷ drop (i + 1) ns) (sym is))

pub rest-there : (f : Forest Content) (ns : List ℕ) (i x : ℕ) → AreThere f ns → x ≡ slice_index_or ns i x → i < length ns → HasNode f x
rest-there f ns i x h is lt = HasNode-occurs f x (h x (item-hit ns i x lt is))

pub found-here : (f : Forest Content) (ns : List ℕ) (i x : ℕ) (b : Bool) → x ≡ slice_index_or ns i x → i < length ns → b ≡ is_of_kind DocumentType f x → b ≡ true → has_kind DocumentType f ns ≡ has_kind DocumentType f (drop i ns) → true ≡ has_kind DocumentType f ns
found-here f ns i x b is lt e t so_far = sym (so_far ∙ rest-found f ns i x is lt ∙ ap (λ v. v || has_kind DocumentType f (drop (i + 1) ns)) (sym e ∙ t))

pub found-later : (f : Forest Content) (ns : List ℕ) (i x : ℕ) (b : Bool) → x ≡ slice_index_or ns i x → i < length ns → b ≡ is_of_kind DocumentType f x → b ≡ false → has_kind DocumentType f ns ≡ has_kind DocumentType f (drop i ns) → has_kind DocumentType f ns ≡ has_kind DocumentType f (drop (i + 1) ns)
found-later f ns i x b is lt e t so_far = so_far ∙ rest-found f ns i x is lt ∙ ap (λ v. v || has_kind DocumentType f (drop (i + 1) ns)) (sym e ∙ t)

pub found-none : (f : Forest Content) (ns : List ℕ) (i : ℕ) → length ns ≤ i → has_kind DocumentType f ns ≡ has_kind DocumentType f (drop i ns) → false ≡ has_kind DocumentType f ns
found-none f ns i past so_far = sym (so_far ∙ ap (has_kind DocumentType f) (none-left ns i past))
  where
    length-none : (xs : List ℕ) → length xs ≤ 0 → xs ≡ []
    length-none [] h = refl
    length-none (x ∷ xs) h = absurd (omega arith)

    none-left : (ns : List ℕ) (i : ℕ) → length ns ≤ i → drop i ns ≡ []
    none-left ns i past = length-none (drop i ns) (let d = length-drop i ns in omega arith)
