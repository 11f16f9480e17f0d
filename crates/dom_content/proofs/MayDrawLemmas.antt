-- What may go into a fragment still may after each step of drawing contents, and so no step is refused. DOM Standard, "Interface Range" (extract,
-- clone the contents).
use Rattle.std.proofs.Common.{◌≡◌, ℕ, ◌<◌, ◌≤◌, Bool, true, false, List, [], ◌∷◌, ◌++◌, length, None, IsSome, refl, ap, sym, ◌∙◌, subst, arith, inl, inr, ⊎_elim}
use Rattle.std.proofs.lemmas.Bool.{cases_lt}
use Rattle.dom_model.specs.declared.Kind.TheVariants.{Document, DocumentType, DocumentFragment}
use Rattle.dom_model.specs.Definitions.{hits, up_to, is_kind, is_character_data, may_be_parent, Forest, HasNode, occurs, parent_of, children_of, Content, node_document, IsInsertable, kind_passes, is_of_kind, with_data, document_of_clone, clone_node, clone_with, child_into, children_into, tail_into, head_into, doing_children}
use Rattle.dom_model.specs.Worlds.World as model
use Rattle.dom_model.proofs.PlainLists.Numbers.{same_or, same, apart}
use Rattle.dom_model.proofs.Forests.{Climbing.hits-append, Climbing.hits-first, Entries.occurs-HasNode, Indices.child-parent}
use Rattle.dom_model.proofs.DataAndCopies.CopiesPlaced.{kind-clone, kind-copy}
use Rattle.dom_model.proofs.RangesAndContents.{Drawing.IsDrawing, Drawing.Extends, Drawing.extends-then, Drawing.Draws, Drawing.passes_there, Drawing.IsComing, Drawing.may_come, Drawing.draws-append, DrawnPieces.is_drawn, DrawnPieces.data-drawn, DrawnPieces.IsDrawable, DrawnPieces.coming, DrawnPieces.drawn-fragment, DrawnPieces.new-greater, DrawnPieces.draws-clone, DrawnPieces.draws-clone_with, DrawnPieces.draws-children, DrawnPaths.child-drawable, DrawnPaths.draws-tail, DrawnPaths.draws-head, DrawnPaths.hits-up_to}
use Rattle.dom_model.proofs.RangesAndContents.Drawing as model_drawing
use Rattle.dom_model.proofs.RangesAndContents.DrawnPieces as model_pieces
use Rattle.dom_model.proofs.RangesAndContents.DrawnPaths as paths
use Rattle.dom_edit.specs.{declared.world.World.World, Whole.IsWhole, Whole.Keeps, Whole.Follows, Whole.unwatched, Insertion.IsUnreferred}
use Rattle.dom_edit.proofs.{FollowsLemmas.keeps-unwatched, PlacedWorldLemmas.sound-unwatched}
use Rattle.dom_content.specs.{declared.partially_contained.Partial.Partial, Paths.StillHeld, Paths.EndsStayOut, Paths.Stays, Paths.KindsStay, Paths.DataStays, Paths.opened, Paths.inner_of, Paths.path_entered, Paths.closed_one, DrawConditions.HasRisingNumbers, DrawConditions.IsHolder, DrawConditions.may_go_in, DrawConditions.IsOld, DrawConditions.AreOld, DrawConditions.IsUnfinished, DrawConditions.AreUnfinished, DrawConditions.IsPathTo}
use Rattle.dom_content.proofs.{MayGoInLemmas.goes-drawn, MayGoInLemmas.drawn-goes, MayGoInLemmas.fragment-holds, MayGoInLemmas.fragment-document, MayGoInLemmas.fragment-doctype, StaysLemmas.stays-clone, StaysLemmas.stays-copied, StaysLemmas.new-unreferred}
use Rattle.dom_model.proofs.Soundness.SoundForests.{passes-also}

-- The same of the definitions.

drawing : (low : ℕ) (v : World) → IsWhole v → HasRisingNumbers low v → IsDrawing low (unwatched v)
drawing low v h r = record { sound = sound-unwatched v h; begun = r.begun; rising = r.rising }

holder : (low : ℕ) (v : World) (into : ℕ) → IsHolder low v.tree.forest into → model_drawing.IsHolder low (unwatched v) into
holder low v into k = record { fresh = k.fresh; kind = k.kind }

drawable : (low : ℕ) (v : World) (n : ℕ) → IsOld low v.tree.forest n → IsDrawable low (unwatched v) n
drawable low v n o = record { old = o.old; kind = passes-also may_go_in is_drawn true goes-drawn v.tree.forest n o.kind }

pub old-of : (low : ℕ) (w : model.World) (n : ℕ) → IsDrawable low w n → IsSome (parent_of w.forest n) → IsOld low w.forest n
old-of low w n d child = record { old = d.old; kind = passes-also is_drawn may_go_in true drawn-goes w.forest n d.kind; child = child }

pub old-there : (low : ℕ) (f : Forest Content) (n : ℕ) → IsOld low f n → 0 < occurs n f
old-there low f n o = passes_there may_go_in f n o.kind

pub inner-holder : (low : ℕ) (f : Forest Content) (p : Partial) → IsUnfinished low f p → IsHolder low f p.inner
inner-holder low f p u = record {
  fresh = (let a = u.copy.fresh in let b = u.order in omega arith);
  kind = passes-also (is_kind DocumentFragment) may_be_parent true fragment-holds f p.inner u.inner;
}

-- From one world to another as drawing goes on.

pub record Goes (low : ℕ) (a b : World) : Type 0 where
  pub rising : HasRisingNumbers low b
  pub there : StillHeld a b
  pub kinds : KindsStay a b
  pub children : (m : ℕ) → IsSome (parent_of a.tree.forest m) → IsSome (parent_of b.tree.forest m)

goes : (low : ℕ) (a b : World) (step : model.World → model.World) → Follows a b step → IsDrawing low (step (unwatched a)) → Extends (unwatched a) (step (unwatched a)) → EndsStayOut low a → Stays a b → Goes low a b
goes low a b step f d x out s =
    let k = f.keeps (unwatched a) (keeps-unwatched a) in
    record {
      rising = record {
        begun = (let m = k.made in let l = d.begun in omega (arith, m, l));
        rising = λ n q l e. d.rising n q l (ap (λ (g : Forest Content). parent_of g n) k.forest ∙ e);
        ends = s.ends low out;
      };
      there = λ m h. subst (λ (g : Forest Content). 0 < occurs m g) k.forest (x.there m h);
      kinds = λ test m h. ap (λ (g : Forest Content). kind_passes test g m) (sym k.forest) ∙ x.kinds test m h;
      children = s.children;
    }

pub goes-then : (low : ℕ) (a b c : World) → Goes low a b → Goes low b c → Goes low a c
goes-then low a b c g h =
    record { rising = h.rising; there = λ m k. h.there m (g.there m k); kinds = λ test m k. h.kinds test m (g.there m k) ∙ g.kinds test m k; children = λ m k. h.children m (g.children m k) }

module _ (low : ℕ) (a b : World) (g : Goes low a b) where
  pub holder-goes : (into : ℕ) → IsHolder low a.tree.forest into → IsHolder low b.tree.forest into
  holder-goes into k = record { fresh = k.fresh; kind = g.kinds may_be_parent into (passes_there may_be_parent a.tree.forest into k.kind) ∙ k.kind }

  pub old-goes : (n : ℕ) → IsOld low a.tree.forest n → IsOld low b.tree.forest n
  old-goes n o = record { old = o.old; kind = g.kinds may_go_in n (passes_there may_go_in a.tree.forest n o.kind) ∙ o.kind; child = g.children n o.child }

  pub unfinished-goes : (p : Partial) → IsUnfinished low a.tree.forest p → IsUnfinished low b.tree.forest p
  unfinished-goes p u = record {
    copy = holder-goes p.copy u.copy;
    inner = g.kinds (is_kind DocumentFragment) p.inner (passes_there (is_kind DocumentFragment) a.tree.forest p.inner u.inner) ∙ u.inner;
    order = u.order;
    children = λ n h. old-goes n (u.children n h);
  }

  pub all_unfinished-go : (ps : List Partial) → AreUnfinished low a.tree.forest ps → AreUnfinished low b.tree.forest ps
  all_unfinished-go [] u = tt
  all_unfinished-go (p ∷ ps) u = (unfinished-goes p u.0, all_unfinished-go ps u.1)

  -- the way to the front of a node
  pub front-goes : (path : List ℕ) → AreOld low a.tree.forest path → IsPathTo a.tree.forest 0 path → IsPathTo b.tree.forest 0 path
  front-goes [] o h = tt
  front-goes (n ∷ []) o h = λ k. omega arith
  front-goes (n ∷ m ∷ path) o h = (
    g.kinds is_character_data n (old-there low a.tree.forest n (o n (hits-first n (m ∷ path)))) ∙ h.0,
    front-goes (m ∷ path) (λ x k. o x (let i = hits-append x (n ∷ []) (m ∷ path) in omega arith)) h.1,
  )

  pub way-goes : DataStays a b → (offset : ℕ) (path : List ℕ) → AreOld low a.tree.forest path → IsPathTo a.tree.forest offset path → IsPathTo b.tree.forest offset path
  way-goes s offset [] o h = tt
  way-goes s offset (n ∷ []) o h =
      λ k. let hn = old-there low a.tree.forest n (o n (hits-first n [])) in
      subst (λ (xs : List ℕ). offset ≤ length xs) (sym (s n hn)) (h (sym (g.kinds is_character_data n hn) ∙ k))
  way-goes s offset (n ∷ m ∷ path) o h = (
    g.kinds is_character_data n (old-there low a.tree.forest n (o n (hits-first n (m ∷ path)))) ∙ h.0,
    way-goes s offset (m ∷ path) (λ x k. o x (let i = hits-append x (n ∷ []) (m ∷ path) in omega arith)) h.1,
  )

-- What goes in one after another.

pub first-old : (low : ℕ) (f : Forest Content) (n : ℕ) (ns : List ℕ) → AreOld low f (n ∷ ns) → IsOld low f n
first-old low f n ns o = o n (hits-first n ns)

pub rest-old : (low : ℕ) (f : Forest Content) (n : ℕ) (ns : List ℕ) → AreOld low f (n ∷ ns) → AreOld low f ns
rest-old low f n ns o = λ x k. o x (let i = hits-append x (n ∷ []) ns in omega arith)

pub one-old : (low : ℕ) (f : Forest Content) (n : ℕ) → IsOld low f n → AreOld low f (n ∷ [])
one-old low f n o x k = subst (IsOld low f) (sym (only x n k)) o
  where
    only : (x n : ℕ) → 0 < hits x (n ∷ []) → x ≡ n
    only x n k = elim (same_or n x) [ same e t ↦ sym e | apart ne t ↦ absurd (let i = rw t at k in omega arith) ]

pub none-old : (low : ℕ) (f : Forest Content) → AreOld low f []
none-old low f x k = absurd (omega arith)

pub more-old : (low : ℕ) (f : Forest Content) (n : ℕ) (ns : List ℕ) → IsOld low f n → AreOld low f ns → AreOld low f (n ∷ ns)
more-old low f n ns o os x k = elim (same_or n x) [ same e t ↦ subst (IsOld low f) e o | apart ne t ↦ os x (let i = rw t at k in omega arith) ]

pub both-old : (low : ℕ) (f : Forest Content) (ns ms : List ℕ) → AreOld low f ns → AreOld low f ms → AreOld low f (ns ++ ms)
both-old low f ns ms a b x k = ⊎_elim (λ (lt : 0 < hits x ns). a x lt) (λ (le : hits x ns ≤ 0). b x (let i = hits-append x ns ms in omega arith)) (cases_lt 0 (hits x ns))

pub left-old : (low : ℕ) (f : Forest Content) (ns ms : List ℕ) → AreOld low f (ns ++ ms) → AreOld low f ns
left-old low f ns ms o x k = o x (let i = hits-append x ns ms in omega arith)

pub right-old : (low : ℕ) (f : Forest Content) (ns ms : List ℕ) → AreOld low f (ns ++ ms) → AreOld low f ms
right-old low f ns ms o x k = o x (let i = hits-append x ns ms in omega arith)

-- A path as the definitions' laws ask for it.

drawables : (low : ℕ) (v : World) (offset : ℕ) (path : List ℕ) → AreOld low v.tree.forest path → IsPathTo v.tree.forest offset path → paths.ArePath low (unwatched v) path
drawables low v offset [] o h = tt
drawables low v offset (n ∷ []) o h = drawable low v n (first-old low v.tree.forest n [] o)
drawables low v offset (n ∷ m ∷ path) o h = (drawable low v n (first-old low v.tree.forest n (m ∷ path) o), h.0, drawables low v offset (m ∷ path) (rest-old low v.tree.forest n (m ∷ path) o) h.1)

within-path : (v : World) (offset : ℕ) (path : List ℕ) → IsPathTo v.tree.forest offset path → paths.IsWithin offset (unwatched v) path
within-path v offset [] h = tt
within-path v offset (n ∷ []) h = h
within-path v offset (n ∷ m ∷ path) h = within-path v offset (m ∷ path) h.1

pub olds-of : (low : ℕ) (w : model.World) (path : List ℕ) → paths.ArePath low w path → ((c : ℕ) → 0 < hits c path → IsSome (parent_of w.forest c)) → AreOld low w.forest path
olds-of low w [] p under = none-old low w.forest
olds-of low w (n ∷ []) p under = one-old low w.forest n (old-of low w n p (under n (hits-first n [])))
olds-of low w (n ∷ m ∷ path) p under =
    more-old low w.forest n (m ∷ path) (old-of low w n p.0 (under n (hits-first n (m ∷ path))))
    (olds-of low w (m ∷ path) p.2 (λ c k. under c (let i = hits-append c (n ∷ []) (m ∷ path) in omega arith)))

pub way-of : (low offset : ℕ) (w : model.World) (path : List ℕ) → paths.ArePath low w path → paths.IsWithin offset w path → IsPathTo w.forest offset path
way-of low offset w [] p h = tt
way-of low offset w (n ∷ []) p h = h
way-of low offset w (n ∷ m ∷ path) p h = (p.1, way-of low offset w (m ∷ path) p.2 h)

pub front-of : (low : ℕ) (w : model.World) (path : List ℕ) → paths.ArePath low w path → IsPathTo w.forest 0 path
front-of low w [] p = tt
front-of low w (n ∷ []) p = λ k. omega arith
front-of low w (n ∷ m ∷ path) p = (p.1, front-of low w (m ∷ path) p.2)

-- A node goes in.

fragment-coming : (low : ℕ) (x : model.World) (p : Partial) → is_of_kind DocumentFragment x.forest p.inner ≡ true → p.copy < p.inner → IsComing low x p.copy p.inner
fragment-coming low x p kind order = record {
  there = passes_there (is_kind DocumentFragment) x.forest p.inner kind;
  no_document = passes-also (is_kind DocumentFragment) (is_kind Document) false fragment-document x.forest p.inner kind;
  no_doctype = passes-also (is_kind DocumentFragment) (is_kind DocumentType) false fragment-doctype x.forest p.inner kind;
  place = inr order;
}

module _ (v : World) (h : IsWhole v) (low : ℕ) (r : HasRisingNumbers low v) where
  abbrev w : model.World
  w = unwatched v

  pub may-put : (into n : ℕ) → IsHolder low v.tree.forest into → IsOld low v.tree.forest n → IsInsertable v.tree.forest n into None
  may-put into n k o =
      let d = drawable low v n o in
      may_come low w (drawing low v h r) into n (holder low v into k)
      (coming low w into n d.kind (inl (d.old, passes-also is_drawn (is_kind DocumentFragment) false drawn-fragment v.tree.forest n d.kind)))

  -- the further fragment into the copy
  pub may-finish : (p : Partial) → IsUnfinished low v.tree.forest p → IsInsertable v.tree.forest p.inner p.copy None
  may-finish p u = may_come low w (drawing low v h r) p.copy p.inner (holder low v p.copy u.copy) (fragment-coming low w p u.inner u.order)

  -- inside of which no end stands
  pub finish-unreferred : (p : Partial) → IsUnfinished low v.tree.forest p → IsUnreferred v p.inner
  finish-unreferred p u = new-unreferred low v h r p.inner (inner-holder low v.tree.forest p u).fresh (passes_there (is_kind DocumentFragment) v.tree.forest p.inner u.inner)

  -- nor inside of a copy that was just made
  pub copy-unreferred : (deep : Bool) (n : ℕ) (mid : World) → IsWhole mid → Follows v mid (clone_node deep n) → HasNode mid.tree.forest v.tree.made → IsUnreferred mid v.tree.made
  copy-unreferred deep n mid hm f held =
      let a = draws-clone low w (drawing low v h r) deep n in
      let g = goes low v mid (clone_node deep n) f a.drawing a.extends r.ends (stays-clone v mid deep n f) in
      new-unreferred low mid hm g.rising v.tree.made r.begun (occurs-HasNode mid.tree.forest v.tree.made held)

  pub part-unreferred : (units : List ℕ) (n : ℕ) (mid : World) → IsWhole mid → Follows v mid (clone_with units n) → HasNode mid.tree.forest v.tree.made → IsUnreferred mid v.tree.made
  part-unreferred units n mid hm f held =
      let a = draws-clone_with low w (drawing low v h r) units n in
      let g = goes low v mid (clone_with units n) f a.drawing a.extends r.ends (stays-copied v mid units n f) in
      new-unreferred low mid hm g.rising v.tree.made r.begun (occurs-HasNode mid.tree.forest v.tree.made held)

  pub goes-closed : (moves : Bool) (p : Partial) → IsUnfinished low v.tree.forest p → (b : World) → Follows v b (closed_one moves p) → Stays v b → Goes low v b
  goes-closed moves p u b f s =
      let k = inner-holder low v.tree.forest p u in
      let x = children_into moves p.inner p.children.items w in
      let a = draws-children low moves p.inner p.children.items w (drawing low v h r) (holder low v p.inner k) (λ c i. drawable low v c (u.children c i)) in
      let kind = a.extends.kinds (is_kind DocumentFragment) p.inner (passes_there (is_kind DocumentFragment) v.tree.forest p.inner u.inner) ∙ u.inner in
      let c = draws-append low x a.drawing p.copy p.inner (model_drawing.holder-extends low w x p.copy a.extends (holder low v p.copy u.copy)) (fragment-coming low x p kind u.order) in
      goes low v b (closed_one moves p) f c.drawing (extends-then w x (closed_one moves p w) a.extends c.extends) r.ends s

  module _ (into : ℕ) (k : IsHolder low v.tree.forest into) where
    new-place : into < v.tree.made
    new-place = new-greater low w (drawing low v h r) into (passes_there may_be_parent v.tree.forest into k.kind)

    -- a copy that was just made
    pub may-put_copy : (deep : Bool) (n : ℕ) → IsOld low v.tree.forest n → (mid : World) → IsWhole mid → Follows v mid (clone_node deep n) → IsInsertable mid.tree.forest v.tree.made into None
    may-put_copy deep n o mid hm f =
        let first = clone_node deep n w in
        let d = drawable low v n o in
        let a = draws-clone low w (drawing low v h r) deep n in
        let g = goes low v mid (clone_node deep n) f a.drawing a.extends r.ends (stays-clone v mid deep n f) in
        let e = (f.keeps w (keeps-unwatched v)).forest in
        let s = sound-unwatched v h in
        let kind : kind_passes is_drawn first.forest v.tree.made ≡ true =
        kind-clone is_drawn (document_of_clone w n) v.tree.made deep n v.tree.forest s.forest.once (s.forest.small v.tree.made (omega arith)) (passes_there is_drawn v.tree.forest n d.kind) ∙ d.kind in
        may_come low (unwatched mid) (drawing low mid hm g.rising) into v.tree.made (holder low mid into (holder-goes low v mid g into k))
        (coming low (unwatched mid) into v.tree.made (ap (λ (t : Forest Content). kind_passes is_drawn t v.tree.made) (sym e) ∙ kind) (inr new-place))

    pub may-put_part : (units : List ℕ) (n : ℕ) → kind_passes is_character_data v.tree.forest n ≡ true → (mid : World) → IsWhole mid → Follows v mid (clone_with units n) → IsInsertable mid.tree.forest v.tree.made into None
    may-put_part units n is_data mid hm f =
        let first = clone_with units n w in
        let a = draws-clone_with low w (drawing low v h r) units n in
        let g = goes low v mid (clone_with units n) f a.drawing a.extends r.ends (stays-copied v mid units n f) in
        let e = (f.keeps w (keeps-unwatched v)).forest in
        let s = sound-unwatched v h in
        let kind : kind_passes is_drawn first.forest v.tree.made ≡ true =
        kind-copy is_drawn (node_document w n) v.tree.made false (with_data units) (λ x. refl) n v.tree.forest s.forest.once (s.forest.small v.tree.made (omega arith)) (passes_there is_character_data v.tree.forest n is_data)
        ∙ passes-also is_character_data is_drawn true data-drawn v.tree.forest n is_data in
        may_come low (unwatched mid) (drawing low mid hm g.rising) into v.tree.made (holder low mid into (holder-goes low v mid g into k))
        (coming low (unwatched mid) into v.tree.made (ap (λ (t : Forest Content). kind_passes is_drawn t v.tree.made) (sym e) ∙ kind) (inr new-place))

    -- The steps.

    pub goes-children : (moves : Bool) (ns : List ℕ) → AreOld low v.tree.forest ns → (b : World) → Follows v b (children_into moves into ns) → Stays v b → Goes low v b
    goes-children moves ns o b f s =
        let d = draws-children low moves into ns w (drawing low v h r) (holder low v into k) (λ c i. drawable low v c (o c i)) in
        goes low v b (children_into moves into ns) f d.drawing d.extends r.ends s

    pub goes-child : (moves : Bool) (n : ℕ) → IsOld low v.tree.forest n → (b : World) → Follows v b (child_into moves into n) → Stays v b → Goes low v b
    goes-child moves n o b f s = goes-children moves (n ∷ []) (one-old low v.tree.forest n o) b f s

    pub goes-tail : (moves : Bool) (offset : ℕ) (path : List ℕ) → AreOld low v.tree.forest path → IsPathTo v.tree.forest offset path → (b : World) → Follows v b (tail_into moves into offset path) → Stays v b → Goes low v b
    goes-tail moves offset path o way b f s =
        let d = draws-tail low moves into offset path w (drawing low v h r) (holder low v into k) (drawables low v offset path o way) (within-path v offset path way) in
        goes low v b (tail_into moves into offset path) f d.drawing d.extends r.ends s

    pub goes-head : (moves : Bool) (offset : ℕ) (path : List ℕ) → AreOld low v.tree.forest path → IsPathTo v.tree.forest 0 path → (b : World) → Follows v b (head_into moves into offset path) → Stays v b → Goes low v b
    goes-head moves offset path o way b f s =
        let d = draws-head low moves into offset path w (drawing low v h r) (holder low v into k) (drawables low v 0 path o way) in
        goes low v b (head_into moves into offset path) f d.drawing d.extends r.ends s

    -- A copy is opened.

    module _ (n : ℕ) (o : IsOld low v.tree.forest n) (no_data : kind_passes is_character_data v.tree.forest n ≡ false) where
      pub children-old : (ns : List ℕ) → ((c : ℕ) → hits c ns ≤ hits c (children_of v.tree.forest n)) → AreOld low v.tree.forest ns
      children-old ns fewer c i =
          let k : 0 < hits c (children_of v.tree.forest n) = (let j = fewer c in omega arith) in
          old-of low w c (child-drawable low w (drawing low v h r) n c (drawable low v n o) k) (rw (child-parent v.tree.forest h.forest.once c n k) refl)

      pub goes-opened : (b : World) → Follows v b (opened into n) → Stays v b → Goes low v b
      goes-opened b f s =
          goes low v b (opened into n) f
          (paths.third low into n w (drawing low v h r) (holder low v into k) (drawable low v n o) no_data).drawing
          (paths.extended low into n w (drawing low v h r) (holder low v into k) (drawable low v n o) no_data)
          r.ends s

      -- the copy and the further fragment, in a world that goes on from there
      unfinished-in : (b : World) (x : model.World) (p : Partial) → x.forest ≡ b.tree.forest → Extends (opened into n w) x → p.copy ≡ v.tree.made → ((y : model.World) → Keeps v y → p.inner ≡ inner_of into n y) → AreOld low b.tree.forest p.children.items → IsUnfinished low b.tree.forest p
      unfinished-in b x p e on ec ei kids =
          let d = drawing low v h r in
          let hk = holder low v into k in
          let dn = drawable low v n o in
          let inner = ei w (keeps-unwatched v) in
          let a = paths.copy_holds low into n w d hk dn no_data in
          let third = paths.third low into n w d hk dn no_data in
          let held = third.extends.kinds may_be_parent v.tree.made (passes_there may_be_parent _ v.tree.made a.kind) ∙ a.kind in
          let copied = on.kinds may_be_parent v.tree.made (passes_there may_be_parent _ v.tree.made held) ∙ held in
          let fragment = paths.kind_inner low into n w d hk dn no_data (is_kind DocumentFragment) in
          let filled = on.kinds (is_kind DocumentFragment) (inner_of into n w) (passes_there (is_kind DocumentFragment) _ (inner_of into n w) fragment) ∙ fragment in
          record {
            copy = record {
              fresh = (let l = r.begun in omega (arith, l, ec));
              kind = ap (λ (m : ℕ). kind_passes may_be_parent b.tree.forest m) ec ∙ ap (λ (f : Forest Content). kind_passes may_be_parent f v.tree.made) (sym e) ∙ copied;
            };
            inner = ap (λ (m : ℕ). is_of_kind DocumentFragment b.tree.forest m) inner ∙ ap (λ (f : Forest Content). is_of_kind DocumentFragment f (inner_of into n w)) (sym e) ∙ filled;
            order = (let l = paths.greater low into n w d hk dn no_data in omega (arith, l, ec, inner));
            children = kids;
          }

      pub opened-unfinished : (b : World) (p : Partial) → Follows v b (opened into n) → Stays v b → p.copy ≡ v.tree.made → ((x : model.World) → Keeps v x → p.inner ≡ inner_of into n x) → AreOld low v.tree.forest p.children.items → IsUnfinished low b.tree.forest p
      opened-unfinished b p f s ec ei kids =
          unfinished-in b (opened into n w) p (f.keeps w (keeps-unwatched v)).forest (model_drawing.extends-same (opened into n w)) ec ei (λ c i. old-goes low v b (goes-opened b f s) c (kids c i))

      module _ (moves : Bool) (next : ℕ) where
        enters : Draws low (doing_children moves (inner_of into n w) (up_to next (children_of v.tree.forest n))) (opened into n w) (path_entered moves into n next w)
        enters =
            let d = drawing low v h r in
            let hk = holder low v into k in
            let dn = drawable low v n o in
            let ns = up_to next (children_of v.tree.forest n) in
            let kids = children-old ns (λ c. hits-up_to c next (children_of v.tree.forest n)) in
            draws-children low moves (inner_of into n w) ns (opened into n w) (paths.third low into n w d hk dn no_data).drawing (paths.inner_holds low into n w d hk dn no_data)
            (λ c i. model_pieces.drawable-extends low w (opened into n w) c (paths.extended low into n w d hk dn no_data) (drawable low v c (kids c i)))

        pub goes-entered : (b : World) → Follows v b (path_entered moves into n next) → Stays v b → Goes low v b
        goes-entered b f s =
            goes low v b (path_entered moves into n next) f enters.drawing
            (extends-then w (opened into n w) (path_entered moves into n next w) (paths.extended low into n w (drawing low v h r) (holder low v into k) (drawable low v n o) no_data) enters.extends)
            r.ends s

        pub entered-unfinished : (b : World) (p : Partial) → Follows v b (path_entered moves into n next) → p.copy ≡ v.tree.made → ((x : model.World) → Keeps v x → p.inner ≡ inner_of into n x) → p.children.items ≡ [] → IsUnfinished low b.tree.forest p
        entered-unfinished b p f ec ei none =
            unfinished-in b (path_entered moves into n next w) p (f.keeps w (keeps-unwatched v)).forest enters.extends ec ei (subst (AreOld low b.tree.forest) (sym none) (none-old low b.tree.forest))
