-- What stands beside a path goes into a fragment, and copies of the nodes on the path with it. DOM Standard, "Interface Range": extract.
use Rattle.std.proofs.Common.{◌≡◌, ℕ, zero, suc, ◌-◌, ◌<◌, ◌≤◌, Bool, true, false, if◌then◌else◌, List, [], ◌∷◌, length, take, drop, filter, Some, refl, ap, sym, ◌∙◌, subst, arith, inr}
use Rattle.std.proofs.lemmas.Bool.{cases_Bool, false≢true}
use Rattle.dom_model.specs.Definitions.{hits, past, up_to, is_kind, is_character_data, may_be_parent, may_stand_in, Forest, empty, node, occurs, parent_of, children_of, Content, World, no_content, entry_has, kind_passes, is_of_kind, node_document, append, named, data_of, original, document_of_clone, clone_node, new_fragment, units_into, children_into, copy_into, tail_into, head_into, Trace, doing_append, doing_clone, doing_fragment, doing_units, doing_children, doing_copy, doing_tail, doing_head}
use Rattle.dom_model.specs.declared.{Kind.Kind, Kind.TheVariants.Element, Kind.TheVariants.Text, Kind.TheVariants.ProcessingInstruction, Kind.TheVariants.Comment, Kind.TheVariants.Document, Kind.TheVariants.DocumentType, Kind.TheVariants.DocumentFragment}
use Rattle.dom_model.proofs.Forests.{Indices.child-parent, Indices.child-there, Paths.parent-path, OneMoreRoot.entry-new}
use Rattle.dom_model.proofs.Soundness.SoundForests.{IsWood, entry_there, child-fits}
use Rattle.dom_model.proofs.DataAndCopies.CopiesPlaced.{kind-clone}
use Rattle.dom_model.proofs.RangesAndContents.{Drawing.IsDrawing, Drawing.Extends, Drawing.extends-then, Drawing.KeepsData, Drawing.Draws, Drawing.draws-none, Drawing.draws-then, Drawing.draws-as, Drawing.passes_there, Drawing.data-copies, Drawing.IsHolder, Drawing.holder-extends, Drawing.IsComing, Drawing.data-append, Drawing.draws-append, DrawnPieces.draws-fragment, DrawnPieces.draws-clone, DrawnPieces.new-greater, DrawnPieces.is_drawn, DrawnPieces.IsDrawable, DrawnPieces.drawable-extends, DrawnPieces.coming, DrawnPieces.draws-units, DrawnPieces.draws-children}
pub use Rattle.dom_model.proofs.BoundaryPoints.RootsKept.{hits-up_to}
pub use Rattle.dom_model.proofs.Traversal.IteratorsStay.{hits-past}

-- Kinds.

drawn-holds : (k : Kind) → is_drawn k ≡ true → is_character_data k ≡ false → may_be_parent k ≡ true
drawn-holds Element h d = refl
drawn-holds Document h d = refl
drawn-holds DocumentFragment h d = refl
drawn-holds DocumentType h d = h
drawn-holds k h d = absurd (false≢true (sym d))

-- a child that is no doctype
pub stands-drawn : (parent child : Kind) → may_stand_in parent child ≡ true → is_kind DocumentType child ≡ false → is_drawn child ≡ true
stands-drawn parent Document h d = h
stands-drawn parent DocumentType h d = absurd (false≢true (sym d))
stands-drawn parent DocumentFragment h d = h
stands-drawn parent k h d = refl

-- no doctype stands under a node that is drawn
under-drawn : (parent child : Kind) → is_drawn parent ≡ true → may_stand_in parent child ≡ true → is_kind DocumentType child ≡ false
under-drawn Element DocumentType d h = absurd (false≢true h)
under-drawn Text DocumentType d h = absurd (false≢true h)
under-drawn ProcessingInstruction DocumentType d h = absurd (false≢true h)
under-drawn Comment DocumentType d h = absurd (false≢true h)
under-drawn parent DocumentType d h = absurd (false≢true d)
under-drawn parent k d h = refl

-- Parts of lists.

pub hits-drop : (c k : ℕ) (ns : List ℕ) → hits c (drop k ns) ≤ hits c ns
hits-drop c zero ns = omega arith
hits-drop c (suc k) [] = omega arith
hits-drop c (suc k) (n ∷ ns) = omega (arith, hits-drop c k ns)

pub hits-take : (c k : ℕ) (ns : List ℕ) → hits c (take k ns) ≤ hits c ns
hits-take c zero ns = omega arith
hits-take c (suc k) [] = omega arith
hits-take c (suc k) (n ∷ ns) = omega (arith, hits-take c k ns)

pub hits-filter : (c : ℕ) (test : ℕ → Bool) (ns : List ℕ) → hits c (filter test ns) ≤ hits c ns
hits-filter c test [] = omega arith
hits-filter c test (n ∷ ns) = grind (arith, cases_Bool, hits-filter c test ns)

-- a child that is no doctype is of a kind that may be drawn
pub kind-drawn : (f : Forest Content) (made : ℕ) → IsWood f made → (c p : ℕ) → parent_of f c ≡ Some p → 0 < occurs c f → is_of_kind DocumentType f c ≡ false → kind_passes is_drawn f c ≡ true
kind-drawn f made s c p e h d =
    let ec = entry_there f c h in
    let ep = entry_there f p (parent-path f s.once c p h e).0 in
    let fit = rw (ec.1, ep.1) at (child-fits s c p e h) in
    let k = rw ec.1 at d in
    rw ec.1 (stands-drawn ep.0.value.label.kind ec.0.value.label.kind fit k)

-- the children of a node that is drawn may be drawn
pub child-drawable : (low : ℕ) (v : World) → IsDrawing low v → (n c : ℕ) → IsDrawable low v n → 0 < hits c (children_of v.forest n) → IsDrawable low v c
child-drawable low v d n c h k =
    let p = child-parent v.forest d.sound.forest.once c n k in
    let hc = child-there v.forest d.sound.forest.once c n k in
    let hn = passes_there is_drawn v.forest n h.kind in
    let ec = entry_there v.forest c hc in
    let en = entry_there v.forest n hn in
    let fit = rw (ec.1, en.1) at (child-fits d.sound.forest c n p hc) in
    let kn = rw en.1 at h.kind in
    record {
      old = (let no : low ≤ c → ⊥ = λ le. let r = d.rising c n le p in let x = r.0 in let y = h.old in omega arith in omega arith);
      kind = rw ec.1 (stands-drawn en.0.value.label.kind ec.0.value.label.kind fit (under-drawn en.0.value.label.kind ec.0.value.label.kind kn fit));
    }

-- A copy goes into a fragment, and what fills a further fragment into the copy.

module _ (low into n : ℕ) (v : World) (d : IsDrawing low v) (k : IsHolder low v into) (drawable : IsDrawable low v n) (no_data : kind_passes is_character_data v.forest n ≡ false) where
  abbrev copied : World
  copied = clone_node false n v

  abbrev held : World
  held = append v.made into copied

  abbrev begun : World
  begun = new_fragment (node_document v n) held

  n_there : 0 < occurs n v.forest
  n_there = passes_there is_drawn v.forest n drawable.kind

  n_holds : kind_passes may_be_parent v.forest n ≡ true
  n_holds = let e = entry_there v.forest n n_there in rw e.1 (drawn-holds e.0.value.label.kind (rw e.1 at drawable.kind) (rw e.1 at no_data))

  pub kind_copied : (test : Kind → Bool) → kind_passes test copied.forest v.made ≡ kind_passes test v.forest n
  kind_copied test = kind-clone test (document_of_clone v n) v.made false n v.forest d.sound.forest.once (d.sound.forest.small v.made (omega arith)) n_there

  pub first : Draws low (doing_clone false n) v copied
  first = draws-clone low v d false n

  pub second : Draws low (doing_append v.made into) copied held
  second =
      draws-append low copied first.drawing into v.made (holder-extends low v copied into first.extends k)
      (coming low copied into v.made (kind_copied is_drawn ∙ drawable.kind) (inr (new-greater low v d into (passes_there may_be_parent v.forest into k.kind))))

  pub third : Draws low (doing_fragment (node_document v n)) held begun
  third = draws-fragment low held second.drawing (node_document v n)

  pub copy_holds : IsHolder low held v.made
  copy_holds = holder-extends low copied held v.made second.extends (record { fresh = d.begun; kind = kind_copied may_be_parent ∙ n_holds })

  pub kind_inner : (test : Kind → Bool) → kind_passes test begun.forest held.made ≡ test DocumentFragment
  kind_inner test =
      ap (entry_has test)
      (entry-new held.forest second.drawing.sound.forest.once (record { number = held.made; document = node_document v n; label = named DocumentFragment []; body = no_content }) (second.drawing.sound.forest.small held.made (omega arith)))

  pub greater : v.made < held.made
  greater = new-greater low held second.drawing v.made (passes_there may_be_parent held.forest v.made copy_holds.kind)

  pub inner_there : 0 < occurs held.made begun.forest
  inner_there = passes_there (is_kind DocumentFragment) begun.forest held.made (kind_inner (is_kind DocumentFragment))

  pub inner_holds : IsHolder low begun held.made
  inner_holds = record { fresh = second.drawing.begun; kind = kind_inner may_be_parent }

  pub extended : Extends v begun
  extended = extends-then v held begun (extends-then v copied held first.extends second.extends) third.extends

  extended_data : KeepsData v begun
  extended_data m h =
      let a = first.extends.there m h in
      let b = second.extends.there m a in
      data-copies low held second.drawing (node_document v n) (node (record { number = 0; document = node_document v n; label = named DocumentFragment []; body = no_content }) empty empty) m b
      ∙ data-append low copied first.drawing into v.made (holder-extends low v copied into first.extends k)
      (coming low copied into v.made (kind_copied is_drawn ∙ drawable.kind) (inr (new-greater low v d into (passes_there may_be_parent v.forest into k.kind)))) m a
      ∙ data-copies low v d (document_of_clone v n) (original false n v.forest) m h

  draws-filled : (fill : Trace → Trace) (filled : World) → Draws low fill begun filled → Draws low (λ t. doing_append held.made v.made (fill (doing_fragment (node_document v n) (doing_append v.made into (doing_clone false n t))))) v (append held.made v.made filled)
  draws-filled fill filled f =
      let holder = holder-extends low begun filled v.made f.extends (holder-extends low held begun v.made third.extends copy_holds) in
      let comes : IsComing low filled v.made held.made = record {
        there = f.extends.there held.made inner_there;
        no_document = f.extends.kinds (is_kind Document) held.made inner_there ∙ kind_inner (is_kind Document);
        no_doctype = f.extends.kinds (is_kind DocumentType) held.made inner_there ∙ kind_inner (is_kind DocumentType);
        place = inr greater;
      } in
      draws-then low v filled (append held.made v.made filled) (λ t. fill (doing_fragment (node_document v n) (doing_append v.made into (doing_clone false n t)))) (doing_append held.made v.made)
      (draws-then low v begun filled (λ t. doing_fragment (node_document v n) (doing_append v.made into (doing_clone false n t))) fill
      (draws-then low v held begun (λ t. doing_append v.made into (doing_clone false n t)) (doing_fragment (node_document v n))
      (draws-then low v copied held (doing_clone false n) (doing_append v.made into) first second) third) f)
      (draws-append low filled f.drawing v.made held.made holder comes)

  pub draws-copy : (fill : ℕ → Trace → Trace) (filled : ℕ → World → World) → ((inner : ℕ) (x : World) → IsDrawing low x → Extends v x → KeepsData v x → IsHolder low x inner → Draws low (fill inner) x (filled inner x)) → Draws low (doing_copy into n fill) v (copy_into into n filled v)
  draws-copy fill filled each =
      draws-as low v (append held.made v.made (filled held.made begun)) (λ t. doing_append held.made v.made (fill held.made (doing_fragment (node_document v n) (doing_append v.made into (doing_clone false n t))))) (doing_copy into n fill) (λ es. refl)
      (draws-filled (fill held.made) (filled held.made begun) (each held.made begun third.drawing extended extended_data inner_holds))

pub if_so : {A : Type 0} (b : Bool) (x y : A) → b ≡ true → (if b then x else y) ≡ x
if_so b x y e = rw e refl

pub if_not : {A : Type 0} (b : Bool) (x y : A) → b ≡ false → (if b then x else y) ≡ y
if_not b x y e = rw e refl

-- A path down: nodes that may be drawn, and none with data but the last.
abbrev pub ArePath : ℕ → World → List ℕ → Type 0
ArePath low v [] = Unit {0}
ArePath low v (n ∷ []) = IsDrawable low v n
ArePath low v (n ∷ m ∷ path) = IsDrawable low v n × (kind_passes is_character_data v.forest n ≡ false) × ArePath low v (m ∷ path)

-- an offset within the data of the last node, where that has data
abbrev pub IsWithin : ℕ → World → List ℕ → Type 0
IsWithin offset v [] = Unit {0}
IsWithin offset v (n ∷ []) = kind_passes is_character_data v.forest n ≡ true → offset ≤ length (data_of v n)
IsWithin offset v (n ∷ m ∷ path) = IsWithin offset v (m ∷ path)

pub within-kept : (low offset : ℕ) (v u : World) → Extends v u → KeepsData v u → (path : List ℕ) → ArePath low v path → IsWithin offset v path → IsWithin offset u path
within-kept low offset v u x kept [] p h = tt
within-kept low offset v u x kept (n ∷ []) p h =
    λ k. let hn = passes_there is_drawn v.forest n p.kind in
    subst (λ (xs : List ℕ). offset ≤ length xs) (sym (kept n hn)) (h (sym (x.kinds is_character_data n hn) ∙ k))
within-kept low offset v u x kept (n ∷ m ∷ path) p h = within-kept low offset v u x kept (m ∷ path) p.2 h

pub path-extends : (low : ℕ) (v u : World) → Extends v u → (path : List ℕ) → ArePath low v path → ArePath low u path
path-extends low v u x [] h = tt
path-extends low v u x (n ∷ []) h = drawable-extends low v u n x h
path-extends low v u x (n ∷ m ∷ path) h = (drawable-extends low v u n x h.0, x.kinds is_character_data n (passes_there is_drawn v.forest n h.0.kind) ∙ h.1, path-extends low v u x (m ∷ path) h.2)

-- some of a node's children go into a fragment
module _ (low : ℕ) (moves : Bool) (v : World) (d : IsDrawing low v) (n : ℕ) (h : IsDrawable low v n) (ns : List ℕ) (among_children : (c : ℕ) → hits c ns ≤ hits c (children_of v.forest n)) where
  draws-some : (inner : ℕ) (x : World) → IsDrawing low x → Extends v x → IsHolder low x inner → Draws low (doing_children moves inner ns) x (children_into moves inner ns x)
  draws-some inner x dx e k = draws-children low moves inner ns x dx k (λ c i. drawable-extends low v x c e (child-drawable low v d n c h (let j = among_children c in omega arith)))

-- the last node of a path: some of its units go into a fragment, or a copy of it with some of its children
module _ (low : ℕ) (moves : Bool) (into n : ℕ) (v : World) (d : IsDrawing low v) (k : IsHolder low v into) (p : IsDrawable low v n) where
  abbrev doing_last : ℕ → ℕ → List ℕ → Trace → Trace
  doing_last start count ns t = if kind_passes is_character_data v.forest n then doing_units moves into n start count t else doing_copy into n (λ inner u. doing_children moves inner ns u) t

  abbrev last_into : ℕ → ℕ → List ℕ → World
  last_into start count ns = if kind_passes is_character_data v.forest n then units_into moves into n start count v else copy_into into n (λ inner u. children_into moves inner ns u) v

  draws-last : (start count : ℕ) (ns : List ℕ) → ((c : ℕ) → hits c ns ≤ hits c (children_of v.forest n)) → (kind_passes is_character_data v.forest n ≡ true → start ≤ length (data_of v n)) → Draws low (doing_last start count ns) v (last_into start count ns)
  draws-last start count ns among within = go (kind_passes is_character_data v.forest n) refl
    where
      go : (b : Bool) → kind_passes is_character_data v.forest n ≡ b → Draws low (λ t. if b then doing_units moves into n start count t else doing_copy into n (λ inner u. doing_children moves inner ns u) t) v (if b then units_into moves into n start count v else copy_into into n (λ inner u. children_into moves inner ns u) v)
      go true e = draws-units low moves into n start count v d k e (within e)
      go false e =
          draws-copy low into n v d k p e (λ inner u. doing_children moves inner ns u) (λ inner u. children_into moves inner ns u) (λ inner x dx e _ kx. draws-some low moves v d n p ns among inner x dx e kx)

pub draws-tail : (low : ℕ) (moves : Bool) (into offset : ℕ) (path : List ℕ) (v : World) → IsDrawing low v → IsHolder low v into → ArePath low v path → IsWithin offset v path → Draws low (doing_tail moves into offset path) v (tail_into moves into offset path v)
draws-tail low moves into offset [] v d k p within = draws-none low v d
draws-tail low moves into offset (n ∷ []) v d k p within =
    let ns = drop offset (children_of v.forest n) in
    let count = length (data_of v n) - offset in
    draws-as low v (tail_into moves into offset (n ∷ []) v) (doing_last low moves into n v d k p offset count ns) (doing_tail moves into offset (n ∷ [])) (λ es. refl)
    (draws-last low moves into n v d k p offset count ns (λ c. hits-drop c offset (children_of v.forest n)) within)
draws-tail low moves into offset (n ∷ m ∷ path) v d k p within =
    let ns = past m (children_of v.forest n) in
    draws-as low v (tail_into moves into offset (n ∷ m ∷ path) v) (doing_copy into n (λ inner u. doing_children moves inner ns (doing_tail moves inner offset (m ∷ path) u))) (doing_tail moves into offset (n ∷ m ∷ path)) (λ es. refl)
    (draws-copy low into n v d k p.0 p.1 (λ inner u. doing_children moves inner ns (doing_tail moves inner offset (m ∷ path) u)) (λ inner u. children_into moves inner ns (tail_into moves inner offset (m ∷ path) u))
    (λ inner x dx e kept hx.
    let a = draws-tail low moves inner offset (m ∷ path) x dx hx (path-extends low v x e (m ∷ path) p.2) (within-kept low offset v x e kept (m ∷ path) p.2 within) in
    let u = tail_into moves inner offset (m ∷ path) x in
    let b = draws-some low moves v d n p.0 ns (λ c. hits-past c m (children_of v.forest n)) inner u a.drawing (extends-then v x u e a.extends) (holder-extends low x u inner a.extends hx) in
    draws-then low x u (children_into moves inner ns u) (doing_tail moves inner offset (m ∷ path)) (doing_children moves inner ns) a b))

pub draws-head : (low : ℕ) (moves : Bool) (into offset : ℕ) (path : List ℕ) (v : World) → IsDrawing low v → IsHolder low v into → ArePath low v path → Draws low (doing_head moves into offset path) v (head_into moves into offset path v)
draws-head low moves into offset [] v d k p = draws-none low v d
draws-head low moves into offset (n ∷ []) v d k p =
    let ns = take offset (children_of v.forest n) in
    draws-as low v (head_into moves into offset (n ∷ []) v) (doing_last low moves into n v d k p 0 offset ns) (doing_head moves into offset (n ∷ [])) (λ es. refl)
    (draws-last low moves into n v d k p 0 offset ns (λ c. hits-take c offset (children_of v.forest n)) (λ e. omega arith))
draws-head low moves into offset (n ∷ m ∷ path) v d k p =
    let ns = up_to m (children_of v.forest n) in
    draws-as low v (head_into moves into offset (n ∷ m ∷ path) v) (doing_copy into n (λ inner u. doing_head moves inner offset (m ∷ path) (doing_children moves inner ns u))) (doing_head moves into offset (n ∷ m ∷ path)) (λ es. refl)
    (draws-copy low into n v d k p.0 p.1 (λ inner u. doing_head moves inner offset (m ∷ path) (doing_children moves inner ns u)) (λ inner u. head_into moves inner offset (m ∷ path) (children_into moves inner ns u))
    (λ inner x dx e _ hx.
    let u = children_into moves inner ns x in
    let a = draws-some low moves v d n p.0 ns (λ c. hits-up_to c m (children_of v.forest n)) inner x dx e hx in
    let b = draws-head low moves inner offset (m ∷ path) u a.drawing (holder-extends low x u inner a.extends hx) (path-extends low v u (extends-then v x u e a.extends) (m ∷ path) p.2) in
    draws-then low x u (head_into moves inner offset (m ∷ path) u) (doing_children moves inner ns) (doing_head moves inner offset (m ∷ path)) a b))
