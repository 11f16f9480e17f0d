-- The part of a tree that lies from a point to the end of an ancestor's child, or from its start to the point, goes into a fragment:
-- a sound world is left. DOM Standard, "Interface Range": extract, clone the contents.
use Rattle.std.proofs.Common.{◌≡◌, ℕ, ◌-◌, ◌<◌, ◌≤◌, Bool, true, false, if◌then◌else◌, List, [], ◌∷◌, take, drop, length, Some, refl, sym, ◌∙◌, subst, arith}
use Rattle.std.proofs.lemmas.Bool.{false≢true}
use Rattle.dom_model.specs.Definitions.{hits, past, up_to, is_kind, is_character_data, may_be_parent, may_stand_in, occurs, parent_of, children_of, World, kind_passes, is_of_kind, append, clone_node, data_of, units_into, children_into, copy_into, tail_into, head_into, IsSound}
use Rattle.dom_model.specs.declared.{Kind.Kind, Kind.TheVariants.Element, Kind.TheVariants.Document, Kind.TheVariants.DocumentType, Kind.TheVariants.DocumentFragment}
use Rattle.dom_model.proofs.Forests.{Climbing.hits-append, Climbing.hits-first, Indices.child-parent, Indices.child-there, Listed.hits-other}
use Rattle.dom_model.proofs.Traversal.IteratorsStay.{hits-past}
use Rattle.dom_model.proofs.BoundaryPoints.RootsKept.{hits-up_to}
use Rattle.dom_model.proofs.Soundness.{SoundForests.entry_there, SoundForests.child-fits, SoundAppending.IsHolder, SoundAppending.IsPlain, SoundAppending.IsDrawn, SoundAppending.holder_stays, SoundAppending.plain_stays, SoundDrawing.drawn_children, SoundDrawing.new_apart, SoundDrawing.IsFilled, SoundDrawing.filled-then, SoundDrawing.filled-of, SoundDrawing.filled_by_moves, SoundDrawing.holder_filled, SoundDrawing.plain_filled, SoundCopies.filled_units, SoundCopies.opened, SoundCopies.drawn_opened, SoundCopies.holder_inner, SoundCopies.inner_new, SoundCopies.filled_copy, SoundAppending.plain_like, SoundDrawing.filled_same}
use Rattle.dom_model.proofs.RangesAndContents.DrawnPaths.{hits-drop, hits-take}

-- Kinds.

child_kinds : (parent k : Kind) → is_kind Document parent ≡ false → may_stand_in parent k ≡ true → (is_kind Document k ≡ false) × (is_kind DocumentType k ≡ false) × (is_kind DocumentFragment k ≡ false)
child_kinds parent Document d h = absurd (false≢true h)
child_kinds parent DocumentType d h = absurd (no_document parent d h)
  where
    no_document : (k : Kind) → is_kind Document k ≡ false → is_kind k Document ≡ true → ⊥
    no_document Document d h = false≢true (sym d)
    no_document k d h = false≢true h
child_kinds parent DocumentFragment d h = absurd (false≢true h)
child_kinds parent k d h = (refl, refl, refl)

-- a child of a node that is no Document may stand wherever there may be children
pub plain_child : (w : World) → IsSound w → (n c : ℕ) → is_of_kind Document w.forest n ≡ false → parent_of w.forest c ≡ Some n → 0 < occurs c w.forest → 0 < occurs n w.forest → IsPlain w c
plain_child w s n c d e hc hn =
    let ec = entry_there w.forest c hc in
    let en = entry_there w.forest n hn in
    let f = rw (ec.1, en.1) at (child-fits s.forest c n e hc) in
    let d2 = rw en.1 at d in
    let k = child_kinds en.0.value.label.kind ec.0.value.label.kind d2 f in
    record { there = hc; no_document = rw ec.1 k.0; no_doctype = rw ec.1 k.1; no_fragment = rw ec.1 k.2 }

pub other_kinds : (k : Kind) → is_character_data k ≡ false → is_kind DocumentType k ≡ false → may_be_parent k ≡ true
other_kinds Element c d = refl
other_kinds k c d = cc

pub may_hold_other : (w : World) (n : ℕ) → 0 < occurs n w.forest → kind_passes is_character_data w.forest n ≡ false → is_of_kind DocumentType w.forest n ≡ false → kind_passes may_be_parent w.forest n ≡ true
may_hold_other w n h c d =
    let e = entry_there w.forest n h in
    let c2 = rw e.1 at c in
    let d2 = rw e.1 at d in
    rw e.1 (other_kinds e.0.value.label.kind c2 d2)

-- Paths.

-- the last node of a path may have data, of which an offset is within; those above it have children
abbrev pub IsTail : World → ℕ → List ℕ → Type 0
IsTail w offset [] = Unit {0}
IsTail w offset (n ∷ []) = IsPlain w n × (kind_passes is_character_data w.forest n ≡ true → offset ≤ length (data_of w n))
IsTail w offset (n ∷ m ∷ path) = IsPlain w n × (kind_passes may_be_parent w.forest n ≡ true) × IsTail w offset (m ∷ path)

abbrev pub IsHead : World → List ℕ → Type 0
IsHead w [] = Unit {0}
IsHead w (n ∷ []) = IsPlain w n
IsHead w (n ∷ m ∷ path) = IsPlain w n × (kind_passes may_be_parent w.forest n ≡ true) × IsHead w (m ∷ path)

tail_stays : (w v : World) (offset : ℕ) (path : List ℕ) → IsDrawn w v [] → IsTail w offset path → IsTail v offset path
tail_stays w v offset [] a t = tt
tail_stays w v offset (n ∷ []) a t =
    (plain_stays w v [] n a.extends t.0, λ k. subst (λ xs. offset ≤ length xs) (sym (a.extends.texts n t.0.there)) (t.1 (sym (a.extends.kinds is_character_data n t.0.there) ∙ k)))
tail_stays w v offset (n ∷ m ∷ path) a t = (plain_stays w v [] n a.extends t.0, a.extends.kinds may_be_parent n t.0.there ∙ t.1, tail_stays w v offset (m ∷ path) a t.2)

pub head_filled_stays : (w v : World) (moved path : List ℕ) → IsFilled w v moved → IsHead w path → IsHead v path
head_filled_stays w v moved [] a t = tt
head_filled_stays w v moved (n ∷ []) a t = plain_filled w v moved n a t
head_filled_stays w v moved (n ∷ m ∷ path) a t = (plain_filled w v moved n a t.0, a.kinds may_be_parent n t.0.there ∙ t.1, head_filled_stays w v moved (m ∷ path) a t.2)

head_drawn_stays : (w v : World) (moved path : List ℕ) → IsDrawn w v moved → IsHead w path → IsHead v path
head_drawn_stays w v moved [] a t = tt
head_drawn_stays w v moved (n ∷ []) a t = plain_stays w v moved n a.extends t
head_drawn_stays w v moved (n ∷ m ∷ path) a t = (plain_stays w v moved n a.extends t.0, a.extends.kinds may_be_parent n t.0.there ∙ t.1, head_drawn_stays w v moved (m ∷ path) a t.2)

-- a path of nodes that are there has no new number
tail_old : (w : World) → IsSound w → (offset new : ℕ) → w.made ≤ new → (path : List ℕ) → IsTail w offset path → hits new path ≡ 0
tail_old w s offset new l [] t = refl
tail_old w s offset new l (n ∷ []) t = hits-other new n [] (new_apart w s n new l t.0.there)
tail_old w s offset new l (n ∷ m ∷ path) t = hits-other new n (m ∷ path) (new_apart w s n new l t.0.there) ∙ tail_old w s offset new l (m ∷ path) t.2

head_old : (w : World) → IsSound w → (new : ℕ) → w.made ≤ new → (path : List ℕ) → IsHead w path → hits new path ≡ 0
head_old w s new l [] t = refl
head_old w s new l (n ∷ []) t = hits-other new n [] (new_apart w s n new l t.there)
head_old w s new l (n ∷ m ∷ path) t = hits-other new n (m ∷ path) (new_apart w s n new l t.0.there) ∙ head_old w s new l (m ∷ path) t.2

-- Some children of a node go into a fragment, in a world that has all that the node's had.
module _ (moves : Bool) (w v : World) (s : IsSound w) (sv : IsSound v) (n inner : ℕ) (there : (m : ℕ) → 0 < occurs m w.forest → 0 < occurs m v.forest) (kinds : (test : Kind → Bool) (m : ℕ) → 0 < occurs m w.forest → kind_passes test v.forest m ≡ kind_passes test w.forest m) (hn : IsPlain w n) (new : w.made ≤ inner) (holder : IsHolder v inner) (ns : List ℕ) (children : (m : ℕ) → hits m ns ≤ hits m (children_of w.forest n)) where
  child_parent : (m : ℕ) → 0 < hits m ns → parent_of w.forest m ≡ Some n
  child_parent m h = child-parent w.forest s.forest.once m n (let i = children m in omega arith)

  listed_there : (m : ℕ) → 0 < hits m ns → 0 < occurs m w.forest
  listed_there m h = child-there w.forest s.forest.once m n (let i = children m in omega arith)

  listed_plain : (m : ℕ) → 0 < hits m ns → IsPlain v m
  listed_plain m h =
      let hm = listed_there m h in
      plain_like w v m m (there m hm) (λ test. kinds test m hm) (plain_child w s n m hn.no_document (child_parent m h) hm hn.there)

  inner_unlisted : hits inner ns ≡ 0
  inner_unlisted = grind (arith, listed_there inner, s.forest.small inner)

  drawn_some : IsDrawn v (children_into moves inner ns v) ns
  drawn_some = drawn_children moves inner ns v sv holder listed_plain inner_unlisted

-- what some children leave that are drawn out after a path was
filled_more : (f v u : World) (n : ℕ) (ns path : List ℕ) → IsFilled f v path → IsDrawn v u ns → ((m : ℕ) → 0 < hits m ns → 0 < occurs m f.forest → parent_of f.forest m ≡ Some n) → IsFilled f u (n ∷ path)
filled_more f v u n ns path a b moved =
    record {
      sound = b.sound;
      there = λ m h. b.extends.there m (a.there m h);
      kinds = λ test m h. b.extends.kinds test m (a.there m h) ∙ a.kinds test m h;
      parents = λ m h far.
          let e = a.parents m h (λ x k. let z = far x k in let i = hits-append x (n ∷ []) path in omega arith) in
          b.extends.parents m (a.there m h) (grind (arith, moved m, far n, hits-first n path)) ∙ e;
      made = (let i = a.made in let j = b.made in omega arith);
    }

-- some children of a node go into the fragment that goes into its copy
filled_children : (moves : Bool) (into n : ℕ) (w : World) (s : IsSound w) (h : IsHolder w into) (p : IsPlain w n) (may : kind_passes may_be_parent w.forest n ≡ true) → (ns : List ℕ) → ((m : ℕ) → hits m ns ≤ hits m (children_of w.forest n)) → hits into (n ∷ []) ≡ 0 →
    IsFilled w (copy_into into n (λ inner v. children_into moves inner ns v) w) (n ∷ [])
filled_children moves into n w s h p may ns children off_path =
    let o = drawn_opened into n w s h p may in
    let inner = (append w.made into (clone_node false n w)).made in
    let v = opened into n w s h p may in
    let d = drawn_some moves w v s o.sound n inner o.extends.there o.extends.kinds p (inner_new into n w s h p may) (holder_inner into n w s h p may) ns children in
    filled_copy into n w s h p may (children_into moves inner ns v) (n ∷ []) off_path
    (filled_by_moves v (children_into moves inner ns v) ns (n ∷ []) d
    (λ m k t.
    let e = child_parent moves w v s o.sound n inner o.extends.there o.extends.kinds p (inner_new into n w s h p may) (holder_inner into n w s h p may) ns children m k in
    let hm = listed_there moves w v s o.sound n inner o.extends.there o.extends.kinds p (inner_new into n w s h p may) (holder_inner into n w s h p may) ns children m k in
    (n, o.extends.parents m hm refl ∙ e, hits-first n [])))

pub tail_filled : (moves : Bool) (into offset : ℕ) (path : List ℕ) (w : World) → IsSound w → IsHolder w into → hits into path ≡ 0 → IsTail w offset path → IsFilled w (tail_into moves into offset path w) path
tail_filled moves into offset [] w s h off_path t = filled_same w s []
tail_filled moves into offset (n ∷ []) w s h off_path t = go (kind_passes is_character_data w.forest n) refl
  where
    go : (v : Bool) → kind_passes is_character_data w.forest n ≡ v → IsFilled w (if v then units_into moves into n offset (length (data_of w n) - offset) w else copy_into into n (λ inner x. children_into moves inner (drop offset (children_of w.forest n)) x) w) (n ∷ [])
    go true e = filled-of w _ [] (n ∷ []) (λ u z. refl) (filled_units moves into n offset (length (data_of w n) - offset) w s h t.0.there e (t.1 e))
    go false e = filled_children moves into n w s h t.0 (may_hold_other w n t.0.there e t.0.no_doctype) (drop offset (children_of w.forest n)) (λ m. hits-drop m offset (children_of w.forest n)) off_path
tail_filled moves into offset (n ∷ m ∷ path) w s h off_path t =
    let o = drawn_opened into n w s h t.0 t.1 in
    let inner = (append w.made into (clone_node false n w)).made in
    let f = opened into n w s h t.0 t.1 in
    let held_new = inner_new into n w s h t.0 t.1 in
    let deep = tail_filled moves inner offset (m ∷ path) f o.sound (holder_inner into n w s h t.0 t.1) (tail_old w s offset inner held_new (m ∷ path) t.2) (tail_stays w f offset (m ∷ path) o t.2) in
    let v = tail_into moves inner offset (m ∷ path) f in
    let ns = past m (children_of w.forest n) in
    let children = λ (x : ℕ). hits-past x m (children_of w.forest n) in
    let there = λ (x : ℕ) (k : 0 < occurs x w.forest). deep.there x (o.extends.there x k) in
    let kinds = λ (test : Kind → Bool) (x : ℕ) (k : 0 < occurs x w.forest). deep.kinds test x (o.extends.there x k) ∙ o.extends.kinds test x k in
    let holder = holder_filled f v (m ∷ path) inner deep (holder_inner into n w s h t.0 t.1) in
    let d = drawn_some moves w v s deep.sound n inner there kinds t.0 held_new holder ns children in
    filled_copy into n w s h t.0 t.1 (children_into moves inner ns v) (n ∷ m ∷ path) off_path
    (filled_more f v (children_into moves inner ns v) n ns (m ∷ path) deep d
    (λ x k i.
    let e = child_parent moves w v s deep.sound n inner there kinds t.0 held_new holder ns children x k in
    let hx = listed_there moves w v s deep.sound n inner there kinds t.0 held_new holder ns children x k in
    o.extends.parents x hx refl ∙ e))

pub head_filled : (moves : Bool) (into offset : ℕ) (path : List ℕ) (w : World) → IsSound w → IsHolder w into → hits into path ≡ 0 → IsHead w path → IsFilled w (head_into moves into offset path w) path
head_filled moves into offset [] w s h off_path t = filled_same w s []
head_filled moves into offset (n ∷ []) w s h off_path t = go (kind_passes is_character_data w.forest n) refl
  where
    go : (v : Bool) → kind_passes is_character_data w.forest n ≡ v → IsFilled w (if v then units_into moves into n 0 offset w else copy_into into n (λ inner x. children_into moves inner (take offset (children_of w.forest n)) x) w) (n ∷ [])
    go true e = filled-of w _ [] (n ∷ []) (λ u z. refl) (filled_units moves into n 0 offset w s h t.there e (omega arith))
    go false e = filled_children moves into n w s h t (may_hold_other w n t.there e t.no_doctype) (take offset (children_of w.forest n)) (λ m. hits-take m offset (children_of w.forest n)) off_path
head_filled moves into offset (n ∷ m ∷ path) w s h off_path t =
    let o = drawn_opened into n w s h t.0 t.1 in
    let inner = (append w.made into (clone_node false n w)).made in
    let f = opened into n w s h t.0 t.1 in
    let held_new = inner_new into n w s h t.0 t.1 in
    let ns = up_to m (children_of w.forest n) in
    let children = λ (x : ℕ). hits-up_to x m (children_of w.forest n) in
    let holder = holder_inner into n w s h t.0 t.1 in
    let d = drawn_some moves w f s o.sound n inner o.extends.there o.extends.kinds t.0 held_new holder ns children in
    let v = children_into moves inner ns f in
    let unlisted = inner_unlisted moves w f s o.sound n inner o.extends.there o.extends.kinds t.0 held_new holder ns children in
    let below = head_drawn_stays f v ns (m ∷ path) d (head_drawn_stays w f [] (m ∷ path) o t.2) in
    let deep = head_filled moves inner offset (m ∷ path) v d.sound (holder_stays f v ns inner d.extends unlisted holder) (head_old w s inner held_new (m ∷ path) t.2) below in
    filled_copy into n w s h t.0 t.1 (head_into moves inner offset (m ∷ path) v) (n ∷ m ∷ path) off_path
    (filled-then f v (head_into moves inner offset (m ∷ path) v) (n ∷ []) (m ∷ path)
    (filled_by_moves f v ns (n ∷ []) d
    (λ x k i.
    let e = child_parent moves w f s o.sound n inner o.extends.there o.extends.kinds t.0 held_new holder ns children x k in
    let hx = listed_there moves w f s o.sound n inner o.extends.there o.extends.kinds t.0 held_new holder ns children x k in
    (n, o.extends.parents x hx refl ∙ e, hits-first n [])))
    deep)
