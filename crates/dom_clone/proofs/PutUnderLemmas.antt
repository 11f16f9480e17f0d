-- A root goes under a node of its node document, and the world stays whole.
use Rattle.std.proofs.Common.{◌≡◌, ℕ, ◌<◌, Bool, true, false, if◌then◌else◌, Option, Some, None, IfSome, is_some, refl, ap, sym, ◌∙◌, subst, arith}
use Rattle.std.proofs.lemmas.Bool.{false≢true}
use Rattle.dom_model.specs.Definitions.{among, or_else, Entry, is_kind, may_stand_in, HasDocument, Node, Forest, empty, node, occurs, one_at, beside, tree_at, without, put, adopted, entry_under, entry_in, HasNode, parent_of, ancestors, EachNode, Content, IsSound, made_node, is_of_kind, document_in, IsOwned, may_stand_at, IsPlaceable}
use Rattle.dom_model.specs.declared.Kind.TheVariants.{Document}
use Rattle.dom_model.specs.Worlds.World as model
use Rattle.dom_model.proofs.PlainLists.Numbers.{same_or, same, apart}
use Rattle.dom_model.proofs.Forests.{Changes.seen, Changes.nothing, Changes.just, Totals.total-tree_at, Totals.total-put, Totals.tree_at-absent, Entries.occurs-HasNode, Entries.HasNode-occurs, Climbing.hits-ancestors, Climbing.hits-not_among, Climbing.not_among-hits, Documents.HasDocument-entry, Documents.HasOneDocument-put, Documents.adopted-put_same, OneMoreRoot.entry-more, OneMoreRoot.entry-new, OneMoreRoot.parent-new, ForestsBeside.ancestors-older}
use Rattle.dom_model.proofs.Worlds.Owners.{HasOwners-put}
use Rattle.dom_model.proofs.Soundness.{SoundPlacing.sound-put_one, SoundWorlds.statics-kept}
use Rattle.dom_tree.specs.PutConditions.{MayStand}
use Rattle.dom_observe.specs.Watchers.{Watches}
use Rattle.dom_edit.specs.{declared.world.World.World, Whole.IsWhole, Whole.Keeps, Whole.Follows, Whole.unwatched}
use Rattle.dom_edit.proofs.{CoversHeldLemmas.covered-kept, FollowsLemmas.follows-then, FollowsLemmas.keeps-unwatched, FollowsLemmas.sound-unwatched, FollowsLemmas.whole-sound}
use Rattle.dom_observe.proofs.NamesHeldLemmas.{held-kept}
use Rattle.dom_clone.specs.Clones.{made_under}

-- what holds of each node holds of what an entry tells
pub each-entry : (P : Node Content → Type 0) (q : Option ℕ) (n : ℕ) (f : Forest Content) → EachNode P f → IfSome (entry_under q n f) (λ e. P e.value × (e.value.number ≡ n))
each-entry P q n empty h = tt
each-entry P q n (node x kids rest) h =
    elim (same_or x.number n) [
      | same e t ↦ rw t (h.0, e)
      | apart ne t ↦ rw t (either (entry_under (Some x.number) n kids) (entry_under q n rest) (each-entry P (Some x.number) n kids h.1) (each-entry P q n rest h.2))
    ]
  where
    either : (a b : Option (Entry (Node Content))) → IfSome a (λ e. P e.value × (e.value.number ≡ n)) → IfSome b (λ e. P e.value × (e.value.number ≡ n)) → IfSome (or_else a b) (λ e. P e.value × (e.value.number ≡ n))
    either None b k l = l
    either (Some e) b k l = k

-- a step that does the same
pub follows-same : (a b : World) (s t : model.World → model.World) → ((w : model.World) → Keeps a w → s w ≡ t w) → Follows a b s → Follows a b t
follows-same a b s t alike f = record {
  keeps = λ w k. subst (λ v. Keeps b v) (alike w k) (f.keeps w k);
  watches = λ w k o. let e : (s w).observing ≡ (t w).observing = ap (λ (v : model.World). v.observing) (alike w k) in subst (λ x. Watches b.observers x) e (f.watches w k o);
}

-- a root and a node of its node document that may have it as its child
pub record MayGoUnder (f : Forest Content) (parent child d : ℕ) : Type 0 where
  pub parent_held : HasNode f parent
  pub child_held : HasNode f child
  pub root : parent_of f child ≡ None
  pub outside : among child (ancestors parent f) ≡ false
  pub kinds : MayStand f parent child
  pub parent_document : IfSome (entry_in f parent) (λ e. d ≡ e.value.document)
  pub child_document : IfSome (entry_in f child) (λ e. d ≡ e.value.document)

module _ (f : Forest Content) (parent child d : ℕ) (m : MayGoUnder f parent child d) where
  there : 0 < occurs parent f
  there = occurs-HasNode f parent m.parent_held

  fitting : may_stand_at f parent child ≡ true
  fitting =
      elim (seen (entry_in f parent)) [
        | nothing e ↦ absurd (let k : is_some (entry_in f parent) ≡ true = m.parent_held in let j = rw e at k in false≢true j)
        | just p e ↦
            elim (seen (entry_in f child)) [
              | nothing e2 ↦ absurd (let k : is_some (entry_in f child) ≡ true = m.child_held in let j = rw e2 at k in false≢true j)
              | just c e2 ↦ (let k = rw (e, e2) at m.kinds in rw (e, e2) k)
            ]
      ]

  placeable : IsPlaceable f parent child
  placeable = record {
    there = occurs-HasNode f child m.child_held;
    root = m.root;
    outside = not_among-hits child (ancestors parent f) m.outside;
    fits = fitting;
  }

  in_document : IfSome (entry_in f parent) (λ e. d ≡ e.value.document) → document_in (entry_in f parent) ≡ d
  in_document h =
      elim (seen (entry_in f parent)) [
        | nothing e ↦ absurd (let k : is_some (entry_in f parent) ≡ true = m.parent_held in let j = rw e at k in false≢true j)
        | just p e ↦ (let k = rw e at h in rw e (sym k))
      ]

abbrev pub put_last : ℕ → ℕ → World → World
put_last parent child v = record v { tree = record v.tree { forest = put parent child None v.tree.forest } }

pub follows-put : (v : World) (parent child : ℕ) → Follows v (put_last parent child v) (λ w. record w { forest = put parent child None w.forest })
follows-put v parent child = record {
  keeps = λ w k. record { forest = ap (put parent child None) k.forest; made = k.made; ranges = k.ranges; static_ranges = k.static_ranges; iterators = k.iterators; walkers = k.walkers };
  watches = λ w k o. o;
}

module _ (v : World) (h : IsWhole v) (parent child d : ℕ) (m : MayGoUnder v.tree.forest parent child d) where
  abbrev moved : Forest Content
  moved = put parent child None v.tree.forest

  has_parent : HasDocument parent d v.tree.forest
  has_parent = HasDocument-entry parent d v.tree.forest h.forest.once m.parent_document

  has_child : HasDocument child d v.tree.forest
  has_child = HasDocument-entry child d v.tree.forest h.forest.once m.child_document

  hp : 0 < occurs parent v.tree.forest
  hp = occurs-HasNode v.tree.forest parent m.parent_held

  hc : 0 < occurs child v.tree.forest
  hc = occurs-HasNode v.tree.forest child m.child_held

  out : occurs parent (tree_at child v.tree.forest) ≡ 0
  out = sym (hits-ancestors child parent v.tree.forest h.forest.once) ∙ not_among-hits child (ancestors parent v.tree.forest) m.outside

  sound-put : IsSound (record (unwatched v) { forest = put parent child None v.tree.forest })
  sound-put =
      let s = sound-put_one parent child None (unwatched v) (sound-unwatched v h) hp (placeable v.tree.forest parent child d m) tt in
      let e : adopted child (document_in (entry_in v.tree.forest parent)) (put parent child None v.tree.forest) ≡ put parent child None v.tree.forest =
      ap (λ (n : ℕ). adopted child n (put parent child None v.tree.forest)) (in_document v.tree.forest parent child d m m.parent_document)
      ∙ adopted-put_same parent child d None v.tree.forest h.documents has_parent has_child in
      subst (λ (g : Forest Content). IsSound (record (unwatched v) { forest = g })) e s

  there_put : (n : ℕ) → HasNode v.tree.forest n → HasNode (put parent child None v.tree.forest) n
  there_put n k =
      let a = total-tree_at (one_at parent) child v.tree.forest in
      let b = h.forest.once parent in
      let one : occurs parent (without child v.tree.forest) ≡ 1 = omega (arith, out, hp) in
      HasNode-occurs (put parent child None v.tree.forest) n (let t = total-put (one_at n) parent child None v.tree.forest one in let j = occurs-HasNode v.tree.forest n k in omega arith)

  pub put-whole : IsWhole (put_last parent child v)
  put-whole =
      whole-sound (put_last parent child v) (record (unwatched v) { forest = put parent child None v.tree.forest })
      (record { forest = refl; made = refl; ranges = refl; static_ranges = refl; iterators = refl; walkers = refl })
      sound-put
      (HasOneDocument-put parent child d None v.tree.forest h.documents has_parent has_child)
      (HasOwners-put parent child None v.tree.forest h.forest.once hp hc m.root out h.owners)
      (covered-kept v.tree (put_last parent child v).tree v.ranges.covered (λ n.
      let a = total-tree_at (one_at parent) child v.tree.forest in
      let b = h.forest.once parent in
      let one : occurs parent (without child v.tree.forest) ≡ 1 = omega (arith, out, hp) in
      let t = total-put (one_at n) parent child None v.tree.forest one in
      omega arith) refl h.covered)
      (statics-kept v.tree.forest (put parent child None v.tree.forest) there_put v.statics h.statics)
      (held-kept v.tree.forest (put parent child None v.tree.forest) v.observers there_put h.observers)

-- A copy is made, and goes under a node.
module _ (v mid : World) (h : IsWhole v) (n parent d : ℕ) (p e : Entry (Node Content)) (ep : entry_in v.tree.forest parent ≡ Some p) (ee : entry_in v.tree.forest n ≡ Some e) (document : d ≡ p.value.document) (fit : may_stand_in p.value.label.kind e.value.label.kind ≡ true) (fo : Follows v mid (made_node d e.value.label e.value.body)) where
  abbrev copy_made : Node Content
  copy_made = record { number = v.tree.made; document = d; label = e.value.label; body = e.value.body }

  new : occurs v.tree.made v.tree.forest ≡ 0
  new = h.forest.small v.tree.made (omega arith)

  above : 0 < occurs parent v.tree.forest
  above = occurs-HasNode v.tree.forest parent (rw ep refl)

  apart_from : occurs parent (node copy_made empty empty) ≡ 0
  apart_from = elim (same_or v.tree.made parent) [ same s t ↦ absurd (let z : occurs parent v.tree.forest ≡ 0 = ap (λ k. occurs k v.tree.forest) (sym s) ∙ new in omega (arith, above, z)) | apart ne t ↦ rw t refl ]

  beside-may_go : MayGoUnder (beside v.tree.forest (node copy_made empty empty)) parent v.tree.made d
  beside-may_go =
      let f = v.tree.forest in
      let o = h.forest.once in
      let at_parent = entry-more f o copy_made new parent above in
      let at_copy = entry-new f o copy_made new in
      record {
        parent_held = rw (at_parent, ep) refl;
        child_held = rw at_copy refl;
        root = parent-new f o copy_made new;
        outside = ap (among v.tree.made) (ancestors-older parent f (node copy_made empty empty) apart_from)
            ∙ hits-not_among v.tree.made (ancestors parent f) (hits-ancestors v.tree.made parent f o ∙ ap (λ (g : Forest Content). occurs parent g) (tree_at-absent v.tree.made f new));
        kinds = rw (at_parent, ep, at_copy) fit;
        parent_document = rw (at_parent, ep) document;
        child_document = rw at_copy refl;
      }

  made-may_go : MayGoUnder mid.tree.forest parent v.tree.made d
  made-may_go = subst (λ (g : Forest Content). MayGoUnder g parent v.tree.made d) (fo.keeps (unwatched v) (keeps-unwatched v)).forest beside-may_go

  made-follows : Follows v (put_last parent v.tree.made mid) (made_under parent p.value.document e.value)
  made-follows =
      follows-same v (put_last parent v.tree.made mid)
      (λ w. record (made_node d e.value.label e.value.body w) { forest = put parent v.tree.made None (made_node d e.value.label e.value.body w).forest })
      (made_under parent p.value.document e.value)
      (λ w k.
      ap (λ (c : ℕ). record (made_node d e.value.label e.value.body w) { forest = put parent c None (made_node d e.value.label e.value.body w).forest }) (sym k.made)
      ∙ ap (λ (c : ℕ). made_under parent c e.value w) document)
      (follows-then v mid (put_last parent v.tree.made mid) (made_node d e.value.label e.value.body) (λ w. record w { forest = put parent v.tree.made None w.forest }) fo (follows-put mid parent v.tree.made))

-- the same, as the calls tell it
module _ (v mid : World) (h : IsWhole v) (n parent d : ℕ) (held : HasNode v.tree.forest n) (above : HasNode v.tree.forest parent) (may : MayStand v.tree.forest parent n)
    (document : d ≡ document_in (entry_in v.tree.forest parent)) (made : IfSome (entry_in v.tree.forest n) (λ e. Follows v mid (made_node d e.value.label e.value.body))) where
  told : (A : Type 0) → ((p e : Entry (Node Content)) → entry_in v.tree.forest parent ≡ Some p → entry_in v.tree.forest n ≡ Some e → d ≡ p.value.document → may_stand_in p.value.label.kind e.value.label.kind ≡ true → Follows v mid (made_node d e.value.label e.value.body) → A) → A
  told A answer =
      elim (seen (entry_in v.tree.forest parent)) [
        | nothing a ↦ absurd (let k : is_some (entry_in v.tree.forest parent) ≡ true = above in let j = rw a at k in false≢true j)
        | just p ep ↦
            elim (seen (entry_in v.tree.forest n)) [
              | nothing a ↦ absurd (let k : is_some (entry_in v.tree.forest n) ≡ true = held in let j = rw a at k in false≢true j)
              | just e ee ↦ answer p e ep ee (rw ep at document) (rw (ep, ee) at may) (rw ee at made)
            ]
      ]

  pub copy-may_go : MayGoUnder mid.tree.forest parent v.tree.made d
  copy-may_go = told (MayGoUnder mid.tree.forest parent v.tree.made d) (λ p e ep ee document fit fo. made-may_go v mid h n parent d p e ep ee document fit fo)

  pub copy-follows : IfSome (entry_in v.tree.forest parent) (λ p. IfSome (entry_in v.tree.forest n) (λ e. Follows v (put_last parent v.tree.made mid) (made_under parent p.value.document e.value)))
  copy-follows =
      told (IfSome (entry_in v.tree.forest parent) (λ p. IfSome (entry_in v.tree.forest n) (λ e. Follows v (put_last parent v.tree.made mid) (made_under parent p.value.document e.value))))
      (λ p e ep ee document fit fo. rw (ep, ee) (made-follows v mid h n parent d p e ep ee document fit fo))

-- The node document of copies, as it is told of a node.

pub copies_document-kind : (f : Forest Content) → EachNode (IsOwned f) f → (n : ℕ) → HasNode f n → (o : Option ℕ) → IfSome (entry_in f n) (λ e. o ≡ (if is_kind Document e.value.label.kind then None else Some e.value.document)) → (x : ℕ) → o ≡ Some x → is_of_kind Document f x ≡ true
copies_document-kind f owners n held o told x s =
    elim (seen (entry_in f n)) [
      | nothing a ↦ absurd (let k : is_some (entry_in f n) ≡ true = held in let j = rw a at k in false≢true j)
      | just e ee ↦
          let j = each-entry (IsOwned f) None n f owners in
          let i = rw ee at j in
          let k = rw ee at told in
          go (is_kind Document e.value.label.kind) e.value.document i.0 k
    ]
  where
    go : (b : Bool) (d : ℕ) → is_of_kind Document f d ≡ true → o ≡ (if b then None else Some d) → is_of_kind Document f x ≡ true
    go true d i k = absurd (let z : None ≡ Some x = sym k ∙ s in cc z)
    go false d i k = let e : d ≡ x = (let z : Some d ≡ Some x = sym k ∙ s in cc z) in subst (λ m. is_of_kind Document f m ≡ true) e i
