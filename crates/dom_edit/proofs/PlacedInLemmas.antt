-- Roots that are put under a parent one after another: what is left for those that follow, and what is kept of the forest.
use Rattle.std.proofs.Common.{IfSome, IsSome, ◌≡◌, ℕ, zero, suc, ◌+◌, ◌<◌, ◌≤◌, ◌^◌, nat_lt, true, false, if◌then◌else◌, List, [], ◌∷◌, ◌++◌, length, All, Option, Some, None, refl, ap, sym, ◌∙◌, subst, arith, length-append, append-nil}
use Rattle.std.proofs.lemmas.List.Elements.{All-nil, All-weaker}
use Rattle.dom_model.specs.Definitions.{hits, among, Entry, HasOneDocument, Node, Forest, empty, node, Grove, IsForest, HasNode, occurs, size, numbers, entry_in, ancestors, children_of, index_of, put, Content, Point, Range, Iterator, Walker, World, IsBoundary, IsRange, IsIterator, IsWalker, IsRegistration, AreHeld, IsSound, after_gap, document_in, put_in, put_all, gap_before, may_be_parent, unit_count, node_length, kind_passes, IsPlaceable, ArePlaceable, IsOwnedWell}
use Rattle.dom_model.proofs.PlainLists.Numbers.{same_or, same, apart}
use Rattle.dom_model.proofs.Forests.{Climbing.hits-append, Climbing.hits-not_among, Paths.ancestors-put, Documents.HasDocument-entry, Documents.adopted-put_same, Entries.HasNode-occurs, Indices.child-parent, Indices.child-once, Indices.child-there, TreeOrder.Flattened.hits-numbers}
use Rattle.dom_model.proofs.RangesAndContents.{PlacesLeft.length_within, RangesElsewhere.ends_of, RangesElsewhere.gap-elsewhere}
use Rattle.dom_model.proofs.Worlds.{Measured.length-parent, SameShape.ancestors-alike}
use Rattle.dom_model.proofs.Soundness.{SoundForests.parent-passes, SoundWorlds.child_there, SoundPlacing.apart_from, SoundPlacing.renamed, SoundPlacing.total_put, SoundPlacing.occurs_placed, SoundPlacing.all_placeable, SoundPlacing.child_placed, SoundPlacing.sound-put_one}
use Rattle.dom_model.proofs.MutationAlgorithms.{OwnersKept.owned-put_in, PutsAllowed.MayBePut, PutsAllowed.may_be_put}
use Rattle.dom_ranges.specs.Tables.{FitsMoved, OffsetsFit}
use Rattle.dom_edit.specs.Insertion.{placed_in, all_placed, with_room, IsOpen}

-- a forest as a world without anything else
abbrev pub bare : Grove Content → World
bare g = record {
  forest = g.forest;
  made = g.made;
  ranges = [];
  iterators = [];
  walkers = [];
  observing = record { registrations = []; mutations = []; places = []; notified = 0 };
  static_ranges = [];
}

pub sound-bare : (g : Grove Content) → IsForest g → IsSound (bare g)
sound-bare g s = record {
  forest = s;
  ranges = All-nil (λ (r : Option Range). IfSome r (IsRange g.forest));
  iterators = All-nil (λ (i : Option Iterator). IfSome i (IsIterator g.forest));
  walkers = All-nil (λ (k : Option Walker). IfSome k (IsWalker g.forest));
  registrations = All-nil (IsRegistration g.forest);
  statics = All-nil (λ (r : Option Range). IfSome r (AreHeld g.forest));
}

-- the node document that is read
pub document-read : (o : Option (Entry (Node Content))) (d : ℕ) → IsSome o → IfSome o (λ e. d ≡ e.value.document) → document_in o ≡ d
document-read None d h k = absurd (cc h)
document-read (Some e) d h k = sym k

-- a root that is in the parent's document is not adopted
pub placed-same : (f : Forest Content) → ((m : ℕ) → occurs m f ≤ 1) → HasOneDocument f → (parent n d own : ℕ) (child : Option ℕ) → HasNode f parent → IfSome (entry_in f parent) (λ e. d ≡ e.value.document) → IfSome (entry_in f n) (λ e. own ≡ e.value.document) →
    own ≡ d → placed_in parent child n f ≡ put parent n child f
placed-same f once documents parent n d own child there a b same_document =
    let e = document-read (entry_in f parent) d there a in
    let c = subst (λ m. IfSome (entry_in f n) (λ x. m ≡ x.value.document)) same_document b in
    rw e (adopted-put_same parent n d child f documents (HasDocument-entry parent d f once a) (HasDocument-entry n d f once c))

-- One more is put.

module _ (g : Grove Content) (s : IsForest g) (parent n : ℕ) (child : Option ℕ) (ns : List ℕ) (ready : IsOpen g.forest parent child (n ∷ ns)) where
  one : IsPlaceable g.forest parent n
  one = ready.placeable.0

  pub may-put : MayBePut g.forest parent n
  may-put = may_be_put g.forest parent n one

  pub there-put : HasNode (put parent n child g.forest) n
  there-put = HasNode-occurs (put parent n child g.forest) n (subst (λ x. 0 < x) (sym (total_put parent n child (bare g) (sound-bare g s) ready.parent_there one n)) one.there)

  pub numbers-next : (m : ℕ) → occurs m (placed_in parent child n g.forest) ≡ occurs m g.forest
  numbers-next m = occurs_placed parent n child (bare g) (sound-bare g s) ready.parent_there one m

  pub open-next : IsOpen (placed_in parent child n g.forest) parent child ns
  open-next = record {
    parent_there = subst (λ x. 0 < x) (sym (numbers-next parent)) ready.parent_there;
    before_child = child_placed parent n child (bare g) (sound-bare g s) ready.parent_there one child ready.before_child;
    placeable = all_placeable parent n child (bare g) (sound-bare g s) ready.parent_there one ns ready.placeable.1 ready.placeable.2;
  }

  pub owned-next : IsOwnedWell g.forest → IsOwnedWell (placed_in parent child n g.forest)
  owned-next h = owned-put_in parent n child (bare g) (sound-bare g s) ready.parent_there one h

  -- the nodes above the parent stay above it
  pub above-next : ancestors parent (placed_in parent child n g.forest) ≡ ancestors parent g.forest
  above-next =
      let far = apart_from parent n child (bare g) (sound-bare g s) ready.parent_there one in
      ancestors-alike (renamed parent n child (bare g) (sound-bare g s) ready.parent_there one) parent
      ∙ ancestors-put g.forest s.once parent n child ready.parent_there one.there one.root far parent ready.parent_there
      ∙ (rw (hits-not_among n (ancestors parent g.forest) one.outside) (append-nil (ancestors parent g.forest)))

pub forest-next : (g : Grove Content) → IsForest g → (parent n : ℕ) (child : Option ℕ) (ns : List ℕ) → IsOpen g.forest parent child (n ∷ ns) → IsForest (record g { forest = placed_in parent child n g.forest })
forest-next g s parent n None ns ready = (sound-put_one parent n None (bare g) (sound-bare g s) ready.parent_there ready.placeable.0 ready.before_child).forest
forest-next g s parent n (Some c) ns ready = (sound-put_one parent n (Some c) (bare g) (sound-bare g s) ready.parent_there ready.placeable.0 ready.before_child).forest

-- what the roots that came in leave of the forest
pub record IsPlaced (g : Grove Content) (h : Forest Content) : Type 0 where
  pub forest : IsForest (record g { forest = h })
  pub numbers : (m : ℕ) → occurs m h ≡ occurs m g.forest
  pub owned : IsOwnedWell h

pub placed-all : (g : Grove Content) → IsForest g → (parent : ℕ) (child : Option ℕ) (ns : List ℕ) → IsOpen g.forest parent child ns → IsOwnedWell g.forest → IsPlaced g (all_placed parent child ns g.forest)
placed-all g s parent child [] ready owned = record { forest = s; numbers = λ m. refl; owned = owned }
placed-all g s parent child (n ∷ ns) ready owned =
    let next : Grove Content = record g { forest = placed_in parent child n g.forest } in
    let i = placed-all next (forest-next g s parent n child ns ready) parent child ns (open-next g s parent n child ns ready) (owned-next g s parent n child ns ready owned) in
    record {
      forest = i.forest;
      numbers = λ m. i.numbers m ∙ numbers-next g s parent n child ns ready m;
      owned = i.owned;
    }

pub above-all : (g : Grove Content) → IsForest g → (parent : ℕ) (child : Option ℕ) (ns : List ℕ) → IsOpen g.forest parent child ns → ancestors parent (all_placed parent child ns g.forest) ≡ ancestors parent g.forest
above-all g s parent child [] ready = refl
above-all g s parent child (n ∷ ns) ready =
    let next : Grove Content = record g { forest = placed_in parent child n g.forest } in
    above-all next (forest-next g s parent n child ns ready) parent child ns (open-next g s parent n child ns ready) ∙ above-next g s parent n child ns ready

-- The steps of the definitions, on the parts that they change.

pub put_all-forest : (parent : ℕ) (child : Option ℕ) (ns : List ℕ) (w : World) → put_all parent child ns w ≡ record w { forest = all_placed parent child ns w.forest }
put_all-forest parent child [] w = refl
put_all-forest parent child (n ∷ ns) w = put_all-forest parent child ns (put_in parent child n w)

pub gap_before-ranges : (parent : ℕ) (child : Option ℕ) (count : ℕ) (w : World) → gap_before parent child count w ≡ record w { ranges = with_room w.forest parent child count w.ranges }
gap_before-ranges parent None count w = refl
gap_before-ranges parent (Some c) count w = refl

pub placed-world : (parent : ℕ) (child : Option ℕ) (ns : List ℕ) (w : World) → put_all parent child ns (gap_before parent child (length ns) w) ≡ record w { ranges = with_room w.forest parent child (length ns) w.ranges; forest = all_placed parent child ns w.forest }
placed-world parent child ns w = ap (put_all parent child ns) (gap_before-ranges parent child (length ns) w) ∙ put_all-forest parent child ns (record w { ranges = with_room w.forest parent child (length ns) w.ranges })

-- Room for the nodes.

pub length-numbers : (f : Forest Content) → length (numbers f) ≡ size f
length-numbers empty = refl
length-numbers (node x kids rest) =
    let a = length-append (numbers kids) (numbers rest) in
    let b = length-numbers kids in
    let c = length-numbers rest in
    omega arith

-- of roots that may be put no one stands twice, and each may be
pub record AreApart (f : Forest Content) (parent : ℕ) (ns : List ℕ) : Type 0 where
  pub once : (m : ℕ) → hits m ns ≤ 1
  pub each : (m : ℕ) → 0 < hits m ns → IsPlaceable f parent m

pub are-apart : (f : Forest Content) (parent : ℕ) (ns : List ℕ) → ArePlaceable f parent ns → AreApart f parent ns
are-apart f parent [] h = record { once = λ m. omega arith; each = λ m k. absurd (omega arith) }
are-apart f parent (n ∷ ns) h =
    let i = are-apart f parent ns h.2 in
    record {
      once = λ m. elim (same_or n m) [
        | same e t ↦ (let z = subst (λ k. hits k ns ≡ 0) e h.1 in rw t (omega arith))
        | apart ne t ↦ rw t (let j = i.once m in omega arith)
      ];
      each = λ m k. elim (same_or n m) [
        | same e t ↦ subst (IsPlaceable f parent) e h.0
        | apart ne t ↦ (let j = rw t at k in i.each m (omega arith))
      ];
    }

-- the parent's children and the roots that come in are no more than all nodes
pub at-most-all : (g : Grove Content) → IsForest g → (parent : ℕ) (child : Option ℕ) (ns : List ℕ) → IsOpen g.forest parent child ns → length (children_of g.forest parent) + length ns ≤ size g.forest
at-most-all g s parent child ns ready =
    let f = g.forest in
    let kids = children_of f parent in
    let apart_all = are-apart f parent ns ready.placeable in
    let once : (m : ℕ) → hits m (kids ++ ns) ≤ 1 = (λ m. both m (hits m kids) (hits m ns) refl refl) in
    let within : (m : ℕ) → 0 < hits m (kids ++ ns) → 0 < hits m (numbers f) = λ m h. rw (hits-numbers m f) (either m (hits m kids) refl h) in
    let a = length_within (kids ++ ns) (numbers f) once within in
    let b = length-append kids ns in
    let c = length-numbers f in
    omega arith
  where
    both : (m a b : ℕ) → hits m (children_of g.forest parent) ≡ a → hits m ns ≡ b → hits m (children_of g.forest parent ++ ns) ≤ 1
    both m zero b e d = let i = (are-apart g.forest parent ns ready.placeable).once m in let j = hits-append m (children_of g.forest parent) ns in omega arith
    both m (suc a) zero e d = let i = child-once g.forest s.once m parent in let j = hits-append m (children_of g.forest parent) ns in omega arith
    both m (suc a) (suc b) e d =
        let i = child-parent g.forest s.once m parent (omega arith) in
        let j = ((are-apart g.forest parent ns ready.placeable).each m (omega arith)).root in
        absurd (let k : Some parent ≡ None = sym i ∙ j in cc k)

    either : (m a : ℕ) → hits m (children_of g.forest parent) ≡ a → 0 < hits m (children_of g.forest parent ++ ns) → 0 < occurs m g.forest
    either m zero e h = ((are-apart g.forest parent ns ready.placeable).each m (let j = hits-append m (children_of g.forest parent) ns in omega arith)).there
    either m (suc a) e h = child-there g.forest s.once m parent (omega arith)

-- the live ranges find room
pub room-fits : (g : Grove Content) → IsForest g → (parent c : ℕ) (ns : List ℕ) (index : ℕ) → IsOpen g.forest parent (Some c) ns → size g.forest < 2 ^ 64 → (rs : List (Option Range)) → All (λ (r : Option Range). IfSome r (IsRange g.forest)) rs → OffsetsFit (after_gap parent index (length ns)) rs
room-fits g s parent c ns index ready small rs h = All-weaker (λ (r : Option Range). IfSome r (IsRange g.forest)) (λ (r : Option Range). IfSome r (FitsMoved (after_gap parent index (length ns)))) each rs h
  where
    passes : kind_passes may_be_parent g.forest parent ≡ true
    passes = parent-passes s c parent ready.before_child (child_there g.forest c parent ready.before_child)

    end : (p : Point) → IsBoundary g.forest p → p.offset < 2 ^ 64 → (after_gap parent index (length ns) p).offset < 2 ^ 64
    end p b l = elim (same_or p.node parent) [
      | same e t ↦
          let i : p.offset ≤ node_length unit_count g.forest parent = subst (λ m. p.offset ≤ node_length unit_count g.forest m) e b.within in
          let j = length-parent g.forest parent passes in
          let k = at-most-all g s parent (Some c) ns ready in
          rw t (elim (nat_lt index p.offset) as (λ v. (if v then record p { offset = p.offset + length ns } else p).offset < 2 ^ 64) [
            | true ↦ omega arith
            | false ↦ omega arith
          ])
      | apart ne t ↦ rw t l
    ]

    each : (r : Option Range) → IfSome r (IsRange g.forest) → IfSome r (FitsMoved (after_gap parent index (length ns)))
    each None k = tt
    each (Some r) k = record { start = λ i. end r.start k.starts i; end = λ i. end r.end k.ends i }

-- where no end stands in the parent there is nothing to move
pub room-elsewhere : (f : Forest Content) (parent : ℕ) (child : Option ℕ) (count : ℕ) (rs : List (Option Range)) → among parent (ends_of rs) ≡ false → with_room f parent child count rs ≡ rs
room-elsewhere f parent None count rs h = refl
room-elsewhere f parent (Some c) count rs h = gap-elsewhere parent (index_of f c) count rs h
