-- Worlds on the way of extracting or cloning contents: what is new stands under what is new, with rising numbers, so that each node that is
-- appended there may be. DOM Standard, "Interface Range": extract, clone the contents.
use Rattle.std.proofs.Common.{◌≡◌, ℕ, zero, suc, ◌<◌, ◌≤◌, Bool, true, false, if◌then◌else◌, List, [], ◌∷◌, Some, None, refl, ap, sym, ◌∙◌, subst, arith, ◌⊎◌, inl, inr}
use Rattle.std.proofs.lemmas.{Bool.false≢true, Bool.Decides.nat_tests}
use Rattle.dom_model.specs.Definitions.{hits, may_be_parent, Forest, occurs, one_at, parent_of, children_of, ancestors, Content, World, kind_passes, is_of_kind, is_fragment, nodes_of, append, content_in, data_of, renumbered, with_copies, IsSound, Edit, Trace, doing_append, append_edits, IsInsertable}
use Rattle.dom_model.specs.declared.{Kind.Kind, Kind.TheVariants.Document, Kind.TheVariants.DocumentType}
use Rattle.dom_model.proofs.PlainLists.Numbers.{same_or, same, apart}
use Rattle.dom_model.proofs.Forests.{Changes.seen, Changes.nothing, Changes.just, Totals.total-beside, Paths.parent-path, Paths.root-path, Indices.child-parent}
use Rattle.dom_model.proofs.Worlds.Measured.{kind-beside, entry-beside}
use Rattle.dom_model.proofs.MutationAlgorithms.{Extending.tag_in, Extending.tag_at, Extending.put_by_insert, Appended.IsAppended, Appended.appended, Appended.made-appended}
use Rattle.dom_model.proofs.Soundness.{SoundInserting.sound-insert}
use Rattle.dom_model.proofs.DataAndCopies.CopiesPlaced.{parent-copies}
use Rattle.dom_model.proofs.RangesAndContents.LiveRangesKept.{is_live, append-live}
use Rattle.dom_model.proofs.TokenText.{EditsMade.EditsLeave.Comes, EditsMade.EditsLeave.Follows, EditsMade.EditsLeave.follows-none, EditsMade.EditsLeave.follows-then, EditsMade.EditsLeave.follows-doing, EditsMade.EditsOfTrees.leave-append}
pub use Rattle.dom_model.proofs.TokenText.EditsMade.FittingEdits.{passes_there}

-- of the nodes from a number on, each stands under one of them with a smaller number, or under none
pub record IsDrawing (low : ℕ) (v : World) : Type 0 where
  pub sound : IsSound v
  pub begun : low ≤ v.made
  pub rising : (n q : ℕ) → low ≤ n → parent_of v.forest n ≡ Some q → (low ≤ q) × (q < n)

-- nodes and live ranges of the one world are in the other too
pub record Extends (v u : World) : Type 0 where
  pub there : (n : ℕ) → 0 < occurs n v.forest → 0 < occurs n u.forest
  pub kinds : (test : Kind → Bool) (n : ℕ) → 0 < occurs n v.forest → kind_passes test u.forest n ≡ kind_passes test v.forest n
  pub tags : (n : ℕ) → 0 < occurs n v.forest → tag_at u.forest n ≡ tag_at v.forest n
  pub live : (r : ℕ) → is_live r u ≡ is_live r v
  pub made : v.made ≤ u.made

pub extends-same : (v : World) → Extends v v
extends-same v = record { there = λ n h. h; kinds = λ test n h. refl; tags = λ n h. refl; live = λ r. refl; made = omega arith }

pub extends-then : (v u x : World) → Extends v u → Extends u x → Extends v x
extends-then v u x a b =
    record {
      there = λ n h. b.there n (a.there n h);
      kinds = λ test n h. b.kinds test n (a.there n h) ∙ a.kinds test n h;
      tags = λ n h. b.tags n (a.there n h) ∙ a.tags n h;
      live = λ r. b.live r ∙ a.live r;
      made = (let i = a.made in let j = b.made in omega arith);
    }

-- each node that was there has the data that it had
abbrev pub KeepsData : World → World → Type 0
KeepsData v u = (m : ℕ) → 0 < occurs m v.forest → data_of u m ≡ data_of v m

-- a step of a trace, and of a world, that goes on so
pub record Draws (low : ℕ) (step : Trace → Trace) (v u : World) : Type 0 where
  pub follows : Follows step v u
  pub drawing : IsDrawing low u
  pub extends : Extends v u

pub draws-none : (low : ℕ) (v : World) → IsDrawing low v → Draws low (λ t. t) v v
draws-none low v d = record { follows = follows-none v; drawing = d; extends = extends-same v }

pub draws-then : (low : ℕ) (v u x : World) (first second : Trace → Trace) → Draws low first v u → Draws low second u x → Draws low (λ t. second (first t)) v x
draws-then low v u x first second a b =
    record { follows = follows-then v u x first second a.follows b.follows; drawing = b.drawing; extends = extends-then v u x a.extends b.extends }

-- two steps that are one at the world
pub draws-as : (low : ℕ) (v u : World) (step other : Trace → Trace) → ((es : List Edit) → step (record { world = v; edits = es }) ≡ other (record { world = v; edits = es })) → Draws low step v u → Draws low other v u
draws-as low v u step other e h =
    record { follows = λ w es l. subst (λ t. Comes w t u) (e es) (h.follows w es l); drawing = h.drawing; extends = h.extends }

-- New trees.

module _ (low : ℕ) (v : World) (d : IsDrawing low v) (document : ℕ) (g : Forest Content) where
  pub extends-copies : Extends v (with_copies document g v)
  extends-copies =
      record {
        there = λ n h. let t = total-beside (one_at n) v.forest (renumbered document v.made g) in omega arith;
        kinds = λ test n h. kind-beside v.forest (renumbered document v.made g) n h test;
        tags = λ n h. ap tag_in (entry-beside v.forest (renumbered document v.made g) n h);
        live = λ r. refl;
        made = omega arith;
      }

  pub data-copies : KeepsData v (with_copies document g v)
  data-copies m h = ap (λ o. (content_in o).text) (entry-beside v.forest (renumbered document v.made g) m h)

  pub drawing-copies : IsSound (with_copies document g v) → IsDrawing low (with_copies document g v)
  drawing-copies s = record { sound = s; begun = (let b = d.begun in omega arith); rising = λ n q l e. told n q l (parent-copies document v.made v.forest g n q e) }
    where
      told : (n q : ℕ) → low ≤ n → (parent_of v.forest n ≡ Some q) ⊎ ((v.made ≤ q) × (q < n)) → (low ≤ q) × (q < n)
      told n q l (inl e) = d.rising n q l e
      told n q l (inr i) = (let a = i.0 in let b = d.begun in omega arith, i.1)

-- What is appended.

-- a new node that may have children
pub record IsHolder (low : ℕ) (v : World) (into : ℕ) : Type 0 where
  pub fresh : low ≤ into
  pub kind : kind_passes may_be_parent v.forest into ≡ true

pub holder-extends : (low : ℕ) (v u : World) (into : ℕ) → Extends v u → IsHolder low v into → IsHolder low u into
holder-extends low v u into x h = record { fresh = h.fresh; kind = x.kinds may_be_parent into (passes_there may_be_parent v.forest into h.kind) ∙ h.kind }

-- an old node that is no fragment, or a new one with a greater number than its parent to be
pub record IsComing (low : ℕ) (v : World) (into n : ℕ) : Type 0 where
  pub there : 0 < occurs n v.forest
  pub no_document : is_of_kind Document v.forest n ≡ false
  pub no_doctype : is_of_kind DocumentType v.forest n ≡ false
  pub place : ((n < low) × (is_fragment v n ≡ false)) ⊎ (into < n)

module _ (low : ℕ) (v : World) (d : IsDrawing low v) where
  -- a node without a parent, and one that stands right under another, of which that is so
  top-new : (into m : ℕ) → low ≤ into → 0 < occurs into v.forest → parent_of v.forest into ≡ None → 0 < hits m (ancestors into v.forest) → (low ≤ m) × (m ≤ into)
  top-new into m l h e k = let i = subst (λ ns. 0 < hits m ns) (root-path v.forest d.sound.forest.once into h e) k in (grind (arith, nat_tests), grind (arith, nat_tests))

  under-new : (into q m : ℕ) → low ≤ into → 0 < occurs into v.forest → parent_of v.forest into ≡ Some q → (0 < hits m (ancestors q v.forest) → (low ≤ m) × (m ≤ q)) → 0 < hits m (ancestors into v.forest) → (low ≤ m) × (m ≤ into)
  under-new into q m l h e above k =
      let i = subst (λ ns. 0 < hits m ns) (parent-path v.forest d.sound.forest.once into q h e).1 k in
      let r = d.rising into q l e in
      (grind (arith, nat_tests, above), grind (arith, nat_tests, above))

  -- all above a new node is new, and has a smaller number
  above-new : (most into m : ℕ) → into ≤ most → low ≤ into → 0 < occurs into v.forest → 0 < hits m (ancestors into v.forest) → (low ≤ m) × (m ≤ into)
  above-new zero into m b l h k =
      elim (seen (parent_of v.forest into)) [
        | nothing e ↦ top-new into m l h e k
        | just q e ↦ absurd (let r = d.rising into q l e in let x = r.1 in omega arith)
      ]
  above-new (suc most) into m b l h k =
      elim (seen (parent_of v.forest into)) [
        | nothing e ↦ top-new into m l h e k
        | just q e ↦
            let r = d.rising into q l e in
            let p = parent-path v.forest d.sound.forest.once into q h e in
            under-new into q m l h e (λ j. above-new most q m (let x = r.1 in omega arith) r.0 p.0 j) k
      ]

  module _ (into n : ℕ) (k : IsHolder low v into) (c : IsComing low v into n) where
    into_there : 0 < occurs into v.forest
    into_there = passes_there may_be_parent v.forest into k.kind

    outside : hits n (ancestors into v.forest) ≡ 0
    outside = let no : 0 < hits n (ancestors into v.forest) → ⊥ = λ lt. clash (above-new into into n (omega arith) k.fresh into_there lt) c.place in omega arith
      where
        clash : (low ≤ n) × (n ≤ into) → ((n < low) × (is_fragment v n ≡ false)) ⊎ (into < n) → ⊥
        clash a (inl i) = let x = a.0 in let y = i.0 in omega arith
        clash a (inr i) = let x = a.1 in omega arith

    pub may_come : IsInsertable v.forest n into None
    may_come =
        record {
          there = c.there;
          parent_there = into_there;
          outside = outside;
          may_hold = k.kind;
          no_document = c.no_document;
          doctype_fits = rw c.no_doctype refl;
          before_child = tt;
          before_other = tt;
        }

    -- the nodes that come in are old, or greater than their parent
    coming-greater : (m : ℕ) → low ≤ m → 0 < hits m (nodes_of v n) → into < m
    coming-greater m l h = go (is_fragment v n) refl h c.place
      where
        go : (b : Bool) → is_fragment v n ≡ b → 0 < hits m (if b then children_of v.forest n else n ∷ []) → ((n < low) × (is_fragment v n ≡ false)) ⊎ (into < n) → into < m
        go true e i (inl j) = absurd (false≢true (sym j.1 ∙ e))
        go true e i (inr j) = let p = child-parent v.forest d.sound.forest.once m n i in let r = d.rising m n l p in let x = r.1 in omega arith
        go false e i (inl j) = elim (same_or n m) [ same q t ↦ absurd (let x = j.0 in omega arith) | apart ne t ↦ absurd (let x = rw t at i in omega arith) ]
        go false e i (inr j) = elim (same_or n m) [ same q t ↦ omega arith | apart ne t ↦ absurd (let x = rw t at i in omega arith) ]

    abbrev after_append : World
    after_append = append n into v

    change : IsAppended v.forest after_append.forest into (nodes_of v n)
    change = appended n into v d.sound may_come

    pub data-append : KeepsData v after_append
    data-append m h = let i = put_by_insert false n into None v d.sound may_come in i.extends.texts m h

    pub draws-append : Draws low (doing_append n into) v after_append
    draws-append =
        record {
          follows = follows-doing v (append n into) (append_edits n into) (leave-append n into v d.sound may_come);
          drawing = record {
            sound = sound-insert false n into None v d.sound may_come;
            begun = (let b = d.begun in let e = made-appended n into v d.sound may_come in omega arith);
            rising = λ m q l e. told m q l (change.parents m q e);
          };
          extends = record {
            there = λ m h. subst (λ x. 0 < x) (sym (change.numbers m)) h;
            kinds = λ test m h. change.kinds test m;
            tags = λ m h. let i = put_by_insert false n into None v d.sound may_come in i.extends.tags m h;
            live = λ r. append-live r n into v;
            made = (let e = made-appended n into v d.sound may_come in omega arith);
          };
        }
      where
        told : (m q : ℕ) → low ≤ m → ((q ≡ into) × (0 < hits m (nodes_of v n))) ⊎ (parent_of v.forest m ≡ Some q) → (low ≤ q) × (q < m)
        told m q l (inl i) = let x = i.0 in let y = coming-greater m l i.1 in let f = k.fresh in (omega arith, omega arith)
        told m q l (inr e) = d.rising m q l e
