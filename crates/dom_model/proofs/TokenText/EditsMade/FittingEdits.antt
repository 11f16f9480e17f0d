-- Lists of edits that fit, one after another; a sound world is ready for any edit, and what an edit asks for in one.
use Rattle.std.proofs.Common.{◌≡◌, ℕ, ◌<◌, ◌≤◌, Bool, true, false, List, [], ◌∷◌, ◌++◌, length, Option, Some, None, IfSome, option_map, refl, sym, ◌∙◌, subst, arith, inl, inr}
use Rattle.std.proofs.lemmas.{Bool.cases_lt, Bool.false≢true, List.get_or_past}
use Rattle.dom_model.specs.Definitions.{is_character_data, may_be_parent, Forest, empty, node, occurs, one_at, beside, entry_in, Content, Point, Range, World, first_world, kind_passes, end_of, range_at, with_range, data_of, cut_count, Edit, Splice, Making, all_on_world, IsBoundary, IsRange, IsSound, Childless, end_at, IsPoint, IsReady, Fits, fits_removal, fits_insertion, fits_splice, fits_parting, fits_merge, fits_end_set, fits_making, fits_range_making, fits_release, fits_discard, AllFit, Lives}
use Rattle.dom_model.specs.declared.Kind.{Kind}
use Rattle.dom_model.proofs.PlainLists.Numbers.{same_or, same, apart}
use Rattle.dom_model.proofs.Forests.{Changes.seen, Changes.nothing, Changes.just, Totals.total-beside, Entries.occurs-HasNode}
use Rattle.dom_model.proofs.Soundness.{SoundForests.IsWood, SoundForests.parent_no_data, SoundData.cut_fits}
use Rattle.dom_model.proofs.TokenText.{Marked.MarkedFirst.kinds-childless, Marked.MarkedEnds.end_at-other, Marked.MarkedEnds.end_at-set}

-- the trees, the live ranges and the next number alone
abbrev pub laid : World → World
laid w = record first_world { forest = w.forest; made = w.made; ranges = w.ranges }

-- That an edit fits is told by these.

point-laid : (w : World) (p : Point) → IsPoint w p → IsPoint (laid w) p
point-laid w p i = record { there = i.there; within = i.within }

pub ready-laid : (w : World) → IsReady w → IsReady (laid w)
ready-laid w k = record { once = k.once; points = λ r side p e. point-laid w p (k.points r side p e) }

pub fits-laid : (w : World) (e : Edit) → Fits w e → Fits (laid w) e
fits-laid w e (fits_removal n parent a) = fits_removal n parent a
fits-laid w e (fits_insertion n p a b c d h i) = fits_insertion n p a b c d h i
fits-laid w e (fits_splice n offset count units a b c) = fits_splice n offset count units a b c
fits-laid w e (fits_parting p new parent a b c d) = fits_parting p new parent a b c d
fits-laid w e (fits_merge n next parent a b c d h) = fits_merge n next parent a b c d h
fits-laid w e (fits_end_set r side p range a b) = fits_end_set r side p range a (point-laid w p b)
fits-laid w e (fits_making f a b) = fits_making f a b
fits-laid w e (fits_range_making r range a b c) = fits_range_making r range a (point-laid w range.start b) (point-laid w range.end c)
fits-laid w e (fits_release r) = fits_release r
fits-laid w e (fits_discard n a) = fits_discard n a

-- one list after another
pub AllFit-append : (es fs : List Edit) (w : World) → AllFit w es → AllFit (all_on_world es w) fs → AllFit w (es ++ fs)
AllFit-append [] fs w h k = k
AllFit-append (e ∷ es) fs w h k = (h.0, h.1, AllFit-append es fs _ h.2 k)

-- Sound worlds.

pub point-boundary : (w : World) (p : Point) → IsBoundary w.forest p → IsPoint w p
point-boundary w p b = record { there = occurs-HasNode w.forest p.node b.there; within = b.within }

pub end-point : (w : World) (side : Bool) (range : Range) → IsRange w.forest range → IsPoint w (end_of side range)
end-point w true range h = point-boundary w range.start h.starts
end-point w false range h = point-boundary w range.end h.ends

-- a world is ready for an edit where what holds of its live ranges says so
pub ready-lives : (P : Range → Type 0) (w : World) → ((n : ℕ) → occurs n w.forest ≤ 1) → Lives P w.ranges → ((side : Bool) (range : Range) → P range → IsPoint w (end_of side range)) → IsReady w
ready-lives P w once lives each = record { once = once; points = λ r side p e. go side p (range_at w r) (here r) e }
  where
    here : (r : ℕ) → IfSome (range_at w r) P
    here r = elim (cases_lt r (length w.ranges)) [ inl lt ↦ lives r None lt | inr le ↦ subst (λ o. IfSome o P) (sym (get_or_past w.ranges r None le)) tt ]

    go : (side : Bool) (p : Point) (o : Option Range) → IfSome o P → option_map (end_of side) o ≡ Some p → IsPoint w p
    go side p None l e = absurd (cc e)
    go side p (Some range) l e = let k : end_of side range ≡ p = cc e in subst (IsPoint w) k (each side range l)

-- a sound world is
pub ready-sound : (w : World) → IsSound w → IsReady w
ready-sound w s = ready-lives (IsRange w.forest) w s.forest.once s.ranges (λ side range h. end-point w side range h)

-- so is a world in which both ends of one live range are set to points
pub ready-with_range : (w : World) (r : ℕ) (old new : Range) → range_at w r ≡ Some old → IsReady w → IsPoint w new.start → IsPoint w new.end → IsReady (with_range r new w)
ready-with_range w r old new e k starts ends = record { once = k.once; points = points }
  where
    given : r < length w.ranges
    given = elim (cases_lt r (length w.ranges)) [ inl lt ↦ lt | inr le ↦ absurd (let d : None ≡ Some old = sym (get_or_past w.ranges r None le) ∙ e in cc d) ]

    again : (p : Point) → IsPoint w p → IsPoint (with_range r new w) p
    again p i = record { there = i.there; within = i.within }

    here : (side : Bool) → IsPoint (with_range r new w) (end_of side new)
    here true = again new.start starts
    here false = again new.end ends

    points : (q : ℕ) (side : Bool) (p : Point) → end_at (with_range r new w).ranges q side ≡ Some p → IsPoint (with_range r new w) p
    points q side p d =
        elim (same_or r q) [
          | same same_number t ↦
              let i : end_at (with_range r new w).ranges r side ≡ Some p = subst (λ n. end_at (with_range r new w).ranges n side ≡ Some p) (sym same_number) d in
              let j : Some (end_of side new) ≡ Some p = sym (end_at-set w.ranges r side (Some new) given) ∙ i in
              let l : end_of side new ≡ p = cc j in
              subst (IsPoint (with_range r new w)) l (here side)
          | apart ne t ↦ again p (k.points q side p (sym (end_at-other w.ranges r q side (Some new) ne) ∙ d))
        ]

-- What an edit asks for.

-- a node whose kind passes a test is there
pub passes_there : (test : Kind → Bool) (f : Forest Content) (n : ℕ) → kind_passes test f n ≡ true → 0 < occurs n f
passes_there test f n h =
    elim (seen (entry_in f n)) [
      | nothing e ↦ absurd (let k = rw e at h in false≢true k)
      | just a e ↦ occurs-HasNode f n (rw e refl)
    ]

-- a node that may have children has no data
pub holder-no_data : (f : Forest Content) (n : ℕ) → kind_passes may_be_parent f n ≡ true → kind_passes is_character_data f n ≡ false
holder-no_data f n h =
    elim (seen (entry_in f n)) [
      | nothing e ↦ rw e refl
      | just a e ↦ rw e (parent_no_data a.value.label.kind (rw e at h))
    ]

childless-beside : (f g : Forest Content) → Childless (beside f g) → Childless g
childless-beside empty g h = h
childless-beside (node x kids rest) g h = childless-beside rest g h.2

-- trees that may stand beside the others
pub fits-making : (f : Forest Content) (more : ℕ) (w : World) → IsWood (beside w.forest f) more → Fits w (Making f)
fits-making f more w s =
    fits_making f (childless-beside w.forest f (kinds-childless None (beside w.forest f) s.kinds))
    (λ n. let i = s.once n in let t = total-beside (one_at n) w.forest f in omega arith)

-- units of a node with data, from an offset within it
pub fits-splice : (n offset count : ℕ) (added : List ℕ) (w : World) → kind_passes is_character_data w.forest n ≡ true → offset ≤ length (data_of w n) → Fits w (Splice n offset (cut_count (length (data_of w n)) offset count) added)
fits-splice n offset count added w k h =
    fits_splice n offset (cut_count (length (data_of w n)) offset count) added (passes_there is_character_data w.forest n k) k (cut_fits (length (data_of w n)) offset count h)
