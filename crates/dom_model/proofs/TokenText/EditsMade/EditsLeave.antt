-- What primitive edits leave of a world: its trees, its live ranges and the next node number. The edits leave another world where each of
-- them fits, and they leave these as they are there. Iterators, walkers, observers and static ranges are not told by edits.
use Rattle.std.proofs.Common.{◌≡◌, ℕ, List, [], ◌∷◌, ◌++◌, Option, Some, None, refl, ap, sym, ◌∙◌, subst}
use Rattle.dom_model.specs.Definitions.{parent_of, Point, World, Edit, Removal, Insertion, Splice, Parting, Merge, EndSet, Making, RangeMaking, Release, removal_from, parting_from, merge_from, on_world, all_on_world, Trace, begun, doing, IsReady, Fits, AllFit}
use Rattle.dom_model.specs.TokenText.Tokens.{Discard}
use Rattle.dom_model.proofs.TokenText.EditsMade.FittingEdits.{ready-laid, fits-laid, AllFit-append}
pub use Rattle.dom_model.proofs.TokenText.EditsMade.FittingEdits.{laid}

-- the edits fit the first world, and leave the second
pub record Leave (es : List Edit) (w v : World) : Type 0 where
  pub fits : AllFit (laid w) es
  pub left : all_on_world es (laid w) ≡ laid v

-- An edit reads nothing else.

removal-laid : (n : ℕ) (p : Option ℕ) (w : World) → removal_from n p (laid w) ≡ laid (removal_from n p w)
removal-laid n None w = refl
removal-laid n (Some parent) w = refl

parting-laid : (p : Point) (new : ℕ) (parent : Option ℕ) (w : World) → parting_from p new parent (laid w) ≡ laid (parting_from p new parent w)
parting-laid p new None w = refl
parting-laid p new (Some parent) w = refl

merge-laid : (n next : ℕ) (p : Option ℕ) (w : World) → merge_from n next p (laid w) ≡ laid (merge_from n next p w)
merge-laid n next None w = refl
merge-laid n next (Some parent) w = refl

pub edit-laid : (e : Edit) (w : World) → on_world e (laid w) ≡ laid (on_world e w)
edit-laid (Removal n) w = removal-laid n (parent_of w.forest n) w
edit-laid (Insertion n p) w = refl
edit-laid (Splice n offset count units) w = refl
edit-laid (Parting p new) w = parting-laid p new (parent_of w.forest p.node) w
edit-laid (Merge n next) w = merge-laid n next (parent_of w.forest next) w
edit-laid (EndSet r side p) w = refl
edit-laid (Making f) w = refl
edit-laid (RangeMaking r range) w = refl
edit-laid (Release r) w = refl
edit-laid (Discard n) w = refl

pub edits-laid : (es : List Edit) (w : World) → all_on_world es (laid w) ≡ laid (all_on_world es w)
edits-laid [] w = refl
edits-laid (e ∷ es) w = ap (all_on_world es) (edit-laid e w) ∙ edits-laid es (on_world e w)

-- Lists of edits.

pub edits-append : (es fs : List Edit) (w : World) → all_on_world (es ++ fs) w ≡ all_on_world fs (all_on_world es w)
edits-append [] fs w = refl
edits-append (e ∷ es) fs w = edits-append es fs (on_world e w)

pub leave-none : (w v : World) → laid w ≡ laid v → Leave [] w v
leave-none w v e = record { fits = tt; left = e }

pub leave-edit : (e : Edit) (w v : World) → IsReady w → Fits w e → laid (on_world e w) ≡ laid v → Leave (e ∷ []) w v
leave-edit e w v ready fits h = record { fits = (ready-laid w ready, fits-laid w e fits, tt); left = edit-laid e w ∙ h }

pub leave-then : (es fs : List Edit) (w v u : World) → Leave es w v → Leave fs v u → Leave (es ++ fs) w u
leave-then es fs w v u h k = record { fits = AllFit-append es fs (laid w) h.fits (subst (λ x. AllFit x fs) (sym h.left) k.fits); left = edits-append es fs (laid w) ∙ ap (all_on_world fs) h.left ∙ k.left }

-- worlds that are laid alike are left alike
pub leave-alike : (es : List Edit) (w w' v v' : World) → laid w ≡ laid w' → laid v ≡ laid v' → Leave es w v → Leave es w' v'
leave-alike es w w' v v' d e h = record { fits = subst (λ x. AllFit x es) d h.fits; left = ap (all_on_world es) (sym d) ∙ h.left ∙ e }

-- What it says of the world after the edits.

module _ (es : List Edit) (w v : World) (h : Leave es w v) where
  pub leave-laid : laid (all_on_world es w) ≡ laid v
  leave-laid = sym (edits-laid es w) ∙ h.left

  pub leave-forest : (all_on_world es w).forest ≡ v.forest
  leave-forest = ap (λ (x : World). x.forest) leave-laid

  pub leave-ranges : (all_on_world es w).ranges ≡ v.ranges
  leave-ranges = ap (λ (x : World). x.ranges) leave-laid

  pub leave-made : (all_on_world es w).made ≡ v.made
  leave-made = ap (λ (x : World). x.made) leave-laid

-- Sequences of steps.

-- a trace has come to a world, and its edits leave it
pub record Comes (w : World) (t : Trace) (v : World) : Type 0 where
  pub there : t.world ≡ v
  pub left : Leave t.edits w v

-- a step of a trace goes from a world to where the step goes, and its edits with it
abbrev pub Follows : (Trace → Trace) → World → World → Type 0
Follows step v u = (w : World) (es : List Edit) → Leave es w v → Comes w (step (record { world = v; edits = es })) u

pub comes-begun : (w : World) → Comes w (begun w) w
comes-begun w = record { there = refl; left = leave-none w w refl }

pub comes-then : (w : World) (t : Trace) (v u : World) (step : Trace → Trace) → Follows step v u → Comes w t v → Comes w (step t) u
comes-then w t v u step h k = subst (λ x. Comes w (step (record { world = x; edits = t.edits })) u) (sym k.there) (h w t.edits k.left)

pub follows-none : (v : World) → Follows (λ t. t) v v
follows-none v w es h = record { there = refl; left = h }

pub follows-then : (v u x : World) (first second : Trace → Trace) → Follows first v u → Follows second u x → Follows (λ t. second (first t)) v x
follows-then v u x first second h k w es l = comes-then w (first (record { world = v; edits = es })) u x second k (h w es l)

pub follows-doing : (v : World) (step : World → World) (edits_of : World → List Edit) → Leave (edits_of v) v (step v) → Follows (doing step edits_of) v (step v)
follows-doing v step edits_of h w es l = record { there = refl; left = leave-then es (edits_of v) w v (step v) l h }
