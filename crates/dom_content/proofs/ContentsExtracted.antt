-- All that extracting comes to, of what follows the definition.
use Rattle.std.proofs.Common.{◌≡◌, ℕ, None, Result, Ok, Err, IfOk, OnOk, sym, subst}
use Rattle.dom_model.specs.Definitions.{check_extract, extract}
use Rattle.dom_edit.specs.{declared.world.World.World, Whole.IsWhole, Whole.Follows, Whole.unwatched}
use Rattle.dom_content.specs.LeftTokens.{HoldsBetween, MovesBetween, Extracted}
use Rattle.dom_content.proofs.{ContentsLeft.left-extracted, ContentsLeft.held-extracted, ContentsLeft.moved-extracted, ContentsMarked.markers-extracted}

module _ (old new : World) (r : ℕ) (before : IsWhole old) (after : IsWhole new) (allowed : check_extract r (unwatched old) ≡ None) where
  -- of a fragment
  pub told-fragment : (fragment : ℕ) → fragment ≡ old.tree.made → Follows old new (extract r) → Extracted old new r fragment
  told-fragment fragment number f = record {
    number = number;
    extracted = f;
    markers = markers-extracted old new r before after allowed f;
    left = left-extracted old new r before allowed f;
    held = subst (λ id. HoldsBetween old new r id) (sym number) (held-extracted old new r before allowed f);
    moved = subst (λ id. MovesBetween old new r id) (sym number) (moved-extracted old new r before allowed f);
  }

  -- of a fragment, unless memory was wanting
  pub told-result : {E : Type 0} (result : Result ℕ E) → IfOk result (λ id. id ≡ old.tree.made) → OnOk result (Follows old new (extract r))
      → IfOk result (Extracted old new r)
  told-result (Ok fragment) number f = told-fragment fragment number f
  told-result (Err e) number f = tt
