-- Where few numbers were given out, and few nodes are held, there is room for copies.
use Rattle.std.proofs.Common.{ℕ, ◌+◌, ◌*◌, ◌<◌, ◌≤◌, Bool, Ok, Err, arith}
use Rattle.dom_model.specs.Definitions.{Forest, size, Content, original, extract, clone_contents, Outcome, surround}
use Rattle.dom_model.proofs.Counting.{CountsOfContents.size-original, CountsOfExtraction.IsGrownTo, CountsOfExtraction.extract-grown, CountsOfExtraction.surround-to, CopiesOfContents.clone_contents-grown, NumbersKept.in_order}
use Rattle.dom_edit.specs.{declared.world.World.World, Whole.IsWhole, Whole.unwatched}
use Rattle.dom_edit.proofs.RemoveLemmas.{sound-unwatched}
use Rattle.dom_wrap.specs.Outcomes.{world_after_outcome}

pub room-copy_few : (made : ℕ) (deep : Bool) (n : ℕ) (f : Forest Content) → made < 1000 → size f < 1000 → made + size (original deep n f) ≤ 4294967295
room-copy_few made deep n f few_made few_live = let s = size-original deep n f in omega (arith, s, few_made, few_live)

module _ (v : World) (r : ℕ) (made : v.tree.made < 1000) (live : size v.tree.forest < 1000) where
  pub room-extract_few : (extract r (unwatched v)).made ≤ 4294967295
  room-extract_few = let g = (extract-grown r (unwatched v)).most in omega (arith, g, made, live)

  pub room-contents_few : IsWhole v → (clone_contents r (unwatched v)).made ≤ 4294967295
  room-contents_few whole = let g = (clone_contents-grown r (unwatched v) (in_order (unwatched v) (sound-unwatched v whole))).most in omega (arith, g, made, live)

  pub room-surround_few : (n : ℕ) → (world_after_outcome (surround r n (unwatched v)) (unwatched v)).made ≤ 4294967295
  room-surround_few n = let g = left-grown (surround r n (unwatched v)) (surround-to r n (unwatched v)) in omega (arith, g, made, live)
    where
      left-grown : (o : Outcome) → IsGrownTo (2 * size v.tree.forest + 4) (unwatched v) o → (world_after_outcome o (unwatched v)).made ≤ v.tree.made + (2 * size v.tree.forest + 4)
      left-grown (Ok w) g = g.most
      left-grown (Err e) g = omega arith
