-- A walk by steps that ends, and what it finds: each step leaves fewer moves, and finds the same.
-- Four moves for each node of the forest are enough for the walks of a tree walker.
use Rattle.std.proofs.Common.{◌≡◌, ℕ, zero, suc, ◌*◌, ◌<◌, ◌==◌, false, Option, None, refl, ap, sym, ◌∙◌, subst, arith}
use Rattle.dom_model.specs.Definitions.{head_of, last_of, Forest, occurs, size, children_of, Filter, Stand, at, leaving, ended, at_or, walked, moves_allowed, parent_step, first_child_step, next_sibling_step, next_step, previous_step, parent_by_steps, first_child_by_steps, next_sibling_by_steps, next_by_steps, previous_by_steps, HasEnded, moves_left, Leads, LeadsOn}
use Rattle.dom_model.proofs.Forests.Totals.{IsOnce}
use Rattle.dom_model.proofs.Traversal.{WalksForward.Finds, EndingWalks.HasEnded-more, WalksMirrored.last_child_step, WalksMirrored.last_child_by_steps, WalksMirrored.previous_sibling_step, WalksMirrored.previous_sibling_by_steps, MovesEnough.moves-bounded, MovesEnough.parent-ends, MovesEnough.parent-enough, MovesEnough.first_child-ends, MovesEnough.first_child-enough, MovesEnough.last_child-ends, MovesEnough.last_child-enough, MovesEnough.next_sibling-ends, MovesEnough.next_sibling-enough, MovesEnough.previous_sibling-ends, MovesEnough.previous_sibling-enough, MovesEnough.next-ends, MovesEnough.next-enough, MovesEnough.previous-ends, MovesEnough.previous-enough}

-- a walk ends with so many moves, and finds
pub record Walks (step : Stand → Stand) (moves : ℕ) (stand : Stand) (found : Option ℕ) : Type 0 where
  pub ends : HasEnded step moves stand
  pub finds : walked step moves stand ≡ found

-- what one more move changes, where the walk ends without it
record OneMore (step : Stand → Stand) (moves : ℕ) (stand : Stand) : Type 0 where
  left : moves_left step (suc moves) stand ≡ moves_left step moves stand
  finds : walked step (suc moves) stand ≡ walked step moves stand

one_more : (step : Stand → Stand) (moves : ℕ) (stand : Stand) → HasEnded step moves stand → OneMore step moves stand
one_more step moves (ended found) h = record { left = refl; finds = refl }
one_more step zero (at n) h = absurd h
one_more step zero (leaving n) h = absurd h
one_more step (suc moves) (at n) h = let i = one_more step moves (step (at n)) h in record { left = ap suc i.left; finds = i.finds }
one_more step (suc moves) (leaving n) h = let i = one_more step moves (step (leaving n)) h in record { left = ap suc i.left; finds = i.finds }

pub Leads-here : (step : Stand → Stand) (moves : ℕ) (stand other : Stand) → stand ≡ other → Leads step moves stand other
Leads-here step moves stand other e =
    record {
      ends = λ h. subst (λ s. HasEnded step moves s) e h;
      finds = λ _. ap (walked step moves) e;
      left = λ _. let i = ap (moves_left step moves) e in omega arith;
    }

pub Leads-then : {step : Stand → Stand} {moves : ℕ} {stand other third : Stand} → Leads step moves stand other → Leads step moves other third → Leads step moves stand third
Leads-then i j =
    record {
      ends = λ h. j.ends (i.ends h);
      finds = λ h. i.finds h ∙ j.finds (i.ends h);
      left = λ h. let a = i.left h in let b = j.left (i.ends h) in omega arith;
    }

pub LeadsOn-then : {step : Stand → Stand} {moves : ℕ} {stand other third : Stand} → LeadsOn step moves stand other → Leads step moves other third → LeadsOn step moves stand third
LeadsOn-then i j = record { leads = Leads-then i.leads j; fewer = λ h. let a = i.fewer h in let b = j.left (i.leads.ends h) in omega arith }

-- a step from a stand, which takes one of the moves
on-next : (step : Stand → Stand) (moves : ℕ) (stand next : Stand) → (HasEnded step (suc moves) stand → HasEnded step moves (step stand)) → walked step (suc moves) stand ≡ walked step moves (step stand) → moves_left step (suc moves) stand ≡ suc (moves_left step moves (step stand)) → step stand ≡ next → LeadsOn step (suc moves) stand next
on-next step moves stand next comes finds left e = record {
  leads = record {
    ends = λ h. HasEnded-more step moves (suc moves) next (there h) (omega arith);
    finds = λ h. finds ∙ ap (walked step moves) e ∙ sym (one_more step moves next (there h)).finds;
    left = λ h. omega (arith, fewer h);
  };
  fewer = fewer;
}
  where
    there : HasEnded step (suc moves) stand → HasEnded step moves next
    there h = subst (λ s. HasEnded step moves s) e (comes h)

    fewer : HasEnded step (suc moves) stand → moves_left step (suc moves) next < moves_left step (suc moves) stand
    fewer h = omega (arith, (one_more step moves next (there h)).left, ap (moves_left step moves) e, left)

pub LeadsOn-at : (step : Stand → Stand) (moves n : ℕ) (next : Stand) → step (at n) ≡ next → LeadsOn step moves (at n) next
LeadsOn-at step zero n next e = record { leads = record { ends = λ h. absurd h; finds = λ h. absurd h; left = λ h. absurd h }; fewer = λ h. absurd h }
LeadsOn-at step (suc moves) n next e = on-next step moves (at n) next (λ h. h) refl refl e

pub LeadsOn-leaving : (step : Stand → Stand) (moves n : ℕ) (next : Stand) → step (leaving n) ≡ next → LeadsOn step moves (leaving n) next
LeadsOn-leaving step zero n next e = record { leads = record { ends = λ h. absurd h; finds = λ h. absurd h; left = λ h. absurd h }; fewer = λ h. absurd h }
LeadsOn-leaving step (suc moves) n next e = on-next step moves (leaving n) next (λ h. h) refl refl e

-- a walk goes on to what it finds
pub Walks-on : {step : Stand → Stand} {moves : ℕ} {stand other : Stand} {found : Option ℕ} → Walks step moves stand found → Leads step moves stand other → Walks step moves other found
Walks-on w i = record { ends = i.ends w.ends; finds = sym (i.finds w.ends) ∙ w.finds }

pub Walks-end : {step : Stand → Stand} {moves : ℕ} {end found : Option ℕ} → Walks step moves (ended end) found → end ≡ found
Walks-end w = w.finds

module _ {X : Type 0} (f : Forest X) (o : IsOnce f) (filter : Filter) (root current : ℕ) (there : 0 < occurs current f) where
  enough : (step : Stand → Stand) (stand : Stand) (found : Option ℕ) → HasEnded step (moves_allowed f filter root current) stand → Finds step stand (moves_allowed f filter root current) found → Walks step (4 * size f) stand found
  enough step stand found h i =
      let bound = moves-bounded f filter root current in
      record { ends = HasEnded-more step (moves_allowed f filter root current) (4 * size f) stand h bound; finds = i.by (4 * size f) bound }

  pub parent-walks : Walks (parent_step f filter root current) (4 * size f) (leaving current) (parent_by_steps f filter root current)
  parent-walks = enough (parent_step f filter root current) (leaving current) (parent_by_steps f filter root current) (parent-ends f o filter root current there) (parent-enough f o filter root current there)

  pub first_child-walks : Walks (first_child_step f filter root current) (4 * size f) (at_or (head_of (children_of f current)) (ended None)) (first_child_by_steps f filter root current)
  first_child-walks =
      enough (first_child_step f filter root current) (at_or (head_of (children_of f current)) (ended None)) (first_child_by_steps f filter root current)
      (first_child-ends f o filter root current there) (first_child-enough f o filter root current there)

  pub last_child-walks : Walks (last_child_step f filter root current) (4 * size f) (at_or (last_of (children_of f current)) (ended None)) (last_child_by_steps f filter root current)
  last_child-walks =
      enough (last_child_step f filter root current) (at_or (last_of (children_of f current)) (ended None)) (last_child_by_steps f filter root current)
      (last_child-ends f o filter root current there) (last_child-enough f o filter root current there)

  pub next_sibling-walks : (current == root) ≡ false → Walks (next_sibling_step f filter root current) (4 * size f) (leaving current) (next_sibling_by_steps f filter root current)
  next_sibling-walks off =
      enough (next_sibling_step f filter root current) (leaving current) (next_sibling_by_steps f filter root current)
      (next_sibling-ends f o filter root current there) (next_sibling-enough f o filter root current there off)

  pub previous_sibling-walks : (current == root) ≡ false → Walks (previous_sibling_step f filter root current) (4 * size f) (leaving current) (previous_sibling_by_steps f filter root current)
  previous_sibling-walks off =
      enough (previous_sibling_step f filter root current) (leaving current) (previous_sibling_by_steps f filter root current)
      (previous_sibling-ends f o filter root current there) (previous_sibling-enough f o filter root current there off)

  pub next-walks : Walks (next_step f filter root current) (4 * size f) (at_or (head_of (children_of f current)) (leaving current)) (next_by_steps f filter root current)
  next-walks =
      enough (next_step f filter root current) (at_or (head_of (children_of f current)) (leaving current)) (next_by_steps f filter root current)
      (next-ends f o filter root current there) (next-enough f o filter root current there)

  pub previous-walks : (current == root) ≡ false → Walks (previous_step f filter root current) (4 * size f) (leaving current) (previous_by_steps f filter root current)
  previous-walks off =
      enough (previous_step f filter root current) (leaving current) (previous_by_steps f filter root current)
      (previous-ends f o filter root current there) (previous-enough f o filter root current there off)
