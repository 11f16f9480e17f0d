-- Steps in turn, made one after another.
use Rattle.std.proofs.Common.{arith, ◌≡◌, ℕ, Bool, false, zero, suc, ◌+◌, ◌<◌, List, [], ◌∷◌, ◌++◌, length, take, drop, slice_set, slice_index_or, Option, Some, None, is_some, IfSome, true, refl, ap, sym, subst, ◌∙◌}
use Rattle.std.proofs.lemmas.List.{length-set, get_or-set_same}
use Rattle.dom_model.specs.Definitions.{Command, Bounds, answer}
use Rattle.dom_model.specs.Worlds.World as model
use Rattle.dom_model.specs.Commands.Reply as model_reply
use Rattle.dom_edit.specs.{declared.world.World.World, Whole.Shows}
use Rattle.dom_commands.specs.{declared.brief.Brief.Brief, declared.reply.Reply.Reply, Brief.reply_of, Views.reply_view}
use Rattle.dom_session.specs.{SessionViews.IsStep, Neighbours.laid_over, StepsInTurn.Steps, StepsInTurn.node_found, StepsInTurn.refused_or, StepsInTurn.no_such_object, StepsInTurn.then_steps, StepsInTurn.steps_after, StepsInTurn.steps_in_turn, StepsInTurn.last_view, StepsInTurn.AreMade}
use Rattle.dom_session.specs.declared.steps.StepsMade.{StepsMade}
use Rattle.dom_session.proofs.{LaidOverLemmas.laid_over-set, LaidOverLemmas.laid_over-all, TraversalSteps.held-then}

-- The steps that are left, after some that each found a node.
pub record IsStepping (b : Bounds) (c : Command) (w : model.World) (old : List ℕ) (here : World) (now : List ℕ) (count : ℕ) (last : Option model_reply.Reply) : Type 0 where
  pub at : model.World
  pub left : ℕ
  pub shows : Shows here at
  pub room : count + left ≡ length now
  pub same : length now ≡ length old
  pub laid : laid_over (steps_after b c (length old) None w).nodes old ≡ take count now ++ laid_over (steps_after b c left last at).nodes (drop count now)
  pub long : length (steps_after b c (length old) None w).nodes ≡ count + length (steps_after b c left last at).nodes
  pub last_is : (steps_after b c (length old) None w).last ≡ (steps_after b c left last at).last
  pub world_is : (steps_after b c (length old) None w).world ≡ (steps_after b c left last at).world

abbrev pub made_by : ℕ → Option Brief → StepsMade
made_by count last = record { count = count; last = last }

-- an object that moves is still there
held-inside : {A : Type 0} (xs : List (Option A)) (i : ℕ) → is_some (slice_index_or xs i None) ≡ true → i < length xs
held-inside [] i h = absurd (cc h)
held-inside (x ∷ xs) zero h = omega arith
held-inside (x ∷ xs) (suc i) h = omega (arith, held-inside xs i h)

pub held-moved : {A : Type 0} (xs ys : List (Option A)) (i : ℕ) (change : A → A) → is_some (slice_index_or xs i None) ≡ true → IfSome (slice_index_or xs i None) (λ a. ys ≡ slice_set xs i (Some (change a))) → is_some (slice_index_or ys i None) ≡ true
held-moved xs ys i change held moved =
    held-then (slice_index_or xs i None) held (λ a is.
    let e = rw is at moved in
    let there : i < length xs = held-inside xs i held in
    rw e (ap is_some (get_or-set_same xs i (Some (change a)) None there)))

-- a step asks for no bounds
abbrev pub any_bounds : Bounds
any_bounds = record { numbers = 0; line = 0 }

abbrev pub steps : List ℕ → Option model_reply.Reply → model.World → Steps
steps nodes last w = record { nodes = nodes; last = last; world = w }

module _ (b : Bounds) (c : Command) (w : model.World) (old : List ℕ) where
  pub stepping-first : (v : World) → Shows v w → IsStepping b c w old v old 0 None
  stepping-first v s = record {
    at = w;
    left = length old;
    shows = s;
    room = omega arith;
    same = refl;
    laid = refl;
    long = omega arith;
    last_is = refl;
    world_is = refl;
  }

  module _ (taken : model_reply.is_refusal (answer b w c).reply ≡ false) where
    -- a command that is not refused
    pub in-turn : steps_in_turn b c (length old) w ≡ steps_after b c (length old) None w
    in-turn = ap (λ (q : Bool). refused_or q (answer b w c) (steps_after b c (length old) None w)) taken

    made-taken : (v : World) (made : StepsMade) (now : List ℕ) → AreMade (steps_after b c (length old) None w) v made old now → AreMade (steps_in_turn b c (length old) w) v made old now
    made-taken v made now m = subst (λ (q : Steps). AreMade q v made old now) (sym in-turn) m

  -- a command that is refused
  pub made-refused : (v : World) → Shows v w → IsStep v v b c (reply_of no_such_object) → AreMade (steps_in_turn b c (length old) w) v (made_by 0 (Some no_such_object)) old old
  made-refused v s step =
      let e : steps_in_turn b c (length old) w ≡ steps [] (Some (answer b w c).reply) (answer b w c).world =
      ap (λ (q : Bool). refused_or q (answer b w c) (steps_after b c (length old) None w)) (ap model_reply.is_refusal (sym (step.reply_is w s)))
      in
      subst (λ (q : Steps). AreMade q v (made_by 0 (Some no_such_object)) old old) (sym e)
      (record {
        nodes_are = sym (laid_over-all old 0);
        count_is = refl;
        last_is = ap Some (step.reply_is w s);
        world_is = step.world_is w s;
      })

  -- the steps from a step on that found a node, and from one that found none
  going : (n m : ℕ) (last : Option model_reply.Reply) (at : model.World) (r : model_reply.Reply) → r ≡ (answer b at c).reply → node_found r ≡ Some m
      → steps_after b c (suc n) last at ≡ then_steps (answer b at c) (Some m) (steps_after b c n (Some r) (answer b at c).world)
  going n m last at r is found =
      ap (λ (o : Option ℕ). then_steps (answer b at c) o (steps_after b c n (Some (answer b at c).reply) (answer b at c).world)) (ap node_found (sym is) ∙ found)
      ∙ ap (λ (q : model_reply.Reply). then_steps (answer b at c) (Some m) (steps_after b c n (Some q) (answer b at c).world)) (sym is)

  ending : (n : ℕ) (last : Option model_reply.Reply) (at : model.World) (r : model_reply.Reply) → r ≡ (answer b at c).reply → node_found r ≡ None
      → steps_after b c (suc n) last at ≡ steps [] (Some r) (answer b at c).world
  ending n last at r is found =
      ap (λ (o : Option ℕ). then_steps (answer b at c) o (steps_after b c n (Some (answer b at c).reply) (answer b at c).world)) (ap node_found (sym is) ∙ found)
      ∙ ap (λ (q : model_reply.Reply). steps [] (Some q) (answer b at c).world) (sym is)

  module _ (here : World) (now : List ℕ) (count : ℕ) (last : Option model_reply.Reply) (s : IsStepping b c w old here now count last) where
    pub stepping-next : (new : World) (r : Reply) (m : ℕ) → IsStep here new b c r → node_found (reply_view r) ≡ Some m → count < length now → IsStepping b c w old new (slice_set now count m) (count + 1) (Some (reply_view r))
    stepping-next new r m step found inside = go s.left s.room s.laid s.long s.last_is s.world_is
      where
        go : (left : ℕ) → count + left ≡ length now
            → laid_over (steps_after b c (length old) None w).nodes old ≡ take count now ++ laid_over (steps_after b c left last s.at).nodes (drop count now)
            → length (steps_after b c (length old) None w).nodes ≡ count + length (steps_after b c left last s.at).nodes
            → (steps_after b c (length old) None w).last ≡ (steps_after b c left last s.at).last
            → (steps_after b c (length old) None w).world ≡ (steps_after b c left last s.at).world
            → IsStepping b c w old new (slice_set now count m) (count + 1) (Some (reply_view r))
        go zero room laid long last_is world_is = absurd (omega (arith, room, inside))
        go (suc n) room laid long last_is world_is =
            let e = going n m last s.at (reply_view r) (step.reply_is s.at s.shows) found in
            let rest : Steps = steps_after b c n (Some (reply_view r)) (answer b s.at c).world in
            record {
              at = (answer b s.at c).world;
              left = n;
              shows = step.world_is s.at s.shows;
              room = rw (length-set now count m) (omega (arith, room));
              same = length-set now count m ∙ s.same;
              laid = laid ∙ ap (λ (q : Steps). take count now ++ laid_over q.nodes (drop count now)) e ∙ laid_over-set m rest.nodes now count inside;
              long = omega (arith, long, ap (λ (q : Steps). length q.nodes) e);
              last_is = last_is ∙ ap (λ (q : Steps). q.last) e;
              world_is = world_is ∙ ap (λ (q : Steps). q.world) e;
            }

    pub made-ended : (taken : model_reply.is_refusal (answer b w c).reply ≡ false) (new : World) (r : Brief) → IsStep here new b c (reply_of r) → node_found (reply_view (reply_of r)) ≡ None → count < length now → AreMade (steps_in_turn b c (length old) w) new (made_by count (Some r)) old now
    made-ended taken new r step found inside = made-taken taken new (made_by count (Some r)) now (go s.left s.room s.laid s.long s.last_is s.world_is)
      where
        go : (left : ℕ) → count + left ≡ length now
            → laid_over (steps_after b c (length old) None w).nodes old ≡ take count now ++ laid_over (steps_after b c left last s.at).nodes (drop count now)
            → length (steps_after b c (length old) None w).nodes ≡ count + length (steps_after b c left last s.at).nodes
            → (steps_after b c (length old) None w).last ≡ (steps_after b c left last s.at).last
            → (steps_after b c (length old) None w).world ≡ (steps_after b c left last s.at).world
            → AreMade (steps_after b c (length old) None w) new (made_by count (Some r)) old now
        go zero room laid long last_is world_is = absurd (omega (arith, room, inside))
        go (suc n) room laid long last_is world_is =
            let e = ending n last s.at (reply_view (reply_of r)) (step.reply_is s.at s.shows) found in
            record {
              nodes_are = sym (laid ∙ ap (λ (q : Steps). take count now ++ laid_over q.nodes (drop count now)) e ∙ laid_over-all now count);
              count_is = omega (arith, long, ap (λ (q : Steps). length q.nodes) e);
              last_is = sym (last_is ∙ ap (λ (q : Steps). q.last) e);
              world_is = subst (λ (q : model.World). Shows new q) (sym (world_is ∙ ap (λ (q : Steps). q.world) e)) (step.world_is s.at s.shows);
            }

    pub made-full : (taken : model_reply.is_refusal (answer b w c).reply ≡ false) (made : Option Brief) → last_view made ≡ last → count ≡ length now → AreMade (steps_in_turn b c (length old) w) here (made_by count made) old now
    made-full taken made is full = made-taken taken here (made_by count made) now (go s.left s.room s.laid s.long s.last_is s.world_is)
      where
        go : (left : ℕ) → count + left ≡ length now
            → laid_over (steps_after b c (length old) None w).nodes old ≡ take count now ++ laid_over (steps_after b c left last s.at).nodes (drop count now)
            → length (steps_after b c (length old) None w).nodes ≡ count + length (steps_after b c left last s.at).nodes
            → (steps_after b c (length old) None w).last ≡ (steps_after b c left last s.at).last
            → (steps_after b c (length old) None w).world ≡ (steps_after b c left last s.at).world
            → AreMade (steps_after b c (length old) None w) here (made_by count made) old now
        go (suc n) room laid long last_is world_is = absurd (omega (arith, room, full))
        go zero room laid long last_is world_is = record {
          nodes_are = sym (laid ∙ laid_over-all now count);
          count_is = omega (arith, long);
          last_is = is ∙ sym last_is;
          world_is = subst (λ (q : model.World). Shows here q) (sym world_is) s.shows;
        }
