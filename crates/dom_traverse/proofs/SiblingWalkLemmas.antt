-- What a course comes to, step by step.
use Rattle.std.proofs.Common.{◌≡◌, ◌≢◌, ℕ, ◌*◌, true, false, if◌then◌else◌, Option, Some, None, refl, ap, sym, ◌∙◌, subst}
use Rattle.dom_model.specs.declared.{Verdict.Verdict, Verdict.TheVariants.Accept, Verdict.TheVariants.Skip, Verdict.TheVariants.Reject}
use Rattle.dom_model.specs.Definitions.{Forest, Grove, HasNode, size, parent_of, IsForest, Filter, verdict_on, Stand, at, leaving, ended, at_or, come_to, up_to_parent}
use Rattle.dom_model.proofs.Traversal.WalksEnd.{Leads-here, LeadsOn-at, LeadsOn-leaving}
use Rattle.dom_traverse.specs.{declared.sibling_walk.Side.Side, declared.sibling_walk.Side.TheVariants.First, declared.sibling_walk.Side.TheVariants.Last, declared.sibling_walk.SiblingWalk.SiblingWalk, SiblingWalks.child_on, SiblingWalks.sibling_on, SiblingWalks.way_into, SiblingWalks.blocks, SiblingWalks.stops, SiblingWalks.come_up_to, SiblingWalks.past_in, SiblingWalks.course_step, SiblingWalks.LeadsTo, SiblingWalks.GoesOnTo}
use Rattle.dom_traverse.proofs.NeighbourLemmas.{first-there, last-there}

module _ {X : Type 0} {g : Grove X} (s : IsForest g) where
  pub child_on-there : (side : Side) (n m : ℕ) → HasNode g.forest n → child_on side g.forest n ≡ Some m → HasNode g.forest m
  child_on-there First n m h e = first-there s n m e
  child_on-there Last n m h e = last-there s n m h e

come_into : (v : Verdict) (n : ℕ) (child : Option ℕ) (onwards : Stand) → v ≢ Accept → come_to v n child onwards ≡ at_or (way_into v child) onwards
come_into Accept n child onwards h = absurd (h refl)
come_into Skip n child onwards h = refl
come_into Reject n child onwards h = refl

module _ {X : Type 0} (f : Forest X) (filter : Filter) (c : SiblingWalk) where
  -- past a node
  pub past-over : (n : ℕ) → blocks c.limit c.root n ≡ true → past_in f filter c n ≡ ended None
  past-over n h = ap (λ v. if v then ended None else at_or (sibling_on c.side f n) (up_to_parent (come_up_to f filter c) (parent_of f n))) h

  past-on : (n : ℕ) → blocks c.limit c.root n ≡ false → past_in f filter c n ≡ at_or (sibling_on c.side f n) (up_to_parent (come_up_to f filter c) (parent_of f n))
  past-on n h = ap (λ v. if v then ended None else at_or (sibling_on c.side f n) (up_to_parent (come_up_to f filter c) (parent_of f n))) h

  pub past-sibling : (n m : ℕ) → blocks c.limit c.root n ≡ false → sibling_on c.side f n ≡ Some m → past_in f filter c n ≡ at m
  past-sibling n m h e = past-on n h ∙ ap (λ (o : Option ℕ). at_or o (up_to_parent (come_up_to f filter c) (parent_of f n))) e

  past-up : (n : ℕ) (p : Option ℕ) → blocks c.limit c.root n ≡ false → sibling_on c.side f n ≡ None → parent_of f n ≡ p → past_in f filter c n ≡ up_to_parent (come_up_to f filter c) p
  past-up n p h e d = past-on n h ∙ ap (λ (o : Option ℕ). at_or o (up_to_parent (come_up_to f filter c) (parent_of f n))) e ∙ ap (up_to_parent (come_up_to f filter c)) d

  pub past-none : (n : ℕ) → blocks c.limit c.root n ≡ false → sibling_on c.side f n ≡ None → parent_of f n ≡ None → past_in f filter c n ≡ ended None
  past-none n h e d = past-up n None h e d

  pub past-stop : (n p : ℕ) → blocks c.limit c.root n ≡ false → sibling_on c.side f n ≡ None → parent_of f n ≡ Some p → stops c.limit f filter c.root c.current p ≡ true → past_in f filter c n ≡ ended None
  past-stop n p h e d k = past-up n (Some p) h e d ∙ ap (λ v. if v then ended None else leaving p) k

  -- up to the parent, and past it
  pub past-parent : (n p : ℕ) → blocks c.limit c.root n ≡ false → sibling_on c.side f n ≡ None → parent_of f n ≡ Some p → stops c.limit f filter c.root c.current p ≡ false → GoesOnTo f filter c (past_in f filter c n) (past_in f filter c p)
  past-parent n p h e d k =
      subst (λ stand. GoesOnTo f filter c stand (past_in f filter c p)) (sym (past-up n (Some p) h e d ∙ ap (λ v. if v then ended None else leaving p) k))
      (LeadsOn-leaving (course_step f filter c) (4 * size f) p (past_in f filter c p) refl)

  -- where the walk already stands
  pub stays : (stand other : Stand) → stand ≡ other → LeadsTo f filter c stand other
  stays stand other e = Leads-here (course_step f filter c) (4 * size f) stand other e

  -- from a node that is not accepted
  into : (n : ℕ) (v : Verdict) (o : Option ℕ) → v ≡ verdict_on f filter n → v ≢ Accept → o ≡ way_into v (child_on c.side f n) → course_step f filter c (at n) ≡ at_or o (past_in f filter c n)
  into n v o e ne d =
      ap (λ w. come_to w n (child_on c.side f n) (past_in f filter c n)) (sym e)
      ∙ come_into v n (child_on c.side f n) (past_in f filter c n) ne
      ∙ ap (λ (i : Option ℕ). at_or i (past_in f filter c n)) (sym d)

  pub goes_into : (n m : ℕ) (v : Verdict) (o : Option ℕ) → v ≡ verdict_on f filter n → v ≢ Accept → o ≡ way_into v (child_on c.side f n) → o ≡ Some m → GoesOnTo f filter c (at n) (at m)
  goes_into n m v o e ne d k = LeadsOn-at (course_step f filter c) (4 * size f) n (at m) (into n v o e ne d ∙ ap (λ (i : Option ℕ). at_or i (past_in f filter c n)) k)

  pub goes_past : (n : ℕ) (v : Verdict) (o : Option ℕ) → v ≡ verdict_on f filter n → v ≢ Accept → o ≡ way_into v (child_on c.side f n) → o ≡ None → GoesOnTo f filter c (at n) (past_in f filter c n)
  goes_past n v o e ne d k = LeadsOn-at (course_step f filter c) (4 * size f) n (past_in f filter c n) (into n v o e ne d ∙ ap (λ (i : Option ℕ). at_or i (past_in f filter c n)) k)

  -- an accepted node ends the walk
  pub accepted-here : (n : ℕ) → verdict_on f filter n ≡ Accept → GoesOnTo f filter c (at n) (ended (Some n))
  accepted-here n e = LeadsOn-at (course_step f filter c) (4 * size f) n (ended (Some n)) (ap (λ w. come_to w n (child_on c.side f n) (past_in f filter c n)) e)
