-- The steps to the parent, and to the previous node; and the courses of the other moves.
use Rattle.std.proofs.Common.{◌≡◌, ℕ, ◌*◌, ◌<◌, ◌==◌, true, false, if◌then◌else◌, Option, Some, None, refl, ap, sym, ◌∙◌, subst, arith, inl, inr, ◌⊎◌}
use Rattle.std.proofs.lemmas.Bool.{false≢true}
use Rattle.dom_model.specs.declared.{Verdict.Verdict, Verdict.TheVariants.Accept, Verdict.TheVariants.Skip, Verdict.TheVariants.Reject}
use Rattle.dom_model.specs.Definitions.{head_of, last_of, Forest, occurs, size, children_of, parent_of, previous_of, Filter, is_accept, is_reject, verdict_on, accepts, Stand, at, leaving, ended, at_or, come_back_to, up_to_parent, parent_arrived, parent_step, previous_arrived, up_unless_root, back_past_node, previous_step, next_by_steps, first_child_step, next_sibling_step, next_step, found_by_steps, Leads, LeadsOn}
use Rattle.dom_model.proofs.Forests.Totals.{IsOnce}
use Rattle.dom_model.proofs.Traversal.{EndingWalks.HasEnded-agree, WalksMirrored.walked-agree, WalksMirrored.last_child_step, WalksMirrored.previous_sibling_step, WalksMirrored.child_steps-mirrored, WalksMirrored.sibling_steps-mirrored, WalksEnd.Walks, WalksEnd.Walks-on, WalksEnd.Leads-here, WalksEnd.Leads-then, WalksEnd.LeadsOn-at, WalksEnd.LeadsOn-leaving, WalksEnd.first_child-walks, WalksEnd.last_child-walks, WalksEnd.next_sibling-walks, WalksEnd.previous_sibling-walks, WalksEnd.next-walks}
use Rattle.dom_traverse.specs.{declared.sibling_walk.Side.Side, declared.sibling_walk.Side.TheVariants.First, declared.sibling_walk.Side.TheVariants.Last, declared.sibling_walk.Limit.TheVariants.Root, declared.sibling_walk.Limit.TheVariants.Current, declared.sibling_walk.Limit.TheVariants.Accepted, declared.sibling_walk.SiblingWalk.SiblingWalk, SiblingWalks.child_move, SiblingWalks.sibling_move, SiblingWalks.child_on, SiblingWalks.past_in, SiblingWalks.course_step, Ends.Descends, Ends.begun, Ends.down, Ends.IsEnd}

-- a walk by other steps that go the same way
Walks-agree : (s t : Stand → Stand) → ((stand : Stand) → s stand ≡ t stand) → (moves : ℕ) (stand : Stand) (found : Option ℕ) → Walks s moves stand found → Walks t moves stand found
Walks-agree s t e moves stand found w = record { ends = HasEnded-agree s t e moves stand w.ends; finds = sym (walked-agree s t e moves stand) ∙ w.finds }

Walks-found : {step : Stand → Stand} {moves : ℕ} {stand : Stand} {found other : Option ℕ} → Walks step moves stand found → found ≡ other → Walks step moves stand other
Walks-found w e = record { ends = w.ends; finds = w.finds ∙ e }

module _ {X : Type 0} (f : Forest X) (o : IsOnce f) (filter : Filter) (root current : ℕ) (there : 0 < occurs current f) where
  first_steps : (stand : Stand) → first_child_step f filter root current stand ≡ course_step f filter (record { root = root; current = current; side = First; limit = Current }) stand
  first_steps (at n) = refl
  first_steps (leaving n) = refl
  first_steps (ended found) = refl

  last_steps : (stand : Stand) → last_child_step f filter root current stand ≡ course_step f filter (record { root = root; current = current; side = Last; limit = Current }) stand
  last_steps (at n) = refl
  last_steps (leaving n) = refl
  last_steps (ended found) = refl

  next_sibling_steps : (stand : Stand) → next_sibling_step f filter root current stand ≡ course_step f filter (record { root = root; current = current; side = First; limit = Accepted }) stand
  next_sibling_steps (at n) = refl
  next_sibling_steps (leaving n) = refl
  next_sibling_steps (ended found) = refl

  previous_sibling_steps : (stand : Stand) → previous_sibling_step f filter root current stand ≡ course_step f filter (record { root = root; current = current; side = Last; limit = Accepted }) stand
  previous_sibling_steps (at n) = refl
  previous_sibling_steps (leaving n) = refl
  previous_sibling_steps (ended found) = refl

  next_steps : (stand : Stand) → next_step f filter root current stand ≡ course_step f filter (record { root = root; current = current; side = First; limit = Root }) stand
  next_steps (at n) = refl
  next_steps (leaving n) = refl
  next_steps (ended found) = refl

  pub child-walks : (side : Side) → Walks (course_step f filter (record { root = root; current = current; side = side; limit = Current })) (4 * size f) (at_or (child_on side f current) (ended None)) (found_by_steps (child_move side) f filter root current)
  child-walks First = Walks-agree (first_child_step f filter root current) (course_step f filter (record { root = root; current = current; side = First; limit = Current })) first_steps (4 * size f) (at_or (head_of (children_of f current)) (ended None)) (found_by_steps (child_move First) f filter root current) (first_child-walks f o filter root current there)
  child-walks Last =
      Walks-agree (last_child_step f filter root current) (course_step f filter (record { root = root; current = current; side = Last; limit = Current })) last_steps (4 * size f) (at_or (last_of (children_of f current)) (ended None)) (found_by_steps (child_move Last) f filter root current)
      (Walks-found (last_child-walks f o filter root current there) (sym (child_steps-mirrored f o filter root current)))

  leave : (c : SiblingWalk) (found : Option ℕ) → Walks (course_step f filter c) (4 * size f) (leaving current) found → Walks (course_step f filter c) (4 * size f) (past_in f filter c current) found
  leave c found w = Walks-on w (LeadsOn-leaving (course_step f filter c) (4 * size f) current (past_in f filter c current) refl).leads

  pub sibling-walks : (side : Side) → (current == root) ≡ false → Walks (course_step f filter (record { root = root; current = current; side = side; limit = Accepted })) (4 * size f) (past_in f filter (record { root = root; current = current; side = side; limit = Accepted }) current) (found_by_steps (sibling_move side) f filter root current)
  sibling-walks First off =
      leave (record { root = root; current = current; side = First; limit = Accepted }) (found_by_steps (sibling_move First) f filter root current)
      (Walks-agree (next_sibling_step f filter root current) (course_step f filter (record { root = root; current = current; side = First; limit = Accepted })) next_sibling_steps (4 * size f) (leaving current) (found_by_steps (sibling_move First) f filter root current) (next_sibling-walks f o filter root current there off))
  sibling-walks Last off =
      leave (record { root = root; current = current; side = Last; limit = Accepted }) (found_by_steps (sibling_move Last) f filter root current)
      (Walks-agree (previous_sibling_step f filter root current) (course_step f filter (record { root = root; current = current; side = Last; limit = Accepted })) previous_sibling_steps (4 * size f) (leaving current) (found_by_steps (sibling_move Last) f filter root current)
      (Walks-found (previous_sibling-walks f o filter root current there off) (sym (sibling_steps-mirrored f o filter root current))))

  pub following-walks : Walks (course_step f filter (record { root = root; current = current; side = First; limit = Root })) (4 * size f) (at_or (head_of (children_of f current)) (leaving current)) (next_by_steps f filter root current)
  following-walks = Walks-agree (next_step f filter root current) (course_step f filter (record { root = root; current = current; side = First; limit = Root })) next_steps (4 * size f) (at_or (head_of (children_of f current)) (leaving current)) (next_by_steps f filter root current) (next-walks f o filter root current there)

  pub following-leave : head_of (children_of f current) ≡ None → Walks (course_step f filter (record { root = root; current = current; side = First; limit = Root })) (4 * size f) (past_in f filter (record { root = root; current = current; side = First; limit = Root }) current) (next_by_steps f filter root current)
  following-leave e =
      leave (record { root = root; current = current; side = First; limit = Root }) (next_by_steps f filter root current)
      (subst (λ (i : Option ℕ). Walks (course_step f filter (record { root = root; current = current; side = First; limit = Root })) (4 * size f) (at_or i (leaving current)) (next_by_steps f filter root current)) e following-walks)

-- The parent.
module _ {X : Type 0} (f : Forest X) (filter : Filter) (root current : ℕ) (moves : ℕ) where
  up : (n : ℕ) (p : Option ℕ) → (n == root) ≡ false → parent_of f n ≡ p → parent_step f filter root current (leaving n) ≡ up_to_parent (parent_arrived f filter root current) p
  up n p h e = ap (λ v. if v then ended None else up_to_parent (parent_arrived f filter root current) (parent_of f n)) h ∙ ap (up_to_parent (parent_arrived f filter root current)) e

  pub parent-top : (n : ℕ) → (n == root) ≡ true → LeadsOn (parent_step f filter root current) moves (leaving n) (ended None)
  parent-top n h = LeadsOn-leaving (parent_step f filter root current) moves n (ended None) (ap (λ v. if v then ended None else up_to_parent (parent_arrived f filter root current) (parent_of f n)) h)

  pub parent-none : (n : ℕ) → (n == root) ≡ false → parent_of f n ≡ None → LeadsOn (parent_step f filter root current) moves (leaving n) (ended None)
  parent-none n h e = LeadsOn-leaving (parent_step f filter root current) moves n (ended None) (up n None h e)

  pub parent-accepted : (n p : ℕ) → (n == root) ≡ false → parent_of f n ≡ Some p → accepts f filter p ≡ true → LeadsOn (parent_step f filter root current) moves (leaving n) (ended (Some p))
  parent-accepted n p h e a = LeadsOn-leaving (parent_step f filter root current) moves n (ended (Some p)) (up n (Some p) h e ∙ ap (λ v. if v then ended (Some p) else leaving p) a)

  pub parent-on : (n p : ℕ) → (n == root) ≡ false → parent_of f n ≡ Some p → accepts f filter p ≡ false → LeadsOn (parent_step f filter root current) moves (leaving n) (leaving p)
  parent-on n p h e a = LeadsOn-leaving (parent_step f filter root current) moves n (leaving p) (up n (Some p) h e ∙ ap (λ v. if v then ended (Some p) else leaving p) a)

-- Backwards.
come_back_down : (v : Verdict) (n m : ℕ) (onwards : Stand) → is_reject v ≡ false → come_back_to v n (Some m) onwards ≡ at m
come_back_down Accept n m onwards h = refl
come_back_down Skip n m onwards h = refl
come_back_down Reject n m onwards h = absurd (false≢true (sym h))

come_back_accepted : (v : Verdict) (n : ℕ) (child : Option ℕ) (onwards : Stand) → (is_reject v ≡ true) ⊎ (child ≡ None) → is_accept v ≡ true → come_back_to v n child onwards ≡ ended (Some n)
come_back_accepted Accept n child onwards (inl h) a = absurd (false≢true h)
come_back_accepted Accept n child onwards (inr e) a = ap (λ (i : Option ℕ). at_or i (ended (Some n))) e
come_back_accepted Skip n child onwards h a = absurd (false≢true a)
come_back_accepted Reject n child onwards h a = absurd (false≢true a)

come_back_past : (v : Verdict) (n : ℕ) (child : Option ℕ) (onwards : Stand) → (is_reject v ≡ true) ⊎ (child ≡ None) → is_accept v ≡ false → come_back_to v n child onwards ≡ onwards
come_back_past Accept n child onwards h a = absurd (false≢true (sym a))
come_back_past Skip n child onwards (inl h) a = absurd (false≢true h)
come_back_past Skip n child onwards (inr e) a = ap (λ (i : Option ℕ). at_or i onwards) e
come_back_past Reject n child onwards h a = refl

module _ {X : Type 0} (f : Forest X) (filter : Filter) (root current : ℕ) (moves : ℕ) where
  abbrev pub GoesBack : Stand → Stand → Type 0
  GoesBack stand other = LeadsOn (previous_step f filter root current) moves stand other

  -- down to the end of a node
  descended : (n e : ℕ) → Descends f filter n e → Leads (previous_step f filter root current) moves (at n) (at e)
  descended n _ begun = Leads-here (previous_step f filter root current) moves (at n) (at n) refl
  descended n _ (down m e d h k) =
      Leads-then (descended n m d)
      (LeadsOn-at (previous_step f filter root current) moves m (at e)
      (ap (λ (i : Option ℕ). come_back_to (verdict_on f filter m) m i (back_past_node f filter root current m)) k ∙ come_back_down (verdict_on f filter m) m e (back_past_node f filter root current m) h)).leads

  end_accepted : (e : ℕ) → IsEnd f filter e → accepts f filter e ≡ true → GoesBack (at e) (ended (Some e))
  end_accepted e h a =
      LeadsOn-at (previous_step f filter root current) moves e (ended (Some e)) (come_back_accepted (verdict_on f filter e) e (last_of (children_of f e)) (back_past_node f filter root current e) h a)

  end_past : (e : ℕ) → IsEnd f filter e → accepts f filter e ≡ false → GoesBack (at e) (back_past_node f filter root current e)
  end_past e h a =
      LeadsOn-at (previous_step f filter root current) moves e (back_past_node f filter root current e) (come_back_past (verdict_on f filter e) e (last_of (children_of f e)) (back_past_node f filter root current e) h a)

  back_to : (n s : ℕ) → previous_of f n ≡ Some s → back_past_node f filter root current n ≡ at s
  back_to n s e = ap (λ (i : Option ℕ). at_or i (up_unless_root f filter root current n)) e

  -- back to the end of the previous sibling, where it is accepted, and where it is not
  pub back-accepted : (n s e : ℕ) → previous_of f n ≡ Some s → Descends f filter s e → IsEnd f filter e → accepts f filter e ≡ true → Leads (previous_step f filter root current) moves (back_past_node f filter root current n) (ended (Some e))
  back-accepted n s e k d h a =
      subst (λ stand. Leads (previous_step f filter root current) moves stand (ended (Some e))) (sym (back_to n s k)) (Leads-then (descended s e d) (end_accepted e h a).leads)

  pub back-on : (n s e : ℕ) → previous_of f n ≡ Some s → Descends f filter s e → IsEnd f filter e → accepts f filter e ≡ false → GoesBack (back_past_node f filter root current n) (back_past_node f filter root current e)
  back-on n s e k d h a =
      subst (λ stand. GoesBack stand (back_past_node f filter root current e)) (sym (back_to n s k)) (Leads-before (descended s e d) (end_past e h a))
    where
      Leads-before : {stand other third : Stand} → Leads (previous_step f filter root current) moves stand other → GoesBack other third → GoesBack stand third
      Leads-before i j = record { leads = Leads-then i j.leads; fewer = λ h. let a = i.left h in let b = j.fewer (i.ends h) in omega arith }

  up_over : (n : ℕ) (p : Option ℕ) → previous_of f n ≡ None → (n == root) ≡ false → parent_of f n ≡ p → back_past_node f filter root current n ≡ up_to_parent (previous_arrived f filter root current) p
  up_over n p e h k =
      ap (λ (i : Option ℕ). at_or i (up_unless_root f filter root current n)) e
      ∙ ap (λ v. if v then ended None else up_to_parent (previous_arrived f filter root current) (parent_of f n)) h
      ∙ ap (up_to_parent (previous_arrived f filter root current)) k

  -- at the root, with nothing before it
  pub back-root : (n : ℕ) → previous_of f n ≡ None → (n == root) ≡ true → back_past_node f filter root current n ≡ ended None
  back-root n e h =
      ap (λ (i : Option ℕ). at_or i (up_unless_root f filter root current n)) e ∙ ap (λ v. if v then ended None else up_to_parent (previous_arrived f filter root current) (parent_of f n)) h

  pub back-none : (n : ℕ) → previous_of f n ≡ None → (n == root) ≡ false → parent_of f n ≡ None → back_past_node f filter root current n ≡ ended None
  back-none n e h k = up_over n None e h k

  pub back-parent : (n p : ℕ) → previous_of f n ≡ None → (n == root) ≡ false → parent_of f n ≡ Some p → accepts f filter p ≡ true → back_past_node f filter root current n ≡ ended (Some p)
  back-parent n p e h k a = up_over n (Some p) e h k ∙ ap (λ v. if v then ended (Some p) else (if p == root then ended None else leaving p)) a

  pub back-parent_root : (n p : ℕ) → previous_of f n ≡ None → (n == root) ≡ false → parent_of f n ≡ Some p → accepts f filter p ≡ false → (p == root) ≡ true → back_past_node f filter root current n ≡ ended None
  back-parent_root n p e h k a r =
      up_over n (Some p) e h k ∙ ap (λ v. if v then ended (Some p) else (if p == root then ended None else leaving p)) a ∙ ap (λ v. if v then ended None else leaving p) r

  pub back-up : (n p : ℕ) → previous_of f n ≡ None → (n == root) ≡ false → parent_of f n ≡ Some p → accepts f filter p ≡ false → (p == root) ≡ false → GoesBack (back_past_node f filter root current n) (back_past_node f filter root current p)
  back-up n p e h k a r =
      subst (λ stand. GoesBack stand (back_past_node f filter root current p))
      (sym (up_over n (Some p) e h k ∙ ap (λ v. if v then ended (Some p) else (if p == root then ended None else leaving p)) a ∙ ap (λ v. if v then ended None else leaving p) r))
      (LeadsOn-leaving (previous_step f filter root current) moves p (back_past_node f filter root current p) refl)

  -- what is found where the walk has come to its end
  pub end_found : (n : ℕ) (end : Option ℕ) {found : Option ℕ} → Walks (previous_step f filter root current) moves (back_past_node f filter root current n) found → back_past_node f filter root current n ≡ ended end → end ≡ found
  end_found n end w e = (Walks-on w (Leads-here (previous_step f filter root current) moves (back_past_node f filter root current n) (ended end) e)).finds

-- Where a walk has come to a node, or to none.
module _ {step : Stand → Stand} {moves : ℕ} {found : Option ℕ} where
  pub come_none : (stand : Stand) (r : Option ℕ) → Walks step moves stand found → Leads step moves stand (at_or r (ended None)) → r ≡ None → None ≡ found
  come_none stand r w i e = (Walks-on w (subst (λ (o : Option ℕ). Leads step moves stand (at_or o (ended None))) e i)).finds

  pub come_some : (stand : Stand) (r : Option ℕ) (m : ℕ) → Walks step moves stand found → Leads step moves stand (at_or r (ended None)) → r ≡ Some m → Walks step moves (at m) found
  come_some stand r m w i e = Walks-on w (subst (λ (o : Option ℕ). Leads step moves stand (at_or o (ended None))) e i)

  pub begin_none : (r : Option ℕ) → Walks step moves (at_or r (ended None)) found → r ≡ None → None ≡ found
  begin_none r w e = (subst (λ (o : Option ℕ). Walks step moves (at_or o (ended None)) found) e w).finds

  pub begin_some : (r : Option ℕ) (other : Stand) (m : ℕ) → Walks step moves (at_or r other) found → r ≡ Some m → Walks step moves (at m) found
  begin_some r other m w e = subst (λ (o : Option ℕ). Walks step moves (at_or o other) found) e w
