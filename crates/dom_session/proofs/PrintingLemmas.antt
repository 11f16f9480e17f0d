-- What waits to be printed stands for parts of the forest, and their rows are what is still to come.
use Rattle.std.proofs.Common.{IfSome, ◌≡◌, ℕ, suc, ◌+◌, ◌<◌, ◌≤◌, List, [], ◌∷◌, ◌++◌, length, map, Option, Some, None, refl, sym, ap, ◌∙◌, subst, arith, append_assoc, length-append, add-one}
use Rattle.std.proofs.lemmas.List.{append-nil, map-append}
use Rattle.dom_model.specs.Definitions.{hits, head_of, after, Node, Forest, empty, node, Grove, IsForest, rows, occurs, tops, tree_at, entry_in, HasNode, children_of, next_of, parent_of, Content, TreeRow, tree_row, tree_rows, Lies}
use Rattle.dom_model.proofs.PlainLists.Numbers.{same_or, same, apart}
use Rattle.dom_model.proofs.Forests.{Totals.IsOnce, Entries.occurs-HasNode, Entries.Lies-entry_in, Indices.child-once, Climbing.hits-first, Climbing.hits-append, TreeOrder.Ordering.Single, TreeOrder.Ordering.single, TreeOrder.Ordering.tree_at-single, TreeOrder.Ordering.Lies-tree_at, TreeOrder.Ordering.after-front}
use Rattle.dom_clone.specs.{declared.walk_stack.Waiting.Waiting, WalkStack.waiting_from}
use Rattle.dom_session.specs.TreeRows.{row_of_node}

-- a part of the forest: trees that stand beside one another at a depth
pub record Part : Type 0 where
  pub depth : ℕ
  pub trees : Forest Content

-- the rows of the parts, the last part first
abbrev pub printed : ℕ → Forest Content → List TreeRow
printed depth f = map tree_row (rows depth f)

abbrev pub to_come : List Part → List TreeRow
to_come [] = []
to_come (t ∷ ts) = to_come ts ++ printed t.depth t.trees

-- one that waits stands for a part: the last children of some node
pub record IsPart (f : Forest Content) (limit : ℕ) (w : Waiting ℕ) (t : Part) : Type 0 where
  pub above : ℕ
  pub passed : List ℕ
  pub shallow : w.place ≤ limit
  pub level : t.depth ≡ w.place
  pub first : head_of (tops t.trees) ≡ Some w.first
  pub lies : Lies (entry_in f) (Some above) t.trees
  pub within : children_of f above ≡ passed ++ tops t.trees

abbrev pub Match : Forest Content → ℕ → List (Waiting ℕ) → List Part → Type 0
Match f limit [] [] = Unit {0}
Match f limit [] (t ∷ ts) = ⊥
Match f limit (w ∷ ws) [] = ⊥
Match f limit (w ∷ ws) (t ∷ ts) = IsPart f limit w t × Match f limit ws ts

-- the rows so far, and what is still to come
pub record IsPrinting (f : Forest Content) (all : List TreeRow) (done : List TreeRow) (waiting : List (Waiting ℕ)) : Type 0 where
  pub parts : List Part
  pub matched : Match f (length done) waiting parts
  pub whole : done ++ to_come parts ≡ all

IsPart-more : (f : Forest Content) (low high : ℕ) (w : Waiting ℕ) (t : Part) → low ≤ high → IsPart f low w t → IsPart f high w t
IsPart-more f low high w t h p = record {
  above = p.above;
  passed = p.passed;
  shallow = omega (arith, p.shallow);
  level = p.level;
  first = p.first;
  lies = p.lies;
  within = p.within;
}

Match-more : (f : Forest Content) (low high : ℕ) (ws : List (Waiting ℕ)) (ts : List Part) → low ≤ high → Match f low ws ts → Match f high ws ts
Match-more f low high [] [] h m = tt
Match-more f low high [] (t ∷ ts) h m = m
Match-more f low high (w ∷ ws) [] h m = m
Match-more f low high (w ∷ ws) (t ∷ ts) h m = (IsPart-more f low high w t h m.0, Match-more f low high ws ts h m.1)

Match-push : (f : Forest Content) (limit : ℕ) (ws : List (Waiting ℕ)) (ts : List Part) (w : Waiting ℕ) (t : Part) → Match f limit ws ts → IsPart f limit w t → Match f limit (ws ++ w ∷ []) (ts ++ t ∷ [])
Match-push f limit [] [] w t m p = (p, tt)
Match-push f limit [] (u ∷ ts) w t m p = absurd m
Match-push f limit (v ∷ ws) [] w t m p = absurd m
Match-push f limit (v ∷ ws) (u ∷ ts) w t m p = (m.0, Match-push f limit ws ts w t m.1 p)

-- the last that waits, and its part
record Popped (f : Forest Content) (limit : ℕ) (ws : List (Waiting ℕ)) (w : Waiting ℕ) (ts : List Part) : Type 0 where
  others : List Part
  part : Part
  are : ts ≡ others ++ part ∷ []
  matched : Match f limit ws others
  last : IsPart f limit w part

Match-pop : (f : Forest Content) (limit : ℕ) (ws : List (Waiting ℕ)) (w : Waiting ℕ) (ts : List Part) → Match f limit (ws ++ w ∷ []) ts → Popped f limit ws w ts
Match-pop f limit [] w [] m = absurd m
Match-pop f limit [] w (t ∷ []) m = record { others = []; part = t; are = refl; matched = tt; last = m.0 }
Match-pop f limit [] w (t ∷ u ∷ ts) m = absurd m.1
Match-pop f limit (v ∷ ws) w [] m = absurd m
Match-pop f limit (v ∷ ws) w (t ∷ ts) m =
    let p = Match-pop f limit ws w ts m.1 in
    record { others = t ∷ p.others; part = p.part; are = ap (λ us. t ∷ us) p.are; matched = (m.0, p.matched); last = p.last }

to_come-push : (ts : List Part) (t : Part) → to_come (ts ++ t ∷ []) ≡ printed t.depth t.trees ++ to_come ts
to_come-push [] t = sym (append-nil (printed t.depth t.trees))
to_come-push (u ∷ ts) t = rw (to_come-push ts t) (append_assoc (printed t.depth t.trees) (to_come ts) (printed u.depth u.trees))

-- trees that wait, where there are any
abbrev pub part_if : ℕ → Forest Content → List Part
part_if d empty = []
part_if d (node x kids rest) = record { depth = d; trees = node x kids rest } ∷ []

Match-wait : (f : Forest Content) (limit : ℕ) (ws : List (Waiting ℕ)) (ts : List Part) (d above : ℕ) (passed : List ℕ) (k : Forest Content) → Match f limit ws ts → d ≤ limit → Lies (entry_in f) (Some above) k → children_of f above ≡ passed ++ tops k → Match f limit (ws ++ waiting_from (head_of (tops k)) d) (ts ++ part_if d k)
Match-wait f limit ws ts d above passed empty m h l e = rw (append-nil ws, append-nil ts) m
Match-wait f limit ws ts d above passed (node x kids rest) m h l e =
    Match-push f limit ws ts (record { first = x.number; place = d }) (record { depth = d; trees = node x kids rest }) m
    (record { above = above; passed = passed; shallow = h; level = refl; first = refl; lies = l; within = e })

to_come-wait : (ts : List Part) (d : ℕ) (k : Forest Content) → to_come (ts ++ part_if d k) ≡ printed d k ++ to_come ts
to_come-wait ts d empty = rw (append-nil ts) refl
to_come-wait ts d (node x kids rest) = to_come-push ts (record { depth = d; trees = node x kids rest })

-- what comes after the first of a part is the first of its rest
after-passed : (x : ℕ) (passed ys : List ℕ) → ((m : ℕ) → hits m (passed ++ x ∷ ys) ≤ 1) → after x (passed ++ x ∷ ys) ≡ head_of ys
after-passed x passed ys once =
    let h = once x in
    let i = hits-append x passed (x ∷ ys) in
    let j = hits-first x ys in
    let first : after x (x ∷ ys) ≡ head_of ys = elim (same_or x x) [ same e t ↦ rw t refl | apart ne t ↦ absurd (ne refl) ] in
    after-front x passed (x ∷ ys) (omega arith) ∙ first

-- the trees of a part: its first node, that one's children, and the trees after it
record Opened (f : Forest Content) (limit : ℕ) (w : Waiting ℕ) (t : Part) : Type 0 where
  x : Node Content
  kids : Forest Content
  rest : Forest Content
  are : t.trees ≡ node x kids rest
  number : x.number ≡ w.first
  above : ℕ
  passed : List ℕ
  entry : entry_in f w.first ≡ Some (record { value = x; parent = Some above; children = tops kids })
  lies_kids : Lies (entry_in f) (Some w.first) kids
  lies_rest : Lies (entry_in f) (Some above) rest
  within : children_of f above ≡ passed ++ w.first ∷ tops rest

opened_from : (f : Forest Content) (limit : ℕ) (w : Waiting ℕ) (t : Part) (p : IsPart f limit w t) (k : Forest Content) → t.trees ≡ k → head_of (tops k) ≡ Some w.first → Lies (entry_in f) (Some p.above) k → children_of f p.above ≡ p.passed ++ tops k → Opened f limit w t
opened_from f limit w t p empty e h l c = absurd (let z : None ≡ Some w.first = h in cc)
opened_from f limit w t p (node x kids rest) e h l c =
    let n : x.number ≡ w.first = cc in
    let P : ℕ → Type 0 = λ m. entry_in f m ≡ Some (record { value = x; parent = Some p.above; children = tops kids }) in
    let Q : ℕ → Type 0 = λ m. Lies (entry_in f) (Some m) kids in
    let R : ℕ → Type 0 = λ m. children_of f p.above ≡ p.passed ++ m ∷ tops rest in
    record {
      x = x;
      kids = kids;
      rest = rest;
      are = e;
      number = n;
      above = p.above;
      passed = p.passed;
      entry = subst P n l.0;
      lies_kids = subst Q n l.1;
      lies_rest = l.2;
      within = subst R n c;
    }

opened : (f : Forest Content) (limit : ℕ) (w : Waiting ℕ) (t : Part) → IsPart f limit w t → Opened f limit w t
opened f limit w t p = opened_from f limit w t p t.trees refl p.first p.lies p.within

-- one more row is printed, and what stands beside and below it waits
pub IsPrinting-step : (g : Grove Content) → IsForest g → (all done : List TreeRow) (ws : List (Waiting ℕ)) (w : Waiting ℕ) (r : TreeRow) → IsPrinting g.forest all done (ws ++ w ∷ []) → IfSome (entry_in g.forest w.first) (λ e. r ≡ row_of_node w.first w.place e.value) → IsPrinting g.forest all (done ++ r ∷ []) ((ws ++ waiting_from (next_of g.forest w.first) w.place) ++ waiting_from (head_of (children_of g.forest w.first)) (w.place + 1))
IsPrinting-step g sound all done ws w r i row =
    let f = g.forest in
    let p = Match-pop f (length done) ws w i.parts i.matched in
    let o = opened f (length done) w p.part p.last in
    let more : length (done ++ r ∷ []) ≡ length done + 1 = omega (arith, length-append done (r ∷ [])) in
    let once : (m : ℕ) → hits m (o.passed ++ w.first ∷ tops o.rest) ≤ 1 = λ m. rw (← o.within) (child-once f sound.once m o.above) in
    let next : next_of f w.first ≡ head_of (tops o.rest) = rw (o.entry, o.within) (after-passed w.first o.passed (tops o.rest) once) in
    let down : head_of (children_of f w.first) ≡ head_of (tops o.kids) = rw o.entry refl in
    let is : r ≡ row_of_node w.first w.place o.x = rw o.entry at row in
    let shallow = p.last.shallow in
    let matched = Match-more f (length done) (length (done ++ r ∷ [])) ws p.others (omega arith) p.matched in
    let beside_it = Match-wait f (length (done ++ r ∷ [])) ws p.others w.place o.above (o.passed ++ w.first ∷ []) o.rest matched (omega arith) o.lies_rest (rw append_assoc o.within) in
    let below_it = Match-wait f (length (done ++ r ∷ [])) (ws ++ waiting_from (head_of (tops o.rest)) w.place) (p.others ++ part_if w.place o.rest) (w.place + 1) w.first [] o.kids beside_it (omega arith) o.lies_kids (rw o.entry refl) in
    let printed_now : printed p.part.depth p.part.trees ≡ r ∷ (printed (w.place + 1) o.kids ++ printed w.place o.rest) =
    rw (o.are, p.last.level, is, add-one w.place, map-append tree_row (rows (suc w.place) o.kids) (rows w.place o.rest), o.number) refl in
    record {
      parts = (p.others ++ part_if w.place o.rest) ++ part_if (w.place + 1) o.kids;
      matched = rw (next, down) below_it;
      whole = rw (to_come-wait (p.others ++ part_if w.place o.rest) (w.place + 1) o.kids, to_come-wait p.others w.place o.rest)
          (let e : done ++ (printed p.part.depth p.part.trees ++ to_come p.others) ≡ all = rw (← to_come-push p.others p.part, ← p.are) i.whole in
          let k = rw printed_now at e in
          simp append_assoc (simp append_assoc at k));
    }

-- the tree of one number: its node, its children, and no more
pub record TopTree (f : Forest Content) (top : ℕ) : Type 0 where
  pub x : Node Content
  pub kids : Forest Content
  pub parent : Option ℕ
  pub are : tree_at top f ≡ node x kids empty
  pub number : x.number ≡ top
  pub entry : entry_in f top ≡ Some (record { value = x; parent = parent; children = tops kids })
  pub lies : Lies (entry_in f) (Some top) kids

pub top_tree : (f : Forest Content) (top : ℕ) → IsOnce f → 0 < occurs top f → TopTree f top
top_tree f top o h = from (tree_at-single top f (let k = o top in omega arith))
  where
    from : Single top (tree_at top f) → TopTree f top
    from (single x kids e t) =
        let l = subst (λ (u : Forest Content). Lies (entry_in f) (parent_of f top) u) t (Lies-tree_at (entry_in f) top None f (Lies-entry_in f o)) in
        let P : ℕ → Type 0 = λ m. entry_in f m ≡ Some (record { value = x; parent = parent_of f top; children = tops kids }) in
        let Q : ℕ → Type 0 = λ m. Lies (entry_in f) (Some m) kids in
        record { x = x; kids = kids; parent = parent_of f top; are = t; number = e; entry = subst P e l.0; lies = subst Q e l.1 }

-- after the row of the top, its children wait
pub IsPrinting-start : (g : Grove Content) → IsForest g → (top : ℕ) → HasNode g.forest top → (r : TreeRow) → IfSome (entry_in g.forest top) (λ e. r ≡ row_of_node top 0 e.value) → IsPrinting g.forest (tree_rows g.forest top) (r ∷ []) (waiting_from (head_of (children_of g.forest top)) 1)
IsPrinting-start g sound top held r row =
    let f = g.forest in
    let o = top_tree f top sound.once (occurs-HasNode f top held) in
    let is : r ≡ row_of_node top 0 o.x = rw o.entry at row in
    let down : head_of (children_of f top) ≡ head_of (tops o.kids) = rw o.entry refl in
    record {
      parts = [] ++ part_if 1 o.kids;
      matched = rw down (Match-wait f (length (r ∷ [])) [] [] 1 top [] o.kids tt (omega arith) o.lies (rw o.entry refl));
      whole = rw (to_come-wait [] 1 o.kids, o.are, is, append-nil (printed 1 o.kids), append-nil (rows 1 o.kids), o.number) refl;
    }

-- one that waits is held, and no deeper than there are rows
pub HasNode-waiting : (f : Forest Content) (all done : List TreeRow) (ws : List (Waiting ℕ)) (w : Waiting ℕ) → IsPrinting f all done (ws ++ w ∷ []) → HasNode f w.first
HasNode-waiting f all done ws w i =
    let p = Match-pop f (length done) ws w i.parts i.matched in
    let o = opened f (length done) w p.part p.last in
    rw o.entry refl

pub shallow_waiting : (f : Forest Content) (all done : List TreeRow) (ws : List (Waiting ℕ)) (w : Waiting ℕ) → IsPrinting f all done (ws ++ w ∷ []) → w.place ≤ length done
shallow_waiting f all done ws w i = let p = Match-pop f (length done) ws w i.parts i.matched in p.last.shallow

-- while one waits, rows are still to come
pub more_to_come : (f : Forest Content) (all done : List TreeRow) (ws : List (Waiting ℕ)) (w : Waiting ℕ) → IsPrinting f all done (ws ++ w ∷ []) → length done < length all
more_to_come f all done ws w i =
    let p = Match-pop f (length done) ws w i.parts i.matched in
    let o = opened f (length done) w p.part p.last in
    let e = rw (p.are, to_come-push p.others p.part, o.are) at i.whole in
    let n = ap (λ (rs : List TreeRow). length rs) e in
    omega (arith, length-append done (printed p.part.depth (node o.x o.kids o.rest) ++ to_come p.others), n)

-- nothing waits: all is printed
pub all_printed : (f : Forest Content) (all done : List TreeRow) → IsPrinting f all done [] → done ≡ all
all_printed f all done i = finished i.parts i.matched i.whole
  where
    finished : (ts : List Part) → Match f (length done) [] ts → done ++ to_come ts ≡ all → done ≡ all
    finished [] m e = sym (append-nil done) ∙ e
    finished (t ∷ ts) m e = absurd m
