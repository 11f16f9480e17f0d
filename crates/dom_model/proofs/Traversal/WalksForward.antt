-- Steps forwards: through a list of trees in tree order, and on from a node inside them, until the walk comes up to the node above.
-- The lemmas are of any steps that go into a node, on to its next sibling and up to its parent.
use Rattle.std.proofs.Common.{◌≡◌, ℕ, zero, suc, ◌+◌, ◌*◌, ◌<◌, ◌≤◌, Bool, List, [], ◌∷◌, ◌++◌, Option, Some, None, refl, ap, sym, ◌∙◌, subst, arith}
use Rattle.std.specs.{Prelude.find, Option.option_or}
use Rattle.std.proofs.lemmas.List.Folds.{find-append}
use Rattle.dom_model.specs.Definitions.{hits, head_of, Entry, parent_in, children_in, next_in, Node, Forest, empty, node, occurs, size, tops, is_accept, is_reject, Stand, at, leaving, ended, at_or, come_to, up_to_parent, walked}
use Rattle.dom_model.specs.declared.{Verdict.Verdict, Verdict.TheVariants.Accept, Verdict.TheVariants.Skip, Verdict.TheVariants.Reject}
use Rattle.dom_model.proofs.Forests.{Climbing.hits-append, Climbing.hits-first, Whereabouts.top, Whereabouts.inside, Whereabouts.beyond, Whereabouts.whereabouts, Standing.Stands}
use Rattle.dom_model.proofs.Traversal.Shown.{shown, shown_after, above}

-- a walk from where it stands finds `found`, with any number of moves from `moves` on
pub record Finds (step : Stand → Stand) (stand : Stand) (moves : ℕ) (found : Option ℕ) : Type 0 where
  pub by : (m : ℕ) → moves ≤ m → walked step m stand ≡ found

pub Finds-ended : (step : Stand → Stand) (moves : ℕ) (found : Option ℕ) → Finds step (ended found) moves found
Finds-ended step moves found = record { by = λ m h. refl }

pub Finds-more : {step : Stand → Stand} {stand : Stand} {moves more : ℕ} {found : Option ℕ} → Finds step stand moves found → moves ≤ more → Finds step stand more found
Finds-more i h = record { by = λ m k. i.by m (omega arith) }

pub Finds-at : {step : Stand → Stand} {n : ℕ} {next : Stand} {moves : ℕ} {found : Option ℕ} → step (at n) ≡ next → Finds step next moves found → Finds step (at n) (suc moves) found
Finds-at {step = step} {n = n} {moves = moves} {found = found} e i = record { by = go }
  where
    go : (m : ℕ) → suc moves ≤ m → walked step m (at n) ≡ found
    go zero h = absurd (omega arith)
    go (suc m) h = ap (walked step m) e ∙ i.by m (omega arith)

pub Finds-leaving : {step : Stand → Stand} {n : ℕ} {next : Stand} {moves : ℕ} {found : Option ℕ} → step (leaving n) ≡ next → Finds step next moves found → Finds step (leaving n) (suc moves) found
Finds-leaving {step = step} {n = n} {moves = moves} {found = found} e i = record { by = go }
  where
    go : (m : ℕ) → suc moves ≤ m → walked step m (leaving n) ≡ found
    go zero h = absurd (omega arith)
    go (suc m) h = ap (walked step m) e ∙ i.by m (omega arith)

-- a walk that goes on finds the same, and what it ends with
pub Finds-on : {step : Stand → Stand} {n : ℕ} {moves : ℕ} {found : Option ℕ} → Finds step (at n) moves found → Finds step (step (at n)) moves found
Finds-on i = record { by = λ m h. i.by (suc m) (omega arith) }

pub Finds-left : {step : Stand → Stand} {n : ℕ} {moves : ℕ} {found : Option ℕ} → Finds step (leaving n) moves found → Finds step (step (leaving n)) moves found
Finds-left i = record { by = λ m h. i.by (suc m) (omega arith) }

pub Finds-end : {step : Stand → Stand} {moves : ℕ} {end found : Option ℕ} → Finds step (ended end) moves found → end ≡ found
Finds-end {moves = moves} i = i.by moves (omega arith)

pub Finds-same : {step : Stand → Stand} {stand other : Stand} {moves : ℕ} {found : Option ℕ} → other ≡ stand → Finds step stand moves found → Finds step other moves found
Finds-same {step = step} {moves = moves} {found = found} e i = subst (λ s. Finds step s moves found) (sym e) i

pub Finds-found : {step : Stand → Stand} {stand : Stand} {moves : ℕ} {found other : Option ℕ} → Finds step stand moves found → found ≡ other → Finds step stand moves other
Finds-found {step = step} {stand = stand} {moves = moves} i e = subst (λ r. Finds step stand moves r) e i

pub option_or-assoc : (a b c : Option ℕ) → option_or a (option_or b c) ≡ option_or (option_or a b) c
option_or-assoc None b c = refl
option_or-assoc (Some x) b c = refl

-- the first of two lists one after the other
pub joined : (test : ℕ → Bool) (ns ms : List ℕ) (found : Option ℕ) → option_or (find test ns) (option_or (find test ms) found) ≡ option_or (find test (ns ++ ms)) found
joined test ns ms found = option_or-assoc (find test ns) (find test ms) found ∙ ap (λ (o : Option ℕ). option_or o found) (sym (find-append test ns ms))

-- what a filter says
pub data Told (v : Verdict) : Type 0 where
  accepted : v ≡ Accept → Told v
  skipped : v ≡ Skip → Told v
  rejected : v ≡ Reject → Told v

pub told : (v : Verdict) → Told v
told Accept = accepted refl
told Skip = skipped refl
told Reject = rejected refl

module _ {X : Type 0} (entry : ℕ → Option (Entry (Node X))) (says : ℕ → Verdict) (step : Stand → Stand) (arrive past : ℕ → Stand) where
  -- the steps go into a node, and on from it
  pub record IsForward : Type 0 where
    pub comes : (n : ℕ) → step (at n) ≡ come_to (says n) n (head_of (children_in (entry n))) (past n)
    pub leaves : (n : ℕ) → step (leaving n) ≡ past n

  -- how the walk goes on from a node: to its next sibling, else up to its parent, which it leaves where it was only gone into
  pub record Passes (n : ℕ) : Type 0 where
    pub on : past n ≡ at_or (next_in entry n) (up_to_parent arrive (parent_in (entry n)))
    pub up : says n ≡ Skip → arrive n ≡ leaving n

  -- the first accepted node of a list
  abbrev pub first_of : List ℕ → Option ℕ
  first_of ns = find (λ n. is_accept (says n)) ns

  abbrev pub shows : Forest X → List ℕ
  shows g = shown (λ n. is_reject (says n)) g

  abbrev pub shows_after : ℕ → Forest X → List ℕ
  shows_after n g = shown_after (λ n. is_reject (says n)) n g

  onwards : (p : ℕ) (passed : Option ℕ) (x : Node X) (kids rest : Forest X) → Stands entry p passed (node x kids rest) → Passes x.number → past x.number ≡ at_or (head_of (tops rest)) (arrive p)
  onwards p passed x kids rest s w = grind arith

  come : IsForward → (p : ℕ) (passed : Option ℕ) (x : Node X) (kids rest : Forest X) (v : Verdict) → Stands entry p passed (node x kids rest) → says x.number ≡ v → step (at x.number) ≡ come_to v x.number (head_of (tops kids)) (past x.number)
  come f p passed x kids rest v s e = grind arith

  -- through a list of trees, then up
  pub through : IsForward → (p : ℕ) (passed : Option ℕ) (g : Forest X) (other : Stand) (moves : ℕ) (found : Option ℕ) → Stands entry p passed g → ((n : ℕ) → 0 < occurs n g → Passes n) → Finds step (arrive p) moves found → Finds step other moves found → Finds step (at_or (head_of (tops g)) other) (moves + 2 * size g) (option_or (first_of (shows g)) found)
  through f p passed empty other moves found s w up i = Finds-more i (omega arith)
  through f p passed (node x kids rest) other moves found s w up i =
      let wx : Passes x.number = w x.number (let k = hits-first x.number [] in omega arith) in
      let later : Finds step (at_or (head_of (tops rest)) (arrive p)) (moves + 2 * size rest) (option_or (first_of (shows rest)) found) = through f p (Some x.number) rest (arrive p) moves found s.4 (λ n k. w n (omega arith)) up up in
      let on : Finds step (past x.number) (moves + 2 * size rest) (option_or (first_of (shows rest)) found) = Finds-same (onwards p passed x kids rest s wx) later in
      elim (told (says x.number)) [
        | accepted e ↦ rw e (Finds-more (Finds-at (come f p passed x kids rest Accept s e) (Finds-ended step 0 (Some x.number))) (omega arith))
        | skipped e ↦
            let left : Finds step (arrive x.number) (suc (moves + 2 * size rest)) (option_or (first_of (shows rest)) found) = Finds-same (wx.up e) (Finds-leaving (f.leaves x.number) on) in
            let into = through f x.number None kids (past x.number) (suc (moves + 2 * size rest)) (option_or (first_of (shows rest)) found) s.3 (λ n k. w n (omega arith)) left (Finds-more on (omega arith)) in
            let all : Finds step (at x.number) (moves + 2 * size (node x kids rest)) (option_or (first_of (shows kids)) (option_or (first_of (shows rest)) found)) = Finds-more (Finds-at (come f p passed x kids rest Skip s e) into) (omega arith) in
            rw e (Finds-found all (joined (λ n. is_accept (says n)) (shows kids) (shows rest) found))
        | rejected e ↦ rw e (Finds-more (Finds-at (come f p passed x kids rest Reject s e) on) (omega arith))
      ]

  -- on from a node that is left, then up
  pub on_from : IsForward → (n p : ℕ) (passed : Option ℕ) (g : Forest X) (moves : ℕ) (found : Option ℕ) → Stands entry p passed g → occurs n g ≡ 1 → ((m : ℕ) → 0 < occurs m g → Passes m) → ((m : ℕ) → 0 < hits m (above n g) → arrive m ≡ leaving m) → Finds step (arrive p) moves found → Finds step (leaving n) (moves + 2 * size g) (option_or (first_of (shows_after n g)) found)
  on_from f n p passed empty moves found s h w a up = absurd (omega arith)
  on_from f n p passed (node x kids rest) moves found s h w a up =
      let wx : Passes x.number = w x.number (let k = hits-first x.number [] in omega arith) in
      let later : Finds step (at_or (head_of (tops rest)) (arrive p)) (moves + 2 * size rest) (option_or (first_of (shows rest)) found) = through f p (Some x.number) rest (arrive p) moves found s.4 (λ m k. w m (omega arith)) up up in
      let on : Finds step (leaving x.number) (suc (moves + 2 * size rest)) (option_or (first_of (shows rest)) found) = Finds-leaving (f.leaves x.number) (Finds-same (onwards p passed x kids rest s wx) later) in
      elim (whereabouts n x kids rest h) [
        | top e t zk zr ↦ rw t (Finds-more (subst (λ m. Finds step (leaving m) (suc (moves + 2 * size rest)) (option_or (first_of (shows rest)) found)) e on) (omega arith))
        | inside ne t ok zr ↦
            let above_kids : (m : ℕ) → 0 < hits m (above n kids ++ x.number ∷ []) → arrive m ≡ leaving m = λ m k. a m (rw (t, ok) k) in
            let left : arrive x.number ≡ leaving x.number = above_kids x.number (let i = hits-append x.number (above n kids) (x.number ∷ []) in let j = hits-first x.number [] in omega arith) in
            let from_kids = on_from f n x.number None kids (suc (moves + 2 * size rest)) (option_or (first_of (shows rest)) found) s.3 ok (λ m k. w m (omega arith)) (λ m k. above_kids m (let i = hits-append m (above n kids) (x.number ∷ []) in omega arith)) (Finds-same left on) in
            let all : Finds step (leaving n) (moves + 2 * size (node x kids rest)) (option_or (first_of (shows_after n kids)) (option_or (first_of (shows rest)) found)) = Finds-more from_kids (omega arith) in
            rw (t, ok) (Finds-found all (joined (λ n. is_accept (says n)) (shows_after n kids) (shows rest) found))
        | beyond ne t zk or ↦
            let above_rest : (m : ℕ) → 0 < hits m (above n rest) → arrive m ≡ leaving m = λ m k. a m (rw (t, zk) k) in
            rw (t, zk) (Finds-more (on_from f n p (Some x.number) rest moves found s.4 or (λ m k. w m (omega arith)) above_rest up) (omega arith))
      ]
