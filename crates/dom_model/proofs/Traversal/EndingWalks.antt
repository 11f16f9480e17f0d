-- Walks that end: steps that go through a list of trees, and on, back or up from a node inside them, make at most two moves for each node.
use Rattle.std.proofs.Common.{◌≡◌, ℕ, zero, suc, ◌+◌, ◌*◌, ◌≤◌, Option, Some, None, refl, ap, sym, ◌∙◌, subst, arith, ◌⊎◌, ⊎_elim}
use Rattle.dom_model.specs.Definitions.{head_of, last_of, Entry, parent_in, children_in, next_in, previous_in, Node, Forest, empty, node, occurs, size, tops, Stand, at, leaving, ended, at_or, up_to_parent, HasEnded}
use Rattle.dom_model.proofs.Forests.{Whereabouts.top, Whereabouts.inside, Whereabouts.beyond, Whereabouts.whereabouts, Standing.Stands}
use Rattle.dom_model.proofs.Traversal.{WalksForward.Finds, WalksForward.Finds-ended, WalksForward.Finds-more, WalksForward.Finds-at, WalksForward.Finds-leaving, WalksForward.Finds-same, WalksBackward.last_again}

pub HasEnded-more : (step : Stand → Stand) (moves more : ℕ) (stand : Stand) → HasEnded step moves stand → moves ≤ more → HasEnded step more stand
HasEnded-more step moves more (ended found) h le = tt
HasEnded-more step zero more (at n) h le = absurd h
HasEnded-more step zero more (leaving n) h le = absurd h
HasEnded-more step (suc moves) zero (at n) h le = absurd (omega arith)
HasEnded-more step (suc moves) zero (leaving n) h le = absurd (omega arith)
HasEnded-more step (suc moves) (suc more) (at n) h le = HasEnded-more step moves more (step (at n)) h (omega arith)
HasEnded-more step (suc moves) (suc more) (leaving n) h le = HasEnded-more step moves more (step (leaving n)) h (omega arith)

-- so has another walk whose steps go the same way
pub HasEnded-agree : (s t : Stand → Stand) → ((stand : Stand) → s stand ≡ t stand) → (moves : ℕ) (stand : Stand) → HasEnded s moves stand → HasEnded t moves stand
HasEnded-agree s t e moves (ended found) h = tt
HasEnded-agree s t e zero (at n) h = absurd h
HasEnded-agree s t e zero (leaving n) h = absurd h
HasEnded-agree s t e (suc moves) (at n) h = HasEnded-agree s t e moves (t (at n)) (subst (λ next. HasEnded s moves next) (e (at n)) h)
HasEnded-agree s t e (suc moves) (leaving n) h = HasEnded-agree s t e moves (t (leaving n)) (subst (λ next. HasEnded s moves next) (e (leaving n)) h)

-- a walk from where it stands ends with so many moves, and with more
pub record Ends (step : Stand → Stand) (stand : Stand) (moves : ℕ) : Type 0 where
  pub found : Option ℕ
  pub finds : Finds step stand moves found
  pub ends : HasEnded step moves stand

pub Ends-ended : (step : Stand → Stand) (moves : ℕ) (found : Option ℕ) → Ends step (ended found) moves
Ends-ended step moves found = record { found = found; finds = Finds-ended step moves found; ends = tt }

pub Ends-more : {step : Stand → Stand} {stand : Stand} {moves more : ℕ} → Ends step stand moves → moves ≤ more → Ends step stand more
Ends-more {step = step} {stand = stand} {moves = moves} {more = more} i h = record { found = i.found; finds = Finds-more i.finds h; ends = HasEnded-more step moves more stand i.ends h }

pub Ends-at : {step : Stand → Stand} {n : ℕ} {next : Stand} {moves : ℕ} → step (at n) ≡ next → Ends step next moves → Ends step (at n) (suc moves)
Ends-at {step = step} {moves = moves} e i = record { found = i.found; finds = Finds-at e i.finds; ends = subst (λ stand. HasEnded step moves stand) (sym e) i.ends }

pub Ends-leaving : {step : Stand → Stand} {n : ℕ} {next : Stand} {moves : ℕ} → step (leaving n) ≡ next → Ends step next moves → Ends step (leaving n) (suc moves)
Ends-leaving {step = step} {moves = moves} e i = record { found = i.found; finds = Finds-leaving e i.finds; ends = subst (λ stand. HasEnded step moves stand) (sym e) i.ends }

pub Ends-same : {step : Stand → Stand} {stand other : Stand} {moves : ℕ} → other ≡ stand → Ends step stand moves → Ends step other moves
Ends-same {step = step} {moves = moves} e i = record { found = i.found; finds = Finds-same e i.finds; ends = subst (λ s. HasEnded step moves s) (sym e) i.ends }

-- ended, or as told
pub data EndsOr (stand other : Stand) : Type 0 where
  at_end : (found : Option ℕ) → stand ≡ ended found → EndsOr stand other
  goes_on : stand ≡ other → EndsOr stand other

pub Ends-or : {step : Stand → Stand} {stand other : Stand} {moves : ℕ} → EndsOr stand other → Ends step other moves → Ends step stand moves
Ends-or {step = step} {moves = moves} (at_end found e) i = Ends-same e (Ends-ended step moves found)
Ends-or (goes_on e) i = Ends-same e i

module _ {X : Type 0} (entry : ℕ → Option (Entry (Node X))) (step : Stand → Stand) (arrive past : ℕ → Stand) where
  -- steps that come forwards: into a node or past it, on to the next sibling or up, or to their end
  pub record IsOnward : Type 0 where
    pub comes : (n : ℕ) → EndsOr (step (at n)) (at_or (head_of (children_in (entry n))) (past n)) ⊎ EndsOr (step (at n)) (past n)
    pub leaves : (n : ℕ) → step (leaving n) ≡ past n
    pub on : (n : ℕ) → EndsOr (past n) (at_or (next_in entry n) (up_to_parent arrive (parent_in (entry n))))
    pub up : (n : ℕ) → EndsOr (arrive n) (leaving n)

  past-ends : IsOnward → (p : ℕ) (passed : Option ℕ) (x : Node X) (kids rest : Forest X) (moves : ℕ) → Stands entry p passed (node x kids rest) → Ends step (at_or (head_of (tops rest)) (arrive p)) moves → Ends step (past x.number) moves
  past-ends f p passed x kids rest moves s i =
      Ends-or (f.on x.number) (Ends-same
      (ap (λ (o : Option ℕ). at_or o (up_to_parent arrive (parent_in (entry x.number)))) s.1
      ∙ ap (λ (e : Option (Entry (Node X))). at_or (head_of (tops rest)) (up_to_parent arrive (parent_in e))) s.0) i)

  pub through-ends : IsOnward → (p : ℕ) (passed : Option ℕ) (g : Forest X) (other : Stand) (moves : ℕ) → Stands entry p passed g → Ends step (arrive p) moves → Ends step other moves → Ends step (at_or (head_of (tops g)) other) (moves + 2 * size g)
  through-ends f p passed empty other moves s up i = Ends-more i (omega arith)
  through-ends f p passed (node x kids rest) other moves s up i =
      let later = through-ends f p (Some x.number) rest (arrive p) moves s.4 up up in
      let on : Ends step (past x.number) (moves + 2 * size rest) = past-ends f p passed x kids rest (moves + 2 * size rest) s later in
      let left : Ends step (leaving x.number) (suc (moves + 2 * size rest)) = Ends-leaving (f.leaves x.number) on in
      let into : Ends step (at_or (head_of (tops kids)) (past x.number)) (suc (moves + 2 * size rest) + 2 * size kids) = through-ends f x.number None kids (past x.number) (suc (moves + 2 * size rest)) s.3 (Ends-or (f.up x.number) left) (Ends-more on (omega arith)) in
      let first : Ends step (at_or (head_of (children_in (entry x.number))) (past x.number)) (suc (moves + 2 * size rest) + 2 * size kids) = Ends-same (ap (λ (e : Option (Entry (Node X))). at_or (head_of (children_in e)) (past x.number)) s.0) into in
      ⊎_elim
      (λ (c : EndsOr (step (at x.number)) (at_or (head_of (children_in (entry x.number))) (past x.number))). Ends-more (Ends-at refl (Ends-or c first)) (omega arith))
      (λ (c : EndsOr (step (at x.number)) (past x.number)). Ends-more (Ends-at refl (Ends-or c on)) (omega arith))
      (f.comes x.number)

  pub on_from-ends : IsOnward → (n p : ℕ) (passed : Option ℕ) (g : Forest X) (moves : ℕ) → Stands entry p passed g → occurs n g ≡ 1 → Ends step (arrive p) moves → Ends step (leaving n) (moves + 2 * size g)
  on_from-ends f n p passed empty moves s h up = absurd (omega arith)
  on_from-ends f n p passed (node x kids rest) moves s h up =
      let later = through-ends f p (Some x.number) rest (arrive p) moves s.4 up up in
      let left : Ends step (leaving x.number) (suc (moves + 2 * size rest)) = Ends-leaving (f.leaves x.number) (past-ends f p passed x kids rest (moves + 2 * size rest) s later) in
      elim (whereabouts n x kids rest h) [
        | top e t zk zr ↦ Ends-more (subst (λ m. Ends step (leaving m) (suc (moves + 2 * size rest))) e left) (omega arith)
        | inside ne t ok zr ↦ Ends-more (on_from-ends f n x.number None kids (suc (moves + 2 * size rest)) s.3 ok (Ends-or (f.up x.number) left)) (omega arith)
        | beyond ne t zk or ↦ Ends-more (on_from-ends f n p (Some x.number) rest moves s.4 or up) (omega arith)
      ]

-- what a step backwards comes to: past the node, or into it from its end
pub data Entered (stand : Stand) (inside : Option ℕ) (onwards : Stand) : Type 0 where
  passed_over : EndsOr stand onwards → Entered stand inside onwards
  gone_into : (other : Stand) → EndsOr other onwards → stand ≡ at_or inside other → Entered stand inside onwards

module _ {X : Type 0} (entry : ℕ → Option (Entry (Node X))) (step : Stand → Stand) (arrive past : ℕ → Stand) where
  -- steps that come backwards: into a node from its end or past it, back to the previous sibling or up, or to their end
  pub record IsReturning : Type 0 where
    pub comes : (n : ℕ) → Entered (step (at n)) (last_of (children_in (entry n))) (past n)
    pub leaves : (n : ℕ) → step (leaving n) ≡ past n
    pub back : (n : ℕ) → EndsOr (past n) (at_or (previous_in entry n) (up_to_parent arrive (parent_in (entry n))))
    pub up : (n : ℕ) → EndsOr (arrive n) (leaving n)

  back-ends : IsReturning → (p : ℕ) (passed : Option ℕ) (x : Node X) (kids rest : Forest X) (moves : ℕ) → Stands entry p passed (node x kids rest) → Ends step (at_or passed (arrive p)) moves → Ends step (past x.number) moves
  back-ends f p passed x kids rest moves s i =
      Ends-or (f.back x.number) (Ends-same
      (ap (λ (o : Option ℕ). at_or o (up_to_parent arrive (parent_in (entry x.number)))) s.2
      ∙ ap (λ (e : Option (Entry (Node X))). at_or passed (up_to_parent arrive (parent_in e))) s.0) i)

  -- through the children of a node from their end
  abbrev EndsBack : ℕ → Forest X → Type 0
  EndsBack p g = (other : Stand) (moves : ℕ) → Ends step (arrive p) moves → Ends step other moves → Ends step (at_or (last_of (tops g)) other) (moves + 2 * size g)

  come_back-ends : IsReturning → (p : ℕ) (passed : Option ℕ) (x : Node X) (kids rest : Forest X) (moves : ℕ) → Stands entry p passed (node x kids rest) → EndsBack x.number kids → Ends step (at_or passed (arrive p)) moves → Ends step (at x.number) (suc (suc moves) + 2 * size kids)
  come_back-ends f p passed x kids rest moves s into on = from (f.comes x.number)
    where
      gone : Ends step (past x.number) moves
      gone = back-ends f p passed x kids rest moves s on

      left : Ends step (leaving x.number) (suc moves)
      left = Ends-leaving (f.leaves x.number) gone

      from : Entered (step (at x.number)) (last_of (children_in (entry x.number))) (past x.number) → Ends step (at x.number) (suc (suc moves) + 2 * size kids)
      from (passed_over c) = Ends-more (Ends-at refl (Ends-or c gone)) (omega arith)
      from (gone_into other c e) =
          let i = into other (suc moves) (Ends-or (f.up x.number) left) (Ends-more (Ends-or c gone) (omega arith)) in
          let j : step (at x.number) ≡ at_or (last_of (tops kids)) other = e ∙ ap (λ (o : Option (Entry (Node X))). at_or (last_of (children_in o)) other) s.0 in
          Ends-more (Ends-at j i) (omega arith)

  pub through_back-ends : IsReturning → (p : ℕ) (passed : Option ℕ) (g : Forest X) (other : Stand) (moves : ℕ) → Stands entry p passed g → Ends step (at_or passed (arrive p)) moves → Ends step other moves → Ends step (at_or (last_of (tops g)) other) (moves + 2 * size g)
  through_back-ends f p passed empty other moves s on i = Ends-more i (omega arith)
  through_back-ends f p passed (node x kids rest) other moves s on i =
      let came = come_back-ends f p passed x kids rest moves s (λ o m j k. through_back-ends f x.number None kids o m s.3 j k) on in
      let later = through_back-ends f p (Some x.number) rest (at x.number) (suc (suc moves) + 2 * size kids) s.4 came came in
      Ends-more (Ends-same (last_again x.number (tops rest) other) later) (omega arith)

  pub back_from-ends : IsReturning → (n p : ℕ) (passed : Option ℕ) (g : Forest X) (moves : ℕ) → Stands entry p passed g → occurs n g ≡ 1 → Ends step (at_or passed (arrive p)) moves → Ends step (leaving n) (moves + 2 * size g)
  back_from-ends f n p passed empty moves s h on = absurd (omega arith)
  back_from-ends f n p passed (node x kids rest) moves s h on =
      let left : Ends step (leaving x.number) (suc moves) = Ends-leaving (f.leaves x.number) (back-ends f p passed x kids rest moves s on) in
      elim (whereabouts n x kids rest h) [
        | top e t zk zr ↦ Ends-more (subst (λ m. Ends step (leaving m) (suc moves)) e left) (omega arith)
        | inside ne t ok zr ↦ Ends-more (back_from-ends f n x.number None kids (suc moves) s.3 ok (Ends-or (f.up x.number) left)) (omega arith)
        | beyond ne t zk or ↦
            let came = come_back-ends f p passed x kids rest moves s (λ o m j k. through_back-ends f x.number None kids o m s.3 j k) on in
            Ends-more (back_from-ends f n p (Some x.number) rest (suc (suc moves) + 2 * size kids) s.4 or came) (omega arith)
      ]

module _ {X : Type 0} (entry : ℕ → Option (Entry (Node X))) (step : Stand → Stand) (arrive : ℕ → Stand) where
  -- steps that go up from a node that is left, or to their end
  pub record IsClimbing : Type 0 where
    pub leaves : (n : ℕ) → EndsOr (step (leaving n)) (up_to_parent arrive (parent_in (entry n)))
    pub up : (n : ℕ) → EndsOr (arrive n) (leaving n)

  pub climb-ends : IsClimbing → (n p : ℕ) (passed : Option ℕ) (g : Forest X) (moves : ℕ) → Stands entry p passed g → occurs n g ≡ 1 → Ends step (arrive p) moves → Ends step (leaving n) (moves + 2 * size g)
  climb-ends f n p passed empty moves s h on = absurd (omega arith)
  climb-ends f n p passed (node x kids rest) moves s h on =
      let left : Ends step (leaving x.number) (suc moves) = Ends-leaving refl (Ends-or (f.leaves x.number) (Ends-same (ap (λ (e : Option (Entry (Node X))). up_to_parent arrive (parent_in e)) s.0) on)) in
      elim (whereabouts n x kids rest h) [
        | top e t zk zr ↦ Ends-more (subst (λ m. Ends step (leaving m) (suc moves)) e left) (omega arith)
        | inside ne t ok zr ↦ Ends-more (climb-ends f n x.number None kids (suc moves) s.3 ok (Ends-or (f.up x.number) left)) (omega arith)
        | beyond ne t zk or ↦ Ends-more (climb-ends f n p (Some x.number) rest moves s.4 or on) (omega arith)
      ]
