-- Steps backwards: through a list of trees from its end, and back from a node inside them, until the walk comes up to the node above.
-- To the previous node: the steps find the first accepted node of the list.
use Rattle.std.proofs.Common.{◌≡◌, ℕ, suc, ◌+◌, ◌*◌, ◌==◌, Bool, true, false, if◌then◌else◌, List, [], ◌∷◌, ◌++◌, reverse, Option, Some, None, refl, ap, sym, ◌∙◌, subst, arith}
use Rattle.std.specs.{Prelude.find, Option.option_or}
use Rattle.std.proofs.lemmas.List.{reverse-append}
use Rattle.dom_model.specs.Definitions.{among, last_of, Entry, parent_in, children_in, previous_in, Node, Forest, empty, node, occurs, size, tops, ancestors, entry_in, Filter, is_accept, is_reject, verdict_on, accepts, rejects, Stand, at, leaving, ended, at_or, come_back_to, up_to_parent, moves_allowed, previous_step, previous_by_steps, preceding_list}
use Rattle.dom_model.specs.declared.{Verdict.Verdict, Verdict.TheVariants.Accept, Verdict.TheVariants.Skip, Verdict.TheVariants.Reject}
use Rattle.dom_model.proofs.PlainLists.Numbers.{same_or, same, apart}
use Rattle.dom_model.proofs.Forests.{Totals.IsOnce, Climbing.hits-first, Whereabouts.top, Whereabouts.inside, Whereabouts.beyond, Whereabouts.whereabouts, Standing.Stands, Standing.or_none, Below.is_apart_from, Below.at_itself}
use Rattle.dom_model.proofs.Traversal.{Shown.shown, Shown.shown_before, ListsOfWalks.preceding_list-root, ListsOfWalks.preceding_list-below, WalksForward.Finds, WalksForward.Finds-ended, WalksForward.Finds-more, WalksForward.Finds-at, WalksForward.Finds-leaving, WalksForward.Finds-same, WalksForward.Finds-found, WalksForward.joined, WalksForward.told, WalksForward.accepted, WalksForward.skipped, WalksForward.rejected, WalksFound.allowed, WalksFound.root_tree, WalksFound.from_root}

pub last_again : (n : ℕ) (ns : List ℕ) (other : Stand) → at_or (last_of (n ∷ ns)) other ≡ at_or (last_of ns) (at n)
last_again n [] other = refl
last_again n (m ∷ ns) other = same_last m ns
  where
    same_last : (m : ℕ) (ns : List ℕ) → at_or (last_of (m ∷ ns)) other ≡ at_or (last_of (m ∷ ns)) (at n)
    same_last m [] = refl
    same_last m (k ∷ ns) = same_last k ns

module _ {X : Type 0} (entry : ℕ → Option (Entry (Node X))) (says : ℕ → Verdict) (step : Stand → Stand) (root : ℕ) where
  -- up to a node: it is found, or left, but not past the root
  abbrev arrived : ℕ → Stand
  arrived p = if is_accept (says p) then ended (Some p) else (if p == root then ended None else leaving p)

  abbrev back : ℕ → Stand
  back n = at_or (previous_in entry n) (if n == root then ended None else up_to_parent arrived (parent_in (entry n)))

  -- the steps go into a node from its end, and back from it
  pub record IsBackward : Type 0 where
    pub comes : (n : ℕ) → step (at n) ≡ come_back_to (says n) n (last_of (children_in (entry n))) (back n)
    pub leaves : (n : ℕ) → step (leaving n) ≡ back n

  abbrev first_of : List ℕ → Option ℕ
  first_of ns = find (λ n. is_accept (says n)) ns

  abbrev shows : Forest X → List ℕ
  shows g = shown (λ n. is_reject (says n)) g

  abbrev shows_before : ℕ → Forest X → List ℕ
  shows_before n g = shown_before (λ n. is_reject (says n)) n g

  join_back : (ns ms : List ℕ) (found : Option ℕ) → option_or (first_of (reverse ms)) (option_or (first_of (reverse ns)) found) ≡ option_or (first_of (reverse (ns ++ ms))) found
  join_back ns ms found = grind (arith, joined, reverse-append ns ms)

  backwards : (p : ℕ) (passed : Option ℕ) (x : Node X) (kids rest : Forest X) → Stands entry p passed (node x kids rest) → (x.number == root) ≡ false → back x.number ≡ at_or passed (arrived p)
  backwards p passed x kids rest s t = grind arith

  come : IsBackward → (p : ℕ) (passed : Option ℕ) (x : Node X) (kids rest : Forest X) (v : Verdict) → Stands entry p passed (node x kids rest) → (x.number == root) ≡ false → says x.number ≡ v → step (at x.number) ≡ come_back_to v x.number (last_of (tops kids)) (at_or passed (arrived p))
  come f p passed x kids rest v s t e = grind arith

  -- up to a node that is left
  at_arrived : (n moves : ℕ) (found : Option ℕ) → (n == root) ≡ false → Finds step (leaving n) moves found → Finds step (arrived n) moves (option_or (first_of (n ∷ [])) found)
  at_arrived n moves found t i =
      rw t (elim (is_accept (says n)) as (λ v. Finds step (if v then ended (Some n) else leaving n) moves (option_or (if v then Some n else None) found)) [
        | true ↦ Finds-ended step moves (Some n)
        | false ↦ i
      ])

  -- through the children of a node, then up to it
  abbrev GoesBack : ℕ → Forest X → Type 0
  GoesBack p g = (other : Stand) (moves : ℕ) (found : Option ℕ) → Finds step (arrived p) moves found → Finds step other moves found → Finds step (at_or (last_of (tops g)) other) (moves + 2 * size g) (option_or (first_of (reverse (shows g))) found)

  abbrev own : Node X → Forest X → List ℕ
  own x kids = x.number ∷ (if is_reject (says x.number) then [] else shows kids)

  -- what is found at the node itself, and of it
  at_own : (x : Node X) (kids : Forest X) (v : Verdict) (found : Option ℕ) → says x.number ≡ v → option_or (first_of (reverse (if is_reject v then [] else shows kids))) (option_or (if is_accept v then Some x.number else None) found) ≡ option_or (first_of (reverse (own x kids))) found
  at_own x kids v found e = grind (arith, join_back (x.number ∷ []))

  come_back : IsBackward → (p : ℕ) (passed : Option ℕ) (x : Node X) (kids rest : Forest X) (moves : ℕ) (found : Option ℕ) → Stands entry p passed (node x kids rest) → (x.number == root) ≡ false → GoesBack x.number kids → Finds step (at_or passed (arrived p)) moves found → Finds step (at x.number) (suc (suc moves) + 2 * size kids) (option_or (first_of (reverse (own x kids))) found)
  come_back f p passed x kids rest moves found s t into on =
      elim (told (says x.number)) [
        | accepted e ↦
            let up : arrived x.number ≡ ended (Some x.number) = ap (λ (v : Verdict). if is_accept v then ended (Some x.number) else (if x.number == root then ended None else leaving x.number)) e in
            let i = into (ended (Some x.number)) 0 (Some x.number) (Finds-same up (Finds-ended step 0 (Some x.number))) (Finds-ended step 0 (Some x.number)) in
            let all : Finds step (at x.number) (suc (suc moves) + 2 * size kids) (option_or (first_of (reverse (shows kids))) (Some x.number)) = Finds-more (Finds-at (come f p passed x kids rest Accept s t e) i) (omega arith) in
            Finds-found all (at_own x kids Accept found e)
        | skipped e ↦
            let up : arrived x.number ≡ leaving x.number = ap (λ (v : Verdict). if is_accept v then ended (Some x.number) else (if x.number == root then ended None else leaving x.number)) e ∙ ap (λ (v : Bool). if v then ended None else leaving x.number) t in
            let i = into (at_or passed (arrived p)) (suc moves) found (Finds-same up left) (Finds-more on (omega arith)) in
            let all : Finds step (at x.number) (suc (suc moves) + 2 * size kids) (option_or (first_of (reverse (shows kids))) found) = Finds-more (Finds-at (come f p passed x kids rest Skip s t e) i) (omega arith) in
            Finds-found all (at_own x kids Skip found e)
        | rejected e ↦
            let all : Finds step (at x.number) (suc (suc moves) + 2 * size kids) found = Finds-more (Finds-at (come f p passed x kids rest Reject s t e) on) (omega arith) in
            Finds-found all (at_own x kids Reject found e)
      ]
    where
      left : Finds step (leaving x.number) (suc moves) found
      left = Finds-leaving (f.leaves x.number ∙ backwards p passed x kids rest s t) on

  -- through a list of trees from its end, then up
  pub through_back : IsBackward → (p : ℕ) (passed : Option ℕ) (g : Forest X) (other : Stand) (moves : ℕ) (found : Option ℕ) → Stands entry p passed g → occurs root g ≡ 0 → Finds step (at_or passed (arrived p)) moves found → Finds step other moves found → Finds step (at_or (last_of (tops g)) other) (moves + 2 * size g) (option_or (first_of (reverse (shows g))) found)
  through_back f p passed empty other moves found s z on i = Finds-more i (omega arith)
  through_back f p passed (node x kids rest) other moves found s z on i =
      let far : (x.number == root) ≡ false = is_apart_from root x.number (node x kids rest) z (let k = hits-first x.number [] in omega arith) in
      let zk : occurs root kids ≡ 0 = omega arith in
      let zr : occurs root rest ≡ 0 = omega arith in
      let came = come_back f p passed x kids rest moves found s far (λ o m r j k. through_back f x.number None kids o m r s.3 zk j k) on in
      let later = through_back f p (Some x.number) rest (at x.number) (suc (suc moves) + 2 * size kids) (option_or (first_of (reverse (own x kids))) found) s.4 zr came came in
      Finds-found (Finds-more (Finds-same (last_again x.number (tops rest) other) later) (omega arith)) (join_back (own x kids) (shows rest) found)

  -- back from a node that is left, then up
  pub back_from : IsBackward → (n p : ℕ) (passed : Option ℕ) (g : Forest X) (moves : ℕ) (found : Option ℕ) → Stands entry p passed g → occurs n g ≡ 1 → occurs root g ≡ 0 → Finds step (at_or passed (arrived p)) moves found → Finds step (leaving n) (moves + 2 * size g) (option_or (first_of (reverse (shows_before n g))) found)
  back_from f n p passed empty moves found s h z on = absurd (omega arith)
  back_from f n p passed (node x kids rest) moves found s h z on =
      let far : (x.number == root) ≡ false = is_apart_from root x.number (node x kids rest) z (let k = hits-first x.number [] in omega arith) in
      let zk : occurs root kids ≡ 0 = omega arith in
      let zr : occurs root rest ≡ 0 = omega arith in
      let left : Finds step (leaving x.number) (suc moves) found = Finds-leaving (f.leaves x.number ∙ backwards p passed x kids rest s far) on in
      elim (whereabouts n x kids rest h) [
        | top e t _ _ ↦ rw t (Finds-more (subst (λ m. Finds step (leaving m) (suc moves) found) e left) (omega arith))
        | inside ne t ok _ ↦
            let i = back_from f n x.number None kids (suc moves) (option_or (first_of (x.number ∷ [])) found) s.3 ok zk (at_arrived x.number (suc moves) found far left) in
            let all : Finds step (leaving n) (moves + 2 * size (node x kids rest)) (option_or (first_of (reverse (shows_before n kids))) (option_or (first_of (x.number ∷ [])) found)) = Finds-more i (omega arith) in
            rw (t, ok) (Finds-found all (join_back (x.number ∷ []) (shows_before n kids) found))
        | beyond ne t none or ↦
            let came = come_back f p passed x kids rest moves found s far (λ o m r j k. through_back f x.number None kids o m r s.3 zk j k) on in
            let i = back_from f n p (Some x.number) rest (suc (suc moves) + 2 * size kids) (option_or (first_of (reverse (own x kids))) found) s.4 or zr came in
            let all : Finds step (leaving n) (moves + 2 * size (node x kids rest)) (option_or (first_of (reverse (shows_before n rest))) (option_or (first_of (reverse (own x kids))) found)) = Finds-more i (omega arith) in
            rw (t, none) (Finds-found all (join_back (own x kids) (shows_before n rest) found))
      ]

module _ {X : Type 0} (f : Forest X) (o : IsOnce f) (filter : Filter) (root current : ℕ) (within : among root (ancestors current f) ≡ true) where
  previous-backward : IsBackward (entry_in f) (verdict_on f filter) (previous_step f filter root current) root
  previous-backward = record { comes = λ n. refl; leaves = λ n. refl }

  -- PreviousNode
  pub previous-found : previous_by_steps f filter root current ≡ find (accepts f filter) (preceding_list f filter root current)
  previous-found =
      elim (same_or current root) [
        | same e t ↦ rw t (sym (ap (find (accepts f filter)) (ap (preceding_list f filter root) e ∙ preceding_list-root f filter root (root_tree f o filter root current within))))
        | apart ne t ↦
            let b = from_root f o filter root current within ne in
            let i = back_from (entry_in f) (verdict_on f filter) (previous_step f filter root current) root
            previous-backward current root None b.whole.kids 0 (option_or (find (accepts f filter) (root ∷ [])) None) b.whole.stands b.once b.no_top at_root in
            rw t (i.by (moves_allowed f filter root current) (let k = allowed f o filter root current within b.whole in omega arith)
            ∙ join_back (entry_in f) (verdict_on f filter) (previous_step f filter root current) root (root ∷ []) (shown_before (rejects f filter) current b.whole.kids) None
            ∙ or_none (find (accepts f filter) (reverse (root ∷ shown_before (rejects f filter) current b.whole.kids)))
            ∙ sym (ap (find (accepts f filter)) (preceding_list-below f o filter root current b)))
      ]
    where
      at_root : Finds (previous_step f filter root current) (if accepts f filter root then ended (Some root) else (if root == root then ended None else leaving root)) 0 (option_or (find (accepts f filter) (root ∷ [])) None)
      at_root =
          rw (at_itself root) (elim (accepts f filter root) as (λ v. Finds (previous_step f filter root current) (if v then ended (Some root) else ended None) 0 (option_or (if v then Some root else None) None)) [
            | true ↦ Finds-ended (previous_step f filter root current) 0 (Some root)
            | false ↦ Finds-ended (previous_step f filter root current) 0 None
          ])
