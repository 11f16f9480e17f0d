-- A copy that is being made: the copies so far, and what waits, completed, are the copy of the whole.
use Rattle.std.proofs.Common.{◌≡◌, ℕ, ◌+◌, ◌*◌, ◌<◌, ◌≤◌, Bool, true, false, List, [], ◌∷◌, ◌++◌, Option, Some, None, IfSome, is_some, refl, ap, sym, ◌∙◌, subst, arith, append-nil, ⊎_elim}
use Rattle.std.proofs.lemmas.Bool.{cases_lt, false≢true}
use Rattle.dom_model.specs.declared.Kind.{Kind}
use Rattle.dom_model.specs.Definitions.{head_of, after, Entry, parent_in, children_in, list_under, may_stand_in, EachNode, IsInDocument, Node, Forest, empty, node, occurs, one_at, size, tops, beside, tree_at, placed_under, entry_in, HasNode, parent_of, children_of, next_of, KindsFit, Content, made_node, renumbered, alone_of, original, with_copies}
use Rattle.dom_model.specs.Worlds.World as model
use Rattle.dom_model.proofs.PlainLists.Numbers.{same_or, same, apart}
use Rattle.dom_model.proofs.Forests.{Changes.seen, Changes.nothing, Changes.just, Totals.IsOnce, Totals.total-beside, Totals.total-placed_under, Entries.occurs-HasNode, Entries.HasNode-occurs, EachNode.EachNode-placed_under, ForestsBeside.IsFrom, ForestsBeside.absent-from, ForestsBeside.entry-younger, KindsFitting.KindsFit-root, Paths.parent-path, Standing.Stands, Standing.Tree, Standing.tree_of}
use Rattle.dom_model.proofs.Worlds.Measured.{entry-beside}
use Rattle.dom_tree.specs.PutConditions.{MayStand}
use Rattle.dom_edit.specs.{declared.world.World.World, Whole.IsWhole, Whole.Follows, Whole.unwatched}
use Rattle.dom_edit.proofs.FollowsLemmas.{follows-then, keeps-unwatched}
use Rattle.dom_clone.specs.{declared.walk_stack.Waiting.Waiting, Clones.made_under, WalkStack.waiting_from}
use Rattle.dom_clone.proofs.{PutUnderLemmas.each-entry, PutUnderLemmas.follows-same, CompletedLemmas.Part, CompletedLemmas.sizes, CompletedLemmas.completed, CompletedLemmas.part_if, CompletedLemmas.sizes-push, CompletedLemmas.sizes-wait, CompletedLemmas.completed-wait, CompletedLemmas.completed-step, CompletedLemmas.put-grown}

-- trees beside those that were there
abbrev pub with_trees : Forest Content → ℕ → model.World → model.World
with_trees g made w = record w { forest = beside w.forest g; made = made }

-- the node of a number has the kind
abbrev pub HasKind : ℕ → Kind → Forest Content → Type 0
HasKind n kind f = EachNode (λ x. x.number ≡ n → x.label.kind ≡ kind) f

-- one that waits stands for a part: siblings of the trees that were there, which are to stand under a copy
pub record IsPart (f copies : Forest Content) (w : Waiting ℕ) (t : Part) : Type 0 where
  pub above : ℕ
  pub passed : Option ℕ
  pub kind : Kind
  pub parent : t.parent ≡ w.place
  pub first : head_of (tops t.trees) ≡ Some w.first
  pub stands : Stands (entry_in f) above passed t.trees
  pub fits : KindsFit (Some kind) t.trees
  pub parent_there : 0 < occurs t.parent copies
  pub parent_kind : HasKind t.parent kind copies

abbrev pub Match : Forest Content → Forest Content → List (Waiting ℕ) → List Part → Type 0
Match f copies [] [] = Unit {0}
Match f copies [] (t ∷ ts) = ⊥
Match f copies (w ∷ ws) [] = ⊥
Match f copies (w ∷ ws) (t ∷ ts) = IsPart f copies w t × Match f copies ws ts

pub record IsCopying (old : World) (n d : ℕ) (now : World) (ws : List (Waiting ℕ)) : Type 0 where
  pub copies : Forest Content
  pub parts : List Part
  pub follows : Follows old now (with_trees copies now.tree.made)
  pub whole : IsWhole now
  pub from : EachNode (IsFrom old.tree.made) copies
  pub grows : old.tree.made ≤ now.tree.made
  pub owned : IsInDocument d copies
  pub matched : Match old.tree.forest copies ws parts
  pub complete : completed d parts copies now.tree.made ≡ renumbered d old.tree.made (tree_at n old.tree.forest)
  pub counted : now.tree.made + sizes parts ≡ old.tree.made + size (tree_at n old.tree.forest)

-- What waits.

Match-push : (f g : Forest Content) (ws : List (Waiting ℕ)) (ts : List Part) (w : Waiting ℕ) (t : Part) → Match f g ws ts → IsPart f g w t → Match f g (ws ++ w ∷ []) (ts ++ t ∷ [])
Match-push f g [] [] w t m p = (p, tt)
Match-push f g [] (u ∷ ts) w t m p = absurd m
Match-push f g (v ∷ ws) [] w t m p = absurd m
Match-push f g (v ∷ ws) (u ∷ ts) w t m p = (m.0, Match-push f g ws ts w t m.1 p)

-- the last that waits, and its part
record Popped (f g : Forest Content) (ws : List (Waiting ℕ)) (w : Waiting ℕ) (ts : List Part) : Type 0 where
  others : List Part
  part : Part
  are : ts ≡ others ++ part ∷ []
  matched : Match f g ws others
  last : IsPart f g w part

Match-pop : (f g : Forest Content) (ws : List (Waiting ℕ)) (w : Waiting ℕ) (ts : List Part) → Match f g (ws ++ w ∷ []) ts → Popped f g ws w ts
Match-pop f g [] w [] m = absurd m
Match-pop f g [] w (t ∷ []) m = record { others = []; part = t; are = refl; matched = tt; last = m.0 }
Match-pop f g [] w (t ∷ u ∷ ts) m = absurd m.1
Match-pop f g (v ∷ ws) w [] m = absurd m
Match-pop f g (v ∷ ws) w (t ∷ ts) m =
    let p = Match-pop f g ws w ts m.1 in
    record { others = t ∷ p.others; part = p.part; are = ap (λ us. t ∷ us) p.are; matched = (m.0, p.matched); last = p.last }

-- trees wait, where there are any
Match-wait : (f g : Forest Content) (ws : List (Waiting ℕ)) (ts : List Part) (parent above : ℕ) (passed : Option ℕ) (kind : Kind) (k : Forest Content) → Match f g ws ts → Stands (entry_in f) above passed k → KindsFit (Some kind) k → 0 < occurs parent g → HasKind parent kind g →
    Match f g (ws ++ waiting_from (head_of (tops k)) parent) (ts ++ part_if parent k)
Match-wait f g ws ts parent above passed kind empty m s fit there kinds = rw (append-nil ws, append-nil ts) m
Match-wait f g ws ts parent above passed kind (node x kids rest) m s fit there kinds =
    Match-push f g ws ts (record { first = x.number; place = parent }) (record { parent = parent; trees = node x kids rest }) m
    (record { above = above; passed = passed; kind = kind; parent = refl; first = refl; stands = s; fits = fit; parent_there = there; parent_kind = kinds })

-- more copies keep the parents that are waited for
Match-more : (f g h : Forest Content) → ((n : ℕ) → 0 < occurs n g → 0 < occurs n h) → ((n : ℕ) (kind : Kind) → 0 < occurs n g → HasKind n kind g → HasKind n kind h) → (ws : List (Waiting ℕ)) (ts : List Part) → Match f g ws ts → Match f h ws ts
Match-more f g h there kinds [] [] m = tt
Match-more f g h there kinds [] (t ∷ ts) m = m
Match-more f g h there kinds (w ∷ ws) [] m = m
Match-more f g h there kinds (w ∷ ws) (t ∷ ts) m =
    let p = m.0 in (
      record { above = p.above; passed = p.passed; kind = p.kind; parent = p.parent; first = p.first; stands = p.stands; fits = p.fits; parent_there = there t.parent p.parent_there; parent_kind = kinds t.parent p.kind p.parent_there p.parent_kind },
      Match-more f g h there kinds ws ts m.1,
    )

-- the first node of a part, the trees below it and the trees after it
record Front (f g : Forest Content) (w : Waiting ℕ) (t : Part) : Type 0 where
  x : Node Content
  kids : Forest Content
  rest : Forest Content
  above : ℕ
  passed : Option ℕ
  kind : Kind
  are : t ≡ record { parent = w.place; trees = node x kids rest }
  number : x.number ≡ w.first
  stands : Stands (entry_in f) above passed (node x kids rest)
  fits : KindsFit (Some kind) (node x kids rest)
  parent_there : 0 < occurs w.place g
  parent_kind : HasKind w.place kind g

front : (f g : Forest Content) (w : Waiting ℕ) (t : Part) → IsPart f g w t → Front f g w t
front f g w t p = go t.trees refl p.first p.stands p.fits
  where
    go : (k : Forest Content) → t.trees ≡ k → head_of (tops k) ≡ Some w.first → Stands (entry_in f) p.above p.passed k → KindsFit (Some p.kind) k → Front f g w t
    go empty e h s fit = absurd (let z : None ≡ Some w.first = h in cc)
    go (node x kids rest) e h s fit = record {
      x = x;
      kids = kids;
      rest = rest;
      above = p.above;
      passed = p.passed;
      kind = p.kind;
      are = ap (λ (n : ℕ). record { parent = n; trees = t.trees }) p.parent ∙ ap (λ k. record { parent = w.place; trees = k }) e;
      number = cc;
      stands = s;
      fits = fit;
      parent_there = subst (λ n. 0 < occurs n g) p.parent p.parent_there;
      parent_kind = subst (λ n. HasKind n p.kind g) p.parent p.parent_kind;
    }

-- What is told of the old nodes beside the copies.

next-older : (f g : Forest Content) → IsOnce f → (n : ℕ) → 0 < occurs n f → next_of (beside f g) n ≡ next_of f n
next-older f g o n h = ap (after n) (ap (list_under (entry_in (beside f g))) (ap parent_in (entry-beside f g n h)) ∙ under (parent_of f n) refl)
  where
    under : (q : Option ℕ) → parent_of f n ≡ q → list_under (entry_in (beside f g)) q ≡ list_under (entry_in f) q
    under None e = refl
    under (Some m) e = ap children_in (entry-beside f g m (parent-path f o n m h e).0)

-- a copy is of at least one node
pub some-copied : (f : Forest Content) → IsOnce f → (n : ℕ) → HasNode f n → (deep : Bool) → 0 < size (original deep n f)
some-copied f o n held true = let t = tree_of f o n (occurs-HasNode f n held) in omega (arith, ap (λ (g : Forest Content). size g) t.tree)
some-copied f o n held false = let t = tree_of f o n (occurs-HasNode f n held) in omega (arith, ap (λ (g : Forest Content). size (alone_of g)) t.tree)

-- The first copy.

module _ (old now : World) (h : IsWhole old) (n d : ℕ) (held : HasNode old.tree.forest n) (made : IfSome (entry_in old.tree.forest n) (λ e. Follows old now (made_node d e.value.label e.value.body))) where
  tree : Tree old.tree.forest n
  tree = tree_of old.tree.forest h.forest.once n (occurs-HasNode old.tree.forest n held)

  abbrev first_copy : Forest Content
  first_copy = node (record { number = old.tree.made; document = d; label = tree.top.label; body = tree.top.body }) empty empty

  told : Follows old now (made_node d tree.top.label tree.top.body)
  told = rw tree.entry at made

  made_now : old.tree.made + 1 ≡ now.tree.made
  made_now = (told.keeps (unwatched old) (keeps-unwatched old)).made

  single : Follows old now (with_trees first_copy now.tree.made)
  single =
      follows-same old now (made_node d tree.top.label tree.top.body) (with_trees first_copy now.tree.made)
      (λ w k.
      ap (λ (c : ℕ). record w { forest = beside w.forest (node (record { number = c; document = d; label = tree.top.label; body = tree.top.body }) empty empty); made = c + 1 }) k.made
      ∙ ap (λ (c : ℕ). with_trees first_copy c w) made_now)
      told

  heads : head_of (children_of now.tree.forest n) ≡ head_of (tops tree.kids)
  heads =
      let s = (single.keeps (unwatched old) (keeps-unwatched old)).forest in
      ap (λ (g : Forest Content). head_of (children_of g n)) (sym s)
      ∙ ap (λ e. head_of (children_in e)) (entry-beside old.tree.forest first_copy n (occurs-HasNode old.tree.forest n held) ∙ tree.entry)

  pub first-held : HasNode now.tree.forest n
  first-held =
      let s = (single.keeps (unwatched old) (keeps-unwatched old)).forest in
      let e : entry_in now.tree.forest n ≡ Some (record { value = tree.top; parent = tree.parent; children = tops tree.kids }) =
      ap (λ (g : Forest Content). entry_in g n) (sym s) ∙ entry-beside old.tree.forest first_copy n (occurs-HasNode old.tree.forest n held) ∙ tree.entry in
      rw e refl

  fits : KindsFit (Some tree.top.label.kind) tree.kids
  fits = let k = KindsFit-root None n old.tree.forest h.forest.kinds in let j = subst (λ (g : Forest Content). KindsFit None g) tree.tree k in j.1

  there : 0 < occurs old.tree.made first_copy
  there = elim (same_or old.tree.made old.tree.made) [ same e t ↦ rw t (omega arith) | apart ne t ↦ absurd (ne refl) ]

  under : placed_under old.tree.made None (renumbered d (old.tree.made + 1) tree.kids) first_copy ≡ renumbered d old.tree.made (node tree.top tree.kids empty)
  under = elim (same_or old.tree.made old.tree.made) [ same e t ↦ rw t refl | apart ne t ↦ absurd (ne refl) ]

  pub copying-starts : IsWhole now → IsCopying old n d now (waiting_from (head_of (children_of now.tree.forest n)) old.tree.made)
  copying-starts whole = record {
    copies = first_copy;
    parts = part_if old.tree.made tree.kids;
    follows = single;
    whole = whole;
    from = (omega arith, tt, tt);
    grows = omega (arith, made_now);
    owned = (refl, tt, tt);
    matched = rw heads (Match-wait old.tree.forest first_copy [] [] old.tree.made n None tree.top.label.kind tree.kids tt tree.stands fits there (λ e. refl, tt, tt));
    complete = ap (completed d (part_if old.tree.made tree.kids) first_copy) (sym made_now)
        ∙ completed-wait d [] old.tree.made tree.kids first_copy (old.tree.made + 1)
        ∙ under ∙ sym (ap (renumbered d old.tree.made) tree.tree);
    counted = omega (arith, made_now, sizes-wait [] old.tree.made tree.kids, ap (λ (g : Forest Content). size g) tree.tree);
  }

  -- where the copy is not deep it is all
  pub copied-alone : Follows old now (λ w. with_copies d (original false n w.forest) w)
  copied-alone =
      follows-same old now (with_trees first_copy now.tree.made) (λ w. with_copies d (original false n w.forest) w)
      (λ w k.
      let a : original false n w.forest ≡ node tree.top empty empty = ap (λ (g : Forest Content). alone_of (tree_at n g)) k.forest ∙ ap (λ (g : Forest Content). alone_of g) tree.tree in
      ap (λ (c : ℕ). with_trees first_copy c w) (sym made_now)
      ∙ ap (λ (c : ℕ). record w { forest = beside w.forest (node (record { number = c; document = d; label = tree.top.label; body = tree.top.body }) empty empty); made = c + 1 }) (sym k.made)
      ∙ ap (λ (g : Forest Content). with_copies d g w) (sym a))
      single

-- Nothing waits: the copy is whole.

pub copying-ends : (old : World) (n d : ℕ) (now : World) → IsCopying old n d now [] → Follows old now (λ w. with_copies d (original true n w.forest) w)
copying-ends old n d now i = go i.parts i.matched i.complete i.counted
  where
    go : (ts : List Part) → Match old.tree.forest i.copies [] ts → completed d ts i.copies now.tree.made ≡ renumbered d old.tree.made (tree_at n old.tree.forest) → now.tree.made + sizes ts ≡ old.tree.made + size (tree_at n old.tree.forest) → Follows old now (λ w. with_copies d (original true n w.forest) w)
    go (t ∷ ts) m e c = absurd m
    go [] m e c =
        follows-same old now (with_trees i.copies now.tree.made) (λ w. with_copies d (original true n w.forest) w)
        (λ w k.
        let same_trees : i.copies ≡ renumbered d w.made (tree_at n w.forest) = e ∙ ap (λ (m : ℕ). renumbered d m (tree_at n old.tree.forest)) (sym k.made) ∙ ap (λ (g : Forest Content). renumbered d w.made (tree_at n g)) (sym k.forest) in
        let same_size : now.tree.made ≡ w.made + size (tree_at n w.forest) = omega (arith, c, k.made, ap (λ (g : Forest Content). size (tree_at n g)) k.forest) in
        ap (λ (g : Forest Content). with_trees g now.tree.made w) same_trees
        ∙ ap (λ (m : ℕ). with_trees (renumbered d w.made (tree_at n w.forest)) m w) same_size)
        i.follows

-- One more copy.

has_kind-absent : (n : ℕ) (kind : Kind) (f : Forest Content) → occurs n f ≡ 0 → HasKind n kind f
has_kind-absent n kind empty z = tt
has_kind-absent n kind (node x kids rest) z =
    elim (same_or x.number n) [
      | same e t ↦ absurd (let i = rw t at z in omega arith)
      | apart ne t ↦ (let i = rw t at z in (λ e. absurd (ne e), has_kind-absent n kind kids (omega arith), has_kind-absent n kind rest (omega arith)))
    ]

-- the copy under which the next one is to stand
record Above (now : World) (parent d : ℕ) (kind : Kind) : Type 0 where
  entry : Entry (Node Content)
  is : entry_in now.tree.forest parent ≡ Some entry
  document : entry.value.document ≡ d
  is_kind : entry.value.label.kind ≡ kind

module _ (old : World) (h : IsWhole old) (n d : ℕ) (now : World) (ws : List (Waiting ℕ)) (w : Waiting ℕ) (i : IsCopying old n d now (ws ++ w ∷ [])) where
  popped : Popped old.tree.forest i.copies ws w i.parts
  popped = Match-pop old.tree.forest i.copies ws w i.parts i.matched

  fr : Front old.tree.forest i.copies w popped.part
  fr = front old.tree.forest i.copies w popped.part popped.last

  are : i.parts ≡ popped.others ++ record { parent = w.place; trees = node fr.x fr.kids fr.rest } ∷ []
  are = popped.are ∙ ap (λ t. popped.others ++ t ∷ []) fr.are

  spelled : beside old.tree.forest i.copies ≡ now.tree.forest
  spelled = (i.follows.keeps (unwatched old) (keeps-unwatched old)).forest

  entry_old : entry_in old.tree.forest w.first ≡ Some (record { value = fr.x; parent = Some fr.above; children = tops fr.kids })
  entry_old = subst (λ m. entry_in old.tree.forest m ≡ Some (record { value = fr.x; parent = Some fr.above; children = tops fr.kids })) fr.number fr.stands.0

  original_there : 0 < occurs w.first old.tree.forest
  original_there = occurs-HasNode old.tree.forest w.first (rw entry_old refl)

  entry_now : entry_in now.tree.forest w.first ≡ Some (record { value = fr.x; parent = Some fr.above; children = tops fr.kids })
  entry_now = ap (λ (g : Forest Content). entry_in g w.first) (sym spelled) ∙ entry-beside old.tree.forest i.copies w.first original_there ∙ entry_old

  pub next-held : HasNode now.tree.forest w.first
  next-held = rw entry_now refl

  parent_low : old.tree.made ≤ w.place
  parent_low =
      ⊎_elim
      (λ (lt : w.place < old.tree.made). absurd (let z = absent-from old.tree.made w.place i.copies i.from lt in omega (arith, z, fr.parent_there)))
      (λ (le : old.tree.made ≤ w.place). le)
      (cases_lt w.place old.tree.made)

  in_both : (m : ℕ) → occurs m now.tree.forest ≡ occurs m old.tree.forest + occurs m i.copies
  in_both m = ap (λ (g : Forest Content). occurs m g) (sym spelled) ∙ total-beside (one_at m) old.tree.forest i.copies

  parent_high : w.place < now.tree.made
  parent_high =
      ⊎_elim
      (λ (lt : w.place < now.tree.made). lt)
      (λ (le : now.tree.made ≤ w.place). absurd (let z = i.whole.forest.small w.place le in omega (arith, z, in_both w.place, fr.parent_there)))
      (cases_lt w.place now.tree.made)

  new : occurs now.tree.made i.copies ≡ 0
  new = omega (arith, i.whole.forest.small now.tree.made (omega arith), in_both now.tree.made)

  entry_parent : entry_in now.tree.forest w.place ≡ entry_in i.copies w.place
  entry_parent = ap (λ (g : Forest Content). entry_in g w.place) (sym spelled) ∙ entry-younger w.place old.tree.forest i.copies (h.forest.small w.place parent_low)

  above_it : Above now w.place d fr.kind
  above_it =
      elim (seen (entry_in i.copies w.place)) [
        | nothing e ↦ absurd (let k : is_some (entry_in i.copies w.place) ≡ true = HasNode-occurs i.copies w.place fr.parent_there in let j = rw e at k in false≢true j)
        | just a e ↦
            let j = each-entry (λ x. x.document ≡ d) None w.place i.copies i.owned in
            let k = each-entry (λ x. x.number ≡ w.place → x.label.kind ≡ fr.kind) None w.place i.copies fr.parent_kind in
            let j2 = rw e at j in
            let k2 = rw e at k in
            record { entry = a; is = entry_parent ∙ e; document = j2.0; is_kind = k2.0 k2.1 }
      ]

  pub parent-held : HasNode now.tree.forest w.place
  parent-held = let a = above_it in rw a.is refl

  pub may-stand : MayStand now.tree.forest w.place w.first
  may-stand =
      let a = above_it in
      let k : may_stand_in a.entry.value.label.kind fr.x.label.kind ≡ true = ap (λ q. may_stand_in q fr.x.label.kind) a.is_kind ∙ fr.fits.0 in
      rw (a.is, entry_now) k

  -- while one waits, copies are still to come
  pub more-to_come : now.tree.made < old.tree.made + size (tree_at n old.tree.forest)
  more-to_come = omega (arith, i.counted, ap (λ ts. sizes ts) are, sizes-push popped.others (record { parent = w.place; trees = node fr.x fr.kids fr.rest }))

  module _ (next : World) (copied : IfSome (entry_in now.tree.forest w.place) (λ p. IfSome (entry_in now.tree.forest w.first) (λ e. Follows now next (made_under w.place p.value.document e.value)))) where
    abbrev copy_here : Node Content
    copy_here = record { number = now.tree.made; document = d; label = fr.x.label; body = fr.x.body }

    abbrev more : Forest Content
    more = placed_under w.place None (node copy_here empty empty) i.copies

    told_next : Follows now next (made_under w.place d fr.x)
    told_next =
        let a = above_it in
        let k : Follows now next (made_under w.place a.entry.value.document fr.x) = rw (a.is, entry_now) at copied in
        subst (λ m. Follows now next (made_under w.place m fr.x)) a.document k

    pub next-made : now.tree.made + 1 ≡ next.tree.made
    next-made = (told_next.keeps (unwatched now) (keeps-unwatched now)).made

    follows_next : Follows old next (with_trees more next.tree.made)
    follows_next =
        follows-same old next (λ v. made_under w.place d fr.x (with_trees i.copies now.tree.made v)) (with_trees more next.tree.made)
        (λ v k.
        ap (λ (g : Forest Content). record v { forest = g; made = now.tree.made + 1 })
        (put-grown old.tree.made w.place copy_here v.forest i.copies parent_low (omega (arith, parent_low, parent_high)) (λ m l. ap (λ (g : Forest Content). occurs m g) k.forest ∙ h.forest.small m l) new)
        ∙ ap (λ (c : ℕ). with_trees more c v) next-made)
        (follows-then old now next (with_trees i.copies now.tree.made) (made_under w.place d fr.x) i.follows told_next)

    spelled_next : beside old.tree.forest more ≡ next.tree.forest
    spelled_next = (follows_next.keeps (unwatched old) (keeps-unwatched old)).forest

    next-told : next_of next.tree.forest w.first ≡ head_of (tops fr.rest)
    next-told =
        ap (λ (g : Forest Content). next_of g w.first) (sym spelled_next)
        ∙ next-older old.tree.forest more h.forest.once w.first original_there
        ∙ subst (λ k. next_of old.tree.forest k ≡ head_of (tops fr.rest)) fr.number fr.stands.1

    entry_next : entry_in next.tree.forest w.first ≡ Some (record { value = fr.x; parent = Some fr.above; children = tops fr.kids })
    entry_next = ap (λ (g : Forest Content). entry_in g w.first) (sym spelled_next) ∙ entry-beside old.tree.forest more w.first original_there ∙ entry_old

    pub original-held : HasNode next.tree.forest w.first
    original-held = rw entry_next refl

    counts : (m : ℕ) → occurs m more ≡ occurs m i.copies + occurs w.place i.copies * occurs m (node copy_here empty empty)
    counts m = total-placed_under (one_at m) w.place None (node copy_here empty empty) i.copies

    stay : (m : ℕ) → 0 < occurs m i.copies → 0 < occurs m more
    stay m l = omega (arith, counts m, l)

    kinds_stay : (m : ℕ) (kind : Kind) → 0 < occurs m i.copies → HasKind m kind i.copies → HasKind m kind more
    kinds_stay m kind l k =
        EachNode-placed_under (λ x. x.number ≡ m → x.label.kind ≡ kind) w.place None (node copy_here empty empty) i.copies
        (λ e. absurd (let z : occurs m i.copies ≡ 0 = ap (λ c. occurs c i.copies) (sym e) ∙ new in omega (arith, z, l)), tt, tt)
        k

    new_there : 0 < occurs now.tree.made more
    new_there =
        let c = counts now.tree.made in
        let one : occurs now.tree.made (node copy_here empty empty) ≡ 1 = elim (same_or now.tree.made now.tree.made) [ same e t ↦ rw t refl | apart ne t ↦ absurd (ne refl) ] in
        let c2 = rw one at c in
        omega (arith, c2, fr.parent_there)

    new_kind : HasKind now.tree.made fr.x.label.kind more
    new_kind =
        EachNode-placed_under (λ x. x.number ≡ now.tree.made → x.label.kind ≡ fr.x.label.kind) w.place None (node copy_here empty empty) i.copies
        (λ e. refl, tt, tt) (has_kind-absent now.tree.made fr.x.label.kind i.copies new)

    matched_next : Match old.tree.forest more ((ws ++ waiting_from (head_of (tops fr.rest)) w.place) ++ waiting_from (head_of (tops fr.kids)) now.tree.made) ((popped.others ++ part_if w.place fr.rest) ++ part_if now.tree.made fr.kids)
    matched_next =
        let f = old.tree.forest in
        let others = Match-more f i.copies more stay kinds_stay ws popped.others popped.matched in
        let beside_it = Match-wait f more ws popped.others w.place fr.above (Some fr.x.number) fr.kind fr.rest others fr.stands.4 fr.fits.2 (stay w.place fr.parent_there) (kinds_stay w.place fr.kind fr.parent_there fr.parent_kind) in
        Match-wait f more (ws ++ waiting_from (head_of (tops fr.rest)) w.place) (popped.others ++ part_if w.place fr.rest) now.tree.made fr.x.number None fr.x.label.kind fr.kids beside_it fr.stands.3 fr.fits.1 new_there new_kind

    pub copying-goes_on : IsWhole next → IsCopying old n d next ((ws ++ waiting_from (next_of next.tree.forest w.first) w.place) ++ waiting_from (head_of (children_of next.tree.forest w.first)) now.tree.made)
    copying-goes_on whole = record {
      copies = more;
      parts = (popped.others ++ part_if w.place fr.rest) ++ part_if now.tree.made fr.kids;
      follows = follows_next;
      whole = whole;
      from = EachNode-placed_under (IsFrom old.tree.made) w.place None (node copy_here empty empty) i.copies (omega (arith, parent_low, parent_high), tt, tt) i.from;
      grows = omega (arith, i.grows, next-made);
      owned = EachNode-placed_under (λ x. x.document ≡ d) w.place None (node copy_here empty empty) i.copies (refl, tt, tt) i.owned;
      matched = rw (next-told, ap (λ e. head_of (children_in e)) entry_next) matched_next;
      complete = ap (completed d ((popped.others ++ part_if w.place fr.rest) ++ part_if now.tree.made fr.kids) more) (sym next-made)
          ∙ completed-step d w.place now.tree.made fr.x fr.kids fr.rest popped.others i.copies new parent_high
          ∙ ap (λ ts. completed d ts i.copies now.tree.made) (sym are)
          ∙ i.complete;
      counted =
          omega (
            arith,
            next-made,
            i.counted,
            ap (λ ts. sizes ts) are,
            sizes-push popped.others (record { parent = w.place; trees = node fr.x fr.kids fr.rest }),
            sizes-wait (popped.others ++ part_if w.place fr.rest) now.tree.made fr.kids,
            sizes-wait popped.others w.place fr.rest,
          );
    }
