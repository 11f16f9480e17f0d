-- The memory after `link`, `unlink` and a value written.
use Rattle.std.proofs.Common.{◌≡◌, ℕ, ◌+◌, ◌-◌, ◌≤◌, Bool, true, false, cond, eqb, List, [], ◌∷◌, length, Option, Some, None, refl, sym, ap, ◌∙◌, subst, ⊎_elim, arith, reverse, IsSome, IfSome, option_map}
use Rattle.std.proofs.lemmas.{Bool.cases_Bool, Bool.cases_eq, Bool.eq-eqb, Bool.ne_eqb, Bool.false≢true, List.get_or_past}
use Rattle.dom_links.proofs.{ListLengthLemmas.length-le_from_once, UnlinkLemmas.hits-le, UnlinkLemmas.next-cut, UnlinkLemmas.previous-cut, UnlinkLemmas.first-cut, UnlinkLemmas.last-cut, UnlinkLemmas.length-cut, UnlinkLemmas.once, UnlinkLemmas.next-join, UnlinkLemmas.previous-join, UnlinkLemmas.first-join, UnlinkLemmas.last-join, UnlinkLemmas.length-join, ArenaMemoryLemmas.Known, ArenaMemoryLemmas.known_child, ArenaMemoryLemmas.held-parent, ArenaMemoryLemmas.known_parent, ArenaMemoryLemmas.known_next, ArenaMemoryLemmas.known_previous, ArenaMemoryLemmas.known_last, ArenaMemoryLemmas.found_in, ArenaMemoryLemmas.held_entry, ArenaMemoryLemmas.node_of, ArenaMemoryLemmas.place_held, NodeReadLemmas.Reads, NodeReadLemmas.reads, NodeReadLemmas.count_read, NodeReadLemmas.parent_link, NodeReadLemmas.previous_link, NodeReadLemmas.next_link, NodeReadLemmas.last_link, ChangedMemoryLemmas.rewired, ChangedMemoryLemmas.IsLinked-cut, ChangedMemoryLemmas.entries-unlinked, ChangedMemoryLemmas.cut-unlinked, ChangedMemoryLemmas.unlinked_is, ChangedMemoryLemmas.IsLinked-linked, ChangedMemoryLemmas.entries-linked, ChangedMemoryLemmas.cut-linked, ChangedMemoryLemmas.next-linked, ChangedMemoryLemmas.previous-linked, ChangedMemoryLemmas.new_previous, ArenaAgainLemmas.Closes, ArenaAgainLemmas.closes, ArenaAgainLemmas.length-altered, ArenaAgainLemmas.leads_to-link_in, ArenaAgainLemmas.leads_to-link_unless, ArenaAgainLemmas.restands}
use denote.RawPtr.{Ptr}
use Rattle.dom_model.specs.Definitions.{hits, is_number, head_of, last_of, entered, left_out, Entry, Arena, names, entry_at, parent_in, children_in, next_in, previous_in, with_parent, with_children, altered, linked, unlinked, unlinked_from, IsLinked}
use Rattle.dom_links.specs.{Cells.same_ptr, Cells.look, declared.node.Node.Node, ArenaMemory.pointer_in, ArenaMemory.link_in, ArenaMemory.node_behind, ArenaMemory.node_in, ArenaMemory.wired, ArenaMemory.Stands, LinkSteps.link_or, LinkSteps.leads_to, LinkSteps.link_unless, LinkSteps.link_ahead, LinkSteps.with_next, LinkSteps.with_previous, LinkSteps.recounted, LinkSteps.with_links}

link_in-cond : (ps : List (Option Ptr)) (b : Bool) (x y : Option ℕ) → link_in ps (cond b x y) ≡ cond b (link_in ps x) (link_in ps y)
link_in-cond ps true x y = refl
link_in-cond ps false x y = refl

link_in-cond2 : (ps : List (Option Ptr)) (b d : Bool) (x y z : Option ℕ) → link_in ps (cond b x (cond d y z)) ≡ cond b (link_in ps x) (cond d (link_in ps y) (link_in ps z))
link_in-cond2 ps true d x y z = refl
link_in-cond2 ps false d x y z = link_in-cond ps d y z

length-cond : (b : Bool) (x y : List ℕ) → length (cond b x y) ≡ cond b (length x) (length y)
length-cond true x y = refl
length-cond false x y = refl

pub hits-le-length : (n : ℕ) (xs : List ℕ) → hits n xs ≤ length xs
hits-le-length n [] = omega arith
hits-le-length n (x ∷ xs) = ⊎_elim (λ (e : eqb x n ≡ true). rw e (omega (arith, hits-le-length n xs))) (λ (e : eqb x n ≡ false). rw e (omega (arith, hits-le-length n xs))) (cases_Bool (eqb x n))

record Number (o : Option ℕ) : Type 0 where
  number : ℕ
  is : o ≡ Some number

number_of : (o : Option ℕ) → IsSome o → Number o
number_of None h = cc
number_of (Some n) h = record { number = n; is = refl }

module _ {T : Type 0} where
  pub same_node : {n m : Node T} → n.slot ≡ m.slot → n.count ≡ m.count → n.parent ≡ m.parent → n.prev ≡ m.prev → n.next ≡ m.next → n.first ≡ m.first → n.last ≡ m.last → n.value ≡ m.value → n ≡ m
  same_node slot count parent prev next first last value = λ i. record {
    slot = slot i;
    count = count i;
    parent = parent i;
    prev = prev i;
    next = next i;
    first = first i;
    last = last i;
    value = value i;
  }

  pub mapped : (f g : Node T → Node T) (x y z : Option (Node T)) → y ≡ option_map f x → z ≡ option_map g y → z ≡ option_map (λ (m : Node T). g (f m)) x
  mapped f g x y z d e = e ∙ (ap (option_map g) d ∙ twice x)
    where
      twice : (o : Option (Node T)) → option_map g (option_map f o) ≡ option_map (λ (m : Node T). g (f m)) o
      twice None = refl
      twice (Some m) = refl

  -- the four writes, as one step
  abbrev pub rewrite_node : Ptr → Ptr → ℕ → Option Ptr → Option Ptr → Option Ptr → Option Ptr → Option Ptr → Option Ptr → Option Ptr → Ptr → Node T → Node T
  rewrite_node ptr top count prev next after_prev before_next new_parent new_prev new_next q m =
      with_links ptr new_parent new_prev new_next q (recounted top count q (with_previous top next before_next q (with_next top prev after_prev q m)))

  pub known_one : (at : ℕ → Option (Entry T)) (k : ℕ) → IsSome (at k) → Known at (Some k)
  known_one at k h n e = let f : k ≡ n = cc in subst (λ m. IsSome (at m)) f h

  -- what the tests of the four writes say at the node of a slot
  module _ (ps : List (Option Ptr)) (cs : List (Ptr × Node T)) (a : Arena T) (s : Stands ps cs a) (c p : ℕ) (ptr top : Ptr)
      (held_c : IsSome (entry_at a c)) (held_p : IsSome (entry_at a p)) (at_c : pointer_in ps c ≡ Some ptr) (at_p : pointer_in ps p ≡ Some top)
      (P N : Option ℕ) (known_P : Known (entry_at a) P) (known_N : Known (entry_at a) N) (prev next : Option Ptr) (prev_is : prev ≡ link_in ps P) (next_is : next ≡ link_in ps N) where
    record Tests (i : ℕ) (q : Ptr) : Type 0 where
      child : same_ptr ptr q ≡ eqb c i
      parent : same_ptr top q ≡ eqb p i
      before : leads_to prev q ≡ is_number P i
      after : leads_to next q ≡ is_number N i
      first : leads_to (link_unless prev top) q ≡ is_number (link_unless P p) i
      last : leads_to (link_unless next top) q ≡ is_number (link_unless N p) i

    tests : (i : ℕ) (q : Ptr) → IsSome (entry_at a i) → pointer_in ps i ≡ Some q → Tests i q
    tests i q h e = record {
      child = ap (λ l. leads_to l q) (sym at_c) ∙ leads_to-link_in ps cs cs a s (Some c) i q (known_one (entry_at a) c held_c) h e;
      parent = ap (λ l. leads_to l q) (sym at_p) ∙ leads_to-link_in ps cs cs a s (Some p) i q (known_one (entry_at a) p held_p) h e;
      before = ap (λ l. leads_to l q) prev_is ∙ leads_to-link_in ps cs cs a s P i q known_P h e;
      after = ap (λ l. leads_to l q) next_is ∙ leads_to-link_in ps cs cs a s N i q known_N h e;
      first = ap (λ l. leads_to (link_unless l top) q) prev_is ∙ leads_to-link_unless ps cs cs a s P p i q top known_P held_p at_p h e;
      last = ap (λ l. leads_to (link_unless l top) q) next_is ∙ leads_to-link_unless ps cs cs a s N p i q top known_N held_p at_p h e;
    }

    -- the links that a change is to give, at the node of each slot
    module _ (at' : ℕ → Option (Entry T)) (new_parent new_prev new_next new_after new_before : Option ℕ) (count : ℕ) (f : List ℕ → List ℕ)
        (entries : (i : ℕ) → at' i ≡ option_map (rewired f new_parent c p i) (entry_at a i))
        (nexts : (i : ℕ) → next_in at' i ≡ cond (eqb c i) new_next (cond (is_number P i) new_after (next_in (entry_at a) i)))
        (previouses : (i : ℕ) → previous_in at' i ≡ cond (eqb c i) new_prev (cond (is_number N i) new_before (previous_in (entry_at a) i)))
        (firsts : (i : ℕ) → head_of (children_in (at' i)) ≡ cond (is_number (link_unless P p) i) new_after (head_of (children_in (entry_at a i))))
        (lasts : (i : ℕ) → last_of (children_in (at' i)) ≡ cond (is_number (link_unless N p) i) new_before (last_of (children_in (entry_at a i))))
        (counts : (i : ℕ) → length (children_in (at' i)) ≡ cond (eqb p i) count (length (children_in (entry_at a i)))) where
      rewritten : (i : ℕ) (q : Ptr) (e : Entry T) → pointer_in ps i ≡ Some q → entry_at a i ≡ Some e
          → rewrite_node ptr top count prev next (link_in ps new_after) (link_in ps new_before) (link_in ps new_parent) (link_in ps new_prev) (link_in ps new_next) q (wired ps (entry_at a) i e) ≡ wired ps at' i (rewired f new_parent c p i e)
      rewritten i q e g h =
          let t = tests i q (rw h) g in
          let e' = rewired f new_parent c p i e in
          let kids' : children_in (at' i) ≡ e'.children = ap children_in (entries i ∙ ap (option_map (rewired f new_parent c p i)) h) in
          let kids : children_in (entry_at a i) ≡ e.children = ap children_in h in
          same_node refl
          (ap (λ b. cond b count (length e.children)) t.parent ∙ (ap (λ xs. cond (eqb p i) count (length xs)) (sym kids) ∙ (sym (counts i) ∙ ap length kids')))
          (ap (λ b. cond b (link_in ps new_parent) (link_in ps e.parent)) t.child ∙ sym (link_in-cond ps (eqb c i) new_parent e.parent))
          (rw (t.child, t.after) (sym (ap (link_in ps) (previouses i) ∙ link_in-cond2 ps (eqb c i) (is_number N i) new_prev new_before (previous_in (entry_at a) i))))
          (rw (t.child, t.before) (sym (ap (link_in ps) (nexts i) ∙ link_in-cond2 ps (eqb c i) (is_number P i) new_next new_after (next_in (entry_at a) i))))
          (rw t.first (sym (ap (λ xs. link_in ps (head_of xs)) (sym kids') ∙ (ap (link_in ps) (firsts i ∙ ap (λ xs. cond (is_number (link_unless P p) i) new_after (head_of xs)) kids) ∙ link_in-cond ps (is_number (link_unless P p) i) new_after (head_of e.children)))))
          (rw t.last (sym (ap (λ xs. link_in ps (last_of xs)) (sym kids') ∙ (ap (link_in ps) (lasts i ∙ ap (λ xs. cond (is_number (link_unless N p) i) new_before (last_of xs)) kids) ∙ link_in-cond ps (is_number (link_unless N p) i) new_before (last_of e.children)))))
          refl

  -- what a step changes, seen at each place
  pub record Writes (F : Ptr → Node T → Node T) (cs cs' : List (Ptr × Node T)) : Type 0 where
    pub looks : (q : Ptr) → look q cs' ≡ option_map (F q) (look q cs)
    pub many : length cs' ≡ length cs

  pub kept : (F : Ptr → Node T → Node T) (cs cs' : List (Ptr × Node T)) → ((q : Ptr) → look q cs' ≡ option_map (F q) (look q cs)) → (q : Ptr) → IsSome (look q cs) → IsSome (look q cs')
  kept F cs cs' looks q h = rw (looks q) (some (look q cs) h)
    where
      some : (o : Option (Node T)) → IsSome o → IsSome (option_map (F q) o)
      some None h = cc
      some (Some m) h = refl

  pub link_found : (cs : List (Ptr × Node T)) (o : Option Ptr) (top : Ptr) → ((q : Ptr) → o ≡ Some q → IsSome (look q cs)) → IsSome (look top cs) → IsSome (look (link_or o top) cs)
  link_found cs None top f h = h
  link_found cs (Some q) top f h = f q refl

  module _ (ps : List (Option Ptr)) (cs : List (Ptr × Node T)) (v : Arena T) where
    -- the node of a slot, by its place
    pub record Lies (k : ℕ) (ptr : Ptr) (n : Node T) : Type 0 where
      pub reads : Reads ps cs v k n
      pub held : IsSome (entry_at v k)
      pub at : pointer_in ps k ≡ Some ptr
      pub found : look ptr cs ≡ Some n

    pub lies_at : Stands ps cs v → (k : ℕ) (ptr : Ptr) (n : Node T) → IsSome (entry_at v k) → pointer_in ps k ≡ Some ptr → look ptr cs ≡ Some n → Lies k ptr n
    lies_at s k ptr n h at found = record { reads = reads s refl refl h (ap (node_behind cs) at ∙ found); held = h; at = at; found = found }

    pub lies_from : {a : Arena T} {i : ℕ} (k : ℕ) (ptr : Ptr) (n : Node T) → Stands ps cs a → a ≡ v → i ≡ k → IsSome (entry_at v k) → pointer_in ps i ≡ Some ptr → look ptr cs ≡ Some n → Lies k ptr n
    lies_from k ptr n s view number h at found = lies_at (subst (λ (b : Arena T). Stands ps cs b) view s) k ptr n h (subst (λ j. pointer_in ps j ≡ Some ptr) number at) found

    -- a child and its parent
    pub record IsChild (c : ℕ) (ptr : Ptr) (n : Node T) : Type 0 where
      pub child : Lies c ptr n
      pub parent : ℕ
      pub under : parent_in (entry_at v c) ≡ Some parent

    pub child_from : {a : Arena T} {i : ℕ} (c : ℕ) (ptr : Ptr) (n : Node T) → Stands ps cs a → a ≡ v → i ≡ c → IsSome (parent_in (entry_at v c)) → pointer_in ps i ≡ Some ptr → look ptr cs ≡ Some n → IsChild c ptr n
    child_from c ptr n s view number h at found =
        let p = number_of (parent_in (entry_at v c)) h in
        record { child = lies_from c ptr n s view number (held-parent (entry_at v c) p.number p.is) at found; parent = p.number; under = p.is }

    pub parent_held : (c : ℕ) (ptr : Ptr) (n : Node T) (k : IsChild c ptr n) → IsSome (entry_at v k.parent)
    parent_held c ptr n k = known_parent (entry_at v) k.child.reads.stands.sound.linked c k.parent k.under

    pub parent_place : (c : ℕ) (ptr : Ptr) (n : Node T) (k : IsChild c ptr n) → pointer_in ps k.parent ≡ n.parent
    parent_place c ptr n k = sym (parent_link k.child.reads ∙ ap (link_in ps) k.under)

    pub has_parent : (c : ℕ) (ptr : Ptr) (n : Node T) → IsChild c ptr n → IsSome n.parent
    has_parent c ptr n k = rw (← parent_place c ptr n k) (place_held ps cs v k.child.reads.stands k.parent (parent_held c ptr n k))

    pub parent_lies : (c : ℕ) (ptr top : Ptr) (n t : Node T) (k : IsChild c ptr n) → n.parent ≡ Some top → look top cs ≡ Some t → Lies k.parent top t
    parent_lies c ptr top n t k up found = lies_at k.child.reads.stands k.parent top t (parent_held c ptr n k) (parent_place c ptr n k ∙ up) found

    pub parent_count : (c : ℕ) (ptr top : Ptr) (n t : Node T) (k : IsChild c ptr n) → n.parent ≡ Some top → look top cs ≡ Some t → t.count ≡ length (children_in (entry_at v k.parent))
    parent_count c ptr top n t k up found = count_read (parent_lies c ptr top n t k up found).reads

    pub counted : (c : ℕ) (ptr top : Ptr) (n t : Node T) → IsChild c ptr n → n.parent ≡ Some top → look top cs ≡ Some t → 1 ≤ t.count
    counted c ptr top n t k up found =
        let l = k.child.reads.stands.sound.linked in
        let xs = children_in (entry_at v k.parent) in
        omega (arith, hits-le-length c xs, once (entry_at v) (entry_at (unlinked_from (Some k.parent) v c)) c k.parent (cut-unlinked v c k.parent l k.under), parent_count c ptr top n t k up found)

    past_none : (i : ℕ) → length v.slots ≤ i → IsSome (entry_at v i) → ⊥
    past_none i h k =
        let past : entry_at v i ≡ None = get_or_past v.slots i None h in
        let j : IsSome {T = Entry T} None = rw past at k in
        false≢true j

    -- with one that has no parent there are no more children than slots
    pub children_fewer : (p c : ℕ) (top : Ptr) (t : Node T) → Lies p top t → IsSome (entry_at v c) → parent_in (entry_at v c) ≡ None → t.count + 1 ≤ length ps
    children_fewer p c top t lies held_c root =
        let s = lies.reads.stands in
        let l = s.sound.linked in
        let xs = children_in (entry_at v p) in
        let out : hits c xs ≡ 0 = l p c ∙ ap (λ o. names o p) root in
        let few : length (c ∷ xs) ≤ length v.slots = length-le_from_once (length v.slots) (c ∷ xs)
        (λ i. ⊎_elim (λ (e : c ≡ i). rw (eq-eqb c i e) (let z : hits i xs ≡ 0 = rw (← e) out in omega arith))
        (λ (d : c ≡ i → ⊥). rw (ne_eqb c i d) (omega (arith, hits-le (entry_at v) l p i))) (cases_eq c i))
        (λ i h. ⊎_elim (λ (e : c ≡ i). absurd (past_none i h (subst (λ j. IsSome (entry_at v j)) e held_c)))
        (λ (d : c ≡ i → ⊥). rw (ne_eqb c i d) (⊎_elim (λ (z : hits i xs ≡ 0). omega arith)
        (λ (n : hits i xs ≡ 0 → ⊥). absurd (past_none i h (known_child (entry_at v) l p i (omega arith)))) (cases_eq (hits i xs) 0))) (cases_eq c i)) in
        omega (arith, count_read lies.reads, s.long, few)

    pub known_new : (p : ℕ) (b : Option ℕ) → IsLinked (entry_at v) → Known (entry_at v) (new_previous (entry_at v) p b)
    known_new p None l = known_last (entry_at v) l p
    known_new p (Some m) l = known_previous (entry_at v) l m

    -- the link that is read before a new child is linked
    pub new_link : (p : ℕ) (top : Ptr) (t : Node T) (b : Option ℕ) (next prev : Option Ptr) → Lies p top t → ((m : ℕ) → b ≡ Some m → parent_in (entry_at v m) ≡ Some p) → next ≡ link_in ps b
        → IfSome (look (link_or next top) cs) (λ n. prev ≡ link_ahead next n) → prev ≡ link_in ps (new_previous (entry_at v) p b)
    new_link p top t None next prev lies under is h =
        let k : IfSome (look top cs) (λ n. prev ≡ n.last) = subst (λ (o : Option Ptr). IfSome (look (link_or o top) cs) (λ (n : Node T). prev ≡ link_ahead o n)) is h in
        let j : prev ≡ t.last = subst (λ (o : Option (Node T)). IfSome o (λ (n : Node T). prev ≡ n.last)) lies.found k in
        j ∙ last_link lies.reads
    new_link p top t (Some m) next prev lies under is h =
        let s = lies.reads.stands in
        let e = held_entry (entry_at v m) (held-parent (entry_at v m) p (under m refl)) in
        at_place (pointer_in ps m) refl (place_held ps cs v s m (rw e.is)) e.entry (node_of ps cs v s m e.entry e.is)
      where
        at_place : (o : Option Ptr) → pointer_in ps m ≡ o → IsSome o → (e : Entry T) → node_in ps cs m ≡ Some (wired ps (entry_at v) m e) → prev ≡ link_in ps (previous_in (entry_at v) m)
        at_place None g held e n = cc
        at_place (Some q) g held e n =
            let k : IfSome (look q cs) (λ n. prev ≡ n.prev) = subst (λ (o : Option Ptr). IfSome (look (link_or o top) cs) (λ (n : Node T). prev ≡ link_ahead o n)) (is ∙ g) h in
            let found : look q cs ≡ Some (wired ps (entry_at v) m e) = ap (node_behind cs) (sym g) ∙ n in
            subst (λ (o : Option (Node T)). IfSome o (λ (n : Node T). prev ≡ n.prev)) found k

    pub new_found : (p : ℕ) (top : Ptr) (t : Node T) (b : Option ℕ) (prev : Option Ptr) → Lies p top t → prev ≡ link_in ps (new_previous (entry_at v) p b) → IsSome (look (link_or prev top) cs)
    new_found p top t b prev lies is =
        link_found cs prev top (λ q e. found_in ps cs v lies.reads.stands (new_previous (entry_at v) p b) (known_new p b lies.reads.stands.sound.linked) q (sym is ∙ e)) (rw lies.found)

    module _ (cs1 cs2 cs3 cs4 : List (Ptr × Node T)) (free : List ℕ) (free_is : v.free ≡ reverse free) where
      composed : (F1 F2 F3 F4 : Ptr → Node T → Node T) → Writes F1 cs cs1 → Writes F2 cs1 cs2 → Writes F3 cs2 cs3 → Writes F4 cs3 cs4 → Writes (λ q m. F4 q (F3 q (F2 q (F1 q m)))) cs cs4
      composed F1 F2 F3 F4 w1 w2 w3 w4 = record {
        looks = λ q. mapped (λ m. F3 q (F2 q (F1 q m))) (F4 q) (look q cs) (look q cs3) (look q cs4)
            (mapped (λ m. F2 q (F1 q m)) (F3 q) (look q cs) (look q cs2) (look q cs3) (mapped (F1 q) (F2 q) (look q cs) (look q cs1) (look q cs2) (w1.looks q) (w2.looks q)) (w3.looks q)) (w4.looks q);
        many = w4.many ∙ (w3.many ∙ (w2.many ∙ w1.many));
      }

      pub unlink_closes : (c : ℕ) (ptr top : Ptr) (n t : Node T) (count : ℕ) → IsChild c ptr n → n.parent ≡ Some top → look top cs ≡ Some t → count ≡ t.count - 1
          → Writes (with_next top n.prev n.next) cs cs1 → Writes (with_previous top n.next n.prev) cs1 cs2 → Writes (recounted top count) cs2 cs3 → Writes (with_links ptr None None None) cs3 cs4 → Closes ps cs4 free (unlinked v c)
      unlink_closes c ptr top n t count k up found less w1 w2 w3 w4 =
          let at = entry_at v in
          let s = k.child.reads.stands in
          let l = s.sound.linked in
          let p = k.parent in
          let a' = unlinked_from (Some p) v c in
          let cut = cut-unlinked v c p l k.under in
          let top_lies = parent_lies c ptr top n t k up found in
          let prev_is = previous_link k.child.reads in
          let next_is = next_link k.child.reads in
          let count_is : count ≡ length (children_in (at p)) - 1 = less ∙ ap (λ m. m - 1) (parent_count c ptr top n t k up found) in
          let w = composed (with_next top n.prev n.next) (with_previous top n.next n.prev) (recounted top count) (with_links ptr None None None) w1 w2 w3 w4 in
          let same = rewritten ps cs v s c p ptr top k.child.held top_lies.held k.child.at top_lies.at (previous_in at c) (next_in at c) (known_previous at l c) (known_next at l c) n.prev n.next prev_is next_is
          (entry_at a') None None None (next_in at c) (previous_in at c) count (left_out c) (entries-unlinked v c p l k.under)
          (next-cut at (entry_at a') c p cut) (previous-cut at (entry_at a') c p cut) (first-cut at (entry_at a') c p cut) (last-cut at (entry_at a') c p cut)
          (λ i. length-cut at (entry_at a') c p cut i ∙ ap (λ m. cond (eqb p i) m (length (children_in (at i)))) (sym count_is)) in
          let stands : Stands ps cs4 a' = restands ps cs cs4 v s (rewrite_node ptr top count n.prev n.next n.next n.prev None None None) w.looks a' (rewired (left_out c) None c p) (entries-unlinked v c p l k.under)
          (λ i q e g h. ap (λ (o : Option Ptr). rewrite_node ptr top count n.prev n.next o n.prev None None None q (wired ps at i e)) next_is
          ∙ (ap (λ (o : Option Ptr). rewrite_node ptr top count n.prev n.next (link_in ps (next_in at c)) o None None None q (wired ps at i e)) prev_is ∙ same i q e g h)) w.many refl
          (length-altered (λ (e : Entry T). with_children (left_out c e.children) e) (altered (with_parent None) v c) p ∙ length-altered (with_parent None) v c) (IsLinked-cut at (entry_at a') c p cut) in
          subst (λ (b : Arena T). Closes ps cs4 free b) (sym (unlinked_is v c p l k.under)) (closes free stands free_is)

      pub link_closes : (p c : ℕ) (b : Option ℕ) (top ptr : Ptr) (t : Node T) (above below prev next : Option Ptr) (count : ℕ) → Lies p top t → IsSome (entry_at v c) → pointer_in ps c ≡ Some ptr → parent_in (entry_at v c) ≡ None
          → ((m : ℕ) → b ≡ Some m → parent_in (entry_at v m) ≡ Some p) → above ≡ pointer_in ps p → below ≡ pointer_in ps c → prev ≡ link_in ps (new_previous (entry_at v) p b) → next ≡ link_in ps b → count ≡ t.count + 1
          → Writes (with_next top prev below) cs cs1 → Writes (with_previous top next below) cs1 cs2 → Writes (recounted top count) cs2 cs3 → Writes (with_links ptr above prev next) cs3 cs4 → Closes ps cs4 free (linked v p c b)
      link_closes p c b top ptr t above below prev next count lies held_c at_c root under above_is below_is prev_is next_is more w1 w2 w3 w4 =
          let at = entry_at v in
          let s = lies.reads.stands in
          let l = s.sound.linked in
          let a' = linked v p c b in
          let at' = entry_at a' in
          let P = new_previous at p b in
          let cut = cut-linked v p c b l root held_c lies.held under in
          let known_b : Known at b = λ m e. held-parent (at m) p (under m e) in
          let next' : next_in at' c ≡ b = next-linked v p c b l root held_c lies.held under in
          let prev' : previous_in at' c ≡ P = previous-linked v p c b l root held_c lies.held under in
          let count_is : length (children_in (at p)) + 1 ≡ count = sym (more ∙ ap (λ m. m + 1) (count_read lies.reads)) in
          let entries = entries-linked v p c b l root held_c lies.held under in
          let w = composed (with_next top prev below) (with_previous top next below) (recounted top count) (with_links ptr above prev next) w1 w2 w3 w4 in
          let same = rewritten ps cs v s c p ptr top held_c lies.held at_c lies.at P b (known_new p b l) known_b prev next prev_is next_is
          at' (Some p) P b (Some c) (Some c) count (entered b c) entries
          (λ i. next-join at' at c p cut i ∙ (ap (λ o. cond (eqb c i) o (cond (is_number (previous_in at' c) i) (Some c) (next_in at i))) next' ∙ ap (λ o. cond (eqb c i) b (cond (is_number o i) (Some c) (next_in at i))) prev'))
          (λ i. previous-join at' at c p cut i ∙ (ap (λ o. cond (eqb c i) o (cond (is_number (next_in at' c) i) (Some c) (previous_in at i))) prev' ∙ ap (λ o. cond (eqb c i) P (cond (is_number o i) (Some c) (previous_in at i))) next'))
          (λ i. first-join at' at c p cut i ∙ ap (λ o. cond (is_number (link_unless o p) i) (Some c) (head_of (children_in (at i)))) prev')
          (λ i. last-join at' at c p cut i ∙ ap (λ o. cond (is_number (link_unless o p) i) (Some c) (last_of (children_in (at i)))) next')
          (λ i. length-join at' at c p cut i ∙ ap (λ m. cond (eqb p i) m (length (children_in (at i)))) count_is) in
          closes free (restands ps cs cs4 v s (rewrite_node ptr top count prev next below below above prev next) w.looks a' (rewired (entered b c) (Some p) c p) entries
          (λ i q e g h. ap (λ (o : Option Ptr). rewrite_node ptr top count prev next o o above prev next q (wired ps at i e)) below_is
          ∙ (ap (λ (o : Option Ptr). rewrite_node ptr top count prev next (pointer_in ps c) (pointer_in ps c) o prev next q (wired ps at i e)) above_is
          ∙ (ap (λ (o : Option Ptr). rewrite_node ptr top count prev next (pointer_in ps c) (pointer_in ps c) (pointer_in ps p) o next q (wired ps at i e)) prev_is
          ∙ (ap (λ (o : Option Ptr). rewrite_node ptr top count prev next (pointer_in ps c) (pointer_in ps c) (pointer_in ps p) (link_in ps P) o q (wired ps at i e)) next_is ∙ same i q e g h)))) w.many refl
          (length-altered (λ (e : Entry T). with_children (entered b c e.children) e) (altered (with_parent (Some p)) v c) p ∙ length-altered (with_parent (Some p)) v c)
          (IsLinked-linked v p c b l root held_c lies.held under)) free_is
