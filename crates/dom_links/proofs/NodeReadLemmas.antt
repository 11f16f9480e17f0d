-- What the node of a held slot tells, and where its links lead.
use Rattle.std.proofs.Common.{◌≡◌, ℕ, List, length, Option, Some, sym, ap, ◌∙◌, subst, IsSome, IfSome}
use denote.RawPtr.{Ptr}
use Rattle.dom_model.specs.Definitions.{head_of, last_of, Entry, Arena, entry_at, parent_in, children_in, next_in, previous_in}
use Rattle.dom_links.specs.{Cells.look, declared.node.Node.Node, ArenaMemory.node_in, ArenaMemory.link_in, ArenaMemory.wired, ArenaMemory.Stands}
use Rattle.dom_links.proofs.ArenaMemoryLemmas.{held_entry, found_in, node_of, known_next, known_previous}

module _ {T : Type 0} where
  -- n is the node of the slot k, in memory that stands for a
  pub record Reads (ps : List (Option Ptr)) (cs : List (Ptr × Node T)) (a : Arena T) (k : ℕ) (n : Node T) : Type 0 where
    pub stands : Stands ps cs a
    pub entry : Entry T
    pub is : entry_at a k ≡ Some entry
    pub node : n ≡ wired ps (entry_at a) k entry

  -- the number of a slot inside the code, and what the store shows outside
  pub reads : {ps : List (Option Ptr)} {cs : List (Ptr × Node T)} {a v : Arena T} {i k : ℕ} {n : Node T} → Stands ps cs a → a ≡ v → i ≡ k → IsSome (entry_at v k) → node_in ps cs i ≡ Some n → Reads ps cs v k n
  reads {ps} {cs} {a} {v} {i} {k} {n} s view number held got =
      let s' : Stands ps cs v = subst (λ (b : Arena T). Stands ps cs b) view s in
      let e = held_entry (entry_at v k) held in
      let at_k : node_in ps cs k ≡ Some n = subst (λ (j : ℕ). node_in ps cs j ≡ Some n) number got in
      let both : ◌≡◌ {A = Option (Node T)} (Some n) (Some (wired ps (entry_at v) k e.entry)) = sym at_k ∙ node_of ps cs v s' k e.entry e.is in
      record { stands = s'; entry = e.entry; is = e.is; node = cc }

  module _ {ps : List (Option Ptr)} {cs : List (Ptr × Node T)} {a : Arena T} {k : ℕ} {n : Node T} (r : Reads ps cs a k n) where
    pub parent_link : n.parent ≡ link_in ps (parent_in (entry_at a k))
    parent_link = ap (λ (m : Node T). m.parent) r.node ∙ ap (λ o. link_in ps (parent_in o)) (sym r.is)

    pub first_link : n.first ≡ link_in ps (head_of (children_in (entry_at a k)))
    first_link = ap (λ (m : Node T). m.first) r.node ∙ ap (λ o. link_in ps (head_of (children_in o))) (sym r.is)

    pub last_link : n.last ≡ link_in ps (last_of (children_in (entry_at a k)))
    last_link = ap (λ (m : Node T). m.last) r.node ∙ ap (λ o. link_in ps (last_of (children_in o))) (sym r.is)

    pub next_link : n.next ≡ link_in ps (next_in (entry_at a) k)
    next_link = ap (λ (m : Node T). m.next) r.node

    pub previous_link : n.prev ≡ link_in ps (previous_in (entry_at a) k)
    previous_link = ap (λ (m : Node T). m.prev) r.node

    pub count_read : n.count ≡ length (children_in (entry_at a k))
    count_read = ap (λ (m : Node T). m.count) r.node ∙ ap (λ o. length (children_in o)) (sym r.is)

    pub value_read : IfSome (entry_at a k) (λ (e : Entry T). n.value ≡ e.value)
    value_read = subst (λ (o : Option (Entry T)). IfSome o (λ (e : Entry T). n.value ≡ e.value)) (sym r.is) (ap (λ (m : Node T). m.value) r.node)

    -- a node lies where each link leads
    pub next_found : (p : Ptr) → n.next ≡ Some p → IsSome (look p cs)
    next_found p e = found_in ps cs a r.stands (next_in (entry_at a) k) (known_next (entry_at a) r.stands.sound.linked k) p (sym next_link ∙ e)

    pub previous_found : (p : Ptr) → n.prev ≡ Some p → IsSome (look p cs)
    previous_found p e = found_in ps cs a r.stands (previous_in (entry_at a) k) (known_previous (entry_at a) r.stands.sound.linked k) p (sym previous_link ∙ e)
