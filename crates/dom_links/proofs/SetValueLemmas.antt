-- The memory once a value is written.
use Rattle.std.proofs.Common.{◌≡◌, ℕ, Bool, true, false, cond, eqb, List, length, Option, Some, None, refl, sym, ap, ◌∙◌, reverse, option_map}
use denote.RawPtr.{Ptr}
use Rattle.dom_model.specs.Definitions.{hits, head_of, last_of, after, before, Entry, Arena, names, entry_at, parent_in, children_in, list_under, siblings_in, with_value, altered, IsLinked}
use Rattle.dom_links.specs.{Cells.same_ptr, Cells.put, declared.node.Node.Node, ArenaMemory.pointer_in, ArenaMemory.link_in, ArenaMemory.wired, LinkSteps.leads_to}
use Rattle.dom_links.proofs.{CellsLemmas.same_ptr_refl, CellsLemmas.put_length, PoolStepLemmas.look-step, ArenaAgainLemmas.Closes, ArenaAgainLemmas.closes, ArenaAgainLemmas.entry_at-altered, ArenaAgainLemmas.length-altered, ArenaAgainLemmas.leads_to-link_in, ArenaAgainLemmas.restands, LinkUnlinkLemmas.Lies, LinkUnlinkLemmas.same_node, LinkUnlinkLemmas.known_one}

module _ {T : Type 0} where
  abbrev revalued : T → ℕ → ℕ → Entry T → Entry T
  revalued w k i e = cond (eqb k i) (with_value w e) e

  revalued-parent : (w : T) (b : Bool) (o : Option (Entry T)) → parent_in (option_map (λ (e : Entry T). cond b (with_value w e) e) o) ≡ parent_in o
  revalued-parent w b None = refl
  revalued-parent w true (Some e) = refl
  revalued-parent w false (Some e) = refl

  revalued-children : (w : T) (b : Bool) (o : Option (Entry T)) → children_in (option_map (λ (e : Entry T). cond b (with_value w e) e) o) ≡ children_in o
  revalued-children w b None = refl
  revalued-children w true (Some e) = refl
  revalued-children w false (Some e) = refl

  module _ (w : T) (v : Arena T) (k : ℕ) where
    abbrev at' : ℕ → Option (Entry T)
    at' = entry_at (altered (with_value w) v k)

    entries : (i : ℕ) → entry_at (altered (with_value w) v k) i ≡ option_map (revalued w k i) (entry_at v i)
    entries i = entry_at-altered (with_value w) v k i ∙ spread (eqb k i) (entry_at v i)
      where
        spread : (b : Bool) (o : Option (Entry T)) → cond b (option_map (with_value w) o) o ≡ option_map (λ (e : Entry T). cond b (with_value w e) e) o
        spread true None = refl
        spread false None = refl
        spread true (Some e) = refl
        spread false (Some e) = refl

    parents : (i : ℕ) → parent_in (at' i) ≡ parent_in (entry_at v i)
    parents i = ap parent_in (entries i) ∙ revalued-parent w (eqb k i) (entry_at v i)

    kids : (i : ℕ) → children_in (at' i) ≡ children_in (entry_at v i)
    kids i = ap children_in (entries i) ∙ revalued-children w (eqb k i) (entry_at v i)

    under : (o : Option ℕ) → list_under at' o ≡ list_under (entry_at v) o
    under None = refl
    under (Some q) = kids q

    siblings : (i : ℕ) → siblings_in at' i ≡ siblings_in (entry_at v) i
    siblings i = ap (list_under at') (parents i) ∙ under (parent_in (entry_at v i))

    linked_still : IsLinked (entry_at v) → IsLinked at'
    linked_still l n m = ap (hits m) (kids n) ∙ (l n m ∙ ap (λ o. names o n) (sym (parents m)))

    same : (ps : List (Option Ptr)) (cs : List (Ptr × Node T)) (ptr : Ptr) (n : Node T) → Lies ps cs v k ptr n → (i : ℕ) (q : Ptr) (e : Entry T) → pointer_in ps i ≡ Some q → entry_at v i ≡ Some e
        → record (wired ps (entry_at v) i e) { value = cond (same_ptr ptr q) w e.value } ≡ wired ps at' i (revalued w k i e)
    same ps cs ptr n lies i q e g h =
        let t : same_ptr ptr q ≡ eqb k i = ap (λ l. leads_to l q) (sym lies.at) ∙ leads_to-link_in ps cs cs v lies.reads.stands (Some k) i q (known_one (entry_at v) k lies.held) (rw h) g in
        let of : (b : Bool) → (cond b (with_value w e) e).parent ≡ e.parent = λ b. elim b as (λ d. (cond d (with_value w e) e).parent ≡ e.parent) [ true ↦ refl | false ↦ refl ] in
        let in_it : (b : Bool) → (cond b (with_value w e) e).children ≡ e.children = λ b. elim b as (λ d. (cond d (with_value w e) e).children ≡ e.children) [ true ↦ refl | false ↦ refl ] in
        let to : (b : Bool) → cond b w e.value ≡ (cond b (with_value w e) e).value = λ b. elim b as (λ d. cond d w e.value ≡ (cond d (with_value w e) e).value) [ true ↦ refl | false ↦ refl ] in
        same_node refl (sym (ap length (in_it (eqb k i)))) (sym (ap (link_in ps) (of (eqb k i)))) (sym (ap (λ xs. link_in ps (before i xs)) (siblings i))) (sym (ap (λ xs. link_in ps (after i xs)) (siblings i)))
        (sym (ap (λ xs. link_in ps (head_of xs)) (in_it (eqb k i)))) (sym (ap (λ xs. link_in ps (last_of xs)) (in_it (eqb k i)))) (rw t (to (eqb k i)))

    pub revalue_closes : (ps : List (Option Ptr)) (cs : List (Ptr × Node T)) (free : List ℕ) (ptr : Ptr) (n : Node T) → Lies ps cs v k ptr n → v.free ≡ reverse free → Closes ps (put ptr (record n { value = w }) cs) free (altered (with_value w) v k)
    revalue_closes ps cs free ptr n lies free_is =
        let F : Ptr → Node T → Node T = λ (q : Ptr) (m : Node T). record m { value = cond (same_ptr ptr q) w m.value } in
        closes free (restands ps cs (put ptr (record n { value = w }) cs) v lies.reads.stands F
        (look-step F ptr n (record n { value = w }) cs lies.found (rw (same_ptr_refl ptr)) (λ q m e. rw e))
        (altered (with_value w) v k) (revalued w k) entries (same ps cs ptr n lies) (put_length ptr (record n { value = w }) cs) refl (length-altered (with_value w) v k) (linked_still lies.reads.stands.sound.linked)) free_is
