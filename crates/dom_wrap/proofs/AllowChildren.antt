-- Children that go into a fragment leave their parent's list, and units that go there leave all lists. DOM Standard, "Interface Range" (extract).
use Rattle.std.proofs.Common.{◌≡◌, ℕ, zero, suc, ◌+◌, ◌-◌, nat_lt, nat_le, slice_index_or, option_map, ◌<◌, ◌≤◌, ◌==◌, Bool, true, false, not, ◌&&◌, ◌||◌, if◌then◌else◌, List, [], ◌∷◌, take, drop, filter, length, Option, Some, None, slice_get, refl, ap, sym, ◌∙◌, subst, arith}
use Rattle.std.proofs.lemmas.Bool.{false≢true, le-ltb}
use Rattle.std.specs.List.{list_any}
use Rattle.dom_model.specs.declared.{Kind.TheVariants.Document, Kind.TheVariants.DocumentType, Kind.TheVariants.DocumentFragment}
use Rattle.dom_model.specs.Definitions.{hits, among, place_in, left_out, past, is_kind, is_character_data, substring, spliced, Forest, occurs, tree_at, put, cut, in_document, parent_of, children_of, Content, Range, World, after_splice, moved_range, range_at, IsSound, if_given, has_kind, kind_passes, is_of_kind, removed_from, remove, nodes_of, freed, insert_all, insert_nodes, insert, append, node_document, data_of, with_data, cut_count, clone_with, units_into, children_into}
use Rattle.dom_model.proofs.PlainLists.Numbers.{same_or, same, apart}
use Rattle.dom_model.proofs.Forests.{Climbing.hits-append, Climbing.hits-first, Climbing.hits-ancestors, Lying.left_out-absent, Listed.hits-other, Paths.root-path, Entries.children-cut, Entries.children-put, Indices.child-parent}
use Rattle.dom_model.proofs.Worlds.{SameShape.with_tree-alike, SameShape.with_node-alike, SameShape.children-alike, Measured.children-beside}
use Rattle.dom_model.proofs.MutationAlgorithms.{Loosened.IsLoosened, Loosened.forest-remove, Loosened.loosened-remove, Loosened.parent-remove}
use Rattle.dom_model.proofs.Soundness.{SoundWorlds.sound-remove, SoundAppending.IsHolder, SoundAppending.IsPlain, SoundAppending.append-plain, SoundAppending.holder_stays, SoundAppending.plain_stays, SoundAppending.IsCopy, SoundAppending.clone_with_copy, SoundDrawing.new_apart, SoundCopies.data_plain, SoundForests.passes-also}
use Rattle.dom_model.proofs.RangesAndContents.StartsAhead.{got_place}
use Rattle.dom_wrap.proofs.AllowAbove.{none-or-some}
use Rattle.dom_model.proofs.TokenText.Contents.DeletedUnits.{moved-at}

-- Lists.

-- the list without each of some numbers
abbrev pub without_each : List ℕ → List ℕ → List ℕ
without_each [] ks = ks
without_each (x ∷ ns) ks = without_each ns (left_out x ks)

each-none : (ns : List ℕ) → without_each ns [] ≡ []
each-none [] = refl
each-none (x ∷ ns) = each-none ns

each-next : (ns : List ℕ) (k : ℕ) (ks : List ℕ) → without_each ns (k ∷ ks) ≡ (if among k ns then without_each ns ks else k ∷ without_each ns ks)
each-next [] k ks = refl
each-next (x ∷ ns) k ks =
    elim (same_or k x) [
      | same e t ↦ (let u : (x == k) ≡ true = elim (same_or x k) [ same _ j ↦ j | apart ne j ↦ absurd (ne (sym e)) ] in rw (t, u) refl)
      | apart ne t ↦ (let u : (x == k) ≡ false = elim (same_or x k) [ same e j ↦ absurd (ne (sym e)) | apart _ j ↦ j ] in rw (t, u) (each-next ns k (left_out x ks)))
    ]

each-filter : (ns : List ℕ) (p : ℕ → Bool) (ks : List ℕ) → ((m : ℕ) → 0 < hits m ks → among m ns ≡ p m) → without_each ns ks ≡ filter (λ m. not (p m)) ks
each-filter ns p [] e = each-none ns
each-filter ns p (k ∷ ks) e =
    let i = each-filter ns p ks (λ m h. e m (let l = hits-append m (k ∷ []) ks in omega arith)) in
    each-next ns k ks ∙ (rw (e k (hits-first k ks), i) (go (p k)))
  where
    go : (v : Bool) → (if v then filter (λ m. not (p m)) ks else k ∷ filter (λ m. not (p m)) ks) ≡ (if not v then k ∷ filter (λ m. not (p m)) ks else filter (λ m. not (p m)) ks)
    go true = refl
    go false = refl

filter-absent : (p : ℕ → Bool) (m : ℕ) (ls : List ℕ) → p m ≡ false → among m (filter p ls) ≡ false
filter-absent p m [] z = refl
filter-absent p m (l ∷ ls) z = go (p l) refl (filter-absent p m ls z)
  where
    go : (v : Bool) → p l ≡ v → among m (filter p ls) ≡ false → among m (if v then l ∷ filter p ls else filter p ls) ≡ false
    go false d i = i
    go true d i = elim (same_or l m) [ same e t ↦ absurd (false≢true (sym z ∙ ap p (sym e) ∙ d)) | apart _ t ↦ rw t i ]

pub among-filter : (p : ℕ → Bool) (ks : List ℕ) (m : ℕ) → 0 < hits m ks → among m (filter p ks) ≡ p m
among-filter p [] m h = absurd (omega arith)
among-filter p (k ∷ ks) m h =
    elim (same_or k m) [
      | same e t ↦ here e t (p k) refl
      | apart ne t ↦ (let i = among-filter p ks m (let j = rw t at h in omega arith) in later t i (p k))
    ]
  where
    here : k ≡ m → (k == m) ≡ true → (v : Bool) → p k ≡ v → among m (if v then k ∷ filter p ks else filter p ks) ≡ p m
    here e t true d = rw t (sym (ap p (sym e) ∙ d))
    here e t false d = let z = ap p (sym e) ∙ d in filter-absent p m ks z ∙ sym z

    later : (k == m) ≡ false → among m (filter p ks) ≡ p m → (v : Bool) → among m (if v then k ∷ filter p ks else filter p ks) ≡ p m
    later t i true = rw t i
    later t i false = i

-- without those that pass, those are left that do not
pub each-passed : (p : ℕ → Bool) (ks : List ℕ) → without_each (filter p ks) ks ≡ filter (λ m. not (p m)) ks
each-passed p ks = each-filter (filter p ks) p ks (λ m h. among-filter p ks m h)

pub place-taken : (m k : ℕ) (ns : List ℕ) → 0 < hits m (take k ns) → place_in m ns < k
place-taken m zero ns h = absurd (omega arith)
place-taken m (suc k) [] h = absurd (omega arith)
place-taken m (suc k) (x ∷ ns) h =
    elim (same_or x m) [
      | same e t ↦ rw t (omega arith)
      | apart ne t ↦ (let i = place-taken m k ns (let j = rw t at h in omega arith) in rw t (omega arith))
    ]

-- what is dropped ahead, where all of it passes
pub drop-filter : (p : ℕ → Bool) (k : ℕ) (ns : List ℕ) → ((m : ℕ) → 0 < hits m (take k ns) → p m ≡ true) → drop k (filter p ns) ≡ filter p (drop k ns)
drop-filter p zero ns h = refl
drop-filter p (suc k) [] h = refl
drop-filter p (suc k) (x ∷ ns) h = rw (h x (hits-first x (take k ns))) (drop-filter p k ns (λ m i. h m (let l = hits-append m (x ∷ []) (take k ns) in omega arith)))

pub any-filter : (test p : ℕ → Bool) (ns : List ℕ) → list_any test (filter p ns) ≡ list_any (λ m. test m && p m) ns
any-filter test p [] = refl
any-filter test p (x ∷ ns) = go (p x) (any-filter test p ns)
  where
    passed : (b a c : Bool) → a ≡ c → (b || a) ≡ ((b && true) || c)
    passed true a c e = refl
    passed false a c e = e

    left : (b a c : Bool) → a ≡ c → a ≡ ((b && false) || c)
    left true a c e = e
    left false a c e = e

    go : (v : Bool) → list_any test (filter p ns) ≡ list_any (λ m. test m && p m) ns → list_any test (if v then x ∷ filter p ns else filter p ns) ≡ ((test x && v) || list_any (λ m. test m && p m) ns)
    go true i = passed (test x) (list_any test (filter p ns)) (list_any (λ m. test m && p m) ns) i
    go false i = left (test x) (list_any test (filter p ns)) (list_any (λ m. test m && p m) ns) i

-- where what passes the test stays, the test finds the same
pub any-kept : (test p : ℕ → Bool) (ns : List ℕ) → ((m : ℕ) → 0 < hits m ns → test m ≡ true → p m ≡ true) → list_any test (filter p ns) ≡ list_any test ns
any-kept test p ns h = any-filter test p ns ∙ go ns h
  where
    both : (b c : Bool) → (b ≡ true → c ≡ true) → (b && c) ≡ b
    both true c e = e refl
    both false c e = refl

    go : (ls : List ℕ) → ((m : ℕ) → 0 < hits m ls → test m ≡ true → p m ≡ true) → list_any (λ m. test m && p m) ls ≡ list_any test ls
    go [] e = refl
    go (l ∷ ls) e = ap (λ b. b || list_any (λ m. test m && p m) ls) (both (test l) (p l) (e l (hits-first l ls))) ∙ ap (λ b. test l || b) (go ls (λ m i. e m (let k = hits-append m (l ∷ []) ls in omega arith)))

-- a doctype from the child at an offset on
pub from-place : (f : Forest Content) (ks : List ℕ) → ((m : ℕ) → hits m ks ≤ 1) → (k : ℕ) → if_given (λ c. is_of_kind DocumentType f c || has_kind DocumentType f (past c ks)) (slice_get ks k) ≡ has_kind DocumentType f (drop k ks)
from-place f [] once zero = refl
from-place f [] once (suc k) = refl
from-place f (x ∷ ks) once zero = elim (same_or x x) [ same _ t ↦ rw t refl | apart ne t ↦ absurd (ne refl) ]
from-place f (x ∷ ks) once (suc k) = go (slice_get ks k) refl ∙ from-place f ks (λ m. let l = hits-append m (x ∷ []) ks in let o = once m in omega arith) k
  where
    go : (o : Option ℕ) → slice_get ks k ≡ o → if_given (λ c. is_of_kind DocumentType f c || has_kind DocumentType f (past c (x ∷ ks))) o ≡ if_given (λ c. is_of_kind DocumentType f c || has_kind DocumentType f (past c ks)) (slice_get ks k)
    go None e = rw e refl
    go (Some c) e =
        let g = got_place ks k c (λ m. let l = hits-append m (x ∷ []) ks in let o = once m in omega arith) e in
        elim (same_or x c) [
          | same d t ↦ absurd (let o = once c in let j = rw t at o in let h = g.1 in omega arith)
          | apart ne t ↦ rw (e, t) refl
        ]

-- A node that goes into a fragment.

module _ (u : World) (s : IsSound u) (n into : ℕ) (h : IsHolder u into) (p : IsPlain u n) (ne : n ≡ into → ⊥) (m : ℕ) (hm : 0 < occurs m u.forest) (other : m ≡ into → ⊥) where
  abbrev out : World
  out = remove false n u

  loose : IsLoosened u.forest out.forest
  loose = loosened-remove false n u s p.there

  there_out : (x : ℕ) → 0 < occurs x u.forest → 0 < occurs x out.forest
  there_out x k = subst (λ y. 0 < y) (sym (loose.numbers x)) k

  sound_out : IsSound out
  sound_out = sound-remove false n u s

  root_out : parent_of out.forest n ≡ None
  root_out = parent-remove false n u s p.there n ∙ (elim (same_or n n) [ same _ t ↦ rw t refl | apart d t ↦ absurd (d refl) ])

  root_into : parent_of out.forest into ≡ None
  root_into = loose.roots into h.root

  outside : occurs into (tree_at n out.forest) ≡ 0
  outside =
      sym (hits-ancestors n into out.forest sound_out.forest.once)
      ∙ ap (hits n) (root-path out.forest sound_out.forest.once into (there_out into h.there) root_into)
      ∙ hits-other n into [] (λ e. ne (sym e))

  inserted : insert false n into None u ≡ insert_all false into None (n ∷ []) out
  inserted =
      let a : nodes_of u n ≡ n ∷ [] = rw p.no_fragment refl in
      let b : freed n (n ∷ []) u ≡ out = rw p.no_fragment refl in
      ap (λ ns. insert_nodes false n into None ns u) a ∙ ap (insert_all false into None (n ∷ [])) b

  pub children-appended : children_of (append n into u).forest m ≡ left_out n (children_of u.forest m)
  children-appended =
      let d = node_document out into in
      let far : (m == into) ≡ false = elim (same_or m into) [ same e t ↦ absurd (other e) | apart _ t ↦ t ] in
      ap (λ (v : World). children_of v.forest m) inserted
      ∙ children-alike (with_tree-alike (in_document d) (λ x. refl) n (put into n None out.forest)) m
      ∙ children-put out.forest sound_out.forest.once into n None (there_out into h.there) (there_out n p.there) root_out outside m (there_out m hm)
      ∙ (rw far (ap (λ (g : Forest Content). children_of g m) (forest-remove false n u s p.there) ∙ children-cut u.forest s.forest.once n m))

-- all of a list go into it
pub children-drawn : (into : ℕ) (ns : List ℕ) (u : World) → IsSound u → IsHolder u into → ((n : ℕ) → 0 < hits n ns → IsPlain u n) → hits into ns ≡ 0 → (m : ℕ) → 0 < occurs m u.forest → (m ≡ into → ⊥) → children_of (children_into true into ns u).forest m ≡ without_each ns (children_of u.forest m)
children-drawn into [] u s h plain z m hm other = refl
children-drawn into (n ∷ ns) u s h plain z m hm other =
    let ne : n ≡ into → ⊥ = λ e. (let i = hits-first n ns in let k : hits n (n ∷ ns) ≡ 0 = ap (λ x. hits x (n ∷ ns)) e ∙ z in omega arith) in
    let zi = hits-append into (n ∷ []) ns in
    let a = (append-plain u s n into h (plain n (hits-first n ns)) ne).drawn in
    children-drawn into ns (append n into u) a.sound (holder_stays u (append n into u) (n ∷ []) into a.extends (omega arith) h)
    (λ x k. plain_stays u (append n into u) (n ∷ []) x a.extends (plain x (let i = hits-append x (n ∷ []) ns in omega arith))) (omega arith) m (a.extends.there m hm) other
    ∙ ap (without_each ns) (children-appended u s n into h (plain n (hits-first n ns)) ne m hm other)

-- Units that go into a fragment.

module _ (into n offset count : ℕ) (u : World) (s : IsSound u) (h : IsHolder u into) (hn : 0 < occurs n u.forest) (k : kind_passes is_character_data u.forest n ≡ true) where
  abbrev copied : World
  copied = clone_with (substring offset count (data_of u n)) n u

  copy : IsCopy u copied n
  copy = clone_with_copy (substring offset count (data_of u n)) n u s hn

  holder_copied : IsHolder copied into
  holder_copied = holder_stays u copied [] into copy.drawn.extends refl h

  plain_copy : IsPlain copied u.made
  plain_copy = record {
    there = copy.there;
    no_document = copy.kinds (is_kind Document) ∙ passes-also is_character_data (is_kind Document) false (λ x e. (data_plain x e).0) u.forest n k;
    no_doctype = copy.kinds (is_kind DocumentType) ∙ passes-also is_character_data (is_kind DocumentType) false (λ x e. (data_plain x e).1) u.forest n k;
    no_fragment = copy.kinds (is_kind DocumentFragment) ∙ passes-also is_character_data (is_kind DocumentFragment) false (λ x e. (data_plain x e).2) u.forest n k;
  }

  apart_copy : u.made ≡ into → ⊥
  apart_copy e = new_apart u s into u.made (omega arith) h.there (sym e)

  abbrev held : World
  held = append u.made into copied

  pub children-units : (m : ℕ) → 0 < occurs m u.forest → (m ≡ into → ⊥) → children_of (units_into true into n offset count u).forest m ≡ children_of u.forest m
  children-units m hm other =
      children-alike (with_node-alike (with_data (spliced offset (cut_count (length (data_of held n)) offset count) [] (data_of held n))) (λ x. refl) n held.forest) m
      ∙ children-appended copied copy.drawn.sound u.made into holder_copied plain_copy apart_copy m (copy.drawn.extends.there m hm) other
      ∙ left_out-absent u.made (children_of copied.forest m)
      (none-or-some u.made (children_of copied.forest m) (λ z. z)
      (λ lt. absurd (let d : None ≡ Some m = sym copy.root ∙ child-parent copied.forest copy.drawn.sound.forest.once u.made m lt in cc d)))
      ∙ children-beside u.forest _ m hm

  ranges_appended : (append u.made into copied).ranges ≡ u.ranges
  ranges_appended =
      ap (λ (v : World). v.ranges) (inserted copied copy.drawn.sound u.made into holder_copied plain_copy apart_copy u.made copy.there apart_copy)
      ∙ ap (λ (o : Option ℕ). (removed_from false u.made o copied).ranges) copy.root

  -- a range that starts where they were goes on to start there
  pub range-units : (r : ℕ) (range : Range) → range_at u r ≡ Some range → range.start.node ≡ n → range.start.offset ≡ offset → (next : Range) × (range_at (units_into true into n offset count u) r ≡ Some next) × (next.start ≡ range.start)
  range-units r range e i j =
      let cut = cut_count (length (data_of held n)) offset count in
      let move = after_splice n offset cut 0 in (
        moved_range move range,
        moved-at move held.ranges r ∙ ap (λ (rs : List (Option Range)). option_map (moved_range move) (slice_index_or rs r None)) ranges_appended ∙ ap (option_map (moved_range move)) e,
        stays cut,
      )
    where
      stays : (cut : ℕ) → after_splice n offset cut 0 range.start ≡ range.start
      stays cut =
          let t : nat_lt offset range.start.offset ≡ false = ap (nat_lt offset) j ∙ le-ltb offset offset (omega arith) in
          rw t (none (range.start.node == n))
        where
          none : (b : Bool) → (if b && false then (if nat_le range.start.offset (offset + cut) then record range.start { offset = offset } else record range.start { offset = range.start.offset - cut + 0 }) else range.start) ≡ range.start
          none true = refl
          none false = refl
