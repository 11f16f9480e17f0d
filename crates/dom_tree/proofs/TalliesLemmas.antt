-- The counts of elements and doctypes stay right over each change of the store.
use Rattle.std.proofs.Common.{◌≡◌, ℕ, suc, ◌+◌, ◌-◌, ◌<◌, ◌≤◌, ◌==◌, ◌^◌, Bool, true, false, cond, filter, if◌then◌else◌, List, [], ◌∷◌, length, Option, Some, None, option_map, IsSome, refl, ap, sym, ◌∙◌, subst, arith, ⊎_elim}
use Rattle.dom_model.specs.declared.{Kind.Kind, Kind.TheVariants.Element, Kind.TheVariants.Document, Kind.TheVariants.DocumentType}
use Rattle.dom_model.specs.Definitions.{hits, is_number, entered, left_out, Arena, Entry, entry_at, names, parent_in, children_in, with_value, alone, linked, unlinked, altered, added, taken, next_slot, Node, is_kind, entry_has}
use Rattle.dom_model.specs.Forests.Arena.{IsSound}
use Rattle.dom_model.proofs.PlainLists.Numbers.{same_or, same, apart}
use Rattle.dom_model.proofs.Forests.{Changes.seen, Changes.nothing, Changes.just, Changes.cut_at, Changes.link_at, Lying.left_out-absent}
use Rattle.dom_tree.specs.{declared.tallies.Tally.Tally, Tallies.tally_in, Tallies.tally_but, Tallies.bare, Tallies.one, Tallies.raised, Tallies.lowered, Tallies.has_in, Tallies.kind_tally, Tallies.tally_put, Tallies.tally_cut, Tallies.IsTally, Tallies.AreStarted, Tallies.AreTallied}
use Rattle.dom_tree.proofs.{StoreEntryLemmas.altered-at, StoreEntryLemmas.linked-at, StoreEntryLemmas.unlinked-at, StoreEntryLemmas.added-new, StoreEntryLemmas.added-old, StoreEntryLemmas.taken-other, MapTable.tallies, MapTable.but-here, MapTable.but-other}
use Rattle.dom_links.proofs.UnlinkLemmas.{names-same, names-other}

-- How many of a list pass a test.

pub passing-same : (f g : ℕ → Bool) (l : List ℕ) → ((n : ℕ) → 0 < hits n l → f n ≡ g n) → length (filter f l) ≡ length (filter g l)
passing-same f g [] h = refl
passing-same f g (n ∷ ns) h =
    let first = h n (elim (same_or n n) [ same e v ↦ rw v (omega arith) | apart ne v ↦ absurd (ne refl) ]) in
    let later = passing-same f g ns (λ m k. h m (omega arith)) in
    ap (λ b. length (cond b (n ∷ filter f ns) (filter f ns))) first ∙ head (g n) n (filter f ns) (filter g ns) later
  where
    head : (b : Bool) (n : ℕ) (xs ys : List ℕ) → length xs ≡ length ys → length (cond b (n ∷ xs) xs) ≡ length (cond b (n ∷ ys) ys)
    head true n xs ys e = ap suc e
    head false n xs ys e = e

passing-cons : (f : ℕ → Bool) (n : ℕ) (ns : List ℕ) → length (filter f (n ∷ ns)) ≡ length (filter f ns) + one (f n)
passing-cons f n ns = go (f n)
  where
    go : (b : Bool) → length (cond b (n ∷ filter f ns) (filter f ns)) ≡ length (filter f ns) + one b
    go true = omega arith
    go false = omega arith

passing-entered : (f : ℕ → Bool) (b : Option ℕ) (c : ℕ) (l : List ℕ) → length (filter f (entered b c l)) ≡ length (filter f l) + one (f c)
passing-entered f b c [] = passing-cons f c []
passing-entered f b c (y ∷ ys) =
    elim (is_number b y) as (λ v. length (filter f (if v then c ∷ y ∷ ys else y ∷ entered b c ys)) ≡ length (filter f (y ∷ ys)) + one (f c)) [
      | true ↦ passing-cons f c (y ∷ ys)
      | false ↦ omega (arith, passing-cons f y (entered b c ys), passing-entered f b c ys, passing-cons f y ys)
    ]

passing-left_out : (f : ℕ → Bool) (c : ℕ) (l : List ℕ) → hits c l ≡ 1 → length (filter f (left_out c l)) + one (f c) ≡ length (filter f l)
passing-left_out f c [] h = absurd (omega arith)
passing-left_out f c (y ∷ ys) h =
    elim (same_or y c) [
      | same e t ↦
          let k = rw t at h in
          let z : hits c ys ≡ 0 = omega arith in
          let w : one (f y) ≡ one (f c) = ap (λ n. one (f n)) e in
          rw (t, left_out-absent c ys z) (omega (arith, passing-cons f y ys, w))
      | apart ne t ↦
          let k = rw t at h in
          let z : hits c ys ≡ 1 = omega arith in
          rw t (omega (arith, passing-cons f y (left_out c ys), passing-left_out f c ys z, passing-cons f y ys))
    ]

passing-most : (f : ℕ → Bool) (l : List ℕ) → length (filter f l) ≤ length l
passing-most f [] = omega arith
passing-most f (n ∷ ns) = go (f n) (passing-most f ns)
  where
    go : (b : Bool) → length (filter f ns) ≤ length ns → length (cond b (n ∷ filter f ns) (filter f ns)) ≤ length (n ∷ ns)
    go true h = omega (arith, h)
    go false h = omega (arith, h)

no_kind : false ≡ true → ⊥
no_kind e = cc e

module _ {X : Type 0} where
  -- what has a kind is there
  pub kind-held : (at : ℕ → Option (Entry (Node X))) (n : ℕ) (k : Kind) → has_in at n k ≡ true → IsSome (at n)
  kind-held at n k h = go (at n) h
    where
      go : (o : Option (Entry (Node X))) → entry_has (is_kind k) o ≡ true → IsSome o
      go None e = absurd (no_kind e)
      go (Some d) e = refl

  -- a parent with the same children, whose kinds are as they were
  module _ (at at' : ℕ → Option (Entry (Node X))) (p : ℕ) (hc : children_in (at' p) ≡ children_in (at p)) (own : (k : Kind) → has_in at' p k ≡ has_in at p k) (hk : (k : Kind) (c : ℕ) → 0 < hits c (children_in (at p)) → has_in at' c k ≡ has_in at c k) where
    tally-still : (k : Kind) → kind_tally k at' (children_in (at' p)) ≡ kind_tally k at (children_in (at p))
    tally-still k =
        ap (kind_tally k at') hc ∙ passing-same (λ n. has_in at' n k) (λ n. has_in at n k) (children_in (at p)) (λ n h. hk k n h)

    pub tallied-still : (t : Tally) → IsTally at p t → IsTally at' p t
    tallied-still t r =
        record {
          document = own Document ∙ r.document;
          elements = r.elements ∙ sym (tally-still Element);
          doctypes = r.doctypes ∙ sym (tally-still DocumentType);
        }

  -- nodes written over, with their kinds
  module _ (f : Node X → Node X) (hl : (x : Node X) → (f x).label ≡ x.label) (a : Arena (Node X)) (n : ℕ) where
    abbrev over : Arena (Node X)
    over = altered (λ (e : Entry (Node X)). with_value (f e.value) e) a n

    list-over : (v : Bool) (o : Option (Entry (Node X))) → children_in (if v then option_map (λ (e : Entry (Node X)). with_value (f e.value) e) o else o) ≡ children_in o
    list-over true None = refl
    list-over true (Some d) = refl
    list-over false o = refl

    lists-over : (q : ℕ) → children_in (entry_at over q) ≡ children_in (entry_at a q)
    lists-over q = ap children_in (altered-at (λ (e : Entry (Node X)). with_value (f e.value) e) a n q) ∙ list-over (q == n) (entry_at a q)

    kind-over : (v : Bool) (q : Kind) (o : Option (Entry (Node X))) → entry_has (is_kind q) (if v then option_map (λ (e : Entry (Node X)). with_value (f e.value) e) o else o) ≡ entry_has (is_kind q) o
    kind-over true q None = refl
    kind-over true q (Some d) = ap (λ l. is_kind q l.kind) (hl d.value)
    kind-over false q o = refl

    kinds-over : (q : Kind) (c : ℕ) → has_in (entry_at over) c q ≡ has_in (entry_at a) c q
    kinds-over q c = ap (entry_has (is_kind q)) (altered-at (λ (e : Entry (Node X)). with_value (f e.value) e) a n c) ∙ kind-over (c == n) q (entry_at a c)

    pub tallied-altered : (table : List (ℕ × Tally)) → AreTallied (entry_at a) table → AreTallied (entry_at (altered (λ (e : Entry (Node X)). with_value (f e.value) e) a n)) table
    tallied-altered table k p t e =
        tallied-still (entry_at a) (entry_at over) p (lists-over p) (λ q. kinds-over q p) (λ q c _. kinds-over q c) t (k p t e)

module _ {X : Type 0} (a : Arena (Node X)) (table : List (ℕ × Tally)) (k : AreTallied (entry_at a) table) where
  -- who is no Document has no counts
  pub tally-none : (p : ℕ) → has_in (entry_at a) p Document ≡ false → tally_in table p ≡ None
  tally-none p h =
      elim (seen (tally_in table p)) [
        | nothing e ↦ e
        | just t e ↦ absurd (no_kind (sym h ∙ (k p t e).document))
      ]

  -- a child put under a parent
  module _ (p c : ℕ) (b : Option ℕ) (few : length (children_in (entry_at (linked a p c b) p)) < 2 ^ 32) (table' : List (ℕ × Tally)) (ht : (q : ℕ) → tally_in table' q ≡ tally_put (entry_at a) table p c q) where
    link-kind : (q : Kind) (n : ℕ) → has_in (entry_at (linked a p c b)) n q ≡ has_in (entry_at a) n q
    link-kind q n = ap (entry_has (is_kind q)) (linked-at a p c b n) ∙ go (entry_at a n)
      where
        go : (o : Option (Entry (Node X))) → entry_has (is_kind q) (link_at p b c n o) ≡ entry_has (is_kind q) o
        go None = refl
        go (Some d) = refl

    link-apart : (n : ℕ) → (n ≡ p → ⊥) → children_in (entry_at (linked a p c b) n) ≡ children_in (entry_at a n)
    link-apart n ne = ap children_in (linked-at a p c b n) ∙ go (entry_at a n)
      where
        go : (o : Option (Entry (Node X))) → children_in (link_at p b c n o) ≡ children_in o
        go None = refl
        go (Some d) = elim (same_or n p) [ same e _ ↦ absurd (ne e) | apart _ t ↦ rw t refl ]

    link-here : IsSome (entry_at a p) → children_in (entry_at (linked a p c b) p) ≡ entered b c (children_in (entry_at a p))
    link-here h = ap children_in (linked-at a p c b p) ∙ go (entry_at a p) h
      where
        go : (o : Option (Entry (Node X))) → IsSome o → children_in (link_at p b c p o) ≡ entered b c (children_in o)
        go None i = absurd (no_kind i)
        go (Some d) i = elim (same_or p p) [ same _ t ↦ rw t refl | apart ne t ↦ absurd (ne refl) ]

    module _ (u : Tally) (r : IsTally (entry_at a) p u) where
      list : children_in (entry_at (linked a p c b) p) ≡ entered b c (children_in (entry_at a p))
      list = link-here (kind-held (entry_at a) p Document r.document)

      more : (q : Kind) → kind_tally q (entry_at (linked a p c b)) (children_in (entry_at (linked a p c b) p)) ≡ kind_tally q (entry_at a) (children_in (entry_at a p)) + one (has_in (entry_at a) c q)
      more q =
          passing-same (λ n. has_in (entry_at (linked a p c b)) n q) (λ n. has_in (entry_at a) n q) (children_in (entry_at (linked a p c b) p)) (λ n _. link-kind q n)
          ∙ ap (kind_tally q (entry_at a)) list
          ∙ passing-entered (λ n. has_in (entry_at a) n q) b c (children_in (entry_at a p))

      most : (q : Kind) → kind_tally q (entry_at (linked a p c b)) (children_in (entry_at (linked a p c b) p)) ≤ 2 ^ 32 - 1
      most q = (let m = passing-most (λ n. has_in (entry_at (linked a p c b)) n q) (children_in (entry_at (linked a p c b) p)) in omega (arith, m, few))

      tallied-here : IsTally (entry_at (linked a p c b)) p (raised (has_in (entry_at a) c) u)
      tallied-here =
          record {
            document = link-kind Document p ∙ r.document;
            elements = omega (arith, more Element, most Element, r.elements);
            doctypes = omega (arith, more DocumentType, most DocumentType, r.doctypes);
          }

    pub tallied-linked : AreTallied (entry_at (linked a p c b)) table'
    tallied-linked q t e =
        elim (same_or q p) [
          | same d v ↦ subst (λ n. IsTally (entry_at (linked a p c b)) n t) (sym d) (here (tally_in table p) refl (sym (but-here tallies table' table p _ ht) ∙ ap (tally_in table') (sym d) ∙ e))
          | apart ne v ↦
              tallied-still (entry_at a) (entry_at (linked a p c b)) q (link-apart q ne) (λ n. link-kind n q) (λ n x _. link-kind n x) t
              (k q t (sym (but-other tallies table' table p _ ht q ne) ∙ e))
        ]
      where
        here : (o : Option Tally) → tally_in table p ≡ o → option_map (raised (has_in (entry_at a) c)) o ≡ Some t → IsTally (entry_at (linked a p c b)) p t
        here None z w = absurd (cc w)
        here (Some u) z w = (let s : raised (has_in (entry_at a) c) u ≡ t = cc w in subst (IsTally (entry_at (linked a p c b)) p) s (tallied-here u (k p u z)))

  -- a child cut from its parent
  module _ (l : IsSound a) (c p : ℕ) (up : parent_in (entry_at a c) ≡ Some p) (table' : List (ℕ × Tally)) (ht : (q : ℕ) → tally_in table' q ≡ tally_cut (entry_at a) table c (Some p) q) where
    cut-is : (n : ℕ) → entry_at (unlinked a c) n ≡ cut_at c n (entry_at a n)
    cut-is = unlinked-at a c l.linked (rw up refl)

    cut-kind : (q : Kind) (n : ℕ) → has_in (entry_at (unlinked a c)) n q ≡ has_in (entry_at a) n q
    cut-kind q n = ap (entry_has (is_kind q)) (cut-is n) ∙ go (entry_at a n)
      where
        go : (o : Option (Entry (Node X))) → entry_has (is_kind q) (cut_at c n o) ≡ entry_has (is_kind q) o
        go None = refl
        go (Some d) = refl

    cut-list : (n : ℕ) → children_in (entry_at (unlinked a c) n) ≡ left_out c (children_in (entry_at a n))
    cut-list n = ap children_in (cut-is n) ∙ go (entry_at a n)
      where
        go : (o : Option (Entry (Node X))) → children_in (cut_at c n o) ≡ left_out c (children_in o)
        go None = refl
        go (Some d) = refl

    fewer : (q : Kind) → kind_tally q (entry_at (unlinked a c)) (children_in (entry_at (unlinked a c) p)) + one (has_in (entry_at a) c q) ≡ kind_tally q (entry_at a) (children_in (entry_at a p))
    fewer q =
        ap (λ m. m + one (has_in (entry_at a) c q))
        (passing-same (λ n. has_in (entry_at (unlinked a c)) n q) (λ n. has_in (entry_at a) n q) (children_in (entry_at (unlinked a c) p)) (λ n _. cut-kind q n)
        ∙ ap (kind_tally q (entry_at a)) (cut-list p))
        ∙ passing-left_out (λ n. has_in (entry_at a) n q) c (children_in (entry_at a p)) (l.linked p c ∙ ap (λ o. names o p) up ∙ names-same p)

    pub tallied-unlinked : AreTallied (entry_at (unlinked a c)) table'
    tallied-unlinked q t e =
        elim (same_or q p) [
          | same d v ↦ subst (λ n. IsTally (entry_at (unlinked a c)) n t) (sym d) (here (tally_in table p) refl (sym (but-here tallies table' table p _ ht) ∙ ap (tally_in table') (sym d) ∙ e))
          | apart ne v ↦
              tallied-still (entry_at a) (entry_at (unlinked a c)) q
              (cut-list q ∙ left_out-absent c (children_in (entry_at a q)) (l.linked q c ∙ ap (λ o. names o q) up ∙ names-other p q (λ w. ne (sym w))))
              (λ n. cut-kind n q) (λ n x _. cut-kind n x) t
              (k q t (sym (but-other tallies table' table p _ ht q ne) ∙ e))
        ]
      where
        here : (o : Option Tally) → tally_in table p ≡ o → option_map (lowered (has_in (entry_at a) c)) o ≡ Some t → IsTally (entry_at (unlinked a c)) p t
        here None z w = absurd (cc w)
        here (Some u) z w =
            let s : lowered (has_in (entry_at a) c) u ≡ t = cc w in
            let r = k p u z in
            subst (IsTally (entry_at (unlinked a c)) p) s
            record {
              document = cut-kind Document p ∙ r.document;
              elements = omega (arith, fewer Element, r.elements);
              doctypes = omega (arith, fewer DocumentType, r.doctypes);
            }

  -- a root taken out of its slot
  pub tallied-taken : IsSound a → (n : ℕ) → parent_in (entry_at a n) ≡ None → (table' : List (ℕ × Tally)) → ((q : ℕ) → tally_in table' q ≡ tally_but n None table q) → AreTallied (entry_at (taken a n)) table'
  tallied-taken l n root table' ht q t e =
      elim (same_or q n) [
        | same d v ↦ absurd (let z : None ≡ Some t = sym (but-here tallies table' table n None ht) ∙ ap (tally_in table') (sym d) ∙ e in cc z)
        | apart ne v ↦
            tallied-still (entry_at a) (entry_at (taken a n)) q (ap children_in (taken-other a n q ne)) (λ m. ap (entry_has (is_kind m)) (taken-other a n q ne))
            (λ m c hc.
            let nc : c ≡ n → ⊥ = λ d. (let h3 : 0 < hits n (children_in (entry_at a q)) = subst (λ x. 0 < hits x (children_in (entry_at a q))) d hc in omega (arith, h3, l.linked q n, ap (λ o. names o q) root)) in
            ap (entry_has (is_kind m)) (taken-other a n c nc))
            t (k q t (sym (but-other tallies table' table n None ht q ne) ∙ e))
      ]

  -- a node in a fresh slot
  pub tallied-added : IsSound a → (x : Node X) → entry_at a (next_slot a) ≡ None → (table' : List (ℕ × Tally)) → AreStarted (next_slot a) x.label.kind table table' → AreTallied (entry_at (added a x)) table'
  tallied-added l x fresh table' ht q t e =
      ⊎_elim
      (λ (h : tally_in table' q ≡ tally_in table q). old (k q t (sym h ∙ e)))
      (λ (h : (q ≡ next_slot a) × ((is_kind Document x.label.kind ≡ true) × (tally_in table' q ≡ Some bare))).
      let s : bare ≡ t = (let z : Some bare ≡ Some t = sym h.1.1 ∙ e in cc z) in
      subst (IsTally (entry_at (added a x)) q) s (subst (λ n. IsTally (entry_at (added a x)) n bare) (sym h.0) (new h.1.0)))
      (ht q)
    where
      at' : ℕ → Option (Entry (Node X))
      at' = entry_at (added a x)

      here : at' (next_slot a) ≡ Some (alone x)
      here = added-new a x l

      none : children_in (at' (next_slot a)) ≡ []
      none = ap children_in here

      new : is_kind Document x.label.kind ≡ true → IsTally at' (next_slot a) bare
      new d =
          record {
            document = ap (entry_has (is_kind Document)) here ∙ d;
            elements = sym (ap (kind_tally Element at') none);
            doctypes = sym (ap (kind_tally DocumentType at') none);
          }

      old : IsTally (entry_at a) q t → IsTally at' q t
      old r =
          let there = kind-held (entry_at a) q Document r.document in
          let ne : q ≡ next_slot a → ⊥ = λ d. (let w : IsSome (entry_at a (next_slot a)) = subst (λ n. IsSome (entry_at a n)) d there in let w2 = rw fresh at w in no_kind w2) in
          tallied-still (entry_at a) at' q (ap children_in (added-old a x q ne)) (λ m. ap (entry_has (is_kind m)) (added-old a x q ne))
          (λ m c hc.
          let nc : c ≡ next_slot a → ⊥ = λ d. (let h3 : 0 < hits (next_slot a) (children_in (entry_at a q)) = subst (λ n. 0 < hits n (children_in (entry_at a q))) d hc in omega (arith, h3, l.linked q (next_slot a), ap (λ (o : Option (Entry (Node X))). names (parent_in o) q) fresh)) in
          ap (entry_has (is_kind m)) (added-old a x c nc))
          t r
