-- Entries that spell a forest still do after a change.
use Rattle.std.proofs.Common.{◌≡◌, ℕ, ◌<◌, ◌≤◌, true, false, if◌then◌else◌, nat_lt, List, [], ◌∷◌, Option, Some, None, refl, sym, ◌∙◌, subst, arith}
use Rattle.std.proofs.lemmas.Bool.Decides.{nat_tests}
use Rattle.dom_model.specs.Definitions.{hits, is_number, left_out, Entry, parent_in, Node, Forest, empty, node, total, occurs, one_at, tops, beside, tree_at, without, placed_before, placed_under, placed_root, with_node, Lies}
use Rattle.dom_model.proofs.PlainLists.Numbers.{same_or, same, apart}
use Rattle.dom_model.proofs.Forests.{Totals.total-beside, Totals.without-absent, Tops.tops-without, Tops.tops-placed_under, Tops.tops-placed_before, Tops.hits-tops, Changes.cut_at, Changes.link_at, Changes.change_at}

pub left_out-absent : (c : ℕ) (ns : List ℕ) → hits c ns ≡ 0 → left_out c ns ≡ ns
left_out-absent c [] h = refl
left_out-absent c (n ∷ ns) h = grind (arith, left_out-absent c ns)

module _ {X : Type 0} where
  pub Lies-beside : (at : (ℕ → Option (Entry (Node X)))) (q : Option ℕ) (f g : Forest X) → Lies at q f → Lies at q g → Lies at q (beside f g)
  Lies-beside at q empty g l m = m
  Lies-beside at q (node x kids rest) g l m = (l.0, l.1, Lies-beside at q rest g l.2 m)

  pub Lies-placed_root : (at : (ℕ → Option (Entry (Node X)))) (q : Option ℕ) (n : ℕ) (t f : Forest X) → Lies at q t → Lies at q f → Lies at q (placed_root n t f)
  Lies-placed_root at q n t empty l m = l
  Lies-placed_root at q n t (node x kids rest) l m =
      elim (nat_lt n x.number) as (λ v. Lies at q (if v then beside t (node x kids rest) else node x kids (placed_root n t rest))) [
        | true ↦ Lies-beside at q t (node x kids rest) l m
        | false ↦ (m.0, m.1, Lies-placed_root at q n t rest l m.2)
      ]

  pub Lies-placed_before : (at : (ℕ → Option (Entry (Node X)))) (q : Option ℕ) (b : Option ℕ) (t f : Forest X) → Lies at q t → Lies at q f → Lies at q (placed_before b t f)
  Lies-placed_before at q b t empty l m = l
  Lies-placed_before at q b t (node x kids rest) l m =
      elim (is_number b x.number) as (λ v. Lies at q (if v then beside t (node x kids rest) else node x kids (placed_before b t rest))) [
        | true ↦ Lies-beside at q t (node x kids rest) l m
        | false ↦ (m.0, m.1, Lies-placed_before at q b t rest l m.2)
      ]

  -- where the entries of a forest's numbers are kept
  pub Lies-kept : (at at' : (ℕ → Option (Entry (Node X)))) (q : Option ℕ) (f : Forest X) → ((n : ℕ) → 0 < occurs n f → at' n ≡ at n) → Lies at q f → Lies at' q f
  Lies-kept at at' q empty h l = tt
  Lies-kept at at' q (node x kids rest) h l = (
    h x.number (grind (arith, nat_tests)) ∙ l.0,
    Lies-kept at at' (Some x.number) kids (λ n k. h n (omega (arith, k))) l.1,
    Lies-kept at at' q rest (λ n k. h n (omega (arith, k))) l.2,
  )

  pub Lies-without : (at at' : (ℕ → Option (Entry (Node X)))) (c : ℕ) → ((n : ℕ) → at' n ≡ cut_at c n (at n)) → (q : Option ℕ) (f : Forest X) → Lies at q f → Lies at' q (without c f)
  Lies-without at at' c h q empty l = tt
  Lies-without at at' c h q (node x kids rest) l =
      elim (same_or x.number c) [
        | same e t ↦ rw t (Lies-without at at' c h q rest l.2)
        | apart ne t ↦
            rw t (rw (h x.number, l.0, t, tops-without c kids) refl, Lies-without at at' c h (Some x.number) kids l.1, Lies-without at at' c h q rest l.2)
      ]

  pub Lies-cut_top : (at at' : (ℕ → Option (Entry (Node X)))) (c : ℕ) → ((n : ℕ) → at' n ≡ cut_at c n (at n)) → (q : Option ℕ) (f : Forest X) → occurs c f ≤ 1 → Lies at q f → Lies at' None (tree_at c f)
  Lies-cut_top at at' c h q empty o l = tt
  Lies-cut_top at at' c h q (node x kids rest) o l =
      elim (same_or x.number c) [
        | same e t ↦
            let k = rw t at o in
            let z : occurs c kids ≡ 0 = omega arith in
            let zr : occurs c rest ≤ 1 = omega arith in
            let zh : hits c (tops kids) ≡ 0 = omega (arith, hits-tops c kids) in
            let w = Lies-without at at' c h (Some x.number) kids l.1 in
            rw t (rw (h x.number, l.0, t, left_out-absent c (tops kids) zh) refl, rw (without-absent c kids z) at w, Lies-cut_top at at' c h q rest zr l.2)
        | apart ne t ↦
            let k = rw t at o in
            let a : occurs c kids ≤ 1 = omega arith in
            let b : occurs c rest ≤ 1 = omega arith in
            rw t (Lies-beside at' None (tree_at c kids) (tree_at c rest) (Lies-cut_top at at' c h (Some x.number) kids a l.1) (Lies-cut_top at at' c h q rest b l.2))
      ]

  pub Lies-cut : (at at' : (ℕ → Option (Entry (Node X)))) (c : ℕ) → ((n : ℕ) → at' n ≡ cut_at c n (at n)) → (f : Forest X) → occurs c f ≤ 1 → Lies at None f → Lies at' None (placed_root c (tree_at c f) (without c f))
  Lies-cut at at' c h f o l =
      Lies-placed_root at' None c (tree_at c f) (without c f) (Lies-cut_top at at' c h None f o l) (Lies-without at at' c h None f l)

  -- a root stands in no list of children
  pub absent_under : (at : (ℕ → Option (Entry (Node X)))) (c q : ℕ) (f : Forest X) → parent_in (at c) ≡ None → Lies at (Some q) f → occurs c f ≡ 0
  absent_under at c q empty r l = refl
  absent_under at c q (node x kids rest) r l = grind (arith, absent_under at c x.number kids r l.1, absent_under at c q rest r l.2)

  pub Lies-without_root : (at : (ℕ → Option (Entry (Node X)))) (c : ℕ) → parent_in (at c) ≡ None → (f : Forest X) → Lies at None f → Lies at None (without c f)
  Lies-without_root at c r empty l = tt
  Lies-without_root at c r (node x kids rest) l =
      elim (same_or x.number c) [
        | same e t ↦ rw t (Lies-without_root at c r rest l.2)
        | apart ne t ↦
            let z : without c kids ≡ kids = without-absent c kids (absent_under at c x.number kids r l.1) in
            rw (t, z) (l.0, l.1, Lies-without_root at c r rest l.2)
      ]

  unmoved : (at at' : (ℕ → Option (Entry (Node X)))) (p c : ℕ) (b : Option ℕ) → ((n : ℕ) → at' n ≡ link_at p b c n (at n)) → (f : Forest X) → occurs c f ≡ 0 → occurs p f ≡ 0 → (n : ℕ) → 0 < occurs n f → at' n ≡ at n
  unmoved at at' p c b h f zc zp n on = grind arith

  -- the tree that is put, under its new parent
  pub Lies-put_top : (at at' : (ℕ → Option (Entry (Node X)))) (p c : ℕ) (b : Option ℕ) → ((n : ℕ) → at' n ≡ link_at p b c n (at n)) → (q : Option ℕ) (f : Forest X) → occurs c f ≤ 1 → occurs p (tree_at c f) ≡ 0 → Lies at q f → Lies at' (Some p) (tree_at c f)
  Lies-put_top at at' p c b h q empty o z l = tt
  Lies-put_top at at' p c b h q (node x kids rest) o z l =
      elim (same_or x.number c) [
        | same e t ↦
            let k = rw t at o in
            let y = rw t at z in
            let zc : occurs c kids ≡ 0 = omega arith in
            let zr : occurs c rest ≤ 1 = omega arith in
            elim (same_or x.number p) [
              | same e2 t2 ↦ absurd (let y2 = rw t2 at y in omega arith)
              | apart ne2 t2 ↦
                  let y2 = rw t2 at y in
                  let pk : occurs p kids ≡ 0 = omega arith in
                  let pr : occurs p (tree_at c rest) ≡ 0 = omega arith in
                  rw t (
                    rw (h x.number, l.0, t, t2) refl,
                    Lies-kept at at' (Some x.number) kids (unmoved at at' p c b h kids zc pk) l.1,
                    Lies-put_top at at' p c b h q rest zr pr l.2,
                  )
            ]
        | apart ne t ↦
            let k = rw t at o in
            let y = rw t at z in
            let a : occurs c kids ≤ 1 = omega arith in
            let d : occurs c rest ≤ 1 = omega arith in
            let s = total-beside (one_at p) (tree_at c kids) (tree_at c rest) in
            let pk : occurs p (tree_at c kids) ≡ 0 = omega arith in
            let pr : occurs p (tree_at c rest) ≡ 0 = omega arith in
            rw t (Lies-beside at' (Some p) (tree_at c kids) (tree_at c rest) (Lies-put_top at at' p c b h (Some x.number) kids a pk l.1) (Lies-put_top at at' p c b h q rest d pr l.2))
      ]

  pub Lies-placed_under : (at at' : (ℕ → Option (Entry (Node X)))) (p c : ℕ) (b : Option ℕ) (t : Forest X) → ((n : ℕ) → at' n ≡ link_at p b c n (at n)) → tops t ≡ c ∷ [] → Lies at' (Some p) t → (q : Option ℕ) (f : Forest X) → occurs c f ≡ 0 → Lies at q f → Lies at' q (placed_under p b t f)
  Lies-placed_under at at' p c b t h e lt q empty o l = tt
  Lies-placed_under at at' p c b t h e lt q (node x kids rest) o l =
      elim (same_or x.number c) [
        | same e1 v1 ↦ absurd (let k = rw v1 at o in omega arith)
        | apart ne1 v1 ↦
            let k = rw v1 at o in
            let zk : occurs c kids ≡ 0 = omega arith in
            let zr : occurs c rest ≡ 0 = omega arith in
            let lk = Lies-placed_under at at' p c b t h e lt (Some x.number) kids zk l.1 in
            let lr = Lies-placed_under at at' p c b t h e lt q rest zr l.2 in
            elim (same_or x.number p) [
              | same e2 v2 ↦
                  let lk2 = rw e2 at lk in
                  rw v2 (
                    rw (h x.number, l.0, v1, v2, tops-placed_before b c t (placed_under p b t kids) e, tops-placed_under p b t kids) refl,
                    (rw e2 (Lies-placed_before at' (Some p) b t (placed_under p b t kids) lt lk2)),
                    lr,
                  )
              | apart ne2 v2 ↦
                  rw v2 (rw (h x.number, l.0, v1, v2, tops-placed_under p b t kids) refl, lk, lr)
            ]
      ]

  pub tops-with_node : (n : ℕ) (g : Node X → Node X) → ((x : Node X) → (g x).number ≡ x.number) → (f : Forest X) → tops (with_node n g f) ≡ tops f
  tops-with_node n g h empty = refl
  tops-with_node n g h (node x kids rest) = grind (arith, tops-with_node n g h rest)

  pub total-with_node : (w : ℕ → ℕ) (n : ℕ) (g : Node X → Node X) → ((x : Node X) → (g x).number ≡ x.number) → (f : Forest X) → total w (with_node n g f) ≡ total w f
  total-with_node w n g h empty = refl
  total-with_node w n g h (node x kids rest) = grind (arith, total-with_node w n g h kids, total-with_node w n g h rest)

  pub Lies-with_node : (at at' : (ℕ → Option (Entry (Node X)))) (n : ℕ) (g : Node X → Node X) → ((x : Node X) → (g x).number ≡ x.number) → ((k : ℕ) → at' k ≡ change_at g n k (at k)) → (q : Option ℕ) (f : Forest X) → Lies at q f → Lies at' q (with_node n g f)
  Lies-with_node at at' n g h c q empty l = tt
  Lies-with_node at at' n g h c q (node x kids rest) l =
      elim (same_or x.number n) [
        | same e t ↦
            let top : at' x.number ≡ Some (record { value = g x; parent = q; children = tops (with_node n g kids) }) =
            rw (c x.number, l.0, t, tops-with_node n g h kids) refl in
            rw t (
              subst (λ m. at' m ≡ Some (record { value = g x; parent = q; children = tops (with_node n g kids) })) (sym (h x)) top,
              subst (λ m. Lies at' (Some m) (with_node n g kids)) (sym (h x)) (Lies-with_node at at' n g h c (Some x.number) kids l.1),
              Lies-with_node at at' n g h c q rest l.2,
            )
        | apart ne t ↦
            rw t (rw (c x.number, l.0, t, tops-with_node n g h kids) refl, Lies-with_node at at' n g h c (Some x.number) kids l.1, Lies-with_node at at' n g h c q rest l.2)
      ]
