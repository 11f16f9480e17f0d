-- What the steps of the code do to what callers see, and to the links.
use Rattle.std.proofs.Common.{◌≡◌, ℕ, zero, suc, ◌+◌, ◌-◌, ◌<◌, ◌^◌, ◌==◌, Bool, true, false, List, [], ◌∷◌, ◌++◌, length, map, set, get_or, take, slice_get, swap_remove, Option, Some, None, option_map, refl, sym, ap, ◌∙◌, ⊎_elim, arith}
use Rattle.std.proofs.lemmas.{Bool.cases_eq, Bool.eq-eqb, Bool.ne_eqb, List.length-map, List.map-set, List.get_or-map, List.get_or_append_left, List.get_or-take, List.length_push, List.map_push, List.take-map, List.length-take-le, Option.slice_get-map, Option.slice_get_read, Option.slice_get_past, Option.get_or_from_slice_get}
use Rattle.dom_model.specs.Definitions.{hits}
use Rattle.dom_chains.specs.{declared.table.Seat.Seat, declared.table.Table.Table, Keyed.Keyed, Keyed.key_at, Chained.Firsts, Chained.head_at, Chained.Links, Chained.link_at, Chained.counted_at, Chained.IsChained, Chained.HasChains, Chained.led, Chained.led_back, Chained.led_first, Chained.keys_without, Chained.seat_item, Chained.items_of, Chained.keys_in, Chained.links_of, Chained.AreChained}
use Rattle.dom_slots.proofs.ListPlaceLemmas.{slice_get-set_same, slice_get-set_other}
use Rattle.dom_chains.proofs.AllItemsLemmas.{slice_get-pushed, slice_get-cut}

-- a seat that was read
module _ {T : Type 0} (seats : List (Seat T)) (id : ℕ) (s : Seat T) (read : s ≡ get_or seats id s) where
  pub item-read : id < length seats → slice_get (map seat_item seats) id ≡ Some (seat_item s)
  item-read within = slice_get-map seat_item seats id ∙ ap (option_map seat_item) (slice_get_read seats (length seats) id s refl within read)

  pub link-read : (f : Seat T → Option ℕ) → id < length seats → f s ≡ link_at (map f seats) id
  link-read f within = ap f read ∙ sym (get_or-map f seats id s None within)

-- a seat that was written, of which one part is as it was
pub map-set_same : {A B : Type 0} (f : A → B) (xs : List A) (k : ℕ) (x y : A) → x ≡ get_or xs k x → f y ≡ f x → map f (set xs k y) ≡ map f xs
map-set_same f [] k x y read e = refl
map-set_same f (z ∷ zs) zero x y read e = ap (λ b. b ∷ map f zs) (e ∙ ap f read)
map-set_same f (z ∷ zs) (suc k) x y read e = ap (λ bs. f z ∷ bs) (map-set_same f zs k x y read e)

-- what callers see, and the links, part by part
pub keyed-is : {T : Type 0} {items items' : List (ℕ × T)} {covered covered' : List Bool} {room room' : ℕ} → items ≡ items' → covered ≡ covered' → room ≡ room'
    → ◌≡◌ {A = Keyed T} (record { items = items; covered = covered; room = room }) (record { items = items'; covered = covered'; room = room' })
keyed-is a b c = λ i. record { items = a i; covered = b i; room = c i }

pub links-are : {prevs prevs' nexts nexts' : List (Option ℕ)} {heads heads' : Firsts} → prevs ≡ prevs' → nexts ≡ nexts' → heads ≡ heads'
    → ◌≡◌ {A = Links} (record { prevs = prevs; nexts = nexts; heads = heads }) (record { prevs = prevs'; nexts = nexts'; heads = heads' })
links-are a b c = λ i. record { prevs = a i; nexts = b i; heads = c i }

pub items-length : {T H : Type 0} (t : Table T H) → length (items_of t) ≡ length t.seats.items
items-length t = length-map t.seats.items seat_item

module _ {T H : Type 0} (by_key : H → Firsts) (t : Table T H) where
  pub prevs-length : length (links_of by_key t).prevs ≡ length (items_of t)
  prevs-length = length-map t.seats.items (λ (s : Seat T). s.prev) ∙ sym (items-length t)

  pub nexts-length : length (links_of by_key t).nexts ≡ length (items_of t)
  nexts-length = length-map t.seats.items (λ (s : Seat T). s.next) ∙ sym (items-length t)

-- the same keys, read otherwise
pub IsChained-keys : (keys keys' : ℕ → Option ℕ) (c : ℕ → List ℕ) (l : Links) → ((e : ℕ) → keys' e ≡ keys e) → IsChained keys c l → IsChained keys' c l
IsChained-keys keys keys' c l same ok = record { first = ok.first; counted = λ e n. ok.counted e n ∙ ap (counted_at n) (sym (same e)); next = ok.next; prev = ok.prev; within = ok.within; few = ok.few }

module _ {T : Type 0} (items : List (ℕ × T)) (id : ℕ) (it : ℕ × T) where
  -- the keys without an item, once it is written
  pub without-written : (e : ℕ) → keys_without id (key_at (set items id it)) e ≡ keys_without id (key_at items) e
  without-written e =
      ⊎_elim (λ (q : e ≡ id). let y : (e == id) ≡ true = eq-eqb e id q in rw y refl)
      (λ (d : e ≡ id → ⊥). let y : (e == id) ≡ false = ne_eqb e id d in rw y (ap (option_map (λ (x : ℕ × T). x.0)) (slice_get-set_other items id e it d))) (cases_eq e id)

  -- an item that is written with its key
  pub key-written : id < length items → key_at (set items id it) id ≡ Some it.0
  key-written within = ap (option_map (λ (x : ℕ × T). x.0)) (slice_get-set_same items id it within)

  pub keys-kept : key_at items id ≡ Some it.0 → id < length items → (e : ℕ) → key_at (set items id it) e ≡ key_at items e
  keys-kept has within e =
      ⊎_elim (λ (q : e ≡ id). rw q (key-written within ∙ sym has)) (λ (d : e ≡ id → ⊥). ap (option_map (λ (x : ℕ × T). x.0)) (slice_get-set_other items id e it d)) (cases_eq e id)

  -- the keys without the item that was pushed, and those without the last, which is cut off
  pub without-pushed : id ≡ length items → (e : ℕ) → keys_without id (key_at (items ++ it ∷ [])) e ≡ key_at items e
  without-pushed last e =
      ⊎_elim (λ (q : e ≡ id). let y : (e == id) ≡ true = eq-eqb e id q in rw y (sym (ap (option_map (λ (x : ℕ × T). x.0)) (slice_get_past items e (omega arith)))))
      (λ (d : e ≡ id → ⊥). let y : (e == id) ≡ false = ne_eqb e id d in rw y (ap (option_map (λ (x : ℕ × T). x.0)) (slice_get-pushed items it e (λ q. d (q ∙ sym last))))) (cases_eq e id)

pub without-cut : {T : Type 0} (items : List (ℕ × T)) (id : ℕ) → id + 1 ≡ length items → (e : ℕ) → key_at (take id items) e ≡ keys_without id (key_at items) e
without-cut {T} items id last e =
    ⊎_elim (λ (q : e ≡ id). let y : (e == id) ≡ true = eq-eqb e id q in rw y (ap (option_map (λ (x : ℕ × T). x.0)) (slice_get_past (take id items) e (omega (arith, length-take-le id items (omega arith))))))
    (λ (d : e ≡ id → ⊥). let y : (e == id) ≡ false = ne_eqb e id d in rw y (ap (option_map (λ (x : ℕ × T). x.0)) (slice_get-cut items id e last d))) (cases_eq e id)

-- links of one item more, and of one less, that is in no chain
module _ (keys : ℕ → Option ℕ) (c : ℕ → List ℕ) (l : Links) (ok : IsChained keys c l) where
  pub IsChained-pushed : length l.nexts < 2 ^ 33 → IsChained keys c (record { prevs = l.prevs ++ None ∷ []; nexts = l.nexts ++ None ∷ []; heads = l.heads })
  IsChained-pushed few = record {
    first = ok.first;
    counted = ok.counted;
    next = λ e n h. get_or_append_left l.nexts (None ∷ []) None e (ok.within e n h).1 ∙ ok.next e n h;
    prev = λ e n h. get_or_append_left l.prevs (None ∷ []) None e (ok.within e n h).0 ∙ ok.prev e n h;
    within = λ e n h. let w = ok.within e n h in (omega (arith, w.0, length_push l.prevs None), omega (arith, w.1, length_push l.nexts None));
    few = omega (arith, few, length_push l.nexts None);
  }

  pub IsChained-cut : (n : ℕ) → n + 1 ≡ length l.prevs → n + 1 ≡ length l.nexts → keys n ≡ None → IsChained keys c (record { prevs = take n l.prevs; nexts = take n l.nexts; heads = l.heads })
  IsChained-cut n p q none = record {
    first = ok.first;
    counted = ok.counted;
    next = λ e m h. get_or-take n l.nexts e None (below e m h) ∙ ok.next e m h;
    prev = λ e m h. get_or-take n l.prevs e None (below e m h) ∙ ok.prev e m h;
    within = λ e m h. (omega (arith, below e m h, length-take-le n l.prevs (omega arith)), omega (arith, below e m h, length-take-le n l.nexts (omega arith)));
    few = omega (arith, ok.few, length-take-le n l.nexts (omega arith));
  }
    where
      below : (e m : ℕ) → 0 < hits e (c m) → e < n
      below e m h =
          ⊎_elim (λ (i : e ≡ n). absurd (omega (arith, ok.counted e m, ap (counted_at m) (ap keys i ∙ none))))
          (λ (d : e ≡ n → ⊥). omega (arith, (ok.within e m h).1, d)) (cases_eq e n)

  -- other heads that lead to the same
  pub IsChained-heads : (heads : Firsts) → ((n : ℕ) → head_at heads n ≡ head_at l.heads n) → IsChained keys c (record { prevs = l.prevs; nexts = l.nexts; heads = heads })
  IsChained-heads heads same = record { first = λ n. same n ∙ ok.first n; counted = ok.counted; next = ok.next; prev = ok.prev; within = ok.within; few = ok.few }

-- there are no items yet
pub chains-new : {T H : Type 0} (by_key : H → Firsts) (t : Table T H) → t.seats.items ≡ [] → ((n : ℕ) → head_at (by_key t.heads) n ≡ None) → AreChained by_key t
chains-new by_key t none heads = rw none (record {
  chain = λ n. [];
  chained = record {
    first = heads;
    counted = λ e n. refl;
    next = λ e n h. absurd (omega arith);
    prev = λ e n h. absurd (omega arith);
    within = λ e n h. absurd (omega arith);
    few = omega arith;
  };
})

-- an item comes first in a chain, by what was read and written
pub first-written : {T : Type 0} (seats : List (Seat T)) (heads heads' : Firsts) (l : Links) (id key : ℕ) (seat : Seat T) → seat.prev ≡ None → seat.next ≡ head_at l.heads key
    → ◌≡◌ {A = Links} (record { prevs = map (λ (s : Seat T). s.prev) seats; nexts = map (λ (s : Seat T). s.next) seats; heads = heads }) (led_back seat.next (Some id) l) → heads' ≡ set heads key (Some (Some id))
    → ◌≡◌ {A = Links} (record { prevs = map (λ (s : Seat T). s.prev) (set seats id seat); nexts = map (λ (s : Seat T). s.next) (set seats id seat); heads = heads' }) (led_first id key l)
first-written {T} seats heads heads' l id key seat none read back begun =
    links-are
    (map-set (λ (s : Seat T). s.prev) seats id seat ∙ ap (set (map (λ (s : Seat T). s.prev) seats) id) none ∙ ap (λ (m : Links). set m.prevs id None) back ∙ ap (λ o. set (led o (Some id) l.prevs) id None) read)
    (map-set (λ (s : Seat T). s.next) seats id seat ∙ ap (λ (m : Links). set m.nexts id seat.next) back ∙ ap (set l.nexts id) read)
    (begun ∙ ap (λ (m : Links). set m.heads key (Some (Some id))) back)

module _ {T H : Type 0} (by_key : H → Firsts) (t t' : Table T H) (heads : by_key t'.heads ≡ by_key t.heads) where
  -- an item that was pushed is in no chain yet
  pub chains-pushed : (s : Seat T) (id : ℕ) → t'.seats.items ≡ t.seats.items ++ s ∷ [] → s.prev ≡ None → s.next ≡ None → id ≡ length (items_of t) → length (items_of t) < 2 ^ 33 → AreChained by_key t → HasChains (keys_without id (keys_in t')) (links_of by_key t')
  chains-pushed s id pushed none-before none-after last few has =
      let l = links_of by_key t in
      let links : links_of by_key t' ≡ record { prevs = l.prevs ++ None ∷ []; nexts = l.nexts ++ None ∷ []; heads = l.heads } =
      links-are
      (ap (map (λ (x : Seat T). x.prev)) pushed ∙ map_push (λ (x : Seat T). x.prev) t.seats.items s ∙ ap (λ o. l.prevs ++ o ∷ []) none-before)
      (ap (map (λ (x : Seat T). x.next)) pushed ∙ map_push (λ (x : Seat T). x.next) t.seats.items s ∙ ap (λ o. l.nexts ++ o ∷ []) none-after) heads in
      let items : items_of t' ≡ items_of t ++ seat_item s ∷ [] = ap (map seat_item) pushed ∙ map_push seat_item t.seats.items s in
      record {
        chain = has.chain;
        chained = rw (items, links)
            (IsChained-keys (keys_in t) _ has.chain _ (without-pushed (items_of t) id (seat_item s) last)
            (IsChained-pushed (keys_in t) has.chain l has.chained (omega (arith, few, nexts-length by_key t))));
      }

  -- the last item, in no chain any more, is cut off
  pub chains-cut : (last : ℕ) → t'.seats.items ≡ take last t.seats.items → last + 1 ≡ length (items_of t) → HasChains (keys_without last (keys_in t)) (links_of by_key t) → AreChained by_key t'
  chains-cut last cut long has =
      let l = links_of by_key t in
      let links : links_of by_key t' ≡ record { prevs = take last l.prevs; nexts = take last l.nexts; heads = l.heads } =
      links-are
      (ap (map (λ (x : Seat T). x.prev)) cut ∙ sym (take-map (λ (x : Seat T). x.prev) last t.seats.items))
      (ap (map (λ (x : Seat T). x.next)) cut ∙ sym (take-map (λ (x : Seat T). x.next) last t.seats.items)) heads in
      let items : items_of t' ≡ take last (items_of t) = ap (map seat_item) cut ∙ sym (take-map seat_item last t.seats.items) in
      let none : keys_without last (keys_in t) last ≡ None = rw (eq-eqb last last refl) refl in
      record {
        chain = has.chain;
        chained = rw (items, links)
            (IsChained-keys (keys_without last (keys_in t)) _ has.chain _ (without-cut (items_of t) last long)
            (IsChained-cut (keys_without last (keys_in t)) has.chain l has.chained last (omega (arith, long, prevs-length by_key t)) (omega (arith, long, nexts-length by_key t)) none));
      }

-- what swap_remove leaves, by the last item as it was read
pub swapped-last : {A : Type 0} (xs : List A) (k last : ℕ) (x d : A) → last + 1 ≡ length xs → slice_get xs last ≡ Some x → take last (set xs k x) ≡ swap_remove xs k d
swapped-last xs k last x d long at =
    let same : last ≡ length xs - 1 = omega arith in
    ap (λ y. take last (set xs k y)) (sym (get_or_from_slice_get xs last x d at)) ∙ ap (λ n. take n (set xs k (get_or xs n d))) same
