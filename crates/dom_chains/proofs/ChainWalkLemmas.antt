-- A walk along a chain comes to each of its items once, also where items go to other chains on the way.
use Rattle.std.proofs.Common.{◌≡◌, ℕ, zero, suc, ◌≤◌, ◌<◌, ◌==◌, true, false, if◌then◌else◌, ◌⊎◌, List, [], ◌∷◌, length, map, set, slice_get, subst, Option, Some, None, option_map, refl, sym, ap, ◌∙◌, inl, inr, ⊎_elim, arith}
use Rattle.std.proofs.lemmas.{Bool.cases_Bool, Bool.cases_eq, Bool.eq-eqb, Bool.ne_eqb, Option.none-some, Option.same_Some, Option.slice_get_within, Option.slice_get-map}
use Rattle.dom_model.specs.Definitions.{hits, among, is_number, head_of, after, left_out}
use Rattle.dom_model.proofs.Forests.{Climbing.hits-not_among, Climbing.not_among-hits, Listed.hits-itself}
use Rattle.dom_model.proofs.PlainLists.Heads.{hits-rest, after-first, after-rest, among-first, among-rest}
use Rattle.dom_links.proofs.{ListNeighbourLemmas.after-none, ListNeighbourLemmas.after-left_out, ListNeighbourLemmas.hits-left_out_other, ListLengthLemmas.length-le_from_once}
use Rattle.dom_chains.specs.{Keyed.key_at, Keyed.on_key, Chained.head_at, Chained.Links, Chained.link_at, Chained.counted_at, Chained.IsChained, Chained.HasChains, Chained.Rechains, Chained.moved}
use Rattle.dom_slots.proofs.ListPlaceLemmas.{slice_get-set_same, slice_get-set_other}
use Rattle.dom_chains.proofs.{AllItemsLemmas.same-items, RechainsLemmas.in-stands, RechainsLemmas.once, RechainsLemmas.stands-itself}

-- the items along the links, no more than the fuel
abbrev pub along : List (Option ℕ) → ℕ → Option ℕ → List ℕ
along nexts zero link = []
along nexts (suc k) None = []
along nexts (suc k) (Some e) = e ∷ along nexts k (link_at nexts e)

along-rest : (nexts : List (Option ℕ)) (fuel : ℕ) (rest : List ℕ) → ((e : ℕ) → hits e rest ≤ 1) → ((e : ℕ) → 0 < hits e rest → link_at nexts e ≡ after e rest) → length rest ≤ fuel → along nexts fuel (head_of rest) ≡ rest
along-rest nexts zero [] one next few = refl
along-rest nexts zero (e ∷ es) one next few = absurd (omega arith)
along-rest nexts (suc k) [] one next few = refl
along-rest nexts (suc k) (e ∷ es) one next few =
    let h = hits-itself e es in
    let n : link_at nexts e ≡ head_of es = next e (omega arith) ∙ after-first e es in
    ap (λ xs. e ∷ xs) (ap (along nexts k) n ∙ along-rest nexts k es one' next' (omega arith))
  where
    out : hits e es ≡ 0
    out = omega (arith, one e, hits-itself e es)

    other : (k : ℕ) → 0 < hits k es → k ≡ e → ⊥
    other k h q = let z : 0 < hits e es = rw q at h in omega (arith, out)

    one' : (k : ℕ) → hits k es ≤ 1
    one' k = omega (arith, one k)

    next' : (k : ℕ) → 0 < hits k es → link_at nexts k ≡ after k es
    next' k h = let d = other k h in next k (omega (arith, hits-rest k e es d)) ∙ after-rest k e es d

-- what is left of a key's chain: some of its items, in their order
pub record IsLeft (keys : ℕ → Option ℕ) (key : ℕ) (l : Links) (chain : ℕ → List ℕ) (rest : List ℕ) : Type 0 where
  pub chained : IsChained keys chain l
  pub one : (e : ℕ) → hits e rest ≤ 1
  pub inside : (e : ℕ) → 0 < hits e rest → 0 < hits e (chain key)
  pub follows : (e : ℕ) → 0 < hits e rest → after e (chain key) ≡ after e rest

-- a walk that has come to an item, or to the end, and what holds of the rest
pub record Walks (keys : ℕ → Option ℕ) (key : ℕ) (l : Links) (here : Option ℕ) (Done : List ℕ → Type 0) : Type 0 where
  pub chain : ℕ → List ℕ
  pub rest : List ℕ
  pub starts : here ≡ head_of rest
  pub left : IsLeft keys key l chain rest
  pub done : Done rest

pub walk-start : (keys : ℕ → Option ℕ) (key : ℕ) (l : Links) (here : Option ℕ) (Done : List ℕ → Type 0) → HasChains keys l → here ≡ head_at l.heads key → ((rest : List ℕ) → ((e : ℕ) → hits e rest ≡ counted_at key (keys e)) → Done rest) → Walks keys key l here Done
walk-start keys key l here Done has h done = record {
  chain = has.chain;
  rest = has.chain key;
  starts = h ∙ has.chained.first key;
  left = record { chained = has.chained; one = λ e. once keys has.chain l has.chained e key; inside = λ e w. w; follows = λ e w. refl };
  done = done (has.chain key) (λ e. has.chained.counted e key);
}

-- along the links lies just the rest
measured : (keys : ℕ → Option ℕ) (key : ℕ) (l : Links) (here : Option ℕ) (Done : List ℕ → Type 0) (w : Walks keys key l here Done) → along l.nexts (length l.nexts) here ≡ w.rest
measured keys key l here Done w = ap (along l.nexts (length l.nexts)) w.starts ∙ along-rest l.nexts (length l.nexts) w.rest w.left.one next few
  where
    next : (e : ℕ) → 0 < hits e w.rest → link_at l.nexts e ≡ after e w.rest
    next e h = w.left.chained.next e key (w.left.inside e h) ∙ w.left.follows e h

    few : length w.rest ≤ length l.nexts
    few =
        length-le_from_once (length l.nexts) w.rest w.left.one (λ i past.
        ⊎_elim (λ (z : hits i w.rest ≡ 0). z) (λ (d : hits i w.rest ≡ 0 → ⊥).
        let b = w.left.chained.within i key (w.left.inside i (omega arith)) in
        absurd (omega (arith, b.1))) (cases_eq (hits i w.rest) 0))

-- of two walks the one has fewer items before it
abbrev pub IsSmaller : Links → Option ℕ → Links → Option ℕ → Type 0
IsSmaller l' here' l here = length (along l'.nexts (length l'.nexts) here') < length (along l.nexts (length l.nexts) here)

module _ (keys : ℕ → Option ℕ) (key : ℕ) (l : Links) (here : Option ℕ) (Done : List ℕ → Type 0) (w : Walks keys key l here Done) where
  pub walk-end : here ≡ None → Done []
  walk-end q = go w.rest w.done (sym w.starts ∙ q)
    where
      go : (rest : List ℕ) → Done rest → head_of rest ≡ None → Done []
      go [] d h = d
      go (x ∷ es) d h = absurd (none-some x (sym h))

  module _ (id : ℕ) (q : here ≡ Some id) where
    record Stop : Type 0 where
      pub es : List ℕ
      pub is : w.rest ≡ id ∷ es

    stop : Stop
    stop = go w.rest refl (sym w.starts ∙ q)
      where
        go : (rest : List ℕ) → w.rest ≡ rest → head_of rest ≡ Some id → Stop
        go [] e h = absurd (none-some id h)
        go (x ∷ es) e h = record { es = es; is = e ∙ ap (λ y. y ∷ es) (same_Some x id h) }

    left : IsLeft keys key l w.chain (id ∷ stop.es)
    left = subst (IsLeft keys key l w.chain) stop.is w.left

    there : 0 < hits id (w.chain key)
    there = left.inside id (omega (arith, hits-itself id stop.es))

    out : hits id stop.es ≡ 0
    out = omega (arith, left.one id, hits-itself id stop.es)

    -- the item where the walk stands
    pub walk-key : keys id ≡ Some key
    walk-key = in-stands keys w.chain l w.left.chained id key there

    pub walk-done : (es : List ℕ) × Done (id ∷ es)
    walk-done = (stop.es, subst Done stop.is w.done)

    -- a step, with which the item may leave the chain
    module _ (keys' : ℕ → Option ℕ) (l' : Links) (Done' : List ℕ → Type 0) (chain' : ℕ → List ℕ) (ok : IsChained keys' chain' l') (leaves : (chain' key ≡ w.chain key) ⊎ (chain' key ≡ left_out id (w.chain key))) (done : (es : List ℕ) → hits id es ≡ 0 → Done (id ∷ es) → Done' es) where
      other : (k : ℕ) → 0 < hits k stop.es → k ≡ id → ⊥
      other k h e = let z : 0 < hits id stop.es = rw e at h in omega (arith, out)

      inside : (k : ℕ) → 0 < hits k stop.es → 0 < hits k (chain' key)
      inside k h =
          let d = other k h in
          let i : 0 < hits k (w.chain key) = left.inside k (omega (arith, hits-rest k id stop.es d)) in
          ⊎_elim (λ (e : chain' key ≡ w.chain key). omega (arith, ap (hits k) e)) (λ (e : chain' key ≡ left_out id (w.chain key)). omega (arith, ap (hits k) e, hits-left_out_other k id (w.chain key) (λ p. d (sym p)))) leaves

      follows : (k : ℕ) → 0 < hits k stop.es → after k (chain' key) ≡ after k stop.es
      follows k h =
          let d = other k h in
          let a : after k (w.chain key) ≡ after k stop.es = left.follows k (omega (arith, hits-rest k id stop.es d)) ∙ after-rest k id stop.es d in
          let b : is_number (after k (w.chain key)) id ≡ false = rw a (after-none k id stop.es out) in
          ⊎_elim (λ (e : chain' key ≡ w.chain key). ap (after k) e ∙ a)
          (λ (e : chain' key ≡ left_out id (w.chain key)). ap (after k) e ∙ after-left_out k id (w.chain key) d (once keys w.chain l w.left.chained id key) ∙ rw b a) leaves

      on : Walks keys' key l' (link_at l.nexts id) Done'
      on = record {
        chain = chain';
        rest = stop.es;
        starts = w.left.chained.next id key there ∙ left.follows id (omega (arith, hits-itself id stop.es)) ∙ after-first id stop.es;
        left = record { chained = ok; one = λ k. omega (arith, left.one k); inside = inside; follows = follows };
        done = done stop.es out (subst Done stop.is w.done);
      }

      pub walk-step : Walks keys' key l' (link_at l.nexts id) Done' × IsSmaller l' (link_at l.nexts id) l here
      unfolding on
      walk-step = (on, omega (arith, ap length (measured keys' key l' (link_at l.nexts id) Done' on), ap length (measured keys key l here Done w), ap length stop.is))

-- an item of the key that is placed anew keeps its place in the chain, or leaves the chain
pub moved-away : (id key to : ℕ) (from : Option ℕ) (chain : ℕ → List ℕ) → from ≡ Some key → (moved id from to chain key ≡ chain key) ⊎ (moved id from to chain key ≡ left_out id (chain key))
moved-away id key to from chain h =
    ⊎_elim (λ (e : key ≡ to). let y : (key == to) ≡ true = eq-eqb key to e in inl (rw (h, y) refl))
    (λ (d : key ≡ to → ⊥). let y : (key == to) ≡ false = ne_eqb key to d in let z : (to == key) ≡ false = ne_eqb to key (λ q. d (sym q)) in inr (rw (h, y, z) refl)) (cases_eq key to)

-- a walk that asks: what is not in the rest was asked
module _ {T : Type 0} (key : ℕ) (items : List (ℕ × T)) (Was : T → Type 0) where
  abbrev pub Asked : List ℕ → Type 0
  Asked rest = (id : ℕ) (it : ℕ × T) → slice_get items id ≡ Some it → it.0 ≡ key → hits id rest ≡ 0 → Was it.1

  pub asked-none : (rest : List ℕ) → ((e : ℕ) → hits e rest ≡ counted_at key (key_at items e)) → Asked rest
  asked-none rest all id it at has out =
      let a : key_at items id ≡ Some key = ap (option_map (λ (x : ℕ × T). x.0)) at ∙ ap Some has in
      absurd (omega (arith, all id, ap (counted_at key) a, stands-itself key))

  asked-more : (id : ℕ) (it : ℕ × T) → slice_get items id ≡ Some it → Was it.1 → (es : List ℕ) → Asked (id ∷ es) → Asked es
  asked-more id it at was es before k x there has gone =
      ⊎_elim (λ (e : k ≡ id). let s : Some it ≡ Some x = sym at ∙ (ap (slice_get items) (sym e) ∙ there) in subst (λ (y : ℕ × T). Was y.1) (same_Some it x s) was)
      (λ (d : k ≡ id → ⊥). before k x there has (hits-rest k id es d ∙ gone)) (cases_eq k id)

  pub asked-on : (l : Links) (here : Option ℕ) (w : Walks (key_at items) key l here Asked) (id : ℕ) → here ≡ Some id → (it : ℕ × T) → slice_get items id ≡ Some it → Was it.1 → Walks (key_at items) key l (link_at l.nexts id) Asked × IsSmaller l (link_at l.nexts id) l here
  asked-on l here w id q it at was = walk-step (key_at items) key l here Asked w id q (key_at items) l Asked w.chain w.left.chained (inl refl) (λ es gone. asked-more id it at was es)

-- a walk that changes: what is not in the rest was changed
module _ {T : Type 0} (key : ℕ) (change : ℕ × T → ℕ × T) (items : List (ℕ × T)) where
  abbrev pub Changed : List (ℕ × T) → List ℕ → Type 0
  Changed now rest = (id : ℕ) → slice_get now id ≡ (if among id rest then slice_get items id else option_map (on_key key change) (slice_get items id))

  stays : (o : Option (ℕ × T)) → counted_at key (option_map (λ (it : ℕ × T). it.0) o) ≡ 0 → o ≡ option_map (on_key key change) o
  stays None h = refl
  stays (Some it) h =
      ⊎_elim (λ (e : it.0 ≡ key). absurd (omega (arith, h, ap (λ k. counted_at key (Some k)) e, stands-itself key))) (λ (d : it.0 ≡ key → ⊥). let y : (it.0 == key) ≡ false = ne_eqb it.0 key d in rw y refl) (cases_eq it.0 key)

  pub changed-none : (rest : List ℕ) → ((e : ℕ) → hits e rest ≡ counted_at key (key_at items e)) → Changed items rest
  changed-none rest all id =
      ⊎_elim (λ (y : among id rest ≡ true). rw y refl)
      (λ (y : among id rest ≡ false). rw y (stays (slice_get items id) (sym (all id) ∙ not_among-hits id rest y))) (cases_Bool (among id rest))

  -- the item where the walk stands is as it was
  pub changed-here : (now : List (ℕ × T)) (id : ℕ) (es : List ℕ) → Changed now (id ∷ es) → slice_get now id ≡ slice_get items id
  changed-here now id es before = before id ∙ rw (among-first id es) refl

  changed-more : (now : List (ℕ × T)) (id : ℕ) (it : ℕ × T) → slice_get now id ≡ Some it → it.0 ≡ key → (es : List ℕ) → hits id es ≡ 0 → Changed now (id ∷ es) → Changed (set now id (change it)) es
  changed-more now id it at has es gone before k =
      ⊎_elim (λ (e : k ≡ id).
      let y : (it.0 == key) ≡ true = eq-eqb it.0 key has in
      let is : slice_get items id ≡ Some it = sym (changed-here now id es before) ∙ at in
      let a : option_map (on_key key change) (Some it) ≡ Some (change it) = rw y refl in
      rw (e, hits-not_among id es gone) (slice_get-set_same now id (change it) (slice_get_within now id it at) ∙ sym (ap (option_map (on_key key change)) is ∙ a)))
      (λ (d : k ≡ id → ⊥). slice_get-set_other now id k (change it) d ∙ before k ∙ rw (among-rest k id es d) refl) (cases_eq k id)

  pub changed-all : (now : List (ℕ × T)) → Changed now [] → now ≡ map (on_key key change) items
  changed-all now all = same-items now (map (on_key key change) items) (λ k. all k ∙ sym (slice_get-map (on_key key change) items k))

  module _ (now : List (ℕ × T)) (l : Links) (here : Option ℕ) (w : Walks (key_at now) key l here (Changed now)) (id : ℕ) (q : here ≡ Some id) (it : ℕ × T) (at : slice_get now id ≡ Some it) where
    -- the item where the walk stands has the key, and is as it was
    pub stands-key : it.0 ≡ key
    stands-key = same_Some it.0 key (sym (ap (option_map (λ (x : ℕ × T). x.0)) at) ∙ walk-key (key_at now) key l here (Changed now) w id q)

    pub stands-here : slice_get items id ≡ Some it
    stands-here = let d = walk-done (key_at now) key l here (Changed now) w id q in sym (changed-here now id d.0 d.1) ∙ at

    -- it is changed, and placed
    pub changed-on : (to : ℕ × T) → to ≡ change it → (now' : List (ℕ × T)) → now' ≡ set now id to → (l' : Links) → Rechains (key_at now) (key_at now') (moved id (key_at now id) to.0) l l'
        → Walks (key_at now') key l' (link_at l.nexts id) (Changed now') × IsSmaller l' (link_at l.nexts id) l here
    changed-on to is now' written l' placed =
        let from = walk-key (key_at now) key l here (Changed now) w id q in
        let same : now' ≡ set now id (change it) = written ∙ ap (set now id) is in
        walk-step (key_at now) key l here (Changed now) w id q (key_at now') l' (Changed now') (moved id (key_at now id) to.0 w.chain) (placed w.chain w.left.chained) (moved-away id key to.0 (key_at now id) w.chain from)
        (λ es gone before. subst (λ xs. Changed xs es) (sym same) (changed-more now id it at stands-key es gone before))
