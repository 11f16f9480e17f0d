-- The chains that the seats of items spell: for each covered key the items that have it, each once. An item has a covered key alone.
use Rattle.std.specs.Prelude.{◌≡◌, ℕ, ◌-◌, ◌<◌, ◌≤◌, ◌^◌, ◌==◌, Bool, if◌then◌else◌, List, ◌∷◌, length, map, slice_index_or, slice_set, Option, Some, None, is_some, unwrap_or, vec_capacity}
use Rattle.dom_model.specs.PlainLists.Lists.{hits, head_of, after, before, left_out, is_number}
use Rattle.dom_pages.specs.Numbered.{item_at}
use Rattle.dom_chains.specs.declared.table.Seat.{Seat}
use Rattle.dom_chains.specs.declared.table.Table.{Table}
use Rattle.dom_chains.specs.Keyed.{Keyed, key_at}

-- by key the first item of its chain, nothing where the key is not covered
abbrev pub Firsts : Type 0
Firsts = List (Option (Option ℕ))

-- the first item of a key's chain
abbrev pub head_at : Firsts → ℕ → Option ℕ
head_at heads n = unwrap_or (item_at heads n) None

-- which keys have heads
abbrev pub cover_of : Firsts → List Bool
cover_of heads = map is_some heads

-- the items before and after each item in its chain, and the heads of the chains
pub record Links : Type 0 where
  pub prevs : List (Option ℕ)
  pub nexts : List (Option ℕ)
  pub heads : Firsts

abbrev pub link_at : List (Option ℕ) → ℕ → Option ℕ
link_at links e = slice_index_or links e None

-- 1 where that is the key
abbrev pub counted_at : ℕ → Option ℕ → ℕ
counted_at n None = 0
counted_at n (Some k) = if k == n then 1 else 0

-- each key's chain is spelled in both directions from its head on, and has the items of that key, each once. A key that is not covered has no
-- head, so no item has it. There are no more items than a link can lead to
pub record IsChained (keys : ℕ → Option ℕ) (chain : ℕ → List ℕ) (l : Links) : Type 0 where
  pub first : (n : ℕ) → head_at l.heads n ≡ head_of (chain n)
  pub counted : (e n : ℕ) → hits e (chain n) ≡ counted_at n (keys e)
  pub next : (e n : ℕ) → 0 < hits e (chain n) → link_at l.nexts e ≡ after e (chain n)
  pub prev : (e n : ℕ) → 0 < hits e (chain n) → link_at l.prevs e ≡ before e (chain n)
  pub within : (e n : ℕ) → 0 < hits e (chain n) → (e < length l.prevs) × (e < length l.nexts)
  pub few : length l.nexts ≤ 2 ^ 33

pub record HasChains (keys : ℕ → Option ℕ) (l : Links) : Type 0 where
  pub chain : ℕ → List ℕ
  pub chained : IsChained keys chain l

-- what a change of chains does to whichever chains there are
abbrev pub Rechains : (ℕ → Option ℕ) → (ℕ → Option ℕ) → ((ℕ → List ℕ) → ℕ → List ℕ) → Links → Links → Type 0
Rechains keys keys' change l l' = (chain : ℕ → List ℕ) → IsChained keys chain l → IsChained keys' (change chain) l'

-- a link leads to one of so many items
abbrev pub ForLink : Option ℕ → ℕ → Type 0
ForLink None count = Unit {0}
ForLink (Some e) count = e < count

-- the link of one item, where there is one, leads elsewhere
abbrev pub led : Option ℕ → Option ℕ → List (Option ℕ) → List (Option ℕ)
led None to links = links
led (Some e) to links = slice_set links e to

-- the chain of a key in which nothing comes before `next` begins with it
abbrev pub heads_led : Option ℕ → ℕ → Option ℕ → Firsts → Firsts
heads_led None key next heads = slice_set heads key (Some next)
heads_led (Some e) key next heads = heads

-- what follows `prev` in the chain of a key is `next`
abbrev pub led_on : Option ℕ → ℕ → Option ℕ → Links → Links
led_on prev key next l = record { prevs = l.prevs; nexts = led prev next l.nexts; heads = heads_led prev key next l.heads }

-- what comes before `next` is `prev`
abbrev pub led_back : Option ℕ → Option ℕ → Links → Links
led_back next prev l = record { prevs = led next prev l.prevs; nexts = l.nexts; heads = l.heads }

-- an item that was in no chain comes first in that of a key
abbrev pub led_first : ℕ → ℕ → Links → Links
led_first e key l = record {
  prevs = slice_set (led (head_at l.heads key) (Some e) l.prevs) e None;
  nexts = slice_set l.nexts e (head_at l.heads key);
  heads = slice_set l.heads key (Some (Some e));
}

-- the keys without that of one item
abbrev pub keys_without : ℕ → (ℕ → Option ℕ) → ℕ → Option ℕ
keys_without e keys k = if k == e then None else keys k

-- each key's chain without an item
abbrev pub unchained : ℕ → (ℕ → List ℕ) → ℕ → List ℕ
unchained e chain n = left_out e (chain n)

-- the chains, with an item first in the chain of a key
abbrev pub chained_first : ℕ → ℕ → (ℕ → List ℕ) → ℕ → List ℕ
chained_first e key chain n = if key == n then e ∷ chain n else chain n

-- the chains, with another key for an item: it keeps its place where it has the key already, and comes first where it does not
abbrev pub moved : ℕ → Option ℕ → ℕ → (ℕ → List ℕ) → ℕ → List ℕ
moved e from key chain = if is_number from key then chain else chained_first e key (unchained e chain)

-- the item in a seat, with its key
abbrev pub seat_item : {T : Type 0} → Seat T → ℕ × T
seat_item s = (s.key, s.item)

module _ {T H : Type 0} where
  -- the items in their seats
  abbrev pub items_of : Table T H → List (ℕ × T)
  items_of t = map seat_item t.seats.items

  abbrev pub keys_in : Table T H → ℕ → Option ℕ
  keys_in t = key_at (items_of t)

module _ {T H : Type 0} (by_key : H → Firsts) where
  -- what callers see
  abbrev pub keyed : Table T H → Keyed T
  keyed t = record { items = items_of t; covered = cover_of (by_key t.heads); room = vec_capacity t.seats - length t.seats.items }

  abbrev pub links_of : Table T H → Links
  links_of t = record {
    prevs = map (λ (s : Seat T). s.prev) t.seats.items;
    nexts = map (λ (s : Seat T). s.next) t.seats.items;
    heads = by_key t.heads;
  }

  -- the table has chains for the keys of its items
  abbrev pub AreChained : Table T H → Type 0
  AreChained t = HasChains (keys_in t) (links_of t)
