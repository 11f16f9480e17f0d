-- What lies between two nodes is deleted, step by step: what each step finds, and what they come to. DOM Standard, "Interface Range".
use Rattle.std.proofs.Common.{◌≡◌, ℕ, ◌-◌, ◌<◌, ◌==◌, Bool, true, false, not, ◌&&◌, if◌then◌else◌, List, [], filter, Option, Some, length, is_some, refl, ap, sym, ◌∙◌, subst, arith}
use Rattle.std.proofs.lemmas.Bool.{false≢true}
use Rattle.dom_model.specs.Definitions.{hits, is_character_data, Forest, HasNode, entry_in, parent_of, numbers, unit_count, Content, Range, IsRange, IsSound, if_given, kind_passes, is_collapsed, is_contained, collapsed_at, with_range, is_in_one_data, cut_from, cut_up_to, new_place, deleted_between, delete_contents, data_of, replace_data, remove_each}
use Rattle.dom_model.specs.Worlds.World as model
use Rattle.dom_model.proofs.Forests.{Changes.seen, Changes.nothing, Changes.just, Entries.occurs-HasNode, Entries.HasNode-occurs, TreeOrder.Flattened.hits-numbers}
use Rattle.dom_model.proofs.Soundness.{SoundDeleting.one, SoundDeleting.place_left, SoundNormalizing.each_kinds, SoundNormalizing.filter-passed}
use Rattle.dom_model.proofs.RangesAndContents.LiveRangesKept.{KeepsLive, remove_each-live, replace_data-live}
use Rattle.dom_edit.specs.{declared.world.World.World, Whole.IsWhole, Whole.Keeps, Whole.Follows, Whole.unwatched}
use Rattle.dom_edit.proofs.{FollowsLemmas.follows-then, FollowsLemmas.keeps-unwatched, InsertLemmas.follows-as}
use Rattle.dom_data.proofs.IsWholeLemmas.{sound-unwatched}
use Rattle.dom_ranges.specs.Tables.{range_in}
use Rattle.dom_content.proofs.DeleteContentsLemmas.{range-deleted}

-- the contained nodes whose parent is not contained, in tree order
abbrev is_top : Forest Content → Range → ℕ → Bool
is_top f r n = is_contained unit_count f r n && not (if_given (is_contained unit_count f r) (parent_of f n))

abbrev pub tops_in : Forest Content → Range → List ℕ
tops_in f r = filter (is_top f r) (numbers f)

-- Nodes and live ranges that stay.

has-entry : (f : Forest Content) (n : ℕ) → HasNode f n → kind_passes (λ k. true) f n ≡ true
has-entry f n h =
    elim (seen (entry_in f n)) [
      | nothing e ↦ absurd (let k = rw e at h in false≢true k)
      | just a e ↦ rw e refl
    ]

entry-there : (f : Forest Content) (n : ℕ) → kind_passes (λ k. true) f n ≡ true → HasNode f n
entry-there f n h =
    elim (seen (entry_in f n)) [
      | nothing e ↦ absurd (let k = rw e at h in false≢true k)
      | just a e ↦ rw e refl
    ]

removed-there : (ns : List ℕ) (w : model.World) → IsSound w → (n : ℕ) → HasNode w.forest n → HasNode (remove_each ns w).forest n
removed-there ns w s n h = entry-there (remove_each ns w).forest n (each_kinds ns w s.forest.once (λ k. true) n ∙ has-entry w.forest n h)

if-live : (r : ℕ) (b : Bool) (step : model.World → model.World) → KeepsLive r step → KeepsLive r (λ w. if b then step w else w)
if-live r true step k w = k w
if-live r false step k w = refl

cut_from-live : (r n offset : ℕ) → KeepsLive r (cut_from n offset)
cut_from-live r n offset w = if-live r (kind_passes is_character_data w.forest n) (replace_data n offset (length (data_of w n) - offset) []) (replace_data-live r n offset (length (data_of w n) - offset) []) w

cut_up_to-live : (r n offset : ℕ) → KeepsLive r (cut_up_to n offset)
cut_up_to-live r n offset w = if-live r (kind_passes is_character_data w.forest n) (replace_data n 0 offset []) (replace_data-live r n 0 offset []) w

-- The steps between two nodes.

module _ (v0 : World) (h : IsWhole v0) (r : ℕ) (range : Range) (is : IsRange v0.tree.forest range) (two : is_in_one_data (unwatched v0) range ≡ false) where
  abbrev w : model.World
  w = unwatched v0

  sound : IsSound w
  sound = sound-unwatched v0 h

  module _ (v1 : World) (f1 : Follows v0 v1 (cut_from range.start.node range.start.offset)) where
    abbrev first : model.World
    first = cut_from range.start.node range.start.offset w

    kept-first : Keeps v1 first
    kept-first = f1.keeps w (keeps-unwatched v0)

    first-there : (n : ℕ) → HasNode v0.tree.forest n → HasNode first.forest n
    first-there n j = HasNode-occurs first.forest n ((one r range w sound is two).there n (occurs-HasNode v0.tree.forest n j))

    -- the nodes to be removed are there
    pub tops-there : (ns : List ℕ) → ns ≡ tops_in v0.tree.forest range → (n : ℕ) → 0 < hits n ns → HasNode v1.tree.forest n
    tops-there ns e n i =
        let k = filter-passed (is_top v0.tree.forest range) (numbers v0.tree.forest) n (subst (λ ms. 0 < hits n ms) e i) in
        let held = HasNode-occurs v0.tree.forest n (let a = hits-numbers n v0.tree.forest in let b = k.1 in omega arith) in
        subst (λ (g : Forest Content). HasNode g n) kept-first.forest (first-there n held)

    module _ (ns : List ℕ) (e : ns ≡ tops_in v0.tree.forest range) (v2 : World) (f2 : Follows v1 v2 (remove_each ns)) where
      abbrev second : model.World
      second = remove_each ns first

      kept-second : Keeps v2 second
      kept-second = f2.keeps first kept-first

      second-there : (n : ℕ) → HasNode v0.tree.forest n → HasNode second.forest n
      second-there n j = removed-there ns first (one r range w sound is two).sound n (first-there n j)

      pub end-there : HasNode v2.tree.forest range.end.node
      end-there = subst (λ (g : Forest Content). HasNode g range.end.node) kept-second.forest (second-there range.end.node is.ends.there)

      module _ (v3 : World) (f3 : Follows v2 v3 (cut_up_to range.end.node range.end.offset)) where
        abbrev third : model.World
        third = cut_up_to range.end.node range.end.offset second

        kept-third : Keeps v3 third
        kept-third = f3.keeps second kept-second

        -- the place is within its node
        pub place-left : (place : model.Point) → place ≡ new_place v0.tree.forest range → IsRange v3.tree.forest (collapsed_at place)
        place-left place at =
            let left =
            subst (λ ms. IsRange (cut_up_to range.end.node range.end.offset (remove_each ms first)).forest (collapsed_at (new_place v0.tree.forest range))) (sym e)
            (place_left r range w sound is two) in
            subst (λ (g : Forest Content). IsRange g (collapsed_at place)) kept-third.forest (subst (λ q. IsRange third.forest (collapsed_at q)) (sym at) left)

        pub live-still : is_some (range_in v0.ranges r) ≡ true → is_some (range_in v3.ranges r) ≡ true
        live-still live =
            ap (λ (rs : List (Option Range)). is_some (range_in (record { ranges = rs; covered = v3.ranges.covered }) r)) (sym kept-third.ranges)
            ∙ cut_up_to-live r range.end.node range.end.offset second ∙ remove_each-live r ns first ∙ cut_from-live r range.start.node range.start.offset w ∙ live

        module _ (v4 : World) (place : model.Point) (at : place ≡ new_place v0.tree.forest range) (f4 : Follows v3 v4 (with_range r (collapsed_at place))) where
          pub follows-deleted_between : Follows v0 v4 (deleted_between r range)
          follows-deleted_between =
              follows-as v0 v4 (λ x. with_range r (collapsed_at place) (cut_up_to range.end.node range.end.offset (remove_each ns (cut_from range.start.node range.start.offset x)))) (deleted_between r range)
              (λ x k.
              ap (λ (g : Forest Content). with_range r (collapsed_at (new_place g range)) (cut_up_to range.end.node range.end.offset (remove_each (tops_in g range) (cut_from range.start.node range.start.offset x)))) k.forest
              ∙ ap (λ (p : model.Point). with_range r (collapsed_at p) (cut_up_to range.end.node range.end.offset (remove_each (tops_in v0.tree.forest range) (cut_from range.start.node range.start.offset x)))) (sym at)
              ∙ ap (λ ms. with_range r (collapsed_at place) (cut_up_to range.end.node range.end.offset (remove_each ms (cut_from range.start.node range.start.offset x)))) (sym e))
              (follows-then v0 v3 v4 (λ x. cut_up_to range.end.node range.end.offset (remove_each ns (cut_from range.start.node range.start.offset x))) (with_range r (collapsed_at place))
              (follows-then v0 v2 v3 (λ x. remove_each ns (cut_from range.start.node range.start.offset x)) (cut_up_to range.end.node range.end.offset)
              (follows-then v0 v1 v2 (cut_from range.start.node range.start.offset) (remove_each ns) f1 f2) f3) f4)

-- The case of the definition in which the ends stand apart.

module _ (v : World) (r : ℕ) (range : Range) (e : range_in v.ranges r ≡ Some range) where
  abbrev in_one : Forest Content → Bool
  in_one g = (range.start.node == range.end.node) && kind_passes is_character_data g range.start.node

  pub follows-between : (new : World) → is_collapsed range ≡ false → in_one v.tree.forest ≡ false → Follows v new (deleted_between r range) → Follows v new (delete_contents r)
  follows-between new c d f =
      follows-as v new (deleted_between r range) (delete_contents r)
      (λ w k.
      let d2 : is_in_one_data w range ≡ false = ap in_one k.forest ∙ d in
      range-deleted v r range e w k
      ∙ ap (λ b. if b then w else if is_in_one_data w range then replace_data range.start.node range.start.offset (range.end.offset - range.start.offset) [] w else deleted_between r range w) c
      ∙ ap (λ b. if b then replace_data range.start.node range.start.offset (range.end.offset - range.start.offset) [] w else deleted_between r range w) d2) f
