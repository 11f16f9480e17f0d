-- The contained nodes whose parents are not contained, gathered along the paths to the ends of a range. DOM Standard, "Interface Range".
use Rattle.std.proofs.Common.{◌≡◌, ℕ, ◌+◌, ◌<◌, List, [], ◌∷◌, ◌++◌, take, drop, filter, length, slice_index_or, ap, sym, ◌∙◌, arith, append_assoc}
use Rattle.std.proofs.lemmas.List.{take-append-drop}
use Rattle.dom_model.specs.Definitions.{hits, past, up_to, HasNode, children_of, unit_count, Range, IsRange, is_contained, common_ancestor, path_below, contained_tops, tail_nodes, head_nodes}
use Rattle.dom_model.specs.Worlds.World as model
use Rattle.dom_model.proofs.Forests.{Climbing.hits-append, Climbing.hits-first, Entries.HasNode-occurs}
use Rattle.dom_model.proofs.TokenText.Contents.TopsByParts.{tops-by_parts}
use Rattle.dom_edit.specs.{declared.world.World.World, Insertion.AreThere, Whole.IsWhole, Whole.unwatched}
use Rattle.dom_data.proofs.IsWholeLemmas.{sound-unwatched}
use Rattle.dom_content.specs.DrawnParts.{AreParts}
use Rattle.dom_content.proofs.PathLists.{listed, none-left}

-- a node of the path is there
pub on-path : (v : World) (path : List ℕ) → AreThere v.tree.forest path → (k x : ℕ) → x ≡ slice_index_or path k x → k < length path → HasNode v.tree.forest x
on-path v path held k x is lt =
    HasNode-occurs v.tree.forest x
    (held x
    (let a = ap (hits x) (sym (take-append-drop k path)) in
    let b = hits-append x (take k path) (drop k path) in
    let c = ap (hits x) (listed path k x is lt) in
    let d = hits-first x (drop (k + 1) path) in
    omega arith))

module _ (w : model.World) (offset : ℕ) (path : List ℕ) where
  last-left : (k x : ℕ) → x ≡ slice_index_or path k x → k + 1 ≡ length path → drop k path ≡ x ∷ []
  last-left k x is e = listed path k x is (omega arith) ∙ ap (λ ns. x ∷ ns) (none-left path (k + 1) (omega arith))

  two-left : (k j n m : ℕ) → j ≡ k + 1 → n ≡ slice_index_or path k n → m ≡ slice_index_or path j m → j < length path → drop k path ≡ n ∷ m ∷ drop (j + 1) path
  two-left k j n m d i h lt = listed path k n i (omega arith) ∙ ap (λ l. n ∷ drop l path) (sym d) ∙ ap (λ ns. n ∷ ns) (listed path j m h lt)

  -- the last node of the path alone
  pub tail-last : (k x : ℕ) → x ≡ slice_index_or path k x → k + 1 ≡ length path → tail_nodes w offset (x ∷ []) ≡ tail_nodes w offset (drop k path)
  tail-last k x is e = ap (tail_nodes w offset) (sym (last-left k x is e))

  pub head-last : (k x : ℕ) → x ≡ slice_index_or path k x → k + 1 ≡ length path → head_nodes w offset (drop k path) ≡ head_nodes w offset (x ∷ [])
  head-last k x is e = ap (head_nodes w offset) (last-left k x is e)

  -- one node more
  pub tail-more : (k j n m : ℕ) → j ≡ k + 1 → n ≡ slice_index_or path k n → m ≡ slice_index_or path j m → j < length path → (list more : List ℕ) → list ≡ tail_nodes w offset (drop j path) → more ≡ list ++ past m (children_of w.forest n) → more ≡ tail_nodes w offset (drop k path)
  tail-more k j n m d i h lt list more e grown =
      grown
      ∙ ap (λ ns. ns ++ past m (children_of w.forest n)) (e ∙ ap (tail_nodes w offset) (listed path j m h lt))
      ∙ ap (tail_nodes w offset) (sym (two-left k j n m d i h lt))

  pub head-more : (k j n m : ℕ) → j ≡ k + 1 → n ≡ slice_index_or path k n → m ≡ slice_index_or path j m → j < length path → (list more whole : List ℕ) → list ++ head_nodes w offset (drop k path) ≡ whole → more ≡ list ++ up_to m (children_of w.forest n) → more ++ head_nodes w offset (drop j path) ≡ whole
  head-more k j n m d i h lt list more whole e grown =
      ap (λ ns. ns ++ head_nodes w offset (drop j path)) grown
      ∙ append_assoc list (up_to m (children_of w.forest n)) (head_nodes w offset (drop j path))
      ∙ ap (λ ns. list ++ (up_to m (children_of w.forest n) ++ head_nodes w offset ns)) (listed path j m h lt)
      ∙ ap (λ ns. list ++ head_nodes w offset ns) (sym (two-left k j n m d i h lt))
      ∙ e

-- the parts make the tops
pub tops-of_parts : (v : World) → IsWhole v → (range : Range) → IsRange v.tree.forest range → (first contained last tops : List ℕ) → AreParts v.tree.forest range first contained last
    → tops ≡ (tail_nodes (unwatched v) range.start.offset first ++ contained) ++ head_nodes (unwatched v) range.end.offset last → tops ≡ contained_tops (unwatched v) range
tops-of_parts v h range is first contained last tops are e =
    let tail = tail_nodes (unwatched v) range.start.offset in
    let head = head_nodes (unwatched v) range.end.offset in
    let down = path_below v.tree.forest (common_ancestor v.tree.forest range.start.node range.end.node) in
    let middle = filter (is_contained unit_count v.tree.forest range) (children_of v.tree.forest (common_ancestor v.tree.forest range.start.node range.end.node)) in
    e
    ∙ append_assoc (tail first) contained (head last)
    ∙ ap (λ ns. tail ns ++ (contained ++ head last)) are.first
    ∙ ap (λ ns. tail (down range.start.node) ++ (ns ++ head last)) are.contained
    ∙ ap (λ ns. tail (down range.start.node) ++ (middle ++ head ns)) are.last
    ∙ sym (tops-by_parts (unwatched v) (sound-unwatched v h) range is)
