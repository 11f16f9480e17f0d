-- A live range stays one through every step that is not its release.
use Rattle.std.proofs.Common.{◌≡◌, ℕ, zero, suc, Bool, true, false, if◌then◌else◌, List, [], ◌∷◌, length, Option, Some, None, is_some, slice_index_or, refl, ap, ◌∙◌}
use Rattle.std.proofs.lemmas.Bool.{false≢true}
use Rattle.dom_model.specs.Definitions.{parent_of, children_of, next_of, Point, Range, World, map_ranges, tree_record_unless, removed_from, remove, remove_all, is_fragment, nodes_of, emptied_fragment, freed, put_all, gap_before, insert_nodes, insert, reference_child, pre_insert, append, insert_if_any, replaced_record, replace_all, added_by, node_document, made_node, named, with_text, range_at, with_range, replace_data, split, split_off, tail_of, remove_each}
use Rattle.dom_model.specs.declared.Kind.TheVariants.{Text}
use Rattle.dom_model.proofs.Forests.Changes.{seen, nothing, just}
use Rattle.dom_model.proofs.TokenText.EditsMade.EditsOfSteps.{range-set}

-- there is a live range of that number
abbrev pub is_live : ℕ → World → Bool
is_live r w = is_some (range_at w r)

pub live-there : (r : ℕ) (w : World) → is_live r w ≡ true → (old : Range) × (range_at w r ≡ Some old)
live-there r w h =
    elim (seen (range_at w r)) [
      | nothing e ↦ absurd (let k = rw e at h in false≢true k)
      | just a e ↦ (a, e)
    ]

moved-live : (move : Point → Point) (rs : List (Option Range)) (r : ℕ) → is_some (slice_index_or (map_ranges move rs) r None) ≡ is_some (slice_index_or rs r None)
moved-live move [] r = refl
moved-live move (None ∷ rs) zero = refl
moved-live move (Some x ∷ rs) zero = refl
moved-live move (x ∷ rs) (suc r) = moved-live move rs r

module _ (r : ℕ) where
  -- a step keeps what is a live range
  abbrev pub KeepsLive : (World → World) → Type 0
  KeepsLive step = (w : World) → is_live r (step w) ≡ is_live r w

  unless-live : (suppressed : Bool) (target : ℕ) (added removed : List ℕ) (previous next : Option ℕ) → KeepsLive (tree_record_unless suppressed target added removed previous next)
  unless-live true target added removed previous next w = refl
  unless-live false target added removed previous next w = refl

  removed-live : (suppressed : Bool) (n : ℕ) (p : Option ℕ) → KeepsLive (removed_from suppressed n p)
  removed-live suppressed n None w = refl
  removed-live suppressed n (Some parent) w = unless-live suppressed parent [] (n ∷ []) _ _ _ ∙ moved-live _ w.ranges r

  pub remove-live : (suppressed : Bool) (n : ℕ) → KeepsLive (remove suppressed n)
  remove-live suppressed n w = removed-live suppressed n (parent_of w.forest n) w

  pub remove_all-live : (ns : List ℕ) → KeepsLive (remove_all ns)
  remove_all-live [] w = refl
  remove_all-live (n ∷ ns) w = remove_all-live ns (remove true n w) ∙ remove-live true n w

  pub remove_each-live : (ns : List ℕ) → KeepsLive (remove_each ns)
  remove_each-live [] w = refl
  remove_each-live (n ∷ ns) w = remove_each-live ns (remove false n w) ∙ remove-live false n w

  pub replace_data-live : (n offset count : ℕ) (added : List ℕ) → KeepsLive (replace_data n offset count added)
  replace_data-live n offset count added w = moved-live _ w.ranges r

  gap-live : (parent : ℕ) (child : Option ℕ) (count : ℕ) → KeepsLive (gap_before parent child count)
  gap-live parent None count w = refl
  gap-live parent (Some c) count w = moved-live _ w.ranges r

  put-live : (parent : ℕ) (child : Option ℕ) (ns : List ℕ) → KeepsLive (put_all parent child ns)
  put-live parent child [] w = refl
  put-live parent child (n ∷ ns) w = put-live parent child ns _

  freed-live : (n : ℕ) (nodes : List ℕ) → KeepsLive (freed n nodes)
  freed-live n nodes w = go (is_fragment w n)
    where
      go : (v : Bool) → is_live r (if v then emptied_fragment n nodes w else remove false n w) ≡ is_live r w
      go true = remove_all-live nodes w
      go false = remove-live false n w

  insert_nodes-live : (suppressed : Bool) (n parent : ℕ) (child : Option ℕ) (ns : List ℕ) → KeepsLive (insert_nodes suppressed n parent child ns)
  insert_nodes-live suppressed n parent child [] w = refl
  insert_nodes-live suppressed n parent child (m ∷ ms) w =
      unless-live suppressed parent (m ∷ ms) [] _ child _
      ∙ put-live parent child (m ∷ ms) _
      ∙ gap-live parent child (length (m ∷ ms)) (freed n (m ∷ ms) w)
      ∙ freed-live n (m ∷ ms) w

  pub insert-live : (suppressed : Bool) (n parent : ℕ) (child : Option ℕ) → KeepsLive (insert suppressed n parent child)
  insert-live suppressed n parent child w = insert_nodes-live suppressed n parent child (nodes_of w n) w

  pub pre_insert-live : (n parent : ℕ) (child : Option ℕ) → KeepsLive (pre_insert n parent child)
  pre_insert-live n parent child w = insert-live false n parent (reference_child w n child) w

  pub append-live : (n parent : ℕ) → KeepsLive (append n parent)
  append-live n parent w = pre_insert-live n parent None w

  any-live : (n : Option ℕ) (parent : ℕ) → KeepsLive (insert_if_any n parent)
  any-live None parent w = refl
  any-live (Some n) parent w = insert-live true n parent None w

  replaced-live : (parent : ℕ) (added removed : List ℕ) → KeepsLive (replaced_record parent added removed)
  replaced-live parent [] [] w = refl
  replaced-live parent [] (m ∷ ms) w = refl
  replaced-live parent (a ∷ others) removed w = refl

  pub replace_all-live : (n : Option ℕ) (parent : ℕ) → KeepsLive (replace_all n parent)
  replace_all-live n parent w =
      replaced-live parent (added_by w n) (children_of w.forest parent) _
      ∙ any-live n parent (remove_all (children_of w.forest parent) w)
      ∙ remove_all-live (children_of w.forest parent) w

  split_off-live : (n offset new : ℕ) (p : Option ℕ) → KeepsLive (split_off n offset new p)
  split_off-live n offset new None w = refl
  split_off-live n offset new (Some parent) w = moved-live _ (insert false new parent (next_of w.forest n) w).ranges r ∙ insert-live false new parent (next_of w.forest n) w

  pub split-live : (n offset : ℕ) → KeepsLive (split n offset)
  split-live n offset w =
      let made = made_node (node_document w n) (named Text []) (with_text (tail_of w n offset)) w in
      replace_data-live n offset (length (tail_of w n offset)) [] (split_off n offset w.made (parent_of w.forest n) made)
      ∙ split_off-live n offset w.made (parent_of w.forest n) made

  -- its ends may be set
  pub with_range-live : (range : Range) (w : World) → is_live r w ≡ true → is_live r (with_range r range w) ≡ true
  with_range-live range w h = let old = live-there r w h in ap is_some (range-set w r old.0 range old.1)
