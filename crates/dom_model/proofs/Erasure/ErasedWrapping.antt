-- Worlds without some observers: insert node and surround contents refuse alike, and keep the two so.
use Rattle.std.proofs.Common.{ℕ, Bool, true, false, if◌then◌else◌, Option, Some, None, Ok, Err}
use Rattle.dom_model.specs.Definitions.{Point, Range, World, check_insert, replace_all, reference_child, is_collapsed, around, range_at, with_range, for_range, Outcome, and_then, unless, try_pre_insert, is_text, reference_at, parent_at, check_start, split_at, reference_after, offset_past, end_if_collapsed, placed_at, inserted_at, insert_node, try_extract, selected, try_select, surrounded, surround}
use Rattle.dom_model.specs.declared.{DomError.DomError, DomError.TheVariants.InvalidNodeTypeError}
use Rattle.dom_model.proofs.Erasure.{ErasedWorlds.Without, ErasedWorlds.without, ErasedWorlds.Keeps, ErasedWorlds.choice-left, ErasedWorlds.remove-left, ErasedWorlds.pre_insert-left, ErasedWorlds.replace_all-left, ErasedData.split-left, ErasedContents.with_range-left, ErasedContents.for_range-left, ErasedContents.extract-left}

module _ (erased : ℕ → Bool) where
  -- one refusal, or worlds that are so
  pub data AlikeOutcome : Outcome → Outcome → Type 0 where
    both_done : {x y : World} → Without erased true x y → AlikeOutcome (Ok x) (Ok y)
    both_refused : (e : DomError) → AlikeOutcome (Err e) (Err e)

  -- a step that may refuse keeps two worlds so
  abbrev pub MayKeep : (World → Outcome) → Type 0
  MayKeep step = (x y : World) → Without erased true x y → AlikeOutcome (step x) (step y)

  and_then-left : (step : World → Outcome) → MayKeep step → (s t : Outcome) → AlikeOutcome s t → AlikeOutcome (and_then s step) (and_then t step)
  and_then-left step k _ _ (both_done h) = k _ _ h
  and_then-left step k _ _ (both_refused e) = both_refused e

  unless-left : (e : Option DomError) → MayKeep (unless e)
  unless-left None x y h = both_done h
  unless-left (Some e) x y h = both_refused e

  for_range-outcome : (range : Option Range) (step : Range → World → Outcome) → ((range : Range) → MayKeep (step range)) → MayKeep (λ w. for_range range (Ok w) (λ range. step range w))
  for_range-outcome None step k x y h = both_done h
  for_range-outcome (Some range) step k x y h = k range x y h

  -- Insert node.

  try_pre_insert-left : (n parent : ℕ) (child : Option ℕ) → MayKeep (try_pre_insert n parent child)
  try_pre_insert-left n parent child x _ (without o v h) = search (and_then-left, pre_insert-left, unless-left, without, both_done)

  split_at-left : (p : Point) → Keeps erased true (split_at p)
  split_at-left p x _ (without o v h) = choice-left erased true (is_text x p.node) (split-left erased true p.node p.offset x _ (without o v h)) (without o v h)

  end_of-left : (r : ℕ) (p : Point) (range : Range) → Keeps erased true (λ w. if is_collapsed range then with_range r (record range { end = p }) w else w)
  end_of-left r p range x y h = choice-left erased true (is_collapsed range) (with_range-left erased r (record range { end = p }) x y h) h

  end_if_collapsed-left : (r : ℕ) (p : Point) → Keeps erased true (end_if_collapsed r p)
  end_if_collapsed-left r p x _ (without o v h) =
      for_range-left erased (range_at x r) (λ range w. if is_collapsed range then with_range r (record range { end = p }) w else w)
      (end_of-left r p) x _ (without o v h)

  put_at-left : (r n parent : ℕ) (reference : Option ℕ) → MayKeep (λ w. and_then (try_pre_insert n parent reference w) (λ v. Ok (end_if_collapsed r (record { node = parent; offset = offset_past w parent reference n }) v)))
  put_at-left r n parent reference x _ (without o v h) =
      let p : Point = record { node = parent; offset = offset_past x parent reference n } in
      and_then-left (λ v. Ok (end_if_collapsed r p v)) (λ v u k. both_done (end_if_collapsed-left r p v u k)) _ _
      (try_pre_insert-left n parent reference x _ (without o v h))

  placed_at-left : (r n parent : ℕ) (reference : Option ℕ) → MayKeep (placed_at r n parent reference)
  placed_at-left r n parent reference x y h = put_at-left r n parent reference _ _ (remove-left erased true false n x y h)

  placed_apart-left : (r n parent : ℕ) (reference : Option ℕ) → MayKeep (λ w. placed_at r n parent (reference_child w n reference) w)
  placed_apart-left r n parent reference x _ (without o v h) = placed_at-left r n parent (reference_child x n reference) x _ (without o v h)

  split_and_placed-left : (r n : ℕ) (p : Point) → MayKeep (λ w. let apart = split_at p w in placed_at r n (parent_at w p) (reference_child apart n (reference_after w p)) apart)
  split_and_placed-left r n p x _ (without o v h) = search (placed_apart-left, split_at-left, without)

  checked_and_placed-left : (r n : ℕ) (p : Point) → MayKeep (λ w. and_then (unless (check_insert w.forest (parent_at w p) n (reference_at w p)) w) (λ v. let apart = split_at p v in placed_at r n (parent_at v p) (reference_child apart n (reference_after v p)) apart))
  checked_and_placed-left r n p x _ (without o v h) =
      and_then-left (λ v. let apart = split_at p v in placed_at r n (parent_at v p) (reference_child apart n (reference_after v p)) apart)
      (split_and_placed-left r n p) _ _
      (unless-left (check_insert x.forest (parent_at x p) n (reference_at x p)) x _ (without o v h))

  inserted_at-left : (r n : ℕ) (p : Point) → MayKeep (inserted_at r n p)
  inserted_at-left r n p x _ (without o v h) =
      and_then-left (λ w. and_then (unless (check_insert w.forest (parent_at w p) n (reference_at w p)) w) (λ v. let apart = split_at p v in placed_at r n (parent_at v p) (reference_child apart n (reference_after v p)) apart))
      (checked_and_placed-left r n p) _ _
      (unless-left (check_start x p n) x _ (without o v h))

  pub insert_node-left : (r n : ℕ) → MayKeep (insert_node r n)
  insert_node-left r n x _ (without o v h) =
      for_range-outcome (range_at x r) (λ range. inserted_at r n range.start) (λ range. inserted_at-left r n range.start) x _ (without o v h)

  -- Surround contents.

  try_extract-left : (r : ℕ) → MayKeep (try_extract r)
  try_extract-left r x _ (without o v h) = search (and_then-left, extract-left, unless-left, without, both_done)

  selected-left : (r : ℕ) (ends : Option Range) → MayKeep (selected r ends)
  selected-left r None x y h = both_refused InvalidNodeTypeError
  selected-left r (Some ends) x y h = both_done (with_range-left erased r ends x y h)

  try_select-left : (r n : ℕ) → MayKeep (try_select r n)
  try_select-left r n x _ (without o v h) = selected-left r (around x.forest n) x _ (without o v h)

  -- what follows the extraction
  wrapped-left : (r n fragment : ℕ) → MayKeep (λ v. and_then (insert_node r n (replace_all None n v)) (λ v. and_then (try_pre_insert fragment n None v) (λ v. try_select r n v)))
  wrapped-left r n fragment x y h = search (and_then-left, try_select-left, try_pre_insert-left, insert_node-left, replace_all-left)

  surrounded-left : (r n : ℕ) (range : Range) → MayKeep (surrounded r n range)
  surrounded-left r n range x _ (without o v h) = search (and_then-left, wrapped-left, try_extract-left, unless-left, without)

  pub surround-left : (r n : ℕ) → MayKeep (surround r n)
  surround-left r n x _ (without o v h) = for_range-outcome (range_at x r) (surrounded r n) (surrounded-left r n) x _ (without o v h)
