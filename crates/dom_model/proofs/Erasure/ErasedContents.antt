-- Worlds without some observers: the steps on the contents of live ranges keep the two so.
use Rattle.std.proofs.Common.{ℕ, ◌-◌, Bool, true, false, List, [], ◌∷◌, Option, Some, None}
use Rattle.dom_model.specs.Definitions.{children_of, Range, World, no_content, past, up_to, append, node_document, named, is_collapsed, range_at, with_range, for_range, is_in_one_data, cut_from, cut_up_to, deleted_between, deleted, delete_contents, new_fragment, clone_with, cut_if, units_into, child_into, children_into, copy_into, tail_into, head_into, parts_into, contents_drawn, extracted, extract, clone_contents}
use Rattle.dom_model.specs.declared.Kind.TheVariants.{DocumentFragment}
use Rattle.dom_model.proofs.Erasure.{ErasedWorlds.left_world, ErasedWorlds.Without, ErasedWorlds.without, ErasedWorlds.Keeps, ErasedWorlds.choice-left, ErasedWorlds.append-left, ErasedData.replace_data-left, ErasedData.made_node-left, ErasedData.remove_each-left, ErasedData.with_copies-left, ErasedData.clone_node-left}

module _ (erased : ℕ → Bool) where
  pub with_range-left : (r : ℕ) (range : Range) → Keeps erased true (with_range r range)
  with_range-left r range x _ (without o v h) = without o v h

  -- a step for a range, where there is one
  pub for_range-left : (range : Option Range) (step : Range → World → World) → ((range : Range) → Keeps erased true (step range)) → Keeps erased true (λ w. for_range range w (λ range. step range w))
  for_range-left None step k x y h = h
  for_range-left (Some range) step k x y h = k range x y h

  -- Delete contents.

  cut_from-left : (n offset : ℕ) → Keeps erased true (cut_from n offset)
  cut_from-left n offset x _ (without o v h) = search (choice-left, replace_data-left, without)

  cut_up_to-left : (n offset : ℕ) → Keeps erased true (cut_up_to n offset)
  cut_up_to-left n offset x _ (without o v h) = search (choice-left, replace_data-left, without)

  deleted_between-left : (r : ℕ) (range : Range) → Keeps erased true (deleted_between r range)
  deleted_between-left r range x _ (without o v h) = search (with_range-left, cut_up_to-left, remove_each-left, cut_from-left, without)

  deleted-left : (r : ℕ) (range : Range) → Keeps erased true (deleted r range)
  deleted-left r range x _ (without o v h) = search (choice-left, replace_data-left, deleted_between-left, without)

  pub delete_contents-left : (r : ℕ) → Keeps erased true (delete_contents r)
  delete_contents-left r x _ (without o v h) = for_range-left (range_at x r) (deleted r) (deleted-left r) x _ (without o v h)

  -- Extract and clone contents.

  pub new_fragment-left : (document : ℕ) → Keeps erased true (new_fragment document)
  new_fragment-left document = made_node-left erased true document (named DocumentFragment []) no_content

  clone_with-left : (units : List ℕ) (n : ℕ) → Keeps erased true (clone_with units n)
  clone_with-left units n x _ (without o v h) = search (with_copies-left, without)

  cut_if-left : (moves : Bool) (n offset count : ℕ) → Keeps erased true (cut_if moves n offset count)
  cut_if-left false n offset count x y h = h
  cut_if-left true n offset count x y h = replace_data-left erased true n offset count [] x y h

  units_into-left : (moves : Bool) (into n offset count : ℕ) → Keeps erased true (units_into moves into n offset count)
  units_into-left moves into n offset count x _ (without o v h) = search (cut_if-left, append-left, clone_with-left, without)

  child_into-left : (moves : Bool) (into n : ℕ) → Keeps erased true (child_into moves into n)
  child_into-left true into n x y h = append-left erased true n into x y h
  child_into-left false into n x _ (without o v h) = append-left erased true x.made into _ _ (clone_node-left erased true true n x _ (without o v h))

  children_into-left : (moves : Bool) (into : ℕ) (ns : List ℕ) → Keeps erased true (children_into moves into ns)
  children_into-left moves into [] x y h = h
  children_into-left moves into (n ∷ ns) x y h = children_into-left moves into ns _ _ (child_into-left moves into n x y h)

  -- a further fragment is filled, and goes into the copy
  held-left : (document copy : ℕ) (fill : ℕ → World → World) → ((inner : ℕ) → Keeps erased true (fill inner)) → Keeps erased true (λ w. append w.made copy (fill w.made (new_fragment document w)))
  held-left document copy fill k x _ (without o v h) = search (append-left, new_fragment-left, without)

  copy_into-left : (into n : ℕ) (fill : ℕ → World → World) → ((inner : ℕ) → Keeps erased true (fill inner)) → Keeps erased true (copy_into into n fill)
  copy_into-left into n fill k x _ (without o v h) =
      held-left (node_document x n) x.made fill k _ _
      (append-left erased true x.made into _ _ (clone_node-left erased true false n x _ (without o v h)))

  tail_into-left : (moves : Bool) (into offset : ℕ) (path : List ℕ) → Keeps erased true (tail_into moves into offset path)
  tail_into-left moves into offset [] x y h = h
  tail_into-left moves into offset (n ∷ []) x _ (without o v h) = search (choice-left, units_into-left, copy_into-left, children_into-left, without)
  tail_into-left moves into offset (n ∷ m ∷ path) x _ (without o v h) =
      copy_into-left into n (λ inner v. children_into moves inner (past m (children_of x.forest n)) (tail_into moves inner offset (m ∷ path) v))
      (λ inner v u k. children_into-left moves inner (past m (children_of x.forest n)) _ _ (tail_into-left moves inner offset (m ∷ path) v u k))
      x _ (without o v h)

  head_into-left : (moves : Bool) (into offset : ℕ) (path : List ℕ) → Keeps erased true (head_into moves into offset path)
  head_into-left moves into offset [] x y h = h
  head_into-left moves into offset (n ∷ []) x _ (without o v h) = search (choice-left, units_into-left, copy_into-left, children_into-left, without)
  head_into-left moves into offset (n ∷ m ∷ path) x _ (without o v h) =
      copy_into-left into n (λ inner v. head_into moves inner offset (m ∷ path) (children_into moves inner (up_to m (children_of x.forest n)) v))
      (λ inner v u k. head_into-left moves inner offset (m ∷ path) _ _ (children_into-left moves inner (up_to m (children_of x.forest n)) v u k))
      x _ (without o v h)

  parts_into-left : (moves : Bool) (into : ℕ) (r : Range) → Keeps erased true (parts_into moves into r)
  parts_into-left moves into r x _ (without o v h) = search (head_into-left, children_into-left, tail_into-left, without)

  contents_drawn-left : (moves : Bool) (r : Range) → Keeps erased true (contents_drawn moves r)
  contents_drawn-left moves r x _ (without o v h) =
      choice-left erased true (is_collapsed r) made
      (choice-left erased true (is_in_one_data x r)
      (units_into-left moves x.made r.start.node r.start.offset (r.end.offset - r.start.offset) _ _ made)
      (parts_into-left moves x.made r _ _ made))
    where
      made : Without erased true (new_fragment (node_document x r.start.node) x) (new_fragment (node_document x r.start.node) (left_world true o v x))
      made = new_fragment-left (node_document x r.start.node) x _ (without o v h)

  extracted-left : (r : ℕ) (range : Range) → Keeps erased true (extracted r range)
  extracted-left r range x _ (without o v h) = search (choice-left, contents_drawn-left, with_range-left, without)

  pub extract-left : (r : ℕ) → Keeps erased true (extract r)
  extract-left r x _ (without o v h) = for_range-left (range_at x r) (extracted r) (extracted-left r) x _ (without o v h)

  pub clone_contents-left : (r : ℕ) → Keeps erased true (clone_contents r)
  clone_contents-left r x _ (without o v h) = for_range-left (range_at x r) (contents_drawn false) (contents_drawn-left false) x _ (without o v h)
