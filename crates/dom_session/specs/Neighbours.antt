-- What is read of a node: what it is, and what stands beside, above and below it. DOM Standard, "Trees", "Interface Node".
use Rattle.std.specs.Prelude.{ℕ, List, [], ◌∷◌, length, slice_get, Option, Some, None, Result, Ok, Err}
use Rattle.dom_model.specs.declared.OwnError.{OwnError}
use Rattle.dom_model.specs.declared.OwnError.TheVariants.{NoSuchObject}
use Rattle.dom_model.specs.PlainLists.Lists.{head_of, last_of}
use Rattle.dom_model.specs.Forests.Arena.{Entry}
use Rattle.dom_model.specs.Forests.Forest.{Node, Forest, entry_in, parent_of, children_of, next_of, previous_of}
use Rattle.dom_model.specs.Worlds.World.{Content}
use Rattle.dom_model.specs.Worlds.Lengths.{unit_count, node_length}
use Rattle.dom_session.specs.declared.neighbours.Neighbours.{Neighbours}

-- what is read of a node that is there; else there is no such object
abbrev pub read_where : {A : Type 0} → (Entry (Node Content) → A) → Option (Entry (Node Content)) → Result A OwnError
read_where read None = Err NoSuchObject
read_where read (Some e) = Ok (read e)

abbrev pub read_of : {A : Type 0} → Forest Content → ℕ → (Entry (Node Content) → A) → Result A OwnError
read_of f n read = read_where read (entry_in f n)

abbrev pub links_of : Forest Content → ℕ → Entry (Node Content) → Neighbours
links_of f n e = record {
  kind = e.value.label.kind;
  document = e.value.document;
  parent = parent_of f n;
  previous = previous_of f n;
  next = next_of f n;
  first_child = head_of (children_of f n);
  last_child = last_of (children_of f n);
  children = length (children_of f n);
  length = node_length unit_count f n;
}

abbrev pub links_in : Forest Content → ℕ → Result Neighbours OwnError
links_in f n = read_of f n (links_of f n)

abbrev pub first_child_in : Forest Content → ℕ → Result (Option ℕ) OwnError
first_child_in f n = read_of f n (λ _. head_of (children_of f n))

abbrev pub last_child_in : Forest Content → ℕ → Result (Option ℕ) OwnError
last_child_in f n = read_of f n (λ _. last_of (children_of f n))

-- the child at an index, or none past the last
abbrev pub child_in : ℕ → Forest Content → ℕ → Result (Option ℕ) OwnError
child_in index f n = read_of f n (λ _. slice_get (children_of f n) index)

-- how many children there are
abbrev pub child_count_in : Forest Content → ℕ → Result ℕ OwnError
child_count_in f n = read_of f n (λ _. length (children_of f n))

-- one list over the front of another, as far as that goes
abbrev pub laid_over : {A : Type 0} → List A → List A → List A
laid_over xs [] = []
laid_over [] (y ∷ ys) = y ∷ ys
laid_over (x ∷ xs) (y ∷ ys) = x ∷ laid_over xs ys
