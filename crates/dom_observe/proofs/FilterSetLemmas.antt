-- A name is found in the set where it is among the names of the filter.
use Rattle.std.proofs.Common.{◌≡◌, ℕ, ◌+◌, ◌<◌, Bool, true, false, ◌||◌, if◌then◌else◌, List, [], ◌∷◌, ◌++◌, length, map, take, Option, None, Some, refl, ap, sym, ◌∙◌, String, string_bytes, string_eq, bytes_eq, slice_index_or}
use Rattle.std.specs.{Option.option_map_or, List.list_any}
use Rattle.std.proofs.lemmas.{List.take_more, List.Folds.list_any-append, Slice.Eq.bytes_eq-Decides}
use Rattle.indexmap.specs.IndexSet.{IndexSet, contains_text, insert_key}
use Rattle.dom_model.specs.Definitions.{name_passes}
use Rattle.dom_observe.specs.Names.{Sifts}
use Rattle.dom_observe.proofs.ListAnyLemmas.{list_any-map}

pub or_false : (b : Bool) → (b || false) ≡ b
or_false true = refl
or_false false = refl

module _ {Z : Type 0} where
  -- the test of a name
  abbrev pub named_so : List ℕ → String Z → Bool
  named_so name k = bytes_eq name (string_bytes k)

  -- one more comes into the set, where it is not there
  pub sift-inserted : (name : List ℕ) (keys : List (String Z)) (k : String Z) → list_any (named_so name) (insert_key string_eq keys k) ≡ (list_any (named_so name) keys || named_so name k)
  sift-inserted name keys k = go (list_any (string_eq k) keys) refl
    where
      go : (b : Bool) → list_any (string_eq k) keys ≡ b → list_any (named_so name) (if b then keys else keys ++ k ∷ []) ≡ (list_any (named_so name) keys || named_so name k)
      go false e = list_any-append (named_so name) keys (k ∷ []) ∙ ap (λ c. list_any (named_so name) keys || c) (or_false (named_so name k))
      go true e = there (named_so name k) refl
        where
          there : (c : Bool) → named_so name k ≡ c → list_any (named_so name) keys ≡ (list_any (named_so name) keys || named_so name k)
          there false f = sym (or_false (list_any (named_so name) keys)) ∙ ap (λ c. list_any (named_so name) keys || c) (sym f)
          there true f =
              let alike : name ≡ string_bytes k = (bytes_eq-Decides name (string_bytes k)).0 f in
              let found : list_any (named_so name) keys ≡ true = ap (λ bytes. list_any (named_so bytes) keys) alike ∙ e in
              found ∙ sym (ap (λ c. c || named_so name k) found)

  -- one more of the list
  pub sift-next : (name : List ℕ) (names : List (String Z)) (i : ℕ) (d : String Z) → i < length names
      → list_any (bytes_eq name) (map string_bytes (take (i + 1) names)) ≡ (list_any (bytes_eq name) (map string_bytes (take i names)) || named_so name (slice_index_or names i d))
  sift-next name names i d lt =
      list_any-map (bytes_eq name) string_bytes (take (i + 1) names)
      ∙ ap (list_any (named_so name)) (take_more names i d lt)
      ∙ list_any-append (named_so name) (take i names) (slice_index_or names i d ∷ [])
      ∙ ap (λ c. list_any (named_so name) (take i names) || c) (or_false (named_so name (slice_index_or names i d)))
      ∙ ap (λ c. c || named_so name (slice_index_or names i d)) (sym (list_any-map (bytes_eq name) string_bytes (take i names)))

module _ {Z S : Type 0} where
  pub sifted : (filter : Option (List (List ℕ))) (set : IndexSet (String Z) S) → Sifts filter (Some set) → (name : Option (List ℕ)) → option_map_or (contains_text set) name false ≡ name_passes filter name
  sifted None set h name = absurd h
  sifted (Some names) set h None = refl
  sifted (Some names) set h (Some name) = h name
