-- What a map from names to values does to its entries is what the definitions do to the attributes that they are.
use Rattle.std.proofs.Common.{◌≡◌, ℕ, Bool, true, false, cond, List, [], ◌∷◌, Option, Some, refl, ap, sym, ◌∙◌, string_bytes, String, string_eq, bytes_eq}
use Rattle.std.specs.{List.AllByRecursion, List.AllZip, List.IsDistinct, List.list_any, Map.lookup, Map.remove_entry, Map.keys_of}
use Rattle.indexmap.specs.IndexMap.{insert_entry}
use Rattle.dom_model.specs.Definitions.{Attribute, attribute_value, attribute_names, with_attribute, without_attribute, is_attribute}
use Rattle.dom_attrs.specs.Entries.{attribute_of, entry_attributes}
use Rattle.dom_attrs.proofs.AttributeLemmas.{has_value, list_any-is_attribute}

module _ {Z : Type 0} where
  pub lookup-attributes_of : (q : List ℕ) (es : List (String Z × List ℕ)) → lookup (λ k. bytes_eq q (string_bytes k)) es ≡ attribute_value q (entry_attributes es)
  lookup-attributes_of q [] = refl
  lookup-attributes_of q (e ∷ es) =
      ap (λ t. cond (bytes_eq q (string_bytes e.0)) (Some e.1) t) (lookup-attributes_of q es)

  -- the step of a removal, by whether the name is that of the first entry
  gone_at : (e : String Z × List ℕ) (es gone : List (String Z × List ℕ)) (left : List Attribute) (b : Bool) → entry_attributes gone ≡ left
      → entry_attributes (cond b es (e ∷ gone)) ≡ cond b (entry_attributes es) (attribute_of e ∷ left)
  gone_at e es gone left true h = refl
  gone_at e es gone left false h = ap (λ t. attribute_of e ∷ t) h

  pub attributes_of-remove_entry : (q : List ℕ) (es : List (String Z × List ℕ)) → entry_attributes (remove_entry (λ k. bytes_eq q (string_bytes k)) es) ≡ without_attribute q (entry_attributes es)
  attributes_of-remove_entry q [] = refl
  attributes_of-remove_entry q (e ∷ es) =
      gone_at e es _ _ (bytes_eq q (string_bytes e.0)) (attributes_of-remove_entry q es)

  -- the step of an insertion
  put_at : (e : String Z × List ℕ) (es more : List (String Z × List ℕ)) (v : List ℕ) (told : List Attribute) (b : Bool) → entry_attributes more ≡ told
      → entry_attributes (cond b ((e.0, v) ∷ es) (e ∷ more)) ≡ cond b (record (attribute_of e) { value = v } ∷ entry_attributes es) (attribute_of e ∷ told)
  put_at e es more v told true h = refl
  put_at e es more v told false h = ap (λ t. attribute_of e ∷ t) h

  pub attributes_of-insert_entry : (es : List (String Z × List ℕ)) (k : String Z) (v : List ℕ) → entry_attributes (insert_entry string_eq es k v) ≡ with_attribute (string_bytes k) v (entry_attributes es)
  attributes_of-insert_entry [] k v = refl
  attributes_of-insert_entry (e ∷ es) k v =
      put_at e es _ v _ (string_eq k e.0) (attributes_of-insert_entry es k v)

  others_distinct : (k : String Z) (es : List (String Z × List ℕ)) → AllByRecursion (λ y. string_eq k y ≡ false) (keys_of es)
      → AllByRecursion (λ y. bytes_eq (string_bytes k) y ≡ false) (attribute_names (entry_attributes es))
  others_distinct k [] h = h
  others_distinct k (e ∷ es) h = (h.0, others_distinct k es h.1)

  -- distinct keys are distinct names
  pub distinct_names : (es : List (String Z × List ℕ)) → IsDistinct string_eq (keys_of es) → IsDistinct bytes_eq (attribute_names (entry_attributes es))
  unfolding IsDistinct
  distinct_names [] h = h
  distinct_names (e ∷ es) h = (others_distinct e.0 es h.0, distinct_names es h.1)

  -- copies of entries are the same attributes
  pub attributes_of-clones : (es copies : List (String Z × List ℕ)) → AllZip (λ e copy. (string_bytes copy.0 ≡ string_bytes e.0) × (copy.1 ≡ e.1)) es copies → entry_attributes copies ≡ entry_attributes es
  attributes_of-clones [] [] h = refl
  attributes_of-clones [] (c ∷ copies) h = absurd h
  attributes_of-clones (e ∷ es) [] h = absurd h
  attributes_of-clones (e ∷ es) (c ∷ copies) h =
      let rest = attributes_of-clones es copies h.1 in
      (λ j. record { name = h.0.0 j; value = h.0.1 j } ∷ rest j)

  -- whether an attribute is there, by the look-up of its name
  pub list_any-lookup : (a : Attribute) (es : List (String Z × List ℕ)) (xs : List Attribute) → entry_attributes es ≡ xs → IsDistinct string_eq (keys_of es)
      → (r : Option (List ℕ)) → r ≡ lookup (λ k. bytes_eq a.name (string_bytes k)) es → has_value a.value r ≡ list_any (is_attribute a) xs
  list_any-lookup a es xs view h r found =
      ap (has_value a.value) (found ∙ lookup-attributes_of a.name es) ∙ sym (list_any-is_attribute a (entry_attributes es) (distinct_names es h)) ∙ ap (list_any (is_attribute a)) view
