-- The commands that make nodes, edit the tree, and change data and attributes leave a sound world.
use Rattle.std.proofs.Common.{◌≡◌, ℕ, ◌≤◌, nat_lt, true, false, List, [], ◌∷◌, length, Option, Some, None, arith}
use Rattle.std.proofs.lemmas.Bool.Decides.{nat_tests}
use Rattle.dom_model.specs.Definitions.{is_kind, is_character_data, may_be_parent, World, Number, Done, check_insert, check_replace, kind_passes, pre_insert, append, replace, replace_all, length_at, data_of, check_offset, replace_data, set_data, split, Bounds, checked, no_node, no_node_given, wrong_kind, no_room, does, gives, check_replace_children, answer_insert_before, answer_append_child, answer_replace_child, answer_replace_children, answer_set_data, answer_replace_data, answer_split_text, IsSound}
use Rattle.dom_model.specs.declared.{Kind.TheVariants.Text, DomError.TheVariants.IndexSizeError}
use Rattle.dom_model.proofs.Soundness.{SoundEditing.clear, SoundEditing.sound-pre_insert, SoundEditing.sound-replace, SoundEditing.MayComeIn, SoundEditing.sound-replace_all, SoundEditing.may_come_in, SoundData.length-data, SoundData.sound-replace_data, SoundData.sound-set_data, SoundSplitting.text_has_data, SoundSplitting.sound-split, SoundGuards.sound-guarded, SoundGuards.sound-checked, SoundGuards.there_unless, SoundGuards.passes_unless, SoundMaking.sound-made_node, SoundMaking.sound-clone_node, SoundMaking.sound-import_node, SoundWorlds.sound-remove, SoundEditing.sound-adopt, SoundData.sound-set_attribute, SoundData.sound-remove_attribute, SoundData.sound-toggle_attribute, SoundNormalizing.sound-normalize, SoundTextContent.sound-set_text_content}

-- what a step leaves that asks for no more than a sound world
pub ruleset tree_steps = (sound-made_node, sound-remove, sound-adopt, sound-import_node, sound-clone_node, sound-normalize, sound-set_text_content)

pub ruleset attribute_steps = (sound-set_attribute, sound-remove_attribute, sound-toggle_attribute)

module _ (b : Bounds) (w : World) (s : IsSound w) where
  -- Edits of the tree.

  pub sound-insert_before : (p : ℕ) (n : ℕ) (c : Option ℕ) → IsSound (answer_insert_before b p n c w).world
  sound-insert_before p n c = sound-guarded (no_node p w ∷ no_node n w ∷ no_node_given c w ∷ []) w (checked (check_insert w.forest p n c) w (gives n (pre_insert n p c w))) s (λ h. sound-checked (check_insert w.forest p n c) w (gives n (pre_insert n p c w)) s (λ k. sound-pre_insert n p c w s (there_unless w.forest n h.1.0) k))

  pub sound-append_child : (p : ℕ) (n : ℕ) → IsSound (answer_append_child b p n w).world
  sound-append_child p n = sound-guarded (no_node p w ∷ no_node n w ∷ []) w (checked (check_insert w.forest p n None) w (gives n (append n p w))) s (λ h. sound-checked (check_insert w.forest p n None) w (gives n (append n p w)) s (λ k. sound-pre_insert n p None w s (there_unless w.forest n h.1.0) k))

  pub sound-replace_child : (p : ℕ) (n : ℕ) (c : ℕ) → IsSound (answer_replace_child b p n c w).world
  sound-replace_child p n c = sound-guarded (no_node p w ∷ no_node n w ∷ no_node c w ∷ []) w (checked (check_replace w.forest p n c) w (gives c (replace c n p w))) s (λ h. sound-checked (check_replace w.forest p n c) w (gives c (replace c n p w)) s (λ k. sound-replace c n p w s (there_unless w.forest n h.1.0) k))

  pub sound-replace_children : (p : ℕ) (n : Option ℕ) → IsSound (answer_replace_children b p n w).world
  sound-replace_children p n =
      sound-guarded (no_node p w ∷ no_node_given n w ∷ wrong_kind may_be_parent p w ∷ []) w (checked (check_replace_children w p n) w (does (replace_all n p w))) s
      (λ h. sound-checked (check_replace_children w p n) w (does (replace_all n p w)) s (λ k. sound-replace_all n p w s (comes n h.1.0 k)))
    where
      comes : (o : Option ℕ) → (no_node_given o w).0 ≡ false → check_replace_children w p o ≡ None → MayComeIn w.forest o p
      comes None h k = tt
      comes (Some m) h k = may_come_in w s p m (there_unless w.forest m h) k

  -- Data and attributes.

  pub offset_within : (x offset : ℕ) → kind_passes is_character_data w.forest x ≡ true → check_offset w x offset ≡ None → offset ≤ length (data_of w x)
  offset_within x offset k h =
      let c = clear ((nat_lt (length_at w x) offset, IndexSizeError) ∷ []) h in
      within (length_at w x) offset (length (data_of w x)) c.0 (length-data w.forest x k)
    where
      within : (whole o more : ℕ) → nat_lt whole o ≡ false → whole ≡ more → o ≤ more
      within whole o more t e = grind (arith, nat_tests)

  pub sound-data_set : (x : ℕ) (text : List ℕ) → IsSound (answer_set_data b x text w).world
  sound-data_set x text = sound-guarded (no_node x w ∷ wrong_kind is_character_data x w ∷ []) w (does (set_data x text w)) s (λ h. sound-set_data x text w s (passes_unless (kind_passes is_character_data w.forest x) h.1.0))

  pub sound-data_replaced : (x : ℕ) (offset : ℕ) (count : ℕ) (text : List ℕ) → IsSound (answer_replace_data b x offset count text w).world
  sound-data_replaced x offset count text = sound-guarded (no_node x w ∷ wrong_kind is_character_data x w ∷ []) w (checked (check_offset w x offset) w (does (replace_data x offset count text w))) s (λ h. let k = passes_unless (kind_passes is_character_data w.forest x) h.1.0 in sound-checked (check_offset w x offset) w (does (replace_data x offset count text w)) s (λ c. sound-replace_data x offset count text w s k (offset_within x offset k c)))

  pub sound-text_split : (t : ℕ) (offset : ℕ) → IsSound (answer_split_text b t offset w).world
  sound-text_split t offset = sound-guarded (no_node t w ∷ wrong_kind (is_kind Text) t w ∷ no_room b w.made 1 ∷ []) w (checked (check_offset w t offset) w (record { reply = Done (Number w.made); world = split t offset w })) s (λ h. let k = passes_unless (kind_passes (is_kind Text) w.forest t) h.1.0 in sound-checked (check_offset w t offset) w (record { reply = Done (Number w.made); world = split t offset w }) s (λ c. sound-split t offset w s (there_unless w.forest t h.0) k (offset_within t offset (text_has_data w t k) c)))
