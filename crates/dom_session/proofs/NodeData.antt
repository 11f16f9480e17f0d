-- The answers of the commands on attributes, data and text, where nothing is refused before the step.
use Rattle.std.proofs.Common.{◌≡◌, ℕ, suc, zero, ◌+◌, nat_lt, Bool, true, false, List, [], ◌∷◌, ◌++◌, Option, Some, None, refl, sym, ap, subst, ◌∙◌, take, slice_get, map, string_bytes, String, is_some, IfSome, Result, Ok, Err, IfOk, filter, flat_map, drop, length}
use Rattle.dom_model.specs.declared.{Kind.Kind, Kind.TheVariants.Element, Kind.TheVariants.Text, Kind.TheVariants.ProcessingInstruction, Kind.TheVariants.Comment, Kind.TheVariants.Document, Kind.TheVariants.DocumentType, Kind.TheVariants.DocumentFragment, DomError.DomError, DomError.TheVariants.IndexSizeError}
use Rattle.dom_model.specs.Definitions.{is_kind, is_character_data, is_attribute_name, Attribute, attribute_value, attribute_names, substring, Entry, Node, Forest, entry_in, inclusive_descendants, length_of, length_in, node_length, unit_count, length_at, Content, first_refusal, is_of_kind, content_in, cut_count, check_offset, replace_data, set_data, substring_data, split, normalize, text_content_by, text_content, set_text_content, by_kind, set_attribute, has_attribute, remove_attribute, is_toggled_on, toggle_attribute, Command, SetAttribute, GetAttribute, HasAttribute, RemoveAttribute, ToggleAttribute, AttributeNames, GetData, SetData, AppendData, ReplaceData, SubstringData, SplitText, Normalize, TextContent, SetTextContent, Bounds, Step, guarded, refused, answer, no_node, wrong_kind, bad_name, no_room, answers, does, checked}
use Rattle.dom_model.specs.Worlds.World as model
use Rattle.dom_model.specs.Commands.Reply as model_reply
use Rattle.dom_edit.specs.{declared.world.World.World, Whole.Shows, Whole.unwatched}
use Rattle.dom_commands.specs.{declared.reply.Reply.Reply}
use Rattle.dom_session.specs.{Refusals.kind_refusal, SessionViews.IsStep}
use Rattle.dom_session.proofs.{GuardedLemmas.guarded-none, GuardedLemmas.guarded-some, TreeEdits.not-none}

-- the text of a node, by its kind, is read off the forest
content-by-same : (k : Kind) (w u : model.World) (n : ℕ) → w.forest ≡ u.forest → text_content_by k w n ≡ text_content_by k u n
content-by-same Element w u n e = ap (λ (f : Forest Content). Some (flat_map (λ m. (content_in (entry_in f m)).text) (filter (is_of_kind Text f) (drop 1 (inclusive_descendants f n))))) e
content-by-same Text w u n e = ap (λ (f : Forest Content). Some (content_in (entry_in f n)).text) e
content-by-same ProcessingInstruction w u n e = ap (λ (f : Forest Content). Some (content_in (entry_in f n)).text) e
content-by-same Comment w u n e = ap (λ (f : Forest Content). Some (content_in (entry_in f n)).text) e
content-by-same Document w u n e = refl
content-by-same DocumentType w u n e = refl
content-by-same DocumentFragment w u n e = ap (λ (f : Forest Content). Some (flat_map (λ m. (content_in (entry_in f m)).text) (filter (is_of_kind Text f) (drop 1 (inclusive_descendants f n))))) e

content-same : (w u : model.World) (n : ℕ) → w.forest ≡ u.forest → text_content w n ≡ text_content u n
content-same w u n e = at (entry_in w.forest n) ∙ ap (λ (f : Forest Content). by_kind None (λ k. text_content_by k u n) (entry_in f n)) e
  where
    at : (o : Option (Entry (Node Content))) → by_kind None (λ k. text_content_by k w n) o ≡ by_kind None (λ k. text_content_by k u n) o
    at None = refl
    at (Some x) = content-by-same x.value.label.kind w u n e

-- a command that is answered as another is
pub step-same : (old new : World) (b : Bounds) (c d : Command) (reply : Reply) → ((w : model.World) → Shows old w → answer b w d ≡ answer b w c) → IsStep old new b c reply → IsStep old new b d reply
step-same old new b c d reply same step = record {
  reply_is = λ w shown. step.reply_is w shown ∙ sym (ap (λ (s : Step). s.reply) (same w shown));
  world_is = λ w shown.
      let P : model.World → Type 0 = λ u. Shows new u in
      subst P (sym (ap (λ (s : Step). s.world) (same w shown))) (step.world_is w shown);
  refused = step.refused;
}

-- what holds of an outcome, and what follows from it
pub ok-more : {A E : Type 0} (r : Result A E) (P Q : A → Type 0) → ((a : A) → P a → Q a) → IfOk r P → IfOk r Q
ok-more (Ok a) P Q f h = f a h
ok-more (Err e) P Q f h = h

-- the length of a node that is there
length-there : (f : Forest Content) (n l : ℕ) → is_some (entry_in f n) ≡ true → IfSome (entry_in f n) (λ e. l ≡ length_of unit_count e) → node_length unit_count f n ≡ l
length-there f n l held is = at (entry_in f n) held is
  where
    at : (o : Option (Entry (Node Content))) → is_some o ≡ true → IfSome o (λ e. l ≡ length_of unit_count e) → length_in unit_count o ≡ l
    at None h i = absurd (cc h)
    at (Some e) h i = sym i

-- one more name
pub names-next : {Z : Type 0} (xs : List Attribute) (i : ℕ) (a : Attribute) (names : List (String Z)) (name : String Z) → map string_bytes names ≡ attribute_names (take i xs) → slice_get xs i ≡ Some a → string_bytes name ≡ a.name → map string_bytes (names ++ name ∷ []) ≡ attribute_names (take (suc i) xs)
names-next [] i a names name h e is = cc
names-next (x ∷ xs) zero a [] name h e is = let same : x ≡ a = cc in ap (λ n. n ∷ []) (is ∙ sym (ap (λ (y : Attribute). y.name) same))
names-next (x ∷ xs) zero a (n ∷ names) name h e is = cc
names-next (x ∷ xs) (suc i) a [] name h e is = cc
names-next (x ∷ xs) (suc i) a (n ∷ names) name h e is =
    let first : string_bytes n ≡ x.name = cc in
    let rest : map string_bytes names ≡ attribute_names (take i xs) = cc in
    rw first (ap (λ t. x.name ∷ t) (names-next xs i a names name rest e is))

module _ (v : World) (b : Bounds) (w : model.World) (shown : Shows v w) where
  guarded-kind : (test : Kind → Bool) (n : ℕ) (cs : List (Bool × model_reply.Reply)) (s : Step) → kind_refusal test v n ≡ None → guarded (no_node n w ∷ wrong_kind test n w ∷ cs) w s ≡ guarded cs w s
  guarded-kind test n cs s none =
      guarded-none (no_node n w ∷ wrong_kind test n w ∷ []) cs w s (rw shown.keeps.forest none)

  pub answer-set_attribute : (e : ℕ) (name value : List ℕ) → kind_refusal (is_kind Element) v e ≡ None → is_attribute_name name ≡ true → answer b w (SetAttribute e name value) ≡ does (set_attribute e name value w)
  answer-set_attribute e name value none valid =
      guarded-kind (is_kind Element) e (bad_name (is_attribute_name name) ∷ []) (does (set_attribute e name value w)) none ∙ rw valid refl

  pub answer-get_attribute : (e : ℕ) (name : List ℕ) (value : Option (List ℕ)) → kind_refusal (is_kind Element) v e ≡ None → value ≡ attribute_value name (content_in (entry_in v.tree.forest e)).attributes → answer b w (GetAttribute e name) ≡ answers (model_reply.MaybeUnits value) w
  answer-get_attribute e name value none is =
      let there : attribute_value name (content_in (entry_in w.forest e)).attributes ≡ value = ap (λ (f : Forest Content). attribute_value name (content_in (entry_in f e)).attributes) shown.keeps.forest ∙ sym is in
      guarded-kind (is_kind Element) e [] (answers (model_reply.MaybeUnits (attribute_value name (content_in (entry_in w.forest e)).attributes)) w) none
      ∙ ap (λ (x : Option (List ℕ)). answers (model_reply.MaybeUnits x) w) there

  pub answer-has_attribute : (e : ℕ) (name : List ℕ) (present : Bool) → kind_refusal (is_kind Element) v e ≡ None → present ≡ is_some (attribute_value name (content_in (entry_in v.tree.forest e)).attributes) → answer b w (HasAttribute e name) ≡ answers (model_reply.Flag present) w
  answer-has_attribute e name present none is =
      let there : has_attribute w e name ≡ present = ap (λ (f : Forest Content). is_some (attribute_value name (content_in (entry_in f e)).attributes)) shown.keeps.forest ∙ sym is in
      guarded-kind (is_kind Element) e [] (answers (model_reply.Flag (has_attribute w e name)) w) none ∙ ap (λ (x : Bool). answers (model_reply.Flag x) w) there

  pub answer-remove_attribute : (e : ℕ) (name : List ℕ) → kind_refusal (is_kind Element) v e ≡ None → answer b w (RemoveAttribute e name) ≡ does (remove_attribute e name w)
  answer-remove_attribute e name none = guarded-kind (is_kind Element) e [] (does (remove_attribute e name w)) none

  pub answer-toggle_attribute : (e : ℕ) (name : List ℕ) (force : Option Bool) (on : Bool) → kind_refusal (is_kind Element) v e ≡ None → is_attribute_name name ≡ true → on ≡ is_toggled_on force (has_attribute (unwatched v) e name) → answer b w (ToggleAttribute e name force) ≡ record { reply = model_reply.Done (model_reply.Flag on); world = toggle_attribute e name force w }
  answer-toggle_attribute e name force on none valid is =
      let there : is_toggled_on force (has_attribute w e name) ≡ on = ap (λ (f : Forest Content). is_toggled_on force (is_some (attribute_value name (content_in (entry_in f e)).attributes))) shown.keeps.forest ∙ sym is in
      let step : Bool → Step = λ x. record { reply = model_reply.Done (model_reply.Flag x); world = toggle_attribute e name force w } in
      guarded-kind (is_kind Element) e (bad_name (is_attribute_name name) ∷ []) (step (is_toggled_on force (has_attribute w e name))) none ∙ rw valid (ap step there)

  pub answer-attribute_names : (e : ℕ) (names : List (List ℕ)) → kind_refusal (is_kind Element) v e ≡ None → names ≡ attribute_names (content_in (entry_in v.tree.forest e)).attributes → answer b w (AttributeNames e) ≡ answers (model_reply.Names names) w
  answer-attribute_names e names none is =
      let there : attribute_names (content_in (entry_in w.forest e)).attributes ≡ names = ap (λ (f : Forest Content). attribute_names (content_in (entry_in f e)).attributes) shown.keeps.forest ∙ sym is in
      guarded-kind (is_kind Element) e [] (answers (model_reply.Names (attribute_names (content_in (entry_in w.forest e)).attributes)) w) none
      ∙ ap (λ (x : List (List ℕ)). answers (model_reply.Names x) w) there

  pub answer-data : (n : ℕ) (text : List ℕ) → kind_refusal is_character_data v n ≡ None → text ≡ (content_in (entry_in v.tree.forest n)).text → answer b w (GetData n) ≡ answers (model_reply.Units text) w
  answer-data n text none is =
      let there : (content_in (entry_in w.forest n)).text ≡ text = ap (λ (f : Forest Content). (content_in (entry_in f n)).text) shown.keeps.forest ∙ sym is in
      guarded-kind is_character_data n [] (answers (model_reply.Units (content_in (entry_in w.forest n)).text) w) none ∙ ap (λ (x : List ℕ). answers (model_reply.Units x) w) there

  pub answer-set_data : (n : ℕ) (text : List ℕ) → kind_refusal is_character_data v n ≡ None → answer b w (SetData n text) ≡ does (set_data n text w)
  answer-set_data n text none = guarded-kind is_character_data n [] (does (set_data n text w)) none

  -- an offset is checked against the forest
  offset-same : (n offset : ℕ) → check_offset w n offset ≡ check_offset (unwatched v) n offset
  offset-same n offset = ap (λ (f : Forest Content). first_refusal ((nat_lt (node_length unit_count f n) offset, IndexSizeError) ∷ [])) shown.keeps.forest

  checked-offset : (n offset : ℕ) (o : Option DomError) (s : Step) → check_offset (unwatched v) n offset ≡ o → checked (check_offset w n offset) w s ≡ checked o w s
  checked-offset n offset o s is = ap (λ (x : Option DomError). checked x w s) (offset-same n offset ∙ is)

  pub answer-replace_data : (n offset count : ℕ) (text : List ℕ) (o : Option DomError) → kind_refusal is_character_data v n ≡ None → check_offset (unwatched v) n offset ≡ o → answer b w (ReplaceData n offset count text) ≡ checked o w (does (replace_data n offset count text w))
  answer-replace_data n offset count text o none is =
      let s = does (replace_data n offset count text w) in
      guarded-kind is_character_data n [] (checked (check_offset w n offset) w s) none ∙ checked-offset n offset o s is

  pub answer-substring_data : (n offset count : ℕ) (units : List ℕ) (o : Option DomError) → kind_refusal is_character_data v n ≡ None → check_offset (unwatched v) n offset ≡ o → units ≡ substring_data (unwatched v) n offset count → answer b w (SubstringData n offset count) ≡ checked o w (answers (model_reply.Units units) w)
  answer-substring_data n offset count units o none is same =
      let there : substring_data w n offset count ≡ units = ap (λ (f : Forest Content). substring offset (cut_count (length (content_in (entry_in f n)).text) offset count) (content_in (entry_in f n)).text) shown.keeps.forest ∙ sym same in
      guarded-kind is_character_data n [] (checked (check_offset w n offset) w (answers (model_reply.Units (substring_data w n offset count)) w)) none
      ∙ checked-offset n offset o (answers (model_reply.Units (substring_data w n offset count)) w) is
      ∙ ap (λ (x : List ℕ). checked o w (answers (model_reply.Units x) w)) there

  pub refused-substring_data : (n offset count : ℕ) (r : model_reply.Reply) → kind_refusal is_character_data v n ≡ Some r → answer b w (SubstringData n offset count) ≡ refused r w
  refused-substring_data n offset count r some =
      guarded-some (no_node n w ∷ wrong_kind is_character_data n w ∷ []) [] w (checked (check_offset w n offset) w (answers (model_reply.Units (substring_data w n offset count)) w)) r (rw shown.keeps.forest some)

  -- one test, which does not hold
  pub guarded-past_node : (n : ℕ) (cs : List (Bool × model_reply.Reply)) (s : Step) → is_some (entry_in v.tree.forest n) ≡ true → guarded (no_node n w ∷ cs) w s ≡ guarded cs w s
  guarded-past_node n cs s held = guarded-none (no_node n w ∷ []) cs w s (rw (shown.keeps.forest, not-none (entry_in v.tree.forest n) held) refl)

  pub answer-text_content : (n : ℕ) (text : Option (List ℕ)) → is_some (entry_in v.tree.forest n) ≡ true → text ≡ text_content (unwatched v) n → answer b w (TextContent n) ≡ answers (model_reply.MaybeUnits text) w
  answer-text_content n text held is =
      guarded-past_node n [] (answers (model_reply.MaybeUnits (text_content w n)) w) held
      ∙ ap (λ (x : Option (List ℕ)). answers (model_reply.MaybeUnits x) w) (content-same w (unwatched v) n shown.keeps.forest ∙ sym is)

  pub answer-normalize : (n : ℕ) → is_some (entry_in v.tree.forest n) ≡ true → answer b w (Normalize n) ≡ does (normalize n w)
  answer-normalize n held = guarded-past_node n [] (does (normalize n w)) held

  pub answer-append_data : (n l : ℕ) (text : List ℕ) → is_some (entry_in v.tree.forest n) ≡ true → IfSome (entry_in v.tree.forest n) (λ e. l ≡ length_of unit_count e) → answer b w (AppendData n text) ≡ answer b w (ReplaceData n l 0 text)
  answer-append_data n l text held is =
      let there : length_at w n ≡ l = ap (λ (f : Forest Content). node_length unit_count f n) shown.keeps.forest ∙ length-there v.tree.forest n l held is in
      ap (λ (x : ℕ). answer b w (ReplaceData n x 0 text)) there

  -- enough numbers are left
  pub guarded-past_room : (cs : List (Bool × model_reply.Reply)) (s : Step) → nat_lt b.numbers (v.tree.made + 1) ≡ false → guarded (no_room b w.made 1 ∷ cs) w s ≡ guarded cs w s
  guarded-past_room cs s room = guarded-none (no_room b w.made 1 ∷ []) cs w s (rw (shown.keeps.made, room) refl)

  pub answer-set_text_content : (n : ℕ) (text : List ℕ) → is_some (entry_in v.tree.forest n) ≡ true → nat_lt b.numbers (v.tree.made + 1) ≡ false → answer b w (SetTextContent n text) ≡ does (set_text_content n text w)
  answer-set_text_content n text held room =
      let s = does (set_text_content n text w) in
      guarded-past_node n (no_room b w.made 1 ∷ []) s held ∙ guarded-past_room [] s room

  pub answer-split_text : (n offset : ℕ) (o : Option DomError) → kind_refusal (is_kind Text) v n ≡ None → nat_lt b.numbers (v.tree.made + 1) ≡ false → check_offset (unwatched v) n offset ≡ o → answer b w (SplitText n offset) ≡ checked o w (record { reply = model_reply.Done (model_reply.Number v.tree.made); world = split n offset w })
  answer-split_text n offset o none room is =
      let step : ℕ → Step = λ m. record { reply = model_reply.Done (model_reply.Number m); world = split n offset w } in
      guarded-kind (is_kind Text) n (no_room b w.made 1 ∷ []) (checked (check_offset w n offset) w (step w.made)) none
      ∙ guarded-past_room [] (checked (check_offset w n offset) w (step w.made)) room
      ∙ checked-offset n offset o (step w.made) is
      ∙ ap (λ (m : ℕ). checked o w (step m)) shown.keeps.made

  pub refused-split_text : (n offset : ℕ) (r : model_reply.Reply) → kind_refusal (is_kind Text) v n ≡ Some r → answer b w (SplitText n offset) ≡ refused r w
  refused-split_text n offset r some =
      guarded-some (no_node n w ∷ wrong_kind (is_kind Text) n w ∷ []) (no_room b w.made 1 ∷ []) w (checked (check_offset w n offset) w (record { reply = model_reply.Done (model_reply.Number w.made); world = split n offset w })) r (rw shown.keeps.forest some)
