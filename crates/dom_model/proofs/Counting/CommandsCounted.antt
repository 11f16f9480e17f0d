-- Each command leaves the world where it is refused, and else takes no more numbers than it asks for.
use Rattle.std.proofs.Common.{◌≡◌, ℕ, ◌+◌, ◌*◌, nat_lt, Bool, false, not, List, [], ◌∷◌, ◌++◌, length, Option, Some, None, refl, ap, arith, rules, length-append}
use Rattle.std.proofs.lemmas.{Bool.Decides.nat_tests, List.length-set}
use Rattle.dom_model.specs.Definitions.{Entry, Node, size, entry_in, parent_of, is_number, is_kind, is_character_data, may_be_parent, is_element_name, is_attribute_name, is_doctype_name, length_at, unit_count, Content, Point, Range, Iterator, Walker, World, Answer, Reply, Own, check_insert, check_replace, is_of_kind, check_offset, range_at, start_set, end_set, point_before, point_after, around, check_point, check_contents, check_compare, check_point_against, check_point_in, collapsed, with_range, released, check_extract, insert_node, surround, check_static, static_at, made_static, released_static, options_refusal, pending_of, with_observer, released_observer, no_numbers, node_numbers, numbers_for_copies, asked, Bounds, Step, guarded, answers, does, no_node, no_node_given, wrong_kind, no_room, no_room_for_copies, bad_name, throws, Command, NewDocument, CreateElement, CreateText, CreateComment, CreatePI, CreateDoctype, CreateFragment, InsertBefore, AppendChild, AdoptNode, ReplaceChild, RemoveChild, Remove, ReplaceChildren, ImportNode, CloneNode, Normalize, DescribeNode, Children, Index, Length, Root, IsContaining, IsEqual, ComparePosition, TextContent, SetTextContent, Tree, GetData, SetData, AppendData, InsertData, DeleteData, ReplaceData, SubstringData, SplitText, SetAttribute, GetAttribute, HasAttribute, RemoveAttribute, ToggleAttribute, AttributeNames, CreateRange, CloneRange, DescribeRange, SetStart, SetEnd, SetStartBefore, SetStartAfter, SetEndBefore, SetEndAfter, Collapse, SelectNode, SelectNodeContents, CompareBoundaryPoints, ComparePoint, IsPointInRange, IntersectsNode, CommonAncestor, RangeText, DeleteContents, ExtractContents, CloneContents, InsertNode, SurroundContents, ReleaseRange, CreateIterator, CreateWalker, DescribeIterator, NextNode, PreviousNode, DescribeWalker, SetCurrent, Walk, CreateObserver, Observe, Disconnect, TakeRecords, Notify, Pending, Discard, CreateStaticRange, DescribeStaticRange, ReleaseIterator, ReleaseWalker, ReleaseStaticRange, ReleaseObserver, TakePending, TellObserver, is_child_node, described, check_replace_children, no_range, makes_range, on_range, sets_start, sets_end, iterator_at, walker_at, with_iterator, with_walker, released_iterator, released_walker, observers_made, no_observer, with_observing, closes_instruction, is_in_use, no_static, static_told, answer}
use Rattle.dom_model.specs.declared.{Kind.TheVariants.Element, Kind.TheVariants.Text, Kind.TheVariants.Document, DomError.TheVariants.NotFoundError, DomError.TheVariants.NotSupportedError, DomError.TheVariants.InvalidCharacterError, OwnError.TheVariants.InUse}
use Rattle.dom_model.proofs.Counting.{NumbersGone.IsLiveAt, NumbersGone.none-without, NumbersGone.live-of, NumbersGone.live-moved, NumbersGone.live-set, NumbersGone.pushed-released, NumbersGone.none-set, CountsKept.observing-kept, CountsKept.forest-kept, CountsKept.remove-kept, CountsKept.pre_insert-kept, CountsKept.append-kept, CountsKept.replace-kept, CountsKept.replace_all-kept, CountsKept.adopt-kept, CountsOfData.made_node-grown, CountsOfData.replace_data-kept, CountsOfData.set_data-kept, CountsOfData.split-grown, CountsOfData.normalize-kept, CountsOfData.set_text_content-grown, CountsOfData.set_attribute-kept, CountsOfData.remove_attribute-kept, CountsOfData.toggle_attribute-kept, CountsOfContents.clone-grown, CountsOfContents.import-grown, CountsOfContents.with_range-kept, CountsOfContents.delete_contents-kept, CopiesGrow.clone_contents-grows, CopiesOfContents.clone_contents-grown, CopiesOfContents.IsInOrder, CountsOfExtraction.extract-grown, CountsOfExtraction.insert_node-to, CountsOfExtraction.surround-to, StepsCounted.IsCounted, StepsCounted.leaves, StepsCounted.takes, StepsCounted.guarded-counted, StepsCounted.checked-counted, StepsCounted.on_range-counted, StepsCounted.at_point-counted, StepsCounted.at_ends-counted, StepsCounted.object-counted, StepsCounted.object_there-counted, StepsCounted.outcome-counted, StepsCounted.keeps, StepsCounted.grows, StepsCounted.grows-in_order}
use Rattle.dom_model.proofs.MutationObservers.Queues.{pending-there, length-moved}

-- what a command needs to take no more numbers than it asks for: a copy of contents wants the world in order, any other nothing
abbrev pub Needed : World → Command → Type 0
Needed w (CloneContents r) = IsInOrder w
Needed w _ = Unit {0}

module _ (b : Bounds) (w : World) where
  -- A question leaves the world.
  asks : {needs : Type 0} → (cs : List (Bool × Reply)) (s : Step) → s.world ≡ w → IsCounted b no_numbers needs w (guarded cs w s)
  asks cs s e = guarded-counted b no_numbers cs w s (λ h. leaves e)

  -- Objects of the other kinds: one more of them.

  range-counted : {needs : Type 0} → (range : Range) → nat_lt b.numbers (length w.ranges + 1) ≡ false → IsCounted b (record no_numbers { ranges = 1 }) needs w (makes_range range w)
  range-counted range room = takes refl (λ h. grind (arith, nat_tests)) (grind (arith, length-append)) (λ o. grind (arith, length-append)) (search (rules, pushed-released))

  iterator-counted : {needs : Type 0} → (it : Iterator) (a : Answer) → nat_lt b.numbers (length w.iterators + 1) ≡ false → IsCounted b (record no_numbers { iterators = 1 }) needs w (answers a (record w { iterators = w.iterators ++ Some it ∷ [] }))
  iterator-counted it a room = takes refl (λ h. grind (arith, nat_tests)) (grind (arith, length-append)) (λ o. grind (arith, length-append)) (search (rules, pushed-released))

  walker-counted : {needs : Type 0} → (k : Walker) (a : Answer) → nat_lt b.numbers (length w.walkers + 1) ≡ false → IsCounted b (record no_numbers { walkers = 1 }) needs w (answers a (record w { walkers = w.walkers ++ Some k ∷ [] }))
  walker-counted k a room = takes refl (λ h. grind (arith, nat_tests)) (grind (arith, length-append)) (λ o. grind (arith, length-append)) (search (rules, pushed-released))

  observer-counted : {needs : Type 0} → (a : Answer) → nat_lt b.numbers (length w.observing.places + 1) ≡ false → IsCounted b (record no_numbers { observers = 1 }) needs w (answers a (with_observing (with_observer w.observing) w))
  observer-counted a room = takes refl (λ h. grind (arith, nat_tests)) (grind (arith, length-append)) (λ o. grind (arith, length-append)) (search (rules, pushed-released))

  static-counted : {needs : Type 0} → (range : Range) (a : Answer) → nat_lt b.numbers (length w.static_ranges + 1) ≡ false → IsCounted b (record no_numbers { static_ranges = 1 }) needs w (answers a (made_static range w))
  static-counted range a room = takes refl (λ h. grind (arith, nat_tests)) (grind (arith, length-append)) (λ o. grind (arith, length-append)) (search (rules, pushed-released))

  -- Changes that take no number.

  with_iterator-counted : {needs : Type 0} → (i : ℕ) (it : Iterator) (a : Answer) → IsLiveAt w.iterators i → IsCounted b no_numbers needs w (answers a (with_iterator i it w))
  with_iterator-counted i it a there = keeps b w _ a (search (rules, length-set, live-set))

  with_walker-counted : {needs : Type 0} → (i : ℕ) (k : Walker) (a : Answer) → IsLiveAt w.walkers i → IsCounted b no_numbers needs w (answers a (with_walker i k w))
  with_walker-counted i k a there = keeps b w _ a (search (rules, length-set, live-set))

  sets-counted : {needs : Type 0} → (r : ℕ) → IsLiveAt w.ranges r → (o : Option Range) (set : Range → Range) → IsCounted b no_numbers needs w (on_range o w (λ range. does (with_range r (set range) w)))
  sets-counted r live o set = on_range-counted b no_numbers o w _ (λ range. keeps b w _ _ (with_range-kept r (set range) w live))

  released-counted : {needs : Type 0} → (r : ℕ) → IsCounted b no_numbers needs w (does (released r w))
  released-counted r = takes refl (λ h. grind (arith, length-set)) (grind (arith, length-set)) (λ h. grind (arith, length-set)) (search (rules, none-set))

  released_iterator-counted : {needs : Type 0} → (i : ℕ) → IsCounted b no_numbers needs w (does (released_iterator i w))
  released_iterator-counted i = takes refl (λ h. grind (arith, length-set)) (grind (arith, length-set)) (λ h. grind (arith, length-set)) (search (rules, none-set))

  released_walker-counted : {needs : Type 0} → (k : ℕ) → IsCounted b no_numbers needs w (does (released_walker k w))
  released_walker-counted k = takes refl (λ h. grind (arith, length-set)) (grind (arith, length-set)) (λ h. grind (arith, length-set)) (search (rules, none-set))

  released_observer-counted : {needs : Type 0} → (o : ℕ) → IsCounted b no_numbers needs w (does (with_observing (released_observer o w.observing) w))
  released_observer-counted o = takes refl (λ h. grind (arith, length-set)) (grind (arith, length-set)) (λ h. grind (arith, length-set)) (search (rules, none-set))

  released_static-counted : {needs : Type 0} → (u : ℕ) → IsCounted b no_numbers needs w (does (released_static u w))
  released_static-counted u = takes refl (λ h. grind (arith, length-set)) (grind (arith, length-set)) (λ h. grind (arith, length-set)) (search (rules, none-set))

  sets_start-counted : {needs : Type 0} → (r n : ℕ) (p : Option Point) → IsCounted b no_numbers needs w (sets_start r n p w)
  sets_start-counted r n p =
      guarded-counted b no_numbers (no_range r w ∷ no_node n w ∷ []) w _
      (λ h. at_point-counted b no_numbers p w _ (λ q. sets-counted r h.0 (range_at w r) (start_set w.forest q)))

  sets_end-counted : {needs : Type 0} → (r n : ℕ) (p : Option Point) → IsCounted b no_numbers needs w (sets_end r n p w)
  sets_end-counted r n p =
      guarded-counted b no_numbers (no_range r w ∷ no_node n w ∷ []) w _
      (λ h. at_point-counted b no_numbers p w _ (λ q. sets-counted r h.0 (range_at w r) (end_set w.forest q)))

  described-counted : {needs : Type 0} → (n : ℕ) (e : Option (Entry (Node Content))) → IsCounted b no_numbers needs w (described w n e)
  described-counted n None = leaves refl
  described-counted n (Some e) = leaves refl

  told-counted : {needs : Type 0} → (range : Option Range) → IsCounted b no_numbers needs w (static_told w range)
  told-counted None = leaves refl
  told-counted (Some range) = leaves refl

pub command-counted : (b : Bounds) (w : World) (c : Command) → IsCounted b (asked w c) (Needed w c) w (answer b w c)
command-counted b w NewDocument = guarded-counted b (node_numbers 1) (no_room b w.made 1 ∷ []) w _ (λ h. grows b 1 1 w _ _ h.0 (omega arith) (made_node-grown _ _ _ w))
command-counted b w (CreateElement d name) = guarded-counted b (node_numbers 1) (no_node d w ∷ wrong_kind (is_kind Document) d w ∷ no_room b w.made 1 ∷ bad_name (is_element_name name) ∷ []) w _ (λ h. grows b 1 1 w _ _ h.1.1.0 (omega arith) (made_node-grown _ _ _ w))
command-counted b w (CreateText d text) = guarded-counted b (node_numbers 1) (no_node d w ∷ wrong_kind (is_kind Document) d w ∷ no_room b w.made 1 ∷ []) w _ (λ h. grows b 1 1 w _ _ h.1.1.0 (omega arith) (made_node-grown _ _ _ w))
command-counted b w (CreateComment d text) = guarded-counted b (node_numbers 1) (no_node d w ∷ wrong_kind (is_kind Document) d w ∷ no_room b w.made 1 ∷ []) w _ (λ h. grows b 1 1 w _ _ h.1.1.0 (omega arith) (made_node-grown _ _ _ w))
command-counted b w (CreatePI d target text) = guarded-counted b (node_numbers 1) (no_node d w ∷ wrong_kind (is_kind Document) d w ∷ no_room b w.made 1 ∷ bad_name (is_element_name target) ∷ throws (closes_instruction text) InvalidCharacterError ∷ []) w _ (λ h. grows b 1 1 w _ _ h.1.1.0 (omega arith) (made_node-grown _ _ _ w))
command-counted b w (CreateDoctype d name public_id system_id) = guarded-counted b (node_numbers 1) (no_node d w ∷ wrong_kind (is_kind Document) d w ∷ no_room b w.made 1 ∷ bad_name (is_doctype_name name) ∷ []) w _ (λ h. grows b 1 1 w _ _ h.1.1.0 (omega arith) (made_node-grown _ _ _ w))
command-counted b w (CreateFragment d) = guarded-counted b (node_numbers 1) (no_node d w ∷ wrong_kind (is_kind Document) d w ∷ no_room b w.made 1 ∷ []) w _ (λ h. grows b 1 1 w _ _ h.1.1.0 (omega arith) (made_node-grown _ _ _ w))
command-counted b w (InsertBefore p n c) = guarded-counted b no_numbers (no_node p w ∷ no_node n w ∷ no_node_given c w ∷ []) w _ (λ h. checked-counted b no_numbers (check_insert w.forest p n c) w _ (keeps b w _ _ (pre_insert-kept n p c w)))
command-counted b w (AppendChild p n) = guarded-counted b no_numbers (no_node p w ∷ no_node n w ∷ []) w _ (λ h. checked-counted b no_numbers (check_insert w.forest p n None) w _ (keeps b w _ _ (append-kept n p w)))
command-counted b w (ReplaceChild p n c) = guarded-counted b no_numbers (no_node p w ∷ no_node n w ∷ no_node c w ∷ []) w _ (λ h. checked-counted b no_numbers (check_replace w.forest p n c) w _ (keeps b w _ _ (replace-kept c n p w)))
command-counted b w (RemoveChild p c) = guarded-counted b no_numbers (no_node p w ∷ no_node c w ∷ throws (not (is_number (parent_of w.forest c) p)) NotFoundError ∷ []) w _ (λ h. keeps b w _ _ (remove-kept false c w))
command-counted b w (Remove n) = guarded-counted b no_numbers (no_node n w ∷ wrong_kind is_child_node n w ∷ []) w _ (λ h. keeps b w _ _ (remove-kept false n w))
command-counted b w (ReplaceChildren p n) = guarded-counted b no_numbers (no_node p w ∷ no_node_given n w ∷ wrong_kind may_be_parent p w ∷ []) w _ (λ h. checked-counted b no_numbers (check_replace_children w p n) w _ (keeps b w _ _ (replace_all-kept n p w)))
command-counted b w (AdoptNode d n) = guarded-counted b no_numbers (no_node d w ∷ no_node n w ∷ wrong_kind (is_kind Document) d w ∷ throws (is_of_kind Document w.forest n) NotSupportedError ∷ []) w _ (λ h. keeps b w _ _ (adopt-kept n d w))
command-counted b w (ImportNode d n deep) = guarded-counted b (numbers_for_copies w) (no_node d w ∷ no_node n w ∷ wrong_kind (is_kind Document) d w ∷ no_room_for_copies b w ∷ throws (is_of_kind Document w.forest n) NotSupportedError ∷ []) w _ (λ h. grows b (2 * size w.forest + 8) (1 + size w.forest) w _ _ h.1.1.1.0 (omega arith) (import-grown d deep n w))
command-counted b w (CloneNode n deep) = guarded-counted b (numbers_for_copies w) (no_node n w ∷ no_room_for_copies b w ∷ []) w _ (λ h. grows b (2 * size w.forest + 8) (1 + size w.forest) w _ _ h.1.0 (omega arith) (clone-grown deep n w))
command-counted b w (Normalize n) = guarded-counted b no_numbers (no_node n w ∷ []) w _ (λ h. keeps b w _ _ (normalize-kept n w))
command-counted b w (Children n) = asks b w (no_node n w ∷ []) _ refl
command-counted b w (Index n) = asks b w (no_node n w ∷ []) _ refl
command-counted b w (Length n) = asks b w (no_node n w ∷ []) _ refl
command-counted b w (Root n) = asks b w (no_node n w ∷ []) _ refl
command-counted b w (TextContent n) = asks b w (no_node n w ∷ []) _ refl
command-counted b w (Tree n) = asks b w (no_node n w ∷ []) _ refl
command-counted b w (DescribeNode n) = guarded-counted b no_numbers (no_node n w ∷ []) w _ (λ h. described-counted b w n (entry_in w.forest n))
command-counted b w (IsContaining n m) = asks b w (no_node n w ∷ no_node_given m w ∷ []) _ refl
command-counted b w (IsEqual n m) = asks b w (no_node n w ∷ no_node_given m w ∷ []) _ refl
command-counted b w (ComparePosition n m) = asks b w (no_node n w ∷ no_node m w ∷ []) _ refl
command-counted b w (SetTextContent n text) = guarded-counted b (node_numbers 1) (no_node n w ∷ no_room b w.made 1 ∷ []) w _ (λ h. grows b 1 1 w _ _ h.1.0 (omega arith) (set_text_content-grown n text w))
command-counted b w (GetData x) = asks b w (no_node x w ∷ wrong_kind is_character_data x w ∷ []) _ refl
command-counted b w (SetData x text) = guarded-counted b no_numbers (no_node x w ∷ wrong_kind is_character_data x w ∷ []) w _ (λ h. keeps b w _ _ (set_data-kept x text w))
command-counted b w (AppendData x text) = guarded-counted b no_numbers (no_node x w ∷ wrong_kind is_character_data x w ∷ []) w _ (λ h. checked-counted b no_numbers (check_offset w x (length_at w x)) w _ (keeps b w _ _ (replace_data-kept x (length_at w x) 0 text w)))
command-counted b w (InsertData x offset text) = guarded-counted b no_numbers (no_node x w ∷ wrong_kind is_character_data x w ∷ []) w _ (λ h. checked-counted b no_numbers (check_offset w x offset) w _ (keeps b w _ _ (replace_data-kept x offset 0 text w)))
command-counted b w (DeleteData x offset count) = guarded-counted b no_numbers (no_node x w ∷ wrong_kind is_character_data x w ∷ []) w _ (λ h. checked-counted b no_numbers (check_offset w x offset) w _ (keeps b w _ _ (replace_data-kept x offset count [] w)))
command-counted b w (ReplaceData x offset count text) = guarded-counted b no_numbers (no_node x w ∷ wrong_kind is_character_data x w ∷ []) w _ (λ h. checked-counted b no_numbers (check_offset w x offset) w _ (keeps b w _ _ (replace_data-kept x offset count text w)))
command-counted b w (SubstringData x offset count) = guarded-counted b no_numbers (no_node x w ∷ wrong_kind is_character_data x w ∷ []) w _ (λ h. checked-counted b no_numbers (check_offset w x offset) w _ (leaves refl))
command-counted b w (SplitText t offset) = guarded-counted b (node_numbers 1) (no_node t w ∷ wrong_kind (is_kind Text) t w ∷ no_room b w.made 1 ∷ []) w _ (λ h. checked-counted b (node_numbers 1) (check_offset w t offset) w _ (grows b 1 1 w _ _ h.1.1.0 (omega arith) (split-grown t offset w)))
command-counted b w (SetAttribute e name value) = guarded-counted b no_numbers (no_node e w ∷ wrong_kind (is_kind Element) e w ∷ bad_name (is_attribute_name name) ∷ []) w _ (λ h. keeps b w _ _ (set_attribute-kept e name value w))
command-counted b w (GetAttribute e name) = asks b w (no_node e w ∷ wrong_kind (is_kind Element) e w ∷ []) _ refl
command-counted b w (HasAttribute e name) = asks b w (no_node e w ∷ wrong_kind (is_kind Element) e w ∷ []) _ refl
command-counted b w (RemoveAttribute e name) = guarded-counted b no_numbers (no_node e w ∷ wrong_kind (is_kind Element) e w ∷ []) w _ (λ h. keeps b w _ _ (remove_attribute-kept e name w))
command-counted b w (ToggleAttribute e name force) = guarded-counted b no_numbers (no_node e w ∷ wrong_kind (is_kind Element) e w ∷ bad_name (is_attribute_name name) ∷ []) w _ (λ h. keeps b w _ _ (toggle_attribute-kept e name force w))
command-counted b w (AttributeNames e) = asks b w (no_node e w ∷ wrong_kind (is_kind Element) e w ∷ []) _ refl
command-counted b w (CreateRange d) = guarded-counted b (record no_numbers { ranges = 1 }) (no_node d w ∷ wrong_kind (is_kind Document) d w ∷ no_room b (length w.ranges) 1 ∷ []) w _ (λ h. range-counted b w _ h.1.1.0)
command-counted b w (CloneRange r) = guarded-counted b (record no_numbers { ranges = 1 }) (no_range r w ∷ no_room b (length w.ranges) 1 ∷ []) w _ (λ h. on_range-counted b (record no_numbers { ranges = 1 }) (range_at w r) w _ (λ range. range-counted b w range h.1.0))
command-counted b w (DescribeRange r) = guarded-counted b no_numbers (no_range r w ∷ []) w _ (λ h. on_range-counted b no_numbers (range_at w r) w _ (λ range. leaves refl))
command-counted b w (SetStart r n offset) = guarded-counted b no_numbers (no_range r w ∷ no_node n w ∷ []) w _ (λ h. checked-counted b no_numbers (check_point unit_count w.forest (record { node = n; offset = offset })) w _ (sets-counted b w r h.0 (range_at w r) (start_set w.forest (record { node = n; offset = offset }))))
command-counted b w (SetEnd r n offset) = guarded-counted b no_numbers (no_range r w ∷ no_node n w ∷ []) w _ (λ h. checked-counted b no_numbers (check_point unit_count w.forest (record { node = n; offset = offset })) w _ (sets-counted b w r h.0 (range_at w r) (end_set w.forest (record { node = n; offset = offset }))))
command-counted b w (SetStartBefore r n) = sets_start-counted b w r n (point_before w.forest n)
command-counted b w (SetStartAfter r n) = sets_start-counted b w r n (point_after w.forest n)
command-counted b w (SetEndBefore r n) = sets_end-counted b w r n (point_before w.forest n)
command-counted b w (SetEndAfter r n) = sets_end-counted b w r n (point_after w.forest n)
command-counted b w (Collapse r to_start) = guarded-counted b no_numbers (no_range r w ∷ []) w _ (λ h. sets-counted b w r h.0 (range_at w r) (collapsed to_start))
command-counted b w (SelectNode r n) = guarded-counted b no_numbers (no_range r w ∷ no_node n w ∷ []) w _ (λ h. at_ends-counted b no_numbers (around w.forest n) w _ (λ ends. keeps b w _ _ (with_range-kept r ends w h.0)))
command-counted b w (SelectNodeContents r n) = guarded-counted b no_numbers (no_range r w ∷ no_node n w ∷ []) w _ (λ h. checked-counted b no_numbers (check_contents w.forest n) w _ (keeps b w _ _ (with_range-kept r _ w h.0)))
command-counted b w (CompareBoundaryPoints r how s) = guarded-counted b no_numbers (no_range r w ∷ no_range s w ∷ []) w _ (λ h. on_range-counted b no_numbers (range_at w r) w _ (λ range. on_range-counted b no_numbers (range_at w s) w _ (λ source. checked-counted b no_numbers (check_compare w.forest how range source) w _ (leaves refl))))
command-counted b w (ComparePoint r n offset) = guarded-counted b no_numbers (no_range r w ∷ no_node n w ∷ []) w _ (λ h. on_range-counted b no_numbers (range_at w r) w _ (λ range. checked-counted b no_numbers (check_point_against unit_count w.forest (record { node = n; offset = offset }) range) w _ (leaves refl)))
command-counted b w (IsPointInRange r n offset) = guarded-counted b no_numbers (no_range r w ∷ no_node n w ∷ []) w _ (λ h. on_range-counted b no_numbers (range_at w r) w _ (λ range. checked-counted b no_numbers (check_point_in unit_count w.forest (record { node = n; offset = offset }) range) w _ (leaves refl)))
command-counted b w (IntersectsNode r n) = guarded-counted b no_numbers (no_range r w ∷ no_node n w ∷ []) w _ (λ h. on_range-counted b no_numbers (range_at w r) w _ (λ range. leaves refl))
command-counted b w (CommonAncestor r) = guarded-counted b no_numbers (no_range r w ∷ []) w _ (λ h. on_range-counted b no_numbers (range_at w r) w _ (λ range. leaves refl))
command-counted b w (RangeText r) = guarded-counted b no_numbers (no_range r w ∷ []) w _ (λ h. on_range-counted b no_numbers (range_at w r) w _ (λ range. leaves refl))
command-counted b w (DeleteContents r) = guarded-counted b no_numbers (no_range r w ∷ []) w _ (λ h. keeps b w _ _ (delete_contents-kept r w))
command-counted b w (ExtractContents r) = guarded-counted b (numbers_for_copies w) (no_range r w ∷ no_room_for_copies b w ∷ []) w _ (λ h. checked-counted b (numbers_for_copies w) (check_extract r w) w _ (grows b (2 * size w.forest + 8) (2 * size w.forest + 3) w _ _ h.1.0 (omega arith) (extract-grown r w)))
command-counted b w (CloneContents r) = guarded-counted b (numbers_for_copies w) (no_range r w ∷ no_room_for_copies b w ∷ []) w _ (λ h. checked-counted b (numbers_for_copies w) (check_extract r w) w _ (let g = clone_contents-grows r w in grows-in_order b (2 * size w.forest + 8) g.0 (2 * size w.forest + 3) w _ _ h.1.0 g.1 (omega arith) (clone_contents-grown r w)))
command-counted b w (InsertNode r n) = guarded-counted b (node_numbers 1) (no_range r w ∷ no_node n w ∷ no_room b w.made 1 ∷ []) w _ (λ h. outcome-counted b 1 1 w (insert_node r n w) h.1.1.0 (omega arith) (insert_node-to r n w))
command-counted b w (SurroundContents r n) = guarded-counted b (numbers_for_copies w) (no_range r w ∷ no_node n w ∷ no_room_for_copies b w ∷ []) w _ (λ h. outcome-counted b (2 * size w.forest + 8) (2 * size w.forest + 4) w (surround r n w) h.1.1.0 (omega arith) (surround-to r n w))
command-counted b w (ReleaseRange r) = guarded-counted b no_numbers (no_range r w ∷ []) w _ (λ h. released-counted b w r)
command-counted b w (CreateIterator root filter) = guarded-counted b (record no_numbers { iterators = 1 }) (no_node root w ∷ no_room b (length w.iterators) 1 ∷ []) w _ (λ h. iterator-counted b w _ _ h.1.0)
command-counted b w (CreateWalker root filter) = guarded-counted b (record no_numbers { walkers = 1 }) (no_node root w ∷ no_room b (length w.walkers) 1 ∷ []) w _ (λ h. walker-counted b w _ _ h.1.0)
command-counted b w (DescribeIterator i) = object-counted b no_numbers (iterator_at i w) w _ (λ x. leaves refl)
command-counted b w (NextNode i) = object_there-counted b no_numbers (iterator_at i w) w _ (λ x e. with_iterator-counted b w i _ _ (live-of (iterator_at i w) x e))
command-counted b w (PreviousNode i) = object_there-counted b no_numbers (iterator_at i w) w _ (λ x e. with_iterator-counted b w i _ _ (live-of (iterator_at i w) x e))
command-counted b w (DescribeWalker k) = object-counted b no_numbers (walker_at k w) w _ (λ x. leaves refl)
command-counted b w (SetCurrent k n) = object_there-counted b no_numbers (walker_at k w) w _ (λ x e. guarded-counted b no_numbers (no_node n w ∷ []) w _ (λ h. with_walker-counted b w k _ _ (live-of (walker_at k w) x e)))
command-counted b w (Walk k move) = object_there-counted b no_numbers (walker_at k w) w _ (λ x e. with_walker-counted b w k _ _ (live-of (walker_at k w) x e))
command-counted b w CreateObserver = guarded-counted b (record no_numbers { observers = 1 }) (no_room b (observers_made w) 1 ∷ []) w _ (λ h. observer-counted b w _ h.0)
command-counted b w (Observe o n options) = guarded-counted b no_numbers (no_observer o w ∷ no_node n w ∷ []) w _ (λ h. checked-counted b no_numbers (options_refusal options) w _ (keeps b w _ _ (observing-kept w _ refl (λ r. refl))))
command-counted b w (Disconnect o) = guarded-counted b no_numbers (no_observer o w ∷ []) w _ (λ h. keeps b w _ _ (observing-kept w _ (length-set w.observing.places o _) (live-set w.observing.places o _ h.0)))
command-counted b w (TakeRecords o) = guarded-counted b no_numbers (no_observer o w ∷ []) w _ (λ h. keeps b w _ _ (observing-kept w _ (length-set w.observing.places o _) (live-set w.observing.places o _ h.0)))
command-counted b w Notify = keeps b w _ _ (observing-kept w _ (length-moved _ (pending_of w.observing) w.observing.places) (live-moved _ (pending_of w.observing) w.observing.places (λ o h. ap not (pending-there o w.observing h))))
command-counted b w Pending = leaves refl
command-counted b w (Discard n) = guarded-counted b no_numbers (no_node n w ∷ (is_in_use w n, Own InUse) ∷ []) w _ (λ h. keeps b w _ _ (forest-kept w _ (none-without n w.forest)))
command-counted b w (CreateStaticRange start end) = guarded-counted b (record no_numbers { static_ranges = 1 }) (no_node start.node w ∷ no_node end.node w ∷ no_room b (length w.static_ranges) 1 ∷ []) w _ (λ h. checked-counted b (record no_numbers { static_ranges = 1 }) (check_static w.forest start.node end.node) w _ (static-counted b w _ _ h.1.1.0))
command-counted b w (DescribeStaticRange u) = guarded-counted b no_numbers (no_static u w ∷ []) w _ (λ h. told-counted b w (static_at w u))
command-counted b w (ReleaseIterator i) = object-counted b no_numbers (iterator_at i w) w _ (λ x. released_iterator-counted b w i)
command-counted b w (ReleaseWalker k) = object-counted b no_numbers (walker_at k w) w _ (λ x. released_walker-counted b w k)
command-counted b w (ReleaseStaticRange u) = guarded-counted b no_numbers (no_static u w ∷ []) w _ (λ h. released_static-counted b w u)
command-counted b w (ReleaseObserver o) = guarded-counted b no_numbers (no_observer o w ∷ []) w _ (λ h. released_observer-counted b w o)
command-counted b w TakePending = keeps b w _ _ (observing-kept w _ refl (λ r. refl))
command-counted b w (TellObserver o) = guarded-counted b no_numbers (no_observer o w ∷ []) w _ (λ h. keeps b w _ _ (observing-kept w _ (length-set w.observing.places o _) (live-set w.observing.places o _ h.0)))
