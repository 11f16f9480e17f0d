-- Dialogues with an observer erased, or with all watchers erased: the replies that are left are the same, and they are those that stand here,
-- beside the commands. Written by tools/rows.py.
use Rattle.std.proofs.Common.{◌≡◌, refl, codes, ℕ, ◌==◌, List, [], ◌∷◌, map, flat_map, Some, None, true}
use Rattle.dom_model.specs.Definitions.{first_world, Command, AppendChild, Children, CreateComment, CreateElement, CreateFragment, CreateIterator, CreateObserver, CreateRange, CreateText, DescribeIterator, DescribeRange, Disconnect, GetData, InsertBefore, NextNode, Normalize, Notify, Observe, Pending, PreviousNode, Remove, ReplaceChildren, ReplaceData, SetAttribute, SetData, SetEnd, SetStart, SplitText, TakeRecords, no_options, Reply, replies_to, without_observers, replies_without_observers, without_watchers, replies_without_watchers}
use Rattle.dom_model.proofs.Dialogues.{Exchanges.usual_bounds, Released.Replies.printed, Released.Replies.printed_replies}

-- what is printed without the erased commands is what is left of what is printed with them
abbrev IsLeft : (List Command → List Command) → (List Command → List Reply → List Reply) → List Command → List ℕ → Type 0
IsLeft without left commands bytes =
    (printed_replies (without commands) ≡ bytes) × (printed (left commands (replies_to usual_bounds first_world commands)) ≡ bytes)

abbrev IsLeftWithoutObserver : ℕ → List Command → List ℕ → Type 0
IsLeftWithoutObserver n commands bytes = IsLeft (without_observers (λ o. o == n)) (replies_without_observers (λ o. o == n)) commands bytes

abbrev IsLeftWithoutWatchers : List Command → List ℕ → Type 0
IsLeftWithoutWatchers commands bytes = IsLeft without_watchers replies_without_watchers commands bytes

abbrev fragment_observed : List (Command × List ℕ × List ℕ)
fragment_observed =
    (CreateElement 0 (codes "p"), codes "{\"ok\":1}\n", codes "{\"ok\":1}\n")
    ∷ (CreateFragment 0, codes "{\"ok\":2}\n", codes "{\"ok\":2}\n")
    ∷ (CreateText 0 (codes "a"), codes "{\"ok\":3}\n", codes "{\"ok\":3}\n")
    ∷ (AppendChild 2 3, codes "{\"ok\":3}\n", codes "{\"ok\":3}\n")
    ∷ (CreateObserver, codes "{\"ok\":0}\n", codes "{\"ok\":0}\n")
    ∷ (CreateObserver, codes "{\"ok\":1}\n", codes "{\"ok\":1}\n")
    ∷ (Observe 0 2 (record no_options { child_list = Some true }), [], codes "{\"ok\":null}\n")
    ∷ (AppendChild 1 2, codes "{\"ok\":2}\n", codes "{\"ok\":2}\n")
    ∷ (TakeRecords 0, [], codes "{\"ok\":[[\"childList\",2,[],[3],null,null,null,null]]}\n")
    ∷ (CreateElement 0 (codes "b"), codes "{\"ok\":4}\n", codes "{\"ok\":4}\n")
    ∷ (Observe 1 1 (record no_options { attributes = Some true; subtree = Some true }), codes "{\"ok\":null}\n", [])
    ∷ (ReplaceChildren 1 (Some 4), codes "{\"ok\":null}\n", codes "{\"ok\":null}\n")
    ∷ (ReplaceChildren 1 None, codes "{\"ok\":null}\n", codes "{\"ok\":null}\n")
    ∷ (SetAttribute 4 (codes "k") (codes "v"), codes "{\"ok\":null}\n", codes "{\"ok\":null}\n")
    ∷ (TakeRecords 1, codes "{\"ok\":[[\"attributes\",4,[],[],null,null,\"k\",null]]}\n", [])
    ∷ []

fragment_observed_without_0 : IsLeftWithoutObserver 0 (map (λ e. e.0) fragment_observed) (flat_map (λ e. e.1) fragment_observed)
unfolding printed
fragment_observed_without_0 = (refl, refl)

fragment_observed_without_1 : IsLeftWithoutObserver 1 (map (λ e. e.0) fragment_observed) (flat_map (λ e. e.2) fragment_observed)
unfolding printed
fragment_observed_without_1 = (refl, refl)

abbrev node_before_itself : List (Command × List ℕ × List ℕ)
node_before_itself =
    (CreateElement 0 (codes "p"), codes "{\"ok\":1}\n", codes "{\"ok\":1}\n")
    ∷ (CreateElement 0 (codes "x"), codes "{\"ok\":2}\n", codes "{\"ok\":2}\n")
    ∷ (CreateElement 0 (codes "n"), codes "{\"ok\":3}\n", codes "{\"ok\":3}\n")
    ∷ (AppendChild 1 2, codes "{\"ok\":2}\n", codes "{\"ok\":2}\n")
    ∷ (AppendChild 1 3, codes "{\"ok\":3}\n", codes "{\"ok\":3}\n")
    ∷ (CreateObserver, codes "{\"ok\":0}\n", codes "{\"ok\":0}\n")
    ∷ (Observe 0 1 (record no_options { child_list = Some true }), [], codes "{\"ok\":null}\n")
    ∷ (InsertBefore 1 2 (Some 2), codes "{\"ok\":2}\n", codes "{\"ok\":2}\n")
    ∷ (Children 1, codes "{\"ok\":[2,3]}\n", codes "{\"ok\":[2,3]}\n")
    ∷ (TakeRecords 0, [], codes "{\"ok\":[[\"childList\",1,[],[2],null,3,null,null],[\"childList\",1,[2],[],null,3,null,null]]}\n")
    ∷ (AppendChild 1 3, codes "{\"ok\":3}\n", codes "{\"ok\":3}\n")
    ∷ (TakeRecords 0, [], codes "{\"ok\":[[\"childList\",1,[],[3],2,null,null,null],[\"childList\",1,[3],[],2,null,null,null]]}\n")
    ∷ []

node_before_itself_without_0 : IsLeftWithoutObserver 0 (map (λ e. e.0) node_before_itself) (flat_map (λ e. e.1) node_before_itself)
unfolding printed
node_before_itself_without_0 = (refl, refl)

node_before_itself_without_2 : IsLeftWithoutObserver 2 (map (λ e. e.0) node_before_itself) (flat_map (λ e. e.2) node_before_itself)
unfolding printed
node_before_itself_without_2 = (refl, refl)

abbrev observers_apart : List (Command × List ℕ × List ℕ)
observers_apart =
    (CreateElement 0 (codes "a"), codes "{\"ok\":1}\n", codes "{\"ok\":1}\n")
    ∷ (CreateElement 0 (codes "b"), codes "{\"ok\":2}\n", codes "{\"ok\":2}\n")
    ∷ (AppendChild 1 2, codes "{\"ok\":2}\n", codes "{\"ok\":2}\n")
    ∷ (CreateObserver, codes "{\"ok\":0}\n", codes "{\"ok\":0}\n")
    ∷ (CreateObserver, codes "{\"ok\":1}\n", codes "{\"ok\":1}\n")
    ∷ (Observe 1 1 (record no_options { attributes = Some true; attribute_old_value = Some true }), codes "{\"ok\":null}\n", [])
    ∷ (Observe 0 1 (record no_options { attributes = Some true }), [], codes "{\"ok\":null}\n")
    ∷ (Observe 0 1 (record no_options { child_list = Some true; attributes = Some true }), [], codes "{\"ok\":null}\n")
    ∷ (SetAttribute 1 (codes "x") (codes "1"), codes "{\"ok\":null}\n", codes "{\"ok\":null}\n")
    ∷ (SetAttribute 1 (codes "x") (codes "2"), codes "{\"ok\":null}\n", codes "{\"ok\":null}\n")
    ∷ (Pending, codes "{\"ok\":[1]}\n", codes "{\"ok\":[0]}\n")
    ∷ (TakeRecords 1, codes "{\"ok\":[[\"attributes\",1,[],[],null,null,\"x\",null],[\"attributes\",1,[],[],null,null,\"x\",\"1\"]]}\n", [])
    ∷ (Remove 2, codes "{\"ok\":null}\n", codes "{\"ok\":null}\n")
    ∷ (Disconnect 1, codes "{\"ok\":null}\n", [])
    ∷ (SetAttribute 1 (codes "x") (codes "3"), codes "{\"ok\":null}\n", codes "{\"ok\":null}\n")
    ∷ (
      Notify,
      codes "{\"ok\":[]}\n",
      codes "{\"ok\":[[0,[[\"attributes\",1,[],[],null,null,\"x\",null],[\"attributes\",1,[],[],null,null,\"x\",null],[\"childList\",1,[],[2],null,null,null,null],[\"attributes\",1,[],[],null,null,\"x\",null]]]]}\n",
    )
    ∷ (Observe 1 1 (record no_options { attributes = Some true }), codes "{\"ok\":null}\n", [])
    ∷ (Observe 1 1 (record no_options { attributes = Some true; attribute_filter = Some (codes "y" ∷ []) }), codes "{\"ok\":null}\n", [])
    ∷ (SetAttribute 1 (codes "y") (codes "4"), codes "{\"ok\":null}\n", codes "{\"ok\":null}\n")
    ∷ (SetAttribute 1 (codes "x") (codes "5"), codes "{\"ok\":null}\n", codes "{\"ok\":null}\n")
    ∷ (Pending, codes "{\"ok\":[1]}\n", codes "{\"ok\":[0]}\n")
    ∷ (
      Notify,
      codes "{\"ok\":[[1,[[\"attributes\",1,[],[],null,null,\"y\",null]]]]}\n",
      codes "{\"ok\":[[0,[[\"attributes\",1,[],[],null,null,\"y\",null],[\"attributes\",1,[],[],null,null,\"x\",null]]]]}\n",
    )
    ∷ []

observers_apart_without_0 : IsLeftWithoutObserver 0 (map (λ e. e.0) observers_apart) (flat_map (λ e. e.1) observers_apart)
unfolding printed
observers_apart_without_0 = (refl, refl)

observers_apart_without_1 : IsLeftWithoutObserver 1 (map (λ e. e.0) observers_apart) (flat_map (λ e. e.2) observers_apart)
unfolding printed
observers_apart_without_1 = (refl, refl)

abbrev one_record_each : List (Command × List ℕ × List ℕ)
one_record_each =
    (CreateElement 0 (codes "a"), codes "{\"ok\":1}\n", codes "{\"ok\":1}\n")
    ∷ (CreateElement 0 (codes "b"), codes "{\"ok\":2}\n", codes "{\"ok\":2}\n")
    ∷ (AppendChild 1 2, codes "{\"ok\":2}\n", codes "{\"ok\":2}\n")
    ∷ (CreateObserver, codes "{\"ok\":0}\n", codes "{\"ok\":0}\n")
    ∷ (CreateObserver, codes "{\"ok\":1}\n", codes "{\"ok\":1}\n")
    ∷ (Observe 0 1 (record no_options { subtree = Some true; attribute_old_value = Some true }), [], codes "{\"ok\":null}\n")
    ∷ (Observe 0 2 (record no_options { attribute_filter = Some (codes "x" ∷ []) }), [], codes "{\"ok\":null}\n")
    ∷ (Observe 1 2 (record no_options { attribute_filter = Some (codes "x" ∷ []) }), codes "{\"ok\":null}\n", [])
    ∷ (SetAttribute 2 (codes "x") (codes "1"), codes "{\"ok\":null}\n", codes "{\"ok\":null}\n")
    ∷ (SetAttribute 2 (codes "x") (codes "1"), codes "{\"ok\":null}\n", codes "{\"ok\":null}\n")
    ∷ (SetAttribute 2 (codes "y") (codes "2"), codes "{\"ok\":null}\n", codes "{\"ok\":null}\n")
    ∷ (
      TakeRecords 0,
      [],
      codes "{\"ok\":[[\"attributes\",2,[],[],null,null,\"x\",null],[\"attributes\",2,[],[],null,null,\"x\",\"1\"],[\"attributes\",2,[],[],null,null,\"y\",null]]}\n",
    )
    ∷ (TakeRecords 1, codes "{\"ok\":[[\"attributes\",2,[],[],null,null,\"x\",null],[\"attributes\",2,[],[],null,null,\"x\",null]]}\n", [])
    ∷ (Observe 1 2 (record no_options { subtree = Some true }), codes "{\"error\":\"TypeError\"}\n", [])
    ∷ []

one_record_each_without_0 : IsLeftWithoutObserver 0 (map (λ e. e.0) one_record_each) (flat_map (λ e. e.1) one_record_each)
unfolding printed
one_record_each_without_0 = (refl, refl)

one_record_each_without_1 : IsLeftWithoutObserver 1 (map (λ e. e.0) one_record_each) (flat_map (λ e. e.2) one_record_each)
unfolding printed
one_record_each_without_1 = (refl, refl)

abbrev transient_registrations : List (Command × List ℕ)
transient_registrations =
    (CreateElement 0 (codes "p"), codes "{\"ok\":1}\n")
    ∷ (CreateText 0 (codes "a"), codes "{\"ok\":2}\n")
    ∷ (AppendChild 1 2, codes "{\"ok\":2}\n")
    ∷ (CreateObserver, codes "{\"ok\":0}\n")
    ∷ (Observe 0 1 (record no_options { character_data = Some true; subtree = Some true }), [])
    ∷ (Remove 2, codes "{\"ok\":null}\n")
    ∷ (SetData 2 (codes "b"), codes "{\"ok\":null}\n")
    ∷ (Notify, codes "{\"ok\":[]}\n")
    ∷ (SetData 2 (codes "c"), codes "{\"ok\":null}\n")
    ∷ (Notify, codes "{\"ok\":[]}\n")
    ∷ (AppendChild 1 2, codes "{\"ok\":2}\n")
    ∷ (Remove 2, codes "{\"ok\":null}\n")
    ∷ (Observe 0 2 (record no_options { character_data_old_value = Some true }), [])
    ∷ (SetData 2 (codes "d"), codes "{\"ok\":null}\n")
    ∷ (TakeRecords 0, [])
    ∷ (Pending, codes "{\"ok\":[]}\n")
    ∷ (Notify, codes "{\"ok\":[]}\n")
    ∷ (SetData 2 (codes "e"), codes "{\"ok\":null}\n")
    ∷ (TakeRecords 0, [])
    ∷ []

transient_registrations_without_0 : IsLeftWithoutObserver 0 (map (λ e. e.0) transient_registrations) (flat_map (λ e. e.1) transient_registrations)
unfolding printed
transient_registrations_without_0 = (refl, refl)

abbrev transients_of_transients : List (Command × List ℕ × List ℕ)
transients_of_transients =
    (CreateElement 0 (codes "a"), codes "{\"ok\":1}\n", codes "{\"ok\":1}\n")
    ∷ (CreateElement 0 (codes "b"), codes "{\"ok\":2}\n", codes "{\"ok\":2}\n")
    ∷ (CreateElement 0 (codes "c"), codes "{\"ok\":3}\n", codes "{\"ok\":3}\n")
    ∷ (CreateElement 0 (codes "d"), codes "{\"ok\":4}\n", codes "{\"ok\":4}\n")
    ∷ (AppendChild 1 2, codes "{\"ok\":2}\n", codes "{\"ok\":2}\n")
    ∷ (AppendChild 2 3, codes "{\"ok\":3}\n", codes "{\"ok\":3}\n")
    ∷ (CreateObserver, codes "{\"ok\":0}\n", codes "{\"ok\":0}\n")
    ∷ (CreateObserver, codes "{\"ok\":1}\n", codes "{\"ok\":1}\n")
    ∷ (Observe 0 1 (record no_options { attributes = Some true; subtree = Some true }), [], codes "{\"ok\":null}\n")
    ∷ (Observe 1 2 (record no_options { attributes = Some true }), codes "{\"ok\":null}\n", [])
    ∷ (Remove 3, codes "{\"ok\":null}\n", codes "{\"ok\":null}\n")
    ∷ (SetAttribute 3 (codes "x") (codes "1"), codes "{\"ok\":null}\n", codes "{\"ok\":null}\n")
    ∷ (TakeRecords 0, [], codes "{\"ok\":[[\"attributes\",3,[],[],null,null,\"x\",null]]}\n")
    ∷ (TakeRecords 1, codes "{\"ok\":[]}\n", [])
    ∷ (AppendChild 3 4, codes "{\"ok\":4}\n", codes "{\"ok\":4}\n")
    ∷ (Remove 4, codes "{\"ok\":null}\n", codes "{\"ok\":null}\n")
    ∷ (SetAttribute 4 (codes "x") (codes "2"), codes "{\"ok\":null}\n", codes "{\"ok\":null}\n")
    ∷ (TakeRecords 0, [], codes "{\"ok\":[[\"attributes\",4,[],[],null,null,\"x\",null]]}\n")
    ∷ (Observe 0 3 (record no_options { child_list = Some true }), [], codes "{\"ok\":null}\n")
    ∷ (SetAttribute 3 (codes "x") (codes "3"), codes "{\"ok\":null}\n", codes "{\"ok\":null}\n")
    ∷ (TakeRecords 0, [], codes "{\"ok\":[[\"attributes\",3,[],[],null,null,\"x\",null]]}\n")
    ∷ (Observe 0 1 (record no_options { child_list = Some true }), [], codes "{\"ok\":null}\n")
    ∷ (SetAttribute 3 (codes "x") (codes "4"), codes "{\"ok\":null}\n", codes "{\"ok\":null}\n")
    ∷ (SetAttribute 4 (codes "x") (codes "4"), codes "{\"ok\":null}\n", codes "{\"ok\":null}\n")
    ∷ (TakeRecords 0, [], codes "{\"ok\":[]}\n")
    ∷ (AppendChild 3 4, codes "{\"ok\":4}\n", codes "{\"ok\":4}\n")
    ∷ (TakeRecords 0, [], codes "{\"ok\":[[\"childList\",3,[4],[],null,null,null,null]]}\n")
    ∷ (Observe 1 1 (record no_options { attributes = Some true; subtree = Some true }), codes "{\"ok\":null}\n", [])
    ∷ (Remove 2, codes "{\"ok\":null}\n", codes "{\"ok\":null}\n")
    ∷ (SetAttribute 2 (codes "x") (codes "5"), codes "{\"ok\":null}\n", codes "{\"ok\":null}\n")
    ∷ (Disconnect 1, codes "{\"ok\":null}\n", [])
    ∷ (TakeRecords 1, codes "{\"ok\":[]}\n", [])
    ∷ (SetAttribute 2 (codes "x") (codes "6"), codes "{\"ok\":null}\n", codes "{\"ok\":null}\n")
    ∷ (TakeRecords 1, codes "{\"ok\":[]}\n", [])
    ∷ (Pending, codes "{\"ok\":[1]}\n", codes "{\"ok\":[0]}\n")
    ∷ (Notify, codes "{\"ok\":[]}\n", codes "{\"ok\":[[0,[[\"childList\",1,[],[2],null,null,null,null]]]]}\n")
    ∷ (Pending, codes "{\"ok\":[]}\n", codes "{\"ok\":[]}\n")
    ∷ []

transients_of_transients_without_0 : IsLeftWithoutObserver 0 (map (λ e. e.0) transients_of_transients) (flat_map (λ e. e.1) transients_of_transients)
unfolding printed
transients_of_transients_without_0 = (refl, refl)

transients_of_transients_without_1 : IsLeftWithoutObserver 1 (map (λ e. e.0) transients_of_transients) (flat_map (λ e. e.2) transients_of_transients)
unfolding printed
transients_of_transients_without_1 = (refl, refl)

abbrev two_told : List (Command × List ℕ × List ℕ × List ℕ)
two_told =
    (CreateElement 0 (codes "a"), codes "{\"ok\":1}\n", codes "{\"ok\":1}\n", codes "{\"ok\":1}\n")
    ∷ (CreateElement 0 (codes "b"), codes "{\"ok\":2}\n", codes "{\"ok\":2}\n", codes "{\"ok\":2}\n")
    ∷ (AppendChild 1 2, codes "{\"ok\":2}\n", codes "{\"ok\":2}\n", codes "{\"ok\":2}\n")
    ∷ (CreateObserver, codes "{\"ok\":0}\n", codes "{\"ok\":0}\n", codes "{\"ok\":0}\n")
    ∷ (CreateObserver, codes "{\"ok\":1}\n", codes "{\"ok\":1}\n", codes "{\"ok\":1}\n")
    ∷ (CreateObserver, codes "{\"ok\":2}\n", codes "{\"ok\":2}\n", codes "{\"ok\":2}\n")
    ∷ (Observe 2 2 (record no_options { attributes = Some true }), codes "{\"ok\":null}\n", codes "{\"ok\":null}\n", [])
    ∷ (Observe 0 1 (record no_options { attributes = Some true; subtree = Some true }), [], codes "{\"ok\":null}\n", codes "{\"ok\":null}\n")
    ∷ (Observe 1 1 (record no_options { child_list = Some true; subtree = Some true }), codes "{\"ok\":null}\n", [], codes "{\"ok\":null}\n")
    ∷ (Remove 2, codes "{\"ok\":null}\n", codes "{\"ok\":null}\n", codes "{\"ok\":null}\n")
    ∷ (SetAttribute 2 (codes "x") (codes "1"), codes "{\"ok\":null}\n", codes "{\"ok\":null}\n", codes "{\"ok\":null}\n")
    ∷ (Pending, codes "{\"ok\":[1,2]}\n", codes "{\"ok\":[2,0]}\n", codes "{\"ok\":[1,0]}\n")
    ∷ (
      TakeRecords 2,
      codes "{\"ok\":[[\"attributes\",2,[],[],null,null,\"x\",null]]}\n",
      codes "{\"ok\":[[\"attributes\",2,[],[],null,null,\"x\",null]]}\n",
      [],
    )
    ∷ (SetAttribute 2 (codes "y") (codes "2"), codes "{\"ok\":null}\n", codes "{\"ok\":null}\n", codes "{\"ok\":null}\n")
    ∷ (
      TakeRecords 2,
      codes "{\"ok\":[[\"attributes\",2,[],[],null,null,\"y\",null]]}\n",
      codes "{\"ok\":[[\"attributes\",2,[],[],null,null,\"y\",null]]}\n",
      [],
    )
    ∷ (Pending, codes "{\"ok\":[1,2]}\n", codes "{\"ok\":[2,0]}\n", codes "{\"ok\":[1,0]}\n")
    ∷ (
      Notify,
      codes "{\"ok\":[[1,[[\"childList\",1,[],[2],null,null,null,null]]]]}\n",
      codes "{\"ok\":[[0,[[\"attributes\",2,[],[],null,null,\"x\",null],[\"attributes\",2,[],[],null,null,\"y\",null]]]]}\n",
      codes "{\"ok\":[[1,[[\"childList\",1,[],[2],null,null,null,null]]],[0,[[\"attributes\",2,[],[],null,null,\"x\",null],[\"attributes\",2,[],[],null,null,\"y\",null]]]]}\n",
    )
    ∷ (Pending, codes "{\"ok\":[]}\n", codes "{\"ok\":[]}\n", codes "{\"ok\":[]}\n")
    ∷ (SetAttribute 2 (codes "z") (codes "3"), codes "{\"ok\":null}\n", codes "{\"ok\":null}\n", codes "{\"ok\":null}\n")
    ∷ (AppendChild 1 2, codes "{\"ok\":2}\n", codes "{\"ok\":2}\n", codes "{\"ok\":2}\n")
    ∷ (
      Notify,
      codes "{\"ok\":[[2,[[\"attributes\",2,[],[],null,null,\"z\",null]]],[1,[[\"childList\",1,[2],[],null,null,null,null]]]]}\n",
      codes "{\"ok\":[[2,[[\"attributes\",2,[],[],null,null,\"z\",null]]]]}\n",
      codes "{\"ok\":[[1,[[\"childList\",1,[2],[],null,null,null,null]]]]}\n",
    )
    ∷ []

two_told_without_0 : IsLeftWithoutObserver 0 (map (λ e. e.0) two_told) (flat_map (λ e. e.1) two_told)
unfolding printed
two_told_without_0 = (refl, refl)

two_told_without_1 : IsLeftWithoutObserver 1 (map (λ e. e.0) two_told) (flat_map (λ e. e.2) two_told)
unfolding printed
two_told_without_1 = (refl, refl)

two_told_without_2 : IsLeftWithoutObserver 2 (map (λ e. e.0) two_told) (flat_map (λ e. e.3) two_told)
unfolding printed
two_told_without_2 = (refl, refl)

abbrev ends_after_normalizing : List (Command × List ℕ × List ℕ)
ends_after_normalizing =
    (CreateElement 0 (codes "p"), codes "{\"ok\":1}\n", codes "{\"ok\":1}\n")
    ∷ (CreateText 0 [], codes "{\"ok\":2}\n", codes "{\"ok\":2}\n")
    ∷ (CreateText 0 (codes "a"), codes "{\"ok\":3}\n", codes "{\"ok\":3}\n")
    ∷ (CreateText 0 [], codes "{\"ok\":4}\n", codes "{\"ok\":4}\n")
    ∷ (CreateText 0 (codes "b"), codes "{\"ok\":5}\n", codes "{\"ok\":5}\n")
    ∷ (CreateComment 0 (codes "x"), codes "{\"ok\":6}\n", codes "{\"ok\":6}\n")
    ∷ (CreateText 0 (codes "c"), codes "{\"ok\":7}\n", codes "{\"ok\":7}\n")
    ∷ (AppendChild 1 2, codes "{\"ok\":2}\n", codes "{\"ok\":2}\n")
    ∷ (AppendChild 1 3, codes "{\"ok\":3}\n", codes "{\"ok\":3}\n")
    ∷ (AppendChild 1 4, codes "{\"ok\":4}\n", codes "{\"ok\":4}\n")
    ∷ (AppendChild 1 5, codes "{\"ok\":5}\n", codes "{\"ok\":5}\n")
    ∷ (AppendChild 1 6, codes "{\"ok\":6}\n", codes "{\"ok\":6}\n")
    ∷ (AppendChild 1 7, codes "{\"ok\":7}\n", codes "{\"ok\":7}\n")
    ∷ (CreateObserver, codes "{\"ok\":0}\n", codes "{\"ok\":0}\n")
    ∷ (Observe 0 1 (record no_options { child_list = Some true; subtree = Some true; character_data_old_value = Some true }), [], codes "{\"ok\":null}\n")
    ∷ (CreateRange 0, codes "{\"ok\":0}\n", [])
    ∷ (CreateRange 0, codes "{\"ok\":1}\n", [])
    ∷ (SetStart 0 4 0, codes "{\"ok\":null}\n", [])
    ∷ (SetEnd 0 1 3, codes "{\"ok\":null}\n", [])
    ∷ (SetStart 1 5 1, codes "{\"ok\":null}\n", [])
    ∷ (SetEnd 1 1 5, codes "{\"ok\":null}\n", [])
    ∷ (Normalize 1, codes "{\"ok\":null}\n", codes "{\"ok\":null}\n")
    ∷ (DescribeRange 0, codes "{\"ok\":[3,1,3,1]}\n", [])
    ∷ (DescribeRange 1, codes "{\"ok\":[3,2,1,2]}\n", [])
    ∷ (Children 1, codes "{\"ok\":[3,6,7]}\n", codes "{\"ok\":[3,6,7]}\n")
    ∷ (
      TakeRecords 0,
      [],
      codes "{\"ok\":[[\"childList\",1,[],[2],null,3,null,null],[\"characterData\",3,[],[],null,null,null,\"a\"],[\"childList\",1,[],[4],3,5,null,null],[\"childList\",1,[],[5],3,6,null,null],[\"characterData\",7,[],[],null,null,null,\"c\"]]}\n",
    )
    ∷ []

ends_after_normalizing_without_0 : IsLeftWithoutObserver 0 (map (λ e. e.0) ends_after_normalizing) (flat_map (λ e. e.1) ends_after_normalizing)
unfolding printed
ends_after_normalizing_without_0 = (refl, refl)

ends_after_normalizing_unwatched : IsLeftWithoutWatchers (map (λ e. e.0) ends_after_normalizing) (flat_map (λ e. e.2) ends_after_normalizing)
unfolding printed
ends_after_normalizing_unwatched = (refl, refl)

abbrev ends_after_replaced_data : List (Command × List ℕ)
ends_after_replaced_data =
    (CreateText 0 (codes "abcdefg"), codes "{\"ok\":1}\n")
    ∷ (CreateRange 0, [])
    ∷ (CreateRange 0, [])
    ∷ (SetStart 0 1 2, [])
    ∷ (SetEnd 0 1 3, [])
    ∷ (SetStart 1 1 5, [])
    ∷ (SetEnd 1 1 6, [])
    ∷ (ReplaceData 1 2 3 (codes "XY"), codes "{\"ok\":null}\n")
    ∷ (GetData 1, codes "{\"ok\":\"abXYfg\"}\n")
    ∷ (DescribeRange 0, [])
    ∷ (DescribeRange 1, [])
    ∷ (ReplaceData 1 4 4294967295 [], codes "{\"ok\":null}\n")
    ∷ (DescribeRange 1, [])
    ∷ (ReplaceData 1 4294967295 4294967295 [], codes "{\"error\":\"IndexSizeError\"}\n")
    ∷ []

ends_after_replaced_data_unwatched : IsLeftWithoutWatchers (map (λ e. e.0) ends_after_replaced_data) (flat_map (λ e. e.1) ends_after_replaced_data)
unfolding printed
ends_after_replaced_data_unwatched = (refl, refl)

abbrev ends_after_split : List (Command × List ℕ)
ends_after_split =
    (CreateElement 0 (codes "p"), codes "{\"ok\":1}\n")
    ∷ (CreateText 0 (codes "abcd"), codes "{\"ok\":2}\n")
    ∷ (CreateText 0 (codes "e"), codes "{\"ok\":3}\n")
    ∷ (AppendChild 1 2, codes "{\"ok\":2}\n")
    ∷ (AppendChild 1 3, codes "{\"ok\":3}\n")
    ∷ (CreateRange 0, [])
    ∷ (CreateRange 0, [])
    ∷ (SetStart 0 2 2, [])
    ∷ (SetEnd 0 2 3, [])
    ∷ (SetStart 1 1 1, [])
    ∷ (SetEnd 1 1 2, [])
    ∷ (SplitText 2 2, codes "{\"ok\":4}\n")
    ∷ (DescribeRange 0, [])
    ∷ (DescribeRange 1, [])
    ∷ []

ends_after_split_unwatched : IsLeftWithoutWatchers (map (λ e. e.0) ends_after_split) (flat_map (λ e. e.1) ends_after_split)
unfolding printed
ends_after_split_unwatched = (refl, refl)

abbrev iterator_falls_back : List (Command × List ℕ)
iterator_falls_back =
    (CreateElement 0 (codes "r"), codes "{\"ok\":1}\n")
    ∷ (CreateElement 0 (codes "a"), codes "{\"ok\":2}\n")
    ∷ (CreateElement 0 (codes "b"), codes "{\"ok\":3}\n")
    ∷ (CreateElement 0 (codes "c"), codes "{\"ok\":4}\n")
    ∷ (AppendChild 1 2, codes "{\"ok\":2}\n")
    ∷ (AppendChild 2 3, codes "{\"ok\":3}\n")
    ∷ (AppendChild 1 4, codes "{\"ok\":4}\n")
    ∷ (CreateIterator 1 (record { show = 4294967295; rules = [] }), [])
    ∷ (NextNode 0, [])
    ∷ (NextNode 0, [])
    ∷ (NextNode 0, [])
    ∷ (NextNode 0, [])
    ∷ (Remove 4, codes "{\"ok\":null}\n")
    ∷ (DescribeIterator 0, [])
    ∷ (NextNode 0, [])
    ∷ (PreviousNode 0, [])
    ∷ (DescribeIterator 0, [])
    ∷ (AppendChild 1 4, codes "{\"ok\":4}\n")
    ∷ (Remove 3, codes "{\"ok\":null}\n")
    ∷ (DescribeIterator 0, [])
    ∷ (PreviousNode 0, [])
    ∷ (NextNode 0, [])
    ∷ (Remove 2, codes "{\"ok\":null}\n")
    ∷ (DescribeIterator 0, [])
    ∷ (NextNode 0, [])
    ∷ (CreateIterator 4 (record { show = 4294967295; rules = [] }), [])
    ∷ (Remove 4, codes "{\"ok\":null}\n")
    ∷ (DescribeIterator 1, [])
    ∷ (AppendChild 1 4, codes "{\"ok\":4}\n")
    ∷ (AppendChild 2 1, codes "{\"ok\":1}\n")
    ∷ (Remove 1, codes "{\"ok\":null}\n")
    ∷ (DescribeIterator 1, [])
    ∷ (DescribeIterator 0, [])
    ∷ []

iterator_falls_back_unwatched : IsLeftWithoutWatchers (map (λ e. e.0) iterator_falls_back) (flat_map (λ e. e.1) iterator_falls_back)
unfolding printed
iterator_falls_back_unwatched = (refl, refl)

abbrev iterator_gives_way : List (Command × List ℕ)
iterator_gives_way =
    (CreateElement 0 (codes "r"), codes "{\"ok\":1}\n")
    ∷ (CreateElement 0 (codes "a"), codes "{\"ok\":2}\n")
    ∷ (CreateElement 0 (codes "b"), codes "{\"ok\":3}\n")
    ∷ (CreateElement 0 (codes "c"), codes "{\"ok\":4}\n")
    ∷ (AppendChild 1 2, codes "{\"ok\":2}\n")
    ∷ (AppendChild 2 3, codes "{\"ok\":3}\n")
    ∷ (AppendChild 1 4, codes "{\"ok\":4}\n")
    ∷ (CreateIterator 1 (record { show = 4294967295; rules = [] }), [])
    ∷ (DescribeIterator 0, [])
    ∷ (NextNode 0, [])
    ∷ (NextNode 0, [])
    ∷ (NextNode 0, [])
    ∷ (PreviousNode 0, [])
    ∷ (Remove 2, codes "{\"ok\":null}\n")
    ∷ (DescribeIterator 0, [])
    ∷ (Remove 4, codes "{\"ok\":null}\n")
    ∷ (DescribeIterator 0, [])
    ∷ (NextNode 0, [])
    ∷ (CreateElement 0 (codes "q"), codes "{\"ok\":5}\n")
    ∷ (CreateElement 0 (codes "z"), codes "{\"ok\":6}\n")
    ∷ (AppendChild 5 1, codes "{\"ok\":1}\n")
    ∷ (AppendChild 6 5, codes "{\"ok\":5}\n")
    ∷ (Remove 5, codes "{\"ok\":null}\n")
    ∷ (DescribeIterator 0, [])
    ∷ []

iterator_gives_way_unwatched : IsLeftWithoutWatchers (map (λ e. e.0) iterator_gives_way) (flat_map (λ e. e.1) iterator_gives_way)
unfolding printed
iterator_gives_way_unwatched = (refl, refl)
