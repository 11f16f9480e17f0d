-- The new number that a command answers is the next of its kind.
use Rattle.std.proofs.Common.{◌≡◌, ℕ, ◌+◌, ◌<◌, ◌≤◌, Bool, true, false, if◌then◌else◌, List, [], ◌∷◌, length, Option, Some, None, is_none, refl, ap, sym, ◌∙◌, subst, arith, length-append}
use Rattle.std.proofs.lemmas.Bool.{false≢true, cond_both}
use Rattle.dom_model.specs.Definitions.{is_kind, is_element_name, is_doctype_name, Forest, empty, node, occurs, one_at, size, tree_at, is_of_kind, Content, Range, World, node_document, check_offset, alone_of, original, is_collapsed, range_at, for_range, is_in_one_data, new_fragment, contents_drawn, check_extract, extracted, extract, clone_contents, check_static, new_iterator, new_walker, Command, NewDocument, CreateElement, CreateText, CreateComment, CreatePI, CreateDoctype, CreateFragment, ImportNode, CloneNode, SplitText, CreateRange, CloneRange, ExtractContents, CloneContents, CreateIterator, CreateWalker, CreateObserver, CreateStaticRange, Number, Reply, Done, is_refusal, Bounds, Step, guarded, checked, no_node, wrong_kind, no_room, no_room_for_copies, bad_name, throws, closes_instruction, no_range, on_range, makes_range, observers_made, answer, Numbered, Nodes, Ranges, Iterators, Walkers, Observers, StaticRanges, count_of, made_by, IsNext}
use Rattle.dom_model.specs.declared.{Kind.TheVariants.Text, Kind.TheVariants.Document, DomError.DomError, DomError.TheVariants.NotSupportedError, DomError.TheVariants.InvalidCharacterError}
use Rattle.dom_model.proofs.Forests.Totals.{total-tree_at, occurs-without}
use Rattle.dom_model.proofs.Soundness.SoundGuards.{there_unless}
use Rattle.dom_model.proofs.Counting.{NumbersGone.IsLiveAt, CountsOfData.split-least, CountsOfContents.units_into-grown, CopiesGrow.parts-grow, CountsOfExtraction.parts_moved-grown, StepsCounted.NoneHolds}

-- a number that a step answers is the next of its kind
abbrev pub AnswersNext : Option Numbered → World → Step → Type 0
AnswersNext None w s = Unit {0}
AnswersNext (Some kind) w s = (n : ℕ) → s.reply ≡ Done (Number n) → IsNext kind n w s.world

-- How steps are made up.

abbrev AllRefuse : List (Bool × Reply) → Type 0
AllRefuse [] = Unit {0}
AllRefuse (c ∷ cs) = (is_refusal c.1 ≡ true) × AllRefuse cs

next-guarded : (kind : Numbered) (cs : List (Bool × Reply)) (w : World) (s : Step) → AllRefuse cs → (NoneHolds cs → AnswersNext (Some kind) w s) → AnswersNext (Some kind) w (guarded cs w s)
next-guarded kind [] w s r h = h tt
next-guarded kind (c ∷ cs) w s r h =
    cond_both c.0 _ _ (AnswersNext (Some kind) w)
    (λ _ n d. absurd (false≢true (sym (ap (λ (q : Reply). is_refusal q) d) ∙ r.0)))
    (λ e. next-guarded kind cs w s r.1 (λ k. h (e, k)))

next-checked : (kind : Numbered) (o : Option DomError) (w : World) (s : Step) → AnswersNext (Some kind) w s → AnswersNext (Some kind) w (checked o w s)
next-checked kind None w s h = h
next-checked kind (Some e) w s h = λ n d. absurd (cc d)

next-on_range : (kind : Numbered) (o : Option Range) (w : World) (step : Range → Step) → ((range : Range) → AnswersNext (Some kind) w (step range)) → AnswersNext (Some kind) w (on_range o w step)
next-on_range kind None w step h = λ n d. absurd (cc d)
next-on_range kind (Some range) w step h = h range

next-step : (kind : Numbered) (m : ℕ) (w v : World) → m ≡ count_of kind w → m < count_of kind v → AnswersNext (Some kind) w (record { reply = Done (Number m); world = v })
next-step kind m w v e l n d = let k : m ≡ n = cc d in record { next = sym k ∙ e; given_out = subst (λ x. x < count_of kind v) k l }

-- Copies.

filled : (n : ℕ) (f : Forest Content) → 0 < occurs n f → (0 < size f) × (0 < size (alone_of f))
filled n empty h = absurd (omega arith)
filled n (node x kids rest) h = (omega arith, omega arith)

original-filled : (deep : Bool) (n : ℕ) (f : Forest Content) → 0 < occurs n f → 0 < size (original deep n f)
original-filled deep n f h =
    let t = total-tree_at (one_at n) n f in
    let z = occurs-without n f in
    let k = filled n (tree_at n f) (omega arith) in
    elim deep as (λ v. 0 < size (original v n f)) [ true ↦ k.0 | false ↦ k.1 ]

-- Contents.

later-if : (k : ℕ) (v : Bool) (u w : World) → k ≤ u.made → k ≤ w.made → k ≤ (if v then u else w).made
later-if k v u w l m = cond_both v u w (λ x. k ≤ x.made) (λ _. l) (λ _. m)

drawn-later : (moves : Bool) (r : Range) (w : World) → w.made + 1 ≤ (contents_drawn moves r w).made
drawn-later true r w =
    let made = new_fragment (node_document w r.start.node) w in
    later-if (w.made + 1) (is_collapsed r) made _ (omega arith)
    (later-if (w.made + 1) (is_in_one_data w r) _ _ (units_into-grown true w.made r.start.node r.start.offset _ made).least (parts_moved-grown w.made r made).least)
drawn-later false r w =
    let made = new_fragment (node_document w r.start.node) w in
    later-if (w.made + 1) (is_collapsed r) made _ (omega arith)
    (later-if (w.made + 1) (is_in_one_data w r) _ _ (units_into-grown false w.made r.start.node r.start.offset _ made).least (parts-grow w.made r made).1.least)

range-later : (w : World) (o : Option Range) (step : Range → World) → is_none o ≡ false → ((range : Range) → w.made + 1 ≤ (step range).made) → w.made + 1 ≤ (for_range o w step).made
range-later w None step live h = absurd (false≢true (sym live))
range-later w (Some range) step live h = h range

extract-later : (r : ℕ) (w : World) → IsLiveAt w.ranges r → w.made + 1 ≤ (extract r w).made
extract-later r w live = range-later w (range_at w r) (λ range. extracted r range w) live (λ range. later-if (w.made + 1) _ _ _ (drawn-later true range w) (drawn-later true range w))

clone_contents-later : (r : ℕ) (w : World) → IsLiveAt w.ranges r → w.made + 1 ≤ (clone_contents r w).made
clone_contents-later r w live = range-later w (range_at w r) (λ range. contents_drawn false range w) live (λ range. drawn-later false range w)

-- The commands.

module _ (b : Bounds) (w : World) where
  a_node : (v : World) → w.made + 1 ≤ v.made → AnswersNext (Some Nodes) w (record { reply = Done (Number w.made); world = v })
  a_node v l = next-step Nodes w.made w v refl (omega (arith, l))

  a_range : (range : Range) → AnswersNext (Some Ranges) w (makes_range range w)
  a_range range = let l = length-append w.ranges (Some range ∷ []) in next-step Ranges (length w.ranges) w _ refl (omega arith)

pub answer-next : (b : Bounds) (w : World) (c : Command) → AnswersNext (made_by c) w (answer b w c)
answer-next b w NewDocument = next-guarded Nodes (no_room b w.made 1 ∷ []) w _ (refl, tt) (λ h. a_node b w _ (omega arith))
answer-next b w (CreateElement d name) = next-guarded Nodes (no_node d w ∷ wrong_kind (is_kind Document) d w ∷ no_room b w.made 1 ∷ bad_name (is_element_name name) ∷ []) w _ (refl, (refl, (refl, (refl, tt)))) (λ h. a_node b w _ (omega arith))
answer-next b w (CreateText d text) = next-guarded Nodes (no_node d w ∷ wrong_kind (is_kind Document) d w ∷ no_room b w.made 1 ∷ []) w _ (refl, (refl, (refl, tt))) (λ h. a_node b w _ (omega arith))
answer-next b w (CreateComment d text) = next-guarded Nodes (no_node d w ∷ wrong_kind (is_kind Document) d w ∷ no_room b w.made 1 ∷ []) w _ (refl, (refl, (refl, tt))) (λ h. a_node b w _ (omega arith))
answer-next b w (CreatePI d target text) = next-guarded Nodes (no_node d w ∷ wrong_kind (is_kind Document) d w ∷ no_room b w.made 1 ∷ bad_name (is_element_name target) ∷ throws (closes_instruction text) InvalidCharacterError ∷ []) w _ (refl, (refl, (refl, (refl, (refl, tt))))) (λ h. a_node b w _ (omega arith))
answer-next b w (CreateDoctype d name public_id system_id) = next-guarded Nodes (no_node d w ∷ wrong_kind (is_kind Document) d w ∷ no_room b w.made 1 ∷ bad_name (is_doctype_name name) ∷ []) w _ (refl, (refl, (refl, (refl, tt)))) (λ h. a_node b w _ (omega arith))
answer-next b w (CreateFragment d) = next-guarded Nodes (no_node d w ∷ wrong_kind (is_kind Document) d w ∷ no_room b w.made 1 ∷ []) w _ (refl, (refl, (refl, tt))) (λ h. a_node b w _ (omega arith))
answer-next b w (ImportNode d n deep) = next-guarded Nodes (no_node d w ∷ no_node n w ∷ wrong_kind (is_kind Document) d w ∷ no_room_for_copies b w ∷ throws (is_of_kind Document w.forest n) NotSupportedError ∷ []) w _ (refl, (refl, (refl, (refl, (refl, tt))))) (λ h. let s = original-filled deep n w.forest (there_unless w.forest n h.1.0) in a_node b w _ (omega arith))
answer-next b w (CloneNode n deep) = next-guarded Nodes (no_node n w ∷ no_room_for_copies b w ∷ []) w _ (refl, (refl, tt)) (λ h. let s = original-filled deep n w.forest (there_unless w.forest n h.0) in a_node b w _ (omega arith))
answer-next b w (SplitText t offset) = next-guarded Nodes (no_node t w ∷ wrong_kind (is_kind Text) t w ∷ no_room b w.made 1 ∷ []) w _ (refl, (refl, (refl, tt))) (λ h. next-checked Nodes (check_offset w t offset) w _ (a_node b w _ (split-least t offset w)))
answer-next b w (ExtractContents r) = next-guarded Nodes (no_range r w ∷ no_room_for_copies b w ∷ []) w _ (refl, (refl, tt)) (λ h. next-checked Nodes (check_extract r w) w _ (a_node b w _ (extract-later r w h.0)))
answer-next b w (CloneContents r) = next-guarded Nodes (no_range r w ∷ no_room_for_copies b w ∷ []) w _ (refl, (refl, tt)) (λ h. next-checked Nodes (check_extract r w) w _ (a_node b w _ (clone_contents-later r w h.0)))
answer-next b w (CreateRange d) = next-guarded Ranges (no_node d w ∷ wrong_kind (is_kind Document) d w ∷ no_room b (length w.ranges) 1 ∷ []) w _ (refl, (refl, (refl, tt))) (λ h. a_range b w _)
answer-next b w (CloneRange r) = next-guarded Ranges (no_range r w ∷ no_room b (length w.ranges) 1 ∷ []) w _ (refl, (refl, tt)) (λ h. next-on_range Ranges (range_at w r) w _ (λ range. a_range b w range))
answer-next b w (CreateIterator root filter) = next-guarded Iterators (no_node root w ∷ no_room b (length w.iterators) 1 ∷ []) w _ (refl, (refl, tt)) (λ h. next-step Iterators (length w.iterators) w _ refl (omega (arith, length-append w.iterators (Some (new_iterator root filter) ∷ []))))
answer-next b w (CreateWalker root filter) = next-guarded Walkers (no_node root w ∷ no_room b (length w.walkers) 1 ∷ []) w _ (refl, (refl, tt)) (λ h. next-step Walkers (length w.walkers) w _ refl (omega (arith, length-append w.walkers (Some (new_walker root filter) ∷ []))))
answer-next b w CreateObserver = next-guarded Observers (no_room b (observers_made w) 1 ∷ []) w _ (refl, tt) (λ h. next-step Observers (observers_made w) w _ refl (omega (arith, length-append w.observing.places (Some (length w.observing.mutations) ∷ []))))
answer-next b w (CreateStaticRange start end) = next-guarded StaticRanges (no_node start.node w ∷ no_node end.node w ∷ no_room b (length w.static_ranges) 1 ∷ []) w _ (refl, (refl, (refl, tt))) (λ h. next-checked StaticRanges (check_static w.forest start.node end.node) w _ (next-step StaticRanges (length w.static_ranges) w _ refl (omega (arith, length-append w.static_ranges (Some (record { start = start; end = end }) ∷ [])))))
answer-next b w c = tt
