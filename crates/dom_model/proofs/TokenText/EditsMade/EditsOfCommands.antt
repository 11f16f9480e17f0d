-- The primitive edits of a command fit every sound world, and leave what the command leaves: the nesting, the data, the live ranges and the
-- next node number. For all commands but those that adopt or set attributes they leave node documents and attributes too: the forest itself.
use Rattle.std.proofs.Common.{◌≡◌, ℕ, ◌==◌, Bool, true, false, List, [], ◌∷◌, Option, refl, ap, sym, ◌∙◌, subst, inl, inr}
use Rattle.std.proofs.lemmas.Bool.{false≢true, cond_both, cases_Bool}
use Rattle.dom_model.specs.Definitions.{Notify, is_kind, is_attribute_name, Attribute, Node, Forest, empty, node, map_nodes, with_node, in_document, adopted, Content, World, Reply, Flag, Done, is_of_kind, remove, adopt, with_attributes, set_attribute, has_attribute, remove_attribute, remove_attribute_if, is_toggled_on, toggled, toggle_attribute, Bounds, Step, refused, guarded, no_node, wrong_kind, bad_name, throws, does, Command, AdoptNode, SetAttribute, RemoveAttribute, ToggleAttribute, gives, answer, Edit, all_on_world, remove_edits, unless_refused, command_edits, edits_of, IsSound, AllFit, point_before, point_after, SetStartBefore, SetStartAfter, SetEndBefore, SetEndAfter, SurroundContents}
use Rattle.dom_model.specs.declared.{Kind.TheVariants.Element, Kind.TheVariants.Document, DomError.TheVariants.NotSupportedError}
use Rattle.dom_model.proofs.PlainLists.Numbers.{same_or, same, apart}
use Rattle.dom_model.proofs.Soundness.{SoundGuards.there_unless, SoundGuards.passes_unless, SoundTreeSteps.offset_within}
use Rattle.dom_model.proofs.RangesAndContents.RangesSet.{boundary_before, boundary_after}
use Rattle.dom_model.proofs.TokenText.{EditsMade.EditsLeave.laid, EditsMade.EditsLeave.Leave, EditsMade.EditsLeave.leave-laid, EditsMade.EditsOfSteps.leave-remove, EditsMade.EditsOfSurrounding.KeepSound, EditsMade.EditsOfAnswers.StepLeaves, EditsMade.EditsOfAnswers.IsRefusal, EditsMade.EditsOfAnswers.AreRefusals, EditsMade.EditsOfAnswers.holds-guarded, EditsMade.EditsOfAnswers.given-refusal, EditsMade.EditsOfAnswers.leaves-done, EditsMade.EditsOfAnswers.leaves-unless, EditsMade.EditsOfAnswers.leaves-checked, EditsMade.EditsOfSurrounding.leave-surround, EditsMade.EditsOfAnswers.leaves-on_range, EditsMade.EditsOfAnswers.leaves-outcome, EditsMade.EditsOfAnswers.no_edits, EditsMade.EditsOfAnswers.leaves-nothing, EditsMade.EditsOfOtherCommands.stays, EditsMade.EditsOfRangeCommands.live-unless, EditsMade.EditsOfRangeCommands.leaves-start_at, EditsMade.EditsOfRangeCommands.leaves-end_at, EditsMade.EditsOfTreeCommands.trees_edited, EditsMade.EditsOfRangeCommands.ranges_edited}

-- a command of which the edits tell all: it neither adopts nor sets attributes by itself
abbrev pub tells_all : Command → Bool
tells_all (AdoptNode d n) = false
tells_all (SetAttribute e name value) = false
tells_all (RemoveAttribute e name) = false
tells_all (ToggleAttribute e name force) = false
tells_all _ = true

abbrev pub surrounds : Command → Bool
surrounds (SurroundContents r n) = true
surrounds _ = false

-- commands that the tests exclude
untold : {es : List Edit} {w : World} {step : Step} → false ≡ true → StepLeaves es w step
untold e = absurd (false≢true e)

other : {es : List Edit} {w : World} {step : Step} → true ≡ false → StepLeaves es w step
other e = absurd (false≢true (sym e))

-- Each test in turn, and each step by its edits.
ruleset answers = (leaves-unless, leaves-checked, leaves-done, leaves-on_range, leaves-outcome, no_edits, given-refusal, there_unless, passes_unless, untold, other)

module _ (b : Bounds) (w : World) (s : IsSound w) where
  step-leaves : (c : Command) → tells_all c ≡ true → surrounds c ≡ false → StepLeaves (command_edits c w) w (answer b w c)
  step-leaves (SetStartBefore r n) e f = leaves-start_at w r n (point_before w.forest n) s (boundary_before s.forest n)
  step-leaves (SetStartAfter r n) e f = leaves-start_at w r n (point_after w.forest n) s (boundary_after s.forest n)
  step-leaves (SetEndBefore r n) e f = leaves-end_at w r n (point_before w.forest n) s (boundary_before s.forest n)
  step-leaves (SetEndAfter r n) e f = leaves-end_at w r n (point_after w.forest n) s (boundary_after s.forest n)
  step-leaves Notify e f = leaves-nothing w (answer b w Notify) (record { same = refl })
  step-leaves c e f = search (answers, stays, trees_edited, ranges_edited, offset_within) depth 12

  -- surrounding, where extracting and inserting a node leave sound worlds
  surround-leaves : KeepSound → (c : Command) → surrounds c ≡ true → StepLeaves (command_edits c w) w (answer b w c)
  surround-leaves keeps (SurroundContents r n) e = search (answers, leave-surround, live-unless) depth 12
  surround-leaves keeps c e = untold e

  -- the forest, the live ranges and the next number
  pub edits-leave_all : (c : Command) → tells_all c ≡ true → surrounds c ≡ false → Leave (edits_of b w c) w (answer b w c).world
  edits-leave_all c e f = let k = step-leaves c e f in k.left

  -- so also of surrounding, where extracting and inserting a node leave sound worlds
  pub edits-leave_surrounding : KeepSound → (c : Command) → surrounds c ≡ true → Leave (edits_of b w c) w (answer b w c).world
  edits-leave_surrounding keeps c e = let k = surround-leaves keeps c e in k.left

-- A node without its node document and its attributes.
abbrev pub plain_node : Node Content → Node Content
plain_node x = record { number = x.number; document = 0; label = x.label; body = record { text = x.body.text; attributes = [] } }

-- the nesting and the data: numbers, kinds, names and units where they stand
abbrev pub plain : Forest Content → Forest Content
plain f = map_nodes plain_node f

-- two worlds with the same nesting, data, live ranges and next number
pub record IsLeftAs (v u : World) : Type 0 where
  pub forest : plain v.forest ≡ plain u.forest
  pub ranges : v.ranges ≡ u.ranges
  pub made : v.made ≡ u.made

left-laid : (v u : World) → laid v ≡ laid u → IsLeftAs v u
left-laid v u e = record { forest = ap (λ (x : World). plain x.forest) e; ranges = ap (λ (x : World). x.ranges) e; made = ap (λ (x : World). x.made) e }

-- Adopting changes node documents alone.

plain-set : (d : ℕ) (f : Forest Content) → plain (map_nodes (in_document d) f) ≡ plain f
plain-set d empty = refl
plain-set d (node x kids rest) = rw (plain-set d kids, plain-set d rest) refl

plain-adopted : (n d : ℕ) (f : Forest Content) → plain (adopted n d f) ≡ plain f
plain-adopted n d empty = refl
plain-adopted n d (node x kids rest) =
    elim (same_or x.number n) [
      | same e t ↦ rw t (rw (plain-set d kids, plain-adopted n d rest) refl)
      | apart ne t ↦ rw t (rw (plain-adopted n d kids, plain-adopted n d rest) refl)
    ]

-- A change of attributes changes them alone.

plain-attributes : (n : ℕ) (attributes : List Attribute) (f : Forest Content) → plain (with_node n (with_attributes attributes) f) ≡ plain f
plain-attributes n attributes empty = refl
plain-attributes n attributes (node x kids rest) =
    rw (plain-attributes n attributes kids, plain-attributes n attributes rest)
    (cond_both (x.number == n) (with_attributes attributes x) x (λ y. node (plain_node y) (plain kids) (plain rest) ≡ node (plain_node x) (plain kids) (plain rest)) (λ _. refl) (λ _. refl))

left-set : (n : ℕ) (name value : List ℕ) (w : World) → IsLeftAs w (set_attribute n name value w)
left-set n name value w = record { forest = sym (plain-attributes n _ w.forest); ranges = refl; made = refl }

left-removed : (n : ℕ) (name : List ℕ) (w : World) → IsLeftAs w (remove_attribute n name w)
left-removed n name w = go (has_attribute w n name)
  where
    go : (v : Bool) → IsLeftAs w (remove_attribute_if v n name w)
    go true = record { forest = sym (plain-attributes n _ w.forest); ranges = refl; made = refl }
    go false = record { forest = refl; ranges = refl; made = refl }

left-toggled : (n : ℕ) (name : List ℕ) (force : Option Bool) (w : World) → IsLeftAs w (toggle_attribute n name force w)
left-toggled n name force w = go (has_attribute w n name) (is_toggled_on force (has_attribute w n name))
  where
    go : (v u : Bool) → IsLeftAs w (toggled v u n name w)
    go false true = left-set n name [] w
    go false false = record { forest = refl; ranges = refl; made = refl }
    go true true = record { forest = refl; ranges = refl; made = refl }
    go true false = left-removed n name w

-- Commands.

-- the edits fit the world, and leave the step's world but for node documents and attributes
pub record StepIsLeft (es : List Edit) (w : World) (step : Step) : Type 0 where
  pub fits : AllFit (laid w) (unless_refused step.reply es)
  pub left : IsLeftAs (all_on_world (unless_refused step.reply es) w) step.world

left-refused : (es : List Edit) (w : World) (r : Reply) → IsRefusal r → StepIsLeft es w (refused r w)
left-refused es w r k = record { fits = subst (λ fs. AllFit (laid w) fs) (sym (k es)) tt; left = left-laid (all_on_world (unless_refused r es) w) w (ap (λ fs. laid (all_on_world fs w)) (k es)) }

left-guarded : (es : List Edit) (cs : List (Bool × Reply)) (w : World) (step : Step) → AreRefusals cs → StepIsLeft es w step → StepIsLeft es w (guarded cs w step)
left-guarded es cs w step r k = holds-guarded (λ x. StepIsLeft es w x) cs w step (left-refused es w) r (λ h. k)

left-adopt : (b : Bounds) (d n : ℕ) (w : World) → IsSound w → StepIsLeft (remove_edits n w) w (answer b w (AdoptNode d n))
left-adopt b d n w s =
    left-guarded (remove_edits n w) (no_node d w ∷ no_node n w ∷ wrong_kind (is_kind Document) d w ∷ throws (is_of_kind Document w.forest n) NotSupportedError ∷ []) w (gives n (adopt n d w)) (no_edits, (no_edits, (no_edits, (no_edits, tt))))
    (record { fits = (let k = leave-remove false n w s in k.fits); left = adopted_left })
  where
    out : World
    out = remove false n w

    removed : IsLeftAs (all_on_world (remove_edits n w) w) out
    removed = left-laid (all_on_world (remove_edits n w) w) out (leave-laid (remove_edits n w) w out (leave-remove false n w s))

    adopted_left : IsLeftAs (all_on_world (remove_edits n w) w) (adopt n d w)
    adopted_left = let k = removed in record { forest = k.forest ∙ sym (plain-adopted n d out.forest); ranges = k.ranges; made = k.made }

left-of_all : (b : Bounds) (w : World) (c : Command) → Leave (edits_of b w c) w (answer b w c).world → StepIsLeft (command_edits c w) w (answer b w c)
left-of_all b w c h = record { fits = h.fits; left = left-laid (all_on_world (edits_of b w c) w) (answer b w c).world (leave-laid (edits_of b w c) w (answer b w c).world h) }

-- of every command but the surrounding of contents
pub edits-leave : (b : Bounds) (w : World) → IsSound w → (c : Command) → surrounds c ≡ false → StepIsLeft (command_edits c w) w (answer b w c)
edits-leave b w s (AdoptNode d n) f = left-adopt b d n w s
edits-leave b w s (SetAttribute e name value) f =
    left-guarded [] (no_node e w ∷ wrong_kind (is_kind Element) e w ∷ bad_name (is_attribute_name name) ∷ []) w (does (set_attribute e name value w)) (no_edits, (no_edits, (no_edits, tt))) (record { fits = tt; left = left-set e name value w })
edits-leave b w s (RemoveAttribute e name) f =
    left-guarded [] (no_node e w ∷ wrong_kind (is_kind Element) e w ∷ []) w (does (remove_attribute e name w)) (no_edits, (no_edits, tt)) (record { fits = tt; left = left-removed e name w })
edits-leave b w s (ToggleAttribute e name force) f =
    let step : Step = record { reply = Done (Flag (is_toggled_on force (has_attribute w e name))); world = toggle_attribute e name force w } in
    left-guarded [] (no_node e w ∷ wrong_kind (is_kind Element) e w ∷ bad_name (is_attribute_name name) ∷ []) w step (no_edits, (no_edits, (no_edits, tt))) (record { fits = tt; left = left-toggled e name force w })
edits-leave b w s c f = left-of_all b w c (edits-leave_all b w s c refl f)

-- and of every command, where extracting and inserting a node leave sound worlds
pub edits-leave_every : KeepSound → (b : Bounds) (w : World) → IsSound w → (c : Command) → StepIsLeft (command_edits c w) w (answer b w c)
edits-leave_every keeps b w s c =
    elim (cases_Bool (surrounds c)) [ inl e ↦ left-of_all b w c (edits-leave_surrounding b w s keeps c e) | inr e ↦ edits-leave b w s c e ]
