-- Over any list of commands each end of each live range stands where its marker stands, in the token texts that the commands' edits leave.
use Rattle.std.proofs.Common.{◌≡◌, ℕ, Bool, List, [], ◌∷◌, Option, option_map, refl, ap, sym, ◌∙◌}
use Rattle.dom_model.specs.Definitions.{Range, World, first_world, Command, Bounds, answer, end_of, range_at, Token, texts_of, unmarked, tokens_among, gap_among, all_on_texts, all_on_world, edits_of, texts_after, world_past, ranges_along, marks_along, IsSound}
use Rattle.dom_model.proofs.TokenText.{AlikeTrees.TreesAlike.bared, Marked.MarkedTexts.Marked, Pieces.NodeTokens.tokens-same, Marked.MarkedFirst.marked-first, Marked.MarkedFirst.marked-kept, Marked.MarkedFirst.kinds-childless, Marked.MarkedEdits.marked-edits, Marked.MarkedEdits.end-found, Marked.MarkedEdits.ranges-found, EditsMade.FittingEdits.laid, EditsMade.FittingEdits.ready-sound, EditsMade.EditsLeave.edits-laid, EditsMade.EditsOfEachCommand.edits-leave_each, EditsMade.EditsOfEachCommand.edits-fit_each}
use Rattle.dom_model.proofs.Soundness.SoundAnswers.{sound-answer, sound-after, sound-reached}

-- a sound world's own token texts
pub marked-own : (w : World) → IsSound w → Marked (texts_of w) w
marked-own w s = marked-first w (kinds-childless _ w.forest s.forest.kinds)

-- the edits of a command
pub marked-command : (b : Bounds) (w : World) (c : Command) (texts : List (List Token)) → IsSound w → Marked texts w → Marked (all_on_texts (edits_of b w c) texts) (answer b w c).world
marked-command b w c texts s m =
    let es = edits_of b w c in
    let v = (answer b w c).world in
    let u = all_on_world es (laid w) in
    let left = edits-leave_each b w s c in
    let edited : Marked (all_on_texts es texts) u = marked-edits es texts (laid w) (marked-kept texts w (laid w) refl refl m) (edits-fit_each b w s c) in
    marked-kept (all_on_texts es texts) u v
    (sym left.forest ∙ sym (ap (λ (x : World). bared x.forest) (edits-laid es w)))
    (sym left.ranges ∙ sym (ap (λ (x : World). x.ranges) (edits-laid es w))) edited

-- of each of a list of commands, one after another
pub marked-commands : (b : Bounds) (w : World) (texts : List (List Token)) (cs : List Command) → IsSound w → Marked texts w → Marked (texts_after b w texts cs) (world_past b w cs)
marked-commands b w texts [] s m = m
marked-commands b w texts (c ∷ cs) s m = marked-commands b (answer b w c).world (all_on_texts (edits_of b w c) texts) cs (sound-answer b w c s) (marked-command b w c texts s m)

-- each end stands in the gap of its marker; where there is no such live range there is no marker
pub ends-stay : (b : Bounds) (w : World) (cs : List Command) → IsSound w → (r : ℕ) (side : Bool) → gap_among r side (texts_after b w (texts_of w) cs) ≡ option_map (end_of side) (range_at (world_past b w cs) r)
ends-stay b w cs s r side =
    let v = world_past b w cs in
    end-found (texts_after b w (texts_of w) cs) v (marked-commands b w (texts_of w) cs s (marked-own w s)) (ready-sound v (sound-after b w cs s)) r side

-- and without the markers each node's own tokens are those of the world
pub tokens-stay : (b : Bounds) (w : World) (cs : List Command) → IsSound w → (n : ℕ) → unmarked (tokens_among n (texts_after b w (texts_of w) cs)) ≡ unmarked (tokens_among n (texts_of (world_past b w cs)))
tokens-stay b w cs s n =
    let v = world_past b w cs in
    let sv = sound-after b w cs s in
    tokens-same (texts_after b w (texts_of w) cs) (texts_of v) v (marked-commands b w (texts_of w) cs s (marked-own w s)) (marked-own v sv) sv.forest.once n

-- so it is after each of the commands
marks-follow : (b : Bounds) (w : World) (texts : List (List Token)) (cs : List Command) → IsSound w → Marked texts w → marks_along b w texts cs ≡ ranges_along b w cs
marks-follow b w texts [] s m = refl
marks-follow b w texts (c ∷ cs) s m =
    let v = (answer b w c).world in
    let edited = all_on_texts (edits_of b w c) texts in
    let sv = sound-answer b w c s in
    let mv = marked-command b w c texts s m in
    ap (λ (rs : List (Option Range)). rs ∷ marks_along b v edited cs) (ranges-found edited v mv (ready-sound v sv))
    ∙ ap (λ (rest : List (List (Option Range))). v.ranges ∷ rest) (marks-follow b v edited cs sv mv)

-- from every world that commands reach
pub ends-stay_reached : (b : Bounds) (before cs : List Command) (r : ℕ) (side : Bool) → let w = world_past b first_world before in gap_among r side (texts_after b w (texts_of w) cs) ≡ option_map (end_of side) (range_at (world_past b w cs) r)
ends-stay_reached b before cs r side = ends-stay b (world_past b first_world before) cs (sound-reached b before) r side

pub tokens-stay_reached : (b : Bounds) (before cs : List Command) (n : ℕ) → let w = world_past b first_world before in unmarked (tokens_among n (texts_after b w (texts_of w) cs)) ≡ unmarked (tokens_among n (texts_of (world_past b w cs)))
tokens-stay_reached b before cs n = tokens-stay b (world_past b first_world before) cs (sound-reached b before) n

pub marks-follow_reached : (b : Bounds) (before cs : List Command) → let w = world_past b first_world before in marks_along b w (texts_of w) cs ≡ ranges_along b w cs
marks-follow_reached b before cs =
    let w = world_past b first_world before in
    let s = sound-reached b before in
    marks-follow b w (texts_of w) cs s (marked-own w s)
