-- What is left of the token text once contents are deleted or extracted, and what the fragment holds of what lay between the markers.
use Rattle.std.proofs.Common.{◌≡◌, ◌≤◌, ℕ, List, true, false, Option, None, Some, ap, sym, ◌∙◌, subst}
use Rattle.dom_model.specs.Definitions.{Forest, entry_in, Content, Point, Range, IsSound, collapsed_at, range_at, delete_contents, check_extract, extract, clone_contents, content_in, attributes_of, Token, unmarked, texts_of, token_texts, marks_from, gap_among, text_among, root_text, before_mark, after_mark, between, same_shape, fragment_shape, label_of, opened_inside, lies_in, originals, InStep}
use Rattle.dom_model.specs.Worlds.World as model
use Rattle.dom_model.proofs.Soundness.{SoundContents.sound-extract, SoundDeleting.sound-delete_contents}
use Rattle.dom_model.proofs.TokenText.{Contents.EndsTogether.ends-together, Contents.DeletedLeft.deleted-left, Contents.ExtractedLeft.extracted-left, Fragments.FragmentsBetween.extracted-between, Fragments.FragmentsBetween.cloned-between, Fragments.OriginsBetween.cloned-new, Fragments.OriginsBetween.cloned-labels, Fragments.OriginsBetween.cloned-attributes, Fragments.OriginsBetween.extracted-same, Fragments.OriginsBetween.extracted-new, Fragments.OriginsBetween.extracted-labels, Fragments.OriginsBetween.extracted-attributes}
use Rattle.dom_edit.specs.{declared.world.World.World, Whole.IsWhole, Whole.Keeps, Whole.Follows, Whole.unwatched}
use Rattle.dom_edit.proofs.FollowsLemmas.{keeps-unwatched, sound-unwatched}
use Rattle.dom_content.specs.LeftTokens.{IsLeftOf, HoldsBetween, MovesBetween, CopiesBetween}

-- the token texts of a world of the code are those of each world that it keeps
texts-kept : (v : World) (w : model.World) → Keeps v w → texts_of (unwatched v) ≡ texts_of w
texts-kept v w k =
    ap (λ (rs : List (Option Range)). token_texts (marks_from 0 rs) v.tree.forest) (sym k.ranges)
    ∙ ap (λ (f : Forest Content). token_texts (marks_from 0 w.ranges) f) (sym k.forest)

module _ (old new : World) (r : ℕ) (whole : IsWhole old) where
  -- what a step follows is kept of the old world
  kept : (step : model.World → model.World) → Follows old new step → Keeps new (step (unwatched old))
  kept step f = f.keeps (unwatched old) (keeps-unwatched old)

  ahead : (step : model.World → model.World) → Follows old new step → (root : ℕ) → unmarked (before_mark r true (text_among root (texts_of (unwatched new)))) ≡ unmarked (before_mark r true (text_among root (texts_of (step (unwatched old)))))
  ahead step f root = ap (λ (ts : List (List Token)). unmarked (before_mark r true (text_among root ts))) (texts-kept new (step (unwatched old)) (kept step f))

  behind : (step : model.World → model.World) → Follows old new step → (root : ℕ) → unmarked (after_mark r false (text_among root (texts_of (unwatched new)))) ≡ unmarked (after_mark r false (text_among root (texts_of (step (unwatched old)))))
  behind step f root = ap (λ (ts : List (List Token)). unmarked (after_mark r false (text_among root ts))) (texts-kept new (step (unwatched old)) (kept step f))

  middle : (step : model.World → model.World) → Follows old new step → (root : ℕ) → between r (text_among root (texts_of (unwatched new))) ≡ between r (text_among root (texts_of (step (unwatched old))))
  middle step f root = ap (λ (ts : List (List Token)). between r (text_among root ts)) (texts-kept new (step (unwatched old)) (kept step f))

  -- both ends of a world that is kept stand at one place
  one_gap : (step : model.World → model.World) → Follows old new step → IsSound (step (unwatched old)) → (p : Point) → range_at (step (unwatched old)) r ≡ Some (collapsed_at p) → (place : Point) × (gap_among r true (texts_of (unwatched new)) ≡ Some place) × (gap_among r false (texts_of (unwatched new)) ≡ Some place)
  one_gap step f sound p h =
      let t = texts-kept new (step (unwatched old)) (kept step f) in
      let g = ends-together (step (unwatched old)) r p sound h in
      (p, ap (gap_among r true) t ∙ g.0, ap (gap_among r false) t ∙ g.1)

  pub left-deleted : Follows old new (delete_contents r) → IsLeftOf old new r
  left-deleted f = record {
    before = λ root range h rooted. ahead (delete_contents r) f root ∙ (deleted-left (unwatched old) r root range (sound-unwatched old whole) h rooted).before;
    after = λ root range h rooted. behind (delete_contents r) f root ∙ (deleted-left (unwatched old) r root range (sound-unwatched old whole) h rooted).after;
    gone = λ root range h rooted. middle (delete_contents r) f root ∙ (deleted-left (unwatched old) r root range (sound-unwatched old whole) h rooted).gone;
    together = λ root range h rooted.
        let sound = sound-unwatched old whole in
        let left = deleted-left (unwatched old) r root range sound h rooted in
        one_gap (delete_contents r) f (sound-delete_contents r (unwatched old) sound) left.place left.together;
  }

  module _ (allowed : check_extract r (unwatched old) ≡ None) where
    pub left-extracted : Follows old new (extract r) → IsLeftOf old new r
    left-extracted f = record {
      before = λ root range h rooted. ahead (extract r) f root ∙ (extracted-left (unwatched old) r root range (sound-unwatched old whole) h rooted allowed).before;
      after = λ root range h rooted. behind (extract r) f root ∙ (extracted-left (unwatched old) r root range (sound-unwatched old whole) h rooted allowed).after;
      gone = λ root range h rooted. middle (extract r) f root ∙ (extracted-left (unwatched old) r root range (sound-unwatched old whole) h rooted allowed).gone;
      together = λ root range h rooted.
          let sound = sound-unwatched old whole in
          let left = extracted-left (unwatched old) r root range sound h rooted allowed in
          one_gap (extract r) f (sound-extract r (unwatched old) sound allowed) left.place left.together;
    }

    -- what holds in the world that a step makes holds in the one that keeps it

    labels_in : (step : model.World → model.World) → Follows old new step → (root : ℕ) → InStep (λ n m. label_of (step (unwatched old)).forest m ≡ label_of old.tree.forest n) (originals r (text_among root (texts_of (unwatched old)))) (opened_inside (root_text (step (unwatched old)).forest old.tree.made)) → InStep (λ n m. label_of new.tree.forest m ≡ label_of old.tree.forest n) (originals r (text_among root (texts_of (unwatched old)))) (opened_inside (root_text new.tree.forest old.tree.made))
    labels_in step f root h = subst (λ (g : Forest Content). InStep (λ n m. label_of g m ≡ label_of old.tree.forest n) (originals r (text_among root (texts_of (unwatched old)))) (opened_inside (root_text g old.tree.made))) (kept step f).forest h

    attributes_in : (step : model.World → model.World) → Follows old new step → (root : ℕ) → InStep (λ n m. attributes_of (step (unwatched old)) m ≡ attributes_of (unwatched old) n) (originals r (text_among root (texts_of (unwatched old)))) (opened_inside (root_text (step (unwatched old)).forest old.tree.made)) → InStep (λ n m. attributes_of (unwatched new) m ≡ attributes_of (unwatched old) n) (originals r (text_among root (texts_of (unwatched old)))) (opened_inside (root_text new.tree.forest old.tree.made))
    attributes_in step f root h = subst (λ (g : Forest Content). InStep (λ n m. (content_in (entry_in g m)).attributes ≡ attributes_of (unwatched old) n) (originals r (text_among root (texts_of (unwatched old)))) (opened_inside (root_text g old.tree.made))) (kept step f).forest h

    pub held-extracted : Follows old new (extract r) → HoldsBetween old new r old.tree.made
    held-extracted f = record {
      held = λ root range h rooted.
          ap (λ (g : Forest Content). same_shape (root_text g old.tree.made) (fragment_shape (between r (text_among root (texts_of (unwatched old)))))) (sym (kept (extract r) f).forest)
          ∙ extracted-between (unwatched old) r root range (sound-unwatched old whole) h rooted allowed;
      labels = λ root range h rooted. labels_in (extract r) f root (extracted-labels (unwatched old) r root range (sound-unwatched old whole) h rooted allowed);
      attributes = λ root range h rooted. attributes_in (extract r) f root (extracted-attributes (unwatched old) r root range (sound-unwatched old whole) h rooted allowed);
    }

    in_step : (step : model.World → model.World) → Follows old new step → (root : ℕ) (related : ℕ → ℕ → Type 0) → InStep related (originals r (text_among root (texts_of (unwatched old)))) (opened_inside (root_text (step (unwatched old)).forest old.tree.made)) → InStep related (originals r (text_among root (texts_of (unwatched old)))) (opened_inside (root_text new.tree.forest old.tree.made))
    in_step step f root related h = subst (λ (g : Forest Content). InStep related (originals r (text_among root (texts_of (unwatched old)))) (opened_inside (root_text g old.tree.made))) (kept step f).forest h

    pub moved-extracted : Follows old new (extract r) → MovesBetween old new r old.tree.made
    moved-extracted f = record {
      same = λ root range h rooted. in_step (extract r) f root (λ n m. lies_in (between r (text_among root (texts_of (unwatched old)))) n ≡ true → m ≡ n) (extracted-same (unwatched old) r root range (sound-unwatched old whole) h rooted allowed);
      fresh = λ root range h rooted. in_step (extract r) f root (λ n m. lies_in (between r (text_among root (texts_of (unwatched old)))) n ≡ false → old.tree.made ≤ m) (extracted-new (unwatched old) r root range (sound-unwatched old whole) h rooted allowed);
    }

    pub copied-cloned : Follows old new (clone_contents r) → CopiesBetween old new r old.tree.made
    copied-cloned f = record {
      fresh = λ root range h rooted. in_step (clone_contents r) f root (λ n m. old.tree.made ≤ m) (cloned-new (unwatched old) r root range (sound-unwatched old whole) h rooted allowed);
    }

    pub held-cloned : Follows old new (clone_contents r) → HoldsBetween old new r old.tree.made
    held-cloned f = record {
      held = λ root range h rooted.
          ap (λ (g : Forest Content). same_shape (root_text g old.tree.made) (fragment_shape (between r (text_among root (texts_of (unwatched old)))))) (sym (kept (clone_contents r) f).forest)
          ∙ cloned-between (unwatched old) r root range (sound-unwatched old whole) h rooted allowed;
      labels = λ root range h rooted. labels_in (clone_contents r) f root (cloned-labels (unwatched old) r root range (sound-unwatched old whole) h rooted allowed);
      attributes = λ root range h rooted. attributes_in (clone_contents r) f root (cloned-attributes (unwatched old) r root range (sound-unwatched old whole) h rooted allowed);
    }
