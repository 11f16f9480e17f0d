-- The edits of setting text content leave what that leaves. DOM Standard, "Interface Node": textContent, string replace all.
use Rattle.std.proofs.Common.{◌≡◌, ℕ, ◌<◌, true, List, [], ◌∷◌, ◌++◌, length, Option, Some, None, refl, ap, ◌∙◌, arith}
use Rattle.dom_model.specs.Definitions.{is_kind, is_character_data, may_be_parent, Entry, Node, occurs, entry_in, Content, World, entry_has, kind_passes, node_document, replace_all, made_node, named, with_text, data_of, by_kind, set_data, string_replace_all, set_text_content_by, set_text_content, making, set_data_edits, replace_all_edits, string_replace_all_edits, set_text_content_edits_by, set_text_content_edits, IsSound, IsInsertable}
use Rattle.dom_model.specs.declared.{Kind.Kind, Kind.TheVariants.Element, Kind.TheVariants.Text, Kind.TheVariants.ProcessingInstruction, Kind.TheVariants.Comment, Kind.TheVariants.Document, Kind.TheVariants.DocumentType, Kind.TheVariants.DocumentFragment}
use Rattle.dom_model.proofs.Forests.{Climbing.hits-ancestors, OneMoreRoot.more-there, OneMoreRoot.new-there, OneMoreRoot.children-new, OneMoreRoot.entry-new}
use Rattle.dom_model.proofs.BoundaryPoints.SplitOrder.{inside-childless}
use Rattle.dom_model.proofs.Worlds.Measured.{kind-beside}
use Rattle.dom_model.proofs.Soundness.SoundMaking.{sound-made_node}
use Rattle.dom_model.proofs.TokenText.{EditsMade.EditsLeave.Leave, EditsMade.EditsLeave.leave-none, EditsMade.EditsLeave.leave-then, EditsMade.EditsOfSteps.leave-making, EditsMade.EditsOfSteps.leave-replace_data, EditsMade.EditsOfTrees.leave-replace_all}

-- a new Text may come in wherever there may be children
module _ (n document : ℕ) (text : List ℕ) (w : World) (s : IsSound w) (hn : 0 < occurs n w.forest) (holds : kind_passes may_be_parent w.forest n ≡ true) where
  abbrev with_more : World
  with_more = made_node document (named Text []) (with_text text) w

  abbrev new_node : Node Content
  new_node = record { number = w.made; document = document; label = named Text []; body = with_text text }

  fresh : occurs w.made w.forest ≡ 0
  fresh = s.forest.small w.made (omega arith)

  sound_more : IsSound with_more
  sound_more = sound-made_node document (named Text []) (with_text text) w s

  far : n ≡ w.made → ⊥
  far e = let z : occurs n w.forest ≡ 0 = ap (λ k. occurs k w.forest) e ∙ fresh in omega arith

  there_more : 0 < occurs n with_more.forest
  there_more = more-there w.forest s.forest.once new_node fresh n hn

  new_text-insertable : IsInsertable with_more.forest w.made n None
  new_text-insertable =
      let new = entry-new w.forest s.forest.once new_node fresh in
      let i = hits-ancestors w.made n with_more.forest sound_more.forest.once in
      let j = inside-childless with_more.forest sound_more.forest.once w.made n (children-new w.forest s.forest.once new_node fresh) there_more far in
      record {
        there = new-there w.forest s.forest.once new_node fresh;
        parent_there = there_more;
        outside = omega arith;
        may_hold = kind-beside w.forest _ n hn may_be_parent ∙ holds;
        no_document = ap (entry_has (is_kind Document)) new;
        doctype_fits = rw new refl;
        before_child = tt;
        before_other = tt;
      }

  leave-new_text : Leave (making document (named Text []) (with_text text) w ++ replace_all_edits (Some w.made) n with_more) w (replace_all (Some w.made) n with_more)
  leave-new_text =
      leave-then (making document (named Text []) (with_text text) w) (replace_all_edits (Some w.made) n with_more) w with_more (replace_all (Some w.made) n with_more)
      (leave-making document (named Text []) (with_text text) w s)
      (leave-replace_all (Some w.made) n with_more sound_more new_text-insertable)

leave-string_replace_all : (text : List ℕ) (n : ℕ) (w : World) → IsSound w → 0 < occurs n w.forest → kind_passes may_be_parent w.forest n ≡ true → Leave (string_replace_all_edits text n w) w (string_replace_all text n w)
leave-string_replace_all [] n w s h k = leave-replace_all None n w s tt
leave-string_replace_all (u ∷ us) n w s h k = leave-new_text n (node_document w n) (u ∷ us) w s h k

pub leave-text : (n : ℕ) (text : List ℕ) (w : World) → IsSound w → kind_passes is_character_data w.forest n ≡ true → Leave (set_data_edits n text w) w (set_data n text w)
leave-text n text w s d = leave-replace_data n 0 (length (data_of w n)) text w s d (omega arith)

leave-text_by : (k : Kind) (n : ℕ) (text : List ℕ) (w : World) → IsSound w → 0 < occurs n w.forest → kind_passes may_be_parent w.forest n ≡ may_be_parent k → kind_passes is_character_data w.forest n ≡ is_character_data k → Leave (set_text_content_edits_by k n text w) w (set_text_content_by k n text w)
leave-text_by Element n text w s h k d = leave-string_replace_all text n w s h k
leave-text_by Text n text w s h k d = leave-text n text w s d
leave-text_by ProcessingInstruction n text w s h k d = leave-text n text w s d
leave-text_by Comment n text w s h k d = leave-text n text w s d
leave-text_by Document n text w s h k d = leave-none w w refl
leave-text_by DocumentType n text w s h k d = leave-none w w refl
leave-text_by DocumentFragment n text w s h k d = leave-string_replace_all text n w s h k

pub leave-set_text_content : (n : ℕ) (text : List ℕ) (w : World) → IsSound w → 0 < occurs n w.forest → Leave (set_text_content_edits n text w) w (set_text_content n text w)
leave-set_text_content n text w s h = go (entry_in w.forest n) refl
  where
    go : (o : Option (Entry (Node Content))) → entry_in w.forest n ≡ o → Leave (by_kind [] (λ k. set_text_content_edits_by k n text w) o) w (by_kind w (λ k. set_text_content_by k n text w) o)
    go None e = leave-none w w refl
    go (Some a) e = leave-text_by a.value.label.kind n text w s h (ap (entry_has may_be_parent) e) (ap (entry_has is_character_data) e)
