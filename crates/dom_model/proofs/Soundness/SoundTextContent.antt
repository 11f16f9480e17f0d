-- Setting text content leaves a sound world. DOM Standard, "Interface Node": textContent; string replace all.
use Rattle.std.proofs.Common.{◌≡◌, ℕ, ◌<◌, Bool, true, false, not, ◌&&◌, List, [], ◌∷◌, Some, None, refl, ap, sym, ◌∙◌, subst, arith}
use Rattle.std.proofs.lemmas.Bool.{eq-eqb}
use Rattle.dom_model.specs.Definitions.{hits, or_else, Entry, Label, is_kind, is_character_data, may_be_parent, Node, Forest, empty, node, occurs, one_at, entry_in, ancestors, Content, World, entry_has, kind_passes, is_of_kind, made_node, named, with_text, node_document, by_kind, string_replace_all, set_text_content_by, set_text_content, IsSound, IsInsertable}
use Rattle.dom_model.specs.declared.{Kind.Kind, Kind.TheVariants.Element, Kind.TheVariants.Text, Kind.TheVariants.ProcessingInstruction, Kind.TheVariants.Comment, Kind.TheVariants.Document, Kind.TheVariants.DocumentType, Kind.TheVariants.DocumentFragment}
use Rattle.dom_model.proofs.Forests.{Changes.seen, Changes.nothing, Changes.just, Totals.total-beside, Entries.entry_under-absent, Entries.occurs-HasNode}
use Rattle.dom_model.proofs.Worlds.{Measured.entry-joined, Measured.entry-beside, Measured.kind-beside, Parts.path-there, Parts.ancestors-part}
use Rattle.dom_model.proofs.Soundness.{SoundMaking.sound-made_node, SoundEditing.sound-replace_all, SoundEditing.holder_there, SoundData.sound-set_data}

-- A new node, a root that no node is in.
module _ (document : ℕ) (label : Label) (body : Content) (w : World) (s : IsSound w) where
  abbrev made : World
  made = made_node document label body w

  abbrev new : Node Content
  new = record { number = w.made; document = document; label = label; body = body }

  sm : IsSound made
  sm = sound-made_node document label body w s

  absent : occurs w.made w.forest ≡ 0
  absent = s.forest.small w.made (omega arith)

  pub entry-made : entry_in made.forest w.made ≡ Some (record { value = new; parent = None; children = [] })
  entry-made =
      entry-joined None w.made w.forest (node new empty empty)
      ∙ ap (λ o. or_else o (entry_in (node new empty empty) w.made)) (entry_under-absent None w.made w.forest absent)
      ∙ (rw (eq-eqb w.made w.made refl) refl)

  pub made-there : 0 < occurs w.made made.forest
  made-there = occurs-HasNode made.forest w.made (rw entry-made refl)

  pub made-old : (m : ℕ) → 0 < occurs m w.forest → 0 < occurs m made.forest
  made-old m h = let t = total-beside (one_at m) w.forest (node new empty empty) in omega arith

  pub made-outside : (m : ℕ) → 0 < occurs m w.forest → hits w.made (ancestors m made.forest) ≡ 0
  made-outside m h =
      let e = ap (hits w.made) (ancestors-part w.forest made.forest s.forest.once sm.forest.once (λ k i. entry-beside w.forest (node new empty empty) k i) m h) in
      grind (arith, path-there w.forest s.forest.once m w.made, absent)

  pub made-insertable : (n : ℕ) → is_kind Document label.kind ≡ false → is_kind DocumentType label.kind ≡ false → kind_passes may_be_parent w.forest n ≡ true → IsInsertable made.forest w.made n None
  made-insertable n d t k =
      let h = holder_there w.forest n k in
      let e : is_of_kind DocumentType made.forest w.made ≡ false = ap (entry_has (is_kind DocumentType)) entry-made ∙ t in
      record {
        there = made-there;
        parent_there = made-old n h;
        outside = made-outside n h;
        may_hold = kind-beside w.forest (node new empty empty) n h may_be_parent ∙ k;
        no_document = ap (entry_has (is_kind Document)) entry-made ∙ d;
        doctype_fits = ap (λ v. v && not (is_of_kind Document made.forest n)) e;
        before_child = tt;
        before_other = tt;
      }

pub sound-string_replace_all : (text : List ℕ) (n : ℕ) (w : World) → IsSound w → kind_passes may_be_parent w.forest n ≡ true → IsSound (string_replace_all text n w)
sound-string_replace_all [] n w s k = sound-replace_all None n w s tt
sound-string_replace_all (u ∷ us) n w s k =
    let label = named Text [] in
    let body = with_text (u ∷ us) in
    sound-replace_all (Some w.made) n (made_node (node_document w n) label body w) (sound-made_node (node_document w n) label body w s)
    (made-insertable (node_document w n) label body w s n refl refl k)

-- a node of the kind that is found passes what the kind does
kind_found : (f : Forest Content) (n : ℕ) (e : Entry (Node Content)) → entry_in f n ≡ Some e → (test : Kind → Bool) → test e.value.label.kind ≡ true → kind_passes test f n ≡ true
kind_found f n e h test k = ap (entry_has test) h ∙ k

pub sound-set_text_content : (n : ℕ) (text : List ℕ) (w : World) → IsSound w → IsSound (set_text_content n text w)
sound-set_text_content n text w s =
    elim (seen (entry_in w.forest n)) [
      | nothing e ↦ subst (λ o. IsSound (by_kind w (λ k. set_text_content_by k n text w) o)) (sym e) s
      | just a e ↦ subst (λ o. IsSound (by_kind w (λ k. set_text_content_by k n text w) o)) (sym e) (by a.value.label.kind (kind_found w.forest n a e))
    ]
  where
    by : (k : Kind) → ((test : Kind → Bool) → test k ≡ true → kind_passes test w.forest n ≡ true) → IsSound (set_text_content_by k n text w)
    by Element h = sound-string_replace_all text n w s (h may_be_parent refl)
    by Text h = sound-set_data n text w s (h is_character_data refl)
    by ProcessingInstruction h = sound-set_data n text w s (h is_character_data refl)
    by Comment h = sound-set_data n text w s (h is_character_data refl)
    by Document h = s
    by DocumentType h = s
    by DocumentFragment h = sound-string_replace_all text n w s (h may_be_parent refl)
