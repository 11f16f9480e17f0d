-- A new Text, a root behind all others.
use Rattle.std.proofs.Common.{◌≡◌, Bool, ℕ, true, false, List, [], ◌∷◌, Some, None, refl, ap, sym, ◌∙◌, subst}
use Rattle.dom_model.specs.declared.{Kind.Kind, Kind.TheVariants.Document, Kind.TheVariants.Text}
use Rattle.dom_model.specs.Definitions.{empty, node, HasNode, entry_in, is_kind, may_be_parent, check_insert, kind_passes, is_of_kind, document_in, node_document, replace_all, made_node, named, with_text, string_replace_all, IsInsertable}
use Rattle.dom_model.specs.Worlds.World as model
use Rattle.dom_model.proofs.Forests.Entries.{occurs-HasNode, HasNode-occurs}
use Rattle.dom_model.proofs.Worlds.Measured.{kind-beside}
use Rattle.dom_model.proofs.Soundness.SoundTextContent.{made-there, made-old, made-insertable}
use Rattle.dom_edit.specs.{declared.world.World.World, Whole.IsWhole, Whole.Follows, Whole.unwatched}
use Rattle.dom_edit.proofs.{FollowsLemmas.follows-then, FollowsLemmas.keeps-unwatched, IsInsertableLemmas.unrefused}
use Rattle.dom_data.proofs.IsWholeLemmas.{sound-unwatched, follows-alike}

-- The world with the new Text.
module _ (old new : World) (h : IsWhole old) (document : ℕ) (text : List ℕ) (f : Follows old new (made_node document (named Text []) (with_text text))) where
  pub made_is : (made_node document (named Text []) (with_text text) (unwatched old)).forest ≡ new.tree.forest
  made_is = (f.keeps (unwatched old) (keeps-unwatched old)).forest

  pub new-there : HasNode new.tree.forest old.tree.made
  new-there = subst (λ g. HasNode g old.tree.made) made_is (HasNode-occurs (made_node document (named Text []) (with_text text) (unwatched old)).forest old.tree.made (made-there document (named Text []) (with_text text) (unwatched old) (sound-unwatched old h)))

  pub old-there : (n : ℕ) → HasNode old.tree.forest n → HasNode new.tree.forest n
  old-there n k = subst (λ g. HasNode g n) made_is (HasNode-occurs (made_node document (named Text []) (with_text text) (unwatched old)).forest n (made-old document (named Text []) (with_text text) (unwatched old) (sound-unwatched old h) n (occurs-HasNode old.tree.forest n k)))

  pub old-kind : (test : Kind → Bool) (n : ℕ) → HasNode old.tree.forest n → kind_passes test new.tree.forest n ≡ kind_passes test old.tree.forest n
  old-kind test n k = ap (λ g. kind_passes test g n) (sym made_is) ∙ kind-beside old.tree.forest (node (record { number = old.tree.made; document = document; label = named Text []; body = with_text text }) empty empty) n (occurs-HasNode old.tree.forest n k) test

  -- no check refuses it under an element or a fragment
  pub new-unrefused : (n : ℕ) → HasNode old.tree.forest n → kind_passes may_be_parent old.tree.forest n ≡ true → is_of_kind Document old.tree.forest n ≡ false → check_insert new.tree.forest n old.tree.made None ≡ None
  new-unrefused n k parent plain =
      unrefused new.tree.forest old.tree.made n None
      (subst (λ g. IsInsertable g old.tree.made n None) made_is (made-insertable document (named Text []) (with_text text) (unwatched old) (sound-unwatched old h) n refl refl parent))
      (old-kind (is_kind Document) n k ∙ plain)

-- the text is not empty
replaced-with : (text : List ℕ) (n d id : ℕ) (w : model.World) → (text ≡ [] → ⊥) → d ≡ node_document w n → id ≡ w.made
    → replace_all (Some id) n (made_node d (named Text []) (with_text text) w) ≡ string_replace_all text n w
replaced-with [] n d id w ne e m = absurd (ne refl)
replaced-with (u ∷ us) n d id w ne e m = λ i. replace_all (Some (m i)) n (made_node (e i) (named Text []) (with_text (u ∷ us)) w)

pub follows-replaced : (old mid new : World) (text : List ℕ) (n d id : ℕ) → (text ≡ [] → ⊥) → d ≡ document_in (entry_in old.tree.forest n) → id ≡ old.tree.made
    → Follows old mid (made_node d (named Text []) (with_text text)) → Follows mid new (replace_all (Some id) n) → Follows old new (string_replace_all text n)
follows-replaced old mid new text n d id ne e m f g =
    follows-alike old new (λ w. replace_all (Some id) n (made_node d (named Text []) (with_text text) w)) (string_replace_all text n)
    (λ w k. replaced-with text n d id w ne (e ∙ ap (λ h. document_in (entry_in h n)) (sym k.forest)) (m ∙ sym k.made))
    (follows-then old mid new (made_node d (named Text []) (with_text text)) (replace_all (Some id) n) f g)

pub follows-emptied : (old new : World) (text : List ℕ) (n : ℕ) → text ≡ [] → Follows old new (replace_all None n) → Follows old new (string_replace_all text n)
follows-emptied old new text n e f = subst (λ units. Follows old new (string_replace_all units n)) (sym e) f
