-- What callers cite of a world before and after a call: held nodes stay held, kinds, data and parents stay, and what a new node has.
use Rattle.std.proofs.Common.{◌≡◌, ℕ, Bool, false, List, [], ◌∷◌, None, ap, sym, ◌∙◌, subst}
use Rattle.dom_model.specs.declared.Kind.{Kind}
use Rattle.dom_model.specs.Definitions.{hits, Label, Forest, HasNode, entry_in, parent_of, Content, made_node, entry_has, kind_passes, check_insert, append, nodes_of, remove, content_in}
use Rattle.dom_model.proofs.Forests.Entries.{occurs-HasNode, HasNode-occurs}
use Rattle.dom_model.proofs.MutationAlgorithms.Extending.{Extends, extends-beside, extends-remove, put_by_insert}
use Rattle.dom_model.proofs.Soundness.{SoundEditing.may_come_in, SoundTextContent.entry-made, SoundTextContent.made-there}
use Rattle.dom_edit.specs.{declared.world.World.World, Whole.IsWhole, Whole.Follows, Whole.unwatched, KeptNodes.KeepsWatchers, KeptNodes.KeepsLabels}
use Rattle.dom_edit.proofs.{FollowsLemmas.sound-unwatched, InsertLemmas.forest-after, InsertLemmas.statics-after, InsertLemmas.walkers-after}

-- The forest after a call extends the one before it, but for the parents of the nodes that move.

pub after-made : (a b : World) (d : ℕ) (label : Label) (body : Content) → Follows a b (made_node d label body) → Extends a.tree.forest b.tree.forest []
after-made a b d label body f = subst (λ (g : Forest Content). Extends a.tree.forest g []) (sym (forest-after a b (made_node d label body) f)) (extends-beside a.tree.forest _)

pub after-appended : (a b : World) (n parent : ℕ) → IsWhole a → HasNode a.tree.forest n → check_insert a.tree.forest parent n None ≡ None → Follows a b (append n parent) → Extends a.tree.forest b.tree.forest (nodes_of (unwatched a) n)
after-appended a b n parent h held allowed f =
    let s = sound-unwatched a h in
    subst (λ (g : Forest Content). Extends a.tree.forest g (nodes_of (unwatched a) n)) (sym (forest-after a b (append n parent) f))
    (put_by_insert false n parent None (unwatched a) s (may_come_in (unwatched a) s parent n (occurs-HasNode a.tree.forest n held) allowed)).extends

pub after-removed : (a b : World) (n : ℕ) → IsWhole a → HasNode a.tree.forest n → Follows a b (remove false n) → Extends a.tree.forest b.tree.forest (n ∷ [])
after-removed a b n h held f =
    subst (λ (g : Forest Content). Extends a.tree.forest g (n ∷ [])) (sym (forest-after a b (remove false n) f))
    (extends-remove false n (unwatched a) (sound-unwatched a h) (occurs-HasNode a.tree.forest n held))

-- a new node takes nothing from those that were held
pub labels-made : (a b : World) (d : ℕ) (label : Label) (body : Content) → Follows a b (made_node d label body) → KeepsWatchers a b → KeepsLabels a b
labels-made a b d label body f watchers =
    let e = after-made a b d label body f in
    record {
      held = λ n h. HasNode-occurs b.tree.forest n (e.there n (occurs-HasNode a.tree.forest n h));
      labels = λ n h. ap (λ t. t.0) (e.tags n (occurs-HasNode a.tree.forest n h));
      attributes = λ n h. ap (λ t. t.1) (e.tags n (occurs-HasNode a.tree.forest n h));
      statics = statics-after a b (made_node d label body) f;
      walkers = walkers-after a b (made_node d label body) f;
      watchers = watchers;
    }

-- What is read off there, of a node that was held.

module _ (f g : Forest Content) (moved : List ℕ) (e : Extends f g moved) (n : ℕ) (held : HasNode f n) where
  pub held-stays : HasNode g n
  held-stays = HasNode-occurs g n (e.there n (occurs-HasNode f n held))

  pub kind-stays : (test : Kind → Bool) → kind_passes test g n ≡ kind_passes test f n
  kind-stays test = e.kinds test n (occurs-HasNode f n held)

  pub data-stays : (content_in (entry_in g n)).text ≡ (content_in (entry_in f n)).text
  data-stays = e.texts n (occurs-HasNode f n held)

  pub parent-stays : hits n moved ≡ 0 → parent_of g n ≡ parent_of f n
  parent-stays z = e.parents n (occurs-HasNode f n held) z

-- A new node: it is held, of the kind of its label, and has the data that it was given.

module _ (a b : World) (d : ℕ) (label : Label) (body : Content) (h : IsWhole a) (f : Follows a b (made_node d label body)) where
  pub new-held : HasNode b.tree.forest a.tree.made
  new-held = HasNode-occurs b.tree.forest a.tree.made (rw (forest-after a b (made_node d label body) f) (made-there d label body (unwatched a) (sound-unwatched a h)))

  pub new-kind : (test : Kind → Bool) → kind_passes test b.tree.forest a.tree.made ≡ test label.kind
  new-kind test = ap (λ (g : Forest Content). kind_passes test g a.tree.made) (forest-after a b (made_node d label body) f) ∙ ap (entry_has test) (entry-made d label body (unwatched a) (sound-unwatched a h))

  pub new-data : (content_in (entry_in b.tree.forest a.tree.made)).text ≡ body.text
  new-data = ap (λ (g : Forest Content). (content_in (entry_in g a.tree.made)).text) (forest-after a b (made_node d label body) f) ∙ ap (λ o. (content_in o).text) (entry-made d label body (unwatched a) (sound-unwatched a h))
