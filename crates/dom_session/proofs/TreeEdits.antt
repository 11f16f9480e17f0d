-- The answers of the commands that change where nodes stand, where the objects are there.
use Rattle.std.proofs.Common.{◌≡◌, ℕ, Bool, true, false, not, [], ◌∷◌, Option, Some, None, refl, sym, ap, is_some, is_none, IfSome}
use Rattle.dom_model.specs.declared.{Kind.Kind, Kind.TheVariants.Document, DomError.DomError, DomError.TheVariants.NotFoundError, DomError.TheVariants.NotSupportedError, DomError.TheVariants.TypeError, OwnError.TheVariants.NoSuchObject, OwnError.TheVariants.InUse}
use Rattle.dom_model.specs.Definitions.{is_number, first_refusal, Label, is_kind, may_be_parent, Entry, Node, Forest, entry_in, parent_of, Content, InsertBefore, AppendChild, AdoptNode, ReplaceChild, RemoveChild, Remove, ReplaceChildren, Discard, Bounds, Step, guarded, refused, answer, does, checked, is_child_node, gives, is_in_use, discarded, check_insert, check_replace, entry_has, kind_passes, is_of_kind, remove, pre_insert, append, replace, replace_all, adopt}
use Rattle.dom_model.specs.Worlds.World as model
use Rattle.dom_model.specs.Commands.Reply as model_reply
use Rattle.dom_edit.specs.{declared.world.World.World, Whole.Shows, Refusals.check_remove_child, Refusals.check_only_child, Refusals.check_adopt}
use Rattle.dom_session.specs.Refusals.{lacks_given}

pub not-none : {A : Type 0} (o : Option A) → is_some o ≡ true → is_none o ≡ false
not-none None h = absurd (cc h)
not-none (Some a) h = refl

-- what the label of a node says of its kind
pub kind_passes-label : (test : Kind → Bool) (f : Forest Content) (n : ℕ) (l : Label) → is_some (entry_in f n) ≡ true → IfSome (entry_in f n) (λ e. l ≡ e.value.label) → kind_passes test f n ≡ test l.kind
kind_passes-label test f n l h k = at (entry_in f n) h k
  where
    at : (o : Option (Entry (Node Content))) → is_some o ≡ true → IfSome o (λ e. l ≡ e.value.label) → entry_has test o ≡ test l.kind
    at None h k = absurd (cc h)
    at (Some e) h k = ap (λ (m : Label). test m.kind) (sym k)

-- one test at the end, which gives the standard's name or lets the step be taken
pub record Throws (t : Bool) (x e : DomError) : Type 0 where
  pub holds : t ≡ true
  pub name : x ≡ e

pub throws-some : (t : Bool) (x e : DomError) → first_refusal ((t, x) ∷ []) ≡ Some e → Throws t x e
throws-some true x e h = record { holds = refl; name = cc h }
throws-some false x e h = absurd (cc h)

pub throws-none : (t : Bool) (x : DomError) → first_refusal ((t, x) ∷ []) ≡ None → t ≡ false
throws-none true x h = absurd (cc h)
throws-none false x h = refl

module _ (v : World) (b : Bounds) where
  pub answer-insert_before : (p n : ℕ) (c : Option ℕ) (w : model.World) (o : Option DomError) → Shows v w → is_some (entry_in v.tree.forest p) ≡ true → is_some (entry_in v.tree.forest n) ≡ true → lacks_given v c ≡ false → check_insert v.tree.forest p n c ≡ o → answer b w (InsertBefore p n c) ≡ checked o w (gives n (pre_insert n p c w))
  answer-insert_before p n None w o shown hp hn hc is =
      rw (shown.keeps.forest, not-none (entry_in v.tree.forest p) hp, not-none (entry_in v.tree.forest n) hn, is) refl
  answer-insert_before p n (Some c) w o shown hp hn hc is =
      rw (shown.keeps.forest, not-none (entry_in v.tree.forest p) hp, not-none (entry_in v.tree.forest n) hn, hc, is) refl

  pub answer-append_child : (p n : ℕ) (w : model.World) (o : Option DomError) → Shows v w → is_some (entry_in v.tree.forest p) ≡ true → is_some (entry_in v.tree.forest n) ≡ true → check_insert v.tree.forest p n None ≡ o → answer b w (AppendChild p n) ≡ checked o w (gives n (append n p w))
  answer-append_child p n w o shown hp hn is =
      rw (shown.keeps.forest, not-none (entry_in v.tree.forest p) hp, not-none (entry_in v.tree.forest n) hn, is) refl

  pub answer-replace_child : (p n c : ℕ) (w : model.World) (o : Option DomError) → Shows v w → is_some (entry_in v.tree.forest p) ≡ true → is_some (entry_in v.tree.forest n) ≡ true → is_some (entry_in v.tree.forest c) ≡ true → check_replace v.tree.forest p n c ≡ o → answer b w (ReplaceChild p n c) ≡ checked o w (gives c (replace c n p w))
  answer-replace_child p n c w o shown hp hn hc is =
      rw (shown.keeps.forest, not-none (entry_in v.tree.forest p) hp, not-none (entry_in v.tree.forest n) hn, not-none (entry_in v.tree.forest c) hc, is) refl

  module _ (p c : ℕ) (w : model.World) (shown : Shows v w) (hp : is_some (entry_in v.tree.forest p) ≡ true) (hc : is_some (entry_in v.tree.forest c) ≡ true) where
    pub answer-remove_child : check_remove_child v.tree.forest p c ≡ None → answer b w (RemoveChild p c) ≡ record { reply = model_reply.Done (model_reply.Number c); world = remove false c w }
    answer-remove_child allowed =
        let t = throws-none (not (is_number (parent_of v.tree.forest c) p)) NotFoundError allowed in
        rw (shown.keeps.forest, not-none (entry_in v.tree.forest p) hp, not-none (entry_in v.tree.forest c) hc, t) refl

    pub refused-remove_child : (e : DomError) → check_remove_child v.tree.forest p c ≡ Some e → answer b w (RemoveChild p c) ≡ refused (model_reply.Dom e) w
    refused-remove_child e check =
        let t = throws-some (not (is_number (parent_of v.tree.forest c) p)) NotFoundError e check in
        rw (shown.keeps.forest, not-none (entry_in v.tree.forest p) hp, not-none (entry_in v.tree.forest c) hc, t.holds, ← t.name) refl

  pub answer-remove : (n : ℕ) (w : model.World) → Shows v w → is_some (entry_in v.tree.forest n) ≡ true → kind_passes is_child_node v.tree.forest n ≡ true → answer b w (Remove n) ≡ record { reply = model_reply.Done model_reply.Nothing; world = remove false n w }
  answer-remove n w shown hn kind = rw (shown.keeps.forest, not-none (entry_in v.tree.forest n) hn, kind) refl

  module _ (p : ℕ) (w : model.World) (shown : Shows v w) (hp : is_some (entry_in v.tree.forest p) ≡ true) (kind : kind_passes may_be_parent v.tree.forest p ≡ true) where
    pub answer-replace_children : (n : Option ℕ) → lacks_given v n ≡ false → check_only_child v.tree.forest p n ≡ None → answer b w (ReplaceChildren p n) ≡ record { reply = model_reply.Done model_reply.Nothing; world = replace_all n p w }
    answer-replace_children None hn allowed = rw (shown.keeps.forest, not-none (entry_in v.tree.forest p) hp, kind) refl
    answer-replace_children (Some n) hn allowed =
        let a : check_insert v.tree.forest p n None ≡ None = allowed in
        rw (shown.keeps.forest, not-none (entry_in v.tree.forest p) hp, hn, a, kind) refl

    pub refused-replace_children : (n : Option ℕ) (e : DomError) → lacks_given v n ≡ false → check_only_child v.tree.forest p n ≡ Some e → answer b w (ReplaceChildren p n) ≡ refused (model_reply.Dom e) w
    refused-replace_children None e hn check = absurd (cc check)
    refused-replace_children (Some n) e hn check =
        let a : check_insert v.tree.forest p n None ≡ Some e = check in
        rw (shown.keeps.forest, not-none (entry_in v.tree.forest p) hp, hn, a, kind) refl

  -- a parent that may have no children
  pub refused-parent : (p : ℕ) (n : Option ℕ) (w : model.World) → Shows v w → is_some (entry_in v.tree.forest p) ≡ true → kind_passes may_be_parent v.tree.forest p ≡ false → lacks_given v n ≡ false → answer b w (ReplaceChildren p n) ≡ refused (model_reply.Dom TypeError) w
  refused-parent p None w shown hp kind hn = rw (shown.keeps.forest, not-none (entry_in v.tree.forest p) hp, kind) refl
  refused-parent p (Some n) w shown hp kind hn = rw (shown.keeps.forest, not-none (entry_in v.tree.forest p) hp, hn, kind) refl

  module _ (d n : ℕ) (w : model.World) (shown : Shows v w) (hd : is_some (entry_in v.tree.forest d) ≡ true) (hn : is_some (entry_in v.tree.forest n) ≡ true) (kind : kind_passes (is_kind Document) v.tree.forest d ≡ true) where
    pub answer-adopt_node : check_adopt v.tree.forest n ≡ None → answer b w (AdoptNode d n) ≡ record { reply = model_reply.Done (model_reply.Number n); world = adopt n d w }
    answer-adopt_node allowed =
        let t = throws-none (is_of_kind Document v.tree.forest n) NotSupportedError allowed in
        rw (shown.keeps.forest, not-none (entry_in v.tree.forest d) hd, not-none (entry_in v.tree.forest n) hn, kind, t) refl

    pub refused-adopt_node : (e : DomError) → check_adopt v.tree.forest n ≡ Some e → answer b w (AdoptNode d n) ≡ refused (model_reply.Dom e) w
    refused-adopt_node e check =
        let t = throws-some (is_of_kind Document v.tree.forest n) NotSupportedError e check in
        rw (shown.keeps.forest, not-none (entry_in v.tree.forest d) hd, not-none (entry_in v.tree.forest n) hn, kind, t.holds, ← t.name) refl

-- two tests, of which none holds, or only the second
past-two : (a c : Bool) (x y : model_reply.Reply) (w : model.World) (s : Step) → a ≡ false → c ≡ false → guarded ((a, x) ∷ (c, y) ∷ []) w s ≡ s
past-two a c x y w s ha hc = rw (ha, hc) refl

at-second : (a c : Bool) (x y : model_reply.Reply) (w : model.World) (s : Step) → a ≡ false → c ≡ true → guarded ((a, x) ∷ (c, y) ∷ []) w s ≡ refused y w
at-second a c x y w s ha hc = rw (ha, hc) refl

module _ (v : World) (b : Bounds) (n : ℕ) (w : model.World) (shown : Shows v w) (hn : is_some (entry_in v.tree.forest n) ≡ true) where
  held-there : is_none (entry_in w.forest n) ≡ false
  held-there = rw shown.keeps.forest (not-none (entry_in v.tree.forest n) hn)

  pub answer-discard : is_in_use w n ≡ false → answer b w (Discard n) ≡ record { reply = model_reply.Done model_reply.Nothing; world = discarded n w }
  answer-discard unused = past-two (is_none (entry_in w.forest n)) (is_in_use w n) (model_reply.Own NoSuchObject) (model_reply.Own InUse) w (does (discarded n w)) held-there unused

  pub refused-discard : is_in_use w n ≡ true → answer b w (Discard n) ≡ refused (model_reply.Own InUse) w
  refused-discard used = at-second (is_none (entry_in w.forest n)) (is_in_use w n) (model_reply.Own NoSuchObject) (model_reply.Own InUse) w (does (discarded n w)) held-there used
