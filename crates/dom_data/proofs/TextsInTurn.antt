-- One Text after another is normalized.
use Rattle.std.proofs.Common.{◌≡◌, ℕ, ◌+◌, ◌<◌, ◌≤◌, ◌==◌, true, false, if◌then◌else◌, List, [], ◌∷◌, drop, length, slice_index_or, is_some, refl, ap, sym, ◌∙◌, subst, arith, length-drop}
use Rattle.std.proofs.lemmas.List.{drop_more}
use Rattle.dom_model.specs.declared.Kind.TheVariants.{Text}
use Rattle.dom_model.specs.Definitions.{hits, among, is_kind, Forest, parent_of, entry_in, inclusive_descendants, Content, is_of_kind, remove, content_in, following_texts, join_following, is_descendant, normalize_text, normalize_each, normalize, text_descendants}
use Rattle.dom_model.specs.Worlds.World as model
use Rattle.dom_model.proofs.Forests.Climbing.{hits-append, hits-first}
use Rattle.dom_edit.specs.{declared.world.World.World, Whole.IsWhole, Whole.Keeps, Whole.Follows, Whole.unwatched}
use Rattle.dom_edit.proofs.FollowsLemmas.{follows-none, follows-then, keeps-unwatched}
use Rattle.dom_data.specs.JoinedTexts.{is_told_by_parent}
use Rattle.dom_data.proofs.{IsWholeLemmas.sound-unwatched, IsWholeLemmas.follows-alike, StillBelow.left-one}

-- Steps that a test picks.

-- a Text without data
pub follows-empty : (old new : World) (t : ℕ) → (length (content_in (entry_in old.tree.forest t)).text == 0) ≡ true → Follows old new (remove false t) → Follows old new (normalize_text t)
follows-empty old new t e f =
    follows-alike old new (remove false t) (normalize_text t)
    (λ w k. sym (ap (λ b. if b then remove false t w else join_following t (following_texts w t) w) (ap (λ g. length (content_in (entry_in g t)).text == 0) k.forest ∙ e))) f

pub follows-full : (old new : World) (t : ℕ) → (length (content_in (entry_in old.tree.forest t)).text == 0) ≡ false → Follows old new (λ w. join_following t (following_texts w t) w) → Follows old new (normalize_text t)
follows-full old new t e f =
    follows-alike old new (λ w. join_following t (following_texts w t) w) (normalize_text t)
    (λ w k. sym (ap (λ b. if b then remove false t w else join_following t (following_texts w t) w) (ap (λ g. length (content_in (entry_in g t)).text == 0) k.forest ∙ e))) f

abbrev pub one_text : ℕ → ℕ → model.World → model.World
one_text top t w = if is_descendant w top t then normalize_text t w else w

pub follows-there : (old new : World) (top t : ℕ) → is_told_by_parent old.tree.forest top t → is_some (parent_of old.tree.forest t) ≡ true → Follows old new (normalize_text t) → Follows old new (one_text top t)
follows-there old new top t told h f =
    let e = told ∙ h in
    follows-alike old new (normalize_text t) (one_text top t)
    (λ w k. sym (ap (λ b. if b then normalize_text t w else w) (ap (λ g. among t (drop 1 (inclusive_descendants g top))) k.forest ∙ e))) f

pub follows-gone : (v : World) (top t : ℕ) → is_told_by_parent v.tree.forest top t → is_some (parent_of v.tree.forest t) ≡ false → Follows v v (one_text top t)
follows-gone v top t told h =
    let e = told ∙ h in
    follows-alike v v (λ w. w) (one_text top t)
    (λ w k. sym (ap (λ b. if b then normalize_text t w else w) (ap (λ g. among t (drop 1 (inclusive_descendants g top))) k.forest ∙ e))) (follows-none v)

-- The rest in turn.

-- the Texts still to come are Texts, and once they are done all are
pub record IsInTurn (initial here : World) (top : ℕ) (texts : List ℕ) (i : ℕ) : Type 0 where
  pub whole : IsWhole here
  pub kinds : (m : ℕ) → 0 < hits m (drop i texts) → is_of_kind Text here.tree.forest m ≡ true
  pub told : (m : ℕ) → 0 < hits m (drop i texts) → is_told_by_parent here.tree.forest top m
  pub rest : (final : World) → Follows here final (normalize_each top (drop i texts)) → Follows initial final (normalize_each top texts)

pub turn-first : (v : World) (top : ℕ) (texts : List ℕ) → IsWhole v → ((m : ℕ) → 0 < hits m texts → is_of_kind Text v.tree.forest m ≡ true) → ((m : ℕ) → 0 < hits m texts → is_told_by_parent v.tree.forest top m) → IsInTurn v v top texts 0
turn-first v top texts h k b = record { whole = h; kinds = k; told = b; rest = λ final f. f }

module _ (initial here : World) (top : ℕ) (texts : List ℕ) (i : ℕ) (t : IsInTurn initial here top texts i) where
  turn-listed : (x : ℕ) → x ≡ slice_index_or texts i x → i < length texts → drop i texts ≡ x ∷ drop (i + 1) texts
  turn-listed x is lt = drop_more texts i x lt ∙ ap (λ y. y ∷ drop (i + 1) texts) (sym is)

  pub turn-text : (x : ℕ) → x ≡ slice_index_or texts i x → i < length texts → is_of_kind Text here.tree.forest x ≡ true
  turn-text x is lt = t.kinds x (subst (λ ns. 0 < hits x ns) (sym (turn-listed x is lt)) (hits-first x (drop (i + 1) texts)))

  pub turn-told : (x : ℕ) → x ≡ slice_index_or texts i x → i < length texts → is_told_by_parent here.tree.forest top x
  turn-told x is lt = t.told x (subst (λ ns. 0 < hits x ns) (sym (turn-listed x is lt)) (hits-first x (drop (i + 1) texts)))

  pub turn-next : (next : World) (x : ℕ) → x ≡ slice_index_or texts i x → i < length texts → Follows here next (one_text top x) → IsWhole next → IsInTurn initial next top texts (i + 1)
  turn-next next x is lt f h =
      let e = turn-listed x is lt in
      let k = left-one top x (unwatched here) (sound-unwatched here t.whole) (turn-text x is lt) in
      record {
        whole = h;
        kinds = λ m l.
            let a = ap (hits m) e in
            let b = hits-append m (x ∷ []) (drop (i + 1) texts) in
            ap (λ g. is_of_kind Text g m) (sym (f.keeps (unwatched here) (keeps-unwatched here)).forest)
            ∙ k.kinds (is_kind Text) m ∙ t.kinds m (omega arith);
        told = λ m l.
            let a = ap (hits m) e in
            let b = hits-append m (x ∷ []) (drop (i + 1) texts) in
            subst (λ g. is_told_by_parent g top m) (f.keeps (unwatched here) (keeps-unwatched here)).forest (k.tells top m (t.told m (omega arith)));
        rest = λ final g.
            t.rest final (subst (λ ns. Follows here final (normalize_each top ns)) (sym e) (follows-then here next final (one_text top x) (normalize_each top (drop (i + 1) texts)) f g));
      }

  no_more : (xs : List ℕ) → length xs ≡ 0 → xs ≡ []
  no_more [] e = refl
  no_more (x ∷ xs) e = absurd (omega arith)

  pub turn-end : length texts ≤ i → Follows initial here (normalize_each top texts)
  turn-end le =
      let e = no_more (drop i texts) (let l = length-drop i texts in omega arith) in
      t.rest here (subst (λ ns. Follows here here (normalize_each top ns)) (sym e) (follows-none here))

-- all Texts below a node
pub follows-all : (old new : World) (top : ℕ) (texts : List ℕ) → texts ≡ text_descendants (unwatched old) top → Follows old new (normalize_each top texts) → Follows old new (normalize top)
follows-all old new top texts e f =
    follows-alike old new (normalize_each top texts) (normalize top)
    (λ w k. ap (λ ts. normalize_each top ts w) (e ∙ sym (texts-same w k)))
    f
  where
    texts-same : (w : model.World) → Keeps old w → text_descendants w top ≡ text_descendants (unwatched old) top
    texts-same w k = ap (λ (g : Forest Content). text_descendants (record w { forest = g }) top) k.forest
