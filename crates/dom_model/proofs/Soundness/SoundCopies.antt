-- Units and copies of nodes that go into a fragment leave a sound world. DOM Standard, "Interface Range": extract, clone the contents.
use Rattle.std.proofs.Common.{◌≡◌, ℕ, ◌<◌, ◌≤◌, Bool, true, false, not, ◌&&◌, if◌then◌else◌, List, [], ◌∷◌, ◌++◌, length, Some, None, refl, ap, sym, ◌∙◌, subst, arith}
use Rattle.dom_model.specs.Definitions.{hits, is_kind, is_character_data, may_be_parent, occurs, parent_of, children_of, ancestors, substring, spliced, World, no_content, named, entry_has, kind_passes, is_of_kind, node_document, nodes_of, append, clone_node, data_of, with_data, cut_count, replace_data, new_fragment, clone_with, cut_if, units_into, IsSound, IsInsertable}
use Rattle.dom_model.specs.declared.{Kind.Kind, Kind.TheVariants.Text, Kind.TheVariants.Document, Kind.TheVariants.DocumentType, Kind.TheVariants.DocumentFragment}
use Rattle.dom_model.proofs.Forests.{Paths.parent-path, Paths.root-path, Indices.child-parent, Listed.hits-other}
use Rattle.dom_model.proofs.Worlds.SameShape.{IsAlike, with_node-alike, occurs-alike, parent-alike, kind-alike}
use Rattle.dom_model.proofs.Soundness.{SoundData.sound-replace_data, SoundTextContent.entry-made, SoundInserting.sound-insert, SoundAppending.IsHolder, SoundAppending.IsPlain, SoundAppending.IsDrawn, SoundAppending.holder_stays, SoundAppending.IsAppended, SoundAppending.append-plain, SoundAppending.IsCopy, SoundAppending.clone_copy, SoundAppending.clone_with_copy, SoundAppending.IsFragment, SoundAppending.fragment_made, SoundDrawing.drawn-then, SoundDrawing.drawn-of, SoundDrawing.new_apart, SoundDrawing.new_not_hit, SoundDrawing.IsFilled, SoundDrawing.filled-then, SoundDrawing.filled_by_moves, SoundForests.passes-also, SoundAppending.plain_like}
use Rattle.dom_model.proofs.MutationAlgorithms.Extending.{IsPut, put_by_insert, insert-made}

-- A cut of data moves nothing.

pub filled-replace : (n offset count : ℕ) (added : List ℕ) (w : World) → IsSound w → kind_passes is_character_data w.forest n ≡ true → offset ≤ length (data_of w n) → IsFilled w (replace_data n offset count added w) []
filled-replace n offset count added w s k h =
    record {
      sound = sound-replace_data n offset count added w s k h;
      there = λ m i. subst (λ x. 0 < x) (sym (occurs-alike alike m)) i;
      kinds = λ test m i. kind-alike alike test m;
      parents = λ m i far. parent-alike alike m;
      made = omega arith;
    }
  where
    alike : IsAlike w.forest (replace_data n offset count added w).forest
    alike = with_node-alike (with_data (spliced offset (cut_count (length (data_of w n)) offset count) added (data_of w n))) (λ x. refl) n w.forest

pub data_plain : (k : Kind) → is_character_data k ≡ true → (is_kind Document k ≡ false) × (is_kind DocumentType k ≡ false) × (is_kind DocumentFragment k ≡ false)
data_plain Text h = (refl, refl, refl)
data_plain k h = (cc, cc, cc)

pub plain_data : (w : World) (n : ℕ) → 0 < occurs n w.forest → kind_passes is_character_data w.forest n ≡ true → IsPlain w n
plain_data w n h k =
    record {
      there = h;
      no_document = passes-also is_character_data (is_kind Document) false (λ j i. (data_plain j i).0) w.forest n k;
      no_doctype = passes-also is_character_data (is_kind DocumentType) false (λ j i. (data_plain j i).1) w.forest n k;
      no_fragment = passes-also is_character_data (is_kind DocumentFragment) false (λ j i. (data_plain j i).2) w.forest n k;
    }

-- Some units go into a fragment, by a copy of their node; where they are moved, they are cut.

pub filled_units : (moves : Bool) (into n offset count : ℕ) (w : World) → IsSound w → IsHolder w into → 0 < occurs n w.forest → kind_passes is_character_data w.forest n ≡ true → offset ≤ length (data_of w n) → IsFilled w (units_into moves into n offset count w) []
filled_units moves into n offset count w s h hn k within = go moves
  where
    c : World
    c = clone_with (substring offset count (data_of w n)) n w

    i : IsCopy w c n
    i = clone_with_copy (substring offset count (data_of w n)) n w s hn

    v : World
    v = append w.made into c

    p : IsPlain w n
    p = plain_data w n hn k

    plain : IsPlain c w.made
    plain = plain_like w c n w.made i.there i.kinds p

    a : IsAppended c v w.made into
    a = append-plain c i.drawn.sound w.made into (holder_stays w c [] into i.drawn.extends refl h) plain (λ e. new_apart w s into w.made (omega arith) h.there (sym e))

    drawn : IsDrawn w v []
    drawn = drawn-of w v ([] ++ w.made ∷ []) [] (λ m l z. new_not_hit w s w.made m (omega arith) l) (drawn-then w c v [] (w.made ∷ []) i.drawn a.drawn)

    filled : IsFilled w v []
    filled = filled_by_moves w v [] [] drawn (λ m l t. absurd (omega arith))

    data_after : kind_passes is_character_data v.forest n ≡ true
    data_after = drawn.extends.kinds is_character_data n hn ∙ k

    text_after : data_of v n ≡ data_of w n
    text_after = drawn.extends.texts n hn

    go : (m : Bool) → IsFilled w (cut_if m n offset count v) []
    go false = filled
    go true =
        let r = filled-replace n offset count [] v drawn.sound data_after (subst (λ xs. offset ≤ length xs) (sym text_after) within) in
        filled-then w v (replace_data n offset count [] v) [] [] filled r

-- A copy of a partially contained node goes into a fragment, and a further fragment, once it is filled, into the copy.
module _ (into n : ℕ) (w : World) (s : IsSound w) (h : IsHolder w into) (p : IsPlain w n) (may : kind_passes may_be_parent w.forest n ≡ true) where
  abbrev pub cloned : World
  cloned = clone_node false n w

  abbrev pub held : World
  held = append w.made into cloned

  -- the world that the further fragment is filled in
  abbrev pub opened : World
  opened = new_fragment (node_document w n) held

  copy : IsCopy w cloned n
  copy = clone_copy false n w s p.there

  apart_into : w.made ≡ into → ⊥
  apart_into e = new_apart w s into w.made (omega arith) h.there (sym e)

  appended : IsAppended cloned held w.made into
  appended =
      append-plain cloned copy.drawn.sound w.made into (holder_stays w cloned [] into copy.drawn.extends refl h)
      (plain_like w cloned n w.made copy.there copy.kinds p)
      apart_into

  fragment : IsFragment held opened
  fragment = fragment_made (node_document w n) held appended.drawn.sound

  -- from the start to the world that is filled nothing has moved
  pub drawn_opened : IsDrawn w opened []
  drawn_opened =
      let a = drawn-then w cloned held [] (w.made ∷ []) copy.drawn appended.drawn in
      let b = drawn-of w held ([] ++ w.made ∷ []) [] (λ m l z. new_not_hit w s w.made m (omega arith) l) a in
      drawn-then w held opened [] [] b fragment.drawn

  pub holder_inner : IsHolder opened held.made
  holder_inner = fragment.holder

  pub inner_new : w.made ≤ held.made
  inner_new = let i = copy.drawn.made in let j = appended.drawn.made in omega arith

  module _ (v : World) (path : List ℕ) (apart : hits into path ≡ 0) (f : IsFilled opened v path) where
    there_copy : 0 < occurs w.made held.forest
    there_copy = appended.drawn.extends.there w.made copy.there

    there_into : 0 < occurs into held.forest
    there_into = appended.drawn.extends.there into (copy.drawn.extends.there into h.there)

    -- where the copy and the first fragment stand
    copy_under : parent_of v.forest w.made ≡ Some into
    copy_under =
        let e : parent_of opened.forest w.made ≡ Some into = fragment.drawn.extends.parents w.made there_copy refl ∙ appended.under in
        f.parents w.made (fragment.drawn.extends.there w.made there_copy) (λ u k. let d : Some into ≡ Some u = sym e ∙ k in subst (λ x. hits x path ≡ 0) (cc d) apart) ∙ e

    into_root : parent_of v.forest into ≡ None
    into_root =
        let e : parent_of opened.forest into ≡ None = drawn_opened.extends.parents into h.there refl ∙ h.root in
        f.parents into (fragment.drawn.extends.there into there_into) (λ u k. absurd (let d : None ≡ Some u = sym e ∙ k in cc d)) ∙ e

    inner_there : 0 < occurs held.made v.forest
    inner_there = f.there held.made fragment.holder.there

    copy_there : 0 < occurs w.made v.forest
    copy_there = f.there w.made (fragment.drawn.extends.there w.made there_copy)

    inner_apart : (m : ℕ) → 0 < occurs m held.forest → held.made ≡ m → ⊥
    inner_apart m k e = new_apart held appended.drawn.sound m held.made (omega arith) k (sym e)

    kind_inner : (test : Kind → Bool) → kind_passes test v.forest held.made ≡ test DocumentFragment
    kind_inner test = f.kinds test held.made fragment.holder.there ∙ ap (entry_has test) (entry-made (node_document w n) (named DocumentFragment []) no_content held appended.drawn.sound)

    outside_copy : hits held.made (ancestors w.made v.forest) ≡ 0
    outside_copy =
        let a = parent-path v.forest f.sound.forest.once w.made into copy_there copy_under in
        let b = root-path v.forest f.sound.forest.once into a.0 into_root in
        ap (hits held.made) (a.1 ∙ ap (λ ns. w.made ∷ ns) b)
        ∙ hits-other held.made w.made (into ∷ []) (λ e. inner_apart w.made there_copy (sym e))
        ∙ hits-other held.made into [] (λ e. inner_apart into there_into (sym e))

    may_hold_copy : kind_passes may_be_parent v.forest w.made ≡ true
    may_hold_copy =
        f.kinds may_be_parent w.made (fragment.drawn.extends.there w.made there_copy)
        ∙ fragment.drawn.extends.kinds may_be_parent w.made there_copy
        ∙ appended.drawn.extends.kinds may_be_parent w.made copy.there
        ∙ copy.kinds may_be_parent
        ∙ may

    insertable : IsInsertable v.forest held.made w.made None
    insertable =
        record {
          there = inner_there;
          parent_there = copy_there;
          outside = outside_copy;
          may_hold = may_hold_copy;
          no_document = kind_inner (is_kind Document);
          doctype_fits = ap (λ x. x && not (is_of_kind Document v.forest w.made)) (kind_inner (is_kind DocumentType));
          before_child = tt;
          before_other = tt;
        }

    moved_back : nodes_of v held.made ≡ children_of v.forest held.made
    moved_back = ap (λ x. if x then children_of v.forest held.made else held.made ∷ []) (kind_inner (is_kind DocumentFragment))

    last_put : IsPut v.forest (append held.made w.made v).forest w.made (children_of v.forest held.made)
    last_put = subst (λ ns. IsPut v.forest (append held.made w.made v).forest w.made ns) moved_back (put_by_insert false held.made w.made None v f.sound insertable)

    pub filled_copy : IsFilled w (append held.made w.made v) path
    filled_copy =
        record {
          sound = sound-insert false held.made w.made None v f.sound insertable;
          there = λ m k. last_put.extends.there m (f.there m (drawn_opened.extends.there m k));
          kinds = λ test m k. last_put.extends.kinds test m (f.there m (drawn_opened.extends.there m k)) ∙ f.kinds test m (drawn_opened.extends.there m k) ∙ drawn_opened.extends.kinds test m k;
          parents = λ m k far. last_put.extends.parents m (f.there m (drawn_opened.extends.there m k)) (not_within m k far) ∙ kept m k far;
          made = (let a = insert-made false held.made w.made None v in let b = f.made in let c = drawn_opened.made in omega arith);
        }
      where
        kept : (m : ℕ) → 0 < occurs m w.forest → ((u : ℕ) → parent_of w.forest m ≡ Some u → hits u path ≡ 0) → parent_of v.forest m ≡ parent_of w.forest m
        kept m k far =
            let e = drawn_opened.extends.parents m k refl in
            f.parents m (drawn_opened.extends.there m k) (λ u d. far u (sym e ∙ d)) ∙ e

        not_within : (m : ℕ) → 0 < occurs m w.forest → ((u : ℕ) → parent_of w.forest m ≡ Some u → hits u path ≡ 0) → hits m (children_of v.forest held.made) ≡ 0
        not_within m k far =
            let old : 0 < hits m (children_of v.forest held.made) → ⊥ = λ lt.
            let e = sym (kept m k far) ∙ child-parent v.forest f.sound.forest.once m held.made lt in
            new_apart w s held.made held.made inner_new (parent-path w.forest s.forest.once m held.made k e).0 refl in
            omega arith
