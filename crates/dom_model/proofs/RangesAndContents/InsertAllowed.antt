-- An insertion into a range whose first two checks pass is not refused later: the pre-insert's own check passes after the split and the removal.
-- DOM Standard, "Interface Range" (insert a node into a live range).
use Rattle.std.proofs.Common.{◌≡◌, ℕ, ◌<◌, Bool, true, false, ◌&&◌, List, [], ◌∷◌, length, Option, Some, None, refl, ap, sym, ◌∙◌, arith, Ok, is_none, unwrap_or}
use Rattle.std.proofs.lemmas.Bool.{false≢true, ne_eqb}
use Rattle.dom_model.specs.Definitions.{is_kind, Node, Forest, HasNode, occurs, put, adopted, in_document, cut, parent_of, next_of, IsForest, Content, Point, World, made_node, named, with_text, check_insert, is_of_kind, remove, removed_from, is_fragment, nodes_of, freed, gap_before, insert_all, insert_nodes, insert, node_document, reference_child, pre_insert, tail_of, with_data, replace_data, split_off, split, is_text, reference_at, parent_by, parent_at, check_start, split_at, reference_after, offset_past, end_if_collapsed, Outcome, and_then, unless, placed_at, inserted_at}
use Rattle.dom_model.specs.declared.{DomError.DomError, Kind.TheVariants.Text, Kind.TheVariants.DocumentFragment}
use Rattle.dom_model.proofs.Forests.{Changes.seen, Changes.nothing, Changes.just, Totals.IsOnce, Entries.occurs-HasNode, Indices.parent-there, Paths.parent-path, OneMoreRoot.root-kind, OneMoreRoot.parent-new, OneMoreRoot.put-kind, OneMoreRoot.put-kind_old, OneMoreRoot.put-parent_new, OneMoreRoot.put-kids_there, OneMoreRoot.put-kids_elsewhere, OneMoreRoot.put-above, OneMoreRoot.put-once}
use Rattle.dom_model.proofs.Worlds.SameShape.{bare, IsAlike, with_node-alike, with_tree-alike, ancestors-alike, parent-alike, children-alike, kind-alike, occurs-alike}
use Rattle.dom_model.proofs.MutationAlgorithms.{ChecksKept.refusal-head, ChecksKept.allows, ChecksKept.check-kept, RemovalsLike.IsWithout, RemovalsLike.without-cut, RemovalsLike.without-root, RemovalsLike.removal-like, SplitsLike.IsSplit, SplitsLike.split-like, Extending.gap-forest}

-- The forest after a removal.

removed-without : (w : World) → IsOnce w.forest → (n : ℕ) → IsWithout w.forest (remove false n w).forest n
removed-without w o n =
    elim (seen (parent_of w.forest n)) [
      | nothing e ↦
          let d : (remove false n w).forest ≡ w.forest = ap (λ (p : Option ℕ). (removed_from false n p w).forest) e in
          rw d (without-root w.forest o n e)
      | just q e ↦
          let d : (remove false n w).forest ≡ cut n w.forest = ap (λ (p : Option ℕ). (removed_from false n p w).forest) e in
          rw d (without-cut w.forest o n)
    ]

-- The forest after a split of a Text that has a parent.

replace-alike : (n offset count : ℕ) (added : List ℕ) (w : World) → IsAlike w.forest (replace_data n offset count added w).forest
replace-alike n offset count added w = with_node-alike (with_data _) (λ x. refl) n w.forest

module _ (w : World) (sound : IsForest (record { forest = w.forest; made = w.made })) (t offset parent : ℕ) (up : parent_of w.forest t ≡ Some parent) where
  abbrev new_text : Node Content
  new_text = record { number = w.made; document = node_document w t; label = named Text []; body = with_text (tail_of w t offset) }

  abbrev made : World
  made = made_node (node_document w t) (named Text []) (with_text (tail_of w t offset)) w

  fresh : occurs w.made w.forest ≡ 0
  fresh = sound.small w.made (omega arith)

  t_there : 0 < occurs t w.forest
  t_there = parent-there w.forest t parent up

  parent_there : 0 < occurs parent w.forest
  parent_there = (parent-path w.forest sound.once t parent t_there up).0

  no_fragment : is_fragment made w.made ≡ false
  no_fragment = root-kind w.forest sound.once new_text fresh (is_kind DocumentFragment)

  no_parent : parent_of made.forest w.made ≡ None
  no_parent = parent-new w.forest sound.once new_text fresh

  abbrev next : Option ℕ
  next = next_of made.forest t

  stays : freed w.made (w.made ∷ []) made ≡ made
  stays = rw no_fragment (ap (λ (p : Option ℕ). removed_from false w.made p made) no_parent)

  -- the new Text is put in after the other
  insert-alike : IsAlike (put parent w.made next made.forest) (insert false w.made parent next made).forest
  insert-alike =
      let a : nodes_of made w.made ≡ w.made ∷ [] = rw no_fragment refl in
      let b : insert false w.made parent next made ≡ insert_all false parent next (w.made ∷ []) made = ap (λ ns. insert_nodes false w.made parent next ns made) a ∙ ap (insert_all false parent next (w.made ∷ [])) stays in
      let gapped = gap_before parent next (length (w.made ∷ [])) made in
      let d = node_document gapped parent in
      let c : (insert false w.made parent next made).forest ≡ adopted w.made d (put parent w.made next made.forest) = ap (λ (v : World). v.forest) b ∙ ap (λ (g : Forest Content). adopted w.made d (put parent w.made next g)) (gap-forest parent next (length (w.made ∷ [])) made) in
      rw c (with_tree-alike (in_document d) (λ x. refl) w.made (put parent w.made next made.forest))

  abbrev after_split : Forest Content
  after_split = (split t offset w).forest

  split-alike : IsAlike (put parent w.made next made.forest) after_split
  split-alike =
      let off = split_off t offset w.made (parent_of w.forest t) made in
      let d : off.forest ≡ (insert false w.made parent next made).forest = ap (λ (q : Option ℕ). (split_off t offset w.made q made).forest) up in
      let e = replace-alike t offset (length (tail_of w t offset)) [] off in
      record { bare_same = e.bare_same ∙ ap bare d ∙ insert-alike.bare_same }

  split-is : IsSplit w.forest after_split t w.made parent
  split-is =
      let o = sound.once in
      record {
        kinds = λ test m h. kind-alike split-alike test m ∙ put-kind_old w.forest o new_text fresh parent t parent_there up t_there test m h;
        text = λ k. kind-alike split-alike (is_kind k) w.made ∙ put-kind w.forest o new_text fresh parent t parent_there up t_there (is_kind k) w.made ∙ root-kind w.forest o new_text fresh (is_kind k);
        above = ancestors-alike split-alike parent ∙ put-above w.forest o new_text fresh parent t parent_there up t_there;
        parent_new = parent-alike split-alike w.made ∙ put-parent_new w.forest o new_text fresh parent t parent_there up t_there;
        kids_there = children-alike split-alike parent ∙ put-kids_there w.forest o new_text fresh parent t parent_there up t_there;
        kids_elsewhere = λ m h far. children-alike split-alike m ∙ put-kids_elsewhere w.forest o new_text fresh parent t parent_there up t_there m h far;
      }

  split-once : IsOnce after_split
  split-once m = let k = put-once w.forest sound.once new_text fresh parent t parent_there up t_there m in rw (occurs-alike split-alike m) k

  -- before a Text, and then before its second part
  split-allowed : (n : ℕ) → 0 < occurs n w.forest → is_of_kind Text w.forest t ≡ true → check_insert w.forest parent n (Some t) ≡ None → check_insert (remove false n (split t offset w)).forest parent n (Some w.made) ≡ None
  split-allowed n there text h =
      let g = (remove false n (split t offset w)).forest in
      let a = allows w.forest parent n (Some t) h in
      let l = split-like w.forest after_split g sound.once t w.made parent n fresh there up text split-is (removed-without (split t offset w) split-once n) a.outside in
      check-kept w.forest g parent n (Some t) (Some w.made) sound.once sound.kinds there l h

  -- the second part is not what comes in
  new-reference : (n : ℕ) → 0 < occurs n w.forest → (u : World) → reference_child u n (Some w.made) ≡ Some w.made
  new-reference n there u =
      rw (ne_eqb w.made n (λ e. let k : occurs n w.forest ≡ 0 = ap (λ m. occurs m w.forest) (sym e) ∙ fresh in omega arith)) refl

-- A step behind a check that passes.

unless-none : (c : Option DomError) (w : World) (step : World → Outcome) → c ≡ None → and_then (unless c w) step ≡ step w
unless-none None w step h = refl
unless-none (Some e) w step h = absurd (cc h)

placed-done : (r n parent : ℕ) (reference : Option ℕ) (w : World) → check_insert (remove false n w).forest parent n reference ≡ None → (u : World) × (placed_at r n parent reference w ≡ Ok u)
placed-done r n parent reference w h =
    let out = remove false n w in
    let step = λ (v : World). pre_insert n parent reference v in
    let point : Point = record { node = parent; offset = offset_past out parent reference n } in
    (end_if_collapsed r point (step out), ap (λ (o : Outcome). and_then o (λ v. Ok (end_if_collapsed r point v))) (unless-none (check_insert out.forest parent n reference) out (λ v. Ok (step v)) h))

module _ (v : World) (sound : IsForest (record { forest = v.forest; made = v.made })) (n : ℕ) (there : HasNode v.forest n) (p : Point) (start : check_start v p n ≡ None) (passes : check_insert v.forest (parent_at v p) n (reference_at v p) ≡ None) where
  n_there : 0 < occurs n v.forest
  n_there = occurs-HasNode v.forest n there

  abbrev checked_later : World → Option ℕ → Option DomError
  checked_later u c = check_insert (remove false n u).forest (parent_at v p) n (reference_child u n c)

  elsewhere-allowed : is_text v p.node ≡ false → checked_later (split_at p v) (reference_after v p) ≡ None
  elsewhere-allowed e =
      let a : split_at p v ≡ v = rw e refl in
      let b : reference_after v p ≡ reference_at v p = rw e refl in
      let o = sound.once in
      let g = (remove false n v).forest in
      let found = (allows v.forest (parent_at v p) n (reference_at v p) passes).found in
      let l = removal-like v.forest g o (parent_at v p) n (removed-without v o n) (reference_at v p) found in
      ap (λ (u : World). checked_later u (reference_after v p)) a ∙ ap (checked_later v) b
      ∙ check-kept v.forest g (parent_at v p) n (reference_at v p) (reference_child v n (reference_at v p)) o sound.kinds n_there l passes

  text-parent : is_text v p.node ≡ true → (q : ℕ) × (parent_of v.forest p.node ≡ Some q)
  text-parent e =
      elim (seen (parent_of v.forest p.node)) [
        | nothing d ↦ absurd (let k : (is_text v p.node && is_none (parent_of v.forest p.node)) ≡ false = (refusal-head _ _ _ (refusal-head _ _ _ start).1).0 in let j = rw (e, d) at k in false≢true (sym j))
        | just q d ↦ (q, d)
      ]

  in_text-allowed : is_text v p.node ≡ true → checked_later (split_at p v) (reference_after v p) ≡ None
  in_text-allowed e =
      let q = text-parent e in
      let a : split_at p v ≡ split p.node p.offset v = rw e refl in
      let b : reference_after v p ≡ Some v.made = rw e refl in
      let c : reference_at v p ≡ Some p.node = rw e refl in
      let d : parent_at v p ≡ q.0 = ap (parent_by v p) c ∙ ap (λ x. unwrap_or x p.node) q.1 in
      let before : check_insert v.forest q.0 n (Some p.node) ≡ None = ap (λ x. check_insert v.forest x n (Some p.node)) (sym d) ∙ ap (check_insert v.forest (parent_at v p) n) (sym c) ∙ passes in
      let u = split p.node p.offset v in
      ap (λ (x : World). checked_later x (reference_after v p)) a ∙ ap (checked_later u) b
      ∙ ap (λ x. check_insert (remove false n u).forest (parent_at v p) n x) (new-reference v sound p.node p.offset q.0 q.1 n n_there u)
      ∙ ap (λ x. check_insert (remove false n u).forest x n (Some v.made)) d
      ∙ split-allowed v sound p.node p.offset q.0 q.1 n n_there e before

  -- the pre-insert's own check passes on the world that the split and the removal leave
  pub insert-allowed : check_insert (remove false n (split_at p v)).forest (parent_at v p) n (reference_child (split_at p v) n (reference_after v p)) ≡ None
  insert-allowed = go (is_text v p.node) refl
    where
      go : (b : Bool) → is_text v p.node ≡ b → checked_later (split_at p v) (reference_after v p) ≡ None
      go true e = in_text-allowed e
      go false e = elsewhere-allowed e

  -- so no later step is refused
  pub insert-done : (r : ℕ) → (u : World) × (inserted_at r n p v ≡ Ok u)
  insert-done r =
      let apart = split_at p v in
      let reference = reference_child apart n (reference_after v p) in
      let placed = placed-done r n (parent_at v p) reference apart insert-allowed in
      (placed.0, unless-none (check_start v p n) v _ start ∙ unless-none (check_insert v.forest (parent_at v p) n (reference_at v p)) v _ passes ∙ placed.1)
