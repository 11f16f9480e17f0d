-- Texts stay those of the world where a Text is joined with the next.
use Rattle.std.proofs.Common.{◌≡◌, ℕ, suc, ◌+◌, ◌<◌, ◌≤◌, nat_lt, Bool, true, false, List, [], ◌∷◌, ◌++◌, length, Option, Some, option_map, refl, ap, sym, ◌∙◌, subst, arith, append-nil, length-append}
use Rattle.std.proofs.lemmas.Bool.Decides.{nat_tests}
use Rattle.dom_model.specs.Definitions.{hits, among, place_in, is_character_data, Node, Forest, empty, node, occurs, one_at, tops, beside, tree_at, without, with_node, parent_of, index_of, ancestors, inclusive_descendants, Content, Point, World, after_removal, after_splice, after_merge, spliced, kind_passes, data_of, with_data, Token, point, token_texts, on_texts, Merge, on_world, merge_from, Childless, end_at, IsReady}
use Rattle.dom_model.proofs.Forests.{Undone.beside-assoc, Tops.tops-beside, TreeOrder.Flattened.hits-numbers, Lying.total-with_node, Indices.child-listed, Indices.index-child, Paths.parent-path}
use Rattle.dom_model.proofs.Soundness.SoundWorlds.{child_there}
use Rattle.dom_model.proofs.TokenText.{Pieces.TextParts.breadth, Pieces.TextCounts.measure_of, Pieces.TextContexts.with_root, Pieces.TextSiblings.Siblings, Pieces.TextSiblings.siblings, Pieces.TextSiblings.Childless-child, AlikeTrees.TreesAlike.Alike, AlikeTrees.TreesAlike.Childless-tree_at, AlikeTrees.TreesAlikeAfter.alike-inside, AlikeTrees.TreesAlikeAfter.alike-cut, AlikeTrees.TreesAlikeAfter.alike-node, AlikeTrees.TreesWithin.Child, AlikeTrees.TreesWithin.child_of, Pieces.RootTexts.texts-beside, AlikeTrees.MergedTrees.Behind, AlikeTrees.MergedTrees.child_behind, AlikeTrees.MergedTrees.changed-without, AlikeTrees.MergedTrees.changed-next, AlikeTrees.MergedTrees.index-with_node, Pieces.MergedTexts.merged-texts, Marked.MarkedTexts.stands, Marked.MarkedTexts.Marked, Marked.MarkedTexts.trees_once, Marked.MarkedTexts.HasPoint, Marked.MarkedEnds.point_of, Marked.MarkedInsertion.Stands, Marked.MarkedInsertion.stands_in, Marked.MarkedInsertion.Childless-with_root, Marked.MarkedSplice.spliced-parts, Marked.MarkedSplice.with_root-node, Marked.MarkedRemoval.among-there, Marked.GapOpened.end_at-moved_thrice, Marked.GapOpened.different, Marked.GapOpened.equal, Marked.GapMerged.gap_merged, Marked.GapMerged.merged_point, Marked.GapMerged.merged-steps, Marked.GapMerged.standing-merged, Marked.GapMerged.AreMarks-merged}

-- The markers of each gap after two Texts are joined.
module _ (marks : Point → List Token) (n base next parent k : ℕ) (apart_next : n ≡ next → ⊥) (apart_parent : n ≡ parent → ⊥) (parent_next : parent ≡ next → ⊥) where
  abbrev marks' : Point → List Token
  marks' q = gap_merged n base next parent k marks q

  pub elsewhere : (q : Point) → (q.node ≡ parent → ⊥) → (q.node ≡ n → ⊥) → (q.node ≡ next → ⊥) → marks' q ≡ marks q
  elsewhere q a b c = grind (arith, nat_tests)

  pub before : (j j' : ℕ) → j' ≡ j → j ≤ k → marks' (point parent j') ≡ marks (point parent j)
  before j j' e h = grind (arith, nat_tests)

  pub behind : (j j' : ℕ) → suc j' ≡ j → k < j' → marks' (point parent j') ≡ marks (point parent j)
  behind j j' e h = grind (arith, nat_tests)

  pub kept : (j j' : ℕ) → j' ≡ j → j < base → marks' (point n j') ≡ marks (point n j)
  kept j j' e h = grind (arith, nat_tests)

  pub seam : (j : ℕ) → j ≡ base → marks' (point n j) ≡ marks (point n j) ++ (marks (point parent (suc k)) ++ marks (point next 0))
  seam j e = grind (arith, nat_tests)

  pub moved : (j j' : ℕ) → j' ≡ base + j → 0 < j → marks' (point n j') ≡ marks (point next j)
  moved j j' e h = grind (arith, nat_tests)

  pub emptied : (q : Point) → q.node ≡ next → marks' q ≡ []
  emptied q d = rw (equal q.node next d) refl

-- character data is joined with the next, which stands behind it under one parent and is character data too
pub marked-merge : (texts : List (List Token)) (w : World) → Marked texts w → IsReady w → (n next parent : ℕ) → parent_of w.forest n ≡ Some parent → parent_of w.forest next ≡ Some parent → index_of w.forest next ≡ index_of w.forest n + 1
    → kind_passes is_character_data w.forest n ≡ true → kind_passes is_character_data w.forest next ≡ true → Marked (on_texts (Merge n next) texts) (on_world (Merge n next) w)
marked-merge texts w m ready n next parent par par_next behind_it kind kind_next =
    subst (λ o. Marked (on_texts (Merge n next) texts) (merge_from n next o w)) (sym par_next)
    (result (stands_in m.trees w.forest m.alike ready.once parent (above n there par).0) (stands_in m.trees w.forest m.alike ready.once n there) (stands_in m.trees w.forest m.alike ready.once next next_there))
  where
    there : 0 < occurs n w.forest
    there = child_there w.forest n parent par

    next_there : 0 < occurs next w.forest
    next_there = child_there w.forest next parent par_next

    above : (i : ℕ) → 0 < occurs i w.forest → parent_of w.forest i ≡ Some parent → (0 < occurs parent w.forest) × (ancestors i w.forest ≡ i ∷ ancestors parent w.forest)
    above i h p = parent-path w.forest ready.once i parent h p

    apart_from : (i : ℕ) → 0 < occurs i w.forest → parent_of w.forest i ≡ Some parent → i ≡ parent → ⊥
    apart_from i h p e =
        let a = ap length (above i h p).1 in
        let l = ap (λ j. length (ancestors j w.forest)) e in
        absurd (omega arith)

    apart_next : n ≡ next → ⊥
    apart_next e = let a = ap (index_of w.forest) e in absurd (omega arith)

    apart_parent : n ≡ parent → ⊥
    apart_parent e = apart_from n there par e

    parent_next : parent ≡ next → ⊥
    parent_next e = apart_from next next_there par_next (sym e)

    k : ℕ
    k = index_of w.forest n

    base : ℕ
    base = length (data_of w n)

    text : List ℕ
    text = spliced base 0 (data_of w next) (data_of w n)

    changed_there : Forest Content
    changed_there = with_node n (with_data text) w.forest

    changed_here : Forest Content
    changed_here = with_node n (with_data text) m.trees

    after : Point → List Token
    after q = gap_merged n base next parent k m.marks q

    result : Stands m.trees w.forest parent → Stands m.trees w.forest n → Stands m.trees w.forest next → Marked (on_texts (Merge n next) texts) (merge_from n next (Some parent) w)
    result y t t2 = with_child (child_of n y.kids (subst (λ c. 0 < hits n c) (sym y.children) (child-listed w.forest ready.once n parent there par)))
      where
        with_child : Child n y.kids → Marked (on_texts (Merge n next) texts) (merge_from n next (Some parent) w)
        with_child c = with_next (child_behind next c.top c.kids c.ahead c.behind place_next listed_next)
          where
            place : breadth c.ahead ≡ k
            place = c.place ∙ ap (place_in n) y.children ∙ sym (index-child w.forest n parent par)

            place_next : place_in next (tops (beside c.ahead (node c.top c.kids c.behind))) ≡ length (tops c.ahead) + 1
            place_next = ap (λ (f : Forest Content). place_in next (tops f)) (sym c.whole) ∙ ap (place_in next) y.children ∙ sym (index-child w.forest next parent par_next) ∙ behind_it ∙ ap (λ i. i + 1) (sym place)

            listed_next : 0 < hits next (tops (beside c.ahead (node c.top c.kids c.behind)))
            listed_next = subst (λ (f : Forest Content). 0 < hits next (tops f)) c.whole (subst (λ ns. 0 < hits next ns) (sym y.children) (child-listed w.forest ready.once next parent next_there par_next))

            at : tree_at y.top.number m.trees ≡ node y.top y.kids empty
            at = ap (λ i. tree_at i m.trees) y.named ∙ y.at

            with_next : Behind next c.behind → Marked (on_texts (Merge n next) texts) (merge_from n next (Some parent) w)
            with_next d = record {
              trees = beside (without next changed_here) (tree_at next changed_here);
              marks = gap_merged n base next parent k m.marks;
              spelt = ap (on_texts (Merge n next)) m.spelt ∙ texts_at;
              alike = alike-cut changed_here changed_there alike_changed once_changed next;
              only = AreMarks-merged n base next parent k apart_next apart_parent parent_next m.marks m.only;
              standing = λ r side q.
                  standing-merged n base next parent k apart_next apart_parent parent_next m.marks (end_at w.ranges) m.standing within r side q
                  ∙ ap (λ (e : Option Point). stands e q) (sym (ends_after r side));
            }
              where
                whole : y.kids ≡ beside c.ahead (node c.top c.kids (node d.top d.kids d.rest))
                whole = c.whole ∙ ap (λ (f : Forest Content). beside c.ahead (node c.top c.kids f)) d.whole

                whole_next : y.kids ≡ beside (beside c.ahead (node c.top c.kids empty)) (node d.top d.kids d.rest)
                whole_next = whole ∙ sym (beside-assoc c.ahead (node c.top c.kids empty) (node d.top d.kids d.rest))

                long_next : breadth (beside c.ahead (node c.top c.kids empty)) ≡ suc k
                long_next = ap length (tops-beside c.ahead (node c.top c.kids empty)) ∙ length-append (tops c.ahead) (c.top.number ∷ []) ∙ (omega (arith, place))

                first : Siblings m.marks m.trees k y.top c.top y.kids c.kids c.ahead (node d.top d.kids d.rest)
                first = siblings m.marks m.only m.trees (trees_once texts w m ready.once) m.alike.childless k y.top c.top y.kids c.kids c.ahead (node d.top d.kids d.rest) at whole place

                second : Siblings m.marks m.trees (suc k) y.top d.top y.kids d.kids (beside c.ahead (node c.top c.kids empty)) d.rest
                second = siblings m.marks m.only m.trees (trees_once texts w m ready.once) m.alike.childless (suc k) y.top d.top y.kids d.kids (beside c.ahead (node c.top c.kids empty)) d.rest at whole_next long_next

                tree : tree_at n m.trees ≡ node c.top c.kids empty
                tree = ap (λ i. tree_at i m.trees) (sym c.named) ∙ first.tree

                same_first : t.top ≡ c.top
                same_first = let e = sym t.at ∙ tree in cc e

                same_second : t2.top ≡ d.top
                same_second = let e = sym t2.at ∙ ap (λ i. tree_at i m.trees) (sym d.named) ∙ second.tree in cc e

                data_first : data_of w n ≡ c.top.body.text
                data_first = sym t.text ∙ ap (λ (x : Node Content). x.body.text) same_first

                data_second : data_of w next ≡ d.top.body.text
                data_second = sym t2.text ∙ ap (λ (x : Node Content). x.body.text) same_second

                is_data : is_character_data c.top.label.kind ≡ true
                is_data = ap (λ (x : Node Content). is_character_data x.label.kind) (sym same_first) ∙ t.kind is_character_data ∙ kind

                next_data : is_character_data d.top.label.kind ≡ true
                next_data = ap (λ (x : Node Content). is_character_data x.label.kind) (sym same_second) ∙ t2.kind is_character_data ∙ kind_next

                next_alone : d.kids ≡ empty
                next_alone = (Childless-child d.top d.kids (beside c.ahead (node c.top c.kids empty)) d.rest second.childless).0 next_data

                joined_text : text ≡ c.top.body.text ++ d.top.body.text
                joined_text =
                    ap (λ ts. spliced (length ts) 0 (data_of w next) ts) data_first
                    ∙ ap (λ ts. spliced (length c.top.body.text) 0 ts c.top.body.text) data_second
                    ∙ ap (λ ts. spliced (length c.top.body.text) 0 d.top.body.text ts) (sym (append-nil c.top.body.text))
                    ∙ spliced-parts c.top.body.text [] [] d.top.body.text
                    ∙ ap (λ ts. c.top.body.text ++ ts) (append-nil d.top.body.text)

                left_here : without next changed_here ≡ with_root y.top.number y.top (beside c.ahead (node (with_data (c.top.body.text ++ d.top.body.text) c.top) c.kids d.rest)) m.trees
                left_here =
                    ap (λ i. without next (with_node i (with_data text) m.trees)) (sym c.named)
                    ∙ ap (λ i. without i (with_node c.top.number (with_data text) m.trees)) (sym d.named)
                    ∙ changed-without (with_data text) (λ x. refl) y.top c.top d.top y.kids c.kids d.kids c.ahead d.rest m.trees (trees_once texts w m ready.once) at whole first.below_parent first.parent_above
                    ∙ ap (λ ts. with_root y.top.number y.top (beside c.ahead (node (with_data ts c.top) c.kids d.rest)) m.trees) joined_text

                next_here : tree_at next changed_here ≡ node d.top d.kids empty
                next_here =
                    ap (λ i. tree_at next (with_node i (with_data text) m.trees)) (sym c.named)
                    ∙ ap (λ i. tree_at i (with_node c.top.number (with_data text) m.trees)) (sym d.named)
                    ∙ changed-next (with_data text) (λ x. refl) y.top c.top d.top y.kids c.kids d.kids c.ahead d.rest m.trees (trees_once texts w m ready.once) at whole first.below_parent first.parent_above second.tree

                childless_changed : Childless changed_here
                childless_changed =
                    let cn : Childless (node c.top c.kids empty) = subst Childless tree (Childless-tree_at n m.trees m.alike.childless) in
                    subst Childless (sym (with_root-node n (with_data text) c.top c.kids m.trees (trees_once texts w m ready.once) tree)) (Childless-with_root n (with_data text c.top) c.kids m.trees (cn.0, cn.1, tt) m.alike.childless)

                alike_changed : Alike changed_here changed_there
                alike_changed = alike-node m.trees w.forest m.alike ready.once n (with_data text) (with_data text) (λ x. refl) (λ x. refl) (λ x. refl) childless_changed

                once_changed : (i : ℕ) → occurs i changed_there ≤ 1
                once_changed i = let a = total-with_node (one_at i) n (with_data text) (λ x. refl) w.forest in let b = ready.once i in omega arith

                out : (i : ℕ) → (i ≡ next → ⊥) → among i (inclusive_descendants changed_there next) ≡ false
                out i ne =
                    among-there i (inclusive_descendants changed_there next)
                    ∙ ap (λ j. nat_lt 0 j) (hits-numbers i (tree_at next changed_there) ∙ sym (alike-inside changed_here changed_there alike_changed once_changed next i) ∙ ap (occurs i) next_here ∙ ap (λ (f : Forest Content). occurs i (node d.top f empty)) next_alone)
                    ∙ (rw (different d.top.number i (λ e. ne (sym e ∙ d.named))) refl)

                index_there : index_of changed_there next ≡ suc k
                index_there = index-with_node n (with_data text) (λ x. refl) w.forest ready.once next parent par_next ∙ behind_it ∙ (omega arith)

                within : (r : ℕ) (side : Bool) (p : Point) → end_at w.ranges r side ≡ Some p → p.node ≡ n → p.offset ≤ base
                within r side p e f = inside_length (point_of texts w m ready p (ready.points r side p e))
                  where
                    inside_length : HasPoint m.trees p → p.offset ≤ base
                    inside_length h =
                        let s = sym h.at ∙ ap (λ i. tree_at i m.trees) f ∙ tree in
                        let a : h.top ≡ c.top = cc s in
                        let l : measure_of h.top h.kids ≡ length c.top.body.text = ap (λ (x : Node Content). measure_of x h.kids) a ∙ (rw is_data refl) in
                        let b = ap length data_first in
                        let o = h.within in
                        omega arith

                steps : (p : Point) → (p.node ≡ n → p.offset ≤ base) → after_removal (inclusive_descendants changed_there next) parent (index_of changed_there next) (after_merge next n base parent (index_of w.forest next) (after_splice n base 0 (length (data_of w next)) p)) ≡ merged_point n base next parent k p
                steps p h =
                    ap (λ i. after_removal (inclusive_descendants changed_there next) parent i (after_merge next n base parent (index_of w.forest next) (after_splice n base 0 (length (data_of w next)) p))) index_there
                    ∙ ap (λ i. after_removal (inclusive_descendants changed_there next) parent (suc k) (after_merge next n base parent i (after_splice n base 0 (length (data_of w next)) p))) (behind_it ∙ (omega arith))
                    ∙ merged-steps n base next parent k apart_next apart_parent parent_next (length (data_of w next)) (inclusive_descendants changed_there next) (suc k) refl out p h

                ends_after : (r : ℕ) (side : Bool) → end_at (merge_from n next (Some parent) w).ranges r side ≡ option_map (merged_point n base next parent k) (end_at w.ranges r side)
                ends_after r side =
                    end_at-moved_thrice (after_splice n base 0 (length (data_of w next))) (after_merge next n base parent (index_of w.forest next)) (after_removal (inclusive_descendants changed_there next) parent (index_of changed_there next)) (merged_point n base next parent k)
                    w.ranges r side (λ p e. steps p (within r side p e))

                texts_at : on_texts (Merge n next) (token_texts m.marks m.trees) ≡ token_texts after (beside (without next changed_here) (tree_at next changed_here))
                texts_at =
                    sym (ap (λ i. on_texts (Merge i d.top.number) (token_texts m.marks m.trees)) c.named ∙ ap (λ i. on_texts (Merge n i) (token_texts m.marks m.trees)) d.named)
                    ∙ merged-texts m.marks after m.only m.trees k y.top c.top d.top y.kids c.kids d.kids c.ahead d.rest first second place is_data next_data
                    (λ q a b e. elsewhere m.marks n base next parent k apart_next apart_parent parent_next q (λ i. a (i ∙ sym y.named)) (λ i. b (i ∙ sym c.named)) (λ i. e (i ∙ sym d.named)))
                    (λ j j' e h. rw y.named (before m.marks n base next parent k apart_next apart_parent parent_next j j' e h))
                    (λ j j' e h. rw y.named (behind m.marks n base next parent k apart_next apart_parent parent_next j j' e h))
                    (λ j j' e h. rw c.named (kept m.marks n base next parent k apart_next apart_parent parent_next j j' e (let l = ap length data_first in omega arith)))
                    (rw (c.named, y.named, d.named) (seam m.marks n base next parent k apart_next apart_parent parent_next (length c.top.body.text) (sym (ap length data_first))))
                    (λ j j' e h. rw (c.named, d.named) (moved m.marks n base next parent k apart_next apart_parent parent_next j j' (let l = ap length data_first in omega arith) h))
                    (λ q e. emptied m.marks n base next parent k apart_next apart_parent parent_next q (e ∙ d.named))
                    next_alone
                    ∙ ap (λ (f : Forest Content). token_texts after f ++ token_texts after (node d.top d.kids empty)) (sym left_here)
                    ∙ ap (λ (f : Forest Content). token_texts after (without next changed_here) ++ token_texts after f) (sym next_here)
                    ∙ sym (texts-beside after (without next changed_here) (tree_at next changed_here))
