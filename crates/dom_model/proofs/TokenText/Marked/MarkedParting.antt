-- Texts stay those of the world where a Text with a parent is split.
use Rattle.std.proofs.Common.{◌≡◌, ℕ, ◌+◌, ◌<◌, ◌≤◌, ◌==◌, Bool, true, false, List, [], ◌∷◌, ◌++◌, drop, length, Option, Some, None, option_map, refl, ap, sym, ◌∙◌, subst, arith, append-nil, slice_get}
use Rattle.std.proofs.lemmas.Bool.{false≢true}
use Rattle.std.proofs.Math.Seq.{drop-append_seam}
use Rattle.dom_model.specs.Definitions.{hits, place_in, Label, is_character_data, children_in, Node, Forest, empty, node, occurs, tops, beside, tree_at, put, with_node, entry_in, parent_of, children_of, index_of, ancestors, Content, Point, World, after_gap, after_splice, after_split, map_ranges, spliced, kind_passes, node_document, data_of, tail_of, with_data, content_in, Token, point, token_texts, on_texts, Parting, on_world, parting_from, with_new_text, Childless, end_at, IsReady}
use Rattle.dom_model.proofs.Forests.{Indices.child-listed, Indices.index-child, Paths.parent-path}
use Rattle.dom_model.proofs.Soundness.SoundWorlds.{child_there}
use Rattle.dom_model.proofs.TokenText.{Pieces.TokenLists.AreMarks, Pieces.TextParts.breadth, Pieces.TextPieces.texts-same, Pieces.TextContexts.with_root, Pieces.TextPoints.Parted, Pieces.TextPoints.parted, Pieces.TextSiblings.Siblings, Pieces.TextSiblings.siblings, AlikeTrees.TreesAlikeAfter.alike-node, AlikeTrees.TreesWithin.Child, AlikeTrees.TreesWithin.child_of, AlikeTrees.PartedTrees.with_node-root, AlikeTrees.PartedTrees.with_node-child, AlikeTrees.PartedTrees.placed_behind, AlikeTrees.PartedTrees.entry-beside, Pieces.PartedTexts.parted-texts, Marked.MarkedTexts.stands, Marked.MarkedTexts.Marked, Marked.MarkedTexts.trees_once, Marked.MarkersMoved.AreMarks_if, Marked.MarkedInsertion.Stands, Marked.MarkedInsertion.stands_in, Marked.MarkedInsertion.Childless-with_root, Marked.MarkedSplice.spliced-parts, Marked.GapOpened.end_at-moved_thrice, Marked.GapOpened.different, Marked.GapOpened.equal, Marked.GapParted.gap_parted, Marked.GapParted.parted_point, Marked.GapParted.parted-steps, Marked.GapParted.standing-parted, Marked.GapParted.AreMarks-parted, AlikeTrees.PartedWorld.base, AlikeTrees.PartedWorld.base-old, AlikeTrees.PartedWorld.elsewhere, AlikeTrees.PartedWorld.earlier, AlikeTrees.PartedWorld.later, AlikeTrees.PartedWorld.between, AlikeTrees.PartedWorld.kept, AlikeTrees.PartedWorld.new_start, AlikeTrees.PartedWorld.moved, AlikeTrees.PartedWorld.new_text, AlikeTrees.PartedWorld.more, AlikeTrees.PartedWorld.placed, AlikeTrees.PartedWorld.placed_trees, AlikeTrees.PartedWorld.alike-placed, AlikeTrees.PartedWorld.once-placed, AlikeTrees.PartedWorld.same_text}

Childless-behind : (z' z x : Node Content) (zs fs bs : Forest Content) → z'.label ≡ z.label → Childless (beside fs (node z zs bs)) → Childless (beside fs (node z' zs (node x empty bs)))
Childless-behind z' z x zs empty bs e c = ((λ v. c.0 (ap (λ (l : Label). is_character_data l.kind) (sym e) ∙ v)), c.1, ((λ v. refl), tt, c.2))
Childless-behind z' z x zs (node a kids rest) bs e c = (c.0, c.1, Childless-behind z' z x zs rest bs e c.2)

-- character data with a parent is split at a point; the new number stands nowhere yet
pub marked-parting : (texts : List (List Token)) (w : World) → Marked texts w → IsReady w → (p : Point) (new parent : ℕ) → parent_of w.forest p.node ≡ Some parent → kind_passes is_character_data w.forest p.node ≡ true → p.offset ≤ length (data_of w p.node) → occurs new w.forest ≡ 0 → Marked (on_texts (Parting p new) texts) (on_world (Parting p new) w)
marked-parting texts w m ready p new parent par kind within fresh =
    subst (λ o. Marked (on_texts (Parting p new) texts) (parting_from p new o w)) (sym par)
    (result (stands_in m.trees w.forest m.alike ready.once parent above.0) (stands_in m.trees w.forest m.alike ready.once p.node there))
  where
    there : 0 < occurs p.node w.forest
    there = child_there w.forest p.node parent par

    above : (0 < occurs parent w.forest) × (ancestors p.node w.forest ≡ p.node ∷ ancestors parent w.forest)
    above = parent-path w.forest ready.once p.node parent there par

    not_fresh : (i : ℕ) → 0 < occurs i w.forest → i ≡ new → ⊥
    not_fresh i h e = let z : occurs i w.forest ≡ 0 = subst (λ j. occurs j w.forest ≡ 0) (sym e) fresh in absurd (omega arith)

    k : ℕ
    k = index_of w.forest p.node

    tail : List ℕ
    tail = tail_of w p.node p.offset

    result : Stands m.trees w.forest parent → Stands m.trees w.forest p.node → Marked (on_texts (Parting p new) texts) (parting_from p new (Some parent) w)
    result y t = with_child (child_of p.node y.kids (subst (λ c. 0 < hits p.node c) (sym y.children) (child-listed w.forest ready.once p.node parent there par)))
      where
        with_child : Child p.node y.kids → Marked (on_texts (Parting p new) texts) (parting_from p new (Some parent) w)
        with_child c = record {
          trees = with_node p.node (with_data left) placed_here;
          marks = gap_parted p.node p.offset new parent k m.marks;
          spelt = ap (on_texts (Parting p new)) m.spelt ∙ texts_at;
          alike = alike-node placed_here placed_there (alike-placed m.trees w.forest m.alike ready.once p.node new parent document adopter tail b fresh there above.0 childless) once_there p.node (with_data left) (with_data left) (λ n. refl) (λ n. refl) (λ n. refl) childless_after;
          only = AreMarks-parted p.node p.offset new parent k (length tail) new_node apart_parent m.marks m.only;
          standing = λ r side q.
              standing-parted p.node p.offset new parent k (length tail) new_node apart_parent m.marks (end_at w.ranges) m.standing (λ r side e h. not_fresh e.node (ready.points r side e h).there) r side q
              ∙ ap (λ (e : Option Point). stands e q) (sym (ends_after r side));
        }
          where
            document : ℕ
            document = node_document w p.node

            b : Option ℕ
            b = slice_get (children_of (more m.trees w.forest m.alike ready.once p.node new parent document 0 tail None fresh there above.0) parent) (k + 1)

            gapped : World
            gapped = let made = with_new_text new document tail w in record made { ranges = map_ranges (after_gap parent (k + 1) 1) made.ranges }

            adopter : ℕ
            adopter = node_document gapped parent

            placed_here : Forest Content
            placed_here = placed_trees m.trees w.forest m.alike ready.once p.node new parent document adopter tail b fresh there above.0

            placed_there : Forest Content
            placed_there = placed m.trees w.forest m.alike ready.once p.node new parent document adopter tail b fresh there above.0

            left : List ℕ
            left = spliced p.offset (length tail) [] (content_in (entry_in placed_there p.node)).text

            new_node : p.node ≡ new → ⊥
            new_node = not_fresh p.node there

            new_parent : parent ≡ new → ⊥
            new_parent = not_fresh parent above.0

            place : breadth c.ahead ≡ k
            place = c.place ∙ ap (place_in p.node) y.children ∙ sym (index-child w.forest p.node parent par)

            at : tree_at y.top.number m.trees ≡ node y.top y.kids empty
            at = ap (λ i. tree_at i m.trees) y.named ∙ y.at

            apart_parent : p.node ≡ parent → ⊥
            apart_parent e =
                let a = ap length above.1 in
                let l = ap (λ i. length (ancestors i w.forest)) e in
                absurd (omega arith)

            before : Point → List Token
            before q = base m.marks p.node p.offset new parent k new_node new_parent apart_parent q

            only_base : (q : Point) → AreMarks (before q)
            only_base q =
                AreMarks_if (q.node == new) (gap_parted p.node p.offset new parent k m.marks q) (m.marks q)
                (AreMarks-parted p.node p.offset new parent k (length tail) new_node apart_parent m.marks m.only q) (m.only q)

            around : Siblings before m.trees k y.top c.top y.kids c.kids c.ahead c.behind
            around = siblings before only_base m.trees (trees_once texts w m ready.once) m.alike.childless k y.top c.top y.kids c.kids c.ahead c.behind at c.whole place

            added : Node Content
            added = new_text m.trees w.forest m.alike ready.once p.node new parent document adopter tail b fresh there above.0 0

            -- the split node in the trees, and its data
            tree : tree_at p.node m.trees ≡ node c.top c.kids empty
            tree = ap (λ i. tree_at i m.trees) (sym c.named) ∙ around.tree

            split_node : t.top ≡ c.top
            split_node = let e = sym t.at ∙ tree in cc e

            text : data_of w p.node ≡ c.top.body.text
            text = sym t.text ∙ ap (λ (x : Node Content). x.body.text) split_node

            is_data : is_character_data c.top.label.kind ≡ true
            is_data = ap (λ (x : Node Content). is_character_data x.label.kind) (sym split_node) ∙ t.kind is_character_data ∙ kind

            part : Parted p.offset c.top.body.text
            part = parted p.offset c.top.body.text (let l = ap length text in omega arith)

            beyond : tail ≡ part.last
            beyond = ap (drop p.offset) (text ∙ part.whole) ∙ ap (λ i. drop i (part.first ++ part.last)) (sym part.long) ∙ drop-append_seam part.first part.last

            kids : Node Content → Forest Content
            kids z = beside c.ahead (node z c.kids (node added empty c.behind))

            children : children_of (more m.trees w.forest m.alike ready.once p.node new parent document 0 tail None fresh there above.0) parent ≡ tops y.kids
            children = ap children_in (entry-beside parent w.forest (node (new_text m.trees w.forest m.alike ready.once p.node new parent document 0 tail None fresh there above.0 document) empty empty) above.0) ∙ sym y.children

            here_is : placed_here ≡ with_root parent y.top (kids c.top) m.trees
            here_is =
                ap (λ ns. put parent new (slice_get ns (k + 1)) (beside m.trees (node added empty empty))) children
                ∙ placed_behind parent k new added y.top c.top y.kids c.kids c.ahead c.behind m.trees (trees_once texts w m ready.once) y.at c.whole place refl (m.alike.numbers new ∙ fresh) around.below_parent

            childless_root : (z : Node Content) → z.label ≡ c.top.label → Childless (with_root parent y.top (kids z) m.trees)
            childless_root z e =
                Childless-with_root parent y.top (kids z) m.trees
                ((λ v. absurd (false≢true (sym around.kind ∙ v))), Childless-behind z c.top added c.kids c.ahead c.behind e around.childless, tt) m.alike.childless

            childless : Childless placed_here
            childless = subst Childless (sym here_is) (childless_root c.top refl)

            once_there : (i : ℕ) → occurs i placed_there ≤ 1
            once_there i = once-placed m.trees w.forest m.alike ready.once p.node new parent document adopter tail b fresh there above.0 childless i

            left_is : left ≡ part.first
            left_is =
                ap (spliced p.offset (length tail) []) (same_text m.trees w.forest m.alike ready.once p.node new parent document adopter tail b fresh there above.0 childless ∙ text ∙ part.whole)
                ∙ ap (λ i. spliced i (length tail) [] (part.first ++ part.last)) (sym part.long)
                ∙ ap (λ ts. spliced (length part.first) (length ts) [] (part.first ++ part.last)) beyond
                ∙ ap (λ ts. spliced (length part.first) (length part.last) [] (part.first ++ ts)) (sym (append-nil part.last))
                ∙ spliced-parts part.first part.last [] []
                ∙ append-nil part.first

            inside_parent : 0 < occurs c.top.number y.kids
            inside_parent = let a = around.parts c.top.number in let e = around.itself in omega arith

            trees_are : with_node p.node (with_data left) placed_here ≡ with_root parent y.top (kids (with_data part.first c.top)) m.trees
            trees_are =
                ap (with_node p.node (with_data left)) here_is
                ∙ with_node-root parent p.node (with_data left) y.top (kids c.top) y.kids m.trees (trees_once texts w m ready.once) y.at (subst (λ i. 0 < occurs i y.kids) c.named inside_parent) y.named (λ e. apart_parent (sym e))
                ∙ ap (λ i. with_root parent y.top (with_node i (with_data left) (kids c.top)) m.trees) (sym c.named)
                ∙ ap (λ (f : Forest Content). with_root parent y.top f m.trees) changed
                ∙ ap (λ ts. with_root parent y.top (kids (with_data ts c.top)) m.trees) left_is
              where
                changed : with_node c.top.number (with_data left) (kids c.top) ≡ kids (with_data left c.top)
                changed =
                    let a = around.parts c.top.number in
                    let e = around.below_parent c.top.number in
                    let i = around.itself in
                    let j : (c.top.number == c.top.number) ≡ true = equal c.top.number c.top.number refl in
                    let l = rw j at a in
                    let n : (added.number == c.top.number) ≡ false = different new c.top.number (λ d. new_node (sym (d ∙ c.named))) in
                    with_node-child (with_data left) c.top c.kids c.ahead (node added empty c.behind) (omega arith) (omega arith) (rw n (omega arith))

            childless_after : Childless (with_node p.node (with_data left) placed_here)
            childless_after = subst Childless (sym trees_are) (childless_root (with_data part.first c.top) refl)

            ends_after : (r : ℕ) (side : Bool) → end_at (parting_from p new (Some parent) w).ranges r side ≡ option_map (parted_point p.node p.offset new parent k) (end_at w.ranges r side)
            ends_after r side =
                end_at-moved_thrice (after_gap parent (k + 1) 1) (after_split p.node p.offset new parent k) (after_splice p.node p.offset (length tail) 0) (parted_point p.node p.offset new parent k)
                w.ranges r side (λ q e. parted-steps p.node p.offset new parent k (length tail) new_node apart_parent q)

            after : Point → List Token
            after q = gap_parted p.node p.offset new parent k m.marks q

            texts_at : on_texts (Parting p new) (token_texts m.marks m.trees) ≡ token_texts after (with_node p.node (with_data left) placed_here)
            texts_at =
                ap (on_texts (Parting p new)) (sym (texts-same m.marks before m.trees (λ q h. base-old m.marks p.node p.offset new parent k new_node new_parent apart_parent q (not_fresh q.node (let e = m.alike.numbers q.node in omega arith)))))
                ∙ sym (ap (λ i. on_texts (Parting (point i (length part.first)) new) (token_texts before m.trees)) c.named ∙ ap (λ i. on_texts (Parting (point p.node i) new) (token_texts before m.trees)) part.long)
                ∙ parted-texts before after only_base m.trees k y.top c.top added y.kids c.kids c.ahead c.behind part.first part.last around place is_data part.whole refl beyond
                (λ q d e. elsewhere m.marks p.node p.offset new parent k new_node new_parent apart_parent q (λ i. d (i ∙ sym y.named)) (λ i. e (i ∙ sym c.named)))
                (λ j j' e h. rw y.named (earlier m.marks p.node p.offset new parent k new_node new_parent apart_parent j j' e h))
                (λ j j' e h. rw y.named (later m.marks p.node p.offset new parent k new_node new_parent apart_parent j j' e h))
                (rw y.named (between m.marks p.node p.offset new parent k new_node new_parent apart_parent))
                (λ j j' e h. rw c.named (kept m.marks p.node p.offset new parent k new_node new_parent apart_parent j j' e (let l = part.long in omega arith)))
                (new_start m.marks p.node p.offset new parent k new_node new_parent apart_parent)
                (λ j j' e h. rw c.named (moved m.marks p.node p.offset new parent k new_node new_parent apart_parent j j' (let l = part.long in omega arith) h))
                ∙ ap (λ i. token_texts after (with_root i y.top (kids (with_data part.first c.top)) m.trees)) y.named
                ∙ ap (token_texts after) (sym trees_are)
