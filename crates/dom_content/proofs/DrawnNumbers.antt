-- What goes into a fragment takes back no number, whatever the world. DOM Standard, "Interface Range".
use Rattle.std.proofs.Common.{ℕ, ◌-◌, ◌≤◌, Bool, true, false, List, [], ◌∷◌, length, take, drop}
use Rattle.dom_model.specs.Definitions.{is_character_data, children_of, Range, World, past, up_to, kind_passes, append, is_collapsed, data_of, clone_node, children_into, tail_into, head_into}
use Rattle.dom_model.proofs.Counting.{CountsKept.kept-same, CountsKept.append-kept, CountsOfContents.clone-grown, CountsOfContents.units_into-grown, CountsOfContents.children_moved-kept, CopiesGrow.Grows, CopiesGrow.grows-if, CopiesGrow.copy-grows, CopiesGrow.grows-then}
use Rattle.dom_content.specs.DrawnParts.{parts_drawn, filled}

children-grow : (moves : Bool) (into : ℕ) (ns : List ℕ) (w : World) → Grows w (children_into moves into ns w)
children-grow true into ns w = (0, children_moved-kept into ns w)
children-grow false into [] w = (0, kept-same w)
children-grow false into (n ∷ ns) w =
    let copied = clone_node true n w in
    grows-then (grows-then (_, clone-grown true n w) (0, append-kept w.made into copied)) (children-grow false into ns (append w.made into copied))

tail-grows : (moves : Bool) (into offset : ℕ) (path : List ℕ) (w : World) → Grows w (tail_into moves into offset path w)
tail-grows moves into offset [] w = (0, kept-same w)
tail-grows moves into offset (n ∷ []) w =
    grows-if (kind_passes is_character_data w.forest n) w _ _
    (1, units_into-grown moves into n offset (length (data_of w n) - offset) w)
    (copy-grows into n _ w (λ inner v. children-grow moves inner (drop offset (children_of w.forest n)) v))
tail-grows moves into offset (n ∷ m ∷ path) w =
    copy-grows into n _ w
    (λ inner v. grows-then (tail-grows moves inner offset (m ∷ path) v) (children-grow moves inner (past m (children_of w.forest n)) (tail_into moves inner offset (m ∷ path) v)))

head-grows : (moves : Bool) (into offset : ℕ) (path : List ℕ) (w : World) → Grows w (head_into moves into offset path w)
head-grows moves into offset [] w = (0, kept-same w)
head-grows moves into offset (n ∷ []) w =
    grows-if (kind_passes is_character_data w.forest n) w _ _
    (1, units_into-grown moves into n 0 offset w)
    (copy-grows into n _ w (λ inner v. children-grow moves inner (take offset (children_of w.forest n)) v))
head-grows moves into offset (n ∷ m ∷ path) w =
    copy-grows into n _ w
    (λ inner v. grows-then (children-grow moves inner (up_to m (children_of w.forest n)) v) (head-grows moves inner offset (m ∷ path) (children_into moves inner (up_to m (children_of w.forest n)) v)))

parts-grow : (moves : Bool) (into : ℕ) (r : Range) (first contained last : List ℕ) (w : World) → Grows w (parts_drawn moves into r first contained last w)
parts-grow moves into r first contained last w =
    let tailed = tail_into moves into r.start.offset first w in
    grows-then (grows-then (tail-grows moves into r.start.offset first w) (children-grow moves into contained tailed))
    (head-grows moves into r.end.offset last (children_into moves into contained tailed))

filled-grows : (moves one_data : Bool) (into : ℕ) (r : Range) (first contained last : List ℕ) (w : World) → Grows w (filled moves one_data into r first contained last w)
filled-grows moves one_data into r first contained last w =
    grows-if (is_collapsed r) w w _ (0, kept-same w)
    (grows-if one_data w _ _
    (1, units_into-grown moves into r.start.node r.start.offset (r.end.offset - r.start.offset) w)
    (parts-grow moves into r first contained last w))

least : (w v : World) → Grows w v → w.made ≤ v.made
least w v g = g.1.least

pub head-rises : (moves : Bool) (into offset : ℕ) (path : List ℕ) (w : World) → w.made ≤ (head_into moves into offset path w).made
head-rises moves into offset path w = least w (head_into moves into offset path w) (head-grows moves into offset path w)

-- the children, and then the other path
pub rest-rises : (moves : Bool) (into offset : ℕ) (contained last : List ℕ) (w : World) → w.made ≤ (head_into moves into offset last (children_into moves into contained w)).made
rest-rises moves into offset contained last w =
    least w (head_into moves into offset last (children_into moves into contained w))
    (grows-then (children-grow moves into contained w) (head-grows moves into offset last (children_into moves into contained w)))

pub filled-rises : (moves one_data : Bool) (into : ℕ) (r : Range) (first contained last : List ℕ) (w : World) → w.made ≤ (filled moves one_data into r first contained last w).made
filled-rises moves one_data into r first contained last w = least w (filled moves one_data into r first contained last w) (filled-grows moves one_data into r first contained last w)
