-- A copy of a range's contents takes back no number, whatever the world.
use Rattle.std.proofs.Common.{ℕ, ◌+◌, ◌-◌, Bool, true, false, if◌then◌else◌, List, [], ◌∷◌, length, take, drop, Option, Some, None}
use Rattle.dom_model.specs.Definitions.{is_character_data, children_of, Range, World, past, up_to, kind_passes, append, node_document, is_collapsed, range_at, data_of, clone_node, for_range, is_in_one_data, new_fragment, children_into, copy_into, tail_into, head_into, path_below, common_of, contained_children, parts_into, contents_drawn, clone_contents}
use Rattle.dom_model.proofs.Counting.{CountsKept.IsGrown, CountsKept.grown-then, CountsKept.kept-same, CountsKept.append-kept, CountsOfContents.clone-grown, CountsOfContents.clone_alone-grown, CountsOfContents.units_into-grown, CountsOfContents.new_fragment-grown}

-- some numbers of nodes are given out, and no others
abbrev pub Grows : World → World → Type 0
Grows w v = (more : ℕ) × IsGrown more w v

pub grows-then : {u v w : World} → Grows u v → Grows v w → Grows u w
grows-then g h = (g.0 + h.0, grown-then g.0 h.0 g.1 h.1)

children-grow : (into : ℕ) (ns : List ℕ) (w : World) → Grows w (children_into false into ns w)
children-grow into [] w = (0, kept-same w)
children-grow into (n ∷ ns) w =
    let copied = clone_node true n w in
    grows-then (grows-then (_, clone-grown true n w) (0, append-kept w.made into copied)) (children-grow into ns (append w.made into copied))

pub copy-grows : (into n : ℕ) (fill : ℕ → World → World) (w : World) → ((inner : ℕ) (v : World) → Grows v (fill inner v)) → Grows w (copy_into into n fill w)
copy-grows into n fill w h =
    let copied = clone_node false n w in
    let held = append w.made into copied in
    let begun = new_fragment (node_document w n) held in
    grows-then (grows-then (grows-then (1, clone_alone-grown n w) (0, append-kept w.made into copied)) (1, new_fragment-grown (node_document w n) held))
    (grows-then (h held.made begun) (0, append-kept held.made w.made (fill held.made begun)))

pub grows-if : (b : Bool) (w u v : World) → Grows w u → Grows w v → Grows w (if b then u else v)
grows-if true w u v g h = g
grows-if false w u v g h = h

tail-grows : (into offset : ℕ) (path : List ℕ) (w : World) → Grows w (tail_into false into offset path w)
tail-grows into offset [] w = (0, kept-same w)
tail-grows into offset (n ∷ []) w =
    grows-if (kind_passes is_character_data w.forest n) w _ _
    (1, units_into-grown false into n offset (length (data_of w n) - offset) w)
    (copy-grows into n _ w (λ inner v. children-grow inner (drop offset (children_of w.forest n)) v))
tail-grows into offset (n ∷ m ∷ path) w =
    copy-grows into n _ w
    (λ inner v. grows-then (tail-grows inner offset (m ∷ path) v) (children-grow inner (past m (children_of w.forest n)) (tail_into false inner offset (m ∷ path) v)))

head-grows : (into offset : ℕ) (path : List ℕ) (w : World) → Grows w (head_into false into offset path w)
head-grows into offset [] w = (0, kept-same w)
head-grows into offset (n ∷ []) w =
    grows-if (kind_passes is_character_data w.forest n) w _ _
    (1, units_into-grown false into n 0 offset w)
    (copy-grows into n _ w (λ inner v. children-grow inner (take offset (children_of w.forest n)) v))
head-grows into offset (n ∷ m ∷ path) w =
    copy-grows into n _ w
    (λ inner v. grows-then (children-grow inner (up_to m (children_of w.forest n)) v) (head-grows inner offset (m ∷ path) (children_into false inner (up_to m (children_of w.forest n)) v)))

pub parts-grow : (into : ℕ) (r : Range) (w : World) → Grows w (parts_into false into r w)
parts-grow into r w =
    let tailed = tail_into false into r.start.offset (path_below w.forest (common_of w r) r.start.node) w in
    grows-then (grows-then (tail-grows into r.start.offset (path_below w.forest (common_of w r) r.start.node) w) (children-grow into (contained_children w r) tailed))
    (head-grows into r.end.offset (path_below w.forest (common_of w r) r.end.node) (children_into false into (contained_children w r) tailed))

drawn-grows : (r : Range) (w : World) → Grows w (contents_drawn false r w)
drawn-grows r w =
    let made = new_fragment (node_document w r.start.node) w in
    let begun : Grows w made = (1, new_fragment-grown (node_document w r.start.node) w) in
    grows-if (is_collapsed r) w made _ begun
    (grows-if (is_in_one_data w r) w _ _
    (grows-then begun (1, units_into-grown false w.made r.start.node r.start.offset (r.end.offset - r.start.offset) made))
    (grows-then begun (parts-grow w.made r made)))

pub clone_contents-grows : (r : ℕ) (w : World) → Grows w (clone_contents r w)
clone_contents-grows r w = go (range_at w r)
  where
    go : (range : Option Range) → Grows w (for_range range w (λ x. contents_drawn false x w))
    go None = (0, kept-same w)
    go (Some x) = drawn-grows x w
