-- How many numbers the copies of the parts of a range take, told by the forest before the first of them.
use Rattle.std.proofs.Common.{◌≡◌, ℕ, zero, suc, ◌+◌, ◌-◌, ◌<◌, ◌≤◌, ◌==◌, Bool, true, false, if◌then◌else◌, List, [], ◌∷◌, length, take, drop, None, ap, ◌∙◌, arith}
use Rattle.std.proofs.lemmas.Bool.{cond_both}
use Rattle.dom_model.specs.Definitions.{children_in, is_character_data, Forest, empty, size, tree_at, map_nodes, children_of, substring, Content, World, past, up_to, kind_passes, node_document, append, data_of, with_data, original, document_of_clone, clone_node, new_fragment, clone_with, units_into, children_into, copy_into, tail_into, head_into}
use Rattle.dom_model.proofs.Forests.{Totals.total-beside, ForestsBeside.EachOf, ForestsBeside.AreUnder, ForestsBeside.IsBelow, ForestsBeside.absent-from, ForestsBeside.under-below, ForestsBeside.children-each, ForestsBeside.entry-older, ForestsBeside.tree_at-older}
use Rattle.dom_model.proofs.RangesAndContents.PathsApart.{along}
use Rattle.dom_model.proofs.DataAndCopies.CopiesBeside.{StandsBeside, append-beside, copies-beside, made-beside}
use Rattle.dom_model.proofs.Counting.{CountsKept.IsGrown, CountsKept.grown-then, CountsKept.grown-more, CountsKept.kept-same, CountsKept.append-kept, CountsOfContents.with_copies-grown, CountsOfContents.clone_alone-grown, CountsOfContents.units_into-grown, CountsOfContents.new_fragment-grown}

-- Parts of a list.

each-past : (P : ℕ → Type 0) (n : ℕ) (ns : List ℕ) → EachOf P ns → EachOf P (past n ns)
each-past P n [] h = tt
each-past P n (m ∷ ns) h = cond_both (m == n) _ _ (EachOf P) (λ _. h.1) (λ _. each-past P n ns h.1)

each-up_to : (P : ℕ → Type 0) (n : ℕ) (ns : List ℕ) → EachOf P ns → EachOf P (up_to n ns)
each-up_to P n [] h = tt
each-up_to P n (m ∷ ns) h = cond_both (m == n) _ _ (EachOf P) (λ _. tt) (λ _. (h.0, each-up_to P n ns h.1))

each-drop : (P : ℕ → Type 0) (k : ℕ) (ns : List ℕ) → EachOf P ns → EachOf P (drop k ns)
each-drop P zero ns h = h
each-drop P (suc k) [] h = tt
each-drop P (suc k) (n ∷ ns) h = each-drop P k ns h.1

each-take : (P : ℕ → Type 0) (k : ℕ) (ns : List ℕ) → EachOf P ns → EachOf P (take k ns)
each-take P zero ns h = tt
each-take P (suc k) [] h = tt
each-take P (suc k) (n ∷ ns) h = (h.0, each-take P k ns h.1)

-- the nodes in the trees of a list of numbers
abbrev pub tree_sizes : Forest Content → List ℕ → ℕ
tree_sizes f ns = along (λ n. size (tree_at n f)) ns

-- what the part from an offset of the path's last node on takes
abbrev pub tail_cost : Forest Content → ℕ → List ℕ → ℕ
tail_cost f offset [] = 0
tail_cost f offset (n ∷ []) = 2 + tree_sizes f (drop offset (children_of f n))
tail_cost f offset (n ∷ m ∷ path) = 2 + (tail_cost f offset (m ∷ path) + tree_sizes f (past m (children_of f n)))

-- what the part up to an offset of the path's last node takes
abbrev pub head_cost : Forest Content → ℕ → List ℕ → ℕ
head_cost f offset [] = 0
head_cost f offset (n ∷ []) = 2 + tree_sizes f (take offset (children_of f n))
head_cost f offset (n ∷ m ∷ path) = 2 + (tree_sizes f (up_to m (children_of f n)) + head_cost f offset (m ∷ path))

module _ (f : Forest Content) (low : ℕ) (below : IsBelow low f) where
  -- a world with the older trees as they were gives out numbers, and the older trees stay
  pub record IsCopied (more : ℕ) (u v : World) : Type 0 where
    pub grown : IsGrown more u v
    pub beside : StandsBeside f low v

  pub copied-then : (j k : ℕ) {u v w : World} → IsCopied j u v → (StandsBeside f low v → IsCopied k v w) → IsCopied (j + k) u w
  copied-then j k g h = let i = h g.beside in record { grown = grown-then j k g.grown i.grown; beside = i.beside }

  copied-more : (j k : ℕ) {u v : World} → j ≤ k → IsCopied j u v → IsCopied k u v
  copied-more j k l g = record { grown = grown-more j k l g.grown; beside = g.beside }

  append-copied : (n p : ℕ) (v : World) → low ≤ n → low ≤ p → StandsBeside f low v → IsCopied 0 v (append n p v)
  append-copied n p v h k s = record { grown = append-kept n p v; beside = append-beside f low below n p v h k s }

  -- the children of an older node are as they were
  pub kids-same : (n : ℕ) (v : World) → n < low → StandsBeside f low v → children_of v.forest n ≡ children_of f n
  kids-same n v l s =
      ap (λ (g : Forest Content). children_of g n) s.spelled ∙ ap children_in (entry-older n f s.others (absent-from low n s.others s.from l))

  pub kids-under : (n : ℕ) → AreUnder low (children_of f n)
  kids-under n = children-each (λ m. m < low) n None f (under-below low f below)

  size-same : (n : ℕ) (v : World) → n < low → StandsBeside f low v → size (tree_at n v.forest) ≡ size (tree_at n f)
  size-same n v l s =
      let a = ap (λ (g : Forest Content). size (tree_at n g)) s.spelled in
      let b = ap (λ (g : Forest Content). size g) (tree_at-older n f s.others (absent-from low n s.others s.from l)) in
      let c = total-beside (λ _. 1) (tree_at n f) empty in
      omega arith

  pub children-copied : (into : ℕ) (ns : List ℕ) (v : World) → low ≤ into → AreUnder low ns → StandsBeside f low v → IsCopied (tree_sizes f ns) v (children_into false into ns v)
  children-copied into [] v l k s = record { grown = kept-same v; beside = s }
  children-copied into (n ∷ ns) v l k s =
      let copied = clone_node true n v in
      let more = size (tree_at n f) in
      let g : IsCopied more v copied = record {
        grown = grown-more _ more (omega (arith, size-same n v k.0 s)) (with_copies-grown (document_of_clone v n) (original true n v.forest) v);
        beside = copies-beside f low below (document_of_clone v n) (original true n v.forest) v s;
      } in
      copied-more (more + 0 + tree_sizes f ns) (tree_sizes f (n ∷ ns)) (omega arith)
      (copied-then (more + 0) (tree_sizes f ns) (copied-then more 0 g (λ t. append-copied v.made into copied s.made l t))
      (λ t. children-copied into ns (append v.made into copied) l k.1 t))

  pub units-copied : (into n offset count : ℕ) (v : World) → low ≤ into → StandsBeside f low v → IsCopied 1 v (units_into false into n offset count v)
  units-copied into n offset count v l s =
      let units = substring offset count (data_of v n) in
      let t = copies-beside f low below (node_document v n) (map_nodes (with_data units) (original false n v.forest)) v s in
      record { grown = units_into-grown false into n offset count v; beside = append-beside f low below v.made into (clone_with units n v) s.made l t }

  -- a copy and a further fragment, and what fills it
  copy-copied : (more into n : ℕ) (fill : ℕ → World → World) (v : World) → low ≤ into → StandsBeside f low v → ((inner : ℕ) (u : World) → low ≤ inner → StandsBeside f low u → IsCopied more u (fill inner u)) → IsCopied (2 + more) v (copy_into into n fill v)
  copy-copied more into n fill v l s h =
      let copied = clone_node false n v in
      let held = append v.made into copied in
      let begun = new_fragment (node_document v n) held in
      let a : IsCopied 1 v copied = record { grown = clone_alone-grown n v; beside = copies-beside f low below (document_of_clone v n) (original false n v.forest) v s } in
      let b : IsCopied 1 v held = copied-then 1 0 a (λ t. append-copied v.made into copied s.made l t) in
      let inner : low ≤ held.made = b.beside.made in
      let c : IsCopied 2 v begun = copied-then 1 1 b (λ t. record { grown = new_fragment-grown (node_document v n) held; beside = made-beside f low below (node_document v n) _ _ held t }) in
      copied-more (2 + more + 0) (2 + more) (omega arith)
      (copied-then (2 + more) 0 (copied-then 2 more c (λ t. h held.made begun inner t)) (λ t. append-copied held.made v.made (fill held.made begun) inner s.made t))

  copied-if : (more : ℕ) (b : Bool) (w u v : World) → IsCopied more w u → IsCopied more w v → IsCopied more w (if b then u else v)
  copied-if more true w u v g h = g
  copied-if more false w u v g h = h

  -- some children of an older node
  part-copied : (part : List ℕ → List ℕ) → ((ns : List ℕ) → AreUnder low ns → AreUnder low (part ns)) → (into n : ℕ) (v u : World) → low ≤ into → n < low → StandsBeside f low v → StandsBeside f low u → IsCopied (tree_sizes f (part (children_of f n))) u (children_into false into (part (children_of v.forest n)) u)
  part-copied part keeps into n v u l k s t =
      rw (kids-same n v k s) (children-copied into (part (children_of f n)) u l (keeps (children_of f n) (kids-under n)) t)

  pub tail-copied : (into offset : ℕ) (path : List ℕ) (v : World) → low ≤ into → AreUnder low path → StandsBeside f low v → IsCopied (tail_cost f offset path) v (tail_into false into offset path v)
  tail-copied into offset [] v l k s = record { grown = kept-same v; beside = s }
  tail-copied into offset (n ∷ []) v l k s =
      let more = tree_sizes f (drop offset (children_of f n)) in
      copied-if (2 + more) (kind_passes is_character_data v.forest n) v _ _
      (copied-more 1 (2 + more) (omega arith) (units-copied into n offset (length (data_of v n) - offset) v l s))
      (copy-copied more into n _ v l s (λ inner u h t. part-copied (λ ns. drop offset ns) (each-drop (λ m. m < low) offset) inner n v u h k.0 s t))
  tail-copied into offset (n ∷ m ∷ path) v l k s =
      let more = tree_sizes f (past m (children_of f n)) in
      copy-copied (tail_cost f offset (m ∷ path) + more) into n _ v l s
      (λ inner u h t. copied-then (tail_cost f offset (m ∷ path)) more (tail-copied inner offset (m ∷ path) u h k.1 t)
      (λ t2. part-copied (λ ns. past m ns) (each-past (λ x. x < low) m) inner n v (tail_into false inner offset (m ∷ path) u) h k.0 s t2))

  pub head-copied : (into offset : ℕ) (path : List ℕ) (v : World) → low ≤ into → AreUnder low path → StandsBeside f low v → IsCopied (head_cost f offset path) v (head_into false into offset path v)
  head-copied into offset [] v l k s = record { grown = kept-same v; beside = s }
  head-copied into offset (n ∷ []) v l k s =
      let more = tree_sizes f (take offset (children_of f n)) in
      copied-if (2 + more) (kind_passes is_character_data v.forest n) v _ _
      (copied-more 1 (2 + more) (omega arith) (units-copied into n 0 offset v l s))
      (copy-copied more into n _ v l s (λ inner u h t. part-copied (λ ns. take offset ns) (each-take (λ m. m < low) offset) inner n v u h k.0 s t))
  head-copied into offset (n ∷ m ∷ path) v l k s =
      let more = tree_sizes f (up_to m (children_of f n)) in
      copy-copied (more + head_cost f offset (m ∷ path)) into n _ v l s
      (λ inner u h t. copied-then more (head_cost f offset (m ∷ path))
      (part-copied (λ ns. up_to m ns) (each-up_to (λ x. x < low) m) inner n v u h k.0 s t)
      (λ t2. head-copied inner offset (m ∷ path) (children_into false inner (up_to m (children_of v.forest n)) u) h k.1 t2))
