-- What a step of drawing contents brings into a fragment, told by the trees that then stand under it; and two such steps one after another.
-- DOM Standard, "Interface Range": extract, clone the contents.
use Rattle.std.proofs.Common.{◌≡◌, ℕ, ◌+◌, ◌<◌, ◌≤◌, Bool, true, false, if◌then◌else◌, List, [], ◌∷◌, ◌++◌, refl, ap, sym, ◌∙◌, subst, arith, append_assoc, append-nil, ◌⊎◌, inl, inr, None}
use Rattle.dom_model.specs.Definitions.{hits, is_character_data, Node, Forest, empty, node, occurs, tops, size, beside, children_of, EachNode, Content, World, renumbered, Token, Open, Close, opened_in, InStep, IsInsertable, is_fragment, kind_passes, may_be_parent, is_kind}
use Rattle.dom_model.specs.declared.Kind.TheVariants.{DocumentFragment}
use Rattle.dom_model.proofs.Forests.{Climbing.hits-append, EachNode.EachNode-beside, Tops.tops-beside}
use Rattle.dom_model.proofs.MutationAlgorithms.Extending.{tag_at}
use Rattle.dom_model.proofs.RangesAndContents.{Drawing.IsDrawing, Drawing.Extends, Drawing.extends-same, Drawing.extends-then, Drawing.IsHolder, Drawing.holder-extends, Drawing.IsComing, Drawing.may_come, Drawing.passes_there, DrawnPieces.is_drawn, DrawnPieces.drawn-fragment, DrawnPieces.new-greater, DrawnPieces.coming}
use Rattle.dom_model.proofs.TokenText.{Fragments.Shapes.shape, Fragments.Shapes.shape-append, Fragments.Shapes.tree_shape, Fragments.Shapes.tree_shape-beside, Fragments.OpensInStep.EachOf, Fragments.OpensInStep.each-map, Fragments.OpensInStep.each-both, Fragments.OpensInStep.steps-if, Fragments.OpensInStep.steps-left, Fragments.OpensInStep.steps-self, Fragments.OpensInStep.steps-of, Fragments.OpensInStep.numbers-nodes, Fragments.OpensInStep.steps-append, Fragments.OpensInStep.opened_in-append, Fragments.OpensInStep.tree_nodes, Fragments.OpensInStep.tree_numbers, Fragments.OpensInStep.tree_nodes-beside, Fragments.StandingTrees.tag_of, Fragments.StandingTrees.Stands, Fragments.StandingTrees.stands-beside, Fragments.StandingTrees.Keeps, Fragments.StandingTrees.keeps-then, Fragments.StandingTrees.stands-kept}
use Rattle.dom_model.proofs.Soundness.SoundForests.{passes-also}

-- a new node, or an old one that is nowhere on the ways to the ends
abbrev pub IsSafe : ℕ → List ℕ → ℕ → ℕ → Type 0
IsSafe low bad made x = (made ≤ x) ⊎ ((x < low) × (hits x bad ≡ 0))

pub each-weaker : (P Q : ℕ → Type 0) → ((x : ℕ) → P x → Q x) → (f : Forest Content) → EachNode (λ x. P x.number) f → EachNode (λ x. Q x.number) f
each-weaker P Q h empty p = tt
each-weaker P Q h (node x kids rest) p = (h x.number p.0, each-weaker P Q h kids p.1, each-weaker P Q h rest p.2)

-- new trees are safe
pub copies-safe : (low : ℕ) (bad : List ℕ) (made document next : ℕ) (g : Forest Content) → made ≤ next → EachNode (λ x. IsSafe low bad made x.number) (renumbered document next g)
copies-safe low bad made document next empty l = tt
copies-safe low bad made document next (node x kids rest) l =
    (inl l, copies-safe low bad made document (next + 1) kids (omega arith), copies-safe low bad made document (next + 1 + size kids) rest (omega arith))

-- What comes in for a node's open: the node itself, where nodes are moved and it is on no way to an end, and else a new one.
abbrev pub IsFrom : Bool → ℕ → List ℕ → ℕ → ℕ → Type 0
IsFrom moves low bad n m = ((moves ≡ true) × (hits n bad ≡ 0) × (m ≡ n)) ⊎ (((moves ≡ false) ⊎ (0 < hits n bad)) × (low ≤ m))

abbrev pub NodeFrom : Bool → ℕ → List ℕ → ℕ → Node Content → Type 0
NodeFrom moves low bad n x = IsFrom moves low bad n x.number

-- trees that come in as they are
pub steps-itself : (low : ℕ) (bad : List ℕ) (f : Forest Content) → EachNode (λ x. (x.number < low) × (hits x.number bad ≡ 0)) f → InStep (NodeFrom true low bad) (tree_numbers f) (tree_nodes f)
steps-itself low bad empty p = tt
steps-itself low bad (node x kids rest) p = (
  inl (refl, p.0.1, refl),
  steps-if (NodeFrom true low bad) (is_character_data x.label.kind) (tree_numbers kids) (tree_numbers rest) (tree_nodes kids) (tree_nodes rest)
      (steps-itself low bad kids p.1) (steps-itself low bad rest p.2),
)

-- and copies of them
pub steps-copies : (low : ℕ) (bad : List ℕ) (document next : ℕ) (f : Forest Content) → low ≤ next → InStep (NodeFrom false low bad) (tree_numbers f) (tree_nodes (renumbered document next f))
steps-copies low bad document next empty l = tt
steps-copies low bad document next (node x kids rest) l =
    let below = renumbered document (next + 1) kids in
    let beside_it = renumbered document (next + 1 + size kids) rest in (
      inr (inl refl, l),
      steps-if (NodeFrom false low bad) (is_character_data x.label.kind) (tree_numbers kids) (tree_numbers rest) (tree_nodes below) (tree_nodes beside_it)
          (steps-copies low bad document (next + 1) kids (omega arith)) (steps-copies low bad document (next + 1 + size kids) rest (omega arith)),
    )

-- what stands for a node has its label and attributes
abbrev pub TagFrom : World → ℕ → Node Content → Type 0
TagFrom w n x = tag_at w.forest n ≡ tag_of x

abbrev pub SameTag : Node Content → Node Content → Type 0
SameTag x y = tag_of x ≡ tag_of y

copies-tags : (document next : ℕ) (f : Forest Content) → InStep SameTag (tree_nodes f) (tree_nodes (renumbered document next f))
copies-tags document next empty = tt
copies-tags document next (node x kids rest) =
    let below = renumbered document (next + 1) kids in
    let beside_it = renumbered document (next + 1 + size kids) rest in (
      refl,
      steps-if SameTag (is_character_data x.label.kind) (tree_nodes kids) (tree_nodes rest) (tree_nodes below) (tree_nodes beside_it)
          (copies-tags document (next + 1) kids) (copies-tags document (next + 1 + size kids) rest),
    )

-- the nodes of trees are labelled as in a world
abbrev pub AreTagged : World → Forest Content → Type 0
AreTagged w f = EachOf (λ (x : Node Content). tag_at w.forest x.number ≡ tag_of x) (tree_nodes f)

pub tags-itself : (w : World) (f : Forest Content) → AreTagged w f → InStep (TagFrom w) (tree_numbers f) (tree_nodes f)
tags-itself w f h = subst (λ ns. InStep (TagFrom w) ns (tree_nodes f)) (numbers-nodes f) (steps-self (TagFrom w) (λ (x : Node Content). x.number) (tree_nodes f) h)

pub tags-copies : (w v : World) (document next : ℕ) (f g : Forest Content) → AreTagged w f → AreTagged v f → AreTagged v g → tree_numbers g ≡ tree_numbers f → InStep (TagFrom w) (tree_numbers f) (tree_nodes (renumbered document next g))
tags-copies w v document next f g hw hv k e =
    steps-left (TagFrom v) (TagFrom w) (λ n. tag_at w.forest n ≡ tag_at v.forest n) (tree_numbers f) (tree_nodes (renumbered document next g)) (λ n x i j. i ∙ j) same
    (subst (λ ns. InStep (TagFrom v) ns (tree_nodes (renumbered document next g))) (numbers-nodes g ∙ e)
    (steps-of (TagFrom v) (λ (x : Node Content). x.number) (tree_nodes g) (tree_nodes (renumbered document next g))
    (steps-left SameTag (λ x y. TagFrom v x.number y) (λ (x : Node Content). tag_at v.forest x.number ≡ tag_of x) (tree_nodes g) (tree_nodes (renumbered document next g)) (λ x y i j. i ∙ j) k (copies-tags document next g))))
  where
    same : EachOf (λ n. tag_at w.forest n ≡ tag_at v.forest n) (tree_numbers f)
    same =
        subst (λ ns. EachOf (λ n. tag_at w.forest n ≡ tag_at v.forest n) ns) (numbers-nodes f)
        (each-map (λ n. tag_at w.forest n ≡ tag_at v.forest n) (λ (x : Node Content). x.number) (tree_nodes f)
        (each-both (λ (x : Node Content). tag_at w.forest x.number ≡ tag_of x) (λ (x : Node Content). tag_at v.forest x.number ≡ tag_of x) (λ (x : Node Content). tag_at w.forest x.number ≡ tag_at v.forest x.number) (tree_nodes f) (λ x i j. i ∙ sym j) hw hv))

-- a node without children, and one around trees
pub steps-one : (related : ℕ → Node Content → Type 0) (n : ℕ) (x : Node Content) → related n x → InStep related (n ∷ []) (tree_nodes (node x empty empty))
steps-one related n x h = go (is_character_data x.label.kind)
  where
    go : (v : Bool) → InStep related (n ∷ []) (x ∷ ((if v then [] else []) ++ []))
    go true = (h, tt)
    go false = (h, tt)

pub steps-around : (related : ℕ → Node Content → Type 0) (n : ℕ) (x : Node Content) (kids : Forest Content) (ts : List Token) → is_character_data x.label.kind ≡ false → related n x → InStep related (opened_in ts) (tree_nodes kids) → InStep related (opened_in (Open n ∷ (ts ++ (Close ∷ [])))) (tree_nodes (node x kids empty))
steps-around related n x kids ts no_data h k =
    rw no_data (h, subst (λ ns. InStep related ns (tree_nodes kids ++ [])) (sym (opened_in-append ts (Close ∷ []))) (steps-append related (opened_in ts) [] (tree_nodes kids) [] k tt))

-- Trees of the shape of some tokens have come under a node, in step with the tokens' opens. Of the nodes that were there only that node and
-- those of a list are touched.
pub record Drew (w : World) (moves : Bool) (low : ℕ) (bad touched : List ℕ) (v u : World) (into : ℕ) (ts : List Token) : Type 0 where
  pub trees : Forest Content
  pub stands : Stands u trees
  pub added : children_of u.forest into ≡ children_of v.forest into ++ tops trees
  pub shaped : tree_shape trees ≡ shape ts
  pub steps : InStep (NodeFrom moves low bad) (opened_in ts) (tree_nodes trees)
  pub tagged : InStep (TagFrom w) (opened_in ts) (tree_nodes trees)
  pub safe : EachNode (λ x. IsSafe low bad v.made x.number) trees
  pub keeps : (x : ℕ) → 0 < occurs x v.forest → (x ≡ into → ⊥) → hits x touched ≡ 0 → Keeps v u x
  pub drawing : IsDrawing low u
  pub extends : Extends v u

-- nothing is drawn
pub drew-none : (w : World) (moves : Bool) (low : ℕ) (bad touched : List ℕ) (v : World) (into : ℕ) → IsDrawing low v → Drew w moves low bad touched v v into []
drew-none w moves low bad touched v into d = record {
  trees = empty;
  stands = tt;
  added = sym (append-nil (children_of v.forest into));
  shaped = refl;
  steps = tt;
  tagged = tt;
  safe = tt;
  keeps = λ x h ne z. record { text = refl; children = refl };
  drawing = d;
  extends = extends-same v;
}

-- tokens of the same shape and opens, and more nodes that may be touched
pub drew-as : (w : World) (moves : Bool) (low : ℕ) (bad touched more : List ℕ) (v u : World) (into : ℕ) (ts us : List Token) → shape ts ≡ shape us → opened_in ts ≡ opened_in us → ((x : ℕ) → hits x more ≡ 0 → hits x touched ≡ 0) → Drew w moves low bad touched v u into ts → Drew w moves low bad more v u into us
drew-as w moves low bad touched more v u into ts us e o m d = record {
  trees = d.trees;
  stands = d.stands;
  added = d.added;
  shaped = d.shaped ∙ e;
  steps = subst (λ ns. InStep (NodeFrom moves low bad) ns (tree_nodes d.trees)) o d.steps;
  tagged = subst (λ ns. InStep (TagFrom w) ns (tree_nodes d.trees)) o d.tagged;
  safe = d.safe;
  keeps = λ x h ne z. d.keeps x h ne (m x z);
  drawing = d.drawing;
  extends = d.extends;
}

-- nodes of the ways: old ones
pub record AreOld (low : ℕ) (bad touched : List ℕ) : Type 0 where
  pub old : (x : ℕ) → low ≤ x → hits x bad ≡ 0
  pub within : (x : ℕ) → hits x bad ≡ 0 → hits x touched ≡ 0

-- trees that came stand where the next ones come
pub safe-kept : (low : ℕ) (bad touched : List ℕ) → AreOld low bad touched → (made : ℕ) (v u : World) (into : ℕ) → low ≤ into → into < made → low ≤ made → Extends v u → ((x : ℕ) → 0 < occurs x v.forest → (x ≡ into → ⊥) → hits x touched ≡ 0 → Keeps v u x) →
    (f : Forest Content) → EachNode (λ x. IsSafe low bad made x.number) f → Stands v f → Stands u f
safe-kept low bad touched o made v u into l lt b e keeps f safe h = stands-kept v u e (IsSafe low bad made) each f safe h
  where
    each : (x : ℕ) → IsSafe low bad made x → 0 < occurs x v.forest → Keeps v u x
    each x (inl i) k = keeps x k (λ d. omega arith) (o.within x (o.old x (omega arith)))
    each x (inr i) k = keeps x k (λ d. let a = i.0 in omega arith) (o.within x i.1)

-- a new node that came in as the first copy, on its way into a node
pub record IsCopy (low : ℕ) (v u : World) (into : ℕ) : Type 0 where
  pub holder : IsHolder low u into
  pub comes : IsComing low u into v.made
  pub fits : IsInsertable u.forest v.made into None
  pub alone : is_fragment u v.made ≡ false

pub is_copy : (low : ℕ) (v u : World) (into : ℕ) → IsDrawing low v → IsHolder low v into → IsDrawing low u → Extends v u → kind_passes is_drawn u.forest v.made ≡ true → IsCopy low v u into
is_copy low v u into d k du e drawn =
    let holder = holder-extends low v u into e k in
    let comes = coming low u into v.made drawn (inr (new-greater low v d into (passes_there may_be_parent v.forest into k.kind))) in
    record {
      holder = holder;
      comes = comes;
      fits = may_come low u du into v.made holder comes;
      alone = passes-also is_drawn (is_kind DocumentFragment) false drawn-fragment u.forest v.made drawn;
    }

steps-beside : (related : ℕ → Node Content → Type 0) (ts us : List Token) (f g : Forest Content) → InStep related (opened_in ts) (tree_nodes f) → InStep related (opened_in us) (tree_nodes g) → InStep related (opened_in (ts ++ us)) (tree_nodes (beside f g))
steps-beside related ts us f g h k =
    rw (opened_in-append ts us, tree_nodes-beside f g) (steps-append related (opened_in ts) (opened_in us) (tree_nodes f) (tree_nodes g) h k)

-- one step after another
pub drew-then : (w : World) (moves : Bool) (low : ℕ) (bad first second : List ℕ) → AreOld low bad second → (v u y : World) (into : ℕ) (ts us : List Token) → low ≤ into → into < v.made → low ≤ v.made → Drew w moves low bad first v u into ts → Drew w moves low bad second u y into us → Drew w moves low bad (first ++ second) v y into (ts ++ us)
drew-then w moves low bad first second o v u y into ts us l lt b d e = record {
  trees = beside d.trees e.trees;
  stands = stands-beside y d.trees e.trees (safe-kept low bad second o v.made u y into l lt b e.extends e.keeps d.trees d.safe d.stands) e.stands;
  added =
      e.added
      ∙ ap (λ ns. ns ++ tops e.trees) d.added
      ∙ append_assoc (children_of v.forest into) (tops d.trees) (tops e.trees)
      ∙ ap (λ ns. children_of v.forest into ++ ns) (sym (tops-beside d.trees e.trees));
  shaped =
      tree_shape-beside d.trees e.trees
      ∙ ap (λ xs. xs ++ tree_shape e.trees) d.shaped
      ∙ ap (λ xs. shape ts ++ xs) e.shaped
      ∙ sym (shape-append ts us);
  steps = steps-beside (NodeFrom moves low bad) ts us d.trees e.trees d.steps e.steps;
  tagged = steps-beside (TagFrom w) ts us d.trees e.trees d.tagged e.tagged;
  safe =
      EachNode-beside (λ x. IsSafe low bad v.made x.number) d.trees e.trees d.safe
      (each-weaker (IsSafe low bad u.made) (IsSafe low bad v.made) later e.trees e.safe);
  keeps = λ x h ne z.
      let c = hits-append x first second in
      keeps-then v u y x (d.keeps x h ne (omega arith)) (e.keeps x (there x h) ne (omega arith));
  drawing = e.drawing;
  extends = extends-then v u y d.extends e.extends;
}
  where
    there : (x : ℕ) → 0 < occurs x v.forest → 0 < occurs x u.forest
    there x h = let a = d.extends in a.there x h

    later : (x : ℕ) → IsSafe low bad u.made x → IsSafe low bad v.made x
    later x (inl i) = let a = d.extends in let m = a.made in inl (omega arith)
    later x (inr i) = inr i
