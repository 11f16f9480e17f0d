-- Trees as they stand in a world, told by the kinds, the data and the children of their nodes: trees of the same tops have one shape, and
-- trees stand on where none of their nodes is touched.
use Rattle.std.proofs.Common.{◌≡◌, ℕ, ◌<◌, if◌then◌else◌, List, [], Option, Some, IsSome, refl, ap, sym, ◌∙◌, subst}
use Rattle.std.proofs.lemmas.Bool.{cond_both}
use Rattle.dom_model.specs.Definitions.{Label, is_character_data, Attribute, Entry, children_in, Node, Forest, empty, node, occurs, tops, beside, entry_in, children_of, Lies, EachNode, Content, World, entry_has, kind_passes, content_in, data_of}
use Rattle.dom_model.proofs.Forests.Entries.{occurs-HasNode}
use Rattle.dom_model.proofs.MutationAlgorithms.Extending.{tag_in, tag_at}
use Rattle.dom_model.proofs.RangesAndContents.Drawing.{Extends}
use Rattle.dom_model.proofs.TokenText.{Fragments.Shapes.tree_shape, Fragments.OpensInStep.EachOf, Fragments.OpensInStep.each-append, Fragments.OpensInStep.tree_nodes, Fragments.OpensInStep.tree_numbers}

-- its label and attributes
abbrev pub tag_of : Node Content → (Option Label) × (List Attribute)
tag_of x = (Some x.label, x.body.attributes)

-- a node as it is in a world
pub record IsAs (v : World) (x : Node Content) (kids : List ℕ) : Type 0 where
  pub there : 0 < occurs x.number v.forest
  pub kind : kind_passes is_character_data v.forest x.number ≡ is_character_data x.label.kind
  pub text : data_of v x.number ≡ x.body.text
  pub tag : tag_at v.forest x.number ≡ tag_of x
  pub children : children_of v.forest x.number ≡ kids

abbrev pub Stands : World → Forest Content → Type 0
Stands v empty = Unit {0}
Stands v (node x kids rest) = IsAs v x (tops kids) × Stands v kids × Stands v rest

-- the forest of a world stands there, and so do its trees
pub stands-lies : (v : World) (q : Option ℕ) (f : Forest Content) → Lies (entry_in v.forest) q f → Stands v f
stands-lies v q empty l = tt
stands-lies v q (node x kids rest) l =
    let e = l.0 in (
      record {
        there = occurs-HasNode v.forest x.number (subst (λ (o : Option (Entry (Node Content))). IsSome o) (sym e) refl);
        kind = ap (entry_has is_character_data) e;
        text = ap (λ (o : Option (Entry (Node Content))). (content_in o).text) e;
        tag = ap tag_in e;
        children = ap children_in e;
      },
      stands-lies v (Some x.number) kids l.1,
      stands-lies v q rest l.2,
    )

pub stands-beside : (v : World) (f g : Forest Content) → Stands v f → Stands v g → Stands v (beside f g)
stands-beside v empty g h k = k
stands-beside v (node x kids rest) g h k = (h.0, h.1, stands-beside v rest g h.2 k)

-- trees of the same tops have one shape
pub stands-shape : (v : World) (f g : Forest Content) → Stands v f → Stands v g → tops f ≡ tops g → tree_shape f ≡ tree_shape g
stands-shape v empty empty h k e = refl
stands-shape v (node x kids rest) (node y ys others) h k e =
    let i = h.0 in
    let j = k.0 in
    let r : tops rest ≡ tops others = cc e in
    let kinds : is_character_data x.label.kind ≡ is_character_data y.label.kind = cc in
    let texts : x.body.text ≡ y.body.text = cc in
    rw (kinds, texts, stands-shape v kids ys h.1 k.1 (cc), stands-shape v rest others h.2 k.2 r) refl
stands-shape v f g h k e = absurd (cc e)

-- and the same nodes
pub stands-numbers : (v : World) (f g : Forest Content) → Stands v f → Stands v g → tops f ≡ tops g → tree_numbers f ≡ tree_numbers g
stands-numbers v empty empty h k e = refl
stands-numbers v (node x kids rest) (node y ys others) h k e =
    let i = h.0 in
    let j = k.0 in
    let d : x.number ≡ y.number = cc e in
    let kinds : is_character_data x.label.kind ≡ is_character_data y.label.kind = cc in
    rw (d, kinds, stands-numbers v kids ys h.1 k.1 (cc), stands-numbers v rest others h.2 k.2 (cc e)) refl
stands-numbers v f g h k e = absurd (cc e)

-- each of them has there the label and the attributes that it has
pub stands-tags : (v : World) (f : Forest Content) → Stands v f → EachOf (λ (x : Node Content). tag_at v.forest x.number ≡ tag_of x) (tree_nodes f)
stands-tags v empty h = tt
stands-tags v (node x kids rest) h =
    let i = h.0 in
    let tagged = λ (ys : List (Node Content)). EachOf (λ (y : Node Content). tag_at v.forest y.number ≡ tag_of y) ys in (
      i.tag,
      each-append (λ (y : Node Content). tag_at v.forest y.number ≡ tag_of y) (if is_character_data x.label.kind then [] else tree_nodes kids) (tree_nodes rest)
          (cond_both (is_character_data x.label.kind) [] (tree_nodes kids) tagged (λ t. tt) (λ t. stands-tags v kids h.1)) (stands-tags v rest h.2),
    )

-- a node's data and children are as they were
pub record Keeps (v u : World) (x : ℕ) : Type 0 where
  pub text : data_of u x ≡ data_of v x
  pub children : children_of u.forest x ≡ children_of v.forest x

pub keeps-then : (v u y : World) (x : ℕ) → Keeps v u x → Keeps u y x → Keeps v y x
keeps-then v u y x a b = record { text = b.text ∙ a.text; children = b.children ∙ a.children }

-- trees stand on
pub stands-kept : (v u : World) → Extends v u → (P : ℕ → Type 0) → ((x : ℕ) → P x → 0 < occurs x v.forest → Keeps v u x) → (f : Forest Content) → EachNode (λ x. P x.number) f → Stands v f → Stands u f
stands-kept v u e P keeps empty p h = tt
stands-kept v u e P keeps (node x kids rest) p h =
    let i = h.0 in
    let k = keeps x.number p.0 i.there in (
      record {
        there = e.there x.number i.there;
        kind = e.kinds is_character_data x.number i.there ∙ i.kind;
        text = k.text ∙ i.text;
        tag = e.tags x.number i.there ∙ i.tag;
        children = k.children ∙ i.children;
      },
      stands-kept v u e P keeps kids p.1 h.1,
      stands-kept v u e P keeps rest p.2 h.2,
    )
