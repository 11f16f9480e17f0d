-- What holds of every world that commands reach: all that it names stands in its forest, and every live range, iterator and registration is in order.
-- DOM Standard, "Trees", "Boundary points", "Live ranges", "Interface NodeIterator", "Interface TreeWalker", "Mutation observers".
use Rattle.std.specs.Prelude.{◌≡◌, ◌<◌, ◌≤◌, false, Option, All, IfSome}
use Rattle.std.specs.declared.cmp.Ordering.TheVariants.{Greater}
use Rattle.dom_model.specs.declared.Kind.TheVariants.{DocumentType}
use Rattle.dom_model.specs.PlainLists.Lists.{hits}
use Rattle.dom_model.specs.Forests.Forest.{Forest, HasNode, root_of, inclusive_descendants, IsForest}
use Rattle.dom_model.specs.Worlds.World.{Content, Point, Range, Iterator, Walker, Registration, World}
use Rattle.dom_model.specs.BoundaryPoints.Points.{order_of}
use Rattle.dom_model.specs.Forests.Nodes.{is_of_kind}
use Rattle.dom_model.specs.Worlds.Lengths.{unit_count, node_length}

-- a boundary point: a node of the forest that is no doctype, and an offset within its length
pub record IsBoundary (f : Forest Content) (p : Point) : Type 0 where
  pub there : HasNode f p.node
  pub kind : is_of_kind DocumentType f p.node ≡ false
  pub within : p.offset ≤ node_length unit_count f p.node

-- a live range: two boundary points of one root, of which the start does not come after the end
pub record IsRange (f : Forest Content) (r : Range) : Type 0 where
  pub starts : IsBoundary f r.start
  pub ends : IsBoundary f r.end
  pub one_root : root_of f r.start.node ≡ root_of f r.end.node
  pub in_order : order_of f r.start r.end ≡ Greater → ⊥

-- an iterator: its reference is an inclusive descendant of its root
pub record IsIterator (f : Forest Content) (i : Iterator) : Type 0 where
  pub root : HasNode f i.root
  pub inside : 0 < hits i.reference (inclusive_descendants f i.root)

-- a walker: both its nodes are there; the current one may stand anywhere
pub record IsWalker (f : Forest Content) (k : Walker) : Type 0 where
  pub root : HasNode f k.root
  pub current : HasNode f k.current

-- a registration: its node is there, and that of the source of a transient one
pub record IsRegistration (f : Forest Content) (r : Registration) : Type 0 where
  pub node : HasNode f r.node
  pub source : IfSome r.source (HasNode f)

-- both nodes of a static range are there; nothing is asked of its offsets
pub record AreHeld (f : Forest Content) (r : Range) : Type 0 where
  pub start : HasNode f r.start.node
  pub end : HasNode f r.end.node

-- a sound world
pub record IsSound (w : World) : Type 0 where
  pub forest : IsForest (record { forest = w.forest; made = w.made })
  pub ranges : All (λ (r : Option Range). IfSome r (IsRange w.forest)) w.ranges
  pub iterators : All (λ (i : Option Iterator). IfSome i (IsIterator w.forest)) w.iterators
  pub walkers : All (λ (k : Option Walker). IfSome k (IsWalker w.forest)) w.walkers
  pub registrations : All (IsRegistration w.forest) w.observing.registrations
  pub statics : All (λ (r : Option Range). IfSome r (AreHeld w.forest)) w.static_ranges
