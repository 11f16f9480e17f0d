-- The world: all that a session stands for, and the first of them.
-- DOM Standard, "Nodes", "Ranges", "Traversal", "Mutation observers".
use Rattle.std.specs.Prelude.{ℕ, List, [], Bool, Option, Some, None}
use Rattle.dom_model.specs.declared.Kind.TheVariants.{Document}
use Rattle.dom_model.specs.declared.Verdict.{Verdict}
use Rattle.dom_model.specs.declared.RecordType.{RecordType}
use Rattle.dom_model.specs.Forests.Kinds.{Label}
use Rattle.dom_model.specs.Forests.Attributes.{Attribute}
use Rattle.dom_model.specs.Forests.Arena.{Entry}
use Rattle.dom_model.specs.Forests.Forest.{Node, Forest, empty, node, entry_in}

-- data in UTF-16 units, and attributes in their order
pub record Content : Type 0 where
  pub text : List ℕ
  pub attributes : List Attribute

-- a boundary point
pub record Point : Type 0 where
  pub node : ℕ
  pub offset : ℕ

pub record Range : Type 0 where
  pub start : Point
  pub end : Point

-- a name or `*`, and what the filter says of nodes of that name
pub record FilterRule : Type 0 where
  pub name : List ℕ
  pub verdict : Verdict

pub record Filter : Type 0 where
  pub show : ℕ
  pub rules : List FilterRule

pub record Iterator : Type 0 where
  pub root : ℕ
  pub reference : ℕ
  pub before : Bool
  pub filter : Filter

pub record Walker : Type 0 where
  pub root : ℕ
  pub current : ℕ
  pub filter : Filter

-- settled options of a registration
pub record Options : Type 0 where
  pub child_list : Bool
  pub attributes : Bool
  pub character_data : Bool
  pub subtree : Bool
  pub attribute_old_value : Bool
  pub character_data_old_value : Bool
  pub attribute_filter : Option (List (List ℕ))

-- a registered observer on a node; a transient one has the node of its source registration
pub record Registration : Type 0 where
  pub node : ℕ
  pub observer : ℕ
  pub options : Options
  pub source : Option ℕ

-- a change, and the registrations that stood on the target's inclusive ancestors then, from the target upwards
pub record Mutation : Type 0 where
  pub type : RecordType
  pub target : ℕ
  pub name : Option (List ℕ)
  pub old_value : Option (List ℕ)
  pub added : List ℕ
  pub removed : List ℕ
  pub previous : Option ℕ
  pub next : Option ℕ
  pub standing : List Registration

-- the observing part: one flat list of registrations, one list of mutations, for each observer the place in that list
-- up to which its records were taken (None where the observer was released), and the place of the last notify
pub record Observing : Type 0 where
  pub registrations : List Registration
  pub mutations : List Mutation
  pub places : List (Option ℕ)
  pub notified : ℕ

pub record World : Type 0 where
  pub forest : Forest Content
  pub made : ℕ
  -- ranges, iterators, walkers and static ranges that were released are None
  pub ranges : List (Option Range)
  pub iterators : List (Option Iterator)
  pub walkers : List (Option Walker)
  pub observing : Observing
  pub static_ranges : List (Option Range)

abbrev pub no_content : Content
no_content = record { text = []; attributes = [] }

abbrev pub document_label : Label
document_label = record { kind = Document; name = []; public_id = []; system_id = [] }

-- the first world: one Document, numbered 0
abbrev pub first_world : World
first_world = record {
  forest = node (record { number = 0; document = 0; label = document_label; body = no_content }) empty empty;
  made = 1;
  ranges = [];
  iterators = [];
  walkers = [];
  observing = record { registrations = []; mutations = []; places = []; notified = 0 };
  static_ranges = [];
}

-- a node of the world, where it stands
abbrev pub value_of : Option (Entry (Node Content)) → Option (Node Content)
value_of None = None
value_of (Some e) = Some e.value

abbrev pub node_of : World → ℕ → Option (Node Content)
node_of w n = value_of (entry_in w.forest n)
