-- The fragment of extracted and of cloned contents, told by parts of the tree and joined with what lies between the markers.
pub mod Shapes
pub mod OpensInStep
pub mod AppendedChildren
pub mod StandingTrees
pub mod SteppedTrees
pub mod DrawnTrees
pub mod DrawnNodes
pub mod DrawnCopies
pub mod DrawnTails
pub mod NodesAside
pub mod DrawnParts
pub mod MatchedParts
pub mod OpensAround
pub mod FragmentsBetween
pub mod OriginsBetween
