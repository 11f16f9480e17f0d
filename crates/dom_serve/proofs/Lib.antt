pub mod AppendsLemmas
pub mod IsCalledLemmas
pub mod ByLineLemmas
pub mod LinesLemmas
pub mod GrowsLemmas
pub mod FedLemmas
pub mod ServesPiecesLemmas
