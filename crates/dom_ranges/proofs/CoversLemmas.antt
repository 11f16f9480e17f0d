-- Which nodes are covered once more are: what is said of keys.
pub use Rattle.dom_chains.proofs.CoversLemmas.{covers-to, covers-new, covered_to-length}
