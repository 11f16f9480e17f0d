pub mod FaultLemmas
pub mod SaysFaultLemmas
