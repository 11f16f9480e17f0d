pub mod CellReadLemmas
pub mod CellsLemmas
pub mod PageCountLemmas
pub mod PageWriteLemmas
pub mod PagesLemmas
