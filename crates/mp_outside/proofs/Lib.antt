pub mod CallLemmas
pub mod FileLemmas
pub mod ReadLemmas
pub mod ShelfLemmas
pub mod SinkLemmas
