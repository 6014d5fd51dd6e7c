pub mod ShownLemmas
pub mod ReadLemmas
pub mod PlainLemmas
