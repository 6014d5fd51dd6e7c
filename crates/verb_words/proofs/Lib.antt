pub mod PlainLemmas
pub mod SimpleLemmas
