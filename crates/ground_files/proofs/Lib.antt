pub mod InputLemmas
pub mod PlaceLemmas
pub mod ReadLemmas
pub mod WriteLemmas
