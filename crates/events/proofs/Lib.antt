pub mod EventLemmas
pub mod PlaceLemmas
