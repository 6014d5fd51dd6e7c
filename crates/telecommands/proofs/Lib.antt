pub mod CommandLemmas
pub mod PlaceLemmas
pub mod ReadBackLemmas
