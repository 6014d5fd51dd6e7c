pub mod TelemetryLemmas
pub mod PlaceLemmas
pub mod ReadBackLemmas
