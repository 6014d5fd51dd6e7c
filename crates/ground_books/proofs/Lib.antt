pub mod CauseLemmas
mod BuiltLemmas
mod ManifestLemmas
mod PlacedLemmas
