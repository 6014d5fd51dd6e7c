pub mod FaultLemmas
pub mod FoundLemmas
pub mod ReadLemmas
pub mod LoadingLemmas
pub mod CheckedLemmas
