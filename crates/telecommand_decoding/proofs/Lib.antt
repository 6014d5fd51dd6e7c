pub mod DecodingLemmas
pub mod LoadLemmas
