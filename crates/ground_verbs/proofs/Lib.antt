pub mod SaidLemmas
pub mod FoundLemmas
