pub mod FoundLemmas
pub mod SaidLemmas
pub mod CommandLemmas
