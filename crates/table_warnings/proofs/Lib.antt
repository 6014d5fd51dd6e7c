pub mod WarningLemmas
pub mod RangeLemmas
pub mod NameLemmas
pub mod SplitLemmas
pub mod WarnedLemmas
