pub mod PartsLemmas
pub mod WordsLemmas
pub mod BackLemmas
pub mod LineLemmas
pub mod LogLemmas
