pub mod HeaderMapLemmas
