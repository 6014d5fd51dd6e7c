pub mod MadeLemmas
pub mod CauseLemmas
pub mod VerbLemmas
