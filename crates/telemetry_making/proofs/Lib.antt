pub mod MakingLemmas
pub mod CounterLemmas
pub mod AnswerLemmas
