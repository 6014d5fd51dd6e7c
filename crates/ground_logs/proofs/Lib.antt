mod ComingLemmas
mod MakingLemmas
