mod PairLemmas
mod UnwantedLemmas
