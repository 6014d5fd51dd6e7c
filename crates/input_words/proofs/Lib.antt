mod CounterLemmas
mod InputLemmas
mod HoldLemmas
