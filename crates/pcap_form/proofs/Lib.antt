pub mod CaptureLemmas
