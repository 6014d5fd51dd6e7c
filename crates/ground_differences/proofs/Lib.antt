mod ComparedLemmas
mod DifferenceLemmas
mod FrameLemmas
mod SameLemmas
mod WrittenLemmas
