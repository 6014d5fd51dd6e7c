pub mod BytesLemmas
pub mod HeaderLemmas
pub mod AddressLemmas
pub mod LoadedLemmas
pub mod FileLemmas
pub mod TakenLemmas
pub mod RoundLemmas
