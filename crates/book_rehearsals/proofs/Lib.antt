mod NumberedLemmas
mod ShelfLemmas
mod BookLemmas
mod LeftLemmas
mod BeginningLemmas
