mod CutLemmas
mod ContentsLemmas
mod NamingLemmas
mod FilesLemmas
mod BooksLemmas
mod ManifestLemmas
