mod SilentLemmas
mod DraftLemmas
mod LogLemmas
mod SettlingLemmas
