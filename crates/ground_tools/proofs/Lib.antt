mod TellingLemmas
mod WovenLemmas
pub mod Appending
mod SurveyLemmas
