pub mod CollectLemmas
pub mod ReadEntries
pub mod RowAnswers
pub mod Refilled
pub mod Remade
pub mod SlotWords
