pub mod Ends
pub mod SlotTable
pub mod Slots
pub mod Stored
pub mod lemmas
pub mod private
