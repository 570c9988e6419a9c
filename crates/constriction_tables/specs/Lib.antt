pub mod ModelRows
pub mod Table
pub mod lemmas
pub mod private
