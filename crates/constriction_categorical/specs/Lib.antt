pub mod Cdf
pub mod InOrder
pub mod Made
pub mod ModelRows
pub mod lemmas
pub mod private
