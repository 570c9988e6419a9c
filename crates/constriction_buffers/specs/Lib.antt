pub mod Buffer
pub mod lemmas
