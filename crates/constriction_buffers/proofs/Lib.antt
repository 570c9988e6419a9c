pub mod Relending
