pub mod BitsLemmas
pub mod EntriesLemmas
pub mod NumbersLemmas
pub mod StoredWeightsLemmas
pub mod TablesLemmas
