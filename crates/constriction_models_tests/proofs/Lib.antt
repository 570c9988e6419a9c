mod DistinctLemmas
mod EvenLemmas
