mod EndLemmas
mod HashLemmas
