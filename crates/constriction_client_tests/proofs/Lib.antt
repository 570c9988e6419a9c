mod KnownRuns
mod SliceReading
