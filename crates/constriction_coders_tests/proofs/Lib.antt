mod LentWords
mod OwnModels
mod Pairs
mod Shown
mod TwoStates
mod Words
