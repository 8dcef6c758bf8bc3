pub mod Numbers
pub mod Pieces
pub mod Cuts
pub mod State
pub mod WritingLemmas
pub mod Loops
