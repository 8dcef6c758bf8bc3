-- What the contracts of the program speak of.
pub mod Words
pub mod Numbers
pub mod Wanted
pub mod Reading
pub mod Status
pub mod Texts
pub mod Causes
pub mod Loading
pub mod Told
pub mod Promise
pub mod Scheduled
pub mod Work
pub mod Wishes
