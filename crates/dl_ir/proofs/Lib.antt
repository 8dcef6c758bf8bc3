mod CellWrites
mod Edits
mod SortedEntries
mod Falling
mod Filing
mod Joining
pub mod Keeping
pub mod Lookups
mod CountedEdits
mod Mapped
pub mod Members
pub mod NameOrder
mod Padding
mod Present
mod StartHeap
mod Seals
mod Starts
mod Search
pub mod Subsets
mod TableEdits
pub mod Totals
