mod Faults
mod Going
mod Covered
