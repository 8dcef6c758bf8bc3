mod Pairs
mod Moved
mod Places
mod Walk
