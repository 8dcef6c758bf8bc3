mod Declared
mod Words
