-- What the crate proves beyond its functions.
mod Lifting
mod Steps
