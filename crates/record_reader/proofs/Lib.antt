-- The crate's lemmas.
mod Accounts
mod Beginnings
mod Moments
mod Sequences
