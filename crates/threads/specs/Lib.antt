-- The crate's definitions. A file that the promises do not need says so at its head.
pub mod Divided
pub mod LoopEnds
pub mod WorkerLoops
pub mod PollerLoops
pub mod Served
