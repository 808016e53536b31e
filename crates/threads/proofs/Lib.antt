pub mod Divided
pub mod WorkerLoops
pub mod PollerLoops
pub mod Served
