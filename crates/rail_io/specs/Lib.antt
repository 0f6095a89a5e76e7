pub mod Folders
pub mod Sinks
pub mod InMemory
pub mod MemoryFiles
pub mod Sure
pub mod OnDisk
pub mod Wholes
