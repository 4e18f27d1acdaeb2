pub mod Streams
pub mod MemorySourceView
pub mod MemorySinkView
pub mod Fuse
pub mod Laws
