pub mod KeptIds
pub mod Decoding
pub mod Progressing
pub mod Streams
pub mod RowFacts
