pub mod Charsets
pub mod CharLines
pub mod Conversion
pub mod Streams
pub mod PlainLines
