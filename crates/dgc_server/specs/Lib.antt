pub mod Chunks
pub mod Counts
pub mod Entry
pub mod HolderIndex
pub mod Marks
pub mod Numbers
pub mod StandsForCalls
pub mod Table
