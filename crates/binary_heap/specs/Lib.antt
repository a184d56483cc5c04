-- What the buyer must believe of the queue.
pub mod Entry
pub mod Sift
pub mod Heap
pub mod Queue
