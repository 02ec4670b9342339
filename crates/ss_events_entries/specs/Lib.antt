pub mod Digits
pub mod CallWork
pub mod CountedList
pub mod HeapEntries
pub mod HeapOrder
pub mod Slots
