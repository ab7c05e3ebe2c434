pub mod Masks
pub mod Rooms
pub mod Slots
pub mod Arrays
pub mod Lent
