pub mod FaultLists
pub mod FaultPlaces
pub mod FaultRows
pub mod Pointers
pub mod RecordLines
