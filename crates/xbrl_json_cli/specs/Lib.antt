pub mod DocumentMarks
pub mod JsonPlaces
pub mod RecordCounts
pub mod state
