pub mod Searches
pub mod Strips
pub mod Rising
pub mod Counted
pub mod Bound
pub mod Unrepeated
pub mod Placed
pub mod ReadOrder
pub mod Ordered
pub mod OwnUris
pub mod OwnTexts
mod Examples
mod ExamplesBytes
mod ExamplesFaults
mod ExamplesShapes
mod ExamplesWalk
pub mod LeastFault
pub mod FirstFinding
pub mod Joined
pub mod FaultSteps
pub mod TemplateFaults
pub mod DocumentFaults
pub mod TableFaults
pub mod ReportFaults
pub mod FirstFound
pub mod Refused
pub mod TextLaws
pub mod ShapeLaws
pub mod PartLaws
