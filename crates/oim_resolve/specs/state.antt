pub mod ProgramDimensions
pub mod ProgramLevels
pub mod ProgramFaults
pub mod ProgramValues
pub mod ProgramCell
