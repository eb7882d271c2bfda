mod OwnFaults
mod FirstFaults
mod RowCells
mod ReadRows
mod RowSteps
mod ListRows
mod Examples
mod ExamplesReading
