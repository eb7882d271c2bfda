pub mod ViewSums
pub mod ClaimSteps
pub mod ViewShares
pub mod PoppedSeats
pub mod LongerLists
pub mod StoppedWorkers
mod Examples
