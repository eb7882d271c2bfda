pub mod Bridge
pub mod Weeks
pub mod Rows
pub mod Order
pub mod OnlyOne
pub mod Written
pub mod Split
pub mod WholeDays
pub mod Ends
mod Examples
mod ExamplesLateYears
pub mod Found
pub mod FoundDays
pub mod FoundMoments
pub mod FoundPeriods
pub mod WrittenText
pub mod DateTexts
