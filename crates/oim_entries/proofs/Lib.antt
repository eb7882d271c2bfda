pub mod FieldFacts
pub mod EntryFacts
pub mod TypeFacts
pub mod WordLaws
pub mod PublishedFaults
pub mod WholeFileLaws
pub mod KindLaws
mod ExamplesFiles
mod ExamplesTypes
