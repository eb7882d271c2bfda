mod FolderFacts
mod MetadataFacts
mod ReadingLaws
mod StepFacts
mod Examples
