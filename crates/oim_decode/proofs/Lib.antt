pub mod Cuts
pub mod Advances
pub mod RowLaws
pub mod PlainLaws
pub mod RowPartLaws
pub mod Settled
pub mod TwiceLaw
pub mod ApartLaws
mod PieceLaws
pub mod PieceSteps
pub mod RowCounts
pub mod RowCuts
pub mod RepeatedIds
pub mod BlockLists
pub mod HeadLaws
pub mod JoinLaws
mod ExamplesPieces
mod Examples
