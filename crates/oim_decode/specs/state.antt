pub mod RowEnds
pub mod Blocks
pub mod Heads
pub mod PieceAnswers
pub mod RowTexts
pub mod RowParts
