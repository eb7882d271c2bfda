pub mod Blocks
pub mod Laws
pub mod Apart
pub mod Pieces
pub mod PieceAnswers
pub mod Heads
pub mod state
