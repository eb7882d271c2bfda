pub mod Channels
pub mod ComingAnswers
pub mod Cutting
pub mod PiecesUnderWay
