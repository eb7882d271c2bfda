pub mod Bounds
pub mod DateNumbers
pub mod Times
pub mod Forms
pub mod DurationLaws
pub mod HexLaws
pub mod UnitLaws
pub mod MemberLaws
pub mod HeldLaws
pub mod JoinedLaws
mod Examples
