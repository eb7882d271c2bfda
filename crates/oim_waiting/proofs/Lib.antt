mod Examples
pub mod CallLaws
pub mod RoomLaws
pub mod TurnLaws
