pub mod RoomLaws
pub mod ReleaseLaws
pub mod HeldLaws
pub mod CallLaws
pub mod AskedLaws
