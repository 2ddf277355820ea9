pub mod LevelLaws
pub mod JoinLaws
pub mod AddLaws
pub mod ArgumentLaws
pub mod PatchLaws
pub mod ElementLaws
pub mod IteratedLaws
pub mod CrossingLaws
