pub mod CallLaws
pub mod CopyLaws
