pub mod CountLaws
pub mod AnswerLaws
pub mod ScriptLaws
