pub mod BufferingLaws
pub mod ChangingLaws
pub mod ClosedLaws
pub mod DialLaws
pub mod FailingLaws
pub mod HearingLaws
pub mod NamingLaws
pub mod PollLaws
pub mod QueryingLaws
pub mod ReleasingLaws
pub mod SourceLaws
pub mod TellingLaws
pub mod WaitingLaws
pub mod BufferLaws
mod HeldLaws
pub mod ListeningLaws
pub mod OpenLaws
mod SaveLaws
mod AloneLaws
mod AnswerLaws
mod BesideLaws
mod ConnectingLaws
mod DescribingLaws
mod ReleaseLaws
