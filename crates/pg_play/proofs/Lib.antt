pub mod WaitLaws
pub mod CallLaws
pub mod FirstLaws
pub mod ThroughLaws
pub mod FeedingLaws
pub mod CutLaws
pub mod PartLaws
pub mod PartingLaws
pub mod StepLaws
pub mod PlaceLaws
pub mod ShownLaws
pub mod ToldLaws
pub mod ColumnLaws
pub mod ExchangeLaws
pub mod CauseLaws
pub mod LawfulLaws
pub mod KnownLaws
pub mod NextLaws
pub mod RepliesLaws
pub mod SettleLaws
pub mod CopyLaws
pub mod SettledLaws
pub mod UncopiedLaws
pub mod LinkLaws
pub mod CompleteLaws
pub mod WaitPlaceLaws
pub mod IdleLaws
pub mod DueLaws
pub mod CalledLaws
pub mod InTurnLaws
pub mod PlayLaws
pub mod StartLaws
pub mod TopLaws
pub mod RefutedLaws
mod KeptLaws
mod BehindLaws
mod NumberLaws
pub mod BeforeLaws
pub mod ForgetLaws
mod FollowLaws
mod NameLaws
mod ChainLaws
mod LockLaws
