-- What a listener has read of notifications, over one connection after another, and what it has given of them
-- (PostgreSQL manual, "SQL Commands": LISTEN; "Message Flow", "Asynchronous Operations": NotificationResponse).
use Rattle.std.specs.Prelude.{◌≡◌, ◌⊎◌, true, List, [], ◌∷◌, ◌++◌, Option, Some, None}
use Rattle.pg_wire.specs.declared.message.notification_response.Notification.{Notification}
use Rattle.pg_wire.specs.Frame.{Frame}
use Rattle.pg_stream.specs.Links.{LinkSeen, NoneFalls, Rose}
use Rattle.pg_stream.specs.Notifications.{KeptSeen, NotifiesAll}
use Rattle.pg_stream.specs.Streams.{StreamSeen, Takes}

-- What is read and not given yet: on connections that are lost, oldest first, and then on the present one.
pub record BuffersSeen : Type 0 where
  pub earlier : List Notification
  pub stream : Option StreamSeen

abbrev pub kept_on : Option StreamSeen → List Notification
kept_on None = []
kept_on (Some s) = s.notifications.kept

abbrev pub buffered : BuffersSeen → List Notification
buffered b = b.earlier ++ kept_on b.stream

-- none is kept yet, and those that come are
abbrev pub news_begun : KeptSeen
news_begun = record { keeping = true; kept = [] }

-- Between two states of a stream frames were taken that tell these.
pub record ReadsOn (a b : StreamSeen) (news : List Notification) : Type 0 where
  pub frames : List Frame
  pub counts : NoneFalls a.link b.link
  pub read : Takes a b frames
  pub told : NotifiesAll frames news

-- the same of a connection that may have been taken up meanwhile
abbrev pub ReadsTo : Option StreamSeen → StreamSeen → List Notification → Type 0
ReadsTo None b news = (a : StreamSeen) × (a.notifications ≡ news_begun) × ReadsOn a b news
ReadsTo (Some a) b news = ReadsOn a b news

-- nothing was read where there was no connection
abbrev pub IsUnread : Option StreamSeen → List Notification → Type 0
IsUnread None news = news ≡ []
IsUnread (Some a) news = ⊥

-- a connection was lost behind these, whose link this is; or a start-up over this link has failed
abbrev pub LosesOn : Option StreamSeen → LinkSeen → List Notification → Type 0
LosesOn a link news = ((b : StreamSeen) × ReadsTo a b news × (b.link ≡ link)) ⊎ IsUnread a news

-- These links were lost, one after another. These were read from their connections, in order, and then from the present one.
abbrev pub ReadsOver : List LinkSeen → Option StreamSeen → Option StreamSeen → List Notification → Type 0
ReadsOver [] None None news = news ≡ []
ReadsOver [] (Some a) None news = ⊥
ReadsOver [] a (Some b) news = ReadsTo a b news
ReadsOver (link ∷ lost) a b news = (first : List Notification) × (later : List Notification) × LosesOn a link first × ReadsOver lost None b later × (news ≡ first ++ later)

-- What was given, followed by what is buffered behind, is what was buffered before, followed by what was read: in order, and once.
pub record Hears (lost : List LinkSeen) (a b : BuffersSeen) (gave : List Notification) : Type 0 where
  pub news : List Notification
  pub over : ReadsOver lost a.stream b.stream news
  pub told : gave ++ buffered b ≡ buffered a ++ news

-- between two states of a link its bytes have ended, or it has failed
abbrev pub FailsBy : LinkSeen → LinkSeen → Type 0
FailsBy a b = Rose a.ends b.ends ⊎ Rose a.faults b.faults
