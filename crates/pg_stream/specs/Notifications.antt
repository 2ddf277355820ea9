-- The notifications that a stream keeps (PostgreSQL manual, "Message Flow", "Asynchronous Operations": NotificationResponse).
use Rattle.std.specs.Prelude.{◌≡◌, ℕ, Bool, true, false, List, [], ◌∷◌, ◌++◌, Option, None, Some, option_to_list}
use Rattle.pg_wire.specs.declared.message.notification_response.Notification.{Notification}
use Rattle.pg_wire.specs.Frame.{Frame}
use Rattle.pg_wire.specs.Backend.{NotificationResponse}
use Rattle.pg_stream.specs.Parameters.{Carries}

pub record KeptSeen : Type 0 where
  -- whether those that come are kept
  pub keeping : Bool
  -- those kept, oldest first
  pub kept : List Notification

abbrev pub none_kept : KeptSeen
none_kept = record { keeping = false; kept = [] }

-- those kept where keeping begins or ends, which lets all go
abbrev pub keeping_from : Bool → KeptSeen → KeptSeen
keeping_from true k = record k { keeping = true }
keeping_from false k = none_kept

-- the oldest one is taken, if there is one
abbrev pub TakesOldest : KeptSeen → KeptSeen → Option Notification → Type 0
TakesOldest a b (Some n) = a ≡ record b { kept = n ∷ b.kept }
TakesOldest a b None = (a.kept ≡ []) × (b ≡ a)

-- the frame tells this notification, or none
abbrev pub Notifies : Frame → Option Notification → Type 0
Notifies frame (Some n) = Carries frame (NotificationResponse n.process_id n.channel n.payload)
Notifies frame None = (process : ℕ) (channel payload : List ℕ) → Carries frame (NotificationResponse process channel payload) → ⊥

-- the frames tell these, in order
abbrev pub NotifiesAll : List Frame → List Notification → Type 0
NotifiesAll [] news = news ≡ []
NotifiesAll (frame ∷ frames) news = (first : Option Notification) × (later : List Notification) × Notifies frame first × NotifiesAll frames later × (news ≡ option_to_list first ++ later)

-- behind those kept before, where they are kept
abbrev pub kept_behind : Bool → List Notification → List Notification → List Notification
kept_behind true news kept = kept ++ news
kept_behind false news kept = kept

abbrev pub with_news : List Notification → KeptSeen → KeptSeen
with_news news k = record k { kept = kept_behind k.keeping news k.kept }

-- what is kept behind one more frame
abbrev pub KeepsBy : Frame → KeptSeen → KeptSeen → Type 0
KeepsBy frame a b = (news : Option Notification) × Notifies frame news × (b ≡ with_news (option_to_list news) a)

-- the same behind several, in order
abbrev pub KeepsByAll : List Frame → KeptSeen → KeptSeen → Type 0
KeepsByAll frames a b = (news : List Notification) × NotifiesAll frames news × (b ≡ with_news news a)
