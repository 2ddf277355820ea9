-- A listener over the connections of a pool.
use Rattle.std.specs.Prelude.{◌≡◌, ◌⊎◌, ◌<◌, ℕ, Bool, true, false, not, ◌&&◌, ◌||◌, is_some, unwrap_or, List, [], ◌∷◌, ◌++◌, map, Option, Some, None, Result, Ok, Err, IsSome}
use Rattle.futures.specs.declared.task.Poll.{Poll}
use Rattle.futures.specs.declared.task.Poll.TheVariants.{Ready, Pending}
use Rattle.pg_wire.specs.declared.error.Error.{Error}
use Rattle.pg_wire.specs.declared.message.notification_response.Notification.{Notification}
use Rattle.pg_stream.specs.Links.{LinkSeen}
use Rattle.pg_request.specs.Queries.{plain_text}
use Rattle.pg_call.specs.declared.request.Request.TheVariants as requests
use Rattle.pg_learning.specs.declared.learnt.Learnt.{Learnt}
use Rattle.pg_conn.specs.Connections.{ConnOf}
use Rattle.pg_listen.specs.Handed.{FillingOf, HeldOf}
use Rattle.pg_listening.specs.declared.channel_change.ChannelChange.{ChannelChange}
use Rattle.pg_listening.specs.declared.channel_change.ChannelChange.TheVariants as changes
use Rattle.pg_listening.specs.Channels.{listen_each_text}
use Rattle.pg_listening.specs.Buffers.{BuffersSeen, FailsBy, Hears}
use Rattle.pg_listening.specs.Listening.{ListeningOf, Starts, buffers_by, learnt_in, stored_behind}
use Rattle.pg_listening.specs.Leaving.{HeldIs, StartsIn}

-- What it holds and keeps, a change of its channels that is to be asked, a start-up on the way to its connection, the links that it lost, whether its
-- connection listens to all of its channels, whether the statement that is asked is the one that does, and whether a loss is yet to be told. Whether a
-- loss is told behind a reconnect, and whether it listens on in a pool that was closed.
pub record HearingOf (C S A : Type 0) : Type 0 where
  pub name : ℕ
  pub listening : ListeningOf C
  pub asked : Option ChannelChange
  pub startup : Option S
  pub lost : List A
  pub is_ready : Bool
  pub is_again : Bool
  pub is_lost : Bool
  pub is_eager : Bool
  pub ignores_close : Bool

module _ {C S A : Type 0} (seen : A → LinkSeen) (handed : C → HeldOf A) (filling : S → FillingOf A) where
  pub record IsHearing (h : HearingOf C S A) : Type 0 where
    pub held : HeldIs handed h.name h.listening.conn
    pub startup : StartsIn seen filling h.name h.startup
    pub ready : h.is_ready ≡ true → IsSome h.listening.conn
    pub again : h.is_again ≡ true → h.listening.behind ≡ None

-- one that has heard nothing yet, of a pool of this name
abbrev pub fresh_hearing : {C S A : Type 0} → ℕ → Bool → HearingOf C S A
fresh_hearing name ignores_close = record {
  name = name;
  listening = record { conn = None; earlier = []; channels = []; behind = None; is_asking = false };
  asked = None;
  startup = None;
  lost = [];
  is_ready = false;
  is_again = false;
  is_lost = false;
  is_eager = true;
  ignores_close = ignores_close;
}

-- ---- what is heard

-- what of it is told by what was heard: what it keeps, and the links that it lost
pub record HeardOf (A : Type 0) : Type 0 where
  pub name : ℕ
  pub buffers : BuffersSeen
  pub lost : List A
  pub is_eager : Bool
  pub ignores_close : Bool

module _ {C S A : Type 0} (seen : A → LinkSeen) (conn : C → ConnOf A) where
  abbrev pub buffers_of : HearingOf C S A → BuffersSeen
  buffers_of h = buffers_by conn seen h.listening

module _ {C S A : Type 0} (conn : C → ConnOf A) where
  -- what the connection that is held has learnt
  abbrev pub learnt_of : HearingOf C S A → Learnt
  learnt_of h = learnt_in conn h.listening.conn

module _ {C S A : Type 0} (seen : A → LinkSeen) (conn : C → ConnOf A) where
  abbrev pub heard_of : HearingOf C S A → HeardOf A
  heard_of h = record { name = h.name; buffers = buffers_of seen conn h; lost = h.lost; is_eager = h.is_eager; ignores_close = h.ignores_close }

-- These links were lost meanwhile, and this was given.
pub record HearsOver {A : Type 0} (seen : A → LinkSeen) (a b : HeardOf A) (gave : List Notification) : Type 0 where
  pub links : List A
  pub lost : b.lost ≡ a.lost ++ links
  pub hears : Hears (map seen links) a.buffers b.buffers gave
  pub name : b.name ≡ a.name
  pub settings : (b.is_eager ≡ a.is_eager) × (b.ignores_close ≡ a.ignores_close)

module _ {C S A : Type 0} (seen : A → LinkSeen) (conn : C → ConnOf A) where
  -- what was heard between two of its states
  abbrev pub HearsBy : HearingOf C S A → HearingOf C S A → List Notification → Type 0
  HearsBy a b gave = HearsOver seen (heard_of seen conn a) (heard_of seen conn b) gave

-- the notification that a poll gave
abbrev pub gave_by : Poll (Result (Option Notification) Error) → List Notification
gave_by (Ready (Ok (Some news))) = news ∷ []
gave_by answer = []

-- what is buffered is given before anything else is done
abbrev pub GivesOldest : List Notification → Poll (Result (Option Notification) Error) → Type 0
GivesOldest [] answer = Unit {0}
GivesOldest (oldest ∷ later) answer = answer ≡ Ready (Ok (Some oldest))

-- ---- losses

module _ {C A : Type 0} (seen : A → LinkSeen) (conn : C → ConnOf A) where
  -- its bytes have ended, or it has failed: in this, where its connection was held before
  abbrev pub FailedSince : Option C → A → Type 0
  FailedSince None link = (0 < (seen link).ends) ⊎ (0 < (seen link).faults)
  FailedSince (Some held) link = FailsBy (seen (conn held).stream.link) (seen link)

  -- a link was lost meanwhile that has failed
  pub record LosesOne (held : Option C) (before behind : List A) : Type 0 where
    pub link : A
    pub more : List A
    pub lost : behind ≡ before ++ link ∷ more
    pub failed : FailedSince held link

module _ {C S A : Type 0} (seen : A → LinkSeen) (conn : C → ConnOf A) where
  -- a loss that was told no sooner: one in this poll, or in an earlier one of its call
  abbrev pub IsUntold : HearingOf C S A → HearingOf C S A → Type 0
  IsUntold a b = (a.is_lost ≡ true) ⊎ LosesOne seen conn a.listening.conn a.lost b.lost

  -- None tells a loss, once
  abbrev pub TellsLoss : HearingOf C S A → HearingOf C S A → Poll (Result (Option Notification) Error) → Type 0
  TellsLoss a b (Ready (Ok None)) = (b.is_lost ≡ false) × IsUntold a b
  TellsLoss a b answer = b.is_lost ≡ true → IsUntold a b

-- the same of the second half of such a poll, which loses none
abbrev pub LossBehind : Poll (Result (Option Notification) Error) → Bool → Bool → Type 0
LossBehind (Ready (Ok None)) before behind = behind ≡ false
LossBehind answer before behind = behind ≡ before

module _ {C A : Type 0} (conn : C → ConnOf A) where
  -- the link of the connection that is held is lost first
  abbrev pub LosesHeld : Option C → List A → List A → Type 0
  LosesHeld None before behind = ⊥
  LosesHeld (Some held) before behind = (more : List A) × (behind ≡ before ++ (conn held).stream.link ∷ more)

  -- and that is told
  abbrev pub TellsHeld : Option C → List A → List A → Bool → Bool → Poll (Result (Option Notification) Error) → Type 0
  TellsHeld held before behind was is (Ready (Ok None)) = (is ≡ false) × LosesHeld held before behind
  TellsHeld held before behind was is answer = is ≡ true → (was ≡ true) ⊎ LosesHeld held before behind

module _ {C S A : Type 0} (conn : C → ConnOf A) (with_conn : C → ConnOf A → C) where
  -- The statement that listens to all of the channels runs already, or it was begun.
  abbrev pub AsksAgain : HearingOf C S A → HearingOf C S A → Type 0
  AsksAgain a b = ((a.is_again ≡ true) × (a.listening.is_asking ≡ true) × (b ≡ a)) ⊎ Starts conn with_conn (requests.Execute (plain_text (listen_each_text a.listening.channels))) a.listening.conn b.listening.conn

-- this holds at an Ok
abbrev pub OnReady : {X : Type 0} → Poll (Result X Error) → Type 0 → Type 0
OnReady (Ready (Ok x)) P = P
OnReady answer P = Unit {0}

-- ---- changes of the channels

-- several channels are stored before their statement is asked
abbrev pub stored_first : ChannelChange → List (List ℕ) → List (List ℕ)
stored_first (changes.ListenAll more) channels = channels ++ more
stored_first change channels = channels

abbrev pub is_stored_first : ChannelChange → Bool
is_stored_first (changes.ListenAll more) = true
is_stored_first change = false

-- the channels that an Ok of the change makes: of one that is yet to be asked, or of the statement that is asked
abbrev pub channels_behind_all : Option ChannelChange → Option (List (List ℕ)) → List (List ℕ) → List (List ℕ)
channels_behind_all (Some change) behind channels = unwrap_or (stored_behind change channels) channels
channels_behind_all None behind channels = unwrap_or behind channels

abbrev pub channels_at_ok : {C S A : Type 0} → HearingOf C S A → List (List ℕ)
channels_at_ok h = channels_behind_all h.asked h.listening.behind h.listening.channels

-- a change is yet to be asked, or its statement runs
abbrev pub is_changing : {C S A : Type 0} → HearingOf C S A → Bool
is_changing h = is_some h.asked || (h.listening.is_asking && not h.is_again)

-- an Ok makes these, and any other answer nothing; where it waits, it is to make the same
abbrev pub Changes : {C S A : Type 0} → List (List ℕ) → List (List ℕ) → HearingOf C S A → Poll (Result (Unit {0}) Error) → Type 0
Changes before wanted b (Ready (Ok u)) = b.listening.channels ≡ wanted
Changes before wanted b (Ready (Err e)) = b.listening.channels ≡ before
Changes before wanted b Pending = (b.listening.channels ≡ before) × (channels_at_ok b ≡ wanted) × (is_changing b ≡ true)
