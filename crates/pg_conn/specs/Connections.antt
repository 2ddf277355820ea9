-- What is seen of a connection, and what its calls that ask nothing of the link make of it.
use Rattle.std.specs.Prelude.{◌≡◌, ℕ, Bool, true, false, is_some, not, List, [], ◌++◌, Option, Some, None, ◌+◌, ◌-◌, ◌^◌, ◌∷◌, ◌&&◌, ◌||◌, ◌==◌, nat_eq, leb, ltb, min, length, if◌then◌else◌}
use Rattle.pg_call.specs.declared.kind.Change.TheVariants as changes
use Rattle.pg_call.specs.declared.kind.Change.{Change}
use Rattle.pg_call.specs.declared.request.Request.TheVariants as requests
use Rattle.pg_call.specs.declared.kind.Keeping.TheVariants as keepings
use Rattle.pg_call.specs.declared.kind.Keeping.{Keeping}
use Rattle.pg_call.specs.Requests.{spelled, copy_fail, kind_of, change_of, keeping_of}
use Rattle.pg_request.specs.declared.progress.CacheStep.{CacheStep}
use Rattle.pg_request.specs.declared.progress.CacheStep.TheVariants as steps
use Rattle.pg_conn.specs.Statements.{asked_by, begun_as, held_by, moved, unmoved, step_of}
use Rattle.pg_request.specs.Queries.{plain_text}
use Rattle.pg_request.specs.Texts.{rollback_text}
use Rattle.pg_rule.specs.declared.rule.Rule.{Rule}
use Rattle.pg_learning.specs.declared.learnt.Learnt.{Learnt}
use Rattle.pg_learning.specs.Learning.{learnt_none, unnamed_types}
use Rattle.pg_rule.specs.Rules.{new_rule}
use Rattle.pg_wire.specs.Frontend.{FrontendMessage, Query, CopyData, CopyDone, CopyFail}
use Rattle.pg_wire.specs.declared.error.Error.{Error}
use Rattle.pg_wire.specs.declared.error.Error.TheVariants as errors
use Rattle.pg_wire.specs.declared.error.ProtocolFault.TheVariants as protocol
use Rattle.pg_wire.specs.declared.error.ServerFault.{ServerFault}
use Rattle.pg_stream.specs.Links.{LinkSeen}
use Rattle.pg_stream.specs.Streams.{StreamOf, stream_by}
use Rattle.pg_call.specs.declared.ledger.Ledger.{Ledger}
use Rattle.pg_call.specs.declared.calling.Call.{Call}
use Rattle.pg_call.specs.declared.calling.Call.TheVariants as calls
use Rattle.pg_call.specs.declared.request.Request.{Request}
use Rattle.pg_call.specs.Hearing.{awaits, fed_whole}
use Rattle.pg_call.specs.Calls.{owes_none, owes_own}

-- A connection over a link, or over what is seen of one.
pub record ConnOf (A : Type 0) : Type 0 where
  pub stream : StreamOf A
  -- the replies that are owed: Query and Sync messages queued, less ReadyForQuery taken
  pub ledger : Ledger
  pub call : Call
  -- what is known of the session: how many transactions and savepoints are open, and which statements are kept
  pub rule : Rule
  -- what the end of the last call makes of them where it is Ok; nothing, once it has come
  pub change : Change
  -- what the end of the exchange that runs makes of the statements that are kept
  pub keeping : Keeping
  -- what the call has made of them so far
  pub cache : CacheStep
  -- how many advisory locks are held by guards, or are being taken for one
  pub held : ℕ
  -- what was looked up of types and of the names of columns
  pub learnt : Learnt
  -- the fault by which the server broke the connection
  pub broken : Option ServerFault
  -- groups queued in the exchange that runs and in those before it, and frames heard, since the last call began, each up to u64's greatest value
  pub groups : ℕ
  pub earlier : ℕ
  pub heard : ℕ
  -- bytes up to the end of start-up
  pub sent : ℕ
  pub read : ℕ

-- what no beat of an exchange changes of what its end is to make of the session, and of what the call has made of it
pub record Standing : Type 0 where
  pub change : Change
  pub keeping : Keeping
  pub cache : CacheStep
  pub held : ℕ
  pub earlier : ℕ

abbrev pub standing : {A : Type 0} → ConnOf A → Standing
standing c = record { change = c.change; keeping = c.keeping; cache = c.cache; held = c.held; earlier = c.earlier }

abbrev pub ConnSeen : Type 0
ConnSeen = ConnOf LinkSeen

abbrev pub seen_by : {A : Type 0} → (A → LinkSeen) → ConnOf A → ConnSeen
seen_by f c = record { stream = stream_by f c.stream; ledger = c.ledger; call = c.call; rule = c.rule; change = c.change; keeping = c.keeping; cache = c.cache; held = c.held; learnt = c.learnt; broken = c.broken; groups = c.groups; earlier = c.earlier; heard = c.heard; sent = c.sent; read = c.read }

-- behind start-up, before any call, where so many statements may be kept
abbrev pub fresh_connection : {A : Type 0} → ℕ → StreamOf A → ℕ → ℕ → ConnOf A
fresh_connection capacity stream sent read = record { stream = stream; ledger = owes_none; call = calls.Idle; rule = new_rule capacity; change = changes.Stays; keeping = keepings.Stays; cache = steps.Same; held = 0; learnt = learnt_none; broken = None; groups = 0; earlier = 0; heard = 0; sent = sent; read = read }

abbrev pub runs : Call → Bool
runs calls.Idle = false
runs _ = true

abbrev pub idle : {A : Type 0} → ConnOf A → ConnOf A
idle c = record c { call = calls.Idle }

-- ---- transactions

abbrev pub opens : Change → Bool
opens changes.Opens = true
opens _ = false

-- so many are open behind an Ok, where the call had queued so many groups
abbrev pub depth_behind : Change → ℕ → ℕ → ℕ
depth_behind changes.Opens groups depth = if nat_eq groups 0 then depth else min (depth + 1) (2 ^ 64 - 1)
depth_behind changes.Closes groups depth = depth - 1
depth_behind changes.Stays groups depth = depth
depth_behind changes.Copies groups depth = depth
depth_behind changes.Fed groups depth = depth

-- so many are open then
abbrev pub with_depth : ℕ → Rule → Rule
with_depth depth rule = record rule { depth = depth }

-- behind an Ok
abbrev pub settled : {A : Type 0} → ConnOf A → ConnOf A
settled c = record c { rule = moved c.keeping (with_depth (depth_behind c.change c.groups c.rule.depth) c.rule); cache = step_of c.keeping c.cache; change = changes.Stays; keeping = keepings.Stays }

-- behind another end the statements are as after an Ok where the group was queued, and else as if nothing was asked
abbrev pub restated : {A : Type 0} → ConnOf A → ConnOf A
restated c = if nat_eq c.groups 0 then record c { rule = unmoved c.keeping c.rule } else record c { rule = moved c.keeping c.rule; cache = step_of c.keeping c.cache }

-- a begin that has queued its group, outside of any transaction: it may open one
abbrev pub may_open : Change → ℕ → ℕ → Bool
may_open change groups depth = not (nat_eq groups 0) && (nat_eq depth 0 && opens change)

-- a Query that rolls back, so many staying open
abbrev pub rollback : ℕ → List FrontendMessage
rollback left = Query (rollback_text left) ∷ []

-- there is room for this frame, and for one reply more
abbrev pub has_room_for : {A : Type 0} → List ℕ → ConnOf A → Bool
has_room_for frame c = leb (length frame) c.stream.spare && ltb c.ledger.owed (2 ^ 64 - 1)

-- A group is queued out of that room, for which no call waits. Where no reply was owed its own is the first, for which no CopyFail was queued.
abbrev pub with_group : {A : Type 0} → List ℕ → ConnOf A → ConnOf A
with_group frame c = record c {
  stream = record c.stream { unsent = c.stream.unsent ++ frame; spare = c.stream.spare - length frame };
  ledger = record { owed = c.ledger.owed + 1; is_copy_failed = not (nat_eq c.ledger.owed 0) && c.ledger.is_copy_failed };
  groups = min (c.groups + 1) (2 ^ 64 - 1);
}

abbrev pub queued_group : {A : Type 0} → List ℕ → ConnOf A → ConnOf A
queued_group frame c = if has_room_for frame c then with_group frame c else c

abbrev pub ended : {A : Type 0} → ConnOf A → ConnOf A
ended c = record c { change = changes.Stays; keeping = keepings.Stays }

-- ---- a copy from the client

-- one was begun, and nothing has ended it yet
abbrev pub begins_copy : Change → Bool
begins_copy changes.Copies = true
begins_copy _ = false

abbrev pub copies : Change → ℕ → Bool
copies change groups = not (nat_eq groups 0) && begins_copy change

-- an error of the server has ended it, or the CopyFail for it is queued already
abbrev pub ends_copy : Error → Bool
ends_copy (errors.Database details) = true
ends_copy (errors.Protocol (protocol.Reply tag)) = tag == 71
ends_copy _ = false

abbrev pub with_copy_fail : {A : Type 0} → ConnOf A → ConnOf A
with_copy_fail c = record c {
  stream = record c.stream { unsent = c.stream.unsent ++ spelled (copy_fail ∷ []); spare = c.stream.spare - length (spelled (copy_fail ∷ [])) };
  ledger = record c.ledger { is_copy_failed = true };
  change = changes.Stays;
}

-- all of its data was sent
abbrev pub is_fed : Change → Bool
is_fed changes.Fed = true
is_fed _ = false

abbrev pub has_fed : Change → ℕ → Bool
has_fed change groups = not (nat_eq groups 0) && is_fed change

-- so no CopyFail is due for the reply that stays owed, whatever comes in it
abbrev pub owned : {A : Type 0} → ConnOf A → ConnOf A
owned c = record c { ledger = record c.ledger { is_copy_failed = has_fed c.change c.groups || c.ledger.is_copy_failed } }

-- behind its end it is failed, where it is not over: out of the room that is kept for that ("COPY Operations")
abbrev pub unfed : {A : Type 0} → Bool → ConnOf A → ConnOf A
unfed over c = if copies c.change c.groups && (not over && leb (length (spelled (copy_fail ∷ []))) c.stream.spare) then with_copy_fail c else owned c

-- messages of the call that runs are queued, for which no reply is awaited
abbrev pub with_messages : {A : Type 0} → List FrontendMessage → ConnOf A → ConnOf A
with_messages messages c = record c { stream = record c.stream { unsent = c.stream.unsent ++ spelled messages } }

-- a piece of data, which is no message where it is empty
abbrev pub piece_of : List ℕ → List FrontendMessage
piece_of bytes = if nat_eq (length bytes) 0 then [] else CopyData bytes ∷ []

-- all data is sent, and the end of the reply is awaited
abbrev pub copied : {A : Type 0} → ConnOf A → ConnOf A
copied c = record (with_messages (CopyDone ∷ []) c) { call = fed_whole c.call; change = changes.Fed }

-- the copy is given up by this message, and its reply stays owed
abbrev pub copy_aborted : {A : Type 0} → List ℕ → ConnOf A → ConnOf A
copy_aborted message c = record (with_messages (CopyFail message ∷ []) c) { call = calls.Idle; change = changes.Stays; keeping = keepings.Stays; ledger = record c.ledger { is_copy_failed = true } }

-- behind an end that is no Ok: the transaction that a begin may have opened is rolled back
abbrev pub cleaned : {A : Type 0} → ConnOf A → ConnOf A
cleaned c = ended (if may_open c.change c.groups c.rule.depth then queued_group (spelled (rollback 0)) (restated c) else restated c)

-- a call that runs is given up
abbrev pub left : {A : Type 0} → ConnOf A → ConnOf A
left c = if runs c.call then idle (cleaned (unfed false c)) else c

-- the numbers of a call are counted from zero
abbrev pub counted_anew : {A : Type 0} → ConnOf A → ConnOf A
counted_anew c = record c { stream = record c.stream { waits = 0; moves = 0 }; groups = 0; earlier = 0; cache = steps.Same; heard = 0 }

-- a call that closes the statements that are kept forgets the names of types first, unless the connection is broken
abbrev pub forgets : Request → Bool
forgets (requests.Clear statements) = true
forgets request = false

abbrev pub learnt_for : Request → Option ServerFault → Learnt → Learnt
learnt_for request broken a = if forgets request && not (is_some broken) then unnamed_types a else a

-- a call has begun, in place of one that ran
abbrev pub started_call : {A : Type 0} → Request → ConnOf A → ConnOf A
started_call request c = counted_anew (record (left c) {
  call = calls.Asked (begun_as (left c).rule request);
  change = change_of (kind_of request);
  keeping = keepings.Stays;
  learnt = learnt_for request (left c).broken (left c).learnt;
})

-- one more has begun behind a call that has ended, and its numbers go on
abbrev pub started_next : {A : Type 0} → Request → ConnOf A → ConnOf A
started_next request c = record (left c) {
  call = calls.Asked (begun_as (left c).rule request);
  change = change_of (kind_of request);
  keeping = keepings.Stays;
  groups = 0;
  earlier = min ((left c).earlier + (left c).groups) (2 ^ 64 - 1);
}

-- as a poll goes on, what is asked stands as an exchange, by the statements that are kept
abbrev pub resolved_by : {A : Type 0} → Call → ConnOf A → ConnOf A
resolved_by (calls.Asked r) c = record c {
  call = calls.Asked (asked_by c.rule r);
  rule = held_by c.rule r;
  keeping = keeping_of (asked_by c.rule r);
  groups = 0;
  earlier = min (c.earlier + c.groups) (2 ^ 64 - 1);
}
resolved_by call c = c

abbrev pub resolved : {A : Type 0} → ConnOf A → ConnOf A
resolved c = resolved_by c.call c

-- where there was no memory for that, it is as behind an exchange that has done nothing
abbrev pub unasked : {A : Type 0} → Request → ConnOf A → ConnOf A
unasked r c = record c {
  call = calls.Idle;
  rule = unmoved (keeping_of (asked_by c.rule r)) (held_by c.rule r);
  change = changes.Stays;
  keeping = keepings.Stays;
  groups = 0;
  earlier = min (c.earlier + c.groups) (2 ^ 64 - 1);
}

abbrev pub IsUnresolved : {A : Type 0} → ConnOf A → ConnOf A → Type 0
IsUnresolved a b = (r : Request) × (a.call ≡ calls.Asked r) × (b ≡ unasked r a) × (r ≡ requests.Flush → ⊥)

-- what is asked next stands where the exchange before it has ended: its numbers go on
abbrev pub handed : {A : Type 0} → Request → ConnOf A → ConnOf A
handed request c = record c { call = calls.Asked request }

-- a rollback without a call: one is open no more, and the rollback is queued
abbrev pub rolled : {A : Type 0} → ConnOf A → ConnOf A
rolled c = if nat_eq c.rule.depth 0 then c else queued_group (spelled (rollback (c.rule.depth - 1))) (record c { rule = with_depth (c.rule.depth - 1) c.rule })

abbrev pub rolled_back : {A : Type 0} → ConnOf A → ConnOf A
rolled_back c = rolled (ended (counted_anew (left c)))

-- what a begin asks where so many are open: by a text of its own, where it has one
abbrev pub begin_of : ℕ → Option (List ℕ) → Request
begin_of depth None = requests.Begin depth
begin_of depth (Some sql) = requests.BeginWith (plain_text sql)

-- what a commit and a rollback ask where so many are open: nothing where none is
abbrev pub commit_of : ℕ → Request
commit_of depth = if nat_eq depth 0 then requests.Flush else requests.Commit (depth - 1)

abbrev pub rollback_of : ℕ → Request
rollback_of depth = if nat_eq depth 0 then requests.Flush else requests.Rollback (depth - 1)

-- the connection as a poll begins, which may make so many calls of the link
abbrev pub begun_with : {A : Type 0} → ℕ → ConnOf A → ConnOf A
begun_with left c = record c { stream = record c.stream { left = left } }

abbrev pub begun : {A : Type 0} → ConnOf A → ConnOf A
begun c = begun_with 256 c

-- the connection once the state of a call with this request is polled
abbrev pub begun_by : {A : Type 0} → Option Request → ConnOf A → ConnOf A
begun_by None c = c
begun_by (Some request) c = started_call request c

-- what the drop of a call's state leaves: nothing changes where it was never polled
abbrev pub left_by : {A R : Type 0} → Option R → ConnOf A → ConnOf A
left_by None c = left c
left_by (Some request) c = c

-- the state of a call is over where its request was handed on and no call runs
abbrev pub is_over : Option Request → Call → Bool
is_over None call = not (runs call)
is_over (Some request) call = false

-- ---- within a poll

-- only the room for what is received has changed
abbrev pub with_room : {A : Type 0} → ℕ → ConnOf A → ConnOf A
with_room n c = record c { stream = record c.stream { room = n } }

-- only the cleanup reserve has changed
abbrev pub with_spare : {A : Type 0} → ℕ → ConnOf A → ConnOf A
with_spare n c = record c { stream = record c.stream { spare = n } }

abbrev pub frames_in : Call → List ℕ
frames_in (calls.Waiting waiting) = waiting.frames
frames_in _ = []

-- the frames that waited are queued
abbrev pub queued_call : {A : Type 0} → ℕ → ConnOf A → ConnOf A
queued_call n c = record c { stream = record c.stream { unsent = c.stream.unsent ++ frames_in c.call; spare = n } }

-- the reply to them is awaited, which end one group
abbrev pub awaiting : {A : Type 0} → ℕ → ConnOf A → ConnOf A
awaiting groups c = record c { ledger = owes_own; call = awaits c.call; groups = groups }

-- or that they are sent

abbrev pub closing : {A : Type 0} → ConnOf A → ConnOf A
closing c = record c { call = calls.Closing }
