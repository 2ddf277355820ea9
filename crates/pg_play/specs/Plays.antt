-- The theorem of a play.
use Rattle.std.specs.Prelude.{◌≡◌, ◌≢◌, ◌⊎◌, ◌&&◌, ◌||◌, not, nat_eq, is_some, if◌then◌else◌, Bool, ℕ, ◌+◌, ◌*◌, ◌<◌, false, List, [], ◌∷◌, ◌++◌, length, map, flat_map, Option, Some, None, Ok, sum_by, count_by, ◌≤◌, true, ◌-◌, ◌^◌}
use Rattle.pg_play.specs.Idles.{KeepsOrder, SaysIdle, statuses}
use Rattle.pg_report.specs.declared.outcome.Answer.TheVariants.{Unit as AnswersUnit}
use Rattle.pg_play.specs.Calls.{PlaysStep, untouched}
use Rattle.pg_play.specs.Chained.{AreChained, IsChained}
use Rattle.pg_play.specs.Locks.{Guards}
use Rattle.pg_play.specs.Shown.{acts_at_once, first_call, is_fed, next_call, request_of, exchange_for}
use Rattle.pg_play.specs.Settling.{Settles}
use Rattle.pg_play.specs.Copying.{LeavesCopy}
use Rattle.std.specs.List.{AllByRecursion}
use Rattle.pg_wire.specs.declared.error.Error.TheVariants as errors
use Rattle.pg_wire.specs.declared.error.ProtocolFault.TheVariants as protocol
use Rattle.pg_wire.specs.declared.error.ServerFault.{ServerFault}
use Rattle.pg_wire.specs.declared.error.ServerFault.TheVariants as faults
use Rattle.pg_request.specs.declared.progress.CacheStep.{CacheStep}
use Rattle.pg_request.specs.declared.progress.CacheStep.TheVariants as cache
use Rattle.pg_wire.specs.Frame.{Frame, backend_tags, text_of}
use Rattle.pg_wire.specs.Cut.{Cuts}
use Rattle.pg_wire.specs.Parts.{heard, parts}
use Rattle.pg_wire.specs.Pieces.{PiecesOf}
use Rattle.pg_wire.specs.Backend.{BackendMessage, backend_frame, HasBackendFrame}
use Rattle.pg_wire.specs.Frontend.{frontend_frame, HasFrontendFrame}
use Rattle.pg_wire.specs.Server.{Server, fresh_server, IsPrefixOf, MayHear, AreReplies}
use Rattle.pg_wire.specs.Groups.{IsGroup, AnswerGroups}
use Rattle.pg_stream.specs.Links.{LinkSeen, NoneFalls, GrewBy}
use Rattle.pg_stream.specs.Streams.{StreamSeen, Sends}
use Rattle.pg_call.specs.declared.request.Request.{Request}
use Rattle.pg_learning.specs.declared.learnt.Learnt.{Learnt}
use Rattle.pg_learning.specs.Learning.{unnamed_types}
use Rattle.pg_conn.specs.Looking.{LooksUp, named_in}
use Rattle.pg_script.specs.declared.step.Call.{Call}
use Rattle.pg_script.specs.declared.step.Call.TheVariants as script_calls
use Rattle.pg_call.specs.declared.calling.Call.TheVariants as calls
use Rattle.pg_call.specs.Requests.{Group, said_in, spelled}
use Rattle.pg_call.specs.Drains.{is_copy_in, after_readys}
use Rattle.pg_rule.specs.declared.rule.Rule.{Rule}
use Rattle.pg_conn.specs.Connections.{ConnSeen, with_spare}
use Rattle.pg_conn.specs.Turns.{ends_request, HasAllRoom}
use Rattle.pg_report.specs.declared.outcome.End.{End}
use Rattle.pg_report.specs.declared.outcome.End.TheVariants as ends
use Rattle.pg_report.specs.declared.outcome.Outcome.{Outcome}
use Rattle.pg_report.specs.declared.outcome.Started.{Started}
use Rattle.pg_script.specs.declared.step.Step.{Step}
use Rattle.pg_auth.specs.Tls.{tls_plan}
use Rattle.pg_auth.specs.declared.tls.TlsPlan.{TlsPlan}
use Rattle.pg_startup.specs.declared.stage.Session.{Session}
use Rattle.pg_startup.specs.Startups.{startup_of}
use Rattle.pg_startup.specs.Exchange.{client_of}
use Rattle.pg_startup.specs.Flows.{Flows}
use Rattle.pg_startup.specs.Handshake.{IsHandshake, IsSecured}
use Rattle.pg_play.specs.Starts.{Opening, HasWaitedLess}
use Rattle.pg_play.specs.Places.{Place, IsRequestGroup, Queued, queued_by, ended, owed, first_place}
use Rattle.pg_play.specs.Told.{Told, Numbers, CountsTo}
use Rattle.pg_play.specs.Causes.{HasCause, IsDropped, EndsDuly, KeepsFault, IsFront}
use Rattle.pg_play.specs.Complete.{WhereFaultless}
use Rattle.pg_play.specs.Kept.{Keeps, named_of}
use Rattle.pg_exchanges.specs.Keeping.{Keeps as ServerKeeps}
use Rattle.pg_play.specs.WaitPlaces.{WaitPlaces, LastPlaces}

-- where all that was heard, the frame in front too, are replies of a server to the groups, and none of these is a copy from the client, no exchange is told that they are unlawful
abbrev pub IsNeverUnlawful : Place → Outcome → Place → Type 0
IsNeverUnlawful at out next = (tag : ℕ) (front : Frame) → AllByRecursion IsGroup next.groups → at.broken ≡ None → out.end ≡ ends.Err (errors.Protocol (protocol.Server (faults.Unlawful tag))) → IsFront next front
    → MayHear (said_in next.groups) (heard next.frames ++ front ∷ []) → ⊥

-- ---- an exchange: a request group and its response

-- What its call queued, heard and learnt, why it ended so, and what is told of it. A step describes the exchange: its call is what the exchange asks, and
-- its polls are those of all exchanges of one call.
pub record Plays_call (at : Place) (step : Step) (out : Outcome) (next : Place) : Type 0 where
  pub own : List Group
  pub slice : List Frame
  pub queued : Queued at step out own slice next
  -- what the link took, and behind it what is not sent yet, are what was not sent and what was queued
  pub sends : Sends at.seen next.seen (spelled (queued_by at own slice out.end))
  pub told : Told at step out own slice next
  pub numbers : Numbers at out own slice next
  pub cause : HasCause at step own slice next out.end
  -- what acts at once is no call
  pub at_once : acts_at_once step.call ≡ true → (out ≡ untouched (ends.Ok AnswersUnit)) × (next ≡ at)
  -- nor does a broken connection do anything
  pub kept : (fault : ServerFault) → at.broken ≡ Some fault → KeepsFault fault at out.end next

-- an exchange: its call, and what the connection makes of the call's end
pub record Plays_exchange (at : Place) (step : Step) (out : Outcome) (next : Place) : Type 0 where
  pub told : Outcome
  pub ended_at : Place
  pub call : Plays_call at step told ended_at
  -- what is left of a copy from the client
  pub left_at : Place
  pub leaves : LeavesCopy step.call call.own told.end ended_at left_at
  pub settles : Settles at step told out call.own call.told.response left_at next
  pub lawful : IsNeverUnlawful at told ended_at
  pub waits : WaitPlaces at out next
  pub counts : NoneFalls at.seen.link next.seen.link
  -- the replies owed behind it are the Query and Sync messages queued, less the ReadyForQuery messages taken
  pub ledger : ended next + owed next ≡ count_by ends_request next.said

-- one outcome for each exchange, each from the place where the one before it ended
abbrev pub Plays_exchanges : Place → List Step → List Outcome → Place → Type 0
Plays_exchanges at [] [] last = last ≡ at
Plays_exchanges at (step ∷ steps) (out ∷ outs) last = (next : Place) × Plays_exchange at step out next × Plays_exchanges next steps outs last
Plays_exchanges at [] (out ∷ outs) last = ⊥
Plays_exchanges at (step ∷ steps) [] last = ⊥

-- What comes behind an exchange that ended so: the next one, where something is asked next; and it ended Ok, where one comes.
abbrev pub Hands : Rule → End → Option Request → List Step → Type 0
Hands rule end asks [] = asks ≡ None
Hands rule end asks (next ∷ later) = (end ≡ ends.Ok AnswersUnit) × (next_call rule asks ≡ Some next.call)

-- so it is with each exchange
abbrev pub HandsOn : (at : Place) (steps : List Step) (outs : List Outcome) (last : Place) → Plays_exchanges at steps outs last → Type 0
HandsOn at [] [] last run = Unit {0}
HandsOn at (step ∷ steps) (out ∷ outs) last run = Hands run.0.rule out.end run.1.settles.asks steps × HandsOn run.0 steps outs last run.2
HandsOn at [] (out ∷ outs) last run = ⊥
HandsOn at (step ∷ steps) [] last run = ⊥

-- where the call of the last exchange stopped, or a place before, where there is none
abbrev pub stopped_at : Place → (at : Place) (steps : List Step) (outs : List Outcome) (last : Place) → Plays_exchanges at steps outs last → Place
stopped_at before at [] [] last run = before
stopped_at before at (step ∷ steps) (out ∷ outs) last run = stopped_at run.1.ended_at run.0 steps outs last run.2
stopped_at before at [] (out ∷ outs) last run = absurd run
stopped_at before at (step ∷ steps) [] last run = absurd run

-- the last outcome, or one before, where there is none
abbrev pub last_of : Outcome → List Outcome → Outcome
last_of before [] = before
last_of before (out ∷ outs) = last_of out outs

-- ---- a step: exchanges one after another

-- a call that closes the statements that are kept forgets the names of types as it begins: where it is polled, and the connection is whole
abbrev pub clears : Call → Bool
clears script_calls.Clear = true
clears call = false

abbrev pub forgets_at : Place → Step → Bool
forgets_at at step = clears step.call && (not (nat_eq step.polls 0 || nat_eq step.most 0) && not (is_some at.broken))

abbrev pub known_at : Place → Step → Learnt
known_at at step = if forgets_at at step then unnamed_types at.learnt else at.learnt

-- The first exchange is that of the call, and nothing was learnt before it. Where a statement, or what it is run with, has types that are known by their names
-- alone, that one asks nothing of the server, or what has to be looked up for it is asked before, or it is asked with their OIDs.
abbrev pub BeginsAs : Option Request → Call → Learnt → ℕ → Call → Learnt → Type 0
BeginsAs None first at groups call learnt = (call ≡ first) × (learnt ≡ at)
BeginsAs (Some told) first at groups call learnt = ((call ≡ first) × (learnt ≡ at) × (groups ≡ 0)) ⊎ ((next : Request) × LooksUp told at next learnt × (call ≡ exchange_for next))

-- the first exchange of a step is that of its call, by what is known of the session, or comes before it
abbrev pub FirstIs : Place → Step → Outcome → Learnt → List Step → Type 0
FirstIs at step out learnt [] = ⊥
FirstIs at step out learnt (first ∷ later) =
    BeginsAs (named_in (request_of at.rule.depth (first_call at.rule step.call))) (first_call at.rule step.call) (known_at at step) out.groups first.call learnt × (first ≡ record step { call = first.call })

-- the exchanges begin with so much learnt
abbrev pub begun_at : Place → Learnt → Place
begun_at at learnt = record at { learnt = learnt }

-- what exchanges made of the statements that are kept: what the last of them did that made something
abbrev pub over : CacheStep → CacheStep → CacheStep
over old cache.Same = old
over old new = new

abbrev pub cache_behind : CacheStep → List Outcome → CacheStep
cache_behind step [] = step
cache_behind step (out ∷ outs) = cache_behind (over step out.cache) outs

-- What a step tells of the outcomes of its exchanges: the items and the end of the last, and their numbers in sum.
pub record TellsAll (outs : List Outcome) (out : Outcome) : Type 0 where
  pub items : out.items ≡ (last_of out outs).items
  pub ends : out.end ≡ (last_of out outs).end
  pub groups : CountsTo (sum_by (λ one. one.groups) outs) out.groups
  pub heard : CountsTo (sum_by (λ one. one.heard) outs) out.heard
  pub waits : out.waits ≡ sum_by (λ one. one.waits) outs
  pub moved : CountsTo (sum_by (λ one. one.moved) outs) out.moved
  pub cache : out.cache ≡ cache_behind cache.Same outs

-- what acts at once counts its group, and no call was made for it
abbrev pub ActsAtOnce : Place → Outcome → Place → Type 0
ActsAtOnce at out stop = (out ≡ record (untouched (ends.Ok AnswersUnit)) { groups = out.groups }) × (stop ≡ at)

-- The exchanges of a step, what it tells of them, and what is said of all of its polls.
pub record Plays_step (at : Place) (step : Step) (out : Outcome) (next : Place) : Type 0 where
  pub exchanges : List Step
  pub outs : List Outcome
  -- what was learnt as the first of them begins
  pub learnt : Learnt
  pub run : Plays_exchanges (begun_at at learnt) exchanges outs next
  pub first : FirstIs at step out learnt exchanges
  pub limits : AllByRecursion (λ exchange. (exchange.polls ≡ step.polls) × (exchange.most ≡ step.most)) exchanges
  pub hands : HandsOn (begun_at at learnt) exchanges outs next run
  pub tells : TellsAll outs out
  -- the call of the last exchange stopped here
  pub stop : Place
  pub stops : stop ≡ stopped_at at (begun_at at learnt) exchanges outs next run
  -- at most 256 calls of the link for each poll that it may have, and for each item that it may show
  pub calls : next.seen.link.calls ≤ at.seen.link.calls + 256 * (step.polls + step.most)
  pub dropped : out.end ≡ ends.Dropped → IsDropped at step out stop
  pub at_once : acts_at_once step.call ≡ true → ActsAtOnce at out stop
  pub duly : acts_at_once step.call ≡ false → EndsDuly at step (request_of at.rule.depth (first_call at.rule step.call)) out stop

-- one outcome for each step, each from the place where the one before it ended
abbrev pub Plays_from : Place → List Step → List Outcome → Place → Type 0
Plays_from at [] [] last = last ≡ at
Plays_from at (step ∷ steps) (out ∷ outs) last = (next : Place) × Plays_step at step out next × Plays_from next steps outs last
Plays_from at [] (out ∷ outs) last = ⊥
Plays_from at (step ∷ steps) [] last = ⊥

-- ---- where the server's session is idle

-- the server keeps this order in each exchange
abbrev pub AreOrderlyIn : (idle : ℕ → Type 0) (at : Place) (steps : List Step) (outs : List Outcome) (last : Place) → Plays_exchanges at steps outs last → Type 0
AreOrderlyIn idle at [] [] last run = Unit {0}
AreOrderlyIn idle at (step ∷ steps) (out ∷ outs) last run = KeepsOrder idle at step run.1.call.own run.1.settles.cleanup run.1.call.slice run.1.ended_at × AreOrderlyIn idle run.0 steps outs last run.2
AreOrderlyIn idle at [] (out ∷ outs) last run = ⊥
AreOrderlyIn idle at (step ∷ steps) [] last run = ⊥

-- and so in each step
abbrev pub AreOrderly : (idle : ℕ → Type 0) (at : Place) (steps : List Step) (outs : List Outcome) (last : Place) → Plays_from at steps outs last → Type 0
AreOrderly idle at [] [] last run = Unit {0}
AreOrderly idle at (step ∷ steps) (out ∷ outs) last run = AreOrderlyIn idle (begun_at at run.1.learnt) run.1.exchanges run.1.outs run.0 run.1.run × AreOrderly idle run.0 steps outs last run.2
AreOrderly idle at [] (out ∷ outs) last run = ⊥
AreOrderly idle at (step ∷ steps) [] last run = ⊥

-- behind each exchange, where nothing is open, the response to the last group queued ends idle
abbrev pub AreIdleIn : (idle : ℕ → Type 0) (at : Place) (steps : List Step) (outs : List Outcome) (last : Place) → Plays_exchanges at steps outs last → Type 0
AreIdleIn idle at [] [] last run = Unit {0}
AreIdleIn idle at (step ∷ steps) (out ∷ outs) last run = (run.0.rule.depth ≡ 0 → idle (length run.0.groups)) × AreIdleIn idle run.0 steps outs last run.2
AreIdleIn idle at [] (out ∷ outs) last run = ⊥
AreIdleIn idle at (step ∷ steps) [] last run = ⊥

-- and so behind each step
abbrev pub AreIdle : (idle : ℕ → Type 0) (at : Place) (steps : List Step) (outs : List Outcome) (last : Place) → Plays_from at steps outs last → Type 0
AreIdle idle at [] [] last run = Unit {0}
AreIdle idle at (step ∷ steps) (out ∷ outs) last run = AreIdleIn idle (begun_at at run.1.learnt) run.1.exchanges run.1.outs run.0 run.1.run × AreIdle idle run.0 steps outs last run.2
AreIdle idle at [] (out ∷ outs) last run = ⊥
AreIdle idle at (step ∷ steps) [] last run = ⊥

-- Where the session is idle at first, and the server keeps that order, it is.
abbrev pub IdlesWhereOrderly : (told : List (List ℕ)) (at : Place) (steps : List Step) (outs : List Outcome) (last : Place) → Plays_from at steps outs last → Type 0
IdlesWhereOrderly told at steps outs last run = SaysIdle told 0 → AreOrderly (SaysIdle told) at steps outs last run → AreIdle (SaysIdle told) at steps outs last run

-- ---- where reads waited

-- the places at which the reads of exchanges waited, in order
abbrev pub places_of : (at : Place) (steps : List Step) (outs : List Outcome) (last : Place) → Plays_exchanges at steps outs last → List ℕ
places_of at [] [] last run = []
places_of at (step ∷ steps) (out ∷ outs) last run = run.1.waits.places ++ places_of run.0 steps outs last run.2
places_of at [] (out ∷ outs) last run = absurd run
places_of at (step ∷ steps) [] last run = absurd run

-- and those of all steps
abbrev pub places_in : (at : Place) (steps : List Step) (outs : List Outcome) (last : Place) → Plays_from at steps outs last → List ℕ
places_in at [] [] last run = []
places_in at (step ∷ steps) (out ∷ outs) last run = places_of (begun_at at run.1.learnt) run.1.exchanges run.1.outs run.0 run.1.run ++ places_in run.0 steps outs last run.2
places_in at [] (out ∷ outs) last run = absurd run
places_in at (step ∷ steps) [] last run = absurd run

-- so many bytes are the first ones and some behind them, and the whole frames among those behind are taken
abbrev pub AreTakenBefore : List ℕ → List ℕ → List Frame → ℕ → Type 0
AreTakenBefore start given taken place = (bytes : List ℕ) × (place ≡ length start + length bytes) × IsPrefixOf (start ++ bytes) given × ((frames : List Frame) (rest : List ℕ) → Cuts backend_tags bytes frames rest → IsPrefixOf frames taken)

-- the whole frames before each place of an exchange are taken by the end of that exchange
abbrev pub TakesInTimeIn : (start given : List ℕ) (at : Place) (steps : List Step) (outs : List Outcome) (last : Place) → Plays_exchanges at steps outs last → Type 0
TakesInTimeIn start given at [] [] last run = Unit {0}
TakesInTimeIn start given at (step ∷ steps) (out ∷ outs) last run = AllByRecursion (AreTakenBefore start given run.0.frames) run.1.waits.places × TakesInTimeIn start given run.0 steps outs last run.2
TakesInTimeIn start given at [] (out ∷ outs) last run = ⊥
TakesInTimeIn start given at (step ∷ steps) [] last run = ⊥

-- and so in each step
abbrev pub TakesInTime : (start given : List ℕ) (at : Place) (steps : List Step) (outs : List Outcome) (last : Place) → Plays_from at steps outs last → Type 0
TakesInTime start given at [] [] last run = Unit {0}
TakesInTime start given at (step ∷ steps) (out ∷ outs) last run = TakesInTimeIn start given (begun_at at run.1.learnt) run.1.exchanges run.1.outs run.0 run.1.run × TakesInTime start given run.0 steps outs last run.2
TakesInTime start given at [] (out ∷ outs) last run = ⊥
TakesInTime start given at (step ∷ steps) [] last run = ⊥

-- no frame begins a copy from the client
abbrev pub AsksForNoCopy : List Frame → Type 0
AsksForNoCopy frames = AllByRecursion (λ frame. is_copy_in frame ≡ false) frames

-- Internal: the connection stands at this place.
pub record StandsAt (start : StreamSeen) (at : Place) (c : ConnSeen) : Type 0 where
  pub flows : Flows start c.stream (spelled at.said) at.frames
  -- replies are owed for the groups that have had none
  pub ledger : ended at + c.ledger.owed ≡ length at.groups
  pub failed : 0 < c.ledger.owed → c.ledger.is_copy_failed ≡ at.is_copy_failed
  pub broken : c.broken ≡ at.broken
  pub seen : c.stream ≡ at.seen
  pub rule : c.rule ≡ at.rule
  pub learnt : c.learnt ≡ at.learnt
  pub room : HasAllRoom c
  pub idle : c.call ≡ calls.Idle
  pub sayable : AllByRecursion HasFrontendFrame at.said
  pub are_groups : AllByRecursion IsRequestGroup at.groups
  -- where nothing is owed, nothing was heard behind the last response
  pub between : c.ledger.owed ≡ 0 → after_readys (length at.groups) (heard at.frames) ≡ []
  pub plain : AsksForNoCopy (heard at.frames) → at.has_failed ≡ false → at.said ≡ said_in at.groups
  pub requests : count_by ends_request at.said ≡ length at.groups

-- Internal: whatever place it began at, the play stands at a later one.
abbrev pub PlaysOn : ConnSeen → ConnSeen → List Step → List Outcome → Type 0
PlaysOn a b steps outs = (start : StreamSeen) (at : Place) → StandsAt start at a → Keeps at → (last : Place) × Plays_from at steps outs last × StandsAt start last b × Keeps last

-- Internal: these calls were played one after another
abbrev pub PlaysInOrder : ConnSeen → ConnSeen → List Step → List Outcome → Type 0
PlaysInOrder a b [] [] = b ≡ a
PlaysInOrder a b (step ∷ steps) (out ∷ outs) = (m : ConnSeen) × PlaysStep a m step out × (a.rule.depth < 2 ^ 64) × PlaysInOrder m b steps outs
PlaysInOrder a b [] (out ∷ outs) = ⊥
PlaysInOrder a b (step ∷ steps) [] = ⊥

-- Internal: some calls were played of which this is said
abbrev pub PlaysAs : ConnSeen → ConnSeen → (List Step → List Outcome → Type 0) → Type 0
PlaysAs a b Are = (calls : List Step) × (told : List Outcome) × Are calls told × PlaysInOrder a b calls told

-- Internal: a step was played, as the calls of its chain
abbrev pub PlaysChain : ConnSeen → ConnSeen → Guards → Guards → Step → Outcome → Type 0
PlaysChain a b guards after step out = PlaysAs a b (IsChained guards after step out)

-- Internal: so were these steps
abbrev pub PlaysAll : ConnSeen → ConnSeen → List Step → List Outcome → Guards → Type 0
PlaysAll a b steps outs guards = (calls : List Step) × (told : List Outcome) × AreChained [] steps outs calls told guards × PlaysOn a b calls told

-- Internal: room was kept for the guards that a play may have
abbrev pub KeepsRoom : ConnSeen → ConnSeen → Type 0
KeepsRoom a b = (b ≡ record (with_spare b.stream.spare a) { held = b.held }) × (HasAllRoom a → HasAllRoom b)

-- ---- the headline

-- The link's bytes, where it tells them: those of the handshake that start-up was, and behind them those of the steps. And what its TLS had
-- to verify.
pub record TellsBytes (opening : Opening) (first last : LinkSeen) (started : Started) (at : Place) : Type 0 where
  -- what both sides said up to the end of start-up
  pub plan : TlsPlan
  pub planned : tls_plan opening.options.ssl_mode opening.made.can_upgrade opening.made.is_local ≡ Ok plan
  pub said : List ℕ
  pub read : List ℕ
  pub session : Session
  pub handshake : IsHandshake (client_of opening.options opening.nonce) plan (startup_of opening.options) said read session
  pub said_is : CountsTo (length said) started.sent
  pub read_is : CountsTo (length read) started.read
  -- no step changes what start-up has made of it
  pub secured : IsSecured plan handshake.answered first.secured last.secured
  -- what the link took, and behind it what is not sent yet, are the messages queued
  pub sent : (old new : List ℕ) → first.taken ≡ Some old → last.taken ≡ Some new → (bytes : List ℕ) × (new ≡ old ++ bytes) × (bytes ++ at.seen.unsent ≡ said ++ spelled at.said)
  -- the frames taken are the first of those in all bytes that it gave
  pub gave : (old new : List ℕ) → first.given ≡ Some old → last.given ≡ Some new
      → (bytes : List ℕ) × (new ≡ old ++ read ++ bytes) × (bytes ≡ text_of at.frames ++ at.seen.held) × ((frames : List Frame) (rest : List ℕ) → Cuts backend_tags bytes frames rest → IsPrefixOf at.frames frames)

-- ---- the numbers of all steps

-- in sum the steps waited, and moved bytes, as often as the link counts from where start-up ended
pub record Totals (first last : LinkSeen) (outs : List Outcome) : Type 0 where
  pub write_waits : ℕ
  pub read_waits : ℕ
  pub moves : ℕ
  pub waits : CountsTo (write_waits + read_waits) (sum_by (λ out. out.waits) outs)
  pub moved : CountsTo moves (sum_by (λ out. out.moved) outs)
  pub writes : GrewBy write_waits first.write_waits last.write_waits
  pub reads : GrewBy read_waits first.read_waits last.read_waits
  pub moving : GrewBy moves first.moved last.moved

-- ---- a server whose frames are replies

-- no step is told that the server is unlawful
abbrev pub NoneUnlawful : List Outcome → Type 0
NoneUnlawful outs = AllByRecursion (λ out. (tag : ℕ) → out.end ≢ ends.Err (errors.Protocol (protocol.Server (faults.Unlawful tag)))) outs

-- The responses heard, each whole but for the last: response k answers group k.
pub record AnswersGroups (groups : List Group) (frames : List Frame) : Type 0 where
  pub responses : List (List BackendMessage)
  pub after : Server
  pub answers : AnswerGroups fresh_server groups responses after
  pub have_frames : AllByRecursion HasBackendFrame (flat_map (λ response. response) responses)
  pub pieces : PiecesOf (parts frames) (map (map backend_frame) responses)

-- Where the frames heard of all that was read are replies to the first of the messages queued, as to those whose frames were sent, then
-- the groups alone were said, response k answers group k, and no step is told that the server is unlawful.
pub record IsLawful (at : Place) (outs : List Outcome) : Type 0 where
  pub plain : at.said ≡ said_in at.groups
  pub answers : AnswersGroups at.groups (heard at.frames)
  -- each statement that is kept stands there at the server, under its name, with its text and as many columns
  pub keeps : AllByRecursion (λ e. ServerKeeps answers.after (named_of e)) at.rule.cache.entries
  pub none_unlawful : NoneUnlawful outs

abbrev pub WhereLawful : Place → List Outcome → Type 0
WhereLawful at outs = at.has_failed ≡ false → AllByRecursion IsGroup at.groups → (sent read : List Frame) (rest : List ℕ) → IsPrefixOf sent (map frontend_frame at.said) → Cuts backend_tags (text_of at.frames ++ at.seen.held) read rest → AreReplies sent (heard read) → IsLawful at outs

-- no step copies from the client
abbrev pub CopyNone : List Step → Type 0
CopyNone steps = AllByRecursion (λ step. is_fed step.call ≡ false) steps

-- These calls were played behind a start-up, from the place where nothing is said and taken yet.
pub record PlaysCalls (opening : Opening) (polls : ℕ) (first last : LinkSeen) (started : Started) (steps : List Step) (outs : List Outcome) : Type 0 where
  pub begins : StreamSeen
  pub begun : NoneFalls first begins.link
  -- fewer polls of start-up than it had answered `Pending`
  pub startup : HasWaitedLess polls first begins.link
  pub counts : NoneFalls first last
  pub place : Place
  pub plays : Plays_from (first_place opening.options.statement_cache_capacity begins) steps outs place
  -- the statements that are kept have names of their own, are as many as may be at most, and each was described whole, with no Close of it queued since
  pub kept : Keeps place
  pub bytes : TellsBytes opening first last started place
  -- each message queued has a frame, and the groups are closed request groups
  pub can : AllByRecursion HasFrontendFrame place.said
  pub groups : AllByRecursion IsRequestGroup place.groups
  pub at_link : place.seen.link ≡ last
  pub totals : Totals begins.link last outs
  pub waits : LastPlaces first last outs (places_in (first_place opening.options.statement_cache_capacity begins) steps outs place plays)
  -- the whole frames that the link gave behind the handshake and before a wait are taken by the end of the wait's exchange
  pub in_time : (old new : List ℕ) → first.given ≡ Some old → last.given ≡ Some new → TakesInTime (old ++ bytes.read) new (first_place opening.options.statement_cache_capacity begins) steps outs place plays
  -- Where start-up's session is idle, and the server opens transactions for what is to begin one alone, it is idle again wherever none is open and all is answered, as long
  -- as the replies owed can be counted.
  pub idle : length place.groups < 2 ^ 64 - 1 → IdlesWhereOrderly (statuses bytes.session.status (heard place.frames)) (first_place opening.options.statement_cache_capacity begins) steps outs place plays
  pub lawful : WhereLawful place outs
  -- where no step copies from the client, none was failed, and no group is one
  pub uncopied : CopyNone steps → (place.has_failed ≡ false) × AllByRecursion IsGroup place.groups
  -- where neither the link nor the server failed, no step ends by a fault of theirs
  pub complete : WhereFaultless first place steps outs
  -- the groups alone are said, where no server asks for a copy, and none from the client was failed
  pub plain : AsksForNoCopy (heard place.frames) → place.has_failed ≡ false → place.said ≡ said_in place.groups

-- The steps were played: each is one call, or a chain of some, and all calls were played in order. The guards that there are at last are leaked.
abbrev pub Plays : Opening → ℕ → LinkSeen → LinkSeen → Started → List Step → List Outcome → Type 0
Plays opening polls first last started steps outs = (calls : List Step) × (told : List Outcome) × (guards : Guards) × AreChained [] steps outs calls told guards × PlaysCalls opening polls first last started calls told
