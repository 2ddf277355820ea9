-- What is seen of a stream, and how its calls move it on.
use Rattle.std.specs.Prelude.{◌≡◌, ℕ, ◌+◌, ◌-◌, ◌*◌, ◌≤◌, max, drop, length, ◌⊎◌, List, [], ◌∷◌, ◌++◌, Bool, true, false, Option, Some, None, Result, Ok, Err}
use Rattle.std.specs.List.{AllByRecursion}
use Rattle.std.specs.Io.KnownBytes.{Keeps, Appends}
use Rattle.futures.specs.declared.task.Poll.{Poll}
use Rattle.futures.specs.declared.task.Poll.TheVariants.{Ready, Pending}
use Rattle.pg_wire.specs.declared.error.Error.{Error}
use Rattle.pg_wire.specs.declared.error.Error.TheVariants as errors
use Rattle.pg_wire.specs.declared.error.IoCause.TheVariants.{Fault, End}
use Rattle.pg_wire.specs.declared.error.ProtocolFault.TheVariants as protocol
use Rattle.pg_wire.specs.declared.error.ServerFault.{ServerFault}
use Rattle.pg_wire.specs.declared.error.ServerFault.TheVariants as faults
use Rattle.pg_wire.specs.Frame.{Frame, bytes_of, text_of, backend_tags, IsWhole}
use Rattle.pg_wire.specs.Cut.{BeginsNoFrame, BeginsUnknown, BeginsShort}
use Rattle.pg_wire.specs.Parts.{is_asynchronous}
use Rattle.pg_stream.specs.declared.stream.Front.{Front}
use Rattle.pg_stream.specs.declared.link.LinkRead.{LinkRead}
use Rattle.pg_stream.specs.declared.link.LinkRead.TheVariants as reads
use Rattle.pg_stream.specs.declared.link.LinkWrite.{LinkWrite}
use Rattle.pg_stream.specs.declared.link.LinkWrite.TheVariants as writes
use Rattle.pg_wire.specs.Backend.{BackendMessage}
use Rattle.pg_stream.specs.Links.{LinkSeen, NoneFalls, Rose, GrewBy, NoWaits, AddsPlace, asked_with, Reads, Writes}
use Rattle.pg_stream.specs.Received.{room_for}
use Rattle.pg_stream.specs.Parameters.{ParametersSeen, no_parameters, Carries, SetsBy, SetsByAll}
use Rattle.pg_stream.specs.Notifications.{KeptSeen, none_kept, KeepsBy, KeepsByAll}
use Rattle.pg_stream.specs.Asynchronous.{IsAside}

-- A stream over a link, or over what is seen of one: clauses name the first, lemmas the second.
pub record StreamOf (A : Type 0) : Type 0 where
  pub link : A
  -- queued and not sent
  pub unsent : List ℕ
  -- how many bytes of cleanup can be queued without taking memory
  pub spare : ℕ
  -- read and not taken
  pub held : List ℕ
  -- how many more bytes can be read without taking memory
  pub room : ℕ
  -- the link calls that this poll may still make
  pub left : ℕ
  -- the link's waits and moves since the last call began, up to u64's greatest value
  pub waits : ℕ
  pub moves : ℕ
  -- the bytes of all frames taken, up to the same
  pub taken : ℕ
  -- what the frames taken told of the server's parameters
  pub parameters : ParametersSeen
  -- the notifications among them that are kept
  pub notifications : KeptSeen

abbrev pub StreamSeen : Type 0
StreamSeen = StreamOf LinkSeen

abbrev pub stream_by : {A : Type 0} → (A → LinkSeen) → StreamOf A → StreamSeen
stream_by f s = record { link = f s.link; unsent = s.unsent; spare = s.spare; held = s.held; room = s.room; left = s.left; waits = s.waits; moves = s.moves; taken = s.taken; parameters = s.parameters; notifications = s.notifications }

-- a stream that has queued and read nothing
abbrev pub fresh_stream : {A : Type 0} → A → StreamOf A
fresh_stream link = record { link = link; unsent = []; spare = 0; held = []; room = 0; left = 256; waits = 0; moves = 0; taken = 0; parameters = no_parameters; notifications = none_kept }

-- how much a poll can still do: a link call adds at most 8192 bytes, and a frame takes five away at least
abbrev pub fuel_of : StreamSeen → ℕ
fuel_of s = length s.held + 8192 * s.left

-- what was sent is the front of what was unsent and what was queued
abbrev pub Sends : StreamSeen → StreamSeen → List ℕ → Type 0
Sends a b queued = (bytes : List ℕ) × Appends a.link.taken b.link.taken bytes × (a.unsent ++ queued ≡ bytes ++ b.unsent)

abbrev pub AreFrames : List Frame → Type 0
AreFrames frames = AllByRecursion (IsWhole backend_tags) frames

-- the frames taken are the first ones of what was held and what was given
abbrev pub Takes : StreamSeen → StreamSeen → List Frame → Type 0
Takes a b frames = (bytes : List ℕ) × Appends a.link.given b.link.given bytes × (a.held ++ bytes ≡ text_of frames ++ b.held) × AreFrames frames × GrewBy (length (text_of frames)) a.taken b.taken

-- the stream's counts grew by as much as the link's
pub record Tallies (a b : StreamSeen) : Type 0 where
  pub write_waits : ℕ
  pub read_waits : ℕ
  pub moved : ℕ
  pub waits : GrewBy (write_waits + read_waits) a.waits b.waits
  pub moves : GrewBy moved a.moves b.moves
  pub writes : GrewBy write_waits a.link.write_waits b.link.write_waits
  pub reads : GrewBy read_waits a.link.read_waits b.link.read_waits
  pub moving : GrewBy moved a.link.moved b.link.moved

-- each read asked for 8192 bytes
abbrev pub AskedFor : LinkSeen → LinkSeen → Type 0
AskedFor a b = (b.asked ≡ a.asked) ⊎ (b.asked ≡ asked_with a.asked 8192)

-- ---- the calls of the link, in their order

-- what a write leaves
abbrev pub left_by_write : LinkWrite → List ℕ → List ℕ
left_by_write (writes.Moved n) unsent = drop n unsent
left_by_write _ unsent = unsent

-- one call of the link: a write of what is unsent, or a read where nothing is
abbrev pub CallsLink : StreamSeen → StreamSeen → Type 0
CallsLink a b = ((answer : LinkWrite) × Writes a.link b.link answer a.unsent × (b.unsent ≡ left_by_write answer a.unsent))
    ⊎ ((answer : LinkRead) × (into : List ℕ) × Reads a.link b.link answer into × (a.unsent ≡ []) × (b.unsent ≡ []))

-- the link isn't called, and bytes may be queued
abbrev pub CallsNone : StreamSeen → StreamSeen → Type 0
CallsNone a b = (b.link ≡ a.link) × (queued : List ℕ) × (b.unsent ≡ a.unsent ++ queued)

-- these are the states behind each call of the link, one after another
abbrev pub CallsInOrder : List StreamSeen → StreamSeen → StreamSeen → Type 0
CallsInOrder [] a b = CallsNone a b
CallsInOrder (c ∷ later) a b = (ready : StreamSeen) × CallsNone a ready × CallsLink ready c × CallsInOrder later c b

-- a read is made only where all that was queued before it is sent
abbrev pub SendsFirst : StreamSeen → StreamSeen → Type 0
SendsFirst a b = (behind : List StreamSeen) × CallsInOrder behind a b

-- Calls within one poll that queued these bytes and took these frames.
pub record Moves (a b : StreamSeen) (queued : List ℕ) (frames : List Frame) : Type 0 where
  pub counts : NoneFalls a.link b.link
  pub secured : b.link.secured ≡ a.link.secured
  pub asked : AskedFor a.link b.link
  pub sent : Sends a b queued
  pub read : Takes a b frames
  -- it sends before it reads
  pub order : SendsFirst a b
  pub tallies : Tallies a b
  pub left : b.left ≤ a.left
  -- what is left falls by one with each call of the link
  pub calls : GrewBy (a.left - b.left) a.link.calls b.link.calls
  pub fuel : 5 * length frames + fuel_of b ≤ fuel_of a
  -- only what was queued can have taken of the cleanup reserve
  pub spare : a.spare ≤ b.spare + length queued
  -- the receive buffer's room grows by bytes that came, whatever a frame claims
  pub room : b.room ≤ max a.room (room_for (length (text_of frames) + length b.held))
  pub parameters : SetsByAll frames a.parameters b.parameters
  pub notifications : KeepsByAll frames a.notifications b.notifications

-- no read waited, so the link has no further place of a wait
abbrev pub KeepsPlaces : StreamSeen → StreamSeen → Type 0
KeepsPlaces a b = Keeps a.link.wait_places b.link.wait_places

-- no link call waited
abbrev pub NoneWaited : StreamSeen → StreamSeen → Type 0
NoneWaited a b = (b.waits ≡ a.waits) × KeepsPlaces a b × NoWaits a.link b.link

-- one did
abbrev pub OneWaited : StreamSeen → StreamSeen → Type 0
OneWaited a b = GrewBy 1 a.waits b.waits

-- one write waited and no other call, one read did, or a call moved bytes: the link and the stream count it
abbrev pub WriteWaited : StreamSeen → StreamSeen → Type 0
WriteWaited a b = GrewBy 1 a.link.write_waits b.link.write_waits × OneWaited a b × KeepsPlaces a b × (b.link.read_waits ≡ a.link.read_waits)

-- the read that waited is the last call, so its place is the number of bytes given by now
abbrev pub ReadWaited : StreamSeen → StreamSeen → Type 0
ReadWaited a b = GrewBy 1 a.link.read_waits b.link.read_waits × OneWaited a b × AddsPlace b.link.given a.link.wait_places b.link.wait_places × (b.link.write_waits ≡ a.link.write_waits)

abbrev pub OneMoved : StreamSeen → StreamSeen → Type 0
OneMoved a b = GrewBy 1 a.link.moved b.link.moved × GrewBy 1 a.moves b.moves × NoneWaited a b

-- each link call moved bytes
abbrev pub AllMoved : StreamSeen → StreamSeen → Type 0
AllMoved a b = GrewBy (a.left - b.left) a.link.moved b.link.moved × GrewBy (a.left - b.left) a.moves b.moves × NoneWaited a b

-- the calls that were allowed are made, and each moved bytes
abbrev pub IsSpent : StreamSeen → StreamSeen → Type 0
IsSpent a b = (b.left ≡ 0) × AllMoved a b

abbrev pub HasNone : List ℕ → Type 0
HasNone bytes = BeginsNoFrame backend_tags bytes

-- ---- one link call

abbrev pub WriteCause : StreamSeen → StreamSeen → LinkWrite → Type 0
WriteCause a b (writes.Moved n) = OneMoved a b
WriteCause a b writes.NotYet = WriteWaited a b
WriteCause a b writes.Failed = Rose a.link.faults b.link.faults × NoneWaited a b

pub record SendsOnce (a b : StreamSeen) (answer : LinkWrite) : Type 0 where
  pub moves : Moves a b [] []
  pub held : b.held ≡ a.held
  pub spare : b.spare ≡ a.spare
  pub left : b.left + 1 ≡ a.left
  pub cause : WriteCause a b answer

abbrev pub ReadCause : StreamSeen → StreamSeen → LinkRead → Type 0
ReadCause a b (reads.Moved n) = OneMoved a b
ReadCause a b reads.NotYet = ReadWaited a b × (b.held ≡ a.held)
ReadCause a b reads.End = Rose a.link.ends b.link.ends × (b.held ≡ a.held) × NoneWaited a b
ReadCause a b reads.Failed = Rose a.link.faults b.link.faults × (b.held ≡ a.held) × NoneWaited a b

pub record ReadsOnce (a b : StreamSeen) (answer : LinkRead) : Type 0 where
  pub moves : Moves a b [] []
  pub unsent : b.unsent ≡ a.unsent
  pub spare : b.spare ≡ a.spare
  pub left : b.left + 1 ≡ a.left
  pub cause : ReadCause a b answer

-- ---- polls

abbrev pub SendGives : StreamSeen → StreamSeen → Poll (Result (Unit {0}) Error) → Type 0
SendGives a b Pending = WriteWaited a b ⊎ IsSpent a b
SendGives a b (Ready (Ok u)) = (b.unsent ≡ []) × AllMoved a b
SendGives a b (Ready (Err e)) = (e ≡ errors.Io Fault) × Rose a.link.faults b.link.faults × NoneWaited a b

-- A poll that sends: all of what is unsent, or a front of it and the cause.
pub record PollsSend (a b : StreamSeen) (answer : Poll (Result (Unit {0}) Error)) : Type 0 where
  pub moves : Moves a b [] []
  pub held : b.held ≡ a.held
  pub spare : b.spare ≡ a.spare
  pub gives : SendGives a b answer

-- why a poll answers `Pending`: a write waited; or a read waited with all sent and no whole frame held; or its calls are spent
abbrev pub PendingCause : StreamSeen → StreamSeen → Type 0
PendingCause a b = WriteWaited a b
    ⊎ (ReadWaited a b × (b.unsent ≡ []) × HasNone b.held)
    ⊎ IsSpent a b

-- the bytes begin with a header that no frame has
abbrev pub HeaderFault : List ℕ → ServerFault → Type 0
HeaderFault bytes (faults.ShortLength tag size) = BeginsShort backend_tags bytes tag size
HeaderFault bytes (faults.UnknownTag tag) = BeginsUnknown backend_tags bytes tag
HeaderFault bytes _ = ⊥

-- why the stream fails; want of memory is free
abbrev pub ErrorCause : StreamSeen → StreamSeen → Error → Type 0
ErrorCause a b errors.OutOfMemory = Unit {0}
ErrorCause a b (errors.Io Fault) = Rose a.link.faults b.link.faults
ErrorCause a b (errors.Io End) = Rose a.link.ends b.link.ends × (b.unsent ≡ [])
ErrorCause a b (errors.Protocol (protocol.Server fault)) = HeaderFault b.held fault
ErrorCause a b _ = ⊥

abbrev pub framed : ℕ → List ℕ → Frame
framed tag body = record { tag = tag; body = body }

-- the frame at the front, by its tag and size
pub record IsFrontOf (bytes : List ℕ) (front : Front) (frame : Frame) (rest : List ℕ) : Type 0 where
  pub whole : IsWhole backend_tags frame
  pub tag : frame.tag ≡ front.tag
  pub total : length frame.body + 5 ≡ front.total
  pub parts : bytes ≡ bytes_of frame ++ rest

abbrev pub IsFront : List ℕ → Front → Type 0
IsFront held front = (frame : Frame) × (rest : List ℕ) × IsFrontOf held front frame rest

-- what stands at the front of what is held
abbrev pub FrontIs : List ℕ → Result (Option Front) Error → Type 0
FrontIs held (Ok (Some front)) = IsFront held front
FrontIs held (Ok None) = HasNone held
FrontIs held (Err (errors.Protocol (protocol.Server fault))) = HeaderFault held fault
FrontIs held (Err _) = ⊥

-- the frame at the front is gone, its bytes are counted, and what it tells is kept
abbrev pub TakenFrom : {A : Type 0} → StreamOf A → StreamOf A → Front → Frame → List ℕ → Type 0
TakenFrom a b front frame rest = (b ≡ record a { held = rest; taken = b.taken; parameters = b.parameters; notifications = b.notifications }) × GrewBy front.total a.taken b.taken × SetsBy frame a.parameters b.parameters × KeepsBy frame a.notifications b.notifications

-- whatever frame stood at the front is gone, and nothing of it is kept
abbrev pub Passes : {A : Type 0} → Front → StreamOf A → StreamOf A → Type 0
Passes front a b = (frame : Frame) (rest : List ℕ) → IsFrontOf a.held front frame rest → (b ≡ record a { held = rest; taken = b.taken }) × GrewBy front.total a.taken b.taken

-- the frame at the front is taken, or stays for want of memory
abbrev pub TakesFront : {A : Type 0} → Front → StreamOf A → StreamOf A → Result Frame Error → Type 0
TakesFront front a b (Ok frame) = (rest : List ℕ) × IsFrontOf a.held front frame rest × TakenFrom a b front frame rest
TakesFront front a b (Err e) = (b ≡ a) × (e ≡ errors.OutOfMemory)

-- the same of a frame that is no asynchronous message
abbrev pub TakesHeard : {A : Type 0} → Front → StreamOf A → StreamOf A → Result Frame Error → Type 0
TakesHeard front a b (Ok frame) = (is_asynchronous frame ≡ false) × TakesFront front a b (Ok frame)
TakesHeard front a b (Err e) = TakesFront front a b (Err e)

-- A poll that waits for a whole frame at the front, and takes none.
abbrev pub PollsFront : StreamSeen → StreamSeen → Poll (Result Front Error) → Type 0
PollsFront a b Pending = Moves a b [] [] × PendingCause a b × (b.spare ≡ a.spare)
PollsFront a b (Ready (Ok front)) = Moves a b [] [] × (b.unsent ≡ []) × AllMoved a b × IsFront b.held front × (b.spare ≡ a.spare)
PollsFront a b (Ready (Err e)) = Moves a b [] [] × ErrorCause a b e × (b.spare ≡ a.spare) × NoneWaited a b

-- A poll for the next frame of all bytes given. Each other answer has its cause, and the cleanup reserve stays.
abbrev pub PollsFrame : StreamSeen → StreamSeen → Poll (Result Frame Error) → Type 0
PollsFrame a b Pending = Moves a b [] [] × PendingCause a b × (b.spare ≡ a.spare)
PollsFrame a b (Ready (Ok frame)) = Moves a b [] (frame ∷ []) × (b.unsent ≡ []) × AllMoved a b × (b.spare ≡ a.spare)
PollsFrame a b (Ready (Err e)) = Moves a b [] [] × ErrorCause a b e × (b.spare ≡ a.spare) × NoneWaited a b

abbrev pub AreAsynchronous : List Frame → Type 0
AreAsynchronous frames = AllByRecursion IsAside frames

-- an asynchronous message stands at the front, and its body is not in its format
pub record IsMalformedFront (bytes : List ℕ) (tag : ℕ) : Type 0 where
  pub frame : Frame
  pub rest : List ℕ
  pub whole : IsWhole backend_tags frame
  pub tag_is : frame.tag ≡ tag
  pub asynchronous : is_asynchronous frame ≡ true
  pub refused : (m : BackendMessage) → Carries frame m → ⊥
  pub parts : bytes ≡ bytes_of frame ++ rest

abbrev pub HeardCause : StreamSeen → StreamSeen → Error → Type 0
HeardCause a b (errors.Protocol (protocol.Server (faults.Malformed tag))) = IsMalformedFront b.held tag
HeardCause a b e = ErrorCause a b e

-- the frame at the front is no asynchronous message
abbrev pub IsHeardFront : List ℕ → Front → Type 0
IsHeardFront held front = (frame : Frame) × (rest : List ℕ) × IsFrontOf held front frame rest × (is_asynchronous frame ≡ false)

-- A poll that waits for a frame at the front that is no asynchronous message: those before it are taken aside, in order.
abbrev pub PollsAhead : StreamSeen → StreamSeen → Poll (Result Front Error) → Type 0
PollsAhead a b Pending = (aside : List Frame) × AreAsynchronous aside × Moves a b [] aside × PendingCause a b × (b.spare ≡ a.spare)
PollsAhead a b (Ready (Ok front)) = (aside : List Frame) × AreAsynchronous aside × Moves a b [] aside × (b.unsent ≡ []) × AllMoved a b × IsHeardFront b.held front × (b.spare ≡ a.spare)
PollsAhead a b (Ready (Err e)) = (aside : List Frame) × AreAsynchronous aside × Moves a b [] aside × HeardCause a b e × (b.spare ≡ a.spare) × NoneWaited a b

-- A poll for the next frame that is no asynchronous message.
abbrev pub PollsHeard : StreamSeen → StreamSeen → Poll (Result Frame Error) → Type 0
PollsHeard a b Pending = (aside : List Frame) × AreAsynchronous aside × Moves a b [] aside × PendingCause a b × (b.spare ≡ a.spare)
PollsHeard a b (Ready (Ok frame)) = (aside : List Frame) × AreAsynchronous aside × Moves a b [] (aside ++ frame ∷ []) × (is_asynchronous frame ≡ false) × (b.unsent ≡ []) × AllMoved a b × (b.spare ≡ a.spare)
PollsHeard a b (Ready (Err e)) = (aside : List Frame) × AreAsynchronous aside × Moves a b [] aside × HeardCause a b e × (b.spare ≡ a.spare) × NoneWaited a b

-- the frame at the front is taken aside where it is an asynchronous message
abbrev pub PassesAside : {A : Type 0} → Front → StreamOf A → StreamOf A → Result Bool Error → Type 0
PassesAside front a b (Ok true) = (frame : Frame) × (rest : List ℕ) × IsFrontOf a.held front frame rest × IsAside frame × TakenFrom a b front frame rest
PassesAside front a b (Ok false) = (b ≡ a) × ((frame : Frame) (rest : List ℕ) → IsFrontOf a.held front frame rest → is_asynchronous frame ≡ false)
PassesAside front a b (Err errors.OutOfMemory) = b ≡ a
PassesAside front a b (Err (errors.Protocol (protocol.Server (faults.Malformed tag)))) = (b ≡ a) × IsMalformedFront a.held tag
PassesAside front a b (Err _) = ⊥

-- one frame taken aside, or the answer, with which none is
abbrev pub AheadOnce : StreamSeen → StreamSeen → Option (Poll (Result Front Error)) → Type 0
AheadOnce a b None = (frame : Frame) × IsAside frame × Moves a b [] (frame ∷ []) × AllMoved a b × (b.spare ≡ a.spare)
AheadOnce a b (Some answer) = PollsAhead a b answer × (b.notifications ≡ a.notifications)
