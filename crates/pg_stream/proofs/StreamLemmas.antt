-- How calls of a stream follow one another.
use Rattle.std.proofs.Common.{◌≡◌, max, ℕ, ◌+◌, ◌-◌, ◌<◌, ◌≤◌, inl, inr, true, false, List, [], ◌∷◌, ◌++◌, take, drop, length, refl, sym, ap, ◌∙◌, append_assoc, arith, subst, Some, None, codes, take_at, drop_at, Result, Ok, Err}
use Rattle.std.proofs.lemmas.List.{append-nil, take-append-drop, length-append, length-take}
use Rattle.futures.specs.declared.task.Poll.{Poll}
use Rattle.futures.specs.declared.task.Poll.TheVariants.{Ready, Pending}
use Rattle.pg_wire.specs.declared.error.Error.{Error}
use Rattle.pg_wire.specs.declared.error.Error.TheVariants as errors
use Rattle.pg_wire.specs.declared.error.IoCause.TheVariants.{Fault, End}
use Rattle.pg_wire.specs.declared.error.ProtocolFault.TheVariants as protocol
use Rattle.pg_wire.specs.declared.error.ServerFault.TheVariants as faults
use Rattle.pg_wire.specs.Bytes.{number32}
use Rattle.pg_wire.specs.Frame.{Frame, bytes_of, text_of, is_known}
use Rattle.pg_wire.specs.Parts.{is_asynchronous}
use Rattle.pg_stream.specs.declared.stream.Front.{Front}
use Rattle.std.specs.Io.KnownBytes.{Keeps, Appends}
use Rattle.pg_stream.specs.declared.link.LinkRead.{LinkRead}
use Rattle.pg_stream.specs.declared.link.LinkRead.TheVariants as reads
use Rattle.pg_stream.specs.declared.link.LinkWrite.TheVariants as writes
use Rattle.pg_stream.specs.Links.{asked_with, LinkSeen, NoneFalls, Rose, GrewBy, Rises, Counts, read_rises, write_rises, Reads, Writes}
use Rattle.pg_stream.specs.Streams.{CallsLink, CallsNone, CallsInOrder, SendsFirst, AskedFor, NoneWaited, StreamSeen, Sends, Takes, TakenFrom, Passes, AreFrames, Tallies, Moves, AllMoved, OneMoved, WriteWaited, ReadWaited, SendsOnce, ReadsOnce, HasNone, PollsFront, PollsFrame, PollsHeard, PollsAhead, IsHeardFront, framed, AheadOnce, HeardCause, IsMalformedFront, PassesAside, TakesFront, TakesHeard, StreamOf, stream_by, AreAsynchronous, PendingCause, ErrorCause, IsFrontOf, IsFront}
use Rattle.pg_stream.specs.Parameters.{ParametersSeen, SetsBy, SetsByAll}
use Rattle.pg_stream.specs.Asynchronous.{IsAside, TakesAside}
use Rattle.pg_wire.specs.declared.message.notification_response.Notification.{Notification}
use Rattle.pg_stream.specs.Notifications.{KeptSeen, KeepsBy, with_news}
use Rattle.pg_stream.proofs.ParameterLaws.{sets_heard}
use Rattle.pg_stream.proofs.NotificationLaws.{with_none, keeps_heard, KeepsByAll-append, KeepsByAll-none, KeepsByAll-one}
use Rattle.pg_stream.specs.Received.{ReceivedSeen, bytes_in, room_for, given_of, ReadsOnto}
use Rattle.pg_stream.proofs.Known.{AskedFor-then, Keeps-refl, Keeps-then, AddsPlace-after, Appends-then, Appends-from_keeps, Appends-refl, NoneFalls-refl, NoneFalls-then, NoneFalls-from_counts, NoWaits-from_counts, NoWaits-then, GrewBy-after, GrewBy-still}

pub AreFrames-append : (xs ys : List Frame) → AreFrames xs → AreFrames ys → AreFrames (xs ++ ys)
AreFrames-append [] ys p q = q
AreFrames-append (x ∷ xs) ys p q = (p.0, AreFrames-append xs ys p.1 q)

pub text_of-append : (xs ys : List Frame) → text_of (xs ++ ys) ≡ text_of xs ++ text_of ys
text_of-append [] ys = refl
text_of-append (x ∷ xs) ys = ap (λ (z : List ℕ). bytes_of x ++ z) (text_of-append xs ys) ∙ sym (append_assoc (bytes_of x) (text_of xs) (text_of ys))

pub Sends-then : (a b c : StreamSeen) (x y : List ℕ) → Sends a b x → Sends b c y → Sends a c (x ++ y)
Sends-then a b c x y p q = (
  p.0 ++ q.0,
  Appends-then a.link.taken b.link.taken c.link.taken p.0 q.0 p.1 q.1,
  sym (append_assoc a.unsent x y) ∙ ap (λ (z : List ℕ). z ++ y) p.2 ∙ append_assoc p.0 b.unsent y ∙ ap (λ (z : List ℕ). p.0 ++ z) q.2 ∙ sym (append_assoc p.0 q.0 c.unsent),
)

pub GrewBy-then : (n m k x y z : ℕ) → GrewBy n x y → GrewBy m y z → k ≡ n + m → GrewBy k x z
GrewBy-then n m k x y z p q e = (omega (arith, p, q), omega (arith, p, q, e), omega (arith, p, q, e))

-- a number that stays
GrewBy-none : (x : ℕ) → GrewBy 0 x x
GrewBy-none x = (omega arith, omega arith, omega arith)

-- no call is made where none is spent
pub GrewBy-spent : (left x : ℕ) → GrewBy (left - left) x x
GrewBy-spent left x = (omega arith, omega arith, omega arith)

pub Takes-then : (a b c : StreamSeen) (x y : List Frame) → Takes a b x → Takes b c y → Takes a c (x ++ y)
Takes-then a b c x y p q = (
  p.0 ++ q.0,
  Appends-then a.link.given b.link.given c.link.given p.0 q.0 p.1 q.1,
  sym (append_assoc a.held p.0 q.0) ∙ ap (λ (z : List ℕ). z ++ q.0) p.2 ∙ append_assoc (text_of x) b.held q.0 ∙ ap (λ (z : List ℕ). text_of x ++ z) q.2
      ∙ sym (append_assoc (text_of x) (text_of y) c.held) ∙ ap (λ (z : List ℕ). z ++ c.held) (sym (text_of-append x y)),
  AreFrames-append x y p.3 q.3,
  GrewBy-then _ _ _ _ _ _ p.4 q.4 (ap length (text_of-append x y) ∙ length-append (text_of x) (text_of y)),
)

pub Tallies-then : (a b c : StreamSeen) → Tallies a b → Tallies b c → Tallies a c
Tallies-then a b c p q = record {
  write_waits = p.write_waits + q.write_waits;
  read_waits = p.read_waits + q.read_waits;
  moved = p.moved + q.moved;
  waits = GrewBy-then _ _ _ _ _ _ p.waits q.waits (omega arith);
  moves = GrewBy-then _ _ _ _ _ _ p.moves q.moves refl;
  writes = GrewBy-then _ _ _ _ _ _ p.writes q.writes refl;
  reads = GrewBy-then _ _ _ _ _ _ p.reads q.reads refl;
  moving = GrewBy-then _ _ _ _ _ _ p.moving q.moving refl;
}

-- a number that is the same still
GrewBy-same : (x y : ℕ) → y ≡ x → GrewBy 0 x y
GrewBy-same x y e = subst (GrewBy 0 x) (sym e) (GrewBy-none x)

-- nothing was called
pub Tallies-none : (a b : StreamSeen) → b.link ≡ a.link → b.waits ≡ a.waits → b.moves ≡ a.moves → Tallies a b
Tallies-none a b n w m = record {
  write_waits = 0;
  read_waits = 0;
  moved = 0;
  waits = GrewBy-same _ _ w;
  moves = GrewBy-same _ _ m;
  writes = GrewBy-same _ _ (ap (λ (l : LinkSeen). l.write_waits) n);
  reads = GrewBy-same _ _ (ap (λ (l : LinkSeen). l.read_waits) n);
  moving = GrewBy-same _ _ (ap (λ (l : LinkSeen). l.moved) n);
}

-- ---- the parameters that frames set

pub SetsByAll-append : (xs ys : List Frame) (a b c : ParametersSeen) → SetsByAll xs a b → SetsByAll ys b c → SetsByAll (xs ++ ys) a c
SetsByAll-append [] ys a b c p q = subst (λ (m : ParametersSeen). SetsByAll ys m c) p q
SetsByAll-append (x ∷ xs) ys a b c p q = (p.0, p.1, SetsByAll-append xs ys p.0 b c p.2 q)

-- the room grows by what came in both
room_then : (a b c : StreamSeen) (x y : List Frame) → Takes b c y → b.room ≤ max a.room (room_for (length (text_of x) + length b.held)) → c.room ≤ max b.room (room_for (length (text_of y) + length c.held))
    → c.room ≤ max a.room (room_for (length (text_of (x ++ y)) + length c.held))
room_then a b c x y t p q =
    let came : length b.held + length t.0 ≡ length (text_of y) + length c.held = sym (length-append b.held t.0) ∙ ap length t.2 ∙ length-append (text_of y) c.held in
    let both : length (text_of (x ++ y)) ≡ length (text_of x) + length (text_of y) = ap length (text_of-append x y) ∙ length-append (text_of x) (text_of y) in
    omega (arith, p, q, came, both)

-- ---- the order of the link's calls

CallsNone-then : (a b c : StreamSeen) → CallsNone a b → CallsNone b c → CallsNone a c
CallsNone-then a b c p q = (q.0 ∙ p.0, p.1 ++ q.1, q.2 ∙ ap (λ (z : List ℕ). z ++ q.1) p.2 ∙ append_assoc a.unsent p.1 q.1)

CallsNone-none : (a b : StreamSeen) → b.link ≡ a.link → b.unsent ≡ a.unsent → CallsNone a b
CallsNone-none a b link unsent = (link, [], unsent ∙ sym (append-nil a.unsent))

CallsInOrder-behind : (later : List StreamSeen) (a b c : StreamSeen) → CallsNone a b → CallsInOrder later b c → CallsInOrder later a c
CallsInOrder-behind [] a b c p q = CallsNone-then a b c p q
CallsInOrder-behind (d ∷ later) a b c p q = (q.0, CallsNone-then a b q.0 p q.1, q.2, q.3)

CallsInOrder-append : (xs ys : List StreamSeen) (a b c : StreamSeen) → CallsInOrder xs a b → CallsInOrder ys b c → CallsInOrder (xs ++ ys) a c
CallsInOrder-append [] ys a b c p q = CallsInOrder-behind ys a b c p q
CallsInOrder-append (d ∷ xs) ys a b c p q = (p.0, p.1, p.2, CallsInOrder-append xs ys d b c p.3 q)

SendsFirst-then : (a b c : StreamSeen) → SendsFirst a b → SendsFirst b c → SendsFirst a c
SendsFirst-then a b c p q = (p.0 ++ q.0, CallsInOrder-append p.0 q.0 a b c p.1 q.1)

SendsFirst-none : (a b : StreamSeen) → b.link ≡ a.link → b.unsent ≡ a.unsent → SendsFirst a b
SendsFirst-none a b link unsent = ([], CallsNone-none a b link unsent)

SendsFirst-once : (a b : StreamSeen) → CallsLink a b → SendsFirst a b
SendsFirst-once a b call = (b ∷ [], (a, CallsNone-none a a refl refl, call, CallsNone-none b b refl refl))

-- one call after another
pub Moves-then : (a b c : StreamSeen) (s t : List ℕ) (x y : List Frame) → Moves a b s x → Moves b c t y → Moves a c (s ++ t) (x ++ y)
Moves-then a b c s t x y p q = record {
  counts = NoneFalls-then a.link b.link c.link p.counts q.counts;
  secured = q.secured ∙ p.secured;
  asked = AskedFor-then a.link b.link c.link p.asked q.asked;
  sent = Sends-then a b c s t p.sent q.sent;
  read = Takes-then a b c x y p.read q.read;
  order = SendsFirst-then a b c p.order q.order;
  tallies = Tallies-then a b c p.tallies q.tallies;
  left = omega (arith, p.left, q.left);
  calls = GrewBy-then _ _ _ _ _ _ p.calls q.calls (omega (arith, p.left, q.left));
  fuel = omega (arith, p.fuel, q.fuel, length-append x y);
  spare = omega (arith, p.spare, q.spare, length-append s t);
  room = room_then a b c x y q.read p.room q.room;
  parameters = SetsByAll-append x y a.parameters b.parameters c.parameters p.parameters q.parameters;
  notifications = KeepsByAll-append x y a.notifications b.notifications c.notifications p.notifications q.notifications;
}

-- no call at all
pub Moves-none : (a : StreamSeen) → Moves a a [] []
Moves-none a = record {
  counts = NoneFalls-refl a.link;
  secured = refl;
  asked = inl refl;
  sent = ([], Appends-refl a.link.taken, append-nil a.unsent);
  read = ([], Appends-refl a.link.given, append-nil a.held, tt, GrewBy-none a.taken);
  order = SendsFirst-none a a refl refl;
  tallies = Tallies-none a a refl refl refl;
  left = omega arith;
  calls = GrewBy-spent a.left a.link.calls;
  fuel = omega arith;
  spare = omega arith;
  room = omega arith;
  parameters = refl;
  notifications = KeepsByAll-none a.notifications;
}

pub NoneWaited-none : (a : StreamSeen) → NoneWaited a a
NoneWaited-none a = (refl, Keeps-refl a.link.wait_places, (refl, refl))

pub NoneWaited-then : (a b c : StreamSeen) → NoneWaited a b → NoneWaited b c → NoneWaited a c
NoneWaited-then a b c p q = (q.0 ∙ p.0, Keeps-then a.link.wait_places b.link.wait_places c.link.wait_places p.1 q.1, NoWaits-then a.link b.link c.link p.2 q.2)

pub AllMoved-none : (a : StreamSeen) → AllMoved a a
AllMoved-none a = (GrewBy-spent a.left a.link.moved, GrewBy-spent a.left a.moves, NoneWaited-none a)

pub AllMoved-more : (a b c : StreamSeen) → AllMoved a b → b.left ≤ a.left → c.left + 1 ≡ b.left → OneMoved b c → AllMoved a c
AllMoved-more a b c p le e r = (
  GrewBy-then _ _ _ _ _ _ p.0 r.0 (omega (arith, le, e)),
  GrewBy-then _ _ _ _ _ _ p.1 r.1 (omega (arith, le, e)),
  NoneWaited-then a b c p.2 r.2,
)

pub AllMoved-then : (a b c : StreamSeen) → AllMoved a b → b.left ≤ a.left → AllMoved b c → c.left ≤ b.left → AllMoved a c
AllMoved-then a b c p h q k = (
  GrewBy-then _ _ _ _ _ _ p.0 q.0 (omega (arith, h, k)),
  GrewBy-then _ _ _ _ _ _ p.1 q.1 (omega (arith, h, k)),
  NoneWaited-then a b c p.2 q.2,
)

-- a count that rose in the last step rose over all
pub Rose-after : (n m k : ℕ) → n ≤ m → Rose m k → Rose n k
Rose-after n m k le r = omega (arith, le, r)

pub WriteWaited-after : (a b c : StreamSeen) → NoneWaited a b → WriteWaited b c → WriteWaited a c
WriteWaited-after a b c n w = (GrewBy-after _ _ _ n.2.0 w.0, GrewBy-after _ _ _ n.0 w.1, Keeps-then a.link.wait_places b.link.wait_places c.link.wait_places n.1 w.2, w.3 ∙ n.2.1)

pub ReadWaited-after : (a b c : StreamSeen) → NoneWaited a b → ReadWaited b c → ReadWaited a c
ReadWaited-after a b c n w = (GrewBy-after _ _ _ n.2.1 w.0, GrewBy-after _ _ _ n.0 w.1, AddsPlace-after c.link.given a.link.wait_places b.link.wait_places c.link.wait_places n.1 w.2, w.3 ∙ n.2.0)

pub PendingCause-after : (a b c : StreamSeen) → AllMoved a b → b.left ≤ a.left → c.left ≤ b.left → PendingCause b c → PendingCause a c
PendingCause-after a b c s h k p = elim p [
  | inl w ↦ inl (WriteWaited-after a b c s.2 w)
  | inr w ↦ elim w [
    | inl r ↦ inr (inl (ReadWaited-after a b c s.2 r.0, r.1, r.2))
    | inr f ↦ inr (inr (f.0, AllMoved-then a b c s h f.1 k))
  ]
]

pub ErrorCause-after : (a b c : StreamSeen) (e : Error) → NoneFalls a.link b.link → ErrorCause b c e → ErrorCause a c e
ErrorCause-after a b c errors.OutOfMemory m p = tt
ErrorCause-after a b c (errors.Io Fault) m p = Rose-after _ _ _ m.faults p
ErrorCause-after a b c (errors.Io End) m p = (Rose-after _ _ _ m.ends p.0, p.1)
ErrorCause-after a b c (errors.Protocol (protocol.Server f)) m p = p
ErrorCause-after a b c _ m p = absurd p

pub PollsFront-after : (a b c : StreamSeen) (r : Poll (Result Front Error)) → Moves a b [] [] → b.spare ≡ a.spare → AllMoved a b → PollsFront b c r → PollsFront a c r
PollsFront-after a b c Pending m k s p = (Moves-then a b c [] [] [] [] m p.0, PendingCause-after a b c s m.left p.0.left p.1, p.2 ∙ k)
PollsFront-after a b c (Ready (Ok front)) m k s p = (Moves-then a b c [] [] [] [] m p.0, p.1, AllMoved-then a b c s m.left p.2 p.0.left, p.3, p.4 ∙ k)
PollsFront-after a b c (Ready (Err e)) m k s p = (Moves-then a b c [] [] [] [] m p.0, ErrorCause-after a b c e m.counts p.1, p.2 ∙ k, NoneWaited-then a b c s.2 p.3)

-- ---- one link call

-- one less is left
one_less : (left x y : ℕ) → 0 < left → GrewBy 1 x y → GrewBy (left - (left - 1)) x y
one_less left x y some grew = subst (λ (n : ℕ). GrewBy n x y) (omega (arith, some)) grew

-- a call that took and gave these bytes, and was counted in the link and in the stream
called : (a : StreamSeen) (link : LinkSeen) (r : Rises) (unsent held took gave : List ℕ) (room w m : ℕ) → Counts a.link link r → link.secured ≡ a.link.secured → AskedFor a.link link → room ≤ max a.room (room_for (length a.held))
    → Appends a.link.taken link.taken took → a.unsent ≡ took ++ unsent → Appends a.link.given link.given gave → held ≡ a.held ++ gave → length gave ≤ 8192 → 0 < a.left
    → GrewBy (r.write_waits + r.read_waits) a.waits w → GrewBy r.moved a.moves m → CallsLink a (record a { link = link; unsent = unsent; held = held; room = room; left = a.left - 1; waits = w; moves = m })
    → Moves a (record a { link = link; unsent = unsent; held = held; room = room; left = a.left - 1; waits = w; moves = m }) [] []
called a link r unsent held took gave room w m counts secured asked grows taken sent given holds fits some waits moves call = record {
  counts = NoneFalls-from_counts _ _ _ counts;
  secured = secured;
  asked = asked;
  sent = (took, taken, append-nil a.unsent ∙ sent);
  read = (gave, given, sym holds, tt, GrewBy-none a.taken);
  order = SendsFirst-once a _ call;
  tallies = record { write_waits = r.write_waits; read_waits = r.read_waits; moved = r.moved; waits = waits; moves = moves; writes = counts.write_waits; reads = counts.read_waits; moving = counts.moved };
  left = omega arith;
  calls = one_less _ _ _ some counts.calls;
  fuel = omega (arith, ap length holds, length-append a.held gave);
  spare = omega arith;
  room = omega (arith, grows, ap length holds, length-append a.held gave);
  parameters = refl;
  notifications = KeepsByAll-none a.notifications;
}

pub sends_moved : (a : StreamSeen) (link : LinkSeen) (n m : ℕ) → Writes a.link link (writes.Moved n) a.unsent → 0 < a.left → GrewBy 1 a.moves m
    → SendsOnce a (record a { link = link; unsent = drop n a.unsent; left = a.left - 1; moves = m }) (writes.Moved n)
sends_moved a link n m w some grew = record {
  moves = called a link (write_rises (writes.Moved n)) (drop n a.unsent) a.held (take n a.unsent) [] a.room a.waits m w.counts w.secured (inl w.asked) (omega arith) w.takes.2 (sym (take-append-drop n a.unsent)) (Appends-from_keeps _ _ w.given) (sym (append-nil a.held)) (omega arith) some (GrewBy-none a.waits) grew (inl (writes.Moved n, w, refl));
  held = refl;
  spare = refl;
  left = omega arith;
  cause = (w.counts.moved, grew, (refl, w.places, NoWaits-from_counts _ _ _ w.counts refl refl));
}

pub sends_waited : (a : StreamSeen) (link : LinkSeen) (m : ℕ) → Writes a.link link writes.NotYet a.unsent → 0 < a.left → GrewBy 1 a.waits m
    → SendsOnce a (record a { link = link; left = a.left - 1; waits = m }) writes.NotYet
sends_waited a link m w some grew = record {
  moves = called a link (write_rises writes.NotYet) a.unsent a.held [] [] a.room m a.moves w.counts w.secured (inl w.asked) (omega arith) (Appends-from_keeps _ _ w.takes) refl (Appends-from_keeps _ _ w.given) (sym (append-nil a.held)) (omega arith) some grew (GrewBy-none a.moves) (inl (writes.NotYet, w, refl));
  held = refl;
  spare = refl;
  left = omega arith;
  cause = (w.counts.write_waits, grew, w.places, GrewBy-still _ _ w.counts.read_waits);
}

pub sends_failed : (a : StreamSeen) (link : LinkSeen) → Writes a.link link writes.Failed a.unsent → 0 < a.left → SendsOnce a (record a { link = link; left = a.left - 1 }) writes.Failed
sends_failed a link w some = record {
  moves = called a link (write_rises writes.Failed) a.unsent a.held [] [] a.room a.waits a.moves w.counts w.secured (inl w.asked) (omega arith) (Appends-from_keeps _ _ w.takes) refl (Appends-from_keeps _ _ w.given) (sym (append-nil a.held)) (omega arith) some (GrewBy-none a.waits) (GrewBy-none a.moves) (inl (writes.Failed, w, refl));
  held = refl;
  spare = refl;
  left = omega arith;
  cause = (w.counts.faults.2, (refl, w.places, NoWaits-from_counts _ _ _ w.counts refl refl));
}

-- a read asks for 8192 bytes
asked_by : (a b : LinkSeen) (into : List ℕ) → b.asked ≡ asked_with a.asked (length into) → length into ≡ 8192 → AskedFor a b
asked_by a b into e size = inr (e ∙ ap (asked_with a.asked) size)

pub reads_moved : (a : StreamSeen) (link : LinkSeen) (into : List ℕ) (room n m : ℕ) → a.unsent ≡ [] → Reads a.link link (reads.Moved n) into → length into ≡ 8192 → room ≤ max a.room (room_for (length a.held)) → 0 < a.left → GrewBy 1 a.moves m
    → ReadsOnce a (record a { link = link; held = a.held ++ take n into; room = room; left = a.left - 1; moves = m }) (reads.Moved n)
reads_moved a link into room n m sent r size grows some grew = record {
  moves = called a link (read_rises (reads.Moved n)) a.unsent (a.held ++ take n into) [] (take n into) room a.waits m r.counts r.secured (asked_by a.link link into r.asked size) grows (Appends-from_keeps _ _ r.taken) refl r.gives.2 refl (omega (arith, size, length-take n into)) some (GrewBy-none a.waits) grew (inr (reads.Moved n, into, r, sent, sent));
  unsent = refl;
  spare = refl;
  left = omega arith;
  cause = (r.counts.moved, grew, (refl, r.gives.3, NoWaits-from_counts _ _ _ r.counts refl refl));
}

pub reads_waited : (a : StreamSeen) (link : LinkSeen) (into : List ℕ) (room m : ℕ) → a.unsent ≡ [] → Reads a.link link reads.NotYet into → length into ≡ 8192 → room ≤ max a.room (room_for (length a.held)) → 0 < a.left → GrewBy 1 a.waits m
    → ReadsOnce a (record a { link = link; room = room; left = a.left - 1; waits = m }) reads.NotYet
reads_waited a link into room m sent r size grows some grew = record {
  moves = called a link (read_rises reads.NotYet) a.unsent a.held [] [] room m a.moves r.counts r.secured (asked_by a.link link into r.asked size) grows (Appends-from_keeps _ _ r.taken) refl (Appends-from_keeps _ _ r.gives.0) (sym (append-nil a.held)) (omega arith) some grew (GrewBy-none a.moves) (inr (reads.NotYet, into, r, sent, sent));
  unsent = refl;
  spare = refl;
  left = omega arith;
  cause = ((r.counts.read_waits, grew, r.gives.1, GrewBy-still _ _ r.counts.write_waits), refl);
}

-- a read that gave nothing and waited for nothing
read_over : (a : StreamSeen) (link : LinkSeen) (answer : LinkRead) (into : List ℕ) (room : ℕ) → a.unsent ≡ [] → Reads a.link link answer into → length into ≡ 8192 → room ≤ max a.room (room_for (length a.held)) → Keeps a.link.given link.given → (read_rises answer).moved ≡ 0
    → (read_rises answer).write_waits + (read_rises answer).read_waits ≡ 0 → 0 < a.left → Moves a (record a { link = link; room = room; left = a.left - 1 }) [] []
read_over a link answer into room sent r size grows kept still calm some =
    called a link (read_rises answer) a.unsent a.held [] [] room a.waits a.moves r.counts r.secured (asked_by a.link link into r.asked size) grows (Appends-from_keeps _ _ r.taken) refl (Appends-from_keeps _ _ kept) (sym (append-nil a.held)) (omega arith) some
    (subst (λ (k : ℕ). GrewBy k a.waits a.waits) (sym calm) (GrewBy-none a.waits)) (subst (λ (k : ℕ). GrewBy k a.moves a.moves) (sym still) (GrewBy-none a.moves)) (inr (answer, into, r, sent, sent))

pub reads_ended : (a : StreamSeen) (link : LinkSeen) (into : List ℕ) (room : ℕ) → a.unsent ≡ [] → Reads a.link link reads.End into → length into ≡ 8192 → room ≤ max a.room (room_for (length a.held)) → 0 < a.left
    → ReadsOnce a (record a { link = link; room = room; left = a.left - 1 }) reads.End
reads_ended a link into room sent r size grows some = record {
  moves = read_over a link reads.End into room sent r size grows r.gives.0 refl (omega arith) some;
  unsent = refl;
  spare = refl;
  left = omega arith;
  cause = (r.counts.ends.2, refl, (refl, r.gives.1, NoWaits-from_counts _ _ _ r.counts refl refl));
}

pub reads_failed : (a : StreamSeen) (link : LinkSeen) (into : List ℕ) (room : ℕ) → a.unsent ≡ [] → Reads a.link link reads.Failed into → length into ≡ 8192 → room ≤ max a.room (room_for (length a.held)) → 0 < a.left
    → ReadsOnce a (record a { link = link; room = room; left = a.left - 1 }) reads.Failed
reads_failed a link into room sent r size grows some = record {
  moves = read_over a link reads.Failed into room sent r size grows r.gives.0 refl (omega arith) some;
  unsent = refl;
  spare = refl;
  left = omega arith;
  cause = (r.counts.faults.2, refl, (refl, r.gives.1, NoWaits-from_counts _ _ _ r.counts refl refl));
}

-- ---- the frame at the front

-- a frame whose tag and size are known is the tag and the bytes behind the header
pub front_frame : (held : List ℕ) (front : Front) → IsFront held front → IsFrontOf held front (record { tag = front.tag; body = take (front.total - 5) (drop 5 held) }) (drop front.total held)
front_frame held front f =
    let frame = f.0 in
    let is = f.2 in
    let size : front.total ≡ length (bytes_of frame) = omega (arith, is.total) in
    let body : take (front.total - 5) (drop 5 held) ≡ frame.body =
    ap (λ (b : List ℕ). take (front.total - 5) (drop 5 b)) is.parts ∙ take_at frame.body f.1 (front.total - 5) (omega (arith, is.total)) in
    let rest : drop front.total held ≡ f.1 = ap (drop front.total) is.parts ∙ drop_at (bytes_of frame) f.1 front.total (sym size) in
    let same : frame ≡ record { tag = front.tag; body = take (front.total - 5) (drop 5 held) } =
    ap (λ (t : ℕ). framed t frame.body) is.tag ∙ ap (framed front.tag) (sym body) in
    subst (λ (m : Frame). IsFrontOf held front m (drop front.total held)) same (subst (IsFrontOf held front frame) (sym rest) is)

-- what follows the frame at the front
pub front_rest : (held : List ℕ) (front : Front) (frame : Frame) (rest : List ℕ) → IsFrontOf held front frame rest → drop front.total held ≡ rest
front_rest held front frame rest is =
    let size : length (bytes_of frame) ≡ front.total = omega (arith, is.total) in
    ap (drop front.total) is.parts ∙ drop_at (bytes_of frame) rest front.total size

pub passes : {A : Type 0} (a : StreamOf A) (front : Front) (n : ℕ) → GrewBy front.total a.taken n → Passes front a (record a { held = drop front.total a.held; taken = n })
passes a front n grew frame rest is = (ap (λ (h : List ℕ). record a { held = h; taken = n }) (front_rest a.held front frame rest is), grew)

-- there is one frame at the front
pub front_tag : (held : List ℕ) (front : Front) (frame : Frame) (rest : List ℕ) → IsFrontOf held front frame rest → is_asynchronous frame ≡ is_known (codes "NSA") front.tag
front_tag held front frame rest is = ap (is_known (codes "NSA")) is.tag

pub front_within : (held : List ℕ) (front : Front) → IsFront held front → (5 ≤ front.total) × (front.total ≤ length held)
front_within held front f =
    let is = f.2 in
    let size : length (bytes_of f.0 ++ f.1) ≡ length f.0.body + 5 + length f.1 = omega (arith, length-append (bytes_of f.0) f.1, length-append (number32 (length f.0.body + 4)) f.0.body) in
    (omega (arith, is.total), omega (arith, is.total, ap length is.parts, size))

-- ---- a message at the front that is taken aside

-- what is told stands in the stream behind
taken_as : {A : Type 0} (a b : StreamOf A) (rest : List ℕ) (p : ParametersSeen) (n : KeptSeen) → b.parameters ≡ p → b.notifications ≡ n → b ≡ record a { held = rest; taken = b.taken; parameters = p; notifications = n }
    → b ≡ record a { held = rest; taken = b.taken; parameters = b.parameters; notifications = b.notifications }
taken_as a b rest p n same kept e =
    e ∙ ap (λ (m : ParametersSeen). record a { held = rest; taken = b.taken; parameters = m; notifications = n }) (sym same) ∙ ap (λ (k : KeptSeen). record a { held = rest; taken = b.taken; parameters = b.parameters; notifications = k }) (sym kept)

pub passes_aside : {A : Type 0} (a b : StreamOf A) (p : ParametersSeen) (n : KeptSeen) (front : Front) (body rest : List ℕ) → IsFrontOf a.held front (framed front.tag body) rest
    → TakesAside (framed front.tag body) a.parameters p a.notifications n (Ok true) → Passes front (record a { parameters = p; notifications = n }) b → PassesAside front a b (Ok true)
passes_aside {A} a b p n front body rest f t q =
    let moved = q (framed front.tag body) rest f in
    let same : b.parameters ≡ p = ap (λ (s : StreamOf A). s.parameters) moved.0 in
    let kept : b.notifications ≡ n = ap (λ (s : StreamOf A). s.notifications) moved.0 in (
      framed front.tag body,
      rest,
      f,
      t.0,
      (
        taken_as a b rest p n same kept moved.0,
        moved.1,
        subst (SetsBy (framed front.tag body) a.parameters) (sym same) t.1,
        subst (KeepsBy (framed front.tag body) a.notifications) (sym kept) t.2,
      ),
    )

-- nothing that is kept changed
untold : {A : Type 0} (a : StreamOf A) (p : ParametersSeen) (n : KeptSeen) → p ≡ a.parameters → n ≡ a.notifications → record a { parameters = p; notifications = n } ≡ a
untold a p n same kept = ap (λ (m : ParametersSeen). record a { parameters = m; notifications = n }) same ∙ ap (λ (k : KeptSeen). record a { notifications = k }) kept

pub refuses_aside : {A : Type 0} (a : StreamOf A) (p : ParametersSeen) (n : KeptSeen) (front : Front) (body rest : List ℕ) (e : Error) → IsFrontOf a.held front (framed front.tag body) rest
    → TakesAside (framed front.tag body) a.parameters p a.notifications n (Err e) → PassesAside front a (record a { parameters = p; notifications = n }) (Err e)
refuses_aside a p n front body rest errors.OutOfMemory f t = untold a p n t.1 t.2
refuses_aside a p n front body rest (errors.Protocol (protocol.Server (faults.Malformed tag))) f t = (
  untold a p n t.1 t.2,
  record { frame = framed front.tag body; rest = rest; whole = f.whole; tag_is = sym t.3.0; asynchronous = t.0; refused = t.3.1; parts = f.parts },
)
refuses_aside a p n front body rest _ f t = absurd t.3

pub leaves_heard : {A : Type 0} (a : StreamOf A) (p : ParametersSeen) (n : KeptSeen) (front : Front) (body : List ℕ) → TakesAside (framed front.tag body) a.parameters p a.notifications n (Ok false)
    → PassesAside front a (record a { parameters = p; notifications = n }) (Ok false)
leaves_heard a p n front body t = (untold a p n t.1 t.2, λ frame rest f. front_tag a.held front frame rest f ∙ t.0)

-- ---- reads one after another, with all sent and no whole frame held before each

pub record ReadsOn (a b : StreamSeen) : Type 0 where
  pub moves : Moves a b [] []
  pub unsent : b.unsent ≡ []
  pub spare : b.spare ≡ a.spare
  pub moved : AllMoved a b

pub reads_none : (a : StreamSeen) → a.unsent ≡ [] → ReadsOn a a
reads_none a e = record { moves = Moves-none a; unsent = e; spare = refl; moved = AllMoved-none a }

pub reads_on : (a b c : StreamSeen) (n : ℕ) → ReadsOn a b → ReadsOnce b c (reads.Moved n) → ReadsOn a c
reads_on a b c n i r = record {
  moves = Moves-then a b c [] [] [] [] i.moves r.moves;
  unsent = r.unsent ∙ i.unsent;
  spare = r.spare ∙ i.spare;
  moved = AllMoved-more a b c i.moved i.moves.left r.left r.cause;
}

pub read_waits : (a b c : StreamSeen) → ReadsOn a b → HasNone b.held → ReadsOnce b c reads.NotYet → PollsFront a c Pending
read_waits a b c i none r = (
  Moves-then a b c [] [] [] [] i.moves r.moves,
  inr (inl (ReadWaited-after a b c i.moved.2 r.cause.0, r.unsent ∙ i.unsent, subst HasNone (sym r.cause.1) none)),
  r.spare ∙ i.spare,
)

pub read_ends : (a b c : StreamSeen) → ReadsOn a b → ReadsOnce b c reads.End → PollsFront a c (Ready (Err (errors.Io End)))
read_ends a b c i r = (Moves-then a b c [] [] [] [] i.moves r.moves, (Rose-after _ _ _ i.moves.counts.ends r.cause.0, r.unsent ∙ i.unsent), r.spare ∙ i.spare, NoneWaited-then a b c i.moved.2 r.cause.2)

pub read_fails : (a b c : StreamSeen) → ReadsOn a b → ReadsOnce b c reads.Failed → PollsFront a c (Ready (Err (errors.Io Fault)))
read_fails a b c i r = (Moves-then a b c [] [] [] [] i.moves r.moves, Rose-after _ _ _ i.moves.counts.faults r.cause.0, r.spare ∙ i.spare, NoneWaited-then a b c i.moved.2 r.cause.2)

-- ---- frames taken aside, and the next one that isn't

pub record HearsOn (a b : StreamSeen) : Type 0 where
  pub aside : List Frame
  pub asynchronous : AreAsynchronous aside
  pub moves : Moves a b [] aside
  pub spare : b.spare ≡ a.spare
  pub moved : AllMoved a b

AreAsynchronous-more : (xs : List Frame) (f : Frame) → AreAsynchronous xs → IsAside f → AreAsynchronous (xs ++ f ∷ [])
AreAsynchronous-more [] f p e = (e, tt)
AreAsynchronous-more (x ∷ xs) f p e = (p.0, AreAsynchronous-more xs f p.1 e)

-- a frame that stands at the front is told at once
pub ahead_at_once : (a : StreamSeen) (front : Front) → a.unsent ≡ [] → IsHeardFront a.held front → PollsAhead a a (Ready (Ok front))
ahead_at_once a front sent f = ([], tt, Moves-none a, sent, AllMoved-none a, f, refl)

pub hears_none : (a : StreamSeen) → HearsOn a a
hears_none a = record { aside = []; asynchronous = tt; moves = Moves-none a; spare = refl; moved = AllMoved-none a }

-- the frame at the front is taken, with no call of the link
pub takes_front : (a b : StreamSeen) (front : Front) (frame : Frame) (rest : List ℕ) → IsFrontOf a.held front frame rest → TakenFrom a b front frame rest → Moves a b [] (frame ∷ [])
takes_front a b front frame rest f t =
    let size : length a.held ≡ length frame.body + 5 + length rest = ap length f.parts ∙ omega (arith, length-append (bytes_of frame) rest, length-append (number32 (length frame.body + 4)) frame.body) in
    let parts : a.held ++ [] ≡ text_of (frame ∷ []) ++ rest = append-nil a.held ∙ f.parts ∙ ap (λ (z : List ℕ). z ++ rest) (sym (append-nil (bytes_of frame))) in
    let long : front.total ≡ length (text_of (frame ∷ [])) = omega (arith, f.total, length-append (bytes_of frame) [], length-append (number32 (length frame.body + 4)) frame.body) in
    let counts : NoneFalls a.link a.link = NoneFalls-refl a.link in
    let c : StreamSeen = record a { held = rest; taken = b.taken; parameters = b.parameters; notifications = b.notifications } in
    let taken : Moves a c [] (frame ∷ []) = record {
      counts = counts;
      secured = refl;
      asked = inl refl;
      sent = ([], Appends-refl a.link.taken, append-nil a.unsent);
      read = ([], Appends-refl a.link.given, parts, (f.whole, tt), subst (λ (n : ℕ). GrewBy n a.taken b.taken) long t.1);
      order = SendsFirst-none a c refl refl;
      tallies = Tallies-none a c refl refl refl;
      left = omega arith;
      calls = GrewBy-spent a.left a.link.calls;
      fuel = omega (arith, size);
      spare = omega arith;
      room = omega arith;
      parameters = (b.parameters, t.2, refl);
      notifications = KeepsByAll-one frame a.notifications b.notifications t.3;
    } in
    subst (λ (s : StreamSeen). Moves a s [] (frame ∷ [])) (sym t.0) taken

AllMoved-taken : (a b c : StreamSeen) (front : Front) (frame : Frame) (rest : List ℕ) → AllMoved a b → TakenFrom b c front frame rest → AllMoved a c
AllMoved-taken a b c front frame rest m t = subst (λ (s : StreamSeen). AllMoved a s) (sym t.0) m

seen_taken : {A : Type 0} (seen : A → LinkSeen) (a b : StreamOf A) (front : Front) (frame : Frame) (rest : List ℕ) → TakenFrom a b front frame rest → TakenFrom (stream_by seen a) (stream_by seen b) front frame rest
seen_taken seen a b front frame rest t = (ap (stream_by seen) t.0, t.1, t.2, t.3)

-- a frame that is no asynchronous message sets nothing
taken_heard : {A : Type 0} (a b : StreamOf A) (front : Front) (frame : Frame) (rest : List ℕ) → is_asynchronous frame ≡ false → IsFrontOf a.held front frame rest → Passes front a b → TakenFrom a b front frame rest
taken_heard {A} a b front frame rest h f p =
    let q = p frame rest f in
    let same : b.parameters ≡ a.parameters = ap (λ (s : StreamOf A). s.parameters) q.0 in
    let kept : b.notifications ≡ a.notifications = ap (λ (s : StreamOf A). s.notifications) q.0 in (
      taken_as a b rest a.parameters a.notifications same kept q.0,
      q.1,
      subst (SetsBy frame a.parameters) (sym same) (sets_heard frame a.parameters h),
      subst (KeepsBy frame a.notifications) (sym kept) (keeps_heard frame a.notifications h),
    )

-- where no frame is taken, what is kept stays
pub untold_moves : (a b : StreamSeen) (q : List ℕ) → Moves a b q [] → b.notifications ≡ a.notifications
untold_moves a b q m = m.notifications.2 ∙ ap (λ (news : List Notification). with_news news a.notifications) m.notifications.1 ∙ with_none a.notifications

-- one frame aside
pub aside_once : {A : Type 0} (seen : A → LinkSeen) (a b c : StreamOf A) (front : Front) → PollsFront (stream_by seen a) (stream_by seen b) (Ready (Ok front)) → PassesAside front b c (Ok true)
    → AheadOnce (stream_by seen a) (stream_by seen c) None
aside_once seen a b c front p q =
    let taken = seen_taken seen b c front q.0 q.1 q.4 in (
      q.0,
      q.3,
      Moves-then (stream_by seen a) (stream_by seen b) (stream_by seen c) [] [] [] (q.0 ∷ []) p.0 (takes_front (stream_by seen b) (stream_by seen c) front q.0 q.1 q.2 taken),
      AllMoved-taken (stream_by seen a) (stream_by seen b) (stream_by seen c) front q.0 q.1 p.2 taken,
      ap (λ (s : StreamSeen). s.spare) taken.0 ∙ p.4,
    )

-- a frame that is no asynchronous message stays at the front
pub ahead_once : {A : Type 0} (seen : A → LinkSeen) (a b c : StreamOf A) (front : Front) → PollsFront (stream_by seen a) (stream_by seen b) (Ready (Ok front)) → PassesAside front b c (Ok false)
    → AheadOnce (stream_by seen a) (stream_by seen c) (Some (Ready (Ok front)))
ahead_once {A} seen a b c front p q = subst (λ (s : StreamOf A). AheadOnce (stream_by seen a) (stream_by seen s) (Some (Ready (Ok front)))) (sym q.0)
    (([], tt, p.0, p.1, p.2, (p.3.0, p.3.1, p.3.2, q.1 p.3.0 p.3.1 p.3.2), p.4), untold_moves (stream_by seen a) (stream_by seen b) [] p.0)

-- the frame at the front is taken too, or stays for want of memory
pub heard_then : {A : Type 0} (seen : A → LinkSeen) (a b c : StreamOf A) (front : Front) (r : Result Frame Error) → PollsAhead (stream_by seen a) (stream_by seen b) (Ready (Ok front)) → TakesHeard front b c r
    → PollsHeard (stream_by seen a) (stream_by seen c) (Ready r)
heard_then {A} seen a b c front (Ok frame) p t =
    let taken = seen_taken seen b c front frame t.1.0 t.1.2 in (
      p.0,
      p.1,
      Moves-then (stream_by seen a) (stream_by seen b) (stream_by seen c) [] [] p.0 (frame ∷ []) p.2 (takes_front (stream_by seen b) (stream_by seen c) front frame t.1.0 t.1.1 taken),
      t.0,
      subst (λ (s : StreamSeen). s.unsent ≡ []) (sym taken.0) p.3,
      AllMoved-taken (stream_by seen a) (stream_by seen b) (stream_by seen c) front frame t.1.0 p.4 taken,
      ap (λ (s : StreamSeen). s.spare) taken.0 ∙ p.6,
    )
heard_then {A} seen a b c front (Err e) p t =
    let same : stream_by seen c ≡ stream_by seen b = ap (stream_by seen) t.0 in
    (p.0, p.1, subst (λ (s : StreamSeen). Moves (stream_by seen a) s [] p.0) (sym same) p.2, subst (HeardCause (stream_by seen a) (stream_by seen c)) (sym t.1) tt, ap (λ (s : StreamSeen). s.spare) same ∙ p.6, subst (NoneWaited (stream_by seen a)) (sym same) p.4.2)

-- the same of whatever frame stands there
pub frame_then : {A : Type 0} (seen : A → LinkSeen) (a b c : StreamOf A) (front : Front) (r : Result Frame Error) → PollsFront (stream_by seen a) (stream_by seen b) (Ready (Ok front)) → TakesFront front b c r
    → PollsFrame (stream_by seen a) (stream_by seen c) (Ready r)
frame_then {A} seen a b c front (Ok frame) p t =
    let taken = seen_taken seen b c front frame t.0 t.2 in (
      Moves-then (stream_by seen a) (stream_by seen b) (stream_by seen c) [] [] [] (frame ∷ []) p.0 (takes_front (stream_by seen b) (stream_by seen c) front frame t.0 t.1 taken),
      subst (λ (s : StreamSeen). s.unsent ≡ []) (sym taken.0) p.1,
      AllMoved-taken (stream_by seen a) (stream_by seen b) (stream_by seen c) front frame t.0 p.2 taken,
      ap (λ (s : StreamSeen). s.spare) taken.0 ∙ p.4,
    )
frame_then {A} seen a b c front (Err e) p t =
    let same : stream_by seen c ≡ stream_by seen b = ap (stream_by seen) t.0 in
    (subst (λ (s : StreamSeen). Moves (stream_by seen a) s [] []) (sym same) p.0, subst (ErrorCause (stream_by seen a) (stream_by seen c)) (sym t.1) tt, ap (λ (s : StreamSeen). s.spare) same ∙ p.4, subst (NoneWaited (stream_by seen a)) (sym same) p.2.2)

-- an asynchronous message that is refused
pub refused_once : {A : Type 0} (seen : A → LinkSeen) (a b c : StreamOf A) (front : Front) (e : Error) → PollsFront (stream_by seen a) (stream_by seen b) (Ready (Ok front)) → PassesAside front b c (Err e)
    → AheadOnce (stream_by seen a) (stream_by seen c) (Some (Ready (Err e)))
refused_once {A} seen a b c front errors.OutOfMemory p q =
    let same : stream_by seen c ≡ stream_by seen b = ap (stream_by seen) q in
    let moves = subst (λ (s : StreamSeen). Moves (stream_by seen a) s [] []) (sym same) p.0 in
    (([], tt, moves, tt, ap (λ (s : StreamSeen). s.spare) same ∙ p.4, subst (NoneWaited (stream_by seen a)) (sym same) p.2.2), untold_moves (stream_by seen a) (stream_by seen c) [] moves)
refused_once {A} seen a b c front (errors.Protocol (protocol.Server (faults.Malformed tag))) p q =
    let same : stream_by seen c ≡ stream_by seen b = ap (stream_by seen) q.0 in
    let moves = subst (λ (s : StreamSeen). Moves (stream_by seen a) s [] []) (sym same) p.0 in
    (([], tt, moves, subst (λ (s : StreamOf A). IsMalformedFront s.held tag) (sym q.0) q.1, ap (λ (s : StreamSeen). s.spare) same ∙ p.4, subst (NoneWaited (stream_by seen a)) (sym same) p.2.2), untold_moves (stream_by seen a) (stream_by seen c) [] moves)
refused_once {A} seen a b c front _ p q = absurd q

HeardCause-from : (a b : StreamSeen) (e : Error) → ErrorCause a b e → HeardCause a b e
HeardCause-from a b (errors.Protocol (protocol.Server (faults.Malformed tag))) p = absurd p
HeardCause-from a b e p = p

-- the stream itself fails
pub failed_once : (a b : StreamSeen) (e : Error) → PollsFront a b (Ready (Err e)) → AheadOnce a b (Some (Ready (Err e)))
failed_once a b e p = (([], tt, p.0, HeardCause-from a b e p.1, p.2, p.3), untold_moves a b [] p.0)

pub waits_once : (a b : StreamSeen) → PollsFront a b Pending → AheadOnce a b (Some Pending)
waits_once a b p = (([], tt, p.0, p.1, p.2), untold_moves a b [] p.0)

pub hears_on : (a b c : StreamSeen) → HearsOn a b → AheadOnce b c None → HearsOn a c
hears_on a b c i p = record {
  aside = i.aside ++ p.0 ∷ [];
  asynchronous = AreAsynchronous-more i.aside p.0 i.asynchronous p.1;
  moves = Moves-then a b c [] [] i.aside (p.0 ∷ []) i.moves p.2;
  spare = p.4 ∙ i.spare;
  moved = AllMoved-then a b c i.moved i.moves.left p.3 p.2.left;
}

AreAsynchronous-append : (xs ys : List Frame) → AreAsynchronous xs → AreAsynchronous ys → AreAsynchronous (xs ++ ys)
AreAsynchronous-append [] ys p q = q
AreAsynchronous-append (x ∷ xs) ys p q = (p.0, AreAsynchronous-append xs ys p.1 q)

pub HeardCause-after : (a b c : StreamSeen) (e : Error) → NoneFalls a.link b.link → HeardCause b c e → HeardCause a c e
HeardCause-after a b c (errors.Protocol (protocol.Server (faults.Malformed tag))) m p = p
HeardCause-after a b c e m p = ErrorCause-after a b c e m p

pub hears_last : (a b c : StreamSeen) (r : Poll (Result Front Error)) → HearsOn a b → PollsAhead b c r → PollsAhead a c r
hears_last a b c Pending i p =
    (i.aside ++ p.0, AreAsynchronous-append i.aside p.0 i.asynchronous p.1, Moves-then a b c [] [] i.aside p.0 i.moves p.2, PendingCause-after a b c i.moved i.moves.left p.2.left p.3, p.4 ∙ i.spare)
hears_last a b c (Ready (Ok front)) i p =
    (i.aside ++ p.0, AreAsynchronous-append i.aside p.0 i.asynchronous p.1, Moves-then a b c [] [] i.aside p.0 i.moves p.2, p.3, AllMoved-then a b c i.moved i.moves.left p.4 p.2.left, p.5, p.6 ∙ i.spare)
hears_last a b c (Ready (Err e)) i p =
    (i.aside ++ p.0, AreAsynchronous-append i.aside p.0 i.asynchronous p.1, Moves-then a b c [] [] i.aside p.0 i.moves p.2, HeardCause-after a b c e i.moves.counts p.3, p.4 ∙ i.spare, NoneWaited-then a b c i.moved.2 p.5)

-- a message at the front that was taken
pub took_frame : {A : Type 0} (seen : A → LinkSeen) (a b : StreamOf A) (front : Front) (frame : Frame) (rest : List ℕ) → IsFrontOf a.held front frame rest → is_asynchronous frame ≡ false → Passes front a b
    → Moves (stream_by seen a) (stream_by seen b) [] (frame ∷ []) × AllMoved (stream_by seen a) (stream_by seen b)
took_frame seen a b front frame rest f heard p =
    let taken = seen_taken seen a b front frame rest (taken_heard a b front frame rest heard f p) in
    (takes_front (stream_by seen a) (stream_by seen b) front frame rest f taken, AllMoved-taken (stream_by seen a) (stream_by seen a) (stream_by seen b) front frame rest (AllMoved-none (stream_by seen a)) taken)

pub took_front : {A : Type 0} (seen : A → LinkSeen) (a b : StreamOf A) (front : Front) → IsHeardFront a.held front → Passes front a b
    → (frame : Frame) × Moves (stream_by seen a) (stream_by seen b) [] (frame ∷ []) × AllMoved (stream_by seen a) (stream_by seen b)
took_front seen a b front f p = let t = took_frame seen a b front f.0 f.1 f.2 f.3 p in (f.0, t.0, t.1)

pub IsFront-from_heard : (held : List ℕ) (front : Front) → IsHeardFront held front → IsFront held front
IsFront-from_heard held front h = (h.0, h.1, h.2)

-- what is queued is moved into what is unsent, and may take of the cleanup reserve
pub queues_by : {A : Type 0} (seen : A → LinkSeen) (a b : StreamOf A) (bytes : List ℕ) (spare : ℕ) → a.spare ≤ spare + length bytes → b ≡ record a { unsent = a.unsent ++ bytes; spare = spare }
    → Moves (stream_by seen a) (stream_by seen b) bytes [] × AllMoved (stream_by seen a) (stream_by seen b)
queues_by {A} seen a b bytes spare room e =
    let s : StreamSeen = stream_by seen a in
    let t : StreamSeen = record s { unsent = a.unsent ++ bytes; spare = spare } in
    let counts : NoneFalls s.link s.link = NoneFalls-refl s.link in
    let moves : Moves s t bytes [] = record {
      counts = counts;
      secured = refl;
      asked = inl refl;
      sent = ([], Appends-refl s.link.taken, refl);
      read = ([], Appends-refl s.link.given, append-nil s.held, tt, GrewBy-none s.taken);
      order = ([], (refl, bytes, refl));
      tallies = Tallies-none s t refl refl refl;
      left = omega arith;
      calls = GrewBy-spent s.left s.link.calls;
      fuel = omega arith;
      room = omega arith;
      spare = room;
      parameters = refl;
      notifications = KeepsByAll-none s.notifications;
    } in
    let all : AllMoved s t = (GrewBy-spent s.left s.link.moved, GrewBy-spent s.left s.moves, (refl, Keeps-refl s.link.wait_places, (refl, refl))) in
    subst (λ (u : StreamOf A). Moves s (stream_by seen u) bytes [] × AllMoved s (stream_by seen u)) (sym e) (moves, all)

pub queues : {A : Type 0} (seen : A → LinkSeen) (a b : StreamOf A) (bytes : List ℕ) → b ≡ record a { unsent = a.unsent ++ bytes } → Moves (stream_by seen a) (stream_by seen b) bytes [] × AllMoved (stream_by seen a) (stream_by seen b)
queues seen a b bytes e = queues_by seen a b bytes a.spare (omega arith) e

-- the cleanup reserve is made
pub reserves : {A : Type 0} (seen : A → LinkSeen) (a b : StreamOf A) (n : ℕ) → b ≡ record a { spare = max a.spare n } → Moves (stream_by seen a) (stream_by seen b) [] [] × AllMoved (stream_by seen a) (stream_by seen b)
reserves {A} seen a b n e = queues_by seen a b [] (max a.spare n) (omega arith) (e ∙ ap (λ (u : List ℕ). record a { unsent = u; spare = max a.spare n }) (sym (append-nil a.unsent)))

-- a cleanup frame is queued out of it
pub cleans : {A : Type 0} (seen : A → LinkSeen) (a b : StreamOf A) (frame : List ℕ) → length frame ≤ a.spare → b ≡ record a { unsent = a.unsent ++ frame; spare = a.spare - length frame }
    → Moves (stream_by seen a) (stream_by seen b) frame [] × AllMoved (stream_by seen a) (stream_by seen b)
cleans seen a b frame fits e = queues_by seen a b frame (a.spare - length frame) (omega (arith, fits)) e
