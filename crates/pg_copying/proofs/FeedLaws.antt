-- What is fed to a copy in steps was fed in one, and leaves the copy open.
use Rattle.std.proofs.Common.{◌≡◌, ◌<◌, ◌≤◌, ◌+◌, ◌-◌, inl, inr, ℕ, Bool, true, false, cond, List, [], ◌∷◌, ◌++◌, map, take, drop, length, refl, sym, ap, ◌∙◌, subst, arith, Option, Some, None, Result, Ok, Err, append-nil, length-append, append_assoc, ne_eqb}
use Rattle.std.proofs.lemmas.Grind.{flat_map-append}
use Rattle.std.proofs.lemmas.List.{length-take-le, length-drop, map-append}
use Rattle.std.proofs.Math.Seq.{take-add, take-length}
use Rattle.std.specs.List.{AllByRecursion}
use Rattle.std.specs.Io.KnownBytes.{Consumes, Keeps}
use Rattle.futures.specs.declared.task.Poll.{Poll}
use Rattle.futures.specs.declared.task.Poll.TheVariants.{Ready, Pending}
use Rattle.pg_wire.specs.declared.error.Error.{Error}
use Rattle.pg_wire.specs.declared.error.Error.TheVariants as errors
use Rattle.pg_wire.specs.declared.error.IoCause.TheVariants as io
use Rattle.pg_wire.specs.declared.error.ProtocolFault.TheVariants as protocol
use Rattle.pg_wire.specs.declared.error.ServerFault.{ServerFault}
use Rattle.pg_wire.specs.Frontend.{FrontendMessage, CopyData, frontend_frame}
use Rattle.pg_wire.proofs.Each.{each_end}
use Rattle.pg_stream.specs.Links.{LinkSeen}
use Rattle.pg_stream.specs.Outside.{SourceSeen}
use Rattle.pg_stream.specs.Streams.{AllMoved}
use Rattle.pg_stream.proofs.StreamLemmas.{AllMoved-none, AllMoved-then, Moves-none, Moves-then, NoneWaited-then, Rose-after, WriteWaited-after, queues, text_of-append}
use Rattle.pg_call.specs.Requests.{spelled}
use Rattle.pg_conn.specs.Connections.{ConnOf, ConnSeen, begun, piece_of, seen_by, with_messages}
use Rattle.pg_conn.specs.Feeding.{FeedsMore, IsFed, PollsFedBy}
use Rattle.pg_conn.specs.Turns.{SendCause}
use Rattle.pg_copying.specs.Feeds.{AllSent, FeedFails, Feeds, IsPiece, PollsSending, QueuesPiece, ReadEnds, ReadsOn, ReadsPiece, SendEnds, SendsRest, joined}

-- ---- pieces behind each other

pub feeds_none : (a : ConnSeen) → Feeds a a []
feeds_none a = record { moves = Moves-none a.stream; held = refl; spare = refl; same = refl }

spelled_all : (ps qs : List (List ℕ)) → spelled (map CopyData (ps ++ qs)) ≡ spelled (map CopyData ps) ++ spelled (map CopyData qs)
spelled_all ps qs = ap spelled (map-append CopyData ps qs) ∙ spelled_append (map CopyData ps) (map CopyData qs)
  where
    spelled_append : (xs ys : List FrontendMessage) → spelled (xs ++ ys) ≡ spelled xs ++ spelled ys
    spelled_append xs ys = rw (map-append frontend_frame xs ys) (text_of-append (map frontend_frame xs) (map frontend_frame ys))

pub feeds_then : (a b c : ConnSeen) (ps qs : List (List ℕ)) → Feeds a b ps → Feeds b c qs → Feeds a c (ps ++ qs)
feeds_then a b c ps qs p q = record {
  moves = rw (spelled_all ps qs) (Moves-then a.stream b.stream c.stream (spelled (map CopyData ps)) (spelled (map CopyData qs)) [] [] p.moves q.moves);
  held = q.held ∙ p.held;
  spare = q.spare ∙ p.spare;
  same = q.same ∙ ap (λ (x : ConnSeen). record x { stream = c.stream }) p.same;
}

-- and then sent
feeds_on : (a b c : ConnSeen) (ps : List (List ℕ)) → Feeds a b ps → Feeds b c [] → Feeds a c ps
feeds_on a b c ps p q = subst (λ (x : List (List ℕ)). Feeds a c x) (append-nil ps) (feeds_then a b c ps [] p q)

feeds_piece : {A : Type 0} (seen : A → LinkSeen) (a b : ConnOf A) (piece : List ℕ) → 0 < length piece → b ≡ with_messages (piece_of piece) a → Feeds (seen_by seen a) (seen_by seen b) (piece ∷ []) × AllMoved (seen_by seen a).stream (seen_by seen b).stream
feeds_piece {A} seen a b piece some e =
    let is : b ≡ with_messages (CopyData piece ∷ []) a = e ∙ ap (λ (ms : List FrontendMessage). with_messages ms a) (is_message piece some) in
    let m = queues seen a.stream b.stream (spelled (CopyData piece ∷ [])) (ap (λ (c : ConnOf A). c.stream) is) in
    (record { moves = m.0; held = ap (λ (c : ConnOf A). c.stream.held) is; spare = ap (λ (c : ConnOf A). c.stream.spare) is; same = unstreamed is }, m.1)
  where
    is_message : (bytes : List ℕ) → 0 < length bytes → piece_of bytes ≡ CopyData bytes ∷ []
    is_message bytes h = ap (λ (b : Bool). cond b [] (CopyData bytes ∷ [])) (ne_eqb (length bytes) 0 (λ z. absurd (omega (arith, z, h))))

    unstreamed : b ≡ with_messages (CopyData piece ∷ []) a → seen_by seen b ≡ record (seen_by seen a) { stream = (seen_by seen b).stream }
    unstreamed is = rw is refl

-- ---- one send

sent_by : (o : Option ServerFault) (a b : ConnSeen) (answer : Poll (Result (Unit {0}) Error)) → PollsFedBy o a b answer → Feeds a b []
sent_by None a b answer p = subst (λ (c : ConnSeen). Feeds a c []) (sym p.2) (record { moves = p.1.moves; held = p.1.held; spare = p.1.spare; same = refl })
sent_by (Some fault) a b answer p = subst (λ (c : ConnSeen). Feeds a c []) (sym p.0) (feeds_none a)

-- how it ends
abbrev SendsTo : ConnSeen → ConnSeen → Poll (Result (Unit {0}) Error) → Type 0
SendsTo a b Pending = SendCause a b
SendsTo a b (Ready (Ok u)) = AllSent a b
SendsTo a b (Ready (Err e)) = FeedFails a b e

ends_by : (o : Option ServerFault) (a b : ConnSeen) (answer : Poll (Result (Unit {0}) Error)) → a.broken ≡ o → PollsFedBy o a b answer → SendsTo a b answer
ends_by None a b Pending w p = subst (λ (c : ConnSeen). SendCause a c) (sym p.2) p.1.gives
ends_by None a b (Ready (Ok u)) w p = subst (λ (c : ConnSeen). AllSent a c) (sym p.2) p.1.gives
ends_by None a b (Ready (Err e)) w p = subst (λ (c : ConnSeen). FeedFails a c e) (sym p.2) (rw p.1.gives.0 (p.1.gives.1, p.1.gives.2))
ends_by (Some fault) a b Pending w p = absurd cc
ends_by (Some fault) a b (Ready (Ok u)) w p = absurd cc
ends_by (Some fault) a b (Ready (Err e)) w p = let is : e ≡ errors.Protocol (protocol.Server fault) = cc in rw is w

-- behind pieces that were queued and sent before
ends_after : (a b c : ConnSeen) (ps qs : List (List ℕ)) (answer : Poll (Result (Unit {0}) Error)) → Feeds a b ps → AllMoved a.stream b.stream → Feeds b c qs → SendsTo b c answer → SendsTo a c answer
ends_after a b c ps qs Pending p all q s = elim s [
  | inl w ↦ inl (WriteWaited-after a.stream b.stream c.stream all.2 w)
  | inr f ↦ inr (f.0, AllMoved-then a.stream b.stream c.stream all p.moves.left f.1 q.moves.left)
]
ends_after a b c ps qs (Ready (Ok u)) p all q s = (s.0, AllMoved-then a.stream b.stream c.stream all p.moves.left s.1 q.moves.left)
ends_after a b c ps qs (Ready (Err e)) p all q s = fails e s
  where
    fails : (e : Error) → FeedFails b c e → FeedFails a c e
    fails errors.OutOfMemory s = (s.0, AllMoved-then a.stream b.stream c.stream all p.moves.left s.1 q.moves.left)
    fails (errors.Io io.Fault) s = (Rose-after _ _ _ p.moves.counts.faults s.0, NoneWaited-then a.stream b.stream c.stream all.2 s.1)
    fails (errors.Protocol (protocol.Server fault)) s = ap (λ (x : ConnSeen). x.broken) (sym p.same) ∙ s
    fails _ s = absurd s

-- ---- some bytes

-- what a slice from a place on is
pub rest_behind : (n : ℕ) (bytes : List ℕ) → take (length bytes - n) (drop n bytes) ≡ drop n bytes
rest_behind n bytes = ap (λ (k : ℕ). take k (drop n bytes)) (sym (length-drop n bytes)) ∙ take-length (drop n bytes)

-- so many of these bytes were queued, and all before the last piece was sent
pub record SendsSome (a b : ConnSeen) (rest : List ℕ) (n : ℕ) : Type 0 where
  pub pieces : List (List ℕ)
  pub each : AllByRecursion (IsPiece 1073741818) pieces
  pub feeds : Feeds a b pieces
  pub within : n ≤ length rest
  pub are : joined pieces ≡ take n rest
  pub moved : AllMoved a.stream b.stream

pub sends_none : (a : ConnSeen) (rest : List ℕ) → SendsSome a a rest 0
sends_none a rest = record { pieces = []; each = tt; feeds = feeds_none a; within = omega arith; are = refl; moved = AllMoved-none a.stream }

-- a send ends it: at Ok no byte is left
sends_stop : (a b c : ConnSeen) (rest : List ℕ) (n : ℕ) (answer : Poll (Result (Unit {0}) Error)) → SendsSome a b rest n → FeedsMore b c answer → (answer ≡ Ready (Ok tt) → n ≡ length rest) → SendsRest a c rest n answer
sends_stop a b c rest n answer s f all =
    let sent = sent_by b.broken b c answer f in
    record { pieces = s.pieces; each = s.each; feeds = feeds_on a b c s.pieces s.feeds sent; within = s.within; are = s.are; ends = by answer (ends_after a b c s.pieces [] answer s.feeds s.moved sent (ends_by b.broken b c answer refl f)) all }
  where
    by : (answer : Poll (Result (Unit {0}) Error)) → SendsTo a c answer → (answer ≡ Ready (Ok tt) → n ≡ length rest) → SendEnds a c rest n answer
    by Pending t all = t
    by (Ready (Ok u)) t all = (all refl, t)
    by (Ready (Err e)) t all = t

no_end : (n m : ℕ) → ◌≡◌ {A = Poll (Result (Unit {0}) Error)} Pending (Ready (Ok tt)) → n ≡ m
no_end n m is = absurd cc

no_ok : (e : Error) (n m : ℕ) → ◌≡◌ {A = Poll (Result (Unit {0}) Error)} (Ready (Err e)) (Ready (Ok tt)) → n ≡ m
no_ok e n m is = absurd cc

pub sends_wait : (a b c : ConnSeen) (rest : List ℕ) (n : ℕ) → SendsSome a b rest n → FeedsMore b c Pending → SendsRest a c rest n Pending
sends_wait a b c rest n s f = sends_stop a b c rest n Pending s f (no_end n (length rest))

pub sends_fail : (a b c : ConnSeen) (rest : List ℕ) (n : ℕ) (e : Error) → SendsSome a b rest n → FeedsMore b c (Ready (Err e)) → SendsRest a c rest n (Ready (Err e))
sends_fail a b c rest n e s f = sends_stop a b c rest n (Ready (Err e)) s f (no_ok e n (length rest))

pub sends_whole : (a b c : ConnSeen) (rest : List ℕ) (n : ℕ) (u : Unit {0}) → n ≡ length rest → SendsSome a b rest n → FeedsMore b c (Ready (Ok u)) → SendsRest a c rest n (Ready (Ok tt))
sends_whole a b c rest n u all s f = sends_stop a b c rest n (Ready (Ok tt)) s f (λ (is : ◌≡◌ {A = Poll (Result (Unit {0}) Error)} (Ready (Ok tt)) (Ready (Ok tt))). all)

-- all is sent, and there is no memory for the next piece
pub sends_starved : (a b c : ConnSeen) (rest : List ℕ) (n : ℕ) (u : Unit {0}) → SendsSome a b rest n → FeedsMore b c (Ready (Ok u)) → SendsRest a c rest n (Ready (Err errors.OutOfMemory))
sends_starved a b c rest n u s f =
    let sent = sent_by b.broken b c (Ready (Ok u)) f in
    record { pieces = s.pieces; each = s.each; feeds = feeds_on a b c s.pieces s.feeds sent; within = s.within; are = s.are; ends = ends_after a b c s.pieces [] (Ready (Ok u)) s.feeds s.moved sent (ends_by b.broken b c (Ready (Ok u)) refl f) }

-- all is sent, and the next piece is queued
pub sends_more : {A : Type 0} (seen : A → LinkSeen) (a : ConnSeen) (b c d : ConnOf A) (rest : List ℕ) (n k : ℕ) (u : Unit {0}) → SendsSome a (seen_by seen b) rest n → FeedsMore (seen_by seen b) (seen_by seen c) (Ready (Ok u)) → QueuesPiece c d (drop n rest) k → SendsSome a (seen_by seen d) rest (n + k)
sends_more {A} seen a b c d rest n k u s f q =
    let b' : ConnSeen = seen_by seen b in
    let c' : ConnSeen = seen_by seen c in
    let d' : ConnSeen = seen_by seen d in
    let sent = sent_by b'.broken b' c' (Ready (Ok u)) f in
    let whole : AllSent a c' = ends_after a b' c' s.pieces [] (Ready (Ok u)) s.feeds s.moved sent (ends_by b'.broken b' c' (Ready (Ok u)) refl f) in
    let before : Feeds a c' s.pieces = feeds_on a b' c' s.pieces s.feeds sent in
    let piece : List ℕ = take k (drop n rest) in
    let size : length piece ≡ k = length-take-le k (drop n rest) q.1 in
    let fits : IsPiece 1073741818 piece = (omega (arith, size, q.0), omega (arith, size, q.2)) in
    let one = feeds_piece seen c d piece fits.0 q.3 in
    record {
      pieces = s.pieces ++ piece ∷ [];
      each = each_end (IsPiece 1073741818) s.pieces piece s.each fits;
      feeds = feeds_then a c' d' s.pieces (piece ∷ []) before one.0;
      within = omega (arith, s.within, q.1, length-drop n rest);
      are = flat_map-append (λ (x : List ℕ). x) s.pieces (piece ∷ []) ∙ ap (λ (x : List ℕ). joined s.pieces ++ x) (append-nil piece) ∙ ap (λ (x : List ℕ). x ++ piece) s.are ∙ sym (take-add n k rest);
      moved = AllMoved-then a.stream c'.stream d'.stream whole.1 before.moves.left one.1 one.0.moves.left;
    }

-- ---- a source

Consumes-then : (x y z : Option (List ℕ)) (p q : List ℕ) → Consumes x y p → Consumes y z q → Consumes x z (p ++ q)
Consumes-then None y z p q c d = tt
Consumes-then (Some xs) None z p q c d = absurd c
Consumes-then (Some xs) (Some ys) None p q c d = absurd d
Consumes-then (Some xs) (Some ys) (Some zs) p q c d = c ∙ ap (λ (r : List ℕ). p ++ r) d ∙ sym (append_assoc p q zs)

Consumes-keeps : (x y z : Option (List ℕ)) (p : List ℕ) → Consumes x y p → Keeps y z → Consumes x z p
Consumes-keeps None y z p c k = tt
Consumes-keeps (Some xs) None z p c k = absurd c
Consumes-keeps (Some xs) (Some ys) None p c k = absurd k
Consumes-keeps (Some xs) (Some ys) (Some zs) p c k = rw k c

Consumes-none : (x : Option (List ℕ)) → Consumes x x []
Consumes-none None = tt
Consumes-none (Some xs) = refl

-- so many pieces were read and queued, and all before the last one was sent
pub record ReadsSome (a b : ConnSeen) (s t : SourceSeen) (n : ℕ) : Type 0 where
  pub pieces : List (List ℕ)
  pub count : length pieces ≡ n
  pub each : AllByRecursion (IsPiece 8192) pieces
  pub feeds : Feeds a b pieces
  pub takes : Consumes s.left t.left (joined pieces)
  pub faults : t.faults ≡ s.faults
  pub moved : AllMoved a.stream b.stream

pub reads_none : (a : ConnSeen) (s : SourceSeen) → ReadsSome a a s s 0
reads_none a s = record { pieces = []; count = refl; each = tt; feeds = feeds_none a; takes = Consumes-none s.left; faults = refl; moved = AllMoved-none a.stream }

-- what a poll has come to where it waits or has failed
unread : (a c : ConnSeen) (s t : SourceSeen) (pieces : List (List ℕ)) (e : Error) → Consumes s.left t.left (joined pieces) → t.faults ≡ s.faults → FeedFails a c e → (e ≡ errors.OutOfMemory → ⊥) → ReadEnds a c s t pieces (Ready (Err e))
unread a c s t pieces errors.OutOfMemory takes faults f no_memory = absurd (no_memory refl)
unread a c s t pieces (errors.Io io.Source) takes faults f no_memory = absurd f
unread a c s t pieces (errors.Io _) takes faults f no_memory = (takes, faults, f)
unread a c s t pieces _ takes faults f no_memory = (takes, faults, f)

-- a send fails for no want of memory
has_memory : (o : Option ServerFault) (a b : ConnSeen) (e : Error) → PollsFedBy o a b (Ready (Err e)) → e ≡ errors.OutOfMemory → ⊥
has_memory None a b e p is = let fault : e ≡ errors.Io io.Fault = p.1.gives.0 in absurd cc
has_memory (Some fault) a b e p is = absurd cc

pub reads_wait : (a b c : ConnSeen) (s t : SourceSeen) (n : ℕ) → n ≤ 256 → ReadsSome a b s t n → FeedsMore b c Pending → ReadsOn a c s t Pending
reads_wait a b c s t n most r f =
    let sent = sent_by b.broken b c Pending f in
    record { pieces = r.pieces; most = omega (arith, most, r.count); each = r.each; feeds = feeds_on a b c r.pieces r.feeds sent; ends = (r.takes, r.faults, inl (ends_after a b c r.pieces [] Pending r.feeds r.moved sent (ends_by b.broken b c Pending refl f))) }

pub reads_fail : (a b c : ConnSeen) (s t : SourceSeen) (n : ℕ) (e : Error) → n ≤ 256 → ReadsSome a b s t n → FeedsMore b c (Ready (Err e)) → ReadsOn a c s t (Ready (Err e))
reads_fail a b c s t n e most r f =
    let sent = sent_by b.broken b c (Ready (Err e)) f in
    record {
      pieces = r.pieces;
      most = omega (arith, most, r.count);
      each = r.each;
      feeds = feeds_on a b c r.pieces r.feeds sent;
      ends = unread a c s t r.pieces e r.takes r.faults (ends_after a b c r.pieces [] (Ready (Err e)) r.feeds r.moved sent (ends_by b.broken b c (Ready (Err e)) refl f)) (has_memory b.broken b c e f);
    }

-- all that was read is sent
pub record ReadsWhole (a c : ConnSeen) (s t : SourceSeen) (n : ℕ) : Type 0 where
  pub some : ReadsSome a c s t n
  pub sent : AllSent a c

pub reads_sent : (a b c : ConnSeen) (s t : SourceSeen) (n : ℕ) (u : Unit {0}) → ReadsSome a b s t n → FeedsMore b c (Ready (Ok u)) → ReadsWhole a c s t n
reads_sent a b c s t n u r f =
    let sent = sent_by b.broken b c (Ready (Ok u)) f in
    let whole : AllSent a c = ends_after a b c r.pieces [] (Ready (Ok u)) r.feeds r.moved sent (ends_by b.broken b c (Ready (Ok u)) refl f) in
    record { some = record { pieces = r.pieces; count = r.count; each = r.each; feeds = feeds_on a b c r.pieces r.feeds sent; takes = r.takes; faults = r.faults; moved = whole.1 }; sent = whole }

-- and so many pieces are the most
pub reads_full : (a c : ConnSeen) (s t : SourceSeen) (n : ℕ) → n ≡ 256 → ReadsWhole a c s t n → ReadsOn a c s t Pending
reads_full a c s t n full w =
    let r = w.some in
    record { pieces = r.pieces; most = omega (arith, r.count, full); each = r.each; feeds = r.feeds; ends = (r.takes, r.faults, inr (r.count ∙ full, w.sent)) }

-- the next piece is read and queued
pub reads_more : {A : Type 0} (seen : A → LinkSeen) (a : ConnSeen) (c d : ConnOf A) (s t v : SourceSeen) (n : ℕ) → ReadsWhole a (seen_by seen c) s t n → ReadsPiece c d t v (Ok true) → ReadsSome a (seen_by seen d) s v (n + 1)
reads_more {A} seen a c d s t v n w p =
    let r = w.some in
    let c' : ConnSeen = seen_by seen c in
    let d' : ConnSeen = seen_by seen d in
    let piece : List ℕ = p.0 in
    let one = feeds_piece seen c d piece p.1.0 p.4 in
    record {
      pieces = r.pieces ++ piece ∷ [];
      count = length-append r.pieces (piece ∷ []) ∙ omega (arith, r.count);
      each = each_end (IsPiece 8192) r.pieces piece r.each p.1;
      feeds = feeds_then a c' d' r.pieces (piece ∷ []) r.feeds one.0;
      takes = rw (flat_map-append (λ (x : List ℕ). x) r.pieces (piece ∷ []), append-nil piece) (Consumes-then s.left t.left v.left (joined r.pieces) piece r.takes p.2);
      faults = p.3 ∙ r.faults;
      moved = AllMoved-then a.stream c'.stream d'.stream w.sent.1 r.feeds.moves.left one.1 one.0.moves.left;
    }

-- the source has said its end
pub reads_end : {A : Type 0} (seen : A → LinkSeen) (a : ConnSeen) (c d : ConnOf A) (s t v : SourceSeen) (n : ℕ) (u : Unit {0}) → n ≤ 256 → ReadsWhole a (seen_by seen c) s t n → ReadsPiece c d t v (Ok false) → ReadsOn a (seen_by seen d) s v (Ready (Ok u))
reads_end {A} seen a c d s t v n u most w p =
    let r = w.some in
    subst (λ (x : ConnOf A). ReadsOn a (seen_by seen x) s v (Ready (Ok u))) (sym p.3)
    (record { pieces = r.pieces; most = omega (arith, most, r.count); each = r.each; feeds = r.feeds; ends = (Consumes-keeps s.left t.left v.left (joined r.pieces) r.takes p.0, p.1, p.2 ∙ r.faults, w.sent) })

-- or there is no memory for what it gave, or it has failed
pub reads_not : {A : Type 0} (seen : A → LinkSeen) (a : ConnSeen) (c d : ConnOf A) (s t v : SourceSeen) (n : ℕ) (e : Error) → n ≤ 256 → ReadsWhole a (seen_by seen c) s t n → ReadsPiece c d t v (Err e) → ReadsOn a (seen_by seen d) s v (Ready (Err e))
reads_not {A} seen a c d s t v n errors.OutOfMemory most w p =
    let r = w.some in
    subst (λ (x : ConnOf A). ReadsOn a (seen_by seen x) s v (Ready (Err errors.OutOfMemory))) (sym p.4)
    (record { pieces = r.pieces; most = omega (arith, most, r.count); each = r.each; feeds = r.feeds; ends = (p.0, p.1, Consumes-then s.left t.left v.left (joined r.pieces) p.0 r.takes p.2, p.3 ∙ r.faults, w.sent) })
reads_not {A} seen a c d s t v n (errors.Io io.Source) most w p =
    let r = w.some in
    subst (λ (x : ConnOf A). ReadsOn a (seen_by seen x) s v (Ready (Err (errors.Io io.Source)))) (sym p.2)
    (record { pieces = r.pieces; most = omega (arith, most, r.count); each = r.each; feeds = r.feeds; ends = (Consumes-keeps s.left t.left v.left (joined r.pieces) r.takes p.0, Rose-after _ _ _ (omega (arith, r.faults)) p.1, w.sent) })
reads_not seen a c d s t v n (errors.Io _) most w p = absurd p
reads_not seen a c d s t v n _ most w p = absurd p

-- ---- the copy stays open

open_by : (a b : ConnSeen) (ps : List (List ℕ)) → Feeds a b ps → IsFed a → IsFed b
open_by a b ps p f =
    let i = f.0 in
    let room = i.7 in
    let again : IsFed (record a { stream = b.stream }) = ((i.0, i.1, i.2, i.3, i.4, i.5, i.6, omega (arith, room, p.spare)), f.1) in
    subst (λ (c : ConnSeen). IsFed c) (sym p.same) again

pub stays_open : {A : Type 0} (seen : A → LinkSeen) (a b : ConnOf A) (ps : List (List ℕ)) → Feeds (seen_by seen a) (seen_by seen b) ps → IsFed a → IsFed b
stays_open seen a b ps p f = open_by (seen_by seen a) (seen_by seen b) ps p f

-- by each kind of poll
pub sending_open : {A : Type 0} (seen : A → LinkSeen) (a b : ConnOf A) (bytes : List ℕ) (before after : ℕ) (answer : Poll (Result (Unit {0}) Error)) → PollsSending seen a b bytes before after answer → IsFed a → IsFed b
sending_open {A} seen a b [] before after answer p f = subst (λ (c : ConnOf A). IsFed c) (sym p.0) f
sending_open seen a b (byte ∷ bytes) before after answer p f = stays_open seen (begun a) b p.2.pieces p.2.feeds f

pub reading_open : {A : Type 0} (seen : A → LinkSeen) (a b : ConnOf A) (s t : SourceSeen) (answer : Poll (Result (Unit {0}) Error)) → ReadsOn (begun (seen_by seen a)) (seen_by seen b) s t answer → IsFed a → IsFed b
reading_open seen a b s t answer r f = stays_open seen (begun a) b r.pieces r.feeds f

-- so many are queued behind it, of all
pub sending_within : {A : Type 0} (seen : A → LinkSeen) (a b : ConnOf A) (bytes : List ℕ) (before after : ℕ) (answer : Poll (Result (Unit {0}) Error)) → before ≤ length bytes → PollsSending seen a b bytes before after answer → after ≤ length bytes
sending_within seen a b [] before after answer h p = rw p.1 h
sending_within seen a b (byte ∷ bytes) before after answer h p = omega (arith, h, p.1, p.2.within, length-drop before (byte ∷ bytes))
