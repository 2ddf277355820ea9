-- The question for TLS, call after call of the link.
use Rattle.std.proofs.Common.{◌≡◌, ℕ, ◌+◌, ◌-◌, ◌<◌, ◌≤◌, List, [], ◌∷◌, ◌++◌, Bool, true, false, Option, Some, None, refl, sym, ap, subst, ◌∙◌, arith, length, take, drop, get_or, take-add, length-drop, nat_lt, if◌then◌else◌, Result, Ok, Err, inl, inr}
use Rattle.std.proofs.lemmas.Bool.{ltb-true, ltb-false}
use Rattle.std.specs.Io.KnownBytes.{Keeps, Appends}
use Rattle.futures.specs.declared.task.Poll.{Poll}
use Rattle.futures.specs.declared.task.Poll.TheVariants.{Ready, Pending}
use Rattle.pg_wire.specs.declared.error.Error.{Error}
use Rattle.pg_wire.specs.declared.error.Error.TheVariants as errors
use Rattle.pg_wire.specs.declared.error.IoCause.TheVariants as io
use Rattle.pg_wire.specs.declared.error.TlsCause.TheVariants as tls
use Rattle.pg_wire.specs.declared.error.ProtocolFault.TheVariants as protocol
use Rattle.pg_wire.specs.declared.error.ServerFault.TheVariants as faults
use Rattle.pg_wire.specs.Frontend.{ssl_request}
use Rattle.pg_stream.specs.Links.{LinkSeen, NoneFalls, GrewBy, NoWaits, Reads, Writes, Upgrades}
use Rattle.pg_stream.specs.declared.link.TlsWish.{TlsWish}
use Rattle.pg_stream.specs.declared.link.LinkRead.TheVariants as reads
use Rattle.pg_stream.specs.declared.link.LinkWrite.TheVariants as writes
use Rattle.pg_stream.specs.declared.link.LinkUpgrade.TheVariants as upgrades
use Rattle.pg_stream.proofs.Known.{Appends-then, NoneFalls-refl, NoneFalls-then, NoneFalls-from_counts, NoWaits-then, NoWaits-from_counts, GrewBy-after, GrewBy-still, Keeps-then, Appends-keeps}
use Rattle.pg_stream.proofs.StreamLemmas.{GrewBy-then, GrewBy-spent}
use Rattle.pg_startup.specs.declared.asking.Asked.{Asked}
use Rattle.pg_startup.specs.declared.asking.Asked.TheVariants as asks
use Rattle.pg_startup.specs.Asking.{AskingOf, AskingSeen, asking_by, IsSendable, HasAsked, Agrees, AskingFails, AskingWaits, AsksOn, AsksOnce, IsSameQuestion, PollsAsking, HearsByte, Answered, sent_to}

-- ---- call after call

pub asks_on_then : (a b c : AskingSeen) → AsksOn a b → AsksOn b c → AsksOn a c
asks_on_then a b c f g = λ first h. g first (f first h)

same_then : (a b c : AskingSeen) → IsSameQuestion a b → IsSameQuestion b c → IsSameQuestion a c
same_then a b c p q = (NoneFalls-then a.link b.link c.link p.0 q.0, q.1 ∙ p.1, q.2 ∙ p.2)

-- so many calls were made, and each moved
pub record AsksFrom (left now : ℕ) (a b : AskingSeen) : Type 0 where
  pub fewer : now ≤ left
  pub same : IsSameQuestion a b
  pub calls : GrewBy (left - now) a.link.calls b.link.calls
  pub moved : GrewBy (left - now) a.link.moved b.link.moved
  pub none : NoWaits a.link b.link
  pub on : AsksOn a b

pub asks_none : (left : ℕ) (a : AskingSeen) → AsksFrom left left a a
asks_none left a = record {
  fewer = omega arith;
  same = (NoneFalls-refl a.link, refl, refl);
  calls = GrewBy-spent left a.link.calls;
  moved = GrewBy-spent left a.link.moved;
  none = (refl, refl);
  on = λ first h. h;
}

-- one more call
one_more : (left now then' x y z : ℕ) → now ≤ left → now ≡ then' + 1 → GrewBy (left - now) x y → GrewBy 1 y z → GrewBy (left - then') x z
one_more left now then' x y z fewer e p q = GrewBy-then _ _ _ _ _ _ p q (omega (arith, fewer, e))

pub asks_more : (left now then' : ℕ) (a b c : AskingSeen) → AsksFrom left now a b → now ≡ then' + 1 → AsksOnce b c None → AsksFrom left then' a c
asks_more left now then' a b c i e (same, calls, (moved, on)) = record {
  fewer = omega (arith, i.fewer, e);
  same = same_then a b c i.same same;
  calls = one_more left now then' _ _ _ i.fewer e i.calls calls;
  moved = one_more left now then' _ _ _ i.fewer e i.moved moved.0;
  none = NoWaits-then a.link b.link c.link i.none moved.1;
  on = asks_on_then a b c i.on on;
}

pub fails_from : (required : Bool) (first a b c : LinkSeen) (e : Error) → NoneFalls a b → AskingFails required first b c e → AskingFails required first a c e
fails_from required first a b c (errors.Io io.Fault) m h = omega (arith, m.faults, h)
fails_from required first a b c (errors.Io io.End) m h = (omega (arith, m.ends, h.0), h.1)
fails_from required first a b c (errors.Tls tls.UpgradeFailed) m h = omega (arith, m.upgrade_faults, h)
fails_from required first a b c (errors.Tls tls.ServerRefused) m h = h
fails_from required first a b c (errors.Protocol (protocol.Server (faults.SslAnswer byte))) m h = h
fails_from required first a b c _ m h = absurd h

waits_from : (a b c : LinkSeen) (asked : Asked) → NoWaits a b → AskingWaits b c asked → AskingWaits a c asked
waits_from a b c (asks.Sending sent) n h = (GrewBy-after _ _ _ n.0 h.0, h.1 ∙ n.1)
waits_from a b c asks.Answer n h = (GrewBy-after _ _ _ n.1 h.0, h.1 ∙ n.0)
waits_from a b c asks.Upgrade n h = (GrewBy-after _ _ _ n.1 h.0, h.1 ∙ n.0)

pub asks_last : (left now then' : ℕ) (a b c : AskingSeen) (answer : Poll (Result (Unit {0}) Error)) → AsksFrom left now a b → now ≡ then' + 1 → AsksOnce b c (Some answer) → PollsAsking left then' a c answer
asks_last left now then' a b c Pending i e (same, calls, (waits, on)) = (
  omega (arith, i.fewer, e),
  same_then a b c i.same same,
  one_more left now then' _ _ _ i.fewer e i.calls calls,
  (inl (waits_from a.link b.link c.link c.asked i.none waits), asks_on_then a b c i.on on),
)
asks_last left now then' a b c (Ready (Ok u)) i e (same, calls, (moved, ends)) = (
  omega (arith, i.fewer, e),
  same_then a b c i.same same,
  one_more left now then' _ _ _ i.fewer e i.calls calls,
  (
    (omega (arith, i.fewer, e), one_more left now then' _ _ _ i.fewer e i.moved moved.0, NoWaits-then a.link b.link c.link i.none moved.1),
    λ first h. subst (λ (w : TlsWish). Agrees a.is_required w first c.link) i.same.2 (subst (λ (r : Bool). Agrees r b.wish first c.link) i.same.1 (ends first (i.on first h))),
  ),
)
asks_last left now then' a b c (Ready (Err error)) i e (same, calls, (still, ends)) = (
  omega (arith, i.fewer, e),
  same_then a b c i.same same,
  one_more left now then' _ _ _ i.fewer e i.calls calls,
  (
    NoWaits-then a.link b.link c.link i.none still,
    λ first h. fails_from a.is_required first a.link b.link c.link error i.same.0 (subst (λ (r : Bool). AskingFails r first b.link c.link error) i.same.1 (ends first (i.on first h))),
  ),
)

-- no call is left
pub asks_spent : (left now : ℕ) (a b : AskingSeen) → AsksFrom left now a b → now ≡ 0 → PollsAsking left now a b Pending
asks_spent left now a b i e = (i.fewer, i.same, i.calls, (inr (e, (i.fewer, i.moved, i.none)), i.on))

-- ---- one call

appends_kept : (a b c : Option (List ℕ)) (x : List ℕ) → Keeps a b → Appends b c x → Appends a c x
appends_kept None b c x p q = tt
appends_kept (Some s) None c x p q = absurd p
appends_kept (Some s) (Some t) None x p q = absurd q
appends_kept (Some s) (Some t) (Some u) x p q = q ∙ ap (λ (z : List ℕ). z ++ x) p

request_length : length ssl_request ≡ 8
request_length = refl

-- more of the request was taken
sent_more : (first a b : LinkSeen) (sent count : ℕ) → sent < 8 → HasAsked first a (asks.Sending sent) → Writes a b (writes.Moved count) (drop sent ssl_request) → Appends first.taken b.taken (take (sent + count) ssl_request)
sent_more first a b sent count lt h w =
    subst (λ (x : List ℕ). Appends first.taken b.taken x) (sym (take-add sent count ssl_request)) (Appends-then first.taken a.taken b.taken (take sent ssl_request) (take count (drop sent ssl_request)) h.1 w.takes.2)

count_fits : (sent count : ℕ) → sent < 8 → count ≤ length (drop sent ssl_request) → sent + count ≤ 8
count_fits sent count lt fits = let d = length-drop sent ssl_request in omega (arith, d, fits, request_length, lt)

sends_by : (first a b : LinkSeen) (sent count : ℕ) (less : Bool) → nat_lt (sent + count) 8 ≡ less → sent < 8 → HasAsked first a (asks.Sending sent) → Writes a b (writes.Moved count) (drop sent ssl_request) → HasAsked first b (if less then asks.Sending (sent + count) else asks.Answer)
sends_by first a b sent count true e lt h w = (ltb-true (sent + count) 8 e, sent_more first a b sent count lt h w, Keeps-then first.given a.given b.given h.2 w.given, w.secured ∙ h.3)
sends_by first a b sent count false e lt h w =
    let whole : sent + count ≡ 8 = let p = ltb-false (sent + count) 8 e in let q = count_fits sent count lt w.takes.1 in omega (arith, p, q) in
    (subst (λ (n : ℕ). Appends first.taken b.taken (take n ssl_request)) whole (sent_more first a b sent count lt h w), Keeps-then first.given a.given b.given h.2 w.given, w.secured ∙ h.3)

same_by : (a b : AskingSeen) → NoneFalls a.link b.link → b.is_required ≡ a.is_required → b.wish ≡ a.wish → IsSameQuestion a b
same_by a b m r w = (m, r, w)

pub sends_more : (a b : AskingSeen) (sent count : ℕ) → a.asked ≡ asks.Sending sent → sent < 8 → b.asked ≡ sent_to (sent + count) → b.is_required ≡ a.is_required → b.wish ≡ a.wish → Writes a.link b.link (writes.Moved count) (drop sent ssl_request) → AsksOnce a b None
sends_more a b sent count e lt f r w h = (
  (NoneFalls-from_counts _ _ _ h.counts, r, w),
  h.counts.calls,
  ((h.counts.moved, NoWaits-from_counts _ _ _ h.counts refl refl), λ first g. subst (λ (x : Asked). HasAsked first b.link x) (sym f) (sends_by first a.link b.link sent count (nat_lt (sent + count) 8) refl lt (subst (λ (x : Asked). HasAsked first a.link x) e g) h)),
)

pub sends_waits : (a b : AskingSeen) (sent : ℕ) (from : List ℕ) → a.asked ≡ asks.Sending sent → b.asked ≡ a.asked → b.is_required ≡ a.is_required → b.wish ≡ a.wish → Writes a.link b.link writes.NotYet from → AsksOnce a b (Some Pending)
sends_waits a b sent from e f r w h = (
  (NoneFalls-from_counts _ _ _ h.counts, r, w),
  h.counts.calls,
  (
    subst (λ (x : Asked). AskingWaits a.link b.link x) (sym (f ∙ e)) (h.counts.write_waits, GrewBy-still _ _ h.counts.read_waits),
    λ first g. subst (λ (x : Asked). HasAsked first b.link x) (sym (f ∙ e)) (let s : HasAsked first a.link (asks.Sending sent) = subst (λ (x : Asked). HasAsked first a.link x) e g in (s.0, Appends-keeps first.taken a.link.taken b.link.taken (take sent ssl_request) s.1 h.takes, Keeps-then first.given a.link.given b.link.given s.2 h.given, h.secured ∙ s.3)),
  ),
)

pub sends_fails : (a b : AskingSeen) (from : List ℕ) → b.is_required ≡ a.is_required → b.wish ≡ a.wish → Writes a.link b.link writes.Failed from → AsksOnce a b (Some (Ready (Err (errors.Io io.Fault))))
sends_fails a b from r w h = ((NoneFalls-from_counts _ _ _ h.counts, r, w), h.counts.calls, (NoWaits-from_counts _ _ _ h.counts refl refl, λ first g. h.counts.faults.2))

-- ---- the byte

asked_answer : (first : LinkSeen) (a : AskingSeen) → a.asked ≡ asks.Answer → HasAsked first a.link a.asked → HasAsked first a.link asks.Answer
asked_answer first a e g = subst (λ (x : Asked). HasAsked first a.link x) e g

heard_byte : (first : LinkSeen) (a b : AskingSeen) (n byte : ℕ) → a.asked ≡ asks.Answer → HasAsked first a.link a.asked → Reads a.link b.link (reads.Moved n) (byte ∷ []) → Answered first b.link byte
heard_byte first a b n byte e g h =
    let s = asked_answer first a e g in
    let one : n ≡ 1 = let p = h.gives.0 in let q = h.gives.1 in omega (arith, p, q) in
    let given : Appends a.link.given b.link.given (byte ∷ []) = subst (λ (k : ℕ). Appends a.link.given b.link.given (take k (byte ∷ []))) one h.gives.2 in
    (Appends-keeps first.taken a.link.taken b.link.taken ssl_request s.0 h.taken, appends_kept first.given a.link.given b.link.given (byte ∷ []) s.1 given)

-- the link was read, and the byte makes this of the question
hears_by : (a d : AskingSeen) (n byte : ℕ) (b : AskingSeen) (answer : Option (Poll (Result (Unit {0}) Error))) → a.asked ≡ asks.Answer → d.is_required ≡ a.is_required → d.wish ≡ a.wish → Reads a.link d.link (reads.Moved n) (byte ∷ []) → HearsByte byte d b answer → AsksOnce a b answer
hears_by a d n byte b None e r w h (is, same) = rw same (
  (NoneFalls-from_counts _ _ _ h.counts, r, w),
  h.counts.calls,
  ((h.counts.moved, NoWaits-from_counts _ _ _ h.counts refl refl), λ first g. let told = heard_byte first a d n byte e g h in (told.0, subst (λ (x : ℕ). Appends first.given d.link.given (x ∷ [])) is told.1, h.secured ∙ (asked_answer first a e g).2)),
)
hears_by a d n byte b (Some (Ready (Ok u))) e r w h (is, plain, same) = rw same (
  (NoneFalls-from_counts _ _ _ h.counts, r, w),
  h.counts.calls,
  ((h.counts.moved, NoWaits-from_counts _ _ _ h.counts refl refl), λ first g. let told = heard_byte first a d n byte e g h in inr (sym r ∙ plain, told.0, subst (λ (x : ℕ). Appends first.given d.link.given (x ∷ [])) is told.1, h.secured ∙ (asked_answer first a e g).2)),
)
hears_by a d n byte b (Some (Ready (Err (errors.Tls tls.ServerRefused)))) e r w h (is, required, same) = rw same (
  (NoneFalls-from_counts _ _ _ h.counts, r, w),
  h.counts.calls,
  (NoWaits-from_counts _ _ _ h.counts refl refl, λ first g. let told = heard_byte first a d n byte e g h in (sym r ∙ required, (told.0, subst (λ (x : ℕ). Appends first.given d.link.given (x ∷ [])) is told.1))),
)
hears_by a d n byte b (Some (Ready (Err (errors.Protocol (protocol.Server (faults.SslAnswer told)))))) e r w h (is, neither, nor, same) = rw (is, same) (
  (NoneFalls-from_counts _ _ _ h.counts, r, w),
  h.counts.calls,
  (NoWaits-from_counts _ _ _ h.counts refl refl, λ first g. (neither, nor, heard_byte first a d n byte e g h)),
)
hears_by a d n byte b _ e r w h p = absurd p

pub hears : (a d b : AskingSeen) (n byte : ℕ) (answer : Option (Poll (Result (Unit {0}) Error))) → a.asked ≡ asks.Answer → d.is_required ≡ a.is_required → d.wish ≡ a.wish → Reads a.link d.link (reads.Moved n) (byte ∷ []) → HearsByte byte d b answer → AsksOnce a b answer
hears a d b n byte answer e r w h p = hears_by a d n byte b answer e r w h p

-- a read without a byte
pub reads_waits : (a b : AskingSeen) (into : List ℕ) → a.asked ≡ asks.Answer → b.asked ≡ a.asked → b.is_required ≡ a.is_required → b.wish ≡ a.wish → Reads a.link b.link reads.NotYet into → AsksOnce a b (Some Pending)
reads_waits a b into e f r w h = (
  (NoneFalls-from_counts _ _ _ h.counts, r, w),
  h.counts.calls,
  (
    subst (λ (x : Asked). AskingWaits a.link b.link x) (sym (f ∙ e)) (h.counts.read_waits, GrewBy-still _ _ h.counts.write_waits),
    λ first g. let s = asked_answer first a e g in subst (λ (x : Asked). HasAsked first b.link x) (sym (f ∙ e)) (Appends-keeps first.taken a.link.taken b.link.taken ssl_request s.0 h.taken, Keeps-then first.given a.link.given b.link.given s.1 h.gives.0, h.secured ∙ s.2),
  ),
)

pub reads_ends : (a b : AskingSeen) (into : List ℕ) → a.asked ≡ asks.Answer → b.is_required ≡ a.is_required → b.wish ≡ a.wish → Reads a.link b.link reads.End into → AsksOnce a b (Some (Ready (Err (errors.Io io.End))))
reads_ends a b into e r w h = (
  (NoneFalls-from_counts _ _ _ h.counts, r, w),
  h.counts.calls,
  (NoWaits-from_counts _ _ _ h.counts refl refl, λ first g. let s = asked_answer first a e g in (h.counts.ends.2, (Appends-keeps first.taken a.link.taken b.link.taken ssl_request s.0 h.taken, Keeps-then first.given a.link.given b.link.given s.1 h.gives.0, h.secured ∙ s.2))),
)

pub reads_fails : (a b : AskingSeen) (into : List ℕ) → b.is_required ≡ a.is_required → b.wish ≡ a.wish → Reads a.link b.link reads.Failed into → AsksOnce a b (Some (Ready (Err (errors.Io io.Fault))))
reads_fails a b into r w h = ((NoneFalls-from_counts _ _ _ h.counts, r, w), h.counts.calls, (NoWaits-from_counts _ _ _ h.counts refl refl, λ first g. h.counts.faults.2))

-- ---- the handshake

asked_upgrade : (first : LinkSeen) (a : AskingSeen) → a.asked ≡ asks.Upgrade → HasAsked first a.link a.asked → HasAsked first a.link asks.Upgrade
asked_upgrade first a e g = subst (λ (x : Asked). HasAsked first a.link x) e g

pub upgrades_done : (a b : AskingSeen) → a.asked ≡ asks.Upgrade → b.is_required ≡ a.is_required → b.wish ≡ a.wish → Upgrades a.link b.link a.wish upgrades.Done → AsksOnce a b (Some (Ready (Ok tt)))
upgrades_done a b e r w h = ((NoneFalls-from_counts _ _ _ h.counts, r, w), h.counts.calls, ((h.counts.moved, NoWaits-from_counts _ _ _ h.counts refl refl), λ first g. inl (a.link, asked_upgrade first a e g, h)))

pub upgrades_waits : (a b : AskingSeen) → a.asked ≡ asks.Upgrade → b.asked ≡ a.asked → b.is_required ≡ a.is_required → b.wish ≡ a.wish → Upgrades a.link b.link a.wish upgrades.NotYet → AsksOnce a b (Some Pending)
upgrades_waits a b e f r w h = (
  (NoneFalls-from_counts _ _ _ h.counts, r, w),
  h.counts.calls,
  (
    subst (λ (x : Asked). AskingWaits a.link b.link x) (sym (f ∙ e)) (h.counts.read_waits, GrewBy-still _ _ h.counts.write_waits),
    λ first g. let s = asked_upgrade first a e g in subst (λ (x : Asked). HasAsked first b.link x) (sym (f ∙ e)) (Appends-keeps first.taken a.link.taken b.link.taken ssl_request s.0 h.taken, Appends-keeps first.given a.link.given b.link.given (83 ∷ []) s.1 h.given, h.secured ∙ s.2),
  ),
)

pub upgrades_fails : (a b : AskingSeen) → b.is_required ≡ a.is_required → b.wish ≡ a.wish → Upgrades a.link b.link a.wish upgrades.Failed → AsksOnce a b (Some (Ready (Err (errors.Tls tls.UpgradeFailed))))
upgrades_fails a b r w h = ((NoneFalls-from_counts _ _ _ h.counts, r, w), h.counts.calls, (NoWaits-from_counts _ _ _ h.counts refl refl, λ first g. h.counts.upgrade_faults.2))

-- ---- within the code

pub sendable : (asked : Asked) (sent : ℕ) → asked ≡ asks.Sending sent → IsSendable asked → sent < 8
sendable asked sent e h = subst (λ (x : Asked). IsSendable x) e h

only : (xs : List ℕ) → length xs ≡ 1 → xs ≡ get_or xs 0 0 ∷ []
only [] e = absurd (omega (arith, e))
only (x ∷ []) e = refl
only (x ∷ y ∷ xs) e = absurd (omega (arith, e))

seen_byte : {A : Type 0} (seen : A → LinkSeen) (byte : ℕ) (a b : AskingOf A) (answer : Option (Poll (Result (Unit {0}) Error))) → HearsByte byte a b answer → HearsByte byte (asking_by seen a) (asking_by seen b) answer
seen_byte seen byte a b None (is, same) = (is, ap (λ (x : AskingOf _). asking_by seen x) same)
seen_byte seen byte a b (Some (Ready (Ok u))) (is, plain, same) = (is, plain, ap (λ (x : AskingOf _). asking_by seen x) same)
seen_byte seen byte a b (Some (Ready (Err (errors.Tls tls.ServerRefused)))) (is, required, same) = (is, required, ap (λ (x : AskingOf _). asking_by seen x) same)
seen_byte seen byte a b (Some (Ready (Err (errors.Protocol (protocol.Server (faults.SslAnswer told)))))) (is, neither, nor, same) = (is, neither, nor, ap (λ (x : AskingOf _). asking_by seen x) same)
seen_byte seen byte a b _ p = absurd p

-- the byte that a link gave makes this of the question
pub hears_seen : {A : Type 0} (seen : A → LinkSeen) (a d b : AskingOf A) (n : ℕ) (into : List ℕ) (answer : Option (Poll (Result (Unit {0}) Error))) → a.asked ≡ asks.Answer → d.is_required ≡ a.is_required → d.wish ≡ a.wish → length into ≡ 1 → Reads (seen a.link) (seen d.link) (reads.Moved n) into → HearsByte (get_or into 0 0) d b answer
    → AsksOnce (asking_by seen a) (asking_by seen b) answer
hears_seen seen a d b n into answer e r w one h p =
    hears (asking_by seen a) (asking_by seen d) (asking_by seen b) n (get_or into 0 0) answer e r w (subst (λ (x : List ℕ). Reads (seen a.link) (seen d.link) (reads.Moved n) x) (only into one) h) (seen_byte seen (get_or into 0 0) d b answer p)
