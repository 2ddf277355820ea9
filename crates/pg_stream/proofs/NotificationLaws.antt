-- What frames tell of notifications, and what is kept of it.
use Rattle.std.proofs.Common.{◌≡◌, ◌≢◌, ◌++◌, ℕ, Bool, true, false, List, [], ◌∷◌, codes, refl, sym, ap, subst, ◌∙◌, append_assoc, Option, Some, None, option_to_list, Result, Ok, Err, OnOk}
use Rattle.std.proofs.lemmas.List.{append-nil}
use Rattle.pg_wire.specs.declared.error.Error.{Error}
use Rattle.pg_wire.specs.declared.error.Error.TheVariants as errors
use Rattle.pg_wire.specs.declared.error.ProtocolFault.TheVariants as protocol
use Rattle.pg_wire.specs.declared.error.ServerFault.TheVariants as faults
use Rattle.pg_wire.specs.declared.message.notification_response.Notification.{Notification}
use Rattle.pg_wire.specs.Frame.{Frame, is_known}
use Rattle.pg_wire.specs.Parts.{is_asynchronous}
use Rattle.pg_wire.specs.Backend.{NotificationResponse}
use Rattle.pg_wire.specs.Decoding.{IsRefused}
use Rattle.pg_stream.specs.Streams.{framed}
use Rattle.pg_stream.specs.Notifications.{KeptSeen, Notifies, NotifiesAll, kept_behind, with_news, KeepsBy, KeepsByAll}

-- ---- one frame

kept_none : (keeping : Bool) (kept : List Notification) → kept_behind keeping [] kept ≡ kept
kept_none true kept = append-nil kept
kept_none false kept = refl

pub with_none : (k : KeptSeen) → with_news [] k ≡ k
with_none k = ap (λ (kept : List Notification). record k { kept = kept }) (kept_none k.keeping k.kept)

-- a frame with another tag tells none
pub keeps_none : (frame : Frame) (k : KeptSeen) → frame.tag ≢ 65 → KeepsBy frame k k
keeps_none frame k n = (None, λ process channel payload c. n (ap (λ (f : Frame). f.tag) (sym c.1)), sym (with_none k))

heard_tag : (frame : Frame) → is_asynchronous frame ≡ false → frame.tag ≢ 65
heard_tag frame h e = absurd cc (h, ap (is_known (codes "NSA")) e)

pub keeps_heard : (frame : Frame) (k : KeptSeen) → is_asynchronous frame ≡ false → KeepsBy frame k k
keeps_heard frame k h = keeps_none frame k (heard_tag frame h)

-- a body that is refused tells none
pub keeps_refused : (body : List ℕ) (e : Error) (k : KeptSeen) → IsRefused 65 body e → e ≢ errors.OutOfMemory → KeepsBy (framed 65 body) k k
keeps_refused body (errors.Protocol (protocol.Server (faults.Malformed named))) k r n = (None, λ process channel payload c. r.1 (NotificationResponse process channel payload) c, sym (with_none k))
keeps_refused body errors.OutOfMemory k r n = absurd (n refl)
keeps_refused body _ k r n = absurd r

pub keeps_unless : {X E : Type 0} (r : Result X E) (e : Error) (body : List ℕ) (a b : KeptSeen) → OnOk r (e ≢ errors.OutOfMemory) → IsRefused 65 body e → b ≡ a → OnOk r (KeepsBy (framed 65 body) a b)
keeps_unless (Ok x) e body a b n r same = subst (λ (m : KeptSeen). KeepsBy (framed 65 body) a m) (sym same) (keeps_refused body e a r n)
keeps_unless (Err y) e body a b n r same = tt

-- ---- several, one after another

pub NotifiesAll-append : (xs ys : List Frame) (m n : List Notification) → NotifiesAll xs m → NotifiesAll ys n → NotifiesAll (xs ++ ys) (m ++ n)
NotifiesAll-append [] ys m n p q = subst (λ (l : List Notification). NotifiesAll ys (l ++ n)) (sym p) q
NotifiesAll-append (x ∷ xs) ys m n p q = (p.0, p.1 ++ n, p.2, NotifiesAll-append xs ys p.1 n p.3 q, ap (λ (l : List Notification). l ++ n) p.4 ∙ append_assoc (option_to_list p.0) p.1 n)

kept_both : (keeping : Bool) (m n kept : List Notification) → kept_behind keeping (m ++ n) kept ≡ kept_behind keeping n (kept_behind keeping m kept)
kept_both true m n kept = sym (append_assoc kept m n)
kept_both false m n kept = refl

pub KeepsByAll-append : (xs ys : List Frame) (a b c : KeptSeen) → KeepsByAll xs a b → KeepsByAll ys b c → KeepsByAll (xs ++ ys) a c
KeepsByAll-append xs ys a b c p q = (
  p.0 ++ q.0,
  NotifiesAll-append xs ys p.0 q.0 p.1 q.1,
  q.2 ∙ ap (with_news q.0) p.2 ∙ ap (λ (kept : List Notification). record a { kept = kept }) (sym (kept_both a.keeping p.0 q.0 a.kept)),
)

pub KeepsByAll-none : (k : KeptSeen) → KeepsByAll [] k k
KeepsByAll-none k = ([], refl, sym (with_none k))

pub KeepsByAll-one : (frame : Frame) (a b : KeptSeen) → KeepsBy frame a b → KeepsByAll (frame ∷ []) a b
KeepsByAll-one frame a b p = (option_to_list p.0, (p.0, [], p.1, refl, sym (append-nil (option_to_list p.0))), p.2)
