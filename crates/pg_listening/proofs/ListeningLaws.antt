-- What is done with the connection that is held, and what of it is heard.
use Rattle.std.proofs.Common.{◌≡◌, inl, inr, ℕ, Bool, true, false, List, [], ◌∷◌, ◌++◌, refl, sym, ap, ◌∙◌, subst, Option, Some, None, option_to_list, Result, Ok, Err}
use Rattle.futures.specs.declared.task.Poll.{Poll}
use Rattle.futures.specs.declared.task.Poll.TheVariants.{Ready, Pending}
use Rattle.pg_wire.specs.declared.error.Error.{Error}
use Rattle.pg_wire.specs.declared.error.Error.TheVariants as errors
use Rattle.pg_wire.specs.declared.error.IoCause.TheVariants as io
use Rattle.pg_wire.specs.declared.error.ServerFault.{ServerFault}
use Rattle.pg_wire.specs.declared.message.notification_response.Notification.{Notification}
use Rattle.pg_stream.specs.Links.{LinkSeen, NoneFalls}
use Rattle.pg_stream.specs.Notifications.{TakesOldest}
use Rattle.pg_stream.specs.Streams.{StreamSeen, stream_by}
use Rattle.pg_call.specs.declared.kind.How.TheVariants as hows
use Rattle.pg_call.specs.declared.kind.Kind.TheVariants as kinds
use Rattle.pg_call.specs.declared.request.Request.{Request}
use Rattle.pg_call.specs.declared.request.Request.TheVariants as requests
use Rattle.pg_conn.specs.Connections.{ConnOf, ConnSeen, seen_by, started_call}
use Rattle.pg_conn.specs.News.{NewsFails, PollsNews, flushing, ReadsNews, given, with_kept}
use Rattle.pg_conn.specs.States.{IsCalling}
use Rattle.pg_stream.proofs.StreamLemmas.{Rose-after}
use Rattle.pg_conn.proofs.NewsLaws.{reads_started}
use Rattle.pg_conn.proofs.ViewLaws.{seen_started}
use Rattle.pg_listening.specs.Buffers.{BuffersSeen, FailsBy, Hears}
use Rattle.pg_listening.specs.Listening.{FailsOn, IsAsked}
use Rattle.pg_listening.proofs.BufferLaws.{hears_at, hears_earlier, hears_gives, hears_none, hears_oldest, hears_reads, hears_saved}

-- no statement is asked where none is held
pub asked_none : {C A : Type 0} (conn : C → ConnOf A) (b : Bool) (c : C) → IsAsked conn b None → IsAsked conn b (Some c)
asked_none conn false c i = tt
asked_none conn true c i = absurd i

-- what is asked still runs where only the notifications that are kept have changed
pub asked_kept : {C A : Type 0} (conn : C → ConnOf A) (b : Bool) (c d : C) → conn d ≡ with_kept (conn d).stream.notifications (conn c) → IsAsked conn b (Some c) → IsAsked conn b (Some d)
asked_kept conn false c d e i = tt
asked_kept {C} {A} conn true c d e i = subst (λ (x : ConnOf A). IsCalling (kinds.Run hows.Execute) x) (sym e) i

-- the stream of such a connection
kept_stream : {A : Type 0} (seen : A → LinkSeen) (a b : ConnOf A) → b ≡ with_kept b.stream.notifications a → stream_by seen b.stream ≡ record (stream_by seen a.stream) { notifications = b.stream.notifications }
kept_stream {A} seen a b e = ap (λ (x : ConnOf A). stream_by seen x.stream) e

pub takes_oldest : {A : Type 0} (seen : A → LinkSeen) (a b : ConnOf A) (n : Option Notification) → b ≡ with_kept b.stream.notifications a → TakesOldest a.stream.notifications b.stream.notifications n
    → Hears [] (record { earlier = []; stream = Some (stream_by seen a.stream) }) (record { earlier = []; stream = Some (stream_by seen b.stream) }) (option_to_list n)
takes_oldest seen a b n e t = hears_oldest (stream_by seen a.stream) (stream_by seen b.stream) n (kept_stream seen a b e) t

pub saves_all : {A : Type 0} (seen : A → LinkSeen) (a b : ConnOf A) (e f : List Notification) → b ≡ with_kept b.stream.notifications a → f ++ b.stream.notifications.kept ≡ e ++ a.stream.notifications.kept
    → Hears [] (record { earlier = e; stream = Some (stream_by seen a.stream) }) (record { earlier = f; stream = Some (stream_by seen b.stream) }) []
saves_all seen a b e f s k = hears_saved (stream_by seen a.stream) (stream_by seen b.stream) e f (kept_stream seen a b s) k

-- one of those read earlier is given
pub pops_earlier : (a b : BuffersSeen) (n : Notification) (e f : List Notification) → a.earlier ≡ e → b.earlier ≡ f → e ≡ n ∷ f → b.stream ≡ a.stream → Hears [] a b (n ∷ [])
pops_earlier a b n e f p q i s = hears_at [] a b (n ∷ f) f a.stream a.stream (n ∷ []) (p ∙ i) refl q s (hears_earlier n f a.stream)

pub stays_same : (a b : BuffersSeen) → b ≡ a → Hears [] a b []
stays_same a b e = subst (λ (x : BuffersSeen). Hears [] a x []) (sym e) (hears_none a)

-- a statement is begun
pub starts_heard : {A : Type 0} (seen : A → LinkSeen) (a b : ConnOf A) (e : List Notification) (r : Request) → b ≡ started_call r a → a.stream.notifications.keeping ≡ true
    → Hears [] (record { earlier = e; stream = Some (stream_by seen a.stream) }) (record { earlier = e; stream = Some (stream_by seen b.stream) }) []
starts_heard {A} seen a b e r s k =
    let same : seen_by seen b ≡ started_call r (seen_by seen a) = ap (λ (x : ConnOf A). seen_by seen x) s ∙ seen_started seen r a in
    let reads : ReadsNews (stream_by seen a.stream) (stream_by seen b.stream) [] = subst (λ (x : ConnSeen). ReadsNews (stream_by seen a.stream) x.stream []) (sym same) (reads_started r (seen_by seen a) k) in
    hears_reads (stream_by seen a.stream) (stream_by seen b.stream) e reads

pub starts_keeping : {A : Type 0} (seen : A → LinkSeen) (a b : ConnOf A) (r : Request) → b ≡ started_call r a → a.stream.notifications.keeping ≡ true → b.stream.notifications.keeping ≡ true
starts_keeping {A} seen a b r s k =
    let same : seen_by seen b ≡ started_call r (seen_by seen a) = ap (λ (x : ConnOf A). seen_by seen x) s ∙ seen_started seen r a in
    ap (λ (x : ConnSeen). x.stream.notifications.keeping) same ∙ (reads_started r (seen_by seen a) k).keeping

-- where a poll fails by its link
failed_link : (o : Option ServerFault) (a m b : StreamSeen) (cause : _) → NoneFalls a.link m.link → NewsFails o m b (errors.Io cause) → FailsBy a.link b.link
failed_link None a m b io.Fault n f = inr (Rose-after _ _ _ n.faults f)
failed_link None a m b io.End n f = inl (Rose-after _ _ _ n.ends f.0)
failed_link None a m b io.Source n f = absurd f
failed_link (Some fault) a m b cause n f = absurd cc

pub fails_held : {A : Type 0} (seen : A → LinkSeen) (l n : ℕ) (a b : ConnOf A) (answer : Poll (Result Notification Error)) → a.stream.notifications.keeping ≡ true → PollsNews l n (seen_by seen a) (seen_by seen b) answer
    → FailsOn answer (Some (stream_by seen a.stream)) (Some (stream_by seen b.stream))
fails_held seen l n a b Pending k p = tt
fails_held seen l n a b (Ready (Ok news)) k p = tt
fails_held {A} seen l n a b (Ready (Err e)) k p = by e p.finds.cause
  where
    by : (e : Error) → NewsFails a.broken (flushing l (seen_by seen a)).stream (stream_by seen b.stream) e → FailsOn (Ready (Err e)) (Some (stream_by seen a.stream)) (Some (stream_by seen b.stream))
    by (errors.Io cause) f = failed_link a.broken (stream_by seen a.stream) (flushing l (seen_by seen a)).stream (stream_by seen b.stream) cause (reads_started requests.Flush (seen_by seen a) k).counts f
    by _ f = tt

pub polls_heard : {A : Type 0} (seen : A → LinkSeen) (l n : ℕ) (a b : ConnOf A) (answer : Poll (Result Notification Error)) → PollsNews l n (seen_by seen a) (seen_by seen b) answer
    → Hears [] (record { earlier = []; stream = Some (stream_by seen a.stream) }) (record { earlier = []; stream = Some (stream_by seen b.stream) }) (given answer)
polls_heard seen l n a b answer p = hears_gives (stream_by seen a.stream) (stream_by seen b.stream) (given answer) p.finds.step.reads
