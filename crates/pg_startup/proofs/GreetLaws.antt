-- How a session begins, message by message.
use Rattle.std.proofs.Common.{◌≡◌, ℕ, ◌<◌, ◌+◌, List, [], ◌∷◌, ◌++◌, false, Option, Some, None, refl, sym, ap, subst, ◌∙◌, arith, length, map, Result, Ok, Err, inl, inr, append-nil, append_assoc}
use Rattle.futures.specs.declared.task.Poll.{Poll}
use Rattle.futures.specs.declared.task.Poll.TheVariants.{Ready, Pending}
use Rattle.pg_wire.specs.declared.error.Error.{Error}
use Rattle.pg_wire.specs.Frame.{Frame}
use Rattle.pg_wire.specs.Parts.{heard, is_asynchronous}
use Rattle.pg_wire.proofs.PartLaws.{heard-append}
use Rattle.pg_stream.specs.Links.{LinkSeen, GrewBy}
use Rattle.pg_stream.specs.declared.stream.Front.{Front}
use Rattle.pg_stream.specs.Streams.{StreamOf, stream_by, fuel_of, Moves, AllMoved, Passes, PollsAhead, AreAsynchronous, IsFrontOf, IsHeardFront}
use Rattle.pg_stream.proofs.StreamLemmas.{Moves-then, Moves-none, AllMoved-none, AllMoved-then, NoneWaited-then, PendingCause-after, took_frame, queues, text_of-append, front_tag, GrewBy-then, HeardCause-after}
use Rattle.pg_startup.specs.declared.stage.Session.{Session}
use Rattle.pg_startup.specs.declared.stage.Stage.{Stage}
use Rattle.pg_startup.specs.Exchange.{ClientSeen, Proof, proof_frame, proofs_text, Leads}
use Rattle.pg_startup.specs.Replies.{Hears}
use Rattle.pg_startup.specs.declared.reply.Reply.{Reply}
use Rattle.pg_startup.specs.declared.stage.Stage.TheVariants as stages
use Rattle.pg_startup.specs.Greeting.{session_at, GreetingOf, GreetingSeen, greeting_by, AnswersFront, RefusesFront, Greets, GreetsOn, GreetsOnce, GreetCause}

-- ---- the exchange

pub leads_then : (c : ClientSeen) (a b d : Stage) (x y : List Frame) (s t : List Proof) → Leads c a x s b → Leads c b y t d → Leads c a (x ++ y) (s ++ t) d
leads_then c a b d [] y s t p q = rw (p.0, ← p.1) q
leads_then c a b d (f ∷ x) y s t p q = (
  p.0,
  p.1,
  p.2,
  p.3 ++ t,
  p.4,
  p.5,
  ap (λ (u : List Proof). u ++ t) p.6 ∙ append_assoc p.2 p.3 t,
  leads_then c p.1 b d x y p.3 t p.7 q,
)

map-append : (s t : List Proof) → map proof_frame (s ++ t) ≡ map proof_frame s ++ map proof_frame t
map-append [] t = refl
map-append (p ∷ s) t = ap (λ (u : List Frame). proof_frame p ∷ u) (map-append s t)

pub proofs_text-append : (s t : List Proof) → proofs_text (s ++ t) ≡ proofs_text s ++ proofs_text t
proofs_text-append s t = rw (map-append s t) (text_of-append (map proof_frame s) (map proof_frame t))

-- ---- from state to state

grew_none : (a : ℕ) → GrewBy 0 a a
grew_none a = (omega arith, omega arith, omega arith)

pub greets_then : (c : ClientSeen) (a b d : GreetingSeen) (s t : List Proof) (x y : List Frame) → Greets c a b s x → Greets c b d t y → Greets c a d (s ++ t) (x ++ y)
greets_then c a b d s t x y g h = record {
  moves = subst (λ (u : List ℕ). Moves a.stream d.stream u (x ++ y)) (sym (proofs_text-append s t)) (Moves-then a.stream b.stream d.stream (proofs_text s) (proofs_text t) x y g.moves h.moves);
  leads = subst (λ (u : List Frame). Leads c a.stage u (s ++ t) d.stage) (sym (heard-append x y)) (leads_then c a.stage b.stage d.stage (heard x) (heard y) s t g.leads h.leads);
  counted = GrewBy-then (length (proofs_text s)) (length (proofs_text t)) (length (proofs_text (s ++ t))) a.said b.said d.said g.counted h.counted (ap (λ (u : List ℕ). length u) (proofs_text-append s t) ∙ length_append (proofs_text s) (proofs_text t));
}
  where
    length_append : (u v : List ℕ) → length (u ++ v) ≡ length u + length v
    length_append [] v = omega arith
    length_append (n ∷ u) v = let more = length_append u v in omega arith

pub greets_none : (c : ClientSeen) (a : GreetingSeen) → Greets c a a [] []
greets_none c a = record { moves = Moves-none a.stream; leads = (refl, refl); counted = grew_none a.said }

pub heard_none : (fs : List Frame) → AreAsynchronous fs → heard fs ≡ []
heard_none [] h = refl
heard_none (f ∷ fs) h = let e = h.0.0 in rw e (heard_none fs h.1)

-- asynchronous messages alone were taken
pub greets_aside : (c : ClientSeen) (a b : GreetingSeen) (aside : List Frame) → AreAsynchronous aside → Moves a.stream b.stream [] aside → b.stage ≡ a.stage → b.said ≡ a.said → Greets c a b [] aside
greets_aside c a b aside n m stage said = record {
  moves = m;
  leads = rw (heard_none aside n) (refl, stage);
  counted = rw said (grew_none a.said);
}

-- ---- one message

pub heard_one : (f : Frame) → is_asynchronous f ≡ false → heard (f ∷ []) ≡ f ∷ []
heard_one f e = rw e refl

-- what is said is queued, and then the message is taken
queued_took : {A : Type 0} (seen : A → LinkSeen) (a t u : StreamOf A) (front : Front) (frame : Frame) (rest text : List ℕ) → t ≡ record a { unsent = a.unsent ++ text } → IsFrontOf a.held front frame rest → is_asynchronous frame ≡ false → Passes front t u
    → Moves (stream_by seen a) (stream_by seen u) text (frame ∷ []) × AllMoved (stream_by seen a) (stream_by seen u)
queued_took seen a t u front frame rest text e is plain p =
    let q = queues seen a t text e in
    let k = took_frame seen t u front frame rest (rw e is) plain p in (
      subst (λ (x : List ℕ). Moves (stream_by seen a) (stream_by seen u) x (frame ∷ [])) (append-nil text) (Moves-then (stream_by seen a) (stream_by seen t) (stream_by seen u) text [] [] (frame ∷ []) q.0 k.0),
      AllMoved-then (stream_by seen a) (stream_by seen t) (stream_by seen u) q.1 q.0.left k.1 k.0.left,
    )

is_heard : (held : List ℕ) (front : Front) (frame : Frame) (rest : List ℕ) → IsHeardFront held front → IsFrontOf held front frame rest → is_asynchronous frame ≡ false
is_heard held front frame rest h is = front_tag held front frame rest is ∙ sym (front_tag held front h.0 h.1 h.2) ∙ h.3

-- a message was answered and taken
answered : {A : Type 0} (seen : A → LinkSeen) (c : ClientSeen) (a : GreetingOf A) (front : Front) (frame : Frame) (rest : List ℕ) (reply : Reply) (between b : GreetingOf A)
    → is_asynchronous frame ≡ false → IsFrontOf a.stream.held front frame rest → Hears c a.stage frame reply → between ≡ record a { stream = record a.stream { unsent = a.stream.unsent ++ reply.text }; said = between.said }
    → GrewBy (length reply.text) a.said between.said → Passes front between.stream b.stream → b ≡ record between { stream = b.stream; stage = reply.next }
    → GreetsOn c (greeting_by seen a) (greeting_by seen b) × AllMoved (stream_by seen a.stream) (stream_by seen b.stream) × (fuel_of (stream_by seen b.stream) < fuel_of (stream_by seen a.stream))
answered seen c a front frame rest reply between b plain is hears says grew passes taken =
    let proofs = hears.2.0 in
    let goes = hears.2.1 in
    let text = hears.2.2 in
    let q = queued_took seen a.stream between.stream b.stream front frame rest reply.text (ap (λ (g : GreetingOf _). g.stream) says) is plain passes in
    let stage : b.stage ≡ reply.next = ap (λ (g : GreetingOf _). g.stage) taken in
    let said : b.said ≡ between.said = ap (λ (g : GreetingOf _). g.said) taken in (
      (
        proofs,
        frame ∷ [],
        record {
          moves = subst (λ (x : List ℕ). Moves (stream_by seen a.stream) (stream_by seen b.stream) x (frame ∷ [])) text q.0;
          leads = rw (heard_one frame plain) (hears.0, reply.next, proofs, [], hears.1, goes, sym (append-nil proofs), (refl, stage));
          counted = rw (← text, said) grew;
        },
      ),
      q.1,
      omega (arith, q.0.fuel),
    )

pub answers_on : {A : Type 0} (seen : A → LinkSeen) (c : ClientSeen) (a b : GreetingOf A) (front : Front) → IsHeardFront a.stream.held front → AnswersFront c front a b
    → GreetsOn c (greeting_by seen a) (greeting_by seen b) × AllMoved (stream_by seen a.stream) (stream_by seen b.stream) × (fuel_of (stream_by seen b.stream) < fuel_of (stream_by seen a.stream))
answers_on seen c a b front ahead (frame, rest, reply, between, is, hears, (says, grew), (passes, taken)) =
    answered seen c a front frame rest reply between b (is_heard a.stream.held front frame rest ahead is) is hears says grew passes taken

-- ---- a poll's steps

-- a message behind those that were taken aside
pub greets_one : {A : Type 0} (seen : A → LinkSeen) (c : ClientSeen) (a d b : GreetingOf A) (front : Front) → PollsAhead (stream_by seen a.stream) (stream_by seen d.stream) (Ready (Ok front)) → d.stage ≡ a.stage → d.said ≡ a.said → AnswersFront c front d b
    → GreetsOnce c (greeting_by seen a) (greeting_by seen b) None
greets_one seen c a d b front p stage said answers =
    let one = answers_on seen c d b front p.5 answers in
    let aside = greets_aside c (greeting_by seen a) (greeting_by seen d) p.0 p.1 p.2 stage said in (
      (one.0.0, p.0 ++ one.0.1, greets_then c (greeting_by seen a) (greeting_by seen d) (greeting_by seen b) [] one.0.0 p.0 one.0.1 aside one.0.2),
      AllMoved-then (stream_by seen a.stream) (stream_by seen d.stream) (stream_by seen b.stream) p.4 p.2.left one.1 one.0.2.moves.left,
      omega (arith, p.2.fuel, one.2),
    )

-- no session has begun
pub none_begun : (told begun : Option Session) → told ≡ begun → ((x : Session) → told ≡ Some x → ⊥) → begun ≡ None
none_begun told None e n = refl
none_begun told (Some x) e n = absurd (n x e)

-- the message at the front is refused, and stays
pub greets_refused : {A : Type 0} (seen : A → LinkSeen) (c : ClientSeen) (a b : GreetingOf A) (front : Front) (e : Error) → session_at a.stage ≡ None → PollsAhead (stream_by seen a.stream) (stream_by seen b.stream) (Ready (Ok front)) → b.stage ≡ a.stage → b.said ≡ a.said → RefusesFront c front b e
    → GreetsOnce c (greeting_by seen a) (greeting_by seen b) (Some (Ready (Err e)))
greets_refused seen c a b front e none p stage said (frame, rest, is, refused) = (
  ([], p.0, greets_aside c (greeting_by seen a) (greeting_by seen b) p.0 p.1 p.2 stage said),
  (ap session_at stage ∙ none, inr (frame, rest, is.whole, is_heard b.stream.held front frame rest p.5 is, is.parts, refused), p.4.2),
)

pub greets_failed : {A : Type 0} (seen : A → LinkSeen) (c : ClientSeen) (a b : GreetingOf A) (e : Error) → session_at a.stage ≡ None → PollsAhead (stream_by seen a.stream) (stream_by seen b.stream) (Ready (Err e)) → b.stage ≡ a.stage → b.said ≡ a.said
    → GreetsOnce c (greeting_by seen a) (greeting_by seen b) (Some (Ready (Err e)))
greets_failed seen c a b e none p stage said = (([], p.0, greets_aside c (greeting_by seen a) (greeting_by seen b) p.0 p.1 p.2 stage said), (ap session_at stage ∙ none, inl p.3, p.5))

pub greets_waits : {A : Type 0} (seen : A → LinkSeen) (c : ClientSeen) (a b : GreetingOf A) → session_at a.stage ≡ None → PollsAhead (stream_by seen a.stream) (stream_by seen b.stream) Pending → b.stage ≡ a.stage → b.said ≡ a.said
    → GreetsOnce c (greeting_by seen a) (greeting_by seen b) (Some Pending)
greets_waits seen c a b none p stage said = (([], p.0, greets_aside c (greeting_by seen a) (greeting_by seen b) p.0 p.1 p.2 stage said), (ap session_at stage ∙ none, p.3))

-- ---- step after step

pub record GreetsFrom (c : ClientSeen) (a b : GreetingSeen) : Type 0 where
  pub on : GreetsOn c a b
  pub moved : AllMoved a.stream b.stream

pub from_none : (c : ClientSeen) (a : GreetingSeen) → GreetsFrom c a a
from_none c a = record { on = ([], [], greets_none c a); moved = AllMoved-none a.stream }

pub from_more : (c : ClientSeen) (a b d : GreetingSeen) → GreetsFrom c a b → GreetsOnce c b d None → GreetsFrom c a d
from_more c a b d i t = record {
  on = (i.on.0 ++ t.0.0, i.on.1 ++ t.0.1, greets_then c a b d i.on.0 t.0.0 i.on.1 t.0.1 i.on.2 t.0.2);
  moved = AllMoved-then a.stream b.stream d.stream i.moved i.on.2.moves.left t.1 t.0.2.moves.left;
}

pub from_last : (c : ClientSeen) (a b d : GreetingSeen) (answer : Poll (Result Session Error)) → GreetsFrom c a b → GreetsOnce c b d (Some answer) → GreetsOnce c a d (Some answer)
from_last c a b d answer i (on, cause) = (
  (i.on.0 ++ on.0, i.on.1 ++ on.1, greets_then c a b d i.on.0 on.0 i.on.1 on.1 i.on.2 on.2),
  by answer cause,
)
  where
    by : (r : Poll (Result Session Error)) → GreetCause c b d r → GreetCause c a d r
    by Pending (none, p) = (none, PendingCause-after a.stream b.stream d.stream i.moved i.on.2.moves.left on.2.moves.left p)
    by (Ready (Ok session)) p = (AllMoved-then a.stream b.stream d.stream i.moved i.on.2.moves.left p.0 on.2.moves.left, p.1)
    by (Ready (Err e)) (none, inl p, still) = (none, inl (HeardCause-after a.stream b.stream d.stream e i.on.2.moves.counts p), NoneWaited-then a.stream b.stream d.stream i.moved.2 still)
    by (Ready (Err e)) (none, inr p, still) = (none, inr p, NoneWaited-then a.stream b.stream d.stream i.moved.2 still)

-- the session had begun
pub greets_over : (c : ClientSeen) (a : GreetingSeen) (session : Session) → Some session ≡ session_at a.stage → GreetsOnce c a a (Some (Ready (Ok session)))
greets_over c a session e = (([], [], greets_none c a), (AllMoved-none a.stream, begun a.stage e))
  where
    begun : (stage : Stage) → Some session ≡ session_at stage → stage ≡ stages.Begun session
    begun (stages.Begun s) e = ap stages.Begun (sym (some_is e))
      where
        some_is : Some session ≡ Some s → session ≡ s
        some_is e = cc
    begun _ e = absurd cc
