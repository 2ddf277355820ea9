-- Neither a connection nor a start-up says that a pool was closed.
use Rattle.std.proofs.Common.{◌≡◌, inl, inr, ℕ, Bool, true, false, List, refl, sym, ap, ◌∙◌, subst, Option, Some, None, Result, Ok, Err, IfOk}
use Rattle.futures.specs.declared.task.Poll.{Poll}
use Rattle.futures.specs.declared.task.Poll.TheVariants.{Ready, Pending}
use Rattle.pg_wire.specs.declared.error.Error.{Error}
use Rattle.pg_wire.specs.declared.error.Error.TheVariants as errors
use Rattle.pg_wire.specs.declared.error.ServerFault.{ServerFault}
use Rattle.pg_wire.specs.declared.message.authentication.Authentication.{Authentication}
use Rattle.pg_wire.specs.declared.message.authentication.Authentication.TheVariants as requests
use Rattle.pg_wire.specs.Frame.{Frame}
use Rattle.pg_stream.specs.Links.{LinkPlan, LinkSeen}
use Rattle.pg_options.specs.Options.{ConnectOptions}
use Rattle.pg_auth.specs.declared.tls.TlsPlan.{TlsPlan}
use Rattle.pg_auth.specs.declared.tls.TlsPlan.TheVariants.{Ask, Plain}
use Rattle.pg_startup.specs.declared.stage.Stage.{Stage}
use Rattle.pg_startup.specs.declared.stage.Stage.TheVariants as stages
use Rattle.pg_startup.specs.declared.starting.Phase.{Phase}
use Rattle.pg_startup.specs.declared.starting.Phase.TheVariants as phases
use Rattle.pg_startup.specs.Establishing.{Begins, EstablishSeen, FirstPhase, kept_link, HasLink, IsStarting, IsUnderWay, PollsStart, StartFails, establish_by, ready_seen}
use Rattle.pg_startup.specs.Exchange.{ClientSeen, client_of}
use Rattle.pg_startup.specs.Startups.{startup_of}
use Rattle.pg_startup.proofs.EstablishLaws.{begins_under_way}
use Rattle.pg_startup.specs.Greeting.{GreetingOf}
use Rattle.pg_startup.specs.Handshake.{ReadyOf}
use Rattle.pg_startup.specs.Refusals.{RefusesFirst, RefusesMessage, RefusesRequest, RefusesScram, out_of_turn}
use Rattle.pg_conn.specs.Connecting.{ConnectingOf, PollsConnect, connected}
use Rattle.pg_conn.specs.Connections.{ConnSeen}
use Rattle.pg_conn.specs.News.{NewsFails, PollsNews, flushing}
use Rattle.pg_listening.specs.Listening.{IsOpenPool}
use Rattle.pg_listening.proofs.OpenLaws.{open_unless}
use Rattle.pg_conn.specs.Dials.{IsUncalled}
use Rattle.pg_listen.specs.Handed.{FillingOf, HeldOf, TicketSeen, UsesLeave, connection_of}
use Rattle.pg_listening.specs.Leaving.{Fills, FillsOn, IsFresh, PollsStartUp, TicketIs, ended}

-- ---- a connection

news_closed : (o : Option ServerFault) (a b : ConnSeen) (left place : ℕ) → NewsFails o (flushing left a).stream b.stream (errors.PoolClosed place) → ⊥
news_closed None a b left place f = f
news_closed (Some fault) a b left place f = absurd cc

pub news_open : (left now : ℕ) (a b : ConnSeen) (e : Error) → PollsNews left now a b (Ready (Err e)) → IsOpenPool e
news_open left now a b e p = open_unless e by
  where
    by : (place : ℕ) → e ≡ errors.PoolClosed place → ⊥
    by place is = news_closed a.broken a b left place (subst (λ (x : Error). NewsFails a.broken (flushing left a).stream b.stream x) is p.finds.cause)

-- ---- a start-up

out_closed : (request : Authentication) (place : ℕ) → errors.PoolClosed place ≡ out_of_turn request → ⊥
out_closed (requests.Other code) place e = absurd cc
out_closed _ place e = absurd cc

scram_closed : (c : ClientSeen) (b : Bool) (place : ℕ) → RefusesScram c b (errors.PoolClosed place) → ⊥
scram_closed c false place e = absurd cc
scram_closed c true place e = e.1

first_closed : (c : ClientSeen) (request : Authentication) (place : ℕ) → RefusesFirst c request (errors.PoolClosed place) → ⊥
first_closed c requests.Ok place e = e
first_closed c requests.CleartextPassword place e = e.1
first_closed c (requests.Md5Password salt) place e = e
first_closed c (requests.Sasl names) place e = scram_closed c _ place e
first_closed c (requests.SaslContinue text) place e = out_closed (requests.SaslContinue text) place e
first_closed c (requests.SaslFinal text) place e = out_closed (requests.SaslFinal text) place e
first_closed c (requests.Other code) place e = out_closed (requests.Other code) place e

challenge_closed : (c : ClientSeen) (request : Authentication) (place : ℕ) → RefusesRequest c stages.Challenge request (errors.PoolClosed place) → ⊥
challenge_closed c (requests.SaslContinue text) place (inl e) = e
challenge_closed c (requests.SaslContinue text) place (inr e) = e.2
challenge_closed c requests.Ok place e = absurd cc
challenge_closed c requests.CleartextPassword place e = absurd cc
challenge_closed c (requests.Md5Password salt) place e = absurd cc
challenge_closed c (requests.Sasl names) place e = absurd cc
challenge_closed c (requests.SaslFinal text) place e = absurd cc
challenge_closed c (requests.Other code) place e = absurd cc

signature_closed : (c : ClientSeen) (answer : _) (request : Authentication) (place : ℕ) → RefusesRequest c (stages.Signature answer) request (errors.PoolClosed place) → ⊥
signature_closed c answer (requests.SaslFinal text) place e = e
signature_closed c answer requests.Ok place e = absurd cc
signature_closed c answer requests.CleartextPassword place e = absurd cc
signature_closed c answer (requests.Md5Password salt) place e = absurd cc
signature_closed c answer (requests.Sasl names) place e = absurd cc
signature_closed c answer (requests.SaslContinue text) place e = absurd cc
signature_closed c answer (requests.Other code) place e = absurd cc

verdict_closed : (c : ClientSeen) (request : Authentication) (place : ℕ) → RefusesRequest c stages.Verdict request (errors.PoolClosed place) → ⊥
verdict_closed c requests.Ok place e = e
verdict_closed c requests.CleartextPassword place e = absurd cc
verdict_closed c (requests.Md5Password salt) place e = absurd cc
verdict_closed c (requests.Sasl names) place e = absurd cc
verdict_closed c (requests.SaslContinue text) place e = absurd cc
verdict_closed c (requests.SaslFinal text) place e = absurd cc
verdict_closed c (requests.Other code) place e = absurd cc

request_closed : (c : ClientSeen) (stage : Stage) (request : Authentication) (place : ℕ) → RefusesRequest c stage request (errors.PoolClosed place) → ⊥
request_closed c stages.Request request place e = first_closed c request place e
request_closed c stages.Challenge request place e = challenge_closed c request place e
request_closed c (stages.Signature answer) request place e = signature_closed c answer request place e
request_closed c stages.Verdict request place e = verdict_closed c request place e
request_closed c (stages.Accepted keys) request place e = e
request_closed c (stages.Begun session) request place e = e

message_closed : (c : ClientSeen) (stage : Stage) (frame : Frame) (place : ℕ) → RefusesMessage c stage frame (errors.PoolClosed place) → ⊥
message_closed c stage frame place (inl e) = e
message_closed c stage frame place (inr (inl e)) = e
message_closed c stage frame place (inr (inr r)) = request_closed c stage r.request place r.refused

fails_closed : (first a : LinkSeen) (e : EstablishSeen) (phase : Phase LinkSeen) (place : ℕ) → StartFails first a e phase (errors.PoolClosed place) → ⊥
fails_closed first a e (phases.Asking asking) place f = f.1
fails_closed first a e (phases.Greeting greeting) place (inl f) = absurd cc
fails_closed first a e (phases.Greeting greeting) place (inr (g, s, inl h)) = h
fails_closed first a e (phases.Greeting greeting) place (inr (g, s, inr r)) = message_closed e.client greeting.stage r.0 place r.5
fails_closed first a e phases.Gone place f = f

-- a start-up that is under way has its link
link_of : (c : ClientSeen) (wanted : TlsPlan) (message : List ℕ) (first : LinkSeen) (phase : Phase LinkSeen) → IsUnderWay c wanted message first phase → (link : LinkSeen) × HasLink phase link
link_of c wanted message first (phases.Asking asking) u = (asking.link, refl)
link_of c wanted message first (phases.Greeting greeting) u = (greeting.stream.link, refl)
link_of c wanted message first phases.Gone u = absurd u

starts_closed : (left now : ℕ) (a b : EstablishSeen) (first : LinkSeen) (place : ℕ) → IsStarting first a → PollsStart left now a b (Ready (Err (errors.PoolClosed place))) → ⊥
starts_closed left now a b first place s p =
    let kept = link_of a.client a.plan a.message first a.phase s in
    let on = p.on first kept.0 s kept.1 in
    fails_closed first kept.0 b b.phase place on.1.3

connects_closed : {A : Type 0} (seen : A → LinkSeen) (left now : ℕ) (a b : ConnectingOf A) (first : LinkSeen) (place : ℕ) (ready : Poll (Result (ReadyOf A) Error)) → IsStarting first (establish_by seen a.startup) → Ready (Err (errors.PoolClosed place)) ≡ connected a.capacity ready
    → PollsStart left now (establish_by seen a.startup) (establish_by seen b.startup) (ready_seen seen ready) → ⊥
connects_closed seen left now a b first place Pending s e p = absurd cc
connects_closed seen left now a b first place (Ready (Ok ready)) s e p = absurd cc
connects_closed seen left now a b first place (Ready (Err error)) s e p =
    let same : error ≡ errors.PoolClosed place = cc in
    starts_closed left now (establish_by seen a.startup) (establish_by seen b.startup) first place s (subst (λ (x : Error). PollsStart left now (establish_by seen a.startup) (establish_by seen b.startup) (Ready (Err x))) same p)

pub connect_open : {A : Type 0} (seen : A → LinkSeen) (left now : ℕ) (a b : ConnectingOf A) (first : LinkSeen) (e : Error) → IsStarting first (establish_by seen a.startup) → PollsConnect seen left now a b (Ready (Err e)) → IsOpenPool e
connect_open seen left now a b first e s p = open_unless e (λ place is. connects_closed seen left now a b first place p.0 s (ap (λ (x : Error). Ready (Err x)) (sym is) ∙ p.2) p.1)

-- one that waits is under way still
on_waiting : {A : Type 0} (seen : A → LinkSeen) (left now : ℕ) (a b : ConnectingOf A) (first : LinkSeen) (ready : Poll (Result (ReadyOf A) Error)) → IsStarting first (establish_by seen a.startup) → Pending ≡ connected a.capacity ready
    → PollsStart left now (establish_by seen a.startup) (establish_by seen b.startup) (ready_seen seen ready) → IsStarting first (establish_by seen b.startup)
on_waiting seen left now a b first Pending s e p =
    let start = establish_by seen a.startup in
    let kept = link_of start.client start.plan start.message first start.phase s in
    let on = p.on first kept.0 s kept.1 in
    on.1.0
on_waiting seen left now a b first (Ready (Ok ready)) s e p = absurd cc
on_waiting seen left now a b first (Ready (Err error)) s e p = absurd cc

pub starting_on : {A : Type 0} (seen : A → LinkSeen) (left now : ℕ) (a b : ConnectingOf A) (first : LinkSeen) → IsStarting first (establish_by seen a.startup) → PollsConnect seen left now a b Pending → IsStarting first (establish_by seen b.startup)
starting_on seen left now a b first s p = on_waiting seen left now a b first p.0 s p.2 p.1

-- ---- a start-up that begins

kept_first : {A : Type 0} (link : A) (tls : TlsPlan) (message : List ℕ) (phase : Phase A) → FirstPhase link tls message phase → kept_link phase ≡ Some link
kept_first {A} link Plain message phase (g, says, is) = ap kept_link is ∙ ap (λ (x : GreetingOf A). Some x.stream.link) says.0
kept_first link (Ask required wish) message phase is = ap kept_link is

pub begun_fills : {A : Type 0} (seen : A → LinkSeen) (name : ℕ) (o : ConnectOptions) (nonce : List ℕ) (made : LinkPlan) (link : A) (f : FillingOf A) → Begins o nonce made link f.connecting.startup → TicketIs name f.ticket → IsUncalled (seen link) → Fills seen (λ h. h) name f × IsFresh seen (λ h. h) (Some f)
begun_fills seen name o nonce made link f (nul, (plan, is, begins)) leave uncalled = (
  record { goes = begins.3; leave = leave; first = seen link; starting = (begins_under_way seen link (client_of o nonce) plan (startup_of o) f.connecting.startup begins).0 },
  (link, kept_first link plan (startup_of o) f.connecting.startup.phase begins.4, uncalled),
)

pub established : {A : Type 0} (seen : A → LinkSeen) (name : ℕ) (o : ConnectOptions) (nonce : List ℕ) (made : LinkPlan) (link : A) (ticket : TicketSeen) (result : Result (FillingOf A) (Error × TicketSeen × A)) → ticket.name ≡ name → IsUncalled (seen link)
    → IfOk result (λ f. Begins o nonce made link f.connecting.startup × (f.ticket ≡ Some ticket)) → IfOk result (λ f. Fills seen (λ h. h) name f × IsFresh seen (λ h. h) (Some f))
established seen name o nonce made link ticket (Ok f) n u p = begun_fills seen name o nonce made link f p.0 (subst (λ (t : Option TicketSeen). TicketIs name t) (sym p.1) n) u
established seen name o nonce made link ticket (Err e) n u p = tt

-- ---- a poll of a start-up

pub fills_waits : {A : Type 0} (seen : A → LinkSeen) (name left now : ℕ) (f g : FillingOf A) → Fills seen (λ h. h) name f → UsesLeave {A = A} f.ticket g.ticket Pending → g.connecting.startup.is_finished ≡ false → PollsConnect seen left now f.connecting g.connecting Pending → Fills seen (λ h. h) name g
fills_waits seen name left now f g i leave goes polls = record {
  goes = goes;
  leave = subst (λ (t : Option TicketSeen). TicketIs name t) (sym leave) i.leave;
  first = i.first;
  starting = starting_on seen left now f.connecting g.connecting i.first i.starting polls;
}

pub fills_ended : {A : Type 0} (seen : A → LinkSeen) (name left now : ℕ) (f g : FillingOf A) (answer : Result (HeldOf A) Error) (link : Option A) (startup : Option (FillingOf A)) → Fills seen (λ h. h) name f → startup ≡ None → UsesLeave f.ticket g.ticket (Ready answer)
    → PollsConnect seen left now f.connecting g.connecting (connection_of (Ready answer)) → FillsOn seen (λ h. h) (λ h. h) name startup (Ready (ended answer link))
fills_ended seen name left now f g (Ok held) link startup i none leave polls = (none, subst (λ (t : Option TicketSeen). TicketIs name t) leave.0 i.leave)
fills_ended seen name left now f g (Err e) link startup i none leave polls = (none, connect_open seen left now f.connecting g.connecting i.first e i.starting polls)

-- what has failed is told with the link that it had
pub ends_start_up : {A : Type 0} (seen : A → LinkSeen) (left now : ℕ) (startup behind : Option (FillingOf A)) (f g : FillingOf A) (answer : Result (HeldOf A) Error) (link : Option A) → startup ≡ Some f → PollsConnect seen left now f.connecting g.connecting (connection_of (Ready answer))
    → link ≡ kept_link g.connecting.startup.phase → PollsStartUp seen (λ h. h) left now startup behind (Ready (ended answer link))
ends_start_up seen left now startup behind f g (Ok held) link is polls kept = tt
ends_start_up seen left now startup behind f g (Err e) link is polls kept = record { last = f; ended = g; is = is; polls = polls; link_is = kept }
