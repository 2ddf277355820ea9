-- A start-up, poll by poll.
use Rattle.std.proofs.Common.{◌≡◌, ℕ, List, ◌+◌, ◌<◌, inl, inr, false, refl, sym, ap, subst, ◌∙◌, arith, Some, Result, Ok, Err}
use Rattle.futures.specs.declared.task.Poll.{Poll}
use Rattle.futures.specs.declared.task.Poll.TheVariants.{Ready, Pending}
use Rattle.pg_wire.specs.declared.error.Error.{Error}
use Rattle.pg_wire.specs.declared.error.Error.TheVariants as errors
use Rattle.pg_stream.specs.Links.{LinkPlan, LinkSeen, NoneFalls, RoseBy, Rose, NoWaits}
use Rattle.pg_stream.specs.Streams.{fresh_stream}
use Rattle.pg_stream.proofs.Known.{NoneFalls-refl, NoneFalls-then}
use Rattle.pg_options.specs.Options.{ConnectOptions}
use Rattle.pg_auth.specs.declared.tls.TlsPlan.{TlsPlan}
use Rattle.pg_auth.specs.declared.tls.TlsPlan.TheVariants.{Plain, Ask}
use Rattle.pg_startup.specs.Startups.{startup_of}
use Rattle.pg_startup.specs.declared.starting.Phase.{Phase}
use Rattle.pg_startup.specs.declared.starting.Phase.TheVariants as phases
use Rattle.pg_startup.specs.Handshake.{ReadyOf, ready_by}
use Rattle.pg_startup.specs.Establishing.{EstablishOf, EstablishSeen, establish_by, phase_by, ready_seen, kept_link, HasLink, IsKept, IsServersTurn, PollsStart, StartFails, StartWaits, FirstPhase, Begins, RefusesStart}
use Rattle.pg_startup.proofs.AskingLaws.{fails_from}
use Rattle.pg_startup.proofs.EstablishLaws.{begins_under_way}
use Rattle.pg_startup.specs.Lawful.{HearsLawful, Works}
use Rattle.pg_startup.proofs.LawfulLaws.{lawful_start}
use Rattle.pg_conn.specs.Connections.{ConnOf, ConnSeen, seen_by}
use Rattle.pg_conn.specs.Connecting.{ConnectingOf, PollsConnect, connected}
use Rattle.pg_play.specs.Starts.{Opening, IsOf, IsPending, HasWaited, HasWaitedLess, HasFailed, HasOpened, Hands, KeepsAsMany, StartEnds, StartsOn, StartsAs}
use Rattle.pg_play.proofs.WaitLaws.{still_grown}
use Rattle.pg_stream.proofs.StreamLemmas.{HeardCause-after, GrewBy-then}

-- ---- a poll more

-- why a poll waited is one more wait, or 256 more moves
waited_more : (n now : ℕ) (first a b : LinkSeen) (phase : Phase LinkSeen) → HasWaited n first a → NoneFalls a b → StartWaits 256 now a b phase → HasWaited (n + 1) first b
waited_more n now first a b phase h m p = elim p [
  | inl w ↦ record { write_waits = h.write_waits + 1; read_waits = h.read_waits; spent = h.spent; all = omega (arith, h.all); writes = GrewBy-then _ _ _ _ _ _ h.writes w.0 refl; reads = still_grown _ _ _ _ h.reads w.1; moved = omega (arith, h.moved, m.moved) }
  | inr q ↦ elim q [
    | inl w ↦ record { write_waits = h.write_waits; read_waits = h.read_waits + 1; spent = h.spent; all = omega (arith, h.all); writes = still_grown _ _ _ _ h.writes w.0.1; reads = GrewBy-then _ _ _ _ _ _ h.reads w.0.0 refl; moved = omega (arith, h.moved, m.moved) }
    | inr s ↦ record { write_waits = h.write_waits; read_waits = h.read_waits; spent = h.spent + 1; all = omega (arith, h.all); writes = still_grown _ _ _ _ h.writes s.1.2.0; reads = still_grown _ _ _ _ h.reads s.1.2.1; moved = omega (arith, h.moved, s.0, s.1.1) }
  ]
]

-- a poll that answered waited never
waited_after : (n : ℕ) (first a b : LinkSeen) → HasWaited n first a → NoneFalls a b → NoWaits a b → HasWaitedLess (n + 1) first b
waited_after n first a b h m w = (
  n,
  omega arith,
  record { write_waits = h.write_waits; read_waits = h.read_waits; spent = h.spent; all = h.all; writes = still_grown _ _ _ _ h.writes w.0; reads = still_grown _ _ _ _ h.reads w.1; moved = omega (arith, h.moved, m.moved) },
)

waited_within : (n polls : ℕ) (a b : LinkSeen) → n < polls → HasWaitedLess (n + 1) a b → HasWaitedLess polls a b
waited_within n polls a b l h = (h.0, omega (arith, l, h.1), h.2)

-- who is next, where nothing else was waited for
next_by : (now : ℕ) (first a b : LinkSeen) (phase : Phase LinkSeen) → NoneFalls first a → StartWaits 256 now a b phase → (Rose first.write_waits b.write_waits → ⊥) → (RoseBy 256 first.moved b.moved → ⊥) → IsServersTurn phase
next_by now first a b phase m p no_write no_moves = elim p [
  | inl w ↦ absurd (no_write (omega (arith, m.write_waits, w.0)))
  | inr q ↦ elim q [
    | inl w ↦ w.1
    | inr s ↦ absurd (no_moves (omega (arith, m.moved, s.0, s.1.1)))
  ]
]

of_same : (opening : Opening) (a b : EstablishSeen) → IsOf opening a → b.client ≡ a.client → b.plan ≡ a.plan → b.message ≡ a.message → IsOf opening b
of_same opening a b of client plan message = record { none = of.none; planned = of.planned ∙ ap Ok (sym plan); client = client ∙ of.client; message = message ∙ of.message }

fails_first : (first a : LinkSeen) (e : EstablishSeen) (phase : Phase LinkSeen) (error : Error) → NoneFalls first a → StartFails first a e phase error → StartFails first first e phase error
fails_first first a e (phases.Asking asking) error m h = (h.0, fails_from asking.is_required first first a asking.link error m h.1)
fails_first first a e (phases.Greeting greeting) error m (inl h) = inl h
fails_first first a e (phases.Greeting greeting) error m (inr (is, none, inl h)) = inr (is, none, inl (HeardCause-after (fresh_stream first) (fresh_stream a) greeting.stream error m h))
fails_first first a e (phases.Greeting greeting) error m (inr (is, none, inr h)) = inr (is, none, inr h)
fails_first first a e phases.Gone error m h = absurd h

-- a link that works between its beginning and its end works in between
works_later : (first a b : LinkSeen) → NoneFalls first a → Works first b → Works a b
works_later first a b m w = record { faults = omega (arith, m.faults, w.faults); ends = omega (arith, m.ends, w.ends); upgrade_faults = omega (arith, m.upgrade_faults, w.upgrade_faults) }

hears_before : (a b : EstablishSeen) (first last : LinkSeen) → b.client ≡ a.client → b.plan ≡ a.plan → b.message ≡ a.message → HearsLawful b first last → HearsLawful a first last
hears_before a b first last client plan message h = record { given = h.given; gave = h.gave; read = h.read; lawful = rw (← client, ← plan, ← message) h.lawful; further = h.further; front = h.front }

starts_by : {A : Type 0} (seen : A → LinkSeen) (opening : Opening) (first last : LinkSeen) (n now : ℕ) (a b : EstablishOf A) (ready : Poll (Result (ReadyOf A) Error)) → IsPending opening first last n (establish_by seen a) → PollsStart 256 now (establish_by seen a) (establish_by seen b) (ready_seen seen ready) → StartsOn seen opening first n b (connected opening.options.statement_cache_capacity ready)
starts_by seen opening first last n now a b Pending i p =
    let on = p.on first last i.starting i.kept in
    let waits = on.1.1 in (
      waits.0,
      record {
        of = of_same opening (establish_by seen a) (establish_by seen b) i.of p.client p.plan p.message;
        starting = on.1.0;
        kept = waits.1;
        counts = NoneFalls-then first last waits.0 i.counts waits.2.counts;
        waited = waited_more n now first last waits.0 (phase_by seen b.phase) i.waited waits.2.counts waits.3;
        next = λ some no_write no_moves. next_by now first last waits.0 (phase_by seen b.phase) i.counts waits.3 no_write no_moves;
      },
    )
starts_by seen opening first last n now a b (Ready (Ok ready)) i p =
    let on = p.on first last i.starting i.kept in
    record {
      e = establish_by seen b;
      of = of_same opening (establish_by seen a) (establish_by seen b) i.of p.client p.plan p.message;
      ready = ready_by seen ready;
      begun = on.3;
      counts = NoneFalls-then first last (seen ready.stream.link) i.counts on.2.counts;
      waited = waited_after n first last (seen ready.stream.link) i.waited on.2.counts on.4;
      held = 0;
      fresh = refl;
      room = omega arith;
    }
starts_by seen opening first last n now a b (Ready (Err error)) i p =
    let on = p.on first last i.starting i.kept in
    let fails = on.1 in (
      fails.0,
      record {
        of = of_same opening (establish_by seen a) (establish_by seen b) i.of p.client p.plan p.message;
        kept = fails.1;
        counts = NoneFalls-then first last fails.0 i.counts fails.2.counts;
        waited = waited_after n first last fails.0 i.waited fails.2.counts fails.4;
        fails = fails_first first last (establish_by seen b) (phase_by seen b.phase) error i.counts fails.3;
        lawful = λ works hears. lawful_start 256 now (establish_by seen a) (establish_by seen b) first last fails.0 error i.starting i.kept p fails.1 (works_later first last fails.0 i.counts works)
            (hears_before (establish_by seen a) (establish_by seen b) first fails.0 p.client p.plan p.message hears);
      },
    )

pub starts_on : {A : Type 0} (seen : A → LinkSeen) (a b : ConnectingOf A) (answer : Poll (Result (ConnOf A) Error)) → (now : ℕ) × PollsConnect seen 256 now a b answer → (opening : Opening) (first last : LinkSeen) (n : ℕ) → KeepsAsMany opening a → IsPending opening first last n (establish_by seen a.startup) → StartsOn seen opening first n b.startup answer
starts_on {A} seen a b answer (now, (ready, polls, is, same)) opening first last n k i =
    subst (λ (x : Poll (Result (ConnOf A) Error)). StartsOn seen opening first n b.startup x) (sym (is ∙ ap (λ (c : ℕ). connected c ready) k)) (starts_by seen opening first last n now a.startup b.startup ready i polls)

-- ---- its beginning

waited_none : (a : LinkSeen) → HasWaited 0 a a
waited_none a = record { write_waits = 0; read_waits = 0; spent = 0; all = refl; writes = omega arith; reads = omega arith; moved = omega arith }

pub pending_first : {A : Type 0} (seen : A → LinkSeen) (opening : Opening) (link : A) (e : EstablishOf A) → Begins opening.options opening.nonce opening.made link e → IsPending opening (seen link) (seen link) 0 (establish_by seen e)
pending_first seen opening link e (none, (plan, planned, is)) =
    let way = begins_under_way seen link _ plan _ e is in
    record {
      of = record { none = none; planned = planned ∙ ap Ok (sym is.1); client = is.0; message = is.2 };
      starting = way.0;
      kept = way.1;
      counts = NoneFalls-refl (seen link);
      waited = waited_none (seen link);
      next = λ some. absurd (omega (arith, some));
    }

-- ---- its end

same_link : {A : Type 0} (seen : A → LinkSeen) (phase : Phase A) (link : A) (last : LinkSeen) → kept_link phase ≡ Some link → HasLink (phase_by seen phase) last → last ≡ seen link
same_link {A} seen (phases.Asking asking) link last e h = h ∙ ap seen (some_is asking.link e)
  where
    some_is : (x : A) → Some x ≡ Some link → x ≡ link
    some_is x e = cc
same_link {A} seen (phases.Greeting greeting) link last e h = h ∙ ap seen (some_is greeting.stream.link e)
  where
    some_is : (x : A) → Some x ≡ Some link → x ≡ link
    some_is x e = cc
same_link seen phases.Gone link last e h = absurd h

opened_within : (opening : Opening) (polls n : ℕ) (first : LinkSeen) (a : ConnSeen) → n < polls → HasOpened opening (n + 1) first a → HasOpened opening polls first a
opened_within opening polls n first a l h = record { e = h.e; of = h.of; ready = h.ready; begun = h.begun; counts = h.counts; waited = waited_within n polls first a.stream.link l h.waited; held = h.held; fresh = h.fresh; room = h.room }

failed_within : (opening : Opening) (polls n : ℕ) (first last : LinkSeen) (e : EstablishSeen) (error : Error) → n < polls → HasFailed opening (n + 1) first last e error → HasFailed opening polls first last e error
failed_within opening polls n first last e error l h = record { of = h.of; kept = h.kept; counts = h.counts; waited = waited_within n polls first last l h.waited; fails = h.fails; lawful = h.lawful }

-- what was handed over
pub handed : {A : Type 0} (seen : A → LinkSeen) (opening : Opening) (polls n : ℕ) (first : LinkSeen) (e : EstablishOf A) (answer : Result (ConnOf A) Error) (result : Result (ConnOf A) (Error × A)) → n < polls → StartsOn seen opening first n e (Ready answer) → Hands e answer result → StartsAs seen opening polls first result
handed seen opening polls n first e (Ok conn) result l s h = rw h (opened_within opening polls n first (seen_by seen conn) l s)
handed seen opening polls n first e (Err error) result l (last, s) (link, kept, h) =
    let at = same_link seen e.phase link last kept s.kept in
    rw h (inr (inr (establish_by seen e, subst (λ (x : LinkSeen). HasFailed opening polls first x (establish_by seen e) error) at (failed_within opening polls n first last (establish_by seen e) error l s))))

-- none of its polls has answered
pub starved : {A : Type 0} (seen : A → LinkSeen) (opening : Opening) (polls : ℕ) (first last : LinkSeen) (e : EstablishOf A) (link : A) → IsPending opening first last polls (establish_by seen e) → kept_link e.phase ≡ Some link → StartEnds opening polls first (seen link) errors.StartupPending
starved seen opening polls first last e link i kept =
    let at = same_link seen e.phase link last kept i.kept in
    inl (refl, (establish_by seen e, subst (λ (x : LinkSeen). IsPending opening first x polls (establish_by seen e)) at i))

-- it was refused at once
pub refused_start : {A : Type 0} (seen : A → LinkSeen) (opening : Opening) (polls : ℕ) (link : A) (refused : Error × A) → RefusesStart opening.options opening.made refused.0 → refused.1 ≡ link → StartsAs seen opening polls (seen link) (Err refused)
refused_start seen opening polls link refused r e = inr (inl (ap seen e, r))

-- a start-up that begins keeps its link
kept_first : {A : Type 0} (link : A) (tls : TlsPlan) (message : List ℕ) (phase : Phase A) → FirstPhase link tls message phase → IsKept phase
kept_first link Plain message phase (g, says, is) = rw is tt
kept_first link (Ask required wish) message phase is = rw is tt

pub begins_kept : {A : Type 0} (o : ConnectOptions) (nonce : List ℕ) (made : LinkPlan) (link : A) (e : EstablishOf A) → Begins o nonce made link e → IsKept e.phase
begins_kept o nonce made link e (none, (tls, planned, is)) = kept_first link tls (startup_of o) e.phase is.4

pub begins_open : {A : Type 0} (o : ConnectOptions) (nonce : List ℕ) (made : LinkPlan) (link : A) (e : EstablishOf A) → Begins o nonce made link e → e.is_finished ≡ false
begins_open o nonce made link e (none, (tls, planned, is)) = is.3
