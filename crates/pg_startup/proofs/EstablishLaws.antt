-- A start-up, from its question for TLS to its session.
use Rattle.std.proofs.Common.{◌≡◌, ℕ, ◌+◌, ◌-◌, ◌≤◌, List, [], ◌∷◌, ◌++◌, Bool, true, false, refl, sym, ap, subst, ◌∙◌, arith, append_assoc, append-nil, length, get_or, Option, Result, Ok, Err, inl, inr, ◌⊎◌}
use Rattle.std.specs.Prelude.{OnOk, OnErr, IfOk, IfErr}
use Rattle.std.proofs.lemmas.List.{length-append}
use Rattle.futures.specs.declared.task.Poll.{Poll}
use Rattle.futures.specs.declared.task.Poll.TheVariants.{Ready, Pending}
use Rattle.pg_wire.specs.declared.error.Error.{Error}
use Rattle.pg_wire.specs.declared.error.Error.TheVariants as errors
use Rattle.pg_wire.specs.Frame.{Frame, text_of}
use Rattle.pg_wire.specs.Parts.{heard}
use Rattle.pg_wire.proofs.PartLaws.{heard-append}
use Rattle.pg_stream.specs.Links.{LinkPlan, LinkSeen, GrewBy, NoWaits}
use Rattle.pg_stream.specs.Streams.{Moves, stream_by, fresh_stream, HeardCause, PendingCause}
use Rattle.std.specs.Io.KnownBytes.{Appends}
use Rattle.pg_wire.specs.Frontend.{ssl_request}
use Rattle.pg_stream.proofs.Known.{Appends-refl, Appends-then, NoneFalls-refl, NoneFalls-then, NoWaits-then, GrewBy-after, Keeps-refl, Appends-keeps}
use Rattle.pg_stream.specs.declared.link.TlsWish.{TlsWish}
use Rattle.pg_options.specs.Options.{ConnectOptions}
use Rattle.pg_auth.specs.Tls.{tls_plan}
use Rattle.pg_auth.specs.declared.tls.TlsPlan.{TlsPlan}
use Rattle.pg_auth.specs.declared.tls.TlsPlan.TheVariants.{Plain, Ask}
use Rattle.pg_startup.specs.declared.stage.Session.{Session}
use Rattle.pg_startup.specs.declared.stage.Stage.{Stage}
use Rattle.pg_startup.specs.declared.stage.Stage.TheVariants as stages
use Rattle.pg_startup.specs.declared.starting.Phase.{Phase}
use Rattle.pg_startup.specs.declared.starting.Phase.TheVariants as phases
use Rattle.pg_startup.specs.declared.asking.Asked.{Asked}
use Rattle.pg_startup.specs.declared.asking.Asked.TheVariants as asks
use Rattle.pg_startup.specs.Exchange.{ClientSeen, Proof, proofs_text, Leads}
use Rattle.pg_startup.specs.Asking.{AskingOf, AskingSeen, asking_by, Agrees, AskingWaits, AllCallsMoved, AllCallsMade, PollsAsking}
use Rattle.pg_startup.specs.Flows.{Flows}
use Rattle.pg_startup.specs.Handshake.{ReadyOf, ready_by, IsQuestion, IsSecured, HasBegun}
use Rattle.pg_startup.specs.Greeting.{GreetingSeen, GreetingOf, greeting_by, fresh_greeting, SaysMore, Greets, IsFrontRefused, PollsGreeting, with_left}
use Rattle.pg_startup.specs.Establishing.{EstablishOf, EstablishSeen, establish_by, phase_by, HasLink, IsStarting, IsUnderWay, IsGreeting, IsBegun, Called, StartWaits, SettlesOn, GreetsIn, GoneAs, GoesOn, Opens, Settles, FirstPhase, IsBeginning, Begins, IsPrepared, PreparedSeen, PollsStart, IsReady, Hands, IsGreetingPhase, saturated, asked_in, answered_in}
use Rattle.pg_startup.proofs.FlowLaws.{Flows-then, flows_begun, flows_queued}
use Rattle.pg_startup.proofs.GreetLaws.{leads_then, proofs_text-append}
use Rattle.pg_stream.proofs.StreamLemmas.{GrewBy-then, GrewBy-spent, HeardCause-after}

-- ---- messages of a session

-- more proofs were said, and more frames taken
greeting_on : (c : ClientSeen) (plan : TlsPlan) (message : List ℕ) (first : LinkSeen) (left : ℕ) (g h : GreetingSeen) (said : List Proof) (frames : List Frame) → IsGreeting c plan message first g → Greets c (with_left left g) h said frames → IsGreeting c plan message first h
greeting_on c tls message first left g h said frames i t =
    let text : (message ++ proofs_text i.proofs) ++ proofs_text said ≡ message ++ proofs_text (i.proofs ++ said) = append_assoc message (proofs_text i.proofs) (proofs_text said) ∙ ap (λ (u : List ℕ). message ++ u) (sym (proofs_text-append i.proofs said)) in
    record {
      settled = i.settled;
      settles = i.settles;
      proofs = i.proofs ++ said;
      frames = i.frames ++ frames;
      flows = subst (λ (u : List ℕ). Flows (fresh_stream i.settled) h.stream u (i.frames ++ frames)) text (Flows-then (fresh_stream i.settled) g.stream h.stream (message ++ proofs_text i.proofs) (proofs_text said) i.frames frames i.flows (flows_begun g.stream h.stream left (proofs_text said) frames t.moves));
      leads = subst (λ (u : List Frame). Leads c stages.Request u (i.proofs ++ said) h.stage) (sym (heard-append i.frames frames)) (leads_then c stages.Request g.stage h.stage (heard i.frames) (heard frames) i.proofs said i.leads t.leads);
      counted = GrewBy-then (length (message ++ proofs_text i.proofs)) (length (proofs_text said)) (length (message ++ proofs_text (i.proofs ++ said))) 0 g.said h.said i.counted t.counted (ap (λ (u : List ℕ). length u) (sym text) ∙ length-append (message ++ proofs_text i.proofs) (proofs_text said));
    }

-- the calls of a poll, in two parts
less_then : (left mid now x y z : ℕ) → mid ≤ left → now ≤ mid → GrewBy (left - mid) x y → GrewBy (mid - now) y z → GrewBy (left - now) x z
less_then left mid now x y z fewer less p q = GrewBy-then _ _ _ _ _ _ p q (omega (arith, fewer, less))

-- why it waits, from the link on that a poll began with
waits_by : (left mid : ℕ) (a : LinkSeen) (g h : GreetingSeen) → AllCallsMoved left mid a g.stream.link → h.stream.left ≤ mid → PendingCause (with_left mid g).stream h.stream → StartWaits left h.stream.left a h.stream.link (phases.Greeting h)
waits_by left mid a g h moved fewer p = elim p [
  | inl x ↦ inl (GrewBy-after _ _ _ moved.2.0 x.0, x.3 ∙ moved.2.1)
  | inr y ↦ elim y [
    | inl x ↦ inr (inl ((GrewBy-after _ _ _ moved.2.1 x.0.0, x.0.3 ∙ moved.2.0), (x.1, x.2)))
    | inr x ↦ inr (inr (x.0, (omega (arith, moved.0, fewer), less_then left mid h.stream.left _ _ _ moved.0 fewer moved.1 x.1.0, NoWaits-then a g.stream.link h.stream.link moved.2 x.1.2.2)))
  ]
]

-- the link was called in both
called_then : (left mid : ℕ) (a : LinkSeen) (g h : GreetingSeen) (q : List ℕ) (fs : List Frame) → Called left mid a g.stream.link → mid ≤ left → Moves (with_left mid g).stream h.stream q fs → Called left h.stream.left a h.stream.link
called_then left mid a g h q fs m fewer n = record { counts = NoneFalls-then a g.stream.link h.stream.link m.counts n.counts; calls = less_then left mid h.stream.left _ _ _ fewer n.left m.calls n.calls }

-- a poll of the session goes on
greeted : (first : LinkSeen) (left mid now : ℕ) (a : LinkSeen) (e : EstablishSeen) (phase : Phase LinkSeen) (g h : GreetingSeen) (answer : Poll (Result Session Error)) → phase ≡ phases.Greeting h → IsGreeting e.client e.plan e.message first g → Called left mid a g.stream.link → AllCallsMoved left mid a g.stream.link
    → PollsGreeting e.client mid now g h answer → GoneAs first left now a e phase answer
greeted first left mid now a e phase g h Pending is i m moved ((on, cause), k) =
    let on' = on in
    rw (is, k) (
      greeting_on e.client e.plan e.message first mid g h on'.0 on'.1 i on'.2,
      (h.stream.link, refl, called_then left mid a g h _ on'.1 m moved.0 on'.2.moves, waits_by left mid a g h moved on'.2.moves.left cause.1),
      cause.0,
    )
greeted first left mid now a e phase g h (Ready (Ok session)) is i m moved ((on, cause), k) = rw k (
  h,
  is,
  greeting_on e.client e.plan e.message first mid g h on.0 on.1 i on.2,
  called_then left mid a g h _ on.1 m moved.0 on.2.moves,
  cause.1,
  NoWaits-then a g.stream.link h.stream.link moved.2 cause.0.2.2,
)
greeted first left mid now a e phase g h (Ready (Err error)) is i m moved ((on, cause), k) = rw (is, k) (
  h.stream.link,
  refl,
  called_then left mid a g h _ on.1 m moved.0 on.2.moves,
  inr (greeting_on e.client e.plan e.message first mid g h on.0 on.1 i on.2, cause.0, by cause.1),
  NoWaits-then a g.stream.link h.stream.link moved.2 cause.2.2,
)
  where
    by : HeardCause (with_left mid g).stream h.stream error ⊎ IsFrontRefused e.client h error → HeardCause (fresh_stream a) h.stream error ⊎ IsFrontRefused e.client h error
    by (inl p) = inl (HeardCause-after (fresh_stream a) (with_left mid g).stream h.stream error m.counts p)
    by (inr p) = inr p

-- ---- the question for TLS

-- a question goes on
asked_waits : (left now : ℕ) (a b : LinkSeen) (q : AskingSeen) → b ≡ q.link → AskingWaits a q.link q.asked ⊎ AllCallsMade left now a q.link → StartWaits left now a b (phases.Asking q)
asked_waits left now a b q e (inl w) = rw e (by q.asked w)
  where
    by : (asked : Asked) → AskingWaits a q.link asked → StartWaits left now a q.link (phases.Asking (record q { asked = asked }))
    by (asks.Sending sent) w = inl w
    by asks.Answer w = inr (inl (w, tt))
    by asks.Upgrade w = inr (inl (w, tt))
asked_waits left now a b q e (inr s) = rw e (inr (inr s))

-- the session begins over a link whose TLS is settled
opened_by : (c : ClientSeen) (plan : TlsPlan) (message : List ℕ) (first link : LinkSeen) (g : GreetingSeen) → Settles plan first link → g.stream ≡ record (fresh_stream link) { unsent = message } → g.stage ≡ stages.Request → GrewBy (length message) 0 g.said → IsGreeting c plan message first g
opened_by c tls message first link g settles stream stage said = record {
  settled = link;
  settles = settles;
  proofs = [];
  frames = [];
  flows = subst (λ (u : List ℕ). Flows (fresh_stream link) g.stream u []) (sym (append-nil message)) (rw stream (flows_queued (fresh_stream link) (record (fresh_stream link) { unsent = message }) message refl refl refl refl));
  leads = (refl, stage);
  counted = subst (λ (u : List ℕ). GrewBy (length u) 0 g.said) (sym (append-nil message)) said;
}

pub opened : {A : Type 0} (seen : A → LinkSeen) (c : ClientSeen) (plan : TlsPlan) (message : List ℕ) (first : LinkSeen) (link : A) (g : GreetingOf A) → Settles plan first (seen link) → SaysMore message (fresh_greeting link) g → IsGreeting c plan message first (greeting_by seen g)
opened seen c tls message first link g settles (is, said) =
    opened_by c tls message first (seen link) (greeting_by seen g) settles (ap (λ (x : GreetingOf _). stream_by seen x.stream) is) (ap (λ (x : GreetingOf _). x.stage) is) said

-- a plan that asks
plan_asks : (plan : TlsPlan) (q : AskingSeen) (first now : LinkSeen) → plan ≡ Ask q.is_required q.wish → Agrees q.is_required q.wish first now → Settles plan first now
plan_asks tls q first now e g = rw e g

-- a question that waits or fails
pub asking_waits : (left now : ℕ) (e : EstablishSeen) (q r : AskingSeen) → e.phase ≡ phases.Asking q → PollsAsking left now q r Pending → SettlesOn left now e (phases.Asking r) Pending
asking_waits left now e q r is (fewer, same, calls, (waits, on)) = (
  fewer,
  λ first link under kept.
      let under' : IsUnderWay e.client e.plan e.message first (phases.Asking q) = subst (λ (x : Phase LinkSeen). IsUnderWay e.client e.plan e.message first x) is under in
      let at : link ≡ q.link = subst (λ (x : Phase LinkSeen). HasLink x link) is kept in (
        (under'.0 ∙ sym (ap (λ (x : Bool). Ask x q.wish) same.1) ∙ sym (ap (λ (x : TlsWish). Ask r.is_required x) same.2), on first under'.1),
        (r.link, refl, rw at (record { counts = same.0; calls = calls }), rw at (asked_waits left now q.link r.link r refl waits)),
        tt,
      ),
)

pub asking_fails : (left now : ℕ) (e : EstablishSeen) (q r : AskingSeen) (error : Error) → e.phase ≡ phases.Asking q → PollsAsking left now q r (Ready (Err error)) → SettlesOn left now e (phases.Asking r) (Ready (Err error))
asking_fails left now e q r error is (fewer, same, calls, (still, fails)) = (
  fewer,
  λ first link under kept.
      let under' : IsUnderWay e.client e.plan e.message first (phases.Asking q) = subst (λ (x : Phase LinkSeen). IsUnderWay e.client e.plan e.message first x) is under in
      let at : link ≡ q.link = subst (λ (x : Phase LinkSeen). HasLink x link) is kept in
      let plan : e.plan ≡ Ask r.is_required r.wish = under'.0 ∙ sym (ap (λ (x : Bool). Ask x q.wish) same.1) ∙ sym (ap (λ (x : TlsWish). Ask r.is_required x) same.2) in
      (r.link, refl, rw at (record { counts = same.0; calls = calls }), (plan, rw (at, same.1) (fails first under'.1)), rw at still),
)

-- a question that is answered, and a session that begins
pub asking_opens : {A : Type 0} (seen : A → LinkSeen) (left now : ℕ) (e : EstablishOf A) (q r : AskingOf A) (phase : Phase A) (answer : Result (Unit {0}) Error) → e.phase ≡ phases.Asking q → PollsAsking left now (asking_by seen q) (asking_by seen r) (Ready (Ok tt)) → Opens e.message (phases.Asking r) phase answer
    → SettlesOn left now (establish_by seen e) (phase_by seen phase) (Ready answer)
asking_opens {A} seen left now e q r phase (Ok u) is (fewer, same, calls, (moved, ends)) (g, says, opens) = (
  fewer,
  λ first link under kept.
      let under' : IsUnderWay e.client e.plan e.message first (phase_by seen (phases.Asking q)) = subst (λ (x : Phase A). IsUnderWay e.client e.plan e.message first (phase_by seen x)) is under in
      let at : link ≡ seen q.link = subst (λ (x : Phase A). HasLink (phase_by seen x) link) is kept in
      let grown : g.stream.link ≡ r.link = ap (λ (x : GreetingOf A). x.stream.link) says.0 in (
        greeting_by seen g,
        ap (λ (x : Phase A). phase_by seen x) opens,
        opened seen e.client e.plan e.message first r.link g (plan_asks e.plan (asking_by seen q) first (seen r.link) under'.0 (ends first under'.1)) says,
        rw (at, grown) (record { counts = same.0; calls = calls }),
        rw (at, grown) moved,
      ),
)
asking_opens {A} seen left now e q r phase (Err error) is (fewer, same, calls, (moved, ends)) (memory, opens) = (
  fewer,
  λ first link under kept.
      let at : link ≡ seen q.link = subst (λ (x : Phase A). HasLink (phase_by seen x) link) is kept in
      rw (opens, at) (seen r.link, refl, record { counts = same.0; calls = calls }, inl memory, moved.2),
)

-- no question is asked
pub settled_already : (left : ℕ) (e : EstablishSeen) (g : GreetingSeen) → e.phase ≡ phases.Greeting g → SettlesOn left left e e.phase (Ready (Ok tt))
settled_already left e g is = (
  omega arith,
  λ first link under kept.
      let i : IsGreeting e.client e.plan e.message first g = subst (λ (x : Phase LinkSeen). IsUnderWay e.client e.plan e.message first x) is under in
      let at : link ≡ g.stream.link = subst (λ (x : Phase LinkSeen). HasLink x link) is kept in (
        g,
        is,
        i,
        rw at (record { counts = NoneFalls-refl g.stream.link; calls = GrewBy-spent left g.stream.link.calls }),
        (omega arith, rw at (GrewBy-spent left g.stream.link.moved), rw at (refl, refl)),
      ),
)

-- ---- both

pub goes_waiting : (left now : ℕ) (e : EstablishSeen) (phase : Phase LinkSeen) → SettlesOn left now e phase Pending → GoesOn left now e phase Pending
goes_waiting left now e phase p = p

pub goes_failing : (left now : ℕ) (e : EstablishSeen) (phase : Phase LinkSeen) (error : Error) → SettlesOn left now e phase (Ready (Err error)) → GoesOn left now e phase (Ready (Err error))
goes_failing left now e phase error p = p

pub goes_greeting : (left mid now : ℕ) (e d : EstablishSeen) (phase : Phase LinkSeen) (answer : Poll (Result Session Error)) → d.client ≡ e.client → SettlesOn left mid e d.phase (Ready (Ok tt)) → now ≤ mid → GreetsIn d.client mid now d.phase phase answer → GoesOn left now e phase answer
goes_greeting left mid now e d phase answer same (fewer, on) less greets = (
  omega (arith, fewer, less),
  λ first link under kept.
      let open' = on first link under kept in
      let t = greets open'.0 open'.1 in
      greeted first left mid now link e phase open'.0 t.0 answer t.1 open'.2 open'.3 open'.4 (subst (λ (c : ClientSeen). PollsGreeting c mid now open'.0 t.0 answer) same t.2),
)

-- ---- its beginning

under_way_first : {A : Type 0} (seen : A → LinkSeen) (link : A) (c : ClientSeen) (tls : TlsPlan) (message : List ℕ) (phase : Phase A) → FirstPhase link tls message phase → IsUnderWay c tls message (seen link) (phase_by seen phase) × HasLink (phase_by seen phase) (seen link)
under_way_first seen link c Plain message phase (g, says, is) =
    let at : g.stream.link ≡ link = ap (λ (x : GreetingOf _). x.stream.link) says.0 in
    rw is (opened seen c Plain message (seen link) link g refl says, ap seen (sym at))
under_way_first seen link c (Ask required wish) message phase is = rw is ((refl, (omega arith, Appends-refl (seen link).taken, Keeps-refl (seen link).given, refl)), refl)

-- a start-up that begins is one that is under way over its link
pub begins_under_way : {A : Type 0} (seen : A → LinkSeen) (link : A) (c : ClientSeen) (tls : TlsPlan) (message : List ℕ) (e : EstablishOf A) → IsBeginning link c tls message e → IsStarting (seen link) (establish_by seen e) × HasLink (phase_by seen e.phase) (seen link)
begins_under_way seen link c tls message e (client, plan, text, open', first) = rw (client, plan, text) (under_way_first seen link c tls message e.phase first)

-- ---- within the code

pub opens_by : {A : Type 0} (message : List ℕ) (q : AskingOf A) (g : GreetingOf A) (answer : Result (Unit {0}) Error) → OnOk answer (SaysMore message (fresh_greeting q.link) g) → OnErr answer (g ≡ fresh_greeting q.link) → IfErr answer (λ e. e ≡ errors.OutOfMemory) → Opens message (phases.Asking q) (phases.Greeting g) answer
opens_by message q g (Ok u) says same memory = (g, says, refl)
opens_by message q g (Err e) says same memory = (memory, rw same refl)

pub begins_by : {A : Type 0} (o : ConnectOptions) (nonce : List ℕ) (made : LinkPlan) (can near : Bool) (wants : Result TlsPlan Error) (link : A) (p : PreparedSeen) (answer : Result (EstablishOf A) (Error × A)) → can ≡ made.can_upgrade → near ≡ made.is_local → wants ≡ tls_plan o.ssl_mode can near
    → IsPrepared o nonce wants p → IfOk answer (IsBeginning link p.client p.plan p.message) → IfOk answer (Begins o nonce made link)
begins_by o nonce made can near wants link p (Err e) u l w i b = tt
begins_by o nonce made can near wants link p (Ok e) u l w i b = (
  i.0,
  (p.plan, rw (← u, ← l) (sym w ∙ i.1), (b.0 ∙ i.2, b.1, b.2 ∙ i.3, b.3, subst (λ (m : List ℕ). FirstPhase link p.plan m e.phase) i.3 b.4)),
)

pub polls_fewer : (c : ClientSeen) (left now : ℕ) (a b : GreetingSeen) (answer : Poll (Result Session Error)) → PollsGreeting c left now a b answer → now ≤ left
polls_fewer c left now a b Pending ((on, cause), k) = omega (arith, k, on.2.moves.left)
polls_fewer c left now a b (Ready (Ok session)) ((on, cause), k) = omega (arith, k, on.2.moves.left)
polls_fewer c left now a b (Ready (Err e)) ((on, cause), k) = omega (arith, k, on.2.moves.left)

pub polls_waiting : (left now : ℕ) (e : EstablishSeen) (phase : Phase LinkSeen) → e.is_finished ≡ false → GoesOn left now e phase Pending → PollsStart left now e (record e { phase = phase }) Pending
polls_waiting left now e phase goes (fewer, on) = record { fewer = fewer; client = refl; plan = refl; message = refl; on = λ first link under kept. (goes, on first link under kept) }

pub polls_failing : (left now : ℕ) (e : EstablishSeen) (phase : Phase LinkSeen) (error : Error) → GoesOn left now e phase (Ready (Err error)) → PollsStart left now e (record e { phase = phase; is_finished = true }) (Ready (Err error))
polls_failing left now e phase error (fewer, on) = record { fewer = fewer; client = refl; plan = refl; message = refl; on = λ first link under kept. (refl, on first link under kept) }

greeting_in : {A : Type 0} (phase : Phase A) → IsGreetingPhase phase → (g : GreetingOf A) × (phase ≡ phases.Greeting g)
greeting_in (phases.Greeting g) h = (g, refl)
greeting_in (phases.Asking q) h = absurd h
greeting_in phases.Gone h = absurd h

same_greeting : (g h : GreetingSeen) → phases.Greeting g ≡ phases.Greeting h → g ≡ h
same_greeting g h e = cc

-- the question for TLS, by its bytes
pub record Questioned (plan : TlsPlan) (first settled : LinkSeen) : Type 0 where
  pub asked : List ℕ
  pub answered : List ℕ
  pub question : IsQuestion plan asked answered
  pub took : Appends first.taken settled.taken asked
  pub gave : Appends first.given settled.given answered
  pub secured : IsSecured plan answered first.secured settled.secured
  pub asked_length : length asked ≡ asked_in plan
  pub answered_length : length answered ≡ answered_in plan

two_bytes : (x y : ℕ) → ◌≡◌ {A = List ℕ} (x ∷ []) (y ∷ []) → (x ≡ y → ⊥) → ⊥
two_bytes x y e differ = differ (ap (λ (z : List ℕ). get_or z 0 0) e)

pub questioned : (tls : TlsPlan) (first settled : LinkSeen) → Settles tls first settled → Questioned tls first settled
questioned Plain first settled e = rw e (record { asked = []; answered = []; question = (refl, refl); took = Appends-refl first.taken; gave = Appends-refl first.given; secured = refl; asked_length = refl; answered_length = refl })
questioned (Ask required wish) first settled (inl (before, asked, u)) = record {
  asked = ssl_request;
  answered = 83 ∷ [];
  question = (refl, inl refl);
  took = Appends-keeps first.taken before.taken settled.taken ssl_request asked.0 u.taken;
  gave = Appends-keeps first.given before.given settled.given (83 ∷ []) asked.1 u.given;
  secured = (λ s. u.secured, λ n. absurd (two_bytes 83 78 n (λ e. omega (arith, e))));
  asked_length = refl;
  answered_length = refl;
}
questioned (Ask required wish) first settled (inr (plain, took, gave, kept)) = record {
  asked = ssl_request;
  answered = 78 ∷ [];
  question = (refl, inr (plain, refl));
  took = took;
  gave = gave;
  secured = (λ s. absurd (two_bytes 78 83 s (λ e. omega (arith, e))), λ n. kept);
  asked_length = refl;
  answered_length = refl;
}

counted_more : (n m k said total sent : ℕ) → GrewBy n 0 said → m ≡ k → total ≡ m + n → sent ≡ saturated (said + k) → GrewBy total 0 sent
counted_more n m k said total sent g e t s = (omega (arith, s), omega (arith, g.1, e, t, s), omega (arith, g.2, e, t, s))

begun : (c : ClientSeen) (tls : TlsPlan) (message : List ℕ) (first : LinkSeen) (g : GreetingSeen) (session : Session) (sent read : ℕ) → IsGreeting c tls message first g → g.stage ≡ stages.Begun session → sent ≡ saturated (g.said + asked_in tls) → read ≡ saturated (g.stream.taken + answered_in tls)
    → HasBegun c tls message first (record { stream = g.stream; session = session; sent = sent; read = read })
begun c tls message first g session sent read i stage s r =
    let q = questioned tls first i.settled i.settles in
    let f = i.flows in
    record {
      said = q.asked ++ (message ++ proofs_text i.proofs);
      read = q.answered ++ text_of i.frames;
      handshake = record {
        asked = q.asked;
        answered = q.answered;
        question = q.question;
        proofs = i.proofs;
        frames = i.frames;
        whole = f.read.3;
        leads = subst (λ (x : Stage). Leads c stages.Request (heard i.frames) i.proofs x) stage i.leads;
        said_is = refl;
        read_is = refl;
      };
      secured = subst (λ (x : Option TlsWish). IsSecured tls q.answered first.secured x) (sym f.secured) q.secured;
      taken = q.asked ++ f.sent.0;
      took = Appends-then first.taken i.settled.taken g.stream.link.taken q.asked f.sent.0 q.took f.sent.1;
      unsent = ap (λ (x : List ℕ). q.asked ++ x) f.sent.2 ∙ sym (append_assoc q.asked f.sent.0 g.stream.unsent);
      given = q.answered ++ f.read.0;
      gave = Appends-then first.given i.settled.given g.stream.link.given q.answered f.read.0 q.gave f.read.1;
      held = ap (λ (x : List ℕ). q.answered ++ x) f.read.2 ∙ sym (append_assoc q.answered (text_of i.frames) g.stream.held);
      sent_counted = counted_more (length (message ++ proofs_text i.proofs)) (length q.asked) (asked_in tls) g.said (length (q.asked ++ (message ++ proofs_text i.proofs))) sent i.counted q.asked_length (length-append q.asked (message ++ proofs_text i.proofs)) s;
      read_counted = counted_more (length (text_of i.frames)) (length q.answered) (answered_in tls) g.stream.taken (length (q.answered ++ text_of i.frames)) read f.read.4 q.answered_length (length-append q.answered (text_of i.frames)) r;
    }

-- the session is handed out
is_ready : (first : LinkSeen) (left now : ℕ) (a : LinkSeen) (e : EstablishSeen) (phase : Phase LinkSeen) (session : Session) (g : GreetingSeen) (ready : ReadyOf LinkSeen) → phase ≡ phases.Greeting g → IsBegun first left now a e phase session
    → ready ≡ record { stream = g.stream; session = session; sent = saturated (g.said + asked_in e.plan); read = saturated (g.stream.taken + answered_in e.plan) } → Called left now a ready.stream.link × IsReady first e ready × NoWaits a ready.stream.link
is_ready first left now a e phase session g ready is (h, at, i, m, stage, still) hands =
    let same : g ≡ h = same_greeting g h (sym is ∙ at) in
    let i' : IsGreeting e.client e.plan e.message first g = rw same i in
    let m' : Called left now a g.stream.link = rw same m in
    let stage' : g.stage ≡ stages.Begun session = rw same stage in
    let still' : NoWaits a g.stream.link = rw same still in
    rw hands (m', begun e.client e.plan e.message first g session (saturated (g.said + asked_in e.plan)) (saturated (g.stream.taken + answered_in e.plan)) i' stage' refl refl, still')

pub polls_ready : {A : Type 0} (seen : A → LinkSeen) (left now : ℕ) (e d : EstablishOf A) (session : Session) (ready : ReadyOf A) → d ≡ record e { phase = d.phase } → GoesOn left now (establish_by seen e) (phase_by seen d.phase) (Ready (Ok session)) → IsGreetingPhase d.phase → Hands d session ready
    → PollsStart left now (establish_by seen e) (establish_by seen (record d { phase = phases.Gone; is_finished = true })) (Ready (Ok (ready_by seen ready)))
polls_ready {A} seen left now e d session ready same (fewer, on) greets hands =
    let g = greeting_in d.phase greets in
    let client : d.client ≡ e.client = ap (λ (x : EstablishOf A). x.client) same in
    let plan : d.plan ≡ e.plan = ap (λ (x : EstablishOf A). x.plan) same in
    let message : d.message ≡ e.message = ap (λ (x : EstablishOf A). x.message) same in
    let told = ap (λ (x : ReadyOf A). ready_by seen x) (hands g.0 g.1) in
    let at : phase_by seen d.phase ≡ phases.Greeting (greeting_by seen g.0) = ap (λ (x : Phase A). phase_by seen x) g.1 in
    record {
      fewer = fewer;
      client = client;
      plan = plan;
      message = message;
      on = λ first link under kept.
          let r = is_ready first left now link (establish_by seen (record d { phase = phases.Gone; is_finished = true })) (phase_by seen d.phase) session (greeting_by seen g.0) (ready_by seen ready) at (rw (client, plan, message) (on first link under kept)) told in
          (refl, refl, r.0, r.1, r.2);
    }

pub opens_from : {A : Type 0} (m n : List ℕ) (a b : Phase A) (q : AskingOf A) (g : GreetingOf A) (answer : Result (Unit {0}) Error) → m ≡ n → a ≡ phases.Asking q → b ≡ phases.Greeting g → Opens n (phases.Asking q) (phases.Greeting g) answer → Opens m a b answer
opens_from m n a b q g answer e f h o = rw (e, f, h) o
