-- How a call on what holds a connection goes on.
use Rattle.std.proofs.Common.{◌≡◌, ℕ, ◌≤◌, inl, inr, List, ◌∷◌, [], Some, None, Result, Ok, Err, Bool, true, false, cond, nat_eq, ◌-◌, refl, sym, ap, ◌∙◌}
use Rattle.futures.specs.declared.task.Poll.{Poll}
use Rattle.futures.specs.declared.task.Poll.TheVariants.{Ready, Pending}
use Rattle.pg_wire.specs.declared.error.Error.{Error}
use Rattle.pg_stream.specs.Links.{LinkSeen}
use Rattle.pg_request.specs.Queries.{QueryText}
use Rattle.pg_call.specs.declared.kind.Kind.{Kind}
use Rattle.pg_call.specs.declared.kind.Kind.TheVariants as kinds
use Rattle.pg_call.specs.declared.kind.How.{How}
use Rattle.pg_call.specs.declared.kind.How.TheVariants as hows
use Rattle.pg_call.specs.declared.answer.Turn.{Turn}
use Rattle.pg_call.specs.declared.answer.Turn.TheVariants as turns
use Rattle.pg_call.specs.declared.request.Request.{Request}
use Rattle.pg_call.specs.declared.request.Request.TheVariants as requests
use Rattle.pg_call.specs.Requests.{raw}
use Rattle.pg_call.specs.Answers.{TurnFits}
use Rattle.pg_conn.specs.Connections.{ConnOf, seen_by, left, runs, started_call}
use Rattle.pg_conn.specs.States.{IsCalling}
use Rattle.pg_conn.specs.Turns.{PollsWithin}
use Rattle.pg_conn.proofs.StateLaws.{started_calling}
use Rattle.pg_migrate.specs.Orders.{Bound, Statement, Begin, Commit, Script, Prepared}
use Rattle.pg_migrating.specs.Calls.{Waits}
use Rattle.pg_migrating.specs.Requests.{IsRequestOf, request_of}
use Rattle.pg_migrating.specs.Asking.{Question, CallsFor, CallsQuietly, EndsAs, IsEnd, IsQuiet, StandsAt, Tells, TellsEnd, asked_by, is_asked, refusal}

-- ---- what is asked is a call of its kind

pub calls_raw : {A : Type 0} (how : How) (query : QueryText) (c : ConnOf A) → IsCalling (kinds.Run how) (started_call (raw how query) c)
calls_raw hows.Execute query c = started_calling (requests.Execute query) c refl
calls_raw hows.ExecuteMany query c = started_calling (requests.ExecuteMany query) c refl
calls_raw hows.Fetch query c = started_calling (requests.Fetch query) c refl
calls_raw hows.FetchMany query c = started_calling (requests.FetchMany query) c refl
calls_raw hows.FetchAll query c = started_calling (requests.FetchAll query) c refl
calls_raw hows.FetchOptional query c = started_calling (requests.FetchOptional query) c refl
calls_raw hows.FetchOne query c = started_calling (requests.FetchOne query) c refl

-- a statement that is no begin and no commit
pub calls_prepared : {A : Type 0} (how : How) (sql : List ℕ) (bounds : List Bound) (asked : Result Request Error) (c : ConnOf A) → IsRequestOf how 0 (Prepared sql bounds) asked → CallsFor (kinds.Run how) (Some asked) c
calls_prepared how sql bounds (Ok r) c e = rw e (calls_raw how _ c)
calls_prepared how sql bounds (Err error) c e = tt

pub calls_script : {A : Type 0} (how : How) (sql : List ℕ) (asked : Result Request Error) (c : ConnOf A) → IsRequestOf how 0 (Script sql) asked → CallsFor (kinds.Run how) (Some asked) c
calls_script how sql (Ok r) c e = rw e (calls_raw how _ c)
calls_script how sql (Err error) c e = tt

quiet_run : IsQuiet (kinds.Run hows.Execute)
quiet_run = (λ item e. absurd cc, λ opens. opens)

quiet_begin : IsQuiet kinds.Begin
quiet_begin = (λ item e. absurd cc, λ opens. opens)

quiet_commit : IsQuiet kinds.Commit
quiet_commit = (λ item e. absurd cc, λ opens. opens)

quiet_flush : IsQuiet kinds.Flush
quiet_flush = (λ item e. absurd cc, λ opens. opens)

quietly : {A : Type 0} (depth : ℕ) (s : Statement) (c : ConnOf A) → CallsQuietly (Some (Ok (request_of hows.Execute depth s))) c
quietly depth Begin c = (kinds.Begin, quiet_begin, started_calling (requests.Begin depth) c refl)
quietly depth (Script sql) c = (kinds.Run hows.Execute, quiet_run, calls_raw hows.Execute _ c)
quietly depth (Prepared sql bounds) c = (kinds.Run hows.Execute, quiet_run, calls_raw hows.Execute _ c)
quietly depth Commit c = by (nat_eq depth 0)
  where
    by : (none : Bool) → CallsQuietly (Some (Ok (cond none requests.Flush (requests.Commit (depth - 1))))) c
    by true = (kinds.Flush, quiet_flush, started_calling requests.Flush c refl)
    by false = (kinds.Commit, quiet_commit, started_calling (requests.Commit (depth - 1)) c refl)

pub asks_quietly : {A : Type 0} (depth : ℕ) (s : Statement) (asked : Result Request Error) (c : ConnOf A) → IsRequestOf hows.Execute depth s asked → CallsQuietly (Some asked) c
asks_quietly depth s (Ok r) c e = rw e (quietly depth s c)
asks_quietly depth s (Err error) c e = (kinds.Flush, quiet_flush, tt)

pub turn_ends : (kind : Kind) (turn : Turn) → IsQuiet kind → TurnFits kind turn → IsEnd turn
turn_ends kind (turns.Item item) q f = q.0 item f
turn_ends kind (turns.Opened opened) q f = q.1 f
turn_ends kind (turns.Ok answer) q f = tt
turn_ends kind (turns.Err e) q f = tt

-- ---- a poll

-- a call that has begun, or begins in this poll, runs
pub runs_on : {A : Type 0} (question : Question) (a c : ConnOf A) (u : Unit {0}) → c ≡ asked_by question a → refusal question ≡ Ok u → is_asked question a.call ≡ true → runs c.call ≡ true
runs_on None a c u e r i = rw e i
runs_on (Some (Ok request)) a c u e r i = rw e refl
runs_on (Some (Err error)) a c u e r i = absurd cc

pub calls_on : {A : Type 0} (kind : Kind) (question : Question) (a c : ConnOf A) (u : Unit {0}) → c ≡ asked_by question a → refusal question ≡ Ok u → CallsFor kind question a → IsCalling kind c
calls_on kind None a c u e r i = rw e i
calls_on kind (Some (Ok request)) a c u e r i = rw e i
calls_on kind (Some (Err error)) a c u e r i = absurd cc

polled : {A : Type 0} (seen : A → LinkSeen) (asked : Result Request Error) (first c b : ConnOf A) (r : Request) (left : ℕ) (answer : Poll Turn) → asked ≡ Ok r → Waits seen r first c → left ≤ 256 → PollsWithin left (seen_by seen c) (seen_by seen b) answer → Tells seen asked first b answer
polled seen asked first c b r left Pending e w few p = (r, e, record { earlier = c ∷ w.earlier; waited = (record { left = left; few = few; polls = p }, w.waited) })
polled seen asked first c b r left (Ready (turns.Item item)) e w few p = (r, e, record { last = c; waits = w; ends = record { left = left; few = few; polls = p } })
polled seen asked first c b r left (Ready (turns.Opened opened)) e w few p = (r, e, record { last = c; waits = w; ends = record { left = left; few = few; polls = p } })
polled seen asked first c b r left (Ready (turns.Ok answer)) e w few p = (r, e, record { last = c; waits = w; ends = record { left = left; few = few; polls = p } })
polled seen asked first c b r left (Ready (turns.Err error)) e w few p = inl (r, e, record { last = c; waits = w; ends = record { left = left; few = few; polls = p } })

pub goes_on : {A : Type 0} (seen : A → LinkSeen) (asked : Result Request Error) (first a c b : ConnOf A) (question : Question) (u : Unit {0}) (left : ℕ) (answer : Poll Turn)
    → c ≡ asked_by question a → refusal question ≡ Ok u → left ≤ 256 → PollsWithin left (seen_by seen c) (seen_by seen b) answer → StandsAt seen asked first question a → Tells seen asked first b answer
goes_on seen asked first a c b None u left answer e r few p (request, is, w) = polled seen asked first c b request left answer is (rw e w) few p
goes_on seen asked first a c b (Some (Ok request)) u left answer e r few p (is, same) = polled seen asked first c b request left answer (sym is) (record { earlier = []; waited = e ∙ ap (started_call request) same }) few p
goes_on seen asked first a c b (Some (Err error)) u left answer e r few p s = absurd cc

pub refused : {A : Type 0} (seen : A → LinkSeen) (asked : Result Request Error) (first a b : ConnOf A) (question : Question) (error : Error) → b ≡ asked_by question a → refusal question ≡ Err error → StandsAt seen asked first question a → Tells seen asked first b (Ready (turns.Err error))
refused seen asked first a b None error e r s = absurd cc
refused seen asked first a b (Some (Ok request)) error e r s = absurd cc
refused seen asked first a b (Some (Err other)) error e r (is, same) =
    let k : other ≡ error = cc in
    inr (sym is ∙ ap Err k, e ∙ ap left same)

-- ---- the end of a call without items

pub ends_as : {A : Type 0} (seen : A → LinkSeen) (asked : Result Request Error) (first b : ConnOf A) (turn : Turn) (result : Result (Unit {0}) Error) → EndsAs turn result → Tells seen asked first b (Ready turn) → TellsEnd seen asked first b (Ready result)
ends_as seen asked first b (turns.Item item) result e t = absurd e
ends_as seen asked first b (turns.Opened opened) result e t = absurd e
ends_as seen asked first b (turns.Ok answer) (Ok u) e t = (answer, t)
ends_as seen asked first b (turns.Ok answer) (Err error) e t = absurd e
ends_as seen asked first b (turns.Err error) (Ok u) e t = absurd e
ends_as seen asked first b (turns.Err error) (Err other) e t = rw e t
