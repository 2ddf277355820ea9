-- How a database is dropped though there are sessions on it.
use Rattle.std.proofs.Common.{◌≡◌, ℕ, ◌≤◌, inl, inr, List, [], ◌∷◌, Option, Some, None, option_map, Result, Ok, Err, refl, sym, ap, ◌∙◌, subst}
use Rattle.futures.specs.declared.task.Poll.{Poll}
use Rattle.futures.specs.declared.task.Poll.TheVariants.{Ready, Pending}
use Rattle.pg_wire.specs.declared.error.Error.{Error}
use Rattle.pg_options.specs.declared.settings.PgSettings.{PgSettings}
use Rattle.pg_stream.specs.Links.{LinkSeen}
use Rattle.pg_wire.specs.declared.error.Error.TheVariants as errors
use Rattle.pg_rows.specs.Rows.{RowSeen}
use Rattle.pg_call.specs.declared.kind.How.TheVariants as hows
use Rattle.pg_call.specs.declared.kind.Kind.TheVariants as kinds
use Rattle.pg_call.specs.declared.answer.CallAnswer.TheVariants as answers
use Rattle.pg_call.specs.declared.answer.Turn.{Turn}
use Rattle.pg_call.specs.declared.answer.Turn.TheVariants as turns
use Rattle.pg_call.specs.declared.request.Request.{Request}
use Rattle.pg_conn.specs.Connections.{ConnOf, seen_by, started_call}
use Rattle.pg_conn.specs.States.{IsCalling}
use Rattle.pg_conn.specs.Turns.{PollsWithin}
use Rattle.pg_migrate.specs.Orders.{Script}
use Rattle.pg_migrate.specs.Texts.{terminate_text}
use Rattle.pg_migrating.specs.Calls.{Called}
use Rattle.pg_migrating.specs.Requests.{IsRequestOf}
use Rattle.pg_migrating.proofs.AskingLaws.{calls_raw}
use Rattle.pg_migrating.specs.Databases.{EndsBy, is_done, never}
use Rattle.pg_migrating.specs.Errands.{AsksOf}
use Rattle.pg_migrating.specs.Forcing.{AsksForce, AsksTerminate, AsksToForce, GoesForce, HidesNumber, HidesVersion, IsNotTerminated, IsNumber, StandsBy, StandsForce, TellsForce, Terminated, Terminates, Terminating, version_in}
use Rattle.pg_migrating.specs.Openings.{FailsToOpen}
use Rattle.pg_migrating.specs.Sessions.{Comes, ConnRuns, Goes, GoesOn, IsNewSession, KeepsConn, Opening, PollsSession, SessionSeen, Stands, Tells}
use Rattle.pg_migrating.proofs.SessionLaws.{call_fits, conn_runs, errand_calls, new_goes, new_stands}
use Rattle.pg_migrating.specs.declared.errand.Errand.{Errand}
use Rattle.pg_migrating.specs.declared.errand.Task.TheVariants as tasks
use Rattle.pg_migrating.specs.declared.forcing.ForceStep.{ForceStep}
use Rattle.pg_migrating.specs.declared.forcing.ForceStep.TheVariants as steps
use Rattle.pg_migrating.specs.declared.forcing.Forcing.{Forcing}

-- ---- the request that ends the other sessions

-- only want of memory refuses a text without arguments
only_memory : (sql : List ℕ) (e : Error) → IsRequestOf hows.Execute 0 (Script sql) (Err e) → e ≡ errors.OutOfMemory
only_memory sql errors.OutOfMemory r = refl
only_memory sql e r = absurd r

pub terminates : (turn : Turn) (row : RowSeen) (database : List ℕ) (version : ℕ) (result : Result Request Error) → turn ≡ turns.Ok (answers.OneRow (Some row)) → IsNumber row version → IsRequestOf hows.Execute 0 (Script (terminate_text version database)) result → EndsBy (Terminating database) HidesVersion turn result
terminates turn row database version (Ok r) t is asks = rw t (version, is, asks)
terminates turn row database version (Err e) t is asks = rw t (inl (only_memory (terminate_text version database) e asks))

pub hides_version : (turn : Turn) (row : RowSeen) (database : List ℕ) (e : Error) → turn ≡ turns.Ok (answers.OneRow (Some row)) → HidesNumber row e → EndsBy {X = Request} (Terminating database) HidesVersion turn (Err e)
hides_version turn row database e t hides = rw t hides

-- ---- the version

module _ {D S A : Type 0} (seen : A → LinkSeen) (o : Opening D S A) where
  -- the version was told, and what ends the other sessions is asked
  pub version_goes : (turn : Turn) (database : List ℕ) (r : Request) (s t last : SessionSeen S A) → EndsBy (Terminating database) HidesVersion turn (Ok r) → t ≡ record s { conn = option_map (started_call r) s.conn } → GoesOn o (kinds.Run hows.FetchOne) s (Ready turn) → Goes o (kinds.Run hows.Execute) last → GoesForce o steps.Terminate t last
  version_goes (turns.Ok answer) database r s t last h is g l = by s.conn refl g.2
    where
      by : (conn : Option (ConnOf A)) → s.conn ≡ conn → KeepsConn (turns.Ok answer) conn → GoesForce o steps.Terminate t last
      by None e k = absurd k
      by (Some c) e k =
          let start : t.start ≡ None = ap (λ (x : SessionSeen S A). x.start) is ∙ g.0 in
          let conn : t.conn ≡ Some (started_call r c) = ap (λ (x : SessionSeen S A). x.conn) is ∙ ap (option_map (started_call r)) e in
          let calls : IsCalling (kinds.Run hows.Execute) (started_call r c) = rw h.2 (calls_raw hows.Execute _ c) in
          let goes : Goes o (kinds.Run hows.Execute) t = rw (start, conn) calls in
          (start, goes, l)
  version_goes (turns.Err e) database r s t last h is g l = absurd h
  version_goes (turns.Item item) database r s t last h is g l = absurd h
  version_goes (turns.Opened opened) database r s t last h is g l = absurd h

  -- what was asked is the errand that was answered
  of_errand : (P : Errand → Type 0) (a b : Errand) → ◌≡◌ {A = Result Errand Error} (Ok a) (Ok b) → P b → P a
  of_errand P a b e p = let same : a ≡ b = cc in subst P (sym same) p

  pub version_tells : (asked : Result Forcing Error) (first e : D) (turn : Turn) (database : List ℕ) (r : Request) (s t last : SessionSeen S A) → EndsBy (Terminating database) HidesVersion turn (Ok r) → t ≡ record s { conn = option_map (started_call r) s.conn } → Tells seen o (version_in asked) first s e (Ready turn) → StandsBy o asked database last → StandsForce seen o asked first steps.Terminate database t last e
  version_tells (Err x) first e (turns.Ok answer) database r s t last h is k b = absurd cc
  version_tells (Ok f) first e (turns.Ok answer) database r s t last h is k b =
      let comes : Comes seen o f.version first e (turns.Ok answer) k.0 = of_errand (λ (x : Errand). Comes seen o x first e (turns.Ok answer) k.0) f.version k.2.0 k.2.1 k.2.2 in
      let asks : AsksTerminate seen o f first e k.0 r = record { answer = answer; comes = comes; asks = subst (λ (x : List ℕ). Terminating x answer r) b.0 h } in
      let waits : Terminates seen o f first e (started_call r k.0) = record { middle = k.0; request = r; asks = asks; waits = record { earlier = []; waited = refl } } in
      let conn : t.conn ≡ Some (started_call r k.0) = ap (λ (x : SessionSeen S A). x.conn) is ∙ ap (option_map (started_call r)) k.1 in
      (f, refl, (started_call r k.0, conn, waits), b)
  version_tells asked first e (turns.Err x) database r s t last h is k b = absurd h
  version_tells asked first e (turns.Item item) database r s t last h is k b = absurd h
  version_tells asked first e (turns.Opened opened) database r s t last h is k b = absurd h

  -- or it was not told
  pub version_fails : (asked : Result Forcing Error) (first e : D) (turn : Turn) (database now : List ℕ) (s t last : SessionSeen S A) (step : ForceStep) (error : Error) → EndsBy {X = Request} (Terminating database) HidesVersion turn (Err error) → Tells seen o (version_in asked) first s e (Ready turn) → TellsForce seen o asked first step now t last e (Ready (Err error))
  version_fails asked first e (turns.Ok answer) database now s t last step error h k = inl (inr (inr (answer, k.0, k.2, h)))
  version_fails asked first e (turns.Err x) database now s t last step error h (inl k) = inl (inl (rw h k))
  version_fails asked first e (turns.Err x) database now s t last step error h (inr k) = inl (inr (inl (rw h k)))
  version_fails asked first e (turns.Item item) database now s t last step error h k = absurd h
  version_fails asked first e (turns.Opened opened) database now s t last step error h k = absurd h

  -- it goes on from its first poll
  pub force_goes : (env : PgSettings) (url database : List ℕ) (s last : SessionSeen S A) → AsksToForce o env url database s last → GoesForce o steps.Version s last
  force_goes env url database s last k = by k.0 k.1 k.2 k.3
    where
      by : (asked : Result Forcing Error) → IsNewSession o (version_in asked) s → StandsBy o asked database last → AsksOf AsksForce env url asked → GoesForce o steps.Version s last
      by (Ok f) n b a = (new_goes o (kinds.Run hows.FetchOne) (Ok f.version) s n (errand_calls tasks.Version a.0 f.version a.2.version), new_goes o (kinds.Run hows.Execute) (Ok f.last) last b.1 (errand_calls tasks.Remove a.0 f.last a.2.last))
      by (Err e) n b a = (new_goes o (kinds.Run hows.FetchOne) (Err e) s n tt, new_goes o (kinds.Run hows.Execute) (Err errors.OutOfMemory) last b tt)

  -- ---- the other sessions

  pub terminate_runs : (s : SessionSeen S A) → s.start ≡ None → Goes o (kinds.Run hows.Execute) s → ConnRuns s.conn
  terminate_runs s b g = conn_runs o (kinds.Run hows.Execute) s.start s.conn b g

  pub terminate_fits : (s t : SessionSeen S A) (left : ℕ) (answer : Poll Turn) → s.start ≡ None → Goes o (kinds.Run hows.Execute) s → PollsSession seen left s.conn s t answer → GoesOn o (kinds.Run hows.Execute) t answer
  terminate_fits s t left answer b g p = call_fits seen o (kinds.Run hows.Execute) s.start s.conn t left answer b p g

  -- only its connection changes
  alone : (s t : SessionSeen S A) (left : ℕ) (conn : Option (ConnOf A)) (answer : Poll Turn) → PollsSession seen left conn s t answer → t.start ≡ s.start
  alone s t left None answer p = absurd p
  alone s t left (Some c) answer p = rw p.1 refl

  pub terminate_waits : (s t last : SessionSeen S A) (step : ForceStep) (left : ℕ) → step ≡ steps.Terminate → GoesForce o steps.Terminate s last → PollsSession seen left s.conn s t Pending → GoesForce o step t last
  terminate_waits s t last step left is g p =
      rw is (alone s t left s.conn Pending p ∙ g.0, terminate_fits s t left Pending g.0 g.1 p, g.2)

  -- where its connection stands behind a poll
  polled : (s t : SessionSeen S A) (a : ConnOf A) (left : ℕ) (answer : Poll Turn) → s.conn ≡ Some a → PollsSession seen left s.conn s t answer → (b : ConnOf A) × (t.conn ≡ Some b) × PollsWithin left (seen_by seen a) (seen_by seen b) answer
  polled s t a left answer e p =
      let q : PollsSession seen left (Some a) s t answer = subst (λ (x : Option (ConnOf A)). PollsSession seen left x s t answer) e p in
      (q.0, ap (λ (x : SessionSeen S A). x.conn) q.1, q.2)

  pub terminate_stands : (asked : Result Forcing Error) (first e : D) (database : List ℕ) (s t last : SessionSeen S A) (step : ForceStep) (left : ℕ) → step ≡ steps.Terminate → left ≤ 256 → PollsSession seen left s.conn s t Pending → StandsForce seen o asked first steps.Terminate database s last e → StandsForce seen o asked first step database t last e
  terminate_stands asked first e database s t last step left is few p (f, same, (a, held, k), b) =
      let q = polled s t a left Pending held p in
      let more : Terminates seen o f first e q.0 = record { middle = k.middle; request = k.request; asks = k.asks; waits = record { earlier = a ∷ k.waits.earlier; waited = (record { left = left; few = few; polls = q.2 }, k.waits.waited) } } in
      subst (λ (x : ForceStep). StandsForce seen o asked first x database t last e) (sym is) (f, same, (q.0, q.1, more), b)

  -- the last session is new
  last_new : (asked : Result Forcing Error) (f : Forcing) (database : List ℕ) (last : SessionSeen S A) (e : D) → asked ≡ Ok f → StandsBy o asked database last → Stands seen o (Ok f.last) e last e
  last_new asked f database last e same b =
      let k : StandsBy o (Ok f) database last = subst (λ (x : Result Forcing Error). StandsBy o x database last) same b in
      new_stands seen o (Ok f.last) last e k.1

  pub terminate_tells : (asked : Result Forcing Error) (first e : D) (turn : Turn) (database : List ℕ) (s t u last : SessionSeen S A) (left : ℕ) → left ≤ 256 → PollsSession seen left s.conn s t (Ready turn) → EndsBy is_done never turn (Ok tt) → StandsForce seen o asked first steps.Terminate database s last e → StandsForce seen o asked first steps.Remove database u last e
  terminate_tells asked first e (turns.Ok answer) database s t u last left few p h (f, same, (a, held, k), b) =
      let w = polled s t a left (Ready (turns.Ok answer)) held p in
      let done : Terminated seen o f first e = record { middle = k.middle; conn = w.0; request = k.request; answer = answer; asks = k.asks; called = record { last = a; waits = k.waits; ends = record { left = left; few = few; polls = w.2 } } } in
      (f, same, (e, done, last_new asked f database last e same b))
  terminate_tells asked first e (turns.Err x) database s t u last left few p h k = absurd h
  terminate_tells asked first e (turns.Item item) database s t u last left few p h k = absurd h
  terminate_tells asked first e (turns.Opened opened) database s t u last left few p h k = absurd h

  pub terminate_fails : (asked : Result Forcing Error) (first e : D) (turn : Turn) (database now : List ℕ) (s t u last last_now : SessionSeen S A) (step : ForceStep) (left : ℕ) (error : Error) → left ≤ 256 → PollsSession seen left s.conn s t (Ready turn) → EndsBy {X = Unit {0}} is_done never turn (Err error) → StandsForce seen o asked first steps.Terminate database s last e → TellsForce seen o asked first step now u last_now e (Ready (Err error))
  terminate_fails asked first e (turns.Err x) database now s t u last last_now step left error few p h (f, same, (a, held, k), b) =
      let w = polled s t a left (Ready (turns.Err x)) held p in
      let called : Called seen k.request k.middle w.0 (turns.Err x) = record { last = a; waits = k.waits; ends = record { left = left; few = few; polls = w.2 } } in
      let failed : IsNotTerminated seen o f first e error = record { middle = k.middle; conn = w.0; request = k.request; asks = k.asks; called = rw h called } in
      inr (f, same, inl failed)
  terminate_fails asked first e (turns.Ok answer) database now s t u last last_now step left error few p h k = absurd h
  terminate_fails asked first e (turns.Item item) database now s t u last last_now step left error few p h k = absurd h
  terminate_fails asked first e (turns.Opened opened) database now s t u last last_now step left error few p h k = absurd h

  -- ---- the drop

  pub removed : (asked : Result Forcing Error) (first m e : D) (f : Forcing) (turn : Turn) (step : ForceStep) (now : List ℕ) (s last last_now : SessionSeen S A) (result : Result (Unit {0}) Error) → asked ≡ Ok f → Terminated seen o f first m → EndsBy is_done never turn result → Tells seen o (Ok f.last) m last e (Ready turn) → TellsForce seen o asked first step now s last_now e (Ready result)
  removed asked first m e f (turns.Item item) step now s last last_now result same done h k = absurd h
  removed asked first m e f (turns.Opened opened) step now s last last_now result same done h k = absurd h
  removed asked first m e f (turns.Ok answer) step now s last last_now (Ok u) same done h k =
      (f, same, (m, answer, k.0, done, of_errand (λ (x : Errand). Comes seen o x m e (turns.Ok answer) k.0) f.last k.2.0 k.2.1 k.2.2))
  removed asked first m e f (turns.Ok answer) step now s last last_now (Err error) same done h k = absurd h
  removed asked first m e f (turns.Err x) step now s last last_now (Ok u) same done h k = absurd h
  removed asked first m e f (turns.Err x) step now s last last_now (Err error) same done h (inl k) =
      let comes : Comes seen o f.last m e (turns.Err x) k.0 = of_errand (λ (y : Errand). Comes seen o y m e (turns.Err x) k.0) f.last k.1.0 k.1.1 k.1.2 in
      inr (f, same, inr (m, done, inl (k.0, rw h comes)))
  removed asked first m e f (turns.Err x) step now s last last_now (Err error) same done h (inr (inl k)) = absurd (let e : ◌≡◌ {A = Result Errand Error} (Ok f.last) (Err x) = k.0 in cc)
  removed asked first m e f (turns.Err x) step now s last last_now (Err error) same done h (inr (inr k)) =
      inr (f, same, inr (m, done, inr (rw h (of_errand (λ (y : Errand). FailsToOpen seen o.hands o.counts y.options m e x) f.last k.0 k.1 k.2))))

  -- the dial is as the last poll left it
  pub removed_on : (asked : Result Forcing Error) (first m e now_on : D) (f : Forcing) (turn : Turn) (step : ForceStep) (now : List ℕ) (s last last_now : SessionSeen S A) (end : Result (Unit {0}) Error) (result : Poll (Result (Unit {0}) Error)) → now_on ≡ e → result ≡ Ready end → asked ≡ Ok f → Terminated seen o f first m → EndsBy is_done never turn end → Tells seen o (Ok f.last) m last e (Ready turn) → TellsForce seen o asked first step now s last_now now_on result
  removed_on asked first m e now_on f turn step now s last last_now end result d r same done h k =
      rw (d, r) (removed asked first m e f turn step now s last last_now end same done h k)
