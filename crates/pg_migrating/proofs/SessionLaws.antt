-- How a session goes on.
use Rattle.std.proofs.Common.{◌≡◌, ◌⊎◌, ℕ, ◌≤◌, List, inl, inr, [], ◌∷◌, Option, Some, None, Result, Ok, Err, refl}
use Rattle.futures.specs.declared.task.Poll.{Poll}
use Rattle.futures.specs.declared.task.Poll.TheVariants.{Ready, Pending}
use Rattle.std.specs.Prelude.{IfErr, IfOk}
use Rattle.pg_wire.specs.declared.error.Error.{Error}
use Rattle.pg_wire.specs.declared.error.Error.TheVariants as errors
use Rattle.pg_options.specs.FromUrl.{options_of_text}
use Rattle.pg_options.specs.Options.{ConnectOptions}
use Rattle.pg_options.specs.declared.settings.PgSettings.{PgSettings}
use Rattle.pg_stream.specs.Links.{LinkSeen}
use Rattle.pg_call.specs.declared.kind.How.TheVariants as hows
use Rattle.pg_call.specs.declared.kind.Kind.{Kind}
use Rattle.pg_call.specs.declared.kind.Kind.TheVariants as kinds
use Rattle.pg_call.specs.declared.answer.Turn.{Turn}
use Rattle.pg_call.specs.declared.answer.Turn.TheVariants as turns
use Rattle.pg_conn.specs.Connections.{ConnOf, seen_by}
use Rattle.pg_conn.specs.States.{PollFits}
use Rattle.pg_conn.specs.Turns.{PollsWithin}
use Rattle.pg_conn.proofs.StateLaws.{calling_runs, poll_fits_within}
use Rattle.pg_migrate.specs.Orders.{Words}
use Rattle.pg_migrate.specs.Texts.{create_database_text, database_exists_text, drop_database_text, version_text}
use Rattle.pg_migrating.specs.Errands.{AsksAt, AsksOf, IsErrand, RefusesErrand, how_of}
use Rattle.pg_migrating.specs.Names.{database_of}
use Rattle.pg_migrating.specs.Sessions.{AsksAs, CallsAs, ConnRuns, Fails, Goes, GoesBy, GoesOn, IsNewSession, KeepsConn, OpensSession, Opening, PollsSession, SessionSeen, Stands, StandsBy, StartGoes, Tells}
use Rattle.pg_migrating.specs.declared.errand.Errand.{Errand}
use Rattle.pg_migrating.specs.declared.errand.Task.{Task}
use Rattle.pg_migrating.specs.declared.errand.Task.TheVariants as tasks
use Rattle.pg_migrating.proofs.AskingLaws.{calls_prepared, calls_script}

abbrev pub session_of : {S A : Type 0} → Option S → Option (ConnOf A) → SessionSeen S A
session_of start conn = record { start = start; conn = conn }

-- ---- what is asked

pub errand_calls : {A : Type 0} (task : Task) (o : ConnectOptions) (errand : Errand) → IsErrand task o errand → CallsAs A (kinds.Run (how_of task)) errand.request
errand_calls tasks.Create o errand k c = calls_script hows.Execute (create_database_text (database_of o)) (Ok errand.request) c k.request
errand_calls tasks.Exists o errand k c = calls_prepared hows.FetchOne database_exists_text (Words (database_of o) ∷ []) (Ok errand.request) c k.request
errand_calls tasks.Version o errand k c = calls_prepared hows.FetchOne version_text [] (Ok errand.request) c k.request
errand_calls tasks.Remove o errand k c = calls_script hows.Execute (drop_database_text (database_of o)) (Ok errand.request) c k.request

pub asked_calls : (A : Type 0) (task : Task) (env : PgSettings) (url : List ℕ) (asked : Result Errand Error) → AsksOf (AsksAt task) env url asked → AsksAs A (kinds.Run (how_of task)) asked
asked_calls A task env url (Ok errand) k = errand_calls task k.0 errand k.2
asked_calls A task env url (Err e) k = tt

-- the options of a URL can be read, or not
pub asks_of : (task : Task) (env : PgSettings) (url : List ℕ) (o : ConnectOptions) (asked : Result Errand Error) → options_of_text env url ≡ Ok o → IfOk asked (IsErrand task o) → IfErr asked (RefusesErrand task o) → AsksOf (AsksAt task) env url asked
asks_of task env url o (Ok errand) e ok err = (o, e, ok)
asks_of task env url o (Err x) e ok err = inr (inr (o, e, err))

pub asks_none : (task : Task) (env : PgSettings) (url : List ℕ) (x : Error) → (options_of_text env url ≡ Err x) ⊎ (x ≡ errors.OutOfMemory) → AsksOf (AsksAt task) env url (Err x)
asks_none task env url x (inl e) = inr (inl e)
asks_none task env url x (inr memory) = inl memory

-- ---- before it is polled

pub new_goes : {D S A : Type 0} (o : Opening D S A) (kind : Kind) (asked : Result Errand Error) (s : SessionSeen S A) → IsNewSession o asked s → AsksAs A kind asked → Goes o kind s
new_goes o kind asked s n k = rw n.1 (n.2.goes kind k)

pub new_stands : {D S A : Type 0} (seen : A → LinkSeen) (o : Opening D S A) (asked : Result Errand Error) (s : SessionSeen S A) (d : D) → IsNewSession o asked s → Stands seen o asked d s d
new_stands seen o asked s d n = rw n.1 (n.2.stands d)

pub start_goes : {D S A : Type 0} (o : Opening D S A) (kind : Kind) (start : Option S) (conn : Option (ConnOf A)) → GoesBy o kind start conn → StartGoes o start
start_goes o kind None conn g = tt
start_goes o kind (Some s) None g = (kind, g)
start_goes o kind (Some s) (Some c) g = absurd g

pub conn_runs : {D S A : Type 0} (o : Opening D S A) (kind : Kind) (start : Option S) (conn : Option (ConnOf A)) → start ≡ None → GoesBy o kind start conn → ConnRuns conn
conn_runs o kind None (Some c) s g = calling_runs kind c g
conn_runs o kind None None s g = absurd g
conn_runs o kind (Some x) conn s g = absurd cc

-- ---- until it has its connection

module _ {D S A : Type 0} (seen : A → LinkSeen) (o : Opening D S A) where
  pub waits_goes : (kind : Kind) (start : Option S) (conn : Option (ConnOf A)) (t : SessionSeen S A) (d e : D) → OpensSession seen o start (session_of start conn) t d e Pending → GoesBy o kind start conn → Goes o kind t
  waits_goes kind None conn t d e p g = absurd (let no_answer = p.2 in cc)
  waits_goes kind (Some x) None t d e p g = rw p.1 (p.2.0 kind g)
  waits_goes kind (Some x) (Some c) t d e p g = absurd g

  pub opens_goes : (kind : Kind) (start : Option S) (conn : Option (ConnOf A)) (t : SessionSeen S A) (d e : D) (u : Unit {0}) → OpensSession seen o start (session_of start conn) t d e (Ready (Ok u)) → GoesBy o kind start conn → Goes o kind t
  opens_goes kind None conn t d e u p g = rw p.0 g
  opens_goes kind (Some x) None t d e u p g = rw p.1 (p.2.0 kind g)
  opens_goes kind (Some x) (Some c) t d e u p g = absurd g

  -- behind it nothing is left to be opened
  pub opens_spent : (start : Option S) (conn : Option (ConnOf A)) (t : SessionSeen S A) (d e : D) (result : Result (Unit {0}) Error) → OpensSession seen o start (session_of start conn) t d e (Ready result) → t.start ≡ None
  opens_spent None conn t d e result p = rw p.0 refl
  opens_spent (Some x) conn t d e (Ok u) p = rw p.1 refl
  opens_spent (Some x) conn t d e (Err error) p = rw p.0 refl

  pub waits_stands : (asked : Result Errand Error) (first : D) (start : Option S) (conn : Option (ConnOf A)) (t : SessionSeen S A) (d e : D) → OpensSession seen o start (session_of start conn) t d e Pending → StandsBy seen o asked first start conn d → Stands seen o asked first t e
  waits_stands asked first None conn t d e p s = absurd (let no_answer = p.2 in cc)
  waits_stands asked first (Some x) None t d e p s = rw p.1 (p.2.1 asked first s)
  waits_stands asked first (Some x) (Some c) t d e p s = absurd s

  pub opens_stands : (asked : Result Errand Error) (first : D) (start : Option S) (conn : Option (ConnOf A)) (t : SessionSeen S A) (d e : D) (u : Unit {0}) → OpensSession seen o start (session_of start conn) t d e (Ready (Ok u)) → StandsBy seen o asked first start conn d → Stands seen o asked first t e
  opens_stands asked first None conn t d e u p s = rw (p.0, p.1) s
  opens_stands asked first (Some x) None t d e u p s =
      let k = p.2.1 asked first s in
      rw p.1 (k.0, k.1, record { from = k.2.0; opened = k.2.1; waits = record { earlier = []; waited = k.2.2 } })
  opens_stands asked first (Some x) (Some c) t d e u p s = absurd s

  pub opens_fails : (asked : Result Errand Error) (first : D) (start : Option S) (conn : Option (ConnOf A)) (t : SessionSeen S A) (d e : D) (error : Error) → OpensSession seen o start (session_of start conn) t d e (Ready (Err error)) → StandsBy seen o asked first start conn d → Fails seen o asked first e error
  opens_fails asked first None conn t d e error p s = absurd (let no_answer = p.2 in cc)
  opens_fails asked first (Some x) None t d e error p s = p.1 asked first s
  opens_fails asked first (Some x) (Some c) t d e error p s = absurd s

  -- ---- its call

  waited_on : (asked : Result Errand Error) (first : D) (t : SessionSeen S A) (e : D) (a b : ConnOf A) (left : ℕ) (answer : Poll Turn) → t ≡ session_of None (Some b) → left ≤ 256 → PollsWithin left (seen_by seen a) (seen_by seen b) answer → StandsBy seen o asked first None (Some a) e → Tells seen o asked first t e answer
  waited_on asked first t e a b left Pending is few p s =
      let k = s.2 in
      rw is (s.0, s.1, record { from = k.from; opened = k.opened; waits = record { earlier = a ∷ k.waits.earlier; waited = (record { left = left; few = few; polls = p }, k.waits.waited) } })
  waited_on asked first t e a b left (Ready (turns.Item item)) is few p s =
      let k = s.2 in
      (b, rw is refl, (s.0, s.1, record { from = k.from; opened = k.opened; called = record { last = a; waits = k.waits; ends = record { left = left; few = few; polls = p } } }))
  waited_on asked first t e a b left (Ready (turns.Opened opened)) is few p s =
      let k = s.2 in
      (b, rw is refl, (s.0, s.1, record { from = k.from; opened = k.opened; called = record { last = a; waits = k.waits; ends = record { left = left; few = few; polls = p } } }))
  waited_on asked first t e a b left (Ready (turns.Ok answer)) is few p s =
      let k = s.2 in
      (b, rw is refl, (s.0, s.1, record { from = k.from; opened = k.opened; called = record { last = a; waits = k.waits; ends = record { left = left; few = few; polls = p } } }))
  waited_on asked first t e a b left (Ready (turns.Err error)) is few p s =
      let k = s.2 in
      inl (b, (s.0, s.1, record { from = k.from; opened = k.opened; called = record { last = a; waits = k.waits; ends = record { left = left; few = few; polls = p } } }))

  pub called : (asked : Result Errand Error) (first : D) (start : Option S) (conn : Option (ConnOf A)) (t : SessionSeen S A) (e : D) (left : ℕ) (answer : Poll Turn) → start ≡ None → left ≤ 256 → PollsSession seen left conn (session_of start conn) t answer → StandsBy seen o asked first start conn e → Tells seen o asked first t e answer
  called asked first None None t e left answer n few p s = absurd p
  called asked first None (Some a) t e left answer n few p s = waited_on asked first t e a p.0 left answer p.1 few p.2 s
  called asked first (Some x) conn t e left answer n few p s = absurd cc

  kept : (turn : Turn) (b : ConnOf A) → KeepsConn turn (Some b)
  kept (turns.Item item) b = tt
  kept (turns.Opened opened) b = tt
  kept (turns.Ok answer) b = tt
  kept (turns.Err e) b = tt

  stays : (kind : Kind) (t : SessionSeen S A) (b : ConnOf A) (answer : Poll Turn) → t ≡ session_of None (Some b) → PollFits kind b answer → GoesOn o kind t answer
  stays kind t b Pending is f = rw is f
  stays kind t b (Ready turn) is f = (rw is refl, f.0, rw is (kept turn b))

  pub call_fits : (kind : Kind) (start : Option S) (conn : Option (ConnOf A)) (t : SessionSeen S A) (left : ℕ) (answer : Poll Turn) → start ≡ None → PollsSession seen left conn (session_of start conn) t answer → GoesBy o kind start conn → GoesOn o kind t answer
  call_fits kind None None t left answer n p g = absurd p
  call_fits kind None (Some a) t left answer n p g = stays kind t p.0 answer p.1 (poll_fits_within seen left a p.0 kind answer p.2 g)
  call_fits kind (Some x) conn t left answer n p g = absurd cc

-- ---- all of a poll

module _ {D S A : Type 0} (seen : A → LinkSeen) (o : Opening D S A) where
  pub calls_runs : (kind : Kind) (s v : SessionSeen S A) (d e : D) (u : Unit {0}) → OpensSession seen o s.start s v d e (Ready (Ok u)) → Goes o kind s → ConnRuns v.conn
  calls_runs kind s v d e u p g = conn_runs o kind v.start v.conn (opens_spent seen o s.start s.conn v d e (Ok u) p) (opens_goes seen o kind s.start s.conn v d e u p g)

  pub calls_goes : (kind : Kind) (s v w : SessionSeen S A) (d e : D) (u : Unit {0}) (left : ℕ) (answer : Poll Turn) → OpensSession seen o s.start s v d e (Ready (Ok u)) → PollsSession seen left v.conn v w answer → Goes o kind s → GoesOn o kind w answer
  calls_goes kind s v w d e u left answer p q g = call_fits seen o kind v.start v.conn w left answer (opens_spent seen o s.start s.conn v d e (Ok u) p) q (opens_goes seen o kind s.start s.conn v d e u p g)

  pub calls_tells : (asked : Result Errand Error) (first : D) (s v w : SessionSeen S A) (d e : D) (u : Unit {0}) (left : ℕ) (answer : Poll Turn) → left ≤ 256 → OpensSession seen o s.start s v d e (Ready (Ok u)) → PollsSession seen left v.conn v w answer → Stands seen o asked first s d → Tells seen o asked first w e answer
  calls_tells asked first s v w d e u left answer few p q k = called seen o asked first v.start v.conn w e left answer (opens_spent seen o s.start s.conn v d e (Ok u) p) few q (opens_stands seen o asked first s.start s.conn v d e u p k)

  pub fails_goes : (kind : Kind) (s v : SessionSeen S A) (d e : D) (error : Error) → OpensSession seen o s.start s v d e (Ready (Err error)) → GoesOn o kind v (Ready (turns.Err error))
  fails_goes kind s v d e error p = (opens_spent seen o s.start s.conn v d e (Err error) p, tt, tt)
