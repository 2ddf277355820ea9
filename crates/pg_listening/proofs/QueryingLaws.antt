-- What a poll of what a listener asks for its user comes to.
use Rattle.std.proofs.Common.{◌≡◌, inl, inr, ◌≤◌, ℕ, [], refl, sym, subst, arith, Option, Some, None, IsSome, Err}
use Rattle.futures.specs.declared.task.Poll.{Poll}
use Rattle.futures.specs.declared.task.Poll.TheVariants.{Ready, Pending}
use Rattle.pg_wire.specs.declared.error.Error.{Error}
use Rattle.pg_stream.specs.Links.{LinkSeen}
use Rattle.pg_call.specs.Answers.{TurnFits}
use Rattle.pg_call.specs.Requests.{main_kind}
use Rattle.pg_call.specs.declared.answer.Turn.{Turn}
use Rattle.pg_call.specs.declared.answer.Turn.TheVariants as turns
use Rattle.pg_call.specs.declared.kind.How.{How}
use Rattle.pg_call.specs.declared.kind.Kind.{Kind}
use Rattle.pg_call.specs.declared.kind.Kind.TheVariants as kinds
use Rattle.pg_call.specs.declared.request.Request.{Request}
use Rattle.pg_call.specs.declared.request.Request.TheVariants as requests
use Rattle.pg_rule.specs.declared.rule.Rule.{Rule}
use Rattle.pg_conn.specs.Connections.{ConnOf, left, started_call}
use Rattle.pg_conn.specs.States.{IsCalling}
use Rattle.pg_conn.specs.Statements.{begun_as}
use Rattle.pg_conn.specs.Turns.{PollsWithin}
use Rattle.pg_conn.proofs.StateLaws.{poll_fits_within}
use Rattle.pg_listen.specs.Handed.{FillingOf}
use Rattle.pg_listening.specs.Listening.{CallsOn, FitsOn, OnHeld, Starts, TurnsOpen}
use Rattle.pg_pool.specs.Seats.{SeatSeen}
use Rattle.pg_listening.specs.Failing.{BesideSeen, Fails}
use Rattle.pg_listening.specs.Hearing.{HearingOf, HearsBy, heard_of}
use Rattle.pg_listening.specs.Querying.{AsksNow, IsAskedOn, IsQuerying, NotesTurn, Queries, QueriesOn, Unasked, rest_of}
use Rattle.pg_listening.specs.Waiting.{OnConn, ReadiesBy}
use Rattle.pg_listening.proofs.FailingLaws.{notes_caused, notes_open}
use Rattle.pg_listening.proofs.HearingLaws.{hears_nothing, hears_then}

-- ---- a call begins

started_kind : {A : Type 0} (r : Request) (c : ConnOf A) → IsCalling (main_kind (begun_as (left c).rule r)) (started_call r c)
started_kind r c = ((left c).ledger, begun_as (left c).rule r, [], [], [], refl, (refl, refl, refl, refl, refl), omega arith)

module _ {C A : Type 0} (conn : C → ConnOf A) (with_conn : C → ConnOf A → C) (written : (c : C) (w : ConnOf A) → conn (with_conn c w) ≡ w) where
  started_held : (r : Request) (c : C) (h : Option C) (kind : Kind) → main_kind (begun_as (left (conn c)).rule r) ≡ kind → h ≡ Some (with_conn c (started_call r (conn c))) → CallsOn conn kind h
  started_held r c h kind k is = subst (λ (x : Option C). CallsOn conn kind x) (sym is)
      (subst (λ (x : ConnOf A). IsCalling kind x) (sym (written c (started_call r (conn c)))) (subst (λ (x : Kind). IsCalling x (started_call r (conn c))) k (started_kind r (conn c))))

  -- some kind it is of
  pub starts_some : (r : Request) (o h : Option C) → Starts conn with_conn r o h → (kind : Kind) × CallsOn conn kind h
  starts_some r None h s = absurd s
  starts_some r (Some c) h s = (main_kind (begun_as (left (conn c)).rule r), started_held r c h (main_kind (begun_as (left (conn c)).rule r)) refl s)

-- only one that clears statements may become of another kind
begun_kind : (rule : Rule) (r : Request) (kind : Kind) → (kind ≡ kinds.Clear → ⊥) → main_kind r ≡ kind → main_kind (begun_as rule r) ≡ kind
begun_kind rule (requests.Clear statements) kind other k = absurd (other (sym k))
begun_kind rule _ kind other k = k

module _ {C A : Type 0} (conn : C → ConnOf A) (with_conn : C → ConnOf A → C) (written : (c : C) (w : ConnOf A) → conn (with_conn c w) ≡ w) where
  starts_kind : (r : Request) (o h : Option C) (kind : Kind) → (kind ≡ kinds.Clear → ⊥) → main_kind r ≡ kind → Starts conn with_conn r o h → CallsOn conn kind h
  starts_kind r None h kind other k s = absurd s
  starts_kind r (Some c) h kind other k s = started_held conn with_conn written r c h kind (begun_kind (left (conn c)).rule r kind other k) s
  -- ---- it is polled

module _ {C A : Type 0} (seen : A → LinkSeen) (conn : C → ConnOf A) where
  fits_on : (left : ℕ) (kind : Kind) (o n : Option C) (answer : Poll Turn) → CallsOn conn kind o → OnHeld (λ c d. PollsWithin left c d answer) conn seen o n → FitsOn conn kind n answer
  fits_on left kind None n answer i p = absurd i
  fits_on left kind (Some c) None answer i p = absurd p
  fits_on left kind (Some c) (Some d) answer i p = poll_fits_within seen left (conn c) (conn d) kind answer p i

module _ {C S A : Type 0} (seen : A → LinkSeen) (conn : C → ConnOf A) (with_conn : C → ConnOf A → C) (filling : S → FillingOf A) where
  pub asked_now : (o : BesideSeen) (left mid now : ℕ) (request : Request) (a ready b : HearingOf C S A) (answer : Poll Turn) → HearsBy seen conn a ready [] → mid ≤ left → ReadiesBy seen conn with_conn a ready → AsksNow seen conn with_conn mid request ready b answer → TurnsOpen answer
      → Queries seen conn with_conn filling o left now (Some request) None a b answer
  asked_now o left mid now request a ready b answer h less r (asked, hears, starts, polls) apart = inl (
    record {
      asked = asked;
      rest = mid;
      fewer = less;
      leads = hears_then seen (heard_of seen conn a) (heard_of seen conn ready) (heard_of seen conn asked) [] [] h hears;
      asks = (ready, r, starts);
      polls = polls;
      apart = apart;
    },
    refl,
  )

  pub polled_on : (o : BesideSeen) (left now : ℕ) (a b : HearingOf C S A) (answer : Poll Turn) → OnConn seen conn (λ c d. PollsWithin left c d answer) a b → TurnsOpen answer → Queries seen conn with_conn filling o left now None None a b answer
  polled_on o left now a b answer polls apart = inl (
    record {
      asked = a;
      rest = left;
      fewer = omega arith;
      leads = hears_nothing seen (heard_of seen conn a) (heard_of seen conn a) refl;
      asks = refl;
      polls = polls;
      apart = apart;
    },
    refl,
  )
  -- ---- it goes on

module _ {C S A : Type 0} (seen : A → LinkSeen) (conn : C → ConnOf A) (with_conn : C → ConnOf A → C) (written : (c : C) (w : ConnOf A) → conn (with_conn c w) ≡ w) where
  asked_calls : (kind : Kind) (request : Option Request) (a asked : HearingOf C S A) → (kind ≡ kinds.Clear → ⊥) → IsQuerying conn kind request a → IsAskedOn seen conn with_conn request a asked → CallsOn conn kind asked.listening.conn
  asked_calls kind None a asked other i is = subst (λ (x : HearingOf C S A). CallsOn conn kind x.listening.conn) (sym is) i
  asked_calls kind (Some r) a asked other i is = starts_kind conn with_conn written r _ _ kind other i is.2

module _ {C S A : Type 0} (conn : C → ConnOf A) where
  goes_on : (kind : Kind) (b : HearingOf C S A) (answer : Poll Turn) → FitsOn conn kind b.listening.conn answer → QueriesOn conn kind None b answer
  goes_on kind b answer f = by b.listening.conn refl answer f
    where
      by : (o : Option C) → b.listening.conn ≡ o → (answer : Poll Turn) → FitsOn conn kind o answer → QueriesOn conn kind None b answer
      by o is (Ready (turns.Err e)) f = tt
      by o is (Ready (turns.Ok told)) f = (refl, subst (λ (x : Option C). FitsOn conn kind x (Ready (turns.Ok told))) (sym is) f)
      by o is (Ready (turns.Item told)) f = (refl, subst (λ (x : Option C). FitsOn conn kind x (Ready (turns.Item told))) (sym is) f)
      by o is (Ready (turns.Opened told)) f = (refl, subst (λ (x : Option C). FitsOn conn kind x (Ready (turns.Opened told))) (sym is) f)
      by None is Pending f = absurd f
      by (Some c) is Pending f = subst (λ (x : Option C). CallsOn conn kind x) (sym is) f

module _ {C S A : Type 0} (seen : A → LinkSeen) (conn : C → ConnOf A) (with_conn : C → ConnOf A → C) (filling : S → FillingOf A) where
  unasked_on : (o : BesideSeen) (left now : ℕ) (kind : Kind) (request : Option Request) (a b : HearingOf C S A) (answer : Poll Turn) → IsSome request → IsQuerying conn kind request a → Unasked seen conn with_conn filling o left now a b answer → QueriesOn conn kind (rest_of answer request) b answer
  unasked_on o left now kind None a b answer some i u = absurd cc
  unasked_on o left now kind (Some r) a b Pending some i u = i
  unasked_on o left now kind (Some r) a b (Ready (turns.Err e)) some i u = tt
  unasked_on o left now kind (Some r) a b (Ready (turns.Ok x)) some i u = absurd u
  unasked_on o left now kind (Some r) a b (Ready (turns.Item x)) some i u = absurd u
  unasked_on o left now kind (Some r) a b (Ready (turns.Opened x)) some i u = absurd u

module _ {C S A : Type 0} (seen : A → LinkSeen) (conn : C → ConnOf A) (with_conn : C → ConnOf A → C) (filling : S → FillingOf A) (written : (c : C) (w : ConnOf A) → conn (with_conn c w) ≡ w) where
  -- a call of any kind but one that clears statements is of its kind on
  pub queries_on : (o : BesideSeen) (left now : ℕ) (kind : Kind) (request rest : Option Request) (a b : HearingOf C S A) (answer : Poll Turn) → (kind ≡ kinds.Clear → ⊥) → IsQuerying conn kind request a → Queries seen conn with_conn filling o left now request rest a b answer
      → QueriesOn conn kind rest b answer
  queries_on o left now kind request rest a b answer other i (inl (asked, none)) =
      let calls = asked_calls seen conn with_conn written kind request a asked.asked other i asked.asks in
      subst (λ (x : Option Request). QueriesOn conn kind x b answer) (sym none) (goes_on conn kind b answer (fits_on seen conn asked.rest kind _ _ answer calls asked.polls))
  queries_on o left now kind request rest a b answer other i (inr (some, unasked, is)) = subst (λ (x : Option Request). QueriesOn conn kind x b answer) (sym is) (unasked_on seen conn with_conn filling o left now kind request a b answer some i unasked)
  -- ---- a pool that was closed

pub notes_apart : (A : Type 0) (most : ℕ) (t : SeatSeen) (answer : Poll Turn) → TurnsOpen answer → NotesTurn A most t answer
notes_apart A most t (Ready (turns.Err e)) apart = notes_open A most t e apart
notes_apart A most t (Ready (turns.Ok x)) apart = tt
notes_apart A most t (Ready (turns.Item x)) apart = tt
notes_apart A most t (Ready (turns.Opened x)) apart = tt
notes_apart A most t Pending apart = tt

module _ {C S A : Type 0} (seen : A → LinkSeen) (conn : C → ConnOf A) (with_conn : C → ConnOf A → C) (filling : S → FillingOf A) where
  pub notes_failed : (o : BesideSeen) (left now : ℕ) (a b : HearingOf C S A) (e : Error) → Fails seen conn with_conn filling o left now a b e → NotesTurn A o.most o.seat (Ready (turns.Err e))
  notes_failed o left now a b e f = notes_caused seen conn with_conn filling {X = Unit {0}} o left now a b (Ready (Err e)) f
  -- ---- its answer

module _ {C A : Type 0} (conn : C → ConnOf A) where
  held_fits : (kind : Kind) (turn : Turn) (o : Option C) → FitsOn conn kind o (Ready turn) → TurnFits kind turn
  held_fits kind turn None f = absurd f
  held_fits kind turn (Some c) f = f.0

module _ {C S A : Type 0} (conn : C → ConnOf A) where
  pub query_fits : (kind : Kind) (rest : Option Request) (b : HearingOf C S A) (turn : Turn) → QueriesOn conn kind rest b (Ready turn) → TurnFits kind turn
  query_fits kind rest b (turns.Err e) q = tt
  query_fits kind rest b (turns.Ok x) q = held_fits conn kind (turns.Ok x) b.listening.conn q.1
  query_fits kind rest b (turns.Item x) q = held_fits conn kind (turns.Item x) b.listening.conn q.1
  query_fits kind rest b (turns.Opened x) q = held_fits conn kind (turns.Opened x) b.listening.conn q.1

pub runs_none_cleared : (how : How) → kinds.Run how ≡ kinds.Clear → ⊥
runs_none_cleared how e = absurd cc
