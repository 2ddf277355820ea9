-- What the two calls of a description come to.
use Rattle.std.proofs.Common.{◌≡◌, ◌≤◌, inl, ℕ, [], refl, sym, subst, Option, None, Result, Ok, Err}
use Rattle.futures.specs.declared.task.Poll.{Poll}
use Rattle.futures.specs.declared.task.Poll.TheVariants.{Ready, Pending}
use Rattle.pg_wire.specs.declared.error.Error.{Error}
use Rattle.pg_wire.specs.declared.error.Error.TheVariants as errors
use Rattle.pg_stream.specs.Links.{LinkSeen}
use Rattle.pg_call.specs.declared.answer.Turn.{Turn}
use Rattle.pg_call.specs.declared.kind.How.TheVariants as hows
use Rattle.pg_call.specs.declared.kind.Kind.TheVariants as kinds
use Rattle.pg_call.specs.declared.request.Request.{Request}
use Rattle.pg_conn.specs.declared.statement.PgStatement.{PgStatement}
use Rattle.pg_pool.specs.Seats.{SeatSeen}
use Rattle.pg_learning.specs.declared.learnt.Learnt.{Learnt}
use Rattle.pg_describe.specs.Describing.{FitsNulls, HearsTurn, TellsTurn}
use Rattle.pg_describe.specs.declared.description.Describe.{Describe}
use Rattle.pg_listen.specs.Handed.{FillingOf}
use Rattle.pg_listening.specs.Failing.{BesideSeen}
use Rattle.pg_listening.specs.Sources.{SourceSeen}
use Rattle.pg_listening.specs.Hearing.{HearingOf, learnt_of}
use Rattle.pg_listening.specs.Leaving.{NotesClosed}
use Rattle.pg_listening.specs.Querying.{NotesTurn, Queries, QueriesOn}
use Rattle.pg_listening.specs.Waiting.{NotesBy}
use Rattle.pg_listening.proofs.QueryingLaws.{query_fits}
use Rattle.pg_listening.specs.Describing.{GoesOn, PollsPrepare, PreparesIn, QueriesFrom, StaysDescribing}
use Rattle.pg_listening.specs.Listeners.{ListenerOf}
use Rattle.pg_conn.specs.Connections.{ConnOf}

pub prepares_none_cleared : kinds.Prepare ≡ kinds.Clear → ⊥
prepares_none_cleared e = absurd cc

-- ---- the query on nulls

module _ {C S A : Type 0} (conn : C → ConnOf A) where
  pub nulls_fit : (request : Option Request) (h : HearingOf C S A) (answer : Poll Turn) → QueriesOn conn (kinds.Run hows.FetchAll) request h answer → FitsNulls answer
  nulls_fit request h Pending q = tt
  nulls_fit request h (Ready turn) q = query_fits conn (kinds.Run hows.FetchAll) request h turn q

  pub nulls_stay : (p : PgStatement) (request : Option Request) (h : HearingOf C S A) (turn : Poll Turn) (answer : Poll (Result Describe Error)) (told : Option PgStatement) → QueriesOn conn (kinds.Run hows.FetchAll) request h turn → HearsTurn p turn answer told → StaysDescribing conn told request h answer
  nulls_stay p request h turn answer told q (Pending, is, (waits, kept)) =
      let on = subst (λ (t : Poll Turn). QueriesOn conn (kinds.Run hows.FetchAll) request h t) is q in
      subst (λ (x : Poll (Result Describe Error)). StaysDescribing conn told request h x) (sym waits) (subst (λ (t : Option PgStatement). StaysDescribing {X = Result Describe Error} conn t request h Pending) (sym kept) on)
  nulls_stay p request h turn answer told q (Ready (Err e), is, (ends, none)) = subst (λ (x : Poll (Result Describe Error)). StaysDescribing conn told request h x) (sym ends) tt
  nulls_stay p request h turn answer told q (Ready (Ok rows), is, (none, (d, ends, tells))) = subst (λ (x : Poll (Result Describe Error)). StaysDescribing conn told request h x) (sym ends) tt

module _ {C S A : Type 0} (seen : A → LinkSeen) (conn : C → ConnOf A) (with_conn : C → ConnOf A → C) (filling : S → FillingOf A) where
  -- nothing is asked where there is no column
  pub tells_at_once : {B : Type 0} (of : B → SourceSeen) (left now : ℕ) (p : PgStatement) (rest : Option Request) (a : ListenerOf B C S A) (told : Option PgStatement) (d : Describe) → rest ≡ None → told ≡ None → p.columns ≡ []
      → d.statement ≡ p → d.nullable.items ≡ [] → GoesOn seen conn with_conn filling of left now p rest a a (Ready (Ok d)) told
  tells_at_once of left now p rest a told d none nobody empty tells flags = inl (refl, none, inl (empty, nobody, (d, refl, tells, flags)))
  -- ---- a pool that was closed

-- where a statement is told, the error is the turn's, or want of memory
pub notes_told : (A : Type 0) (most : ℕ) (s : SeatSeen) (learnt : Learnt) (turn : Turn) (answer : Result PgStatement Error) → TellsTurn learnt turn answer → NotesTurn A most s (Ready turn) → NotesBy A most s (Ready answer)
notes_told A most s learnt turn (Ok p) t n = tt
notes_told A most s learnt turn (Err e) (Ok p, is, wanting) n = subst (λ (x : Error). NotesClosed A most s x) (sym wanting) tt
notes_told A most s learnt turn (Err e) (Err f, is, same) n =
    subst (λ (r : Result PgStatement Error). NotesBy A most s (Ready r)) (sym same) (subst (λ (t : Turn). NotesTurn A most s (Ready t)) is n)

-- no row without a truth value is told as a closed pool
pub notes_heard : (A : Type 0) (most : ℕ) (s : SeatSeen) (p : PgStatement) (turn : Poll Turn) (answer : Poll (Result Describe Error)) (told : Option PgStatement) → HearsTurn p turn answer told → NotesTurn A most s turn → NotesBy A most s answer
notes_heard A most s p turn answer told (Pending, is, (waits, kept)) n = subst (λ (x : Poll (Result Describe Error)). NotesBy A most s x) (sym waits) tt
notes_heard A most s p turn answer told (Ready (Err e), is, (ends, none)) n =
    subst (λ (x : Poll (Result Describe Error)). NotesBy A most s x) (sym ends) (subst (λ (t : Poll Turn). NotesTurn A most s t) is n)
notes_heard A most s p turn answer told (Ready (Ok rows), is, (none, (Ok d, ends, tells))) n = subst (λ (x : Poll (Result Describe Error)). NotesBy A most s x) (sym ends) tt
notes_heard A most s p turn answer told (Ready (Ok rows), is, (none, (Err (errors.PoolClosed place), ends, tells))) n = absurd tells
notes_heard A most s p turn answer told (Ready (Ok rows), is, (none, (Err _, ends, tells))) n = subst (λ (x : Poll (Result Describe Error)). NotesBy A most s x) (sym ends) tt

-- ---- the preparation

module _ {C S A : Type 0} (seen : A → LinkSeen) (conn : C → ConnOf A) (with_conn : C → ConnOf A → C) (filling : S → FillingOf A) where
  pub prepares_told : (o : BesideSeen) (now : ℕ) (request rest : Option Request) (a b : HearingOf C S A) (turn : Turn) (answer : Result PgStatement Error) → TellsTurn (learnt_of conn b) turn answer → Queries seen conn with_conn filling o 256 now request rest a b (Ready turn)
      → PreparesIn seen conn with_conn filling o request rest a b (Ready answer)
  prepares_told o now request rest a b turn answer (told, is, e) q = (Ready told, e, (now, subst (λ (t : Turn). Queries seen conn with_conn filling o 256 now request rest a b (Ready t)) is q))

  pub prepare_waits : {B : Type 0} (of : B → SourceSeen) (left now : ℕ) (request rest : Option Request) (a b : ListenerOf B C S A) (told : Option PgStatement) → told ≡ None → now ≤ left → QueriesFrom seen conn with_conn filling of left now request rest a b Pending
      → PollsPrepare seen conn with_conn filling of left now request rest a b Pending told
  prepare_waits of left now request rest a b told none fewer q = record { mid = b; fewer = now; asked = rest; turn = Pending; first = Pending; less = fewer; queries = q; tells = refl; goes = (refl, refl, refl, none) }

  pub prepare_fails : {B : Type 0} (of : B → SourceSeen) (left now : ℕ) (request rest : Option Request) (a b : ListenerOf B C S A) (told : Option PgStatement) (turn : Turn) (e : Error) → told ≡ None → now ≤ left → TellsTurn (learnt_of conn b.hearing) turn (Err e)
      → QueriesFrom seen conn with_conn filling of left now request rest a b (Ready turn) → PollsPrepare seen conn with_conn filling of left now request rest a b (Ready (Err e)) told
  prepare_fails of left now request rest a b told turn e none fewer (answered, is, tells) q =
      record { mid = b; fewer = now; asked = rest; turn = Ready answered; first = Ready (Err e); less = fewer; queries = subst (λ (t : Turn). QueriesFrom seen conn with_conn filling of left now request rest a b (Ready t)) is q; tells = tells; goes = (refl, refl, refl, none) }

  pub prepare_goes : {B : Type 0} (of : B → SourceSeen) (left fewer now : ℕ) (request asked rest : Option Request) (a mid b : ListenerOf B C S A) (answer : Poll (Result Describe Error)) (told : Option PgStatement) (turn : Turn) (p : PgStatement) → fewer ≤ left
      → TellsTurn (learnt_of conn mid.hearing) turn (Ok p) → QueriesFrom seen conn with_conn filling of left fewer request asked a mid (Ready turn) → GoesOn seen conn with_conn filling of fewer now p rest mid b answer told → PollsPrepare seen conn with_conn filling of left now request rest a b answer told
  prepare_goes of left fewer now request asked rest a mid b answer told turn p less (answered, is, tells) q goes =
      record { mid = mid; fewer = fewer; asked = asked; turn = Ready answered; first = Ready (Ok p); less = less; queries = subst (λ (t : Turn). QueriesFrom seen conn with_conn filling of left fewer request asked a mid (Ready t)) is q; tells = tells; goes = goes }
