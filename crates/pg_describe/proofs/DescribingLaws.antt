-- What the answer to the query on nulls makes of a description.
use Rattle.std.proofs.Common.{◌≡◌, sym, subst, Option, Some, Ok, Err, Result}
use Rattle.futures.specs.declared.task.Poll.{Poll}
use Rattle.futures.specs.declared.task.Poll.TheVariants.{Ready, Pending}
use Rattle.pg_wire.specs.declared.error.Error.{Error}
use Rattle.pg_stream.specs.Links.{LinkSeen}
use Rattle.pg_call.specs.declared.answer.Turn.{Turn}
use Rattle.pg_call.specs.declared.kind.How.TheVariants as hows
use Rattle.pg_call.specs.declared.kind.Kind.TheVariants as kinds
use Rattle.pg_conn.specs.Connections.{ConnOf, seen_by}
use Rattle.pg_conn.specs.States.{PollFits, PollsPrepare}
use Rattle.pg_conn.specs.Turns.{PollsCall}
use Rattle.pg_conn.specs.declared.statement.PgStatement.{PgStatement}
use Rattle.pg_describe.specs.Describing.{FitsNulls, HearsTurn, StaysDescribing, TellsTurn}
use Rattle.pg_describe.specs.declared.description.Describe.{Describe}

pub fits_nulls : {A : Type 0} (c : ConnOf A) (answer : Poll Turn) → PollFits (kinds.Run hows.FetchAll) c answer → FitsNulls answer
fits_nulls c Pending f = tt
fits_nulls c (Ready turn) f = f.0

-- its call runs on where it waits
pub hears_stays : {A : Type 0} (c : ConnOf A) (p : PgStatement) (turn : Poll Turn) (answer : Poll (Result Describe Error)) (told : Option PgStatement) → PollFits (kinds.Run hows.FetchAll) c turn → HearsTurn p turn answer told → StaysDescribing told c answer
hears_stays c p turn answer told f (Pending, is, (waits, kept)) =
    subst (λ (x : Poll (Result Describe Error)). StaysDescribing told c x) (sym waits) (subst (λ (t : Option PgStatement). StaysDescribing t c Pending) (sym kept) (subst (λ (t : Poll Turn). PollFits (kinds.Run hows.FetchAll) c t) is f))
hears_stays c p turn answer told f (Ready (Err e), is, (ends, none)) = subst (λ (x : Poll (Result Describe Error)). StaysDescribing told c x) (sym ends) tt
hears_stays c p turn answer told f (Ready (Ok rows), is, (none, (d, ends, tells))) = subst (λ (x : Poll (Result Describe Error)). StaysDescribing told c x) (sym ends) tt

-- the preparation has told the statement
pub prepares_told : {A : Type 0} (seen : A → LinkSeen) (a b : ConnOf A) (turn : Turn) (answer : Result PgStatement Error) → TellsTurn b.learnt turn answer → PollsCall (seen_by seen a) (seen_by seen b) (Ready turn) → PollsPrepare (seen_by seen a) (seen_by seen b) (Ready answer)
prepares_told seen a b turn answer (told, is, tells) polls = (Ready told, tells, subst (λ (t : Turn). PollsCall (seen_by seen a) (seen_by seen b) (Ready t)) is polls)
