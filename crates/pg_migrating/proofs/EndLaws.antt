-- What is read of the answers.
use Rattle.std.proofs.Common.{inl, inr, Result, Ok, Err}
use Rattle.futures.specs.declared.task.Poll.TheVariants.{Ready}
use Rattle.pg_wire.specs.declared.error.Error.{Error}
use Rattle.pg_stream.specs.Links.{LinkSeen}
use Rattle.pg_call.specs.declared.answer.CallAnswer.{CallAnswer}
use Rattle.pg_call.specs.declared.answer.Turn.{Turn}
use Rattle.pg_call.specs.declared.answer.Turn.TheVariants as turns
use Rattle.pg_migrating.specs.Databases.{EndsBy, TellsBy}
use Rattle.pg_migrating.specs.Sessions.{Opening, SessionSeen, Tells}
use Rattle.pg_migrating.specs.declared.errand.Errand.{Errand}

pub tells_by : {D S A X : Type 0} (reads : CallAnswer → X → Type 0) (misreads : CallAnswer → Error → Type 0) (seen : A → LinkSeen) (o : Opening D S A) (asked : Result Errand Error) (first : D) (s t : SessionSeen S A) (e : D) (turn : Turn) (result : Result X Error)
    → EndsBy reads misreads turn result → Tells seen o asked first s e (Ready turn) → TellsBy reads misreads seen o asked first t e (Ready result)
tells_by reads misreads seen o asked first s t e (turns.Item item) result h k = absurd h
tells_by reads misreads seen o asked first s t e (turns.Opened opened) result h k = absurd h
tells_by reads misreads seen o asked first s t e (turns.Ok answer) (Ok x) h k = (answer, k.0, k.2, h)
tells_by reads misreads seen o asked first s t e (turns.Ok answer) (Err error) h k = inr (inr (answer, k.0, k.2, h))
tells_by reads misreads seen o asked first s t e (turns.Err error) (Ok x) h k = absurd h
tells_by reads misreads seen o asked first s t e (turns.Err error) (Err other) h (inl k) = inl (rw h k)
tells_by reads misreads seen o asked first s t e (turns.Err error) (Err other) h (inr k) = inr (inl (rw h k))
